-- where a body goes
use Rattle.std.specs.Prelude.{ℕ, ◌*◌, Bool, nat_lt, nat_le, not, ◌&&◌, ◌==◌, if◌then◌else◌, slice_index}
use Rattle.qsg_num.specs.declared.words.Rules.{Rules}
use Rattle.qsg_offload.specs.declared.rule.Placed.{Placed}
use Rattle.qsg_offload.specs.declared.rule.Placed.TheVariants.{Inside, Always, Rule1, Rule2, Rule3}

-- a rule fires for a body longer than its size, once the structure is as full as its threshold says; a size
-- of 64 switches it off
abbrev pub fires : (length used capacity threshold size_k : ℕ) → Bool
fires length used capacity threshold size_k =
    not (size_k == 64) && nat_le (threshold * capacity) (used * 100) && nat_lt (size_k * 1024) length

-- whether the rule at k, from 0, fires
abbrev pub fires_at : ℕ → (length used capacity : ℕ) → Rules → Bool
fires_at k length used capacity rules = fires length used capacity (slice_index rules.threshold k) (slice_index rules.size_k k)

-- a body longer than 64,512 bytes always goes outside; else the first rule that fires says so
abbrev pub placed : (length used capacity : ℕ) → Rules → Placed
placed length used capacity rules =
    if nat_lt 64512 length then Always
    else if fires_at 0 length used capacity rules then Rule1
    else if fires_at 1 length used capacity rules then Rule2
    else if fires_at 2 length used capacity rules then Rule3
    else Inside
