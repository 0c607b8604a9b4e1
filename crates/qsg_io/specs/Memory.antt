-- what contracts see of a source and a sink in memory, and which of their calls fail
use Rattle.std.specs.Prelude.{ℕ, ◌+◌, ◌-◌, ◌^◌, min, nat_eq, nat_lt, nat_le, Bool, ◌&&◌, ◌||◌, List, length}
use Rattle.std.specs.List.{list_any}

-- the bytes that are left, the numbers of the calls that fail, the number of calls so far, and of those that failed
pub record SourceState : Type 0 where
  pub left : List ℕ
  pub failing : List ℕ
  pub calls : ℕ
  pub faults : ℕ

-- the bytes written, and how many there may be
pub record SinkState : Type 0 where
  pub written : List ℕ
  pub room : ℕ
  pub failing : List ℕ
  pub calls : ℕ
  pub faults : ℕ

-- the last number that a call has; the count stays there
abbrev pub last_call : ℕ
last_call = 2 ^ 32 - 1

-- the number of calls after one more
abbrev pub next_call : ℕ → ℕ
next_call calls = min (calls + 1) last_call

-- whether the call after so many is listed; none is once the count stands at its end
abbrev pub is_listed : List ℕ → ℕ → Bool
is_listed failing calls = nat_lt calls last_call && list_any (λ n. nat_eq n (calls + 1)) failing

-- whether the next write of so many bytes fails: it is listed, or it has bytes and there is no room
abbrev pub is_refused : SinkState → ℕ → Bool
is_refused s count = is_listed s.failing s.calls || (nat_le s.room (length s.written) && nat_lt 0 count)
