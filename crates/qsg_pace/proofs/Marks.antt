-- each mark that comes off leaves one fewer
use Rattle.std.proofs.Common.{◌≡◌, ℕ, ◌+◌, List, length, drop, Some, sym, arith, true, true≢false}
use Rattle.std.specs.Prelude.{slice_get}
use Rattle.std.proofs.lemmas.List.{length-drop}
use Rattle.std.proofs.lemmas.Option.{none-some}
use Rattle.qsg_group.specs.declared.tasks.Claim.{Claim}
use Rattle.qsg_group.specs.declared.tasks.Stage.{Stage}
use Rattle.qsg_group.specs.declared.tasks.Stage.TheVariants.{Open, Hardening, Committed, BackedOut}
use Rattle.qsg_group.specs.Observers.{left_by, is_hardening}
use Rattle.qsg_manager.specs.Settles.{next_by, further}
use Rattle.qsg_manager.specs.Units.{safe_stage}
use Rattle.qsg_pace.proofs.Sums.{get_short}

drop_more : {X : Type 0} (xs : List X) (n : ℕ) (x : X) → slice_get xs n ≡ Some x → length (drop (n + 1) xs) + 1 ≡ length (drop n xs)
drop_more xs n x is = omega (arith, get_short xs n x is, length-drop n xs, length-drop (n + 1) xs)

-- the claim that is settled next is one of those that are left
pub mark_less : (stage : Stage) (claims : List Claim) (c : Claim) → next_by stage claims ≡ Some c → length (left_by (further stage) claims) + 1 ≡ length (left_by stage claims)
mark_less Open claims c is = absurd (none-some c is)
mark_less (Hardening first) claims c is = absurd (none-some c is)
mark_less (Committed first n) claims c is = drop_more claims n c is
mark_less (BackedOut n) claims c is = drop_more claims n c is

-- ---- a unit that is decided has all its marks left

pub all_left : (claims : List Claim) → length (drop 0 claims) ≡ length claims
all_left claims = omega (arith, length-drop 0 claims)

pub hardened_left : (stage : Stage) (claims : List Claim) → is_hardening stage ≡ true → length (left_by (safe_stage stage) claims) ≡ length (left_by stage claims)
hardened_left Open claims hardens = absurd (true≢false (sym hardens))
hardened_left (Hardening first) claims hardens = all_left claims
hardened_left (Committed first n) claims hardens = absurd (true≢false (sym hardens))
hardened_left (BackedOut n) claims hardens = absurd (true≢false (sym hardens))
