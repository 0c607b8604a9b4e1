-- the log of a member in the list of all
use Rattle.std.proofs.Common.{◌≡◌, ℕ, zero, suc, ◌+◌, ◌-◌, ◌<◌, ◌≤◌, List, [], ◌∷◌, length, refl, sym, ap, subst, ◌∙◌, get_or, arith}
use Rattle.std.specs.Prelude.{slice_set}
use Rattle.qsg_num.specs.declared.seats.Member.{Member}
use Rattle.qsg_num.specs.Seats.{member_number}
use Rattle.qsg_logs.specs.Kept.{KeptLog, log_in, no_log}

got_at : (xs : List KeptLog) (k : ℕ) (x d : KeptLog) → k < length xs → x ≡ get_or xs k x → get_or xs k d ≡ x
got_at [] k x d within is = absurd (omega arith)
got_at (y ∷ xs) zero x d within is = sym is
got_at (y ∷ xs) (suc k) x d within is = got_at xs k x d (omega arith) is

set_at : (xs : List KeptLog) (k : ℕ) (x d : KeptLog) → k < length xs → get_or (slice_set xs k x) k d ≡ x
set_at [] k x d within = absurd (omega arith)
set_at (y ∷ xs) zero x d within = refl
set_at (y ∷ xs) (suc k) x d within = set_at xs k x d (omega arith)

-- what holds of the log at a member's place holds of that member's log
pub seen_as : (R : KeptLog → KeptLog → Type 0) (m : Member) (k : ℕ) (xs value : List KeptLog) (x new : KeptLog) → xs ≡ value → k + 1 ≡ member_number m → member_number m ≤ length value → x ≡ get_or xs k x
    → R x new → R (log_in m value) (log_in m (slice_set xs k new))
seen_as R m k xs value x new same place within is holds =
    let here : member_number m - 1 ≡ k = omega (arith, place) in
    let low : k < length xs = omega (arith, ap (λ (l : List KeptLog). length l) same, place, within) in
    let old : log_in m value ≡ x = ap (λ (l : List KeptLog). log_in m l) (sym same) ∙ ap (λ (n : ℕ). get_or xs n no_log) here ∙ got_at xs k x no_log low is in
    let after : log_in m (slice_set xs k new) ≡ new = ap (λ (n : ℕ). get_or (slice_set xs k new) n no_log) here ∙ set_at xs k new no_log low in
    subst (λ (l : KeptLog). R (log_in m value) l) (sym after) (subst (λ (l : KeptLog). R l new) (sym old) holds)
