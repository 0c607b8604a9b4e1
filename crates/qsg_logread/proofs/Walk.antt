-- reading the pages of a log
use Rattle.std.proofs.Common.{◌≡◌, ◌≢◌, ◌⊎◌, inl, inr, ℕ, zero, suc, ◌+◌, ◌/◌, ◌<◌, ◌≤◌, List, [], ◌∷◌, map, Option, None, Some, Bool, true, false, cond, not, refl, sym, ap, subst, ◌∙◌, arith}
use Rattle.std.specs.Prelude.{◌==◌, ◌&&◌}
use Rattle.std.proofs.lemmas.Bool.{cases_lt}
use Rattle.std.proofs.lemmas.Bool.Decides.{nat_tests}
use Rattle.qsg_disk.specs.Byte.{Byte, values, safe_byte}
use Rattle.qsg_logpage.specs.Page.{page_at, lap_of, page_read, open_pages, log_pages, IsWhole, IsStanding, IsAbsent}
use Rattle.qsg_logpage.specs.Log.{Hand, LogState, AtNext, IsTied}
use Rattle.qsg_logpage.proofs.Cuts.{open_here, shut_here, whole_open, whole_body, absent_shut, values-safe}
use Rattle.qsg_logread.specs.Logs.{pages_read}

both_true : (a b : Bool) → a ≡ true → b ≡ true → (a && b) ≡ true
both_true a b one other = ap (λ (x : Bool). x && b) one ∙ other

and_false : (a b : Bool) → b ≡ false → (a && b) ≡ false
and_false true b is = is
and_false false b is = refl

gate_open : (gate : ℕ) → gate ≢ 0 → not (gate == 0) ≡ true
gate_open gate other = grind (arith, nat_tests)

same_lap : (a b : ℕ) → a ≡ b → (a == b) ≡ true
same_lap a b is = grind (arith, nat_tests)

apart_lap : (a b : ℕ) → a ≢ b → (a == b) ≡ false
apart_lap a b apart = grind (arith, nat_tests)

read_whole : (lap : ℕ) (body : List ℕ) (page : List Byte) → IsWhole lap body page → page_read lap (values page) ≡ Some body
read_whole lap body page w =
    ap (λ (p : List Byte). page_read lap (values p)) w.bytes
    ∙ ap (page_read lap) (values-safe (w.gate ∷ body))
    ∙ ap (λ (b : Bool). cond b (Some body) None) (both_true (not (w.gate == 0)) (lap_of body == lap) (gate_open w.gate w.open_gate) (same_lap (lap_of body) lap w.has_lap))

read_absent : (lap : ℕ) (page : List Byte) → IsAbsent lap page → page_read lap (values page) ≡ None
read_absent lap page (inl shut) = ap (λ (p : List Byte). page_read lap (values p)) shut.closed
read_absent lap page (inr other) =
    let o = other.1 in
    ap (λ (p : List Byte). page_read lap (values p)) o.bytes
    ∙ ap (λ (l : List ℕ). page_read lap (o.gate.value ∷ l)) (values-safe o.body)
    ∙ ap (λ (b : Bool). cond b (Some o.body) None) (and_false (not (o.gate.value == 0)) (lap_of o.body == lap) (apart_lap (lap_of o.body) lap o.other_lap))

abbrev Next : List Byte → ℕ → ℕ → ℕ → Option (List ℕ) → List (List ℕ)
Next bytes size first count found = elim found [ None ↦ [] | Some body ↦ body ∷ pages_read bytes size (first + 1) count ]

walk : (size : ℕ) (bytes : List Byte) (first count : ℕ) → ((k : ℕ) → first ≤ k → k < first + count → IsStanding (k / size) (page_at bytes size k) ⊎ IsAbsent (k / size) (page_at bytes size k))
    → pages_read bytes size first count ≡ open_pages bytes size first count
walk size bytes first zero each = refl
walk size bytes first (suc count) each = by (walk size bytes (first + 1) count (λ k from to. each k (omega arith) (omega arith))) (each first (omega arith) (omega arith))
  where
    by : pages_read bytes size (first + 1) count ≡ open_pages bytes size (first + 1) count → IsStanding (first / size) (page_at bytes size first) ⊎ IsAbsent (first / size) (page_at bytes size first)
        → pages_read bytes size first (suc count) ≡ open_pages bytes size first (suc count)
    by more (inl standing) =
        let w = standing.whole in
        ap (Next bytes size first count) (read_whole (first / size) standing.body (page_at bytes size first) w)
        ∙ (λ i. sym (whole_body (first / size) standing.body (page_at bytes size first) w) i ∷ more i)
        ∙ sym (open_here size bytes first count (whole_open (first / size) standing.body (page_at bytes size first) w))
    by more (inr absent) =
        ap (Next bytes size first count) (read_absent (first / size) (page_at bytes size first) absent)
        ∙ sym (shut_here size bytes first (suc count) (absent_shut (first / size) (page_at bytes size first) absent))

pub walk_is : (keep : ℕ) (log : LogState) (bytes : List Byte) → log.hand ≡ None → IsTied keep log bytes → pages_read bytes log.size keep log.size ≡ log_pages bytes log.size keep
walk_is keep log bytes idle tied = walk log.size bytes keep log.size at
  where
    absent : IsAbsent (log.next / log.size) (page_at bytes log.size log.next)
    absent = subst (λ (h : Option Hand). AtNext (log.next / log.size) h (page_at bytes log.size log.next)) idle tied.at_next

    at : (k : ℕ) → keep ≤ k → k < keep + log.size → IsStanding (k / log.size) (page_at bytes log.size k) ⊎ IsAbsent (k / log.size) (page_at bytes log.size k)
    at k above below = elim (cases_lt k log.next) [
      | inl less ↦ inl (tied.stands k above less)
      | inr over ↦ elim (cases_lt log.next k) [
        | inl more ↦ inr (tied.later k more (omega (arith, tied.from)))
        | inr less ↦ inr (subst (λ (n : ℕ). IsAbsent (n / log.size) (page_at bytes log.size n)) (omega arith) absent)
      ]
    ]
