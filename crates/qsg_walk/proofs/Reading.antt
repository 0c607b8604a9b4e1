-- the pages that reading gives, one more and all
use Rattle.std.proofs.Common.{◌≡◌, ◌≢◌, ◌⊎◌, inl, inr, ℕ, zero, suc, ◌+◌, ◌-◌, ◌/◌, ◌<◌, ◌≤◌, List, [], ◌∷◌, ◌++◌, length, Option, None, Some, Bool, true, false, cond, not, refl, sym, ap, subst, ◌∙◌, arith}
use Rattle.std.specs.Prelude.{◌==◌, ◌&&◌}
use Rattle.std.proofs.lemmas.Bool.{cases_lt}
use Rattle.std.proofs.lemmas.Bool.Decides.{nat_tests}
use Rattle.qsg_disk.specs.Byte.{Byte, values}
use Rattle.qsg_logpage.specs.Page.{page_at, page_read, open_pages, lap_of, IsWhole, IsStanding, IsAbsent}
use Rattle.qsg_logpage.specs.Log.{Hand, LogState, AtNext, IsTied, pages_written}
use Rattle.qsg_logpage.proofs.Cuts.{open_here, whole_body, all_open, whole_open, values-safe}
use Rattle.qsg_logread.specs.Logs.{pages_read}
use Rattle.qsg_walk.specs.Following.{read_at}

abbrev pub Next : List Byte → ℕ → ℕ → ℕ → Option (List ℕ) → List (List ℕ)
Next bytes size first count found = elim found [ None ↦ [] | Some body ↦ body ∷ pages_read bytes size (first + 1) count ]

-- the first of the pages that were read, and the others
first_is : (bytes : List Byte) (size first count : ℕ) (x : List ℕ) (xs : List (List ℕ)) (found : Option (List ℕ)) → Next bytes size first count found ≡ x ∷ xs → found ≡ Some x
first_is bytes size first count x xs None is = absurd (cc is)
first_is bytes size first count x xs (Some y) is = cc is

others_are : (bytes : List Byte) (size first count : ℕ) (x : List ℕ) (xs : List (List ℕ)) (found : Option (List ℕ)) → Next bytes size first count found ≡ x ∷ xs → pages_read bytes size (first + 1) count ≡ xs
others_are bytes size first count x xs None is = absurd (cc is)
others_are bytes size first count x xs (Some y) is = cc is

further : (bytes : List Byte) (size first n : ℕ) (found : Option (List ℕ)) → read_at bytes size (first + suc n) ≡ found → read_at bytes size (first + 1 + n) ≡ found
further bytes size first n found is = ap (read_at bytes size) (omega arith) ∙ is

here : (bytes : List Byte) (size first : ℕ) (found : Option (List ℕ)) → read_at bytes size (first + 0) ≡ found → read_at bytes size first ≡ found
here bytes size first found is = ap (read_at bytes size) (omega arith) ∙ is

pub read_more : (bytes : List Byte) (size first : ℕ) (all : List (List ℕ)) (body : List ℕ) → pages_read bytes size first (length all) ≡ all → read_at bytes size (first + length all) ≡ Some body
    → pages_read bytes size first (suc (length all)) ≡ all ++ body ∷ []
read_more bytes size first [] body read more = ap (Next bytes size first 0) (here bytes size first (Some body) more)
read_more bytes size first (x ∷ all) body read more =
    ap (Next bytes size first (suc (length all))) (first_is bytes size first (length all) x all (read_at bytes size first) read)
    ∙ ap (λ (l : List (List ℕ)). x ∷ l)
    (read_more bytes size (first + 1) all body (others_are bytes size first (length all) x all (read_at bytes size first) read) (further bytes size first (length all) (Some body) more))

-- where no page stands behind them, or so many were read, these are all
pub read_all : (bytes : List Byte) (size first count : ℕ) (all : List (List ℕ)) → pages_read bytes size first (length all) ≡ all → length all ≤ count → (length all ≡ count) ⊎ (read_at bytes size (first + length all) ≡ None)
    → pages_read bytes size first count ≡ all
read_all bytes size first zero [] read few stops = refl
read_all bytes size first zero (x ∷ all) read few stops = absurd (omega (arith, few))
read_all bytes size first (suc count) [] read few (inl same) = absurd (omega (arith, same))
read_all bytes size first (suc count) [] read few (inr none) = ap (Next bytes size first count) (here bytes size first None none)
read_all bytes size first (suc count) (x ∷ all) read few stops =
    ap (Next bytes size first count) (first_is bytes size first (length all) x all (read_at bytes size first) read)
    ∙ ap (λ (l : List (List ℕ)). x ∷ l)
    (read_all bytes size (first + 1) count all (others_are bytes size first (length all) x all (read_at bytes size first) read) (omega (arith, few)) (later stops))
  where
    later : (suc (length all) ≡ suc count) ⊎ (read_at bytes size (first + suc (length all)) ≡ None) → (length all ≡ count) ⊎ (read_at bytes size (first + 1 + length all) ≡ None)
    later (inl same) = inl (omega (arith, same))
    later (inr none) = inr (further bytes size first (length all) None none)

-- reading looks at values alone
pub read_same : (old new : List Byte) (size first count : ℕ) → ((k : ℕ) → first ≤ k → k < first + count → values (page_at new size k) ≡ values (page_at old size k)) → pages_read new size first count ≡ pages_read old size first count
read_same old new size first zero same = refl
read_same old new size first (suc count) same = by (page_read (first / size) (values (page_at old size first)))
    (read_same old new size (first + 1) count (λ k from to. same k (omega arith) (omega arith)))
    (ap (page_read (first / size)) (same first (omega arith) (omega arith)))
  where
    by : (found : Option (List ℕ)) → pages_read new size (first + 1) count ≡ pages_read old size (first + 1) count → page_read (first / size) (values (page_at new size first)) ≡ found
        → Next new size first count (page_read (first / size) (values (page_at new size first))) ≡ Next old size first count found
    by None more is = ap (Next new size first count) is
    by (Some body) more is = ap (Next new size first count) is ∙ ap (λ (l : List (List ℕ)). body ∷ l) more

-- ---- pages that aren't written

and_false : (a b : Bool) → b ≡ false → (a && b) ≡ false
and_false true b is = is
and_false false b is = refl

apart_lap : (a b : ℕ) → a ≢ b → (a == b) ≡ false
apart_lap a b apart = grind (arith, nat_tests)

pub read_absent : (lap : ℕ) (page : List Byte) → IsAbsent lap page → page_read lap (values page) ≡ None
read_absent lap page (inl shut) = ap (λ (p : List Byte). page_read lap (values p)) shut.closed
read_absent lap page (inr other) =
    let o = other.1 in
    ap (λ (p : List Byte). page_read lap (values p)) o.bytes
    ∙ ap (λ (l : List ℕ). page_read lap (o.gate.value ∷ l)) (values-safe o.body)
    ∙ ap (λ (b : Bool). cond b (Some o.body) None) (and_false (not (o.gate.value == 0)) (lap_of o.body == lap) (apart_lap (lap_of o.body) lap o.other_lap))

at_next : (first : ℕ) (log : LogState) (bytes : List Byte) → log.hand ≡ None → IsTied first log bytes → IsAbsent (log.next / log.size) (page_at bytes log.size log.next)
at_next first log bytes idle tied = subst (λ (h : Option Hand). AtNext (log.next / log.size) h (page_at bytes log.size log.next)) idle tied.at_next

-- none is read at the next place, where no run is in hand
pub none_at_next : (first : ℕ) (log : LogState) (bytes : List Byte) → log.hand ≡ None → IsTied first log bytes → read_at bytes log.size log.next ≡ None
none_at_next first log bytes idle tied = read_absent (log.next / log.size) (page_at bytes log.size log.next) (at_next first log bytes idle tied)

-- no page is read from there on
pub none_behind : (first : ℕ) (log : LogState) (bytes : List Byte) → read_at bytes log.size log.next ≡ None → IsTied first log bytes → (k : ℕ) → log.next ≤ k → k < log.next + log.size → read_at bytes log.size k ≡ None
none_behind first log bytes none tied k from to = elim (cases_lt log.next k) [
  | inl more ↦ read_absent (k / log.size) (page_at bytes log.size k) (tied.later k more to)
  | inr less ↦ ap (read_at bytes log.size) (omega (arith, from, less)) ∙ none
]

-- ---- pages that are written

both_true : (a b : Bool) → a ≡ true → b ≡ true → (a && b) ≡ true
both_true a b one other = ap (λ (x : Bool). x && b) one ∙ other

gate_open : (gate : ℕ) → gate ≢ 0 → not (gate == 0) ≡ true
gate_open gate other = grind (arith, nat_tests)

same_lap : (a b : ℕ) → a ≡ b → (a == b) ≡ true
same_lap a b is = grind (arith, nat_tests)

read_whole : (lap : ℕ) (body : List ℕ) (page : List Byte) → IsWhole lap body page → page_read lap (values page) ≡ Some body
read_whole lap body page w =
    ap (λ (p : List Byte). page_read lap (values p)) w.bytes
    ∙ ap (page_read lap) (values-safe (w.gate ∷ body))
    ∙ ap (λ (b : Bool). cond b (Some body) None) (both_true (not (w.gate == 0)) (lap_of body == lap) (gate_open w.gate w.open_gate) (same_lap (lap_of body) lap w.has_lap))

standing_read : (size : ℕ) (bytes : List Byte) (first count : ℕ) → ((k : ℕ) → first ≤ k → k < first + count → IsStanding (k / size) (page_at bytes size k)) → pages_read bytes size first count ≡ open_pages bytes size first count
standing_read size bytes first zero each = refl
standing_read size bytes first (suc count) each =
    let s = each first (omega arith) (omega arith) in
    by (standing_read size bytes (first + 1) count (λ k from to. each k (omega arith) (omega arith))) s.body s.whole
  where
    by : pages_read bytes size (first + 1) count ≡ open_pages bytes size (first + 1) count → (body : List ℕ) → IsWhole (first / size) body (page_at bytes size first) → pages_read bytes size first (suc count) ≡ open_pages bytes size first (suc count)
    by more body w =
        ap (Next bytes size first count) (read_whole (first / size) body (page_at bytes size first) w)
        ∙ (λ i. sym (whole_body (first / size) body (page_at bytes size first) w) i ∷ more i)
        ∙ sym (open_here size bytes first count (whole_open (first / size) body (page_at bytes size first) w))

-- reading gives the pages that were written, where no page is read behind them
pub written_read : (first : ℕ) (log : LogState) (bytes : List Byte) → read_at bytes log.size log.next ≡ None → IsTied first log bytes → pages_read bytes log.size first log.size ≡ pages_written first log bytes
written_read first log bytes none tied =
    read_all bytes log.size first log.size (pages_written first log bytes)
    (ap (pages_read bytes log.size first) long ∙ standing_read log.size bytes first (log.next - first) (λ k above less. tied.stands k above (omega (arith, tied.from, less))))
    (omega (arith, long, tied.room, tied.from))
    (inr (ap (read_at bytes log.size) (omega (arith, long, tied.from)) ∙ none))
  where
    long : length (pages_written first log bytes) ≡ log.next - first
    long = all_open log.size bytes first (log.next - first) (λ k above less. let s = tied.stands k above (omega (arith, tied.from, less)) in whole_open (k / log.size) s.body (page_at bytes log.size k) s.whole)
