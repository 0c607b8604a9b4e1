-- what a power cut leaves of a log
use Rattle.std.proofs.Common.{◌≡◌, ◌≢◌, ◌⊎◌, inl, inr, ⊎_elim, ℕ, zero, suc, ◌+◌, ◌-◌, ◌*◌, ◌/◌, ◌%◌, ◌<◌, ◌≤◌, List, [], ◌∷◌, ◌++◌, length, map, Option, Some, None, Bool, true, false, refl, sym, ap, ◌∙◌, subst, arith, cond, length-append}
use Rattle.std.specs.Prelude.{◌==◌, ◌&&◌}
use Rattle.std.specs.List.{AllZip}
use Rattle.std.proofs.lemmas.Bool.{cases_lt, cases_eq}
use Rattle.std.proofs.lemmas.Bool.Decides.{nat_tests}
use Rattle.std.proofs.lemmas.List.{append-nil}
use Rattle.qsg_disk.specs.Byte.{Byte, safe_byte, values, EachPair, IsCut}
use Rattle.qsg_disk.proofs.Parts.{zipped_part, safe_cut, cut_byte}
use Rattle.qsg_logpage.specs.declared.step.Phase.{Phase}
use Rattle.qsg_logpage.specs.declared.step.Phase.TheVariants.{Fresh, GateShut, ShutSafe, BodyWritten, BodySafe, GateWritten}
use Rattle.qsg_logpage.specs.Page.{page_at, lap_of, with_lap, is_open_gate, is_safely_open, body_of, open_pages, log_pages, IsWhole, IsStanding, IsShut, IsOther, IsAbsent}
use Rattle.qsg_logpage.specs.Reserved.{total}
use Rattle.qsg_logpage.specs.Log.{Hand, LogState, first_body, hand_body, InPhase, AtNext, IsTied, IsCutShort}
use Rattle.qsg_logpage.proofs.Rings.{same_position}
use Rattle.qsg_logpage.proofs.Steps.{raw_page, stands_absent}

-- the open pages, by what each page is

module _ (size : ℕ) where
  pub same_pages : (old new : List Byte) (first count : ℕ) → ((k : ℕ) → first ≤ k → k < first + count → page_at new size k ≡ page_at old size k) → open_pages new size first count ≡ open_pages old size first count
  same_pages old new first zero same = refl
  same_pages old new first (suc count) same =
      ap (λ page. cond (is_safely_open (first / size) page) (body_of page ∷ open_pages new size (first + 1) count) []) (same first (omega arith) (omega arith))
      ∙ ap (λ l. cond (is_safely_open (first / size) (page_at old size first)) (body_of (page_at old size first) ∷ l) []) (same_pages old new (first + 1) count (λ k from to. same k (omega arith) (omega arith)))

  pub open_here : (bytes : List Byte) (first count : ℕ) → is_safely_open (first / size) (page_at bytes size first) ≡ true → open_pages bytes size first (suc count) ≡ body_of (page_at bytes size first) ∷ open_pages bytes size (first + 1) count
  open_here bytes first count is = ap (λ b. cond b (body_of (page_at bytes size first) ∷ open_pages bytes size (first + 1) count) []) is

  pub shut_here : (bytes : List Byte) (first count : ℕ) → is_safely_open (first / size) (page_at bytes size first) ≡ false → open_pages bytes size first count ≡ []
  shut_here bytes first zero is = refl
  shut_here bytes first (suc count) is = ap (λ b. cond b (body_of (page_at bytes size first) ∷ open_pages bytes size (first + 1) count) []) is

  pub pages_split : (bytes : List Byte) (first m n : ℕ) → ((k : ℕ) → first ≤ k → k < first + m → is_safely_open (k / size) (page_at bytes size k) ≡ true)
      → open_pages bytes size first (m + n) ≡ open_pages bytes size first m ++ open_pages bytes size (first + m) n
  pages_split bytes first zero n each = λ i. open_pages bytes size (at i) (count i)
    where
      at : first ≡ first + 0
      at = omega arith

      count : 0 + n ≡ n
      count = omega arith
  pages_split bytes first (suc m) n each =
      ap (open_pages bytes size first) count ∙ open_here bytes first (m + n) here ∙ ap (λ l. body_of (page_at bytes size first) ∷ l) (pages_split bytes (first + 1) m n (λ k from to. each k (omega arith) (omega arith)))
      ∙ (λ i. sym (open_here bytes first m here) i ++ open_pages bytes size (at i) n)
    where
      count : suc m + n ≡ suc (m + n)
      count = omega arith

      here : is_safely_open (first / size) (page_at bytes size first) ≡ true
      here = each first (omega arith) (omega arith)

      at : first + 1 + m ≡ first + suc m
      at = omega arith

  pub all_open : (bytes : List Byte) (first m : ℕ) → ((k : ℕ) → first ≤ k → k < first + m → is_safely_open (k / size) (page_at bytes size k) ≡ true) → length (open_pages bytes size first m) ≡ m
  all_open bytes first zero each = refl
  all_open bytes first (suc m) each = ap length (open_here bytes first m (each first (omega arith) (omega arith))) ∙ ap suc (all_open bytes (first + 1) m (λ k from to. each k (omega arith) (omega arith)))

open_gate : (gate : ℕ) → gate ≢ 0 → is_open_gate (Some gate) ≡ true
open_gate gate other = grind (arith, nat_tests)

same_lap : (a b : ℕ) → a ≡ b → (a == b) ≡ true
same_lap a b is = grind (arith, nat_tests)

apart_lap : (a b : ℕ) → a ≢ b → (a == b) ≡ false
apart_lap a b apart = grind (arith, nat_tests)

pub values-safe : (vs : List ℕ) → values (map safe_byte vs) ≡ vs
values-safe [] = refl
values-safe (v ∷ vs) = ap (λ l. v ∷ l) (values-safe vs)

pub whole_open : (lap : ℕ) (body : List ℕ) (page : List Byte) → IsWhole lap body page → is_safely_open lap page ≡ true
whole_open lap body page w =
    ap (is_safely_open lap) w.bytes
    ∙ (λ i. open_gate w.gate w.open_gate i && (lap_of (values-safe body i) == lap))
    ∙ same_lap (lap_of body) lap w.has_lap

and_false : (b : Bool) → b && false ≡ false
and_false true = refl
and_false false = refl

pub absent_shut : (lap : ℕ) (page : List Byte) → IsAbsent lap page → is_safely_open lap page ≡ false
absent_shut lap page (inl shut) = ap (is_safely_open lap) shut.closed
absent_shut lap page (inr other) =
    let o = other.1 in
    ap (is_safely_open lap) o.bytes
    ∙ (λ i. is_open_gate o.gate.safe && (lap_of (values-safe o.body i) == lap))
    ∙ (λ i. is_open_gate o.gate.safe && apart_lap (lap_of o.body) lap o.other_lap i)
    ∙ and_false (is_open_gate o.gate.safe)

pub whole_body : (lap : ℕ) (body : List ℕ) (page : List Byte) → IsWhole lap body page → body_of page ≡ body
whole_body lap body page w = ap body_of w.bytes ∙ values-safe body

-- what a cut leaves of each page

page_cut : (old new : List Byte) (p : ℕ) → EachPair IsCut old new → AllZip IsCut (raw_page old p) (raw_page new p)
page_cut old new p each = zipped_part IsCut old new (4096 * p) 4096 each

standing_cut : (lap : ℕ) (old new : List Byte) → IsStanding lap old → AllZip IsCut old new → new ≡ old
standing_cut lap old new standing each =
    let w = standing.whole in
    safe_cut (w.gate ∷ standing.body) new (subst (λ l. AllZip IsCut l new) w.bytes each) ∙ sym w.bytes

shut_cut : (old new : List Byte) → IsShut old → AllZip IsCut old new → IsShut new
shut_cut old new shut each = from shut.rest new (subst (λ l. AllZip IsCut l new) shut.closed each)
  where
    from : (rest new : List Byte) → AllZip IsCut (safe_byte 0 ∷ rest) new → IsShut new
    from rest [] each = absurd each
    from rest (y ∷ new) each = record { rest = new; closed = ap (λ b. b ∷ new) (cut_byte 0 y each.0) }

other_cut : (lap : ℕ) (old new : List Byte) → IsOther lap old → AllZip IsCut old new → IsOther lap new
other_cut lap old new other each = from other.gate other.body other.other_lap new (subst (λ l. AllZip IsCut l new) other.bytes each)
  where
    from : (gate : Byte) (body : List ℕ) → lap_of body ≢ lap → (new : List Byte) → AllZip IsCut (gate ∷ map safe_byte body) new → IsOther lap new
    from gate body apart [] each = absurd each
    from gate body apart (y ∷ new) each = record { gate = y; body = body; other_lap = apart; bytes = ap (λ l. y ∷ l) (safe_cut body new each.1) }

absent_cut : (lap : ℕ) (old new : List Byte) → IsAbsent lap old → AllZip IsCut old new → IsAbsent lap new
absent_cut lap old new (inl shut) each = inl (shut_cut old new shut each)
absent_cut lap old new (inr other) each = inr (other.0, other_cut lap old new other.1 each)

-- a page whose body is safe is whole or absent
body_cut : (lap : ℕ) (gate : Byte) (body : List ℕ) (new : List Byte) → lap_of body ≡ lap → AllZip IsCut (gate ∷ map safe_byte body) new → IsAbsent lap new ⊎ IsWhole lap body new
body_cut lap gate body [] right each = absurd each
body_cut lap gate body (y ∷ new) right each = at_gate (cases_eq y.value 0)
  where
    safe : y ≡ safe_byte y.value
    safe = λ i. record { value = y.value; safe = each.0.is_safe i }

    is : y ∷ new ≡ safe_byte y.value ∷ map safe_byte body
    is = λ i. safe i ∷ safe_cut body new each.1 i

    at_gate : (y.value ≡ 0) ⊎ (y.value ≡ 0 → ⊥) → IsAbsent lap (y ∷ new) ⊎ IsWhole lap body (y ∷ new)
    at_gate (inl shut) = inl (inl (record { rest = map safe_byte body; closed = is ∙ ap (λ n. safe_byte n ∷ map safe_byte body) shut }))
    at_gate (inr other) = inr (record { gate = y.value; open_gate = other; has_lap = right; bytes = is })

phase_cut : (phase : Phase) (lap : ℕ) (body : List ℕ) (old new : List Byte) → InPhase phase lap body old → AllZip IsCut old new → IsAbsent lap new ⊎ IsWhole lap body new
phase_cut Fresh lap body old new is each = inl (absent_cut lap old new is each)
phase_cut GateShut lap body old new is each = inl (absent_cut lap old new is.0 each)
phase_cut ShutSafe lap body old new is each = inl (inl (shut_cut old new is each))
phase_cut BodyWritten lap body old new is each = inl (inl (shut_cut old new is.0 each))
phase_cut BodySafe lap body old new is each = body_cut lap is.0 body new is.3 (subst (λ l. AllZip IsCut l new) is.2 each)
phase_cut GateWritten lap body old new is each = body_cut lap is.0 body new is.3 (subst (λ l. AllZip IsCut l new) is.2 each)

-- the page that is being written is absent, or it is the one in hand, whole and open
next_cut : (lap : ℕ) (hand : Option Hand) (old new : List Byte) → AtNext lap hand old → AllZip IsCut old new → IsAbsent lap new ⊎ ((body : List ℕ) × IsWhole lap body new × (hand_body lap hand ≡ body ∷ []))
next_cut lap None old new is each = inl (absent_cut lap old new is each)
next_cut lap (Some hand) old new is each = ⊎_elim (λ absent. inl absent) (λ whole. inr (with_lap lap (first_body hand.pages), whole, refl)) (phase_cut hand.phase lap (with_lap lap (first_body hand.pages)) old new is each)

module _ (keep : ℕ) (log : LogState) (old new : List Byte) (some : 0 < log.size) (held : (log.hand ≡ None) ⊎ (1 ≤ total log.reserved)) (tied : IsTied keep log old) (each : EachPair IsCut old new) where
  same : (k : ℕ) → keep ≤ k → k < log.next → page_at new log.size k ≡ page_at old log.size k
  same k above less = standing_cut (k / log.size) (page_at old log.size k) (page_at new log.size k) (tied.stands k above less) (page_cut old new (k % log.size) each)

  stands : (k : ℕ) → keep ≤ k → k < log.next → IsStanding (k / log.size) (page_at new log.size k)
  stands k above less = subst (IsStanding (k / log.size)) (sym (same k above less)) (tied.stands k above less)

  m : ℕ
  m = log.next - keep

  opens : (k : ℕ) → keep ≤ k → k < keep + (log.next - keep) → is_safely_open (k / log.size) (page_at new log.size k) ≡ true
  opens k above less = let s = stands k above (omega (arith, tied.from)) in whole_open (k / log.size) s.body (page_at new log.size k) s.whole

  later : (k : ℕ) → log.next < k → k < log.next + log.size → IsAbsent (k / log.size) (page_at new log.size k)
  later k more less = absent_cut (k / log.size) (page_at old log.size k) (page_at new log.size k) (tied.later k more less) (page_cut old new (k % log.size) each)

  before : open_pages new log.size keep (log.next - keep) ≡ open_pages old log.size keep (log.next - keep)
  before = same_pages log.size old new keep (log.next - keep) (λ k above less. same k above (omega (arith, tied.from)))

  split : (n : ℕ) → log.size ≡ log.next - keep + n → log_pages new log.size keep ≡ open_pages old log.size keep (log.next - keep) ++ open_pages new log.size log.next n
  split n is =
      ap (open_pages new log.size keep) is ∙ pages_split log.size new keep (log.next - keep) n opens ∙ (λ i. before i ++ open_pages new log.size (at i) n)
    where
      at : keep + (log.next - keep) ≡ log.next
      at = omega (arith, tied.from)

  old_count : length (open_pages old log.size keep (log.next - keep)) ≡ log.next - keep
  old_count = ap length (sym before) ∙ all_open log.size new keep (log.next - keep) opens

  short : (n : ℕ) → log.size ≡ log.next - keep + n → open_pages new log.size log.next n ≡ [] → IsAbsent (log.next / log.size) (page_at new log.size log.next) → IsCutShort keep log old new
  short n is none absent =
      let all : log_pages new log.size keep ≡ open_pages old log.size keep (log.next - keep) = split n is ∙ ap (λ l. open_pages old log.size keep (log.next - keep) ++ l) none ∙ append-nil (open_pages old log.size keep (log.next - keep)) in
      let count : log.next ≡ keep + length (log_pages new log.size keep) = omega (arith, tied.from, ap length all, old_count) in
      record {
        earlier = same;
        pages = inl all;
        tied = subst (λ n. IsTied keep (record { size = log.size; next = n; reserved = []; hand = None }) new) count
            (record { from = tied.from; room = omega (arith, tied.room); stands = stands; at_next = absent; later = later });
      }

  gone : IsStanding (log.next / log.size) (page_at new log.size log.next) → (k : ℕ) → log.next < k → k ≤ log.next + log.size → IsAbsent (k / log.size) (page_at new log.size k)
  gone standing k more less = elim (cases_lt k (log.next + log.size)) [
    | inl near ↦ later k more near
    | inr far ↦ subst (λ (n : ℕ). IsAbsent (n / log.size) (page_at new log.size n)) (omega arith)
        (subst (λ (q : ℕ). IsAbsent ((log.next + log.size) / log.size) (raw_page new q)) (sym (same_position log.next log.size)) (stands_absent log.size log.next (page_at new log.size log.next) some standing))
  ]

  long : (n : ℕ) (body : List ℕ) → log.size ≡ log.next - keep + suc n → IsWhole (log.next / log.size) body (page_at new log.size log.next) → hand_body (log.next / log.size) log.hand ≡ body ∷ [] → IsCutShort keep log old new
  long n body is whole hand =
      let standing : IsStanding (log.next / log.size) (page_at new log.size log.next) = record { body = body; whole = whole } in
      let next_absent : IsAbsent ((log.next + 1) / log.size) (page_at new log.size (log.next + 1)) = gone standing (log.next + 1) (omega arith) (omega arith) in
      let one : open_pages new log.size log.next (suc n) ≡ body ∷ [] =
      open_here log.size new log.next n (whole_open (log.next / log.size) body _ whole)
      ∙ (λ i. whole_body (log.next / log.size) body (page_at new log.size log.next) whole i ∷ shut_here log.size new (log.next + 1) n (absent_shut ((log.next + 1) / log.size) (page_at new log.size (log.next + 1)) next_absent) i) in
      let all : log_pages new log.size keep ≡ open_pages old log.size keep (log.next - keep) ++ hand_body (log.next / log.size) log.hand = split (suc n) is ∙ ap (λ l. open_pages old log.size keep (log.next - keep) ++ l) (one ∙ sym hand) in
      let count : log.next + 1 ≡ keep + length (log_pages new log.size keep) =
      omega (arith, tied.from, ap length all ∙ ap (λ l. length (open_pages old log.size keep (log.next - keep) ++ l)) hand ∙ length-append (open_pages old log.size keep (log.next - keep)) (body ∷ []), old_count) in
      record {
        earlier = same;
        pages = inr all;
        tied = subst (λ n. IsTied keep (record { size = log.size; next = n; reserved = []; hand = None }) new) count (record {
          from = omega (arith, tied.from);
          room = omega (arith, tied.from);
          stands = λ k above less. ⊎_elim (λ below. stands k above below) (λ over. subst (λ n. IsStanding (n / log.size) (page_at new log.size n)) (omega arith) standing) (cases_lt k log.next);
          at_next = next_absent;
          later = λ k more less. gone standing k (omega arith) (omega arith);
        });
      }

  pub cut_short : IsCutShort keep log old new
  cut_short = at_rest (log.size - (log.next - keep)) (omega (arith, tied.room, tied.from))
    where
      next_is : IsAbsent (log.next / log.size) (page_at new log.size log.next) ⊎ ((body : List ℕ) × IsWhole (log.next / log.size) body (page_at new log.size log.next) × (hand_body (log.next / log.size) log.hand ≡ body ∷ []))
      next_is = next_cut (log.next / log.size) log.hand (page_at old log.size log.next) (page_at new log.size log.next) tied.at_next (page_cut old new (log.next % log.size) each)

      at_rest : (n : ℕ) → log.size ≡ log.next - keep + n → IsCutShort keep log old new
      at_rest zero is = full held
        where
          full : (log.hand ≡ None) ⊎ (1 ≤ total log.reserved) → IsCutShort keep log old new
          full (inl idle) = short zero is refl (absent_cut (log.next / log.size) (page_at old log.size log.next) (page_at new log.size log.next)
              (subst (λ (h : Option Hand). AtNext (log.next / log.size) h (page_at old log.size log.next)) idle tied.at_next) (page_cut old new (log.next % log.size) each))
          full (inr some) = absurd (omega (arith, tied.room, tied.from))
      at_rest (suc n) is = ⊎_elim
          (λ absent. short (suc n) is (shut_here log.size new log.next (suc n) (absent_shut (log.next / log.size) (page_at new log.size log.next) absent)) absent)
          (λ found. long n found.0 is found.1 found.2)
          next_is
