-- whether a power cut leaves the page in hand whole, by its gate
use Rattle.std.proofs.Common.{◌≡◌, ◌⊎◌, inl, inr, ℕ, zero, suc, ◌+◌, ◌-◌, ◌*◌, ◌/◌, ◌%◌, ◌<◌, ◌≤◌, Bool, true, false, not, ◌&&◌, ◌==◌, List, [], ◌∷◌, ◌++◌, length, take, drop, map, Option, None, Some, refl, sym, ap, subst, ◌∙◌, arith}
use Rattle.std.specs.Prelude.{slice_index}
use Rattle.std.specs.List.{AllZip}
use Rattle.std.proofs.lemmas.List.{length-append}
use Rattle.qsg_disk.specs.Byte.{Byte, safe_byte, values, part, EachPair, IsCut}
use Rattle.qsg_disk.proofs.Parts.{zipped_part, safe_cut, cut_byte}
use Rattle.qsg_logpage.specs.declared.step.Phase.{Phase}
use Rattle.qsg_logpage.specs.declared.step.Phase.TheVariants.{Fresh, GateShut, ShutSafe, BodyWritten, BodySafe, GateWritten}
use Rattle.qsg_logpage.specs.declared.step.InHand.{InHand}
use Rattle.qsg_logpage.specs.Page.{page_at, lap_of, with_lap, is_open_gate, is_safely_open, open_pages, log_pages, IsShut, IsOther, IsAbsent}
use Rattle.qsg_logpage.specs.Reserved.{total}
use Rattle.qsg_logpage.specs.Log.{Hand, LogState, first_body, hand_body, InPhase, AtNext, IsTied, IsHeld, IsCutShort, is_body_safe, in_hand_of, pages_written}
use Rattle.qsg_logpage.proofs.Cuts.{open_here, shut_here, pages_split, all_open, absent_shut, values-safe}
use Rattle.qsg_unitlog.specs.Tells.{is_left_whole}
use Rattle.qsg_unitlog.proofs.Lists.{head_same, no_head}
use Rattle.qsg_unitlog.proofs.Steps.{opens, written_length, test_true, test_false}

-- ---- the gate of a page

first_value : (at : ℕ) (bytes : List Byte) (y : Byte) (rest : List Byte) → take 4096 (drop at bytes) ≡ y ∷ rest → slice_index (values bytes) at ≡ y.value
first_value zero [] y rest is = no_head y rest is
first_value zero (b ∷ bytes) y rest is = ap (λ (b : Byte). b.value) (head_same b y (take 4095 bytes) rest is)
first_value (suc at) [] y rest is = no_head y rest is
first_value (suc at) (b ∷ bytes) y rest is = first_value at bytes y rest is

shut_stays : (lap : ℕ) (old new : List Byte) → IsShut old → AllZip IsCut old new → is_safely_open lap new ≡ false
shut_stays lap old new shut each = from shut.rest new (subst (λ (l : List Byte). AllZip IsCut l new) shut.closed each)
  where
    from : (rest new : List Byte) → AllZip IsCut (safe_byte 0 ∷ rest) new → is_safely_open lap new ≡ false
    from rest [] each = absurd each
    from rest (y ∷ new) each = ap (λ (b : Byte). is_safely_open lap (b ∷ new)) (cut_byte 0 y each.0)

absent_stays : (lap : ℕ) (old new : List Byte) → IsAbsent lap old → AllZip IsCut old new → is_safely_open lap new ≡ false
absent_stays lap old new (inl shut) each = shut_stays lap old new shut each
absent_stays lap old new (inr other) each = absent_shut lap new (inr (other.0, from other.1.gate other.1.body other.1.other_lap new (subst (λ (l : List Byte). AllZip IsCut l new) other.1.bytes each)))
  where
    from : (gate : Byte) (body : List ℕ) → (lap_of body ≡ lap → ⊥) → (new : List Byte) → AllZip IsCut (gate ∷ map safe_byte body) new → IsOther lap new
    from gate body apart [] each = absurd each
    from gate body apart (y ∷ new) each = record { gate = y; body = body; other_lap = apart; bytes = ap (λ (l : List Byte). y ∷ l) (safe_cut body new each.1) }

and_with : (b : Bool) → (b && true) ≡ b
and_with true = refl
and_with false = refl

body_decides : (lap : ℕ) (gate : Byte) (body : List ℕ) (new : List Byte) → lap_of body ≡ lap → AllZip IsCut (gate ∷ map safe_byte body) new
    → (y : Byte) × (rest : List Byte) × (new ≡ y ∷ rest) × (is_safely_open lap new ≡ not (y.value == 0))
body_decides lap gate body [] right each = absurd each
body_decides lap gate body (y ∷ new) right each = (
  y,
  new,
  refl,
  (λ i. is_open_gate (each.0.is_safe i) && (lap_of (values (safe_cut body new each.1 i)) == lap))
      ∙ (λ i. not (y.value == 0) && (lap_of (values-safe body i) == lap))
      ∙ ap (λ (t : Bool). not (y.value == 0) && t) (test_true (lap_of body) lap right)
      ∙ and_with (not (y.value == 0)),
)

phase_decides : (phase : Phase) (lap at : ℕ) (body : List ℕ) (old new : List Byte) → InPhase phase lap body old → AllZip IsCut old (part at 4096 new)
    → is_safely_open lap (part at 4096 new) ≡ (is_body_safe phase && not (slice_index (values new) at == 0))
phase_decides Fresh lap at body old new is each = absent_stays lap old (part at 4096 new) is each
phase_decides GateShut lap at body old new is each = absent_stays lap old (part at 4096 new) is.0 each
phase_decides ShutSafe lap at body old new is each = shut_stays lap old (part at 4096 new) is each
phase_decides BodyWritten lap at body old new is each = shut_stays lap old (part at 4096 new) is.0 each
phase_decides BodySafe lap at body old new is each =
    let d = body_decides lap is.0 body (part at 4096 new) is.3 (subst (λ (l : List Byte). AllZip IsCut l (part at 4096 new)) is.2 each) in
    d.3 ∙ ap (λ (n : ℕ). not (n == 0)) (sym (first_value at new d.0 d.1 d.2))
phase_decides GateWritten lap at body old new is each =
    let d = body_decides lap is.0 body (part at 4096 new) is.3 (subst (λ (l : List Byte). AllZip IsCut l (part at 4096 new)) is.2 each) in
    d.3 ∙ ap (λ (n : ℕ). not (n == 0)) (sym (first_value at new d.0 d.1 d.2))

-- ---- how long the log is

hand_short : (lap : ℕ) (hand : Option Hand) → length (hand_body lap hand) ≤ 1
hand_short lap None = omega arith
hand_short lap (Some hand) = omega arith

some_open : (size : ℕ) (bytes : List Byte) (first n : ℕ) → 1 ≤ n → is_safely_open (first / size) (page_at bytes size first) ≡ true → 1 ≤ length (open_pages bytes size first n)
some_open size bytes first zero some is = absurd (omega (arith, some))
some_open size bytes first (suc n) some is = omega (arith, ap length (open_here size bytes first n is))

left_is : (keep : ℕ) (log : LogState) (old new : List Byte) → 1 ≤ total log.reserved → IsTied keep log old → IsCutShort keep log old new → is_left_whole keep log new ≡ is_safely_open (log.next / log.size) (page_at new log.size log.next)
left_is keep log old new held tied cut = by (is_safely_open (log.next / log.size) (page_at new log.size log.next)) refl
  where
    still : (k : ℕ) → keep ≤ k → k < keep + (log.next - keep) → is_safely_open (k / log.size) (page_at new log.size k) ≡ true
    still k above less =
        ap (is_safely_open (k / log.size)) (cut.earlier k above (omega (arith, less, tied.from))) ∙ opens keep log old tied k above (omega (arith, less, tied.from))

    split : length (log_pages new log.size keep) ≡ log.next - keep + length (open_pages new log.size log.next (log.size - (log.next - keep)))
    split =
        ap length (
        ap (open_pages new log.size keep) (omega (arith, tied.room, tied.from))
        ∙ pages_split log.size new keep (log.next - keep) (log.size - (log.next - keep)) still
        ∙ ap (λ (k : ℕ). open_pages new log.size keep (log.next - keep) ++ open_pages new log.size k (log.size - (log.next - keep))) (omega (arith, tied.from))
        )
        ∙ length-append (open_pages new log.size keep (log.next - keep)) (open_pages new log.size log.next (log.size - (log.next - keep)))
        ∙ ap (λ (n : ℕ). n + length (open_pages new log.size log.next (log.size - (log.next - keep)))) (all_open log.size new keep (log.next - keep) still)

    short : (log_pages new log.size keep ≡ pages_written keep log old) ⊎ (log_pages new log.size keep ≡ pages_written keep log old ++ hand_body (log.next / log.size) log.hand) → length (log_pages new log.size keep) ≤ log.next - keep + 1
    short (inl is) = omega (arith, ap length is, written_length keep log old tied)
    short (inr is) = omega (arith, ap length is, length-append (pages_written keep log old) (hand_body (log.next / log.size) log.hand), hand_short (log.next / log.size) log.hand, written_length keep log old tied)

    by : (t : Bool) → is_safely_open (log.next / log.size) (page_at new log.size log.next) ≡ t → is_left_whole keep log new ≡ t
    by true e =
        let more : 1 ≤ length (open_pages new log.size log.next (log.size - (log.next - keep))) =
        some_open log.size new log.next (log.size - (log.next - keep)) (omega (arith, tied.room, tied.from, held)) e in
        test_true (keep + length (log_pages new log.size keep)) (log.next + 1) (omega (arith, split, more, short cut.pages, tied.from))
    by false e =
        test_false (keep + length (log_pages new log.size keep)) (log.next + 1)
        (omega (arith, split, ap length (shut_here log.size new log.next (log.size - (log.next - keep)) e), tied.from))

-- ---- the page in hand

abbrev in_hand_at : ℕ → Option Hand → Option InHand
in_hand_at next hand = elim hand [ None ↦ None | Some hand ↦ Some (record { page = record { number = next }; last = length hand.pages == 1; body_safe = is_body_safe hand.phase }) ]

none_some : {A : Type 0} (page : InHand) → in_hand_at 0 None ≡ Some page → A
none_some page e = cc

some_same : (a b : InHand) → Some a ≡ Some b → a ≡ b
some_same a b e = cc

held_some : (log : LogState) (hand : Hand) → log.hand ≡ Some hand → IsHeld log → 1 ≤ total log.reserved
held_some log hand is (inl idle) = no_hand (sym idle ∙ is)
  where
    no_hand : {A : Type 0} → None ≡ Some hand → A
    no_hand e = cc
held_some log hand is (inr some) = some

pub page_decides : (keep : ℕ) (log : LogState) (old new : List Byte) (page : InHand) (gate : ℕ) → in_hand_of log ≡ Some page → IsHeld log → IsTied keep log old → EachPair IsCut old new → IsCutShort keep log old new
    → gate ≡ slice_index (values new) (4096 * (page.page.number % log.size)) → (page.body_safe && not (gate == 0)) ≡ is_left_whole keep log new
page_decides keep log old new page gate is held tied each cut gate_is = by log.hand refl
  where
    by : (hand : Option Hand) → log.hand ≡ hand → (page.body_safe && not (gate == 0)) ≡ is_left_whole keep log new
    by None e = none_some page (sym (ap (in_hand_at log.next) e) ∙ is)
    by (Some hand) e =
        let same : page ≡ record { page = record { number = log.next }; last = length hand.pages == 1; body_safe = is_body_safe hand.phase } =
        some_same page _ (sym is ∙ ap (in_hand_at log.next) e) in
        let at_next : InPhase hand.phase (log.next / log.size) (with_lap (log.next / log.size) (first_body hand.pages)) (page_at old log.size log.next) =
        subst (λ (h : Option Hand). AtNext (log.next / log.size) h (page_at old log.size log.next)) e tied.at_next in
        let gates : gate ≡ slice_index (values new) (4096 * (log.next % log.size)) = gate_is ∙ ap (λ (p : InHand). slice_index (values new) (4096 * (p.page.number % log.size))) same in
        let opened = phase_decides hand.phase (log.next / log.size) (4096 * (log.next % log.size)) (with_lap (log.next / log.size) (first_body hand.pages)) (page_at old log.size log.next) new at_next
        (zipped_part IsCut old new (4096 * (log.next % log.size)) 4096 each) in
        (λ i. (same i).body_safe && not (gates i == 0)) ∙ sym (left_is keep log old new (held_some log hand e held) tied cut ∙ opened)

-- with no run in hand the log is as long as it was
idle_ends : (keep : ℕ) (log : LogState) (old new : List Byte) → log.hand ≡ None → IsTied keep log old → IsCutShort keep log old new → false ≡ is_left_whole keep log new
idle_ends keep log old new idle tied cut = sym (test_false (keep + length (log_pages new log.size keep)) (log.next + 1) (omega (arith, long cut.pages, tied.from)))
  where
    long : (log_pages new log.size keep ≡ pages_written keep log old) ⊎ (log_pages new log.size keep ≡ pages_written keep log old ++ hand_body (log.next / log.size) log.hand) → length (log_pages new log.size keep) ≡ log.next - keep
    long (inl is) = ap length is ∙ written_length keep log old tied
    long (inr is) =
        ap length is ∙ length-append (pages_written keep log old) (hand_body (log.next / log.size) log.hand)
        ∙ (λ i. written_length keep log old tied i + length (hand_body (log.next / log.size) (idle i))) ∙ omega arith

some_none : {A : Type 0} (page : InHand) → Some page ≡ None → A
some_none page e = cc

idle_is : (log : LogState) → in_hand_of log ≡ None → log.hand ≡ None
idle_is log is = by log.hand refl
  where
    by : (hand : Option Hand) → log.hand ≡ hand → hand ≡ None
    by None e = refl
    by (Some hand) e = some_none _ (sym (ap (in_hand_at log.next) e) ∙ is)

pub no_page : (keep : ℕ) (log : LogState) (old new : List Byte) → in_hand_of log ≡ None → IsTied keep log old → IsCutShort keep log old new → false ≡ is_left_whole keep log new
no_page keep log old new is tied cut = idle_ends keep log old new (idle_is log is) tied cut
