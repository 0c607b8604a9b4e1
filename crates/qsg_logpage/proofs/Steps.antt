-- what the device calls of a writer make of the pages of its log
use Rattle.std.proofs.Common.{◌≡◌, ◌≢◌, ◌⊎◌, inl, inr, ⊎_elim, ℕ, ◌+◌, ◌*◌, ◌/◌, ◌%◌, ◌<◌, ◌≤◌, List, [], ◌∷◌, ◌++◌, length, take, drop, map, Option, Some, None, Bool, false, cond, refl, sym, ap, ◌∙◌, subst, arith, length-drop}
use Rattle.std.specs.Prelude.{slice_index, ◌==◌, Result, Ok, Err, OnOk, OnErr}
use Rattle.std.proofs.lemmas.Result.{on_ok_weaker}
use Rattle.std.proofs.lemmas.Bool.Decides.{nat_tests}
use Rattle.qsg_logpage.proofs.Totals.{pages_le_total, total-lowered}
use Rattle.std.specs.List.{AllZip}
use Rattle.std.proofs.lemmas.Bool.{cases_lt}
use Rattle.std.proofs.lemmas.List.{drop-take, take-take, drop-drop, take-map, drop-map, length-take}
use Rattle.qsg_disk.specs.Byte.{Byte, written, synced, safe_byte, values, part, AreUnsafe, Beside, EachPair, IsKeptOrSynced}
use Rattle.qsg_disk.proofs.Parts.{part-split, part_before, part_after, zipped_part, AllZip-drop, safe_kept, values_kept, kept_byte}
use Rattle.qsg_logpage.specs.declared.step.Phase.{Phase}
use Rattle.qsg_logpage.specs.declared.step.Phase.TheVariants.{Fresh, GateShut, ShutSafe, BodyWritten, BodySafe, GateWritten}
use Rattle.qsg_logpage.specs.Page.{page_at, is_open_gate, body_of, with_lap, lap_of, IsWhole, IsStanding, IsShut, IsOther, IsAbsent}
use Rattle.qsg_logpage.specs.Reserved.{total, lowered, pages_for}
use Rattle.qsg_logpage.specs.Log.{Hand, LogState, first_body, InPhase, AtNext, IsTied, IsAsked, IsGateShut, after_page, first_phase, in_phase, advanced, advanced_by}
use Rattle.qsg_logpage.proofs.Rings.{positions_apart, same_position, next_lap}

-- the bytes of a page by its position
abbrev pub raw_page : List Byte → ℕ → List Byte
raw_page bytes p = part (4096 * p) 4096 bytes

-- a page is its gate and its body
page_split : (bytes : List Byte) (p : ℕ) → raw_page bytes p ≡ part (4096 * p) 1 bytes ++ part (4096 * p + 1) 4095 bytes
page_split bytes p = part-split (4096 * p) 1 4095 bytes

gate_of_page : (bytes : List Byte) (p : ℕ) → part (4096 * p) 1 bytes ≡ take 1 (raw_page bytes p)
gate_of_page bytes p = sym (take-take 1 4096 (drop (4096 * p) bytes) (omega arith))

rest_of_page : (bytes : List Byte) (p : ℕ) → part (4096 * p + 1) 4095 bytes ≡ drop 1 (raw_page bytes p)
rest_of_page bytes p = sym (drop-take 1 4095 (drop (4096 * p) bytes) ∙ ap (take 4095) (drop-drop 1 (4096 * p) bytes))

-- the other pages stay
pub other_pages : (old new : List Byte) (page at n k : ℕ) → Beside at n old new → 4096 * page ≤ at → at + n ≤ 4096 * page + 4096 → k ≢ page → raw_page new k ≡ raw_page old k
other_pages old new page at n k beside from to other = elim (apart k page other) [
  | inl before ↦ part_before at n old new (4096 * k) 4096 beside (omega arith)
  | inr behind ↦ part_after at n old new (4096 * k) 4096 beside (omega arith)
]
  where
    apart : (k page : ℕ) → k ≢ page → (k < page) ⊎ (page < k)
    apart k page other = elim (cases_lt k page) [ inl less ↦ inl less | inr above ↦ inr (omega arith) ]

-- after a write of the body
pub body_put : (old new : List Byte) (p : ℕ) → Beside (4096 * p + 1) 4095 old new → IsShut (raw_page old p) → raw_page new p ≡ safe_byte 0 ∷ part (4096 * p + 1) 4095 new
body_put old new p beside shut =
    page_split new p ∙ ap (λ (l : List Byte). l ++ part (4096 * p + 1) 4095 new)
    (part_before (4096 * p + 1) 4095 old new (4096 * p) 1 beside (omega arith) ∙ gate_of_page old p ∙ ap (take 1) shut.closed)

-- after a write of the gate
pub gate_put : (old new : List Byte) (p : ℕ) (gate : Byte) (rest : List Byte) → Beside (4096 * p) 1 old new → raw_page old p ≡ gate ∷ rest → raw_page new p ≡ part (4096 * p) 1 new ++ rest
gate_put old new p gate rest beside is =
    page_split new p ∙ ap (λ (l : List Byte). part (4096 * p) 1 new ++ l)
    (part_after (4096 * p) 1 old new (4096 * p + 1) 4095 beside (omega arith) ∙ rest_of_page old p ∙ ap (drop 1) is)

values-written : (vs : List ℕ) → values (map written vs) ≡ vs
values-written [] = refl
values-written (v ∷ vs) = ap (λ l. v ∷ l) (values-written vs)

synced_values : (bytes : List Byte) → map synced bytes ≡ map safe_byte (values bytes)
synced_values [] = refl
synced_values (b ∷ bytes) = ap (λ l. safe_byte b.value ∷ l) (synced_values bytes)

synced-safe : (vs : List ℕ) → map synced (map safe_byte vs) ≡ map safe_byte vs
synced-safe [] = refl
synced-safe (v ∷ vs) = ap (λ l. safe_byte v ∷ l) (synced-safe vs)

pub page_synced : (old new : List Byte) (p : ℕ) → new ≡ map synced old → raw_page new p ≡ map synced (raw_page old p)
page_synced old new p is =
    ap (λ l. raw_page l p) is ∙ ap (take 4096) (drop-map synced (4096 * p) old) ∙ take-map synced 4096 (drop (4096 * p) old)

-- what a sync leaves of each page, whether it fails or not

pub shut_kept : (old new : List Byte) → IsShut old → AllZip IsKeptOrSynced old new → IsShut new
shut_kept old new shut each = from shut.rest new (subst (λ l. AllZip IsKeptOrSynced l new) shut.closed each)
  where
    from : (rest new : List Byte) → AllZip IsKeptOrSynced (safe_byte 0 ∷ rest) new → IsShut new
    from rest [] each = absurd each
    from rest (y ∷ new) each = record { rest = new; closed = ap (λ b. b ∷ new) (kept_byte 0 y each.0) }

other_kept : (lap : ℕ) (old new : List Byte) → IsOther lap old → AllZip IsKeptOrSynced old new → IsOther lap new
other_kept lap old new other each = from other.gate other.body other.other_lap new (subst (λ l. AllZip IsKeptOrSynced l new) other.bytes each)
  where
    from : (gate : Byte) (body : List ℕ) → lap_of body ≢ lap → (new : List Byte) → AllZip IsKeptOrSynced (gate ∷ map safe_byte body) new → IsOther lap new
    from gate body apart [] each = absurd each
    from gate body apart (y ∷ new) each = record { gate = y; body = body; other_lap = apart; bytes = ap (λ l. y ∷ l) (safe_kept body new each.1) }

pub absent_kept : (lap : ℕ) (old new : List Byte) → IsAbsent lap old → AllZip IsKeptOrSynced old new → IsAbsent lap new
absent_kept lap old new (inl shut) each = inl (shut_kept old new shut each)
absent_kept lap old new (inr other) each = inr (other.0, other_kept lap old new other.1 each)

pub standing_kept : (lap : ℕ) (old new : List Byte) → IsStanding lap old → AllZip IsKeptOrSynced old new → new ≡ old
standing_kept lap old new standing each =
    let w = standing.whole in
    safe_kept (w.gate ∷ standing.body) new (subst (λ l. AllZip IsKeptOrSynced l new) w.bytes each) ∙ sym w.bytes

pub page_kept : (old new : List Byte) (p : ℕ) → EachPair IsKeptOrSynced old new → AllZip IsKeptOrSynced (raw_page old p) (raw_page new p)
page_kept old new p each = zipped_part IsKeptOrSynced old new (4096 * p) 4096 each

-- a page that stands is another one a lap later
pub stands_absent : (size k : ℕ) (page : List Byte) → 0 < size → IsStanding (k / size) page → IsAbsent ((k + size) / size) page
stands_absent size k page some standing =
    let w = standing.whole in
    inr (omega (arith, next_lap k size some), record { gate = safe_byte w.gate; body = standing.body; other_lap = (λ e. omega (arith, next_lap k size some, w.has_lap)); bytes = w.bytes })

module _ (keep : ℕ) (log : LogState) (old new : List Byte) (tied : IsTied keep log old) (hold : 1 ≤ total log.reserved) where
  p : ℕ
  p = log.next % log.size

  some : 0 < log.size
  some = omega (arith, tied.room, tied.from)

  earlier_apart : (k : ℕ) → keep ≤ k → k < log.next → k % log.size ≢ log.next % log.size
  earlier_apart k from less = positions_apart k log.next log.size less (omega (arith, tied.room))

  later_apart : (k : ℕ) → log.next < k → k < log.next + log.size → k % log.size ≢ log.next % log.size
  later_apart k more less e = positions_apart log.next k log.size more less (sym e)

  -- a write in the page in hand
  pub tied_written : (at n : ℕ) (hand : Option Hand) → Beside at n old new → 4096 * (log.next % log.size) ≤ at → at + n ≤ 4096 * (log.next % log.size) + 4096
      → AtNext (log.next / log.size) hand (page_at new log.size log.next) → IsTied keep (record log { hand = hand }) new
  tied_written at n hand beside from to here = record {
    from = tied.from;
    room = tied.room;
    stands = λ k above less. subst (IsStanding (k / log.size)) (sym (other_pages old new (log.next % log.size) at n (k % log.size) beside from to (earlier_apart k above less))) (tied.stands k above less);
    at_next = here;
    later = λ k more less. subst (IsAbsent (k / log.size)) (sym (other_pages old new (log.next % log.size) at n (k % log.size) beside from to (later_apart k more less))) (tied.later k more less);
  }

  -- a sync
  pub tied_kept : (hand : Option Hand) → EachPair IsKeptOrSynced old new → AtNext (log.next / log.size) hand (page_at new log.size log.next) → IsTied keep (record log { hand = hand }) new
  tied_kept hand each here = record {
    from = tied.from;
    room = tied.room;
    stands = λ k above less. subst (IsStanding (k / log.size)) (sym (standing_kept (k / log.size) (page_at old log.size k) (page_at new log.size k) (tied.stands k above less) (page_kept old new (k % log.size) each))) (tied.stands k above less);
    at_next = here;
    later = λ k more less. absent_kept (k / log.size) (page_at old log.size k) (page_at new log.size k) (tied.later k more less) (page_kept old new (k % log.size) each);
  }

  -- a sync that makes the page in hand safe
  pub tied_on : (hand : Option Hand) (reserved : List _) → total reserved + 1 ≤ total log.reserved → EachPair IsKeptOrSynced old new → IsStanding (log.next / log.size) (page_at new log.size log.next)
      → ((lap : ℕ) (page : List Byte) → IsAbsent lap page → AtNext lap hand page)
      → IsTied keep (record log { next = log.next + 1; reserved = reserved; hand = hand }) new
  tied_on hand reserved lower each stands fresh = record {
    from = omega (arith, tied.from);
    room = omega (arith, tied.room);
    stands = λ k above less. ⊎_elim (λ before. subst (IsStanding (k / log.size)) (sym (standing_kept (k / log.size) (page_at old log.size k) (page_at new log.size k) (tied.stands k above before) (page_kept old new (k % log.size) each))) (tied.stands k above before))
        (λ is. subst (λ (n : ℕ). IsStanding (n / log.size) (page_at new log.size n)) (sym is) stands) (below k log.next less);
    at_next = fresh ((log.next + 1) / log.size) (page_at new log.size (log.next + 1)) (gone (log.next + 1) (omega arith) (omega (arith, some)));
    later = λ k more less. gone k (omega arith) (omega arith);
  }
    where
      below : (k n : ℕ) → k < n + 1 → (k < n) ⊎ (k ≡ n)
      below k n less = elim (cases_lt k n) [ inl before ↦ inl before | inr above ↦ inr (omega arith) ]

      gone : (k : ℕ) → log.next < k → k ≤ log.next + log.size → IsAbsent (k / log.size) (page_at new log.size k)
      gone k more less = elim (cases_lt k (log.next + log.size)) [
        | inl near ↦ absent_kept (k / log.size) (page_at old log.size k) (page_at new log.size k) (tied.later k more near) (page_kept old new (k % log.size) each)
        | inr far ↦ subst (λ (n : ℕ). IsAbsent (n / log.size) (page_at new log.size n)) (omega arith)
            (subst (λ (q : ℕ). IsAbsent ((log.next + log.size) / log.size) (raw_page new q)) (sym (same_position log.next log.size)) (stands_absent log.size log.next (page_at new log.size log.next) some stands))
      ]

  -- no call touches another page from keep on
  pub earlier_written : (at n : ℕ) → Beside at n old new → 4096 * (log.next % log.size) ≤ at → at + n ≤ 4096 * (log.next % log.size) + 4096
      → (k : ℕ) → keep ≤ k → k < log.next → page_at new log.size k ≡ page_at old log.size k
  earlier_written at n beside from to k above less = other_pages old new (log.next % log.size) at n (k % log.size) beside from to (earlier_apart k above less)

  pub earlier_kept : EachPair IsKeptOrSynced old new → (k : ℕ) → keep ≤ k → k < log.next → page_at new log.size k ≡ page_at old log.size k
  earlier_kept each k above less = standing_kept (k / log.size) (page_at old log.size k) (page_at new log.size k) (tied.stands k above less) (page_kept old new (k % log.size) each)

-- what a goal knows of the page in hand
pub record IsInHand (log : LogState) (hand : Hand) (phase : Phase) : Type 0 where
  pub hand_is : log.hand ≡ Some hand
  pub phase_is : hand.phase ≡ phase
  pub hold : 1 ≤ pages_for hand.unit log.reserved

pub advanced_is : (log : LogState) (hand : Hand) (phase : Phase) → IsInHand log hand phase → advanced log ≡ advanced_by log hand phase
advanced_is log hand phase here = at_hand log.hand here.hand_is ∙ ap (advanced_by log hand) here.phase_is
  where
    at_hand : (h : Option Hand) → h ≡ Some hand → (elim h [ None ↦ log | Some hand ↦ advanced_by log hand hand.phase ]) ≡ advanced_by log hand hand.phase
    at_hand h is = ap (λ (h : Option Hand). elim h as (λ _. LogState) [ None ↦ log | Some hand ↦ advanced_by log hand hand.phase ]) is

pub always_err : {T E P : Type 0} (r : Result T E) → P → OnErr r P
always_err (Ok x) p = tt
always_err (Err e) p = p

pub always_ok : {T E P : Type 0} (r : Result T E) → P → OnOk r P
always_ok (Ok x) p = p
always_ok (Err e) p = tt

one_byte : (bytes : List Byte) → length bytes ≡ 1 → (g : Byte) × (bytes ≡ g ∷ [])
one_byte [] long = absurd (omega arith)
one_byte (g ∷ []) long = (g, refl)
one_byte (g ∷ h ∷ bytes) long = absurd (omega arith)

other_than : (n : ℕ) → n ≢ 0 → (n == 0) ≡ false
other_than n apart = grind (arith, nat_tests)

-- the value of a gate
gate_value : (page : List Byte) → slice_index (values (take 1 page)) 0 ≡ slice_index (values page) 0
gate_value [] = refl
gate_value (g ∷ page) = refl

-- Each lemma is one call of the device, in one phase.
module _ {E : Type 0} {T : Type 0} (keep : ℕ) (log : LogState) (hand : Hand) (old new : List Byte) (result : Result T E) (tied : IsTied keep log old) where
  hold_all : (phase : Phase) → IsInHand log hand phase → 1 ≤ total log.reserved
  hold_all phase here = omega (arith, here.hold, pages_le_total hand.unit log.reserved)

  phase_now : (phase : Phase) → IsInHand log hand phase → InPhase phase (log.next / log.size) (with_lap (log.next / log.size) (first_body hand.pages)) (page_at old log.size log.next)
  phase_now phase here =
      let page = page_at old log.size log.next in
      subst (λ p. InPhase p (log.next / log.size) (with_lap (log.next / log.size) (first_body hand.pages)) page) here.phase_is (subst (λ h. AtNext (log.next / log.size) h page) here.hand_is tied.at_next)

  still : (phase : Phase) → IsInHand log hand phase → (page : List Byte) → InPhase phase (log.next / log.size) (with_lap (log.next / log.size) (first_body hand.pages)) page → AtNext (log.next / log.size) log.hand page
  still phase here page is = subst (λ h. AtNext (log.next / log.size) h page) (sym here.hand_is) (subst (λ p. InPhase p (log.next / log.size) (with_lap (log.next / log.size) (first_body hand.pages)) page) (sym here.phase_is) is)

  to_advanced : (phase : Phase) → IsInHand log hand phase → (after : LogState) → advanced_by log hand phase ≡ after → IsTied keep after new → IsTied keep (advanced log) new
  to_advanced phase here after is done = subst (λ l. IsTied keep l new) (sym (advanced_is log hand phase here ∙ is)) done

  -- the body, over a page that is shut
  body_asked : (phase : Phase) → IsInHand log hand phase → IsShut (page_at old log.size log.next) → ((page : List Byte) → IsShut page → InPhase phase (log.next / log.size) (with_lap (log.next / log.size) (first_body hand.pages)) page)
      → lap_of (with_lap (log.next / log.size) (first_body hand.pages)) ≡ log.next / log.size
      → advanced_by log hand phase ≡ in_phase log hand BodyWritten → Beside (4096 * (log.next % log.size) + 1) 4095 old new
      → OnOk result (part (4096 * (log.next % log.size) + 1) 4095 new ≡ map written (with_lap (log.next / log.size) (first_body hand.pages))) → IsAsked keep log result old new
  body_asked phase here shut stays right goes beside put =
      let o = 4096 * (log.next % log.size) in
      let all = hold_all phase here in
      let page : page_at new log.size log.next ≡ safe_byte 0 ∷ part (o + 1) 4095 new = body_put old new (log.next % log.size) beside shut in
      record {
        done = on_ok_weaker result (λ is. to_advanced phase here _ goes
            (tied_written keep log old new tied all (o + 1) 4095 _ beside (omega arith) (omega arith)
            (record { rest = _; closed = page }, ap body_of page ∙ ap values is ∙ values-written (with_lap (log.next / log.size) (first_body hand.pages)), right))) put;
        failed = always_err result (tied_written keep log old new tied all (o + 1) 4095 log.hand beside (omega arith) (omega arith)
            (still phase here (page_at new log.size log.next) (stays (page_at new log.size log.next) (record { rest = _; closed = page }))));
        earlier = earlier_written keep log old new tied all (o + 1) 4095 beside (omega arith) (omega arith);
      }

  pub first_body_asked : IsInHand log hand Fresh → log.next / log.size ≡ 0 → lap_of (with_lap (log.next / log.size) (first_body hand.pages)) ≡ log.next / log.size → Beside (4096 * (log.next % log.size) + 1) 4095 old new
      → OnOk result (part (4096 * (log.next % log.size) + 1) 4095 new ≡ map written (with_lap (log.next / log.size) (first_body hand.pages))) → IsAsked keep log result old new
  first_body_asked here none right beside put =
      body_asked Fresh here (shut (phase_now Fresh here)) (λ page is. inl is) right (ap (λ (n : ℕ). in_phase log hand (first_phase n)) none) beside put
    where
      shut : IsAbsent (log.next / log.size) (page_at old log.size log.next) → IsShut (page_at old log.size log.next)
      shut (inl is) = is
      shut (inr other) = absurd (omega (arith, other.0, none))

  pub next_body_asked : IsInHand log hand ShutSafe → lap_of (with_lap (log.next / log.size) (first_body hand.pages)) ≡ log.next / log.size → Beside (4096 * (log.next % log.size) + 1) 4095 old new
      → OnOk result (part (4096 * (log.next % log.size) + 1) 4095 new ≡ map written (with_lap (log.next / log.size) (first_body hand.pages))) → IsAsked keep log result old new
  next_body_asked here right beside put = body_asked ShutSafe here (phase_now ShutSafe here) (λ page is. is) right refl beside put

  -- the gate that is to be shut
  pub shut_asked : IsInHand log hand Fresh → log.next / log.size ≢ 0 → 4096 * (log.next % log.size) + 1 ≤ length new → IsGateShut (4096 * (log.next % log.size)) result old new → IsAsked keep log result old new
  shut_asked here later long (inl same) =
      let o = 4096 * (log.next % log.size) in
      let now = phase_now Fresh here in
      let shut : OnOk result (IsTied keep (advanced log) old) = on_ok_weaker result (λ zero_value. to_shut (gate_of zero_value)) same.1 in
      record {
        done = subst (λ l. OnOk result (IsTied keep (advanced log) l)) (sym same.0) shut;
        failed = always_err result (subst (λ l. IsTied keep log l) (sym same.0) tied);
        earlier = λ k above less. ap (λ l. page_at l log.size k) same.0;
      }
    where
      gate_of : slice_index (values (part (4096 * (log.next % log.size)) 1 old)) 0 ≡ 0 → slice_index (values (page_at old log.size log.next)) 0 ≡ 0
      gate_of is = sym (ap (λ l. slice_index (values l) 0) (gate_of_page old (log.next % log.size)) ∙ gate_value (page_at old log.size log.next)) ∙ is

      to_shut : slice_index (values (page_at old log.size log.next)) 0 ≡ 0 → IsTied keep (advanced log) old
      to_shut is = subst (λ l. IsTied keep l old) (sym (advanced_is log hand Fresh here ∙ goes))
          (record { from = tied.from; room = tied.room; stands = tied.stands; at_next = (phase_now Fresh here, is); later = tied.later })
        where
          goes : advanced_by log hand Fresh ≡ in_phase log hand GateShut
          goes = ap (λ (b : Bool). in_phase log hand (cond b BodyWritten GateShut)) (other_than (log.next / log.size) later)
  shut_asked here later long (inr wrote) = from (phase_now Fresh here)
    where
      o : ℕ
      o = 4096 * (log.next % log.size)

      goes : advanced_by log hand Fresh ≡ in_phase log hand GateShut
      goes = ap (λ (b : Bool). in_phase log hand (cond b BodyWritten GateShut)) (other_than (log.next / log.size) later)

      is_zero : IsShut (page_at old log.size log.next) → slice_index (values (part (4096 * (log.next % log.size)) 1 old)) 0 ≡ 0
      is_zero shut = ap (λ l. slice_index (values l) 0) (gate_of_page old (log.next % log.size)) ∙ gate_value (page_at old log.size log.next) ∙ ap (λ l. slice_index (values l) 0) shut.closed

      from : IsAbsent (log.next / log.size) (page_at old log.size log.next) → IsAsked keep log result old new
      from (inl shut) = absurd (wrote.0 (is_zero shut))
      from (inr other) =
          let all = hold_all Fresh here in
          let at = 4096 * (log.next % log.size) in
          let rest = map safe_byte other.1.body in
          let gate : (g : Byte) × (part at 1 new ≡ g ∷ []) = one_byte (part at 1 new) (omega (arith, length-take 1 (drop at new), length-drop at new)) in
          let page : page_at new log.size log.next ≡ part at 1 new ++ rest = gate_put old new (log.next % log.size) other.1.gate rest wrote.1 other.1.bytes in
          let absent : IsAbsent (log.next / log.size) (page_at new log.size log.next) = inr (other.0, record { gate = gate.0; body = other.1.body; other_lap = other.1.other_lap; bytes = page ∙ ap (λ l. l ++ rest) gate.1 }) in
          record {
            done = on_ok_weaker result (λ put. to_advanced Fresh here _ goes (tied_written keep log old new tied all at 1 _ wrote.1 (omega arith) (omega arith)
                (absent, ap (λ l. slice_index (values l) 0) (page ∙ ap (λ l. l ++ rest) put)))) wrote.2;
            failed = always_err result (tied_written keep log old new tied all at 1 log.hand wrote.1 (omega arith) (omega arith) (still Fresh here (page_at new log.size log.next) absent));
            earlier = earlier_written keep log old new tied all at 1 wrote.1 (omega arith) (omega arith);
          }

  -- the sync behind it
  pub shut_synced : IsInHand log hand GateShut → EachPair IsKeptOrSynced old new → OnOk result (new ≡ map synced old) → IsAsked keep log result old new
  shut_synced here each synced_all =
      let all = hold_all GateShut here in
      let now = phase_now GateShut here in
      let pages = page_kept old new (log.next % log.size) each in
      record {
        done = on_ok_weaker result (λ is. to_advanced GateShut here _ refl (tied_kept keep log old new tied all _ each (is_shut now.0 now.1 (page_synced old new (log.next % log.size) is)))) synced_all;
        failed = always_err result (tied_kept keep log old new tied all log.hand each (still GateShut here (page_at new log.size log.next)
            (absent_kept (log.next / log.size) _ _ now.0 pages, ap (λ (l : List ℕ). slice_index l 0) (values_kept _ _ pages) ∙ now.1)));
        earlier = earlier_kept keep log old new tied all each;
      }
    where
      is_shut : IsAbsent (log.next / log.size) (page_at old log.size log.next) → slice_index (values (page_at old log.size log.next)) 0 ≡ 0
          → page_at new log.size log.next ≡ map synced (page_at old log.size log.next) → IsShut (page_at new log.size log.next)
      is_shut (inl shut) value is = record { rest = map synced shut.rest; closed = is ∙ ap (map synced) shut.closed }
      is_shut (inr other) value is =
          let zero_gate : other.1.gate.value ≡ 0 = sym (ap (λ l. slice_index (values l) 0) other.1.bytes) ∙ value in
          record { rest = map synced (map safe_byte other.1.body); closed = is ∙ ap (map synced) other.1.bytes ∙ ap (λ (n : ℕ). safe_byte n ∷ map synced (map safe_byte other.1.body)) zero_gate }

  -- the sync behind the body
  pub body_synced : IsInHand log hand BodyWritten → EachPair IsKeptOrSynced old new → OnOk result (new ≡ map synced old) → IsAsked keep log result old new
  body_synced here each synced_all =
      let all = hold_all BodyWritten here in
      let now = phase_now BodyWritten here in
      let pages = page_kept old new (log.next % log.size) each in
      record {
        done = on_ok_weaker result (λ is. to_advanced BodyWritten here _ refl (tied_kept keep log old new tied all _ each (safe_byte 0, refl, safe_page is, now.2))) synced_all;
        failed = always_err result (tied_kept keep log old new tied all log.hand each (still BodyWritten here (page_at new log.size log.next)
            (shut_kept _ _ now.0 pages, values_kept _ _ (AllZip-drop IsKeptOrSynced 1 _ _ pages) ∙ now.1, now.2)));
        earlier = earlier_kept keep log old new tied all each;
      }
    where
      safe_page : new ≡ map synced old → page_at new log.size log.next ≡ safe_byte 0 ∷ map safe_byte (with_lap (log.next / log.size) (first_body hand.pages))
      safe_page is =
          let now = phase_now BodyWritten here in
          page_synced old new (log.next % log.size) is ∙ ap (map synced) now.0.closed
          ∙ ap (λ (l : List Byte). safe_byte 0 ∷ l) (synced_values now.0.rest ∙ ap (map safe_byte) (sym (ap body_of now.0.closed) ∙ now.1))

  -- the gate
  pub gate_asked : IsInHand log hand BodySafe → 4096 * (log.next % log.size) + 1 ≤ length new → Beside (4096 * (log.next % log.size)) 1 old new → AreUnsafe (part (4096 * (log.next % log.size)) 1 new)
      → OnOk result (part (4096 * (log.next % log.size)) 1 new ≡ written 1 ∷ []) → IsAsked keep log result old new
  gate_asked here long beside torn put =
      let all = hold_all BodySafe here in
      let at = 4096 * (log.next % log.size) in
      let now = phase_now BodySafe here in
      let rest = map safe_byte (with_lap (log.next / log.size) (first_body hand.pages)) in
      let gate : (g : Byte) × (part at 1 new ≡ g ∷ []) = one_byte (part at 1 new) (omega (arith, length-take 1 (drop at new), length-drop at new)) in
      let page : page_at new log.size log.next ≡ part at 1 new ++ rest = gate_put old new (log.next % log.size) now.0 rest beside now.2 in
      record {
        done = on_ok_weaker result (λ is. to_advanced BodySafe here _ refl (tied_written keep log old new tied all at 1 _ beside (omega arith) (omega arith)
            (written 1, refl, page ∙ ap (λ l. l ++ rest) is, now.3))) put;
        failed = always_err result (tied_written keep log old new tied all at 1 log.hand beside (omega arith) (omega arith) (still BodySafe here (page_at new log.size log.next)
            (gate.0, ap is_open_gate (unsafe_gate gate.0 (part at 1 new) gate.1 torn), page ∙ ap (λ l. l ++ rest) gate.1, now.3)));
        earlier = earlier_written keep log old new tied all at 1 beside (omega arith) (omega arith);
      }
    where
      unsafe_gate : (g : Byte) (bytes : List Byte) → bytes ≡ g ∷ [] → AreUnsafe bytes → g.safe ≡ None
      unsafe_gate g bytes is torn = subst AreUnsafe is torn 0 g (omega arith)

  -- the page is whole behind it
  pub gate_whole : IsInHand log hand GateWritten → new ≡ map synced old → IsWhole (log.next / log.size) (with_lap (log.next / log.size) (first_body hand.pages)) (page_at new log.size log.next)
  gate_whole here is =
      let now = phase_now GateWritten here in
      record {
        gate = 1;
        open_gate = (λ e. omega arith);
        has_lap = now.3;
        bytes = page_synced old new (log.next % log.size) is ∙ ap (map synced) now.2 ∙ (λ i. safe_byte (now.1 i) ∷ synced-safe (with_lap (log.next / log.size) (first_body hand.pages)) i);
      }

  -- the sync behind the gate
  pub gate_synced : IsInHand log hand GateWritten → EachPair IsKeptOrSynced old new → OnOk result (new ≡ map synced old) → IsAsked keep log result old new
  gate_synced here each synced_all =
      let all = hold_all GateWritten here in
      let now = phase_now GateWritten here in
      let bytes = with_lap (log.next / log.size) (first_body hand.pages) in
      let pages = page_kept old new (log.next % log.size) each in
      record {
        done = on_ok_weaker result (λ is. to_advanced GateWritten here _ refl (tied_on keep log old new tied all _ (lowered hand.unit log.reserved) (omega (arith, total-lowered hand.unit log.reserved here.hold)) each
            (record {
              body = bytes;
              whole = gate_whole here is;
            })
            (fresh hand.pages))) synced_all;
        failed = always_err result (tied_kept keep log old new tied all log.hand each (still GateWritten here (page_at new log.size log.next)
            (kept_gate now.0 bytes (page_at new log.size log.next) now.1 now.3 (subst (λ l. AllZip IsKeptOrSynced l (page_at new log.size log.next)) now.2 pages))));
        earlier = earlier_kept keep log old new tied all each;
      }
    where
      kept_gate : (g : Byte) (body : List ℕ) (page : List Byte) → g.value ≡ 1 → lap_of body ≡ log.next / log.size → AllZip IsKeptOrSynced (g ∷ map safe_byte body) page
          → (h : Byte) × (h.value ≡ 1) × (page ≡ h ∷ map safe_byte body) × (lap_of body ≡ log.next / log.size)
      kept_gate g body [] one right each = absurd each
      kept_gate g body (h ∷ page) one right each = (h, ⊎_elim (λ same. ap (λ b. b.value) same ∙ one) (λ same. ap (λ b. b.value) same ∙ one) each.0, ap (λ l. h ∷ l) (safe_kept body page each.1), right)

      fresh : (pages : List (List ℕ)) (lap : ℕ) (page : List Byte) → IsAbsent lap page → AtNext lap (after_page hand pages) page
      fresh [] lap page absent = absent
      fresh (body ∷ []) lap page absent = absent
      fresh (body ∷ next ∷ pages) lap page absent = absent
