-- what the fields of a writer say of its value
use Rattle.std.proofs.Common.{◌≡◌, ◌≢◌, ◌⊎◌, inl, inr, ℕ, zero, suc, ◌+◌, ◌-◌, ◌*◌, ◌/◌, ◌%◌, ◌<◌, ◌≤◌, List, [], ◌∷◌, length, drop, map, Option, Some, None, false, refl, sym, ap, ◌∙◌, subst, arith, length-drop}
use Rattle.std.specs.Prelude.{slice_get, Result, Ok, Err, OnOk, OnErr}
use Rattle.std.proofs.lemmas.List.{drop-drop}
use Rattle.qsg_disk.specs.Byte.{Byte, written, synced, part, AreUnsafe, Beside, EachPair, IsKeptOrSynced}
use Rattle.qsg_num.specs.declared.ids.UnitName.{UnitName}
use Rattle.qsg_num.specs.Ids.{same_unit}
use Rattle.qsg_logpage.specs.declared.table.Reservation.{Reservation}
use Rattle.qsg_logpage.specs.declared.step.Phase.{Phase}
use Rattle.qsg_logpage.specs.declared.step.Phase.TheVariants.{Fresh, GateShut, ShutSafe, BodyWritten, BodySafe, GateWritten}
use Rattle.qsg_logpage.specs.declared.writer.LogWriter.TheInside.{Inside}
use Rattle.qsg_logpage.specs.declared.writer.Run.{Run}
use Rattle.qsg_logpage.specs.Page.{page_at, lap_of, with_lap}
use Rattle.qsg_logpage.specs.Reserved.{total, lowered, pages_for}
use Rattle.qsg_logpage.specs.Log.{Hand, LogState, IsTied, IsAsked, IsGateShut, IsHeld, first_body, after_page, advanced, advanced_by, AreWhole, made_by, made_safe}
use Rattle.qsg_logpage.specs.Writer.{hand_of, state_of, IsRun, IsWriter}
use Rattle.qsg_logpage.proofs.Totals.{pages_le_total}
use Rattle.qsg_logpage.proofs.Steps.{IsInHand, advanced_is, first_body_asked, next_body_asked, shut_asked, shut_synced, body_synced, gate_asked, gate_synced, gate_whole, always_ok}
use Rattle.qsg_logpage.proofs.Made.{whole_as}
use Rattle.std.proofs.lemmas.Result.{on_ok_weaker}

abbrev pub hand_of_run : Run → Hand
hand_of_run run = record { unit = run.unit; pages = drop run.at run.pages; phase = run.phase }

pub first-drop : (pages : List (List ℕ)) (at : ℕ) (body : List ℕ) → slice_get pages at ≡ Some body → body ≡ first_body (drop at pages)
first-drop [] at body is = absurd (cc)
first-drop (p ∷ pages) zero body is = cc
first-drop (p ∷ pages) (suc at) body is = first-drop pages at body is

module _ (inside : Inside) (run : Run) (some : inside.run ≡ Some run) (invariant : IsWriter inside) where
  fits : (run.at < length run.pages) × (length run.pages - run.at ≤ pages_for run.unit inside.table)
  fits = subst (IsRun inside.table) some invariant.run

  pub here : (phase : Phase) → run.phase ≡ phase → IsInHand (state_of inside) (hand_of_run run) phase
  here phase is = record { hand_is = ap hand_of some; phase_is = is; hold = omega (arith, fits.0, fits.1) }

  module _ {T E : Type 0} (log : LogState) (is : state_of inside ≡ log) (keep : ℕ) (old new : List Byte) (result : Result T E) (tied : IsTied keep log old) where
    inner : IsTied keep (state_of inside) old
    inner = subst (λ l. IsTied keep l old) (sym is) tied

    outer : IsAsked keep (state_of inside) result old new → IsAsked keep log result old new
    outer asked = subst (λ l. IsAsked keep l result old new) is asked

    body_is : (body : List ℕ) → slice_get run.pages run.at ≡ Some body → OnOk result (part (4096 * (inside.next.number % inside.size) + 1) 4095 new ≡ map written (with_lap (inside.next.number / inside.size) body))
        → OnOk result (part (4096 * (inside.next.number % inside.size) + 1) 4095 new ≡ map written (with_lap (inside.next.number / inside.size) (first_body (drop run.at run.pages))))
    body_is body found put = subst (λ (b : List ℕ). OnOk result (part (4096 * (inside.next.number % inside.size) + 1) 4095 new ≡ map written (with_lap (inside.next.number / inside.size) b))) (first-drop run.pages run.at body found) put

    lap_is : (body : List ℕ) → slice_get run.pages run.at ≡ Some body → lap_of (with_lap (inside.next.number / inside.size) body) ≡ inside.next.number / inside.size
        → lap_of (with_lap (inside.next.number / inside.size) (first_body (drop run.at run.pages))) ≡ inside.next.number / inside.size
    lap_is body found right = subst (λ (b : List ℕ). lap_of (with_lap (inside.next.number / inside.size) b) ≡ inside.next.number / inside.size) (first-drop run.pages run.at body found) right

    pub asked_first_body : run.phase ≡ Fresh → inside.next.number / inside.size ≡ 0 → (body : List ℕ) → slice_get run.pages run.at ≡ Some body
        → lap_of (with_lap (inside.next.number / inside.size) body) ≡ inside.next.number / inside.size
        → Beside (4096 * (inside.next.number % inside.size) + 1) 4095 old new
        → OnOk result (part (4096 * (inside.next.number % inside.size) + 1) 4095 new ≡ map written (with_lap (inside.next.number / inside.size) body)) → IsAsked keep log result old new
    asked_first_body phase none body found right beside put =
        outer (first_body_asked keep (state_of inside) (hand_of_run run) old new result inner (here Fresh phase) none (lap_is body found right) beside (body_is body found put))

    pub asked_next_body : run.phase ≡ ShutSafe → (body : List ℕ) → slice_get run.pages run.at ≡ Some body
        → lap_of (with_lap (inside.next.number / inside.size) body) ≡ inside.next.number / inside.size
        → Beside (4096 * (inside.next.number % inside.size) + 1) 4095 old new
        → OnOk result (part (4096 * (inside.next.number % inside.size) + 1) 4095 new ≡ map written (with_lap (inside.next.number / inside.size) body)) → IsAsked keep log result old new
    asked_next_body phase body found right beside put =
        outer (next_body_asked keep (state_of inside) (hand_of_run run) old new result inner (here ShutSafe phase) (lap_is body found right) beside (body_is body found put))

    pub asked_shut : run.phase ≡ Fresh → inside.next.number / inside.size ≢ 0 → 4096 * (inside.next.number % inside.size) + 1 ≤ length new
        → IsGateShut (4096 * (inside.next.number % inside.size)) result old new → IsAsked keep log result old new
    asked_shut phase later long shut = outer (shut_asked keep (state_of inside) (hand_of_run run) old new result inner (here Fresh phase) later long shut)

    pub asked_shut_sync : run.phase ≡ GateShut → EachPair IsKeptOrSynced old new → OnOk result (new ≡ map synced old) → IsAsked keep log result old new
    asked_shut_sync phase each all = outer (shut_synced keep (state_of inside) (hand_of_run run) old new result inner (here GateShut phase) each all)

    pub asked_body_sync : run.phase ≡ BodyWritten → EachPair IsKeptOrSynced old new → OnOk result (new ≡ map synced old) → IsAsked keep log result old new
    asked_body_sync phase each all = outer (body_synced keep (state_of inside) (hand_of_run run) old new result inner (here BodyWritten phase) each all)

    pub asked_gate : run.phase ≡ BodySafe → 4096 * (inside.next.number % inside.size) + 1 ≤ length new → Beside (4096 * (inside.next.number % inside.size)) 1 old new
        → AreUnsafe (part (4096 * (inside.next.number % inside.size)) 1 new) → OnOk result (part (4096 * (inside.next.number % inside.size)) 1 new ≡ written 1 ∷ []) → IsAsked keep log result old new
    asked_gate phase long beside torn put = outer (gate_asked keep (state_of inside) (hand_of_run run) old new result inner (here BodySafe phase) long beside torn put)

    pub asked_gate_sync : run.phase ≡ GateWritten → EachPair IsKeptOrSynced old new → OnOk result (new ≡ map synced old) → IsAsked keep log result old new
    asked_gate_sync phase each all = outer (gate_synced keep (state_of inside) (hand_of_run run) old new result inner (here GateWritten phase) each all)

    -- what each step makes whole
    pub made_none : (phase : Phase) → run.phase ≡ phase → made_by (state_of inside) (hand_of_run run) phase ≡ [] → OnOk result (AreWhole (log.next / log.size) (made_safe log) (page_at new log.size log.next))
    made_none phase at none = always_ok result (subst (λ (l : LogState). AreWhole (l.next / l.size) (made_safe l) (page_at new l.size l.next)) is
        (whole_as (state_of inside) (hand_of_run run) phase (page_at new inside.size inside.next.number) (here phase at)
        (subst (λ (bodies : List (List ℕ)). AreWhole (inside.next.number / inside.size) bodies (page_at new inside.size inside.next.number)) (sym none) tt)))

    pub made_whole : run.phase ≡ GateWritten → OnOk result (new ≡ map synced old) → OnOk result (AreWhole (log.next / log.size) (made_safe log) (page_at new log.size log.next))
    made_whole at all = on_ok_weaker result (λ synced_all. subst (λ (l : LogState). AreWhole (l.next / l.size) (made_safe l) (page_at new l.size l.next)) is
        (whole_as (state_of inside) (hand_of_run run) GateWritten (page_at new inside.size inside.next.number) (here GateWritten at)
        (gate_whole keep (state_of inside) (hand_of_run run) old new result inner (here GateWritten at) synced_all))) all

-- a run of another unit keeps its reservation
pub run_kept : (run : Option Run) (unit : UnitName) (rs rs2 : List Reservation) → (elim (hand_of run) [ None ↦ false | Some hand ↦ same_unit hand.unit unit ]) ≡ false
    → ((u : UnitName) → same_unit u unit ≡ false → pages_for u rs2 ≡ pages_for u rs) → IsRun rs run → IsRun rs2 run
run_kept None unit rs rs2 other same is = tt
run_kept (Some run) unit rs rs2 other same is = (is.0, omega (arith, is.1, same run.unit other))

-- the writer's value after the page in hand is safe

last_advanced : (log : LogState) (hand : Hand) → length hand.pages ≡ 1 → advanced_by log hand GateWritten ≡ record log { next = log.next + 1; reserved = lowered hand.unit log.reserved; hand = None }
last_advanced log hand one = ap (λ (h : Option Hand). record log { next = log.next + 1; reserved = lowered hand.unit log.reserved; hand = h }) (none hand.pages one)
  where
    none : (pages : List (List ℕ)) → length pages ≡ 1 → after_page hand pages ≡ None
    none [] one = refl
    none (p ∷ []) one = refl
    none (p ∷ q ∷ pages) one = absurd (omega arith)

more_advanced : (log : LogState) (hand : Hand) (rest : List (List ℕ)) → 1 < length hand.pages → rest ≡ drop 1 hand.pages
    → advanced_by log hand GateWritten ≡ record log { next = log.next + 1; reserved = lowered hand.unit log.reserved; hand = Some (record { unit = hand.unit; pages = rest; phase = Fresh }) }
more_advanced log hand rest more is = ap (λ (h : Option Hand). record log { next = log.next + 1; reserved = lowered hand.unit log.reserved; hand = h }) (some hand.pages more ∙ ap (λ (pages : List (List ℕ)). Some (record { unit = hand.unit; pages = pages; phase = Fresh })) (sym is))
  where
    some : (pages : List (List ℕ)) → 1 < length pages → after_page hand pages ≡ Some (record { unit = hand.unit; pages = drop 1 pages; phase = Fresh })
    some [] more = absurd (omega arith)
    some (p ∷ []) more = absurd (omega arith)
    some (p ∷ q ∷ pages) more = refl

module _ (inside : Inside) (run : Run) (log : LogState) (is : state_of inside ≡ log) (some : inside.run ≡ Some run) (invariant : IsWriter inside) (phase : run.phase ≡ GateWritten) where
  pub last_page : length run.pages - run.at ≡ 1 → advanced log ≡ record { size = inside.size; next = inside.next.number + 1; reserved = lowered run.unit inside.table; hand = None }
  last_page one =
      subst (λ (l : LogState). advanced l ≡ record { size = inside.size; next = inside.next.number + 1; reserved = lowered run.unit inside.table; hand = None }) is
      (advanced_is (state_of inside) (hand_of_run run) GateWritten (here inside run some invariant GateWritten phase)
      ∙ last_advanced (state_of inside) (hand_of_run run) (omega (arith, length-drop run.at run.pages)))

  pub more_pages : 1 < length run.pages - run.at
      → advanced log ≡ record { size = inside.size; next = inside.next.number + 1; reserved = lowered run.unit inside.table; hand = Some (record { unit = run.unit; pages = drop (run.at + 1) run.pages; phase = Fresh }) }
  more_pages more =
      subst (λ (l : LogState). advanced l ≡ record { size = inside.size; next = inside.next.number + 1; reserved = lowered run.unit inside.table; hand = Some (record { unit = run.unit; pages = drop (run.at + 1) run.pages; phase = Fresh }) }) is
      (advanced_is (state_of inside) (hand_of_run run) GateWritten (here inside run some invariant GateWritten phase)
      ∙ more_advanced (state_of inside) (hand_of_run run) (drop (run.at + 1) run.pages) (omega (arith, length-drop run.at run.pages)) (sym (drop-drop 1 run.at run.pages)))

-- more is reserved, or less
pub tied_reserved : (keep : ℕ) (log : LogState) (rs : List Reservation) (bytes : List Byte) → log.next + total rs ≤ keep + log.size → IsTied keep log bytes → IsTied keep (record log { reserved = rs }) bytes
tied_reserved keep log rs bytes room tied = record { from = tied.from; room = room; stands = tied.stands; at_next = tied.at_next; later = tied.later }

pub advanced-size : (log : LogState) → (advanced log).size ≡ log.size
advanced-size log = at log.hand
  where
    by_phase : (hand : Hand) (phase : Phase) → (advanced_by log hand phase).size ≡ log.size
    by_phase hand Fresh = refl
    by_phase hand GateShut = refl
    by_phase hand ShutSafe = refl
    by_phase hand BodyWritten = refl
    by_phase hand BodySafe = refl
    by_phase hand GateWritten = refl

    at : (h : Option Hand) → (elim h as (λ _. LogState) [ None ↦ log | Some hand ↦ advanced_by log hand hand.phase ]).size ≡ log.size
    at None = refl
    at (Some hand) = by_phase hand hand.phase

pub asked_ok : {T E : Type 0} (keep : ℕ) (log : LogState) (result : Result T E) (x : T) (old new : List Byte) → result ≡ Ok x → IsAsked keep log result old new → IsTied keep (advanced log) new
asked_ok keep log result x old new is asked = subst (λ r. OnOk r (IsTied keep (advanced log) new)) is asked.done

pub asked_err : {T E : Type 0} (keep : ℕ) (log : LogState) (result : Result T E) (e : E) (old new : List Byte) → result ≡ Err e → IsAsked keep log result old new → IsTied keep log new
asked_err keep log result e old new is asked = subst (λ r. OnErr r (IsTied keep log new)) is asked.failed

pub made_ok : {T E : Type 0} (log : LogState) (result : Result T E) (x : T) (new : List Byte) → result ≡ Ok x → OnOk result (AreWhole (log.next / log.size) (made_safe log) (page_at new log.size log.next)) → AreWhole (log.next / log.size) (made_safe log) (page_at new log.size log.next)
made_ok log result x new is made = subst (λ r. OnOk r (AreWhole (log.next / log.size) (made_safe log) (page_at new log.size log.next))) is made

-- where a run is in hand, a page is reserved
pub held : (inside : Inside) (log : LogState) → state_of inside ≡ log → IsWriter inside → IsHeld log
held inside log is invariant = subst IsHeld is (of inside.run invariant.run)
  where
    of : (run : Option Run) → IsRun inside.table run → (hand_of run ≡ None) ⊎ (1 ≤ total inside.table)
    of None fits = inl refl
    of (Some run) fits = inr (omega (arith, fits.0, fits.1, pages_le_total run.unit inside.table))
