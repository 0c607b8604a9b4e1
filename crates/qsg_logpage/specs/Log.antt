-- what a writer of a log has in hand, and what it has on its device by then
use Rattle.std.specs.Prelude.{Result, OnOk, OnErr, ◌≢◌, ◌≡◌, ◌⊎◌, ℕ, ◌+◌, ◌-◌, ◌/◌, ◌<◌, ◌≤◌, min, slice_index, List, [], ◌∷◌, ◌++◌, length, map, Option, Some, None, Bool, true, false, if◌then◌else◌, ◌==◌}
use Rattle.qsg_disk.specs.Byte.{Byte, safe_byte, written, values, part, Beside}
use Rattle.qsg_num.specs.declared.ids.UnitName.{UnitName}
use Rattle.qsg_num.specs.Ids.{same_unit}
use Rattle.qsg_logpage.specs.declared.table.Reservation.{Reservation}
use Rattle.qsg_logpage.specs.declared.step.Phase.{Phase}
use Rattle.qsg_logpage.specs.declared.step.Phase.TheVariants.{Fresh, GateShut, ShutSafe, BodyWritten, BodySafe, GateWritten}
use Rattle.qsg_logpage.specs.declared.step.InHand.{InHand}
use Rattle.qsg_logpage.specs.declared.step.LogStep.{LogStep}
use Rattle.qsg_logpage.specs.declared.step.LogStep.TheVariants as step
use Rattle.qsg_logpage.specs.Page.{page_at, lap_of, is_open_gate, body_of, with_lap, open_pages, log_pages, IsWhole, IsStanding, IsShut, IsAbsent}
use Rattle.qsg_logpage.specs.Reserved.{besides, lowered, total}

-- the pages of a run that aren't safe yet, and how far the first of them is
pub record Hand : Type 0 where
  pub unit : UnitName
  pub pages : List (List ℕ)
  pub phase : Phase

-- a writer: the pages of its log, the number of the page that it writes next, what is reserved, and the run in hand
pub record LogState : Type 0 where
  pub size : ℕ
  pub next : ℕ
  pub reserved : List Reservation
  pub hand : Option Hand

-- whether a run of that unit is in hand
abbrev pub has_run : UnitName → LogState → Bool
has_run unit log = elim log.hand [ None ↦ false | Some hand ↦ same_unit hand.unit unit ]

-- The pages free for a unit: those of the log but for the ones from keep to the next and those reserved by
-- others, and no more than page numbers are left. A difference below 0 counts as none.
abbrev pub free : UnitName → ℕ → LogState → ℕ
free unit keep log =
    min (log.size - (log.next - keep) - total (besides unit log.reserved)) (4290000000 - log.next - total (besides unit log.reserved))

-- the first page of a run
abbrev pub first_body : List (List ℕ) → List ℕ
first_body [] = []
first_body (body ∷ pages) = body

-- the page in hand, if there is one, with its own lap
abbrev pub hand_body : ℕ → Option Hand → List (List ℕ)
hand_body lap None = []
hand_body lap (Some hand) = with_lap lap (first_body hand.pages) ∷ []

-- what a page has on the device at each phase
abbrev pub InPhase : Phase → ℕ → List ℕ → List Byte → Type 0
InPhase Fresh lap body page = IsAbsent lap page
InPhase GateShut lap body page = IsAbsent lap page × (slice_index (values page) 0 ≡ 0)
InPhase ShutSafe lap body page = IsShut page
InPhase BodyWritten lap body page = IsShut page × (body_of page ≡ body) × (lap_of body ≡ lap)
InPhase BodySafe lap body page = (gate : Byte) × (is_open_gate gate.safe ≡ false) × (page ≡ gate ∷ map safe_byte body) × (lap_of body ≡ lap)
InPhase GateWritten lap body page = (gate : Byte) × (gate.value ≡ 1) × (page ≡ gate ∷ map safe_byte body) × (lap_of body ≡ lap)

abbrev pub AtNext : ℕ → Option Hand → List Byte → Type 0
AtNext lap None page = IsAbsent lap page
AtNext lap (Some hand) page = InPhase hand.phase lap (with_lap lap (first_body hand.pages)) page

-- The device has what the writer has written: pages from keep on stand, and later ones are absent.
pub record IsTied (keep : ℕ) (log : LogState) (bytes : List Byte) : Type 0 where
  pub from : keep ≤ log.next
  pub room : log.next + total log.reserved ≤ keep + log.size
  pub stands : (k : ℕ) → keep ≤ k → k < log.next → IsStanding (k / log.size) (page_at bytes log.size k)
  pub at_next : AtNext (log.next / log.size) log.hand (page_at bytes log.size log.next)
  pub later : (k : ℕ) → log.next < k → k < log.next + log.size → IsAbsent (k / log.size) (page_at bytes log.size k)

-- the run after its first page is safe
abbrev pub after_page : Hand → List (List ℕ) → Option Hand
after_page hand [] = None
after_page hand (body ∷ []) = None
after_page hand (body ∷ next ∷ pages) = Some (record { unit = hand.unit; pages = next ∷ pages; phase = Fresh })

abbrev pub in_phase : LogState → Hand → Phase → LogState
in_phase log hand phase = record log { hand = Some (record hand { phase = phase }) }

-- the first phase of a page of a lap: a page of lap 0 has no gate to shut
abbrev pub first_phase : ℕ → Phase
first_phase lap = if lap == 0 then BodyWritten else GateShut

abbrev pub advanced_by : LogState → Hand → Phase → LogState
advanced_by log hand Fresh = in_phase log hand (first_phase (log.next / log.size))
advanced_by log hand GateShut = in_phase log hand ShutSafe
advanced_by log hand ShutSafe = in_phase log hand BodyWritten
advanced_by log hand BodyWritten = in_phase log hand BodySafe
advanced_by log hand BodySafe = in_phase log hand GateWritten
advanced_by log hand GateWritten = record log { next = log.next + 1; reserved = lowered hand.unit log.reserved; hand = after_page hand hand.pages }

-- the writer after its next step
abbrev pub advanced : LogState → LogState
advanced log = elim log.hand [ None ↦ log | Some hand ↦ advanced_by log hand hand.phase ]

-- the pages that the next step makes safe: the one in hand, with its own lap, where only the sync of its gate is left
abbrev pub made_by : LogState → Hand → Phase → List (List ℕ)
made_by log hand Fresh = []
made_by log hand GateShut = []
made_by log hand ShutSafe = []
made_by log hand BodyWritten = []
made_by log hand BodySafe = []
made_by log hand GateWritten = with_lap (log.next / log.size) (first_body hand.pages) ∷ []

abbrev pub made_safe : LogState → List (List ℕ)
made_safe log = elim log.hand [ None ↦ [] | Some hand ↦ made_by log hand hand.phase ]

abbrev pub AreWhole : ℕ → List (List ℕ) → List Byte → Type 0
AreWhole lap [] page = Unit {0}
AreWhole lap (body ∷ bodies) page = IsWhole lap body page

-- the pages that a writer has written, from page `keep` on
abbrev pub pages_written : ℕ → LogState → List Byte → List (List ℕ)
pages_written keep log bytes = open_pages bytes log.size keep (log.next - keep)

abbrev pub step_at : LogState → Phase → LogStep
step_at log Fresh = if log.next / log.size == 0 then step.BodyWritten else step.GateShut
step_at log GateShut = step.ShutSafe
step_at log ShutSafe = step.BodyWritten
step_at log BodyWritten = step.BodySafe
step_at log BodySafe = step.GateWritten
step_at log GateWritten = step.PageSafe (record { number = log.next })

-- what its next step answers
abbrev pub step_of : LogState → Option LogStep
step_of log = elim log.hand [ None ↦ None | Some hand ↦ Some (step_at log hand.phase) ]

-- A log after a power cut: the pages from keep to before the page in hand, with that page or without.
pub record IsCutShort (keep : ℕ) (log : LogState) (old new : List Byte) : Type 0 where
  pub earlier : (k : ℕ) → keep ≤ k → k < log.next → page_at new log.size k ≡ page_at old log.size k
  pub pages : (log_pages new log.size keep ≡ pages_written keep log old)
      ⊎ (log_pages new log.size keep ≡ pages_written keep log old ++ hand_body (log.next / log.size) log.hand)
  -- a writer that goes on behind them
  pub tied : IsTied keep (record { size = log.size; next = keep + length (log_pages new log.size keep); reserved = []; hand = None }) new

abbrev pub is_body_safe : Phase → Bool
is_body_safe Fresh = false
is_body_safe GateShut = false
is_body_safe ShutSafe = false
is_body_safe BodyWritten = false
is_body_safe BodySafe = true
is_body_safe GateWritten = true

-- the page in hand, whether it is the run's last, and whether its body is safe
abbrev pub in_hand_of : LogState → Option InHand
in_hand_of log = elim log.hand [ None ↦ None | Some hand ↦ Some (record { page = record { number = log.next }; last = length hand.pages == 1; body_safe = is_body_safe hand.phase }) ]

-- What the device call of a step has done: where it succeeded, the step; where it failed, nothing. Other pages from keep on stay.
pub record IsAsked {T E : Type 0} (keep : ℕ) (log : LogState) (result : Result T E) (old new : List Byte) : Type 0 where
  pub done : OnOk result (IsTied keep (advanced log) new)
  pub failed : OnErr result (IsTied keep log new)
  pub earlier : (k : ℕ) → keep ≤ k → k < log.next → page_at new log.size k ≡ page_at old log.size k

-- A gate at an offset that is to be 0: it was, or it was written.
abbrev pub IsGateShut : {T E : Type 0} → ℕ → Result T E → List Byte → List Byte → Type 0
IsGateShut at result old new =
    ((new ≡ old) × OnOk result (slice_index (values (part at 1 old)) 0 ≡ 0))
    ⊎ ((slice_index (values (part at 1 old)) 0 ≢ 0) × Beside at 1 old new × OnOk result (part at 1 new ≡ written 0 ∷ []))

-- where a run is in hand, a page is reserved
abbrev pub IsHeld : LogState → Type 0
IsHeld log = (log.hand ≡ None) ⊎ (1 ≤ total log.reserved)
