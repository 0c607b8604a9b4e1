-- what the log of a member tells of its units
use Rattle.std.specs.Prelude.{◌≡◌, ℕ, ◌+◌, ◌<◌, Bool, true, false, ◌==◌, ◌&&◌, if◌then◌else◌, List, [], ◌∷◌, ◌++◌, length, Option, None, Some}
use Rattle.std.specs.List.{list_all}
use Rattle.qsg_num.specs.declared.ids.UnitName.{UnitName}
use Rattle.qsg_num.specs.declared.seats.StructNo.{StructNo}
use Rattle.qsg_disk.specs.Byte.{Byte}
use Rattle.qsg_logpage.specs.declared.step.Phase.{Phase}
use Rattle.qsg_logpage.specs.declared.step.Phase.TheVariants.{Fresh, GateShut, ShutSafe, BodyWritten, BodySafe, GateWritten}
use Rattle.qsg_logpage.specs.Page.{log_pages}
use Rattle.qsg_logpage.specs.Log.{Hand, LogState, IsTied, pages_written}
use Rattle.qsg_logrec.specs.declared.record.LogRecord.{LogRecord}
use Rattle.qsg_logread.specs.Records.{AreRecords, PagesJoin}
use Rattle.qsg_logread.specs.Logs.{lapped, IsLogOf}
use Rattle.qsg_group.specs.Group.{Run}
use Rattle.qsg_unitlog.specs.Units.{run_records, run_pages, is_beside, AreOf, AreApart}

-- Behind this record that is unfinished, or none, the pages have records that commit no unit and are of operations
-- of units in `gone` if of any.
pub record IsBeside (gone : List UnitName) (begun : Option (List ℕ)) (pages : List (List ℕ)) : Type 0 where
  pub records : List LogRecord
  pub after : Option (List ℕ)
  pub joins : PagesJoin begun pages records after
  pub beside : list_all (is_beside gone) records ≡ true

-- the same behind any record
abbrev pub AreBeside : List UnitName → List (List ℕ) → Type 0
AreBeside gone pages = (begun : Option (List ℕ)) → IsBeside gone begun pages

-- From page `first` of a log of `size` pages on these pages are those of the runs, each from its own first page on,
-- and between them others that commit no unit.
abbrev pub Stand : ℕ → List UnitName → ℕ → List Run → List (List ℕ) → Type 0
Stand size gone first [] pages = AreBeside gone pages
Stand size gone first (run ∷ runs) pages =
    (others : List (List ℕ)) × (structures : List StructNo) × (more : List (List ℕ))
    × (pages ≡ others ++ (lapped size run.first (run_pages run.unit run.told structures) ++ more))
    × (run.first ≡ first + length others)
    × AreBeside gone others
    × AreRecords (run_records run.unit run.told structures)
    × Stand size gone (run.first + length (run_pages run.unit run.told structures)) runs more

-- The run in hand begins at page `first`: its safe pages are the first ones of its run's, and the writer has the others.
pub record IsInHand (log : LogState) (first : ℕ) (run : Run) (safe : List (List ℕ)) : Type 0 where
  pub first_is : run.first ≡ first
  pub hand : Hand
  pub hand_is : log.hand ≡ Some hand
  pub left : 0 < length hand.pages
  pub structures : List StructNo
  pub each : AreRecords (run_records run.unit run.told structures)
  pub front : List (List ℕ)
  pub pages_are : run_pages run.unit run.told structures ≡ front ++ hand.pages
  pub safe_are : safe ≡ lapped log.size first front

abbrev pub InHand : LogState → ℕ → Option Run → List (List ℕ) → Type 0
InHand log first None safe = (log.hand ≡ None) × (safe ≡ [])
InHand log first (Some run) safe = IsInHand log first run safe

-- the run in hand, if there is one
abbrev pub as_list : Option Run → List Run
as_list None = []
as_list (Some run) = run ∷ []

-- What the bytes of a log tell, from page `keep` on, as its writer goes on with it: these runs are whole in it, the
-- first pages of the run in hand are, and units in `gone` have left pages of runs that were never whole.
pub record Tells (keep : ℕ) (log : LogState) (gone : List UnitName) (runs : List Run) (hand : Option Run) (bytes : List Byte) : Type 0 where
  pub tied : IsTied keep log bytes
  -- the pages before the run in hand, and those of it that are safe
  pub before : List (List ℕ)
  pub safe : List (List ℕ)
  pub pages : pages_written keep log bytes ≡ before ++ safe
  pub stand : Stand log.size gone keep runs before
  pub in_hand : InHand log (keep + length before) hand safe
  pub apart : AreApart gone (runs ++ as_list hand)

-- ---- changes

abbrev pub is_gate_written : Phase → Bool
is_gate_written Fresh = false
is_gate_written GateShut = false
is_gate_written ShutSafe = false
is_gate_written BodyWritten = false
is_gate_written BodySafe = false
is_gate_written GateWritten = true

-- whether the next step makes the last page of the run in hand safe
abbrev pub ends_run : LogState → Bool
ends_run log = elim log.hand [ None ↦ false | Some hand ↦ is_gate_written hand.phase && (length hand.pages == 1) ]

-- the runs and the run in hand after that step
abbrev pub runs_after : LogState → List Run → Run → List Run
runs_after log runs run = if ends_run log then runs ++ run ∷ [] else runs

abbrev pub hand_after : LogState → Run → Option Run
hand_after log run = if ends_run log then None else Some run

-- whether the last page of a run is in hand
abbrev pub is_last : LogState → Bool
is_last log = elim log.hand [ None ↦ false | Some hand ↦ length hand.pages == 1 ]

-- a writer that goes on with a log after a power cut
abbrev pub after_cut : ℕ → LogState → List Byte → LogState
after_cut keep log new = record { size = log.size; next = keep + length (log_pages new log.size keep); reserved = []; hand = None }

-- whether the cut left the page in hand whole
abbrev pub is_left_whole : ℕ → LogState → List Byte → Bool
is_left_whole keep log new = keep + length (log_pages new log.size keep) == log.next + 1

-- whether the cut left the run in hand whole
abbrev pub is_run_whole : ℕ → LogState → List Byte → Bool
is_run_whole keep log new = is_last log && is_left_whole keep log new

-- a log after a power cut that came while this run was in hand: either it is whole in the log, or it has no commit there
pub record IsCutDown (keep : ℕ) (log : LogState) (gone : List UnitName) (runs : List Run) (run : Run) (new : List Byte) : Type 0 where
  pub whole : is_run_whole keep log new ≡ true → Tells keep (after_cut keep log new) gone (runs ++ run ∷ []) None new
  pub torn : is_run_whole keep log new ≡ false → Tells keep (after_cut keep log new) (run.unit ∷ gone) runs None new

-- the records of a log are those of these runs
pub record HasRecords (keep : ℕ) (log : LogState) (gone : List UnitName) (runs : List Run) (bytes : List Byte) : Type 0 where
  pub records : List LogRecord
  pub log_of : IsLogOf records bytes log.size keep
  pub are : AreOf gone runs records
