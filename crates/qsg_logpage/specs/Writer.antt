-- what a writer's fields stand for
use Rattle.std.specs.Prelude.{⊤, ◌+◌, ◌-◌, ◌<◌, ◌≤◌, length, drop, List, Option, Some, None}
use Rattle.qsg_logpage.specs.declared.table.Reservation.{Reservation}
use Rattle.qsg_logpage.specs.declared.writer.LogWriter.TheInside.{Inside}
use Rattle.qsg_logpage.specs.declared.writer.Run.{Run}
use Rattle.qsg_logpage.specs.Reserved.{total, pages_for}
use Rattle.qsg_logpage.specs.Log.{Hand, LogState}

abbrev pub hand_of : Option Run → Option Hand
hand_of None = None
hand_of (Some run) = Some (record { unit = run.unit; pages = drop run.at run.pages; phase = run.phase })

abbrev pub state_of : Inside → LogState
state_of log = record { size = log.size; next = log.next.number; reserved = log.table; hand = hand_of log.run }

-- a run in hand has a page left, and no more than its unit reserved
abbrev pub IsRun : List Reservation → Option Run → Type 0
IsRun reserved None = ⊤
IsRun reserved (Some run) = (run.at < length run.pages) × (length run.pages - run.at ≤ pages_for run.unit reserved)

pub record IsWriter (log : Inside) : Type 0 where
  pub some : 0 < log.size
  pub left : log.next.number + total log.table ≤ 4290000000
  pub few : length log.table ≤ 8
  pub run : IsRun log.table log.run
