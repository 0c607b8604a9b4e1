-- what a member does with the writer of its log
use Rattle.std.specs.Prelude.{ℕ, ◌+◌, ◌<◌, ◌≤◌, List, [], ◌∷◌, ◌++◌, length, Result, Ok, Err, Option, Some, None, nat_lt, if◌then◌else◌}
use Rattle.qsg_num.specs.declared.ids.UnitName.{UnitName}
use Rattle.qsg_logpage.specs.declared.table.Reservation.{Reservation}
use Rattle.qsg_logpage.specs.declared.step.Phase.TheVariants.{Fresh}
use Rattle.qsg_logpage.specs.declared.step.LogStep.{LogStep}
use Rattle.qsg_logpage.specs.declared.step.LogStep.TheVariants.{GateShut, ShutSafe, BodyWritten, BodySafe, GateWritten, PageSafe}
use Rattle.qsg_logpage.specs.declared.writer.NoLog.{NoLog}
use Rattle.qsg_logpage.specs.Reserved.{besides, total, pages_for}
use Rattle.qsg_logpage.specs.Log.{Hand, LogState, free}

-- a writer with so many pages reserved for a unit, in place of what the unit had
abbrev pub reserved : UnitName → ℕ → LogState → LogState
reserved unit pages writer = record writer { reserved = besides unit writer.reserved ++ record { unit = unit; pages = pages } ∷ [] }

-- one with nothing reserved for it
abbrev pub released : UnitName → LogState → LogState
released unit writer = record writer { reserved = besides unit writer.reserved }

-- one that takes a unit's run in hand
abbrev pub begun : UnitName → List (List ℕ) → LogState → LogState
begun unit pages writer = record writer { hand = Some (record { unit = unit; pages = pages; phase = Fresh }) }

-- the answer to a reservation: a refusal exactly where what is needed exceeds what is free
abbrev pub reserve_answer : UnitName → ℕ → ℕ → LogState → Result (Unit {0}) NoLog
reserve_answer unit need keep writer = if nat_lt (free unit keep writer) need then Err (record { need = need; free = free unit keep writer }) else Ok tt

-- the number of the page that is written next after a step
abbrev pub next_after : LogStep → ℕ → ℕ
next_after GateShut next = next
next_after ShutSafe next = next
next_after BodyWritten next = next
next_after BodySafe next = next
next_after GateWritten next = next
next_after (PageSafe page) next = page.number + 1

-- a run in hand has a page left, and its unit has as many reserved
abbrev pub IsRunReserved : List Reservation → Option Hand → Type 0
IsRunReserved reserved None = Unit {0}
IsRunReserved reserved (Some hand) = (0 < length hand.pages) × (length hand.pages ≤ pages_for hand.unit reserved)

-- What each writer keeps: no more is reserved than its log has pages, nor than there are page numbers left.
pub record IsWithin (writer : LogState) : Type 0 where
  pub some : 0 < writer.size
  pub small : writer.size < 1048576
  pub pages : total writer.reserved ≤ writer.size
  pub numbers : writer.next + total writer.reserved ≤ 4290000000
  pub run : IsRunReserved writer.reserved writer.hand

-- one of a log of so many pages that has none written
abbrev pub new_writer : ℕ → LogState
new_writer size = record { size = size; next = 0; reserved = []; hand = None }

-- one that has nothing in hand and nothing reserved, and writes this page next
abbrev pub idle_writer : ℕ → ℕ → LogState
idle_writer size next = record { size = size; next = next; reserved = []; hand = None }
