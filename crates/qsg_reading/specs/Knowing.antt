-- what a reader of a member's log knows of the units of an incarnation
use Rattle.std.specs.Prelude.{◌≡◌, Bool, true, false, Option, Some, None}
use Rattle.qsg_num.specs.declared.seats.Member.{Member}
use Rattle.qsg_num.specs.declared.ids.Incarnation.{Incarnation}
use Rattle.qsg_num.specs.declared.ids.UnitName.{UnitName}
use Rattle.qsg_lists.specs.Marks.{is_unit_of}
use Rattle.qsg_logread.specs.Fed.{Fed, is_committed}
use Rattle.qsg_group.specs.Group.{Run, Log}
use Rattle.qsg_group.specs.Observers.{has_run, runs_from}

-- the unit is one of the incarnation of the member
abbrev pub is_of : Member × Incarnation → UnitName → Bool
is_of life u = is_unit_of life.0 life.1 u

-- a reader knows of each unit of the incarnation whether its run is in the log, from the low page on
abbrev pub Knows : Member × Incarnation → Fed → Log → Type 0
Knows life reader log = (u : UnitName) → is_of life u ≡ true → is_committed u reader.commits ≡ has_run u (runs_from log.low log.runs)

-- the run in hand, if there is one, is that of no unit of the incarnation
abbrev pub IsOfOthers : Member × Incarnation → Option Run → Type 0
IsOfOthers life None = Unit {0}
IsOfOthers life (Some run) = is_of life run.unit ≡ false

-- of the units of the incarnation both logs have the same runs, from the same low page on
pub record AgreeOn (life : Member × Incarnation) (old new : Log) : Type 0 where
  pub low : new.low ≡ old.low
  pub runs : (u : UnitName) → is_of life u ≡ true → has_run u (runs_from new.low new.runs) ≡ has_run u (runs_from old.low old.runs)
