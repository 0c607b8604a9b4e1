-- the replay of a plan
use Rattle.std.specs.Prelude.{ℕ, ◌≡◌, Bool, true, false, List, Option, Some, None, IfSome}
use Rattle.qsg_num.specs.declared.seats.Member.{Member}
use Rattle.qsg_disk.specs.Byte.{Byte}
use Rattle.qsg_disk.specs.declared.kinds.Kind.{Kind}
use Rattle.qsg_devices.specs.Places.{device_bytes}
use Rattle.qsg_num.specs.declared.ids.Actor.{Actor}
use Rattle.qsg_objects.specs.declared.plans.Plan.{Plan}
use Rattle.qsg_schedule.specs.Course.{Course, listed, seeded}
use Rattle.qsg_report.specs.declared.shown.Shown.{Shown}
use Rattle.qsg_report.specs.Report.{report_text}
use Rattle.qsg_step.specs.States.{State}
use Rattle.qsg_sysplex.specs.Actors.{actors_of}
use Rattle.qsg_sysplex.specs.Kept.{IsKept}
use Rattle.qsg_sysplex.specs.Starting.{IsMade}
use Rattle.qsg_step.specs.Waiting.{told_to}
use Rattle.qsg_working.specs.Ends.{is_finished}
use Rattle.qsg_drive.specs.Runs.{Made, IsRun}
use Rattle.qsg_shown.specs.Showing.{IsShown}
use Rattle.qsg_run.specs.declared.status.Status.{Status}
use Rattle.qsg_run.specs.declared.status.Status.TheVariants.{Finished, Stuck}
use Rattle.qsg_run.specs.Shows.{waits_of}

-- the picks of a replay: drawn from a seed, or by the schedule
abbrev pub course_for : Option ℕ → List (Actor × ℕ) → List Actor → Course
course_for (Some n) schedule actors = seeded n actors
course_for None schedule actors = listed schedule actors 0

-- a run ended Finished exactly where every directive is answered and no system task has work
abbrev pub IsEnd : State → Status → Type 0
IsEnd s Finished = is_finished s ≡ true
IsEnd s Stuck = is_finished s ≡ false
IsEnd s other = ⊥

-- The text is the report of a state, which keeps all laws, that of the tallies that are shown among them, and is the one
-- that the status says.
pub record IsReported (actors : List Actor) (s : State) (status : Status) (text : List ℕ) : Type 0 where
  pub shown : Shown
  pub kept : IsKept s
  pub ended : IsEnd s status
  pub seen : IsShown (waits_of actors s) s shown
  pub report : text ≡ report_text actors (λ who. told_to who s) s.parts.history.items shown

-- what a rig tells it was given back: of each member and kind, the bytes of the device
pub record GivenBack : Type 0 where
  pub tells : Bool
  pub devices : Member → Kind → Option (List Byte)

-- it was given back the logs and the data sets of a state, where it tells that
abbrev pub AreGivenBack : GivenBack → State → Type 0
AreGivenBack back s = back.tells ≡ true → (m : Member) (k : Kind) → IfSome (device_bytes s.parts.logs s.parts.datasets m k) (λ bytes. back.devices m k ≡ Some bytes)

-- A new group of the plan ran, by the picks of the replay, to a state in which no actor's step moves, the text is its
-- report, and the rig has its devices again.
pub record IsReplayed (seed : Option ℕ) (plan : Plan) (back : GivenBack) (status : Status) (text : List ℕ) : Type 0 where
  pub before : State
  pub path : List Made
  pub after : State
  pub made : IsMade plan before
  pub run : IsRun (actors_of plan) (course_for seed plan.schedule (actors_of plan)) before path after
  pub devices : AreGivenBack back after
  pub reported : IsReported (actors_of plan) after status text
