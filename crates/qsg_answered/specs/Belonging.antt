-- The COMMIT that a unit of the history belongs to.
use Rattle.std.specs.Prelude.{◌≡◌, ◌⊎◌, true, List, [], ◌∷◌, ◌++◌, Contains, fold}
use Rattle.qsg_num.specs.declared.seats.Member.{Member}
use Rattle.qsg_num.specs.declared.seats.StructNo.{StructNo}
use Rattle.qsg_num.specs.declared.seats.TaskNo.{TaskNo}
use Rattle.qsg_num.specs.declared.ids.UnitName.{UnitName}
use Rattle.qsg_model.specs.declared.history.Op.{Op}
use Rattle.qsg_objects.specs.declared.directives.Directive.{Directive}
use Rattle.qsg_requests.specs.declared.transcript.Answer.{Answer}
use Rattle.qsg_agenda.specs.Courses.{Course}
use Rattle.qsg_works.specs.InHand.{work_of}
use Rattle.qsg_step.specs.States.{State}
use Rattle.qsg_answered.specs.Telling.{with_answered, told, pending_of, commits_told}
use Rattle.qsg_answered.specs.Cutting.{WasCutOff}
use Rattle.qsg_answered.specs.Fits.{commits_now}

-- a COMMIT was answered with the unit, and these operations were pending there
pub record WasAnswered (u : UnitName) (ops : List (StructNo × Op)) (s : State) : Type 0 where
  pub course : Course
  pub there : Contains s.courses course
  pub before : List (Directive × Answer)
  pub directive : Directive
  pub answer : Answer
  pub behind : List (Directive × Answer)
  pub told_is : told course ≡ before ++ (directive, answer) ∷ behind
  pub names : commits_told course.actor u (directive, answer) ≡ true
  pub pending : fold (with_answered s.parts.objects course.actor) [] before ≡ ops

-- a COMMIT in hand has the last page of the unit safe, and these operations are pending there
pub record IsBeingAnswered (u : UnitName) (ops : List (StructNo × Op)) (s : State) : Type 0 where
  pub member : Member
  pub task : TaskNo
  pub commits : commits_now u (work_of member task s.works) ≡ true
  pub pending : pending_of s.parts.objects member task s.courses ≡ ops

-- a COMMIT was answered 2009 after the unit was committed, and these operations were pending there
pub record WasBroken (u : UnitName) (ops : List (StructNo × Op)) (s : State) : Type 0 where
  pub cut : WasCutOff u s
  pub pending : fold (with_answered s.parts.objects cut.course.actor) [] cut.before ≡ ops

-- the COMMIT was answered, was answered 2009, or is in hand
abbrev pub Belongs : UnitName → List (StructNo × Op) → State → Type 0
Belongs u ops s = WasAnswered u ops s ⊎ (WasBroken u ops s ⊎ IsBeingAnswered u ops s)
