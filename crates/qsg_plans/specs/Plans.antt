-- what holds of the plans of scripts, besides that a group can work them
use Rattle.std.specs.Prelude.{ℕ, ◌+◌, ◌*◌, ◌<◌, ◌≤◌, List, [], ◌∷◌, length}
use Rattle.std.specs.List.{AllByRecursion}
use Rattle.qsg_num.specs.declared.ids.Actor.{Actor}
use Rattle.qsg_num.specs.declared.ids.Actor.TheVariants.{Task, Operator}
use Rattle.qsg_num.specs.Seats.{member_number, task_number}
use Rattle.qsg_objects.specs.declared.directives.Directive.{Directive}
use Rattle.qsg_objects.specs.declared.plans.Plan.{Plan}
use Rattle.qsg_objects.specs.declared.plans.Size.{Size}

-- a structure has some elements, and at most 1,048,576
abbrev pub HasElements : Size → Type 0
HasElements size = (0 < size.elements) × (size.elements ≤ 1048576)

-- an actor is the operator, or a task, but not the system task, of one of so many members
abbrev pub IsActorOf : ℕ → Actor → Type 0
IsActorOf members (Task m t) = (member_number m ≤ members) × (0 < task_number t)
IsActorOf members Operator = Unit {0}

abbrev pub IsWorkOf : ℕ → Actor × List Directive → Type 0
IsWorkOf members work = IsActorOf members work.0

-- Actors go by their members, then by their tasks; the operator comes behind them.
abbrev pub IsBefore : Actor → Actor → Type 0
IsBefore (Task m t) (Task n u) = member_number m * 5 + task_number t < member_number n * 5 + task_number u
IsBefore (Task m t) Operator = Unit {0}
IsBefore Operator other = ⊥

abbrev pub IsWorkBefore : Actor → Actor × List Directive → Type 0
IsWorkBefore who work = IsBefore who work.0

-- The works stand in order of their actors, so each has one list.
abbrev pub AreInOrder : List (Actor × List Directive) → Type 0
AreInOrder [] = Unit {0}
AreInOrder (work ∷ works) = AllByRecursion (IsWorkBefore work.0) works × AreInOrder works

-- Sizes are in their range, works are of tasks of the plan's members or of the operator, and each actor has one list.
pub record IsInRange (plan : Plan) : Type 0 where
  pub elements : AllByRecursion HasElements plan.sizes
  pub actors : AllByRecursion (IsWorkOf (length plan.members)) plan.works
  pub order : AreInOrder plan.works
