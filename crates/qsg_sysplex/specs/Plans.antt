-- the plans that a group can work
use Rattle.std.specs.Prelude.{ℕ, ◌≡◌, ◌<◌, ◌≤◌, ◌^◌, List, length, sum_by}
use Rattle.std.specs.List.{AllByRecursion}
use Rattle.qsg_num.specs.declared.ids.Actor.{Actor}
use Rattle.qsg_num.specs.Seats.{structure_number}
use Rattle.qsg_objects.specs.declared.directives.Directive.{Directive}
use Rattle.qsg_objects.specs.declared.plans.Plan.{Plan}
use Rattle.qsg_objects.specs.declared.registry.Queue.{Queue}
use Rattle.qsg_directives.specs.Asking.{IsRight}
use Rattle.qsg_sound.specs.Sound.{IsDirectiveWithin}
use Rattle.qsg_devices.specs.Logs.{IsLogSized}
use Rattle.qsg_devices.specs.Shapes.{shapes_of, IsSetSized}

-- a queue is on one of so many structures
abbrev pub IsOnOneOf : ℕ → Queue → Type 0
IsOnOneOf structures queue = structure_number queue.structure ≤ structures

-- bodies that are given by their size are at most the longest one
abbrev pub AreRight : Actor × List Directive → Type 0
AreRight work = AllByRecursion IsRight work.1

-- members that are to end or to start are among so many
abbrev pub AreWithin : ℕ → Actor × List Directive → Type 0
AreWithin members work = AllByRecursion (IsDirectiveWithin members) work.1

-- how many directives there are in all
abbrev pub directives_of : List (Actor × List Directive) → ℕ
directives_of works = sum_by (λ (work : Actor × List Directive). length work.1) works

-- a plan that a group can work
pub record IsWorkable (plan : Plan) : Type 0 where
  pub few : length plan.members ≤ 8
  pub logs : AllByRecursion IsLogSized plan.members
  pub four : length plan.sizes ≤ 4
  pub sizes : length plan.sizes ≡ length plan.objects.structures
  pub sets : AllByRecursion IsSetSized (shapes_of plan.sizes plan.objects)
  pub queues : AllByRecursion (IsOnOneOf (length plan.objects.structures)) plan.objects.queues
  pub right : AllByRecursion AreRight plan.works
  pub within : AllByRecursion (AreWithin (length plan.members)) plan.works
  pub directives : directives_of plan.works < 2 ^ 30
