-- the actors of a plan, in their order
use Rattle.std.specs.Prelude.{Bool, List, [], ◌∷◌, ◌++◌, length, take}
use Rattle.std.specs.List.{filter, flat_map, list_any}
use Rattle.qsg_num.specs.declared.seats.Member.{Member}
use Rattle.qsg_num.specs.declared.seats.TaskNo.TheVariants as task
use Rattle.qsg_num.specs.declared.ids.Actor.{Actor}
use Rattle.qsg_num.specs.declared.ids.Actor.TheVariants as actor
use Rattle.qsg_objects.specs.declared.directives.Directive.{Directive}
use Rattle.qsg_objects.specs.declared.plans.Plan.{Plan}
use Rattle.qsg_agenda.specs.Courses.{same_actor}
use Rattle.qsg_sysplex.specs.Starting.{all_members}

-- a task has a section
abbrev pub is_section : Actor → Actor × List Directive → Bool
is_section who work = same_actor work.0 who

abbrev pub has_section : List (Actor × List Directive) → Actor → Bool
has_section works who = list_any (is_section who) works

-- those of a member: its system task, and its tasks by number that have a section
abbrev pub actors_of_member : List (Actor × List Directive) → Member → List Actor
actors_of_member works m = actor.Task m task.System ∷ filter (has_section works) (actor.Task m task.One ∷ actor.Task m task.Two ∷ actor.Task m task.Three ∷ actor.Task m task.Four ∷ [])

-- those of each member, and then the operator
abbrev pub actors_of : Plan → List Actor
actors_of plan = flat_map (actors_of_member plan.works) (take (length plan.members) all_members) ++ actor.Operator ∷ []
