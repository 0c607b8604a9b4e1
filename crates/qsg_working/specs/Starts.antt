-- what is made of a step of a START
use Rattle.std.specs.Prelude.{ℕ, Option, Some, None}
use Rattle.qsg_num.specs.declared.ids.Actor.TheVariants as actor
use Rattle.qsg_objects.specs.declared.directives.Directive.{Directive}
use Rattle.qsg_requests.specs.declared.replies.Reply.{Reply}
use Rattle.qsg_agenda.specs.Courses.{answered}
use Rattle.qsg_start.specs.Works.{Work as StartWork}
use Rattle.qsg_step.specs.Ends.{answer_at}
use Rattle.qsg_step.specs.States.{State}

-- it goes on, or the operator is answered, where the history had so many items before the step
abbrev pub started_at : Option Reply → Directive → ℕ → StartWork → State → State
started_at None d at work s = record s { starting = Some work }
started_at (Some reply) d at work s = record s { courses = answered actor.Operator (answer_at at d reply) s.courses; starting = None }
