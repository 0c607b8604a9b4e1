-- what holds of courses, and of the works in the hands of tasks, by themselves
use Rattle.std.proofs.Common.{◌≡◌, ℕ, ◌<◌, ◌^◌, List, length, Some, arith}
use Rattle.std.specs.List.{AllByRecursion}
use Rattle.qsg_num.specs.declared.ids.Actor.{Actor}
use Rattle.qsg_objects.specs.declared.directives.Directive.{Directive}
use Rattle.qsg_requests.specs.declared.transcript.Answer.{Answer}
use Rattle.qsg_agenda.specs.Courses.{Course, verb_of, next_of, answered, IsAnswered}
use Rattle.qsg_step.specs.States.{State, IsCourseRight}
use Rattle.qsg_sound.specs.Sound.{directives_in, IsCourseWithin, IsSound}
use Rattle.qsg_sound.proofs.Answering.{same_directives, answered_right, answered_answered}
use Rattle.qsg_sound.proofs.Starts.{answered_within}

-- what holds of courses by themselves, in a group of so many members
pub record AreKept (members : ℕ) (cs : List Course) : Type 0 where
  pub right : AllByRecursion IsCourseRight cs
  pub within : AllByRecursion (IsCourseWithin members) cs
  pub answered : AllByRecursion IsAnswered cs
  pub few : directives_in cs < 2 ^ 30

pub sound_kept : (s : State) → IsSound s → AreKept (length s.parts.managers) s.courses
sound_kept s sound = record { right = sound.right; within = sound.within; answered = sound.answered; few = sound.few }

-- courses with an answer to the next directive of an actor
pub kept_answered : (n : ℕ) (who : Actor) (a : Answer) (d : Directive) (cs : List Course) → AreKept n cs → next_of who cs ≡ Some d → a.verb ≡ verb_of d → AreKept n (answered who a cs)
kept_answered n who a d cs are next verb = record {
  right = answered_right who a cs are.right;
  within = answered_within n who a cs are.within;
  answered = answered_answered who a cs d next verb are.answered;
  few = omega (arith, same_directives who a cs, are.few);
}
