-- answers of tasks leave the operator's next directive
use Rattle.std.proofs.Common.{◌≡◌, ℕ, Bool, true, false, List, [], ◌∷◌, Option, Some, None, refl, ap, ◌∙◌, subst, length}
use Rattle.std.specs.Prelude.{if◌then◌else◌, IsSome, is_some}
use Rattle.std.specs.Option.{option_and_then}
use Rattle.qsg_num.specs.declared.seats.Member.{Member}
use Rattle.qsg_num.specs.declared.seats.TaskNo.{TaskNo}
use Rattle.qsg_num.specs.declared.seats.TaskNo.TheVariants as task
use Rattle.qsg_num.specs.declared.ids.Actor.{Actor}
use Rattle.qsg_num.specs.declared.ids.Actor.TheVariants as actor
use Rattle.qsg_objects.specs.declared.directives.Directive.{Directive}
use Rattle.qsg_requests.specs.declared.transcript.Answer.{Answer}
use Rattle.qsg_agenda.specs.Courses.{Course, same_actor, course_of, next_in, next_of, with_answer, answered}
use Rattle.qsg_works.specs.declared.work.Work.{Work}
use Rattle.qsg_works.specs.InHand.{work_of}
use Rattle.qsg_requests.specs.declared.replies.Reply.TheVariants as reply
use Rattle.qsg_step.specs.Ends.{answer_at, broken, broken_if, broken_task, broken_off, IsEnd}
use Rattle.qsg_step.specs.States.{State}
use Rattle.qsg_step.specs.Steps.{IsCrashed, CrashSteps}

course_at : (who : Actor) (ds : List Directive) (said : List Answer) (m : Member) (t : TaskNo) (a : Answer) (cs : List Course) → course_of actor.Operator (answered (actor.Task m t) a cs) ≡ course_of actor.Operator cs
    → course_of actor.Operator (answered (actor.Task m t) a (record { actor = who; directives = ds; answers = said } ∷ cs)) ≡ course_of actor.Operator (record { actor = who; directives = ds; answers = said } ∷ cs)
course_at actor.Operator ds said m t a cs rest = refl
course_at (actor.Task k u) ds said m t a cs rest = by (same_actor (actor.Task k u) (actor.Task m t))
  where
    here : Course
    here = record { actor = actor.Task k u; directives = ds; answers = said }

    by : (b : Bool) → course_of actor.Operator (if b then with_answer a here ∷ cs else here ∷ answered (actor.Task m t) a cs) ≡ course_of actor.Operator cs
    by true = refl
    by false = rest

operator_course : (m : Member) (t : TaskNo) (a : Answer) (cs : List Course) → course_of actor.Operator (answered (actor.Task m t) a cs) ≡ course_of actor.Operator cs
operator_course m t a [] = refl
operator_course m t a (c ∷ cs) = course_at c.actor c.directives c.answers m t a cs (operator_course m t a cs)

broken_next : (m : Member) (t : TaskNo) (at : ℕ) (next : Option Directive) (cs : List Course) → next_of actor.Operator (broken (actor.Task m t) at next cs) ≡ next_of actor.Operator cs
broken_next m t at None cs = refl
broken_next m t at (Some d) cs = ap (option_and_then next_in) (operator_course m t _ cs)

broken_if_next : (b : Bool) (m : Member) (t : TaskNo) (at : ℕ) (cs : List Course) → next_of actor.Operator (broken_if b (actor.Task m t) at cs) ≡ next_of actor.Operator cs
broken_if_next true m t at cs = broken_next m t at (next_of (actor.Task m t) cs) cs
broken_if_next false m t at cs = refl

broken_task_next : (m : Member) (t : TaskNo) (ws : List (Option Work)) (at : ℕ) (cs : List Course) → next_of actor.Operator (broken_task m t ws at cs) ≡ next_of actor.Operator cs
broken_task_next m t ws at cs = broken_if_next (is_some (work_of m t ws)) m t at cs

broken_off_next : (m : Member) (ws : List (Option Work)) (at : ℕ) (cs : List Course) → next_of actor.Operator (broken_off m ws at cs) ≡ next_of actor.Operator cs
broken_off_next m ws at cs =
    broken_task_next m task.Four ws at (broken_task m task.Three ws at (broken_task m task.Two ws at (broken_task m task.One ws at cs)))
    ∙ broken_task_next m task.Three ws at (broken_task m task.Two ws at (broken_task m task.One ws at cs))
    ∙ broken_task_next m task.Two ws at (broken_task m task.One ws at cs)
    ∙ broken_task_next m task.One ws at cs

-- the end of a member leaves the operator's next directive
pub ended_next : (m : Member) (s r : State) → IsEnd m s r → next_of actor.Operator r.courses ≡ next_of actor.Operator s.courses
ended_next m s r is = ap (λ (z : State). next_of actor.Operator z.courses) is.after ∙ broken_off_next m s.works (length s.parts.history.items) s.courses

-- and so it has one left
pub ended_has : (m : Member) (s r : State) → IsEnd m s r → IsSome (next_of actor.Operator s.courses) → IsSome (next_of actor.Operator r.courses)
ended_has m s r is has = ap (λ (next : Option Directive). is_some next) (ended_next m s r is) ∙ has

-- the operator is answered after the member ended
pub crashed : (m : Member) (d : Directive) (s e r : State) (at : ℕ) → IsEnd m s e → at ≡ length s.parts.history.items → ((x : Directive) → next_of actor.Operator e.courses ≡ Some x → r ≡ record e { courses = answered actor.Operator (answer_at at x reply.Done) e.courses })
    → next_of actor.Operator s.courses ≡ Some d → IsCrashed m d s r
crashed m d s e r at is so_long told next = record {
  ended = e;
  ends = is;
  answered = told d (ended_next m s e is ∙ next) ∙ ap (λ (n : ℕ). record e { courses = answered actor.Operator (answer_at n d reply.Done) e.courses }) so_long;
}

pub crash_steps : (m : Member) (s e : State) (cs : List Course) (at : ℕ) (up : Bool) → true ≡ up → IsEnd m s e → at ≡ length s.parts.history.items → ((x : Directive) → next_of actor.Operator e.courses ≡ Some x → cs ≡ answered actor.Operator (answer_at at x reply.Done) e.courses)
    → (d : Directive) → next_of actor.Operator s.courses ≡ Some d → CrashSteps up m d s (record e { courses = cs })
crash_steps m s e cs at up is_up is so_long told d next =
    subst (λ (b : Bool). CrashSteps b m d s (record e { courses = cs })) is_up (crashed m d s e (record e { courses = cs }) at is so_long (λ x here. ap (λ (z : List Course). record e { courses = z }) (told x here)) next)
