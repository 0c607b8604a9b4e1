-- a work that was taken out of its task's hand for its step
use Rattle.std.specs.Prelude.{ℕ, ◌≡◌, Bool, true, false, List, Option, Some, None, is_some, Result, Ok, Err}
use Rattle.qsg_num.specs.declared.seats.Member.{Member}
use Rattle.qsg_num.specs.declared.seats.TaskNo.{TaskNo}
use Rattle.qsg_num.specs.declared.ids.Actor.TheVariants as actor
use Rattle.qsg_objects.specs.declared.directives.Directive.{Directive}
use Rattle.qsg_requests.specs.declared.replies.Turn.{Turn}
use Rattle.qsg_requests.specs.declared.replies.Turn.TheVariants as turn
use Rattle.qsg_agenda.specs.Courses.{answered}
use Rattle.qsg_commit.specs.declared.phases.StepError.{StepError}
use Rattle.qsg_commit.specs.declared.phases.StepError.TheVariants.{NoMemory, LogFailed}
use Rattle.qsg_works.specs.declared.work.Work.{Work}
use Rattle.qsg_works.specs.InHand.{work_of, with_work}
use Rattle.qsg_step.specs.declared.step.Step.{Step}
use Rattle.qsg_step.specs.declared.step.Step.TheVariants.{Moved, Waits}
use Rattle.qsg_step.specs.Ends.{answer_at, IsEnd}
use Rattle.qsg_step.specs.States.{State}
use Rattle.qsg_step.specs.Steps.{work_for}

-- the work of the task's next directive was given, and whether it was in hand
abbrev pub IsGiven : Member → TaskNo → Directive → List (Option Work) → Option (Work × Bool) → Type 0
IsGiven m t d works None = work_for m t d works ≡ None
IsGiven m t d works (Some (work, in_hand)) = (work_for m t d works ≡ Some work) × (in_hand ≡ is_some (work_of m t works))

-- a work that made no step goes back into its task's hand, if it was there
abbrev pub returned : Bool → Member → TaskNo → Work → List (Option Work) → List (Option Work)
returned true m t work works = with_work m t (Some work) works
returned false m t work works = works

abbrev pub put_in_hand : Member → TaskNo → Work → State → State
put_in_hand m t work s = record s { works = with_work m t (Some work) s.works }

-- What is made of the step of a work that was taken out, where the history had so many items before it. A member whose
-- log failed ends.
abbrev pub IsSettled : Member → TaskNo → Directive → ℕ → Bool → Result Turn StepError → Work → State → Step → State → Type 0
IsSettled m t d at in_hand (Ok turn.More) work s step r = (step ≡ Moved) × (r ≡ put_in_hand m t work s)
IsSettled m t d at in_hand (Ok (turn.Ended reply)) work s step r = (step ≡ Moved) × (r ≡ record s { courses = answered (actor.Task m t) (answer_at at d reply) s.courses })
IsSettled m t d at in_hand (Ok (turn.Waits cause)) work s step r = (step ≡ Waits cause) × (r ≡ record s { works = returned in_hand m t work s.works })
IsSettled m t d at in_hand (Err LogFailed) work s step r = (step ≡ Moved) × IsEnd m (put_in_hand m t work s) r
IsSettled m t d at in_hand (Err NoMemory) work s step r = ⊥
