-- what the group makes of a step of a work, from where the work was taken out of its task's hand
use Rattle.std.proofs.Common.{◌≡◌, List, length, Option, Some, None, is_some, Result, Ok, Err, refl, ap, sym, subst, ◌∙◌}
use Rattle.qsg_num.specs.declared.seats.Member.{Member}
use Rattle.qsg_num.specs.declared.seats.TaskNo.{TaskNo}
use Rattle.qsg_objects.specs.declared.directives.Directive.{Directive}
use Rattle.qsg_requests.specs.declared.replies.Cause.{Cause}
use Rattle.qsg_requests.specs.declared.replies.Turn.{Turn}
use Rattle.qsg_requests.specs.declared.replies.Turn.TheVariants as turn
use Rattle.qsg_commit.specs.declared.phases.StepError.{StepError}
use Rattle.qsg_commit.specs.declared.phases.StepError.TheVariants.{NoMemory, LogFailed}
use Rattle.qsg_parts.specs.Owned.{Owned}
use Rattle.qsg_works.specs.declared.work.Work.{Work}
use Rattle.qsg_works.specs.InHand.{work_of, with_work}
use Rattle.qsg_step.specs.declared.step.Step.{Step}
use Rattle.qsg_step.specs.Ends.{IsEnd}
use Rattle.qsg_step.specs.States.{State}
use Rattle.qsg_step.specs.Steps.{in_hand_or, with_hand, IsAfter}
use Rattle.qsg_working.specs.Hands.{returned, put_in_hand, IsSettled}
use Rattle.qsg_working.proofs.InHand.{put_again, put_back}

-- the work is out of its task's hand, and the parts are others
abbrev pub taken_out : Member → TaskNo → Owned → State → State
taken_out m t q s = record s { parts = q; works = with_work m t None s.works }

-- put into the hand again
pub in_hand_again : (m : Member) (t : TaskNo) (w : Work) (q : Owned) (s : State) → put_in_hand m t w (taken_out m t q s) ≡ with_hand m t (Some w) q s
in_hand_again m t w q s = ap (λ (works : List (Option Work)). record s { parts = q; works = works }) (put_again m t None (Some w) s.works)

-- back in the hand where it was there, all works are as they were
pub returned_as_before : (m : Member) (t : TaskNo) (w : Work) (works : List (Option Work)) (new : Option Work) → in_hand_or (work_of m t works) new ≡ Some w
    → returned (is_some (work_of m t works)) m t w (with_work m t None works) ≡ works
returned_as_before m t w works new given = by (work_of m t works) given refl
  where
    by : (held : Option Work) → in_hand_or held new ≡ Some w → work_of m t works ≡ held → returned (is_some held) m t w (with_work m t None works) ≡ works
    by (Some v) given is = put_again m t None (Some w) works ∙ ap (λ h. with_work m t h works) (sym given ∙ sym is) ∙ put_back m t works
    by None given is = ap (λ h. with_work m t h works) (sym is) ∙ put_back m t works

-- what is made of the step of a work that was taken out is what the group makes of that step
pub is_after : (m : Member) (t : TaskNo) (d : Directive) (made : Result Turn StepError) (before v : Work) (q : Owned) (s : State) (new : Option Work) (step : Step) (r : State)
    → in_hand_or (work_of m t s.works) new ≡ Some before → ((cause : Cause) → made ≡ Ok (turn.Waits cause) → (v ≡ before) × (q ≡ s.parts))
    → IsSettled m t d (length s.parts.history.items) (is_some (work_of m t s.works)) made v (taken_out m t q s) step r → IsAfter m t d made v q s step r
is_after m t d (Ok turn.More) before v q s new step r given waits done = (done.0, done.1 ∙ in_hand_again m t v q s)
is_after m t d (Ok (turn.Ended reply)) before v q s new step r given waits done = done
is_after m t d (Ok (turn.Waits cause)) before v q s new step r given waits done = (done.0, done.1 ∙ unchanged)
  where
    unmade : (v ≡ before) × (q ≡ s.parts)
    unmade = waits cause refl

    back : returned (is_some (work_of m t s.works)) m t v (with_work m t None s.works) ≡ s.works
    back = ap (λ w. returned (is_some (work_of m t s.works)) m t w (with_work m t None s.works)) unmade.0 ∙ returned_as_before m t before s.works new given

    unchanged : record s { parts = q; works = returned (is_some (work_of m t s.works)) m t v (with_work m t None s.works) } ≡ s
    unchanged = λ i. record s { parts = unmade.1 i; works = back i }
is_after m t d (Err LogFailed) before v q s new step r given waits done = (done.0, subst (λ (z : State). IsEnd m z r) (in_hand_again m t v q s) done.1)
is_after m t d (Err NoMemory) before v q s new step r given waits done = done
