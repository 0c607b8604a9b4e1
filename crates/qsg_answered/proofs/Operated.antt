-- what a CRASH and a START did
use Rattle.std.proofs.Common.{◌≡◌, ℕ, ◌≤◌, arith, length, Bool, true, false, Option, Some, refl, sym, ap, subst, ◌∙◌}
use Rattle.qsg_num.specs.declared.seats.Member.{Member}
use Rattle.qsg_num.specs.declared.ids.Actor.TheVariants as actor
use Rattle.qsg_num.specs.Seats.{member_number}
use Rattle.qsg_objects.specs.declared.directives.Directive.{Directive}
use Rattle.qsg_objects.specs.declared.directives.Directive.TheVariants as directive
use Rattle.qsg_repo.specs.Calls.{is_unresolved, next_incarnation}
use Rattle.qsg_agenda.specs.Courses.{next_of}
use Rattle.qsg_manager.specs.declared.managers.Manager.{Manager}
use Rattle.qsg_manager.specs.Storage.{manager_in}
use Rattle.qsg_lives.proofs.Downing.{down_here, down_other}
use Rattle.qsg_lives.proofs.Incarnations.{fails_all}
use Rattle.qsg_step.specs.declared.step.Step.{Step}
use Rattle.qsg_step.specs.States.{State, is_member_up}
use Rattle.qsg_step.specs.Ends.{incarnation_of, IsEnd}
use Rattle.qsg_step.specs.Steps.{CrashSteps, start_before, start_reply, started_as, IsStartStep, StepAt, IsStep}
use Rattle.qsg_start.specs.declared.phases.StartTurn.{StartTurn}
use Rattle.qsg_start.specs.declared.phases.StartTurn.TheVariants.{More, Up, Started, Fault}
use Rattle.qsg_start.specs.Steps.{started}
use Rattle.qsg_start.specs.Works.{Work as StartWork}
use Rattle.qsg_parts.specs.Owned.{Owned}
use Rattle.qsg_manager.proofs.Grouping.{manager_same, manager_other}
use Rattle.qsg_num.specs.declared.ids.Incarnation.{Incarnation}
use Rattle.qsg_num.specs.declared.ids.PageNo.{PageNo}
use Rattle.qsg_sound.proofs.StartStep.{start_has}
use Rattle.qsg_answered.proofs.Starting.{StartMoves, start_moved, start_asked}
use Rattle.qsg_sound.specs.Sound.{IsSound}
use Rattle.qsg_sound.proofs.Asking.{up_within}
use Rattle.qsg_answered.specs.Operated.{EndsOne, IsCrashTold, ComesUp, IsStartTold}

ends_one : (m : Member) (s e : State) → IsSound s → is_member_up m s ≡ true → IsEnd m s e → EndsOne m s e
ends_one m s e sound up end =
    let within = up_within m s up in
    let parts = end.crash.parts in
    record {
      down = ap (λ x. (manager_in m x.managers).up) parts ∙ ap (λ (x : Manager). x.up) (down_here m s.parts.managers within);
      others = λ k differ. ap (λ x. (manager_in k x.managers).up) parts ∙ ap (λ (x : Manager). x.up) (down_other m k s.parts.managers differ);
      failed = λ k i. ap (λ x. is_unresolved k i x.repo) parts ∙ fails_all k m i (incarnation_of m s.parts) s.parts.repo.lives ((sound.steady.listed m within).up up);
    }

crash_by : (m : Member) (pick : ℕ) (s r : State) → IsSound s → CrashSteps (is_member_up m s) m (directive.Crash m pick) s r → IsCrashTold (is_member_up m s) m pick s r
crash_by m pick s r sound steps = by (is_member_up m s) refl steps
  where
    by : (b : Bool) → is_member_up m s ≡ b → CrashSteps b m (directive.Crash m pick) s r → IsCrashTold b m pick s r
    by false down made = made
    by true up made =
        let one = ends_one m s made.ended sound up made.ends in
        subst (EndsOne m s) (sym made.answered) (record { down = one.down; others = one.others; failed = one.failed })

pub crash_told : (m : Member) (pick : ℕ) (s r : State) (step : Step) → IsSound s → next_of actor.Operator s.courses ≡ Some (directive.Crash m pick) → IsStep actor.Operator s step r → IsCrashTold (is_member_up m s) m pick s r
crash_told m pick s r step sound next steps = crash_by m pick s r sound (subst (λ (o : Option Directive). StepAt actor.Operator o s step r) next steps).1

-- ---- a START

came_up_as : (m : Member) (i : Incarnation) (page : PageNo) (s r : State) → IsSound s → member_number m ≤ length s.parts.managers → i ≡ next_incarnation m s.parts.repo → r.parts ≡ started m page s.parts → ComesUp m i s r
came_up_as m i page s r sound within is parts =
    let x : Manager = record (manager_in m s.parts.managers) { up = true; incarnation = next_incarnation m s.parts.repo; next = 1 } in
    let here : manager_in m r.parts.managers ≡ x = ap (λ y. manager_in m y.managers) parts ∙ manager_same m x s.parts.managers within in
    let given = (sound.steady.listed m within).given in
    record {
      up = ap (λ (y : Manager). y.up) here;
      is = ap (λ (y : Manager). y.incarnation) here ∙ sym is;
      next = let number = ap (λ (j : Incarnation). j.number) is in omega (arith, number, given);
      others = λ k differ. ap (λ y. (manager_in k y.managers).up) parts ∙ ap (λ (y : Manager). y.up) (manager_other m k x s.parts.managers differ);
    }

start_by : (turn : StartTurn) (m : Member) (work : StartWork) (q : Owned) (s r : State) → IsSound s → member_number m ≤ length s.parts.managers → (start_before m s).member ≡ m → StartMoves (start_before m s) s.parts turn q
    → r ≡ started_as (start_reply m turn) (directive.Start m) work q s → IsStartTold m turn s r
start_by More m work q s r sound within own moved is = λ k. ap (λ (y : State). (manager_in k y.parts.managers).up) is ∙ ap (λ (y : Owned). (manager_in k y.managers).up) moved.1
start_by Up m work q s r sound within own moved is = λ k. ap (λ (y : State). (manager_in k y.parts.managers).up) is ∙ ap (λ (y : Owned). (manager_in k y.managers).up) moved.1
start_by (Fault why) m work q s r sound within own moved is = λ k. ap (λ (y : State). (manager_in k y.parts.managers).up) is ∙ ap (λ (y : Owned). (manager_in k y.managers).up) moved.1
start_by (Started i) m work q s r sound within own moved is =
    came_up_as m i moved.0 s r sound within (moved.1 ∙ ap (λ (k : Member). next_incarnation k s.parts.repo) own) (ap (λ (y : State). y.parts) is ∙ moved.2 ∙ ap (λ (k : Member). started k moved.0 s.parts) own)

pub start_told : (m : Member) (s r : State) → IsSound s → next_of actor.Operator s.courses ≡ Some (directive.Start m) → (made : IsStartStep m (directive.Start m) s r) → IsStartTold m made.turn s r
start_told m s r sound next made =
    start_by made.turn m made.work made.parts s r sound (start_has m s sound next).manager (start_asked m s sound next) (start_moved (start_before m s) s.parts made.turn made.work made.parts made.next) made.after
