-- requests in progress that a step of others spares
use Rattle.std.proofs.Common.{◌≡◌, ℕ, ◌≤◌, List, true, Option, Some, None, sym, ap, subst, ◌∙◌}
use Rattle.qsg_num.specs.declared.seats.Member.{Member}
use Rattle.qsg_num.specs.declared.seats.TaskNo.{TaskNo}
use Rattle.qsg_num.specs.declared.ids.Actor.TheVariants as actor
use Rattle.qsg_num.specs.Seats.{member_number}
use Rattle.qsg_objects.specs.Registry.{Registry}
use Rattle.qsg_group.specs.declared.tasks.Task.{Task}
use Rattle.qsg_agenda.specs.Courses.{Course, next_of}
use Rattle.qsg_logs.specs.Held.{is_open}
use Rattle.qsg_manager.specs.Storage.{manager_in}
use Rattle.qsg_parts.specs.Owned.{Owned, HasMember}
use Rattle.qsg_steady.specs.Standing.{Stand, Spares}
use Rattle.qsg_works.specs.declared.work.Work.{Work}
use Rattle.qsg_works.specs.declared.work.Work.TheVariants.{Put, Get, Commit}
use Rattle.qsg_fit.specs.Fits.{member_of, task_of, FitsPut, FitsGet}
use Rattle.qsg_fit.specs.Outcomes.{IsPlaced, FitsEnd}
use Rattle.qsg_fit.specs.Requests.{IsRequestOf}
use Rattle.qsg_sound.specs.Sound.{IsHand, AreLogsKept}
use Rattle.qsg_sound.proofs.Owning.{at_work}

-- its task stands as it stood, its member is up if it was, and the definitions are as they were
pub record IsSpared (m : Member) (t : TaskNo) (p q : Owned) : Type 0 where
  pub objects : q.objects ≡ p.objects
  pub up : (manager_in m q.managers).up ≡ (manager_in m p.managers).up
  pub stands : Spares m t p q

has_still : (m : Member) (t : TaskNo) (p q : Owned) → Spares m t p q → HasMember m p → HasMember m q
has_still m t p q spares has = record {
  manager = subst (λ (n : ℕ). member_number m ≤ n) (sym (ap (λ (x : Stand). x.members) spares)) has.manager;
  log = subst (λ (n : ℕ). member_number m ≤ n) (sym (ap (λ (x : Stand). x.logs) spares)) has.log;
}

pub spared_fits : (p q : Owned) (work : Work) → IsSpared (member_of work) (task_of work) p q → AreLogsKept q → IsRequestOf work p → IsRequestOf work q
spared_fits p q (Put work) spared kept fits =
    let has = has_still work.member work.task p q spared.stands fits.member in
    record {
      member = has;
      up = spared.up ∙ fits.up;
      log = kept work.member has.log;
      queue = subst (λ (o : Registry). IsPlaced work.words.queue o) (sym spared.objects) fits.queue;
      ids = fits.ids;
      stands = subst (λ (x : Stand). FitsPut work.member work.words x work.phase) (sym spared.stands) fits.stands;
    }
spared_fits p q (Get work) spared kept fits =
    let has = has_still work.member work.task p q spared.stands fits.member in
    record {
      member = has;
      up = spared.up ∙ fits.up;
      log = kept work.member has.log;
      queue = subst (λ (o : Registry). IsPlaced work.queue o) (sym spared.objects) fits.queue;
      stands = subst (λ (x : Stand). FitsGet work.member x work.phase) (sym spared.stands) fits.stands;
    }
spared_fits p q (Commit work) spared kept fits =
    let has = has_still work.member work.task p q spared.stands fits.member in
    record {
      member = has;
      log = kept work.member has.log;
      own = fits.own;
      stands = subst (λ (x : Task). FitsEnd x work.phase) (sym (ap (λ (x : Stand). x.task) spared.stands)) fits.stands;
    }

-- a hand that is spared, and whose next directive is as it was
pub hand_spared : (k : Member) (w : TaskNo) (held : Option Work) (cs after : List Course) (p q : Owned) → IsSpared k w p q → AreLogsKept q → next_of (actor.Task k w) after ≡ next_of (actor.Task k w) cs → IsHand k w held cs p → IsHand k w held after q
hand_spared k w None cs after p q spared kept next free =
    λ there. subst (λ (x : Stand). is_open x.task.stage ≡ true) (sym spared.stands) (free (subst (λ (n : ℕ). member_number k ≤ n) (ap (λ (x : Stand). x.members) spared.stands) there))
hand_spared k w (Some work) cs after p q spared kept next hand = record {
  own = hand.own;
  begun = hand.begun;
  asked = record { directive = hand.asked.directive; next = next ∙ hand.asked.next; request = hand.asked.request };
  fits = spared_fits p q work (at_work (λ j u. IsSpared j u p q) work k w hand.own spared) kept hand.fits;
}
