-- a request fits on where a step of another task left it undisturbed
use Rattle.std.proofs.Common.{◌≤◌, sym, subst, ◌∙◌}
use Rattle.qsg_num.specs.declared.seats.Member.{Member}
use Rattle.qsg_num.specs.declared.seats.TaskNo.{TaskNo}
use Rattle.qsg_num.specs.Seats.{member_number}
use Rattle.qsg_parts.specs.Owned.{Owned, HasMember}
use Rattle.qsg_steady.specs.Actions.{IsLogKept}
use Rattle.qsg_steady.specs.Standing.{Stand, IsOther, Spares, SparesOthers}
use Rattle.qsg_works.specs.declared.work.Work.{Work}
use Rattle.qsg_works.specs.declared.work.Work.TheVariants.{Put, Get, Commit}
use Rattle.qsg_fit.specs.Fits.{FitsPut, FitsGet, member_of, task_of}
use Rattle.qsg_fit.specs.Outcomes.{IsPlaced, FitsEnd}
use Rattle.qsg_fit.specs.Requests.{IsRequestOf, IsUndisturbed}
use Rattle.qsg_fit.proofs.Still.{IsStill}

pub undisturbed_by : (m : Member) (t : TaskNo) (p q : Owned) → IsStill p q → SparesOthers m t p q → IsUndisturbed m t p q
undisturbed_by m t p q is spares = record { objects = is.objects; members = is.members; ups = is.ups; spares = spares }

still_member : (m : Member) (t : TaskNo) (p q : Owned) → Spares m t p q → HasMember m p → HasMember m q
still_member m t p q spares has = record {
  manager = subst (λ (s : Stand). member_number m ≤ s.members) (sym spares) has.manager;
  log = subst (λ (s : Stand). member_number m ≤ s.logs) (sym spares) has.log;
}

pub other_fits : (p q : Owned) (m : Member) (t : TaskNo) (other : Work) → IsUndisturbed m t p q → IsOther m t (member_of other) (task_of other) → IsLogKept (member_of other) q → IsRequestOf other p → IsRequestOf other q
other_fits p q m t (Put w) undisturbed differ kept fits =
    let spares = undisturbed.spares w.member w.task differ in
    record {
      member = still_member w.member w.task p q spares fits.member;
      up = undisturbed.ups w.member ∙ fits.up;
      log = kept;
      queue = subst (IsPlaced w.words.queue) (sym undisturbed.objects) fits.queue;
      ids = fits.ids;
      stands = subst (λ (s : Stand). FitsPut w.member w.words s w.phase) (sym spares) fits.stands;
    }
other_fits p q m t (Get w) undisturbed differ kept fits =
    let spares = undisturbed.spares w.member w.task differ in
    record {
      member = still_member w.member w.task p q spares fits.member;
      up = undisturbed.ups w.member ∙ fits.up;
      log = kept;
      queue = subst (IsPlaced w.queue) (sym undisturbed.objects) fits.queue;
      stands = subst (λ (s : Stand). FitsGet w.member s w.phase) (sym spares) fits.stands;
    }
other_fits p q m t (Commit w) undisturbed differ kept fits =
    let spares = undisturbed.spares w.member w.task differ in
    record {
      member = still_member w.member w.task p q spares fits.member;
      log = kept;
      own = fits.own;
      stands = subst (λ (s : Stand). FitsEnd s.task w.phase) (sym spares) fits.stands;
    }
