-- what holds of a member at any time gives a step what it needs
use Rattle.std.proofs.Common.{◌≡◌, ℕ, ◌-◌, ◌<◌, ◌≤◌, length, Bool, true, false, Option, Some, None, refl, sym, ap, subst, ◌∙◌, cond, arith, true≢false}
use Rattle.std.specs.Prelude.{IfSome, IsSome, nat_lt, option_map, slice_get}
use Rattle.std.specs.List.{AllByRecursion}
use Rattle.std.proofs.lemmas.Bool.Decides.{nat_tests}
use Rattle.std.proofs.lemmas.List.{length-set}
use Rattle.qsg_num.specs.declared.seats.Member.{Member}
use Rattle.qsg_num.specs.declared.seats.TaskNo.{TaskNo}
use Rattle.qsg_num.specs.declared.ids.UnitName.{UnitName}
use Rattle.qsg_num.specs.Seats.{member_number, structure_number}
use Rattle.qsg_logpage.specs.Reserved.{pages_for}
use Rattle.qsg_logpage.specs.Log.{Hand, has_run}
use Rattle.qsg_group.specs.declared.tasks.Claim.{Claim}
use Rattle.qsg_group.specs.declared.tasks.Stage.{Stage}
use Rattle.qsg_group.specs.declared.tasks.Stage.TheVariants.{Open, Hardening, Committed, BackedOut}
use Rattle.qsg_group.specs.declared.tasks.Task.{Task}
use Rattle.qsg_group.specs.Observers.{is_hardening}
use Rattle.qsg_unitlog.specs.Sets.{structures_of}
use Rattle.qsg_manager.specs.declared.managers.Manager.{Manager}
use Rattle.qsg_manager.specs.Settles.{next_claim}
use Rattle.qsg_manager.specs.Storage.{manager_in, task_at, with_task_in}
use Rattle.qsg_manager.specs.Units.{decided}
use Rattle.qsg_manager.specs.Actions.{IsMember}
use Rattle.qsg_manager.proofs.Needs.{latch_free}
use Rattle.qsg_logs.specs.Kept.{log_in}
use Rattle.qsg_logs.specs.Held.{is_open, IsHandOf}
use Rattle.qsg_logs.proofs.Holding.{no_run_of, no_run_at_all, run_fits}
use Rattle.qsg_parts.specs.Owned.{Owned, HasMember}
use Rattle.qsg_commit.specs.declared.phases.Phase.{Phase}
use Rattle.qsg_commit.specs.declared.phases.Phase.TheVariants.{Latch, Pages, Settle, Publish, GiveUp, Undo}
use Rattle.qsg_commit.specs.Pending.{pending}
use Rattle.qsg_commit.specs.Committing.{run_of}
use Rattle.qsg_commit.specs.Needs.{MayLatch, MaySettle, MayEnd, MayGiveUp, MayStepAt}
use Rattle.qsg_commit.specs.Fits.{AreWithin, IsServing, FitsAt}
use Rattle.qsg_commit.proofs.Finishing.{task_same, all_at}

pub open_stage : (stage : Stage) → is_open stage ≡ true → stage ≡ Open
open_stage Open is = refl
open_stage (Hardening first) is = absurd (true≢false (sym is))
open_stage (Committed first settled) is = absurd (true≢false (sym is))
open_stage (BackedOut settled) is = absurd (true≢false (sym is))

pub open_quiet : (stage : Stage) → is_open stage ≡ true → is_hardening stage ≡ false
open_quiet stage is = ap is_hardening (open_stage stage is)

-- what holds of the unit that a task has to end
if_pending : (task : Task) (P : UnitName × ℕ → Type 0) → ((u : UnitName) → task.unit ≡ Some u → 0 < length task.ops → P (u, length task.ops)) → IfSome (pending task) P
if_pending task P holds = by (nat_lt 0 (length task.ops)) refl task.unit refl
  where
    some : (n : ℕ) → nat_lt 0 n ≡ true → 0 < n
    some n less = grind (arith, nat_tests)

    by : (b : Bool) → nat_lt 0 (length task.ops) ≡ b → (unit : Option UnitName) → task.unit ≡ unit → IfSome (cond b (option_map (λ (u : UnitName). (u, length task.ops)) unit) None) P
    by false is unit has = tt
    by true is None has = tt
    by true is (Some u) has = holds u has (some (length task.ops) is)

-- the claim that comes next is one of the claims
if_next : (P : Claim → Type 0) (task : Task) → AllByRecursion P task.claims → IfSome (next_claim task) P
if_next P task all = by task.stage
  where
    at : (n : ℕ) (o : Option Claim) → slice_get task.claims n ≡ o → IfSome o P
    at n None is = tt
    at n (Some c) is = all_at P task.claims n c all is

    by : (stage : Stage) → IfSome (next_claim (record task { stage = stage })) P
    by Open = tt
    by (Hardening first) = tt
    by (Committed first settled) = at settled (slice_get task.claims settled) refl
    by (BackedOut settled) = at settled (slice_get task.claims settled) refl

tasks_of : Member → Owned → TaskNo → Task
tasks_of m p t = task_at m t p.managers

-- a unit whose task isn't writing has no run in hand
not_in_hand : (m : Member) (t : TaskNo) (u : UnitName) (p : Owned) → IsServing m p → (task_at m t p.managers).unit ≡ Some u → is_hardening (task_at m t p.managers).stage ≡ false → has_run u (log_in m p.logs).writer ≡ false
not_in_hand m t u p serving holds quiet =
    no_run_of (λ w. task_at m w p.managers) (log_in m p.logs) u serving.held
    (λ w has. ap (λ (x : TaskNo). is_hardening (task_at m x p.managers).stage) (serving.held.once u w t has holds) ∙ quiet)

-- a task that is writing has its run in hand
in_hand : (m : Member) (t : TaskNo) (p : Owned) → IsServing m p → is_hardening (task_at m t p.managers).stage ≡ true → IsSome (log_in m p.logs).writer.hand
in_hand m t p serving hardens = by (log_in m p.logs).writer.hand serving.held.hand
  where
    by : (hand : Option Hand) → IsHandOf (λ w. task_at m w p.managers) hand → IsSome hand
    by None none = absurd (true≢false (sym hardens ∙ none t))
    by (Some hand) own = refl

may_end : (m : Member) (t : TaskNo) (u : UnitName) (p : Owned) → IsServing m p → u.member ≡ m → (task_at m t p.managers).unit ≡ Some u → is_hardening (task_at m t p.managers).stage ≡ false → MayEnd u p
may_end m t u p serving own holds quiet = record {
  member = subst (λ (k : Member). HasMember k p) (sym own) serving.member;
  idle = subst (λ (k : Member). has_run u (log_in k p.logs).writer ≡ false) (sym own) (not_in_hand m t u p serving holds quiet);
}

may_settle : (m : Member) (t : TaskNo) (u : UnitName) (p : Owned) → IsServing m p → u.member ≡ m → MaySettle u t p
may_settle m t u p serving own = record {
  member = subst (λ (k : Member). HasMember k p) (sym own) serving.member;
  structure = subst (λ (k : Member). IfSome (next_claim (task_at k t p.managers)) (λ c. structure_number c.connection.structure ≤ length p.structures)) (sym own)
      (if_next (λ c. structure_number c.connection.structure ≤ length p.structures) (task_at m t p.managers) (serving.within t));
}

may_latch : (m : Member) (t : TaskNo) (p : Owned) → IsServing m p → is_open (task_at m t p.managers).stage ≡ true → MayLatch m t p
may_latch m t p serving opened = record {
  member = serving.member;
  few = serving.few t;
  idle = λ none. no_run_at_all (λ w. task_at m w p.managers) (log_in m p.logs) serving.held (latch_free (manager_in m p.managers).tasks none);
  fits = if_pending (task_at m t p.managers) (λ unit. length (run_of unit.0 (task_at m t p.managers)) ≤ pages_for unit.0 (log_in m p.logs).writer.reserved)
      (λ u holds some. run_fits (λ w. task_at m w p.managers) (log_in m p.logs) t u (task_at m t p.managers).ops (task_at m t p.managers).claims (structures_of (task_at m t p.managers).ops) serving.held
      (λ i. record { unit = holds i; ops = (task_at m t p.managers).ops; claims = (task_at m t p.managers).claims; stage = open_stage (task_at m t p.managers).stage opened i }) some);
}

may_give_up : (m : Member) (t : TaskNo) (u : UnitName) (p : Owned) → IsServing m p → u.member ≡ m → (task_at m t p.managers).unit ≡ Some u → is_open (task_at m t p.managers).stage ≡ true → MayGiveUp u t p
may_give_up m t u p serving own holds opened = record {
  mark = record {
    member = record { manager = subst (λ (n : ℕ). member_number u.member ≤ n) (sym (length-set p.managers (member_number u.member - 1) changed)) here.member.manager; log = here.member.log };
    structure = subst (λ (x : Task). IfSome (next_claim x) (λ c. structure_number c.connection.structure ≤ length p.structures)) (sym (task_same u.member t (decided (BackedOut 0) (task_at u.member t p.managers)) p.managers is_member))
        (if_next (λ c. structure_number c.connection.structure ≤ length p.structures) (decided (BackedOut 0) (task_at u.member t p.managers)) claims);
  };
  end = here;
}
  where
    here : MayEnd u p
    here = may_end m t u p serving own holds (open_quiet (task_at m t p.managers).stage opened)

    changed : Manager
    changed = record (manager_in u.member p.managers) { tasks = with_task_in t (decided (BackedOut 0) (task_at u.member t p.managers)) (manager_in u.member p.managers).tasks }

    is_member : IsMember u.member p.managers
    is_member = subst (λ (k : Member). IsMember k p.managers) (sym own) (record { within = serving.member.manager; five = serving.five })

    claims : AreWithin (length p.structures) (task_at u.member t p.managers).claims
    claims = subst (λ (k : Member). AreWithin (length p.structures) (task_at k t p.managers).claims) (sym own) (serving.within t)

pub may_step : (m : Member) (t : TaskNo) (p : Owned) (phase : Phase) → IsServing m p → FitsAt m (task_at m t p.managers) phase → MayStepAt m t p phase
may_step m t p Latch serving fits = may_latch m t p serving fits
may_step m t p (Pages u count) serving fits = record {
  member = subst (λ (k : Member). HasMember k p) (sym fits.own) serving.member;
  in_hand = subst (λ (k : Member). IsSome (log_in k p.logs).writer.hand) (sym fits.own) (in_hand m t p serving fits.hardens);
  room = serving.slots t fits.hardens;
}
may_step m t p (Settle u count) serving fits = may_settle m t u p serving fits.own
may_step m t p (Publish u count) serving fits = may_end m t u p serving fits.own fits.holds fits.settling
may_step m t p GiveUp serving fits = record {
  member = serving.member;
  few = serving.few t;
  gives_up = if_pending (task_at m t p.managers) (λ unit. MayGiveUp unit.0 t p) (λ u holds some. may_give_up m t u p serving (serving.own t u holds) holds fits);
}
may_step m t p (Undo u count) serving fits = (may_settle m t u p serving fits.own, may_end m t u p serving fits.own fits.holds fits.settling)
