-- what a steady group gives
use Rattle.std.proofs.Common.{◌≡◌, ℕ, ◌+◌, ◌-◌, ◌<◌, ◌≤◌, ◌^◌, List, length, Bool, true, false, Option, Some, None, refl, sym, ap, subst, ◌∙◌, arith, true≢false}
use Rattle.std.specs.Prelude.{IsSome, IfSome, slice_get}
use Rattle.std.proofs.lemmas.List.Sums.{get_or-le-sum_by}
use Rattle.std.specs.List.{AllByRecursion, flat_map}
use Rattle.qsg_num.specs.declared.seats.Member.{Member}
use Rattle.qsg_num.specs.declared.seats.StructNo.{StructNo}
use Rattle.qsg_num.specs.declared.seats.TaskNo.{TaskNo}
use Rattle.qsg_num.specs.declared.ids.Incarnation.{Incarnation}
use Rattle.qsg_num.specs.declared.ids.UnitName.{UnitName}
use Rattle.qsg_num.specs.Seats.{member_number, structure_number}
use Rattle.qsg_model.specs.declared.history.Op.{Op}
use Rattle.qsg_logpage.specs.Log.{Hand, has_run}
use Rattle.qsg_logpage.specs.Reserved.{besides, pages_for}
use Rattle.qsg_repo.specs.Calls.{is_unresolved, next_incarnation}
use Rattle.qsg_repo.specs.Keeping.{least, keep, noted_pages, pages_held}
use Rattle.qsg_repo.specs.Tables.{low_of}
use Rattle.qsg_group.specs.declared.tasks.Claim.{Claim}
use Rattle.qsg_group.specs.declared.tasks.Stage.{Stage}
use Rattle.qsg_group.specs.declared.tasks.Stage.TheVariants.{Open, Hardening, Committed, BackedOut}
use Rattle.qsg_group.specs.declared.tasks.Task.{Task}
use Rattle.qsg_group.specs.Group.{idle}
use Rattle.qsg_group.specs.Laws.{HasEnded}
use Rattle.qsg_group.specs.Observers.{is_hardening, logged_ops}
use Rattle.qsg_group.specs.Changes.{open_task}
use Rattle.qsg_unitlog.specs.Units.{run_pages}
use Rattle.qsg_manager.specs.declared.managers.Manager.{Manager}
use Rattle.qsg_manager.specs.Facilities.{structure_in}
use Rattle.qsg_manager.specs.Groups.{seat_of}
use Rattle.qsg_manager.specs.Latches.{latch_of}
use Rattle.qsg_manager.specs.Settles.{next_by, next_claim}
use Rattle.qsg_manager.specs.Storage.{no_manager, manager_in, task_at, next_name}
use Rattle.qsg_manager.proofs.Needs.{latch_free}
use Rattle.qsg_logs.specs.Kept.{log_in}
use Rattle.qsg_logs.proofs.Holding.{are_few, no_run_of, no_run_at_all, run_fits}
use Rattle.qsg_parts.specs.Owned.{Owned, HasMember}
use Rattle.qsg_steady.specs.Steady.{tasks_of, written_by, writing, IsWithin, IsLive, IsOver, AreTelling, IsLawful, IsSteady}
use Rattle.qsg_steady.proofs.Places.{latch_some, written_one, writing_with, member_some}
use Rattle.qsg_steady.proofs.Acting.{held_of}
use Rattle.qsg_steady.proofs.Starts.{least_first}
use Rattle.qsg_steady.proofs.Reserving.{next_is_free}
use Rattle.qsg_steady.proofs.Ending.{all_get}
use Rattle.qsg_steady.proofs.Writing.{in_hand}
use Rattle.qsg_steady.proofs.Committing.{one_hardens}

pub member_has : (a b : ℕ) (p : Owned) (m : Member) → IsSteady a b p → member_number m ≤ length p.managers → HasMember m p
member_has a b p m s there = record { manager = there; log = omega (arith, s.shape.logs, there) }

pub few : (a b : ℕ) (p : Owned) (m : Member) (u : UnitName) → IsSteady a b p → HasMember m p → length (besides u (log_in m p.logs).writer.reserved) < 8
few a b p m u s has = are_few (tasks_of (manager_in m p.managers)) (log_in m p.logs) u (held_of a b p m s has)

pub idle_run : (a b : ℕ) (p : Owned) (m : Member) (t : TaskNo) (u : UnitName) → IsSteady a b p → HasMember m p → (task_at m t p.managers).unit ≡ Some u → is_hardening (task_at m t p.managers).stage ≡ false → has_run u (log_in m p.logs).writer ≡ false
idle_run a b p m t u s has holds closed =
    let held = (held_of a b p m s has) in
    no_run_of (tasks_of (manager_in m p.managers)) (log_in m p.logs) u held
    (λ w also. subst (λ z. is_hardening (task_at m z p.managers).stage ≡ false) (held.once u t w holds also) closed)

pub idle_next : (a b : ℕ) (p : Owned) (m : Member) → IsSteady a b p → HasMember m p → has_run (next_name m p.managers) (log_in m p.logs).writer ≡ false
idle_next a b p m s has = no_run_of (tasks_of (manager_in m p.managers)) (log_in m p.logs) (next_name m p.managers) (held_of a b p m s has) (λ w also. absurd (next_is_free a b p m s w also))

pub kept_written : (a b : ℕ) (p : Owned) (m : Member) → IsSteady a b p → HasMember m p → keep m p.repo ≤ (log_in m p.logs).writer.next
kept_written a b p m s has =
    let first = least (low_of m p.repo).number (noted_pages m p.repo) in
    omega (arith, least_first (low_of m p.repo).number (noted_pages m p.repo), least_first first (flat_map (pages_held m) p.repo.holds), (s.behind m has.manager).low)

pub name_left : (a b : ℕ) (p : Owned) (m : Member) → IsSteady a b p → a + b ≤ 2147483648 → (manager_in m p.managers).next + 1 < 2 ^ 32
name_left a b p m s few = omega (arith, s.counted.names m, few)

pub id_left : (a b : ℕ) (p : Owned) (x : StructNo) → IsSteady a b p → a ≤ 2147483648 → (structure_in x p.structures).last + 1 < 2 ^ 40
id_left a b p x s few = omega (arith, s.counted.ids x, few)

pub operations_few : (a b : ℕ) (p : Owned) (m : Member) (t : TaskNo) → IsSteady a b p → length (task_at m t p.managers).ops ≤ a
operations_few a b p m t s = s.short m t

pub latch_idle : (a b : ℕ) (p : Owned) (m : Member) → IsSteady a b p → HasMember m p → latch_of (manager_in m p.managers).tasks ≡ None → (log_in m p.logs).writer.hand ≡ None
latch_idle a b p m s has latch = no_run_at_all (tasks_of (manager_in m p.managers)) (log_in m p.logs) (held_of a b p m s has) (latch_free (manager_in m p.managers).tasks latch)

pub run_has_room : (a b : ℕ) (p : Owned) (m : Member) (t : TaskNo) (u : UnitName) (ops : List (StructNo × Op)) (claims : List Claim) (structures : List StructNo) → IsSteady a b p → HasMember m p → task_at m t p.managers ≡ open_task u ops claims → 0 < length ops
    → length (run_pages u (logged_ops ops claims) structures) ≤ pages_for u (log_in m p.logs).writer.reserved
run_has_room a b p m t u ops claims structures s has is some = run_fits (tasks_of (manager_in m p.managers)) (log_in m p.logs) t u ops claims structures (held_of a b p m s has) is some

hand_is : (hand : Option Hand) → (hand ≡ None → ⊥) → IsSome hand
hand_is None none = absurd (none refl)
hand_is (Some h) none = refl

pub page_in_hand : (a b : ℕ) (p : Owned) (m : Member) (t : TaskNo) → IsSteady a b p → HasMember m p → is_hardening (task_at m t p.managers).stage ≡ true → IsSome (log_in m p.logs).writer.hand
page_in_hand a b p m t s has hardens = hand_is (log_in m p.logs).writer.hand (in_hand (tasks_of (manager_in m p.managers)) (log_in m p.logs) t (held_of a b p m s has) hardens)

pub hardens_alone : (a b : ℕ) (p : Owned) (m : Member) (t w : TaskNo) → IsSteady a b p → HasMember m p → is_hardening (task_at m t p.managers).stage ≡ true → is_hardening (task_at m w p.managers).stage ≡ true → w ≡ t
hardens_alone a b p m t w s has hardens also = one_hardens (tasks_of (manager_in m p.managers)) (log_in m p.logs).writer.hand w t (held_of a b p m s has).hand also hardens

pub slot_left : (a b : ℕ) (p : Owned) (m : Member) (t : TaskNo) → IsSteady a b p → HasMember m p → is_hardening (task_at m t p.managers).stage ≡ true → 0 < p.history.room
slot_left a b p m t s has hardens =
    let x = manager_in m p.managers in
    omega (arith, writing_with m x p.managers has.manager, written_one x (latch_some x.tasks t hardens), s.room, writing_at m p.managers has.manager)
  where
    writing_at : (m : Member) (ms : List Manager) → member_number m ≤ length ms → written_by (manager_in m ms) ≤ writing ms
    writing_at m ms within = let one = member_some m in get_or-le-sum_by written_by ms (member_number m - 1) no_manager (omega arith)

some_within : (n : ℕ) (o : Option Claim) → ((c : Claim) → o ≡ Some c → IsWithin n c) → IfSome o (λ c. structure_number c.connection.structure ≤ n)
some_within n None all = tt
some_within n (Some c) all = all c refl

next_within : (n : ℕ) (stage : Stage) (claims : List Claim) → AllByRecursion (IsWithin n) claims → IfSome (next_by stage claims) (λ c. structure_number c.connection.structure ≤ n)
next_within n Open claims all = tt
next_within n (Hardening first) claims all = tt
next_within n (Committed first k) claims all = some_within n (slice_get claims k) (λ c is. all_get (IsWithin n) claims k c is all)
next_within n (BackedOut k) claims all = some_within n (slice_get claims k) (λ c is. all_get (IsWithin n) claims k c is all)

pub claim_there : (a b : ℕ) (p : Owned) (m : Member) (t : TaskNo) → IsSteady a b p → IfSome (next_claim (task_at m t p.managers)) (λ c. structure_number c.connection.structure ≤ length p.structures)
claim_there a b p m t s = next_within (length p.structures) (task_at m t p.managers).stage (task_at m t p.managers).claims (s.within m t)

-- ---- units in hand, and incarnations

pub lawful_told : (a b : ℕ) (p : Owned) → AreTelling p → IsSteady a b p → IsLawful p
lawful_told a b p tells s = s.lawful tells

pub unit_own : (a b : ℕ) (p : Owned) (m : Member) (t : TaskNo) (u : UnitName) → IsSteady a b p → (task_at m t p.managers).unit ≡ Some u → u.member ≡ m
unit_own a b p m t u s has = s.own m t u has

pub unit_live : (a b : ℕ) (p : Owned) (m : Member) (t : TaskNo) (u : UnitName) → IsSteady a b p → (task_at m t p.managers).unit ≡ Some u → IsLive (manager_in m p.managers) u
unit_live a b p m t u s has = s.live m t u has

-- an incarnation that has ended isn't up
not_over : (manager : Manager) (u : UnitName) → IsLive manager u → HasEnded u.incarnation.number (seat_of manager) → ⊥
not_over manager u live ended = true≢false (sym live.up ∙ ended.down (ap (λ (i : Incarnation). i.number) live.incarnation))

pub unit_resolved : (a b : ℕ) (p : Owned) (m : Member) (t : TaskNo) (u : UnitName) → IsSteady a b p → (task_at m t p.managers).unit ≡ Some u → is_unresolved u.member u.incarnation p.repo ≡ false
unit_resolved a b p m t u s has = by (is_unresolved u.member u.incarnation p.repo) refl
  where
    by : (z : Bool) → is_unresolved u.member u.incarnation p.repo ≡ z → is_unresolved u.member u.incarnation p.repo ≡ false
    by true is = absurd (not_over (manager_in m p.managers) u (s.live m t u has) (subst (λ k. HasEnded u.incarnation.number (seat_of (manager_in k p.managers))) (s.own m t u has) (s.over u.member u.incarnation is).ended))
    by false is = is

pub incarnation_over : (a b : ℕ) (p : Owned) (m : Member) (i : Incarnation) → IsSteady a b p → is_unresolved m i p.repo ≡ true → IsOver m i p.managers
incarnation_over a b p m i s is = s.over m i is

pub incarnation_next : (a b : ℕ) (p : Owned) (m : Member) → IsSteady a b p → HasMember m p → next_incarnation m p.repo ≡ record { number = 1 + (manager_in m p.managers).incarnation.number }
incarnation_next a b p m s has = λ i. record { number = 1 + (s.listed m has.manager).given i }

-- the unit of a task is live, or it has none
down_idle_by : (a b : ℕ) (p : Owned) (m : Member) (t : TaskNo) (unit : Option UnitName) → IsSteady a b p → (manager_in m p.managers).up ≡ false → (task_at m t p.managers).unit ≡ unit → task_at m t p.managers ≡ idle
down_idle_by a b p m t None s down is = s.named m t is
down_idle_by a b p m t (Some u) s down is = absurd (true≢false (sym (s.live m t u is).up ∙ down))

pub down_idle : (a b : ℕ) (p : Owned) (m : Member) (t : TaskNo) → IsSteady a b p → (manager_in m p.managers).up ≡ false → task_at m t p.managers ≡ idle
down_idle a b p m t s down = down_idle_by a b p m t (task_at m t p.managers).unit s down refl

pub down_quiet : (a b : ℕ) (p : Owned) (m : Member) → IsSteady a b p → HasMember m p → (manager_in m p.managers).up ≡ false → (log_in m p.logs).writer.hand ≡ None
down_quiet a b p m s has down = no_run_at_all (tasks_of (manager_in m p.managers)) (log_in m p.logs) (held_of a b p m s has) (λ w. ap (λ (x : Task). is_hardening x.stage) (down_idle a b p m w s down))
