-- the first step of a COMMIT or BACKOUT: what it has to do from then on is less than a whole request
use Rattle.std.proofs.Common.{◌≡◌, ℕ, ◌+◌, ◌-◌, ◌^◌, ◌<◌, ◌≤◌, List, [], ◌∷◌, length, length-set, true, false, cond, Option, Some, None, refl, sym, ap, subst, ◌∙◌, arith, inl, inr, true≢false}
use Rattle.std.specs.Prelude.{nat_lt, option_map}
use Rattle.std.proofs.lemmas.Option.{none-some}
use Rattle.qsg_num.specs.declared.seats.Member.{Member}
use Rattle.qsg_num.specs.declared.seats.StructNo.{StructNo}
use Rattle.qsg_num.specs.declared.seats.TaskNo.{TaskNo}
use Rattle.qsg_model.specs.declared.history.Op.{Op}
use Rattle.qsg_num.specs.declared.ids.UnitName.{UnitName}
use Rattle.qsg_num.specs.Seats.{member_number, task_number}
use Rattle.qsg_requests.specs.declared.replies.Turn.{Turn}
use Rattle.qsg_requests.specs.declared.replies.Turn.TheVariants.{More, Ended, Waits}
use Rattle.qsg_logpage.specs.declared.step.Phase.TheVariants.{Fresh}
use Rattle.qsg_logpage.proofs.Totals.{pages_le_total}
use Rattle.qsg_group.specs.declared.tasks.Task.{Task}
use Rattle.qsg_group.specs.declared.tasks.Stage.TheVariants.{Hardening, BackedOut}
use Rattle.qsg_group.specs.Changes.{open_task}
use Rattle.qsg_unitlog.specs.Sets.{structures_of}
use Rattle.qsg_manager.specs.declared.managers.Manager.{Manager}
use Rattle.qsg_group.specs.Observers.{is_hardening}
use Rattle.qsg_group.proofs.Tables.{cases_member}
use Rattle.qsg_manager.specs.Latches.{latch_of}
use Rattle.qsg_manager.specs.Storage.{manager_in, task_at, with_task}
use Rattle.qsg_manager.proofs.Grouping.{manager_same}
use Rattle.qsg_steady.proofs.Acting.{tasked}
use Rattle.qsg_manager.specs.Units.{decided}
use Rattle.qsg_manager.proofs.Needs.{latch_free}
use Rattle.qsg_logs.specs.Held.{is_open}
use Rattle.qsg_logs.specs.Kept.{KeptLog, log_in, with_begun}
use Rattle.qsg_parts.specs.Owned.{Owned, HasMember}
use Rattle.qsg_steady.specs.Actions.{IsLogKept}
use Rattle.qsg_steady.specs.Steady.{IsSteady}
use Rattle.qsg_steady.proofs.Gives.{run_has_room}
use Rattle.qsg_steady.proofs.Operating.{claims_match}
use Rattle.qsg_steady.proofs.Places.{log_same}
use Rattle.qsg_commit.specs.declared.phases.Phase.{Phase}
use Rattle.qsg_commit.specs.declared.phases.Phase.TheVariants.{Latch, Pages, GiveUp}
use Rattle.qsg_commit.specs.declared.phases.Taken.{Taken}
use Rattle.qsg_commit.specs.declared.phases.Taken.TheVariants.{Nothing, Busy, Begun}
use Rattle.qsg_commit.specs.Committing.{run_of, take_of, take_answer, IsLatched}
use Rattle.qsg_commit.specs.Ending.{given_up}
use Rattle.qsg_commit.specs.Next.{LatchStep, after_give_up, after_undo}
use Rattle.qsg_commit.specs.Pending.{pending}
use Rattle.qsg_fit.proofs.Opened.{opened}
use Rattle.qsg_fit.proofs.Settling.{pending_unit}
use Rattle.qsg_pace.specs.Pace.{left_of_run, marks_left, whole}
use Rattle.qsg_pace.proofs.Looking.{hand_in, hand_other, size_in, size_kept, IsBeside, still_beside, both_beside, tasked_beside}
use Rattle.qsg_pace.proofs.Requests.{Lowers}
use Rattle.qsg_pace.proofs.Marks.{all_left}
use Rattle.qsg_pace.proofs.Pages.{run_bound}
use Rattle.qsg_pace.proofs.Ends.{left_at, marks_at, Ends, IsThere, stored, undone}

-- ---- a unit that begins to end

begun_free : (found : Option (UnitName × ℕ)) (latch : Option TaskNo) (u : UnitName) (count : ℕ) → take_of found latch ≡ Begun u count → (latch ≡ None) × ((n : ℕ) × (found ≡ Some (u, n)))
begun_free None latch u count is = cc
begun_free (Some (v, n)) (Some busy) u count is = cc
begun_free (Some (v, n)) None u count is = (refl, (n, ap (λ (x : UnitName). Some (x, n)) (same v n u count is)))
  where
    same : (v : UnitName) (n : ℕ) (u : UnitName) (count : ℕ) → Begun v n ≡ Begun u count → v ≡ u
    same v n u count is = cc

ops_some : (task : Task) (u : UnitName) (n : ℕ) → pending task ≡ Some (u, n) → 0 < length task.ops
ops_some task u n is = by task.ops is
  where
    by : (ops : List (StructNo × Op)) → cond (nat_lt 0 (length ops)) (option_map {U = UnitName × ℕ} (λ (v : UnitName). (v, length ops)) task.unit) None ≡ Some (u, n) → 0 < length ops
    by [] is = absurd (none-some (u, n) is)
    by (x ∷ ops) is = omega arith

-- an open unit with an operation has fewer claims than 2^30, and its run fewer pages than 2^20
record IsSmall (u : UnitName) (task : Task) : Type 0 where
  pub claims : length task.claims < 2 ^ 30
  pub pages : length (run_of u task) < 2 ^ 20

small : (a b : ℕ) (p : Owned) (m : Member) (t : TaskNo) (u : UnitName) (n : ℕ) → IsSteady a b p → a < 2 ^ 30 → HasMember m p → IsLogKept m p → is_open (task_at m t p.managers).stage ≡ true → pending (task_at m t p.managers) ≡ Some (u, n) → IsSmall u (task_at m t p.managers)
small a b p m t u n s few has kept ready is =
    let task = task_at m t p.managers in
    let holds = pending_unit task u n is in
    let opens = opened task u holds ready in
    let match = claims_match a b p t u task.ops task.claims s (subst (λ (k : Member). task_at k t p.managers ≡ open_task u task.ops task.claims) (sym (s.own m t u holds)) opens) in
    let short = s.short m t in
    let fits = run_has_room a b p m t u task.ops task.claims (structures_of task.ops) s has opens (ops_some task u n is) in
    let reserved = pages_le_total u (log_in m p.logs).writer.reserved in
    record { claims = omega (arith, match, short, few); pages = omega (arith, fits, reserved, kept.within.pages, kept.within.small) }

-- ---- the latch

latch_ends : (count : ℕ) (p q : Owned) (m : Member) (t : TaskNo) (u : UnitName) → IsThere m p → IsSmall u (task_at m t p.managers) → latch_of (manager_in m p.managers).tasks ≡ None → IsLatched m t u p q → Ends m t p q More Latch (Pages u count)
latch_ends count p q m t u there few free latch =
    let task = task_at m t p.managers in
    let next = (log_in m p.logs).writer.next in
    let y = record task { stage = Hardening (record { number = next }) } in
    let log = with_begun u (run_of u task) (log_in m p.logs) in
    let acted = tasked_beside m t y p.structures p in
    let marks = ap (λ (x : Owned). marks_at m t x) latch.parts ∙ ap marks_left (stored m t y p there) in
    let run = ap (λ (x : Owned). left_of_run (hand_in m x.logs)) latch.parts ∙ ap (λ (l : KeptLog). left_of_run l.writer.hand) (log_same m log p.logs there.has.log) in
    let bound = run_bound (record { unit = u; pages = run_of u task; phase = Fresh }) (length (run_of u task)) refl (omega arith) in
    record {
      beside = record {
        tasks = λ k w other. ap (λ (x : Owned). task_at k w x.managers) latch.parts ∙ acted.tasks k w other;
        hands = λ k w other hardens. ap (λ (x : Owned). hand_in k x.logs) latch.parts ∙ elim (cases_member k m) [
          | inl same ↦ absurd (true≢false (sym hardens ∙ subst (λ (x : Member). is_hardening (task_at x w p.managers).stage ≡ false) (sym same) (latch_free (manager_in m p.managers).tasks free w)))
          | inr differ ↦ hand_other m k log p.logs differ
        ];
        sizes = λ k. ap (λ (x : Owned). size_in k x.logs) latch.parts ∙ size_kept m log p.logs refl k;
        lives = ap (λ (x : Owned). x.repo.lives) latch.parts;
        starts = ap (λ (x : Owned). x.repo.starts) latch.parts;
      };
      lowers = omega (arith, marks, run, bound, few.claims, few.pages);
    }

-- a COMMIT that finds no unit ends, and one that finds the latch taken waits
pub latch_step : (a b : ℕ) (p q : Owned) (m : Member) (t : TaskNo) (taken : Taken) (turn : Turn) (phase : Phase) → IsSteady a b p → a < 2 ^ 30 → IsThere m p → IsLogKept m p → is_open (task_at m t p.managers).stage ≡ true
    → take_answer m t p ≡ taken → LatchStep m t taken p turn phase q → Ends m t p q turn Latch phase
latch_step a b p q m t Nothing turn phase s few there kept ready is step = record {
  beside = subst (λ (x : Owned). IsBeside m t p x) (sym step.2) (still_beside m t p);
  lowers = subst (λ (x : Turn). Lowers x (left_at m t phase q) whole) (sym step.0) (omega arith);
}
latch_step a b p q m t (Busy busy) turn phase s few there kept ready is step = record {
  beside = subst (λ (x : Owned). IsBeside m t p x) (sym step.2) (still_beside m t p);
  lowers = subst (λ (x : Turn). Lowers x (left_at m t phase q) whole) (sym step.0) tt;
}
latch_step a b p q m t (Begun u count) turn phase s few there kept ready is step =
    let found = begun_free (pending (task_at m t p.managers)) (latch_of (manager_in m p.managers).tasks) u count is in
    let tiny = small a b p m t u found.1.0 s few there.has kept ready found.1.1 in
    let ends = latch_ends count p q m t u there tiny found.0 step.2 in
    subst (λ (x : Turn). Ends m t p q x Latch phase) (sym step.0) (subst (λ (x : Phase). Ends m t p q More Latch x) (sym step.1) ends)

-- ---- BACKOUT

lowers_more : (turn : Turn) (new old more : ℕ) → old ≤ more → Lowers turn new old → Lowers turn new more
lowers_more More new old more le lowers = omega (arith, le, lowers)
lowers_more (Ended reply) new old more le lowers = omega (arith, le, lowers)
lowers_more (Waits cause) new old more le lowers = tt

still_there : (m : Member) (t : TaskNo) (y : Task) (p : Owned) → IsThere m p → IsThere m (record p { managers = with_task m t y p.managers })
still_there m t y p there = record {
  has = record { manager = subst (λ (n : ℕ). member_number m ≤ n) (sym (length-set p.managers (member_number m - 1) (tasked t y (manager_in m p.managers)))) there.has.manager; log = there.has.log };
  five = ap (λ (x : Manager). length x.tasks) (manager_same m (tasked t y (manager_in m p.managers)) p.managers there.has.manager) ∙ length-set (manager_in m p.managers).tasks (task_number t) y ∙ there.five;
}

given_up_ends : (p : Owned) (t : TaskNo) (u : UnitName) (count : ℕ) → IsThere u.member p → length (task_at u.member t p.managers).claims < 2 ^ 30
    → Ends u.member t p (after_undo t u count GiveUp (given_up u t p)).parts (after_undo t u count GiveUp (given_up u t p)).turn GiveUp (after_undo t u count GiveUp (given_up u t p)).phase
given_up_ends p t u count there few =
    let m = u.member in
    let task = task_at m t p.managers in
    let y = decided (BackedOut 0) task in
    let q = given_up u t p in
    let n = after_undo t u count GiveUp q in
    let all = undone q t u count GiveUp (still_there m t y p there) in
    let marks = ap marks_left (stored m t y p there) in
    let left = all_left task.claims in
    record {
      beside = both_beside m t p q n.parts (tasked_beside m t y p.structures p) all.beside;
      lowers = lowers_more n.turn (left_at m t n.phase n.parts) (marks_at m t q + 1) whole (omega (arith, marks, left, few)) all.lowers;
    }

pub give_up_step : (a b : ℕ) (p : Owned) (m : Member) (t : TaskNo) (found : Option (UnitName × ℕ)) → IsSteady a b p → a < 2 ^ 30 → IsThere m p → IsLogKept m p → is_open (task_at m t p.managers).stage ≡ true → pending (task_at m t p.managers) ≡ found
    → Ends m t p (after_give_up t found p).parts (after_give_up t found p).turn GiveUp (after_give_up t found p).phase
give_up_step a b p m t None s few there kept ready is = record { beside = still_beside m t p; lowers = omega arith }
give_up_step a b p m t (Some (u, count)) s few there kept ready is =
    let tiny = small a b p m t u count s few there.has kept ready is in
    let n = after_undo t u count GiveUp (given_up u t p) in
    subst (λ (k : Member). IsThere k p → length (task_at k t p.managers).claims < 2 ^ 30 → Ends k t p n.parts n.turn GiveUp n.phase) (s.own m t u (pending_unit (task_at m t p.managers) u count is)) (given_up_ends p t u count) there tiny.claims
