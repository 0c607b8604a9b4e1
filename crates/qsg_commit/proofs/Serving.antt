-- what holds of a member at any time holds after each step
use Rattle.std.proofs.Common.{◌≡◌, ℕ, ◌-◌, ◌<◌, ◌≤◌, ◌^◌, List, length, Bool, true, false, Option, Some, None, refl, sym, ap, subst, ◌∙◌, arith, true≢false, inl, inr}
use Rattle.std.proofs.lemmas.Option.{none-some}
use Rattle.std.proofs.lemmas.List.{length-set, get_or-set_other, set-get_or}
use Rattle.qsg_num.specs.declared.seats.Member.{Member}
use Rattle.qsg_num.specs.declared.seats.TaskNo.{TaskNo}
use Rattle.qsg_num.specs.declared.ids.UnitName.{UnitName}
use Rattle.qsg_num.specs.Seats.{member_number, structure_number, task_number}
use Rattle.qsg_lists.specs.Structures.{ListStructure}
use Rattle.qsg_logpage.specs.Log.{Hand, LogState, advanced}
use Rattle.qsg_group.specs.declared.tasks.Claim.{Claim}
use Rattle.qsg_group.specs.declared.tasks.Stage.{Stage}
use Rattle.qsg_group.specs.declared.tasks.Stage.TheVariants.{Open, Hardening, Committed, BackedOut}
use Rattle.qsg_group.specs.declared.tasks.Task.{Task}
use Rattle.qsg_group.specs.Group.{idle}
use Rattle.qsg_group.specs.Observers.{is_hardening}
use Rattle.qsg_group.specs.Changes.{open_task, hardening_task}
use Rattle.qsg_group.proofs.Tables.{cases_task}
use Rattle.qsg_unitlog.specs.Tells.{ends_run}
use Rattle.qsg_manager.specs.declared.managers.Manager.{Manager}
use Rattle.qsg_manager.specs.Latches.{latch_of}
use Rattle.qsg_manager.specs.Settles.{next_claim, further}
use Rattle.qsg_manager.specs.Storage.{manager_in, task_in, task_at, with_task, with_task_in}
use Rattle.qsg_manager.specs.Units.{decided, safe_stage}
use Rattle.qsg_manager.specs.Actions.{IsMember}
use Rattle.qsg_manager.proofs.Grouping.{manager_same}
use Rattle.qsg_manager.proofs.Needs.{latch_free}
use Rattle.qsg_logs.specs.Writers.{IsRunReserved, IsWithin}
use Rattle.qsg_logs.specs.Kept.{KeptLog, no_log, log_in, with_log, with_begun, with_ended}
use Rattle.qsg_logs.specs.Held.{is_open, IsHandOf, AreHeld, Sets, SettlesMarks}
use Rattle.qsg_logs.proofs.Holding.{begun_held, step_held, last_step_held, settling_held, ended_held}
use Rattle.qsg_parts.specs.Owned.{Owned}
use Rattle.qsg_commit.specs.Committing.{run_of, is_none, IsLatched, IsPageStep}
use Rattle.qsg_commit.specs.Ending.{with_settled, settled_by, settled, ended, with_low_told, given_up}
use Rattle.qsg_commit.specs.Fits.{AreWithin, IsServing}
use Rattle.qsg_commit.proofs.Finishing.{task_same, still_member}
use Rattle.qsg_commit.proofs.Fitting.{open_stage}
use Rattle.qsg_commit.proofs.Writing.{log_same, ends_is}

abbrev Tasks : Member → List Manager → TaskNo → Task
Tasks m managers t = task_at m t managers

pub is_member : (m : Member) (p : Owned) → IsServing m p → IsMember m p.managers
is_member m p serving = record { within = serving.member.manager; five = serving.five }

task_other : (m : Member) (t w : TaskNo) (task : Task) (managers : List Manager) → IsMember m managers → (task_number w ≡ task_number t → ⊥) → task_at m w (with_task m t task managers) ≡ task_at m w managers
task_other m t w task managers member differ =
    ap (λ (x : Manager). task_in w x.tasks) (manager_same m (record (manager_in m managers) { tasks = with_task_in t task (manager_in m managers).tasks }) managers member.within)
    ∙ get_or-set_other (manager_in m managers).tasks (task_number t) (task_number w) task idle differ

sets_task : (m : Member) (t : TaskNo) (task : Task) (managers : List Manager) → IsMember m managers → Sets t task (Tasks m managers) (Tasks m (with_task m t task managers))
sets_task m t task managers member = record { here = task_same m t task managers member; others = λ w differ. task_other m t w task managers member differ }

same_log : (m : Member) (logs : List KeptLog) → with_log m (log_in m logs) logs ≡ logs
same_log m logs = set-get_or logs (member_number m - 1) no_log

by_task : (m : Member) (t : TaskNo) (task : Task) (managers : List Manager) (P : Task → Type 0) → IsMember m managers → P task → ((w : TaskNo) → P (task_at m w managers)) → (w : TaskNo) → P (task_at m w (with_task m t task managers))
by_task m t task managers P member here all w = elim (cases_task w t) [
  | inl same ↦ subst (λ (x : TaskNo). P (task_at m x (with_task m t task managers))) (sym same) (subst P (sym (task_same m t task managers member)) here)
  | inr differ ↦ subst P (sym (task_other m t w task managers member differ)) (all w)
]

-- one task, the log and the history changed
serving_with : (m : Member) (t : TaskNo) (task : Task) (log : KeptLog) (p q : Owned) → IsServing m p → q.managers ≡ with_task m t task p.managers → q.logs ≡ with_log m log p.logs → length q.structures ≡ length p.structures
    → AreHeld (Tasks m (with_task m t task p.managers)) log → length task.ops < 2 ^ 32 → AreWithin (length p.structures) task.claims → ((u : UnitName) → task.unit ≡ Some u → u.member ≡ m)
    → ((w : TaskNo) → is_hardening (task_at m w (with_task m t task p.managers)).stage ≡ true → 0 < q.history.room) → IsServing m q
serving_with m t task log p q serving managers logs structures held few within own slots =
    let member = is_member m p serving in
    let still = still_member m t task p.managers member in
    record {
      member = record {
        manager = subst (λ (l : List Manager). member_number m ≤ length l) (sym managers) still.within;
        log = subst (λ (l : List KeptLog). member_number m ≤ length l) (sym logs) (subst (λ (n : ℕ). member_number m ≤ n) (sym (length-set p.logs (member_number m - 1) log)) serving.member.log);
      };
      five = subst (λ (l : List Manager). length (manager_in m l).tasks ≡ 5) (sym managers) still.five;
      held = subst (λ (l : List Manager). AreHeld (Tasks m l) (log_in m q.logs)) (sym managers)
          (subst (AreHeld (Tasks m (with_task m t task p.managers))) (sym (ap (log_in m) logs ∙ log_same m log p.logs serving.member.log)) held);
      slots = subst (λ (l : List Manager). (w : TaskNo) → is_hardening (task_at m w l).stage ≡ true → 0 < q.history.room) (sym managers) slots;
      few = subst (λ (l : List Manager). (w : TaskNo) → length (task_at m w l).ops < 2 ^ 32) (sym managers) (by_task m t task p.managers (λ x. length x.ops < 2 ^ 32) member few serving.few);
      within = subst (λ (n : ℕ). (w : TaskNo) → AreWithin n (task_at m w q.managers).claims) (sym structures)
          (subst (λ (l : List Manager). (w : TaskNo) → AreWithin (length p.structures) (task_at m w l).claims) (sym managers)
          (by_task m t task p.managers (λ x. AreWithin (length p.structures) x.claims) member within serving.within));
      own = subst (λ (l : List Manager). (w : TaskNo) (u : UnitName) → (task_at m w l).unit ≡ Some u → u.member ≡ m) (sym managers)
          (by_task m t task p.managers (λ x. (u : UnitName) → x.unit ≡ Some u → u.member ≡ m) member own serving.own);
    }

-- a task that isn't written before and after leaves the slots
slots_beside : (m : Member) (t : TaskNo) (task : Task) (p : Owned) → IsServing m p → is_hardening task.stage ≡ false → (w : TaskNo) → is_hardening (task_at m w (with_task m t task p.managers)).stage ≡ true → 0 < p.history.room
slots_beside m t task p serving quiet =
    by_task m t task p.managers (λ x. is_hardening x.stage ≡ true → 0 < p.history.room) (is_member m p serving) (λ hardens. absurd (true≢false (sym hardens ∙ quiet))) serving.slots

-- ---- marks and the end

pub further_closed : (stage : Stage) → is_open stage ≡ false → is_open (further stage) ≡ false
further_closed Open is = absurd (true≢false is)
further_closed (Hardening first) is = refl
further_closed (Committed first settled) is = refl
further_closed (BackedOut settled) is = refl

pub further_quiet : (stage : Stage) → is_hardening stage ≡ false → is_hardening (further stage) ≡ false
further_quiet Open is = refl
further_quiet (Hardening first) is = absurd (true≢false is)
further_quiet (Committed first settled) is = refl
further_quiet (BackedOut settled) is = refl

pub settled_serving : (u : UnitName) (t : TaskNo) (p : Owned) → IsServing u.member p → is_open (task_at u.member t p.managers).stage ≡ false → is_hardening (task_at u.member t p.managers).stage ≡ false → IsServing u.member (settled u t p)
settled_serving u t p serving closed quiet = by (next_claim (task_at u.member t p.managers))
  where
    by : (next : Option Claim) → IsServing u.member (settled_by u t next p)
    by None = serving
    by (Some c) =
        let task = task_at u.member t p.managers in
        let moved = record task { stage = further task.stage } in
        let settles : SettlesMarks task moved = record { same_unit = refl; closed = further_closed task.stage closed; settling = further_quiet task.stage quiet } in
        serving_with u.member t moved (log_in u.member p.logs) p (with_settled u t c p) serving refl (sym (same_log u.member p.logs)) (length-set p.structures (structure_number c.connection.structure - 1) _)
        (settling_held (Tasks u.member p.managers) _ (log_in u.member p.logs) t moved serving.held quiet (sets_task u.member t moved p.managers (is_member u.member p serving)) settles)
        (serving.few t) (serving.within t) (serving.own t) (slots_beside u.member t moved p serving (further_quiet task.stage quiet))

pub given_up_serving : (u : UnitName) (t : TaskNo) (p : Owned) → IsServing u.member p → is_hardening (task_at u.member t p.managers).stage ≡ false → IsServing u.member (given_up u t p)
given_up_serving u t p serving quiet =
    let task = task_at u.member t p.managers in
    let moved = decided (BackedOut 0) task in
    serving_with u.member t moved (log_in u.member p.logs) p (given_up u t p) serving refl (sym (same_log u.member p.logs)) refl
    (settling_held (Tasks u.member p.managers) _ (log_in u.member p.logs) t moved serving.held quiet (sets_task u.member t moved p.managers (is_member u.member p serving)) (record { same_unit = refl; closed = refl; settling = refl }))
    (omega arith) (serving.within t) (serving.own t) (slots_beside u.member t moved p serving refl)

pub ended_serving : (u : UnitName) (t : TaskNo) (p : Owned) → IsServing u.member p → length (log_in u.member p.logs).fillings ≡ 5 → (task_at u.member t p.managers).unit ≡ Some u → is_hardening (task_at u.member t p.managers).stage ≡ false → IsServing u.member (ended u t p)
ended_serving u t p serving five holds quiet =
    serving_with u.member t idle (with_ended t u (log_in u.member p.logs)) p (ended u t p) serving refl refl refl
    (ended_held (Tasks u.member p.managers) _ (log_in u.member p.logs) t u serving.held five holds quiet (sets_task u.member t idle p.managers (is_member u.member p serving)))
    (omega arith) tt (λ v none. absurd (none-some v none)) (slots_beside u.member t idle p serving refl)

pub low_told_serving : (m : Member) (p : Owned) → IsServing m p → IsServing m (with_low_told m p)
low_told_serving m p serving = record {
  member = record { manager = serving.member.manager; log = serving.member.log };
  five = serving.five;
  held = serving.held;
  slots = serving.slots;
  few = serving.few;
  within = serving.within;
  own = serving.own;
}

-- ---- the latch and the pages

pub latched_serving : (u : UnitName) (t : TaskNo) (p q : Owned) → IsServing u.member p → (task_at u.member t p.managers).unit ≡ Some u → is_open (task_at u.member t p.managers).stage ≡ true → latch_of (manager_in u.member p.managers).tasks ≡ None → IsLatched u.member t u p q → IsServing u.member q
latched_serving u t p q serving holds opened free latch =
    let task = task_at u.member t p.managers in
    let next = (log_in u.member p.logs).writer.next in
    let moved = record task { stage = Hardening (record { number = next }) } in
    let was : task ≡ open_task u task.ops task.claims = λ i. record { unit = holds i; ops = task.ops; claims = task.claims; stage = open_stage task.stage opened i } in
    let now : moved ≡ hardening_task u task.ops task.claims next = λ i. record { unit = holds i; ops = task.ops; claims = task.claims; stage = Hardening (record { number = next }) } in
    serving_with u.member t moved (with_begun u (run_of u task) (log_in u.member p.logs)) p q serving (ap (λ (x : Owned). x.managers) latch.parts) (ap (λ (x : Owned). x.logs) latch.parts) (ap (λ (x : Owned). length x.structures) latch.parts)
    (begun_held (Tasks u.member p.managers) _ (log_in u.member p.logs) t u task.ops task.claims next (run_of u task) serving.held was (latch_free (manager_in u.member p.managers).tasks free)
    (subst (λ (x : Task). Sets t x (Tasks u.member p.managers) (Tasks u.member (with_task u.member t moved p.managers))) now (sets_task u.member t moved p.managers (is_member u.member p serving))))
    (serving.few t) (serving.within t) (serving.own t) (λ w hardens. omega (arith, latch.room))

pub safe_closed : (stage : Stage) → is_hardening stage ≡ true → (is_open (safe_stage stage) ≡ false) × (is_hardening (safe_stage stage) ≡ false)
safe_closed Open is = absurd (true≢false (sym is))
safe_closed (Hardening first) is = (refl, refl)
safe_closed (Committed first settled) is = absurd (true≢false (sym is))
safe_closed (BackedOut settled) is = absurd (true≢false (sym is))

ends_with : (writer : LogState) → IsWithin writer → is_none writer.hand ≡ false → is_none (advanced writer).hand ≡ ends_run writer
ends_with writer within some = by writer.hand refl within.run some
  where
    by : (hand : Option Hand) → writer.hand ≡ hand → IsRunReserved writer.reserved hand → is_none hand ≡ false → is_none (advanced writer).hand ≡ ends_run writer
    by None is run some = absurd (true≢false some)
    by (Some hand) is run some = ends_is writer hand is run.0

some_hand : (m : Member) (t : TaskNo) (p : Owned) → IsServing m p → is_hardening (task_at m t p.managers).stage ≡ true → is_none (log_in m p.logs).writer.hand ≡ false
some_hand m t p serving hardens = by (log_in m p.logs).writer.hand serving.held.hand
  where
    by : (hand : Option Hand) → IsHandOf (Tasks m p.managers) hand → is_none hand ≡ false
    by None none = absurd (true≢false (sym hardens ∙ none t))
    by (Some hand) own = refl

pub page_serving : (u : UnitName) (t : TaskNo) (done : Bool) (p q : Owned) → IsServing u.member p → IsWithin (log_in u.member p.logs).writer → is_hardening (task_at u.member t p.managers).stage ≡ true → IsPageStep u t done p q → IsServing u.member q
page_serving u t false p q serving within hardens step =
    let old = log_in u.member p.logs in
    let new = log_in u.member q.logs in
    let not_last : ends_run old.writer ≡ false = sym (ends_with old.writer within (some_hand u.member t p serving hardens)) ∙ ap (λ (w : LogState). is_none w.hand) (sym step.written.writer) ∙ sym step.last in
    let same : q.managers ≡ p.managers = ap (λ (x : Owned). x.managers) step.made in
    let logs : q.logs ≡ with_log u.member new p.logs = ap (λ (x : Owned). x.logs) step.made in
    record {
      member = record {
        manager = subst (λ (l : List Manager). member_number u.member ≤ length l) (sym same) serving.member.manager;
        log = subst (λ (l : List KeptLog). member_number u.member ≤ length l) (sym logs) (subst (λ (n : ℕ). member_number u.member ≤ n) (sym (length-set p.logs (member_number u.member - 1) new)) serving.member.log);
      };
      five = subst (λ (l : List Manager). length (manager_in u.member l).tasks ≡ 5) (sym same) serving.five;
      held = subst (λ (l : List Manager). AreHeld (Tasks u.member l) new) (sym same) (step_held (Tasks u.member p.managers) old new serving.held within not_last step.written.writer step.written.fillings);
      slots = λ w writing. subst (λ (n : ℕ). 0 < n) (sym (ap (λ (x : Owned). x.history.room) step.made)) (serving.slots w (ap (λ (l : List Manager). is_hardening (task_at u.member w l).stage) (sym same) ∙ writing));
      few = subst (λ (l : List Manager). (w : TaskNo) → length (task_at u.member w l).ops < 2 ^ 32) (sym same) serving.few;
      within = subst (λ (x : List ListStructure). (w : TaskNo) → AreWithin (length x) (task_at u.member w q.managers).claims) (sym (ap (λ (x : Owned). x.structures) step.made))
          (subst (λ (l : List Manager). (w : TaskNo) → AreWithin (length p.structures) (task_at u.member w l).claims) (sym same) serving.within);
      own = subst (λ (l : List Manager). (w : TaskNo) (v : UnitName) → (task_at u.member w l).unit ≡ Some v → v.member ≡ u.member) (sym same) serving.own;
    }
page_serving u t true p q serving within hardens step =
    let old = log_in u.member p.logs in
    let new = log_in u.member q.logs in
    let task = task_at u.member t p.managers in
    let moved = decided (safe_stage task.stage) task in
    let last : ends_run old.writer ≡ true = sym (ends_with old.writer within (some_hand u.member t p serving hardens)) ∙ ap (λ (w : LogState). is_none w.hand) (sym step.written.writer) ∙ sym step.last in
    let held = last_step_held (Tasks u.member p.managers) (Tasks u.member (with_task u.member t moved p.managers)) old new t moved serving.held last hardens step.written.writer step.written.fillings
    (sets_task u.member t moved p.managers (is_member u.member p serving)) (record { same_unit = refl; closed = (safe_closed task.stage hardens).0; settling = (safe_closed task.stage hardens).1 }) in
    serving_with u.member t moved new p q serving (ap (λ (x : Owned). x.managers) step.made.parts) (ap (λ (x : Owned). x.logs) step.made.parts) (ap (λ (x : Owned). length x.structures) step.made.parts)
    held (omega arith) (serving.within t) (serving.own t) (λ w writing. absurd (true≢false (sym writing ∙ none_writes new.writer.hand (sym step.last) held.hand w)))
  where
    none_writes : (hand : Option Hand) → is_none hand ≡ true → IsHandOf (Tasks u.member (with_task u.member t (decided (safe_stage (task_at u.member t p.managers).stage) (task_at u.member t p.managers)) p.managers)) hand
        → (w : TaskNo) → is_hardening (task_at u.member w (with_task u.member t (decided (safe_stage (task_at u.member t p.managers).stage) (task_at u.member t p.managers)) p.managers)).stage ≡ false
    none_writes None none quiet = quiet
    none_writes (Some hand) none own = absurd (true≢false (sym none))

-- what is reserved speaks of the writer and the fillings only
pub held_same : (tasks : TaskNo → Task) (old new : KeptLog) → AreHeld tasks old → new.writer ≡ old.writer → new.fillings ≡ old.fillings → AreHeld tasks new
held_same tasks old new held writer fillings = subst (AreHeld tasks) (λ i. record new { writer = sym writer i; fillings = sym fillings i }) here
  where
    here : AreHeld tasks (record new { writer = old.writer; fillings = old.fillings })
    here = record { once = held.once; differ = held.differ; owned = held.owned; fillings = held.fillings; covered = held.covered; hand = held.hand }
