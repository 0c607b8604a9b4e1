-- open units, and the pages that are reserved for them
use Rattle.std.proofs.Common.{◌≡◌, ℕ, ◌+◌, ◌-◌, ◌≤◌, List, [], ◌∷◌, ◌++◌, length, true, Option, Some, refl, sym, ap, subst, ◌∙◌, arith, true≢false, length-set}
use Rattle.qsg_num.specs.declared.seats.Member.{Member}
use Rattle.qsg_num.specs.declared.seats.TaskNo.{TaskNo}
use Rattle.qsg_num.specs.declared.ids.UnitName.{UnitName}
use Rattle.qsg_num.specs.Seats.{member_number}
use Rattle.qsg_num.specs.declared.seats.StructNo.{StructNo}
use Rattle.qsg_model.specs.declared.history.Op.{Op}
use Rattle.qsg_logpage.specs.Reserved.{besides}
use Rattle.qsg_group.specs.declared.tasks.Claim.{Claim}
use Rattle.qsg_group.specs.declared.tasks.Stage.{Stage}
use Rattle.qsg_group.specs.declared.tasks.Stage.TheVariants.{Open, Hardening, Committed, BackedOut}
use Rattle.qsg_group.specs.declared.tasks.Task.{Task}
use Rattle.qsg_group.specs.Changes.{open_task}
use Rattle.qsg_manager.specs.declared.managers.Manager.{Manager}
use Rattle.qsg_manager.specs.Storage.{task_in, manager_in, task_at, with_task, with_drawn, next_name}
use Rattle.qsg_manager.specs.Units.{with_name}
use Rattle.qsg_manager.proofs.Grouping.{manager_same}
use Rattle.qsg_logs.specs.Held.{is_open}
use Rattle.qsg_logs.specs.Kept.{KeptLog, log_in, with_log, filling_of, with_commit, with_operation, need_of, with_reserved}
use Rattle.qsg_logs.proofs.Owners.{are_besides, pages_for-own}
use Rattle.qsg_parts.specs.Owned.{Owned, HasMember}
use Rattle.qsg_steady.specs.Standing.{pages_of}
use Rattle.qsg_steady.proofs.Acting.{tasked}
use Rattle.qsg_steady.proofs.Places.{log_same, task_same}

stage_open : (stage : Stage) → is_open stage ≡ true → stage ≡ Open
stage_open Open is = refl
stage_open (Hardening first) is = absurd (true≢false (sym is))
stage_open (Committed first n) is = absurd (true≢false (sym is))
stage_open (BackedOut n) is = absurd (true≢false (sym is))

-- a task that holds a name at an open stage holds an open unit
pub opened : (x : Task) (u : UnitName) → x.unit ≡ Some u → is_open x.stage ≡ true → x ≡ open_task u x.ops x.claims
opened x u is ready = λ i. record { unit = is i; ops = x.ops; claims = x.claims; stage = stage_open x.stage ready i }

pub opened_by : (x : Task) (u : UnitName) (ops : List (StructNo × Op)) (claims : List Claim) → x ≡ open_task u ops claims → x ≡ open_task u x.ops x.claims
opened_by x u ops claims is = is ∙ sym (ap (λ (z : Task). open_task u z.ops z.claims) is)

-- a task is at its place
pub task_stored : (m : Member) (t : TaskNo) (y : Task) (ms : List Manager) → member_number m ≤ length ms → length (manager_in m ms).tasks ≡ 5 → task_at m t (with_task m t y ms) ≡ y
task_stored m t y ms within five =
    ap (λ (z : Manager). task_in t z.tasks) (manager_same m (tasked t y (manager_in m ms)) ms within) ∙ task_same t y (manager_in m ms).tasks five

-- a task that has drawn a name holds an open unit without operations
pub drawn_task : (m : Member) (t : TaskNo) (ms : List Manager) → member_number m ≤ length ms → length (manager_in m ms).tasks ≡ 5 → task_at m t (with_name m t ms) ≡ open_task (next_name m ms) [] []
drawn_task m t ms within five =
    let counted : Manager = record (manager_in m ms) { next = (manager_in m ms).next + 1 } in
    task_stored m t (open_task (next_name m ms) [] []) (with_drawn m ms)
    (subst (λ (n : ℕ). member_number m ≤ n) (sym (length-set ms (member_number m - 1) counted)) within)
    (ap (λ (z : Manager). length z.tasks) (manager_same m counted ms within) ∙ five)

-- what a unit needs is reserved for it
pub pages_held : (m : Member) (t : TaskNo) (u : UnitName) (bytes : Option ℕ) (unit : Option UnitName) (p : Owned) → HasMember m p → unit ≡ Some u
    → with_commit (with_operation bytes (filling_of t (log_in m (with_log m (with_reserved u (need_of t bytes (log_in m p.logs)) (log_in m p.logs)) p.logs))))
    ≤ pages_of unit (log_in m (with_log m (with_reserved u (need_of t bytes (log_in m p.logs)) (log_in m p.logs)) p.logs)).writer.reserved
pages_held m t u bytes unit p has is =
    let log = log_in m p.logs in
    let n = need_of t bytes log in
    let rs = besides u log.writer.reserved in
    subst (λ (l : KeptLog). with_commit (with_operation bytes (filling_of t l)) ≤ pages_of unit l.writer.reserved) (sym (log_same m (with_reserved u n log) p.logs has.log))
    (subst (λ (v : Option UnitName). n ≤ pages_of v (rs ++ record { unit = u; pages = n } ∷ [])) (sym is)
    (omega (arith, pages_for-own u n rs (are_besides u log.writer.reserved))))
