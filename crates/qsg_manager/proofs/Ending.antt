-- how units begin, are decided, and end, in the machine
use Rattle.std.proofs.Common.{◌≡◌, ℕ, ◌+◌, ◌-◌, ◌≤◌, List, [], ◌∷◌, ◌++◌, length, Option, Some, sym, ap, subst, ◌∙◌, inl, inr, length-set}
use Rattle.qsg_num.specs.declared.seats.Member.{Member}
use Rattle.qsg_num.specs.declared.seats.StructNo.{StructNo}
use Rattle.qsg_num.specs.declared.seats.TaskNo.{TaskNo}
use Rattle.qsg_num.specs.declared.ids.UnitName.{UnitName}
use Rattle.qsg_num.specs.declared.ids.PageNo.{PageNo}
use Rattle.qsg_num.specs.Seats.{member_number}
use Rattle.qsg_model.specs.declared.history.Op.{Op}
use Rattle.qsg_model.specs.declared.history.Item.TheVariants.{Unit as UnitOf}
use Rattle.qsg_lists.specs.Structures.{ListStructure}
use Rattle.qsg_group.specs.declared.tasks.Claim.{Claim}
use Rattle.qsg_group.specs.declared.tasks.Stage.TheVariants.{Hardening, BackedOut}
use Rattle.qsg_group.specs.declared.tasks.Task.{Task}
use Rattle.qsg_group.specs.Group.{Seat, Group, idle}
use Rattle.qsg_group.specs.Observers.{logged_ops}
use Rattle.qsg_group.specs.Tables.{at_member, at_task}
use Rattle.qsg_group.specs.Changes.{open_task, hardening_task, settling_task, drawn, begun, hardened, with_run, backed_out, Change}
use Rattle.qsg_group.specs.Changes.Change.{Draws, Begins, Hardens, BacksOut, Finishes, Publishes}
use Rattle.qsg_group.proofs.Tables.{change-same, change-other, cases_member}
use Rattle.qsg_manager.specs.declared.managers.Manager.{Manager}
use Rattle.qsg_manager.specs.Views.{shelf_of}
use Rattle.qsg_manager.specs.Facilities.{structure_in}
use Rattle.qsg_manager.specs.Storage.{task_in, manager_in, task_at, with_drawn, next_name}
use Rattle.qsg_manager.specs.Groups.{seat_of, Rest, group_of}
use Rattle.qsg_manager.specs.Rests.{with_unit, with_low}
use Rattle.qsg_manager.specs.Units.{with_name, with_stage, decided, safe_stage, with_hardened, with_backed_out, with_idle}
use Rattle.qsg_manager.specs.Actions.{MayDrawName, MayBeginUnit, MayHardenUnit, MayBackOutUnit, MayFinishUnit, MayTellLow}
use Rattle.qsg_manager.proofs.Grouping.{manager_same, manager_other, task_changed}
use Rattle.qsg_manager.proofs.Needs.{latch_free, needed_of_all}

-- ---- a name is drawn

drawn_seats : (m : Member) (ms : List Manager) → member_number m ≤ length ms
    → (k : Member) → seat_of (manager_in k (with_drawn m ms)) ≡ at_member m (λ seat. record seat { next = (manager_in m ms).next + 1 }) (λ x. seat_of (manager_in x ms)) k
drawn_seats m ms within k = elim (cases_member k m) [
  | inl same ↦ subst (λ a. seat_of (manager_in a (with_drawn m ms)) ≡ at_member m (λ seat. record seat { next = (manager_in m ms).next + 1 }) (λ x. seat_of (manager_in x ms)) a) (sym same)
      (ap seat_of (manager_same m (record (manager_in m ms) { next = (manager_in m ms).next + 1 }) ms within) ∙ sym (change-same member_number m (λ (seat : Seat). record seat { next = (manager_in m ms).next + 1 }) (λ x. seat_of (manager_in x ms))))
  | inr differ ↦ ap seat_of (manager_other m k (record (manager_in m ms) { next = (manager_in m ms).next + 1 }) ms differ)
      ∙ sym (change-other member_number m (λ (seat : Seat). record seat { next = (manager_in m ms).next + 1 }) (λ x. seat_of (manager_in x ms)) k differ)
]

drawn_tasks : (m : Member) (ms : List Manager) → member_number m ≤ length ms → (k : Member) (j : TaskNo) → task_at k j (with_drawn m ms) ≡ task_at k j ms
drawn_tasks m ms within k j = elim (cases_member k m) [
  | inl same ↦ subst (λ a. task_at a j (with_drawn m ms) ≡ task_at a j ms) (sym same)
      (ap (λ (x : Manager). task_in j x.tasks) (manager_same m (record (manager_in m ms) { next = (manager_in m ms).next + 1 }) ms within))
  | inr differ ↦ ap (λ (x : Manager). task_in j x.tasks) (manager_other m k (record (manager_in m ms) { next = (manager_in m ms).next + 1 }) ms differ)
]

drawn_group : (rest : Rest) (ls : List ListStructure) (m : Member) (ms : List Manager) → member_number m ≤ length ms
    → group_of rest ls (with_drawn m ms) ≡ record (group_of rest ls ms) { seats = at_member m (λ seat. record seat { next = (manager_in m ms).next + 1 }) (group_of rest ls ms).seats }
drawn_group rest ls m ms within = λ i. record {
  shelves = λ s. shelf_of rest.outside s (structure_in s ls);
  logs = rest.logs;
  seats = λ k. drawn_seats m ms within k i;
  failed = rest.failed;
  tasks = λ k j. drawn_tasks m ms within k j i;
  tops = rest.tops;
  history = rest.history;
}

pub draw_is_draw : (rest : Rest) (ls : List ListStructure) (ms : List Manager) (m : Member) (t : TaskNo) → MayDrawName ms m t
    → Change (group_of rest ls ms) (group_of rest ls (with_name m t ms))
draw_is_draw rest ls ms m t may =
    let g = group_of rest ls ms in
    let u = next_name m ms in
    let moved = record (manager_in m ms) { next = (manager_in m ms).next + 1 } in
    let within : member_number m ≤ length (with_drawn m ms) = rw (length-set ms (member_number m - 1) moved) may.member.within in
    let five : length (manager_in m (with_drawn m ms)).tasks ≡ 5 = ap (λ (x : Manager). length x.tasks) (manager_same m moved ms may.member.within) ∙ may.member.five in
    let made : group_of rest ls (with_name m t ms) ≡ drawn g u t =
    task_changed rest ls (with_drawn m ms) m t (open_task u [] []) within five
    ∙ ap (λ (h : Group). record h { tasks = at_task m t (λ old. open_task u [] []) h.tasks }) (drawn_group rest ls m ms may.member.within) in
    subst (Change g) (sym made) (Draws g u t (record {
      free = may.free;
      seat = λ i. record { up = may.up i; incarnation = (manager_in m ms).incarnation.number; next = (manager_in m ms).next };
    }))

-- ---- a run begins

begun_task : (u : UnitName) (ops : List (StructNo × Op)) (claims : List Claim) (first : PageNo) (next : ℕ) (task : Task) → task ≡ open_task u ops claims → first.number ≡ next
    → record task { stage = Hardening first } ≡ hardening_task u ops claims next
begun_task u ops claims first next task is at = ap (λ (x : Task). record x { stage = Hardening first }) is ∙ ap (hardening_task u ops claims) at

pub begin_is_begin : (rest : Rest) (ls : List ListStructure) (ms : List Manager) (u : UnitName) (t : TaskNo) (ops : List (StructNo × Op)) (claims : List Claim) (first : PageNo)
    → MayBeginUnit rest.logs ms u t ops claims first → Change (group_of rest ls ms) (group_of rest ls (with_stage u.member t (Hardening first) ms))
begin_is_begin rest ls ms u t ops claims first may =
    let g = group_of rest ls ms in
    let made : group_of rest ls (with_stage u.member t (Hardening first) ms) ≡ begun g u t ops claims =
    task_changed rest ls ms u.member t (record (task_at u.member t ms) { stage = Hardening first }) may.member.within may.member.five
    ∙ ap (λ (task : Task). record g { tasks = at_task u.member t (λ old. task) g.tasks }) (begun_task u ops claims first (rest.logs u.member).next (task_at u.member t ms) may.has may.begins) in
    subst (Change g) (sym made) (Begins g u t ops claims (record { has = may.has; latch = latch_free (manager_in u.member ms).tasks may.latch }))

-- ---- a unit is decided

pub harden_is_harden : (rest : Rest) (ls : List ListStructure) (ms : List Manager) (u : UnitName) (t : TaskNo) (ops : List (StructNo × Op)) (claims : List Claim) (first next : ℕ)
    → MayHardenUnit rest.logs ms u t ops claims first next → Change (group_of rest ls ms) (group_of (with_unit u ops claims first next rest) ls (with_hardened u.member t ms))
harden_is_harden rest ls ms u t ops claims first next may =
    let g = group_of rest ls ms in
    let task = task_at u.member t ms in
    let made : group_of (with_unit u ops claims first next rest) ls (with_hardened u.member t ms)
    ≡ record g {
      history = g.history ++ UnitOf u ops ∷ [];
      logs = at_member u.member (with_run (record { unit = u; first = first; told = logged_ops ops claims }) next) g.logs;
      tasks = at_task u.member t (λ old. decided (safe_stage task.stage) task) g.tasks;
    } = task_changed (with_unit u ops claims first next rest) ls ms u.member t (decided (safe_stage task.stage) task) may.member.within may.member.five in
    let same : record g {
      history = g.history ++ UnitOf u ops ∷ [];
      logs = at_member u.member (with_run (record { unit = u; first = first; told = logged_ops ops claims }) next) g.logs;
      tasks = at_task u.member t (λ old. decided (safe_stage task.stage) task) g.tasks;
    } ≡ record g {
      history = g.history ++ UnitOf u ops ∷ [];
      logs = at_member u.member (with_run (record { unit = u; first = first; told = logged_ops ops claims }) next) g.logs;
      tasks = at_task u.member t (λ old. settling_task u claims (Some first) 0) g.tasks;
    } = ap (λ (x : Task). record g {
      history = g.history ++ UnitOf u ops ∷ [];
      logs = at_member u.member (with_run (record { unit = u; first = first; told = logged_ops ops claims }) next) g.logs;
      tasks = at_task u.member t (λ old. decided (safe_stage x.stage) x) g.tasks;
    }) may.has in
    let placed : record g {
      history = g.history ++ UnitOf u ops ∷ [];
      logs = at_member u.member (with_run (record { unit = u; first = first; told = logged_ops ops claims }) next) g.logs;
      tasks = at_task u.member t (λ old. settling_task u claims (Some first) 0) g.tasks;
    } ≡ hardened g u t ops claims next = ap (λ (n : ℕ). record g {
      history = g.history ++ UnitOf u ops ∷ [];
      logs = at_member u.member (with_run (record { unit = u; first = n; told = logged_ops ops claims }) next) g.logs;
      tasks = at_task u.member t (λ old. settling_task u claims (Some n) 0) g.tasks;
    }) may.begins in
    subst (Change g) (sym (made ∙ same ∙ placed)) (Hardens g u t ops claims first next (record { has = may.has; pages = may.pages }))

pub back_out_is_back_out : (rest : Rest) (ls : List ListStructure) (ms : List Manager) (u : UnitName) (t : TaskNo) (ops : List (StructNo × Op)) (claims : List Claim)
    → MayBackOutUnit ms u t ops claims → Change (group_of rest ls ms) (group_of rest ls (with_backed_out u.member t ms))
back_out_is_back_out rest ls ms u t ops claims may =
    let g = group_of rest ls ms in
    let made : group_of rest ls (with_backed_out u.member t ms) ≡ backed_out g u t claims =
    task_changed rest ls ms u.member t (decided (BackedOut 0) (task_at u.member t ms)) may.member.within may.member.five
    ∙ ap (λ (task : Task). record g { tasks = at_task u.member t (λ old. decided (BackedOut 0) task) g.tasks }) may.has in
    subst (Change g) (sym made) (BacksOut g u t ops claims (record { has = may.has }))

-- ---- a unit ends

pub finish_is_finish : (rest : Rest) (ls : List ListStructure) (ms : List Manager) (u : UnitName) (t : TaskNo) (claims : List Claim) (first : Option ℕ) (n : ℕ)
    → MayFinishUnit ms u t claims first n → Change (group_of rest ls ms) (group_of rest ls (with_idle u.member t ms))
finish_is_finish rest ls ms u t claims first n may =
    let g = group_of rest ls ms in
    subst (Change g) (sym (task_changed rest ls ms u.member t idle may.member.within may.member.five)) (Finishes g u t claims first n (record { has = may.has; through = may.through }))

pub publish_is_publish : (rest : Rest) (ls : List ListStructure) (ms : List Manager) (m : Member) (page : ℕ)
    → MayTellLow rest ms m page → Change (group_of rest ls ms) (group_of (with_low m page rest) ls ms)
publish_is_publish rest ls ms m page may =
    Publishes (group_of rest ls ms) m page (record { written = may.written; needed = needed_of_all page (manager_in m ms).tasks may.needed; resolved = may.resolved })
