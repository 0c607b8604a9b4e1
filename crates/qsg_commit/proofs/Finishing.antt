-- the marks that come off, and the end of a unit, as the machine sees them
use Rattle.std.proofs.Common.{◌≡◌, ℕ, zero, suc, ◌+◌, ◌-◌, ◌≤◌, List, [], ◌∷◌, length, Bool, true, false, Option, Some, None, refl, sym, ap, subst, ◌∙◌, cond, arith, true≢false}
use Rattle.std.specs.Prelude.{◌==◌, ◌&&◌, slice_get, IfSome}
use Rattle.std.specs.List.{AllByRecursion}
use Rattle.std.proofs.lemmas.Bool.{eq-eqb}
use Rattle.std.proofs.lemmas.Option.{same_Some, none-some}
use Rattle.std.proofs.lemmas.List.{get_or-set_same, length-set}
use Rattle.qsg_num.specs.declared.seats.Member.{Member}
use Rattle.qsg_num.specs.declared.seats.StructNo.{StructNo}
use Rattle.qsg_num.specs.declared.seats.TaskNo.{TaskNo}
use Rattle.qsg_num.specs.declared.ids.UnitName.{UnitName}
use Rattle.qsg_num.specs.declared.ids.PageNo.{PageNo}
use Rattle.qsg_num.specs.Seats.{member_number, task_number}
use Rattle.qsg_num.proofs.Ranges.{task-bounds}
use Rattle.qsg_model.specs.declared.history.Op.{Op}
use Rattle.qsg_lists.specs.declared.parts.Lost.{Lost}
use Rattle.qsg_lists.specs.declared.parts.Mark.{Mark}
use Rattle.qsg_lists.specs.declared.parts.Mark.TheVariants.{Visible, PutBy, GotBy, Cleanup}
use Rattle.qsg_lists.specs.Structures.{ListStructure, lost_of, is_active}
use Rattle.qsg_lists.specs.Settling as lists
use Rattle.qsg_repo.specs.Tables.{Repository, low_of, with_low as with_low_page}
use Rattle.qsg_repo.specs.Calls.{has_failed, later_page}
use Rattle.qsg_group.specs.declared.tasks.Claim.{Claim}
use Rattle.qsg_group.specs.declared.tasks.Task.{Task}
use Rattle.qsg_group.specs.Group.{Held}
use Rattle.qsg_group.specs.Observers.{has_id}
use Rattle.qsg_group.specs.Laws.{Laws, is_pending, IsConnected}
use Rattle.qsg_group.specs.Changes.{Change, settling_task, is_commit, with_entries, settled_entry, settle}
use Rattle.qsg_group.specs.Changes as machine
use Rattle.qsg_group.specs.Changes.Change.{Settles}
use Rattle.qsg_manager.specs.declared.managers.Manager.{Manager}
use Rattle.qsg_manager.specs.Views.{shelf_of}
use Rattle.qsg_manager.specs.Facilities.{structure_in, with_structure}
use Rattle.qsg_manager.specs.Latches.{first_needed}
use Rattle.qsg_manager.specs.Storage.{manager_in, task_in, task_at, with_task, with_task_in}
use Rattle.qsg_manager.specs.Groups.{Rest, group_of}
use Rattle.qsg_manager.specs.Rests.{with_low}
use Rattle.qsg_manager.specs.Settles.{next_claim, commits, further}
use Rattle.qsg_manager.specs.Actions.{IsMember, MayBackOutUnit, MayFinishUnit}
use Rattle.qsg_manager.proofs.Bridges.{settle_settles}
use Rattle.qsg_manager.proofs.Ending.{back_out_is_back_out, finish_is_finish, publish_is_publish}
use Rattle.qsg_manager.proofs.Grouping.{both_changed, manager_same}
use Rattle.qsg_logs.specs.Kept.{log_in}
use Rattle.qsg_parts.specs.Owned.{Owned}
use Rattle.qsg_commit.specs.Committing.{is_none}
use Rattle.qsg_commit.specs.Ending.{with_settled, settled_by, settled, is_settled, ended, page_or, low_page, with_low_told, given_up}
use Rattle.qsg_commit.specs.Machine.{group_in, MaySettleMark}

-- ---- marks of a structure that isn't served any more

settle_quiet : (id : ℕ) (u : UnitName) (commits : Bool) (es : List Held) → AllByRecursion (λ (e : Held). is_pending e.mark ≡ false) es → settle id u commits es ≡ es
settle_quiet id u commits [] quiet = refl
settle_quiet id u commits (e ∷ es) quiet = by (has_id id e) (stays e e.mark refl quiet.0) (settle_quiet id u commits es quiet.1)
  where
    stays : (e : Held) (mark : Mark) → e.mark ≡ mark → is_pending mark ≡ false → settled_entry u commits mark e ≡ Some e
    stays e Visible is none = refl
    stays e (PutBy v) is none = absurd (true≢false none)
    stays e (GotBy v) is none = absurd (true≢false none)
    stays e Cleanup is none = refl

    by : (b : Bool) → settled_entry u commits e.mark e ≡ Some e → settle id u commits es ≡ es
        → cond b (Rattle.std.specs.List.cons_option (settled_entry u commits e.mark e) es) (e ∷ settle id u commits es) ≡ e ∷ es
    by true same rest = ap (λ (o : Option Held). Rattle.std.specs.List.cons_option o es) same
    by false same rest = ap (λ (l : List Held). e ∷ l) rest

pub all_at : (P : Claim → Type 0) (cs : List Claim) (n : ℕ) (c : Claim) → AllByRecursion P cs → slice_get cs n ≡ Some c → P c
all_at P [] n c all is = absurd (none-some c is)
all_at P (x ∷ cs) zero c all is = subst P (same_Some x c is) all.0
all_at P (x ∷ cs) (suc n) c all is = all_at P cs n c all.1 is

-- a use that isn't served, of a structure that is active only in its present epoch, finds it inactive
not_active : (active : Bool) (a b : ℕ) (lost : Lost) → cond {A = Option Lost} (active && (a == b)) None (Some lost) ≡ Some lost → (active ≡ true → a ≡ b) → active ≡ false
not_active true a b lost is same = absurd (none-some lost (sym (ap (λ (t : Bool). cond {A = Option Lost} t None (Some lost)) (eq-eqb a b (same refl))) ∙ is))
not_active false a b lost is same = refl

is_unit : (u : UnitName) (claims : List Claim) (first : Option ℕ) (n : ℕ) → (settling_task u claims first n).unit ≡ Some u
is_unit u claims first n = refl

shelf_settled : (rest : Rest) (p : Owned) (u : UnitName) (t : TaskNo) (claims : List Claim) (first : Option ℕ) (n : ℕ) (c : Claim) (b : Bool) → Laws (group_in rest p) → MaySettleMark p u t claims first n c
    → shelf_of rest.outside c.connection.structure (lists.revised_if_done (lists.settle_answer (structure_in c.connection.structure p.structures) c.connection c.id u) c.id (lists.settled_entry b) (structure_in c.connection.structure p.structures))
    ≡ with_entries (settle c.id.number u b) (shelf_of rest.outside c.connection.structure (structure_in c.connection.structure p.structures))
shelf_settled rest p u t claims first n c b laws may = by (lost_of ls c.connection) refl
  where
    s : StructNo
    s = c.connection.structure

    ls : ListStructure
    ls = structure_in c.connection.structure p.structures

    claims_are : (task_at u.member t p.managers).claims ≡ claims
    claims_are = ap (λ (x : Task). x.claims) may.has

    connected : is_active (structure_in c.connection.structure p.structures).state ≡ true → c.connection.epoch ≡ (structure_in c.connection.structure p.structures).epoch
    connected = all_at (IsConnected (group_in rest p).shelves) claims n c
        (subst (λ (l : List Claim). AllByRecursion (IsConnected (group_in rest p).shelves) l) claims_are (laws.connected u t (ap (λ (x : Task). x.unit) may.has))) may.is

    by : (lost : Option Lost) → lost_of (structure_in c.connection.structure p.structures) c.connection ≡ lost
        → shelf_of rest.outside c.connection.structure (lists.revised_if_done (lists.settle_answer (structure_in c.connection.structure p.structures) c.connection c.id u) c.id (lists.settled_entry b) (structure_in c.connection.structure p.structures))
        ≡ with_entries (settle c.id.number u b) (shelf_of rest.outside c.connection.structure (structure_in c.connection.structure p.structures))
    by None served = settle_settles rest.outside c.connection.structure (structure_in c.connection.structure p.structures) c.connection c.id u b served
    by (Some lost) is =
        let here = structure_in c.connection.structure p.structures in
        let told : lost_of here c.connection ≡ Some (record { state = here.state; epoch = here.epoch })
        = told_is (is_active here.state && (c.connection.epoch == here.epoch)) lost (record { state = here.state; epoch = here.epoch }) is in
        let inactive : is_active here.state ≡ false = not_active (is_active here.state) c.connection.epoch here.epoch (record { state = here.state; epoch = here.epoch }) told connected in
        let same : lists.revised_if_done (lists.settle_answer here c.connection c.id u) c.id (lists.settled_entry b) here ≡ here
        = ap (λ (o : Option Lost). lists.revised_if_done (Rattle.qsg_lists.specs.Structures.unless o (lists.told_by (Rattle.qsg_lists.specs.Marks.names_unit u) (Rattle.qsg_lists.specs.Entries.entry_at c.id here.entries))) c.id (lists.settled_entry b) here) is in
        let quiet = (laws.shelves c.connection.structure).quiet inactive in
        ap (shelf_of rest.outside c.connection.structure) same
        ∙ sym (ap (λ (es : List Held). record (shelf_of rest.outside c.connection.structure here) { entries = es }) (settle_quiet c.id.number u b (shelf_of rest.outside c.connection.structure here).entries quiet))
      where
        told_is : (served : Bool) (lost now : Lost) → cond {A = Option Lost} served None (Some now) ≡ Some lost → cond {A = Option Lost} served None (Some now) ≡ Some now
        told_is true lost now is = absurd (none-some lost is)
        told_is false lost now is = refl

-- ---- a mark

next_is : (task : Task) (u : UnitName) (claims : List Claim) (first : Option ℕ) (n : ℕ) (c : Claim) → task ≡ settling_task u claims first n → slice_get claims n ≡ Some c → next_claim task ≡ Some c
next_is task u claims first n c is at = ap next_claim is ∙ by first
  where
    by : (first : Option ℕ) → next_claim (settling_task u claims first n) ≡ Some c
    by None = at
    by (Some page) = at

further_is : (task : Task) (u : UnitName) (claims : List Claim) (first : Option ℕ) (n : ℕ) → task ≡ settling_task u claims first n → record task { stage = further task.stage } ≡ settling_task u claims first (n + 1)
further_is task u claims first n is = ap (λ (x : Task). record x { stage = further x.stage }) is ∙ by first
  where
    by : (first : Option ℕ) → record (settling_task u claims first n) { stage = further (settling_task u claims first n).stage } ≡ settling_task u claims first (n + 1)
    by None = refl
    by (Some page) = refl

commits_is : (task : Task) (u : UnitName) (claims : List Claim) (first : Option ℕ) (n : ℕ) → task ≡ settling_task u claims first n → commits task.stage ≡ is_commit first
commits_is task u claims first n is = ap (λ (x : Task). commits x.stage) is ∙ by first
  where
    by : (first : Option ℕ) → commits (settling_task u claims first n).stage ≡ is_commit first
    by None = refl
    by (Some page) = refl

settled_is : (p : Owned) (u : UnitName) (t : TaskNo) (claims : List Claim) (first : Option ℕ) (n : ℕ) (c : Claim) → MaySettleMark p u t claims first n c → settled u t p ≡ with_settled u t c p
settled_is p u t claims first n c may = ap (λ (o : Option Claim). settled_by u t o p) (next_is (task_at u.member t p.managers) u claims first n c may.has may.is)

pub mark_settles : (rest : Rest) (p : Owned) (u : UnitName) (t : TaskNo) (claims : List Claim) (first : Option ℕ) (n : ℕ) (c : Claim) → Laws (group_in rest p) → MaySettleMark p u t claims first n c
    → Change (group_in rest p) (group_in rest (settled u t p))
mark_settles rest p u t claims first n c laws may =
    let s = c.connection.structure in
    let ls = structure_in s p.structures in
    let g = group_in rest p in
    let task = task_at u.member t p.managers in
    let made : group_of rest (with_structure s (lists.revised_if_done (lists.settle_answer ls c.connection c.id u) c.id (lists.settled_entry (is_commit first)) ls) p.structures) (with_task u.member t (settling_task u claims first (n + 1)) p.managers)
    ≡ machine.settled g u t claims first n c
    = both_changed rest p.structures p.managers s (lists.revised_if_done (lists.settle_answer ls c.connection c.id u) c.id (lists.settled_entry (is_commit first)) ls)
    (with_entries (settle c.id.number u (is_commit first))) u.member t (settling_task u claims first (n + 1))
    may.structure (shelf_settled rest p u t claims first n c (is_commit first) laws may) may.member.within may.member.five in
    let same : group_in rest (with_settled u t c p)
    ≡ group_of rest (with_structure s (lists.revised_if_done (lists.settle_answer ls c.connection c.id u) c.id (lists.settled_entry (is_commit first)) ls) p.structures) (with_task u.member t (settling_task u claims first (n + 1)) p.managers)
    = λ i. group_of rest (with_structure s (lists.revised_if_done (lists.settle_answer ls c.connection c.id u) c.id (lists.settled_entry (commits_is task u claims first n may.has i)) ls) p.structures) (with_task u.member t (further_is task u claims first n may.has i) p.managers) in
    subst (Change g) (sym (ap (group_in rest) (settled_is p u t claims first n c may) ∙ same ∙ made)) (Settles g u t claims first n c (record { has = may.has; is = may.is }))

-- ---- the last mark

pub task_same : (m : Member) (t : TaskNo) (task : Task) (managers : List Manager) → IsMember m managers → task_at m t (with_task m t task managers) ≡ task
task_same m t task managers member =
    ap (λ (x : Manager). task_in t x.tasks) (manager_same m (record (manager_in m managers) { tasks = with_task_in t task (manager_in m managers).tasks }) managers member.within)
    ∙ get_or-set_same (manager_in m managers).tasks (task_number t) task _ (omega (arith, member.five, task-bounds t))

pub still_member : (m : Member) (t : TaskNo) (task : Task) (managers : List Manager) → IsMember m managers → IsMember m (with_task m t task managers)
still_member m t task managers member =
    let changed = record (manager_in m managers) { tasks = with_task_in t task (manager_in m managers).tasks } in
    record {
      within = subst (λ (n : ℕ). member_number m ≤ n) (sym (length-set managers (member_number m - 1) changed)) member.within;
      five = ap (λ (x : Manager). length x.tasks) (manager_same m changed managers member.within) ∙ length-set (manager_in m managers).tasks (task_number t) task ∙ member.five;
    }

none_left : (claims : List Claim) (n : ℕ) → is_none (slice_get claims n) ≡ true → length claims ≤ n
none_left [] n none = omega arith
none_left (c ∷ claims) zero none = absurd (true≢false (sym none))
none_left (c ∷ claims) (suc n) none = omega (arith, none_left claims n none)

pub last_mark : (p : Owned) (u : UnitName) (t : TaskNo) (claims : List Claim) (first : Option ℕ) (n : ℕ) (c : Claim) → MaySettleMark p u t claims first n c
    → is_settled u t (settled u t p) ≡ true → MayFinishUnit (settled u t p).managers u t claims first (n + 1)
last_mark p u t claims first n c may none =
    let task = task_at u.member t p.managers in
    let moved = record task { stage = further task.stage } in
    let after : (settled u t p).managers ≡ with_task u.member t moved p.managers = ap (λ (x : Owned). x.managers) (settled_is p u t claims first n c may) in
    let has : task_at u.member t (with_task u.member t moved p.managers) ≡ settling_task u claims first (n + 1)
    = task_same u.member t moved p.managers may.member ∙ further_is task u claims first n may.has in
    let none_next : is_none (next_claim (settling_task u claims first (n + 1))) ≡ true
    = ap (λ (x : Task). is_none (next_claim x)) (sym has) ∙ ap (λ (l : List Manager). is_none (next_claim (task_at u.member t l))) (sym after) ∙ none in
    subst (λ (l : List Manager). MayFinishUnit l u t claims first (n + 1)) (sym after)
    (record { member = still_member u.member t moved p.managers may.member; has = has; through = none_left claims (n + 1) (at_end first none_next) })
  where
    at_end : (first : Option ℕ) → is_none (next_claim (settling_task u claims first (n + 1))) ≡ true → is_none (slice_get claims (n + 1)) ≡ true
    at_end None none = none
    at_end (Some page) none = none

-- ---- the end

pub end_finishes : (rest : Rest) (p : Owned) (u : UnitName) (t : TaskNo) (claims : List Claim) (first : Option ℕ) (n : ℕ) → MayFinishUnit p.managers u t claims first n → Change (group_in rest p) (group_in rest (ended u t p))
end_finishes rest p u t claims first n may = finish_is_finish rest p.structures p.managers u t claims first n may

pub giving_up_backs_out : (rest : Rest) (p : Owned) (u : UnitName) (t : TaskNo) (ops : List (StructNo × Op)) (claims : List Claim) → MayBackOutUnit p.managers u t ops claims → Change (group_in rest p) (group_in rest (given_up u t p))
giving_up_backs_out rest p u t ops claims may = back_out_is_back_out rest p.structures p.managers u t ops claims may

pub low_page_published : (rest : Rest) (p : Owned) (m : Member) → (low_page m p).number ≤ (rest.logs m).next → ((i : ℕ) → rest.failed m i ≡ false)
    → Change (group_in rest p) (group_in (with_low m (low_page m p).number rest) (with_low_told m p))
low_page_published rest p m written resolved =
    publish_is_publish rest p.structures p.managers m (low_page m p).number
    (record { written = written; needed = needed (record { number = (log_in m p.logs).writer.next }) (first_needed (manager_in m p.managers).tasks); resolved = resolved })
  where
    needed : (next : PageNo) (first : Option PageNo) → IfSome first (λ page. (page_or next first).number ≤ page.number)
    needed next None = tt
    needed next (Some page) = omega arith

pub low_page_refused : (p : Owned) (m : Member) → has_failed m p.repo ≡ true → with_low_told m p ≡ p
low_page_refused p m failed = ap (λ (r : Repository). record p { repo = r }) (ap (λ (b : Bool). cond b p.repo (with_low_page m (later_page (low_of m p.repo) (low_page m p)) p.repo)) failed)
