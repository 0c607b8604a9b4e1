-- actions on structures and managers are changes of the machine
use Rattle.std.proofs.Common.{◌≡◌, ℕ, ◌+◌, Bool, true, false, cond, List, [], ◌∷◌, ◌++◌, Option, Some, None, refl, sym, ap, subst, ◌∙◌}
use Rattle.std.specs.Prelude.{◌==◌, ◌&&◌}
use Rattle.std.proofs.lemmas.Bool.{and_parts, eqb-true}
use Rattle.qsg_num.specs.declared.seats.StructNo.{StructNo}
use Rattle.qsg_num.specs.declared.seats.TaskNo.{TaskNo}
use Rattle.qsg_num.specs.declared.ids.UnitName.{UnitName}
use Rattle.qsg_num.specs.declared.ids.EntryId.{EntryId}
use Rattle.qsg_msg.specs.declared.message.Message.{Message}
use Rattle.qsg_model.specs.declared.history.Op.{Op}
use Rattle.qsg_model.specs.declared.history.Op.TheVariants.{Put}
use Rattle.qsg_lists.specs.declared.parts.Connection.{Connection}
use Rattle.qsg_lists.specs.declared.parts.Lost.{Lost}
use Rattle.qsg_lists.specs.declared.parts.Head.{Head}
use Rattle.qsg_lists.specs.declared.parts.Place.{Place}
use Rattle.qsg_lists.specs.declared.parts.Mark.TheVariants.{PutBy}
use Rattle.qsg_lists.specs.Structures.{ListStructure, lost_of, is_active}
use Rattle.qsg_lists.specs.Settling.{settle_answer, settled_entry, revised_if_done}
use Rattle.qsg_lists.specs.Writing.{written, next_id}
use Rattle.qsg_group.specs.declared.tasks.Claim.{Claim}
use Rattle.qsg_group.specs.declared.tasks.Task.{Task}
use Rattle.qsg_group.specs.Group.{Shelf}
use Rattle.qsg_group.specs.Tables.{at_structure, at_task}
use Rattle.qsg_group.specs.Changes.{open_task, settling_task, is_commit, claim_of, with_entry, with_entries, settle, put, settled, Change}
use Rattle.qsg_group.specs.Changes.Change.{Puts, Settles}
use Rattle.qsg_manager.specs.declared.managers.Manager.{Manager}
use Rattle.qsg_manager.specs.Views.{body_of, is_outside, message_of}
use Rattle.qsg_manager.specs.Facilities.{structure_in, with_structure}
use Rattle.qsg_manager.specs.Storage.{task_at, with_task}
use Rattle.qsg_manager.specs.Groups.{Rest, group_of}
use Rattle.qsg_manager.specs.Putting.{with_id, with_put}
use Rattle.qsg_manager.specs.Settles.{commits, further}
use Rattle.qsg_manager.specs.Actions.{MayWrite, MaySettleNext}
use Rattle.qsg_manager.proofs.Bridges.{write_adds, settle_settles}
use Rattle.qsg_manager.proofs.Grouping.{both_changed}

served_both : (s : ListStructure) (c : Connection) → lost_of s c ≡ None → (is_active s.state && (c.epoch == s.epoch)) ≡ true
served_both s c served = by (is_active s.state && (c.epoch == s.epoch)) served
  where
    by : (b : Bool) → cond {A = Option Lost} b None (Some (record { state = s.state; epoch = s.epoch })) ≡ None → b ≡ true
    by true is = refl
    by false is = absurd cc

pub served_active : (s : ListStructure) (c : Connection) → lost_of s c ≡ None → is_active s.state ≡ true
served_active s c served = (and_parts (is_active s.state) (c.epoch == s.epoch) (served_both s c served)).0

pub served_epoch : (s : ListStructure) (c : Connection) → lost_of s c ≡ None → c.epoch ≡ s.epoch
served_epoch s c served = eqb-true c.epoch s.epoch (and_parts (is_active s.state) (c.epoch == s.epoch) (served_both s c served)).1

-- the task that a write leaves is the machine's
put_task : (u : UnitName) (ops : List (StructNo × Op)) (claims : List Claim) (connection : Connection) (message : Message) (id : EntryId) (shelf : Shelf) (task : Task) → task ≡ open_task u ops claims → connection.epoch ≡ shelf.epoch
    → with_put connection message id task ≡ open_task u (ops ++ (connection.structure, Put (with_id id message)) ∷ []) (claims ++ claim_of connection.structure shelf (with_id id message) ∷ [])
put_task u ops claims connection message id shelf task is epoch =
    ap (with_put connection message id) is
    ∙ ap (λ n. open_task u (ops ++ (connection.structure, Put (with_id id message)) ∷ []) (claims ++ record { connection = record { structure = connection.structure; epoch = n }; id = id; persistent = message.persistent } ∷ [])) epoch

pub write_is_put : (rest : Rest) (structures : List ListStructure) (managers : List Manager) (u : UnitName) (t : TaskNo) (ops : List (StructNo × Op)) (claims : List Claim) (connection : Connection) (head : Head) (place : Place) (message : Message)
    → MayWrite rest.outside structures managers u t ops claims connection head place message
    → Change (group_of rest structures managers)
    (group_of rest (with_structure connection.structure (written (structure_in connection.structure structures) u head place) structures)
    (with_task u.member t (with_put connection message (next_id (structure_in connection.structure structures)) (task_at u.member t managers)) managers))
write_is_put rest structures managers u t ops claims connection head place message may =
    let s = connection.structure in
    let ls = structure_in s structures in
    let m = with_id (next_id ls) message in
    let g = group_of rest structures managers in
    let epoch = served_epoch ls connection may.structure.served in
    let made = both_changed rest structures managers s (written ls u head place)
    (with_entry (record { message = message_of s (next_id ls) head (body_of (rest.outside s) place); mark = PutBy u; outside = is_outside place }))
    u.member t (with_put connection message (next_id ls) (task_at u.member t managers))
    may.structure.within (write_adds rest.outside s ls u head place) may.member.within may.member.five in
    let same : record g {
      shelves = at_structure s (with_entry (record { message = message_of s (next_id ls) head (body_of (rest.outside s) place); mark = PutBy u; outside = is_outside place })) g.shelves;
      tasks = at_task u.member t (λ old. with_put connection message (next_id ls) (task_at u.member t managers)) g.tasks;
    } ≡ put g u t ops claims s m (is_outside place) = λ i. record g {
      shelves = at_structure s (with_entry (record { message = sym may.says i; mark = PutBy u; outside = is_outside place })) g.shelves;
      tasks = at_task u.member t (λ old. put_task u ops claims connection message (next_id ls) (g.shelves s) (task_at u.member t managers) may.has epoch i) g.tasks;
    } in
    subst (Change g) (sym (made ∙ same))
    (Puts g u t ops claims s m (is_outside place) (record {
      has = may.has;
      active = served_active ls connection may.structure.served;
      fits = may.fits;
      id = refl;
      own = ap (λ (x : Message). x.structure) may.says;
    }))

further_is : (u : UnitName) (claims : List Claim) (first : Option ℕ) (n : ℕ) → record (settling_task u claims first n) { stage = further (settling_task u claims first n).stage } ≡ settling_task u claims first (n + 1)
further_is u claims None n = refl
further_is u claims (Some first) n = refl

commits_is : (u : UnitName) (claims : List Claim) (first : Option ℕ) (n : ℕ) → commits (settling_task u claims first n).stage ≡ is_commit first
commits_is u claims None n = refl
commits_is u claims (Some first) n = refl

further_task : (task : Task) (u : UnitName) (claims : List Claim) (first : Option ℕ) (n : ℕ) → task ≡ settling_task u claims first n → record task { stage = further task.stage } ≡ settling_task u claims first (n + 1)
further_task task u claims first n is = ap (λ (x : Task). record x { stage = further x.stage }) is ∙ further_is u claims first n

further_commits : (task : Task) (u : UnitName) (claims : List Claim) (first : Option ℕ) (n : ℕ) → task ≡ settling_task u claims first n → commits task.stage ≡ is_commit first
further_commits task u claims first n is = ap (λ (x : Task). commits x.stage) is ∙ commits_is u claims first n

pub settle_is_settle : (rest : Rest) (structures : List ListStructure) (managers : List Manager) (u : UnitName) (t : TaskNo) (claims : List Claim) (first : Option ℕ) (n : ℕ) (c : Claim)
    → MaySettleNext structures managers u t claims first n c
    → Change (group_of rest structures managers)
    (group_of rest (with_structure c.connection.structure (revised_if_done (settle_answer (structure_in c.connection.structure structures) c.connection c.id u) c.id (settled_entry (commits (task_at u.member t managers).stage)) (structure_in c.connection.structure structures)) structures)
    (with_task u.member t (record (task_at u.member t managers) { stage = further (task_at u.member t managers).stage }) managers))
settle_is_settle rest structures managers u t claims first n c may =
    let s = c.connection.structure in
    let ls = structure_in s structures in
    let g = group_of rest structures managers in
    let task = task_at u.member t managers in
    let made : group_of rest (with_structure s (revised_if_done (settle_answer ls c.connection c.id u) c.id (settled_entry (is_commit first)) ls) structures) (with_task u.member t (settling_task u claims first (n + 1)) managers) ≡ settled g u t claims first n c =
    both_changed rest structures managers s (revised_if_done (settle_answer ls c.connection c.id u) c.id (settled_entry (is_commit first)) ls)
    (with_entries (settle c.id.number u (is_commit first))) u.member t (settling_task u claims first (n + 1))
    may.structure.within (settle_settles rest.outside s ls c.connection c.id u (is_commit first) may.structure.served) may.member.within may.member.five in
    let same : group_of rest (with_structure s (revised_if_done (settle_answer ls c.connection c.id u) c.id (settled_entry (commits task.stage)) ls) structures) (with_task u.member t (record task { stage = further task.stage }) managers)
    ≡ group_of rest (with_structure s (revised_if_done (settle_answer ls c.connection c.id u) c.id (settled_entry (is_commit first)) ls) structures) (with_task u.member t (settling_task u claims first (n + 1)) managers) =
    λ i. group_of rest (with_structure s (revised_if_done (settle_answer ls c.connection c.id u) c.id (settled_entry (further_commits task u claims first n may.has i)) ls) structures) (with_task u.member t (further_task task u claims first n may.has i) managers) in
    subst (Change g) (sym (same ∙ made)) (Settles g u t claims first n c (record { has = may.has; is = may.is }))
