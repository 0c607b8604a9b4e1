-- a get that is undone, and an entry that is forgotten, are the machine's
use Rattle.std.proofs.Common.{◌≡◌, ◌-◌, Bool, true, false, cond, List, [], ◌∷◌, ◌++◌, length, Option, Some, None, Result, Ok, refl, sym, ap, subst, ◌∙◌, inl, inr, arith}
use Rattle.std.specs.Prelude.{option_map, ◌==◌, ◌&&◌}
use Rattle.std.proofs.lemmas.Bool.{eq-eqb}
use Rattle.std.proofs.lemmas.List.{length-append, take_at}
use Rattle.std.proofs.lemmas.Option.{none-some}
use Rattle.qsg_num.specs.declared.seats.StructNo.{StructNo}
use Rattle.qsg_num.specs.declared.seats.TaskNo.{TaskNo}
use Rattle.qsg_num.specs.declared.ids.UnitName.{UnitName}
use Rattle.qsg_num.specs.declared.ids.EntryId.{EntryId}
use Rattle.qsg_num.specs.Seats.{structure_number}
use Rattle.qsg_model.specs.declared.history.Op.{Op}
use Rattle.qsg_model.specs.declared.history.Op.TheVariants.{Got}
use Rattle.qsg_lists.specs.declared.parts.Connection.{Connection}
use Rattle.qsg_lists.specs.declared.parts.Entry.{Entry}
use Rattle.qsg_lists.specs.declared.parts.Lost.{Lost}
use Rattle.qsg_lists.specs.declared.parts.Mark.{Mark}
use Rattle.qsg_lists.specs.declared.parts.Mark.TheVariants.{Visible, PutBy, GotBy, Cleanup}
use Rattle.qsg_lists.specs.declared.parts.Settled.{Settled}
use Rattle.qsg_lists.specs.declared.parts.Settled.TheVariants.{Done, NotYours}
use Rattle.qsg_lists.specs.Entries as lists
use Rattle.qsg_lists.specs.Marks.{is_cleanup}
use Rattle.qsg_lists.specs.Structures.{ListStructure, is_active, lost_of, unless}
use Rattle.qsg_lists.specs.Settling.{settle_answer, settled_entry, forget_answer, deleted, revised_if_done, told_by}
use Rattle.qsg_group.specs.declared.tasks.Claim.{Claim}
use Rattle.qsg_group.specs.declared.tasks.Task.{Task}
use Rattle.qsg_group.specs.Group.{Held, Shelf}
use Rattle.qsg_group.specs.Tables.{at_structure, at_task}
use Rattle.qsg_group.specs.Laws.{IsConnected, Laws}
use Rattle.std.specs.List.{AllByRecursion}
use Rattle.qsg_group.specs.Changes.{open_task, with_entries, settle, forget, ungot, Change}
use Rattle.qsg_group.specs.Changes.Change.{Ungets, Forgets}
use Rattle.qsg_group.proofs.Tables.{change-same, change-other, cases_structure}
use Rattle.qsg_group.proofs.Holding.{got_task}
use Rattle.qsg_group.proofs.Reading.{inactive_stays}
use Rattle.qsg_manager.specs.declared.managers.Manager.{Manager}
use Rattle.qsg_manager.specs.Views.{Outside, held_of, shelf_of}
use Rattle.qsg_manager.specs.Facilities.{structure_in, with_structure}
use Rattle.qsg_manager.specs.Storage.{task_at}
use Rattle.qsg_manager.specs.Groups.{Rest, group_of}
use Rattle.qsg_manager.specs.Units.{front, without_last, with_dropped}
use Rattle.qsg_manager.specs.Actions.{MayUngetEntry, MayDropGet, MayForgetEntry}
use Rattle.qsg_manager.proofs.Bridges.{found, revised, settle_settles}
use Rattle.qsg_manager.proofs.Grouping.{structure_changed, task_changed, both_changed}

-- ---- a unit without its last operation

front_push : {X : Type 0} (xs : List X) (y : X) → front (xs ++ y ∷ []) ≡ xs
front_push xs y = take_at xs (y ∷ []) (length (xs ++ y ∷ []) - 1) (let n = length-append xs (y ∷ []) in omega (arith, n))

dropped_task : (u : UnitName) (ops : List (StructNo × Op)) (claims : List Claim) (c : Claim) (task : Task) → task ≡ got_task u ops claims c → without_last task ≡ open_task u ops claims
dropped_task u ops claims c task is =
    ap without_last is
    ∙ (λ i. open_task u (front_push ops (c.connection.structure, Got c.id) i) (front_push claims c i))

-- ---- a connection that is served

pub unget_is_unget : (rest : Rest) (structures : List ListStructure) (managers : List Manager) (u : UnitName) (t : TaskNo) (ops : List (StructNo × Op)) (claims : List Claim) (c : Claim)
    → MayUngetEntry structures managers u t ops claims c
    → Change (group_of rest structures managers)
    (group_of rest (with_structure c.connection.structure (revised_if_done (settle_answer (structure_in c.connection.structure structures) c.connection c.id u) c.id (settled_entry false) (structure_in c.connection.structure structures)) structures)
    (with_dropped u.member t managers))
unget_is_unget rest structures managers u t ops claims c may =
    let s = c.connection.structure in
    let ls = structure_in s structures in
    let g = group_of rest structures managers in
    let made = both_changed rest structures managers s (revised_if_done (settle_answer ls c.connection c.id u) c.id (settled_entry false) ls)
    (with_entries (settle c.id.number u false)) u.member t (without_last (task_at u.member t managers))
    may.structure.within (settle_settles rest.outside s ls c.connection c.id u false may.structure.served) may.member.within may.member.five in
    let same : record g {
      shelves = at_structure s (with_entries (settle c.id.number u false)) g.shelves;
      tasks = at_task u.member t (λ old. without_last (task_at u.member t managers)) g.tasks;
    } ≡ ungot g u t ops claims c = λ i. record g {
      shelves = at_structure s (with_entries (settle c.id.number u false)) g.shelves;
      tasks = at_task u.member t (λ old. dropped_task u ops claims c (task_at u.member t managers) may.has i) g.tasks;
    } in
    subst (Change g) (sym (made ∙ same)) (Ungets g u t ops claims c (record { has = may.has }))

-- ---- a connection that isn't served any more

last_of_all : (P : Claim → Type 0) (claims : List Claim) (c : Claim) → AllByRecursion P (claims ++ c ∷ []) → P c
last_of_all P [] c all = all.0
last_of_all P (d ∷ claims) c all = last_of_all P claims c all.1

-- one of the structure's epoch is served while the structure is active
unserved : (structure : ListStructure) (c : Connection) (told : Lost) → lost_of structure c ≡ Some told → (is_active structure.state ≡ true → c.epoch ≡ structure.epoch) → is_active structure.state ≡ false
unserved structure c told is same = by (is_active structure.state) refl
  where
    by : (b : Bool) → is_active structure.state ≡ b → is_active structure.state ≡ false
    by false idle = idle
    by true active = absurd (none-some told (sym (ap (λ (b : Bool). cond (b && (c.epoch == structure.epoch)) None (Some (record { state = structure.state; epoch = structure.epoch }))) active
        ∙ ap (λ (b : Bool). cond b None (Some (record { state = structure.state; epoch = structure.epoch }))) (eq-eqb c.epoch structure.epoch (same active))) ∙ is))

-- a change that leaves one structure leaves all
shelves_kept : (s : StructNo) (f : Shelf → Shelf) (table : StructNo → Shelf) → f (table s) ≡ table s → (x : StructNo) → at_structure s f table x ≡ table x
shelves_kept s f table same x = elim (cases_structure x s) [
  | inl here ↦ subst (λ y. at_structure s f table y ≡ table y) (sym here) (change-same structure_number s f table ∙ same)
  | inr differ ↦ change-other structure_number s f table x differ
]

pub drop_is_unget : (rest : Rest) (structures : List ListStructure) (managers : List Manager) (u : UnitName) (t : TaskNo) (ops : List (StructNo × Op)) (claims : List Claim) (c : Claim)
    → MayDropGet structures managers u t ops claims c → Laws (group_of rest structures managers)
    → Change (group_of rest structures managers) (group_of rest structures (with_dropped u.member t managers))
drop_is_unget rest structures managers u t ops claims c may laws =
    let s = c.connection.structure in
    let g = group_of rest structures managers in
    let connected : IsConnected g.shelves c = last_of_all (IsConnected g.shelves) claims c (subst (λ (x : Task). AllByRecursion (IsConnected g.shelves) x.claims) may.has (laws.connected u t (ap (λ (x : Task). x.unit) may.has))) in
    let idle : is_active (g.shelves s).state ≡ false = unserved (structure_in s structures) c.connection may.told may.lost connected in
    let left : settle c.id.number u false (g.shelves s).entries ≡ (g.shelves s).entries = inactive_stays g s c.id.number u false laws idle in
    let shelves = shelves_kept s (with_entries (settle c.id.number u false)) g.shelves (ap (λ (es : List Held). record (g.shelves s) { entries = es }) left) in
    let after : ungot g u t ops claims c ≡ record g { tasks = at_task u.member t (λ old. without_last (task_at u.member t managers)) g.tasks } = λ i. record g {
      shelves = λ x. shelves x i;
      tasks = at_task u.member t (λ old. sym (dropped_task u ops claims c (task_at u.member t managers) may.has) i) g.tasks;
    } in
    subst (Change g) (after ∙ sym (task_changed rest structures managers u.member t (without_last (task_at u.member t managers)) may.member.within may.member.five))
    (Ungets g u t ops claims c (record { has = may.has }))

-- ---- an entry is forgotten

-- it is there, and is marked Cleanup
pub record IsRemoved (id : EntryId) (structure : ListStructure) : Type 0 where
  pub entry : Entry
  pub there : lists.entry_at id structure.entries ≡ Some entry
  pub mark : entry.mark ≡ Cleanup

cleanup_is : (mark : Mark) → is_cleanup mark ≡ true → mark ≡ Cleanup
cleanup_is Visible is = absurd cc
cleanup_is (PutBy u) is = absurd cc
cleanup_is (GotBy u) is = absurd cc
cleanup_is Cleanup is = refl

pub is_removed : (structure : ListStructure) (c : Connection) (id : EntryId) → forget_answer structure c id ≡ Ok Done → IsRemoved id structure
is_removed structure c id done = served (lost_of structure c) done
  where
    marked : (e : Entry) → lists.entry_at id structure.entries ≡ Some e → (b : Bool) → is_cleanup e.mark ≡ b → cond b Done (NotYours (Some e.mark)) ≡ Done → IsRemoved id structure
    marked e there true is told = record { entry = e; there = there; mark = cleanup_is e.mark is }
    marked e there false is told = absurd cc

    here : (o : Option Entry) → lists.entry_at id structure.entries ≡ o → told_by is_cleanup o ≡ Done → IsRemoved id structure
    here None there told = absurd cc
    here (Some e) there told = marked e there (is_cleanup e.mark) refl told

    served : (o : Option Lost) → unless o (told_by is_cleanup (lists.entry_at id structure.entries)) ≡ Ok Done → IsRemoved id structure
    served None is = here (lists.entry_at id structure.entries) refl cc
    served (Some told) is = absurd cc

pub forget_forgets : (o : Outside) (s : StructNo) (structure : ListStructure) (c : Connection) (id : EntryId) → forget_answer structure c id ≡ Ok Done
    → shelf_of o s (revised_if_done (forget_answer structure c id) id deleted structure) ≡ with_entries (forget id.number) (shelf_of o s structure)
forget_forgets o s structure c id done =
    ap (λ (r : Result Settled Lost). shelf_of o s (revised_if_done r id deleted structure)) done
    ∙ ap (λ (es : List Held). record (shelf_of o s structure) { entries = es }) (revised o s id deleted (λ e. None) structure.entries (λ e. refl))

pub forget_is_forget : (rest : Rest) (structures : List ListStructure) (managers : List Manager) (c : Connection) (id : EntryId)
    → MayForgetEntry structures c id
    → Change (group_of rest structures managers)
    (group_of rest (with_structure c.structure (revised_if_done (forget_answer (structure_in c.structure structures) c id) id deleted (structure_in c.structure structures)) structures) managers)
forget_is_forget rest structures managers c id may =
    let s = c.structure in
    let ls = structure_in s structures in
    let g = group_of rest structures managers in
    let removed = is_removed ls c id may.done in
    subst (Change g)
    (sym (structure_changed rest structures managers s (revised_if_done (forget_answer ls c id) id deleted ls) (with_entries (forget id.number)) may.within (forget_forgets rest.outside s ls c id may.done)))
    (Forgets g s id.number (record {
      entry = held_of rest.outside s removed.entry;
      there = found rest.outside s id ls.entries ∙ ap (option_map (held_of rest.outside s)) removed.there;
      mark = removed.mark;
    }))
