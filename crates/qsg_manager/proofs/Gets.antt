-- a get is the machine's
use Rattle.std.proofs.Common.{◌≡◌, ℕ, ◌<◌, true, List, [], ◌∷◌, ◌++◌, map, Some, refl, sym, ap, subst, ◌∙◌}
use Rattle.std.specs.Prelude.{option_map, ◌&&◌}
use Rattle.std.specs.List.{AllByRecursion}
use Rattle.std.proofs.lemmas.Bool.{and_parts}
use Rattle.qsg_num.specs.declared.seats.StructNo.{StructNo}
use Rattle.qsg_num.specs.declared.seats.TaskNo.{TaskNo}
use Rattle.qsg_num.specs.declared.ids.UnitName.{UnitName}
use Rattle.qsg_num.specs.declared.words.Delivery.{Delivery}
use Rattle.qsg_model.specs.declared.history.Op.{Op}
use Rattle.qsg_model.specs.declared.history.Op.TheVariants.{Got}
use Rattle.qsg_lists.specs.declared.parts.Connection.{Connection}
use Rattle.qsg_lists.specs.declared.parts.Entry.{Entry}
use Rattle.qsg_lists.specs.declared.parts.Selector.{Selector}
use Rattle.qsg_lists.specs.declared.parts.Mark.{Mark}
use Rattle.qsg_lists.specs.declared.parts.Mark.TheVariants.{Visible, PutBy, GotBy, Cleanup}
use Rattle.qsg_lists.specs.Marks.{is_visible}
use Rattle.qsg_lists.specs.Entries as lists
use Rattle.qsg_lists.specs.Structures.{ListStructure}
use Rattle.qsg_lists.specs.Taking.{got_by}
use Rattle.qsg_lists.proofs.Found.{find-entry_at}
use Rattle.qsg_lists.proofs.First.{first-waits}
use Rattle.qsg_group.specs.declared.tasks.Claim.{Claim}
use Rattle.qsg_group.specs.declared.tasks.Task.{Task}
use Rattle.qsg_group.specs.Group.{Held, Shelf}
use Rattle.qsg_group.specs.Observers.{entry_at, revise, top_of}
use Rattle.qsg_group.specs.Tables.{at_structure, at_task}
use Rattle.qsg_group.specs.Laws.{AreRising, IsShelf}
use Rattle.qsg_group.specs.Changes.{open_task, claim_of, with_entries, marked, got, Change}
use Rattle.qsg_group.specs.Changes.Change.{Gets}
use Rattle.qsg_manager.specs.declared.managers.Manager.{Manager}
use Rattle.qsg_manager.specs.Views.{Outside, body_of, is_outside, message_of, held_of, shelf_of}
use Rattle.qsg_manager.specs.Facilities.{structure_in}
use Rattle.qsg_manager.specs.Storage.{task_at}
use Rattle.qsg_manager.specs.Groups.{Rest, group_of}
use Rattle.qsg_manager.specs.Getting.{with_taken, with_got, with_found}
use Rattle.qsg_manager.specs.Actions.{MayTake}
use Rattle.qsg_manager.proofs.Bridges.{found, revised}
use Rattle.qsg_manager.proofs.Grouping.{both_changed}
use Rattle.qsg_manager.proofs.Acting.{served_active, served_epoch}

visible_is : (mark : Mark) → is_visible mark ≡ true → mark ≡ Visible
visible_is Visible is = refl
visible_is (PutBy u) is = absurd cc
visible_is (GotBy u) is = absurd cc
visible_is Cleanup is = absurd cc

-- the machine finds the entry that a get is given, visible
found_there : (o : Outside) (s : StructNo) (queue : List ℕ) (order : Delivery) (select : Selector) (es : List Entry) (e : Entry) → lists.AreInOrder es → lists.first_of queue order select es ≡ Some e
    → entry_at e.id.number (map (held_of o s) es) ≡ Some (record { message = message_of s e.id e.head (body_of (o s) e.place); mark = Visible; outside = is_outside e.place })
found_there o s queue order select es e ordered first =
    found o s e.id es
    ∙ ap (option_map (held_of o s)) (find-entry_at (lists.is_first queue order select es) es e ordered first)
    ∙ ap (λ mark. Some (record (held_of o s e) { mark = mark })) (visible_is e.mark (and_parts (is_visible e.mark) (lists.is_name e.head.queue queue && lists.meets select e.head) (first-waits queue order select es e first)).0)

-- the task that a get leaves is the machine's
got_task : (u : UnitName) (ops : List (StructNo × Op)) (claims : List Claim) (c : Connection) (e : Entry) (o : Outside) (shelf : Shelf) (task : Task) → task ≡ open_task u ops claims → c.epoch ≡ shelf.epoch
    → with_got c e task ≡ open_task u (ops ++ (c.structure, Got e.id) ∷ []) (claims ++ claim_of c.structure shelf (message_of c.structure e.id e.head (body_of (o c.structure) e.place)) ∷ [])
got_task u ops claims c e o shelf task is epoch =
    ap (with_got c e) is
    ∙ ap (λ n. open_task u (ops ++ (c.structure, Got e.id) ∷ []) (claims ++ record { connection = record { structure = c.structure; epoch = n }; id = e.id; persistent = e.head.persistent } ∷ [])) epoch

pub get_is_get : (rest : Rest) (structures : List ListStructure) (managers : List Manager) (u : UnitName) (t : TaskNo) (ops : List (StructNo × Op)) (claims : List Claim) (c : Connection) (queue : List ℕ) (order : Delivery) (select : Selector) (e : Entry)
    → MayTake structures managers u t ops claims c queue order select e
    → Change (group_of rest structures managers) (group_of rest (with_taken u c (Some e) structures) (with_found u.member t c (Some e) managers))
get_is_get rest structures managers u t ops claims c queue order select e may =
    let s = c.structure in
    let ls = structure_in s structures in
    let m = message_of s e.id e.head (body_of (rest.outside s) e.place) in
    let g = group_of rest structures managers in
    let made = both_changed rest structures managers s (record ls { entries = lists.revise e.id (λ x. Some (got_by u x)) ls.entries })
    (with_entries (revise e.id.number (marked (GotBy u)))) u.member t (with_got c e (task_at u.member t managers))
    may.structure.within
    (ap (λ (es : List Held). record (shelf_of rest.outside s ls) { entries = es }) (revised rest.outside s e.id (λ x. Some (got_by u x)) (marked (GotBy u)) ls.entries (λ x. refl)))
    may.member.within may.member.five in
    let same : record g {
      shelves = at_structure s (with_entries (revise e.id.number (marked (GotBy u)))) g.shelves;
      tasks = at_task u.member t (λ old. with_got c e (task_at u.member t managers)) g.tasks;
    } ≡ got g u t ops claims s m = λ i. record g {
      shelves = at_structure s (with_entries (revise e.id.number (marked (GotBy u)))) g.shelves;
      tasks = at_task u.member t (λ old. got_task u ops claims c e rest.outside (g.shelves s) (task_at u.member t managers) may.has (served_epoch ls c may.structure.served) i) g.tasks;
    } in
    subst (Change g) (sym (made ∙ same))
    (Gets g u t ops claims s m (is_outside e.place) (record {
      has = may.has;
      active = served_active ls c may.structure.served;
      there = found_there rest.outside s queue order select ls.entries e may.ordered may.found;
    }))

-- ---- entries that rise in the machine are in order

all_order : (o : Outside) (s : StructNo) (n : ℕ) (es : List Entry) → AllByRecursion (λ (x : Held). n < x.message.id.number) (map (held_of o s) es) → AllByRecursion (λ (x : Entry). n < x.id.number) es
all_order o s n [] all = tt
all_order o s n (e ∷ es) all = (all.0, all_order o s n es all.1)

rising_order : (o : Outside) (s : StructNo) (top : ℕ) (es : List Entry) → AreRising top (map (held_of o s) es) → lists.AreInOrder es
rising_order o s top [] rising = tt
rising_order o s top (e ∷ es) rising = (all_order o s e.id.number es rising.1, rising_order o s top es rising.2)

pub shelf_order : (o : Outside) (s : StructNo) (structure : ListStructure) → IsShelf s (shelf_of o s structure) → lists.AreInOrder structure.entries
shelf_order o s structure shelf = rising_order o s (top_of (shelf_of o s structure)) structure.entries shelf.rising
