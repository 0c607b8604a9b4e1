-- a mark that comes off is the machine's settle by a peer
use Rattle.std.proofs.Common.{◌≡◌, ◌⊎◌, inl, inr, ℕ, ◌-◌, ◌≤◌, Bool, true, false, cond, List, length, Option, Some, None, refl, sym, ap, subst, ◌∙◌, true≢false}
use Rattle.std.specs.Prelude.{◌==◌, option_map}
use Rattle.std.proofs.lemmas.Bool.{and_parts, eqb-true}
use Rattle.std.proofs.lemmas.List.{set-get_or}
use Rattle.qsg_num.specs.declared.seats.Member.{Member}
use Rattle.qsg_num.specs.declared.seats.StructNo.{StructNo}
use Rattle.qsg_num.specs.declared.ids.UnitName.{UnitName}
use Rattle.qsg_num.specs.Seats.{member_number, structure_number}
use Rattle.qsg_msg.specs.declared.message.Message.{Message}
use Rattle.qsg_lists.specs.declared.parts.Connection.{Connection}
use Rattle.qsg_lists.specs.declared.parts.Entry.{Entry}
use Rattle.qsg_lists.specs.declared.parts.Lost.{Lost}
use Rattle.qsg_lists.specs.declared.parts.Mark.{Mark}
use Rattle.qsg_lists.specs.declared.parts.Mark.TheVariants.{Visible, PutBy, GotBy, Cleanup}
use Rattle.qsg_lists.specs.Entries.{entry_at}
use Rattle.qsg_lists.specs.Marks.{names_unit}
use Rattle.qsg_lists.specs.Settling.{told_by, settled_entry, revised_if_done}
use Rattle.qsg_lists.specs.Structures.{ListStructure, lost_of, unless}
use Rattle.qsg_logread.specs.Fed.{Fed, is_committed}
use Rattle.qsg_group.specs.declared.tasks.Task.{Task}
use Rattle.qsg_group.specs.Group.{Seat, Shelf, Group}
use Rattle.qsg_group.specs.Tables.{at_structure}
use Rattle.qsg_group.specs.Observers.{is_live}
use Rattle.qsg_group.specs.Observers as machine
use Rattle.qsg_group.specs.Laws.{Names, MarkNames, HasEnded, PutsBy, GetsBy, Laws}
use Rattle.qsg_group.specs.Changes.{Change, with_entries, settle, peer_settled}
use Rattle.qsg_group.specs.Changes.Change.{PeerSettles}
use Rattle.qsg_group.proofs.Tables.{same_member}
use Rattle.qsg_group.proofs.Pages.{same_name}
use Rattle.qsg_group.proofs.Reading.{low_page_tells}
use Rattle.qsg_manager.specs.declared.managers.Manager.{Manager}
use Rattle.qsg_manager.specs.Facilities.{structure_in, with_structure, no_structure}
use Rattle.qsg_manager.specs.Groups.{seat_of, Rest, group_of}
use Rattle.qsg_manager.specs.Storage.{manager_in}
use Rattle.qsg_manager.specs.Views.{held_of, shelf_of}
use Rattle.qsg_manager.proofs.Bridges.{found, settle_settles}
use Rattle.qsg_manager.proofs.Grouping.{shelves_with}
use Rattle.qsg_parts.specs.Owned.{Owned}
use Rattle.qsg_manager.specs.declared.structures.MarkedEntry.{MarkedEntry}
use Rattle.qsg_peer.specs.declared.phases.FailedLife.{FailedLife}
use Rattle.qsg_peer.specs.Steps.{with_mark_off}
use Rattle.qsg_peer.specs.Machine.{group_in, IsStep, is_of, IsOver, Knows}

-- ---- one structure changed alone

changed : (rest : Rest) (ls : List ListStructure) (ms : List Manager) (s : StructNo) (structure : ListStructure) (f : Shelf → Shelf) → structure_number s ≤ length ls
    → shelf_of rest.outside s structure ≡ f (shelf_of rest.outside s (structure_in s ls))
    → group_of rest (with_structure s structure ls) ms ≡ record (group_of rest ls ms) { shelves = at_structure s f (group_of rest ls ms).shelves }
changed rest ls ms s structure f within made = λ i. record {
  shelves = λ x. shelves_with rest.outside s structure ls f within made x i;
  logs = rest.logs;
  seats = λ k. seat_of (manager_in k ms);
  failed = rest.failed;
  tasks = λ k j. Rattle.qsg_manager.specs.Storage.task_at k j ms;
  tops = rest.tops;
  history = rest.history;
}

-- ---- a unit of an incarnation that is over is no task's

pub same_life : (life : FailedLife) (u : UnitName) → is_of life u ≡ true → (u.member ≡ life.member) × (u.incarnation.number ≡ life.incarnation.number)
same_life life u is =
    let parts = and_parts (member_number u.member == member_number life.member) (u.incarnation.number == life.incarnation.number) is in
    (same_member u.member life.member (eqb-true (member_number u.member) (member_number life.member) parts.0), eqb-true u.incarnation.number life.incarnation.number parts.1)

not_live : (u : UnitName) (seat : Seat) → HasEnded u.incarnation.number seat → is_live u seat ≡ true → ⊥
not_live u seat ended live =
    let parts = and_parts seat.up (u.incarnation.number == seat.incarnation) live in
    true≢false (sym parts.0 ∙ ended.down (eqb-true u.incarnation.number seat.incarnation parts.1))

over : (life : FailedLife) (p : Owned) (u : UnitName) → IsOver life p → is_of life u ≡ true → HasEnded u.incarnation.number (seat_of (manager_in u.member p.managers))
over life p u ended is =
    let same = same_life life u is in
    subst (λ (n : ℕ). HasEnded n (seat_of (manager_in u.member p.managers))) (sym same.1)
    (subst (λ (m : Member). HasEnded life.incarnation.number (seat_of (manager_in m p.managers))) (sym same.0) ended)

failed_name : (rest : Rest) (p : Owned) (u : UnitName) (Due : Task → Type 0) → Laws (group_in rest p) → HasEnded u.incarnation.number (seat_of (manager_in u.member p.managers)) → Names (group_in rest p).failed (group_in rest p).tasks u Due
    → rest.failed u.member u.incarnation.number ≡ true
failed_name rest p u Due laws ended (inl failed) = failed
failed_name rest p u Due laws ended (inr (t, has, due)) = absurd (not_live u (seat_of (manager_in u.member p.managers)) ended (laws.in_hand u t has).live)

-- ---- the mark of an entry

abbrev Marks : UnitName → Mark → Type 0
Marks u mark = (mark ≡ PutBy u) ⊎ (mark ≡ GotBy u)

marks_unit : (u : UnitName) (mark : Mark) → names_unit u mark ≡ true → Marks u mark
marks_unit u Visible names = absurd (true≢false (sym names))
marks_unit u (PutBy v) names = inl (ap (λ x. PutBy x) (same_name v u names))
marks_unit u (GotBy v) names = inr (ap (λ x. GotBy x) (same_name v u names))
marks_unit u Cleanup names = absurd (true≢false (sym names))

failed_mark : (rest : Rest) (p : Owned) (u : UnitName) (k : ℕ × ℕ) (m : Message) (mark : Mark) → Laws (group_in rest p) → HasEnded u.incarnation.number (seat_of (manager_in u.member p.managers)) → Marks u mark
    → MarkNames (group_in rest p).failed (group_in rest p).tasks k m mark → rest.failed u.member u.incarnation.number ≡ true
failed_mark rest p u k m mark laws ended (inl put) names =
    failed_name rest p u (λ task. PutsBy task.stage task.ops task.claims k m) laws ended (subst (MarkNames (group_in rest p).failed (group_in rest p).tasks k m) put names)
failed_mark rest p u k m mark laws ended (inr got) names =
    failed_name rest p u (λ task. GetsBy task.stage task.ops task.claims k) laws ended (subst (MarkNames (group_in rest p).failed (group_in rest p).tasks k m) got names)

-- ---- the settle

same_group : (rest : Rest) (p : Owned) (s : StructNo) (x : ListStructure) → x ≡ structure_in s p.structures → group_of rest (with_structure s x p.structures) p.managers ≡ group_in rest p
same_group rest p s x same =
    ap (λ (y : ListStructure). group_of rest (with_structure s y p.structures) p.managers) same
    ∙ ap (λ (ls : List ListStructure). group_of rest ls p.managers) (set-get_or p.structures (structure_number s - 1) no_structure)

pub mark_off_is_step : (rest : Rest) (life : FailedLife) (connection : Connection) (mark : MarkedEntry) (reader : Fed) (p : Owned) → structure_number connection.structure ≤ length p.structures → Laws (group_in rest p) → IsOver life p
    → Knows life reader rest.logs → is_of life mark.unit ≡ true → IsStep (group_in rest p) (group_in rest (with_mark_off connection mark (is_committed mark.unit reader.commits) p))
mark_off_is_step rest life connection mark reader p within laws ended knows is = by_lost (lost_of here connection) refl
  where
    s : StructNo
    s = connection.structure

    here : ListStructure
    here = structure_in connection.structure p.structures

    commits : Bool
    commits = is_committed mark.unit reader.commits

    After : Option Lost → Option Entry → ListStructure
    After lost e = revised_if_done (unless lost (told_by (names_unit mark.unit) e)) mark.id (settled_entry (is_committed mark.unit reader.commits)) (structure_in connection.structure p.structures)

    Is : ListStructure → Type 0
    Is x = IsStep (group_in rest p) (group_of rest (with_structure connection.structure x p.structures) p.managers)

    done : lost_of (structure_in connection.structure p.structures) connection ≡ None → (e : Entry) → entry_at mark.id (structure_in connection.structure p.structures).entries ≡ Some e → names_unit mark.unit e.mark ≡ true
        → Is (After (lost_of (structure_in connection.structure p.structures) connection) (entry_at mark.id (structure_in connection.structure p.structures).entries))
    done served e at names =
        let seen : machine.entry_at mark.id.number ((group_in rest p).shelves connection.structure).entries ≡ Some (held_of rest.outside connection.structure e)
        = found rest.outside connection.structure mark.id here.entries ∙ ap (option_map (held_of rest.outside connection.structure)) at in
        let marked = marks_unit mark.unit e.mark names in
        let failed = failed_mark rest p mark.unit (structure_number connection.structure, mark.id.number) (held_of rest.outside connection.structure e).message e.mark laws (over life p mark.unit ended is) marked
        (laws.marked connection.structure mark.id.number (held_of rest.outside connection.structure e) seen) in
        let decides : is_committed mark.unit reader.commits ≡ machine.is_committed rest.logs mark.unit
        = knows mark.unit is ∙ low_page_tells (group_in rest p) connection.structure mark.id.number (held_of rest.outside connection.structure e) mark.unit laws seen marked in
        let made = changed rest p.structures p.managers connection.structure (After (lost_of here connection) (entry_at mark.id here.entries)) (with_entries (settle mark.id.number mark.unit commits)) within
        (settle_settles rest.outside connection.structure here connection mark.id mark.unit commits served) in
        let target : group_of rest (with_structure connection.structure (After (lost_of here connection) (entry_at mark.id here.entries)) p.structures) p.managers ≡ peer_settled (group_in rest p) connection.structure mark.id.number mark.unit
        = made ∙ ap (λ (b : Bool). record (group_in rest p) { shelves = at_structure connection.structure (with_entries (settle mark.id.number mark.unit b)) (group_in rest p).shelves }) decides in
        inr (subst (λ (g : Group). Change (group_in rest p) g) (sym target) (PeerSettles (group_in rest p) connection.structure mark.id.number mark.unit (record { failed = failed })))

    by_mark : lost_of (structure_in connection.structure p.structures) connection ≡ None → (e : Entry) → entry_at mark.id (structure_in connection.structure p.structures).entries ≡ Some e → (b : Bool) → names_unit mark.unit e.mark ≡ b
        → Is (After (lost_of (structure_in connection.structure p.structures) connection) (entry_at mark.id (structure_in connection.structure p.structures).entries))
    by_mark served e at true names = done served e at names
    by_mark served e at false names =
        inl (same_group rest p connection.structure (After (lost_of here connection) (entry_at mark.id here.entries))
        ((λ i. After (served i) (at i)) ∙ ap (λ (b : Bool). revised_if_done (Rattle.std.proofs.Common.Ok (cond b Rattle.qsg_lists.specs.declared.parts.Settled.TheVariants.Done (Rattle.qsg_lists.specs.declared.parts.Settled.TheVariants.NotYours (Some e.mark)))) mark.id (settled_entry commits) here) names))

    by_entry : lost_of (structure_in connection.structure p.structures) connection ≡ None → (e : Option Entry) → entry_at mark.id (structure_in connection.structure p.structures).entries ≡ e
        → Is (After (lost_of (structure_in connection.structure p.structures) connection) (entry_at mark.id (structure_in connection.structure p.structures).entries))
    by_entry served None at = inl (same_group rest p connection.structure (After (lost_of here connection) (entry_at mark.id here.entries)) (λ i. After (served i) (at i)))
    by_entry served (Some e) at = by_mark served e at (names_unit mark.unit e.mark) refl

    by_lost : (lost : Option Lost) → lost_of (structure_in connection.structure p.structures) connection ≡ lost
        → Is (After (lost_of (structure_in connection.structure p.structures) connection) (entry_at mark.id (structure_in connection.structure p.structures).entries))
    by_lost None served = by_entry served (entry_at mark.id here.entries) refl
    by_lost (Some lost) is_lost = inl (same_group rest p connection.structure (After (lost_of here connection) (entry_at mark.id here.entries)) (ap (λ (l : Option Lost). After l (entry_at mark.id here.entries)) is_lost))
