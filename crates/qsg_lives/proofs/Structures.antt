-- the marks of an incarnation in structures that change
use Rattle.std.proofs.Common.{◌≡◌, inl, inr, ℕ, ◌+◌, ◌-◌, ◌≤◌, ◌<◌, Bool, true, false, cond, List, length, Option, Some, None, Ok, Err, refl, sym, ap, subst, ◌∙◌, arith, Result}
use Rattle.std.specs.Prelude.{◌==◌, ◌&&◌, if◌then◌else◌}
use Rattle.std.specs.List.{AllByRecursion}
use Rattle.std.proofs.lemmas.Bool.{and_parts}
use Rattle.std.proofs.lemmas.List.Sums.{sum_by-set}
use Rattle.std.proofs.lemmas.Option.{same_Some}
use Rattle.qsg_num.specs.declared.seats.StructNo.{StructNo}
use Rattle.qsg_num.specs.declared.ids.EntryId.{EntryId}
use Rattle.qsg_num.specs.declared.ids.UnitName.{UnitName}
use Rattle.qsg_num.specs.declared.words.Delivery.{Delivery}
use Rattle.qsg_num.specs.Seats.{structure_number}
use Rattle.qsg_num.proofs.Ranges.{structure-bounds}
use Rattle.qsg_lists.specs.declared.parts.Connection.{Connection}
use Rattle.qsg_lists.specs.declared.parts.Entry.{Entry}
use Rattle.qsg_lists.specs.declared.parts.Head.{Head}
use Rattle.qsg_lists.specs.declared.parts.Lost.{Lost}
use Rattle.qsg_lists.specs.declared.parts.Mark.TheVariants.{GotBy}
use Rattle.qsg_lists.specs.declared.parts.Place.{Place}
use Rattle.qsg_lists.specs.declared.parts.Selector.{Selector}
use Rattle.qsg_lists.specs.declared.parts.Settled.TheVariants.{Done, NotYours}
use Rattle.qsg_lists.specs.Entries.{entry_at, revise, is_first, AreInOrder}
use Rattle.qsg_lists.specs.Marks.{is_visible, names_unit}
use Rattle.qsg_lists.specs.Settling.{settle_answer, settled_entry, told_by, revised_if_done}
use Rattle.qsg_lists.specs.Structures.{ListStructure, is_active, lost_of, unless}
use Rattle.qsg_lists.specs.Taking.{got_by}
use Rattle.qsg_lists.specs.Writing.{new_entry, written}
use Rattle.qsg_lists.proofs.First.{first-waits}
use Rattle.qsg_lists.proofs.Found.{find-entry_at}
use Rattle.qsg_lists.proofs.Revising.{keeps-settled, keeps-marked}
use Rattle.qsg_peer.specs.Pace.{marks_above, marks_above_in, HasNoMoreMarks}
use Rattle.qsg_peer.proofs.PaceLists.{above_added, above_revised}
use Rattle.qsg_group.proofs.Tables.{cases_structure}
use Rattle.qsg_manager.specs.declared.structures.MarkedEntry.{MarkedEntry}
use Rattle.qsg_manager.specs.Facilities.{no_structure, structure_in, with_structure}
use Rattle.qsg_manager.specs.Getting.{found_in, with_taken}
use Rattle.qsg_manager.specs.Marked.{marks_of}
use Rattle.qsg_manager.proofs.Grouping.{structure_same, structure_other}
use Rattle.qsg_parts.specs.Owned.{Owned}
use Rattle.qsg_peer.specs.declared.phases.FailedLife.{FailedLife}
use Rattle.qsg_peer.specs.declared.phases.Stage.{Stage}
use Rattle.qsg_peer.specs.declared.phases.Stage.TheVariants.{Read, Connect, Search, Settle, Resolve}
use Rattle.qsg_peer.specs.Machine.{is_of}
use Rattle.qsg_peer.specs.Sweeping.{HoldsInUse, HasSwept, AreOrdered}
use Rattle.qsg_lives.specs.Marks.{LeavesMarks, marks_left, StaysSwept, came_off_by}
use Rattle.qsg_lives.proofs.Entries.{names, marks, one_if, LeavesNone, marks-push, marks-revise, all-revised, at-revised, all-pushed, at-pushed, settle_leaves_none, nothing_left, names_of_unit, names_no_visible}
use Rattle.qsg_lists.specs.declared.parts.Settled.{Settled}

-- A structure in the same use, in which marks of the incarnation that were off are off.
pub record StaysOff (life : FailedLife) (old new : ListStructure) : Type 1 where
  pub state : new.state ≡ old.state
  pub epoch : new.epoch ≡ old.epoch
  pub all : (P : Entry → Type 0) → ((e : Entry) → names life e ≡ false → P e) → AllByRecursion P old.entries → AllByRecursion P new.entries
  pub at : (id : EntryId) (e : Entry) → entry_at id new.entries ≡ Some e → names life e ≡ true → entry_at id old.entries ≡ Some e

pub same_off : (life : FailedLife) (s : ListStructure) → StaysOff life s s
same_off life s = record { state = refl; epoch = refl; all = λ P free all. all; at = λ id e at is. at }

-- ---- as far as a work has come

lost_same : (old new : ListStructure) (c : Connection) → new.state ≡ old.state → new.epoch ≡ old.epoch → lost_of new c ≡ lost_of old c
lost_same old new c state epoch = λ i. if is_active (state i) && (c.epoch == epoch i) then None else Some (record { state = state i; epoch = epoch i })

in_use_stays : (life : FailedLife) (c : Connection) (Swept : List Entry → Type 0) (old new : ListStructure) → StaysOff life old new → (Swept old.entries → Swept new.entries) → HoldsInUse life c Swept old → HoldsInUse life c Swept new
in_use_stays life c Swept old new off more was = record {
  served = λ served. more (was.served (sym (lost_same old new c off.state off.epoch) ∙ served));
  lost = λ lost is active. off.all (λ e. names life e ≡ false) (λ e none. none) (was.lost lost (sym (lost_same old new c off.state off.epoch) ∙ is) (sym (ap is_active off.state) ∙ active));
}

pub stages_stay : (life : FailedLife) (p q : Owned) → ((x : StructNo) → StaysOff life (structure_in x p.structures) (structure_in x q.structures)) → StaysSwept life p q
stages_stay life p q off = stays
  where
    clear : (x : StructNo) → (is_active (structure_in x p.structures).state ≡ true → AllByRecursion (λ (e : Entry). names life e ≡ false) (structure_in x p.structures).entries)
        → is_active (structure_in x q.structures).state ≡ true → AllByRecursion (λ (e : Entry). names life e ≡ false) (structure_in x q.structures).entries
    clear x was active = (off x).all (λ e. names life e ≡ false) (λ e none. none) (was (sym (ap is_active (off x).state) ∙ active))

    stays : (stage : Stage) → HasSwept life stage p → HasSwept life stage q
    stays Read swept = tt
    stays (Connect s) swept = λ x less. clear x (swept x less)
    stays (Search c after) swept = (
      (λ x less. clear x (swept.0 x less)),
      in_use_stays life c _ (structure_in c.structure p.structures) (structure_in c.structure q.structures) (off c.structure) ((off c.structure).all (λ e. e.id.number ≤ after.number → names life e ≡ false) (λ e none within. none)) swept.1,
    )
    stays (Settle c found) swept = (
      (λ x less. clear x (swept.0 x less)),
      in_use_stays life c _ (structure_in c.structure p.structures) (structure_in c.structure q.structures) (off c.structure) (λ was. record {
        before = (off c.structure).all (λ e. e.id.number < found.id.number → names life e ≡ false) (λ e none before. none) was.before;
        so = λ e at is. was.so e ((off c.structure).at found.id e at is) is;
      }) swept.1,
    )
    stays Resolve swept = λ x. clear x (swept x)

-- ---- one structure changes

-- what holds of each structure, and of what one becomes, holds of all
pub one_all : (P : ListStructure → Type 0) (s : StructNo) (y : ListStructure) (before after : List ListStructure) → structure_number s ≤ length before → after ≡ with_structure s y before → P y
    → ((x : StructNo) → P (structure_in x before)) → (x : StructNo) → P (structure_in x after)
one_all P s y before after within is new old x = subst (λ ls. P (structure_in x ls)) (sym is) (elim (cases_structure x s) [
  | inl same ↦ subst (λ z. P (structure_in z (with_structure s y before))) (sym same) (subst P (sym (structure_same s y before within)) new)
  | inr differ ↦ subst P (sym (structure_other s x y before differ)) (old x)
])

pub one_no_more : (life : FailedLife) (s : StructNo) (y : ListStructure) (p q : Owned) → structure_number s ≤ length p.structures → q.structures ≡ with_structure s y p.structures → ((id : EntryId) → marks_above life id y.entries ≤ marks_above_in life id s p)
    → HasNoMoreMarks life p q
one_no_more life s y p q within is fewer = λ id x. subst (λ ls. marks_above life id (structure_in x ls).entries ≤ marks_above_in life id x p) (sym is) (elim (cases_structure x s) [
  | inl same ↦ subst (λ z. marks_above life id (structure_in z (with_structure s y p.structures)).entries ≤ marks_above_in life id z p) (sym same)
      (subst (λ (l : ListStructure). marks_above life id l.entries ≤ marks_above_in life id s p) (sym (structure_same s y p.structures within)) (fewer id))
  | inr differ ↦ subst (λ (l : ListStructure). marks_above life id l.entries ≤ marks_above_in life id x p) (sym (structure_other s x y p.structures differ)) (omega arith)
])

pub one_changed : (life : FailedLife) (s : StructNo) (y : ListStructure) (p q : Owned) → structure_number s ≤ length p.structures → q.structures ≡ with_structure s y p.structures → StaysOff life (structure_in s p.structures) y → StaysSwept life p q
one_changed life s y p q within is off = stages_stay life p q (λ x. subst (λ ls. StaysOff life (structure_in x p.structures) (structure_in x ls)) (sym is) (by x))
  where
    by : (x : StructNo) → StaysOff life (structure_in x p.structures) (structure_in x (with_structure s y p.structures))
    by x = elim (cases_structure x s) [
      | inl same ↦ subst (λ z. StaysOff life (structure_in z p.structures) (structure_in z (with_structure s y p.structures))) (sym same) (subst (StaysOff life (structure_in s p.structures)) (sym (structure_same s y p.structures within)) off)
      | inr differ ↦ subst (StaysOff life (structure_in x p.structures)) (sym (structure_other s x y p.structures differ)) (same_off life (structure_in x p.structures))
    ]

pub one_counted : (life : FailedLife) (s : StructNo) (y : ListStructure) (p q : Owned) → structure_number s ≤ length p.structures → q.structures ≡ with_structure s y p.structures
    → marks_left life q + marks life (structure_in s p.structures).entries ≡ marks_left life p + marks life y.entries
one_counted life s y p q within is =
    let one = (structure-bounds s).0 in
    ap (λ ls. marks_of life.member life.incarnation ls + marks life (structure_in s p.structures).entries) is
    ∙ sum_by-set (λ (l : ListStructure). marks life l.entries) p.structures (structure_number s - 1) y no_structure (omega (arith, within, one))

pub one_leaves : (life : FailedLife) (s : StructNo) (y : ListStructure) (p q : Owned) → structure_number s ≤ length p.structures → q.structures ≡ with_structure s y p.structures → StaysOff life (structure_in s p.structures) y
    → marks life y.entries ≡ marks life (structure_in s p.structures).entries → ((id : EntryId) → marks_above life id y.entries ≤ marks_above_in life id s p) → LeavesMarks life p q
one_leaves life s y p q within is off same fewer = record {
  marks = omega (arith, one_counted life s y p q within is, same);
  swept = one_changed life s y p q within is off;
  above = one_no_more life s y p q within is fewer;
}

pub none_changed : (life : FailedLife) (p q : Owned) → q.structures ≡ p.structures → LeavesMarks life p q
none_changed life p q is = record {
  marks = ap (marks_of life.member life.incarnation) is;
  swept = stages_stay life p q (λ x. subst (λ ls. StaysOff life (structure_in x p.structures) (structure_in x ls)) (sym is) (same_off life (structure_in x p.structures)));
  above = λ id x. subst (λ ls. marks_above life id (structure_in x ls).entries ≤ marks_above_in life id x p) (sym is) (omega arith);
}

-- ---- a unit of another incarnation puts and gets

pub put_leaves : (life : FailedLife) (s : StructNo) (u : UnitName) (head : Head) (place : Place) (p q : Owned) → is_of life u ≡ false → structure_number s ≤ length p.structures
    → q.structures ≡ with_structure s (written (structure_in s p.structures) u head place) p.structures → LeavesMarks life p q
put_leaves life s u head place p q other within is =
    let old = structure_in s p.structures in
    let new = new_entry old u head place in
    one_leaves life s (written old u head place) p q within is
    (record { state = refl; epoch = refl; all = λ P free all. all-pushed P old.entries new (free new other) all; at = λ id e at named. at-pushed life id old.entries new e other at named })
    (omega (arith, marks-push life old.entries new, ap one_if other))
    (λ id. omega (arith, above_added life id old.entries new other))

pub got_leaves : (life : FailedLife) (u : UnitName) (c : Connection) (queue : List ℕ) (order : Delivery) (select : Selector) (e : Entry) (p q : Owned) → is_of life u ≡ false → AreOrdered p → structure_number c.structure ≤ length p.structures
    → found_in c queue order select p.structures ≡ Some e → q.structures ≡ with_taken u c (Some e) p.structures → LeavesMarks life p q
got_leaves life u c queue order select e p q other ordered within found is =
    let old = structure_in c.structure p.structures in
    let f : Entry → Option Entry = λ x. Some (got_by u x) in
    let in_order = ordered.ordered c.structure in
    let none : LeavesNone life f = λ x y is. ap (names life) (sym (same_Some (got_by u x) y is)) ∙ other in
    let there : entry_at e.id old.entries ≡ Some e = find-entry_at (is_first queue order select old.entries) old.entries e in_order found in
    let seen : names life e ≡ false = names_no_visible life e (and_parts (is_visible e.mark) _ (first-waits queue order select old.entries e found)).0 in
    one_leaves life c.structure (record old { entries = revise e.id f old.entries }) p q within is
    (record {
      state = refl;
      epoch = refl;
      all = λ P free all. all-revised life P e.id f old.entries free none all;
      at = λ id x at named. at-revised life e.id id f old.entries x (keeps-marked (GotBy u)).same_id none in_order at named;
    })
    (omega (arith, marks-revise life e.id f old.entries e there, ap one_if seen, nothing_left life f e none))
    (λ id. above_revised life id e.id f old.entries none)

-- ---- a settle of a unit

-- the structure in which the mark of a unit comes off
abbrev pub off_in : Bool → Connection → MarkedEntry → ListStructure → ListStructure
off_in commits c found s = revised_if_done (settle_answer s c found.id found.unit) found.id (settled_entry commits) s

pub settle_off : (life : FailedLife) (commits : Bool) (c : Connection) (found : MarkedEntry) (s : ListStructure) → AreInOrder s.entries → StaysOff life s (off_in commits c found s)
settle_off life commits c found s order = by (lost_of s c)
  where
    Told : Option Entry → Type 1
    Told e = StaysOff life s (revised_if_done (Ok (told_by (names_unit found.unit) e)) found.id (settled_entry commits) s)

    by_done : (e : Entry) (b : Bool) → StaysOff life s (revised_if_done (Ok (cond b Done (NotYours (Some e.mark)))) found.id (settled_entry commits) s)
    by_done e true = record {
      state = refl;
      epoch = refl;
      all = λ P free all. all-revised life P found.id (settled_entry commits) s.entries free (settle_leaves_none life commits) all;
      at = λ id x at named. at-revised life found.id id (settled_entry commits) s.entries x (keeps-settled commits).same_id (settle_leaves_none life commits) order at named;
    }
    by_done e false = same_off life s

    by_entry : (e : Option Entry) → Told e
    by_entry None = same_off life s
    by_entry (Some e) = by_done e (names_unit found.unit e.mark)

    by : (lost : Option Lost) → StaysOff life s (revised_if_done (unless lost (told_by (names_unit found.unit) (entry_at found.id s.entries))) found.id (settled_entry commits) s)
    by None = by_entry (entry_at found.id s.entries)
    by (Some lost) = same_off life s

-- its mark, if it came off, was one of the incarnation where the unit is
pub settle_counts : (life : FailedLife) (commits : Bool) (c : Connection) (found : MarkedEntry) (s : ListStructure) → marks life s.entries ≡ marks life (off_in commits c found s).entries + came_off_by life found (settle_answer s c found.id found.unit)
settle_counts life commits c found s = by (lost_of s c)
  where
    none : (n : ℕ) → n ≡ n + 0
    none n = omega arith

    by_done : (e : Entry) → entry_at found.id s.entries ≡ Some e → (b : Bool) → names_unit found.unit e.mark ≡ b
        → marks life s.entries ≡ marks life (revised_if_done (Ok (cond b Done (NotYours (Some e.mark)))) found.id (settled_entry commits) s).entries + came_off_by life found (Ok (cond b Done (NotYours (Some e.mark))))
    by_done e at true is = omega (arith, marks-revise life found.id (settled_entry commits) s.entries e at, ap one_if (names_of_unit life found.unit e is), nothing_left life (settled_entry commits) e (settle_leaves_none life commits))
    by_done e at false is = none (marks life s.entries)

    by_entry : (e : Option Entry) → entry_at found.id s.entries ≡ e
        → marks life s.entries ≡ marks life (revised_if_done (Ok (told_by (names_unit found.unit) e)) found.id (settled_entry commits) s).entries + came_off_by life found (Ok (told_by (names_unit found.unit) e))
    by_entry None at = none (marks life s.entries)
    by_entry (Some e) at = by_done e at (names_unit found.unit e.mark) refl

    by : (lost : Option Lost) → marks life s.entries
        ≡ marks life (revised_if_done (unless lost (told_by (names_unit found.unit) (entry_at found.id s.entries))) found.id (settled_entry commits) s).entries
        + came_off_by life found (unless lost (told_by (names_unit found.unit) (entry_at found.id s.entries)))
    by None = by_entry (entry_at found.id s.entries) refl
    by (Some lost) = none (marks life s.entries)

-- above no id are more marks then
pub settle_no_more : (life : FailedLife) (commits : Bool) (c : Connection) (found : MarkedEntry) (s : ListStructure) (id : EntryId) → marks_above life id (off_in commits c found s).entries ≤ marks_above life id s.entries
settle_no_more life commits c found s id = by (settle_answer s c found.id found.unit)
  where
    by : (r : Result Settled Lost) → marks_above life id (revised_if_done r found.id (settled_entry commits) s).entries ≤ marks_above life id s.entries
    by (Ok Done) = above_revised life id found.id (settled_entry commits) s.entries (settle_leaves_none life commits)
    by (Ok (NotYours mark)) = omega arith
    by (Err lost) = omega arith

-- a unit of another incarnation has none of its marks
none_of_other : (life : FailedLife) (found : MarkedEntry) (r : Result Settled Lost) → is_of life found.unit ≡ false → came_off_by life found r ≡ 0
none_of_other life found (Ok Done) other = ap one_if other
none_of_other life found (Ok (NotYours mark)) other = refl
none_of_other life found (Err lost) other = refl

pub settle_leaves : (life : FailedLife) (commits : Bool) (c : Connection) (found : MarkedEntry) (p q : Owned) → is_of life found.unit ≡ false → AreOrdered p → structure_number c.structure ≤ length p.structures
    → q.structures ≡ with_structure c.structure (off_in commits c found (structure_in c.structure p.structures)) p.structures → LeavesMarks life p q
settle_leaves life commits c found p q other ordered within is =
    let s = structure_in c.structure p.structures in
    one_leaves life c.structure (off_in commits c found s) p q within is (settle_off life commits c found s (ordered.ordered c.structure))
    (omega (arith, settle_counts life commits c found s, none_of_other life found (settle_answer s c found.id found.unit) other))
    (settle_no_more life commits c found s)
