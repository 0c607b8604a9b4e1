-- what a step of a task leaves of the group: all other tasks, names that were drawn, and bodies inside
use Rattle.std.proofs.Common.{◌≡◌, ℕ, ◌+◌, ◌-◌, ◌≤◌, zero, suc, List, [], ◌∷◌, length, Bool, true, false, cond, Option, Some, None, Result, Ok, Err, refl, sym, ap, subst, ◌∙◌, arith, length-set, ◌⊎◌, inl, inr}
use Rattle.std.specs.Prelude.{slice_index_or, slice_set, option_map}
use Rattle.std.specs.List.{AllByRecursion, cons_option}
use Rattle.std.proofs.lemmas.Option.{same_Some}
use Rattle.qsg_num.specs.declared.seats.Member.{Member}
use Rattle.qsg_num.specs.declared.seats.StructNo.{StructNo}
use Rattle.qsg_num.specs.declared.seats.StructNo.TheVariants as numbers
use Rattle.qsg_num.specs.declared.seats.TaskNo.{TaskNo}
use Rattle.qsg_num.specs.declared.ids.EntryId.{EntryId}
use Rattle.qsg_num.specs.declared.ids.UnitName.{UnitName}
use Rattle.qsg_num.specs.Seats.{member_number, structure_number, task_number}
use Rattle.qsg_lists.specs.declared.parts.Entry.{Entry}
use Rattle.qsg_lists.specs.declared.parts.Head.{Head}
use Rattle.qsg_lists.specs.declared.parts.Lost.{Lost}
use Rattle.qsg_lists.specs.declared.parts.Mark.{Mark}
use Rattle.qsg_lists.specs.declared.parts.Mark.TheVariants.{Visible, PutBy, GotBy, Cleanup}
use Rattle.qsg_lists.specs.declared.parts.Place.{Place}
use Rattle.qsg_lists.specs.declared.parts.Place.TheVariants.{Inline, Offloaded}
use Rattle.qsg_lists.specs.declared.parts.Settled.{Settled}
use Rattle.qsg_lists.specs.declared.parts.Settled.TheVariants.{Done, NotYours}
use Rattle.qsg_lists.specs.Entries.{has_id, revise}
use Rattle.qsg_lists.specs.Settling.{removed_mark, settled_mark, marked, settled_entry, revised_if_done}
use Rattle.qsg_lists.specs.Structures.{ListStructure}
use Rattle.qsg_lists.specs.Taking.{got_by}
use Rattle.qsg_lists.specs.Writing.{next_id, new_entry, written}
use Rattle.qsg_agenda.proofs.Found.{all_set}
use Rattle.qsg_group.proofs.Tables.{cases_member}
use Rattle.qsg_group.specs.declared.tasks.Task.{Task}
use Rattle.qsg_group.specs.Changes.{open_task}
use Rattle.qsg_manager.specs.declared.managers.Manager.{Manager}
use Rattle.qsg_manager.specs.Facilities.{no_structure, structure_in, with_structure}
use Rattle.qsg_manager.specs.Storage.{task_in, manager_in, with_manager, task_at, with_task, next_name, with_drawn}
use Rattle.qsg_manager.specs.Units.{with_name}
use Rattle.qsg_manager.proofs.Grouping.{manager_same, manager_other}
use Rattle.qsg_steady.specs.Standing.{IsOther}
use Rattle.qsg_steady.proofs.Acting.{tasked}
use Rattle.qsg_steady.proofs.Places.{task_other}
use Rattle.qsg_fit.proofs.Opened.{task_stored}
use Rattle.qsg_answered.specs.Cutting.{IsToldOf}
use Rattle.qsg_answered.specs.Fits.{IsInside, AreInside}
use Rattle.qsg_answered.proofs.Told.{all_push}

-- ---- members and tasks

-- a member goes on in its incarnation, and draws names that rise
pub record Grows (x y : Manager) : Type 0 where
  pub up : y.up ≡ x.up
  pub incarnation : y.incarnation ≡ x.incarnation
  pub next : x.next ≤ y.next

-- a name that was not drawn yet
pub record IsNext (v : UnitName) (ms : List Manager) : Type 0 where
  pub incarnation : v.incarnation ≡ (manager_in v.member ms).incarnation
  pub next : (manager_in v.member ms).next ≤ v.seq

pub record IsFrame (m : Member) (t : TaskNo) (ms ns : List Manager) : Type 0 where
  pub members : length ns ≡ length ms
  pub others : (k : Member) (w : TaskNo) → IsOther m t k w → task_at k w ns ≡ task_at k w ms
  pub grows : (k : Member) → Grows (manager_in k ms) (manager_in k ns)
  pub unit : (v : UnitName) → (task_at m t ns).unit ≡ Some v → ((task_at m t ms).unit ≡ Some v) ⊎ IsNext v ms

grows_self : (x : Manager) → Grows x x
grows_self x = record { up = refl; incarnation = refl; next = omega arith }

grows_more : (x y z : Manager) → Grows x y → Grows y z → Grows x z
grows_more x y z first then = record { up = then.up ∙ first.up; incarnation = then.incarnation ∙ first.incarnation; next = omega (arith, first.next, then.next) }

pub frame_same : (m : Member) (t : TaskNo) (ms : List Manager) → IsFrame m t ms ms
frame_same m t ms = record { members = refl; others = λ k w differ. refl; grows = λ k. grows_self (manager_in k ms); unit = λ v holds. inl holds }

next_before : (ms ns : List Manager) (v : UnitName) → ((k : Member) → Grows (manager_in k ms) (manager_in k ns)) → IsNext v ns → IsNext v ms
next_before ms ns v grows is = record { incarnation = is.incarnation ∙ (grows v.member).incarnation; next = omega (arith, is.next, (grows v.member).next) }

pub frame_more : (m : Member) (t : TaskNo) (ms ns os : List Manager) → IsFrame m t ms ns → IsFrame m t ns os → IsFrame m t ms os
frame_more m t ms ns os first then = record {
  members = then.members ∙ first.members;
  others = λ k w differ. then.others k w differ ∙ first.others k w differ;
  grows = λ k. grows_more (manager_in k ms) (manager_in k ns) (manager_in k os) (first.grows k) (then.grows k);
  unit = λ v holds. elim (then.unit v holds) [ inl held ↦ first.unit v held | inr new ↦ inr (next_before ms ns v first.grows new) ];
}

-- a manager changes
grows_at : (m : Member) (x : Manager) (ms : List Manager) → member_number m ≤ length ms → Grows (manager_in m ms) x → (k : Member) → Grows (manager_in k ms) (manager_in k (with_manager m x ms))
grows_at m x ms within grows k = elim (cases_member k m) [
  | inl same ↦ subst (λ (j : Member). Grows (manager_in j ms) (manager_in j (with_manager m x ms))) (sym same) (subst (Grows (manager_in m ms)) (sym (manager_same m x ms within)) grows)
  | inr differ ↦ subst (Grows (manager_in k ms)) (sym (manager_other m k x ms differ)) (grows_self (manager_in k ms))
]

others_at : (m : Member) (t : TaskNo) (x : Manager) (ms : List Manager) → member_number m ≤ length ms → ((w : TaskNo) → (task_number w ≡ task_number t → ⊥) → task_in w x.tasks ≡ task_in w (manager_in m ms).tasks)
    → (k : Member) (w : TaskNo) → IsOther m t k w → task_at k w (with_manager m x ms) ≡ task_at k w ms
others_at m t x ms within own k w differ = elim (cases_member k m) [
  | inl same ↦
      let apart : task_number w ≡ task_number t → ⊥ = differ (ap member_number same) in
      subst (λ (j : Member). task_at j w (with_manager m x ms) ≡ task_at j w ms) (sym same) (ap (λ (z : Manager). task_in w z.tasks) (manager_same m x ms within) ∙ own w apart)
  | inr apart ↦ ap (λ (z : Manager). task_in w z.tasks) (manager_other m k x ms apart)
]

-- a task has the unit that it had, or none
pub frame_stored : (m : Member) (t : TaskNo) (y : Task) (ms : List Manager) → member_number m ≤ length ms → length (manager_in m ms).tasks ≡ 5
    → ((v : UnitName) → y.unit ≡ Some v → (task_at m t ms).unit ≡ Some v) → IsFrame m t ms (with_task m t y ms)
frame_stored m t y ms within five unit = record {
  members = length-set ms (member_number m - 1) (tasked t y (manager_in m ms));
  others = others_at m t (tasked t y (manager_in m ms)) ms within (λ w differ. task_other t w y (manager_in m ms).tasks differ);
  grows = grows_at m (tasked t y (manager_in m ms)) ms within (record { up = refl; incarnation = refl; next = omega arith });
  unit = λ v holds. inl (unit v (ap (λ (z : Task). z.unit) (sym (task_stored m t y ms within five)) ∙ holds));
}

-- a task draws the next name of its member
pub frame_named : (m : Member) (t : TaskNo) (ms : List Manager) → member_number m ≤ length ms → length (manager_in m ms).tasks ≡ 5 → IsFrame m t ms (with_name m t ms)
frame_named m t ms within five =
    let x : Manager = record (manager_in m ms) { next = (manager_in m ms).next + 1 } in
    let ns = with_drawn m ms in
    let y = open_task (next_name m ms) [] [] in
    let here = manager_same m x ms within in
    let there : member_number m ≤ length ns = subst (λ (n : ℕ). member_number m ≤ n) (sym (length-set ms (member_number m - 1) x)) within in
    let five_still : length (manager_in m ns).tasks ≡ 5 = ap (λ (z : Manager). length z.tasks) here ∙ five in
    let drawn = grows_at m x ms within (record { up = refl; incarnation = refl; next = omega arith }) in
    let stored = grows_at m (tasked t y (manager_in m ns)) ns there (record { up = refl; incarnation = refl; next = omega arith }) in
    record {
      members = length-set ns (member_number m - 1) (tasked t y (manager_in m ns)) ∙ length-set ms (member_number m - 1) x;
      others = λ k w differ.
          others_at m t (tasked t y (manager_in m ns)) ns there (λ z apart. task_other t z y (manager_in m ns).tasks apart) k w differ
          ∙ others_at m t x ms within (λ z apart. refl) k w differ;
      grows = λ k. grows_more (manager_in k ms) (manager_in k ns) (manager_in k (with_name m t ms)) (drawn k) (stored k);
      unit = λ v holds.
          let same : next_name m ms ≡ v = same_Some (next_name m ms) v (ap (λ (z : Task). z.unit) (sym (task_stored m t y ns there five_still)) ∙ holds) in
          inr (subst (λ (z : UnitName). IsNext z ms) same (record { incarnation = refl; next = omega arith }));
    }

-- ---- bodies

pub all_or : {X : Type 0} (P : X → Type 0) (xs : List X) (i : ℕ) (d : X) → AllByRecursion P xs → P d → P (slice_index_or xs i d)
all_or P [] i d each other = other
all_or P (x ∷ xs) zero d each other = each.0
all_or P (x ∷ xs) (suc i) d each other = all_or P xs i d each.1 other

-- what stands at a place of a list after another element was set: that one, or what stood there
pub set_or : {X : Type 0} (P : X → Type 0) (xs : List X) (i j : ℕ) (y d : X) → (i ≡ j → P y) → P (slice_index_or xs j d) → P (slice_index_or (slice_set xs i y) j d)
set_or P [] i j y d new old = old
set_or P (x ∷ xs) zero zero y d new old = new refl
set_or P (x ∷ xs) zero (suc j) y d new old = old
set_or P (x ∷ xs) (suc i) zero y d new old = old
set_or P (x ∷ xs) (suc i) (suc j) y d new old = set_or P xs i j y d (λ same. new (ap suc same)) old

pub inside_in : (s : StructNo) (ss : List ListStructure) → AllByRecursion AreInside ss → AreInside (structure_in s ss)
inside_in s ss each = all_or AreInside ss (structure_number s - 1) no_structure each tt

pub inside_with : (s : StructNo) (x : ListStructure) (ss : List ListStructure) → AllByRecursion AreInside ss → AreInside x → AllByRecursion AreInside (with_structure s x ss)
inside_with s x ss each own = all_set AreInside ss (structure_number s - 1) x each own

pub inside_written : (structure : ListStructure) (u : UnitName) (head : Head) (body : List ℕ) → AreInside structure → AreInside (written structure u head (Inline body))
inside_written structure u head body each = all_push IsInside structure.entries (new_entry structure u head (Inline body)) each refl

-- what a revision leaves of an entry is inside
abbrev LeavesInside : (Entry → Option Entry) → Type 0
LeavesInside f = (e : Entry) (es : List Entry) → IsInside e → AllByRecursion IsInside es → AllByRecursion IsInside (cons_option (f e) es)

revised_inside : (id : EntryId) (f : Entry → Option Entry) (es : List Entry) → LeavesInside f → AllByRecursion IsInside es → AllByRecursion IsInside (revise id f es)
revised_inside id f [] leaves each = tt
revised_inside id f (e ∷ es) leaves each = by (has_id id e) (revised_inside id f es leaves each.1)
  where
    by : (b : Bool) → AllByRecursion IsInside (revise id f es) → AllByRecursion IsInside (cond b (cons_option (f e) es) (e ∷ revise id f es))
    by true rest = leaves e es each.0 each.1
    by false rest = (each.0, rest)

pub inside_got : (u : UnitName) (id : EntryId) (structure : ListStructure) → AreInside structure → AllByRecursion IsInside (revise id (λ x. Some (got_by u x)) structure.entries)
inside_got u id structure each = revised_inside id (λ x. Some (got_by u x)) structure.entries (λ e es own rest. (own, rest)) each

settled_inside : (commits : Bool) → LeavesInside (settled_entry commits)
settled_inside commits e es own rest = by (settled_mark commits e.mark e.place)
  where
    by : (mark : Option Mark) → AllByRecursion IsInside (cons_option (option_map (λ (x : Mark). marked x e) mark) es)
    by None = rest
    by (Some mark) = (own, rest)

pub inside_settled : (answer : Result Settled Lost) (id : EntryId) (commits : Bool) (structure : ListStructure) → AreInside structure → AreInside (revised_if_done answer id (settled_entry commits) structure)
inside_settled (Ok Done) id commits structure each = revised_inside id (settled_entry commits) structure.entries (settled_inside commits) each
inside_settled (Ok (NotYours mark)) id commits structure each = each
inside_settled (Err lost) id commits structure each = each

-- ---- puts of incarnations that failed

abbrev pub IsTelling : Type 0
IsTelling = ℕ × ℕ → UnitName → Bool

abbrev pub AllTold : IsTelling → ℕ → List Entry → Type 0
AllTold is_told x es = AllByRecursion (IsToldOf is_told x) es

structure_some : (s : StructNo) → 1 ≤ structure_number s
structure_some numbers.One = omega arith
structure_some numbers.Two = omega arith
structure_some numbers.Three = omega arith
structure_some numbers.Four = omega arith

pub told_with : (is_told : IsTelling) (s : StructNo) (y : ListStructure) (ss : List ListStructure) → ((x : StructNo) → AllTold is_told (structure_number x) (structure_in x ss).entries) → AllTold is_told (structure_number s) y.entries
    → (x : StructNo) → AllTold is_told (structure_number x) (structure_in x (with_structure s y ss)).entries
told_with is_told s y ss each own x =
    set_or (λ z. AllTold is_told (structure_number x) z.entries) ss (structure_number s - 1) (structure_number x - 1) y no_structure
    (λ same. let one : structure_number s ≡ structure_number x = omega (arith, same, structure_some s, structure_some x) in subst (λ n. AllTold is_told n y.entries) one own) (each x)

pub told_written : (is_told : IsTelling) (x : ℕ) (structure : ListStructure) (u : UnitName) (head : Head) (body : List ℕ) → is_told (x, (next_id structure).number) u ≡ true → AllTold is_told x structure.entries → AllTold is_told x (written structure u head (Inline body)).entries
told_written is_told x structure u head body own each = all_push (IsToldOf is_told x) structure.entries (new_entry structure u head (Inline body)) each own

-- what a revision leaves of an entry is told
abbrev LeavesTold : IsTelling → ℕ → (Entry → Option Entry) → Type 0
LeavesTold is_told x f = (e : Entry) (es : List Entry) → AllTold is_told x es → AllTold is_told x (cons_option (f e) es)

told_revised : (is_told : IsTelling) (x : ℕ) (id : EntryId) (f : Entry → Option Entry) (es : List Entry) → LeavesTold is_told x f → AllTold is_told x es → AllTold is_told x (revise id f es)
told_revised is_told x id f [] leaves each = tt
told_revised is_told x id f (e ∷ es) leaves each = by (has_id id e) (told_revised is_told x id f es leaves each.1)
  where
    by : (b : Bool) → AllTold is_told x (revise id f es) → AllTold is_told x (cond b (cons_option (f e) es) (e ∷ revise id f es))
    by true rest = leaves e es each.1
    by false rest = (each.0, rest)

pub told_got : (is_told : IsTelling) (x : ℕ) (u : UnitName) (id : EntryId) (es : List Entry) → AllTold is_told x es → AllTold is_told x (revise id (λ e. Some (got_by u e)) es)
told_got is_told x u id es each = told_revised is_told x id (λ e. Some (got_by u e)) es (λ e rest all. (refl, all)) each

settled_told : (is_told : IsTelling) (x : ℕ) (commits : Bool) → LeavesTold is_told x (settled_entry commits)
settled_told is_told x commits e es rest = by commits e.mark e.place
  where
    removed : (place : Place) → AllTold is_told x (cons_option (option_map (λ (z : Mark). marked z e) (removed_mark place)) es)
    removed (Inline body) = rest
    removed (Offloaded owner blocks long) = (refl, rest)

    by : (commits : Bool) (mark : Mark) (place : Place) → AllTold is_told x (cons_option (option_map (λ (z : Mark). marked z e) (settled_mark commits mark place)) es)
    by true (PutBy u) place = (refl, rest)
    by false (PutBy u) place = removed place
    by true (GotBy u) place = removed place
    by false (GotBy u) place = (refl, rest)
    by true Visible place = (refl, rest)
    by false Visible place = (refl, rest)
    by true Cleanup place = (refl, rest)
    by false Cleanup place = (refl, rest)

pub told_settled : (is_told : IsTelling) (x : ℕ) (answer : Result Settled Lost) (id : EntryId) (commits : Bool) (structure : ListStructure) → AllTold is_told x structure.entries → AllTold is_told x (revised_if_done answer id (settled_entry commits) structure).entries
told_settled is_told x (Ok Done) id commits structure each = told_revised is_told x id (settled_entry commits) structure.entries (settled_told is_told x commits) each
told_settled is_told x (Ok (NotYours mark)) id commits structure each = each
told_settled is_told x (Err lost) id commits structure each = each
