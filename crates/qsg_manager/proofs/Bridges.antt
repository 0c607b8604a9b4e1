-- entries of list structures and of the machine
use Rattle.std.proofs.Common.{◌≡◌, ℕ, ◌+◌, Bool, true, false, cond, List, [], ◌∷◌, ◌++◌, map, Option, Some, None, refl, sym, ap, ◌∙◌, arith}
use Rattle.std.specs.Prelude.{option_map, ◌==◌}
use Rattle.std.specs.List.{cons_option}
use Rattle.std.proofs.lemmas.Bool.Decides.{nat_tests}
use Rattle.std.proofs.lemmas.Option.{same_Some, none-some}
use Rattle.qsg_num.specs.declared.seats.StructNo.{StructNo}
use Rattle.qsg_num.specs.declared.ids.UnitName.{UnitName}
use Rattle.qsg_num.specs.declared.ids.EntryId.{EntryId}
use Rattle.qsg_num.specs.declared.words.Delivery.{Delivery}
use Rattle.qsg_num.specs.Ids.{same_unit}
use Rattle.qsg_lists.specs.declared.parts.Connection.{Connection}
use Rattle.qsg_lists.specs.declared.parts.Head.{Head}
use Rattle.qsg_lists.specs.declared.parts.Place.{Place}
use Rattle.qsg_lists.specs.declared.parts.Place.TheVariants.{Inline, Offloaded}
use Rattle.qsg_lists.specs.declared.parts.Entry.{Entry}
use Rattle.qsg_lists.specs.declared.parts.Selector.{Selector}
use Rattle.qsg_lists.specs.declared.parts.Mark.{Mark}
use Rattle.qsg_lists.specs.declared.parts.Mark.TheVariants.{Visible, PutBy, GotBy, Cleanup}
use Rattle.qsg_lists.specs.Marks.{names_unit}
use Rattle.qsg_lists.specs.Structures.{ListStructure, lost_of}
use Rattle.qsg_lists.specs.Entries as lists
use Rattle.qsg_lists.specs.Writing.{written, next_id}
use Rattle.qsg_lists.specs.Taking.{taken, if_served, mark_found, got_by}
use Rattle.qsg_lists.specs.Settling.{settle_answer, settled_entry, settled_mark, revised_if_done, revise_if_done, told_by, removed_mark}
use Rattle.qsg_group.specs.Group.{Held}
use Rattle.qsg_group.specs.Observers.{entry_at, revise}
use Rattle.qsg_group.specs.Changes.{with_entry, with_entries, marked, removed, settle}
use Rattle.qsg_group.specs.Changes as machine
use Rattle.qsg_manager.specs.Views.{Outside, body_of, is_outside, message_of, held_of, shelf_of}

pub found : (o : Outside) (s : StructNo) (id : EntryId) (es : List Entry) → entry_at id.number (map (held_of o s) es) ≡ option_map (held_of o s) (lists.entry_at id es)
found o s id [] = refl
found o s id (e ∷ es) = by (e.id.number == id.number) (found o s id es)
  where
    by : (b : Bool) → entry_at id.number (map (held_of o s) es) ≡ option_map (held_of o s) (lists.entry_at id es) → cond b (Some (held_of o s e)) (entry_at id.number (map (held_of o s) es)) ≡ option_map (held_of o s) (cond b (Some e) (lists.entry_at id es))
    by true rest = refl
    by false rest = rest

map_push : {A B : Type 0} (f : A → B) (xs : List A) (y : A) → map f (xs ++ y ∷ []) ≡ map f xs ++ f y ∷ []
map_push f [] y = refl
map_push f (x ∷ xs) y = ap (λ l. f x ∷ l) (map_push f xs y)

pub write_adds : (o : Outside) (s : StructNo) (structure : ListStructure) (unit : UnitName) (head : Head) (place : Place)
    → shelf_of o s (written structure unit head place) ≡ with_entry (record { message = message_of s (next_id structure) head (body_of (o s) place); mark = PutBy unit; outside = is_outside place }) (shelf_of o s structure)
write_adds o s structure unit head place = ap (λ (es : List Held). record (shelf_of o s structure) { last = structure.last + 1; entries = es }) (map_push (held_of o s) structure.entries _)

map_cons_option : (o : Outside) (s : StructNo) (x : Option Entry) (es : List Entry) → map (held_of o s) (cons_option x es) ≡ cons_option (option_map (held_of o s) x) (map (held_of o s) es)
map_cons_option o s None es = refl
map_cons_option o s (Some x) es = refl

-- a change of one entry is the change of the entry that the machine sees
pub revised : (o : Outside) (s : StructNo) (id : EntryId) (f : Entry → Option Entry) (h : Held → Option Held) (es : List Entry) → ((e : Entry) → option_map (held_of o s) (f e) ≡ h (held_of o s e))
    → map (held_of o s) (lists.revise id f es) ≡ revise id.number h (map (held_of o s) es)
revised o s id f h [] same = refl
revised o s id f h (e ∷ es) same = by (e.id.number == id.number) (revised o s id f h es same)
  where
    by : (b : Bool) → map (held_of o s) (lists.revise id f es) ≡ revise id.number h (map (held_of o s) es)
        → map (held_of o s) (cond b (cons_option (f e) es) (e ∷ lists.revise id f es)) ≡ cond b (cons_option (h (held_of o s e)) (map (held_of o s) es)) (held_of o s e ∷ revise id.number h (map (held_of o s) es))
    by true rest = map_cons_option o s (f e) es ∙ ap (λ x. cons_option x (map (held_of o s) es)) (same e)
    by false rest = ap (λ l. held_of o s e ∷ l) rest

pub take_marks : (o : Outside) (s : StructNo) (structure : ListStructure) (connection : Connection) (unit : UnitName) (queue : List ℕ) (order : Delivery) (select : Selector) (e : Entry)
    → lost_of structure connection ≡ None → lists.first_of queue order select structure.entries ≡ Some e
    → shelf_of o s (taken structure connection unit queue order select) ≡ with_entries (revise e.id.number (marked (GotBy unit))) (shelf_of o s structure)
take_marks o s structure connection unit queue order select e served first =
    ap (λ lost. shelf_of o s (if_served lost structure (record structure { entries = mark_found unit (lists.first_of queue order select structure.entries) structure.entries }))) served
    ∙ ap (λ found. shelf_of o s (record structure { entries = mark_found unit found structure.entries })) first
    ∙ ap (λ (es : List Held). record (shelf_of o s structure) { entries = es }) (revised o s e.id (λ x. Some (got_by unit x)) (marked (GotBy unit)) structure.entries (λ x. refl))

-- ---- a settle

unit_order : (a b : UnitName) → same_unit a b ≡ same_unit b a
unit_order a b = grind (arith, nat_tests)

removed_same : (o : Outside) (s : StructNo) (e : Entry) (place : Place) → e.place ≡ place → option_map (held_of o s) (option_map (λ mark. Rattle.qsg_lists.specs.Settling.marked mark e) (removed_mark place)) ≡ removed (held_of o s e)
removed_same o s e (Inline body) is = ap (λ p. cond (is_outside p) (marked Cleanup (held_of o s e)) None) (sym is)
removed_same o s e (Offloaded owner blocks length) is = ap (λ p. cond (is_outside p) (marked Cleanup (held_of o s e)) None) (sym is)

settled_same : (o : Outside) (s : StructNo) (unit : UnitName) (commits : Bool) (e : Entry) (mark : Mark) → e.mark ≡ mark → names_unit unit mark ≡ true
    → option_map (held_of o s) (option_map (λ m. Rattle.qsg_lists.specs.Settling.marked m e) (settled_mark commits mark e.place)) ≡ machine.settled_entry unit commits mark (held_of o s e)
settled_same o s unit commits e Visible is names = absurd cc
settled_same o s unit commits e Cleanup is names = absurd cc
settled_same o s unit true e (PutBy v) is names = sym (ap (λ b. cond b (marked Visible (held_of o s e)) (Some (held_of o s e))) (unit_order unit v ∙ names))
settled_same o s unit false e (PutBy v) is names = removed_same o s e e.place refl ∙ sym (ap (λ b. cond b (removed (held_of o s e)) (Some (held_of o s e))) (unit_order unit v ∙ names))
settled_same o s unit true e (GotBy v) is names = removed_same o s e e.place refl ∙ sym (ap (λ b. cond b (removed (held_of o s e)) (Some (held_of o s e))) (unit_order unit v ∙ names))
settled_same o s unit false e (GotBy v) is names = sym (ap (λ b. cond b (marked Visible (held_of o s e)) (Some (held_of o s e))) (unit_order unit v ∙ names))

unsettled : (o : Outside) (s : StructNo) (unit : UnitName) (commits : Bool) (e : Held) (mark : Mark) → names_unit unit mark ≡ false → machine.settled_entry unit commits mark e ≡ Some e
unsettled o s unit commits e Visible names = refl
unsettled o s unit commits e Cleanup names = refl
unsettled o s unit commits e (PutBy v) names = ap (λ b. cond b (cond commits (marked Visible e) (removed e)) (Some e)) (unit_order unit v ∙ names)
unsettled o s unit commits e (GotBy v) names = ap (λ b. cond b (cond commits (removed e) (marked Visible e)) (Some e)) (unit_order unit v ∙ names)

-- where the entry of the id passes, the two changes agree; where it doesn't, the machine leaves it
settle_done : (o : Outside) (s : StructNo) (id : EntryId) (unit : UnitName) (commits : Bool) (es : List Entry) (e : Entry) → lists.entry_at id es ≡ Some e → names_unit unit e.mark ≡ true
    → map (held_of o s) (lists.revise id (settled_entry commits) es) ≡ settle id.number unit commits (map (held_of o s) es)
settle_done o s id unit commits [] e there names = absurd cc
settle_done o s id unit commits (x ∷ es) e there names = by (x.id.number == id.number) refl there (settle_done o s id unit commits es e)
  where
    by : (b : Bool) → (x.id.number == id.number) ≡ b → cond b (Some x) (lists.entry_at id es) ≡ Some e
        → (lists.entry_at id es ≡ Some e → names_unit unit e.mark ≡ true → map (held_of o s) (lists.revise id (settled_entry commits) es) ≡ settle id.number unit commits (map (held_of o s) es))
        → map (held_of o s) (cond b (cons_option (settled_entry commits x) es) (x ∷ lists.revise id (settled_entry commits) es)) ≡ cond b (cons_option (machine.settled_entry unit commits x.mark (held_of o s x)) (map (held_of o s) es)) (held_of o s x ∷ settle id.number unit commits (map (held_of o s) es))
    by true is here rest =
        let own : names_unit unit x.mark ≡ true = ap (λ (y : Entry). names_unit unit y.mark) (same_Some x e here) ∙ names in
        map_cons_option o s (settled_entry commits x) es ∙ ap (λ y. cons_option y (map (held_of o s) es)) (settled_same o s unit commits x x.mark refl own)
    by false is there rest = ap (λ l. held_of o s x ∷ l) (rest there names)

settle_other : (o : Outside) (s : StructNo) (id : EntryId) (unit : UnitName) (commits : Bool) (es : List Entry) → ((e : Entry) → lists.entry_at id es ≡ Some e → names_unit unit e.mark ≡ false)
    → map (held_of o s) es ≡ settle id.number unit commits (map (held_of o s) es)
settle_other o s id unit commits [] other = refl
settle_other o s id unit commits (x ∷ es) other = by (x.id.number == id.number) (other_here (x.id.number == id.number) refl) (λ next. settle_other o s id unit commits es next)
  where
    other_here : (b : Bool) → (x.id.number == id.number) ≡ b → (e : Entry) → cond b (Some x) (lists.entry_at id es) ≡ Some e → names_unit unit e.mark ≡ false
    other_here b is e there = other e (ap (λ c. cond c (Some x) (lists.entry_at id es)) is ∙ there)

    by : (b : Bool) → ((e : Entry) → cond b (Some x) (lists.entry_at id es) ≡ Some e → names_unit unit e.mark ≡ false)
        → (((e : Entry) → lists.entry_at id es ≡ Some e → names_unit unit e.mark ≡ false) → map (held_of o s) es ≡ settle id.number unit commits (map (held_of o s) es))
        → held_of o s x ∷ map (held_of o s) es ≡ cond b (cons_option (machine.settled_entry unit commits x.mark (held_of o s x)) (map (held_of o s) es)) (held_of o s x ∷ settle id.number unit commits (map (held_of o s) es))
    by true other rest = sym (ap (λ y. cons_option y (map (held_of o s) es)) (unsettled o s unit commits (held_of o s x) x.mark (other x refl)))
    by false other rest = ap (λ l. held_of o s x ∷ l) (rest other)

settle_told : (o : Outside) (s : StructNo) (id : EntryId) (unit : UnitName) (commits : Bool) (es : List Entry) (found : Option Entry) → lists.entry_at id es ≡ found
    → map (held_of o s) (revise_if_done (told_by (names_unit unit) found) id (settled_entry commits) es) ≡ settle id.number unit commits (map (held_of o s) es)
settle_told o s id unit commits es None is = settle_other o s id unit commits es (λ e there. absurd (none-some e (sym is ∙ there)))
settle_told o s id unit commits es (Some x) is = by (names_unit unit x.mark) refl
  where
    by : (b : Bool) → names_unit unit x.mark ≡ b → map (held_of o s) (revise_if_done (cond b Rattle.qsg_lists.specs.declared.parts.Settled.TheVariants.Done (Rattle.qsg_lists.specs.declared.parts.Settled.TheVariants.NotYours (Some x.mark))) id (settled_entry commits) es) ≡ settle id.number unit commits (map (held_of o s) es)
    by true names = settle_done o s id unit commits es x is names
    by false names = settle_other o s id unit commits es (λ e there. ap (λ (y : Entry). names_unit unit y.mark) (same_Some e x (sym there ∙ is)) ∙ names)

pub settle_settles : (o : Outside) (s : StructNo) (structure : ListStructure) (connection : Connection) (id : EntryId) (unit : UnitName) (commits : Bool) → lost_of structure connection ≡ None
    → shelf_of o s (revised_if_done (settle_answer structure connection id unit) id (settled_entry commits) structure) ≡ with_entries (settle id.number unit commits) (shelf_of o s structure)
settle_settles o s structure connection id unit commits served =
    ap (λ lost. shelf_of o s (revised_if_done (Rattle.qsg_lists.specs.Structures.unless lost (told_by (names_unit unit) (lists.entry_at id structure.entries))) id (settled_entry commits) structure)) served
    ∙ ap (λ (es : List Held). record (shelf_of o s structure) { entries = es }) (settle_told o s id unit commits structure.entries (lists.entry_at id structure.entries) refl)
