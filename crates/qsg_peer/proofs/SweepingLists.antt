-- marks that are off, in a list of entries
use Rattle.std.proofs.Common.{◌≡◌, inl, inr, ℕ, ◌<◌, ◌≤◌, Bool, true, false, cond, List, [], ◌∷◌, Option, Some, None, refl, sym, ap, subst, ◌∙◌, true≢false, arith}
use Rattle.std.specs.Prelude.{◌==◌, ◌&&◌, nat_lt, find, option_map}
use Rattle.std.specs.List.{AllByRecursion, cons_option}
use Rattle.std.specs.Option.{option_and_then}
use Rattle.std.proofs.lemmas.Bool.{cases_Bool, cases_lt, eqb-true}
use Rattle.std.proofs.lemmas.Bool.Decides.{nat_tests}
use Rattle.std.proofs.lemmas.Option.{none-some, same_Some}
use Rattle.qsg_num.specs.declared.ids.EntryId.{EntryId}
use Rattle.qsg_num.specs.declared.ids.UnitName.{UnitName}
use Rattle.qsg_num.specs.Ids.{same_unit}
use Rattle.qsg_lists.specs.declared.parts.Entry.{Entry}
use Rattle.qsg_lists.specs.declared.parts.Mark.{Mark}
use Rattle.qsg_lists.specs.declared.parts.Mark.TheVariants.{Visible, PutBy, GotBy, Cleanup}
use Rattle.qsg_lists.specs.declared.parts.Place.{Place}
use Rattle.qsg_lists.specs.declared.parts.Place.TheVariants.{Inline, Offloaded}
use Rattle.qsg_lists.specs.Entries.{has_id, entry_at, revise, is_marked_above, AreInOrder}
use Rattle.qsg_lists.specs.Marks.{names_unit, names_member}
use Rattle.qsg_lists.specs.Settling.{told_by, settled_mark, settled_entry, marked, revise_if_done}
use Rattle.qsg_lists.proofs.Found.{find-none, find-passes, find-entry_at}
use Rattle.qsg_manager.specs.declared.structures.MarkedEntry.{MarkedEntry}
use Rattle.qsg_manager.specs.Marked.{marked_by, marked_entry, marked_above}
use Rattle.qsg_peer.specs.declared.phases.FailedLife.{FailedLife}
use Rattle.qsg_peer.specs.Machine.{IsClear}
use Rattle.qsg_peer.specs.Sweeping.{IsSweptTo, IsSweptBefore, IsSweptUpTo}

-- whether an entry has a mark of the incarnation, above an id
abbrev names : FailedLife → Entry → Bool
names life e = names_member life.member life.incarnation e.mark

abbrev passes : FailedLife → EntryId → Entry → Bool
passes life after e = is_marked_above life.member life.incarnation after e

above_false : (a b : ℕ) (n : Bool) → a < b → (nat_lt a b && n) ≡ false → n ≡ false
above_false a b n less is = grind (arith, nat_tests)

-- an entry that a search passes over has no mark
passed : (life : FailedLife) (after : EntryId) (e : Entry) → passes life after e ≡ false → (e.id.number ≤ after.number → names life e ≡ false) → names life e ≡ false
passed life after e fails swept = elim (cases_lt after.number e.id.number) [ inl above ↦ above_false after.number e.id.number (names life e) above fails | inr within ↦ swept (omega (arith, within)) ]

all_passed : (life : FailedLife) (after : EntryId) (es : List Entry) → AllByRecursion (λ (e : Entry). passes life after e ≡ false) es → IsSweptTo life after es → IsClear life es
all_passed life after [] fails swept = tt
all_passed life after (e ∷ es) fails swept = (passed life after e fails.0 swept.0, all_passed life after es fails.1 swept.1)

none_marked : (life : FailedLife) (id : EntryId) (mark : Mark) → names_member life.member life.incarnation mark ≡ true → marked_by id mark ≡ None → ⊥
none_marked life id Visible is none = true≢false (sym is)
none_marked life id (PutBy u) is none = none-some _ (sym none)
none_marked life id (GotBy u) is none = none-some _ (sym none)
none_marked life id Cleanup is none = true≢false (sym is)

named : (life : FailedLife) (after : EntryId) (e : Entry) → passes life after e ≡ true → names life e ≡ true
named life after e is = both (nat_lt after.number e.id.number) (names life e) is
  where
    both : (a b : Bool) → (a && b) ≡ true → b ≡ true
    both true b is = is
    both false b is = absurd (true≢false (sym is))

-- behind the last mark none stands
pub last_search : (life : FailedLife) (after : EntryId) (es : List Entry) → marked_above life.member life.incarnation after es ≡ None → IsSweptTo life after es → IsClear life es
last_search life after es none swept = by (find (is_marked_above life.member life.incarnation after) es) refl none
  where
    by : (first : Option Entry) → find (is_marked_above life.member life.incarnation after) es ≡ first → option_and_then marked_entry first ≡ None → IsClear life es
    by None at is = all_passed life after es (find-none (is_marked_above life.member life.incarnation after) es at) swept
    by (Some e) at is = absurd (none_marked life e.id e.mark (named life after e (find-passes (is_marked_above life.member life.incarnation after) es e at)) is)

none_before : (life : FailedLife) (id : EntryId) (n : ℕ) (es : List Entry) → id.number ≤ n → AllByRecursion (λ (y : Entry). n < y.id.number) es → IsSweptBefore life id es
none_before life id n [] less all = tt
none_before life id n (e ∷ es) less all = (λ before. absurd (omega (arith, less, all.0, before)), none_before life id n es less all.1)

pub none_within : (life : FailedLife) (id : EntryId) (n : ℕ) (es : List Entry) → id.number ≤ n → AllByRecursion (λ (y : Entry). n < y.id.number) es → IsSweptTo life id es
none_within life id n [] less all = tt
none_within life id n (e ∷ es) less all = (λ within. absurd (omega (arith, less, all.0, within)), none_within life id n es less all.1)

found_before : (life : FailedLife) (after : EntryId) (es : List Entry) (e : Entry) → AreInOrder es → find (is_marked_above life.member life.incarnation after) es ≡ Some e → IsSweptTo life after es → IsSweptBefore life e.id es
found_before life after [] e order is swept = tt
found_before life after (x ∷ es) e order is swept = by (passes life after x) refl (found_before life after es e order.1) is
  where
    by : (b : Bool) → passes life after x ≡ b → (find (is_marked_above life.member life.incarnation after) es ≡ Some e → IsSweptTo life after es → IsSweptBefore life e.id es)
        → cond b (Some x) (find (is_marked_above life.member life.incarnation after) es) ≡ Some e → IsSweptBefore life e.id (x ∷ es)
    by true holds rest same = subst (λ (y : Entry). IsSweptBefore life y.id (x ∷ es)) (same_Some x e same) (λ before. absurd (omega (arith, before)), none_before life x.id x.id.number es (omega arith) order.0)
    by false fails rest same = (λ before. passed life after x fails swept.0, rest same swept.1)

own_unit : (u : UnitName) → same_unit u u ≡ true
own_unit u = grind (arith, nat_tests)

pub marked_so : (id : EntryId) (mark : Mark) (found : MarkedEntry) → marked_by id mark ≡ Some found → (names_unit found.unit mark ≡ true) × (found.id ≡ id)
marked_so id Visible found is = absurd (none-some found is)
marked_so id (PutBy u) found is = let same = same_Some _ found is in (subst (λ (x : MarkedEntry). names_unit x.unit (PutBy u) ≡ true) same (own_unit u), sym (ap (λ (x : MarkedEntry). x.id) same))
marked_so id (GotBy u) found is = let same = same_Some _ found is in (subst (λ (x : MarkedEntry). names_unit x.unit (GotBy u) ≡ true) same (own_unit u), sym (ap (λ (x : MarkedEntry). x.id) same))
marked_so id Cleanup found is = absurd (none-some found is)

-- a mark that is found is the next one
pub next_search : (life : FailedLife) (after : EntryId) (es : List Entry) (found : MarkedEntry) → AreInOrder es → marked_above life.member life.incarnation after es ≡ Some found → IsSweptTo life after es → IsSweptUpTo life found es
next_search life after es found order is swept = by (find (is_marked_above life.member life.incarnation after) es) refl is
  where
    by : (first : Option Entry) → find (is_marked_above life.member life.incarnation after) es ≡ first → option_and_then marked_entry first ≡ Some found → IsSweptUpTo life found es
    by None at same = absurd (none-some found same)
    by (Some e) at same =
        let so = marked_so e.id e.mark found same in
        record {
          before = subst (λ (id : EntryId). IsSweptBefore life id es) (sym so.1) (found_before life after es e order at swept);
          so = λ x there names_x.
              let here : entry_at found.id es ≡ Some e = ap (λ (id : EntryId). entry_at id es) so.1 ∙ find-entry_at (is_marked_above life.member life.incarnation after) es e order at in
              subst (λ (y : Entry). names_unit found.unit y.mark ≡ true) (same_Some e x (sym here ∙ there)) so.0;
        }

-- ---- a settle

-- what a settle leaves of an entry names no unit
settled_unnamed : (life : FailedLife) (commits : Bool) (e : Entry) (mark : Mark) (place : Place) (x : Entry) → option_map (λ m. marked m e) (settled_mark commits mark place) ≡ Some x → names life x ≡ false
settled_unnamed life true e Visible place x left = ap (names life) (sym (same_Some _ x left))
settled_unnamed life false e Visible place x left = ap (names life) (sym (same_Some _ x left))
settled_unnamed life true e (PutBy u) place x left = ap (names life) (sym (same_Some _ x left))
settled_unnamed life false e (PutBy u) (Inline body) x left = absurd (none-some x left)
settled_unnamed life false e (PutBy u) (Offloaded owner blocks count) x left = ap (names life) (sym (same_Some _ x left))
settled_unnamed life true e (GotBy u) (Inline body) x left = absurd (none-some x left)
settled_unnamed life true e (GotBy u) (Offloaded owner blocks count) x left = ap (names life) (sym (same_Some _ x left))
settled_unnamed life false e (GotBy u) place x left = ap (names life) (sym (same_Some _ x left))
settled_unnamed life true e Cleanup place x left = ap (names life) (sym (same_Some _ x left))
settled_unnamed life false e Cleanup place x left = ap (names life) (sym (same_Some _ x left))

pub unnamed : (life : FailedLife) (commits : Bool) (e x : Entry) → settled_entry commits e ≡ Some x → names life x ≡ false
unnamed life commits e x left = settled_unnamed life commits e e.mark e.place x left

here_of : (id : EntryId) (x : Entry) (es : List Entry) → has_id id x ≡ true → entry_at id (x ∷ es) ≡ Some x
here_of id x es is = ap (λ (b : Bool). cond b (Some x) (entry_at id es)) is

there_of : (id : EntryId) (x : Entry) (es : List Entry) → has_id id x ≡ false → entry_at id (x ∷ es) ≡ entry_at id es
there_of id x es is = ap (λ (b : Bool). cond b (Some x) (entry_at id es)) is

within_before : (a b : ℕ) → (a == b) ≡ false → a ≤ b → a < b
within_before a b differ less = grind (arith, nat_tests)

done_swept : (life : FailedLife) (commits : Bool) (id : EntryId) (es : List Entry) → AreInOrder es → IsSweptBefore life id es → IsSweptTo life id (revise id (settled_entry commits) es)
done_swept life commits id [] order before = tt
done_swept life commits id (x ∷ es) order before = by (has_id id x) refl (done_swept life commits id es order.1 before.1)
  where
    tail : has_id id x ≡ true → IsSweptTo life id es
    tail is = let same = eqb-true x.id.number id.number is in none_within life id x.id.number es (omega (arith, same)) order.0

    one : (left : Option Entry) → settled_entry commits x ≡ left → has_id id x ≡ true → IsSweptTo life id (cons_option left es)
    one None same is = tail is
    one (Some y) same is = (λ within. unnamed life commits x y same, tail is)

    by : (b : Bool) → has_id id x ≡ b → IsSweptTo life id (revise id (settled_entry commits) es) → IsSweptTo life id (cond b (cons_option (settled_entry commits x) es) (x ∷ revise id (settled_entry commits) es))
    by true is rest = one (settled_entry commits x) refl is
    by false is rest = (λ within. before.0 (within_before x.id.number id.number is within), rest)

still_swept : (life : FailedLife) (id : EntryId) (es : List Entry) → AreInOrder es → IsSweptBefore life id es → ((e : Entry) → entry_at id es ≡ Some e → names life e ≡ false) → IsSweptTo life id es
still_swept life id [] order before quiet = tt
still_swept life id (x ∷ es) order before quiet = by (has_id id x) refl (still_swept life id es order.1 before.1)
  where
    by : (b : Bool) → has_id id x ≡ b → (((e : Entry) → entry_at id es ≡ Some e → names life e ≡ false) → IsSweptTo life id es) → IsSweptTo life id (x ∷ es)
    by true is rest = let same = eqb-true x.id.number id.number is in (λ within. quiet x (here_of id x es is), none_within life id x.id.number es (omega (arith, same)) order.0)
    by false is rest = (λ within. before.0 (within_before x.id.number id.number is within), rest (λ e at. quiet e (there_of id x es is ∙ at)))

-- a settle takes the mark off that was found, whoever took it off
pub settle_swept : (life : FailedLife) (commits : Bool) (found : MarkedEntry) (es : List Entry) → AreInOrder es → IsSweptUpTo life found es
    → IsSweptTo life found.id (revise_if_done (told_by (names_unit found.unit) (entry_at found.id es)) found.id (settled_entry commits) es)
settle_swept life commits found es order swept = by (entry_at found.id es) refl
  where
    other : (e : Entry) → entry_at found.id es ≡ Some e → names_unit found.unit e.mark ≡ false → names life e ≡ false
    other e at fails = elim (cases_Bool (names life e)) [ inl is ↦ absurd (true≢false (sym (swept.so e at is) ∙ fails)) | inr is ↦ is ]

    by_mark : (e : Entry) → entry_at found.id es ≡ Some e → (b : Bool) → names_unit found.unit e.mark ≡ b
        → IsSweptTo life found.id (revise_if_done (cond b Rattle.qsg_lists.specs.declared.parts.Settled.TheVariants.Done (Rattle.qsg_lists.specs.declared.parts.Settled.TheVariants.NotYours (Some e.mark))) found.id (settled_entry commits) es)
    by_mark e at true is = done_swept life commits found.id es order swept.before
    by_mark e at false is = still_swept life found.id es order swept.before (λ x there. subst (λ (y : Entry). names life y ≡ false) (same_Some e x (sym at ∙ there)) (other e at is))

    by : (e : Option Entry) → entry_at found.id es ≡ e → IsSweptTo life found.id (revise_if_done (told_by (names_unit found.unit) e) found.id (settled_entry commits) es)
    by None at = still_swept life found.id es order swept.before (λ x there. absurd (none-some x (sym at ∙ there)))
    by (Some e) at = by_mark e at (names_unit found.unit e.mark) refl
