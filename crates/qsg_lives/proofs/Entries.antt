-- the marks of an incarnation in a list of entries that changes
use Rattle.std.proofs.Common.{◌≡◌, inl, inr, ℕ, ◌+◌, ◌≤◌, Bool, true, false, cond, List, [], ◌∷◌, ◌++◌, Option, Some, None, refl, sym, ap, subst, ◌∙◌, true≢false, arith}
use Rattle.std.specs.Prelude.{◌==◌, option_map}
use Rattle.std.specs.List.{AllByRecursion, cons_option}
use Rattle.std.specs.Option.{option_and_then}
use Rattle.std.proofs.lemmas.Bool.{cases_Bool, eqb-true}
use Rattle.std.proofs.lemmas.Bool.Decides.{nat_tests}
use Rattle.std.proofs.lemmas.List.Sums.{sum_by-cons, sum_by_push}
use Rattle.std.proofs.lemmas.Option.{none-some, same_Some}
use Rattle.qsg_num.specs.declared.ids.EntryId.{EntryId}
use Rattle.qsg_num.specs.declared.ids.UnitName.{UnitName}
use Rattle.qsg_lists.specs.declared.parts.Entry.{Entry}
use Rattle.qsg_lists.specs.declared.parts.Mark.{Mark}
use Rattle.qsg_lists.specs.declared.parts.Mark.TheVariants.{Visible, PutBy, GotBy, Cleanup}
use Rattle.qsg_lists.specs.declared.parts.Place.{Place}
use Rattle.qsg_lists.specs.declared.parts.Place.TheVariants.{Inline, Offloaded}
use Rattle.qsg_lists.specs.Entries.{has_id, entry_at, revise, KeepsId, AreInOrder}
use Rattle.qsg_lists.specs.Marks.{is_visible, names_unit, names_member}
use Rattle.qsg_lists.specs.Settling.{settled_mark, settled_entry, marked}
use Rattle.qsg_lists.proofs.Found.{entry_at-revise, entry_at-revise_other}
use Rattle.qsg_lists.proofs.Lookups.{same_id}
use Rattle.qsg_manager.specs.Marked.{marks_in}
use Rattle.qsg_group.proofs.Pages.{same_name}
use Rattle.qsg_peer.specs.declared.phases.FailedLife.{FailedLife}
use Rattle.qsg_peer.specs.Machine.{is_of}

-- whether an entry has a mark of the incarnation, and how many of a list have one
abbrev pub names : FailedLife → Entry → Bool
names life e = names_member life.member life.incarnation e.mark

abbrev pub marks : FailedLife → List Entry → ℕ
marks life es = marks_in life.member life.incarnation es

abbrev pub one_if : Bool → ℕ
one_if b = cond b 1 0

abbrev pub marks_left_by : FailedLife → Option Entry → ℕ
marks_left_by life None = 0
marks_left_by life (Some e) = one_if (names life e)

-- ---- how many there are

marks-cons : (life : FailedLife) (e : Entry) (es : List Entry) → marks life (e ∷ es) ≡ one_if (names life e) + marks life es
marks-cons life e es = sum_by-cons (λ (x : Entry). cond (names life x) 1 0) e es

-- none are left where no entry has one
pub marks_none : (life : FailedLife) (es : List Entry) → AllByRecursion (λ (e : Entry). names life e ≡ false) es → marks life es ≡ 0
marks_none life [] all = refl
marks_none life (e ∷ es) all = omega (arith, marks-cons life e es, ap one_if all.0, marks_none life es all.1)

pub marks-push : (life : FailedLife) (es : List Entry) (e : Entry) → marks life (es ++ e ∷ []) ≡ marks life es + one_if (names life e)
marks-push life es e = sum_by_push (λ (x : Entry). cond (names life x) 1 0) es e

marks-cons_option : (life : FailedLife) (left : Option Entry) (es : List Entry) → marks life (cons_option left es) ≡ marks_left_by life left + marks life es
marks-cons_option life None es = omega arith
marks-cons_option life (Some e) es = marks-cons life e es

-- where the entry of an id is revised, its own mark goes, and that of what is left comes
pub marks-revise : (life : FailedLife) (id : EntryId) (f : Entry → Option Entry) (es : List Entry) (e : Entry) → entry_at id es ≡ Some e → marks life (revise id f es) + one_if (names life e) ≡ marks life es + marks_left_by life (f e)
marks-revise life id f [] e there = absurd (none-some e there)
marks-revise life id f (x ∷ es) e there = by (has_id id x) there (marks-revise life id f es e)
  where
    by : (b : Bool) → cond b (Some x) (entry_at id es) ≡ Some e → (entry_at id es ≡ Some e → marks life (revise id f es) + one_if (names life e) ≡ marks life es + marks_left_by life (f e))
        → marks life (cond b (cons_option (f x) es) (x ∷ revise id f es)) + one_if (names life e) ≡ marks life (x ∷ es) + marks_left_by life (f e)
    by true is rest = subst (λ (y : Entry). marks life (cons_option (f x) es) + one_if (names life y) ≡ marks life (x ∷ es) + marks_left_by life (f y)) (same_Some x e is)
        (omega (arith, marks-cons_option life (f x) es, marks-cons life x es))
    by false is rest = omega (arith, rest is, marks-cons life x es, marks-cons life x (revise id f es))

-- whichever entry is revised, no more marks come than one that it leaves may have
pub marks-revise_few : (life : FailedLife) (id : EntryId) (f : Entry → Option Entry) (n : ℕ) (es : List Entry) → ((e : Entry) → marks_left_by life (f e) ≤ n) → marks life (revise id f es) ≤ marks life es + n
marks-revise_few life id f n [] few = omega arith
marks-revise_few life id f n (x ∷ es) few = by (has_id id x) (marks-revise_few life id f n es few)
  where
    by : (b : Bool) → marks life (revise id f es) ≤ marks life es + n → marks life (cond b (cons_option (f x) es) (x ∷ revise id f es)) ≤ marks life (x ∷ es) + n
    by true rest = omega (arith, marks-cons_option life (f x) es, marks-cons life x es, few x)
    by false rest = omega (arith, rest, marks-cons life x es, marks-cons life x (revise id f es))

-- ---- marks that are off

-- what is left of an entry has no mark of the incarnation
abbrev pub LeavesNone : FailedLife → (Entry → Option Entry) → Type 0
LeavesNone life f = (e x : Entry) → f e ≡ Some x → names life x ≡ false

all-left : (P : Entry → Type 0) (left : Option Entry) (es : List Entry) → ((x : Entry) → left ≡ Some x → P x) → AllByRecursion P es → AllByRecursion P (cons_option left es)
all-left P None es one all = all
all-left P (Some x) es one all = (one x refl, all)

-- what holds of all entries, and of what is left of each, holds of all after one is revised
pub all-kept : (P : Entry → Type 0) (id : EntryId) (f : Entry → Option Entry) (es : List Entry) → ((e x : Entry) → f e ≡ Some x → P e → P x) → AllByRecursion P es → AllByRecursion P (revise id f es)
all-kept P id f [] keeps all = tt
all-kept P id f (x ∷ es) keeps all = by (has_id id x) (all-kept P id f es keeps all.1)
  where
    by : (b : Bool) → AllByRecursion P (revise id f es) → AllByRecursion P (cond b (cons_option (f x) es) (x ∷ revise id f es))
    by true rest = all-left P (f x) es (λ y is. keeps x y is all.0) all.1
    by false rest = (all.0, rest)

-- what holds of all entries, and of each without a mark of the incarnation, holds of all after one is revised
pub all-revised : (life : FailedLife) (P : Entry → Type 0) (id : EntryId) (f : Entry → Option Entry) (es : List Entry) → ((e : Entry) → names life e ≡ false → P e) → LeavesNone life f → AllByRecursion P es → AllByRecursion P (revise id f es)
all-revised life P id f [] free none all = tt
all-revised life P id f (x ∷ es) free none all = by (has_id id x) (all-revised life P id f es free none all.1)
  where
    by : (b : Bool) → AllByRecursion P (revise id f es) → AllByRecursion P (cond b (cons_option (f x) es) (x ∷ revise id f es))
    by true rest = all-left P (f x) es (λ y is. free y (none x y is)) all.1
    by false rest = (all.0, rest)

-- an entry with a mark of the incarnation is one that was there
pub at-revised : (life : FailedLife) (id other : EntryId) (f : Entry → Option Entry) (es : List Entry) (e : Entry) → KeepsId f → LeavesNone life f → AreInOrder es → entry_at other (revise id f es) ≡ Some e → names life e ≡ true → entry_at other es ≡ Some e
at-revised life id other f es e keeps none order there is = elim (cases_Bool (other.number == id.number)) [
  | inl same ↦ absurd (here (subst (λ (i : EntryId). entry_at i (revise id f es) ≡ Some e) (same_id other id (eqb-true other.number id.number same)) there))
  | inr differ ↦ sym (entry_at-revise_other id other f es keeps (λ same. true≢false (sym (own other) ∙ ap (λ (i : EntryId). other.number == i.number) same ∙ differ))) ∙ there
]
  where
    own : (i : EntryId) → (i.number == i.number) ≡ true
    own i = grind (arith, nat_tests)

    left : (x : Option Entry) → option_and_then f x ≡ Some e → ⊥
    left None at = none-some e at
    left (Some x) at = true≢false (sym is ∙ none x e at)

    here : entry_at id (revise id f es) ≡ Some e → ⊥
    here at = left (entry_at id es) (sym (entry_at-revise id f es keeps order) ∙ at)

-- the same where one entry more stands at the end
pub all-pushed : (P : Entry → Type 0) (es : List Entry) (e : Entry) → P e → AllByRecursion P es → AllByRecursion P (es ++ e ∷ [])
all-pushed P [] e one all = (one, tt)
all-pushed P (x ∷ es) e one all = (all.0, all-pushed P es e one all.1)

pub at-pushed : (life : FailedLife) (id : EntryId) (es : List Entry) (new e : Entry) → names life new ≡ false → entry_at id (es ++ new ∷ []) ≡ Some e → names life e ≡ true → entry_at id es ≡ Some e
at-pushed life id [] new e none there is = by (has_id id new) there
  where
    by : (b : Bool) → cond b (Some new) None ≡ Some e → None ≡ Some e
    by true same = absurd (true≢false (sym is ∙ ap (names life) (sym (same_Some new e same)) ∙ none))
    by false same = same
at-pushed life id (x ∷ es) new e none there is = by (has_id id x) there (at-pushed life id es new e none)
  where
    by : (b : Bool) → cond b (Some x) (entry_at id (es ++ new ∷ [])) ≡ Some e → (entry_at id (es ++ new ∷ []) ≡ Some e → names life e ≡ true → entry_at id es ≡ Some e) → cond b (Some x) (entry_at id es) ≡ Some e
    by true same rest = same
    by false same rest = rest same is

-- ---- what commands leave of an entry

-- what a settle leaves has no unit's mark
settled_none : (life : FailedLife) (commits : Bool) (e : Entry) (mark : Mark) (place : Place) (x : Entry) → option_map (λ m. marked m e) (settled_mark commits mark place) ≡ Some x → names life x ≡ false
settled_none life true e Visible place x left = ap (names life) (sym (same_Some _ x left))
settled_none life false e Visible place x left = ap (names life) (sym (same_Some _ x left))
settled_none life true e (PutBy u) place x left = ap (names life) (sym (same_Some _ x left))
settled_none life false e (PutBy u) (Inline body) x left = absurd (none-some x left)
settled_none life false e (PutBy u) (Offloaded owner blocks count) x left = ap (names life) (sym (same_Some _ x left))
settled_none life true e (GotBy u) (Inline body) x left = absurd (none-some x left)
settled_none life true e (GotBy u) (Offloaded owner blocks count) x left = ap (names life) (sym (same_Some _ x left))
settled_none life false e (GotBy u) place x left = ap (names life) (sym (same_Some _ x left))
settled_none life true e Cleanup place x left = ap (names life) (sym (same_Some _ x left))
settled_none life false e Cleanup place x left = ap (names life) (sym (same_Some _ x left))

pub settle_leaves_none : (life : FailedLife) (commits : Bool) → LeavesNone life (settled_entry commits)
settle_leaves_none life commits e x left = settled_none life commits e e.mark e.place x left

left_none : (life : FailedLife) (left : Option Entry) → ((x : Entry) → left ≡ Some x → names life x ≡ false) → marks_left_by life left ≡ 0
left_none life None none = refl
left_none life (Some x) none = ap one_if (none x refl)

pub nothing_left : (life : FailedLife) (f : Entry → Option Entry) (e : Entry) → LeavesNone life f → marks_left_by life (f e) ≡ 0
nothing_left life f e none = left_none life (f e) (λ x is. none e x is)

-- the mark of a unit is one of the incarnation where the unit is
names_as : (life : FailedLife) (u : UnitName) (mark : Mark) → names_unit u mark ≡ true → names_member life.member life.incarnation mark ≡ is_of life u
names_as life u Visible is = absurd (true≢false (sym is))
names_as life u (PutBy v) is = ap (is_of life) (same_name v u is)
names_as life u (GotBy v) is = ap (is_of life) (same_name v u is)
names_as life u Cleanup is = absurd (true≢false (sym is))

pub names_of_unit : (life : FailedLife) (u : UnitName) (e : Entry) → names_unit u e.mark ≡ true → names life e ≡ is_of life u
names_of_unit life u e is = names_as life u e.mark is

visible_none : (life : FailedLife) (mark : Mark) → is_visible mark ≡ true → names_member life.member life.incarnation mark ≡ false
visible_none life Visible is = refl
visible_none life (PutBy v) is = absurd (true≢false (sym is))
visible_none life (GotBy v) is = absurd (true≢false (sym is))
visible_none life Cleanup is = absurd (true≢false (sym is))

pub names_no_visible : (life : FailedLife) (e : Entry) → is_visible e.mark ≡ true → names life e ≡ false
names_no_visible life e is = visible_none life e.mark is
