-- marks of an incarnation above an id, in a list of entries
use Rattle.std.proofs.Common.{◌≡◌, inl, inr, ℕ, ◌+◌, ◌≤◌, Bool, true, false, cond, List, [], ◌∷◌, ◌++◌, Option, Some, None, refl, sym, ap, subst, ◌∙◌, true≢false, arith}
use Rattle.std.specs.Prelude.{◌&&◌, nat_lt, find, count_by, sum_by}
use Rattle.std.specs.List.{cons_option}
use Rattle.std.specs.Option.{option_and_then}
use Rattle.std.proofs.lemmas.Bool.{cases_Bool}
use Rattle.std.proofs.lemmas.Bool.Decides.{nat_tests}
use Rattle.std.proofs.lemmas.List.Sums.{sum_by-cons, sum_by_push, sum_by-le-sum_by}
use Rattle.std.proofs.lemmas.Option.{none-some, same_Some}
use Rattle.qsg_num.specs.declared.ids.EntryId.{EntryId}
use Rattle.qsg_lists.specs.declared.parts.Entry.{Entry}
use Rattle.qsg_lists.specs.Entries.{has_id, revise, is_above, is_marked_above}
use Rattle.qsg_lists.specs.Marks.{names_member}
use Rattle.qsg_lists.specs.Structures.{ListStructure}
use Rattle.qsg_lists.proofs.Found.{find-passes}
use Rattle.qsg_manager.specs.declared.structures.MarkedEntry.{MarkedEntry}
use Rattle.qsg_manager.specs.Facilities.{no_structure, structure_in}
use Rattle.qsg_manager.specs.Marked.{marked_entry, marked_above, marks_in}
use Rattle.qsg_num.specs.declared.seats.StructNo.TheVariants as structure
use Rattle.qsg_peer.specs.declared.phases.FailedLife.{FailedLife}
use Rattle.qsg_peer.specs.Pace.{marks_above}
use Rattle.qsg_peer.proofs.SweepingLists.{marked_so}

abbrev names : FailedLife → Entry → Bool
names life e = names_member life.member life.incarnation e.mark

abbrev passes : FailedLife → EntryId → Entry → Bool
passes life id e = is_marked_above life.member life.incarnation id e

abbrev one_if : Bool → ℕ
one_if b = cond b 1 0

-- ---- tests that pass for fewer

one_fewer : (x y : Bool) → (x ≡ true → y ≡ true) → one_if x ≤ one_if y
one_fewer true true more = omega arith
one_fewer true false more = absurd (true≢false (sym (more refl)))
one_fewer false y more = omega arith

fewer : (q p : Entry → Bool) (es : List Entry) → ((e : Entry) → q e ≡ true → p e ≡ true) → count_by q es ≤ count_by p es
fewer q p es more = sum_by-le-sum_by (λ (e : Entry). cond (q e) 1 0) (λ (e : Entry). cond (p e) 1 0) es (λ e. one_fewer (q e) (p e) (more e))

count-cons : (p : Entry → Bool) (e : Entry) (es : List Entry) → count_by p (e ∷ es) ≡ one_if (p e) + count_by p es
count-cons p e es = sum_by-cons (λ (x : Entry). cond (p x) 1 0) e es

-- the first one that passes doesn't any more
first_less : (q p : Entry → Bool) (es : List Entry) (e : Entry) → ((x : Entry) → q x ≡ true → p x ≡ true) → find p es ≡ Some e → q e ≡ false → count_by q es + 1 ≤ count_by p es
first_less q p [] e more is not = absurd (none-some e is)
first_less q p (x ∷ es) e more is not = by (p x) refl is (first_less q p es e more)
  where
    fails_too : p x ≡ false → q x ≡ false
    fails_too fails = elim (cases_Bool (q x)) [ inl holds ↦ absurd (true≢false (sym (more x holds) ∙ fails)) | inr is ↦ is ]

    by : (b : Bool) → p x ≡ b → cond b (Some x) (find p es) ≡ Some e → (find p es ≡ Some e → q e ≡ false → count_by q es + 1 ≤ count_by p es) → count_by q (x ∷ es) + 1 ≤ count_by p (x ∷ es)
    by true holds same rest = omega (arith, count-cons p x es, count-cons q x es, ap one_if holds, ap one_if (ap q (same_Some x e same) ∙ not), fewer q p es more)
    by false fails same rest = omega (arith, count-cons p x es, count-cons q x es, ap one_if fails, ap one_if (fails_too fails), rest same not)

-- ---- marks above an id

higher : (low high n : ℕ) (is : Bool) → low ≤ high → (nat_lt high n && is) ≡ true → (nat_lt low n && is) ≡ true
higher low high n is less holds = grind (arith, nat_tests)

both : (a b : Bool) → (a && b) ≡ true → (a ≡ true) × (b ≡ true)
both true b is = (refl, is)
both false b is = absurd (true≢false (sym is))

pub above_fewer : (life : FailedLife) (low high : EntryId) (es : List Entry) → low.number ≤ high.number → marks_above life high es ≤ marks_above life low es
above_fewer life low high es less = fewer (passes life high) (passes life low) es (λ e. higher low.number high.number e.id.number (names life e) less)

pub above-le-all : (life : FailedLife) (id : EntryId) (es : List Entry) → marks_above life id es ≤ marks_in life.member life.incarnation es
above-le-all life id es = fewer (passes life id) (names life) es (λ e is. (both (is_above id e) (names life e) is).1)

lower : (a b : ℕ) (is : Bool) → (nat_lt a b && is) ≡ true → a ≤ b
lower a b is holds = grind (arith, nat_tests)

not_itself : (a : ℕ) (is : Bool) → (nat_lt a a && is) ≡ false
not_itself a is = grind (arith, nat_tests)

-- above a mark that is found there is one fewer
pub found_less : (life : FailedLife) (after : EntryId) (es : List Entry) (found : MarkedEntry) → marked_above life.member life.incarnation after es ≡ Some found → marks_above life found.id es + 1 ≤ marks_above life after es
found_less life after es found is = by (find (passes life after) es) refl is
  where
    by : (first : Option Entry) → find (passes life after) es ≡ first → option_and_then marked_entry first ≡ Some found → marks_above life found.id es + 1 ≤ marks_above life after es
    by None at same = absurd (none-some found same)
    by (Some e) at same =
        let id : found.id ≡ e.id = (marked_so e.id e.mark found same).1 in
        let over = lower after.number e.id.number (names life e) (find-passes (passes life after) es e at) in
        subst (λ (i : EntryId). marks_above life i es + 1 ≤ marks_above life after es) (sym id)
        (first_less (passes life e.id) (passes life after) es e (λ x. higher after.number e.id.number x.id.number (names life x) over) at (not_itself e.id.number (names life e)))

-- ---- entries that change

not_named : (a b : Bool) → b ≡ false → (a && b) ≡ false
not_named true b is = is
not_named false b is = refl

pub above_added : (life : FailedLife) (id : EntryId) (es : List Entry) (e : Entry) → names life e ≡ false → marks_above life id (es ++ e ∷ []) ≡ marks_above life id es
above_added life id es e is = omega (arith, sum_by_push (λ (x : Entry). cond (passes life id x) 1 0) es e, ap one_if (not_named (is_above id e) (names life e) is))

pub above_revised : (life : FailedLife) (id other : EntryId) (f : Entry → Option Entry) (es : List Entry) → ((e x : Entry) → f e ≡ Some x → names life x ≡ false) → marks_above life id (revise other f es) ≤ marks_above life id es
above_revised life id other f [] none = omega arith
above_revised life id other f (x ∷ es) none = by (has_id other x) (above_revised life id other f es none)
  where
    one : (left : Option Entry) → f x ≡ left → marks_above life id (cons_option left es) ≤ marks_above life id (x ∷ es)
    one None is = omega (arith, count-cons (passes life id) x es)
    one (Some y) is = omega (arith, count-cons (passes life id) x es, count-cons (passes life id) y es, ap one_if (not_named (is_above id y) (names life y) (none x y is)))

    by : (b : Bool) → marks_above life id (revise other f es) ≤ marks_above life id es → marks_above life id (cond b (cons_option (f x) es) (x ∷ revise other f es)) ≤ marks_above life id (x ∷ es)
    by true rest = one (f x) refl
    by false rest = omega (arith, count-cons (passes life id) x es, count-cons (passes life id) x (revise other f es), rest)

-- ---- four structures of a list

pub four_within : (f : ListStructure → ℕ) (ls : List ListStructure) → f no_structure ≡ 0
    → f (structure_in structure.One ls) + (f (structure_in structure.Two ls) + (f (structure_in structure.Three ls) + f (structure_in structure.Four ls))) ≤ sum_by f ls
four_within f [] none = omega (arith, none)
four_within f (a ∷ []) none = omega (arith, none, sum_by-cons f a [])
four_within f (a ∷ b ∷ []) none = omega (arith, none, sum_by-cons f a (b ∷ []), sum_by-cons f b [])
four_within f (a ∷ b ∷ c ∷ []) none = omega (arith, none, sum_by-cons f a (b ∷ c ∷ []), sum_by-cons f b (c ∷ []), sum_by-cons f c [])
four_within f (a ∷ b ∷ c ∷ d ∷ ls) none = omega (arith, sum_by-cons f a (b ∷ c ∷ d ∷ ls), sum_by-cons f b (c ∷ d ∷ ls), sum_by-cons f c (d ∷ ls), sum_by-cons f d ls)
