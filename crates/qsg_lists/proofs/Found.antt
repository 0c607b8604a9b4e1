-- what look-ups find, and what changes leave under each id
use Rattle.std.proofs.Common.{◌≡◌, ◌≢◌, ◌<◌, ◌≤◌, Bool, true, false, cond, List, [], ◌∷◌, ◌++◌, Option, Some, None, refl, sym, ap, ◌∙◌, subst, arith, inl, inr}
use Rattle.std.specs.Prelude.{IfSome, find, option_and_then}
use Rattle.std.specs.List.{AllByRecursion, cons_option}
use Rattle.std.proofs.lemmas.Bool.{cases_eq, cases_Bool}
use Rattle.qsg_num.specs.declared.ids.EntryId.{EntryId}
use Rattle.qsg_lists.specs.declared.parts.Entry.{Entry}
use Rattle.qsg_lists.specs.Entries.{AreInOrder, KeepsId, entry_at, revise}
use Rattle.qsg_lists.proofs.Lookups.{same_id, revise-head, revise-tail, entry_at-head, entry_at-tail}

number_of_id : (a b : EntryId) → a ≡ b → a.number ≡ b.number
number_of_id a b e = λ i. (e i).number

differ_by_number : (a b : EntryId) → a ≢ b → a.number ≢ b.number
differ_by_number a b differ same = differ (same_id a b same)

pub entry_at-append : (es : List Entry) (e : Entry) → entry_at e.id es ≡ None → entry_at e.id (es ++ e ∷ []) ≡ Some e
entry_at-append [] e none = entry_at-head e.id e [] refl
entry_at-append (x ∷ es) e none =
    elim (cases_eq x.id.number e.id.number) [
      | inl same ↦ let h = entry_at-head e.id x es same in absurd cc
      | inr differ ↦ entry_at-tail e.id x (es ++ e ∷ []) differ ∙ entry_at-append es e (sym (entry_at-tail e.id x es differ) ∙ none)
    ]

entry_at-append_number : (id : EntryId) (es : List Entry) (e : Entry) → e.id.number ≢ id.number → entry_at id (es ++ e ∷ []) ≡ entry_at id es
entry_at-append_number id [] e differ = entry_at-tail id e [] differ
entry_at-append_number id (x ∷ es) e differ =
    elim (cases_eq x.id.number id.number) [
      | inl same ↦ entry_at-head id x (es ++ e ∷ []) same ∙ sym (entry_at-head id x es same)
      | inr other ↦ entry_at-tail id x (es ++ e ∷ []) other ∙ entry_at-append_number id es e differ ∙ sym (entry_at-tail id x es other)
    ]

pub entry_at-append_other : (id : EntryId) (es : List Entry) (e : Entry) → id ≢ e.id → entry_at id (es ++ e ∷ []) ≡ entry_at id es
entry_at-append_other id es e differ = entry_at-append_number id es e (λ same. differ (same_id id e.id (sym same)))

pub entry_at-above : (last id : EntryId) (es : List Entry) → AllByRecursion (λ (x : Entry). x.id.number ≤ last.number) es → last.number < id.number → entry_at id es ≡ None
entry_at-above last id [] all above = refl
entry_at-above last id (x ∷ es) all above =
    let differ : x.id.number ≢ id.number = omega (arith, all.0) in
    entry_at-tail id x es differ ∙ entry_at-above last id es all.1 above

entry_at-below : (id : EntryId) (es : List Entry) → AllByRecursion (λ (x : Entry). id.number < x.id.number) es → entry_at id es ≡ None
entry_at-below id [] all = refl
entry_at-below id (x ∷ es) all =
    let differ : x.id.number ≢ id.number = omega (arith, all.0) in
    entry_at-tail id x es differ ∙ entry_at-below id es all.1

entry_at-cons_option : (id : EntryId) (o : Option Entry) (e : Entry) (es : List Entry) → e.id ≡ id → IfSome o (λ y. y.id ≡ e.id) → entry_at id es ≡ None → entry_at id (cons_option o es) ≡ o
entry_at-cons_option id None e es is keeps none = none
entry_at-cons_option id (Some y) e es is keeps none = entry_at-head id y es (number_of_id y.id id (keeps ∙ is))

entry_at-cons_option_other : (other : EntryId) (o : Option Entry) (e : Entry) (es : List Entry) → e.id.number ≢ other.number → IfSome o (λ y. y.id ≡ e.id) → entry_at other (cons_option o es) ≡ entry_at other es
entry_at-cons_option_other other None e es differ keeps = refl
entry_at-cons_option_other other (Some y) e es differ keeps = entry_at-tail other y es (λ same. differ (sym (number_of_id y.id e.id keeps) ∙ same))

pub entry_at-revise : (id : EntryId) (f : Entry → Option Entry) (es : List Entry) → KeepsId f → AreInOrder es → entry_at id (revise id f es) ≡ option_and_then f (entry_at id es)
entry_at-revise id f [] keeps ordered = refl
entry_at-revise id f (x ∷ es) keeps ordered =
    elim (cases_eq x.id.number id.number) [
      | inl same ↦
          let is = same_id x.id id same in
          rw (revise-head id f x es same, entry_at-head id x es same) (entry_at-cons_option id (f x) x es is (keeps x) (entry_at-below id es (subst (λ (n : EntryId). AllByRecursion (λ (y : Entry). n.number < y.id.number) es) is ordered.0)))
      | inr differ ↦ rw (revise-tail id f x es differ, entry_at-tail id x (revise id f es) differ, entry_at-tail id x es differ) (entry_at-revise id f es keeps ordered.1)
    ]

pub entry_at-revise_other : (id other : EntryId) (f : Entry → Option Entry) (es : List Entry) → KeepsId f → other ≢ id → entry_at other (revise id f es) ≡ entry_at other es
entry_at-revise_other id other f [] keeps differ = refl
entry_at-revise_other id other f (x ∷ es) keeps differ =
    elim (cases_eq x.id.number id.number) [
      | inl same ↦
          let there : x.id.number ≢ other.number = λ e. differ (same_id other id (sym e ∙ same)) in
          rw (revise-head id f x es same, entry_at-tail other x es there) (entry_at-cons_option_other other (f x) x es there (keeps x))
      | inr isnt_it ↦ rw (revise-tail id f x es isnt_it)
          (elim (cases_eq x.id.number other.number) [
            | inl is ↦ entry_at-head other x (revise id f es) is ∙ sym (entry_at-head other x es is)
            | inr isnt ↦ entry_at-tail other x (revise id f es) isnt ∙ entry_at-revise_other id other f es keeps differ ∙ sym (entry_at-tail other x es isnt)
          ])
    ]

pub entry_at-id : (id : EntryId) (es : List Entry) (e : Entry) → entry_at id es ≡ Some e → e.id ≡ id
entry_at-id id [] e there = absurd cc
entry_at-id id (x ∷ es) e there =
    elim (cases_eq x.id.number id.number) [
      | inl same ↦ let h = entry_at-head id x es same in let is : x ≡ e = cc in same_id e.id id (sym (ap (λ y. y.id.number) is) ∙ same)
      | inr differ ↦ entry_at-id id es e (sym (entry_at-tail id x es differ) ∙ there)
    ]

-- any test
find-head : (p : Entry → Bool) (x : Entry) (es : List Entry) → p x ≡ true → find p (x ∷ es) ≡ Some x
find-head p x es holds = ap (λ b. cond b (Some x) (find p es)) holds

find-tail : (p : Entry → Bool) (x : Entry) (es : List Entry) → p x ≡ false → find p (x ∷ es) ≡ find p es
find-tail p x es fails = ap (λ b. cond b (Some x) (find p es)) fails

pub find-passes : (p : Entry → Bool) (es : List Entry) (e : Entry) → find p es ≡ Some e → p e ≡ true
find-passes p [] e found = absurd cc
find-passes p (x ∷ es) e found =
    elim (cases_Bool (p x)) [
      | inl holds ↦ let h = find-head p x es holds in let is : x ≡ e = cc in subst (λ y. p y ≡ true) is holds
      | inr fails ↦ find-passes p es e (sym (find-tail p x es fails) ∙ found)
    ]

-- a fact of all entries is one of what is found
pub all-find : (P : Entry → Type 0) (p : Entry → Bool) (es : List Entry) (e : Entry) → AllByRecursion P es → find p es ≡ Some e → P e
all-find P p [] e all found = absurd cc
all-find P p (x ∷ es) e all found =
    elim (cases_Bool (p x)) [
      | inl holds ↦ let h = find-head p x es holds in let is : x ≡ e = cc in subst P is all.0
      | inr fails ↦ all-find P p es e all.1 (sym (find-tail p x es fails) ∙ found)
    ]

pub find-entry_at : (p : Entry → Bool) (es : List Entry) (e : Entry) → AreInOrder es → find p es ≡ Some e → entry_at e.id es ≡ Some e
find-entry_at p [] e ordered found = absurd cc
find-entry_at p (x ∷ es) e ordered found =
    elim (cases_Bool (p x)) [
      | inl holds ↦ let h = find-head p x es holds in let is : x ≡ e = cc in entry_at-head e.id x es (ap (λ y. y.id.number) is) ∙ ap (λ y. Some y) is
      | inr fails ↦
          let later = sym (find-tail p x es fails) ∙ found in
          let below = all-find (λ y. x.id.number < y.id.number) p es e ordered.0 later in
          let differ : x.id.number ≢ e.id.number = omega (arith, below) in
          entry_at-tail e.id x es differ ∙ find-entry_at p es e ordered.1 later
    ]

pub find-none : (p : Entry → Bool) (es : List Entry) → find p es ≡ None → AllByRecursion (λ (x : Entry). p x ≡ false) es
find-none p [] none = tt
find-none p (x ∷ es) none =
    elim (cases_Bool (p x)) [
      | inl holds ↦ let h = find-head p x es holds in absurd cc
      | inr fails ↦ (fails, find-none p es (sym (find-tail p x es fails) ∙ none))
    ]

pub find-least : (p : Entry → Bool) (es : List Entry) (e x : Entry) (id : EntryId) → AreInOrder es → find p es ≡ Some e → entry_at id es ≡ Some x → p x ≡ true → e.id.number ≤ x.id.number
find-least p [] e x id ordered found there passes = absurd cc
find-least p (y ∷ es) e x id ordered found there passes =
    elim (cases_Bool (p y)) [
      | inl holds ↦
          let h = find-head p y es holds in
          let is : y ≡ e = cc in
          let number : y.id.number ≡ e.id.number = ap (λ z. z.id.number) is in
          elim (cases_eq y.id.number id.number) [
            | inl same ↦ let g = entry_at-head id y es same in let same_entry : y ≡ x = cc in let n : y.id.number ≡ x.id.number = ap (λ z. z.id.number) same_entry in omega (arith, number, n)
            | inr differ ↦ let above = all-find (λ z. y.id.number < z.id.number) _ es x ordered.0 (sym (entry_at-tail id y es differ) ∙ there) in omega (arith, number, above)
          ]
      | inr fails ↦
          elim (cases_eq y.id.number id.number) [
            | inl same ↦ let g = entry_at-head id y es same in let same_entry : y ≡ x = cc in let holds = subst (λ z. p z ≡ false) same_entry fails in absurd cc
            | inr differ ↦ find-least p es e x id ordered.1 (sym (find-tail p y es fails) ∙ found) (sym (entry_at-tail id y es differ) ∙ there) passes
          ]
    ]

pub find-none_at : (p : Entry → Bool) (es : List Entry) (x : Entry) (id : EntryId) → find p es ≡ None → entry_at id es ≡ Some x → p x ≡ false
find-none_at p es x id none there = all-find (λ y. p y ≡ false) _ es x (find-none p es none) there
