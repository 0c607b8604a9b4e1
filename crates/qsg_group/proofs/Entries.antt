-- what each change of a list of entries leaves under an id
use Rattle.std.proofs.Common.{◌≡◌, ℕ, ◌<◌, ◌≤◌, cond, List, [], ◌∷◌, ◌++◌, Option, Some, None, refl, sym, ap, subst, ◌∙◌, arith, inl, inr}
use Rattle.std.specs.Prelude.{◌⊎◌}
use Rattle.std.specs.List.{AllByRecursion, cons_option}
use Rattle.std.specs.Option.{option_and_then}
use Rattle.std.proofs.lemmas.Bool.{cases_eq, eq-eqb, ne_eqb}
use Rattle.std.proofs.lemmas.Option.{same_Some, none-some}
use Rattle.qsg_group.specs.Group.{Held}
use Rattle.qsg_group.specs.Observers.{has_id, entry_at, revise}
use Rattle.qsg_group.specs.Laws.{AreRising}

abbrev pub num : Held → ℕ
num e = e.message.id.number

-- a change that keeps the id
abbrev pub KeepsId : (Held → Option Held) → Type 0
KeepsId f = (e x : Held) → f e ≡ Some x → num x ≡ num e

pub entry-head : (id : ℕ) (e : Held) (es : List Held) → num e ≡ id → entry_at id (e ∷ es) ≡ Some e
entry-head id e es same = ap (λ b. cond b (Some e) (entry_at id es)) (eq-eqb (num e) id same)

pub entry-tail : (id : ℕ) (e : Held) (es : List Held) → (num e ≡ id → ⊥) → entry_at id (e ∷ es) ≡ entry_at id es
entry-tail id e es differ = ap (λ b. cond b (Some e) (entry_at id es)) (ne_eqb (num e) id differ)

pub revise-head : (id : ℕ) (f : Held → Option Held) (e : Held) (es : List Held) → num e ≡ id → revise id f (e ∷ es) ≡ cons_option (f e) es
revise-head id f e es same = ap (λ b. cond b (cons_option (f e) es) (e ∷ revise id f es)) (eq-eqb (num e) id same)

pub revise-tail : (id : ℕ) (f : Held → Option Held) (e : Held) (es : List Held) → (num e ≡ id → ⊥) → revise id f (e ∷ es) ≡ e ∷ revise id f es
revise-tail id f e es differ = ap (λ b. cond b (cons_option (f e) es) (e ∷ revise id f es)) (ne_eqb (num e) id differ)

pub entry_at-id : (id : ℕ) (es : List Held) (e : Held) → entry_at id es ≡ Some e → num e ≡ id
entry_at-id id [] e there = absurd cc
entry_at-id id (x ∷ es) e there = elim (cases_eq (num x) id) [
  | inl same ↦ ap num (same_Some e x (sym there ∙ entry-head id x es same)) ∙ same
  | inr differ ↦ entry_at-id id es e (sym (entry-tail id x es differ) ∙ there)
]

-- ---- order

pub below_none : (id : ℕ) (es : List Held) → AllByRecursion (λ x. id < num x) es → entry_at id es ≡ None
below_none id [] all = refl
below_none id (x ∷ es) all = entry-tail id x es (λ e. absurd (omega (arith, e, all.0))) ∙ below_none id es all.1

pub above_none : (top id : ℕ) (es : List Held) → AreRising top es → top < id → entry_at id es ≡ None
above_none top id [] rising above = refl
above_none top id (x ∷ es) rising above = entry-tail id x es (λ e. absurd (omega (arith, e, rising.0))) ∙ above_none top id es rising.2 above

pub all_push : (P : Held → Type 0) (es : List Held) (e : Held) → AllByRecursion P es → P e → AllByRecursion P (es ++ e ∷ [])
all_push P [] e all one = (one, tt)
all_push P (x ∷ es) e all one = (all.0, all_push P es e all.1 one)

pub rising_push : (top new : ℕ) (es : List Held) (e : Held) → AreRising top es → top < num e → num e ≤ new → AreRising new (es ++ e ∷ [])
rising_push top new [] e rising above within = (within, tt, tt)
rising_push top new (x ∷ es) e rising above within = (
  omega (arith, rising.0),
  all_push (λ y. num x < num y) es e rising.1 (omega (arith, rising.0)),
  rising_push top new es e rising.2 above within,
)

-- what f makes of one entry, and what holds of all
pub all_cons_option : (P : Held → Type 0) (o : Option Held) (es : List Held) → ((x : Held) → o ≡ Some x → P x) → AllByRecursion P es → AllByRecursion P (cons_option o es)
all_cons_option P None es one all = all
all_cons_option P (Some x) es one all = (one x refl, all)

pub all_revise : (P : Held → Type 0) (id : ℕ) (f : Held → Option Held) (es : List Held) → ((e x : Held) → P e → f e ≡ Some x → P x) → AllByRecursion P es → AllByRecursion P (revise id f es)
all_revise P id f [] step all = tt
all_revise P id f (x ∷ es) step all = elim (cases_eq (num x) id) [
  | inl same ↦ subst (AllByRecursion P) (sym (revise-head id f x es same)) (all_cons_option P (f x) es (λ y e. step x y all.0 e) all.1)
  | inr differ ↦ subst (AllByRecursion P) (sym (revise-tail id f x es differ)) (all.0, all_revise P id f es step all.1)
]

rising_cons_option : (top : ℕ) (o : Option Held) (x : Held) (es : List Held) → ((y : Held) → o ≡ Some y → num y ≡ num x) → AreRising top (x ∷ es) → AreRising top (cons_option o es)
rising_cons_option top None x es keeps rising = rising.2
rising_cons_option top (Some y) x es keeps rising = (
  subst (λ n. n ≤ top) (sym (keeps y refl)) rising.0,
  subst (λ n. AllByRecursion (λ z. n < num z) es) (sym (keeps y refl)) rising.1,
  rising.2,
)

pub rising_revise : (top id : ℕ) (f : Held → Option Held) (es : List Held) → KeepsId f → AreRising top es → AreRising top (revise id f es)
rising_revise top id f [] keeps rising = tt
rising_revise top id f (x ∷ es) keeps rising = elim (cases_eq (num x) id) [
  | inl same ↦ subst (AreRising top) (sym (revise-head id f x es same)) (rising_cons_option top (f x) x es (λ y e. keeps x y e) rising)
  | inr differ ↦ subst (AreRising top) (sym (revise-tail id f x es differ)) (
    rising.0,
    all_revise (λ z. num x < num z) id f es (λ e y lt is. subst (λ n. num x < n) (sym (keeps e y is)) lt) rising.1,
    rising_revise top id f es keeps rising.2,
  )
]

-- ---- look-ups

pub push_other : (id : ℕ) (es : List Held) (e : Held) → (num e ≡ id → ⊥) → entry_at id (es ++ e ∷ []) ≡ entry_at id es
push_other id [] e differ = entry-tail id e [] differ
push_other id (x ∷ es) e differ = ap (λ o. cond (has_id id x) (Some x) o) (push_other id es e differ)

pub push_same : (es : List Held) (e : Held) → entry_at (num e) es ≡ None → entry_at (num e) (es ++ e ∷ []) ≡ Some e
push_same [] e none = entry-head (num e) e [] refl
push_same (x ∷ es) e none = elim (cases_eq (num x) (num e)) [
  | inl same ↦ absurd (none-some x (sym none ∙ entry-head (num e) x es same))
  | inr differ ↦ entry-tail (num e) x (es ++ e ∷ []) differ ∙ push_same es e (sym (entry-tail (num e) x es differ) ∙ none)
]

pub push_kept : (id : ℕ) (es : List Held) (e x : Held) → entry_at id es ≡ Some x → entry_at id (es ++ e ∷ []) ≡ Some x
push_kept id [] e x there = absurd cc
push_kept id (y ∷ es) e x there = elim (cases_eq (num y) id) [
  | inl same ↦ entry-head id y (es ++ e ∷ []) same ∙ sym (entry-head id y es same) ∙ there
  | inr differ ↦ entry-tail id y (es ++ e ∷ []) differ ∙ push_kept id es e x (sym (entry-tail id y es differ) ∙ there)
]

pub push_cases : (id : ℕ) (es : List Held) (e x : Held) → entry_at (num e) es ≡ None → entry_at id (es ++ e ∷ []) ≡ Some x → ((num e ≡ id) × (x ≡ e)) ⊎ (entry_at id es ≡ Some x)
push_cases id es e x none there = elim (cases_eq (num e) id) [
  | inl same ↦ inl (same, same_Some x e (sym (subst (λ n. entry_at n (es ++ e ∷ []) ≡ Some x) (sym same) there) ∙ push_same es e none))
  | inr differ ↦ inr (sym (push_other id es e differ) ∙ there)
]

at_cons_option : (id : ℕ) (o : Option Held) (es : List Held) → ((x : Held) → o ≡ Some x → num x ≡ id) → entry_at id es ≡ None → entry_at id (cons_option o es) ≡ o
at_cons_option id None es keeps none = none
at_cons_option id (Some x) es keeps none = entry-head id x es (keeps x refl)

at_cons_option_other : (id : ℕ) (o : Option Held) (es : List Held) → ((x : Held) → o ≡ Some x → num x ≡ id → ⊥) → entry_at id (cons_option o es) ≡ entry_at id es
at_cons_option_other id None es keeps = refl
at_cons_option_other id (Some x) es keeps = entry-tail id x es (keeps x refl)

pub revise_same : (top id : ℕ) (f : Held → Option Held) (es : List Held) → KeepsId f → AreRising top es → entry_at id (revise id f es) ≡ option_and_then f (entry_at id es)
revise_same top id f [] keeps rising = refl
revise_same top id f (x ∷ es) keeps rising = elim (cases_eq (num x) id) [
  | inl same ↦
      ap (entry_at id) (revise-head id f x es same)
      ∙ at_cons_option id (f x) es (λ y e. keeps x y e ∙ same) (below_none id es (subst (λ n. AllByRecursion (λ y. n < num y) es) same rising.1))
      ∙ sym (ap (option_and_then f) (entry-head id x es same))
  | inr differ ↦
      ap (entry_at id) (revise-tail id f x es differ) ∙ entry-tail id x (revise id f es) differ
      ∙ revise_same top id f es keeps rising.2 ∙ sym (ap (option_and_then f) (entry-tail id x es differ))
]

pub revise_other : (id other : ℕ) (f : Held → Option Held) (es : List Held) → KeepsId f → (id ≡ other → ⊥) → entry_at other (revise id f es) ≡ entry_at other es
revise_other id other f [] keeps differ = refl
revise_other id other f (x ∷ es) keeps differ = elim (cases_eq (num x) id) [
  | inl same ↦
      let apart : num x ≡ other → ⊥ = λ e. differ (sym same ∙ e) in
      ap (entry_at other) (revise-head id f x es same) ∙ at_cons_option_other other (f x) es (λ y e is. apart (sym (keeps x y e) ∙ is)) ∙ sym (entry-tail other x es apart)
  | inr not_here ↦
      ap (entry_at other) (revise-tail id f x es not_here) ∙ ap (λ o. cond (has_id other x) (Some x) o) (revise_other id other f es keeps differ)
]

and_then_some : (f : Held → Option Held) (o : Option Held) (x : Held) → option_and_then f o ≡ Some x → (e : Held) × (o ≡ Some e) × (f e ≡ Some x)
and_then_some f None x is = absurd cc
and_then_some f (Some e) x is = (e, refl, is)

pub revise_cases : (top id j : ℕ) (f : Held → Option Held) (es : List Held) (x : Held) → KeepsId f → AreRising top es → entry_at j (revise id f es) ≡ Some x
    → ((id ≡ j) × (e : Held) × (entry_at id es ≡ Some e) × (f e ≡ Some x)) ⊎ ((id ≡ j → ⊥) × (entry_at j es ≡ Some x))
revise_cases top id j f es x keeps rising there = elim (cases_eq id j) [
  | inl same ↦
      let found = and_then_some f (entry_at id es) x (sym (revise_same top id f es keeps rising) ∙ subst (λ n. entry_at n (revise id f es) ≡ Some x) (sym same) there) in
      inl (same, found.0, found.1, found.2)
  | inr differ ↦ inr (differ, sym (revise_other id j f es keeps differ) ∙ there)
]

-- what is there after an entry went was there before
pub forget_before : (top id j : ℕ) (es : List Held) (x : Held) → AreRising top es → entry_at j (revise id (λ e. None) es) ≡ Some x → entry_at j es ≡ Some x
forget_before top id j es x rising there = elim (revise_cases top id j (λ e. None) es x (λ e y is. absurd cc) rising there) [
  | inl here ↦ absurd (none-some x here.3)
  | inr other ↦ other.1
]

-- an entry that f leaves as it is stays
pub revise_stays : (top id j : ℕ) (f : Held → Option Held) (es : List Held) (x : Held) → KeepsId f → AreRising top es → (entry_at id es ≡ Some x → f x ≡ Some x) → entry_at j es ≡ Some x → entry_at j (revise id f es) ≡ Some x
revise_stays top id j f es x keeps rising same there = elim (cases_eq id j) [
  | inl here ↦
      let at : entry_at id es ≡ Some x = subst (λ n. entry_at n es ≡ Some x) (sym here) there in
      subst (λ n. entry_at n (revise id f es) ≡ Some x) here (revise_same top id f es keeps rising ∙ ap (option_and_then f) at ∙ same at)
  | inr differ ↦ revise_other id j f es keeps differ ∙ there
]
