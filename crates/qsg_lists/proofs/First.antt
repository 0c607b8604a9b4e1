-- the entry that a get is given is there wherever one waits
use Rattle.std.proofs.Common.{◌≡◌, ℕ, Bool, true, false, not, ◌&&◌, List, [], ◌∷◌, Some, None, refl, arith, inl, inr}
use Rattle.std.specs.Prelude.{nat_lt, ◌==◌, ◌||◌, ◌⊎◌}
use Rattle.std.specs.List.{AllByRecursion, list_all}
use Rattle.std.proofs.lemmas.Bool.{cases_Bool}
use Rattle.std.proofs.lemmas.Bool.Decides.{nat_tests}
use Rattle.qsg_num.specs.declared.ids.EntryId.{EntryId}
use Rattle.qsg_num.specs.declared.words.Delivery.{Delivery}
use Rattle.qsg_lists.specs.declared.parts.Entry.{Entry}
use Rattle.qsg_lists.specs.declared.parts.Selector.{Selector}
use Rattle.qsg_lists.specs.Entries.{waits_for, turn_of, is_ahead, is_first, first_of, entry_at}
use Rattle.qsg_lists.proofs.Found.{find-passes, find-none, all-find}

and_true : (a b : Bool) → (a && b) ≡ true → (a ≡ true) × (b ≡ true)
and_true true b e = (refl, e)
and_true false b e = absurd cc

and_made : (a b : Bool) → a ≡ true → b ≡ true → (a && b) ≡ true
and_made true b p q = q
and_made false b p q = absurd cc

not_and : (a b : Bool) → not (a && b) ≡ true → a ≡ true → b ≡ false
not_and true true e p = absurd cc
not_and true false e p = refl
not_and false b e p = absurd cc

not_and_made : (a b : Bool) → (a ≡ true → b ≡ false) → not (a && b) ≡ true
not_and_made true true f = let h = f refl in absurd cc
not_and_made true false f = refl
not_and_made false b f = refl

list_all-all : (p : Entry → Bool) (es : List Entry) → list_all p es ≡ true → AllByRecursion (λ (x : Entry). p x ≡ true) es
list_all-all p [] e = tt
list_all-all p (x ∷ es) e = let h = and_true (p x) (list_all p es) e in (h.0, list_all-all p es h.1)

all-list_all : (p : Entry → Bool) (es : List Entry) → AllByRecursion (λ (x : Entry). p x ≡ true) es → list_all p es ≡ true
all-list_all p [] all = refl
all-list_all p (x ∷ es) all = and_made (p x) (list_all p es) all.0 (all-list_all p es all.1)

false_true : (b : Bool) → b ≡ false → b ≡ true → ⊥
false_true b fails holds = cc

-- the order of delivery, on turns and ids
abbrev ahead : ℕ → ℕ → ℕ → ℕ → Bool
ahead ta ia tb ib = nat_lt ta tb || ((ta == tb) && nat_lt ia ib)

ahead-self : (t i : ℕ) → ahead t i t i ≡ false
ahead-self t i = grind (arith, nat_tests)

ahead-turned : (ta ia tb ib : ℕ) → ahead ta ia tb ib ≡ true → ahead tb ib ta ia ≡ false
ahead-turned ta ia tb ib h = grind (arith, nat_tests)

ahead-step : (tm im te ie tx ix : ℕ) → ahead tm im te ie ≡ false → ahead tx ix tm im ≡ false → ahead tx ix te ie ≡ false
ahead-step tm im te ie tx ix behind before = grind (arith, nat_tests)

module _ (queue : List ℕ) (order : Delivery) (select : Selector) where
  -- one that waits isn't ahead
  abbrev NotAhead : Entry → Entry → Type 0
  NotAhead m x = waits_for queue select x ≡ true → is_ahead order x m ≡ false

  pub first-waits : (es : List Entry) (e : Entry) → first_of queue order select es ≡ Some e → waits_for queue select e ≡ true
  first-waits es e found = (and_true (waits_for queue select e) _ (find-passes (is_first queue order select es) es e found)).0

  first-none_ahead : (es : List Entry) (e : Entry) → first_of queue order select es ≡ Some e → AllByRecursion (λ (x : Entry). not (waits_for queue select x && is_ahead order x e) ≡ true) es
  first-none_ahead es e found = list_all-all _ es (and_true (waits_for queue select e) _ (find-passes (is_first queue order select es) es e found)).1

  pub first-least : (es : List Entry) (e x : Entry) (id : EntryId) → first_of queue order select es ≡ Some e → entry_at id es ≡ Some x → waits_for queue select x ≡ true → is_ahead order x e ≡ false
  first-least es e x id found there waits = not_and (waits_for queue select x) (is_ahead order x e) (all-find (λ y. not (waits_for queue select y && is_ahead order y e) ≡ true) _ es x (first-none_ahead es e found) there) waits

  not_ahead-no_wait : (m : Entry) (es : List Entry) → AllByRecursion (λ (x : Entry). waits_for queue select x ≡ false) es → AllByRecursion (NotAhead m) es
  not_ahead-no_wait m [] all = tt
  not_ahead-no_wait m (x ∷ es) all = (λ holds. absurd (false_true (waits_for queue select x) all.0 holds), not_ahead-no_wait m es all.1)

  not_ahead-step : (m e : Entry) → is_ahead order m e ≡ false → (es : List Entry) → AllByRecursion (NotAhead m) es → AllByRecursion (NotAhead e) es
  not_ahead-step m e behind [] all = tt
  not_ahead-step m e behind (x ∷ es) all =
      (λ holds. ahead-step (turn_of order m) m.id.number (turn_of order e) e.id.number (turn_of order x) x.id.number behind (all.0 holds), not_ahead-step m e behind es all.1)

  -- what holds of all entries holds of the least one
  abbrev HasLeast : (Entry → Type 0) → List Entry → Type 0
  HasLeast P es = (m : Entry) × (waits_for queue select m ≡ true) × AllByRecursion (NotAhead m) es × (AllByRecursion P es → P m)

  -- where some entry waits there is a least one
  least : (P : Entry → Type 0) (es : List Entry) → AllByRecursion (λ (x : Entry). waits_for queue select x ≡ false) es ⊎ HasLeast P es
  least P [] = inl tt
  least P (e ∷ es) =
      elim (cases_Bool (waits_for queue select e)) [
        | inl holds ↦ elim (least P es) [
          | inl all ↦ inr (e, holds, (λ w. ahead-self (turn_of order e) e.id.number, not_ahead-no_wait e es all), λ ps. ps.0)
          | inr h ↦ elim (cases_Bool (is_ahead order h.0 e)) [
            | inl before ↦ inr (h.0, h.1, (λ w. ahead-turned (turn_of order h.0) h.0.id.number (turn_of order e) e.id.number before, h.2), λ ps. h.3 ps.1)
            | inr behind ↦ inr (e, holds, (λ w. ahead-self (turn_of order e) e.id.number, not_ahead-step h.0 e behind es h.2), λ ps. ps.0)
          ]
        ]
        | inr fails ↦ elim (least P es) [
          | inl all ↦ inl (fails, all)
          | inr h ↦ inr (h.0, h.1, (λ holds. absurd (false_true (waits_for queue select e) fails holds), h.2), λ ps. h.3 ps.1)
        ]
      ]

  made_first : (m : Entry) (es : List Entry) → AllByRecursion (NotAhead m) es → AllByRecursion (λ (x : Entry). not (waits_for queue select x && is_ahead order x m) ≡ true) es
  made_first m [] all = tt
  made_first m (x ∷ es) all = (not_and_made (waits_for queue select x) (is_ahead order x m) all.0, made_first m es all.1)

  -- so there is no first one only where none waits
  pub first-none : (es : List Entry) → first_of queue order select es ≡ None → AllByRecursion (λ (x : Entry). waits_for queue select x ≡ false) es
  first-none es none =
      elim (least (λ x. is_first queue order select es x ≡ false) es) [
        | inl all ↦ all
        | inr h ↦ absurd (false_true (is_first queue order select es h.0)
            (h.3 (find-none (is_first queue order select es) es none))
            (and_made (waits_for queue select h.0) _ h.1 (all-list_all _ es (made_first h.0 es h.2))))
      ]
