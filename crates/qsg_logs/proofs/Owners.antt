-- reservations, whose units differ and are those of tasks
use Rattle.std.proofs.Common.{◌≡◌, ◌⊎◌, inl, inr, ℕ, suc, ◌-◌, ◌≤◌, List, [], ◌∷◌, ◌++◌, length, Bool, true, false, not, Option, Some, None, refl, sym, ap, subst, ◌∙◌, cond, arith}
use Rattle.std.specs.List.{AllByRecursion}
use Rattle.std.proofs.lemmas.Option.{same_Some, none-some}
use Rattle.qsg_num.specs.declared.ids.UnitName.{UnitName}
use Rattle.qsg_num.specs.declared.seats.TaskNo.{TaskNo}
use Rattle.qsg_num.specs.declared.seats.TaskNo.TheVariants as numbers
use Rattle.qsg_num.specs.Ids.{same_unit}
use Rattle.qsg_logpage.specs.declared.table.Reservation.{Reservation}
use Rattle.qsg_logpage.specs.Reserved.{is_other, besides, pages_for, lowered}
use Rattle.qsg_group.specs.declared.tasks.Task.{Task}
use Rattle.qsg_unitlog.proofs.Lists.{same_is, same_self, apart_back}
use Rattle.qsg_logs.specs.Held.{HoldsUnit, IsOwned, AreDifferent}

-- ---- what holds of the units of all

pub all_weaker : {A : Type 0} (P Q : A → Type 0) (xs : List A) → ((x : A) → P x → Q x) → AllByRecursion P xs → AllByRecursion Q xs
all_weaker P Q [] weaker all = tt
all_weaker P Q (x ∷ xs) weaker all = (weaker x all.0, all_weaker P Q xs weaker all.1)

pub all_push : {A : Type 0} (P : A → Type 0) (xs : List A) (x : A) → AllByRecursion P xs → P x → AllByRecursion P (xs ++ x ∷ [])
all_push P [] x all holds = (holds, tt)
all_push P (y ∷ xs) x all holds = (all.0, all_push P xs x all.1 holds)

pub all_besides : (P : Reservation → Type 0) (u : UnitName) (rs : List Reservation) → AllByRecursion P rs → AllByRecursion P (besides u rs)
all_besides P u [] all = tt
all_besides P u (r ∷ rs) all = by (is_other u r) (all_besides P u rs all.1)
  where
    by : (b : Bool) → AllByRecursion P (besides u rs) → AllByRecursion P (cond b (r ∷ besides u rs) (besides u rs))
    by true rest = (all.0, rest)
    by false rest = rest

pub all_lowered : (P : UnitName → Type 0) (u : UnitName) (rs : List Reservation) → AllByRecursion (λ (r : Reservation). P r.unit) rs → AllByRecursion (λ (r : Reservation). P r.unit) (lowered u rs)
all_lowered P u [] all = tt
all_lowered P u (r ∷ rs) all = by (is_other u r) (all_lowered P u rs all.1)
  where
    by : (b : Bool) → AllByRecursion (λ (r : Reservation). P r.unit) (lowered u rs) → AllByRecursion (λ (r : Reservation). P r.unit) (cond b (r ∷ lowered u rs) (record { unit = r.unit; pages = r.pages - 1 } ∷ rs))
    by true rest = (all.0, rest)
    by false rest = (all.0, all.1)

-- those besides a unit aren't of that unit
pub are_besides : (u : UnitName) (rs : List Reservation) → AllByRecursion (λ (r : Reservation). same_unit r.unit u ≡ false) (besides u rs)
are_besides u [] = tt
are_besides u (r ∷ rs) = by (same_unit r.unit u) refl (are_besides u rs)
  where
    by : (b : Bool) → same_unit r.unit u ≡ b → AllByRecursion (λ (x : Reservation). same_unit x.unit u ≡ false) (besides u rs) → AllByRecursion (λ (x : Reservation). same_unit x.unit u ≡ false) (cond (not b) (r ∷ besides u rs) (besides u rs))
    by true is rest = rest
    by false is rest = (is, rest)

-- none of another unit goes
pub besides_none : (u : UnitName) (rs : List Reservation) → AllByRecursion (λ (r : Reservation). same_unit r.unit u ≡ false) rs → besides u rs ≡ rs
besides_none u [] all = refl
besides_none u (r ∷ rs) all = ap (λ (b : Bool). cond (not b) (r ∷ besides u rs) (besides u rs)) all.0 ∙ ap (λ (l : List Reservation). r ∷ l) (besides_none u rs all.1)

pub none_for : (u : UnitName) (rs : List Reservation) → AllByRecursion (λ (r : Reservation). same_unit r.unit u ≡ false) rs → pages_for u rs ≡ 0
none_for u [] all = refl
none_for u (r ∷ rs) all = ap (λ (b : Bool). cond (not b) (pages_for u rs) r.pages) all.0 ∙ none_for u rs all.1

-- what is set for a unit is there
pub pages_for-own : (u : UnitName) (n : ℕ) (rs : List Reservation) → AllByRecursion (λ (r : Reservation). same_unit r.unit u ≡ false) rs → pages_for u (rs ++ record { unit = u; pages = n } ∷ []) ≡ n
pages_for-own u n [] all = ap (λ (b : Bool). cond (not b) 0 n) (same_self u)
pages_for-own u n (r ∷ rs) all = ap (λ (b : Bool). cond (not b) (pages_for u (rs ++ record { unit = u; pages = n } ∷ [])) r.pages) all.0 ∙ pages_for-own u n rs all.1

pub pages_for-lowered_other : (u v : UnitName) (rs : List Reservation) → same_unit u v ≡ false → pages_for u (lowered v rs) ≡ pages_for u rs
pages_for-lowered_other u v [] apart = refl
pages_for-lowered_other u v (r ∷ rs) apart = by (same_unit r.unit v) refl (pages_for-lowered_other u v rs apart)
  where
    not_u : same_unit r.unit v ≡ true → same_unit r.unit u ≡ false
    not_u is = subst (λ (w : UnitName). same_unit w u ≡ false) (sym (same_is r.unit v is)) (apart_back u v apart)

    by : (b : Bool) → same_unit r.unit v ≡ b → pages_for u (lowered v rs) ≡ pages_for u rs
        → pages_for u (cond (not b) (r ∷ lowered v rs) (record { unit = r.unit; pages = r.pages - 1 } ∷ rs)) ≡ pages_for u (r ∷ rs)
    by true is more = ap (λ (b : Bool). cond (not b) (pages_for u rs) (r.pages - 1)) (not_u is) ∙ sym (ap (λ (b : Bool). cond (not b) (pages_for u rs) r.pages) (not_u is))
    by false is more = ap (λ (n : ℕ). cond (is_other u r) n r.pages) more

-- ---- units that differ

pub different_besides : (u : UnitName) (rs : List Reservation) → AreDifferent rs → AreDifferent (besides u rs)
different_besides u [] differ = tt
different_besides u (r ∷ rs) differ = by (is_other u r) (different_besides u rs differ.1)
  where
    by : (b : Bool) → AreDifferent (besides u rs) → AreDifferent (cond b (r ∷ besides u rs) (besides u rs))
    by true rest = (all_besides (λ (x : Reservation). same_unit x.unit r.unit ≡ false) u rs differ.0, rest)
    by false rest = rest

pub different_push : (rs : List Reservation) (r : Reservation) → AllByRecursion (λ (x : Reservation). same_unit x.unit r.unit ≡ false) rs → AreDifferent rs → AreDifferent (rs ++ r ∷ [])
different_push [] r all differ = (tt, tt)
different_push (x ∷ rs) r all differ =
    (all_push (λ (y : Reservation). same_unit y.unit x.unit ≡ false) rs r differ.0 (apart_back x.unit r.unit all.0), different_push rs r all.1 differ.1)

pub different_lowered : (u : UnitName) (rs : List Reservation) → AreDifferent rs → AreDifferent (lowered u rs)
different_lowered u [] differ = tt
different_lowered u (r ∷ rs) differ = by (is_other u r) (different_lowered u rs differ.1)
  where
    by : (b : Bool) → AreDifferent (lowered u rs) → AreDifferent (cond b (r ∷ lowered u rs) (record { unit = r.unit; pages = r.pages - 1 } ∷ rs))
    by true rest = (all_lowered (λ (v : UnitName). same_unit v r.unit ≡ false) u rs differ.0, rest)
    by false rest = (differ.0, differ.1)

-- ---- how many there are

one_fewer : (u : UnitName) (rs : List Reservation) → AreDifferent rs → length rs ≤ suc (length (besides u rs))
one_fewer u [] differ = omega arith
one_fewer u (r ∷ rs) differ = by (same_unit r.unit u) refl (one_fewer u rs differ.1)
  where
    by : (b : Bool) → same_unit r.unit u ≡ b → length rs ≤ suc (length (besides u rs)) → suc (length rs) ≤ suc (length (cond (not b) (r ∷ besides u rs) (besides u rs)))
    by true is more =
        let none = besides_none u rs (subst (λ (v : UnitName). AllByRecursion (λ (x : Reservation). same_unit x.unit v ≡ false) rs) (same_is r.unit u is) differ.0) in
        omega (arith, ap (λ (l : List Reservation). length l) none)
    by false is more = omega (arith, more)

abbrev IsIn : TaskNo → List TaskNo → Type 0
IsIn t [] = ⊥
IsIn t (w ∷ ts) = (t ≡ w) ⊎ IsIn t ts

abbrev all_tasks : List TaskNo
all_tasks = numbers.System ∷ numbers.One ∷ numbers.Two ∷ numbers.Three ∷ numbers.Four ∷ []

is_in : (t : TaskNo) → IsIn t all_tasks
is_in numbers.System = inl refl
is_in numbers.One = inr (inl refl)
is_in numbers.Two = inr (inr (inl refl))
is_in numbers.Three = inr (inr (inr (inl refl)))
is_in numbers.Four = inr (inr (inr (inr (inl refl))))

abbrev OwnedIn : (TaskNo → Task) → List TaskNo → Reservation → Type 0
OwnedIn tasks ts r = (t : TaskNo) × IsIn t ts × HoldsUnit tasks r.unit t

at_most : (tasks : TaskNo → Task) (ts : List TaskNo) (rs : List Reservation) → AreDifferent rs → AllByRecursion (OwnedIn tasks ts) rs → length rs ≤ length ts
at_most tasks [] [] differ owned = omega arith
at_most tasks [] (r ∷ rs) differ owned = absurd owned.0.1
at_most tasks (w ∷ ts) rs differ owned = by (at_most tasks ts) (tasks w).unit refl
  where
    by : ((xs : List Reservation) → AreDifferent xs → AllByRecursion (OwnedIn tasks ts) xs → length xs ≤ length ts) → (unit : Option UnitName) → (tasks w).unit ≡ unit → length rs ≤ suc (length ts)
    by fewer None is =
        let none_here : (r : Reservation) → OwnedIn tasks (w ∷ ts) r → OwnedIn tasks ts r
        = λ r o. elim o.1 [ inl same ↦ absurd (none-some r.unit (sym is ∙ sym (ap (λ (t : TaskNo). (tasks t).unit) same) ∙ o.2)) | inr later ↦ (o.0, later, o.2) ] in
        omega (arith, fewer rs differ (all_weaker (OwnedIn tasks (w ∷ ts)) (OwnedIn tasks ts) rs none_here owned))
    by fewer (Some u) is =
        let elsewhere : (r : Reservation) → (same_unit r.unit u ≡ false) × OwnedIn tasks (w ∷ ts) r → OwnedIn tasks ts r
        = λ r o. elim o.1.1 [
          | inl same ↦ (let own : r.unit ≡ u = same_Some r.unit u (sym o.1.2 ∙ ap (λ (t : TaskNo). (tasks t).unit) same ∙ is) in absurd (cc (o.0, ap (λ (v : UnitName). same_unit v u) own, same_self u)))
          | inr later ↦ (o.1.0, later, o.1.2)
        ] in
        let rest = all_both (besides u rs) (are_besides u rs) (all_besides (OwnedIn tasks (w ∷ ts)) u rs owned) in
        omega (arith, one_fewer u rs differ, fewer (besides u rs) (different_besides u rs differ) (all_weaker _ (OwnedIn tasks ts) (besides u rs) elsewhere rest))
      where
        all_both : (xs : List Reservation) → AllByRecursion (λ (r : Reservation). same_unit r.unit u ≡ false) xs → AllByRecursion (OwnedIn tasks (w ∷ ts)) xs
            → AllByRecursion (λ (r : Reservation). (same_unit r.unit u ≡ false) × OwnedIn tasks (w ∷ ts) r) xs
        all_both [] a b = tt
        all_both (x ∷ xs) a b = ((a.0, b.0), all_both xs a.1 b.1)

pub few_owned : (tasks : TaskNo → Task) (rs : List Reservation) → AreDifferent rs → AllByRecursion (IsOwned tasks) rs → length rs ≤ 5
few_owned tasks rs differ owned = at_most tasks all_tasks rs differ (all_weaker (IsOwned tasks) (OwnedIn tasks all_tasks) rs (λ r o. (o.0, is_in o.0, o.1)) owned)
