-- sums over reservations
use Rattle.std.proofs.Common.{◌≡◌, ℕ, suc, ◌+◌, ◌-◌, ◌<◌, ◌≤◌, List, [], ◌∷◌, ◌++◌, length, take, get_or, Bool, true, false, not, refl, sym, ap, ◌∙◌, cond, arith, length-append}
use Rattle.std.specs.Prelude.{◌==◌, ◌&&◌}
use Rattle.std.proofs.lemmas.Bool.Decides.{nat_tests}
use Rattle.qsg_num.specs.Seats.{member_number}
use Rattle.qsg_num.specs.Ids.{same_unit}
use Rattle.std.proofs.lemmas.List.Sums.{sum_by-cons, sum_by_push, sum_by_more_le}
use Rattle.std.proofs.lemmas.List.Filters.{sum_by-filter_both}
use Rattle.qsg_num.specs.declared.ids.UnitName.{UnitName}
use Rattle.qsg_logpage.specs.declared.table.Reservation.{Reservation}
use Rattle.qsg_logpage.specs.Reserved.{is_other, besides, total, pages_of, pages_for, lowered}

pub total-besides-le : (unit : UnitName) (rs : List Reservation) → total (besides unit rs) ≤ total rs
total-besides-le unit rs = omega (arith, sum_by-filter_both (is_other unit) (λ r. not (is_other unit r)) (λ _. refl) pages_of rs)

pub total-push : (rs : List Reservation) (r : Reservation) → total (rs ++ r ∷ []) ≡ total rs + r.pages
total-push rs r = sum_by_push pages_of rs r

pub fits_more : (unit : UnitName) (rs : List Reservation) (i : ℕ) (d : Reservation) → i < length rs → total (besides unit (take i rs)) + (get_or rs i d).pages ≤ total rs
fits_more unit rs i d less = omega (arith, total-besides-le unit (take i rs), sum_by_more_le pages_of rs i d less)

total-cons : (r : Reservation) (rs : List Reservation) → total (r ∷ rs) ≡ r.pages + total rs
total-cons r rs = sum_by-cons pages_of r rs

le_cons : (b : Bool) (n p t whole : ℕ) → whole ≡ p + t → n ≤ t → cond b n p ≤ whole
le_cons true n p t whole is le = omega arith
le_cons false n p t whole is le = omega arith

pub pages_le_total : (unit : UnitName) (rs : List Reservation) → pages_for unit rs ≤ total rs
pages_le_total unit [] = omega arith
pages_le_total unit (r ∷ rs) = le_cons (is_other unit r) (pages_for unit rs) r.pages (total rs) (total (r ∷ rs)) (total-cons r rs) (pages_le_total unit rs)

lowered_cons : (b : Bool) (n : ℕ) (r : Reservation) (low rs : List Reservation) → (1 ≤ n → total low + 1 ≡ total rs) → 1 ≤ cond b n r.pages
    → total (cond b (r ∷ low) (record { unit = r.unit; pages = r.pages - 1 } ∷ rs)) + 1 ≡ total (r ∷ rs)
lowered_cons true n r low rs more some = omega (arith, total-cons r rs, total-cons r low, more some)
lowered_cons false n r low rs more some = omega (arith, total-cons r rs, total-cons (record { unit = r.unit; pages = r.pages - 1 }) rs)

pub total-lowered : (unit : UnitName) (rs : List Reservation) → 1 ≤ pages_for unit rs → total (lowered unit rs) + 1 ≡ total rs
total-lowered unit [] some = absurd (omega arith)
total-lowered unit (r ∷ rs) some = lowered_cons (is_other unit r) (pages_for unit rs) r (lowered unit rs) rs (total-lowered unit rs) some

pages_cons : (b : Bool) (unit : UnitName) (r : Reservation) (low rs : List Reservation) → is_other unit r ≡ b → pages_for unit low ≡ pages_for unit rs - 1
    → pages_for unit (cond b (r ∷ low) (record { unit = r.unit; pages = r.pages - 1 } ∷ rs)) ≡ cond b (pages_for unit rs) r.pages - 1
pages_cons true unit r low rs is more = ap (λ (b : Bool). cond b (pages_for unit low) r.pages) is ∙ more
pages_cons false unit r low rs is more = ap (λ (b : Bool). cond b (pages_for unit rs) (r.pages - 1)) is

pub pages_for-lowered : (unit : UnitName) (rs : List Reservation) → pages_for unit (lowered unit rs) ≡ pages_for unit rs - 1
pages_for-lowered unit [] = refl
pages_for-lowered unit (r ∷ rs) = pages_cons (is_other unit r) unit r (lowered unit rs) rs refl (pages_for-lowered unit rs)

length_cons : (b : Bool) (r s : Reservation) (low rs : List Reservation) → length low ≡ length rs → length (cond b (r ∷ low) (s ∷ rs)) ≡ suc (length rs)
length_cons true r s low rs same = ap suc same
length_cons false r s low rs same = refl

pub length-lowered : (unit : UnitName) (rs : List Reservation) → length (lowered unit rs) ≡ length rs
length-lowered unit [] = refl
length-lowered unit (r ∷ rs) = length_cons (is_other unit r) r (record { unit = r.unit; pages = r.pages - 1 }) (lowered unit rs) rs (length-lowered unit rs)

keep_cons : (b : Bool) (r : Reservation) (kept rs : List Reservation) → length kept ≤ length rs → length (cond b (r ∷ kept) kept) ≤ suc (length rs)
keep_cons true r kept rs le = omega arith
keep_cons false r kept rs le = omega arith

pub length-besides : (unit : UnitName) (rs : List Reservation) → length (besides unit rs) ≤ length rs
length-besides unit [] = omega arith
length-besides unit (r ∷ rs) = keep_cons (is_other unit r) r (besides unit rs) rs (length-besides unit rs)

pub length-push : (rs : List Reservation) (r : Reservation) → length (rs ++ r ∷ []) ≡ length rs + 1
length-push rs r = length-append rs (r ∷ [])

-- the other units' reservations stay

other_unit : (rm ri rs vm vi vs um ui us : ℕ) → ((rm == vm) && ((ri == vi) && (rs == vs))) ≡ true → ((um == vm) && ((ui == vi) && (us == vs))) ≡ false → ((rm == um) && ((ri == ui) && (rs == us))) ≡ false
other_unit rm ri rs vm vi vs um ui us same apart = grind (arith, nat_tests)

third_unit : (r v u : UnitName) → same_unit r v ≡ true → same_unit u v ≡ false → same_unit r u ≡ false
third_unit r v u same apart = other_unit (member_number r.member) r.incarnation.number r.seq (member_number v.member) v.incarnation.number v.seq (member_number u.member) u.incarnation.number u.seq same apart

besides_cons : (b : Bool) (u v : UnitName) (r : Reservation) (rs : List Reservation) → same_unit r.unit v ≡ b → same_unit u v ≡ false → pages_for u (besides v rs) ≡ pages_for u rs
    → pages_for u (cond (not b) (r ∷ besides v rs) (besides v rs)) ≡ pages_for u (r ∷ rs)
besides_cons true u v r rs is apart more = more ∙ sym (ap (λ (b : Bool). cond (not b) (pages_for u rs) r.pages) (third_unit r.unit v u is apart))
besides_cons false u v r rs is apart more = ap (λ (n : ℕ). cond (is_other u r) n r.pages) more

pub pages_for-besides : (u v : UnitName) (rs : List Reservation) → same_unit u v ≡ false → pages_for u (besides v rs) ≡ pages_for u rs
pages_for-besides u v [] apart = refl
pages_for-besides u v (r ∷ rs) apart = besides_cons (same_unit r.unit v) u v r rs refl apart (pages_for-besides u v rs apart)

pub pages_for-push : (u : UnitName) (rs : List Reservation) (r : Reservation) → same_unit r.unit u ≡ false → pages_for u (rs ++ r ∷ []) ≡ pages_for u rs
pages_for-push u [] r apart = ap (λ (b : Bool). cond (not b) 0 r.pages) apart
pages_for-push u (s ∷ rs) r apart = ap (λ (n : ℕ). cond (is_other u s) n s.pages) (pages_for-push u rs r apart)

same_back : (am ai aq bm bi bq : ℕ) → ((am == bm) && ((ai == bi) && (aq == bq))) ≡ false → ((bm == am) && ((bi == ai) && (bq == aq))) ≡ false
same_back am ai aq bm bi bq apart = grind (arith, nat_tests)

pub pages_for-set : (u v : UnitName) (n : ℕ) (rs : List Reservation) → same_unit u v ≡ false → pages_for u (besides v rs ++ record { unit = v; pages = n } ∷ []) ≡ pages_for u rs
pages_for-set u v n rs apart =
    pages_for-push u (besides v rs) (record { unit = v; pages = n }) (same_back (member_number u.member) u.incarnation.number u.seq (member_number v.member) v.incarnation.number v.seq apart)
    ∙ pages_for-besides u v rs apart
