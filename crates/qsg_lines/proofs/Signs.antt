-- The sign at the end of a line.
use Rattle.std.proofs.Common.{◌≡◌, ◌≢◌, ℕ, zero, suc, ◌-◌, ◌<◌, ◌&&◌, Bool, true, false, eqb, List, [], ◌∷◌, length, get_or, take, drop, refl, ap, ◌∙◌, arith, subst, Option, Some, None}
use Rattle.std.proofs.lemmas.Bool.Decides.{nat_tests}
use Rattle.std.specs.List.{list_all}
use Rattle.qsg_lines.specs.declared.kinds.Sign.{Sign}
use Rattle.qsg_lines.specs.Lines.{is_blank, sign_at, sign_of, before_last_byte, without_indent, front_of, before_sign, EndsAt}

-- bytes that are blanks from a place on
pub all_blank : (bs : List ℕ) → ((k : ℕ) → k < length bs → is_blank (get_or bs k 0) ≡ true) → list_all is_blank bs ≡ true
all_blank [] each = refl
all_blank (b ∷ bs) each =
    let here : is_blank b ≡ true = each 0 (omega arith) in
    let r = all_blank bs (λ k l. each (suc k) (omega arith)) in
    rw (here, r) refl

is_no : (b n : ℕ) → b ≢ n → eqb b n ≡ false
is_no b n h = grind (arith, nat_tests)

blank_is_no_sign : (b : ℕ) → is_blank b ≡ true → sign_at b ≡ None
blank_is_no_sign b h =
    let plus : b ≢ 43 = λ e. let f : is_blank 43 ≡ true = subst (λ (x : ℕ). is_blank x ≡ true) e h in absurd cc in
    let minus : b ≢ 45 = λ e. let f : is_blank 45 ≡ true = subst (λ (x : ℕ). is_blank x ≡ true) e h in absurd cc in
    rw (is_no b 43 plus, is_no b 45 minus) refl

-- a line of blanks
no_sign : (bs : List ℕ) → ((k : ℕ) → k < length bs → is_blank (get_or bs k 0) ≡ true) → sign_of bs ≡ None
no_sign [] each = refl
no_sign (b ∷ bs) each =
    let rest = all_blank bs (λ k l. each (suc k) (omega arith)) in
    rw rest (blank_is_no_sign b (each 0 (omega arith)))

not_all : (bs : List ℕ) (n : ℕ) → n < length bs → is_blank (get_or bs n 0) ≡ false → list_all is_blank bs ≡ false
not_all [] n lt h = absurd (omega arith)
not_all (b ∷ bs) zero lt h = rw h refl
not_all (b ∷ bs) (suc n) lt h = let r = not_all bs n (omega arith) h in rw r (and_false (is_blank b))
  where
    and_false : (t : Bool) → t && false ≡ false
    and_false true = refl
    and_false false = refl

-- a line whose last byte but for blanks stands at a place
last_sign : (bs : List ℕ) (n : ℕ) → n < length bs → is_blank (get_or bs n 0) ≡ false
    → ((k : ℕ) → n < k → k < length bs → is_blank (get_or bs k 0) ≡ true) → sign_of bs ≡ sign_at (get_or bs n 0)
last_sign [] n lt h each = absurd (omega arith)
last_sign (b ∷ bs) zero lt h each =
    let rest = all_blank bs (λ k l. each (suc k) (omega arith) (omega arith)) in
    rw rest refl
last_sign (b ∷ bs) (suc n) lt h each =
    let other = not_all bs n (omega arith) h in
    rw other (last_sign bs n (omega arith) h (λ k l m. each (suc k) (omega arith) (omega arith)))

before_last : (bs : List ℕ) (n : ℕ) → n < length bs → is_blank (get_or bs n 0) ≡ false
    → ((k : ℕ) → n < k → k < length bs → is_blank (get_or bs k 0) ≡ true) → before_last_byte bs ≡ take n bs
before_last [] n lt h each = absurd (omega arith)
before_last (b ∷ bs) zero lt h each =
    let rest = all_blank bs (λ k l. each (suc k) (omega arith) (omega arith)) in
    rw rest refl
before_last (b ∷ bs) (suc n) lt h each =
    let other = not_all bs n (omega arith) h in
    rw other (ap (λ (x : List ℕ). b ∷ x) (before_last bs n (omega arith) h (λ k l m. each (suc k) (omega arith) (omega arith))))

-- the indent
pub indent_blank : (bs : List ℕ) → 0 < length bs → is_blank (get_or bs 0 0) ≡ true → without_indent bs ≡ without_indent (drop 1 bs)
indent_blank [] lt h = absurd (omega arith)
indent_blank (b ∷ bs) lt h = rw h refl

pub indent_ends : (bs : List ℕ) → 0 < length bs → is_blank (get_or bs 0 0) ≡ false → without_indent bs ≡ bs
indent_ends [] lt h = absurd (omega arith)
indent_ends (b ∷ bs) lt h = rw h refl

front_with : (bs : List ℕ) (s : Option Sign) → sign_of bs ≡ s → front_of bs ≡ before_sign s bs
front_with bs s e = ap (λ (x : Option Sign). before_sign x bs) e

-- a line that has no bytes but blanks from its end on
pub blank_line : (bs : List ℕ) → EndsAt bs 0 → sign_of bs ≡ None
blank_line bs e = no_sign bs (λ k l. e.blank k (omega arith) l)

pub sign_at_end : (bs : List ℕ) (end : ℕ) → EndsAt bs end → 0 < end → sign_of bs ≡ sign_at (get_or bs (end - 1) 0)
sign_at_end bs end e lt = last_sign bs (end - 1) (omega (arith, e.within)) (e.last lt) (λ k l m. e.blank k (omega arith) m)

-- its front, where there is a sign, and where there is none
pub front_at_end : (bs : List ℕ) (end : ℕ) (s : Sign) → EndsAt bs end → 0 < end → sign_of bs ≡ Some s → front_of bs ≡ take (end - 1) bs
front_at_end bs end s e lt h = front_with bs (Some s) h ∙ before_last bs (end - 1) (omega (arith, e.within)) (e.last lt) (λ k l m. e.blank k (omega arith) m)

pub front_without : (bs : List ℕ) → sign_of bs ≡ None → front_of bs ≡ bs
front_without bs h = front_with bs None h
