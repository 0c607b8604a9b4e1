-- What records do to the pages of a run, whatever stands before and behind them.
use Rattle.std.proofs.Common.{◌≡◌, ℕ, zero, suc, ◌-◌, ◌+◌, ◌*◌, ◌<◌, ◌≤◌, List, [], ◌∷◌, ◌++◌, length, refl, sym, subst, arith, inl, inr}
use Rattle.std.specs.List.{All}
use Rattle.std.proofs.lemmas.List.Elements.{All-head, All-tail}
use Rattle.std.proofs.lemmas.Bool.{cases_lt}
use Rattle.qsg_logneed.specs.declared.counting.Filling.{Filling}
use Rattle.qsg_logneed.specs.Filled.{no_pages, with_record, filled_from, filled}
use Rattle.qsg_logneed.proofs.Places.{IsAfter, fits_is, over_is, none_is}

filled_append : (f : Filling) (before after : List ℕ) → filled_from f (before ++ after) ≡ filled_from (filled_from f before) after
filled_append f [] after = refl
filled_append f (bytes ∷ before) after = filled_append (with_record f bytes) before after

pub one_more : (lengths : List ℕ) (bytes : ℕ) → filled (lengths ++ bytes ∷ []) ≡ with_record (filled lengths) bytes
one_more lengths bytes = filled_append no_pages lengths (bytes ∷ [])

-- ---- one record

some_after : (f : Filling) (bytes : ℕ) → f.left < 4085 → 0 < bytes → IsAfter f bytes (with_record f bytes)
some_after f bytes few some = elim (cases_lt (f.left - 3) bytes) [
  | inl over ↦ over_is f bytes over
  | inr fits ↦ subst (IsAfter f bytes) (sym (fits_is f bytes some fits)) (record { few_left = omega (arith, few); total = omega (arith, fits) })
]

-- the end of the one isn't behind the end of the other
record NotBehind (f g : Filling) : Type 0 where
  pub few : f.left < 4085
  pub also_few : g.left < 4085
  pub order : f.pages * 4085 + g.left ≤ g.pages * 4085 + f.left

pages_not_behind : (f g : Filling) → NotBehind f g → f.pages ≤ g.pages
pages_not_behind f g o = omega (arith, o.few, o.also_few, o.order)

lost_not_behind : (f g : Filling) → NotBehind f g → f.pages * 4085 + (g.left - 3) ≤ g.pages * 4085 + (f.left - 3)
lost_not_behind f g o = elim (cases_lt f.pages g.pages) [
  | inl fewer ↦ omega (arith, fewer, o.few, o.also_few)
  | inr not_fewer ↦
      let same : f.pages ≡ g.pages = omega (arith, not_fewer, pages_not_behind f g o) in
      omega (arith, same, o.order)
]

with_both : (f g : Filling) (bytes : ℕ) → NotBehind f g → NotBehind (with_record f bytes) (with_record g bytes)
with_both f g zero o = subst (λ h. NotBehind h (with_record g 0)) (sym (none_is f)) (subst (NotBehind f) (sym (none_is g)) o)
with_both f g (suc bytes) o =
    let a = some_after f (suc bytes) o.few (omega arith) in
    let b = some_after g (suc bytes) o.also_few (omega arith) in
    record { few = a.few_left; also_few = b.few_left; order = omega (arith, a.total, b.total, lost_not_behind f g o) }

not_before : (f : Filling) (bytes : ℕ) → f.left < 4085 → NotBehind f (with_record f bytes)
not_before f zero few = subst (NotBehind f) (sym (none_is f)) (record { few = few; also_few = few; order = omega arith })
not_before f (suc bytes) few =
    let a = some_after f (suc bytes) few (omega arith) in
    record { few = few; also_few = a.few_left; order = omega (arith, a.total) }

-- ---- many records

all_both : (f g : Filling) (lengths : List ℕ) → NotBehind f g → NotBehind (filled_from f lengths) (filled_from g lengths)
all_both f g [] o = o
all_both f g (bytes ∷ lengths) o = all_both (with_record f bytes) (with_record g bytes) lengths (with_both f g bytes o)

few_left : (f : Filling) (lengths : List ℕ) → f.left < 4085 → (filled_from f lengths).left < 4085
few_left f lengths few = (all_both f f lengths (record { few = few; also_few = few; order = omega arith })).few

with_or_without : (before after : List ℕ) (bytes : ℕ) → NotBehind (filled (before ++ after)) (filled (before ++ bytes ∷ after))
with_or_without before after bytes =
    let there = filled before in
    let o = all_both there (with_record there bytes) after (not_before there bytes (few_left no_pages before (omega arith))) in
    subst (λ f. NotBehind f (filled (before ++ bytes ∷ after))) (sym (filled_append no_pages before after))
    (subst (NotBehind (filled_from there after)) (sym (filled_append no_pages before (bytes ∷ after))) o)

pub pages_never_lower : (before after : List ℕ) (bytes : ℕ) → (filled (before ++ after)).pages ≤ (filled (before ++ bytes ∷ after)).pages
pages_never_lower before after bytes = pages_not_behind _ _ (with_or_without before after bytes)

-- the bytes of a filling's last page that are left aren't more than its pages have
within : (f : Filling) (lengths : List ℕ) → f.left < 4085 → f.left ≤ f.pages * 4085 → (filled_from f lengths).left ≤ (filled_from f lengths).pages * 4085
within f [] few fits = fits
within f (bytes ∷ lengths) few fits = within (with_record f bytes) lengths (not_before f bytes few).also_few (one bytes)
  where
    one : (n : ℕ) → (with_record f n).left ≤ (with_record f n).pages * 4085
    one n = let o = not_before f n few in omega (arith, o.order, fits)

one_page : (f : Filling) (bytes : ℕ) → f.left < 4085 → f.left ≤ f.pages * 4085 → 0 < bytes → 1 ≤ (with_record f bytes).pages
one_page f bytes few fits some = let a = some_after f bytes few some in omega (arith, a.total, fits, some)

pub some_page : (before after : List ℕ) (bytes : ℕ) → 0 < bytes → 1 ≤ (filled (before ++ bytes ∷ after)).pages
some_page before after bytes some =
    let there = filled before in
    let few = few_left no_pages before (omega arith) in
    let one = one_page there bytes few (within no_pages before (omega arith) (omega arith)) some in
    let later = pages_later (with_record there bytes) after (not_before there bytes few).also_few in
    subst (λ f. 1 ≤ f.pages) (sym (filled_append no_pages before (bytes ∷ after))) (omega (arith, one, later))
  where
    pages_later : (f : Filling) (lengths : List ℕ) → f.left < 4085 → f.pages ≤ (filled_from f lengths).pages
    pages_later f [] few = omega arith
    pages_later f (n ∷ lengths) few =
        let o = not_before f n few in
        omega (arith, pages_not_behind f (with_record f n) o, pages_later (with_record f n) lengths o.also_few)

-- ---- how many pages records add at most

pub few_more : (f : Filling) (bytes : ℕ) → bytes ≤ 4194436 → (with_record f bytes).pages ≤ f.pages + 1027
few_more f zero long = subst (λ g. g.pages ≤ f.pages + 1027) (sym (none_is f)) (omega arith)
few_more f (suc bytes) long = elim (cases_lt (f.left - 3) (suc bytes)) [
  | inl over ↦ (let a = over_is f (suc bytes) over in omega (arith, a.few_left, a.total, long))
  | inr fits ↦ subst (λ g. g.pages ≤ f.pages + 1027) (sym (fits_is f (suc bytes) (omega arith) fits)) (omega arith)
]

few_from : (f : Filling) (lengths : List ℕ) → All (λ bytes. bytes ≤ 4194436) lengths → (filled_from f lengths).pages ≤ f.pages + 1027 * length lengths
few_from f [] all = omega arith
few_from f (bytes ∷ lengths) all =
    omega (arith, few_from (with_record f bytes) lengths (All-tail (λ n. n ≤ 4194436) bytes lengths all), few_more f bytes (All-head (λ n. n ≤ 4194436) bytes lengths all))

pub few_pages : (lengths : List ℕ) → All (λ bytes. bytes ≤ 4194436) lengths → (filled lengths).pages ≤ 1027 * length lengths
few_pages lengths all = omega (arith, few_from no_pages lengths all)
