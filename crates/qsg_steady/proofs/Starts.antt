-- pages of a log at which runs begin
use Rattle.std.proofs.Common.{◌≡◌, ℕ, ◌+◌, ◌<◌, ◌≤◌, List, [], ◌∷◌, ◌++◌, Bool, true, false, refl, sym, ap, subst, ◌∙◌, cond, arith, true≢false, eqb-true, eq-eqb}
use Rattle.std.specs.Prelude.{◌||◌, ◌==◌, filter, nat_le, min}
use Rattle.std.specs.List.{AllByRecursion, list_any, flat_map}
use Rattle.std.proofs.lemmas.Bool.Decides.{nat_tests}
use Rattle.qsg_num.specs.declared.seats.Member.{Member}
use Rattle.qsg_num.specs.declared.ids.UnitName.{UnitName}
use Rattle.qsg_num.specs.Ids.{same_unit}
use Rattle.qsg_group.specs.Group.{Run}
use Rattle.qsg_group.specs.Observers.{has_run}
use Rattle.qsg_group.specs.Laws.{AreRuns, RunsAt}
use Rattle.qsg_repo.specs.Keeping.{least, keep, noted_pages, pages_held}
use Rattle.qsg_repo.specs.Tables.{Repository, low_of}
use Rattle.qsg_unitlog.proofs.Lists.{or_true, or_false, neither}
use Rattle.qsg_logs.proofs.Owners.{all_weaker}
use Rattle.qsg_steady.specs.Steady.{pages_named}

-- ---- the least of pages

min_of : (P : ℕ → Type 0) (x y : ℕ) → P x → P y → P (min x y)
min_of P x y px py = by (nat_le x y) refl
  where
    by : (b : Bool) → nat_le x y ≡ b → P (min x y)
    by true is = subst P (sym (omega (arith, less is))) px
      where
        less : nat_le x y ≡ true → x ≤ y
        less h = grind (arith, nat_tests)
    by false is = subst P (sym (omega (arith, more is))) py
      where
        more : nat_le x y ≡ false → y ≤ x
        more h = grind (arith, nat_tests)

pub least_of : (P : ℕ → Type 0) (first : ℕ) (xs : List ℕ) → P first → AllByRecursion P xs → P (least first xs)
least_of P first [] here all = here
least_of P first (x ∷ xs) here all = least_of P (min first x) xs (min_of P first x here all.0) all.1

pub least_first : (first : ℕ) (xs : List ℕ) → least first xs ≤ first
least_first first [] = omega arith
least_first first (x ∷ xs) = omega (arith, least_first (min first x) xs)

pub least_all : (first : ℕ) (xs : List ℕ) → AllByRecursion (λ x. least first xs ≤ x) xs
least_all first [] = tt
least_all first (x ∷ xs) = (omega (arith, least_first (min first x) xs), least_all (min first x) xs)

pub all_apart : (P : ℕ → Type 0) (xs ys : List ℕ) → AllByRecursion P (xs ++ ys) → AllByRecursion P xs × AllByRecursion P ys
all_apart P [] ys all = (tt, all)
all_apart P (x ∷ xs) ys all = let more = all_apart P xs ys all.1 in ((all.0, more.0), more.1)

pub all_joint : (P : ℕ → Type 0) (xs ys : List ℕ) → AllByRecursion P xs → AllByRecursion P ys → AllByRecursion P (xs ++ ys)
all_joint P [] ys none all = all
all_joint P (x ∷ xs) ys these all = (these.0, all_joint P xs ys these.1 all)

pub all_pairs : (P Q R : ℕ → Type 0) (xs : List ℕ) → ((x : ℕ) → P x → Q x → R x) → AllByRecursion P xs → AllByRecursion Q xs → AllByRecursion R xs
all_pairs P Q R [] both ps qs = tt
all_pairs P Q R (x ∷ xs) both ps qs = (both x ps.0 qs.0, all_pairs P Q R xs both ps.1 qs.1)

-- ---- runs from a page on

abbrev pub begins_at : ℕ → Run → Bool
begins_at page run = run.first == page

abbrev pub is_from : ℕ → Run → Bool
is_from page run = nat_le page run.first

pub all_from : (page from next : ℕ) (runs : List Run) → page ≤ from → AreRuns from next runs → filter (is_from page) runs ≡ runs
all_from page from next [] less are = refl
all_from page from next (run ∷ runs) less are = by (is_from page run) refl (all_from page (run.first + 1) next runs (omega (arith, less, are.0)) are.1)
  where
    by : (b : Bool) → is_from page run ≡ b → filter (is_from page) runs ≡ runs → cond b (run ∷ filter (is_from page) runs) (filter (is_from page) runs) ≡ run ∷ runs
    by true is more = ap (λ xs. run ∷ xs) more
    by false is more = absurd (omega (arith, less, are.0, above is))
      where
        above : is_from page run ≡ false → run.first < page
        above h = grind (arith, nat_tests)

pub none_from : (page from next : ℕ) (runs : List Run) → next ≤ page → AreRuns from next runs → filter (is_from page) runs ≡ []
none_from page from next [] more are = refl
none_from page from next (run ∷ runs) more are = by (is_from page run) refl (none_from page (run.first + 1) next runs more are.1)
  where
    by : (b : Bool) → is_from page run ≡ b → filter (is_from page) runs ≡ [] → cond b (run ∷ filter (is_from page) runs) (filter (is_from page) runs) ≡ []
    by true is none = absurd (omega (arith, more, below is, before (run.first + 1) next runs are.1))
      where
        below : is_from page run ≡ true → page ≤ run.first
        below h = grind (arith, nat_tests)

        before : (at end : ℕ) (rs : List Run) → AreRuns at end rs → at ≤ end
        before at end [] h = h
        before at end (r ∷ rs) h = omega (arith, h.0, before (r.first + 1) end rs h.1)
    by false is none = none

-- the runs before and after the one that begins at a page
pub record PartedAt (page : ℕ) (runs : List Run) : Type 0 where
  pub before : List Run
  pub run : Run
  pub after : List Run
  pub are : runs ≡ before ++ run ∷ after
  pub first : run.first ≡ page
  pub from : filter (is_from page) runs ≡ run ∷ after

found_after : (page from next : ℕ) (runs : List Run) → AreRuns from next runs → list_any (begins_at page) runs ≡ true → from ≤ page
found_after page from next [] are is = absurd (true≢false (sym is))
found_after page from next (run ∷ runs) are is = by (begins_at page run) refl is (found_after page (run.first + 1) next runs are.1)
  where
    by : (b : Bool) → begins_at page run ≡ b → (b || list_any (begins_at page) runs) ≡ true → (list_any (begins_at page) runs ≡ true → run.first + 1 ≤ page) → from ≤ page
    by true here found more = omega (arith, are.0, eqb-true run.first page here)
    by false other found more = omega (arith, are.0, more found)

-- a run before the page isn't among those from it on
skipped : (page : ℕ) (run : Run) (runs : List Run) → run.first + 1 ≤ page → filter (is_from page) (run ∷ runs) ≡ filter (is_from page) runs
skipped page run runs before = by (is_from page run) refl
  where
    by : (b : Bool) → is_from page run ≡ b → cond b (run ∷ filter (is_from page) runs) (filter (is_from page) runs) ≡ filter (is_from page) runs
    by true is = absurd (omega (arith, before, reached is))
      where
        reached : is_from page run ≡ true → page ≤ run.first
        reached h = grind (arith, nat_tests)
    by false is = refl

parted_next : (page from next : ℕ) (run : Run) (runs : List Run) → AreRuns (run.first + 1) next runs → list_any (begins_at page) runs ≡ true → PartedAt page runs → PartedAt page (run ∷ runs)
parted_next page from next run runs are found p = record {
  before = run ∷ p.before;
  run = p.run;
  after = p.after;
  are = ap (λ xs. run ∷ xs) p.are;
  first = p.first;
  from = skipped page run runs (found_after page (run.first + 1) next runs are found) ∙ p.from;
}

pub parted_at : (page from next : ℕ) (runs : List Run) → AreRuns from next runs → list_any (begins_at page) runs ≡ true → PartedAt page runs
parted_at page from next [] are is = absurd (true≢false (sym is))
parted_at page from next (run ∷ runs) are is = by (begins_at page run) refl is (parted_at page (run.first + 1) next runs are.1)
  where
    by : (b : Bool) → begins_at page run ≡ b → (b || list_any (begins_at page) runs) ≡ true → (list_any (begins_at page) runs ≡ true → PartedAt page runs) → PartedAt page (run ∷ runs)
    by true here found more = let first = eqb-true run.first page here in record {
      before = [];
      run = run;
      after = runs;
      are = refl;
      first = first;
      from = all_from page page next (run ∷ runs) (omega arith) (omega (arith, first), are.1);
    }
    by false other found more = parted_next page from next run runs are.1 found (more found)

-- a run at or after a page is among those from it on
pub still_found : (page at : ℕ) (runs : List Run) → page ≤ at → list_any (begins_at at) runs ≡ true → list_any (begins_at at) (filter (is_from page) runs) ≡ true
still_found page at [] later is = is
still_found page at (run ∷ runs) later is = by (is_from page run) refl (begins_at at run) refl is (still_found page at runs later)
  where
    by : (b : Bool) → is_from page run ≡ b → (c : Bool) → begins_at at run ≡ c → (c || list_any (begins_at at) runs) ≡ true → (list_any (begins_at at) runs ≡ true → list_any (begins_at at) (filter (is_from page) runs) ≡ true)
        → list_any (begins_at at) (cond b (run ∷ filter (is_from page) runs) (filter (is_from page) runs)) ≡ true
    by true from true here found more = ap (λ z. z || list_any (begins_at at) (filter (is_from page) runs)) here
    by true from false other found more = or_true (begins_at at run) (list_any (begins_at at) (filter (is_from page) runs)) (more found)
    by false from true here found more = absurd (omega (arith, later, eqb-true run.first at here, before from))
      where
        before : is_from page run ≡ false → run.first < page
        before h = grind (arith, nat_tests)
    by false from false other found more = more found

-- ---- the run of a unit

-- a unit whose run stands at a page, and that has a run, has one that begins there, before the next page
pub unit_starts : (page from next : ℕ) (u : UnitName) (runs : List Run) → AreRuns from next runs → has_run u runs ≡ true → RunsAt page u runs → (list_any (begins_at page) runs ≡ true) × (page < next)
unit_starts page from next u [] are is at = absurd (true≢false (sym is))
unit_starts page from next u (run ∷ runs) are is at = by (same_unit u run.unit) refl is (λ found. unit_starts page (run.first + 1) next u runs are.1 found at.1)
  where
    before : (at end : ℕ) (rs : List Run) → AreRuns at end rs → at ≤ end
    before at end [] h = h
    before at end (r ∷ rs) h = omega (arith, h.0, before (r.first + 1) end rs h.1)

    by : (b : Bool) → same_unit u run.unit ≡ b → (b || has_run u runs) ≡ true → (has_run u runs ≡ true → (list_any (begins_at page) runs ≡ true) × (page < next)) → (list_any (begins_at page) (run ∷ runs) ≡ true) × (page < next)
    by true here found more = (ap (λ z. z || list_any (begins_at page) runs) (eq-eqb run.first page (at.0 here)), omega (arith, at.0 here, before (run.first + 1) next runs are.1))
    by false other found more = let m = more found in (or_true (begins_at page run) (list_any (begins_at page) runs) m.0, m.1)

-- what is kept of the runs from a page on, seen from a later page on
pub from_later : (page at : ℕ) (runs : List Run) → page ≤ at → filter (is_from at) (filter (is_from page) runs) ≡ filter (is_from at) runs
from_later page at [] later = refl
from_later page at (run ∷ runs) later = by (is_from page run) refl (is_from at run) refl (from_later page at runs later)
  where
    before : (a b c : ℕ) → a ≤ b → nat_le b c ≡ true → nat_le a c ≡ false → ⊥
    before a b c less more fails = grind (arith, nat_tests)

    kept : (b : Bool) → is_from at run ≡ b → filter (is_from at) (filter (is_from page) runs) ≡ filter (is_from at) runs → filter (is_from at) (run ∷ filter (is_from page) runs) ≡ cond b (run ∷ filter (is_from at) runs) (filter (is_from at) runs)
    kept true is rest = ap (λ b. cond b (run ∷ filter (is_from at) (filter (is_from page) runs)) (filter (is_from at) (filter (is_from page) runs))) is ∙ ap (λ rs. run ∷ rs) rest
    kept false is rest = ap (λ b. cond b (run ∷ filter (is_from at) (filter (is_from page) runs)) (filter (is_from at) (filter (is_from page) runs))) is ∙ rest

    by : (a : Bool) → is_from page run ≡ a → (b : Bool) → is_from at run ≡ b → filter (is_from at) (filter (is_from page) runs) ≡ filter (is_from at) runs
        → filter (is_from at) (cond a (run ∷ filter (is_from page) runs) (filter (is_from page) runs)) ≡ cond b (run ∷ filter (is_from at) runs) (filter (is_from at) runs)
    by true first b second rest = kept b second rest
    by false first true second rest = absurd (before page at run.first later second first)
    by false first false second rest = rest

-- a unit without a run has none from a page on
pub none_later : (page : ℕ) (u : UnitName) (runs : List Run) → has_run u runs ≡ false → has_run u (filter (is_from page) runs) ≡ false
none_later page u [] none = refl
none_later page u (run ∷ runs) none = let parts = neither (same_unit u run.unit) (has_run u runs) none in by (is_from page run) parts.0 (none_later page u runs parts.1)
  where
    by : (b : Bool) → same_unit u run.unit ≡ false → has_run u (filter (is_from page) runs) ≡ false → has_run u (cond b (run ∷ filter (is_from page) runs) (filter (is_from page) runs)) ≡ false
    by true first rest = or_false (same_unit u run.unit) (has_run u (filter (is_from page) runs)) first rest
    by false first rest = rest

-- a run that begins at or behind a page comes behind all that are kept from it on
pub pushed_later : (page : ℕ) (run : Run) (runs : List Run) → page ≤ run.first → filter (is_from page) (runs ++ run ∷ []) ≡ filter (is_from page) runs ++ run ∷ []
pushed_later page run [] less = ap (λ b. cond b (run ∷ []) []) (at_least page run.first less)
  where
    at_least : (a b : ℕ) → a ≤ b → nat_le a b ≡ true
    at_least a b less = grind (arith, nat_tests)
pushed_later page run (x ∷ runs) less = by (is_from page x) (pushed_later page run runs less)
  where
    by : (b : Bool) → filter (is_from page) (runs ++ run ∷ []) ≡ filter (is_from page) runs ++ run ∷ []
        → cond b (x ∷ filter (is_from page) (runs ++ run ∷ [])) (filter (is_from page) (runs ++ run ∷ [])) ≡ cond b (x ∷ filter (is_from page) runs) (filter (is_from page) runs) ++ run ∷ []
    by true rest = ap (λ rs. x ∷ rs) rest
    by false rest = rest

-- ---- pages that the repository names

-- all of them are kept
pub named_kept : (m : Member) (repo : Repository) → AllByRecursion (λ n. keep m repo ≤ n) (pages_named m repo)
named_kept m repo =
    let noted = noted_pages m repo in
    let held = flat_map (pages_held m) repo.holds in
    let middle = least (low_of m repo).number noted in
    let last : keep m repo ≤ middle = least_first middle held in (
      omega (arith, last, least_first (low_of m repo).number noted),
      all_joint (λ n. keep m repo ≤ n) noted held (all_weaker (λ n. middle ≤ n) (λ n. keep m repo ≤ n) noted (λ n h. omega (arith, last, h)) (least_all (low_of m repo).number noted)) (least_all middle held),
    )

-- what holds of each of them holds of the first page that is kept
pub named_least : (P : ℕ → Type 0) (m : Member) (repo : Repository) → AllByRecursion P (pages_named m repo) → P (keep m repo)
named_least P m repo all =
    let noted = noted_pages m repo in
    let held = flat_map (pages_held m) repo.holds in
    let parts = all_apart P noted held all.1 in
    least_of P (least (low_of m repo).number noted) held (least_of P (low_of m repo).number noted all.0 parts.0) parts.1
