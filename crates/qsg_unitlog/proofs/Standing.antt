-- runs that stand in pages
use Rattle.std.proofs.Common.{◌≡◌, ℕ, suc, ◌+◌, ◌-◌, ◌/◌, ◌≤◌, Bool, true, false, not, List, [], ◌∷◌, ◌++◌, length, drop, Option, None, refl, sym, ap, subst, ◌∙◌, append_assoc, arith}
use Rattle.std.specs.List.{list_all}
use Rattle.std.proofs.lemmas.List.{length-append}
use Rattle.qsg_num.specs.declared.ids.UnitName.{UnitName}
use Rattle.qsg_num.specs.Ids.{same_unit}
use Rattle.qsg_logpage.specs.Page.{with_lap}
use Rattle.qsg_logrec.specs.declared.record.LogRecord.{LogRecord}
use Rattle.qsg_logread.specs.Records.{PagesJoin}
use Rattle.qsg_logread.specs.Logs.{lapped}
use Rattle.qsg_logread.proofs.Pages.{pages_append, lapped_join}
use Rattle.qsg_group.specs.Group.{Run}
use Rattle.qsg_group.specs.Observers.{has_run}
use Rattle.qsg_unitlog.specs.Units.{run_records, run_pages, is_named, AreOf, AreApart}
use Rattle.qsg_unitlog.specs.Tells.{Stand}
use Rattle.qsg_unitlog.proofs.Lists.{drop_front, both, and_true, neither, or_false, not_true, apart_back}
use Rattle.qsg_unitlog.proofs.Beside.{none_beside, beside_append, beside_more, whole_joins}

pub length_lapped : (size first : ℕ) (pages : List (List ℕ)) → length (lapped size first pages) ≡ length pages
length_lapped size first [] = refl
length_lapped size first (b ∷ pages) = ap suc (length_lapped size (first + 1) pages)

pub lapped_append : (size first : ℕ) (pages others : List (List ℕ)) → lapped size first (pages ++ others) ≡ lapped size first pages ++ lapped size (first + length pages) others
lapped_append size first [] others = ap (λ (n : ℕ). lapped size n others) (omega arith)
lapped_append size first (b ∷ pages) others =
    ap (λ (l : List (List ℕ)). with_lap (first / size) b ∷ l)
    (lapped_append size (first + 1) pages others ∙ ap (λ (n : ℕ). lapped size (first + 1) pages ++ lapped size n others) (omega arith))

pub stand_append : (size : ℕ) (gone : List UnitName) (first next : ℕ) (runs others : List Run) (pages more : List (List ℕ))
    → Stand size gone first runs pages → first + length pages ≡ next → Stand size gone next others more → Stand size gone first (runs ++ others) (pages ++ more)
stand_append size gone first next [] [] pages more a at b = beside_append gone pages more a b
stand_append size gone first next [] (run ∷ others) pages more a at b = (
  pages ++ b.0,
  b.1,
  b.2,
  ap (λ (l : List (List ℕ)). pages ++ l) b.3 ∙ sym (append_assoc pages b.0 (lapped size run.first (run_pages run.unit run.told b.1) ++ b.2)),
  omega (arith, b.4, at, length-append pages b.0),
  beside_append gone pages b.0 a b.5,
  b.6,
  b.7,
)
stand_append size gone first next (run ∷ runs) others pages more a at b = (
  a.0,
  a.1,
  a.2 ++ more,
  ap (λ (l : List (List ℕ)). l ++ more) a.3
      ∙ append_assoc a.0 (lapped size run.first (run_pages run.unit run.told a.1) ++ a.2) more
      ∙ ap (λ (l : List (List ℕ)). a.0 ++ l) (append_assoc (lapped size run.first (run_pages run.unit run.told a.1)) a.2 more),
  a.4,
  a.5,
  a.6,
  stand_append size gone (run.first + length (run_pages run.unit run.told a.1)) next runs others a.2 more a.7
      (omega (
        arith,
        a.4,
        at,
        ap length a.3,
        length-append a.0 (lapped size run.first (run_pages run.unit run.told a.1) ++ a.2),
        length-append (lapped size run.first (run_pages run.unit run.told a.1)) a.2,
        length_lapped size run.first (run_pages run.unit run.told a.1),
      ))
      b,
)

-- with one more unit gone
pub stand_more : (v : UnitName) (size : ℕ) (gone : List UnitName) (first : ℕ) (runs : List Run) (pages : List (List ℕ)) → Stand size gone first runs pages → Stand size (v ∷ gone) first runs pages
stand_more v size gone first [] pages a = beside_more v gone pages a
stand_more v size gone first (run ∷ runs) pages a =
    (a.0, a.1, a.2, a.3, a.4, beside_more v gone a.0 a.5, a.6, stand_more v size gone (run.first + length (run_pages run.unit run.told a.1)) runs a.2 a.7)

-- the runs from one on stand from its first page on
pub record StandFrom (size : ℕ) (gone : List UnitName) (first : ℕ) (run : Run) (after : List Run) (pages : List (List ℕ)) : Type 0 where
  pub above : first ≤ run.first
  pub below : run.first ≤ first + length pages
  pub stand : Stand size gone run.first (run ∷ after) (drop (run.first - first) pages)

pub stand_from : (size : ℕ) (gone : List UnitName) (first : ℕ) (before after : List Run) (run : Run) (pages : List (List ℕ)) → Stand size gone first (before ++ run ∷ after) pages → StandFrom size gone first run after pages
stand_from size gone first [] after run pages a =
    record {
      above = omega (arith, a.4);
      below = omega (arith, a.4, ap length a.3, length-append a.0 (lapped size run.first (run_pages run.unit run.told a.1) ++ a.2));
      stand = (
        [],
        a.1,
        a.2,
        ap (drop (run.first - first)) a.3 ∙ drop_front (run.first - first) a.0 (lapped size run.first (run_pages run.unit run.told a.1) ++ a.2) 0 (omega (arith, a.4)),
        omega arith,
        none_beside gone,
        a.6,
        a.7,
      );
    }
stand_from size gone first (b ∷ before) after run pages a =
    let f = stand_from size gone (b.first + length (run_pages b.unit b.told a.1)) before after run a.2 a.7 in
    let own_length : length (lapped size b.first (run_pages b.unit b.told a.1)) ≡ length (run_pages b.unit b.told a.1) = length_lapped size b.first (run_pages b.unit b.told a.1) in
    let front_length : length (a.0 ++ lapped size b.first (run_pages b.unit b.told a.1)) ≡ length a.0 + length (lapped size b.first (run_pages b.unit b.told a.1)) = length-append a.0 (lapped size b.first (run_pages b.unit b.told a.1)) in
    let all : pages ≡ (a.0 ++ lapped size b.first (run_pages b.unit b.told a.1)) ++ a.2 = a.3 ∙ sym (append_assoc a.0 (lapped size b.first (run_pages b.unit b.told a.1)) a.2) in
    let far : run.first - first ≡ length (a.0 ++ lapped size b.first (run_pages b.unit b.told a.1)) + (run.first - (b.first + length (run_pages b.unit b.told a.1))) = omega (arith, a.4, f.above, own_length, front_length) in
    record {
      above = omega (arith, a.4, f.above);
      below = omega (arith, a.4, f.below, own_length, front_length, ap length all, length-append (a.0 ++ lapped size b.first (run_pages b.unit b.told a.1)) a.2);
      stand = subst (λ (l : List (List ℕ)). Stand size gone run.first (run ∷ after) l)
          (sym (ap (drop (run.first - first)) all ∙ drop_front (run.first - first) (a.0 ++ lapped size b.first (run_pages b.unit b.told a.1)) a.2 (run.first - (b.first + length (run_pages b.unit b.told a.1))) far))
          f.stand;
    }

-- ---- the records of such pages

pub record HaveRuns (gone : List UnitName) (runs : List Run) (begun : Option (List ℕ)) (pages : List (List ℕ)) : Type 0 where
  pub records : List LogRecord
  pub after : Option (List ℕ)
  pub joins : PagesJoin begun pages records after
  pub are : AreOf gone runs records

pub stand_records : (size : ℕ) (gone : List UnitName) (first : ℕ) (runs : List Run) (pages : List (List ℕ)) → Stand size gone first runs pages → (begun : Option (List ℕ)) → HaveRuns gone runs begun pages
stand_records size gone first [] pages a begun =
    let x = a begun in
    record { records = x.records; after = x.after; joins = x.joins; are = x.beside }
stand_records size gone first (run ∷ runs) pages a begun =
    let x = a.5 begun in
    let y : PagesJoin x.after (lapped size run.first (run_pages run.unit run.told a.1)) (run_records run.unit run.told a.1) None =
    lapped_join size run.first x.after None (run_pages run.unit run.told a.1) (run_records run.unit run.told a.1) (whole_joins run.unit run.told a.1 x.after a.6) in
    let z = stand_records size gone (run.first + length (run_pages run.unit run.told a.1)) runs a.2 a.7 None in
    record {
      records = x.records ++ (run_records run.unit run.told a.1 ++ z.records);
      after = z.after;
      joins = subst (λ (l : List (List ℕ)). PagesJoin begun l (x.records ++ (run_records run.unit run.told a.1 ++ z.records)) z.after) (sym a.3)
          (pages_append begun x.after z.after a.0 (lapped size run.first (run_pages run.unit run.told a.1) ++ a.2) x.records (run_records run.unit run.told a.1 ++ z.records) x.joins
          (pages_append x.after None z.after (lapped size run.first (run_pages run.unit run.told a.1)) a.2 (run_records run.unit run.told a.1) z.records y z.joins));
      are = (x.records, a.1, z.records, refl, x.beside, z.are);
    }

-- ---- the names of runs

abbrev pub differs : UnitName → Run → Bool
differs u other = not (same_unit u other.unit)

pub apart_from : (gone : List UnitName) (before after : List Run) → AreApart gone (before ++ after) → AreApart gone after
apart_from gone [] after a = a
apart_from gone (b ∷ before) after a = apart_from gone before after a.2

all_of : (u : UnitName) (runs : List Run) (run : Run) → list_all (differs u) (runs ++ run ∷ []) ≡ true → (list_all (differs u) runs ≡ true) × (same_unit u run.unit ≡ false)
all_of u [] run all = (refl, not_true (same_unit u run.unit) (both (differs u run) true all).0)
all_of u (x ∷ runs) run all =
    let b = both (differs u x) (list_all (differs u) (runs ++ run ∷ [])) all in
    let more = all_of u runs run b.1 in
    (and_true (differs u x) (list_all (differs u) runs) b.0 more.0, more.1)

-- the last run goes
pub apart_gone : (gone : List UnitName) (runs : List Run) (run : Run) → AreApart gone (runs ++ run ∷ []) → AreApart (run.unit ∷ gone) runs
apart_gone gone [] run a = tt
apart_gone gone (x ∷ runs) run a =
    let all = all_of x.unit runs run a.1 in
    (or_false (same_unit x.unit run.unit) (is_named x.unit gone) all.1 a.0, all.0, apart_gone gone runs run a.2)

all_new : (u : UnitName) (runs : List Run) (run : Run) → list_all (differs u) runs ≡ true → same_unit u run.unit ≡ false → list_all (differs u) (runs ++ run ∷ []) ≡ true
all_new u [] run all apart = and_true (differs u run) true (ap not apart) refl
all_new u (x ∷ runs) run all apart =
    let b = both (differs u x) (list_all (differs u) runs) all in
    and_true (differs u x) (list_all (differs u) (runs ++ run ∷ [])) b.0 (all_new u runs run b.1 apart)

-- one more run comes
pub apart_new : (gone : List UnitName) (runs : List Run) (run : Run) → AreApart gone runs → is_named run.unit gone ≡ false → has_run run.unit runs ≡ false → AreApart gone (runs ++ run ∷ [])
apart_new gone [] run a new fresh = (new, refl, tt)
apart_new gone (x ∷ runs) run a new fresh =
    let n = neither (same_unit run.unit x.unit) (has_run run.unit runs) fresh in
    (a.0, all_new x.unit runs run a.1 (apart_back run.unit x.unit n.0), apart_new gone runs run a.2 new n.1)
