-- what a crash, a start and a resolve make of the incarnations that the repository lists, and of the pages that it names
use Rattle.std.proofs.Common.{◌≡◌, ℕ, zero, suc, ◌+◌, List, [], ◌∷◌, Bool, true, false, cond, map, refl, sym, ap, ◌∙◌, true≢false, arith}
use Rattle.std.specs.Prelude.{◌==◌, ◌&&◌, ◌||◌, count_by, slice_set}
use Rattle.std.specs.List.{AllByRecursion, list_any, flat_map}
use Rattle.std.proofs.lemmas.Bool.{and_parts, eqb-true}
use Rattle.std.proofs.lemmas.Bool.Decides.{nat_tests}
use Rattle.std.proofs.lemmas.List.Folds.{list_any-append}
use Rattle.std.proofs.lemmas.List.Sums.{sum_by-cons, sum_by_push}
use Rattle.qsg_num.specs.declared.ids.Incarnation.{Incarnation}
use Rattle.qsg_num.specs.declared.seats.Member.{Member}
use Rattle.qsg_num.specs.Seats.{member_number}
use Rattle.qsg_repo.specs.declared.lives.Fate.{Fate}
use Rattle.qsg_repo.specs.declared.lives.Fate.TheVariants as fate
use Rattle.qsg_repo.specs.declared.lives.Life.{Life}
use Rattle.qsg_repo.specs.declared.needs.Holds.{Holds}
use Rattle.qsg_repo.specs.Lives.{is_member, is_life, is_up, is_failed, is_unharmed, is_failed_life, failed_life, resolved_life}
use Rattle.qsg_repo.specs.Keeping.{noted_pages, pages_held}
use Rattle.qsg_repo.specs.Tables.{Repository, no_holds, member_place}
use Rattle.qsg_repo.specs.Calls.{crashed, next_incarnation, started, resolved, is_unresolved}
use Rattle.qsg_repo.proofs.Falling.{keep-crashed}
use Rattle.qsg_group.proofs.Tables.{same_member}
use Rattle.qsg_steady.specs.Steady.{is_up_life}
use Rattle.qsg_steady.proofs.Starts.{all_apart, all_joint}
use Rattle.qsg_lives.proofs.Raising.{NamesFewer}

-- ---- whose life it is

-- the same member and incarnation, by their numbers
abbrev pub same_life : Member → Incarnation → Member → Incarnation → Bool
same_life k i m j = (member_number k == member_number m) && (i.number == j.number)

pub life_is : (k m : Member) (i j : Incarnation) → same_life k i m j ≡ true → (k ≡ m) × (i ≡ j)
life_is k m i j is =
    let parts = and_parts (member_number k == member_number m) (i.number == j.number) is in
    (same_member k m (eqb-true (member_number k) (member_number m) parts.0), (λ x. record { number = eqb-true i.number j.number parts.1 x }))

apart : (a b c x y z : ℕ) → ((a == c) && (x == z)) ≡ true → ((b == c) && (y == z)) ≡ false → ((a == b) && (x == y)) ≡ false
apart a b c x y z is differ = grind (arith, nat_tests)

-- another life is none of that one
other_life : (k m : Member) (i j : Incarnation) (l : Life) → same_life k i m j ≡ false → is_life m j l ≡ true → is_life k i l ≡ false
other_life k m i j l differ is = apart (member_number l.member) (member_number k) (member_number m) l.incarnation.number i.number j.number is differ

first_true : (a b : Bool) → (a && b) ≡ true → a ≡ true
first_true true b is = refl
first_true false b is = absurd (true≢false (sym is))

-- ---- a crash

fails_other : (k m : Member) (i j : Incarnation) (f : Bool → Fate → Bool) (l : Life) → same_life k i m j ≡ false → ((x : Fate) → f false x ≡ false) → f (is_life k i (failed_life m j l)) (failed_life m j l).fate ≡ f (is_life k i l) l.fate
fails_other k m i j f l differ none = by (is_life m j l && is_unharmed l.fate) refl
  where
    by : (b : Bool) → (is_life m j l && is_unharmed l.fate) ≡ b → f (is_life k i (cond b (record l { fate = fate.Failed }) l)) (cond b (record l { fate = fate.Failed }) l).fate ≡ f (is_life k i l) l.fate
    by true is =
        let other = other_life k m i j l differ (first_true (is_life m j l) (is_unharmed l.fate) is) in
        ap (λ (b : Bool). f b fate.Failed) other ∙ none fate.Failed ∙ sym (none l.fate) ∙ sym (ap (λ (b : Bool). f b l.fate) other)
    by false is = refl

any_other : (k m : Member) (i j : Incarnation) (f : Bool → Fate → Bool) (ls : List Life) → same_life k i m j ≡ false → ((x : Fate) → f false x ≡ false)
    → list_any (λ (l : Life). f (is_life k i l) l.fate) (map (failed_life m j) ls) ≡ list_any (λ (l : Life). f (is_life k i l) l.fate) ls
any_other k m i j f [] differ none = refl
any_other k m i j f (l ∷ ls) differ none = λ x. fails_other k m i j f l differ none x || any_other k m i j f ls differ none x

-- another incarnation is unresolved where it was, and up where it was
pub fails_unresolved : (k m : Member) (i j : Incarnation) (ls : List Life) → same_life k i m j ≡ false → list_any (is_failed_life k i) (map (failed_life m j) ls) ≡ list_any (is_failed_life k i) ls
fails_unresolved k m i j ls differ = any_other k m i j (λ b x. b && is_failed x) ls differ (λ x. refl)

pub fails_up : (k m : Member) (i j : Incarnation) (ls : List Life) → same_life k i m j ≡ false → list_any (is_up_life k i) (map (failed_life m j) ls) ≡ list_any (is_up_life k i) ls
fails_up k m i j ls differ = any_other k m i j (λ b x. b && is_up x) ls differ (λ x. refl)

up_unharmed : (x : Fate) → is_up x ≡ true → is_unharmed x ≡ true
up_unharmed fate.Up is = refl
up_unharmed fate.Stopped is = refl
up_unharmed fate.Failed is = absurd (true≢false (sym is))
up_unharmed fate.Resolved is = absurd (true≢false (sym is))

both_true : (a b : Bool) → a ≡ true → b ≡ true → (a && b) ≡ true
both_true a b one two = (λ x. one x && two x)

any_or : (a b : Bool) → (a ≡ true → b ≡ true) → (c d : Bool) → (c ≡ true → d ≡ true) → (a || c) ≡ true → (b || d) ≡ true
any_or true b more c d then is = ap (λ (x : Bool). x || d) (more refl)
any_or false true more c d then is = refl
any_or false false more c d then is = then is

-- the one that was up is unresolved
pub fails_here : (m : Member) (j : Incarnation) (ls : List Life) → list_any (is_up_life m j) ls ≡ true → list_any (is_failed_life m j) (map (failed_life m j) ls) ≡ true
fails_here m j [] is = absurd (true≢false (sym is))
fails_here m j (l ∷ ls) is = any_or (is_up_life m j l) (is_failed_life m j (failed_life m j l)) one (list_any (is_up_life m j) ls) (list_any (is_failed_life m j) (map (failed_life m j) ls)) (fails_here m j ls) is
  where
    one : is_up_life m j l ≡ true → is_failed_life m j (failed_life m j l) ≡ true
    one up =
        let parts = and_parts (is_life m j l) (is_up l.fate) up in
        ap (λ (b : Bool). is_failed_life m j (cond b (record l { fate = fate.Failed }) l)) (both_true (is_life m j l) (is_unharmed l.fate) parts.0 (up_unharmed l.fate parts.1)) ∙ both_true (is_life m j l) true parts.0 refl

fails_member : (k m : Member) (j : Incarnation) (l : Life) → is_member k (failed_life m j l) ≡ is_member k l
fails_member k m j l = by (is_life m j l && is_unharmed l.fate)
  where
    by : (b : Bool) → is_member k (cond b (record l { fate = fate.Failed }) l) ≡ is_member k l
    by true = refl
    by false = refl

counts_mapped : (p : Life → Bool) (f : Life → Life) (ls : List Life) → ((l : Life) → p (f l) ≡ p l) → count_by p (map f ls) ≡ count_by p ls
counts_mapped p f [] same = refl
counts_mapped p f (l ∷ ls) same =
    sum_by-cons (λ (x : Life). cond (p x) 1 0) (f l) (map f ls) ∙ (λ i. cond (same l i) 1 0 + counts_mapped p f ls same i) ∙ sym (sum_by-cons (λ (x : Life). cond (p x) 1 0) l ls)

pub fails_count : (k m : Member) (j : Incarnation) (ls : List Life) → count_by (is_member k) (map (failed_life m j) ls) ≡ count_by (is_member k) ls
fails_count k m j ls = counts_mapped (is_member k) (failed_life m j) ls (fails_member k m j)

-- what the machine has of failed incarnations after a crash
pub fails_all : (k m : Member) (i j : Incarnation) (ls : List Life) → list_any (is_up_life m j) ls ≡ true → list_any (is_failed_life k i) (map (failed_life m j) ls) ≡ (same_life k i m j || list_any (is_failed_life k i) ls)
fails_all k m i j ls up = by (same_life k i m j) refl
  where
    by : (b : Bool) → same_life k i m j ≡ b → list_any (is_failed_life k i) (map (failed_life m j) ls) ≡ (b || list_any (is_failed_life k i) ls)
    by true is = let same = life_is k m i j is in (λ x. list_any (is_failed_life (same.0 x) (same.1 x)) (map (failed_life m j) ls)) ∙ fails_here m j ls up
    by false is = fails_unresolved k m i j ls is

-- ---- a start

abbrev pub new_life : Member → Repository → Life
new_life m repo = record { member = m; incarnation = next_incarnation m repo; fate = fate.Up }

or_false_right : (a b : Bool) → b ≡ false → (a || b) ≡ a
or_false_right true b none = refl
or_false_right false b none = none

and_false_right : (a : Bool) → ((a && false) || false) ≡ false
and_false_right true = refl
and_false_right false = refl

pub starts_unresolved : (k m : Member) (i : Incarnation) (repo : Repository) → is_unresolved k i (started m repo) ≡ is_unresolved k i repo
starts_unresolved k m i repo =
    list_any-append (is_failed_life k i) repo.lives (new_life m repo ∷ [])
    ∙ or_false_right (list_any (is_failed_life k i) repo.lives) (list_any (is_failed_life k i) (new_life m repo ∷ [])) (and_false_right (is_life k i (new_life m repo)))

pub starts_up : (k m : Member) (i : Incarnation) (repo : Repository) → list_any (is_up_life k i) repo.lives ≡ true → list_any (is_up_life k i) (started m repo).lives ≡ true
starts_up k m i repo is = list_any-append (is_up_life k i) repo.lives (new_life m repo ∷ []) ∙ ap (λ (b : Bool). b || list_any (is_up_life k i) (new_life m repo ∷ [])) is

or_true_right : (a b : Bool) → b ≡ true → (a || b) ≡ true
or_true_right true b is = refl
or_true_right false b is = is

own_true : (a b : ℕ) → ((((a == a) && (b == b)) && true) || false) ≡ true
own_true a b = grind (arith, nat_tests)

pub starts_here : (m : Member) (repo : Repository) → list_any (is_up_life m (next_incarnation m repo)) (started m repo).lives ≡ true
starts_here m repo =
    let i = next_incarnation m repo in
    list_any-append (is_up_life m i) repo.lives (new_life m repo ∷ [])
    ∙ or_true_right (list_any (is_up_life m i) repo.lives) (list_any (is_up_life m i) (new_life m repo ∷ [])) (own_true (member_number m) i.number)

pub starts_count : (k m : Member) (repo : Repository) → count_by (is_member k) (started m repo).lives ≡ count_by (is_member k) repo.lives + cond (member_number m == member_number k) 1 0
starts_count k m repo = sum_by_push (λ (l : Life). cond (is_member k l) 1 0) repo.lives (new_life m repo)

-- ---- a resolve

resolves_one : (k m : Member) (i j : Incarnation) (l : Life) → is_failed_life k i (resolved_life m j l) ≡ true → is_failed_life k i l ≡ true
resolves_one k m i j l = by (is_failed_life m j l)
  where
    none : (a : Bool) → (a && false) ≡ true → ⊥
    none true is = true≢false (sym is)
    none false is = true≢false (sym is)

    by : (b : Bool) → is_failed_life k i (cond b (record l { fate = fate.Resolved }) l) ≡ true → is_failed_life k i l ≡ true
    by true is = absurd (none (is_life k i l) is)
    by false is = is

resolves_any : (k m : Member) (i j : Incarnation) (ls : List Life) → list_any (is_failed_life k i) (map (resolved_life m j) ls) ≡ true → list_any (is_failed_life k i) ls ≡ true
resolves_any k m i j [] is = is
resolves_any k m i j (l ∷ ls) is = any_or (is_failed_life k i (resolved_life m j l)) (is_failed_life k i l) (resolves_one k m i j l) (list_any (is_failed_life k i) (map (resolved_life m j) ls)) (list_any (is_failed_life k i) ls) (resolves_any k m i j ls) is

pub resolves_unresolved : (k m : Member) (i j : Incarnation) (repo : Repository) → is_unresolved k i (resolved m j repo) ≡ true → is_unresolved k i repo ≡ true
resolves_unresolved k m i j repo is = resolves_any k m i j repo.lives is

failed_down : (x : Fate) → is_failed x ≡ true → is_up x ≡ false
failed_down fate.Up is = absurd (true≢false (sym is))
failed_down fate.Stopped is = refl
failed_down fate.Failed is = refl
failed_down fate.Resolved is = refl

resolves_up_one : (k m : Member) (i j : Incarnation) (l : Life) → is_up_life k i (resolved_life m j l) ≡ is_up_life k i l
resolves_up_one k m i j l = by (is_failed_life m j l) refl
  where
    by : (b : Bool) → is_failed_life m j l ≡ b → is_up_life k i (cond b (record l { fate = fate.Resolved }) l) ≡ is_up_life k i l
    by true is = ap (λ (b : Bool). is_life k i l && b) (sym (failed_down l.fate (and_parts (is_life m j l) (is_failed l.fate) is).1))
    by false is = refl

resolves_up_any : (k m : Member) (i j : Incarnation) (ls : List Life) → list_any (is_up_life k i) (map (resolved_life m j) ls) ≡ list_any (is_up_life k i) ls
resolves_up_any k m i j [] = refl
resolves_up_any k m i j (l ∷ ls) = λ x. resolves_up_one k m i j l x || resolves_up_any k m i j ls x

pub resolves_up : (k m : Member) (i j : Incarnation) (repo : Repository) → list_any (is_up_life k i) (resolved m j repo).lives ≡ list_any (is_up_life k i) repo.lives
resolves_up k m i j repo = resolves_up_any k m i j repo.lives

resolves_member : (k m : Member) (j : Incarnation) (l : Life) → is_member k (resolved_life m j l) ≡ is_member k l
resolves_member k m j l = by (is_failed_life m j l)
  where
    by : (b : Bool) → is_member k (cond b (record l { fate = fate.Resolved }) l) ≡ is_member k l
    by true = refl
    by false = refl

pub resolves_count : (k m : Member) (j : Incarnation) (repo : Repository) → count_by (is_member k) (resolved m j repo).lives ≡ count_by (is_member k) repo.lives
resolves_count k m j repo = counts_mapped (is_member k) (resolved_life m j) repo.lives (resolves_member k m j)

-- ---- pages that are named after a crash

held_fewer : (k : Member) (P : ℕ → Type 0) (rows : List Holds) (i : ℕ) → AllByRecursion P (flat_map (pages_held k) rows) → AllByRecursion P (flat_map (pages_held k) (slice_set rows i no_holds))
held_fewer k P [] i all = all
held_fewer k P (row ∷ rows) zero all = (all_apart P (pages_held k row) (flat_map (pages_held k) rows) all).1
held_fewer k P (row ∷ rows) (suc i) all =
    let parts = all_apart P (pages_held k row) (flat_map (pages_held k) rows) all in
    all_joint P (pages_held k row) (flat_map (pages_held k) (slice_set rows i no_holds)) parts.0 (held_fewer k P rows i parts.1)

-- a crash drops its member's holds
pub crash_names_fewer : (m : Member) (i : Incarnation) (repo : Repository) → NamesFewer (record repo { lives = map (failed_life m i) repo.lives }) (crashed m i repo)
crash_names_fewer m i repo = record {
  low = λ k. refl;
  pages = λ k P all.
      let parts = all_apart P (noted_pages k repo) (flat_map (pages_held k) repo.holds) all.1 in
      (all.0, all_joint P (noted_pages k repo) (flat_map (pages_held k) (slice_set repo.holds (member_place m) no_holds)) parts.0 (held_fewer k P repo.holds (member_place m) parts.1));
  rises = λ k. keep-crashed repo k m i;
}
