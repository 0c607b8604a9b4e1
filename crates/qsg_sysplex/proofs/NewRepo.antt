-- the repository of a new group: each member has its first incarnation, none has failed, and nothing is noted or held
use Rattle.std.proofs.Common.{◌≡◌, ℕ, zero, suc, ◌-◌, ◌≤◌, Bool, true, false, ◌==◌, ◌&&◌, ◌||◌, List, [], ◌∷◌, ◌++◌, None, replicate, refl, ap, subst, ◌∙◌, cond, arith, take, drop, length, ◌+◌}
use Rattle.std.specs.Prelude.{count_by}
use Rattle.std.proofs.lemmas.List.{length-take-le}
use Rattle.std.proofs.lemmas.List.Folds.{list_any-append}
use Rattle.std.proofs.lemmas.List.Sums.{sum_by_push}
use Rattle.std.specs.List.{AllByRecursion, list_any}
use Rattle.qsg_num.specs.declared.seats.Member.{Member}
use Rattle.qsg_num.specs.declared.seats.Member.TheVariants as members
use Rattle.qsg_num.specs.declared.ids.Incarnation.{Incarnation}
use Rattle.qsg_num.specs.Seats.{member_number}
use Rattle.qsg_repo.specs.declared.lives.Life.{Life}
use Rattle.qsg_repo.specs.declared.lives.Fate.TheVariants.{Up}
use Rattle.qsg_repo.specs.Lives.{is_up, is_member, is_life, is_failed_life}
use Rattle.qsg_repo.specs.Calls.{new_repository, is_unresolved, next_incarnation, started}
use Rattle.qsg_repo.specs.Tables.{Repository, page_at, no_holds}
use Rattle.qsg_manager.specs.declared.managers.Manager.{Manager}
use Rattle.qsg_steady.specs.Steady.{is_up_life, IsListed}
use Rattle.qsg_steady.specs.Founding.{new_manager}
use Rattle.qsg_sysplex.specs.Starting.{all_members, all_started}

pub record IsUnfailed (repo : Repository) : Type 0 where
  pub unfailed : (m : Member) (i : Incarnation) → is_unresolved m i repo ≡ false
  pub lows : repo.lows ≡ replicate 8 (page_at 0)
  pub notes : repo.notes ≡ replicate 4 None
  pub holds : repo.holds ≡ replicate 8 no_holds

any_more : (test : Life → Bool) (x : Life) (xs : List Life) → list_any test xs ≡ false → test x ≡ false → list_any test (xs ++ x ∷ []) ≡ false
any_more test x [] none not_it = by (test x) not_it
  where
    by : (b : Bool) → b ≡ false → (b || false) ≡ false
    by true e = e
    by false e = refl
any_more test x (y ∷ ys) none not_it = by (test y) (λ rest. any_more test x ys rest not_it) none
  where
    by : (b : Bool) → (list_any test ys ≡ false → list_any test (ys ++ x ∷ []) ≡ false) → (b || list_any test ys) ≡ false → (b || list_any test (ys ++ x ∷ [])) ≡ false
    by true rest e = e
    by false rest e = rest e

length-push : {X : Type 0} (xs : List X) (x : X) → length (xs ++ x ∷ []) ≡ length xs + 1
length-push [] x = refl
length-push (y ∷ ys) x = let h = length-push ys x in omega (arith, h)

abbrev up_life : Member → Incarnation → Life
up_life m i = record { member = m; incarnation = i; fate = Up }

up_unfailed : (m k : Member) (i j : Incarnation) → is_failed_life k j (up_life m i) ≡ false
up_unfailed m k i j = by (is_life k j (up_life m i))
  where
    by : (b : Bool) → (b && false) ≡ false
    by true = refl
    by false = refl

started_unfailed : (m : Member) (repo : Repository) → IsUnfailed repo → IsUnfailed (started m repo)
started_unfailed m repo kept = record {
  unfailed = λ k j. any_more (is_failed_life k j) (up_life m (next_incarnation m repo)) repo.lives (kept.unfailed k j) (up_unfailed m k (next_incarnation m repo) j);
  lows = kept.lows;
  notes = kept.notes;
  holds = kept.holds;
}

pub all_unfailed : (members : List Member) (repo : Repository) → IsUnfailed repo → IsUnfailed (all_started members repo)
all_unfailed [] repo kept = kept
all_unfailed (m ∷ members) repo kept = all_unfailed members (started m repo) (started_unfailed m repo kept)

-- ---- each member has its first incarnation, which is up

count_other : (test : Life → Bool) (xs : List Life) (x : Life) → test x ≡ false → count_by test (xs ++ x ∷ []) ≡ count_by test xs
count_other test xs x not_it = omega (arith, sum_by_push (λ (l : Life). cond (test l) 1 0) xs x, ap {B = ℕ} (λ b. cond b 1 0) not_it)

listed_stays : (m k : Member) (x : Manager) (repo : Repository) → is_member m (up_life k (next_incarnation k repo)) ≡ false → IsListed m x repo → IsListed m x (started k repo)
listed_stays m k x repo other listed =
    let life = up_life k (next_incarnation k repo) in
    let test = is_up_life m x.incarnation in
    record {
      given = count_other (is_member m) repo.lives life other ∙ listed.given;
      up = λ is. list_any-append test repo.lives (life ∷ []) ∙ ap (λ b. b || list_any test (life ∷ [])) (listed.up is);
    }

abbrev IsAnother : Member → Member → Type 0
IsAnother m k = (member_number k == member_number m) ≡ false

all_listed : (m : Member) (ks : List Member) (x : Manager) (repo : Repository) → AllByRecursion (IsAnother m) ks → IsListed m x repo → IsListed m x (all_started ks repo)
all_listed m [] x repo others listed = listed
all_listed m (k ∷ ks) x repo others listed = all_listed m ks x (started k repo) others.1 (listed_stays m k x repo others.0 listed)

all_take : (m : Member) (n : ℕ) (ks : List Member) → AllByRecursion (IsAnother m) ks → AllByRecursion (IsAnother m) (take n ks)
all_take m zero ks all = tt
all_take m (suc n) [] all = tt
all_take m (suc n) (k ∷ ks) all = (all.0, all_take m n ks all.1)

-- the members that start after one leave its incarnation
first_listed : (m : Member) (ks : List Member) (n : ℕ) (repo : Repository) → AllByRecursion (IsAnother m) ks → count_by (is_member m) repo.lives ≡ 1 → list_any (is_up_life m (record { number = 1 })) repo.lives ≡ true
    → IsListed m new_manager (all_started (take n ks) repo)
first_listed m ks n repo others given up = all_listed m (take n ks) new_manager repo (all_take m n ks others) (record { given = given; up = λ is. up })

-- so many members, and n more
abbrev with_more : Member → ℕ → ℕ
with_more members.One n = suc n
with_more members.Two n = suc (suc n)
with_more members.Three n = suc (suc (suc n))
with_more members.Four n = suc (suc (suc (suc n)))
with_more members.Five n = suc (suc (suc (suc (suc n))))
with_more members.Six n = suc (suc (suc (suc (suc (suc n)))))
with_more members.Seven n = suc (suc (suc (suc (suc (suc (suc n))))))
with_more members.Eight n = suc (suc (suc (suc (suc (suc (suc (suc n)))))))

more_is : (m : Member) (n : ℕ) → member_number m ≤ n → with_more m (n - member_number m) ≡ n
more_is members.One n within = omega (arith, within)
more_is members.Two n within = omega (arith, within)
more_is members.Three n within = omega (arith, within)
more_is members.Four n within = omega (arith, within)
more_is members.Five n within = omega (arith, within)
more_is members.Six n within = omega (arith, within)
more_is members.Seven n within = omega (arith, within)
more_is members.Eight n within = omega (arith, within)

listed_more : (m : Member) (n a b : ℕ) (c : List Bool) (d : ℕ) → IsListed m new_manager (all_started (take (with_more m n) all_members) (new_repository a b c d))
listed_more members.One n a b c d = first_listed members.One (drop 1 all_members) n _ (refl, (refl, (refl, (refl, (refl, (refl, (refl, tt))))))) refl refl
listed_more members.Two n a b c d = first_listed members.Two (drop 2 all_members) n _ (refl, (refl, (refl, (refl, (refl, (refl, tt)))))) refl refl
listed_more members.Three n a b c d = first_listed members.Three (drop 3 all_members) n _ (refl, (refl, (refl, (refl, (refl, tt))))) refl refl
listed_more members.Four n a b c d = first_listed members.Four (drop 4 all_members) n _ (refl, (refl, (refl, (refl, tt)))) refl refl
listed_more members.Five n a b c d = first_listed members.Five (drop 5 all_members) n _ (refl, (refl, (refl, tt))) refl refl
listed_more members.Six n a b c d = first_listed members.Six (drop 6 all_members) n _ (refl, (refl, tt)) refl refl
listed_more members.Seven n a b c d = first_listed members.Seven (drop 7 all_members) n _ (refl, tt) refl refl
listed_more members.Eight n a b c d = first_listed members.Eight (drop 8 all_members) n _ tt refl refl

pub new_listed : (m : Member) (n a b : ℕ) (c : List Bool) (d : ℕ) → member_number m ≤ n → IsListed m new_manager (all_started (take n all_members) (new_repository a b c d))
new_listed m n a b c d within = subst (λ k. IsListed m new_manager (all_started (take k all_members) (new_repository a b c d))) (more_is m n within) (listed_more m (n - member_number m) a b c d)

-- ---- one incarnation for each member

more_lives : (members : List Member) (repo : Repository) → length (all_started members repo).lives ≡ length repo.lives + length members
more_lives [] repo = omega arith
more_lives (m ∷ members) repo = let rest = more_lives members (started m repo) in let one = length-push repo.lives (up_life m (next_incarnation m repo)) in omega (arith, rest, one)

same_starts : (members : List Member) (repo : Repository) → (all_started members repo).starts ≡ repo.starts
same_starts [] repo = refl
same_starts (m ∷ members) repo = same_starts members (started m repo)

taken : (n : ℕ) → n ≤ 8 → length (take n all_members) ≡ n
taken n few = length-take-le n all_members (omega (arith, few))

pub new_lives : (n a b : ℕ) (c : List Bool) (d : ℕ) → n ≤ 8 → length (all_started (take n all_members) (new_repository a b c d)).lives ≡ n
new_lives n a b c d few = let all = more_lives (take n all_members) (new_repository a b c d) in let some = taken n few in omega (arith, all, some)

pub new_starts : (n a b : ℕ) (c : List Bool) (d : ℕ) → (all_started (take n all_members) (new_repository a b c d)).starts ≡ d
new_starts n a b c d = same_starts (take n all_members) (new_repository a b c d)

-- what holds of the first incarnation of each member holds of each incarnation
all-push : (P : Life → Type 0) (xs : List Life) (x : Life) → AllByRecursion P xs → P x → AllByRecursion P (xs ++ x ∷ [])
all-push P [] x each new = (new, tt)
all-push P (y ∷ ys) x each new = (each.0, all-push P ys x each.1 new)

abbrev IsOfEach : (Life → Type 0) → Member → Type 0
IsOfEach P m = (i : Incarnation) → P (up_life m i)

all-lives : (P : Life → Type 0) (ms : List Member) (repo : Repository) → AllByRecursion (IsOfEach P) ms → AllByRecursion P repo.lives → AllByRecursion P (all_started ms repo).lives
all-lives P [] repo each old = old
all-lives P (m ∷ ms) repo each old = all-lives P ms (started m repo) each.1 (all-push P repo.lives (up_life m (next_incarnation m repo)) old (each.0 (next_incarnation m repo)))

pub all_ups : (ms : List Member) (a b : ℕ) (c : List Bool) (d : ℕ) → AllByRecursion (λ (l : Life). is_up l.fate ≡ true) (all_started ms (new_repository a b c d)).lives
all_ups ms a b c d = all-lives (λ (l : Life). is_up l.fate ≡ true) ms (new_repository a b c d) (each ms) tt
  where
    each : (ns : List Member) → AllByRecursion (IsOfEach (λ (l : Life). is_up l.fate ≡ true)) ns
    each [] = tt
    each (n ∷ ns) = (λ i. refl, each ns)

-- the first so many members have numbers up to that
abbrev AreNumberedFrom : ℕ → List Member → Type 0
AreNumberedFrom k [] = Unit {0}
AreNumberedFrom k (m ∷ ms) = (member_number m ≡ k + 1) × AreNumberedFrom (k + 1) ms

below : (most k n : ℕ) (ms : List Member) → k + n ≤ most → AreNumberedFrom k ms → AllByRecursion (IsOfEach (λ (l : Life). member_number l.member ≤ most)) (take n ms)
below most k zero ms le is = tt
below most k (suc n) [] le is = tt
below most k (suc n) (m ∷ ms) le is = (λ i. omega (arith, le, is.0), below most (k + 1) n ms (omega (arith, le)) is.1)

pub all_members_below : (most n a b : ℕ) (c : List Bool) (d : ℕ) → n ≤ most → AllByRecursion (λ (l : Life). member_number l.member ≤ most) (all_started (take n all_members) (new_repository a b c d)).lives
all_members_below most n a b c d le = all-lives (λ (l : Life). member_number l.member ≤ most) (take n all_members) (new_repository a b c d) (below most 0 n all_members (omega (arith, le)) (refl, (refl, (refl, (refl, (refl, (refl, (refl, (refl, tt))))))))) tt
