-- incarnations that system tasks have still to find, and those that can still fail
use Rattle.std.proofs.Common.{◌≡◌, ℕ, zero, suc, ◌+◌, ◌<◌, ◌≤◌, List, [], ◌∷◌, ◌++◌, length, get_or, Bool, true, false, not, cond, Option, Some, None, refl, ap, subst, arith}
use Rattle.std.specs.Prelude.{◌==◌, ◌&&◌, ◌||◌, map, filter, fold, count_by}
use Rattle.std.specs.List.{AllByRecursion, list_any}
use Rattle.std.proofs.lemmas.Bool.{false≢true}
use Rattle.std.proofs.lemmas.Bool.Decides.{nat_tests}
use Rattle.std.proofs.lemmas.List.Folds.{list_any-append}
use Rattle.std.proofs.lemmas.List.Sums.{sum_by-cons, sum_by_push, sum_by-le-sum_by}
use Rattle.std.proofs.lemmas.Option.{none-some, same_Some}
use Rattle.qsg_num.specs.declared.ids.Incarnation.{Incarnation}
use Rattle.qsg_num.specs.declared.seats.Member.{Member}
use Rattle.qsg_num.specs.Seats.{member_number}
use Rattle.qsg_repo.specs.declared.lives.Fate.{Fate}
use Rattle.qsg_repo.specs.declared.lives.Fate.TheVariants as fate
use Rattle.qsg_repo.specs.declared.lives.Life.{Life}
use Rattle.qsg_repo.specs.Lives.{is_failed, is_unharmed, is_up, is_life, is_failed_life, failed_life, resolved_life, name_of, is_name, is_open, lesser, is_before, first_open}
use Rattle.qsg_steady.specs.Steady.{is_up_life}
use Rattle.qsg_pace.specs.Pace.{unharmed}

-- ---- tests that pass for fewer

abbrev one_if : Bool → ℕ
one_if b = cond b 1 0

one_most : (b : Bool) → one_if b ≤ 1
one_most true = omega arith
one_most false = omega arith

one_fewer : (x y : Bool) → (x ≡ true → y ≡ true) → one_if x ≤ one_if y
one_fewer true true more = omega arith
one_fewer true false more = absurd (false≢true (more refl))
one_fewer false y more = omega arith

count-cons : (p : Life → Bool) (l : Life) (lives : List Life) → count_by p (l ∷ lives) ≡ one_if (p l) + count_by p lives
count-cons p l lives = sum_by-cons (λ (x : Life). cond (p x) 1 0) l lives

fewer : (q p : Life → Bool) (lives : List Life) → ((l : Life) → q l ≡ true → p l ≡ true) → count_by q lives ≤ count_by p lives
fewer q p lives more = sum_by-le-sum_by (λ (l : Life). cond (q l) 1 0) (λ (l : Life). cond (p l) 1 0) lives (λ l. one_fewer (q l) (p l) (more l))

pub count_most : (p : Life → Bool) (lives : List Life) → count_by p lives ≤ length lives
count_most p [] = omega arith
count_most p (l ∷ lives) = omega (arith, count-cons p l lives, one_most (p l), count_most p lives)

mapped_fewer : (q p : Life → Bool) (f : Life → Life) (lives : List Life) → ((l : Life) → q (f l) ≡ true → p l ≡ true) → count_by q (map f lives) ≤ count_by p lives
mapped_fewer q p f [] more = omega arith
mapped_fewer q p f (l ∷ lives) more =
    omega (arith, count-cons q (f l) (map f lives), count-cons p l lives, one_fewer (q (f l)) (p l) (more l), mapped_fewer q p f lives more)

-- one that passes doesn't any more
one_less : (q p : Life → Bool) (lives : List Life) (i : ℕ) (d : Life) → i < length lives → ((l : Life) → q l ≡ true → p l ≡ true) → p (get_or lives i d) ≡ true → q (get_or lives i d) ≡ false → count_by q lives + 1 ≤ count_by p lives
one_less q p [] i d within more is not = absurd (omega (arith, within))
one_less q p (l ∷ lives) zero d within more is not = omega (arith, count-cons q l lives, count-cons p l lives, ap one_if is, ap one_if not, fewer q p lives more)
one_less q p (l ∷ lives) (suc i) d within more is not =
    omega (arith, count-cons q l lives, count-cons p l lives, one_fewer (q l) (p l) (more l), one_less q p lives i d (omega (arith, within)) more is not)

-- ---- one that is found

lesser_is : (Q : Member × Incarnation → Type 0) (a : Option (Member × Incarnation)) (x : Member × Incarnation) → ((y : Member × Incarnation) → a ≡ Some y → Q y) → Q x → (y : Member × Incarnation) → lesser a x ≡ Some y → Q y
lesser_is Q None x old new y is = subst Q (same_Some x y is) new
lesser_is Q (Some a) x old new y is = by (is_before x a) is
  where
    by : (b : Bool) → cond b (Some x) (Some a) ≡ Some y → Q y
    by true same = subst Q (same_Some x y same) new
    by false same = old y same

least_is : (Q : Member × Incarnation → Type 0) (names : List (Member × Incarnation)) (a : Option (Member × Incarnation)) → ((y : Member × Incarnation) → a ≡ Some y → Q y) → AllByRecursion Q names
    → (y : Member × Incarnation) → fold lesser a names ≡ Some y → Q y
least_is Q [] a old all = old
least_is Q (x ∷ names) a old all = least_is Q names (lesser a x) (lesser_is Q a x old all.0) all.1

open_named : (P : Member × Incarnation → Type 0) (skip : List (Member × Incarnation)) (lives : List Life) → AllByRecursion (λ (l : Life). is_open skip l ≡ true → P (name_of l)) lives → AllByRecursion P (map name_of (filter (is_open skip) lives))
open_named P skip [] all = tt
open_named P skip (l ∷ lives) all = by (is_open skip l) refl (open_named P skip lives all.1)
  where
    by : (b : Bool) → is_open skip l ≡ b → AllByRecursion P (map name_of (filter (is_open skip) lives)) → AllByRecursion P (map name_of (cond b (l ∷ filter (is_open skip) lives) (filter (is_open skip) lives)))
    by true is more = (all.0 is, more)
    by false is more = more

all_at : (P : Life → Type 0) (d : Life) (lives : List Life) → ((i : ℕ) → i < length lives → P (get_or lives i d)) → AllByRecursion P lives
all_at P d [] each = tt
all_at P d (l ∷ lives) each = (each 0 (omega arith), all_at P d lives (λ i less. each (suc i) (omega (arith, less))))

without : (f a r : Bool) → (f && not (a || r)) ≡ true → (f && not r) ≡ true
without false a r is = is
without true true r is = absurd (false≢true is)
without true false r is = is

itself : (a x : ℕ) (f r : Bool) → (f && not (((a == a) && (x == x)) || r)) ≡ false
itself a x f r = grind (arith, nat_tests)

-- one fewer has still to be found
pub found_less : (skip : List (Member × Incarnation)) (lives : List Life) (n : Member × Incarnation) → first_open skip lives ≡ Some n → count_by (is_open (n ∷ skip)) lives + 1 ≤ count_by (is_open skip) lives
found_less skip lives n is = least_is P (map name_of (filter (is_open skip) lives)) None (λ y none. absurd (none-some y none)) (open_named P skip lives (all_at (λ (l : Life). is_open skip l ≡ true → P (name_of l)) d lives each)) n is
  where
    d : Life
    d = record { member = n.0; incarnation = n.1; fate = fate.Failed }

    P : Member × Incarnation → Type 0
    P x = count_by (is_open (x ∷ skip)) lives + 1 ≤ count_by (is_open skip) lives

    each : (i : ℕ) → i < length lives → is_open skip (get_or lives i d) ≡ true → P (name_of (get_or lives i d))
    each i less is =
        let l = get_or lives i d in
        one_less (is_open (name_of l ∷ skip)) (is_open skip) lives i d less
        (λ x. without (is_failed x.fate) (is_name x (name_of l)) (list_any (is_name x) skip)) is
        (itself (member_number l.member) l.incarnation.number (is_failed l.fate) (list_any (is_name l) skip))

-- ---- one that is resolved, or given up

still_open : (m : Member) (i : Incarnation) (skip : List (Member × Incarnation)) (l : Life) → is_open skip (resolved_life m i l) ≡ true → is_open skip l ≡ true
still_open m i skip l is = by (is_failed_life m i l) is
  where
    by : (b : Bool) → is_open skip (cond b (record l { fate = fate.Resolved }) l) ≡ true → is_open skip l ≡ true
    by true is = absurd (false≢true is)
    by false is = is

pub resolved_fewer : (m : Member) (i : Incarnation) (skip : List (Member × Incarnation)) (lives : List Life) → count_by (is_open skip) (map (resolved_life m i) lives) ≤ count_by (is_open skip) lives
resolved_fewer m i skip lives = mapped_fewer (is_open skip) (is_open skip) (resolved_life m i) lives (still_open m i skip)

apart : (a b x y : ℕ) (f r : Bool) → (((a == b) && (x == y)) && f) ≡ false → (f && not r) ≡ true → (f && not (((b == a) && (y == x)) || r)) ≡ true
apart a b x y f r not is = grind (arith, nat_tests)

is_another : (m : Member) (i : Incarnation) (skip : List (Member × Incarnation)) (l : Life) → is_open skip (resolved_life m i l) ≡ true → is_open ((m, i) ∷ skip) l ≡ true
is_another m i skip l is = by (is_failed_life m i l) refl is
  where
    by : (b : Bool) → is_failed_life m i l ≡ b → is_open skip (cond b (record l { fate = fate.Resolved }) l) ≡ true → is_open ((m, i) ∷ skip) l ≡ true
    by true same is = absurd (false≢true is)
    by false same is = apart (member_number l.member) (member_number m) l.incarnation.number i.number (is_failed l.fate) (list_any (is_name l) skip) same is

-- it needs not be passed by any more
pub resolved_found : (m : Member) (i : Incarnation) (skip : List (Member × Incarnation)) (lives : List Life) → count_by (is_open skip) (map (resolved_life m i) lives) ≤ count_by (is_open ((m, i) ∷ skip)) lives
resolved_found m i skip lives = mapped_fewer (is_open skip) (is_open ((m, i) ∷ skip)) (resolved_life m i) lives (is_another m i skip)

resolved_harmed : (m : Member) (i : Incarnation) (l : Life) → is_unharmed (resolved_life m i l).fate ≡ true → is_unharmed l.fate ≡ true
resolved_harmed m i l is = by (is_failed_life m i l) is
  where
    by : (b : Bool) → is_unharmed (cond b (record l { fate = fate.Resolved }) l).fate ≡ true → is_unharmed l.fate ≡ true
    by true is = absurd (false≢true is)
    by false is = is

pub resolved_unharmed : (m : Member) (i : Incarnation) (lives : List Life) → unharmed (map (resolved_life m i) lives) ≤ unharmed lives
resolved_unharmed m i lives = mapped_fewer (λ (l : Life). is_unharmed l.fate) (λ (l : Life). is_unharmed l.fate) (resolved_life m i) lives (resolved_harmed m i)

first_or_last : (f a r : Bool) → (f && not (r || (a || false))) ≡ true → (f && not (a || r)) ≡ true
first_or_last false a r is = is
first_or_last true a true is = absurd (false≢true is)
first_or_last true true false is = absurd (false≢true is)
first_or_last true false false is = is

pub given_up_fewer : (skip : List (Member × Incarnation)) (n : Member × Incarnation) (lives : List Life) → count_by (is_open (skip ++ n ∷ [])) lives ≤ count_by (is_open (n ∷ skip)) lives
given_up_fewer skip n lives = fewer (is_open (skip ++ n ∷ [])) (is_open (n ∷ skip)) lives (λ l is.
    first_or_last (is_failed l.fate) (is_name l n) (list_any (is_name l) skip) (subst (λ (b : Bool). (is_failed l.fate && not b) ≡ true) (list_any-append (is_name l) skip (n ∷ [])) is))

-- ---- one that begins

pub begun_open : (skip : List (Member × Incarnation)) (lives : List Life) (l : Life) → l.fate ≡ fate.Up → count_by (is_open skip) (lives ++ l ∷ []) ≤ count_by (is_open skip) lives
begun_open skip lives l up =
    let one : one_if (is_open skip l) ≡ 0 = ap (λ (f : Fate). one_if (is_failed f && not (list_any (is_name l) skip))) up in
    omega (arith, sum_by_push (λ (x : Life). cond (is_open skip x) 1 0) lives l, one)

pub begun_unharmed : (lives : List Life) (l : Life) → unharmed (lives ++ l ∷ []) ≤ unharmed lives + 1
begun_unharmed lives l = omega (arith, sum_by_push (λ (x : Life). cond (is_unharmed x.fate) 1 0) lives l, one_most (is_unharmed l.fate))

-- ---- one that fails

pub both : (a b : Bool) → (a && b) ≡ true → (a ≡ true) × (b ≡ true)
both true b is = (refl, is)
both false b is = absurd (false≢true is)

abbrev is_whole : Life → Bool
is_whole l = is_unharmed l.fate

one_fails : (m : Member) (i : Incarnation) (skip : List (Member × Incarnation)) (l : Life) → one_if (is_open skip (failed_life m i l)) + one_if (is_whole (failed_life m i l)) ≤ one_if (is_open skip l) + one_if (is_whole l)
one_fails m i skip l = by (is_life m i l && is_whole l) refl
  where
    by : (b : Bool) → (is_life m i l && is_whole l) ≡ b
        → one_if (is_open skip (cond b (record l { fate = fate.Failed }) l)) + one_if (is_whole (cond b (record l { fate = fate.Failed }) l)) ≤ one_if (is_open skip l) + one_if (is_whole l)
    by true is = omega (arith, one_most (is_open skip (record l { fate = fate.Failed })), ap one_if (both (is_life m i l) (is_whole l) is).1)
    by false is = omega arith

-- as many more at most have to be found as have failed
pub failed_open : (m : Member) (i : Incarnation) (skip : List (Member × Incarnation)) (lives : List Life) → count_by (is_open skip) (map (failed_life m i) lives) + unharmed (map (failed_life m i) lives) ≤ count_by (is_open skip) lives + unharmed lives
failed_open m i skip [] = omega arith
failed_open m i skip (l ∷ lives) =
    let f = failed_life m i in
    omega (arith, count-cons (is_open skip) (f l) (map f lives), count-cons is_whole (f l) (map f lives), count-cons (is_open skip) l lives, count-cons is_whole l lives, one_fails m i skip l, failed_open m i skip lives)

still_whole : (m : Member) (i : Incarnation) (l : Life) → is_whole (failed_life m i l) ≡ true → is_whole l ≡ true
still_whole m i l is = by (is_life m i l && is_whole l) is
  where
    by : (b : Bool) → is_whole (cond b (record l { fate = fate.Failed }) l) ≡ true → is_whole l ≡ true
    by true is = absurd (false≢true is)
    by false is = is

up_whole : (f : Fate) → is_up f ≡ true → is_unharmed f ≡ true
up_whole fate.Up is = refl
up_whole fate.Stopped is = refl
up_whole fate.Failed is = is
up_whole fate.Resolved is = is

fails : (m : Member) (i : Incarnation) (l : Life) → is_up_life m i l ≡ true → (is_life m i l && is_whole l) ≡ true
fails m i l is = let b = both (is_life m i l) (is_up l.fate) is in (λ x. b.0 x && up_whole l.fate b.1 x)

-- one that is up has failed
pub failed_less : (m : Member) (i : Incarnation) (lives : List Life) → list_any (is_up_life m i) lives ≡ true → unharmed (map (failed_life m i) lives) + 1 ≤ unharmed lives
failed_less m i [] is = absurd (false≢true is)
failed_less m i (l ∷ lives) is = by (is_up_life m i l) refl is (failed_less m i lives)
  where
    f : Life → Life
    f = failed_life m i

    rest : unharmed (map f lives) ≤ unharmed lives
    rest = mapped_fewer is_whole is_whole f lives (still_whole m i)

    by : (b : Bool) → is_up_life m i l ≡ b → (b || list_any (is_up_life m i) lives) ≡ true → (list_any (is_up_life m i) lives ≡ true → unharmed (map f lives) + 1 ≤ unharmed lives) → unharmed (map f (l ∷ lives)) + 1 ≤ unharmed (l ∷ lives)
    by true up is more =
        let gone : one_if (is_whole (f l)) ≡ 0 = ap (λ (b : Bool). one_if (is_whole (cond b (record l { fate = fate.Failed }) l))) (fails m i l up) in
        let was : one_if (is_whole l) ≡ 1 = ap one_if (both (is_life m i l) (is_whole l) (fails m i l up)).1 in
        omega (arith, count-cons is_whole (f l) (map f lives), count-cons is_whole l lives, gone, was, rest)
    by false up is more =
        omega (arith, count-cons is_whole (f l) (map f lives), count-cons is_whole l lives, one_fewer (is_whole (f l)) (is_whole l) (still_whole m i l), more is)
