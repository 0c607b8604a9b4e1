-- tallies in their rows, and incarnations in theirs
use Rattle.std.proofs.Common.{◌≡◌, ℕ, ◌+◌, ◌≤◌, Bool, true, false, cond, List, [], ◌∷◌, ◌++◌, length, map, suc, Option, Some, None, refl, sym, ap, subst, ◌∙◌, true≢false, arith}
use Rattle.std.specs.Prelude.{◌&&◌, ◌||◌, not, count_by, IsSome}
use Rattle.std.specs.List.{AllByRecursion, find, list_any}
use Rattle.std.proofs.lemmas.Bool.{and_parts}
use Rattle.std.proofs.lemmas.Option.{none-some, same_Some}
use Rattle.std.proofs.lemmas.List.Sums.{sum_by-cons, sum_by_push}
use Rattle.qsg_num.specs.declared.seats.Member.{Member}
use Rattle.qsg_num.specs.declared.ids.Incarnation.{Incarnation}
use Rattle.qsg_repo.specs.declared.lives.Fate.{Fate}
use Rattle.qsg_repo.specs.declared.lives.Fate.TheVariants as fate
use Rattle.qsg_repo.specs.declared.lives.Life.{Life}
use Rattle.qsg_repo.specs.Lives.{is_life, is_up, is_failed, is_unharmed, is_failed_life, failed_life, resolved_life}
use Rattle.qsg_steady.specs.Steady.{is_up_life}
use Rattle.qsg_lives.proofs.Incarnations.{life_is}
use Rattle.qsg_tallies.specs.declared.tally.Tally.{Tally}
use Rattle.qsg_tallies.specs.Tallies.{is_tally_of, with_one, counted_in}
use Rattle.qsg_sound.specs.Tallying.{is_down, tally_of}
use Rattle.qsg_sound.proofs.SystemsFound.{both_true}

-- ---- lists

pub all_push : {X : Type 0} (P : X → Type 0) (xs : List X) (y : X) → AllByRecursion P xs → P y → AllByRecursion P (xs ++ y ∷ [])
all_push P [] y all new = (new, tt)
all_push P (x ∷ xs) y all new = (all.0, all_push P xs y all.1 new)

pub all_map : {X : Type 0} (P Q : X → Type 0) (f : X → X) (xs : List X) → ((x : X) → P x → Q (f x)) → AllByRecursion P xs → AllByRecursion Q (map f xs)
all_map P Q f [] keeps all = tt
all_map P Q f (x ∷ xs) keeps all = (keeps x all.0, all_map P Q f xs keeps all.1)

pub all_both : {X : Type 0} (P Q R : X → Type 0) (xs : List X) → ((x : X) → P x → Q x → R x) → AllByRecursion P xs → AllByRecursion Q xs → AllByRecursion R xs
all_both P Q R [] joins ps qs = tt
all_both P Q R (x ∷ xs) joins ps qs = (joins x ps.0 qs.0, all_both P Q R xs joins ps.1 qs.1)

-- what is found is found still behind more
pub found_push : {X : Type 0} (f : X → Bool) (xs : List X) (y x : X) → find f xs ≡ Some x → find f (xs ++ y ∷ []) ≡ Some x
found_push f [] y x is = cc is
found_push f (z ∷ xs) y x is = by (f z) (found_push f xs y x) is
  where
    by : (b : Bool) → (find f xs ≡ Some x → find f (xs ++ y ∷ []) ≡ Some x) → cond b (Some z) (find f xs) ≡ Some x → cond b (Some z) (find f (xs ++ y ∷ [])) ≡ Some x
    by true rest is = is
    by false rest is = rest is

pub some_push : {X : Type 0} (f : X → Bool) (xs : List X) (y : X) → IsSome (find f xs) → IsSome (find f (xs ++ y ∷ []))
some_push f [] y some = absurd (true≢false (sym some))
some_push f (z ∷ xs) y some = by (f z) (some_push f xs y) some
  where
    by : (b : Bool) → (IsSome (find f xs) → IsSome (find f (xs ++ y ∷ []))) → IsSome (cond b (Some z) (find f xs)) → IsSome (cond b (Some z) (find f (xs ++ y ∷ [])))
    by true rest some = some
    by false rest some = rest some

pub new_push : {X : Type 0} (f : X → Bool) (xs : List X) (y : X) → f y ≡ true → IsSome (find f (xs ++ y ∷ []))
new_push f [] y is = subst (λ (b : Bool). IsSome (cond b (Some y) None)) (sym is) refl
new_push f (z ∷ xs) y is = by (f z) (new_push f xs y is)
  where
    by : (b : Bool) → IsSome (find f (xs ++ y ∷ [])) → IsSome (cond b (Some z) (find f (xs ++ y ∷ [])))
    by true rest = refl
    by false rest = rest

-- ---- a tally that is found

pub record FoundTally (P : Tally → Type 0) (m : Member) (i : Incarnation) (rows : List Tally) : Type 0 where
  pub tally : Tally
  pub holds : P tally
  pub is : tally_of m i rows ≡ Some tally
  pub member : tally.member ≡ m
  pub incarnation : tally.incarnation ≡ i

pub found_tally : (P : Tally → Type 0) (m : Member) (i : Incarnation) (rows : List Tally) → AllByRecursion P rows → IsSome (tally_of m i rows) → FoundTally P m i rows
found_tally P m i [] all some = absurd (true≢false (sym some))
found_tally P m i (t ∷ rows) all some = by (is_tally_of m i t) refl (found_tally P m i rows all.1) some
  where
    by : (b : Bool) → is_tally_of m i t ≡ b → (IsSome (tally_of m i rows) → FoundTally P m i rows) → IsSome (cond b (Some t) (tally_of m i rows)) → FoundTally P m i (t ∷ rows)
    by true is rest some = let same = life_is t.member m t.incarnation i is in record {
      tally = t;
      holds = all.0;
      is = ap (λ (b : Bool). cond b (Some t) (tally_of m i rows)) is;
      member = same.0;
      incarnation = same.1;
    }
    by false is rest some = let found = rest some in record {
      tally = found.tally;
      holds = found.holds;
      is = ap (λ (b : Bool). cond b (Some t) (tally_of m i rows)) is ∙ found.is;
      member = found.member;
      incarnation = found.incarnation;
    }

-- ---- incarnations that ended

abbrev pub one_if : Bool → ℕ
one_if b = cond b 1 0

down_cons : (l : Life) (ls : List Life) → count_by is_down (l ∷ ls) ≡ cond (is_down l) 1 0 + count_by is_down ls
down_cons l ls = sum_by-cons (λ (x : Life). cond (is_down x) 1 0) l ls

fails_down : (m : Member) (i : Incarnation) (l : Life) → cond (is_down l) 1 0 ≤ cond (is_down (failed_life m i l)) 1 0
fails_down m i l = by (is_life m i l && is_unharmed l.fate)
  where
    least : (b : Bool) → cond b 1 0 ≤ 1
    least true = omega arith
    least false = omega arith

    by : (b : Bool) → cond (is_down l) 1 0 ≤ cond (is_down (cond b (record l { fate = fate.Failed }) l)) 1 0
    by true = least (is_down l)
    by false = omega arith

pub down_more : (m : Member) (i : Incarnation) (ls : List Life) → count_by is_down ls ≤ count_by is_down (map (failed_life m i) ls)
down_more m i [] = omega arith
down_more m i (l ∷ ls) = omega (arith, down_cons l ls, down_cons (failed_life m i l) (map (failed_life m i) ls), fails_down m i l, down_more m i ls)

up_unharmed : (x : Fate) → is_up x ≡ true → is_unharmed x ≡ true
up_unharmed fate.Up is = refl
up_unharmed fate.Stopped is = absurd (true≢false (sym is))
up_unharmed fate.Failed is = absurd (true≢false (sym is))
up_unharmed fate.Resolved is = absurd (true≢false (sym is))

-- the one that was up has ended
up_down : (m : Member) (i : Incarnation) (l : Life) → is_up_life m i l ≡ true → (one_if (is_down l) ≡ 0) × (one_if (is_down (failed_life m i l)) ≡ 1)
up_down m i l is =
    let parts = and_parts (is_life m i l) (is_up l.fate) is in
    let fails = both_true (is_life m i l) (is_unharmed l.fate) parts.0 (up_unharmed l.fate parts.1) in
    (ap (λ (b : Bool). one_if (not b)) parts.1, ap (λ (b : Bool). one_if (is_down (cond b (record l { fate = fate.Failed }) l))) fails)

pub one_down_more : (m : Member) (i : Incarnation) (ls : List Life) → list_any (is_up_life m i) ls ≡ true → count_by is_down ls + 1 ≤ count_by is_down (map (failed_life m i) ls)
one_down_more m i [] is = absurd (true≢false (sym is))
one_down_more m i (l ∷ ls) is = by (is_up_life m i l) refl (one_down_more m i ls) is
  where
    by : (b : Bool) → is_up_life m i l ≡ b → (list_any (is_up_life m i) ls ≡ true → count_by is_down ls + 1 ≤ count_by is_down (map (failed_life m i) ls)) → (b || list_any (is_up_life m i) ls) ≡ true → count_by is_down (l ∷ ls) + 1 ≤ count_by is_down (failed_life m i l ∷ map (failed_life m i) ls)
    by true up rest is = let here = up_down m i l up in omega (arith, here.0, here.1, down_cons l ls, down_cons (failed_life m i l) (map (failed_life m i) ls), down_more m i ls)
    by false up rest is = omega (arith, down_cons l ls, down_cons (failed_life m i l) (map (failed_life m i) ls), fails_down m i l, rest is)

-- a resolve leaves which have ended
pub resolve_down : (m : Member) (i : Incarnation) (l : Life) → is_down (resolved_life m i l) ≡ is_down l
resolve_down m i l = by (is_failed_life m i l) refl
  where
    failed_down : (x : Fate) → is_failed x ≡ true → true ≡ not (is_up x)
    failed_down fate.Up is = absurd (true≢false (sym is))
    failed_down fate.Stopped is = refl
    failed_down fate.Failed is = refl
    failed_down fate.Resolved is = refl

    by : (b : Bool) → is_failed_life m i l ≡ b → is_down (cond b (record l { fate = fate.Resolved }) l) ≡ is_down l
    by true is = failed_down l.fate (and_parts (is_life m i l) (is_failed l.fate) is).1
    by false is = refl

pub down_resolved : (m : Member) (i : Incarnation) (ls : List Life) → count_by is_down (map (resolved_life m i) ls) ≡ count_by is_down ls
down_resolved m i [] = refl
down_resolved m i (l ∷ ls) = down_cons (resolved_life m i l) (map (resolved_life m i) ls) ∙ (λ j. cond (resolve_down m i l j) 1 0 + down_resolved m i ls j) ∙ sym (down_cons l ls)

pub down_started : (ls : List Life) (l : Life) → is_up l.fate ≡ true → count_by is_down (ls ++ l ∷ []) ≡ count_by is_down ls
down_started ls l up = omega (arith, sum_by_push (λ (x : Life). cond (is_down x) 1 0) ls l, ap (λ (b : Bool). one_if (not b)) up)

-- ---- rows of an incarnation

count_cons : (m : Member) (i : Incarnation) (t : Tally) (ts : List Tally) → count_by (is_tally_of m i) (t ∷ ts) ≡ cond (is_tally_of m i t) 1 0 + count_by (is_tally_of m i) ts
count_cons m i t ts = sum_by-cons (λ (x : Tally). cond (is_tally_of m i x) 1 0) t ts

pub count_push : (m : Member) (i : Incarnation) (ts : List Tally) (t : Tally) → count_by (is_tally_of m i) (ts ++ t ∷ []) ≡ count_by (is_tally_of m i) ts + cond (is_tally_of m i t) 1 0
count_push m i ts t = sum_by_push (λ (x : Tally). cond (is_tally_of m i x) 1 0) ts t

pub none_counted : (m : Member) (i : Incarnation) (ts : List Tally) → AllByRecursion (λ t. is_tally_of m i t ≡ false) ts → count_by (is_tally_of m i) ts ≡ 0
none_counted m i [] all = refl
none_counted m i (t ∷ ts) all = count_cons m i t ts ∙ (λ j. cond (all.0 j) 1 0 + none_counted m i ts all.1 j)

-- where none is counted, none is of that incarnation
pub each_other : (m : Member) (i : Incarnation) (ts : List Tally) → count_by (is_tally_of m i) ts ≡ 0 → AllByRecursion (λ t. is_tally_of m i t ≡ false) ts
each_other m i [] none = tt
each_other m i (t ∷ ts) none = by (is_tally_of m i t) refl (each_other m i ts)
  where
    by : (b : Bool) → is_tally_of m i t ≡ b → (count_by (is_tally_of m i) ts ≡ 0 → AllByRecursion (λ t. is_tally_of m i t ≡ false) ts) → AllByRecursion (λ t. is_tally_of m i t ≡ false) (t ∷ ts)
    by true is rest = absurd (omega (arith, none, count_cons m i t ts, ap one_if is))
    by false is rest = (is, rest (omega (arith, none, count_cons m i t ts)))

-- ---- a mark that is counted

-- one more is counted in the row of the incarnation, and all others stay
pub counted_all : (P Q : Tally → Type 0) (of : Member) (i : Incarnation) (m : Member) (ts : List Tally) → ((t : Tally) → is_tally_of of i t ≡ true → P t → Q (with_one m t)) → ((t : Tally) → is_tally_of of i t ≡ false → P t → Q t) → count_by (is_tally_of of i) ts ≤ 1
    → AllByRecursion P ts → AllByRecursion Q (counted_in of i m ts)
counted_all P Q of i m [] here other few all = tt
counted_all P Q of i m (t ∷ ts) here other few all = by (is_tally_of of i t) refl (λ less. counted_all P Q of i m ts here other less all.1)
  where
    rest : (us : List Tally) → AllByRecursion (λ t. is_tally_of of i t ≡ false) us → AllByRecursion P us → AllByRecursion Q us
    rest us differ all = all_both (λ t. is_tally_of of i t ≡ false) P Q us other differ all

    by : (b : Bool) → is_tally_of of i t ≡ b → (count_by (is_tally_of of i) ts ≤ 1 → AllByRecursion Q (counted_in of i m ts)) → AllByRecursion Q (cond b (with_one m t ∷ ts) (t ∷ counted_in of i m ts))
    by true is more = (here t is all.0, rest ts (each_other of i ts (omega (arith, few, count_cons of i t ts, ap one_if is))) all.1)
    by false is more = (other t is all.0, more (omega (arith, few, count_cons of i t ts)))

pub counted_length : (of : Member) (i : Incarnation) (m : Member) (ts : List Tally) → length (counted_in of i m ts) ≡ length ts
counted_length of i m [] = refl
counted_length of i m (t ∷ ts) = by (is_tally_of of i t) (counted_length of i m ts)
  where
    by : (b : Bool) → length (counted_in of i m ts) ≡ length ts → length (cond b (with_one m t ∷ ts) (t ∷ counted_in of i m ts)) ≡ length (t ∷ ts)
    by true rest = refl
    by false rest = ap suc rest

-- the names of rows stay
pub counted_names : (k : Member) (j : Incarnation) (of : Member) (i : Incarnation) (m : Member) (ts : List Tally) → count_by (is_tally_of k j) (counted_in of i m ts) ≡ count_by (is_tally_of k j) ts
counted_names k j of i m [] = refl
counted_names k j of i m (t ∷ ts) = by (is_tally_of of i t) (counted_names k j of i m ts)
  where
    by : (b : Bool) → count_by (is_tally_of k j) (counted_in of i m ts) ≡ count_by (is_tally_of k j) ts → count_by (is_tally_of k j) (cond b (with_one m t ∷ ts) (t ∷ counted_in of i m ts)) ≡ count_by (is_tally_of k j) (t ∷ ts)
    by true rest = count_cons k j (with_one m t) ts ∙ sym (count_cons k j t ts)
    by false rest = count_cons k j t (counted_in of i m ts) ∙ ap (λ (n : ℕ). cond (is_tally_of k j t) 1 0 + n) rest ∙ sym (count_cons k j t ts)

-- what is found in them: the row, which may have counted one more
pub record FoundStill (Q : Tally → Tally → Type 0) (k : Member) (j : Incarnation) (ts : List Tally) (old : Tally) : Type 0 where
  pub new : Tally
  pub is : tally_of k j ts ≡ Some new
  pub holds : Q old new

pub counted_found : (P : Tally → Type 0) (Q : Tally → Tally → Type 0) (k : Member) (j : Incarnation) (of : Member) (i : Incarnation) (m : Member) (ts : List Tally) (old : Tally) → ((t : Tally) → P t → Q t t) → ((t : Tally) → P t → is_tally_of of i t ≡ true → Q t (with_one m t))
    → AllByRecursion P ts → tally_of k j ts ≡ Some old → FoundStill Q k j (counted_in of i m ts) old
counted_found P Q k j of i m [] old same one all is = absurd (none-some old is)
counted_found P Q k j of i m (t ∷ ts) old same one all is = by (is_tally_of of i t) refl (is_tally_of k j t) refl (counted_found P Q k j of i m ts old same one all.1) (found_holds ts all.1) is
  where
    found_holds : (us : List Tally) → AllByRecursion P us → tally_of k j us ≡ Some old → P old
    found_holds us all is = let f = found_tally P k j us all (subst (λ (o : Option Tally). IsSome o) (sym is) refl) in subst P (same_Some f.tally old (sym f.is ∙ is)) f.holds

    by : (b : Bool) → is_tally_of of i t ≡ b → (c : Bool) → is_tally_of k j t ≡ c → (tally_of k j ts ≡ Some old → FoundStill Q k j (counted_in of i m ts) old) → (tally_of k j ts ≡ Some old → P old) → cond c (Some t) (tally_of k j ts) ≡ Some old
        → FoundStill Q k j (cond b (with_one m t ∷ ts) (t ∷ counted_in of i m ts)) old
    by true here true there rest holds is = record { new = with_one m t; is = ap (λ (c : Bool). cond c (Some (with_one m t)) (tally_of k j ts)) there; holds = subst (λ x. Q x (with_one m t)) (same_Some t old is) (one t all.0 here) }
    by true here false there rest holds is = record { new = old; is = ap (λ (c : Bool). cond c (Some (with_one m t)) (tally_of k j ts)) there ∙ is; holds = same old (holds is) }
    by false here true there rest holds is = record { new = old; is = ap (λ (c : Bool). cond c (Some t) (tally_of k j (counted_in of i m ts))) there ∙ is; holds = same old (subst P (same_Some t old is) all.0) }
    by false here false there rest holds is = let found = rest is in record { new = found.new; is = ap (λ (c : Bool). cond c (Some t) (tally_of k j (counted_in of i m ts))) there ∙ found.is; holds = found.holds }

-- the row of the incarnation itself
pub counted_here : (of : Member) (i : Incarnation) (m : Member) (ts : List Tally) (old : Tally) → tally_of of i ts ≡ Some old → tally_of of i (counted_in of i m ts) ≡ Some (with_one m old)
counted_here of i m [] old is = absurd (none-some old is)
counted_here of i m (t ∷ ts) old is = by (is_tally_of of i t) refl (counted_here of i m ts old) is
  where
    by : (b : Bool) → is_tally_of of i t ≡ b → (tally_of of i ts ≡ Some old → tally_of of i (counted_in of i m ts) ≡ Some (with_one m old)) → cond b (Some t) (tally_of of i ts) ≡ Some old
        → tally_of of i (cond b (with_one m t ∷ ts) (t ∷ counted_in of i m ts)) ≡ Some (with_one m old)
    by true here rest is = ap (λ (c : Bool). cond c (Some (with_one m t)) (tally_of of i ts)) here ∙ ap (λ x. Some (with_one m x)) (same_Some t old is)
    by false here rest is = ap (λ (c : Bool). cond c (Some t) (tally_of of i (counted_in of i m ts))) here ∙ rest is
