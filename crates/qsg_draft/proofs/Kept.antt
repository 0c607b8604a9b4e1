-- what is seen of sections after an insertion, and after one directive more
use Rattle.std.proofs.Common.{◌≡◌, ℕ, zero, suc, ◌+◌, ◌<◌, ◌≤◌, Bool, true, false, not, cond, nat_lt, ◌||◌, List, [], ◌∷◌, ◌++◌, length, get_or, set, Some, None, refl, ap, sym, arith}
use Rattle.std.proofs.lemmas.Bool.Decides.{nat_tests}
use Rattle.std.specs.Prelude.{unwrap_or}
use Rattle.std.specs.List.{insert, list_any, position, position_or_len}
use Rattle.std.specs.declared.alloc.Global.{Global}
use Rattle.std.specs.declared.vec.Vec.{Vec}
use Rattle.std.proofs.lemmas.List.Sums.{prefix_len-le-length}
use Rattle.qsg_num.specs.declared.ids.Actor.{Actor}
use Rattle.qsg_objects.specs.declared.directives.Directive.{Directive}
use Rattle.qsg_draft.specs.Lookups.{is_section}
use Rattle.qsg_draft.specs.Additions.{inserted, extended}
use Rattle.qsg_draft.specs.Sections.{seen, is_kept, is_later}

-- The place of the first that passes, if there is one.

some-place : (b : Bool) (n i : ℕ) → cond b (Some n) None ≡ Some i → (b ≡ true) × (n ≡ i)
some-place true n i e = (refl, cc)
some-place false n i e = absurd (cc)

no-place : (b : Bool) (n : ℕ) → cond b (Some n) None ≡ None → b ≡ false
no-place true n e = absurd (cc)
no-place false n e = refl

pub placed : {X : Type 0} (p : X → Bool) (xs : List X) (i : ℕ) → position p xs ≡ Some i → (i < length xs) × (position_or_len p xs ≡ i)
placed p xs i e =
    let h = some-place (nat_lt (position_or_len p xs) (length xs)) (position_or_len p xs) i e in
    let below : position_or_len p xs < length xs = grind (arith, nat_tests, h.0) in
    (omega (arith, below, h.1), h.1)

pub unplaced : {X : Type 0} (p : X → Bool) (xs : List X) → position p xs ≡ None → length xs ≤ position_or_len p xs
unplaced p xs e = let h = no-place (nat_lt (position_or_len p xs) (length xs)) (position_or_len p xs) e in grind (arith, nat_tests, h)

-- or else the end
pub placed_or_end : {X : Type 0} (p : X → Bool) (xs : List X) → unwrap_or (position p xs) (length xs) ≡ position_or_len p xs
placed_or_end p xs = by (nat_lt (position_or_len p xs) (length xs)) refl
  where
    by : (b : Bool) → nat_lt (position_or_len p xs) (length xs) ≡ b → unwrap_or (cond b (Some (position_or_len p xs)) None) (length xs) ≡ position_or_len p xs
    by true e = refl
    by false e = let h = prefix_len-le-length (λ x. not (p x)) xs in let far : length xs ≤ position_or_len p xs = grind (arith, nat_tests, e) in omega (arith, h, far)

-- whether an actor has a section
pub any_seen : (a : Actor) (ss : List (Actor × Vec Directive Global)) → list_any (is_section a) (seen ss) ≡ list_any (is_kept a) ss
any_seen a [] = refl
any_seen a (s ∷ ss) = ap (λ b. is_kept a s || b) (any_seen a ss)

-- Insertion.

insert-first : {X : Type 0} (xs : List X) (x : X) → insert xs 0 x ≡ x ∷ xs
insert-first xs x = refl

insert-more : {X : Type 0} (y : X) (xs : List X) (n m : ℕ) (x : X) → m ≡ suc n → insert (y ∷ xs) m x ≡ y ∷ insert xs n x
insert-more y xs n m x e = rw e refl

inserted-place : (a : Actor) (v : Vec Directive Global) (ss : List (Actor × Vec Directive Global)) → v.items ≡ [] → seen (insert ss (position_or_len (is_later a) ss) (a, v)) ≡ inserted a (seen ss)
inserted-place a v [] e = rw e refl
inserted-place a v (s ∷ ss) e = by (is_later a s) (inserted-place a v ss e)
  where
    by : (b : Bool) → seen (insert ss (position_or_len (is_later a) ss) (a, v)) ≡ inserted a (seen ss) → seen (insert (s ∷ ss) (cond (not b) (1 + position_or_len (is_later a) ss) 0) (a, v)) ≡ cond b ((a, []) ∷ (s.0, s.1.items) ∷ seen ss) ((s.0, s.1.items) ∷ inserted a (seen ss))
    by true rest = rw e refl
    by false rest = rw (insert-more s ss (position_or_len (is_later a) ss) (1 + position_or_len (is_later a) ss) (a, v) (omega arith)) (ap (λ xs. (s.0, s.1.items) ∷ xs) rest)

pub inserted_at : (a : Actor) (v : Vec Directive Global) (ss : List (Actor × Vec Directive Global)) → v.items ≡ [] → seen (insert ss (unwrap_or (position (is_later a) ss) (length ss)) (a, v)) ≡ inserted a (seen ss)
inserted_at a v ss e = rw (placed_or_end (is_later a) ss) (inserted-place a v ss e)

-- One directive more.

extended-place : (a : Actor) (d : Directive) (z : Actor × Vec Directive Global) (v : Vec Directive Global) (ss : List (Actor × Vec Directive Global)) (i : ℕ) → i ≡ position_or_len (is_kept a) ss → i < length ss → z ≡ get_or ss i z → v.items ≡ z.1.items ++ d ∷ [] → seen (set ss i (z.0, v)) ≡ extended a d (seen ss)
extended-place a d z v [] i at below is e = absurd (omega arith)
extended-place a d z v (s ∷ ss) i at below is e = by (is_kept a s) (extended-place a d z v ss) i at below is
  where
    by : (b : Bool) → ((j : ℕ) → j ≡ position_or_len (is_kept a) ss → j < length ss → z ≡ get_or ss j z → v.items ≡ z.1.items ++ d ∷ [] → seen (set ss j (z.0, v)) ≡ extended a d (seen ss)) → (i : ℕ) → i ≡ cond (not b) (1 + position_or_len (is_kept a) ss) 0 → i < length (s ∷ ss) → z ≡ get_or (s ∷ ss) i z → seen (set (s ∷ ss) i (z.0, v)) ≡ cond b ((s.0, s.1.items ++ d ∷ []) ∷ seen ss) ((s.0, s.1.items) ∷ extended a d (seen ss))
    by true rest zero at below is = let first : z ≡ s = is in rw (e, first) refl
    by true rest (suc j) at below is = absurd (omega arith)
    by false rest zero at below is = absurd (omega arith)
    by false rest (suc j) at below is = ap (λ xs. (s.0, s.1.items) ∷ xs) (rest j (omega arith) (omega arith) is e)

pub extended_at : (a : Actor) (d : Directive) (z : Actor × Vec Directive Global) (v : Vec Directive Global) (ss : List (Actor × Vec Directive Global)) (i : ℕ) → position (is_kept a) ss ≡ Some i → z ≡ get_or ss i z → v.items ≡ z.1.items ++ d ∷ [] → seen (set ss i (z.0, v)) ≡ extended a d (seen ss)
extended_at a d z v ss i at is e = let p = placed (is_kept a) ss i at in extended-place a d z v ss i (sym p.1) p.0 is e

-- where there is no such section
extended-none : (a : Actor) (d : Directive) (ss : List (Actor × Vec Directive Global)) → length ss ≤ position_or_len (is_kept a) ss → seen ss ≡ extended a d (seen ss)
extended-none a d [] far = refl
extended-none a d (s ∷ ss) far = by (is_kept a s) (extended-none a d ss) far
  where
    by : (b : Bool) → (length ss ≤ position_or_len (is_kept a) ss → seen ss ≡ extended a d (seen ss)) → length (s ∷ ss) ≤ cond (not b) (1 + position_or_len (is_kept a) ss) 0 → seen (s ∷ ss) ≡ cond b ((s.0, s.1.items ++ d ∷ []) ∷ seen ss) ((s.0, s.1.items) ∷ extended a d (seen ss))
    by true rest far = absurd (omega arith)
    by false rest far = ap (λ xs. (s.0, s.1.items) ∷ xs) (rest (omega arith))

pub unextended : (a : Actor) (d : Directive) (ss : List (Actor × Vec Directive Global)) → position (is_kept a) ss ≡ None → seen ss ≡ extended a d (seen ss)
unextended a d ss none = extended-none a d ss (unplaced (is_kept a) ss none)

-- a section that is written back as it was seen
set-same : (ss : List (Actor × Vec Directive Global)) (i : ℕ) (z : Actor × Vec Directive Global) (v : Vec Directive Global) → i < length ss → z ≡ get_or ss i z → v.items ≡ z.1.items → seen (set ss i (z.0, v)) ≡ seen ss
set-same [] i z v below is e = absurd (omega arith)
set-same (s ∷ ss) zero z v below is e = let first : z ≡ s = is in rw (e, first) refl
set-same (s ∷ ss) (suc i) z v below is e = ap (λ xs. (s.0, s.1.items) ∷ xs) (set-same ss i z v (omega arith) is e)

pub unchanged_at : (a : Actor) (ss : List (Actor × Vec Directive Global)) (i : ℕ) (z : Actor × Vec Directive Global) (v : Vec Directive Global) → position (is_kept a) ss ≡ Some i → z ≡ get_or ss i z → v.items ≡ z.1.items → seen (set ss i (z.0, v)) ≡ seen ss
unchanged_at a ss i z v at is e = let p = placed (is_kept a) ss i at in set-same ss i z v p.0 is e
