-- where the entry of an id stands
use Rattle.std.proofs.Common.{◌≡◌, ℕ, ◌+◌, not, ◌<◌, ◌≤◌, Bool, true, false, cond, ltb, List, [], ◌∷◌, length, get_or, Option, Some, None, sym, refl, arith}
use Rattle.std.specs.Prelude.{IfSome, IfNone, find, position}
use Rattle.std.specs.List.{position_or_len}
use Rattle.std.proofs.lemmas.List.Quantifiers.{position-Some}
use Rattle.std.proofs.lemmas.List.Recursion.{found_at}
use Rattle.std.proofs.lemmas.Bool.Decides.{nat_tests}
use Rattle.qsg_num.specs.declared.ids.EntryId.{EntryId}
use Rattle.qsg_lists.specs.declared.parts.Entry.{Entry}
use Rattle.qsg_lists.specs.Entries.{has_id}
use Rattle.qsg_lists.specs.Found.{IsFound}

none_cons : {X : Type 0} (b : Bool) (x : X) (n m : ℕ) (o : Option X) → m + 1 ≤ cond (not b) (1 + n) 0 → (m ≤ n → o ≡ None) → cond b (Some x) o ≡ None
none_cons true x n m o h f = absurd (omega (arith, h))
none_cons false x n m o h f = f (omega (arith, h))

-- nothing is found where no place passes
pub find_none : {X : Type 0} (p : X → Bool) (xs : List X) → length xs ≤ position_or_len p xs → find p xs ≡ None
find_none p [] h = refl
find_none p (x ∷ xs) h = none_cons (p x) x (position_or_len p xs) (length xs) (find p xs) (omega (arith, h)) (find_none p xs)

none_of_cond : (b : Bool) (n m : ℕ) → b ≡ ltb n m → (r : Option ℕ) → r ≡ cond b (Some n) None → IfNone r (m ≤ n)
none_of_cond true n m t None e = cc
none_of_cond true n m t (Some i) e = tt
none_of_cond false n m t None e = grind (arith, nat_tests)
none_of_cond false n m t (Some i) e = tt

none_weaker : (r : Option ℕ) (P Q : Type 0) → (P → Q) → IfNone r P → IfNone r Q
none_weaker None P Q f h = f h
none_weaker (Some i) P Q f h = tt

-- what a search for the place says of the search for the entry
pub none_found : (p : Entry → Bool) (es : List Entry) (r : Option ℕ) → r ≡ position p es → IfNone r (find p es ≡ None)
none_found p es r e = none_weaker r _ _ (find_none p es) (none_of_cond _ (position_or_len p es) (length es) refl r e)

within_of_cond : (b : Bool) (n m i : ℕ) → b ≡ ltb n m → cond b (Some n) None ≡ Some i → i < m
within_of_cond true n m i t e = let same : n ≡ i = cc in grind (arith, nat_tests)
within_of_cond false n m i t e = cc

within_of : (p : Entry → Bool) (es : List Entry) (i : ℕ) → position p es ≡ Some i → i < length es
within_of p es i e = within_of_cond _ (position_or_len p es) (length es) i refl e

found_of : (p : Entry → Bool) (es : List Entry) (i : ℕ) → position p es ≡ Some i → IsFound p es i
found_of p es i e = record {
  within = within_of p es i e;
  found = λ d. let h = position-Some p es i d e in found_at (find p) p (λ (x : Entry). Some x) None refl (λ _ _. refl) es i d h.0 h.2 h.1;
  passed = λ d. (position-Some p es i d e).1;
}

pub some_found : (p : Entry → Bool) (es : List Entry) (r : Option ℕ) → r ≡ position p es → IfSome r (IsFound p es)
some_found p es None e = tt
some_found p es (Some i) e = found_of p es i (sym e)

-- an entry found by its id has it
pub id_of_found : (es : List Entry) (id : EntryId) (i : ℕ) (d : Entry) → IsFound (has_id id) es i → (get_or es i d).id.number ≡ id.number
id_of_found es id i d f = let h = f.passed d in grind (arith, nat_tests)
