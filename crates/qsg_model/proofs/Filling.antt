-- What the functions that hold messages as a list give.
use Rattle.std.proofs.Common.{◌≡◌, ℕ, suc, ◌+◌, ◌≤◌, Bool, true, false, cond, List, [], ◌∷◌, ◌++◌, length, take, Some, None, refl, sym, ap, subst, ◌∙◌, arith, filter}
use Rattle.std.specs.Prelude.{◌||◌, ◌&&◌, ◌==◌, not, nat_lt, insert, position, unwrap_or}
use Rattle.std.proofs.lemmas.Bool.Decides.{nat_tests}
use Rattle.std.specs.List.{list_any, fold, position_or_len, prefix_len}
use Rattle.std.proofs.lemmas.List.{take_all}
use Rattle.std.proofs.lemmas.List.Folds.{fold_along, list_any-append}
use Rattle.qsg_num.specs.declared.seats.StructNo.{StructNo}
use Rattle.qsg_num.specs.Seats.{structure_number}
use Rattle.qsg_num.specs.Ids.{epoch_of}
use Rattle.qsg_msg.specs.declared.message.Message.{Message}
use Rattle.qsg_model.specs.declared.history.Op.{Op}
use Rattle.qsg_model.specs.declared.history.Item.{Item}
use Rattle.qsg_model.specs.declared.history.Item.TheVariants.{Unit as UnitOf, Lost, Purged}
use Rattle.qsg_model.specs.declared.ends.Ends.{Ends}
use Rattle.qsg_model.specs.History.{key, same_key, key_before, has_key, put_by, got_by, puts, gots, add, add_all, is_added}
use Rattle.qsg_model.specs.Past.{Past, nothing, after, past_of, persistent_only}
use Rattle.qsg_model.specs.Ends.{ends_after, no_ends}
use Rattle.qsg_model.proofs.Listed.{added_is}

-- ---- a message in its place

one_more : (n : ℕ) → suc n ≡ 1 + n
one_more n = omega arith

pub add_is_insert : (m : Message) (xs : List Message) → insert xs (position_or_len (λ x. key_before (key m) (key x)) xs) m ≡ add m xs
add_is_insert m [] = refl
add_is_insert m (x ∷ xs) = by (key_before (key m) (key x)) (add_is_insert m xs)
  where
    by : (b : Bool) → insert xs (prefix_len (λ y. not (key_before (key m) (key y))) xs) m ≡ add m xs
        → insert (x ∷ xs) (cond (not b) (1 + prefix_len (λ y. not (key_before (key m) (key y))) xs) 0) m ≡ cond b (m ∷ x ∷ xs) (x ∷ add m xs)
    by true rest = refl
    by false rest = ap (λ n. insert (x ∷ xs) n m) (sym (one_more (prefix_len (λ y. not (key_before (key m) (key y))) xs))) ∙ ap (λ l. x ∷ l) rest

-- ---- the place of a message

within : (p : Message → Bool) (xs : List Message) → position_or_len p xs ≤ length xs
within p [] = omega arith
within p (x ∷ xs) = by (not (p x)) (within p xs)
  where
    by : (b : Bool) → position_or_len p xs ≤ length xs → cond b (1 + position_or_len p xs) 0 ≤ length (x ∷ xs)
    by true rest = omega (arith, rest)
    by false rest = omega arith

pub place_is : (p : Message → Bool) (xs : List Message) → unwrap_or (position p xs) (length xs) ≡ position_or_len p xs
place_is p xs = by (nat_lt (position_or_len p xs) (length xs)) refl
  where
    by : (b : Bool) → nat_lt (position_or_len p xs) (length xs) ≡ b → unwrap_or (cond b (Some (position_or_len p xs)) None) (length xs) ≡ position_or_len p xs
    by true is = refl
    by false is = let le = within p xs in grind (arith, nat_tests, is, le)

pub place_bound : (p : Message → Bool) (xs : List Message) → unwrap_or (position p xs) (length xs) ≤ length xs
place_bound p xs = subst (λ n. n ≤ length xs) (sym (place_is p xs)) (within p xs)

-- ---- what operations got and put

pub any_got : (k : ℕ × ℕ) (ops : List (StructNo × Op)) → list_any (λ (w : StructNo × Op). has_key (got_by w.0 w.1) k) ops ≡ has_key (gots ops) k
any_got k [] = refl
any_got k (w ∷ ops) = ap (λ b. has_key (got_by w.0 w.1) k || b) (any_got k ops) ∙ sym (list_any-append (same_key k) (got_by w.0 w.1) (gots ops))

add_all-append : (xs ys ms : List Message) → add_all (xs ++ ys) ms ≡ add_all ys (add_all xs ms)
add_all-append [] ys ms = refl
add_all-append (x ∷ xs) ys ms = add_all-append xs ys (add x ms)

filter-append : (p : Message → Bool) (xs ys : List Message) → filter p (xs ++ ys) ≡ filter p xs ++ filter p ys
filter-append p [] ys = refl
filter-append p (x ∷ xs) ys = by (p x) (filter-append p xs ys)
  where
    by : (b : Bool) → filter p (xs ++ ys) ≡ filter p xs ++ filter p ys → cond b (x ∷ filter p (xs ++ ys)) (filter p (xs ++ ys)) ≡ cond b (x ∷ filter p xs) (filter p xs) ++ filter p ys
    by true rest = ap (λ l. x ∷ l) rest
    by false rest = rest

pub add_one_op : (p : Message → Bool) (w : StructNo × Op) (ops : List (StructNo × Op)) (ms : List Message) → add_all (filter p (puts (w ∷ ops))) ms ≡ add_all (filter p (puts ops)) (add_all (filter p (put_by w.1)) ms)
add_one_op p w ops ms = ap (λ l. add_all l ms) (filter-append p (put_by w.1) (puts ops)) ∙ add_all-append (filter p (put_by w.1)) (filter p (puts ops)) ms

-- ---- losses and purges

-- the counts agree with those of the past of a key
abbrev pub Tally : Ends → Past → Type 0
Tally ends past = (ends.count ≡ past.count) × (ends.floor ≡ past.floor)

tally_after : (k : ℕ × ℕ) (ends : Ends) (past : Past) (i : Item) → Tally ends past → Tally (ends_after k.0 ends i) (after k past i)
tally_after k ends past (UnitOf u ops) same = same
tally_after k ends past (Lost s) same = by (k.0 == structure_number s)
  where
    by : (b : Bool) → Tally (cond b (record { count = ends.count + 1; floor = ends.floor }) ends) (cond b (record { count = past.count + 1; floor = past.floor; message = persistent_only past.message }) past)
    by true = (ap (λ n. n + 1) same.0, same.1)
    by false = same
tally_after k ends past (Purged s) same = by (k.0 == structure_number s)
  where
    by : (b : Bool) → Tally (cond b (record { count = ends.count + 1; floor = ends.count + 1 }) ends) (cond b (record { count = past.count + 1; floor = past.count + 1; message = None }) past)
    by true = (ap (λ n. n + 1) same.0, ap (λ n. n + 1) same.0)
    by false = same

pub tally : (k : ℕ × ℕ) (h : List Item) → Tally (fold (ends_after k.0) no_ends h) (past_of k h)
tally k h = fold_along (ends_after k.0) (after k) Tally (λ e p i same. tally_after k e p i same) no_ends nothing h (refl, refl)

-- one more adds one at most
pub one_end : (s : ℕ) (ends : Ends) (i : Item) → (ends_after s ends i).count ≤ ends.count + 1
one_end s ends (UnitOf u ops) = omega arith
one_end s ends (Lost t) = by (s == structure_number t)
  where
    by : (b : Bool) → (cond b (record { count = ends.count + 1; floor = ends.floor }) ends).count ≤ ends.count + 1
    by true = omega arith
    by false = omega arith
one_end s ends (Purged t) = by (s == structure_number t)
  where
    by : (b : Bool) → (cond b (record { count = ends.count + 1; floor = ends.count + 1 }) ends).count ≤ ends.count + 1
    by true = omega arith
    by false = omega arith

-- at the end of a walk over the whole history
pub tally_at_end : (k : ℕ × ℕ) (h : List Item) (i : ℕ) (ends : Ends) → length h ≤ i → ends ≡ fold (ends_after k.0) no_ends (take i h) → Tally ends (past_of k h)
tally_at_end k h i ends le is = subst (λ (e : Ends). Tally e (past_of k h)) (sym (is ∙ ap (λ (l : List Item). fold (ends_after k.0) no_ends l) (take_all i h le))) (tally k h)

-- ---- which puts are still added

pub added_by : (h : List Item) (m : Message) (count floor : ℕ) → count ≡ (past_of (key m) h).count → floor ≡ (past_of (key m) h).floor
    → ((m.persistent || not (nat_lt (epoch_of m.id) count)) && not (nat_lt (epoch_of m.id) floor)) ≡ is_added h m
added_by h m count floor counted floored =
    ap (λ (n : ℕ). (m.persistent || not (nat_lt (epoch_of m.id) n)) && not (nat_lt (epoch_of m.id) floor)) counted
    ∙ ap (λ (n : ℕ). (m.persistent || not (nat_lt (epoch_of m.id) (past_of (key m) h).count)) && not (nat_lt (epoch_of m.id) n)) floored
    ∙ sym (added_is h m)
