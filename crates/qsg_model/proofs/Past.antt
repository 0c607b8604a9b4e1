-- what holds of the past of every key
use Rattle.std.proofs.Common.{◌≡◌, ℕ, ◌+◌, ◌≤◌, Bool, true, false, cond, List, [], ◌∷◌, ◌++◌, refl, sym, ap, subst, ◌∙◌, append_assoc, arith, inl, inr, Option, Some, None}
use Rattle.std.specs.Prelude.{Contains, ◌||◌, ◌==◌, ◌⊎◌}
use Rattle.std.specs.List.{fold}
use Rattle.std.proofs.lemmas.List.{append-nil}
use Rattle.std.proofs.lemmas.List.Folds.{fold_along, list_any-append}
use Rattle.std.proofs.lemmas.List.Elements.{Contains-append_right, Contains-append_left}
use Rattle.std.proofs.lemmas.Bool.{both_ways, cases_Bool}
use Rattle.qsg_num.specs.Seats.{structure_number}
use Rattle.qsg_msg.specs.declared.message.Message.{Message}
use Rattle.qsg_model.specs.declared.history.Item.{Item}
use Rattle.qsg_model.specs.declared.history.Item.TheVariants.{Unit as UnitOf, Lost, Purged}
use Rattle.qsg_model.specs.History.{key, has_key, puts, gots, ops_by, put_keys, got_keys, ends_of, count_of, AllDiffer, AllAmong, GotsWerePut, Legal}
use Rattle.qsg_model.specs.Past.{keys_of, is_put, is_got, was_put, was_got, message_at, all_puts, Past, nothing, kept, persistent_only, or_else, after, past_of, held_at}
use Rattle.qsg_model.proofs.Differing.{head_or_tail, none_in_empty, has_contains, contains_has}
use Rattle.qsg_model.proofs.Keyed.{message_at-none, message_at-append, message_at-key}
use Rattle.std.proofs.lemmas.List.Concat.{flat_map-append}

-- ---- counts

pub counts : (k : ℕ × ℕ) (p : Past) (n : ℕ) (i : Item) → p.count ≡ n → (after k p i).count ≡ n + ends_of k.0 i
counts k p n (UnitOf u ops) same = grind (arith, same)
counts k p n (Lost s) same = by (k.0 == structure_number s)
  where
    by : (b : Bool) → (cond b (record { count = p.count + 1; floor = p.floor; message = persistent_only p.message }) p).count ≡ n + cond b 1 0
    by true = grind (arith, same)
    by false = grind (arith, same)
counts k p n (Purged s) same = by (k.0 == structure_number s)
  where
    by : (b : Bool) → (cond b (record { count = p.count + 1; floor = p.count + 1; message = None }) p).count ≡ n + cond b 1 0
    by true = grind (arith, same)
    by false = grind (arith, same)

-- the count is the number of the structure's losses and purges
pub count_is : (k : ℕ × ℕ) (h : List Item) → (past_of k h).count ≡ count_of k.0 h
count_is k h = fold_along (after k) (λ n i. n + ends_of k.0 i) (λ (p : Past) (n : ℕ). p.count ≡ n) (λ p n i same. counts k p n i same) nothing 0 h refl

pub floors : (k : ℕ × ℕ) (p : Past) (i : Item) → p.floor ≤ p.count → (after k p i).floor ≤ (after k p i).count
floors k p (UnitOf u ops) le = le
floors k p (Lost s) le = by (k.0 == structure_number s)
  where
    by : (b : Bool) → let q = cond b (record { count = p.count + 1; floor = p.floor; message = persistent_only p.message }) p in q.floor ≤ q.count
    by true = omega (arith, le)
    by false = le
floors k p (Purged s) le = by (k.0 == structure_number s)
  where
    by : (b : Bool) → let q = cond b (record { count = p.count + 1; floor = p.count + 1; message = None }) p in q.floor ≤ q.count
    by true = omega arith
    by false = le

pub floor_below : (k : ℕ × ℕ) (h : List Item) → (past_of k h).floor ≤ (past_of k h).count
floor_below k h = (fold_along (after k) (after k) (λ (p : Past) (q : Past). (p ≡ q) × (p.floor ≤ p.count)) (λ p q i r. (ap (λ x. after k x i) r.0, floors k p i r.1)) nothing nothing h (refl, omega arith)).1

-- ---- what isn't held

unheld : (k : ℕ × ℕ) (p : Past) (i : Item) → p.message ≡ None → has_key (keys_of (puts (ops_by i))) k ≡ false → (after k p i).message ≡ None
unheld k p (UnitOf u ops) none unput = ap (λ (o : Option Message). or_else (kept p o) (cond (is_got k ops) None p.message)) (message_at-none k (puts ops) unput) ∙ by (is_got k ops)
  where
    by : (b : Bool) → cond b None p.message ≡ None
    by true = refl
    by false = none
unheld k p (Lost s) none unput = by (k.0 == structure_number s)
  where
    by : (b : Bool) → (cond b (record { count = p.count + 1; floor = p.floor; message = persistent_only p.message }) p).message ≡ None
    by true = ap persistent_only none
    by false = none
unheld k p (Purged s) none unput = by (k.0 == structure_number s)
  where
    by : (b : Bool) → (cond b (record { count = p.count + 1; floor = p.count + 1; message = None }) p).message ≡ None
    by true = refl
    by false = none

pub parts_unput : (k : ℕ × ℕ) (i : Item) (h : List Item) → has_key (put_keys (i ∷ h)) k ≡ false → (has_key (keys_of (puts (ops_by i))) k ≡ false) × (has_key (put_keys h) k ≡ false)
parts_unput k i h unput =
    let both : (has_key (keys_of (puts (ops_by i))) k || has_key (put_keys h) k) ≡ false = sym (list_any-append _ (keys_of (puts (ops_by i))) (put_keys h)) ∙ unput in
    (grind (arith, both), grind (arith, both))

unput_from : (k : ℕ × ℕ) (p : Past) (h : List Item) → p.message ≡ None → has_key (put_keys h) k ≡ false → (fold (after k) p h).message ≡ None
unput_from k p [] none unput = none
unput_from k p (i ∷ h) none unput = let parts = parts_unput k i h unput in unput_from k (after k p i) h (unheld k p i none parts.0) parts.1

-- what wasn't put isn't held
pub unput_is_unheld : (k : ℕ × ℕ) (h : List Item) → was_put k h ≡ false → held_at k h ≡ None
unput_is_unheld k h unput = unput_from k nothing h refl unput

pub apart : (xs ys : List (ℕ × ℕ)) (k : ℕ × ℕ) → AllDiffer (xs ++ ys) → Contains xs k → has_key ys k ≡ false
apart [] ys k d c = absurd (none_in_empty k c)
apart (x ∷ xs) ys k d c = elim (head_or_tail x k xs c) [
  | inl same ↦ elim (cases_Bool (has_key ys k)) [
    | inl has ↦ absurd (d.0 (subst (λ z. Contains (xs ++ ys) z) (sym same) (Contains-append_right xs ys k (has_contains ys k has))))
    | inr lacks ↦ lacks
  ]
  | inr later ↦ apart xs ys k d.1 later
]

among_has : (xs ks : List (ℕ × ℕ)) (k : ℕ × ℕ) → AllAmong xs ks → has_key xs k ≡ true → Contains ks k
among_has xs ks k all has = by xs all (has_contains xs k has)
  where
    by : (xs : List (ℕ × ℕ)) → AllAmong xs ks → Contains xs k → Contains ks k
    by [] all c = absurd (none_in_empty k c)
    by (x ∷ xs) all c = elim (head_or_tail x k xs c) [ inl same ↦ subst (λ z. Contains ks z) same all.0 | inr later ↦ by xs all.1 later ]

got_from : (k : ℕ × ℕ) (before : List (ℕ × ℕ)) (p : Past) (h : List Item) → AllDiffer (before ++ put_keys h) → GotsWerePut before h → has_key (got_keys h) k ≡ true → (fold (after k) p h).message ≡ None
got_from k before p [] d w got = absurd cc
got_from k before p (i ∷ h) d w got =
    elim (cases_Bool (has_key (gots (ops_by i)) k)) [
      | inl here ↦
          let parts = parts_unput k i h (apart before (put_keys (i ∷ h)) k d (among_has (gots (ops_by i)) before k w.0 here)) in
          unput_from k (after k p i) h (taken i here parts.0) parts.1
      | inr later ↦
          let split : (has_key (gots (ops_by i)) k || has_key (got_keys h) k) ≡ true = sym (list_any-append _ (gots (ops_by i)) (got_keys h)) ∙ got in
          got_from k (before ++ put_keys (i ∷ [])) (after k p i) h
          (subst AllDiffer (ap (λ (r : List (ℕ × ℕ)). before ++ (r ++ put_keys h)) (sym (append-nil (keys_of (puts (ops_by i))))) ∙ sym (append_assoc before (put_keys (i ∷ [])) (put_keys h))) d)
          w.1 (grind (arith, split, later))
    ]
  where
    taken : (i : Item) → has_key (gots (ops_by i)) k ≡ true → has_key (keys_of (puts (ops_by i))) k ≡ false → (after k p i).message ≡ None
    taken (UnitOf u ops) here unput = ap (λ (o : Option Message). or_else (kept p o) (cond (is_got k ops) None p.message)) (message_at-none k (puts ops) unput) ∙ ap (λ b. cond b None p.message) here
    taken (Lost s) here unput = absurd cc
    taken (Purged s) here unput = absurd cc

-- what was got isn't held
pub got_is_unheld : (k : ℕ × ℕ) (h : List Item) → Legal h → was_got k h ≡ true → held_at k h ≡ None
got_is_unheld k h legal got = got_from k [] nothing h legal.puts_differ legal.gots_were_put got

were_from : (k : ℕ × ℕ) (before : List (ℕ × ℕ)) (h : List Item) → GotsWerePut before h → has_key (got_keys h) k ≡ true → Contains (before ++ put_keys h) k
were_from k before [] w got = absurd cc
were_from k before (i ∷ h) w got =
    elim (cases_Bool (has_key (gots (ops_by i)) k)) [
      | inl here ↦ Contains-append_left before (put_keys (i ∷ h)) k (among_has (gots (ops_by i)) before k w.0 here)
      | inr later ↦
          let split : (has_key (gots (ops_by i)) k || has_key (got_keys h) k) ≡ true = sym (list_any-append _ (gots (ops_by i)) (got_keys h)) ∙ got in
          subst (λ ks. Contains ks k) (append_assoc before (put_keys (i ∷ [])) (put_keys h) ∙ ap (λ (r : List (ℕ × ℕ)). before ++ (r ++ put_keys h)) (append-nil (keys_of (puts (ops_by i)))))
          (were_from k (before ++ put_keys (i ∷ [])) h w.1 (grind (arith, split, later)))
    ]

-- what was got was put
pub got_was_put : (k : ℕ × ℕ) (h : List Item) → Legal h → was_got k h ≡ true → was_put k h ≡ true
got_was_put k h legal got = contains_has (put_keys h) k (were_from k [] h legal.gots_were_put got)

-- ---- what is held was put

or_else_some : (a b : Option Message) (m : Message) → or_else a b ≡ Some m → (a ≡ Some m) ⊎ (b ≡ Some m)
or_else_some None b m is = inr is
or_else_some (Some x) b m is = inl is

kept_some : (p : Past) (o : Option Message) (m : Message) → kept p o ≡ Some m → o ≡ Some m
kept_some p None m is = absurd cc
kept_some p (Some x) m is = by (Rattle.qsg_model.specs.Past.is_kept p x) is
  where
    by : (b : Bool) → cond b (Some x) None ≡ Some m → Some x ≡ Some m
    by true is = is
    by false is = absurd cc

persistent_some : (o : Option Message) (m : Message) → persistent_only o ≡ Some m → o ≡ Some m
persistent_some None m is = absurd cc
persistent_some (Some x) m is = by x.persistent is
  where
    by : (b : Bool) → cond b (Some x) None ≡ Some m → Some x ≡ Some m
    by true is = is
    by false is = absurd cc

-- what one more item leaves under a key, it put or it was there
left_or_put : (k : ℕ × ℕ) (p : Past) (i : Item) (m : Message) → (after k p i).message ≡ Some m → (message_at k (puts (ops_by i)) ≡ Some m) ⊎ (p.message ≡ Some m)
left_or_put k p (UnitOf u ops) m is = elim (or_else_some (kept p (message_at k (puts ops))) (cond (is_got k ops) None p.message) m is) [
  | inl put ↦ inl (kept_some p (message_at k (puts ops)) m put)
  | inr was ↦ inr (by (is_got k ops) was)
]
  where
    by : (b : Bool) → cond b None p.message ≡ Some m → p.message ≡ Some m
    by true is = absurd cc
    by false is = is
left_or_put k p (Lost s) m is = inr (by (k.0 == structure_number s) is)
  where
    by : (b : Bool) → (cond b (record { count = p.count + 1; floor = p.floor; message = persistent_only p.message }) p).message ≡ Some m → p.message ≡ Some m
    by true is = persistent_some p.message m is
    by false is = is
left_or_put k p (Purged s) m is = inr (by (k.0 == structure_number s) is)
  where
    by : (b : Bool) → (cond b (record { count = p.count + 1; floor = p.count + 1; message = None }) p).message ≡ Some m → p.message ≡ Some m
    by true is = absurd cc
    by false is = is

put_from : (k : ℕ × ℕ) (m : Message) (before : List Message) (p : Past) (h : List Item) → AllDiffer (keys_of before ++ put_keys h) → (p.message ≡ Some m → message_at k before ≡ Some m)
    → (fold (after k) p h).message ≡ Some m → message_at k (before ++ all_puts h) ≡ Some m
put_from k m before p [] d was is = ap (message_at k) (append-nil before) ∙ was is
put_from k m before p (i ∷ h) d was is =
    ap (message_at k) (sym (append_assoc before (puts (ops_by i)) (all_puts h)))
    ∙ put_from k m (before ++ puts (ops_by i)) (after k p i) h
    (subst AllDiffer (sym (append_assoc (keys_of before) (keys_of (puts (ops_by i))) (put_keys h)) ∙ ap (λ ks. ks ++ put_keys h) (sym (flat_map-append (λ x. key x ∷ []) before (puts (ops_by i))))) d)
    (λ now. message_at-append k before (puts (ops_by i)) ∙ elim (left_or_put k p i m now) [
      | inl put ↦ ap (λ o. or_else o (message_at k (puts (ops_by i)))) (message_at-none k before (unput_before put)) ∙ put
      | inr old ↦ ap (λ o. or_else o (message_at k (puts (ops_by i)))) (was old)
    ])
    is
  where
    unput_before : message_at k (puts (ops_by i)) ≡ Some m → has_key (keys_of before) k ≡ false
    unput_before put = elim (cases_Bool (has_key (keys_of before) k)) [
      | inl has ↦
          let none : has_key (put_keys (i ∷ h)) k ≡ false = apart (keys_of before) (put_keys (i ∷ h)) k d (has_contains (keys_of before) k has) in
          absurd (both_ways (has_key (keys_of (puts (ops_by i))) k) (parts_unput k i h none).0 (message_at-key k (puts (ops_by i)) m put).1)
      | inr lacks ↦ lacks
    ]

-- what is held is the message that was put
pub held_was_put : (k : ℕ × ℕ) (h : List Item) (m : Message) → Legal h → held_at k h ≡ Some m → message_at k (all_puts h) ≡ Some m
held_was_put k h m legal held = put_from k m [] nothing h legal.puts_differ (λ is. absurd cc) held
