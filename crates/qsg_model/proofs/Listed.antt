-- What a history holds as a list is what it holds key by key.
use Rattle.std.proofs.Common.{◌≡◌, ℕ, ◌+◌, ◌≤◌, Bool, true, false, cond, List, [], ◌∷◌, ◌++◌, refl, sym, ap, subst, ◌∙◌, append_assoc, arith, inl, inr, Option, Some, None, filter}
use Rattle.std.specs.Prelude.{Contains, ◌||◌, ◌&&◌, ◌==◌, not, nat_lt}
use Rattle.std.specs.List.{flat_map, fold, AllByRecursion}
use Rattle.std.proofs.lemmas.List.{append-nil}
use Rattle.std.proofs.lemmas.List.Elements.{Contains-append_left}
use Rattle.std.proofs.lemmas.List.Concat.{flat_map-append}
use Rattle.std.proofs.lemmas.Bool.{both_ways, cases_Bool, or_cases}
use Rattle.std.proofs.lemmas.Bool.Decides.{nat_tests}
use Rattle.std.proofs.lemmas.Option.{same_Some, none-some}
use Rattle.qsg_num.specs.declared.ids.UnitName.{UnitName}
use Rattle.qsg_num.specs.declared.seats.StructNo.{StructNo}
use Rattle.qsg_num.specs.Seats.{structure_number}
use Rattle.qsg_num.specs.Ids.{epoch_of}
use Rattle.qsg_msg.specs.declared.message.Message.{Message}
use Rattle.qsg_model.specs.declared.history.Op.{Op}
use Rattle.qsg_model.specs.declared.history.Item.{Item}
use Rattle.qsg_model.specs.declared.history.Item.TheVariants.{Unit as UnitOf, Lost, Purged}
use Rattle.qsg_model.specs.History.{key, same_key, key_before, has_key, puts, gots, without, add, add_all, ops_by, put_keys, ends_of, purged_past, is_added, is_of, held_after, held_from, held, AllDiffer, Legal}
use Rattle.qsg_model.specs.Past.{message_at, AreInOrder, keys_of, is_got, was_put, Past, nothing, is_kept, kept, persistent_only, or_else, after, past_of, held_at}
use Rattle.qsg_model.proofs.Differing.{same_key-true, same_key-self, has_contains, contains_has, not_in}
use Rattle.qsg_model.proofs.Growing.{put_keys-push, past_of-push}
use Rattle.qsg_model.proofs.Keyed.{message_at-none, message_at-key, has_message}
use Rattle.qsg_model.proofs.Past.{counts, floors, count_is, apart, unput_is_unheld}

-- ---- the order of keys

pub before_more : (a b c : ℕ × ℕ) → key_before a b ≡ true → key_before b c ≡ true → key_before a c ≡ true
before_more a b c ab bc = grind (arith, nat_tests, ab, bc)

pub before_differs : (a b : ℕ × ℕ) → key_before a b ≡ true → same_key a b ≡ false
before_differs a b ab = grind (arith, nat_tests, ab)

pub before_or_behind : (a b : ℕ × ℕ) → key_before a b ≡ false → same_key a b ≡ false → key_before b a ≡ true
before_or_behind a b ab same = grind (arith, nat_tests, ab, same)

-- every key is behind this one
abbrev pub AllBehind : ℕ × ℕ → List Message → Type 0
AllBehind k ms = AllByRecursion (λ x. key_before k (key x) ≡ true) ms

pub behind_more : (a b : ℕ × ℕ) (ms : List Message) → key_before a b ≡ true → AllBehind b ms → AllBehind a ms
behind_more a b [] ab all = tt
behind_more a b (m ∷ ms) ab all = (before_more a b (key m) ab all.0, behind_more a b ms ab all.1)

pub none_behind : (k : ℕ × ℕ) (ms : List Message) → AllBehind k ms → message_at k ms ≡ None
none_behind k [] all = refl
none_behind k (m ∷ ms) all = ap (λ b. cond b (Some m) (message_at k ms)) (before_differs k (key m) all.0) ∙ none_behind k ms all.1

pub order_differs : (ms : List Message) → AreInOrder ms → AllDiffer (keys_of ms)
order_differs [] order = tt
order_differs (m ∷ ms) order = ((λ c. not_in (keys_of ms) (key m) (has_message (key m) ms (none_behind (key m) ms order.0)) c), order_differs ms order.1)

-- ---- a message that is added

none_parts : (k : ℕ × ℕ) (x : Message) (ms : List Message) → message_at k (x ∷ ms) ≡ None → (same_key k (key x) ≡ false) × (message_at k ms ≡ None)
none_parts k x ms none = by (same_key k (key x)) refl none
  where
    by : (b : Bool) → same_key k (key x) ≡ b → cond b (Some x) (message_at k ms) ≡ None → (same_key k (key x) ≡ false) × (message_at k ms ≡ None)
    by true is none = absurd cc
    by false is none = (is, none)

behind_add : (k : ℕ × ℕ) (m : Message) (ms : List Message) → key_before k (key m) ≡ true → AllBehind k ms → AllBehind k (add m ms)
behind_add k m [] one all = (one, tt)
behind_add k m (x ∷ ms) one all = by (key_before (key m) (key x)) (behind_add k m ms one all.1)
  where
    by : (b : Bool) → AllBehind k (add m ms) → AllBehind k (cond b (m ∷ x ∷ ms) (x ∷ add m ms))
    by true rest = (one, all)
    by false rest = (all.0, rest)

order_add : (m : Message) (ms : List Message) → message_at (key m) ms ≡ None → AreInOrder ms → AreInOrder (add m ms)
order_add m [] none order = (tt, tt)
order_add m (x ∷ ms) none order = by (key_before (key m) (key x)) refl (order_add m ms (none_parts (key m) x ms none).1 order.1)
  where
    by : (b : Bool) → key_before (key m) (key x) ≡ b → AreInOrder (add m ms) → AreInOrder (cond b (m ∷ x ∷ ms) (x ∷ add m ms))
    by true is rest = ((is, behind_more (key m) (key x) ms is order.0), order)
    by false is rest = (behind_add (key x) m ms (before_or_behind (key m) (key x) is (none_parts (key m) x ms none).0) order.0, rest)

both_same : (k a b : ℕ × ℕ) → same_key k a ≡ true → same_key k b ≡ true → same_key a b ≡ true
both_same k a b ka kb = grind (arith, nat_tests, ka, kb)

at_add : (k : ℕ × ℕ) (m : Message) (ms : List Message) → message_at (key m) ms ≡ None → message_at k (add m ms) ≡ cond (same_key k (key m)) (Some m) (message_at k ms)
at_add k m [] none = refl
at_add k m (x ∷ ms) none = by (key_before (key m) (key x)) (at_add k m ms (none_parts (key m) x ms none).1)
  where
    swap : (a b : Bool) (o : Option Message) → (a ≡ true → b ≡ true → ⊥) → cond a (Some x) (cond b (Some m) o) ≡ cond b (Some m) (cond a (Some x) o)
    swap true true o never = absurd (never refl refl)
    swap true false o never = refl
    swap false b o never = refl

    by : (b : Bool) → message_at k (add m ms) ≡ cond (same_key k (key m)) (Some m) (message_at k ms) → message_at k (cond b (m ∷ x ∷ ms) (x ∷ add m ms)) ≡ cond (same_key k (key m)) (Some m) (message_at k (x ∷ ms))
    by true rest = refl
    by false rest = ap (λ o. cond (same_key k (key x)) (Some x) o) rest ∙ swap (same_key k (key x)) (same_key k (key m)) (message_at k ms)
        (λ kx km. both_ways (same_key (key m) (key x)) (none_parts (key m) x ms none).0 (both_same k (key m) (key x) km kx))

-- the key of the first isn't one of the others
head_differs : (m : Message) (ms : List Message) (k : ℕ × ℕ) → AllDiffer (keys_of (m ∷ ms)) → has_key (keys_of ms) k ≡ true → same_key k (key m) ≡ false
head_differs m ms k differ has = elim (cases_Bool (same_key k (key m))) [
  | inl same ↦ absurd (differ.0 (subst (λ j. Contains (keys_of ms) j) (same_key-true k (key m) same) (has_contains (keys_of ms) k has)))
  | inr apart ↦ apart
]

head_alone : (m : Message) (ms : List Message) (k : ℕ × ℕ) → AllDiffer (keys_of (m ∷ ms)) → same_key k (key m) ≡ true → message_at k ms ≡ None
head_alone m ms k differ same = message_at-none k ms (elim (cases_Bool (has_key (keys_of ms) k)) [
  | inl has ↦ absurd (both_ways (same_key k (key m)) (head_differs m ms k differ has) same)
  | inr lacks ↦ lacks
])

-- none of the messages that are added is there
abbrev AreNew : List Message → List Message → Type 0
AreNew new ms = (j : ℕ × ℕ) → has_key (keys_of new) j ≡ true → message_at j ms ≡ None

own_new : (m : Message) (new ms : List Message) → AreNew (m ∷ new) ms → message_at (key m) ms ≡ None
own_new m new ms none = none (key m) (let s = same_key-self (key m) in grind (arith, s))

rest_new : (m : Message) (new ms : List Message) → AllDiffer (keys_of (m ∷ new)) → AreNew (m ∷ new) ms → AreNew new (add m ms)
rest_new m new ms differ none j has =
    at_add j m ms (own_new m new ms none) ∙ ap (λ b. cond b (Some m) (message_at j ms)) (head_differs m new j differ has) ∙ none j (grind (arith, has))

at_add_all : (k : ℕ × ℕ) (new ms : List Message) → AllDiffer (keys_of new) → AreNew new ms → message_at k (add_all new ms) ≡ or_else (message_at k new) (message_at k ms)
at_add_all k [] ms differ none = refl
at_add_all k (m ∷ new) ms differ none =
    at_add_all k new (add m ms) differ.1 (rest_new m new ms differ none) ∙ ap (or_else (message_at k new)) (at_add k m ms (own_new m new ms none)) ∙ by (same_key k (key m)) refl
  where
    by : (b : Bool) → same_key k (key m) ≡ b → or_else (message_at k new) (cond b (Some m) (message_at k ms)) ≡ or_else (cond b (Some m) (message_at k new)) (message_at k ms)
    by true is = ap (λ o. or_else o (Some m)) (head_alone m new k differ is)
    by false is = refl

order_add_all : (new ms : List Message) → AllDiffer (keys_of new) → AreNew new ms → AreInOrder ms → AreInOrder (add_all new ms)
order_add_all [] ms differ none order = order
order_add_all (m ∷ new) ms differ none order = order_add_all new (add m ms) differ.1 (rest_new m new ms differ none) (order_add m ms (own_new m new ms none) order)

-- ---- messages that pass a test

abbrev pub sifted : (Message → Bool) → Option Message → Option Message
sifted p None = None
sifted p (Some m) = cond (p m) (Some m) None

pub at_filter : (k : ℕ × ℕ) (p : Message → Bool) (ms : List Message) → AllDiffer (keys_of ms) → message_at k (filter p ms) ≡ sifted p (message_at k ms)
at_filter k p [] differ = refl
at_filter k p (m ∷ ms) differ = by (p m) refl (same_key k (key m)) refl (at_filter k p ms differ.1)
  where
    by : (b : Bool) → p m ≡ b → (s : Bool) → same_key k (key m) ≡ s → message_at k (filter p ms) ≡ sifted p (message_at k ms) → message_at k (cond b (m ∷ filter p ms) (filter p ms)) ≡ sifted p (cond s (Some m) (message_at k ms))
    by true is true same rest = ap (λ s. cond s (Some m) (message_at k (filter p ms))) same ∙ sym (ap (λ b. cond b (Some m) None) is)
    by true is false same rest = ap (λ s. cond s (Some m) (message_at k (filter p ms))) same ∙ rest
    by false is true same rest = rest ∙ ap (sifted p) (head_alone m ms k differ same) ∙ sym (ap (λ b. cond b (Some m) None) is)
    by false is false same rest = rest

-- what a test that looks at the key, and at what isn't the key, makes of the message of that key
pub sift_by : (k : ℕ × ℕ) (p : Message → Bool) (f : Option Message → Option Message) (ms : List Message) → f None ≡ None → ((m : Message) → k ≡ key m → cond (p m) (Some m) None ≡ f (Some m)) → sifted p (message_at k ms) ≡ f (message_at k ms)
sift_by k p f ms none some = by (message_at k ms) refl
  where
    by : (o : Option Message) → message_at k ms ≡ o → sifted p o ≡ f o
    by None is = sym none
    by (Some m) is = some m (same_key-true k (key m) (message_at-key k ms m is).0)

behind_filter : (k : ℕ × ℕ) (p : Message → Bool) (ms : List Message) → AllBehind k ms → AllBehind k (filter p ms)
behind_filter k p [] all = tt
behind_filter k p (m ∷ ms) all = by (p m) (behind_filter k p ms all.1)
  where
    by : (b : Bool) → AllBehind k (filter p ms) → AllBehind k (cond b (m ∷ filter p ms) (filter p ms))
    by true rest = (all.0, rest)
    by false rest = rest

pub order_filter : (p : Message → Bool) (ms : List Message) → AreInOrder ms → AreInOrder (filter p ms)
order_filter p [] order = tt
order_filter p (m ∷ ms) order = by (p m) (order_filter p ms order.1)
  where
    by : (b : Bool) → AreInOrder (filter p ms) → AreInOrder (cond b (m ∷ filter p ms) (filter p ms))
    by true rest = (behind_filter (key m) p ms order.0, rest)
    by false rest = rest

has_filter : (p : Message → Bool) (ms : List Message) (k : ℕ × ℕ) → has_key (keys_of (filter p ms)) k ≡ true → has_key (keys_of ms) k ≡ true
has_filter p [] k has = has
has_filter p (m ∷ ms) k has = by (p m) has (has_filter p ms k)
  where
    by : (b : Bool) → has_key (keys_of (cond b (m ∷ filter p ms) (filter p ms))) k ≡ true → (has_key (keys_of (filter p ms)) k ≡ true → has_key (keys_of ms) k ≡ true) → (same_key k (key m) || has_key (keys_of ms) k) ≡ true
    by true has rest = elim (or_cases (same_key k (key m)) (has_key (keys_of (filter p ms)) k) has) [
      | inl same ↦ grind (arith, same)
      | inr later ↦ let r = rest later in grind (arith, r)
    ]
    by false has rest = let r = rest has in grind (arith, r)

differ_filter : (p : Message → Bool) (ms : List Message) → AllDiffer (keys_of ms) → AllDiffer (keys_of (filter p ms))
differ_filter p [] differ = tt
differ_filter p (m ∷ ms) differ = by (p m) (differ_filter p ms differ.1)
  where
    by : (b : Bool) → AllDiffer (keys_of (filter p ms)) → AllDiffer (keys_of (cond b (m ∷ filter p ms) (filter p ms)))
    by true rest = ((λ c. differ.0 (has_contains (keys_of ms) (key m) (has_filter p ms (key m) (contains_has (keys_of (filter p ms)) (key m) c)))), rest)
    by false rest = rest

-- ---- which puts are still added

purged_from : (k : ℕ × ℕ) (epoch n : ℕ) (p : Past) (h : List Item) → p.count ≡ n → p.floor ≤ p.count → (nat_lt epoch p.floor || purged_past k.0 epoch n h) ≡ nat_lt epoch (fold (after k) p h).floor
purged_from k epoch n p [] count floor = grind arith
purged_from k epoch n p (UnitOf u ops ∷ h) count floor = purged_from k epoch n (after k p (UnitOf u ops)) h count floor
purged_from k epoch n p (Lost s ∷ h) count floor =
    ap (λ (f : ℕ). nat_lt epoch f || purged_past k.0 epoch (n + ends_of k.0 (Lost s)) h) (by (k.0 == structure_number s))
    ∙ purged_from k epoch (n + ends_of k.0 (Lost s)) (after k p (Lost s)) h (counts k p n (Lost s) count) (floors k p (Lost s) floor)
  where
    by : (b : Bool) → p.floor ≡ (cond b (record { count = p.count + 1; floor = p.floor; message = persistent_only p.message }) p).floor
    by true = refl
    by false = refl
purged_from k epoch n p (Purged s ∷ h) count floor =
    by (k.0 == structure_number s) (purged_past k.0 epoch (n + ends_of k.0 (Purged s)) h)
    ∙ purged_from k epoch (n + ends_of k.0 (Purged s)) (after k p (Purged s)) h (counts k p n (Purged s) count) (floors k p (Purged s) floor)
  where
    above : (rest : Bool) → (nat_lt epoch p.floor || (nat_lt epoch (n + 1) || rest)) ≡ (nat_lt epoch (p.count + 1) || rest)
    above rest = grind (arith, nat_tests, count, floor)

    by : (b rest : Bool) → (nat_lt epoch p.floor || ((b && nat_lt epoch (n + 1)) || rest)) ≡ (nat_lt epoch (cond b (record { count = p.count + 1; floor = p.count + 1; message = None }) p).floor || rest)
    by true rest = above rest
    by false rest = refl

pub purged_is : (k : ℕ × ℕ) (epoch : ℕ) (h : List Item) → purged_past k.0 epoch 0 h ≡ nat_lt epoch (past_of k h).floor
purged_is k epoch h = sym (zero_floor (purged_past k.0 epoch 0 h)) ∙ purged_from k epoch 0 nothing h refl (omega arith)
  where
    zero_floor : (b : Bool) → (nat_lt epoch 0 || b) ≡ b
    zero_floor b = grind (arith, nat_tests)

-- whether a put is still added looks at the past of its key alone
pub added_is : (h : List Item) (m : Message) → is_added h m ≡ is_kept (past_of (key m) h) m
added_is h m =
    ap (λ (n : ℕ). (m.persistent || not (nat_lt (epoch_of m.id) n)) && not (purged_past (structure_number m.structure) (epoch_of m.id) 0 h)) (sym (count_is (key m) h))
    ∙ ap (λ b. (m.persistent || not (nat_lt (epoch_of m.id) (past_of (key m) h).count)) && not b) (purged_is (key m) (epoch_of m.id) h)

-- ---- what one more item leaves

-- the list and the keys agree
pub record Agrees (h : List Item) (ms : List Message) : Type 0 where
  pub in_order : AreInOrder ms
  pub at : (k : ℕ × ℕ) → message_at k ms ≡ held_at k h

pub nothing_left : (b : Bool) (o : Option Message) → o ≡ None → cond b None o ≡ None
nothing_left true o none = refl
nothing_left false o none = none

pub differ_front : {X : Type 0} (xs ys : List X) → AllDiffer (xs ++ ys) → AllDiffer xs
differ_front [] ys differ = tt
differ_front (x ∷ xs) ys differ = ((λ c. differ.0 (Contains-append_left xs ys x c)), differ_front xs ys differ.1)

pub differ_back : {X : Type 0} (xs ys : List X) → AllDiffer (xs ++ ys) → AllDiffer ys
differ_back [] ys differ = differ
differ_back (x ∷ xs) ys differ = differ_back xs ys differ.1

at_without : (k : ℕ × ℕ) (keys : List (ℕ × ℕ)) (ms : List Message) → AreInOrder ms → message_at k (without keys ms) ≡ cond (has_key keys k) None (message_at k ms)
at_without k keys ms order =
    at_filter k (λ m. not (has_key keys (key m))) ms (order_differs ms order)
    ∙ sift_by k (λ m. not (has_key keys (key m))) (λ o. cond (has_key keys k) None o) ms (nothing_left (has_key keys k) None refl) (λ m same. ap (λ j. cond (not (has_key keys j)) (Some m) None) (sym same) ∙ turned m (has_key keys k))
  where
    turned : (m : Message) (b : Bool) → cond (not b) (Some m) None ≡ cond b None (Some m)
    turned m true = refl
    turned m false = refl

agrees_unit : (h : List Item) (ms : List Message) (u : UnitName) (ops : List (StructNo × Op)) → Agrees h ms → AllDiffer (put_keys h ++ keys_of (puts ops)) → Agrees (h ++ UnitOf u ops ∷ []) (held_after h ms (UnitOf u ops))
agrees_unit h ms u ops agrees differ =
    let new = filter (is_added h) (puts ops) in
    let old = without (gots ops) ms in
    let own : AllDiffer (keys_of (puts ops)) = differ_back (put_keys h) (keys_of (puts ops)) differ in
    let order : AreInOrder old = order_filter (λ m. not (has_key (gots ops) (key m))) ms agrees.in_order in
    let left : (k : ℕ × ℕ) → message_at k old ≡ cond (is_got k ops) None (held_at k h) = λ k. at_without k (gots ops) ms agrees.in_order ∙ ap (λ o. cond (is_got k ops) None o) (agrees.at k) in
    let none : AreNew new old = λ j has. left j ∙ nothing_left (is_got j ops) (held_at j h) (unput_is_unheld j h (unput j (has_filter (is_added h) (puts ops) j has))) in
    record {
      in_order = order_add_all new old (differ_filter (is_added h) (puts ops) own) none order;
      at = λ k.
          at_add_all k new old (differ_filter (is_added h) (puts ops) own) none
          ∙ ap (λ o. or_else o (message_at k old)) (at_filter k (is_added h) (puts ops) own ∙ sift_by k (is_added h) (kept (past_of k h)) (puts ops) refl (λ m same. ap (λ b. cond b (Some m) None) (added_is h m ∙ ap (λ j. is_kept (past_of j h) m) (sym same))))
          ∙ ap (λ o. or_else (kept (past_of k h) (message_at k (puts ops))) o) (left k)
          ∙ sym (ap (λ (p : Past). p.message) (past_of-push k h (UnitOf u ops)));
    }
  where
    unput : (j : ℕ × ℕ) → has_key (keys_of (puts ops)) j ≡ true → was_put j h ≡ false
    unput j has = elim (cases_Bool (was_put j h)) [
      | inl was ↦ absurd (both_ways (has_key (keys_of (puts ops)) j) (apart (put_keys h) (keys_of (puts ops)) j differ (has_contains (put_keys h) j was)) has)
      | inr new ↦ new
    ]

-- a loss or a purge of the structure of the key, or of another
pub of_key : (k : ℕ × ℕ) (m : Message) (s : StructNo) → k ≡ key m → is_of s m ≡ (k.0 == structure_number s)
of_key k m s same = ap (λ (j : ℕ × ℕ). j.0 == structure_number s) (sym same)

agrees_lost : (h : List Item) (ms : List Message) (s : StructNo) → Agrees h ms → Agrees (h ++ Lost s ∷ []) (held_after h ms (Lost s))
agrees_lost h ms s agrees = record {
  in_order = order_filter (λ m. not (is_of s m) || m.persistent) ms agrees.in_order;
  at = λ k.
      at_filter k (λ m. not (is_of s m) || m.persistent) ms (order_differs ms agrees.in_order)
      ∙ sift_by k (λ m. not (is_of s m) || m.persistent) (λ o. cond (k.0 == structure_number s) (persistent_only o) o) ms (none (k.0 == structure_number s))
      (λ m same. ap (λ b. cond (not b || m.persistent) (Some m) None) (of_key k m s same) ∙ some m (k.0 == structure_number s))
      ∙ ap (λ o. cond (k.0 == structure_number s) (persistent_only o) o) (agrees.at k)
      ∙ after_it k (k.0 == structure_number s) (past_of k h)
      ∙ sym (ap (λ (p : Past). p.message) (past_of-push k h (Lost s)));
}
  where
    none : (b : Bool) → cond b (persistent_only None) None ≡ None
    none true = refl
    none false = refl

    some : (m : Message) (b : Bool) → cond (not b || m.persistent) (Some m) None ≡ cond b (persistent_only (Some m)) (Some m)
    some m true = refl
    some m false = refl

    after_it : (k : ℕ × ℕ) (b : Bool) (p : Past) → cond b (persistent_only p.message) p.message ≡ (cond b (record { count = p.count + 1; floor = p.floor; message = persistent_only p.message }) p).message
    after_it k true p = refl
    after_it k false p = refl

agrees_purged : (h : List Item) (ms : List Message) (s : StructNo) → Agrees h ms → Agrees (h ++ Purged s ∷ []) (held_after h ms (Purged s))
agrees_purged h ms s agrees = record {
  in_order = order_filter (λ m. not (is_of s m)) ms agrees.in_order;
  at = λ k.
      at_filter k (λ m. not (is_of s m)) ms (order_differs ms agrees.in_order)
      ∙ sift_by k (λ m. not (is_of s m)) (λ o. cond (k.0 == structure_number s) None o) ms (nothing_left (k.0 == structure_number s) None refl)
      (λ m same. ap (λ b. cond (not b) (Some m) None) (of_key k m s same) ∙ some m (k.0 == structure_number s))
      ∙ ap (λ o. cond (k.0 == structure_number s) None o) (agrees.at k)
      ∙ after_it k (k.0 == structure_number s) (past_of k h)
      ∙ sym (ap (λ (p : Past). p.message) (past_of-push k h (Purged s)));
}
  where
    some : (m : Message) (b : Bool) → cond (not b) (Some m) None ≡ cond b None (Some m)
    some m true = refl
    some m false = refl

    after_it : (k : ℕ × ℕ) (b : Bool) (p : Past) → cond b None p.message ≡ (cond b (record { count = p.count + 1; floor = p.count + 1; message = None }) p).message
    after_it k true p = refl
    after_it k false p = refl

agrees_after : (h : List Item) (ms : List Message) (i : Item) → Agrees h ms → AllDiffer (put_keys (h ++ i ∷ [])) → Agrees (h ++ i ∷ []) (held_after h ms i)
agrees_after h ms (UnitOf u ops) agrees differ = agrees_unit h ms u ops agrees (subst AllDiffer (put_keys-push h u ops) differ)
agrees_after h ms (Lost s) agrees differ = agrees_lost h ms s agrees
agrees_after h ms (Purged s) agrees differ = agrees_purged h ms s agrees

keys-append : (h g : List Item) → put_keys (h ++ g) ≡ put_keys h ++ put_keys g
keys-append h g = flat_map-append (λ i. flat_map (λ m. key m ∷ []) (puts (ops_by i))) h g

agrees_from : (before : List Item) (ms : List Message) (h : List Item) → Agrees before ms → AllDiffer (put_keys (before ++ h)) → Agrees (before ++ h) (held_from before ms h)
agrees_from before ms [] agrees differ = subst (λ b. Agrees b ms) (sym (append-nil before)) agrees
agrees_from before ms (i ∷ h) agrees differ =
    let whole : AllDiffer (put_keys ((before ++ i ∷ []) ++ h)) = subst (λ (b : List Item). AllDiffer (put_keys b)) (sym (append_assoc before (i ∷ []) h)) differ in
    let front : AllDiffer (put_keys (before ++ i ∷ [])) = differ_front (put_keys (before ++ i ∷ [])) (put_keys h) (subst AllDiffer (keys-append (before ++ i ∷ []) h) whole) in
    subst (λ (b : List Item). Agrees b (held_from (before ++ i ∷ []) (held_after before ms i) h)) (append_assoc before (i ∷ []) h)
    (agrees_from (before ++ i ∷ []) (held_after before ms i) h (agrees_after before ms i agrees front) whole)

pub agrees : (h : List Item) → Legal h → Agrees h (held h)
agrees h legal = agrees_from [] [] h (record { in_order = tt; at = λ k. refl }) legal.puts_differ

-- the list has under each key what the history holds under it
pub held_is_held : (k : ℕ × ℕ) (h : List Item) → Legal h → message_at k (held h) ≡ held_at k h
held_is_held k h legal = (agrees h legal).at k

pub held_in_order : (h : List Item) → Legal h → AreInOrder (held h)
held_in_order h legal = (agrees h legal).in_order

-- ---- two lists in order that have the same under each key are one

first_found : (m : Message) (ms : List Message) → message_at (key m) (m ∷ ms) ≡ Some m
first_found m ms = ap (λ b. cond b (Some m) (message_at (key m) ms)) (same_key-self (key m))

first_at : (k : ℕ × ℕ) (m : Message) (ms : List Message) → k ≡ key m → message_at k (m ∷ ms) ≡ Some m
first_at k m ms same = ap (λ j. message_at j (m ∷ ms)) same ∙ first_found m ms

later_at : (k : ℕ × ℕ) (m : Message) (ms : List Message) → same_key k (key m) ≡ false → message_at k (m ∷ ms) ≡ message_at k ms
later_at k m ms differ = ap (λ b. cond b (Some m) (message_at k ms)) differ

pub same_lists : (xs ys : List Message) → AreInOrder xs → AreInOrder ys → ((k : ℕ × ℕ) → message_at k xs ≡ message_at k ys) → xs ≡ ys
same_lists [] [] a b same = refl
same_lists [] (y ∷ ys) a b same = absurd (none-some y (same (key y) ∙ first_found y ys))
same_lists (x ∷ xs) [] a b same = absurd (none-some x (sym (same (key x)) ∙ first_found x xs))
same_lists (x ∷ xs) (y ∷ ys) a b same = elim (cases_Bool (same_key (key x) (key y))) [
  | inl is ↦
      let e : key x ≡ key y = same_key-true (key x) (key y) is in
      let head : x ≡ y = same_Some x y (sym (first_found x xs) ∙ same (key x) ∙ first_at (key x) y ys e) in
      let tails : (k : ℕ × ℕ) → message_at k xs ≡ message_at k ys = λ k. elim (cases_Bool (same_key k (key x))) [
        | inl here ↦
            let k_is = same_key-true k (key x) here in
            ap (λ j. message_at j xs) k_is ∙ none_behind (key x) xs a.0 ∙ sym (ap (λ j. message_at j ys) (k_is ∙ e) ∙ none_behind (key y) ys b.0)
        | inr there ↦ sym (later_at k x xs there) ∙ same k ∙ later_at k y ys (ap (same_key k) (sym e) ∙ there)
      ] in
      let rest : xs ≡ ys = same_lists xs ys a.1 b.1 tails in
      λ i. head i ∷ rest i
  | inr differ ↦ elim (cases_Bool (key_before (key x) (key y))) [
    | inl before ↦ absurd (none-some x (sym (none_behind (key x) (y ∷ ys) (before, behind_more (key x) (key y) ys before b.0)) ∙ sym (same (key x)) ∙ first_found x xs))
    | inr not_before ↦
        let behind = before_or_behind (key x) (key y) not_before differ in
        absurd (none-some y (sym (none_behind (key y) (x ∷ xs) (behind, behind_more (key y) (key x) xs behind a.0)) ∙ same (key y) ∙ first_found y ys))
  ]
]
