-- As lists, too, an active structure holds what the history holds.
use Rattle.std.proofs.Common.{◌≡◌, ℕ, ◌<◌, Bool, true, false, cond, List, [], ◌∷◌, Option, Some, None, refl, sym, ap, subst, ◌∙◌, arith, inl, inr, filter}
use Rattle.std.specs.Prelude.{◌==◌}
use Rattle.std.specs.List.{AllByRecursion, cons_option}
use Rattle.std.specs.Option.{option_and_then}
use Rattle.std.proofs.lemmas.Bool.{cases_eq, eq-eqb, ne_eqb}
use Rattle.std.proofs.lemmas.Bool.Decides.{nat_tests}
use Rattle.std.proofs.lemmas.Option.{same_Some}
use Rattle.qsg_num.specs.declared.seats.Member.{Member}
use Rattle.qsg_num.specs.declared.seats.StructNo.{StructNo}
use Rattle.qsg_num.specs.Seats.{structure_number}
use Rattle.qsg_msg.specs.declared.message.Message.{Message}
use Rattle.qsg_model.specs.History.{key, same_key, key_before, is_of, held}
use Rattle.qsg_model.specs.Past.{message_at, AreInOrder, held_at}
use Rattle.qsg_model.proofs.Differing.{same_key-self}
use Rattle.qsg_model.proofs.Listed.{AllBehind, none_behind, order_differs, at_filter, order_filter, sift_by, of_key, held_is_held, held_in_order, same_lists}
use Rattle.qsg_lists.specs.declared.parts.Mark.{Mark}
use Rattle.qsg_lists.specs.declared.parts.Mark.TheVariants.{Visible, PutBy, GotBy, Cleanup}
use Rattle.qsg_lists.specs.Structures.{is_active}
use Rattle.qsg_group.specs.Group.{Held, Log, Group}
use Rattle.qsg_group.specs.Observers.{top_of, is_committed, counted_by, counted, counted_messages, settled_at}
use Rattle.qsg_group.specs.Laws.{AreRising, Laws}
use Rattle.qsg_group.proofs.Entries.{num, entry-head, entry-tail}

-- what counts of an entry is its message
counted_is : (logs : Member → Log) (m : Message) (mark : Mark) (x : Message) → counted_by logs m mark ≡ Some x → x ≡ m
counted_is logs m Visible x is = sym (same_Some m x is)
counted_is logs m Cleanup x is = absurd cc
counted_is logs m (PutBy u) x is = by (is_committed logs u) is
  where
    by : (b : Bool) → cond b (Some m) None ≡ Some x → x ≡ m
    by true is = sym (same_Some m x is)
    by false is = absurd cc
counted_is logs m (GotBy u) x is = by (is_committed logs u) is
  where
    by : (b : Bool) → cond b None (Some m) ≡ Some x → x ≡ m
    by true is = absurd cc
    by false is = sym (same_Some m x is)

-- the key of what counts of an entry of a structure
key_is : (logs : Member → Log) (s : StructNo) (e : Held) (x : Message) → e.message.structure ≡ s → counted logs e ≡ Some x → key x ≡ (structure_number s, num e)
key_is logs s e x own is =
    let same : x ≡ e.message = counted_is logs e.message e.mark x is in
    ap (λ (m : Message). key m) same ∙ ap (λ (y : StructNo). (structure_number y, num e)) own

abbrev AllOwn : StructNo → List Held → Type 0
AllOwn s es = AllByRecursion (λ e. e.message.structure ≡ s) es

lower_before : (s n m : ℕ) → n < m → key_before (s, n) (s, m) ≡ true
lower_before s n m lt = grind (arith, nat_tests, lt)

behind_option : (k : ℕ × ℕ) (o : Option Message) (ms : List Message) → ((x : Message) → o ≡ Some x → key_before k (key x) ≡ true) → AllBehind k ms → AllBehind k (cons_option o ms)
behind_option k None ms one all = all
behind_option k (Some x) ms one all = (one x refl, all)

behind_counted : (logs : Member → Log) (s : StructNo) (n : ℕ) (es : List Held) → AllOwn s es → AllByRecursion (λ e. n < e.message.id.number) es → AllBehind (structure_number s, n) (counted_messages logs es)
behind_counted logs s n [] own above = tt
behind_counted logs s n (e ∷ es) own above = behind_option (structure_number s, n) (counted logs e) (counted_messages logs es)
    (λ x is. ap (key_before (structure_number s, n)) (key_is logs s e x own.0 is) ∙ lower_before (structure_number s) n (num e) above.0)
    (behind_counted logs s n es own.1 above.1)

order_option : (o : Option Message) (ms : List Message) → ((x : Message) → o ≡ Some x → AllBehind (key x) ms) → AreInOrder ms → AreInOrder (cons_option o ms)
order_option None ms one order = order
order_option (Some x) ms one order = (one x refl, order)

order_counted : (logs : Member → Log) (s : StructNo) (top : ℕ) (es : List Held) → AllOwn s es → AreRising top es → AreInOrder (counted_messages logs es)
order_counted logs s top [] own rising = tt
order_counted logs s top (e ∷ es) own rising = order_option (counted logs e) (counted_messages logs es)
    (λ x is. subst (λ k. AllBehind k (counted_messages logs es)) (sym (key_is logs s e x own.0 is)) (behind_counted logs s (num e) es own.1 rising.1))
    (order_counted logs s top es own.1 rising.2)

-- what stands at the front
at_option : (k : ℕ × ℕ) (o : Option Message) (ms : List Message) → ((x : Message) → o ≡ Some x → key x ≡ k) → message_at k ms ≡ None → message_at k (cons_option o ms) ≡ o
at_option k None ms one none = none
at_option k (Some x) ms one none = ap (λ b. cond b (Some x) (message_at k ms)) (ap (same_key k) (one x refl) ∙ same_key-self k)

at_option_other : (k : ℕ × ℕ) (o : Option Message) (ms : List Message) → ((x : Message) → o ≡ Some x → same_key k (key x) ≡ false) → message_at k (cons_option o ms) ≡ message_at k ms
at_option_other k None ms one = refl
at_option_other k (Some x) ms one = ap (λ b. cond b (Some x) (message_at k ms)) (one x refl)

number_differs : (s n m : ℕ) → (m ≡ n → ⊥) → same_key (s, n) (s, m) ≡ false
number_differs s n m differ = let apart : (n == m) ≡ false = ne_eqb n m (λ e. differ (sym e)) in grind (arith, apart)

structure_differs : (k : ℕ × ℕ) (s m : ℕ) → (k.0 ≡ s → ⊥) → same_key k (s, m) ≡ false
structure_differs k s m differ = let apart : (k.0 == s) ≡ false = ne_eqb k.0 s differ in grind (arith, apart)

at_counted : (logs : Member → Log) (s : StructNo) (top id : ℕ) (es : List Held) → AllOwn s es → AreRising top es → message_at (structure_number s, id) (counted_messages logs es) ≡ settled_at id logs es
at_counted logs s top id [] own rising = refl
at_counted logs s top id (e ∷ es) own rising = elim (cases_eq (num e) id) [
  | inl same ↦
      at_option (structure_number s, id) (counted logs e) (counted_messages logs es) (λ x is. key_is logs s e x own.0 is ∙ ap (λ n. (structure_number s, n)) same)
      (none_behind (structure_number s, id) (counted_messages logs es) (behind_counted logs s id es own.1 (subst (λ n. AllByRecursion (λ x. n < x.message.id.number) es) same rising.1)))
      ∙ sym (ap (option_and_then (counted logs)) (entry-head id e es same))
  | inr differ ↦
      at_option_other (structure_number s, id) (counted logs e) (counted_messages logs es) (λ x is. ap (same_key (structure_number s, id)) (key_is logs s e x own.0 is) ∙ number_differs (structure_number s) id (num e) differ)
      ∙ at_counted logs s top id es own.1 rising.2
      ∙ sym (ap (option_and_then (counted logs)) (entry-tail id e es differ))
]

none_of_others : (logs : Member → Log) (s : StructNo) (k : ℕ × ℕ) (es : List Held) → (k.0 ≡ structure_number s → ⊥) → AllOwn s es → message_at k (counted_messages logs es) ≡ None
none_of_others logs s k [] differ own = refl
none_of_others logs s k (e ∷ es) differ own =
    at_option_other k (counted logs e) (counted_messages logs es) (λ x is. ap (same_key k) (key_is logs s e x own.0 is) ∙ structure_differs k (structure_number s) (num e) differ)
    ∙ none_of_others logs s k es differ own.1

no_message : (b : Bool) (o : Option Message) → o ≡ None → cond b o None ≡ None
no_message true o none = none
no_message false o none = refl

-- what a history holds in one structure
at_part : (g : Group) (s : StructNo) (k : ℕ × ℕ) → Laws g → message_at k (filter (is_of s) (held g.history)) ≡ cond (k.0 == structure_number s) (held_at k g.history) None
at_part g s k laws =
    at_filter k (is_of s) (held g.history) (order_differs (held g.history) (held_in_order g.history laws.legal))
    ∙ sift_by k (is_of s) (λ o. cond (k.0 == structure_number s) o None) (held g.history) (no_message (k.0 == structure_number s) None refl)
    (λ m same. ap (λ b. cond b (Some m) None) (of_key k m s same))
    ∙ ap (λ o. cond (k.0 == structure_number s) o None) (held_is_held k g.history laws.legal)

pub holds_as_a_list : (g : Group) (s : StructNo) → Laws g → is_active (g.shelves s).state ≡ true → counted_messages g.logs (g.shelves s).entries ≡ filter (is_of s) (held g.history)
holds_as_a_list g s laws active =
    let es = (g.shelves s).entries in
    let own = (laws.shelves s).own in
    let rising = (laws.shelves s).rising in
    same_lists (counted_messages g.logs es) (filter (is_of s) (held g.history)) (order_counted g.logs s (top_of (g.shelves s)) es own rising) (order_filter (is_of s) (held g.history) (held_in_order g.history laws.legal))
    (λ k. elim (cases_eq k.0 (structure_number s)) [
      | inl same ↦
          let k_is : k ≡ (structure_number s, k.1) = λ i. (same i, k.1) in
          ap (λ j. message_at j (counted_messages g.logs es)) k_is ∙ at_counted g.logs s (top_of (g.shelves s)) k.1 es own rising ∙ laws.good s active k.1
          ∙ sym (at_part g s k laws ∙ ap (λ b. cond b (held_at k g.history) None) (eq-eqb k.0 (structure_number s) same) ∙ ap (λ j. held_at j g.history) k_is)
      | inr differ ↦ none_of_others g.logs s k es differ own ∙ sym (at_part g s k laws ∙ ap (λ b. cond b (held_at k g.history) None) (ne_eqb k.0 (structure_number s) differ))
    ])
