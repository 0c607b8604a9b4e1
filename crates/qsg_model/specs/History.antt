-- What a history holds, and which histories are legal. A history is a list of items, the first one first.
use Rattle.std.specs.Prelude.{ℕ, ◌+◌, ◌==◌, nat_lt, Bool, false, not, ◌&&◌, ◌||◌, if◌then◌else◌, List, [], ◌∷◌, ◌++◌, filter, sum_by, Contains}
use Rattle.std.specs.List.{flat_map, list_any}
use Rattle.qsg_num.specs.declared.ids.UnitName.{UnitName}
use Rattle.qsg_num.specs.declared.seats.StructNo.{StructNo}
use Rattle.qsg_num.specs.Seats.{structure_number}
use Rattle.qsg_num.specs.Ids.{epoch_of}
use Rattle.qsg_msg.specs.declared.message.Message.{Message}
use Rattle.qsg_model.specs.declared.history.Op.{Op}
use Rattle.qsg_model.specs.declared.history.Op.TheVariants.{Put, Got}
use Rattle.qsg_model.specs.declared.history.Item.{Item}
use Rattle.qsg_model.specs.declared.history.Item.TheVariants.{Unit as UnitOf, Lost, Purged}

-- the key of a message: the numbers of its structure and of its id
abbrev pub key : Message → ℕ × ℕ
key m = (structure_number m.structure, m.id.number)

abbrev pub same_key : ℕ × ℕ → ℕ × ℕ → Bool
same_key a b = (a.0 == b.0) && (a.1 == b.1)

abbrev pub key_before : ℕ × ℕ → ℕ × ℕ → Bool
key_before a b = nat_lt a.0 b.0 || ((a.0 == b.0) && nat_lt a.1 b.1)

-- the messages that an operation puts, and the keys that it gets
abbrev pub put_by : Op → List Message
put_by (Put m) = m ∷ []
put_by (Got id) = []

abbrev pub got_by : StructNo → Op → List (ℕ × ℕ)
got_by s (Put m) = []
got_by s (Got id) = (structure_number s, id.number) ∷ []

abbrev pub puts : List (StructNo × Op) → List Message
puts ops = flat_map (λ w. put_by w.1) ops

abbrev pub gots : List (StructNo × Op) → List (ℕ × ℕ)
gots ops = flat_map (λ w. got_by w.0 w.1) ops

-- whether a list has the key
abbrev pub has_key : List (ℕ × ℕ) → ℕ × ℕ → Bool
has_key keys k = list_any (same_key k) keys

-- the messages whose keys aren't listed
abbrev pub without : List (ℕ × ℕ) → List Message → List Message
without keys ms = filter (λ m. not (has_key keys (key m))) ms

-- messages in order of structure and id, with one more, or with several more
abbrev pub add : Message → List Message → List Message
add m [] = m ∷ []
add m (x ∷ xs) = if key_before (key m) (key x) then m ∷ x ∷ xs else x ∷ add m xs

abbrev pub add_all : List Message → List Message → List Message
add_all [] ms = ms
add_all (m ∷ more) ms = add_all more (add m ms)

-- how often a structure, by its number, was lost or purged
abbrev pub ends_of : ℕ → Item → ℕ
ends_of s (UnitOf u ops) = 0
ends_of s (Lost t) = if s == structure_number t then 1 else 0
ends_of s (Purged t) = if s == structure_number t then 1 else 0

abbrev pub count_of : ℕ → List Item → ℕ
count_of s h = sum_by (ends_of s) h

-- whether the structure was purged, and its count just after, from n on, exceeded the epoch
abbrev pub purged_past : ℕ → ℕ → ℕ → List Item → Bool
purged_past s epoch n [] = false
purged_past s epoch n (UnitOf u ops ∷ h) = purged_past s epoch n h
purged_past s epoch n (Lost t ∷ h) = purged_past s epoch (n + ends_of s (Lost t)) h
purged_past s epoch n (Purged t ∷ h) = ((s == structure_number t) && nat_lt epoch (n + 1)) || purged_past s epoch (n + ends_of s (Purged t)) h

-- whether a put is still added after such a history: a non-persistent one of an epoch before the last loss
-- isn't, and none is whose structure was purged since
abbrev pub is_added : List Item → Message → Bool
is_added before m =
    (m.persistent || not (nat_lt (epoch_of m.id) (count_of (structure_number m.structure) before)))
    && not (purged_past (structure_number m.structure) (epoch_of m.id) 0 before)

abbrev pub is_of : StructNo → Message → Bool
is_of s m = structure_number m.structure == structure_number s

-- what is held after one more item: a unit takes out what it got and adds its puts, a loss keeps of its
-- structure what is persistent, and a purge nothing
abbrev pub held_after : List Item → List Message → Item → List Message
held_after before ms (UnitOf u ops) = add_all (filter (is_added before) (puts ops)) (without (gots ops) ms)
held_after before ms (Lost s) = filter (λ m. not (is_of s m) || m.persistent) ms
held_after before ms (Purged s) = filter (λ m. not (is_of s m)) ms

abbrev pub held_from : List Item → List Message → List Item → List Message
held_from before ms [] = ms
held_from before ms (i ∷ h) = held_from (before ++ i ∷ []) (held_after before ms i) h

-- the messages that a history holds, in order of structure and id
abbrev pub held : List Item → List Message
held h = held_from [] [] h

-- the names of units, the keys put and the keys got, in order
abbrev pub names_by : Item → List UnitName
names_by (UnitOf u ops) = u ∷ []
names_by (Lost s) = []
names_by (Purged s) = []

abbrev pub ops_by : Item → List (StructNo × Op)
ops_by (UnitOf u ops) = ops
ops_by (Lost s) = []
ops_by (Purged s) = []

abbrev pub names : List Item → List UnitName
names h = flat_map names_by h

abbrev pub put_keys : List Item → List (ℕ × ℕ)
put_keys h = flat_map (λ i. flat_map (λ m. key m ∷ []) (puts (ops_by i))) h

abbrev pub got_keys : List Item → List (ℕ × ℕ)
got_keys h = flat_map (λ i. gots (ops_by i)) h

-- no element stands twice
abbrev pub AllDiffer : {X : Type 0} → List X → Type 0
AllDiffer [] = Unit {0}
AllDiffer (x ∷ xs) = (Contains xs x → ⊥) × AllDiffer xs

-- every key of the first list is in the second
abbrev pub AllAmong : List (ℕ × ℕ) → List (ℕ × ℕ) → Type 0
AllAmong [] ks = Unit {0}
AllAmong (x ∷ xs) ks = Contains ks x × AllAmong xs ks

-- every key that is got was put by an earlier unit; these keys were put before
abbrev pub GotsWerePut : List (ℕ × ℕ) → List Item → Type 0
GotsWerePut before [] = Unit {0}
GotsWerePut before (i ∷ h) = AllAmong (gots (ops_by i)) before × GotsWerePut (before ++ put_keys (i ∷ [])) h

-- names of units differ, keys put differ, no key is got twice, and every key got was put by an earlier unit
pub record Legal (h : List Item) : Type 0 where
  pub names_differ : AllDiffer (names h)
  pub puts_differ : AllDiffer (put_keys h)
  pub gots_differ : AllDiffer (got_keys h)
  pub gots_were_put : GotsWerePut [] h
