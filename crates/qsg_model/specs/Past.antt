-- What a history holds, key by key.
use Rattle.std.specs.Prelude.{ℕ, ◌+◌, ◌==◌, ◌≡◌, nat_lt, Bool, true, false, not, ◌&&◌, ◌||◌, if◌then◌else◌, List, [], ◌∷◌, Option, Some, None, find, fold}
use Rattle.std.specs.List.{flat_map, list_any, AllByRecursion}
use Rattle.qsg_num.specs.declared.ids.UnitName.{UnitName}
use Rattle.qsg_num.specs.declared.seats.StructNo.{StructNo}
use Rattle.qsg_num.specs.Seats.{structure_number}
use Rattle.qsg_num.specs.Ids.{epoch_of, same_unit}
use Rattle.qsg_msg.specs.declared.message.Message.{Message}
use Rattle.qsg_model.specs.declared.history.Op.{Op}
use Rattle.qsg_model.specs.declared.history.Item.{Item}
use Rattle.qsg_model.specs.declared.history.Item.TheVariants.{Unit as UnitOf, Lost, Purged}
use Rattle.qsg_model.specs.History.{key, same_key, key_before, has_key, puts, gots, ops_by, names, put_keys, got_keys, AllDiffer}

-- the first message of a key
abbrev pub message_at : ℕ × ℕ → List Message → Option Message
message_at k ms = find (λ m. same_key k (key m)) ms

-- the keys of messages rise
abbrev pub AreInOrder : List Message → Type 0
AreInOrder [] = Unit {0}
AreInOrder (m ∷ ms) = AllByRecursion (λ x. key_before (key m) (key x) ≡ true) ms × AreInOrder ms

abbrev pub keys_of : List Message → List (ℕ × ℕ)
keys_of ms = flat_map (λ m. key m ∷ []) ms

-- the messages that units of a history put
abbrev pub all_puts : List Item → List Message
all_puts h = flat_map (λ i. puts (ops_by i)) h

-- whether the operations put, or get, the message of a key
abbrev pub is_put : ℕ × ℕ → List (StructNo × Op) → Bool
is_put k ops = has_key (keys_of (puts ops)) k

abbrev pub is_got : ℕ × ℕ → List (StructNo × Op) → Bool
is_got k ops = has_key (gots ops) k

-- whether a unit of the history put, or got, it
abbrev pub was_put : ℕ × ℕ → List Item → Bool
was_put k h = has_key (put_keys h) k

abbrev pub was_got : ℕ × ℕ → List Item → Bool
was_got k h = has_key (got_keys h) k

-- whether the unit is one of the history
abbrev pub is_unit : UnitName → List Item → Bool
is_unit u h = list_any (same_unit u) (names h)

-- what a history left under a key: how often the structure was lost or purged, that count just after it was
-- purged last, and the message
pub record Past : Type 0 where
  pub count : ℕ
  pub floor : ℕ
  pub message : Option Message

abbrev pub nothing : Past
nothing = record { count = 0; floor = 0; message = None }

-- whether a put is still added: not if the structure was purged since its epoch, and a non-persistent one only
-- if it wasn't lost since either
abbrev pub is_kept : Past → Message → Bool
is_kept past m = (m.persistent || not (nat_lt (epoch_of m.id) past.count)) && not (nat_lt (epoch_of m.id) past.floor)

abbrev pub kept : Past → Option Message → Option Message
kept past None = None
kept past (Some m) = if is_kept past m then Some m else None

abbrev pub persistent_only : Option Message → Option Message
persistent_only None = None
persistent_only (Some m) = if m.persistent then Some m else None

abbrev pub or_else : Option Message → Option Message → Option Message
or_else None other = other
or_else (Some m) other = Some m

-- what one more item leaves
abbrev pub after : ℕ × ℕ → Past → Item → Past
after k past (UnitOf u ops) = record past { message = or_else (kept past (message_at k (puts ops))) (if is_got k ops then None else past.message) }
after k past (Lost s) = if k.0 == structure_number s then record { count = past.count + 1; floor = past.floor; message = persistent_only past.message } else past
after k past (Purged s) = if k.0 == structure_number s then record { count = past.count + 1; floor = past.count + 1; message = None } else past

abbrev pub past_of : ℕ × ℕ → List Item → Past
past_of k h = fold (after k) nothing h

-- the message that a history holds under a key
abbrev pub held_at : ℕ × ℕ → List Item → Option Message
held_at k h = (past_of k h).message

-- a unit may follow a history: its name is new, its puts are of new keys, and what it gets was put and not got
pub record Follows (h : List Item) (u : UnitName) (ops : List (StructNo × Op)) : Type 0 where
  pub name : is_unit u h ≡ false
  pub puts_differ : AllDiffer (keys_of (puts ops))
  pub gots_differ : AllDiffer (gots ops)
  pub puts_are_new : (k : ℕ × ℕ) → is_put k ops ≡ true → was_put k h ≡ false
  pub gots_were_put : (k : ℕ × ℕ) → is_got k ops ≡ true → was_put k h ≡ true
  pub gots_are_new : (k : ℕ × ℕ) → is_got k ops ≡ true → was_got k h ≡ false
