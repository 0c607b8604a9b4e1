-- What laws see of a group.
use Rattle.std.specs.Prelude.{ℕ, Bool, true, false, ◌==◌, ◌&&◌, List, [], ◌∷◌, ◌++◌, Option, Some, None, if◌then◌else◌, ◌≡◌, nat_le, map, filter, filter_map, find, drop}
use Rattle.std.specs.List.{list_any, cons_option}
use Rattle.std.specs.Option.{option_and_then}
use Rattle.qsg_num.specs.declared.seats.Member.{Member}
use Rattle.qsg_num.specs.declared.seats.StructNo.{StructNo}
use Rattle.qsg_num.specs.declared.ids.UnitName.{UnitName}
use Rattle.qsg_num.specs.Seats.{member_number, structure_number}
use Rattle.qsg_num.specs.Ids.{same_unit, id_at}
use Rattle.qsg_msg.specs.declared.message.Message.{Message}
use Rattle.qsg_model.specs.declared.history.Op.{Op}
use Rattle.qsg_model.specs.declared.history.Op.TheVariants.{Put, Got}
use Rattle.qsg_model.specs.declared.history.Item.{Item}
use Rattle.qsg_model.specs.declared.history.Item.TheVariants.{Unit as UnitOf, Lost, Purged}
use Rattle.qsg_model.specs.History.{key}
use Rattle.qsg_model.specs.Past.{message_at, all_puts, past_of}
use Rattle.qsg_lists.specs.declared.parts.Mark.{Mark}
use Rattle.qsg_lists.specs.declared.parts.Mark.TheVariants.{Visible, PutBy, GotBy, Cleanup}
use Rattle.qsg_group.specs.declared.tasks.Claim.{Claim}
use Rattle.qsg_group.specs.declared.tasks.Stage.{Stage}
use Rattle.qsg_group.specs.declared.tasks.Stage.TheVariants.{Open, Hardening, Committed, BackedOut}
use Rattle.qsg_group.specs.Group.{Held, Shelf, Run, Log, Seat}

-- ---- entries

abbrev pub has_id : ℕ → Held → Bool
has_id id e = e.message.id.number == id

-- the entry of an id
abbrev pub entry_at : ℕ → List Held → Option Held
entry_at id es = find (has_id id) es

-- the entry of an id becomes what f makes of it, or goes; each other stays
abbrev pub revise : ℕ → (Held → Option Held) → List Held → List Held
revise id f [] = []
revise id f (e ∷ es) = if has_id id e then cons_option (f e) es else e ∷ revise id f es

-- the id that was given last
abbrev pub top_of : Shelf → ℕ
top_of shelf = (id_at shelf.epoch shelf.last).number

-- ---- logs

-- the unit is one of those whose records the log has
abbrev pub has_run : UnitName → List Run → Bool
has_run u runs = list_any (λ run. same_unit u run.unit) runs

abbrev pub is_committed : (Member → Log) → UnitName → Bool
is_committed logs u = has_run u (logs u.member).runs

-- the runs that begin at or after a page
abbrev pub runs_from : ℕ → List Run → List Run
runs_from page runs = filter (λ run. nat_le page run.first) runs

-- an operation is persistent where its message is, that of a get being the one that an earlier unit put
abbrev pub is_persistent : Option Message → Bool
is_persistent None = false
is_persistent (Some m) = m.persistent

abbrev pub is_lasting : List Item → StructNo × Op → Bool
is_lasting h (s, Put m) = m.persistent
is_lasting h (s, Got id) = is_persistent (message_at (structure_number s, id.number) (all_puts h))

-- what an item tells of a member's units, after those before it: a unit's name and its persistent operations
abbrev pub told_by : Member → List Item → Item → List (UnitName × List (StructNo × Op))
told_by m before (UnitOf u ops) = if member_number u.member == member_number m then (u, filter (is_lasting before) ops) ∷ [] else []
told_by m before (Lost s) = []
told_by m before (Purged s) = []

abbrev pub told_from : Member → List Item → List Item → List (UnitName × List (StructNo × Op))
told_from m before [] = []
told_from m before (i ∷ h) = told_by m before i ++ told_from m (before ++ i ∷ []) h

-- the units of a member in a history, in order, each with its persistent operations
abbrev pub told : Member → List Item → List (UnitName × List (StructNo × Op))
told m h = told_from m [] h

-- ---- what counts

abbrev pub counted_by : (Member → Log) → Message → Mark → Option Message
counted_by logs m Visible = Some m
counted_by logs m (PutBy u) = if is_committed logs u then Some m else None
counted_by logs m (GotBy u) = if is_committed logs u then None else Some m
counted_by logs m Cleanup = None

abbrev pub counted : (Member → Log) → Held → Option Message
counted logs e = counted_by logs e.message e.mark

-- the message that counts under an id, each pending unit settled by its member's log
abbrev pub settled_at : ℕ → (Member → Log) → List Held → Option Message
settled_at id logs es = option_and_then (counted logs) (entry_at id es)

-- the messages that count, in order of id
abbrev pub counted_messages : (Member → Log) → List Held → List Message
counted_messages logs es = filter_map (counted logs) es

-- ---- tasks

-- the unit isn't decided yet: it is open, or its run isn't safe
abbrev pub is_undecided : Stage → Bool
is_undecided Open = true
is_undecided (Hardening first) = true
is_undecided (Committed first settled) = false
is_undecided (BackedOut settled) = false

abbrev pub is_hardening : Stage → Bool
is_hardening Open = false
is_hardening (Hardening first) = true
is_hardening (Committed first settled) = false
is_hardening (BackedOut settled) = false

-- the unit is committed
abbrev pub is_hardened : Stage → Bool
is_hardened Open = false
is_hardened (Hardening first) = false
is_hardened (Committed first settled) = true
is_hardened (BackedOut settled) = false

abbrev pub key_of_claim : Claim → ℕ × ℕ
key_of_claim c = (structure_number c.connection.structure, c.id.number)

abbrev pub keys_claimed : List Claim → List (ℕ × ℕ)
keys_claimed claims = map key_of_claim claims

abbrev pub key_of_op : StructNo × Op → ℕ × ℕ
key_of_op (s, Put m) = key m
key_of_op (s, Got id) = (structure_number s, id.number)

-- the claims that aren't settled yet
abbrev pub left_by : Stage → List Claim → List Claim
left_by Open claims = claims
left_by (Hardening first) claims = claims
left_by (Committed first settled) claims = drop settled claims
left_by (BackedOut settled) claims = drop settled claims

-- the operations of persistent messages, by what their claims say
abbrev pub logged_ops : List (StructNo × Op) → List Claim → List (StructNo × Op)
logged_ops [] claims = []
logged_ops (w ∷ ops) [] = []
logged_ops (w ∷ ops) (c ∷ claims) = if c.persistent then w ∷ logged_ops ops claims else logged_ops ops claims

-- ---- members

-- the unit is of the incarnation that is up
abbrev pub is_live : UnitName → Seat → Bool
is_live u seat = seat.up && (u.incarnation.number == seat.incarnation)

-- the mark names a unit of that incarnation
abbrev pub names_incarnation : Member → ℕ → Mark → Bool
names_incarnation m i Visible = false
names_incarnation m i (PutBy u) = (member_number u.member == member_number m) && (u.incarnation.number == i)
names_incarnation m i (GotBy u) = (member_number u.member == member_number m) && (u.incarnation.number == i)
names_incarnation m i Cleanup = false

-- ---- structures

-- the structure was purged, and not lost since
abbrev pub IsPurged : StructNo → List Item → Type 0
IsPurged s h = (past_of (structure_number s, 0) h).floor ≡ (past_of (structure_number s, 0) h).count

-- the claim is on another structure
abbrev pub IsElsewhere : StructNo → Claim → Type 0
IsElsewhere s c = structure_number c.connection.structure ≡ structure_number s → ⊥
