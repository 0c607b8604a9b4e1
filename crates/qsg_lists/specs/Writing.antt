-- the command that adds an entry, and the loss of a structure
use Rattle.std.specs.Prelude.{◌≡◌, ℕ, ◌+◌, ◌-◌, Bool, true, false, ◌==◌, ◌&&◌, [], ◌∷◌, ◌++◌, Option, Some, None, if◌then◌else◌, nat_lt, nat_le}
use Rattle.qsg_num.specs.declared.ids.UnitName.{UnitName}
use Rattle.qsg_num.specs.declared.ids.EntryId.{EntryId}
use Rattle.qsg_num.specs.Ids.{id_at}
use Rattle.qsg_lists.specs.declared.parts.Entry.{Entry}
use Rattle.qsg_lists.specs.declared.parts.Head.{Head}
use Rattle.qsg_lists.specs.declared.parts.Place.{Place}
use Rattle.qsg_lists.specs.declared.parts.Mark.TheVariants.{PutBy}
use Rattle.qsg_lists.specs.declared.parts.State.TheVariants as state
use Rattle.qsg_lists.specs.declared.parts.Connection.{Connection}
use Rattle.qsg_lists.specs.declared.parts.Lost.{Lost}
use Rattle.qsg_lists.specs.declared.parts.WriteWhy.{WriteWhy}
use Rattle.qsg_lists.specs.declared.parts.WriteWhy.TheVariants as why
use Rattle.qsg_lists.specs.Entries.{cost_of, used_of, depth_of}
use Rattle.qsg_lists.specs.Structures.{ListStructure, lost_of, is_active}

-- the elements that are free
abbrev pub free_of : ListStructure → ℕ
free_of s = s.capacity - used_of s.entries

-- Full where the entry needs more than is free, and then QueueFull where the queue has its most
abbrev pub room_refusal : ListStructure → Head → Place → ℕ → Option WriteWhy
room_refusal s head place max_depth =
    if nat_lt (free_of s) (cost_of place) then Some (why.Full (cost_of place) (free_of s))
    else (if nat_le max_depth (depth_of head.queue s.entries) then Some (why.QueueFull (depth_of head.queue s.entries)) else None)

abbrev pub lost_or : Option Lost → Option WriteWhy → Option WriteWhy
lost_or (Some lost) room = Some (why.Lost lost)
lost_or None room = room

-- why a write is refused, while memory is found: the first that holds
abbrev pub write_refusal : ListStructure → Connection → Head → Place → ℕ → Option WriteWhy
write_refusal s connection head place max_depth = lost_or (lost_of s connection) (room_refusal s head place max_depth)

-- the id that the next entry gets
abbrev pub next_id : ListStructure → EntryId
next_id s = id_at s.epoch (s.last + 1)

-- the entry that a write adds
abbrev pub new_entry : ListStructure → UnitName → Head → Place → Entry
new_entry s unit head place = record { id = next_id s; head = head; place = place; mark = PutBy unit }

-- the structure with that entry at its end
abbrev pub written : ListStructure → UnitName → Head → Place → ListStructure
written s unit head place = record s { last = s.last + 1; entries = s.entries ++ new_entry s unit head place ∷ [] }

-- a reason is the refusal; want of memory is told only where nothing else refuses
abbrev pub IsWhy : WriteWhy → Option WriteWhy → Type 0
IsWhy why.NoMemory refusal = refusal ≡ None
IsWhy (why.Lost lost) refusal = refusal ≡ Some (why.Lost lost)
IsWhy (why.Full need free) refusal = refusal ≡ Some (why.Full need free)
IsWhy (why.QueueFull depth) refusal = refusal ≡ Some (why.QueueFull depth)

-- the structure lost: failed and empty, in the next epoch
abbrev pub lost : ListStructure → ListStructure
lost s = record s { state = state.Failed; epoch = s.epoch + 1; last = 0; entries = [] }

-- the same where it is active in that epoch
abbrev pub lost_if : Bool → ListStructure → ListStructure
lost_if true s = lost s
lost_if false s = s

abbrev pub is_active_in : ℕ → ListStructure → Bool
is_active_in epoch s = is_active s.state && (s.epoch == epoch)
