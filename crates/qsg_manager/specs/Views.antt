-- What the machine of the group sees of list structures.
use Rattle.std.specs.Prelude.{ℕ, Bool, true, false, List, map}
use Rattle.qsg_num.specs.declared.seats.Member.{Member}
use Rattle.qsg_num.specs.declared.seats.StructNo.{StructNo}
use Rattle.qsg_num.specs.declared.ids.Block.{Block}
use Rattle.qsg_num.specs.declared.ids.EntryId.{EntryId}
use Rattle.qsg_msg.specs.declared.message.Message.{Message}
use Rattle.qsg_lists.specs.declared.parts.Place.{Place}
use Rattle.qsg_lists.specs.declared.parts.Place.TheVariants.{Inline, Offloaded}
use Rattle.qsg_lists.specs.declared.parts.Head.{Head}
use Rattle.qsg_lists.specs.declared.parts.Entry.{Entry}
use Rattle.qsg_lists.specs.Structures.{ListStructure}
use Rattle.qsg_group.specs.Group.{Held, Shelf}

-- what the data sets of one structure read: the body of an owner's blocks, of so many bytes
abbrev pub Bodies : Type 0
Bodies = Member → List Block → ℕ → List ℕ

-- what all data sets read, of which a member has one for each structure
abbrev pub Outside : Type 0
Outside = StructNo → Bodies

-- the body of an entry: in the entry itself, or in its owner's data set
abbrev pub body_of : Bodies → Place → List ℕ
body_of bodies (Inline body) = body
body_of bodies (Offloaded owner blocks length) = bodies owner blocks length

abbrev pub is_outside : Place → Bool
is_outside (Inline body) = false
is_outside (Offloaded owner blocks length) = true

-- the message of an entry, by its parts
abbrev pub message_of : StructNo → EntryId → Head → List ℕ → Message
message_of s id head body = record {
  id = id;
  structure = s;
  queue = head.queue;
  priority = head.priority;
  persistent = head.persistent;
  msg_id = head.msg_id;
  correl_id = head.correl_id;
  body = body;
}

-- an entry with its whole message
abbrev pub held_of : Outside → StructNo → Entry → Held
held_of outside s e = record { message = message_of s e.id e.head (body_of (outside s) e.place); mark = e.mark; outside = is_outside e.place }

-- a structure with whole messages
abbrev pub shelf_of : Outside → StructNo → ListStructure → Shelf
shelf_of outside s structure = record { state = structure.state; epoch = structure.epoch; last = structure.last; entries = map (held_of outside s) structure.entries }
