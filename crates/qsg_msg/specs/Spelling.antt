-- the bytes of a message; numbers have their highest byte first
use Rattle.std.specs.Prelude.{◌≡◌, ℕ, ◌<◌, ◌≤◌, ◌^◌, Bool, true, false, List, ◌∷◌, ◌++◌, length}
use Rattle.std.specs.Int.{w32, w64, to_be_bytes}
use Rattle.qsg_num.specs.Seats.{structure_number, priority_number}
use Rattle.qsg_num.specs.Names.{is_queue_name}
use Rattle.qsg_msg.specs.declared.message.Message.{Message}

abbrev pub bit : Bool → ℕ
bit true = 1
bit false = 0

-- a byte of length, and the name
abbrev pub queue_text : List ℕ → List ℕ
queue_text name = length name ∷ name

-- four bytes of length, and the body
abbrev pub body_text : List ℕ → List ℕ
body_text body = to_be_bytes w32 (length body) ++ body

-- the id, the structure, the queue
abbrev pub key_text : Message → List ℕ
key_text m = to_be_bytes w64 m.id.number ++ (structure_number m.structure ∷ queue_text m.queue)

-- the priority, whether it is persistent, the two ids of 24 bytes
abbrev pub descriptor_text : Message → List ℕ
descriptor_text m = priority_number m.priority ∷ (bit m.persistent ∷ (m.msg_id ++ m.correl_id))

unfoldable pub spelling : Message → List ℕ
spelling m = key_text m ++ (descriptor_text m ++ body_text m.body)

-- the ranges that the types of its fields keep
pub record IsMessage (m : Message) : Type 0 where
  pub id : m.id.number < 2 ^ 64
  pub queue : is_queue_name m.queue ≡ true
  pub msg_id : length m.msg_id ≡ 24
  pub correl_id : length m.correl_id ≡ 24
  pub body : length m.body ≤ 4194304

-- the bytes are those of a message
abbrev pub IsSpelling : List ℕ → Type 0
IsSpelling bytes = (m : Message) × IsMessage m × (bytes ≡ spelling m)
