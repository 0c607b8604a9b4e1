-- what contracts see of a structure, and which of its users are served
use Rattle.std.specs.Prelude.{ℕ, ◌^◌, ◌<◌, ◌≤◌, Bool, true, false, ◌==◌, ◌&&◌, List, Option, Some, None, if◌then◌else◌, Result, Ok, Err, ◌≡◌, option_copied}
use Rattle.std.specs.Borrow.{Bor}
use Rattle.std.specs.List.{AllByRecursion}
use Rattle.qsg_num.specs.declared.seats.StructNo.{StructNo}
use Rattle.qsg_num.specs.Ids.{id_at}
use Rattle.qsg_lists.specs.declared.parts.Entry.{Entry}
use Rattle.qsg_lists.specs.declared.parts.State.{State}
use Rattle.qsg_lists.specs.declared.parts.State.TheVariants.{Active, Failed, InRecover}
use Rattle.qsg_lists.specs.declared.parts.Connection.{Connection}
use Rattle.qsg_lists.specs.declared.parts.Lost.{Lost}
use Rattle.qsg_lists.specs.declared.parts.Seen.{Seen}
use Rattle.qsg_lists.specs.Entries.{AreInOrder, used_of}

-- a structure: its number, state, epoch, last sequence number, capacity in elements, and entries in order of id
pub record ListStructure : Type 0 where
  pub number : StructNo
  pub state : State
  pub epoch : ℕ
  pub last : ℕ
  pub capacity : ℕ
  pub entries : List Entry

-- what every structure keeps
pub record IsSound (s : ListStructure) : Type 0 where
  pub epoch_fits : s.epoch < 2 ^ 24
  pub last_fits : s.last < 2 ^ 40
  pub capacity_fits : s.capacity < 2 ^ 32
  pub ordered : AreInOrder s.entries
  pub topped : AllByRecursion (λ (e : Entry). e.id.number ≤ (id_at s.epoch s.last).number) s.entries
  pub within : used_of s.entries ≤ s.capacity

abbrev pub is_active : State → Bool
is_active Active = true
is_active Failed = false
is_active (InRecover member incarnation) = false

-- why a user isn't served, if it isn't: the structure isn't active, or its epoch differs
abbrev pub lost_of : ListStructure → Connection → Option Lost
lost_of s connection = if is_active s.state && (connection.epoch == s.epoch) then None else Some (record { state = s.state; epoch = s.epoch })

-- the use of a structure in its epoch
abbrev pub connection_of : ListStructure → Connection
connection_of s = record { structure = s.number; epoch = s.epoch }

-- what a user is told at its first use
abbrev pub seen : ListStructure → Seen
seen s = record { connection = connection_of s; used = used_of s.entries; capacity = s.capacity; top = id_at s.epoch s.last }

abbrev pub connect_answer : ListStructure → Result Seen Lost
connect_answer s = if is_active s.state then Ok (seen s) else Err (record { state = s.state; epoch = s.epoch })

-- the refusal, or else the answer
abbrev pub unless : {A : Type 0} → Option Lost → A → Result A Lost
unless None answer = Ok answer
unless (Some lost) answer = Err lost

-- what is lent is the refusal, or else the entry that is found
abbrev pub Answers : Result (Option (Bor Entry)) Lost → Option Lost → Option Entry → Type 0
Answers (Ok lent) None found = option_copied lent ≡ found
Answers (Ok lent) (Some lost) found = ⊥
Answers (Err told) None found = ⊥
Answers (Err told) (Some lost) found = told ≡ lost
