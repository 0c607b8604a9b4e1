-- The group as laws see it: what its structures hold, its logs, its members and their tasks, and what happened.
use Rattle.std.specs.Prelude.{ℕ, Bool, false, List, [], None}
use Rattle.qsg_num.specs.declared.seats.Member.{Member}
use Rattle.qsg_num.specs.declared.seats.StructNo.{StructNo}
use Rattle.qsg_num.specs.declared.seats.TaskNo.{TaskNo}
use Rattle.qsg_num.specs.declared.ids.UnitName.{UnitName}
use Rattle.qsg_msg.specs.declared.message.Message.{Message}
use Rattle.qsg_model.specs.declared.history.Op.{Op}
use Rattle.qsg_model.specs.declared.history.Item.{Item}
use Rattle.qsg_lists.specs.declared.parts.State.{State}
use Rattle.qsg_lists.specs.declared.parts.State.TheVariants.{Active}
use Rattle.qsg_lists.specs.declared.parts.Mark.{Mark}
use Rattle.qsg_group.specs.declared.tasks.Task.{Task}
use Rattle.qsg_group.specs.declared.tasks.Stage.TheVariants.{Open}

-- an entry with its whole message, its mark, and whether its body stands outside the structure
pub record Held : Type 0 where
  pub message : Message
  pub mark : Mark
  pub outside : Bool

-- a structure: its state, epoch, last sequence number, and entries in order of id
pub record Shelf : Type 0 where
  pub state : State
  pub epoch : ℕ
  pub last : ℕ
  pub entries : List Held

-- the records of one unit in a log: its name, the first page of its run, and its persistent operations
pub record Run : Type 0 where
  pub unit : UnitName
  pub first : ℕ
  pub told : List (StructNo × Op)

-- a log: its runs from page `keep` on, the next page to be written, and the member's low page
pub record Log : Type 0 where
  pub runs : List Run
  pub next : ℕ
  pub low : ℕ
  pub keep : ℕ

-- a member: whether it is up, its last incarnation, and the next number that a unit of it gets
pub record Seat : Type 0 where
  pub up : Bool
  pub incarnation : ℕ
  pub next : ℕ

pub record Group : Type 0 where
  pub shelves : StructNo → Shelf
  pub logs : Member → Log
  pub seats : Member → Seat
  -- whether that incarnation failed and isn't resolved yet
  pub failed : Member → ℕ → Bool
  pub tasks : Member → TaskNo → Task
  -- the epoch of the top of the note that is kept of a structure, 0 where there is none
  pub tops : StructNo → ℕ
  pub history : List Item

abbrev pub idle : Task
idle = record { unit = None; ops = []; claims = []; stage = Open }

-- no member has started, and nothing has happened
abbrev pub empty_group : Group
empty_group = record {
  shelves = λ s. record { state = Active; epoch = 0; last = 0; entries = [] };
  logs = λ m. record { runs = []; next = 0; low = 0; keep = 0 };
  seats = λ m. record { up = false; incarnation = 0; next = 1 };
  failed = λ m i. false;
  tasks = λ m t. idle;
  tops = λ s. 0;
  history = [];
}
