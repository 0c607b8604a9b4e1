-- When an action on structures and managers is one of the machine.
use Rattle.std.specs.Prelude.{ℕ, ◌+◌, ◌^◌, ◌<◌, ◌≤◌, ◌≡◌, true, false, List, [], ◌∷◌, ◌++◌, length, Option, Some, None, Ok, IfSome, slice_get}
use Rattle.qsg_num.specs.declared.seats.Member.{Member}
use Rattle.qsg_num.specs.declared.seats.StructNo.{StructNo}
use Rattle.qsg_num.specs.declared.seats.TaskNo.{TaskNo}
use Rattle.qsg_num.specs.declared.ids.UnitName.{UnitName}
use Rattle.qsg_num.specs.declared.ids.EntryId.{EntryId}
use Rattle.qsg_num.specs.declared.ids.PageNo.{PageNo}
use Rattle.qsg_num.specs.declared.words.Delivery.{Delivery}
use Rattle.qsg_num.specs.Seats.{member_number, structure_number}
use Rattle.qsg_msg.specs.declared.message.Message.{Message}
use Rattle.qsg_model.specs.declared.history.Op.{Op}
use Rattle.qsg_model.specs.declared.history.Op.TheVariants.{Got}
use Rattle.qsg_lists.specs.declared.parts.Connection.{Connection}
use Rattle.qsg_lists.specs.declared.parts.Head.{Head}
use Rattle.qsg_lists.specs.declared.parts.Place.{Place}
use Rattle.qsg_lists.specs.declared.parts.Entry.{Entry}
use Rattle.qsg_lists.specs.declared.parts.Lost.{Lost}
use Rattle.qsg_lists.specs.declared.parts.Selector.{Selector}
use Rattle.qsg_lists.specs.declared.parts.Settled.TheVariants.{Done}
use Rattle.qsg_lists.specs.Entries.{AreInOrder}
use Rattle.qsg_lists.specs.Structures.{ListStructure, lost_of}
use Rattle.qsg_lists.specs.Settling.{forget_answer}
use Rattle.qsg_lists.specs.Writing.{next_id}
use Rattle.qsg_group.specs.declared.tasks.Claim.{Claim}
use Rattle.qsg_group.specs.declared.tasks.Task.{Task}
use Rattle.qsg_group.specs.Group.{Log, idle}
use Rattle.qsg_group.specs.Changes.{open_task, hardening_task, settling_task}
use Rattle.qsg_manager.specs.declared.managers.Manager.{Manager}
use Rattle.qsg_manager.specs.Views.{Outside, body_of, message_of}
use Rattle.qsg_manager.specs.Facilities.{structure_in}
use Rattle.qsg_manager.specs.Storage.{manager_in, task_at}
use Rattle.qsg_manager.specs.Groups.{Rest}
use Rattle.qsg_manager.specs.Putting.{with_id}
use Rattle.qsg_manager.specs.Getting.{found_in}
use Rattle.qsg_manager.specs.Latches.{latch_of, first_needed}

-- a member is one of the group, with its five tasks
pub record IsMember (m : Member) (managers : List Manager) : Type 0 where
  pub within : member_number m ≤ length managers
  pub five : length (manager_in m managers).tasks ≡ 5

-- a structure is one of the group, and serves this connection
pub record IsServed (connection : Connection) (structures : List ListStructure) : Type 0 where
  pub within : structure_number connection.structure ≤ length structures
  pub served : lost_of (structure_in connection.structure structures) connection ≡ None

-- an open unit writes an entry whose message is that of its operation
pub record MayWrite (outside : Outside) (structures : List ListStructure) (managers : List Manager) (u : UnitName) (t : TaskNo) (ops : List (StructNo × Op)) (claims : List Claim) (connection : Connection) (head : Head) (place : Place) (message : Message) : Type 0 where
  pub member : IsMember u.member managers
  pub structure : IsServed connection structures
  pub has : task_at u.member t managers ≡ open_task u ops claims
  pub fits : (structure_in connection.structure structures).last + 1 < 2 ^ 40
  pub says : with_id (next_id (structure_in connection.structure structures)) message ≡ message_of connection.structure (next_id (structure_in connection.structure structures)) head (body_of (outside connection.structure) place)

-- a committed or backed out unit settles its next claim
pub record MaySettleNext (structures : List ListStructure) (managers : List Manager) (u : UnitName) (t : TaskNo) (claims : List Claim) (first : Option ℕ) (n : ℕ) (c : Claim) : Type 0 where
  pub member : IsMember u.member managers
  pub structure : IsServed c.connection structures
  pub has : task_at u.member t managers ≡ settling_task u claims first n
  pub is : slice_get claims n ≡ Some c

-- a task that holds nothing draws the next name of its member
pub record MayDrawName (managers : List Manager) (m : Member) (t : TaskNo) : Type 0 where
  pub member : IsMember m managers
  pub up : (manager_in m managers).up ≡ true
  pub free : task_at m t managers ≡ idle

-- an open unit gets the entry that a look-up found
pub record MayTake (structures : List ListStructure) (managers : List Manager) (u : UnitName) (t : TaskNo) (ops : List (StructNo × Op)) (claims : List Claim) (connection : Connection) (queue : List ℕ) (order : Delivery) (select : Selector) (e : Entry) : Type 0 where
  pub member : IsMember u.member managers
  pub structure : IsServed connection structures
  pub has : task_at u.member t managers ≡ open_task u ops claims
  pub found : found_in connection queue order select structures ≡ Some e
  pub ordered : AreInOrder (structure_in connection.structure structures).entries

-- an open unit undoes the get that is its last operation
pub record MayUngetEntry (structures : List ListStructure) (managers : List Manager) (u : UnitName) (t : TaskNo) (ops : List (StructNo × Op)) (claims : List Claim) (c : Claim) : Type 0 where
  pub member : IsMember u.member managers
  pub structure : IsServed c.connection structures
  pub has : task_at u.member t managers ≡ open_task u (ops ++ (c.connection.structure, Got c.id) ∷ []) (claims ++ c ∷ [])

-- an open unit drops that get, whose connection isn't served any more
pub record MayDropGet (structures : List ListStructure) (managers : List Manager) (u : UnitName) (t : TaskNo) (ops : List (StructNo × Op)) (claims : List Claim) (c : Claim) : Type 0 where
  pub member : IsMember u.member managers
  pub told : Lost
  pub lost : lost_of (structure_in c.connection.structure structures) c.connection ≡ Some told
  pub has : task_at u.member t managers ≡ open_task u (ops ++ (c.connection.structure, Got c.id) ∷ []) (claims ++ c ∷ [])

-- an entry is forgotten: its connection is served, and it is marked Cleanup
pub record MayForgetEntry (structures : List ListStructure) (connection : Connection) (id : EntryId) : Type 0 where
  pub within : structure_number connection.structure ≤ length structures
  pub done : forget_answer (structure_in connection.structure structures) connection id ≡ Ok Done

-- an open unit takes the log's latch, which no task of the member has, for a run from the log's next page on
pub record MayBeginUnit (logs : Member → Log) (managers : List Manager) (u : UnitName) (t : TaskNo) (ops : List (StructNo × Op)) (claims : List Claim) (first : PageNo) : Type 0 where
  pub member : IsMember u.member managers
  pub has : task_at u.member t managers ≡ open_task u ops claims
  pub latch : latch_of (manager_in u.member managers).tasks ≡ None
  pub begins : first.number ≡ (logs u.member).next

-- a unit's run was written, from the log's next page on
pub record MayHardenUnit (logs : Member → Log) (managers : List Manager) (u : UnitName) (t : TaskNo) (ops : List (StructNo × Op)) (claims : List Claim) (first next : ℕ) : Type 0 where
  pub member : IsMember u.member managers
  pub has : task_at u.member t managers ≡ hardening_task u ops claims first
  pub begins : first ≡ (logs u.member).next
  pub pages : first < next

-- an open unit is given up
pub record MayBackOutUnit (managers : List Manager) (u : UnitName) (t : TaskNo) (ops : List (StructNo × Op)) (claims : List Claim) : Type 0 where
  pub member : IsMember u.member managers
  pub has : task_at u.member t managers ≡ open_task u ops claims

-- a unit has settled all its claims
pub record MayFinishUnit (managers : List Manager) (u : UnitName) (t : TaskNo) (claims : List Claim) (first : Option ℕ) (n : ℕ) : Type 0 where
  pub member : IsMember u.member managers
  pub has : task_at u.member t managers ≡ settling_task u claims first n
  pub through : length claims ≤ n

-- a page of a member's log before which nothing is needed any more
pub record MayTellLow (rest : Rest) (managers : List Manager) (m : Member) (page : ℕ) : Type 0 where
  pub written : page ≤ (rest.logs m).next
  pub needed : IfSome (first_needed (manager_in m managers).tasks) (λ first. page ≤ first.number)
  pub resolved : (i : ℕ) → rest.failed m i ≡ false

-- a task without a name holds nothing
abbrev pub AreNamed : (Member → TaskNo → Task) → Type 0
AreNamed tasks = (m : Member) (t : TaskNo) → (tasks m t).unit ≡ None → tasks m t ≡ idle
