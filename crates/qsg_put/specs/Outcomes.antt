-- what follows from what each step of a put does
use Rattle.std.specs.Prelude.{ℕ, ◌≡◌, ◌⊎◌, true, List, [], ◌∷◌, ◌++◌, Some, None}
use Rattle.qsg_num.specs.declared.seats.Member.{Member}
use Rattle.qsg_num.specs.declared.seats.StructNo.{StructNo}
use Rattle.qsg_num.specs.declared.seats.TaskNo.{TaskNo}
use Rattle.qsg_num.specs.declared.ids.EntryId.{EntryId}
use Rattle.qsg_num.specs.declared.ids.UnitName.{UnitName}
use Rattle.qsg_model.specs.declared.history.Op.{Op}
use Rattle.qsg_model.specs.declared.history.Op.TheVariants.{Put}
use Rattle.qsg_lists.specs.declared.parts.Mark.TheVariants.{PutBy}
use Rattle.qsg_lists.specs.declared.parts.Place.TheVariants.{Inline}
use Rattle.qsg_lists.specs.Writing.{next_id}
use Rattle.qsg_objects.specs.declared.registry.Queue.{Queue}
use Rattle.qsg_objects.specs.Registry.{Registry, queue_named, structure_numbered}
use Rattle.qsg_requests.specs.declared.words.PutWords.{PutWords}
use Rattle.qsg_group.specs.declared.tasks.Claim.{Claim}
use Rattle.qsg_group.specs.declared.tasks.Task.{Task}
use Rattle.qsg_group.specs.Group.{Group, idle}
use Rattle.qsg_group.specs.Changes.{Change, open_task}
use Rattle.qsg_manager.specs.declared.managers.Manager.{Manager}
use Rattle.qsg_manager.specs.Actions.{IsMember}
use Rattle.qsg_manager.specs.Facilities.{structure_in}
use Rattle.qsg_manager.specs.Storage.{manager_in, task_at}
use Rattle.qsg_logs.specs.Kept.{KeptLog}
use Rattle.qsg_parts.specs.Owned.{Owned}
use Rattle.qsg_put.specs.declared.checking.Terms.{Terms}
use Rattle.qsg_put.specs.declared.phases.Phase.{Phase}
use Rattle.qsg_put.specs.declared.phases.Phase.TheVariants.{Check, Connect, Write}
use Rattle.qsg_put.specs.Checking.{terms_of, recovers, put_refusal}
use Rattle.qsg_put.specs.Messages.{message_of, head_of}
use Rattle.qsg_put.specs.Steps.{use_of}
use Rattle.qsg_put.specs.Works.{Work}

-- ---- the machine

-- the group is as it was, or one shared action was made
abbrev pub IsStep : Group → Group → Type 0
IsStep g h = (h ≡ g) ⊎ Change g h

-- the task holds this unit, which is open
pub record HasOpen (m : Member) (t : TaskNo) (u : UnitName) (managers : List Manager) : Type 0 where
  pub ops : List (StructNo × Op)
  pub claims : List Claim
  pub has : task_at m t managers ≡ open_task u ops claims

-- before the check a task without a name holds nothing; after it the task holds the put's unit
abbrev pub HoldsAt : Member → TaskNo → List Manager → Phase → Type 0
HoldsAt m t managers Check = (task_at m t managers).unit ≡ None → task_at m t managers ≡ idle
HoldsAt m t managers (Connect u terms) = HasOpen m t u managers
HoldsAt m t managers (Write u terms epoch) = HasOpen m t u managers

-- the member of a put is up, and its task is at that put
pub record IsAtWork (work : Work) (managers : List Manager) : Type 0 where
  pub member : IsMember work.member managers
  pub up : (manager_in work.member managers).up ≡ true
  pub holds : HoldsAt work.member work.task managers work.phase

-- ---- the message

-- the terms are what the words say, or else what the queue says, and nothing refuses them
pub record AreTermsOf (words : PutWords) (operations : ℕ) (terms : Terms) (objects : Registry) : Type 0 where
  pub queue : Queue
  pub named : queue_named words.queue objects ≡ Some queue
  pub passed : put_refusal words operations queue (recovers (structure_numbered queue.structure objects)) ≡ None
  pub terms_are : terms ≡ terms_of words queue

-- the message that is asked for is in its structure, under the mark of the unit, and its operation is the unit's last
pub record IsPut (work : Work) (u : UnitName) (terms : Terms) (epoch : ℕ) (id : EntryId) (p q : Owned) : Type 0 where
  pub next : id ≡ next_id (structure_in terms.structure p.structures)
  pub entry : (structure_in terms.structure q.structures).entries
      ≡ (structure_in terms.structure p.structures).entries ++ record { id = id; head = head_of work.words terms; place = Inline work.words.body; mark = PutBy u } ∷ []
  pub operation : (task_at work.member work.task q.managers).ops ≡ (task_at work.member work.task p.managers).ops ++ (terms.structure, Put (message_of work.words terms id)) ∷ []
  pub claim : (task_at work.member work.task q.managers).claims ≡ (task_at work.member work.task p.managers).claims ++ record { connection = use_of terms epoch; id = id; persistent = terms.persistent } ∷ []

-- ---- what stays

-- of a log, all but what is reserved and how far records fill their pages
pub record IsSameLog (old new : KeptLog) : Type 0 where
  pub tells : new.tells ≡ old.tells
  pub bytes : new.bytes ≡ old.bytes
  pub faults : new.faults ≡ old.faults
  pub extent : new.extent ≡ old.extent
  pub size : new.writer.size ≡ old.writer.size
  pub next : new.writer.next ≡ old.writer.next
  pub hand : new.writer.hand ≡ old.writer.hand

-- ---- names

-- the name that a task holds is of its member
abbrev pub AreOwn : (Member → TaskNo → Task) → Type 0
AreOwn tasks = (m : Member) (t : TaskNo) (u : UnitName) → (tasks m t).unit ≡ Some u → u.member ≡ m
