-- what a get finds, what it leaves, and what it is given
use Rattle.std.specs.Prelude.{ℕ, [], ◌∷◌, ◌++◌, List, take, Option, Some, None, ◌≡◌}
use Rattle.qsg_num.specs.declared.seats.Member.{Member}
use Rattle.qsg_num.specs.declared.seats.StructNo.{StructNo}
use Rattle.qsg_num.specs.declared.seats.TaskNo.{TaskNo}
use Rattle.qsg_num.specs.declared.ids.UnitName.{UnitName}
use Rattle.qsg_num.specs.declared.words.Delivery.{Delivery}
use Rattle.qsg_model.specs.declared.history.Op.{Op}
use Rattle.qsg_model.specs.declared.history.Op.TheVariants.{Got}
use Rattle.qsg_lists.specs.declared.parts.Connection.{Connection}
use Rattle.qsg_lists.specs.declared.parts.Lost.{Lost}
use Rattle.qsg_lists.specs.declared.parts.Entry.{Entry}
use Rattle.qsg_lists.specs.declared.parts.Place.{Place}
use Rattle.qsg_lists.specs.declared.parts.Place.TheVariants.{Inline, Offloaded}
use Rattle.qsg_lists.specs.declared.parts.Selector.{Selector}
use Rattle.qsg_lists.specs.Entries.{first_of, revise}
use Rattle.qsg_lists.specs.Structures.{ListStructure}
use Rattle.qsg_lists.specs.Taking.{got_by}
use Rattle.qsg_group.specs.declared.tasks.Claim.{Claim}
use Rattle.qsg_group.specs.declared.tasks.Task.{Task}
use Rattle.qsg_manager.specs.declared.managers.Manager.{Manager}
use Rattle.qsg_manager.specs.declared.taken.Taken.{Taken}
use Rattle.qsg_manager.specs.declared.taken.TakenBody.{TakenBody}
use Rattle.qsg_manager.specs.declared.taken.TakenBody.TheVariants.{Inside, Outside}
use Rattle.qsg_manager.specs.declared.taken.GetRefused.{GetRefused}
use Rattle.qsg_manager.specs.declared.taken.GetRefused.TheVariants as refused
use Rattle.qsg_manager.specs.Facilities.{structure_in, with_structure}
use Rattle.qsg_manager.specs.Storage.{task_at, with_task}

-- the entry that is to be delivered next
abbrev pub found_in : Connection → List ℕ → Delivery → Selector → List ListStructure → Option Entry
found_in c queue order select structures = first_of queue order select (structure_in c.structure structures).entries

-- a structure with the mark of a get on that entry, where there is one
abbrev pub with_taken : UnitName → Connection → Option Entry → List ListStructure → List ListStructure
with_taken u c None structures = structures
with_taken u c (Some e) structures = with_structure c.structure (record (structure_in c.structure structures) { entries = revise e.id (λ x. Some (got_by u x)) (structure_in c.structure structures).entries }) structures

abbrev pub claim_on : Connection → Entry → Claim
claim_on c e = record { connection = c; id = e.id; persistent = e.head.persistent }

-- a task with the operation that got an entry
abbrev pub with_got : Connection → Entry → Task → Task
with_got c e task = record task { ops = task.ops ++ (c.structure, Got e.id) ∷ []; claims = task.claims ++ claim_on c e ∷ [] }

-- the same where an entry was found, on a task, on its two lists, and on the task of a member
abbrev pub with_get : Connection → Option Entry → Task → Task
with_get c None task = task
with_get c (Some e) task = with_got c e task

abbrev pub ops_with : Connection → Option Entry → List (StructNo × Op) → List (StructNo × Op)
ops_with c None ops = ops
ops_with c (Some e) ops = ops ++ (c.structure, Got e.id) ∷ []

abbrev pub claims_with : Connection → Option Entry → List Claim → List Claim
claims_with c None claims = claims
claims_with c (Some e) claims = claims ++ claim_on c e ∷ []

abbrev pub with_found : Member → TaskNo → Connection → Option Entry → List Manager → List Manager
with_found m t c None managers = managers
with_found m t c (Some e) managers = with_task m t (with_got c e (task_at m t managers)) managers

-- of a body that stands outside, its place is given; the longest one has 512 blocks
abbrev pub body_taken : Place → TakenBody
body_taken (Inline body) = Inside body
body_taken (Offloaded owner blocks length) = Outside owner (take 512 blocks) length

abbrev pub taken_of : Entry → Taken
taken_of e = record { id = e.id; head = e.head; body = body_taken e.place }

-- the connection isn't served, or memory was wanting
abbrev pub IsNotGot : GetRefused → Option Lost → Type 0
IsNotGot refused.NoMemory lost = Unit {0}
IsNotGot (refused.Lost told) lost = lost ≡ Some told
