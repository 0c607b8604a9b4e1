-- what a step of a put needs of the group
use Rattle.std.specs.Prelude.{◌+◌, ◌^◌, ◌≡◌, ◌<◌, ◌≤◌, false, length, None, IfSome}
use Rattle.qsg_num.specs.declared.seats.Member.{Member}
use Rattle.qsg_num.specs.declared.seats.TaskNo.{TaskNo}
use Rattle.qsg_num.specs.declared.ids.UnitName.{UnitName}
use Rattle.qsg_num.specs.Seats.{structure_number}
use Rattle.qsg_logpage.specs.Log.{has_run}
use Rattle.qsg_logpage.specs.Reserved.{besides, pages_for}
use Rattle.qsg_repo.specs.Keeping.{keep}
use Rattle.qsg_requests.specs.declared.words.PutWords.{PutWords}
use Rattle.qsg_manager.specs.Facilities.{structure_in}
use Rattle.qsg_manager.specs.Storage.{manager_in, task_at}
use Rattle.qsg_logs.specs.Kept.{KeptLog, log_in}
use Rattle.qsg_parts.specs.Owned.{Owned, HasMember}
use Rattle.qsg_put.specs.declared.checking.Terms.{Terms}
use Rattle.qsg_put.specs.declared.phases.Phase.{Phase}
use Rattle.qsg_put.specs.declared.phases.Phase.TheVariants.{Check, Connect, Write}
use Rattle.qsg_put.specs.Works.{Work}
use Rattle.qsg_put.specs.Steps.{unit_of, need}

-- the unit's run isn't in hand, and its reservation has a place
pub record MayReserve (u : UnitName) (log : KeptLog) : Type 0 where
  pub idle : has_run u log.writer ≡ false
  pub few : length (besides u log.writer.reserved) < 8

pub record MayCheck (m : Member) (t : TaskNo) (p : Owned) : Type 0 where
  pub member : HasMember m p
  pub log : MayReserve (unit_of m t p.managers) (log_in m p.logs)
  -- no page that isn't written yet is kept
  pub kept : keep m p.repo ≤ (log_in m p.logs).writer.next
  -- the name that a task holds is of its member
  pub own : IfSome (task_at m t p.managers).unit (λ u. u.member ≡ m)
  -- a name is left for a task that holds none
  pub left : (task_at m t p.managers).unit ≡ None → (manager_in m p.managers).next + 1 < 2 ^ 32

-- a put that was checked has its pages reserved
pub record IsReady (m : Member) (t : TaskNo) (words : PutWords) (u : UnitName) (terms : Terms) (p : Owned) : Type 0 where
  pub member : HasMember m p
  pub structure : structure_number terms.structure ≤ length p.structures
  pub log : MayReserve u (log_in m p.logs)
  pub reserved : need m t words terms p ≤ pages_for u (log_in m p.logs).writer.reserved

-- what a put that goes on keeps, until it is answered
abbrev pub IsReadyAt : Member → TaskNo → PutWords → Owned → Phase → Type 0
IsReadyAt m t words p Check = Unit {0}
IsReadyAt m t words p (Connect u terms) = IsReady m t words u terms p
IsReadyAt m t words p (Write u terms epoch) = IsReady m t words u terms p

-- an id is left besides
pub record MayWrite (m : Member) (t : TaskNo) (words : PutWords) (u : UnitName) (terms : Terms) (p : Owned) : Type 0 where
  pub ready : IsReady m t words u terms p
  pub left : (structure_in terms.structure p.structures).last + 1 < 2 ^ 40

abbrev pub MayStepAt : Member → TaskNo → PutWords → Owned → Phase → Type 0
MayStepAt m t words p Check = MayCheck m t p
MayStepAt m t words p (Connect u terms) = IsReady m t words u terms p
MayStepAt m t words p (Write u terms epoch) = MayWrite m t words u terms p

abbrev pub MayStep : Work → Owned → Type 0
MayStep work p = MayStepAt work.member work.task work.words p work.phase
