-- what the steps leave that take the marks of a unit off, and its end
use Rattle.std.specs.Prelude.{Bool, Option, Some, None, if◌then◌else◌}
use Rattle.qsg_num.specs.declared.seats.Member.{Member}
use Rattle.qsg_num.specs.declared.seats.TaskNo.{TaskNo}
use Rattle.qsg_num.specs.declared.ids.UnitName.{UnitName}
use Rattle.qsg_num.specs.declared.ids.PageNo.{PageNo}
use Rattle.qsg_lists.specs.Settling.{settle_answer, settled_entry, revised_if_done}
use Rattle.qsg_repo.specs.Calls.{published as told_low}
use Rattle.qsg_group.specs.declared.tasks.Claim.{Claim}
use Rattle.qsg_manager.specs.Facilities.{structure_in, with_structure}
use Rattle.qsg_manager.specs.Latches.{first_needed}
use Rattle.qsg_manager.specs.Settles.{next_claim, commits, further}
use Rattle.qsg_manager.specs.Storage.{manager_in, task_at}
use Rattle.qsg_manager.specs.Units.{with_stage, with_backed_out, with_idle}
use Rattle.qsg_logs.specs.Kept.{log_in, with_log, with_ended}
use Rattle.qsg_parts.specs.Owned.{Owned}
use Rattle.qsg_commit.specs.Committing.{is_none}

-- ---- marks

-- the mark of a claim comes off, by the connection of the claim; where that isn't served any more, it counts as settled
abbrev pub with_settled : UnitName → TaskNo → Claim → Owned → Owned
with_settled u t c p = record p {
  structures = with_structure c.connection.structure (revised_if_done (settle_answer (structure_in c.connection.structure p.structures) c.connection c.id u) c.id (settled_entry (commits (task_at u.member t p.managers).stage)) (structure_in c.connection.structure p.structures)) p.structures;
  managers = with_stage u.member t (further (task_at u.member t p.managers).stage) p.managers;
}

abbrev pub settled_by : UnitName → TaskNo → Option Claim → Owned → Owned
settled_by u t None p = p
settled_by u t (Some c) p = with_settled u t c p

-- the next mark of a unit comes off, in the order of its operations
abbrev pub settled : UnitName → TaskNo → Owned → Owned
settled u t p = settled_by u t (next_claim (task_at u.member t p.managers)) p

-- no mark is left
abbrev pub is_settled : UnitName → TaskNo → Owned → Bool
is_settled u t p = is_none (next_claim (task_at u.member t p.managers))

-- ---- the end

-- its task holds nothing, and nothing of the log is reserved for it
abbrev pub ended : UnitName → TaskNo → Owned → Owned
ended u t p = record p {
  managers = with_idle u.member t p.managers;
  logs = with_log u.member (with_ended t u (log_in u.member p.logs)) p.logs;
}

abbrev pub page_or : PageNo → Option PageNo → PageNo
page_or next None = next
page_or next (Some page) = page

-- the first page that a unit of a member still needs, or else the next page of its log
abbrev pub low_page : Member → Owned → PageNo
low_page m p = page_or (record { number = (log_in m p.logs).writer.next }) (first_needed (manager_in m p.managers).tasks)

-- a committed unit ends, and then its member tells its low page
abbrev pub with_low_told : Member → Owned → Owned
with_low_told m p = record p { repo = told_low m (low_page m p) p.repo }

abbrev pub published : UnitName → TaskNo → Owned → Owned
published u t p = with_low_told u.member (ended u t p)

-- ---- BACKOUT

-- a unit is given up
abbrev pub given_up : UnitName → TaskNo → Owned → Owned
given_up u t p = record p { managers = with_backed_out u.member t p.managers }

abbrev pub ended_if_settled : UnitName → TaskNo → Owned → Owned
ended_if_settled u t p = if is_settled u t p then ended u t p else p

-- the next mark of a unit that is given up comes off, and the last one ends it
abbrev pub undone : UnitName → TaskNo → Owned → Owned
undone u t p = ended_if_settled u t (settled u t p)
