-- what a crash of a member leaves
use Rattle.std.specs.Prelude.{ℕ, ◌≡◌, ◌≤◌, ◌<◌, ◌+◌, Bool, ◌&&◌, if◌then◌else◌, List, [], ◌∷◌, ◌++◌, length, Option, Some, None, IsSome}
use Rattle.qsg_num.specs.declared.seats.Member.{Member}
use Rattle.qsg_num.specs.declared.seats.TaskNo.{TaskNo}
use Rattle.qsg_num.specs.Seats.{member_number}
use Rattle.qsg_model.specs.declared.history.Item.{Item}
use Rattle.qsg_model.specs.declared.history.Item.TheVariants.{Unit as UnitOf}
use Rattle.qsg_repo.specs.Calls.{crashed as failed_in}
use Rattle.qsg_group.specs.declared.tasks.Task.{Task}
use Rattle.qsg_unitlog.specs.Tells.{is_last}
use Rattle.qsg_manager.specs.Latches.{latch_of}
use Rattle.qsg_manager.specs.Seats.{with_down}
use Rattle.qsg_manager.specs.Storage.{manager_in, task_in}
use Rattle.qsg_logs.specs.Cuts.{IsCut}
use Rattle.qsg_logs.specs.Kept.{KeptLog, log_in, with_log}
use Rattle.qsg_datasets.specs.Calls.{AreCut}
use Rattle.qsg_datasets.specs.Kept.{KeptSet, sets_of, with_sets_of}
use Rattle.qsg_parts.specs.Owned.{Owned, HasMember}

-- the member has its log and its data sets, and where a run is in hand, the history has a slot for its unit
pub record MayCrash (m : Member) (p : Owned) : Type 0 where
  pub member : HasMember m p
  pub datasets : member_number m ≤ length p.datasets
  pub room : IsSome (log_in m p.logs).writer.hand → 0 < p.history.room

-- the unit of a task with its operations, if it holds one
abbrev pub unit_of : Task → List Item
unit_of task = elim task.unit [ None ↦ [] | Some u ↦ UnitOf u task.ops ∷ [] ]

abbrev pub unit_at : Option TaskNo → List Task → List Item
unit_at None tasks = []
unit_at (Some t) tasks = unit_of (task_in t tasks)

-- the unit of the task that has the latch
abbrev pub latched_unit : List Task → List Item
latched_unit tasks = unit_at (latch_of tasks) tasks

-- the unit that a cut commits: that of the run in hand, where its last page was in hand and is left whole
abbrev pub committed_by : Bool → Member → Owned → List Item
committed_by left m p = if is_last (log_in m p.logs).writer && left then latched_unit (manager_in m p.managers).tasks else []

-- The member is down and its storage is gone, its incarnation is failed, its log and its data sets are these, and these
-- units are in the history.
abbrev pub crashed : Member → KeptLog → List KeptSet → List Item → ℕ → Owned → Owned
crashed m log row units room p = record p {
  managers = with_down m p.managers;
  logs = with_log m log p.logs;
  datasets = with_sets_of m row p.datasets;
  repo = failed_in m (manager_in m p.managers).incarnation p.repo;
  history = record { items = p.history.items ++ units; room = room };
}

pub record IsCrash (m : Member) (p q : Owned) : Type 0 where
  -- whether the page in hand is left whole
  pub left : Bool
  pub log : IsCut left (log_in m p.logs) (log_in m q.logs)
  pub datasets : AreCut (sets_of m p.datasets) (sets_of m q.datasets)
  pub parts : q ≡ crashed m (log_in m q.logs) (sets_of m q.datasets) (committed_by left m p) q.history.room p
  pub room : p.history.room ≤ q.history.room + length (committed_by left m p)
