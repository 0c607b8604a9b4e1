-- what contracts see of a COMMIT or BACKOUT in progress
use Rattle.qsg_num.specs.declared.seats.Member.{Member}
use Rattle.qsg_num.specs.declared.seats.TaskNo.{TaskNo}
use Rattle.qsg_commit.specs.declared.phases.Phase.{Phase}

-- whose it is, and how far it has come
pub record Work : Type 0 where
  pub member : Member
  pub task : TaskNo
  pub phase : Phase
