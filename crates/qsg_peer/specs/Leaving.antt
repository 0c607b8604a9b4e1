-- what steps leave as it was
use Rattle.std.specs.Prelude.{◌≡◌, Bool, true, false}
use Rattle.qsg_num.specs.declared.seats.Member.{Member}
use Rattle.qsg_logs.specs.Kept.{log_in}
use Rattle.qsg_parts.specs.Owned.{Owned}
use Rattle.qsg_logs.specs.Reading.{IsRead}
use Rattle.qsg_peer.specs.declared.phases.Phase.{Phase}
use Rattle.qsg_peer.specs.declared.phases.Phase.TheVariants.{Find, Low, At}
use Rattle.qsg_peer.specs.declared.phases.Stage.{Stage}
use Rattle.qsg_peer.specs.declared.phases.Stage.TheVariants.{Read, Connect, Search, Settle, Resolve}

abbrev pub is_settle : Stage → Bool
is_settle Read = false
is_settle (Connect s) = false
is_settle (Search connection after) = false
is_settle (Settle connection found) = true
is_settle Resolve = false

-- the next step takes a mark off
abbrev pub takes_off : Phase → Bool
takes_off Find = false
takes_off (Low life) = false
takes_off (At life stage) = is_settle stage

-- members' storage, the data sets, the objects and the history are as they were, and each log but for what reading does to
-- its device
pub record LeavesRest (p q : Owned) : Type 0 where
  pub managers : q.managers ≡ p.managers
  pub datasets : q.datasets ≡ p.datasets
  pub objects : q.objects ≡ p.objects
  pub history : q.history ≡ p.history
  pub logs : (m : Member) → IsRead (log_in m p.logs) (log_in m q.logs)

abbrev pub LeavesStructures : Owned → Owned → Type 0
LeavesStructures p q = q.structures ≡ p.structures
