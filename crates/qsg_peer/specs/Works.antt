-- what contracts see of a peer's work
use Rattle.std.specs.Prelude.{ℕ, ◌≡◌, ◌<◌, true, None}
use Rattle.qsg_num.specs.declared.seats.Member.{Member}
use Rattle.qsg_lists.specs.Marks.{is_unit_of}
use Rattle.qsg_walk.specs.Walks.{Walk, new_walk}
use Rattle.qsg_peer.specs.declared.phases.FailedLife.{FailedLife}
use Rattle.qsg_peer.specs.declared.phases.Phase.{Phase}
use Rattle.qsg_peer.specs.declared.phases.Phase.TheVariants.{Find, Low, At}
use Rattle.qsg_peer.specs.declared.phases.Stage.{Stage}
use Rattle.qsg_peer.specs.declared.phases.Stage.TheVariants.{Read, Connect, Search, Settle, Resolve}

-- whose system task does it, how far it has come, its walk over the log, and how many marks it took off
pub record Work : Type 0 where
  pub member : Member
  pub phase : Phase
  pub walk : Walk
  pub settled : ℕ

-- the work of a member before its first step: its reader was fed nothing
abbrev pub new_work : Member → Work
new_work m = record { member = m; phase = Find; walk = new_walk 0 0; settled = 0 }

-- A log that is being read has a page left to read. Before marks come off the walk has ended, and its last page is fed;
-- they are marks of the incarnation's units.
abbrev pub IsSoundAt : FailedLife → Stage → Walk → Type 0
IsSoundAt life Read w = 0 < w.left
IsSoundAt life (Connect s) w = w.left ≡ 0
IsSoundAt life (Search connection after) w = (w.left ≡ 0) × (w.kept ≡ None)
IsSoundAt life (Settle connection found) w = (w.left ≡ 0) × (w.kept ≡ None) × (is_unit_of life.member life.incarnation found.unit ≡ true)
IsSoundAt life Resolve w = w.left ≡ 0

abbrev pub IsSound : Phase → Walk → Type 0
IsSound Find w = Unit {0}
IsSound (Low life) w = Unit {0}
IsSound (At life stage) w = IsSoundAt life stage w
