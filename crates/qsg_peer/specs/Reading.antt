-- whose log a peer's work is in the midst of reading, and on which incarnation it works
use Rattle.std.specs.Prelude.{◌&&◌, if◌then◌else◌, Option, Some, None, is_some}
use Rattle.qsg_num.specs.declared.seats.Member.{Member}
use Rattle.qsg_peer.specs.declared.phases.FailedLife.{FailedLife}
use Rattle.qsg_peer.specs.declared.phases.Phase.{Phase}
use Rattle.qsg_peer.specs.declared.phases.Phase.TheVariants.{Find, Low, At}
use Rattle.qsg_peer.specs.Works.{Work}
use Rattle.qsg_peer.specs.Needs.{is_reading}

-- the incarnation whose log is read and whose marks come off
abbrev pub life_at : Phase → Option FailedLife
life_at Find = None
life_at (Low life) = None
life_at (At life stage) = Some life

abbrev pub member_of : Option FailedLife → Option Member
member_of None = None
member_of (Some life) = Some life.member

-- the member whose log it is in the midst of reading: from its first read on, until it has read the last page
abbrev pub reading_of : Work → Option Member
reading_of w = if is_reading w.phase && is_some w.walk.kept then member_of (life_at w.phase) else None
