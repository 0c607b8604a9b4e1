use Rattle.qsg_steady.proofs.Committing.{roomy_steady}
use Rattle.qsg_steady.proofs.keeping.more_room_keeps_the_group_steady.Goals as goal

pub returns : goal.returns
returns c = roomy_steady
