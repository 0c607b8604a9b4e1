use Rattle.qsg_rebuild.proofs.Keeping.{rebuild_stays}
use Rattle.qsg_rebuild.proofs.laws.every_change_keeps_rebuilds.Goals as goal

pub returns : goal.returns
returns c = rebuild_stays c.every_change_keeps_starters.ensures
