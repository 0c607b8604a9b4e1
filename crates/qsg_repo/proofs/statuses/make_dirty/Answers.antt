use Rattle.std.proofs.Common.{arith}
use Rattle.std.proofs.lemmas.Grind.{common_steps}
use Rattle.std.proofs.lemmas.List.Edits.{map_over_more}
use Rattle.qsg_repo.specs.Statuses.{dirty_smds}
use Rattle.qsg_repo.proofs.statuses.make_dirty.Goals as goal

pub loop-smds-preserved : goal.loop-smds-preserved
loop-smds-preserved c = grind (arith, common_steps, map_over_more (dirty_smds))
