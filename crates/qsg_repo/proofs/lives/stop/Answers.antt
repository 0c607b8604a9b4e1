use Rattle.std.proofs.Common.{arith}
use Rattle.std.proofs.lemmas.Grind.{common_steps}
use Rattle.std.proofs.lemmas.List.Edits.{map_over_more}
use Rattle.qsg_repo.specs.Lives.{stopped_life}
use Rattle.qsg_repo.proofs.lives.stop.Goals as goal

pub loop-life-preserved : goal.loop-life-preserved
loop-life-preserved c = grind (arith, common_steps, map_over_more (stopped_life c.args.member))
