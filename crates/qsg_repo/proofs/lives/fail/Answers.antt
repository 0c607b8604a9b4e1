use Rattle.std.proofs.Common.{arith}
use Rattle.std.proofs.lemmas.Grind.{common_steps}
use Rattle.std.proofs.lemmas.List.Edits.{map_over_more}
use Rattle.qsg_repo.specs.Lives.{failed_life}
use Rattle.qsg_repo.proofs.lives.fail.Goals as goal

pub loop-life-preserved : goal.loop-life-preserved
loop-life-preserved c = grind (arith, common_steps, map_over_more (failed_life c.args.member c.args.incarnation))
