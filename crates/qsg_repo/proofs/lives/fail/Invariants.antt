use Rattle.std.proofs.Common.{◌≡◌, ◌++◌, map, take, drop}
use Rattle.qsg_repo.specs.Lives.{failed_life}
use Rattle.qsg_repo.proofs.lives.fail.Given as goal

abbrev pub invariant-loop-life : goal.invariant-loop-life
invariant-loop-life l = l.lives ≡ map (failed_life l.member l.incarnation) (take l.life-index l.initial.lives) ++ drop l.life-index l.initial.lives
