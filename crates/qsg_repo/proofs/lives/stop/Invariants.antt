use Rattle.std.proofs.Common.{◌≡◌, ◌++◌, map, take, drop}
use Rattle.qsg_repo.specs.Lives.{stopped_life}
use Rattle.qsg_repo.proofs.lives.stop.Given as goal

abbrev pub invariant-loop-life : goal.invariant-loop-life
invariant-loop-life l = l.lives ≡ map (stopped_life l.member) (take l.life-index l.initial.lives) ++ drop l.life-index l.initial.lives
