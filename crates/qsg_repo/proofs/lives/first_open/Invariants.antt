use Rattle.std.proofs.Common.{◌≡◌, take}
use Rattle.qsg_repo.specs.Lives.{first_open}
use Rattle.qsg_repo.proofs.lives.first_open.Given as goal

abbrev pub invariant-loop-life : goal.invariant-loop-life
invariant-loop-life l = l.least ≡ first_open l.skip (take l.life-index l.lives)
