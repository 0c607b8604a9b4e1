use Rattle.std.proofs.Common.{◌≡◌, ◌++◌, map, take, drop}
use Rattle.qsg_repo.specs.Statuses.{dirty_smds}
use Rattle.qsg_repo.proofs.statuses.make_dirty.Given as goal

abbrev pub invariant-loop-smds : goal.invariant-loop-smds
invariant-loop-smds l = l.row ≡ map (dirty_smds) (take l.smds-index l.initial.row) ++ drop l.smds-index l.initial.row
