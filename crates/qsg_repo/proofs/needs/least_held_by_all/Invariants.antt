use Rattle.std.specs.List.{flat_map}
use Rattle.std.proofs.Common.{◌≡◌, take}
use Rattle.qsg_repo.specs.Keeping.{least, pages_held}
use Rattle.qsg_repo.proofs.needs.least_held_by_all.Given as goal

abbrev pub invariant-loop-row : goal.invariant-loop-row
invariant-loop-row l = l.least ≡ least l.first (flat_map (pages_held l.member) (take l.row-index l.holds))
