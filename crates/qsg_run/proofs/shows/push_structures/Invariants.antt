use Rattle.std.proofs.Common.{◌≡◌, ◌++◌, map, take}
use Rattle.std.specs.List.{filter_map}
use Rattle.qsg_shown.specs.Showing.{seen, structure_at}
use Rattle.qsg_run.proofs.shows.push_structures.Given as goal

abbrev pub invariant-loop-number : goal.invariant-loop-number
invariant-loop-number g l = map seen l.items.items ≡ map seen l.fn.items.items ++ filter_map (structure_at l.sysplex) (take l.number-index l.numbers)
