use Rattle.std.proofs.Common.{◌≡◌, ◌++◌, take}
use Rattle.std.specs.List.{filter_map}
use Rattle.qsg_shown.specs.Showing.{dataset_at}
use Rattle.qsg_run.proofs.data_sets.push_row.Given as goal

abbrev pub invariant-loop-structure : goal.invariant-loop-structure
invariant-loop-structure g l = l.items.items ≡ l.fn.items.items ++ filter_map (dataset_at l.sysplex l.member) (take l.structure-index l.structures)
