use Rattle.std.proofs.Common.{◌≡◌, ◌++◌, take}
use Rattle.std.specs.List.{flat_map}
use Rattle.qsg_report.specs.Shared.{structure_line}
use Rattle.qsg_report.proofs.shared.push_structures.Given as goal

abbrev pub invariant-loop-structure : goal.invariant-loop-structure
invariant-loop-structure l = l.out.items ≡ l.fn.out.items ++ flat_map (structure_line l.labels) (take l.structure-index l.structures)
