use Rattle.std.proofs.Common.{◌≡◌, ◌++◌, take}
use Rattle.std.specs.List.{flat_map}
use Rattle.qsg_report.specs.Shared.{entries_text}
use Rattle.qsg_report.proofs.shared.push_all_entries.Given as goal

abbrev pub invariant-loop-structure : goal.invariant-loop-structure
invariant-loop-structure l = l.out.items ≡ l.fn.out.items ++ flat_map (entries_text l.labels) (take l.structure-index l.structures)
