use Rattle.std.proofs.Common.{◌≡◌, ◌++◌, take}
use Rattle.std.specs.List.{flat_map}
use Rattle.qsg_report.specs.Shared.{entry_text}
use Rattle.qsg_report.proofs.shared.push_entries.Given as goal

abbrev pub invariant-loop-entry : goal.invariant-loop-entry
invariant-loop-entry l = l.out.items ≡ l.fn.out.items ++ flat_map (entry_text l.labels) (take l.entry-index l.entries)
