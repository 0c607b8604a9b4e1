use Rattle.std.proofs.Common.{◌≡◌, take}
use Rattle.qsg_report.specs.Words.{structure_names}
use Rattle.qsg_report.proofs.words.structure_names.Given as goal

abbrev pub invariant-loop-structure : goal.invariant-loop-structure
invariant-loop-structure l = l.names.items ≡ structure_names (take l.structure-index l.structures)
