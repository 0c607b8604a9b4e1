use Rattle.std.proofs.Common.{◌≡◌, ◌++◌, take}
use Rattle.std.specs.List.{flat_map}
use Rattle.qsg_report.specs.Check.{numbered_text}
use Rattle.qsg_report.proofs.check.push_cfstructs.Given as goal

abbrev pub invariant-loop-structure : goal.invariant-loop-structure
invariant-loop-structure l = l.out.items ≡ l.fn.out.items ++ flat_map (numbered_text l.objects l.sizes) (take l.structure-index l.structures)
