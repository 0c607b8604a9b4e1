use Rattle.std.proofs.Common.{◌≡◌, map, take}
use Rattle.qsg_draft.specs.Sizes.{size_of}
use Rattle.qsg_draft.proofs.plans.sizes_of.Given as goal

abbrev pub invariant-loop-at : goal.invariant-loop-at
invariant-loop-at l = l.sizes.items ≡ map (size_of l.facilities) (take l.at l.objects.structures)
