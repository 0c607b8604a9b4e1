use Rattle.std.proofs.Common.{◌≡◌, drop}
use Rattle.qsg_space.specs.Spaces.{marked}
use Rattle.qsg_space.proofs.marks.mark.Given as goal

abbrev pub invariant-loop-block : goal.invariant-loop-block
invariant-loop-block l = marked l.now (drop l.block-index l.blocks) l.used ≡ marked l.now l.blocks l.initial.used
