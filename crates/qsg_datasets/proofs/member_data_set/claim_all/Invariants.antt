use Rattle.std.proofs.Common.{◌≡◌, ◌<◌, length, drop, true}
use Rattle.std.specs.List.{AllByRecursion}
use Rattle.qsg_num.specs.declared.ids.Block.{Block}
use Rattle.qsg_space.specs.Spaces.{marked}
use Rattle.qsg_datasets.proofs.member_data_set.claim_all.Given as goal

abbrev pub invariant-loop-block : goal.invariant-loop-block
invariant-loop-block l = record {
  claimed : marked true (drop l.block-index l.blocks) l.used ≡ marked true l.blocks l.initial.used;
  size : length l.used ≡ length l.initial.used;
  within : AllByRecursion (λ (b : Block). b.number < length l.initial.used) (drop l.block-index l.blocks);
}
