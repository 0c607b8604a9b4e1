use Rattle.std.proofs.Common.{refl, sym, ◌∙◌}
use Rattle.std.specs.Prelude.{length}
use Rattle.qsg_dataset.proofs.Filling.{none_read, claimed_more, passed_more}
use Rattle.qsg_dataset.proofs.header.claim_all.Goals as goal
use Rattle.qsg_dataset.proofs.header.claim_all.Goals.{then-is_bit, else-is_bit}

pub loop-k-init : goal.loop-k-init
loop-k-init c = rw c.len-blocks.ensures (none_read c.args.rest.now c.args.map.now (length c.args.map.now) refl c.requires.free)

pub loop-k-preserved : goal.loop-k-preserved
loop-k-preserved c = elim c.if-is_bit.branch [
  | then-is_bit w ↦ rw (w.map-is, w.claim.ensures.claimed) (claimed_more c.args.rest.now c.loop-k.map c.len-blocks.result c.loop-k.k c.loop-k.invariant c.loop-k-test.true (sym c.is_bit.ensures ∙ w.if-is_bit.true))
  | else-is_bit w ↦ rw w.map-is (passed_more c.args.rest.now c.loop-k.map c.len-blocks.result c.loop-k.k c.loop-k.invariant (sym c.is_bit.ensures ∙ w.if-is_bit.false))
]
