use Rattle.qsg_model.proofs.Filling.{add_is_insert}
use Rattle.qsg_model.proofs.holding.add.Goals as goal

pub returns : goal.returns
returns c = rw (c.in_ok-insert.ensures.items, c.place_of-place.ensures.value, c.as_slice.ensures.value) (add_is_insert c.args.m c.args.messages.now.items)
