use Rattle.std.proofs.Common.{◌∙◌}
use Rattle.qsg_model.proofs.Filling.{added_by}
use Rattle.qsg_model.proofs.holding.is_added.Goals as goal

pub returns : goal.returns
returns c = c.is_kept.ensures ∙ added_by c.args.before.now c.args.m.now c.ends_of-ends.result.count c.ends_of-ends.result.floor c.ends_of-ends.ensures.count c.ends_of-ends.ensures.floor
