use Rattle.std.proofs.Common.{sym, ◌∙◌}
use Rattle.qsg_shown.proofs.Counting.{rest-free}
use Rattle.qsg_shown.proofs.data_sets.used_blocks.Goals as goal

pub returns : goal.returns
returns g c = c.used.ensures ∙ sym (rest-free c.args.epoch c.args.set.now c.kept.ensures)
