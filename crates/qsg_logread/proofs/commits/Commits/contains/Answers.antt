use Rattle.std.proofs.Common.{ap, ◌∙◌}
use Rattle.qsg_logread.specs.Fed.{is_committed}
use Rattle.qsg_logread.proofs.Noted.{has_key}
use Rattle.qsg_logread.proofs.commits.Commits.contains.Goals as goal

pub returns : goal.returns
returns c = c.contains_key.ensures ∙ has_key (record { unit = c.args.unit }) c.self.inside.units.entries ∙ ap (is_committed c.args.unit) c.self.view_is
