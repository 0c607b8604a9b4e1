use Rattle.std.proofs.Common.{ap, sym, ◌∙◌}
use Rattle.std.specs.Option.{option_copied}
use Rattle.qsg_logread.specs.Fed.{structures_of}
use Rattle.qsg_logread.proofs.Noted.{flat, value_of_key}
use Rattle.qsg_logread.proofs.commits.Commits.structures.Goals as goal

pub returns-in-Some : goal.returns-in-Some
returns-in-Some c =
    c.copied.ensures
    ∙ ap flat (ap option_copied (sym c.in-Some.is) ∙ c.get.ensures.value)
    ∙ value_of_key (record { unit = c.args.unit }) c.self.inside.units.entries
    ∙ ap (structures_of c.args.unit) c.self.view_is

pub returns-in-None : goal.returns-in-None
returns-in-None c =
    ap flat (ap option_copied (sym c.in-None.is) ∙ c.get.ensures.value)
    ∙ value_of_key (record { unit = c.args.unit }) c.self.inside.units.entries
    ∙ ap (structures_of c.args.unit) c.self.view_is
