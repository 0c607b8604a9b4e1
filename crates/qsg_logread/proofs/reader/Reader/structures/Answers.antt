use Rattle.std.proofs.Common.{ap, ◌∙◌}
use Rattle.qsg_logread.specs.Fed.{structures_of}
use Rattle.qsg_logread.proofs.Noted.{structures_new}
use Rattle.qsg_logread.proofs.reader.Reader.structures.Goals as goal

pub returns-clause-fed : goal.returns-clause-fed
returns-clause-fed c = λ pages records fed.
    c.structures.ensures
    ∙ ap (λ reader. structures_of c.args.unit reader.commits) c.self.view_is
    ∙ ap (structures_of c.args.unit) fed.commits
    ∙ structures_new c.args.unit records
