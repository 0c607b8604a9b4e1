use Rattle.std.proofs.Common.{ap, ◌∙◌, []}
use Rattle.qsg_logread.specs.Fed.{is_committed}
use Rattle.qsg_logread.proofs.Noted.{committed_records}
use Rattle.qsg_logread.proofs.reader.Reader.committed.Goals as goal

pub returns-clause-fed : goal.returns-clause-fed
returns-clause-fed c = λ pages records fed.
    c.contains.ensures
    ∙ ap (λ reader. is_committed c.args.unit reader.commits) c.self.view_is
    ∙ ap (is_committed c.args.unit) fed.commits
    ∙ committed_records c.args.unit [] records
