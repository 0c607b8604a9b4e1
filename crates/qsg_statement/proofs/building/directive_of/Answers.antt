use Rattle.std.proofs.Common.{◌≡◌, None, drop, sym, subst}
use Rattle.qsg_grammar.specs.Faults.{row_fault}
use Rattle.qsg_statement.specs.Words.{IsBodyRight}
use Rattle.qsg_statement.proofs.Bodies.{put-right}
use Rattle.qsg_statement.proofs.building.directive_of.Goals as goal

pub put_of-requires : goal.put_of-requires
put_of-requires c =
    rw c.from_place-keywords.ensures (put-right c.args.draft.now c.args.words.now (subst (λ r. row_fault c.args.draft.now r c.args.words.now ≡ None) c.in-Put.is c.requires))
