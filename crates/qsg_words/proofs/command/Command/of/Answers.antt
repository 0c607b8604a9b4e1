use Rattle.std.proofs.Common.{map, string_bytes}
use Rattle.clap.specs.Words.{fault_of, matches_of}
use Rattle.clap.specs.Values.{kind_of}
use Rattle.qsg_words.specs.Form.{form, given_by}
use Rattle.qsg_words.specs.Table.{asked}
use Rattle.qsg_words.proofs.Refusing.{refuses}
use Rattle.qsg_words.proofs.command.Command.of.Goals as goal

pub returns-in-Err : goal.returns-in-Err
returns-in-Err c =
    let words = map string_bytes c.args.words.now in
    rw (c.refused.ensures, c.kind.ensures) (refuses (fault_of form words) (kind_of c.in-Err.error) (asked (given_by (matches_of form words))) c.in-Err.ensures.err)
