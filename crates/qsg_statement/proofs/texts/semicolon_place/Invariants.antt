use Rattle.std.proofs.Common.{◌≡◌}
use Rattle.qsg_statement.specs.Texts.{without_semicolon}
use Rattle.qsg_statement.proofs.Semicolon.{left_text}
use Rattle.qsg_statement.proofs.texts.semicolon_place.Given as goal

abbrev pub invariant-loop-i : goal.invariant-loop-i
invariant-loop-i l = without_semicolon l.bytes ≡ left_text l.bytes l.i
