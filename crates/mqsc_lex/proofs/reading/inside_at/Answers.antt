use Rattle.std.proofs.Common.{string_bytes}
use Rattle.mqsc_lex.proofs.Inside.{open_none, open_some}
use Rattle.mqsc_lex.proofs.reading.inside_at.Goals as goal

pub returns-in_default : goal.returns-in_default
returns-in_default c =
    open_none c.args.inside.now _ c.behind_blanks-front.result.now c.behind_blanks-front.ensures.1 (rw c.in_default.is at c.in_ok-piece.ensures)
    (λ h. let t = c.begins_with.ensures.1 h in absurd cc)

pub returns-else-begins_with-2 : goal.returns-else-begins_with-2
returns-else-begins_with-2 c =
    open_some c.args.inside.now _ c.behind_blanks-front.result.now c.in-Some.after.now _ c.behind_blanks-close.result.now c.in-Some.piece.quoted (string_bytes c.in-Some.piece.text)
    c.behind_blanks-front.ensures.1 (λ h. let t = c.begins_with.ensures.1 h in absurd cc) (rw c.in-Some.is at c.in_ok-piece.ensures)
    c.behind_blanks-close.ensures.1 (λ h. let t = c.begins_with-2.ensures.1 h in absurd cc)
