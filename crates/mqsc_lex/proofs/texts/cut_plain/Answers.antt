use Rattle.std.specs.Prelude.{not}
use Rattle.mqsc_lex.proofs.Cuts.{end_is, cut_is, boundary-before, unplain-low, not-not}
use Rattle.mqsc_lex.specs.Texts.{is_plain}
use Rattle.mqsc_lex.proofs.texts.cut_plain.Goals as goal

pub split_at-requires : goal.split_at-requires
split_at-requires c =
    let n = end_is (λ b. not (is_plain b)) c.args.text.now in
    rw (c.unwrap_or-end.ensures, c.first_unplain.ensures, c.as_bytes.ensures.value, n) (boundary-before (λ b. not (is_plain b)) unplain-low c.args.text.now)

pub returns : goal.returns
returns c =
    let n = end_is (λ b. not (is_plain b)) c.args.text.now in
    rw (c.split_at.ensures.front, c.split_at.ensures.back, c.unwrap_or-end.ensures, c.first_unplain.ensures, c.as_bytes.ensures.value, n) (cut_is is_plain (λ b. not (is_plain b)) (not-not is_plain) c.args.text.now)
