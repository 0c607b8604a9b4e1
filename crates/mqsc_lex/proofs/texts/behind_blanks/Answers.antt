use Rattle.std.specs.Prelude.{not, take}
use Rattle.mqsc_lex.proofs.Cuts.{end_is, cut_is, boundary-behind, blank-low, not-not}
use Rattle.mqsc_lex.specs.Texts.{is_blank}
use Rattle.mqsc_lex.proofs.texts.behind_blanks.Goals as goal

pub split_at-requires : goal.split_at-requires
split_at-requires c =
    let n = end_is (λ b. not (is_blank b)) c.args.text.now in
    rw (c.unwrap_or-end.ensures, c.first_unblank.ensures, c.as_bytes.ensures.value, n) (boundary-behind (λ b. not (is_blank b)) blank-low c.args.text.now c.utf8.text)

pub returns : goal.returns
returns c =
    let n = end_is (λ b. not (is_blank b)) c.args.text.now in
    (take c.unwrap_or-end.result c.args.text.now, rw (c.split_at.ensures.back, c.unwrap_or-end.ensures, c.first_unblank.ensures, c.as_bytes.ensures.value, n) (cut_is is_blank (λ b. not (is_blank b)) (not-not is_blank) c.args.text.now))
