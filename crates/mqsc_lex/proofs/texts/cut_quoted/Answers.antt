use Rattle.std.proofs.Common.{refl}
use Rattle.std.specs.Prelude.{not}
use Rattle.mqsc_lex.proofs.Cuts.{end_is, cut_is, boundary-before, apostrophe-low}
use Rattle.mqsc_lex.specs.Texts.{is_apostrophe}
use Rattle.mqsc_lex.proofs.texts.cut_quoted.Goals as goal

pub split_at-requires : goal.split_at-requires
split_at-requires c =
    let n = end_is is_apostrophe c.args.text.now in
    rw (c.unwrap_or-end.ensures, c.first_apostrophe.ensures, c.as_bytes.ensures.value, n) (boundary-before is_apostrophe apostrophe-low c.args.text.now)

pub returns : goal.returns
returns c =
    let n = end_is is_apostrophe c.args.text.now in
    rw (c.split_at.ensures.front, c.split_at.ensures.back, c.unwrap_or-end.ensures, c.first_apostrophe.ensures, c.as_bytes.ensures.value, n) (cut_is (λ b. not (is_apostrophe b)) is_apostrophe (λ b. refl) c.args.text.now)
