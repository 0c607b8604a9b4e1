use Rattle.std.proofs.Common.{arith, rules, ◌≡◌, []}
use Rattle.std.proofs.lemmas.Result.{err_from_is_err_and}
use Rattle.std.proofs.lemmas.List.{nil_from_length}
use Rattle.mqsc_lex.specs.Texts.{is_blank}
use Rattle.mqsc_lex.proofs.Extend.{extends_one}
use Rattle.mqsc_lex.proofs.Inside.{says_form, all_read, cut_short}
use Rattle.mqsc_lex.proofs.reading.words_of.Goals as goal

pub returns-in_err-word-clause-fault : goal.returns-in_err-word-clause-fault
returns-in_err-word-clause-fault c =
    let p = err_from_is_err_and c.from_residual.result c.from_residual.ensures.1 in
    rw (p.1, p.2) (says_form _ c.loop-rest.words.items c.loop-rest.rest.now c.args.text.now c.in_err-word.field-0.0 c.loop-rest.invariant.2 c.loop-rest.invariant.4 c.in_err-word.ensures.fault)

pub loop-rest-preserved : goal.loop-rest-preserved
loop-rest-preserved c =
    let cut = c.behind_blanks-rest-in-loop-rest.ensures.1 in
    let short = cut_short is_blank c.in_ok-word.behind.now c.behind_blanks-rest-in-loop-rest.ensures.0 c.behind_blanks-rest-in-loop-rest.result.now cut in
    let less = c.in_ok-word.ensures.shorter in
    let before = c.loop-rest.invariant.1 in (
      c.behind_blanks-rest-in-loop-rest.utf8,
      omega arith,
      c.loop-rest.invariant.2,
      cut.ends,
      rw c.in_ok-push.ensures.items (extends_one _ c.loop-rest.words.items c.in_ok-word.word c.loop-rest.rest.now c.in_ok-word.behind.now _ c.behind_blanks-rest-in-loop-rest.result.now c.args.text.now
          c.loop-rest.invariant.4 c.in_ok-word.ensures.ok.0 c.in_ok-word.ensures.ok.1 cut),
    )

pub returns-clause-ok : goal.returns-clause-ok
returns-clause-ok c =
    let none : c.loop-rest.rest.now ≡ [] = nil_from_length _ (search rules) in
    all_read _ c.loop-rest.words.items c.loop-rest.rest.now c.args.text.now c.loop-rest.invariant.2 none c.loop-rest.invariant.4
