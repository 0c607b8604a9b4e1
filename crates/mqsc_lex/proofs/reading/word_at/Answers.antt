use Rattle.std.proofs.Common.{◌-◌, length, string_bytes, arith}
use Rattle.mqsc_lex.proofs.Inside.{fault_behind}
use Rattle.mqsc_lex.proofs.reading.word_at.Goals as goal

pub returns-then-not-ends_word-clause-fault : goal.returns-then-not-ends_word-clause-fault
returns-then-not-ends_word-clause-fault c =
    fault_behind c.args.total (c.args.total - length c.args.text.now) c.place_of-end.result c.in-Some.piece.quoted (string_bytes c.in-Some.piece.text) c.in_ok-value.value
    c.args.text.now c.in-Some.behind.now c.in_ok-value.rest.now (rw c.in-Some.is at c.in_ok-piece.ensures) c.in_ok-value.ensures.ok
    (let f = c.requires.fits in omega arith) c.place_of-end.ensures (λ h. let t = c.ends_word.ensures.1 h in absurd cc)
