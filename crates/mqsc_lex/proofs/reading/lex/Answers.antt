use Rattle.std.proofs.Common.{Ok, Err, ap, sym, ◌∙◌}
use Rattle.mqsc_lex.proofs.Leftmost.{words_are, leftmost_byte, leftmost_either, same_words, words_or_leftmost, same_leftmost}
use Rattle.mqsc_lex.proofs.reading.lex.Goals as goal

pub returns-in-None-clause-words : goal.returns-in-None-clause-words
returns-in-None-clause-words c = words_are c.args.text.now c.in-Ok.words.items _ c.in-Ok.ensures.ok (sym c.first_bad-bad.ensures ∙ c.in-None.is) c.from_vec.ensures

pub returns-in-None-clause-reads : goal.returns-in-None-clause-reads
returns-in-None-clause-reads c = λ ws h.
    ap Ok (same_words c.args.text.now ws _ h (words_are c.args.text.now c.in-Ok.words.items _ c.in-Ok.ensures.ok (sym c.first_bad-bad.ensures ∙ c.in-None.is) c.from_vec.ensures))

pub returns-in-None-clause-refuses : goal.returns-in-None-clause-refuses
returns-in-None-clause-refuses c = λ f h.
    absurd (words_or_leftmost c.args.text.now _ f (words_are c.args.text.now c.in-Ok.words.items _ c.in-Ok.ensures.ok (sym c.first_bad-bad.ensures ∙ c.in-None.is) c.from_vec.ensures) h)

pub returns-in-Some-clause-fault : goal.returns-in-Some-clause-fault
returns-in-Some-clause-fault c = leftmost_byte c.args.text.now c.in-Some.at c.in-Ok.words.items c.in-Ok.ensures.ok (sym c.first_bad-bad.ensures ∙ c.in-Some.is)

pub returns-in-Some-clause-reads : goal.returns-in-Some-clause-reads
returns-in-Some-clause-reads c = λ ws h.
    absurd (words_or_leftmost c.args.text.now ws _ h (leftmost_byte c.args.text.now c.in-Some.at c.in-Ok.words.items c.in-Ok.ensures.ok (sym c.first_bad-bad.ensures ∙ c.in-Some.is)))

pub returns-in-Some-clause-refuses : goal.returns-in-Some-clause-refuses
returns-in-Some-clause-refuses c = λ f h.
    ap Err (same_leftmost c.args.text.now f _ h (leftmost_byte c.args.text.now c.in-Some.at c.in-Ok.words.items c.in-Ok.ensures.ok (sym c.first_bad-bad.ensures ∙ c.in-Some.is)))

pub returns-in-Err-Fault-clause-fault : goal.returns-in-Err-Fault-clause-fault
returns-in-Err-Fault-clause-fault c =
    rw c.earlier.ensures (leftmost_either c.args.text.now c.first_bad-bad.result c.in-Err-Fault.fault c.first_bad-bad.ensures (rw c.in-Err-Fault.field-0-is at c.in-Err-Fault.ensures.fault))

pub returns-in-Err-Fault-clause-reads : goal.returns-in-Err-Fault-clause-reads
returns-in-Err-Fault-clause-reads c = λ ws h.
    absurd (words_or_leftmost c.args.text.now ws c.earlier.result h (rw c.earlier.ensures (leftmost_either c.args.text.now c.first_bad-bad.result c.in-Err-Fault.fault c.first_bad-bad.ensures (rw c.in-Err-Fault.field-0-is at c.in-Err-Fault.ensures.fault))))

pub returns-in-Err-Fault-clause-refuses : goal.returns-in-Err-Fault-clause-refuses
returns-in-Err-Fault-clause-refuses c = λ f h.
    ap Err (same_leftmost c.args.text.now f c.earlier.result h (rw c.earlier.ensures (leftmost_either c.args.text.now c.first_bad-bad.result c.in-Err-Fault.fault c.first_bad-bad.ensures (rw c.in-Err-Fault.field-0-is at c.in-Err-Fault.ensures.fault))))
