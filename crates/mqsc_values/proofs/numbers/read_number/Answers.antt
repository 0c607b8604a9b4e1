use Rattle.std.proofs.Common.{◌∙◌, sym, ap, arith}
use Rattle.mqsc_values.proofs.Texts.{IsUtf8-number}
use Rattle.mqsc_values.proofs.Reading.{answer, above, within, number_of-parse}
use Rattle.mqsc_values.proofs.numbers.read_number.Goals as goal

pub unreachable-requires : goal.unreachable-requires
unreachable-requires c = c.in_default.ensures.cases.0 (IsUtf8-number c.args.text.now (sym c.if-not-is_number.ensures))

pub returns-in-Ok-parse : goal.returns-in-Ok-parse
returns-in-Ok-parse c =
    let said = number_of-parse c.args.text.now c.in-Ok.digits.now c.args.most c.parse.result (omega arith) (sym c.if-not-is_number.ensures) c.in-Ok.ensures.cases.0 c.parse.ensures.value.0 in
    sym (said ∙ ap (answer c.args.most) c.in-Ok-parse.is ∙ within c.in-Ok-parse.value c.args.most c.if-value-most.true)

pub returns-in_default-parse : goal.returns-in_default-parse
returns-in_default-parse c =
    let said = number_of-parse c.args.text.now c.in-Ok.digits.now c.args.most c.parse.result (omega arith) (sym c.if-not-is_number.ensures) c.in-Ok.ensures.cases.0 c.parse.ensures.value.0 in
    sym (said ∙ ap (answer c.args.most) c.in-Ok-parse.is ∙ above c.in-Ok-parse.value c.args.most c.if-value-most.false)

pub returns-in_default-parse-2 : goal.returns-in_default-parse-2
returns-in_default-parse-2 c =
    let said = number_of-parse c.args.text.now c.in-Ok.digits.now c.args.most c.parse.result (omega arith) (sym c.if-not-is_number.ensures) c.in-Ok.ensures.cases.0 c.parse.ensures.value.0 in
    sym (said ∙ ap (answer c.args.most) c.in_default-parse.is)
