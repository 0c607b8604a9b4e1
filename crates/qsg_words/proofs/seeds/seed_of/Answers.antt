use Rattle.std.proofs.Common.{◌≡◌, ◌∙◌, true, refl, sym, ap}
use Rattle.qsg_words.specs.Numbers.{is_number}
use Rattle.qsg_words.proofs.Reading.{answer, number_of-parse}
use Rattle.qsg_words.proofs.seeds.seed_of.Goals as goal

pub returns-in-Ok : goal.returns-in-Ok
returns-in-Ok c =
    let good : is_number c.as_bytes.result.now ≡ true = sym c.if-not-is_number.ensures in
    let said = number_of-parse c.args.text.now c.args.text.now c.parse.result (rw c.as_bytes.ensures.value at good) refl c.parse.ensures.value.0 in
    sym (said ∙ ap answer c.in-Ok.is)

pub returns-in-Err : goal.returns-in-Err
returns-in-Err c =
    let good : is_number c.as_bytes.result.now ≡ true = sym c.if-not-is_number.ensures in
    let said = number_of-parse c.args.text.now c.args.text.now c.parse.result (rw c.as_bytes.ensures.value at good) refl c.parse.ensures.value.0 in
    sym (said ∙ ap answer c.in-Err.is)
