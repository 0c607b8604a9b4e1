use Rattle.mqsc_values.proofs.Reading.{text-number_of}
use Rattle.mqsc_values.proofs.laws.numbers_have_one_text.Goals as goal

pub returns : goal.returns
returns c = text-number_of
