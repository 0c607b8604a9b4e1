use Rattle.mqsc_values.proofs.Reading.{number_of-fitting, number_of-larger}
use Rattle.mqsc_values.proofs.laws.texts_say_their_numbers.Goals as goal

pub returns-clause-fitting : goal.returns-clause-fitting
returns-clause-fitting c = number_of-fitting

pub returns-clause-larger : goal.returns-clause-larger
returns-clause-larger c = number_of-larger
