use Rattle.qsg_dataset.proofs.Saving.{made_open, made_shut}
use Rattle.qsg_dataset.proofs.laws.the_gate_gets_safe.Goals as goal

pub returns-clause-open : goal.returns-clause-open
returns-clause-open c = λ epoch used old mid new one two first second. made_open epoch used old mid new one two first second

pub returns-clause-shut : goal.returns-clause-shut
returns-clause-shut c = λ old mid new one two first second. made_shut old mid new one two first second
