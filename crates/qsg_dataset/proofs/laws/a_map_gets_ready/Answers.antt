use Rattle.qsg_dataset.proofs.Saving.{made_ready}
use Rattle.qsg_dataset.proofs.laws.a_map_gets_ready.Goals as goal

pub returns : goal.returns
returns c = λ epoch used old mid new one two first second. made_ready epoch used old mid new one two first second
