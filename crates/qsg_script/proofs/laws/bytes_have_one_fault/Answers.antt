use Rattle.qsg_script.proofs.Once.{one-fault}
use Rattle.qsg_script.proofs.Texts.{one_thing}
use Rattle.qsg_script.proofs.laws.bytes_have_one_fault.Goals as goal

pub returns : goal.returns
returns c = one-fault one_thing
