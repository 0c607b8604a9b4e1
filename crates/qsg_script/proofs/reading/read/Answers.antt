use Rattle.qsg_script.proofs.Once.{gives-plan, gives-fault}
use Rattle.qsg_script.proofs.Texts.{one_thing}
use Rattle.qsg_script.proofs.reading.read.Goals as goal

pub returns-clause-reads : goal.returns-clause-reads
returns-clause-reads c = gives-plan one_thing c.args.bytes.now c.read_script.result c.read_script.ensures.plan c.read_script.ensures.fault

pub returns-clause-refuses : goal.returns-clause-refuses
returns-clause-refuses c = gives-fault one_thing c.args.bytes.now c.read_script.result c.read_script.ensures.plan c.read_script.ensures.fault
