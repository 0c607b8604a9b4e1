use Rattle.qsg_blocks.proofs.Loading.{starter_may, starter_writes, starter_syncs, starter_ready}
use Rattle.qsg_blocks.proofs.works.a_starter_shuts_the_gate.Goals as goal

pub returns-clause-may : goal.returns-clause-may
returns-clause-may c = λ w g result set laws fit there none same step. starter_may w g result set laws fit there none same step

pub returns-clause-writes : goal.returns-clause-writes
returns-clause-writes c = λ w g one set fit same step. starter_writes w g one set fit same step

pub returns-clause-syncs : goal.returns-clause-syncs
returns-clause-syncs c = λ w g one set fit is same step. starter_syncs w g one set fit is same step

pub returns-clause-ready : goal.returns-clause-ready
returns-clause-ready c = λ w g fit two all. starter_ready w g fit two all
