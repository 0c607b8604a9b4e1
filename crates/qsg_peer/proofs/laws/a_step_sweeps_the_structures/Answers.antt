use Rattle.qsg_peer.proofs.Sweeping.{step_sweeps, resolve_ends}
use Rattle.qsg_peer.proofs.laws.a_step_sweeps_the_structures.Goals as goal

pub returns-clause-sweeps : goal.returns-clause-sweeps
returns-clause-sweeps c = step_sweeps

pub returns-clause-ends : goal.returns-clause-ends
returns-clause-ends c = resolve_ends
