use Rattle.qsg_peer.proofs.Pace.{step_finds, step_left, most_left}
use Rattle.qsg_peer.proofs.laws.a_step_lowers_what_is_left.Goals as goal

pub returns-clause-finds : goal.returns-clause-finds
returns-clause-finds c = step_finds

pub returns-clause-lowers : goal.returns-clause-lowers
returns-clause-lowers c = step_left

pub returns-clause-most : goal.returns-clause-most
returns-clause-most c = most_left
