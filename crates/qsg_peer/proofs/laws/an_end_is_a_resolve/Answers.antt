use Rattle.qsg_peer.proofs.Resolving.{resolve_is_change, resolve_is_mirrored}
use Rattle.qsg_peer.proofs.laws.an_end_is_a_resolve.Goals as goal

pub returns-clause-change : goal.returns-clause-change
returns-clause-change c = resolve_is_change

pub returns-clause-mirrored : goal.returns-clause-mirrored
returns-clause-mirrored c = resolve_is_mirrored
