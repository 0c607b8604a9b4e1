use Rattle.std.proofs.Common.{ap, ◌∙◌}
use Rattle.qsg_peers.specs.Peers.{Peer}
use Rattle.qsg_peers.proofs.Places.{held}
use Rattle.qsg_peers.proofs.peers.Peers.answers.Goals as goal

pub returns : goal.returns
returns c = c.as_slice.ensures ∙ ap (λ (p : Peer). p.answers) (held c.args.member c.index.result c.self.inside.items.items c.index-2.result.now c.args.self.now c.index.ensures.value c.index.ensures.bound c.self.invariant.0 c.index-2.ensures c.self.view_is)
