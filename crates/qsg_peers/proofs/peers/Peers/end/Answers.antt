use Rattle.std.proofs.Common.{ap, ◌∙◌}
use Rattle.qsg_peers.specs.Peers.{Peer, ended_peer, with_peer}
use Rattle.qsg_peers.proofs.Places.{held, stored}
use Rattle.qsg_peers.proofs.peers.Peers.end.Goals as goal

pub returns : goal.returns
returns c =
    let here = held c.args.member c.index.result c.self.inside.items.items c.index_mut.result.now c.args.self.now c.index.ensures.value c.index.ensures.bound c.self.invariant.0 c.index_mut.ensures.value c.self.view_is in
    stored c.args.member c.index.result c.self.inside.items.items c.clear.new.self c.args.self.now c.index.ensures.value c.self.view_is
    ∙ ap (λ (p : Peer). with_peer c.args.member p c.args.self.now) (c.clear.ensures.cleared ∙ ap ended_peer here)
