use Rattle.std.proofs.Common.{List, length, ap, sym, ◌∙◌}
use Rattle.std.proofs.lemmas.List.{length-map}
use Rattle.qsg_peers.specs.Peers.{Peer}
use Rattle.qsg_peers.specs.Rooms.{peer_in}
use Rattle.qsg_peers.proofs.peers.Peers.kept.Goals as goal

pub returns : goal.returns
returns c = ap (λ (peers : List Peer). length peers) (sym c.self.view_is) ∙ length-map c.self.inside.items.items peer_in ∙ c.self.invariant.0
