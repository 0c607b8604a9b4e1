use Rattle.qsg_peers.proofs.Places.{AreNew}
use Rattle.qsg_peers.proofs.peers.Peers.new.Given as goal

abbrev pub invariant-loop-turn : goal.invariant-loop-turn
invariant-loop-turn l = AreNew l._turn l.items.items
