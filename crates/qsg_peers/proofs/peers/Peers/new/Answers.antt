use Rattle.std.proofs.Common.{arith}
use Rattle.qsg_peers.proofs.Places.{replicated}
use Rattle.qsg_peers.proofs.peers.Peers.new.Goals as goal

pub returns : goal.returns
returns c = replicated 8 c.loop-turn.items.items (omega (arith, c.loop-turn.invariant.many, c.loop-turn-test.false, c.loop-turn.auto._turn-end)) c.loop-turn.invariant.new
