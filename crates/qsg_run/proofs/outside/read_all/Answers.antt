use Rattle.std.proofs.Common.{arith, rules}
use Rattle.qsg_run.proofs.Pieces.{reads_to_end, reads_to_limit}
use Rattle.qsg_run.proofs.outside.read_all.Goals as goal

pub returns-then-not-branch-clause-all : goal.returns-then-not-branch-clause-all
returns-then-not-branch-clause-all g c =
    let m = c.in_ok-read_piece.ensures.more in
    reads_to_end _ _ _ c.loop-source.bytes.items m.0 c.read_piece.new.bytes.items c.loop-source.invariant.taken m.2 (c.in_ok-read_piece.ensures.end (search rules)) m.1 (omega arith)

pub returns-clause-all : goal.returns-clause-all
returns-clause-all g c = reads_to_limit _ _ c.loop-source.bytes.items c.loop-source.invariant.taken (omega arith)
