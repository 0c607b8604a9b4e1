use Rattle.std.proofs.Common.{arith}
use Rattle.qsg_manager.proofs.Marked.{marks_in-le-used_of}
use Rattle.qsg_manager.proofs.structures.marks_of_one.Goals as goal

pub overflow_cast-result : goal.overflow_cast-result
overflow_cast-result c =
    let fewer = marks_in-le-used_of c.args.member c.args.incarnation c.args.chosen.now.entries in
    let within = c.kept.ensures.within in
    let fits = c.kept.ensures.capacity_fits in
    rw (c.marks_in.ensures, c.entries.ensures) (omega arith)
