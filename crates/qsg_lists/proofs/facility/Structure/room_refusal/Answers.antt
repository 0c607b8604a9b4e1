use Rattle.std.proofs.Common.{sym, arith}
use Rattle.qsg_lists.proofs.Rooms.{room_passes}
use Rattle.qsg_lists.proofs.facility.Structure.room_refusal.Goals as goal

pub returns : goal.returns
returns c =
    let s = c.args.self.now in
    let depth = rw c.as_str.ensures.text at c.queue_depth-depth.ensures in
    sym (room_passes s c.args.head.now c.args.place.now c.args.max_depth (omega arith) (omega (arith, depth)))
