use Rattle.std.proofs.Common.{◌<◌, arith}
use Rattle.qsg_lists.specs.Entries.{depth_of}
use Rattle.qsg_lists.proofs.Costs.{depth_of-le-used_of}
use Rattle.qsg_manager.specs.Facilities.{structure_in}
use Rattle.qsg_run.proofs.shows.queue.Goals as goal

pub show_queue-requires : goal.show_queue-requires
show_queue-requires g c =
    let entries = (structure_in c.args.queue.now.structure c.args.sysplex.now.parts.structures).entries in
    let most = depth_of-le-used_of c.args.queue.now.definition.name entries in
    let used = c.used-most.ensures in
    let few : depth_of c.args.queue.now.definition.name entries < 4294967296 = omega (arith, most, used) in
    record { few = rw c.entries.ensures few }
