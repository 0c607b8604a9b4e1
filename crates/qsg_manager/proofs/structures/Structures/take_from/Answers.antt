use Rattle.qsg_manager.proofs.Takes.{lent_has_name}
use Rattle.qsg_manager.proofs.structures.Structures.take_from.Goals as goal

pub fill-requires : goal.fill-requires
fill-requires c =
    lent_has_name c.args.unit c.args.room _ c.args.order c.args.select.now c.args.chosen.now.entries _ _ c.in-Ok-Some.entry
    c.in-Ok-Some.field-0-is c.queue.ensures c.in-Ok-Some.ensures.answer
