use Rattle.qsg_sysplex.proofs.NewStructures.{unsized}
use Rattle.qsg_sysplex.proofs.starting.push_structure.Goals as goal

pub returns-in_default : goal.returns-in_default
returns-in_default c = unsized c.args.items.now.items c.args.sizes.now c.args.number c.index.result c.index.ensures.value c.in_default.ensures.lookup.3
