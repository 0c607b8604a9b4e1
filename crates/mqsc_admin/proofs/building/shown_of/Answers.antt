use Rattle.mqsc_admin.proofs.Named.{display-name}
use Rattle.mqsc_admin.proofs.building.shown_of.Goals as goal

pub name_behind-requires : goal.name_behind-requires
name_behind-requires c = display-name c.args.word.now c.args.words.now (rw c.in-Smds.is at c.requires)
