use Rattle.mqsc_admin.proofs.Named.{backup-name, recover-name, reset-member, reset-name}
use Rattle.mqsc_admin.proofs.building.command_of.Goals as goal

pub name_behind-requires : goal.name_behind-requires
name_behind-requires c = backup-name c.args.words.now (rw c.in-Backup.is at c.requires)

pub name_behind-requires-in-Recover : goal.name_behind-requires-in-Recover
name_behind-requires-in-Recover c = recover-name c.args.words.now (rw c.in-Recover.is at c.requires)

pub name_behind-requires-in-Reset : goal.name_behind-requires-in-Reset
name_behind-requires-in-Reset c = reset-member c.args.words.now (rw c.in-Reset.is at c.requires)

pub name_behind-requires-in-Reset-2 : goal.name_behind-requires-in-Reset-2
name_behind-requires-in-Reset-2 c = reset-name c.args.words.now (rw c.in-Reset.is at c.requires)
