use Rattle.qsg_group.proofs.Keeping.{laws_stay}
use Rattle.qsg_group.proofs.laws.every_change_keeps_the_laws.Goals as goal

-- src/laws.rt:13:1
pub returns : goal.returns
returns c = laws_stay
