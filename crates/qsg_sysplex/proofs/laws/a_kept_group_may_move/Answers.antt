use Rattle.qsg_sysplex.proofs.Moving.{kept_may_move}
use Rattle.qsg_sysplex.proofs.laws.a_kept_group_may_move.Goals as goal

pub returns : goal.returns
returns c = λ s who kept. kept_may_move s who (c.a_sound_group_may_move.ensures s who kept.sound)
