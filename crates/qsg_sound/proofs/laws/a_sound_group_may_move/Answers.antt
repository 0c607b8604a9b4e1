use Rattle.qsg_sound.proofs.MayMove.{may_move}
use Rattle.qsg_sound.proofs.laws.a_sound_group_may_move.Goals as goal

pub returns : goal.returns
returns c = may_move
