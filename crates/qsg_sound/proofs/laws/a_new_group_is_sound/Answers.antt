use Rattle.qsg_sound.proofs.NewTallies.{new_group_sound}
use Rattle.qsg_sound.proofs.laws.a_new_group_is_sound.Goals as goal

pub returns : goal.returns
returns c = new_group_sound
