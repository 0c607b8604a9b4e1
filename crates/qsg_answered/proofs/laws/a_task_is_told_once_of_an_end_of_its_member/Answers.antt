use Rattle.qsg_answered.proofs.Broken.{step_told}
use Rattle.qsg_answered.proofs.laws.a_task_is_told_once_of_an_end_of_its_member.Goals as goal

pub returns : goal.returns
returns c = λ s r who step m t sound telling fits user steps. step_told s r who step m t sound (sound.steady.lawful telling) fits user steps
