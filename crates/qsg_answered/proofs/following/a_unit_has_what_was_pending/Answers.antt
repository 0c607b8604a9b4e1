use Rattle.qsg_answered.proofs.Belonging.{belongs}
use Rattle.qsg_answered.proofs.following.a_unit_has_what_was_pending.Goals as goal

pub returns : goal.returns
returns c = λ s u ops sound telling fits there. belongs s u ops sound (sound.steady.lawful telling) fits there
