use Rattle.qsg_answered.proofs.Showing.{delivered_shown}
use Rattle.qsg_answered.proofs.following.what_was_delivered_is_shown.Goals as goal

pub returns : goal.returns
returns c = λ s sound telling fits. delivered_shown s sound (sound.steady.lawful telling) fits
