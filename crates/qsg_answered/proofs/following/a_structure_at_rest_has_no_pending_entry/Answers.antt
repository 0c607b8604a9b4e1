use Rattle.qsg_answered.proofs.Showing.{quiet_at_rest}
use Rattle.qsg_answered.proofs.following.a_structure_at_rest_has_no_pending_entry.Goals as goal

pub returns : goal.returns
returns c = λ s sound telling fits. quiet_at_rest s sound (sound.steady.lawful telling) fits
