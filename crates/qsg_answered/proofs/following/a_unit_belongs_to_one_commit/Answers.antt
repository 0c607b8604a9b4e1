use Rattle.qsg_answered.proofs.Showing.{one_commit}
use Rattle.qsg_answered.proofs.following.a_unit_belongs_to_one_commit.Goals as goal

pub returns : goal.returns
returns c = λ s u ops sound telling fits there. one_commit s u ops sound (sound.steady.lawful telling) fits there
