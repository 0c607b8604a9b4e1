use Rattle.mqsc_admin.proofs.OneOfTwo.{reset-one}
use Rattle.mqsc_admin.proofs.laws.a_reset_has_one_of_access_and_status.Goals as goal

pub returns : goal.returns
returns c = reset-one
