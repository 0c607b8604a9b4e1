use Rattle.qsg_group.proofs.Runs.{is_undone}
use Rattle.qsg_group.proofs.laws.a_unit_that_is_cut_off_is_undone.Goals as goal

pub returns : goal.returns
returns c = is_undone
