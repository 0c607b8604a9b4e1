use Rattle.qsg_manager.proofs.Needs.{named_stays}
use Rattle.qsg_manager.proofs.actions.tasks_without_names_stay_idle.Goals as goal

pub returns : goal.returns
returns c = named_stays
