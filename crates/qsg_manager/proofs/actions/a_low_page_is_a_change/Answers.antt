use Rattle.qsg_manager.proofs.Ending.{publish_is_publish}
use Rattle.qsg_manager.proofs.actions.a_low_page_is_a_change.Goals as goal

pub returns : goal.returns
returns c = publish_is_publish
