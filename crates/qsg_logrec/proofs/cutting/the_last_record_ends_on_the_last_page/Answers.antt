use Rattle.qsg_logrec.proofs.Fronts.{front_of_run}
use Rattle.qsg_logrec.proofs.cutting.the_last_record_ends_on_the_last_page.Goals as goal

pub returns : goal.returns
returns c = front_of_run
