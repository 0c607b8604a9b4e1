use Rattle.qsg_logread.proofs.Runs.{front_joins}
use Rattle.qsg_logread.proofs.laws.the_first_pages_of_a_run_lack_its_last_record.Goals as goal

pub returns : goal.returns
returns c = front_joins
