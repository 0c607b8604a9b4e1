use Rattle.qsg_logread.proofs.Pages.{lapped_join}
use Rattle.qsg_logread.proofs.laws.laps_are_no_part_of_records.Goals as goal

pub returns : goal.returns
returns c = λ size first begun after pages records a. lapped_join size first begun after pages records a
