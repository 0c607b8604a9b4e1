use Rattle.std.proofs.Common.{None}
use Rattle.qsg_logpage.specs.Page.{log_pages}
use Rattle.qsg_logread.proofs.Known.{same_pages_join}
use Rattle.qsg_logread.proofs.laws.a_log_has_one_list_of_records.Goals as goal

pub returns : goal.returns
returns c = λ bytes size keep records others a b. (same_pages_join None a.begun b.begun (log_pages bytes size keep) records others a.joins b.joins).0
