use Rattle.qsg_fit.proofs.Requests.{failed_request_keeps}
use Rattle.qsg_fit.proofs.works.a_failed_step_of_a_request_keeps_the_group_steady.Goals as goal

pub returns : goal.returns
returns c = failed_request_keeps
