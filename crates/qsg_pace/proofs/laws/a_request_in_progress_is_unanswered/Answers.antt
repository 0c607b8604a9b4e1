use Rattle.qsg_pace.proofs.Steps.{in_progress_asked, in_progress_counted}
use Rattle.qsg_pace.proofs.laws.a_request_in_progress_is_unanswered.Goals as goal

pub returns-clause-asked : goal.returns-clause-asked
returns-clause-asked c = in_progress_asked

pub returns-clause-counted : goal.returns-clause-counted
returns-clause-counted c = in_progress_counted
