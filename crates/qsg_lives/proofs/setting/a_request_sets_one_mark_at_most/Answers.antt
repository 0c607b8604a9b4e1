use Rattle.qsg_lives.proofs.Giving.{request_most, request_own}
use Rattle.qsg_lives.proofs.setting.a_request_sets_one_mark_at_most.Goals as goal

pub returns-clause-most : goal.returns-clause-most
returns-clause-most c = request_most

pub returns-clause-own : goal.returns-clause-own
returns-clause-own c = request_own
