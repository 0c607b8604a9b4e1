use Rattle.qsg_lives.proofs.Requests.{request_leaves}
use Rattle.qsg_lives.proofs.marking.a_request_leaves_the_marks_of_the_dead.Goals as goal

pub returns : goal.returns
returns c = request_leaves
