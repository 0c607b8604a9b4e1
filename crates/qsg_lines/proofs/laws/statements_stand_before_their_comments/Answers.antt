use Rattle.qsg_lines.proofs.Apart.{apart}
use Rattle.qsg_lines.proofs.laws.statements_stand_before_their_comments.Goals as goal

pub returns : goal.returns
returns c = apart
