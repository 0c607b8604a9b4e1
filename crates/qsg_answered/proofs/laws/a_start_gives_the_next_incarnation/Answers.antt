use Rattle.qsg_answered.proofs.Operated.{start_told}
use Rattle.qsg_answered.proofs.laws.a_start_gives_the_next_incarnation.Goals as goal

pub returns : goal.returns
returns c = λ s r m sound next made. start_told m s r sound next made
