use Rattle.qsg_answered.proofs.Operated.{crash_told}
use Rattle.qsg_answered.proofs.laws.a_crash_ends_one_incarnation.Goals as goal

pub returns : goal.returns
returns c = λ s r step m pick sound next steps. crash_told m pick s r step sound next steps
