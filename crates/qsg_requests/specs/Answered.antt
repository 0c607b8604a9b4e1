-- What contracts see of an actor's answers.
use Rattle.std.specs.Prelude.{ℕ, List}
use Rattle.qsg_requests.specs.declared.transcript.Answer.{Answer}

-- the answers, and how many more have room that was reserved
pub record Answered : Type 0 where
  pub answers : List Answer
  pub room : ℕ
