use Rattle.qsg_steady.proofs.Gives.{operations_few}
use Rattle.qsg_steady.proofs.Operating.{claims_match}
use Rattle.qsg_steady.proofs.giving.operations_have_claims.Goals as goal

pub returns-clause-few : goal.returns-clause-few
returns-clause-few c = operations_few

pub returns-clause-claims : goal.returns-clause-claims
returns-clause-claims c = claims_match
