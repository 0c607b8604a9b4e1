use Rattle.qsg_put.proofs.Results.{rest_left}
use Rattle.qsg_put.proofs.laws.a_put_leaves_the_rest.Goals as goal

pub returns : goal.returns
returns c = record {
  datasets = λ work p. (rest_left work p).datasets;
  repo = λ work p. (rest_left work p).repo;
  objects = λ work p. (rest_left work p).objects;
  history = λ work p. (rest_left work p).history;
  logs = λ work p. (rest_left work p).logs;
}
