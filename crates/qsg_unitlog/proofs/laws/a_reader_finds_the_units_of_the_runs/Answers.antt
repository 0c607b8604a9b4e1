use Rattle.qsg_unitlog.proofs.Steps.{reader_finds}
use Rattle.qsg_unitlog.proofs.laws.a_reader_finds_the_units_of_the_runs.Goals as goal

pub returns : goal.returns
returns c = reader_finds
