use Rattle.qsg_unitlog.proofs.Steps.{tells_records, tells_told}
use Rattle.qsg_unitlog.proofs.laws.a_log_tells_of_its_runs.Goals as goal

pub returns-clause-records : goal.returns-clause-records
returns-clause-records c = tells_records

pub returns-clause-told : goal.returns-clause-told
returns-clause-told c = tells_told
