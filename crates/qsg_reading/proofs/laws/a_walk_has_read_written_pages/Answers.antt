use Rattle.qsg_reading.proofs.Others.{begun_written, fed_written, read_written, step_written, same_read, unread_written}
use Rattle.qsg_reading.proofs.laws.a_walk_has_read_written_pages.Goals as goal

pub returns-clause-begun : goal.returns-clause-begun
returns-clause-begun c = begun_written

pub returns-clause-fed : goal.returns-clause-fed
returns-clause-fed c = fed_written

pub returns-clause-read : goal.returns-clause-read
returns-clause-read c = read_written

pub returns-clause-step : goal.returns-clause-step
returns-clause-step c = step_written

pub returns-clause-same : goal.returns-clause-same
returns-clause-same c = same_read

pub returns-clause-unread : goal.returns-clause-unread
returns-clause-unread c = unread_written
