use Rattle.qsg_reading.proofs.Others.{begun_keeps, read_keeps}
use Rattle.qsg_reading.proofs.laws.a_walk_keeps_the_page_that_it_read_last.Goals as goal

pub returns-clause-begun : goal.returns-clause-begun
returns-clause-begun c = begun_keeps

pub returns-clause-read : goal.returns-clause-read
returns-clause-read c = read_keeps
