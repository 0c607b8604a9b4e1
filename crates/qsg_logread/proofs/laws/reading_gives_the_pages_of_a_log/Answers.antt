use Rattle.qsg_logread.proofs.Walk.{walk_is}
use Rattle.qsg_logread.proofs.laws.reading_gives_the_pages_of_a_log.Goals as goal

pub returns : goal.returns
returns c = walk_is
