use Rattle.qsg_group.proofs.Reading.{low_page_tells}
use Rattle.qsg_group.proofs.laws.a_log_tells_of_marks_from_its_low_page.Goals as goal

pub returns : goal.returns
returns c = low_page_tells
