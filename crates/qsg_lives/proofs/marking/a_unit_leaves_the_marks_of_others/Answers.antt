use Rattle.qsg_lives.proofs.Counting.{put_marks, got_marks, settled_marks}
use Rattle.qsg_lives.proofs.marking.a_unit_leaves_the_marks_of_others.Goals as goal

pub returns-clause-put : goal.returns-clause-put
returns-clause-put c = put_marks

pub returns-clause-got : goal.returns-clause-got
returns-clause-got c = got_marks

pub returns-clause-settled : goal.returns-clause-settled
returns-clause-settled c = settled_marks
