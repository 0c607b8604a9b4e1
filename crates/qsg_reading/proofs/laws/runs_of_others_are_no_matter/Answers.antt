use Rattle.qsg_reading.proofs.Agreeing.{told_agrees, begun_agrees}
use Rattle.qsg_reading.proofs.Others.{agree_self, whole_agrees, dropped_agrees}
use Rattle.qsg_reading.proofs.laws.runs_of_others_are_no_matter.Goals as goal

pub returns-clause-none : goal.returns-clause-none
returns-clause-none c = agree_self

pub returns-clause-whole : goal.returns-clause-whole
returns-clause-whole c = whole_agrees

pub returns-clause-dropped : goal.returns-clause-dropped
returns-clause-dropped c = dropped_agrees

pub returns-clause-told : goal.returns-clause-told
returns-clause-told c = told_agrees

pub returns-clause-begun : goal.returns-clause-begun
returns-clause-begun c = begun_agrees
