use Rattle.qsg_statement.proofs.Unique.{one_statement, one_fault, never_both}
use Rattle.qsg_statement.proofs.laws.texts_are_one_statement_or_at_fault.Goals as goal

pub returns-clause-one_statement : goal.returns-clause-one_statement
returns-clause-one_statement c = one_statement

pub returns-clause-one_fault : goal.returns-clause-one_fault
returns-clause-one_fault c = one_fault

pub returns-clause-never_both : goal.returns-clause-never_both
returns-clause-never_both c = never_both
