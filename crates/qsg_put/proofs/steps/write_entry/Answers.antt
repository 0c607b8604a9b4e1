use Rattle.qsg_put.proofs.steps.write_entry.Goals as goal

pub returns-in-Ok-put_entry-clause-passed : goal.returns-in-Ok-put_entry-clause-passed
returns-in-Ok-put_entry-clause-passed g c = rw c.in-Ok.ensures at c.in-Ok-put_entry.ensures.passed

pub returns-in-Err-clause-refused : goal.returns-in-Err-clause-refused
returns-in-Err-clause-refused g c = rw c.in-Ok.ensures at c.in-Err.ensures.refused
