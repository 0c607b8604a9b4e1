-- a text says one thing behind what was read
use Rattle.qsg_statement.proofs.Unique.{one_statement, one_fault, never_both}
use Rattle.qsg_script.proofs.Once.{SaysOneThing}

pub one_thing : SaysOneThing
one_thing = record { one_statement = one_statement; one_fault = one_fault; never_both = never_both }
