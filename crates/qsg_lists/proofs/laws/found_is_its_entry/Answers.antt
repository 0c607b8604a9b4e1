use Rattle.qsg_lists.proofs.Found.{find-passes, find-entry_at}
use Rattle.qsg_lists.proofs.laws.found_is_its_entry.Goals as goal

pub returns-clause-passes : goal.returns-clause-passes
returns-clause-passes c = λ p es e found. find-passes p es e found

pub returns-clause-there : goal.returns-clause-there
returns-clause-there c = λ p es e ordered found. find-entry_at p es e ordered found
