use Rattle.qsg_commit.proofs.Writing.{last_page_hardens, last_page_history, last_page_behind}
use Rattle.qsg_commit.proofs.laws.the_last_page_is_a_harden.Goals as goal

pub returns-clause-change : goal.returns-clause-change
returns-clause-change c = last_page_hardens

pub returns-clause-history : goal.returns-clause-history
returns-clause-history c = last_page_history

pub returns-clause-pages : goal.returns-clause-pages
returns-clause-pages c = last_page_behind
