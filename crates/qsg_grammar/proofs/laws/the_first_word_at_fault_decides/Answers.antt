use Rattle.std.proofs.Common.{[]}
use Rattle.qsg_grammar.proofs.FirstFault.{decides, stands, right_from, none_from}
use Rattle.qsg_grammar.proofs.laws.the_first_word_at_fault_decides.Goals as goal

pub returns-clause-decides : goal.returns-clause-decides
returns-clause-decides c = decides

pub returns-clause-stands : goal.returns-clause-stands
returns-clause-stands c = stands

pub returns-clause-right : goal.returns-clause-right
returns-clause-right c = λ d row words. right_from d row [] words

pub returns-clause-none : goal.returns-clause-none
returns-clause-none c = λ d row words. none_from d row [] words
