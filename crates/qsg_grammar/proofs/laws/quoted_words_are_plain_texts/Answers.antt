use Rattle.qsg_grammar.proofs.Quoted.{quoted_definition, quoted_opening, quoted_task, quoted_operator, quoted_keyword}
use Rattle.qsg_grammar.proofs.laws.quoted_words_are_plain_texts.Goals as goal

pub returns-clause-definition : goal.returns-clause-definition
returns-clause-definition c = quoted_definition

pub returns-clause-opening : goal.returns-clause-opening
returns-clause-opening c = quoted_opening

pub returns-clause-task : goal.returns-clause-task
returns-clause-task c = quoted_task

pub returns-clause-operator : goal.returns-clause-operator
returns-clause-operator c = quoted_operator

pub returns-clause-keyword : goal.returns-clause-keyword
returns-clause-keyword c = quoted_keyword
