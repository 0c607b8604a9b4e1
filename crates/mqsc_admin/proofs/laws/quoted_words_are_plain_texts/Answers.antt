use Rattle.mqsc_admin.proofs.Keys.{quoted_verb, quoted_object, quoted_keyword}
use Rattle.mqsc_admin.proofs.laws.quoted_words_are_plain_texts.Goals as goal

pub returns-clause-verb : goal.returns-clause-verb
returns-clause-verb c = quoted_verb

pub returns-clause-object : goal.returns-clause-object
returns-clause-object c = quoted_object

pub returns-clause-keyword : goal.returns-clause-keyword
returns-clause-keyword c = quoted_keyword
