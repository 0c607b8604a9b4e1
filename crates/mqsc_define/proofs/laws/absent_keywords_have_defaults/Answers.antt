use Rattle.mqsc_define.proofs.Defaults.{structure_defaults, queue_defaults}
use Rattle.mqsc_define.proofs.laws.absent_keywords_have_defaults.Goals as goal

pub returns-clause-structures : goal.returns-clause-structures
returns-clause-structures c = structure_defaults

pub returns-clause-queues : goal.returns-clause-queues
returns-clause-queues c = queue_defaults
