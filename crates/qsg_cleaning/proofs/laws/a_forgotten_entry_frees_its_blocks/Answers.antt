use Rattle.qsg_cleaning.proofs.Forgetting.{one_less, are_free, set_kept}
use Rattle.qsg_cleaning.proofs.laws.a_forgotten_entry_frees_its_blocks.Goals as goal

pub returns-clause-fewer : goal.returns-clause-fewer
returns-clause-fewer c = one_less

pub returns-clause-free : goal.returns-clause-free
returns-clause-free c = are_free

pub returns-clause-kept : goal.returns-clause-kept
returns-clause-kept c = set_kept
