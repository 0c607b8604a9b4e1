use Rattle.std.proofs.Common.{◌∙◌}
use Rattle.qsg_manager.proofs.Takes.{front_copied}
use Rattle.qsg_manager.proofs.taken.listed.Goals as goal

pub returns : goal.returns
returns c = c.from_vec.ensures ∙ front_copied _ _ _ _ _ _ c.extend_from_slice.ensures.items c.min-few.ensures c.requires.empty c.if-prove.ensures.value
