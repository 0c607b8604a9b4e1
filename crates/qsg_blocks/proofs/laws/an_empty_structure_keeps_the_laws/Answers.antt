use Rattle.qsg_blocks.proofs.Whole.{laws_begin}
use Rattle.qsg_blocks.proofs.laws.an_empty_structure_keeps_the_laws.Goals as goal

pub returns : goal.returns
returns c = λ g active empty maps blank shut. laws_begin g active empty maps blank shut
