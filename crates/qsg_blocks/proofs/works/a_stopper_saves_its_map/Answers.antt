use Rattle.qsg_blocks.proofs.Stopping.{stopper_begins, stopper_writes, stopper_goes_on}
use Rattle.qsg_blocks.proofs.works.a_stopper_saves_its_map.Goals as goal

pub returns-clause-begins : goal.returns-clause-begins
returns-clause-begins c = λ g m fits laws up blank other. stopper_begins g m fits laws up blank other

pub returns-clause-writes : goal.returns-clause-writes
returns-clause-writes c = λ w g kept result set fits fit there is same at step. stopper_writes w g kept result set fits fit there is same at step

pub returns-clause-goes_on : goal.returns-clause-goes_on
returns-clause-goes_on c = λ w g kept one set fit is same low step. stopper_goes_on w g kept one set fit is same low step
