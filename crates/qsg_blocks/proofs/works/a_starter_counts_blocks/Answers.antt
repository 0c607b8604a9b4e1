use Rattle.qsg_blocks.proofs.Loading.{starter_loads, starter_blank, starter_drops, starter_claims, starter_passes, starter_ends, starter_loses}
use Rattle.qsg_blocks.proofs.works.a_starter_counts_blocks.Goals as goal

pub returns-clause-loads : goal.returns-clause-loads
returns-clause-loads c = λ g m found set told fits laws down there active small load has. starter_loads g m found set told fits laws down there active small load has

pub returns-clause-blank : goal.returns-clause-blank
returns-clause-blank c = λ g m found set told laws down there some active load has. starter_blank g m found set told laws down there some active load has

pub returns-clause-drops : goal.returns-clause-drops
returns-clause-drops c = λ g m epoch found loaded set told down there some inactive load same none. starter_drops g m epoch found loaded set told down there some inactive load same none

pub returns-clause-claims : goal.returns-clause-claims
returns-clause-claims c = λ w g place e blocks n fits laws fit is found at. starter_claims w g place e blocks n fits laws fit is found at

pub returns-clause-passes : goal.returns-clause-passes
returns-clause-passes c = λ w g place e laws fit is found other. starter_passes w g place e laws fit is found other

pub returns-clause-ends : goal.returns-clause-ends
returns-clause-ends c = λ w g place fit is none. starter_ends w g place fit is none

pub returns-clause-loses : goal.returns-clause-loses
returns-clause-loses c = λ w g fit lost. starter_loses w g fit lost
