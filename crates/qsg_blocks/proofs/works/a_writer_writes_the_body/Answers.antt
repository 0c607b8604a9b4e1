use Rattle.qsg_blocks.proofs.Written.{writer_begins, writer_goes_on, writer_syncs, writer_whole}
use Rattle.qsg_blocks.proofs.works.a_writer_writes_the_body.Goals as goal

pub returns-clause-begins : goal.returns-clause-begins
returns-clause-begins c = λ g m t epoch n body kept enough room. writer_begins g m t epoch n body kept enough room

pub returns-clause-goes_on : goal.returns-clause-goes_on
returns-clause-goes_on c = λ w g b piece set told fits laws fit unsynced at is may reads. writer_goes_on w g b piece set told fits laws fit unsynced at is may reads

pub returns-clause-syncs : goal.returns-clause-syncs
returns-clause-syncs c = λ w g set fit same is. writer_syncs w g set fit same is

pub returns-clause-whole : goal.returns-clause-whole
returns-clause-whole c = λ w g kept fit now done all. writer_whole w g kept fit now done all
