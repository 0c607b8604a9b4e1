use Rattle.qsg_blocks.proofs.Reading.{reader_begins, reader_goes_on, reader_whole}
use Rattle.qsg_blocks.proofs.works.a_reader_reads_the_body.Goals as goal

pub returns-clause-begins : goal.returns-clause-begins
returns-clause-begins c = λ g e owner blocks n laws active at place. reader_begins g e owner blocks n laws active at place

pub returns-clause-goes_on : goal.returns-clause-goes_on
returns-clause-goes_on c = λ w g b bytes fit at is. reader_goes_on w g b bytes fit at is

pub returns-clause-whole : goal.returns-clause-whole
returns-clause-whole c = λ w g e fit all now at. reader_whole w g e fit all now at
