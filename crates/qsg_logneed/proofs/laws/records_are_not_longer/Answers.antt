use Rattle.qsg_logneed.proofs.RecordBytes.{record_fits}
use Rattle.qsg_logneed.proofs.laws.records_are_not_longer.Goals as goal

pub returns : goal.returns
returns c = record_fits
