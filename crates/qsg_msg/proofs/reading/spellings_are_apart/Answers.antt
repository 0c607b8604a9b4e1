use Rattle.qsg_msg.proofs.Decoded.{spellings_apart}
use Rattle.qsg_msg.proofs.reading.spellings_are_apart.Goals as goal

pub returns : goal.returns
returns c = spellings_apart
