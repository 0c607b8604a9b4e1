use Rattle.std.proofs.Common.{arith}
use Rattle.qsg_logpage.proofs.Laps.{lap_of-with_lap}
use Rattle.qsg_logpage.proofs.lap.lapped.Goals as goal

pub returns-clause-lap : goal.returns-clause-lap
returns-clause-lap c = lap_of-with_lap c.args.lap c.args.body.now (omega (arith, c.ranges.lap)) (omega (arith, c.requires))
