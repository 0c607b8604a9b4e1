use Rattle.std.proofs.Common.{subst, sym}
use Rattle.mqsc_define.specs.Ranges.{IsInRange}
use Rattle.mqsc_define.proofs.Ranges.{definition_in_range}
use Rattle.mqsc_define.proofs.reading.define.Goals as goal

pub returns-clause-ranges : goal.returns-clause-ranges
returns-clause-ranges c = subst IsInRange (sym c.in_ok-definition_of.ensures) (definition_in_range c.as_slice-words.result.now)
