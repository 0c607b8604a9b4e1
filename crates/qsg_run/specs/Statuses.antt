-- The numbers of statuses.
use Rattle.std.specs.Prelude.{ℕ}
use Rattle.qsg_run.specs.declared.status.Status.{Status}
use Rattle.qsg_run.specs.declared.status.Status.TheVariants.{Finished, Usage, Script, Stuck, ReadFault, WriteFault, NoMemory, RigFault}

abbrev pub status_number : Status → ℕ
status_number Finished = 0
status_number Usage = 1
status_number Script = 2
status_number Stuck = 3
status_number ReadFault = 4
status_number WriteFault = 5
status_number NoMemory = 6
status_number RigFault = 7
