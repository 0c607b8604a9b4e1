-- what decoding answers
use Rattle.std.specs.Prelude.{◌≡◌, Result, Ok, Err}
use Rattle.qsg_logrec.specs.declared.record.LogRecord.{LogRecord}
use Rattle.qsg_logrec.specs.declared.fault.RecordFault.{RecordFault}
use Rattle.qsg_logrec.specs.declared.fault.RecordFault.TheVariants.{BadRecord, NoMemory}

-- the answer is this record, unless memory ran out
abbrev pub ReadsAs : LogRecord → Result LogRecord RecordFault → Type 0
ReadsAs r (Ok x) = x ≡ r
ReadsAs r (Err NoMemory) = Unit {0}
ReadsAs r (Err (BadRecord at)) = ⊥
