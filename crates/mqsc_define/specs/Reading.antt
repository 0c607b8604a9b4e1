-- what an error says of the first fault
use Rattle.std.specs.Prelude.{◌≡◌, Option, Some, None}
use Rattle.mqsc_define.specs.declared.faults.DefineFault.{DefineFault}
use Rattle.mqsc_define.specs.declared.faults.DefineError.{DefineError}
use Rattle.mqsc_define.specs.declared.faults.DefineError.TheVariants.{Fault, NoMemory}

-- An error is the first fault; memory is wanting only where there is none.
abbrev pub Says : DefineError → Option DefineFault → Type 0
Says (Fault fault) first = first ≡ Some fault
Says NoMemory first = first ≡ None
