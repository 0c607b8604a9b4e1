-- What a call reads and writes.
use Rattle.std.specs.Prelude.{◌≡◌, ℕ, ◌-◌, ◌≤◌, List, length, take, drop, Option, IfSome}
use Rattle.std.specs.Io.KnownBytes.{Appends}
use Rattle.qsg_num.specs.Faults.{Rose}
use Rattle.qsg_run.specs.declared.outside.ReadStop.{ReadStop}
use Rattle.qsg_run.specs.declared.outside.ReadStop.TheVariants.{NoMemory, Fault}

-- reading ends here: one byte past the longest script
abbrev pub read_limit : ℕ
read_limit = 4194305

-- the bytes read are those that the source had left, or its first ones up to the limit
abbrev pub Reads : Option (List ℕ) → List ℕ → Type 0
Reads left bytes = IfSome left (λ all. bytes ≡ take read_limit all)

-- why reading stopped: the source's count of faults rose, or memory was wanting
abbrev pub StopsReading : ℕ → ℕ → ReadStop → Type 0
StopsReading before now NoMemory = Unit {0}
StopsReading before now Fault = Rose before now

-- some first bytes of the text were appended, and the rest is left
pub record WroteUpTo (old new : Option (List ℕ)) (text rest : List ℕ) : Type 0 where
  pub within : length rest ≤ length text
  pub what : rest ≡ drop (length text - length rest) text
  pub front : Appends old new (take (length text - length rest) text)
