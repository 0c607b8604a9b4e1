-- what decoding answers
use Rattle.std.specs.Prelude.{◌≡◌, ℕ, List, ◌++◌, length, Result, Ok, Err}
use Rattle.qsg_msg.specs.declared.message.Message.{Message}
use Rattle.qsg_msg.specs.declared.fault.MessageFault.{MessageFault}
use Rattle.qsg_msg.specs.declared.fault.MessageFault.TheVariants.{BadMessage, NoMemory}
use Rattle.qsg_msg.specs.Spelling.{spelling, IsSpelling}

-- the answer is this message and its length, unless memory ran out
abbrev pub ReadsAs : Message → Result (Message × ℕ) MessageFault → Type 0
ReadsAs m (Ok x) = (x.0 ≡ m) × (x.1 ≡ length (spelling m))
ReadsAs m (Err NoMemory) = Unit {0}
ReadsAs m (Err (BadMessage at)) = ⊥

-- no message's spelling begins the input
abbrev pub BeginsNone : List ℕ → Type 0
BeginsNone input = (text rest : List ℕ) → IsSpelling text → input ≡ text ++ rest → ⊥
