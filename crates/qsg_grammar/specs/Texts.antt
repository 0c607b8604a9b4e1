-- words that are missing
use Rattle.std.specs.Prelude.{ℕ, List, codes}
use Rattle.qsg_grammar.specs.declared.faults.Lack.{Lack}
use Rattle.qsg_grammar.specs.declared.faults.Lack.TheVariants as lack

-- in capitals
abbrev pub text_of_lack : Lack → List ℕ
text_of_lack lack.Name = codes "NAME"
text_of_lack lack.Structure = codes "STRUCTURE"
text_of_lack lack.Member = codes "MEMBER"
text_of_lack lack.Queue = codes "QUEUE"
text_of_lack lack.Actor = codes "ACTOR"
text_of_lack lack.N = codes "N"
text_of_lack lack.Count = codes "COUNT"
