-- the table of statements: what stands behind the first word of each, and which keywords may follow
use Rattle.std.specs.Prelude.{ℕ, List, [], ◌∷◌, codes}
use Rattle.qsg_grammar.specs.declared.kinds.Row.{Row}
use Rattle.qsg_grammar.specs.declared.kinds.Row.TheVariants as row
use Rattle.qsg_grammar.specs.declared.slots.Slot.{Slot}
use Rattle.qsg_grammar.specs.declared.slots.Slot.TheVariants as slot
use Rattle.qsg_grammar.specs.declared.keywords.Keyword.{Keyword}
use Rattle.qsg_grammar.specs.declared.keywords.Keyword.TheVariants as keyword
use Rattle.qsg_grammar.specs.declared.faults.Lack.{Lack}
use Rattle.qsg_grammar.specs.declared.faults.Lack.TheVariants as lack

-- what stands behind the first word, in order
abbrev pub slots_of : Row → List Slot
slots_of row.Group = slot.GroupName ∷ []
slots_of row.Member = slot.NewMember ∷ []
slots_of row.Facility = slot.NewFacility ∷ []
slots_of row.Task = slot.Member ∷ slot.NewTask ∷ []
slots_of row.Operator = []
slots_of row.Put = slot.Queue ∷ []
slots_of row.Get = slot.Queue ∷ []
slots_of row.Commit = []
slots_of row.Backout = []
slots_of row.WaitTask = slot.ActorMember ∷ slot.AnyTask ∷ slot.Answers ∷ []
slots_of row.WaitOperator = slot.ActorOperator ∷ slot.Answers ∷ []
slots_of row.Crash = slot.Member ∷ []
slots_of row.Start = slot.Member ∷ []
slots_of row.Stop = slot.Member ∷ []
slots_of row.Lose = slot.Structure ∷ []
slots_of row.Schedule = []
slots_of row.TurnTask = slot.AnyTask ∷ slot.Turns ∷ []
slots_of row.TurnOperator = slot.Turns ∷ []
slots_of row.End = []

-- what is missing where no word stands there
abbrev pub lack_of : Slot → Lack
lack_of slot.GroupName = lack.Name
lack_of slot.NewMember = lack.Name
lack_of slot.Member = lack.Member
lack_of slot.ActorMember = lack.Actor
lack_of slot.ActorOperator = lack.Actor
lack_of slot.Structure = lack.Structure
lack_of slot.NewFacility = lack.Structure
lack_of slot.Queue = lack.Queue
lack_of slot.NewTask = lack.N
lack_of slot.AnyTask = lack.N
lack_of slot.Answers = lack.N
lack_of slot.Turns = lack.Count

-- the keywords behind these, in any order
abbrev pub keywords_of : Row → List Keyword
keywords_of row.Member = keyword.Log ∷ keyword.Pick ∷ []
keywords_of row.Facility = keyword.Elements ∷ keyword.Blocks ∷ []
keywords_of row.Put =
    keyword.Body ∷ keyword.Hex ∷ keyword.Size ∷ keyword.Pri ∷ keyword.Pers ∷ keyword.Msgid ∷ keyword.Correlid ∷ []
keywords_of row.Get = keyword.Msgid ∷ keyword.Correlid ∷ []
keywords_of row.Crash = keyword.Pick ∷ []
keywords_of other = []

-- a keyword, in capitals
abbrev pub text_of : Keyword → List ℕ
text_of keyword.Log = codes "LOG"
text_of keyword.Pick = codes "PICK"
text_of keyword.Elements = codes "ELEMENTS"
text_of keyword.Blocks = codes "BLOCKS"
text_of keyword.Body = codes "BODY"
text_of keyword.Hex = codes "HEX"
text_of keyword.Size = codes "SIZE"
text_of keyword.Pri = codes "PRI"
text_of keyword.Pers = codes "PERS"
text_of keyword.Msgid = codes "MSGID"
text_of keyword.Correlid = codes "CORRELID"
