-- the plan of the bytes of a script, or their first fault
use Rattle.std.specs.Prelude.{◌≡◌, ◌≢◌, ℕ, ◌<◌, ◌≤◌, ◌⊎◌, List, [], ◌∷◌, ◌++◌, length, Result, Ok, Err}
use Rattle.qsg_lines.specs.declared.items.Item.{Item}
use Rattle.qsg_lines.specs.declared.items.LineFault.{LineFault}
use Rattle.qsg_lines.specs.declared.items.LineFault.TheVariants as line
use Rattle.qsg_lines.specs.Items.{script_of}
use Rattle.qsg_objects.specs.declared.plans.Plan.{Plan}
use Rattle.qsg_draft.specs.declared.stages.Stage.TheVariants as stage
use Rattle.qsg_draft.specs.Contents.{Contents, nothing_read}
use Rattle.qsg_draft.specs.Plans.{plan_of}
use Rattle.qsg_grammar.specs.declared.whys.Why.{Why}
use Rattle.qsg_grammar.specs.declared.whys.Why.TheVariants as why
use Rattle.qsg_statement.specs.declared.statements.Statement.{Statement}
use Rattle.qsg_statement.specs.Reading.{IsStatement, IsWhy}
use Rattle.qsg_statement.specs.Taking.{taken}
use Rattle.qsg_script.specs.declared.faults.ScriptFault.{ScriptFault}
use Rattle.qsg_script.specs.declared.faults.ScriptError.{ScriptError}
use Rattle.qsg_script.specs.declared.faults.ScriptError.TheVariants as error

-- An item is a statement, and taking it leads from what was read before to what is read behind it.
pub record Takes (before : Contents) (item : Item) (after : Contents) : Type 0 where
  pub text : List ℕ
  pub statement : Statement
  pub whole : item.text ≡ Ok text
  pub reads : IsStatement before text statement
  pub leads : after ≡ taken statement before

-- Each item is a statement behind those before it.
abbrev pub TakesAll : Contents → List Item → Contents → Type 0
TakesAll before [] after = before ≡ after
TakesAll before (item ∷ items) after = (next : Contents) × Takes before item next × TakesAll next items after

abbrev pub why_of_line : LineFault → Why
why_of_line line.LongLine = why.LongLine
why_of_line line.NotUtf8 = why.NotUtf8

-- what is wrong with the text of an item behind what was read: that of its lines, or that of its words
abbrev pub IsWhyOf : Contents → Result (List ℕ) LineFault → Why → Type 0
IsWhyOf c (Err f) w = w ≡ why_of_line f
IsWhyOf c (Ok text) w = IsWhy c text w

-- A fault is that of an item behind what was read.
pub record IsFaultOf (c : Contents) (item : Item) (fault : ScriptFault) : Type 0 where
  pub line : fault.line ≡ item.line
  pub says : IsWhyOf c item.text fault.why

-- A fault is that of one of these items, and those before it are statements.
abbrev pub IsFaultAmong : Contents → List Item → ScriptFault → Type 0
IsFaultAmong c [] fault = ⊥
IsFaultAmong c (item ∷ items) fault = IsFaultOf c item fault ⊎ ((next : Contents) × Takes c item next × IsFaultAmong next items fault)

-- The script isn't larger than 4,194,304 bytes, its items are statements each behind those before it, and the last is END.
pub record IsRead (bytes : List ℕ) (c : Contents) : Type 0 where
  pub small : length bytes ≤ 4194304
  pub takes : TakesAll nothing_read (script_of bytes).items c
  pub ended : c.stage ≡ stage.Ended

-- the plan of the bytes of a script
pub record IsPlan (bytes : List ℕ) (plan : Plan) : Type 0 where
  pub contents : Contents
  pub read : IsRead bytes contents
  pub means : plan ≡ plan_of contents

-- an item at fault behind a front of statements
pub record IsItemAtFault (bytes : List ℕ) (fault : ScriptFault) : Type 0 where
  pub small : length bytes ≤ 4194304
  pub front : List Item
  pub item : Item
  pub back : List Item
  pub parts : (script_of bytes).items ≡ front ++ item ∷ back
  pub contents : Contents
  pub takes : TakesAll nothing_read front contents
  pub stands : IsFaultOf contents item fault

-- END is missing of what was read, which this line follows.
pub record IsUnended (c : Contents) (end : ℕ) (fault : ScriptFault) : Type 0 where
  pub unended : c.stage ≢ stage.Ended
  pub line : fault.line ≡ end
  pub says : fault.why ≡ why.NoEnd

-- statements without END
pub record IsWithoutEnd (bytes : List ℕ) (fault : ScriptFault) : Type 0 where
  pub small : length bytes ≤ 4194304
  pub contents : Contents
  pub takes : TakesAll nothing_read (script_of bytes).items contents
  pub stands : IsUnended contents (script_of bytes).end fault

-- more bytes than a script may have
pub record IsTooLarge (bytes : List ℕ) (fault : ScriptFault) : Type 0 where
  pub large : 4194304 < length bytes
  pub line : fault.line ≡ 0
  pub says : fault.why ≡ why.TooLarge 4194304

-- the first fault of the bytes of a script
pub data IsFirstFault (bytes : List ℕ) (fault : ScriptFault) : Type 0 where
  too_large : IsTooLarge bytes fault → IsFirstFault bytes fault
  at_item : IsItemAtFault bytes fault → IsFirstFault bytes fault
  without_end : IsWithoutEnd bytes fault → IsFirstFault bytes fault

-- what an error says of the first fault
abbrev pub Says : (ScriptFault → Type 0) → ScriptError → Type 0
Says P error.NoMemory = Unit {0}
Says P (error.Fault fault) = P fault

-- an answer, unless memory ran out
abbrev pub Gives : Result Plan ScriptFault → Result Plan ScriptError → Type 0
Gives wanted (Ok plan) = wanted ≡ Ok plan
Gives wanted (Err error.NoMemory) = Unit {0}
Gives wanted (Err (error.Fault fault)) = wanted ≡ Err fault
