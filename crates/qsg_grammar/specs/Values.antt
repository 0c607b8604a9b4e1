-- what is wrong with a text at a place, or with the value of a keyword
use Rattle.std.specs.Prelude.{ℕ, ◌+◌, ◌/◌, Bool, true, false, not, nat_le, nat_lt, ◌||◌, if◌then◌else◌, List, length, codes, Option, Some, None, is_some, unwrap_or}
use Rattle.mqsc_values.specs.declared.numbers.Number.{Number}
use Rattle.mqsc_values.specs.declared.numbers.Number.TheVariants.{Value, TooLarge as large, Bad}
use Rattle.mqsc_values.specs.declared.names.NameForm.{NameForm}
use Rattle.mqsc_values.specs.declared.names.NameForm.TheVariants as name
use Rattle.mqsc_values.specs.Numbers.{number_of}
use Rattle.mqsc_values.specs.Names.{form_of, queue_form_of}
use Rattle.mqsc_values.specs.Hexadecimal.{bytes_of, id_of}
use Rattle.mqsc_define.specs.Values.{is_text, is_at_least}
use Rattle.mqsc_define.specs.Definitions.{number_or}
use Rattle.qsg_num.specs.declared.seats.Member.{Member}
use Rattle.qsg_num.specs.declared.seats.StructNo.{StructNo}
use Rattle.qsg_num.specs.declared.seats.TaskNo.{TaskNo}
use Rattle.qsg_num.specs.declared.seats.TaskNo.TheVariants as task
use Rattle.qsg_num.specs.declared.ids.Actor.TheVariants.{Task}
use Rattle.qsg_num.specs.Seats.{task_at}
use Rattle.qsg_objects.specs.Registry.{number_named}
use Rattle.qsg_draft.specs.Contents.{Contents}
use Rattle.qsg_draft.specs.Lookups.{member_named, has_facility, has_section}
use Rattle.qsg_draft.specs.Sizes.{blocks_in}
use Rattle.qsg_grammar.specs.declared.slots.Slot.{Slot}
use Rattle.qsg_grammar.specs.declared.slots.Slot.TheVariants as slot
use Rattle.qsg_grammar.specs.declared.keywords.Keyword.{Keyword}
use Rattle.qsg_grammar.specs.declared.keywords.Keyword.TheVariants as keyword
use Rattle.qsg_grammar.specs.declared.faults.Fault.{Fault}
use Rattle.qsg_grammar.specs.declared.faults.Fault.TheVariants.{BadNumber, BadName, UnknownName, TooLarge}

-- Tests of texts.

abbrev pub is_good : NameForm → Bool
is_good name.Good = true
is_good name.TooLong = false
is_good name.Bad = false

-- a number, however large
abbrev pub is_any_number : Number → Bool
is_any_number (Value n) = true
is_any_number large = true
is_any_number Bad = false

-- a number of at least 1, however large
abbrev pub is_positive : Number → Bool
is_positive (Value n) = nat_le 1 n
is_positive large = true
is_positive Bad = false

-- In what follows the place is that of the word.

abbrev pub bad_number_unless : ℕ → Bool → Option Fault
bad_number_unless place good = if good then None else Some (BadNumber place)

-- a name in its form, and then one that is defined
abbrev pub name_fault : ℕ → Bool → Bool → Option Fault
name_fault place good defined = if not good then Some (BadName place) else if not defined then Some (UnknownName place) else None

-- of a text at a place
abbrev pub text_fault : Contents → ℕ → Slot → List ℕ → Option Fault
text_fault c place slot.GroupName text = name_fault place (is_good (form_of text 4)) true
text_fault c place slot.NewMember text = name_fault place (is_good (form_of text 4)) true
text_fault c place slot.Member text = name_fault place (is_good (form_of text 4)) (is_some (member_named text c))
text_fault c place slot.ActorMember text = name_fault place (is_good (form_of text 4)) (is_some (member_named text c))
text_fault c place slot.ActorOperator text = None
text_fault c place slot.Structure text = name_fault place (is_good (form_of text 12)) (is_some (number_named text c.objects))
text_fault c place slot.NewFacility text = name_fault place (is_good (form_of text 12)) (is_some (number_named text c.objects))
text_fault c place slot.Queue text = name_fault place (is_good (queue_form_of text)) true
text_fault c place slot.NewTask text = bad_number_unless place (is_at_least 1 (number_of text 4))
text_fault c place slot.AnyTask text = bad_number_unless place (is_at_least 0 (number_of text 4))
text_fault c place slot.Answers text = bad_number_unless place (is_at_least 0 (number_of text 4294967295))
text_fault c place slot.Turns text = bad_number_unless place (is_any_number (number_of text 10000000))

-- the task that a text numbers
abbrev pub task_of : List ℕ → TaskNo
task_of text = unwrap_or (task_at (number_or 0 (number_of text 4))) task.System

abbrev pub has_facility_named : Option StructNo → Contents → Bool
has_facility_named None c = false
has_facility_named (Some s) c = has_facility s c

abbrev pub has_task : Option Member → List ℕ → Contents → Bool
has_task None text c = false
has_task (Some m) text c = has_section (Task m (task_of text)) c

-- whether what a text at a place names stands a second time; the subject is the text before it
abbrev pub is_repeated : Contents → Slot → List ℕ → List ℕ → Bool
is_repeated c slot.NewMember subject text = is_some (member_named text c)
is_repeated c slot.NewFacility subject text = has_facility_named (number_named text c.objects) c
is_repeated c slot.NewTask subject text = has_task (member_named subject c) text c
is_repeated c other subject text = false

-- whether the value of a keyword is a number in its range, or bytes in hexadecimal digits
abbrev pub is_right : Keyword → List ℕ → Bool
is_right keyword.Log text = is_at_least 1 (number_of text 8192)
is_right keyword.Pick text = is_at_least 0 (number_of text 18446744073709551615)
is_right keyword.Elements text = is_at_least 1 (number_of text 1048576)
is_right keyword.Blocks text = is_positive (number_of text 67108864)
is_right keyword.Body text = true
is_right keyword.Hex text = is_some (bytes_of text)
is_right keyword.Size text = is_any_number (number_of text 4194304)
is_right keyword.Pri text = is_text (codes "-1") text || is_at_least 0 (number_of text 9)
is_right keyword.Pers text = is_at_least 0 (number_of text 2)
is_right keyword.Msgid text = is_some (id_of text)
is_right keyword.Correlid text = is_some (id_of text)

-- the bytes of a body by its keyword; one past the longest body stands for every longer one by SIZE
abbrev pub bytes_by : Keyword → List ℕ → ℕ
bytes_by keyword.Body text = length text
bytes_by keyword.Hex text = length text / 2
bytes_by keyword.Size text = number_or 4194305 (number_of text 4194304)
bytes_by other text = 0

-- the limit that a body passes: its own, and then that of all bodies
abbrev pub body_limit : ℕ → ℕ → Option Fault
body_limit all bytes =
    if nat_lt 4194304 bytes then Some (TooLarge 4194304)
    else if nat_lt 268435456 (all + bytes) then Some (TooLarge 268435456)
    else None

-- the blocks that a data set of the structure of a name may have, so that its bytes keep their limit
abbrev pub most_blocks : Option StructNo → Contents → ℕ
most_blocks None c = 0
most_blocks (Some s) c = blocks_in s 67108864 c

abbrev pub is_within : Number → Bool
is_within (Value n) = true
is_within large = false
is_within Bad = false

abbrev pub blocks_limit : ℕ → List ℕ → Option Fault
blocks_limit most text = if is_within (number_of text most) then None else Some (TooLarge 67108864)

-- the limit that the value of a keyword passes; the subject is the text right behind the first word
abbrev pub limit_fault : Contents → Keyword → List ℕ → List ℕ → Option Fault
limit_fault c keyword.Blocks subject text = blocks_limit (most_blocks (number_named subject c.objects) c) text
limit_fault c keyword.Body subject text = body_limit c.bodies (bytes_by keyword.Body text)
limit_fault c keyword.Hex subject text = body_limit c.bodies (bytes_by keyword.Hex text)
limit_fault c keyword.Size subject text = body_limit c.bodies (bytes_by keyword.Size text)
limit_fault c other subject text = None
