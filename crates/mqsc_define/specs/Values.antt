-- what is wrong with the value of a word
use Rattle.std.specs.Prelude.{ℕ, ◌-◌, Bool, false, nat_le, nat_eq, ◌==◌, ◌||◌, ◌&&◌, if◌then◌else◌, List, length, take, slice_index, count_by, codes, Option, Some, None, is_some}
use Rattle.std.specs.Cmp.Lexicographic.{pointwise}
use Rattle.mqsc_lex.specs.declared.words.Text.{Text}
use Rattle.mqsc_values.specs.declared.numbers.Number.{Number}
use Rattle.mqsc_values.specs.declared.numbers.Number.TheVariants.{Value, TooLarge, Bad}
use Rattle.mqsc_values.specs.declared.names.NameForm.{NameForm}
use Rattle.mqsc_values.specs.declared.names.NameForm.TheVariants as name
use Rattle.mqsc_values.specs.Numbers.{number_of}
use Rattle.mqsc_values.specs.Names.{form_of, queue_form_of, character_count}
use Rattle.mqsc_define.specs.declared.faults.DefineFault.{DefineFault}
use Rattle.mqsc_define.specs.declared.faults.DefineFault.TheVariants.{NameTooLong, BadValue, LevelNot5, NoAsterisk, TwoAsterisks}
use Rattle.mqsc_define.specs.declared.keywords.Form.{Form}
use Rattle.mqsc_define.specs.declared.keywords.Form.TheVariants as form

-- texts are compared byte by byte
abbrev pub is_text : List ℕ → List ℕ → Bool
is_text wanted text = pointwise nat_eq text wanted

-- a number of at least so much
abbrev pub is_at_least : ℕ → Number → Bool
is_at_least least (Value n) = nat_le least n
is_at_least least TooLarge = false
is_at_least least Bad = false

-- what a text says as a number of at most so much with a K behind it
abbrev pub kilobytes_of : List ℕ → ℕ → Number
kilobytes_of text most = if slice_index text (length text - 1) == 75 then number_of (take (length text - 1) text) most else Bad

-- the bytes of a block, as DSBLOCK names them
abbrev pub block_of : List ℕ → Option ℕ
block_of text =
    if is_text (codes "8K") text then Some 8192
    else if is_text (codes "16K") text then Some 16384
    else if is_text (codes "32K") text then Some 32768
    else if is_text (codes "64K") text then Some 65536
    else if is_text (codes "128K") text then Some 131072
    else if is_text (codes "256K") text then Some 262144
    else if is_text (codes "512K") text then Some 524288
    else if is_text (codes "1M") text then Some 1048576
    else None

-- In what follows the place is that of the word.

abbrev pub bad_unless : ℕ → Bool → Option DefineFault
bad_unless place good = if good then None else Some (BadValue place)

-- of the name of a structure or a queue
abbrev pub name_fault : ℕ → NameForm → Option DefineFault
name_fault place name.Good = None
name_fault place name.TooLong = Some (NameTooLong place)
name_fault place name.Bad = Some (BadValue place)

-- of a level: it has to be 5, and 1 to 4 have a fault of their own
abbrev pub level_fault : ℕ → Number → Option DefineFault
level_fault place (Value n) = if n == 5 then None else if nat_le 1 n then Some LevelNot5 else Some (BadValue place)
level_fault place TooLarge = Some (BadValue place)
level_fault place Bad = Some (BadValue place)

-- of a name with so many asterisks
abbrev pub asterisk_fault : ℕ → Option DefineFault
asterisk_fault count = if count == 0 then Some NoAsterisk else if count == 1 then None else Some TwoAsterisks

abbrev pub is_asterisk : ℕ → Bool
is_asterisk b = b == 42

-- of the name of the data sets: 1 to 44 characters, one of them an asterisk
abbrev pub data_sets_fault : ℕ → List ℕ → Option DefineFault
data_sets_fault place text =
    if nat_le 1 (character_count text) && nat_le (character_count text) 44
    then asterisk_fault (count_by is_asterisk text)
    else Some (BadValue place)

-- of a text that has to be of this form
abbrev pub text_fault : ℕ → Form → List ℕ → Option DefineFault
text_fault place form.Nothing text = Some (BadValue place)
text_fault place form.Level text = level_fault place (number_of text 5)
text_fault place form.Smds text = bad_unless place (is_text (codes "SMDS") text)
text_fault place form.Shared text = bad_unless place (is_text (codes "SHARED") text)
text_fault place form.YesOrNo text = bad_unless place (is_text (codes "YES") text || is_text (codes "NO") text)
text_fault place form.EnabledOrDisabled text = bad_unless place (is_text (codes "ENABLED") text || is_text (codes "DISABLED") text)
text_fault place form.PriorityOrFifo text = bad_unless place (is_text (codes "PRIORITY") text || is_text (codes "FIFO") text)
text_fault place (form.Number least most) text = bad_unless place (is_at_least least (number_of text most))
text_fault place form.RuleSize text = bad_unless place (is_at_least 0 (kilobytes_of text 64))
text_fault place form.BlockSize text = bad_unless place (is_some (block_of text))
text_fault place form.DataSets text = data_sets_fault place text
text_fault place form.Description text = bad_unless place (nat_le (character_count text) 64)
text_fault place form.StructureName text = name_fault place (form_of text 12)
text_fault place form.QueueName text = name_fault place (queue_form_of text)

-- of a value, or of its absence
abbrev pub value_fault : ℕ → Form → Option Text → Option DefineFault
value_fault place form.Nothing None = None
value_fault place form None = Some (BadValue place)
value_fault place form (Some value) = text_fault place form value.text
