-- what is wrong with the value of a word
use Rattle.std.specs.Prelude.{ℕ, Bool, true, false, ◌||◌, List, codes, Option, Some, None}
use Rattle.mqsc_lex.specs.declared.words.Text.{Text}
use Rattle.mqsc_values.specs.declared.numbers.Number.{Number}
use Rattle.mqsc_values.specs.declared.numbers.Number.TheVariants.{Value, TooLarge, Bad}
use Rattle.mqsc_values.specs.Numbers.{number_of}
use Rattle.mqsc_values.specs.Names.{form_of, queue_form_of}
use Rattle.mqsc_define.specs.declared.faults.DefineFault.{DefineFault}
use Rattle.mqsc_define.specs.declared.faults.DefineFault.TheVariants.{BadValue}
use Rattle.mqsc_define.specs.Values.{is_text, bad_unless, name_fault}
use Rattle.mqsc_admin.specs.declared.keywords.Form.{Form}
use Rattle.mqsc_admin.specs.declared.keywords.Form.TheVariants as form

-- it is a number within its limit
abbrev pub is_value : Number → Bool
is_value (Value n) = true
is_value TooLarge = false
is_value Bad = false

-- of a text that has to be of this form; the place is that of the word
abbrev pub text_fault : ℕ → Form → List ℕ → Option DefineFault
text_fault place form.StructureName text = name_fault place (form_of text 12)
text_fault place form.QueueName text = name_fault place (queue_form_of text)
text_fault place form.MemberName text = name_fault place (form_of text 4)
text_fault place form.AllMembers text = bad_unless place (is_text (codes "*") text)
text_fault place form.Interval text = bad_unless place (is_value (number_of text 4294967295))
text_fault place form.NormalOrPurge text = bad_unless place (is_text (codes "NORMAL") text || is_text (codes "PURGE") text)
text_fault place form.EnabledOrDisabled text = bad_unless place (is_text (codes "ENABLED") text || is_text (codes "DISABLED") text)
text_fault place form.FailedOrRecovered text = bad_unless place (is_text (codes "FAILED") text || is_text (codes "RECOVERED") text)

-- of a value, or of its absence
abbrev pub value_fault : ℕ → Form → Option Text → Option DefineFault
value_fault place form None = Some (BadValue place)
value_fault place form (Some value) = text_fault place form value.text
