-- the forms of names
use Rattle.std.specs.Prelude.{ℕ, Bool, false, not, nat_lt, ◌&&◌, ◌||◌, if◌then◌else◌, List, [], ◌∷◌, count_by}
use Rattle.std.specs.List.{list_all}
use Rattle.qsg_num.specs.Names.{is_between, is_alphanumeric, is_queue_name}
use Rattle.mqsc_values.specs.declared.names.NameForm.{NameForm}
use Rattle.mqsc_values.specs.declared.names.NameForm.TheVariants.{Good, TooLong, Bad}

-- a letter of either case
abbrev pub is_letter : ℕ → Bool
is_letter b = is_between 65 90 b || is_between 97 122 b

-- In UTF-8 the bytes 128 to 191 go on with a character.
abbrev pub begins_character : ℕ → Bool
begins_character b = not (is_between 128 191 b)

-- how many characters a text has
abbrev pub character_count : List ℕ → ℕ
character_count text = count_by begins_character text

-- letters and digits, a letter first
abbrev pub is_name : List ℕ → Bool
is_name [] = false
is_name (b ∷ bs) = is_letter b && list_all is_alphanumeric bs

-- what a text is as a name of at most so many characters
abbrev pub form_of : List ℕ → ℕ → NameForm
form_of text most = if nat_lt most (character_count text) then TooLong else if is_name text then Good else Bad

-- what a text is as the name of a queue
abbrev pub queue_form_of : List ℕ → NameForm
queue_form_of text = if nat_lt 48 (character_count text) then TooLong else if is_queue_name text then Good else Bad
