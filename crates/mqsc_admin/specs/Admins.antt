-- the command that words are
use Rattle.std.specs.Prelude.{ℕ, List, [], ◌∷◌, find, codes, Option, Some, None, option_and_then, if◌then◌else◌}
use Rattle.mqsc_lex.specs.declared.words.Word.{Word}
use Rattle.qsg_num.specs.declared.words.RecoverKind.{RecoverKind}
use Rattle.qsg_num.specs.declared.words.RecoverKind.TheVariants.{Normal, Purge}
use Rattle.qsg_num.specs.declared.words.Wanted.{Wanted}
use Rattle.qsg_num.specs.declared.words.Wanted.TheVariants.{AccessEnabled, AccessDisabled, StatusFailed, StatusRecovered}
use Rattle.mqsc_define.specs.Values.{is_text}
use Rattle.mqsc_define.specs.Definitions.{value_text, text_or_empty}
use Rattle.mqsc_admin.specs.declared.keywords.Verb.{Verb}
use Rattle.mqsc_admin.specs.declared.keywords.Verb.TheVariants as verb
use Rattle.mqsc_admin.specs.declared.keywords.Object.{Object}
use Rattle.mqsc_admin.specs.declared.keywords.Object.TheVariants as object
use Rattle.mqsc_admin.specs.declared.keywords.Keyword.{Keyword}
use Rattle.mqsc_admin.specs.declared.keywords.Keyword.TheVariants as keyword
use Rattle.mqsc_admin.specs.declared.admins.Admin.{Admin}
use Rattle.mqsc_admin.specs.declared.admins.Admin.TheVariants.{Backup, Recover, ResetSmds, DisplayCfstatus, DisplayQueue, DisplaySmds}
use Rattle.mqsc_admin.specs.Faults.{has_keyword, verb_of, object_of}

-- the text behind a keyword, if that is there
abbrev pub text_behind : Keyword → List Word → Option (List ℕ)
text_behind keyword words = option_and_then value_text (find (has_keyword keyword) words)

-- the name behind a keyword
abbrev pub name_behind : Keyword → List Word → List ℕ
name_behind keyword words = text_or_empty (text_behind keyword words)

-- what TYPE says: NORMAL where it is absent
abbrev pub kind_of : Option (List ℕ) → RecoverKind
kind_of None = Normal
kind_of (Some text) = if is_text (codes "PURGE") text then Purge else Normal

-- what STATUS says, or in its absence ACCESS
abbrev pub wanted_of : Option (List ℕ) → Option (List ℕ) → Wanted
wanted_of (Some status) access = if is_text (codes "FAILED") status then StatusFailed else StatusRecovered
wanted_of None (Some access) = if is_text (codes "DISABLED") access then AccessDisabled else AccessEnabled
wanted_of None None = AccessEnabled

-- a DISPLAY of an object with this name
abbrev pub shown_of : Option Object → List ℕ → List Word → Admin
shown_of None name words = DisplayQueue name
shown_of (Some object.Cfstatus) name words = DisplayCfstatus name
shown_of (Some object.Queue) name words = DisplayQueue name
shown_of (Some object.Smds) name words = DisplaySmds (name_behind keyword.Cfstruct words)

-- what stands behind DISPLAY
abbrev pub display_of : List Word → Admin
display_of [] = DisplayQueue []
display_of (word ∷ words) = shown_of (object_of word) (text_or_empty (value_text word)) words

-- what stands behind a verb
abbrev pub command_of : Option Verb → List Word → Admin
command_of None words = DisplayQueue []
command_of (Some verb.Backup) words = Backup (name_behind keyword.Cfstruct words)
command_of (Some verb.Recover) words = Recover (name_behind keyword.Cfstruct words) (kind_of (text_behind keyword.Type words))
command_of (Some verb.Reset) words =
    ResetSmds (name_behind keyword.Smds words) (name_behind keyword.Cfstruct words)
    (wanted_of (text_behind keyword.Status words) (text_behind keyword.Access words))
command_of (Some verb.Display) words = display_of words

-- The command that words without a fault are. Of others it says nothing that counts.
abbrev pub admin_of : List Word → Admin
admin_of [] = DisplayQueue []
admin_of (word ∷ words) = command_of (verb_of word) words
