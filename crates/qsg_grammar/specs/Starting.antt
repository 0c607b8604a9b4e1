-- the kind of a statement, by where it stands and by its first words
use Rattle.std.specs.Prelude.{Bool, ◌||◌, ◌&&◌, if◌then◌else◌, List, [], ◌∷◌, codes, Option, Some, None, is_some, is_none}
use Rattle.std.specs.Option.{option_or}
use Rattle.mqsc_lex.specs.declared.words.Word.{Word}
use Rattle.mqsc_define.specs.Faults.{has_key, is_verb as is_define}
use Rattle.mqsc_admin.specs.Faults.{is_verb}
use Rattle.qsg_num.specs.declared.ids.Actor.{Actor}
use Rattle.qsg_num.specs.declared.ids.Actor.TheVariants as actor
use Rattle.qsg_draft.specs.declared.stages.Stage.{Stage}
use Rattle.qsg_draft.specs.declared.stages.Stage.TheVariants as stage
use Rattle.qsg_draft.specs.Contents.{Contents}
use Rattle.qsg_draft.specs.Lookups.{member_named}
use Rattle.qsg_grammar.specs.declared.kinds.Kind.{Kind}
use Rattle.qsg_grammar.specs.declared.kinds.Kind.TheVariants.{Define, Command, Listed}
use Rattle.qsg_grammar.specs.declared.kinds.Row.{Row}
use Rattle.qsg_grammar.specs.declared.kinds.Row.TheVariants as row

-- what opens a section, the schedule, or the end
abbrev pub opening_kind : Word → Option Kind
opening_kind word =
    if is_verb (codes "TASK") word then Some (Listed row.Task)
    else if is_verb (codes "OPERATOR") word then Some (Listed row.Operator)
    else if is_verb (codes "SCHEDULE") word then Some (Listed row.Schedule)
    else if is_verb (codes "END") word then Some (Listed row.End)
    else None

abbrev pub definition_kind : Word → Option Kind
definition_kind word =
    if is_verb (codes "MEMBER") word then Some (Listed row.Member)
    else if is_define word then Some Define
    else if is_verb (codes "FACILITY") word then Some (Listed row.Facility)
    else None

-- WAIT goes on with the plain word OPERATOR, or with a task
abbrev pub wait_row : List Word → Row
wait_row [] = row.WaitTask
wait_row (word ∷ words) = if has_key (codes "OPERATOR") word then row.WaitOperator else row.WaitTask

-- the verb of a command
abbrev pub is_command : Word → Bool
is_command word =
    is_verb (codes "BACKUP") word || is_verb (codes "RECOVER") word || is_verb (codes "RESET") word || is_verb (codes "DISPLAY") word

abbrev pub task_kind : Word → List Word → Option Kind
task_kind word words =
    if is_verb (codes "PUT") word then Some (Listed row.Put)
    else if is_verb (codes "GET") word then Some (Listed row.Get)
    else if is_verb (codes "COMMIT") word then Some (Listed row.Commit)
    else if is_verb (codes "BACKOUT") word then Some (Listed row.Backout)
    else if is_verb (codes "WAIT") word then Some (Listed (wait_row words))
    else if is_command word then Some Command
    else None

abbrev pub operator_kind : Word → List Word → Option Kind
operator_kind word words =
    if is_verb (codes "CRASH") word then Some (Listed row.Crash)
    else if is_verb (codes "START") word then Some (Listed row.Start)
    else if is_verb (codes "STOP") word then Some (Listed row.Stop)
    else if is_verb (codes "LOSE") word then Some (Listed row.Lose)
    else if is_verb (codes "WAIT") word then Some (Listed (wait_row words))
    else None

abbrev pub directive_kind : Actor → Word → List Word → Option Kind
directive_kind (actor.Task member task) word words = task_kind word words
directive_kind actor.Operator word words = operator_kind word words

-- A line of the schedule begins with a member, plain or quoted, or with the plain word OPERATOR. END is the end in any case.
abbrev pub turn_kind : Contents → Word → Option Kind
turn_kind c word =
    if is_verb (codes "END") word then Some (Listed row.End)
    else if is_verb (codes "OPERATOR") word then Some (Listed row.TurnOperator)
    else if is_none word.value && is_some (member_named word.key c) then Some (Listed row.TurnTask)
    else None

abbrev pub kind_in : Stage → Contents → Word → List Word → Option Kind
kind_in stage.Start c word words = if is_verb (codes "GROUP") word then Some (Listed row.Group) else None
kind_in stage.Definitions c word words = option_or (definition_kind word) (opening_kind word)
kind_in (stage.Section a) c word words = option_or (directive_kind a word words) (opening_kind word)
kind_in stage.Schedule c word words = turn_kind c word
kind_in stage.Ended c word words = None

-- the kind of the statement that words are; none where the first of them has no place
abbrev pub kind_of : Contents → List Word → Option Kind
kind_of c [] = None
kind_of c (word ∷ words) = kind_in c.stage c word words
