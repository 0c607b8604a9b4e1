-- the statement that words without a fault are; of others this says nothing that counts
use Rattle.std.specs.Prelude.{ℕ, List, [], ◌∷◌, drop, Option, Some, None}
use Rattle.mqsc_lex.specs.declared.words.Word.{Word}
use Rattle.mqsc_values.specs.Numbers.{number_of}
use Rattle.mqsc_define.specs.Definitions.{definition_of, count_or, number_or}
use Rattle.mqsc_admin.specs.declared.admins.Admin.{Admin}
use Rattle.mqsc_admin.specs.declared.admins.Admin.TheVariants as admin
use Rattle.mqsc_admin.specs.Admins.{admin_of}
use Rattle.qsg_num.specs.declared.ids.Actor.TheVariants as actor
use Rattle.qsg_objects.specs.declared.directives.Directive.{Directive}
use Rattle.qsg_objects.specs.declared.directives.Directive.TheVariants as directive
use Rattle.qsg_objects.specs.declared.plans.Size.{Size}
use Rattle.qsg_objects.specs.declared.plans.MemberDef.{MemberDef}
use Rattle.qsg_draft.specs.Contents.{Contents}
use Rattle.qsg_draft.specs.Sizes.{blocks_in}
use Rattle.qsg_grammar.specs.declared.kinds.Kind.{Kind}
use Rattle.qsg_grammar.specs.declared.kinds.Kind.TheVariants.{Define, Command, Listed}
use Rattle.qsg_grammar.specs.declared.kinds.Row.{Row}
use Rattle.qsg_grammar.specs.declared.kinds.Row.TheVariants as row
use Rattle.qsg_grammar.specs.declared.keywords.Keyword.TheVariants as keyword
use Rattle.qsg_grammar.specs.Values.{task_of}
use Rattle.qsg_statement.specs.declared.statements.Statement.{Statement}
use Rattle.qsg_statement.specs.declared.statements.Statement.TheVariants as statement
use Rattle.qsg_statement.specs.Words.{key_at, text_behind, member_of, structure_of, id_behind, id_or_zeros, body_of, priority_of, persistent_of}

-- MEMBER: 8,192 pages and pick 0 where they aren't given
abbrev pub member_def : List ℕ → List Word → MemberDef
member_def name keywords = record {
  name = name;
  log_pages = count_or 8192 8192 (text_behind keyword.Log keywords);
  pick = count_or 0 18446744073709551615 (text_behind keyword.Pick keywords);
}

-- FACILITY: 65,536 elements and the blocks of 16 MiB where they aren't given
abbrev pub facility_size : Contents → List ℕ → List Word → Size
facility_size c name keywords = record {
  elements = count_or 65536 1048576 (text_behind keyword.Elements keywords);
  blocks = count_or (blocks_in (structure_of name c) 16777216 c) (blocks_in (structure_of name c) 67108864 c) (text_behind keyword.Blocks keywords);
}

abbrev pub put_of : List ℕ → List Word → Directive
put_of queue keywords =
    directive.Put queue (body_of keywords) (priority_of (text_behind keyword.Pri keywords)) (persistent_of (text_behind keyword.Pers keywords))
    (id_or_zeros keyword.Msgid keywords) (id_or_zeros keyword.Correlid keywords)

abbrev pub get_of : List ℕ → List Word → Directive
get_of queue keywords = directive.Get queue (id_behind keyword.Msgid keywords) (id_behind keyword.Correlid keywords)

-- the answers for which a WAIT waits
abbrev pub answers_of : List ℕ → ℕ
answers_of text = number_or 0 (number_of text 4294967295)

-- a count of the schedule; one above the limit stands for all above it
abbrev pub turns_of : List ℕ → ℕ
turns_of text = number_or 10000001 (number_of text 10000000)

-- a directive by its row of the table
abbrev pub directive_by : Contents → Row → List Word → Directive
directive_by c row.Put words = put_of (key_at 1 words) (drop 2 words)
directive_by c row.Get words = get_of (key_at 1 words) (drop 2 words)
directive_by c row.Backout words = directive.Backout
directive_by c row.WaitTask words = directive.Wait (actor.Task (member_of (key_at 1 words) c) (task_of (key_at 2 words))) (answers_of (key_at 3 words))
directive_by c row.WaitOperator words = directive.Wait actor.Operator (answers_of (key_at 2 words))
directive_by c row.Crash words = directive.Crash (member_of (key_at 1 words) c) (count_or 0 18446744073709551615 (text_behind keyword.Pick (drop 2 words)))
directive_by c row.Start words = directive.Start (member_of (key_at 1 words) c)
directive_by c row.Stop words = directive.Stop (member_of (key_at 1 words) c)
directive_by c row.Lose words = directive.Lose (structure_of (key_at 1 words) c)
directive_by c other words = directive.Commit

-- a statement by its row of the table
abbrev pub listed_statement : Contents → Row → List Word → Statement
listed_statement c row.Group words = statement.Group (key_at 1 words)
listed_statement c row.Member words = statement.Member (member_def (key_at 1 words) (drop 2 words))
listed_statement c row.Facility words = statement.Facility (structure_of (key_at 1 words) c) (facility_size c (key_at 1 words) (drop 2 words))
listed_statement c row.Task words = statement.Task (member_of (key_at 1 words) c) (task_of (key_at 2 words))
listed_statement c row.Operator words = statement.Operator
listed_statement c row.Schedule words = statement.Schedule
listed_statement c row.TurnTask words = statement.Turn (actor.Task (member_of (key_at 0 words) c) (task_of (key_at 1 words))) (turns_of (key_at 2 words))
listed_statement c row.TurnOperator words = statement.Turn actor.Operator (turns_of (key_at 1 words))
listed_statement c row.End words = statement.End
listed_statement c other words = statement.Directive (directive_by c other words)

-- a command, with the member of a RESET
abbrev pub command_directive : Contents → Admin → Directive
command_directive c (admin.Backup structure) = directive.Backup structure
command_directive c (admin.Recover structure kind) = directive.Recover structure kind
command_directive c (admin.ResetSmds member structure wanted) = directive.ResetSmds (member_of member c) structure wanted
command_directive c (admin.DisplayCfstatus structure) = directive.DisplayCfstatus structure
command_directive c (admin.DisplayQueue queue) = directive.DisplayQueue queue
command_directive c (admin.DisplaySmds structure) = directive.DisplaySmds structure

abbrev pub statement_of : Contents → Kind → List Word → Statement
statement_of c Define words = statement.Define (definition_of words)
statement_of c Command words = statement.Directive (command_directive c (admin_of words))
statement_of c (Listed row) words = listed_statement c row words
