-- what a statement does to what was read
use Rattle.std.specs.Prelude.{◌≡◌, ℕ, ◌<◌, List, length, None}
use Rattle.qsg_num.specs.declared.ids.Actor.TheVariants as actor
use Rattle.qsg_objects.specs.Registry.{refusal}
use Rattle.qsg_draft.specs.Contents.{Contents}
use Rattle.qsg_draft.specs.Additions.{with_group, with_member, with_definition, IsBlockRight, with_facility, with_section, with_directive, with_schedule, with_turn, with_end}
use Rattle.qsg_statement.specs.declared.statements.Statement.{Statement}
use Rattle.qsg_statement.specs.declared.statements.Statement.TheVariants as statement

abbrev pub taken : Statement → Contents → Contents
taken (statement.Group name) c = with_group name c
taken (statement.Member m) c = with_member m c
taken (statement.Define d) c = with_definition d c
taken (statement.Facility structure size) c = with_facility structure size c
taken (statement.Task m t) c = with_section (actor.Task m t) c
taken statement.Operator c = with_section actor.Operator c
taken (statement.Directive d) c = with_directive d c
taken statement.Schedule c = with_schedule c
taken (statement.Turn a count) c = with_turn a count c
taken statement.End c = with_end c

-- what each statement that was read keeps, so that it can be taken
abbrev pub Fits : Statement → Contents → Type 0
Fits (statement.Member m) c = length c.members < 8
Fits (statement.Define d) c = (refusal d c.objects ≡ None) × IsBlockRight d
Fits other c = Unit {0}
