-- what a draft has
use Rattle.std.specs.Prelude.{ℕ, ◌+◌, ◌*◌, Bool, nat_eq, ◌==◌, List, Option}
use Rattle.std.specs.List.{list_any, position}
use Rattle.std.specs.Option.{option_and_then}
use Rattle.std.specs.Cmp.Lexicographic.{pointwise}
use Rattle.qsg_num.specs.declared.seats.Member.{Member}
use Rattle.qsg_num.specs.declared.seats.StructNo.{StructNo}
use Rattle.qsg_num.specs.declared.ids.Actor.{Actor}
use Rattle.qsg_num.specs.declared.ids.Actor.TheVariants.{Task, Operator}
use Rattle.qsg_num.specs.Seats.{member_number, member_at, structure_number, task_number}
use Rattle.qsg_objects.specs.declared.directives.Directive.{Directive}
use Rattle.qsg_objects.specs.declared.plans.MemberDef.{MemberDef}
use Rattle.qsg_objects.specs.declared.plans.Size.{Size}
use Rattle.qsg_draft.specs.Contents.{Contents}

abbrev pub is_member : List ℕ → MemberDef → Bool
is_member name m = pointwise nat_eq m.name name

-- the member of a name: members are numbered from 1 in the order in which they stand
abbrev pub member_named : List ℕ → Contents → Option Member
member_named name c = option_and_then (λ at. member_at (at + 1)) (position (is_member name) c.members)

abbrev pub is_facility : StructNo → StructNo × Size → Bool
is_facility s f = structure_number f.0 == structure_number s

abbrev pub has_facility : StructNo → Contents → Bool
has_facility s c = list_any (is_facility s) c.facilities

-- Actors go by their members, then by their tasks; the operator is the last.
abbrev pub rank_of : Actor → ℕ
rank_of (Task m t) = member_number m * 5 + task_number t
rank_of Operator = 45

abbrev pub is_section : Actor → Actor × List Directive → Bool
is_section a s = rank_of s.0 == rank_of a

abbrev pub has_section : Actor → Contents → Bool
has_section a c = list_any (is_section a) c.sections
