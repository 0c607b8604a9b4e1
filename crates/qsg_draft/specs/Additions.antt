-- what statements add to a draft
use Rattle.std.specs.Prelude.{ℕ, ◌+◌, ◌≤◌, nat_lt, min, if◌then◌else◌, List, [], ◌∷◌, ◌++◌, length}
use Rattle.qsg_num.specs.declared.seats.StructNo.{StructNo}
use Rattle.qsg_num.specs.declared.ids.Actor.{Actor}
use Rattle.qsg_objects.specs.declared.definitions.Definition.{Definition}
use Rattle.qsg_objects.specs.declared.definitions.Definition.TheVariants as definition
use Rattle.qsg_objects.specs.declared.directives.Directive.{Directive}
use Rattle.qsg_objects.specs.declared.directives.Directive.TheVariants as directive
use Rattle.qsg_objects.specs.declared.directives.BodyWord.{BodyWord}
use Rattle.qsg_objects.specs.declared.directives.BodyWord.TheVariants.{Given, Size as sized}
use Rattle.qsg_objects.specs.declared.plans.MemberDef.{MemberDef}
use Rattle.qsg_objects.specs.declared.plans.Size.{Size}
use Rattle.qsg_objects.specs.Registry.{defined}
use Rattle.qsg_draft.specs.declared.stages.Stage.{Stage}
use Rattle.qsg_draft.specs.declared.stages.Stage.TheVariants as stage
use Rattle.qsg_draft.specs.Contents.{Contents}
use Rattle.qsg_draft.specs.Lookups.{rank_of, is_section}

-- GROUP
abbrev pub with_group : List ℕ → Contents → Contents
with_group name c = record c { stage = stage.Definitions; group = name }

-- MEMBER
abbrev pub with_member : MemberDef → Contents → Contents
with_member m c = record c { members = c.members ++ m ∷ [] }

-- DEFINE
abbrev pub with_definition : Definition → Contents → Contents
with_definition d c = record c { objects = defined d c.objects }

-- what a definition has to keep: the bytes of a block are 8 KiB to 1 MiB
abbrev pub IsBlockRight : Definition → Type 0
IsBlockRight (definition.Cfstruct d) = (8192 ≤ d.dsblock) × (d.dsblock ≤ 1048576)
IsBlockRight (definition.Qlocal d) = Unit {0}

-- FACILITY
abbrev pub with_facility : StructNo → Size → Contents → Contents
with_facility s size c = record c { facilities = c.facilities ++ (s, size) ∷ [] }

-- an empty section, at its place in the order of actors
abbrev pub inserted : Actor → List (Actor × List Directive) → List (Actor × List Directive)
inserted a [] = (a, []) ∷ []
inserted a (s ∷ ss) = if nat_lt (rank_of a) (rank_of s.0) then (a, []) ∷ s ∷ ss else s ∷ inserted a ss

-- TASK and OPERATOR
abbrev pub with_section : Actor → Contents → Contents
with_section a c = record c { stage = stage.Section a; sections = inserted a c.sections }

-- one directive more at the end of an actor's section
abbrev pub extended : Actor → Directive → List (Actor × List Directive) → List (Actor × List Directive)
extended a d [] = []
extended a d (s ∷ ss) = if is_section a s then (s.0, s.1 ++ d ∷ []) ∷ ss else s ∷ extended a d ss

-- the bytes of a body
abbrev pub body_length : BodyWord → ℕ
body_length (Given bytes) = length bytes
body_length (sized n) = n

-- the bytes that a directive puts
abbrev pub put_bytes : Directive → ℕ
put_bytes (directive.Put queue body priority persistent msg_id correl_id) = body_length body
put_bytes other = 0

-- a sum that stops one past its limit
abbrev pub capped : ℕ → ℕ → ℕ
capped limit n = min n (limit + 1)

-- a directive, in the section at hand
abbrev pub with_directive_in : Stage → Directive → Contents → Contents
with_directive_in (stage.Section a) d c = record c { sections = extended a d c.sections; bodies = capped 268435456 (c.bodies + put_bytes d) }
with_directive_in other d c = c

abbrev pub with_directive : Directive → Contents → Contents
with_directive d c = with_directive_in c.stage d c

-- SCHEDULE
abbrev pub with_schedule : Contents → Contents
with_schedule c = record c { stage = stage.Schedule }

-- a line of the schedule
abbrev pub with_turn : Actor → ℕ → Contents → Contents
with_turn a count c = record c { turns = c.turns ++ (a, count) ∷ []; steps = capped 10000000 (c.steps + count) }

-- END
abbrev pub with_end : Contents → Contents
with_end c = record c { stage = stage.Ended }
