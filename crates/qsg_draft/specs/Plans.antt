-- the plan that a draft is
use Rattle.std.specs.Prelude.{if◌then◌else◌, List, [], ◌∷◌, ◌++◌, map}
use Rattle.std.specs.List.{list_any}
use Rattle.qsg_num.specs.declared.ids.Actor.{Actor}
use Rattle.qsg_num.specs.declared.ids.Actor.TheVariants.{Operator}
use Rattle.qsg_objects.specs.declared.directives.Directive.{Directive}
use Rattle.qsg_objects.specs.declared.plans.Size.{Size}
use Rattle.qsg_objects.specs.declared.plans.Plan.{Plan}
use Rattle.qsg_draft.specs.Contents.{Contents}
use Rattle.qsg_draft.specs.Lookups.{is_section}
use Rattle.qsg_draft.specs.Sizes.{size_of}

-- the sizes of the structures, in order of their numbers
abbrev pub sizes_of : Contents → List Size
sizes_of c = map (size_of c.facilities) c.objects.structures

-- the sections, with one of the operator in any case
abbrev pub works_of : List (Actor × List Directive) → List (Actor × List Directive)
works_of sections = if list_any (is_section Operator) sections then sections else sections ++ (Operator, []) ∷ []

abbrev pub plan_of : Contents → Plan
plan_of c = record {
  group = c.group;
  members = c.members;
  sizes = sizes_of c;
  objects = c.objects;
  works = works_of c.sections;
  schedule = c.turns;
}
