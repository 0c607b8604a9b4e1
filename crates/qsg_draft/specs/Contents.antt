-- the plan of a script as far as it was read
use Rattle.std.specs.Prelude.{ℕ, ◌≤◌, List, [], length}
use Rattle.std.specs.List.{AllByRecursion}
use Rattle.qsg_num.specs.declared.seats.StructNo.{StructNo}
use Rattle.qsg_num.specs.declared.ids.Actor.{Actor}
use Rattle.qsg_objects.specs.declared.directives.Directive.{Directive}
use Rattle.qsg_objects.specs.declared.plans.MemberDef.{MemberDef}
use Rattle.qsg_objects.specs.declared.plans.Size.{Size}
use Rattle.qsg_objects.specs.declared.registry.Cfstruct.{Cfstruct}
use Rattle.qsg_objects.specs.Registry.{Registry, nothing_defined}
use Rattle.qsg_draft.specs.declared.stages.Stage.{Stage}
use Rattle.qsg_draft.specs.declared.stages.Stage.TheVariants as stage

pub record Contents : Type 0 where
  -- where the next statement stands
  pub stage : Stage
  pub group : List ℕ
  pub members : List MemberDef
  pub objects : Registry
  -- the structures that have a FACILITY, each with its size
  pub facilities : List (StructNo × Size)
  -- the sections, in order of their actors; the operator's is the last
  pub sections : List (Actor × List Directive)
  pub turns : List (Actor × ℕ)
  -- the bytes of all bodies that are put; one past the limit stands for all above it
  pub bodies : ℕ
  -- the steps of the schedule; one past the limit stands for all above it
  pub steps : ℕ

-- before anything was read
abbrev pub nothing_read : Contents
nothing_read = record {
  stage = stage.Start;
  group = [];
  members = [];
  objects = nothing_defined;
  facilities = [];
  sections = [];
  turns = [];
  bodies = 0;
  steps = 0;
}

-- The bytes of a block of a structure's data sets are 8 KiB to 1 MiB.
pub record HasBlocks (s : Cfstruct) : Type 0 where
  pub smallest : 8192 ≤ s.definition.dsblock
  pub largest : s.definition.dsblock ≤ 1048576

-- what holds of each draft
pub record IsInRange (c : Contents) : Type 0 where
  pub members : length c.members ≤ 8
  pub blocks : AllByRecursion HasBlocks c.objects.structures
  pub bodies : c.bodies ≤ 268435457
  pub steps : c.steps ≤ 10000001
