use Rattle.std.proofs.Common.{◌≡◌}
use Rattle.qsg_num.specs.declared.seats.Member.TheVariants as members
use Rattle.qsg_num.specs.declared.seats.StructNo.TheVariants as structures
use Rattle.qsg_parts.specs.Owned.{owned}
use Rattle.qsg_rebuild.specs.Needs.{MayStep}
use Rattle.qsg_rebuild.proofs.tests.ending.Given as goal

abbrev pub invariant-loop-step : goal.invariant-loop-step
invariant-loop-step l = record {
  member : l.work.member ≡ members.One;
  structure : l.work.structure ≡ structures.One;
  may : MayStep l.work (owned l.parts);
}
