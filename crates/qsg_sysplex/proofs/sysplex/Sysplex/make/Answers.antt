use Rattle.std.proofs.Common.{length, ap, rules, arith}
use Rattle.std.proofs.lemmas.Result.{err_from_is_err_and}
use Rattle.qsg_devices.specs.declared.making.MakeFault.TheVariants as fault
use Rattle.qsg_sysplex.proofs.Handing.{carried}
use Rattle.qsg_sysplex.proofs.Making.{made_new, incarnations_fit}
use Rattle.qsg_sysplex.proofs.NewSets.{shapes_long}
use Rattle.qsg_sysplex.proofs.sysplex.Sysplex.make.Goals as goal

pub incarnations_of-incarnations-requires : goal.incarnations_of-incarnations-requires
incarnations_of-incarnations-requires g c = rw (c.len-2.ensures, c.as_slice-2.ensures) (incarnations_fit c.args.plan c.requires.plan)

pub invariant_of-result : goal.invariant_of-result
invariant_of-result g c = c.a_new_group_is_kept.ensures _ (made_new c.args.plan _ c.requires.plan c.new_repo.ensures.structures (record {
  structures = search rules;
  managers = search rules;
  logs = search rules;
  datasets = search rules;
  repo = search rules;
  objects = search rules;
  history = search rules;
  courses = search rules;
  works = search rules;
  due = search rules;
  peers = search rules;
  starting = search rules;
  tallies = search rules;
  group = search rules;
  members = search rules;
  sizes = search rules;
}) c.logs_are_kept.ensures c.structures_are_kept.ensures)

pub returns-in_err-devices-clause-place : goal.returns-in_err-devices-clause-place
returns-in_err-devices-clause-place g c = λ m k is.
    let p = err_from_is_err_and c.from_residual-in_err-devices.result c.from_residual-in_err-devices.ensures.1 in
    let at = c.in_err-devices.ensures.place m k (carried c.from_residual-in_err-devices.result p.0 c.in_err-devices.field-0.0 (fault.Rig m k) p.1 p.2 is) in
    let many = shapes_long c.args.plan c.as_slice-3.result.now c.in_ok-shapes.shapes.items c.as_slice-5.result.now c.requires.plan c.as_slice-3.ensures c.in_ok-shapes.ensures c.as_slice-5.ensures.value in
    let each = ap length c.as_slice-4.ensures in
    record { member = omega (arith, at.member, each); kind = omega (arith, at.kind, many) }

pub returns-in_err-devices-clause-back : goal.returns-in_err-devices-clause-back
returns-in_err-devices-clause-back g c = λ tells m k is n l within earlier.
    let p = err_from_is_err_and c.from_residual-in_err-devices.result c.from_residual-in_err-devices.ensures.1 in
    let many = shapes_long c.args.plan c.as_slice-3.result.now c.in_ok-shapes.shapes.items c.as_slice-5.result.now c.requires.plan c.as_slice-3.ensures c.in_ok-shapes.ensures c.as_slice-5.ensures.value in
    c.in_err-devices.ensures.back tells m k (carried c.from_residual-in_err-devices.result p.0 c.in_err-devices.field-0.0 (fault.Rig m k) p.1 p.2 is) n l (omega (arith, within, many)) earlier
