use Rattle.std.proofs.Common.{◌∙◌, length, ap, arith}
use Rattle.qsg_run.proofs.Pushing.{no_row}
use Rattle.qsg_run.proofs.data_sets.push_member.Goals as goal

pub returns-in-None : goal.returns-in-None
returns-in-None g c =
    let beyond = c.in-None.ensures.lookup.3 in
    let index = c.index.ensures.value in
    let same = ap length (c.as_slice.ensures ∙ c.members.ensures) in
    no_row c.args.items.now.items c.args.sysplex.now c.args.member (omega (arith, beyond, index, same))
