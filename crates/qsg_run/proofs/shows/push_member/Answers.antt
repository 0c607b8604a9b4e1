use Rattle.std.proofs.Common.{◌-◌, ◌∙◌, length, ap, arith}
use Rattle.qsg_num.specs.Seats.{member_number}
use Rattle.qsg_shown.specs.Showing.{member_shown}
use Rattle.qsg_run.proofs.Pushing.{nothing_given}
use Rattle.qsg_run.proofs.shows.push_member.Goals as goal

pub returns-in-None : goal.returns-in-None
returns-in-None g c =
    let beyond = c.in-None.ensures.lookup.3 in
    let index = c.index.ensures.value in
    let same = ap length (c.as_slice.ensures ∙ c.members.ensures) in
    nothing_given (member_shown c.args.sysplex.now c.args.number) c.args.items.now.items c.args.sysplex.now.members (member_number c.args.number - 1) (omega (arith, beyond, index, same))
