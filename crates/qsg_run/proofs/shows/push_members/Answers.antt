use Rattle.std.proofs.Common.{arith}
use Rattle.qsg_shown.specs.Showing.{member_at}
use Rattle.qsg_run.proofs.Pushing.{given_more}
use Rattle.qsg_run.proofs.shows.push_members.Goals as goal

pub loop-number-preserved : goal.loop-number-preserved
loop-number-preserved g c =
    given_more (member_at c.args.sysplex.now) c.args.numbers.now c.loop-number.number-index _ c.args.items.now.items c.loop-number.items.items c.push_member.new.items.items (omega arith) c.loop-number.invariant c.in_ok-push_member.ensures
