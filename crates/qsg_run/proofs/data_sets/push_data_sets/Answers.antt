use Rattle.std.proofs.Common.{arith}
use Rattle.qsg_shown.specs.Showing.{datasets_at}
use Rattle.qsg_run.proofs.Pushing.{joined_more}
use Rattle.qsg_run.proofs.data_sets.push_data_sets.Goals as goal

pub loop-member-preserved : goal.loop-member-preserved
loop-member-preserved g c =
    joined_more (datasets_at c.args.sysplex.now) c.args.members.now c.loop-member.member-index _ c.args.items.now.items c.loop-member.items.items c.push_member.new.items.items (omega arith) c.loop-member.invariant c.in_ok-push_member.ensures
