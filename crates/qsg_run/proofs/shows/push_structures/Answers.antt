use Rattle.std.proofs.Common.{map, arith}
use Rattle.qsg_shown.specs.Showing.{seen, structure_at}
use Rattle.qsg_run.proofs.Pushing.{given_more}
use Rattle.qsg_run.proofs.shows.push_structures.Goals as goal

pub loop-number-preserved : goal.loop-number-preserved
loop-number-preserved g c =
    given_more (structure_at c.args.sysplex.now) c.args.numbers.now c.loop-number.number-index _ (map seen c.args.items.now.items) (map seen c.loop-number.items.items) (map seen c.push_structure.new.items.items) (omega arith) c.loop-number.invariant c.in_ok-push_structure.ensures
