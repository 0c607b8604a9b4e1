use Rattle.std.proofs.Common.{◌≡◌, ◌++◌, take}
use Rattle.std.specs.List.{flat_map}
use Rattle.qsg_shown.specs.Showing.{datasets_at}
use Rattle.qsg_run.proofs.data_sets.push_data_sets.Given as goal

abbrev pub invariant-loop-member : goal.invariant-loop-member
invariant-loop-member g l = l.items.items ≡ l.fn.items.items ++ flat_map (datasets_at l.sysplex) (take l.member-index l.members)
