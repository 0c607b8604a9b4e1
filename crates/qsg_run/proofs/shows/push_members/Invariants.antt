use Rattle.std.proofs.Common.{◌≡◌, ◌++◌, take}
use Rattle.std.specs.List.{filter_map}
use Rattle.qsg_shown.specs.Showing.{member_at}
use Rattle.qsg_run.proofs.shows.push_members.Given as goal

abbrev pub invariant-loop-number : goal.invariant-loop-number
invariant-loop-number g l = l.items.items ≡ l.fn.items.items ++ filter_map (member_at l.sysplex) (take l.number-index l.numbers)
