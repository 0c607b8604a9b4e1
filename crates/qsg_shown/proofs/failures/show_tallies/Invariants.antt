use Rattle.std.proofs.Common.{◌≡◌, map, take}
use Rattle.qsg_shown.specs.Showing.{failure_shown}
use Rattle.qsg_shown.proofs.failures.show_tallies.Given as goal

abbrev pub invariant-loop-tally : goal.invariant-loop-tally
invariant-loop-tally l = l.shown.items ≡ map (failure_shown l.repo) (take l.tally-index l.tallies)
