use Rattle.std.proofs.Common.{◌≡◌, take}
use Rattle.qsg_repo.specs.Keeping.{least, held_pages}
use Rattle.qsg_repo.proofs.needs.least_held.Given as goal

abbrev pub invariant-loop-hold : goal.invariant-loop-hold
invariant-loop-hold l = l.least ≡ least l.first (held_pages l.member (take l.hold-index l.holds))
