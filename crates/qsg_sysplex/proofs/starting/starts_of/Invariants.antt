use Rattle.std.proofs.Common.{◌≡◌, take}
use Rattle.std.specs.Prelude.{sum_by}
use Rattle.qsg_sysplex.specs.Starting.{starts_in}
use Rattle.qsg_sysplex.proofs.starting.starts_of.Given as goal

abbrev pub invariant-loop-work : goal.invariant-loop-work
invariant-loop-work l = l.starts ≡ sum_by starts_in (take l.work-index l.works)
