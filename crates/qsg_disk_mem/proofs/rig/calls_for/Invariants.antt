use Rattle.std.proofs.Common.{◌≡◌, take}
use Rattle.qsg_disk_mem.specs.FailingCalls.{calls_for}
use Rattle.qsg_disk_mem.proofs.rig.calls_for.Given as goal

abbrev pub invariant-loop-entry : goal.invariant-loop-entry
invariant-loop-entry l = l.calls.items ≡ calls_for l.member l.kind (take l.entry-index l.failing)
