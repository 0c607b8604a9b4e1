use Rattle.std.proofs.Common.{◌≡◌, replicate, None}
use Rattle.qsg_disk_mem.proofs.rig.no_devices.Given as goal

abbrev pub invariant-loop-turn : goal.invariant-loop-turn
invariant-loop-turn l = l.given.items ≡ replicate l._turn None
