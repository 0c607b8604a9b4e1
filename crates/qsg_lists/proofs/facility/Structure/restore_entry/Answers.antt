use Rattle.std.proofs.Common.{◌≤◌, ◌-◌, arith}
use Rattle.qsg_lists.specs.Entries.{cost_of, used_of}
use Rattle.qsg_lists.proofs.Appending.{sound_restore}
use Rattle.qsg_lists.proofs.facility.Structure.restore_entry.Goals as goal
use Rattle.qsg_lists.proofs.facility.Structure.restore_entry.Goals.{in-Ok, in-Err}

pub invariant_of-self : goal.invariant_of-self
invariant_of-self c =
    let above = rw (← c.self.view_is) at c.requires.above in
    let top = rw (← c.self.view_is) at c.requires.topped in
    let free = rw (← c.self.view_is) at c.free-free.ensures in
    let room : cost_of c.args.entry.place ≤ c.self.inside.capacity - used_of c.self.inside.entries.items = omega (arith, free) in
    elim c.match-push.branch [
      | in-Ok w ↦ rw w.in-Ok.ensures.items (sound_restore _ _ c.self.invariant above top room)
      | in-Err w ↦ rw w.in-Err.ensures.items c.self.invariant
    ]
