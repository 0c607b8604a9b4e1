use Rattle.qsg_lists.proofs.Appending.{sound_push}
use Rattle.qsg_lists.proofs.facility.Structure.append.Goals as goal

pub invariant_of-self : goal.invariant_of-self
invariant_of-self c =
    let next = rw (← c.self.view_is) at c.requires.next in
    let room = rw (← c.self.view_is) at c.requires.room in
    let same = rw (← c.self.view_is) at c.next_id-id.ensures in
    rw c.in-Ok.ensures.items (sound_push _ _ c.self.invariant next same room)
