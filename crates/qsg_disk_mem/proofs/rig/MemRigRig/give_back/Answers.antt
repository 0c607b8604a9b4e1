use Rattle.std.proofs.Common.{arith, Some, ap, length, sym}
use Rattle.qsg_disk_mem.proofs.PlaceOf.{given_back}
use Rattle.qsg_disk_mem.proofs.rig.MemRigRig.give_back.Goals as goal

pub returns-clause-given : goal.returns-clause-given
returns-clause-given c told m k = given_back c.args.self.now.given.items (Some c.args.device) c.args.member c.args.kind c.place_of-place.result c.place_of-place.ensures.value (omega (arith, c.args.self.now.places)) m k
