use Rattle.std.proofs.Common.{◌≡◌, ◌∙◌, ap, ℕ}
use Rattle.std.specs.Prelude.{◌==◌}
use Rattle.qsg_disk_mem.specs.Places.{place_of}
use Rattle.qsg_disk_mem.proofs.PlaceOf.{same_place}
use Rattle.qsg_disk_mem.proofs.rig.same_place.Goals as goal

pub returns : goal.returns
returns c = (λ i. c.place_of.ensures.value i == c.place_of-2.ensures.value i) ∙ same_place c.args.member c.args.kind c.args.m c.args.k
