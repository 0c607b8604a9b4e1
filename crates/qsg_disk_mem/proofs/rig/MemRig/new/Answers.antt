use Rattle.std.proofs.Common.{◌∙◌, ap, get_or, None, List, Option}
use Rattle.qsg_disk_mem.specs.declared.mem.MemDisk.{MemDisk}
use Rattle.qsg_disk_mem.specs.Places.{place_of}
use Rattle.qsg_disk_mem.proofs.PlaceOf.{none_at}
use Rattle.qsg_disk_mem.proofs.rig.MemRig.new.Goals as goal

pub returns-clause-given : goal.returns-clause-given
returns-clause-given c m k = ap (λ (l : List (Option MemDisk)). get_or l (place_of m k) None) c.in_ok-given.ensures ∙ none_at 40 (place_of m k)
