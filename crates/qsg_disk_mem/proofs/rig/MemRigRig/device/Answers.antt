use Rattle.std.proofs.Common.{◌∙◌, ap, map}
use Rattle.qsg_disk_mem.specs.Cells.{byte_of}
use Rattle.qsg_disk_mem.proofs.Told.{zeros_told}
use Rattle.qsg_disk_mem.proofs.rig.MemRigRig.device.Goals as goal

pub returns-clause-zeros : goal.returns-clause-zeros
returns-clause-zeros c told = ap (map byte_of) c.in_ok-new.ensures.0 ∙ zeros_told c.args.size
