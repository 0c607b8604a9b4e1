-- devices that tell nothing
use Rattle.std.specs.Prelude.{◌≡◌, ℕ, List, Option, Some, None}
use Rattle.qsg_disk.specs.declared.kinds.Kind.{Kind}
use Rattle.qsg_disk.specs.declared.kinds.Kind.TheVariants.{Log, DataSet}
use Rattle.qsg_disk_mem.specs.declared.blind.BlindDisk.{BlindDisk}
use Rattle.qsg_disk_mem.specs.declared.blind.BlindRig.{BlindRig}

-- the page that a log's device reads as; a data set has none
abbrev pub page_in : BlindDisk → Option (List ℕ)
page_in disk = disk.page

-- the page of all log devices of a rig
abbrev pub rig_page : BlindRig → List ℕ
rig_page rig = rig.page

-- the page of a device of that kind
abbrev pub page_for : BlindRig → Kind → Option (List ℕ)
page_for rig Log = Some rig.page
page_for rig (DataSet s) = None
