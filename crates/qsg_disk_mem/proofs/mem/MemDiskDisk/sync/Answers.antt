use Rattle.std.proofs.Common.{◌≡◌, ◌+◌, ◌≤◌, ◌<◌, ℕ, List, length, get_or, map, ap, sym, ◌∙◌, subst, arith}
use Rattle.qsg_disk.specs.Byte.{Beside, part, values}
use Rattle.qsg_disk_mem.specs.Cells.{Cell, byte_of, now_of, doubted, all_overwritten, settled, all_cut}
use Rattle.qsg_disk.specs.Byte.{synced}
use Rattle.qsg_disk_mem.proofs.Told.{synced_told, kept_synced, kept_same}
use Rattle.qsg_disk_mem.proofs.mem.MemDiskDisk.sync.Goals as goal

pub returns-clause-synced : goal.returns-clause-synced
returns-clause-synced c told =
    ap (map byte_of) c.settle.ensures ∙ synced_told c.fails.new.self.cells ∙ ap (λ (l : List Cell). map synced (map byte_of l)) c.fails.ensures.cells

pub returns-clause-kept : goal.returns-clause-kept
returns-clause-kept c told = kept_synced _ _ (returns-clause-synced c told)
