use Rattle.std.proofs.Common.{◌≡◌, ◌+◌, ◌≤◌, ◌<◌, ℕ, List, length, get_or, map, ap, sym, ◌∙◌, subst, arith}
use Rattle.qsg_disk.specs.Byte.{Beside, part, values}
use Rattle.qsg_disk_mem.specs.Cells.{Cell, byte_of, now_of, doubted, all_overwritten, settled, all_cut}
use Rattle.qsg_disk_mem.proofs.Told.{read_told}
use Rattle.qsg_disk_mem.proofs.mem.MemDiskDisk.read.Goals as goal

pub returns-clause-read : goal.returns-clause-read
returns-clause-read c told =
    let n = length c.args.into.now in
    c.read.ensures ∙ read_told c.args.at n c.fails.new.self.cells ∙ ap (λ (l : List Cell). values (part c.args.at n (map byte_of l))) c.fails.ensures.cells
