use Rattle.std.proofs.Common.{◌≡◌, ◌+◌, ◌≤◌, ◌<◌, ℕ, List, length, get_or, map, ap, sym, ◌∙◌, subst, arith}
use Rattle.qsg_disk.specs.Byte.{Beside, part, values}
use Rattle.qsg_disk_mem.specs.Cells.{Cell, byte_of, now_of, doubted, all_overwritten, settled, all_cut}
use Rattle.qsg_disk.specs.Byte.{AreUnsafe}
use Rattle.qsg_disk_mem.proofs.Points.{length-part}
use Rattle.qsg_disk_mem.proofs.Told.{beside_told, torn_doubted, torn_over, written_told}
use Rattle.qsg_disk_mem.proofs.mem.MemDiskDisk.write.Goals as goal

pub returns-then-fails-clause-beside : goal.returns-then-fails-clause-beside
returns-then-fails-clause-beside c told =
    let n = length c.args.from.now in
    subst (λ (l : List Cell). Beside c.args.at n (map byte_of l) (map byte_of c.put_into_doubt.new.self)) c.fails.ensures.cells
    (beside_told c.args.at n c.fails.new.self.cells c.put_into_doubt.new.self c.put_into_doubt.ensures.beside)

pub returns-then-fails-clause-torn : goal.returns-then-fails-clause-torn
returns-then-fails-clause-torn c told = torn_doubted c.args.at (length c.args.from.now) c.fails.new.self.cells c.put_into_doubt.new.self c.put_into_doubt.ensures.range

pub returns-clause-beside : goal.returns-clause-beside
returns-clause-beside c told =
    let n = length c.args.from.now in
    subst (λ (l : List Cell). Beside c.args.at n (map byte_of l) (map byte_of c.write.new.self)) c.fails.ensures.cells
    (beside_told c.args.at n c.fails.new.self.cells c.write.new.self c.write.ensures.beside)

pub returns-clause-torn : goal.returns-clause-torn
returns-clause-torn c told = torn_over c.args.at (length c.args.from.now) c.args.from.now c.fails.new.self.cells c.write.new.self c.write.ensures.range

pub returns-clause-written : goal.returns-clause-written
returns-clause-written c told =
    let n = length c.args.from.now in
    let long = length-part c.args.at n c.fails.new.self.cells (omega (arith, ap (λ (l : List Cell). length l) c.fails.ensures.cells, c.requires)) in
    written_told c.args.at n c.args.from.now c.fails.new.self.cells c.write.new.self long c.write.ensures.range
