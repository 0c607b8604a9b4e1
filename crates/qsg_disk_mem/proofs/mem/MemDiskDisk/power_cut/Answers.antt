use Rattle.std.proofs.Common.{◌≡◌, ◌+◌, ◌≤◌, ◌<◌, ℕ, List, length, get_or, map, ap, sym, ◌∙◌, subst, arith}
use Rattle.qsg_disk.specs.Byte.{Beside, part, values}
use Rattle.qsg_disk_mem.specs.Cells.{Cell, byte_of, now_of, doubted, all_overwritten, settled, all_cut}
use Rattle.qsg_disk_mem.proofs.Told.{cut_told, values_told}
use Rattle.qsg_disk.specs.Byte.{Byte, EachPair, IsCut}
use Rattle.qsg_disk_mem.proofs.mem.MemDiskDisk.power_cut.Goals as goal

pub returns-clause-cut : goal.returns-clause-cut
returns-clause-cut c told = subst (λ (l : List Cell). EachPair IsCut (map byte_of c.args.self.now.cells) (map byte_of l)) (sym c.cut.ensures.cut) (cut_told c.args.pick c.args.self.now.cells)

pub returns-clause-answer : goal.returns-clause-answer
returns-clause-answer c told = c.value.ensures ∙ ap (λ (l : List ℕ). get_or l c.args.at 0) (sym (values_told c.cut.new.self))
