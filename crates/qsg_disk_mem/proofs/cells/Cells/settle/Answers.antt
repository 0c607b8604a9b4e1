use Rattle.std.proofs.Common.{◌≡◌, ◌+◌, ◌-◌, ◌<◌, ◌≤◌, ℕ, List, length, get_or, map, replicate, ap, sym, ◌∙◌, subst, refl, arith, rules}
use Rattle.qsg_disk.specs.Byte.{Beside, part}
use Rattle.qsg_disk_mem.specs.Cells.{Cell, now_of, doubted, all_overwritten, settled, all_cut, cells_of}
use Rattle.qsg_disk_mem.proofs.Points.{settled_cells}
use Rattle.qsg_disk_mem.proofs.cells.Cells.settle.Goals as goal

pub returns : goal.returns
returns c =
    settled_cells c.self.inside.values.items c.self.inside.kept.items c.self.inside.doubt.items c.clear.new.bits.items c.clear.ensures.none ∙ ap (map settled) c.self.view_is
