use Rattle.std.proofs.Common.{◌≡◌, ◌+◌, ◌-◌, ◌<◌, ◌≤◌, ℕ, List, length, get_or, map, replicate, ap, sym, ◌∙◌, subst, refl, arith, rules}
use Rattle.qsg_disk.specs.Byte.{Beside, part}
use Rattle.qsg_disk_mem.specs.Cells.{Cell, now_of, doubted, all_overwritten, settled, all_cut, cells_of}
use Rattle.qsg_disk_mem.proofs.Points.{count}
use Rattle.qsg_disk_mem.proofs.cells.Cells.len.Goals as goal

pub returns : goal.returns
returns c = omega (arith, count c.self.inside.values.items c.self.inside.kept.items c.self.inside.doubt.items c.args.self.now c.self.view_is)
