use Rattle.std.proofs.Common.{◌≡◌, ◌+◌, ◌-◌, ◌<◌, ◌≤◌, ℕ, List, length, get_or, map, replicate, ap, sym, ◌∙◌, subst, refl, arith, rules}
use Rattle.qsg_disk.specs.Byte.{Beside, part}
use Rattle.qsg_disk_mem.specs.Cells.{Cell, now_of, doubted, all_overwritten, settled, all_cut, cells_of}
use Rattle.qsg_disk_mem.proofs.Points.{count, read_part}
use Rattle.qsg_disk_mem.proofs.cells.Cells.read.Goals as goal

pub get-requires : goal.get-requires
get-requires c = omega (arith, ap length c.deref.ensures.value, count c.self.inside.values.items c.self.inside.kept.items c.self.inside.doubt.items c.args.self.now c.self.view_is)

pub returns : goal.returns
returns c =
    let n = length c.args.into.now in
    c.get.ensures ∙ ap (part c.args.at n) c.deref.ensures.value
    ∙ read_part c.self.inside.values.items c.self.inside.kept.items c.self.inside.doubt.items c.args.self.now c.args.at n c.self.view_is
