use Rattle.std.proofs.Common.{◌≡◌, ◌+◌, ◌-◌, ◌<◌, ◌≤◌, ℕ, List, length, get_or, map, replicate, ap, sym, ◌∙◌, subst, refl, arith, rules}
use Rattle.qsg_disk.specs.Byte.{Beside, part}
use Rattle.qsg_disk_mem.specs.Cells.{Cell, now_of, doubted, all_overwritten, settled, all_cut, cells_of}
use Rattle.std.proofs.lemmas.List.{get_or_default}
use Rattle.qsg_disk_mem.proofs.Points.{count, now_cells}
use Rattle.qsg_disk_mem.proofs.cells.Cells.value.Goals as goal

pub index-requires : goal.index-requires
index-requires c = omega (arith, count c.self.inside.values.items c.self.inside.kept.items c.self.inside.doubt.items c.args.self.now c.self.view_is)

pub returns : goal.returns
returns c =
    let v = c.self.inside.values.items in
    let long = count v c.self.inside.kept.items c.self.inside.doubt.items c.args.self.now c.self.view_is in
    c.index.ensures ∙ get_or_default v c.args.at c.index.result.now 0 (omega arith)
    ∙ ap (λ (l : List ℕ). get_or l c.args.at 0) (sym (now_cells v c.self.inside.kept.items c.self.inside.doubt.items) ∙ ap (map now_of) c.self.view_is)
