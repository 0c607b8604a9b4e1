use Rattle.std.proofs.Common.{◌≡◌, ◌+◌, ◌-◌, ◌<◌, ◌≤◌, ℕ, List, length, get_or, map, replicate, ap, sym, ◌∙◌, subst, refl, arith, rules}
use Rattle.qsg_disk.specs.Byte.{Beside, part}
use Rattle.qsg_disk_mem.specs.Cells.{Cell, now_of, doubted, all_overwritten, settled, all_cut, cells_of}
use Rattle.qsg_disk_mem.proofs.Points.{count, overwritten_beside, overwritten_part}
use Rattle.qsg_disk_mem.proofs.cells.Cells.write.Goals as goal

pub put-requires : goal.put-requires
put-requires c = omega (arith, c.put_into_doubt.ensures.beside.same_length, count c.self.inside.values.items c.self.inside.kept.items c.self.inside.doubt.items c.put_into_doubt.new.self c.self.view_is)

pub returns-clause-beside : goal.returns-clause-beside
returns-clause-beside c =
    let v = c.self.inside.values.items in
    let n = length c.args.from.now in
    let long = count v c.self.inside.kept.items c.self.inside.doubt.items c.put_into_doubt.new.self c.self.view_is in
    overwritten_beside v c.put.new.values.items c.self.inside.kept.items c.self.inside.doubt.items c.args.at c.args.from.now c.args.self.now (omega (arith, c.put_into_doubt.ensures.beside.same_length)) c.put.ensures.length
    (subst (λ (l : List Cell). Beside c.args.at n c.args.self.now l) (sym c.self.view_is) c.put_into_doubt.ensures.beside)
    (ap (part c.args.at n) c.self.view_is ∙ c.put_into_doubt.ensures.range)
    c.put.ensures.front c.put.ensures.back

pub returns-clause-range : goal.returns-clause-range
returns-clause-range c =
    let v = c.self.inside.values.items in
    let n = length c.args.from.now in
    let long = count v c.self.inside.kept.items c.self.inside.doubt.items c.put_into_doubt.new.self c.self.view_is in
    overwritten_part v c.put.new.values.items c.self.inside.kept.items c.self.inside.doubt.items c.args.at c.args.from.now c.args.self.now (omega (arith, c.put_into_doubt.ensures.beside.same_length)) c.put.ensures.length
    (subst (λ (l : List Cell). Beside c.args.at n c.args.self.now l) (sym c.self.view_is) c.put_into_doubt.ensures.beside)
    (ap (part c.args.at n) c.self.view_is ∙ c.put_into_doubt.ensures.range)
    c.put.ensures.range
