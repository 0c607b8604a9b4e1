use Rattle.std.proofs.Common.{◌≡◌, ◌+◌, ◌-◌, ◌<◌, ◌≤◌, ℕ, List, length, get_or, map, replicate, ap, sym, ◌∙◌, subst, refl, arith, rules, Some}
use Rattle.std.specs.Prelude.{slice_index, unwrap_or}
use Rattle.qsg_disk.specs.Byte.{Beside, part}
use Rattle.qsg_disk_mem.specs.Cells.{Cell, now_of, doubted, all_overwritten, settled, all_cut, cells_of, cell_at, before_at, after_cut}
use Rattle.qsg_disk_mem.proofs.Points.{cut_cells, length-cut}
use Rattle.qsg_disk_mem.proofs.cells.Cells.cut.Goals as goal

pub returns-clause-cut : goal.returns-clause-cut
returns-clause-cut c =
    let v = c.self.inside.values.items in
    let kept = c.self.inside.kept.items in
    let doubt = c.self.inside.doubt.items in
    let is = cut_cells c.args.pick v c.choose_all.new.values.items kept doubt c.choose_all.ensures.length
    (subst (λ (l : List ℕ). (k : ℕ) → k < length v → slice_index c.choose_all.new.values.items k ≡ (after_cut c.args.pick k (cell_at v l doubt k)).now) c.deref.ensures.value
    (subst (λ (l : List ℕ). (k : ℕ) → k < length v → slice_index c.choose_all.new.values.items k ≡ (after_cut c.args.pick k (cell_at v c.deref.result.now l k)).now) c.deref-2.ensures.value c.choose_all.ensures.chosen)) in
    c.settle.ensures ∙ is ∙ ap (all_cut c.args.pick 0) c.self.view_is

pub returns-clause-length : goal.returns-clause-length
returns-clause-length c = ap length (returns-clause-cut c) ∙ length-cut c.args.pick 0 c.args.self.now
