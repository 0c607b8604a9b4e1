use Rattle.std.proofs.Common.{◌≡◌, ◌+◌, ◌-◌, ◌<◌, ◌≤◌, ℕ, List, length, get_or, map, replicate, ap, sym, ◌∙◌, subst, refl, arith, rules, Some}
use Rattle.std.specs.Prelude.{slice_index, unwrap_or}
use Rattle.qsg_disk.specs.Byte.{Beside, part}
use Rattle.qsg_disk_mem.specs.Cells.{Cell, now_of, doubted, all_overwritten, settled, all_cut, cells_of, cell_at, before_at, after_cut}
use Rattle.qsg_disk_mem.proofs.Points.{count, doubted_beside, doubted_part, widened_marked}
use Rattle.qsg_disk_mem.proofs.cells.Cells.put_into_doubt.Goals as goal

pub put_all_into_doubt-requires-clause-within : goal.put_all_into_doubt-requires-clause-within
put_all_into_doubt-requires-clause-within c = omega (arith, ap length c.deref.ensures.value, count c.self.inside.values.items c.self.inside.kept.items c.self.inside.doubt.items c.args.self.now c.self.view_is)

pub overflow_add-at : goal.overflow_add-at
overflow_add-at c = omega (arith, count c.self.inside.values.items c.self.inside.kept.items c.self.inside.doubt.items c.args.self.now c.self.view_is)

pub invariant_of-self : goal.invariant_of-self
invariant_of-self c =
    let long = count c.self.inside.values.items c.self.inside.kept.items c.self.inside.doubt.items c.args.self.now c.self.view_is in
    record {
      kept_length = c.put_all_into_doubt.ensures.kept ∙ c.self.invariant.kept_length;
      doubt_length = omega arith;
      small = c.self.invariant.small;
      order = omega arith;
      within = omega arith;
      marked = widened_marked c.self.inside.kept.items c.self.inside.doubt.items c.put_all_into_doubt.new.kept.items c.put_all_into_doubt.new.doubt.items
          c.args.at c.args.count c.self.inside.low c.self.inside.high c.widened-low.result.0 c.widened-low.result.1 c.self.invariant.marked
          c.put_all_into_doubt.ensures.front c.put_all_into_doubt.ensures.back (omega arith) (omega arith) c.widened-low.ensures.old;
    }

pub returns-clause-beside : goal.returns-clause-beside
returns-clause-beside c =
    let v = c.self.inside.values.items in
    let long = count v c.self.inside.kept.items c.self.inside.doubt.items c.args.self.now c.self.view_is in
    subst (λ (l : List Cell). Beside c.args.at c.args.count l (cells_of v c.put_all_into_doubt.new.kept.items c.put_all_into_doubt.new.doubt.items)) c.self.view_is
    (doubted_beside v c.self.inside.kept.items c.self.inside.doubt.items c.put_all_into_doubt.new.kept.items c.put_all_into_doubt.new.doubt.items c.args.at c.args.count (omega arith)
    c.put_all_into_doubt.ensures.front c.put_all_into_doubt.ensures.back)

pub returns-clause-range : goal.returns-clause-range
returns-clause-range c =
    let v = c.self.inside.values.items in
    let long = count v c.self.inside.kept.items c.self.inside.doubt.items c.args.self.now c.self.view_is in
    doubted_part v c.self.inside.kept.items c.self.inside.doubt.items c.put_all_into_doubt.new.kept.items c.put_all_into_doubt.new.doubt.items c.args.at c.args.count (omega arith)
    (subst (λ (l : List ℕ). (k : ℕ) → c.args.at ≤ k → k < c.args.at + c.args.count → before_at c.put_all_into_doubt.new.kept.items c.put_all_into_doubt.new.doubt.items k ≡ Some (unwrap_or (before_at c.self.inside.kept.items c.self.inside.doubt.items k) (slice_index l k))) c.deref.ensures.value
    c.put_all_into_doubt.ensures.range)
    ∙ ap (λ (l : List Cell). map doubted (part c.args.at c.args.count l)) c.self.view_is
