use Rattle.std.proofs.Common.{◌≡◌, ◌+◌, ◌-◌, ◌<◌, ◌≤◌, ℕ, List, length, get_or, map, replicate, ap, sym, ◌∙◌, subst, refl, arith, rules}
use Rattle.qsg_disk.specs.Byte.{Beside, part}
use Rattle.qsg_disk_mem.specs.Cells.{Cell, now_of, doubted, all_overwritten, settled, all_cut, cells_of}
use Rattle.std.specs.Prelude.{◌/◌}
use Rattle.std.proofs.lemmas.List.{length-replicate}
use Rattle.qsg_disk_mem.proofs.Points.{zero_cells, no_marks}
use Rattle.qsg_disk_mem.specs.Bits.{is_marked}
use Rattle.qsg_disk_mem.proofs.cells.Cells.of_zeros.Goals as goal
use Rattle.std.specs.Prelude.{true, false}

pub returns : goal.returns
returns c =
    let n = length c.args.values.items in
    ap (λ (l : List ℕ). cells_of l c.args.kept.items c.args.doubt.items) c.requires.values
    ∙ ap (λ (l : List ℕ). cells_of (replicate n 0) c.args.kept.items l) c.requires.doubt
    ∙ zero_cells n (n / 8 + 1) c.args.kept.items

pub invariant_of-result : goal.invariant_of-result
invariant_of-result c =
    let n = length c.args.values.items in
    record {
      kept_length = ap length c.requires.kept;
      doubt_length = omega (arith, ap length c.requires.doubt, length-replicate {A = ℕ} (n / 8 + 1) 0);
      small = c.requires.small;
      order = omega arith;
      within = omega arith;
      marked = λ k is. let none : is_marked c.args.doubt.items k ≡ false = ap (λ (l : List ℕ). is_marked l k) c.requires.doubt ∙ no_marks (n / 8 + 1) k in absurd (cc);
    }
