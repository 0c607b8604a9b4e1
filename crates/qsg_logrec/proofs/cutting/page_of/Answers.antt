use Rattle.std.proofs.Common.{rules, ◌≡◌, ◌++◌, ◌∷◌, ◌≤◌, length, refl, ◌∙◌}
use Rattle.std.specs.Int.{w16, to_be_bytes}
use Rattle.qsg_logrec.proofs.Cuts.{resized}
use Rattle.qsg_logrec.proofs.cutting.page_of.Goals as goal

pub returns : goal.returns
returns c =
    let area = c.args.area.now in
    let before : c.extend_from_slice-3.new.self.items ≡ 2 ∷ (to_be_bytes w16 (length area) ++ (0 ∷ 0 ∷ 0 ∷ 0 ∷ area)) = search rules in
    let fits : length area ≤ 4088 = search rules in
    c.from_vec.ensures ∙ resized c.extend_from_slice-3.new.self.items c.resize.new.self.items area (length c.extend_from_slice-3.new.self.items) before fits refl (search rules)
