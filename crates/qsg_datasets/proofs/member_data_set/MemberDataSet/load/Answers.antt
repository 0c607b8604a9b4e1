use Rattle.std.proofs.Common.{rules, ◌≡◌, ◌∙◌, ap, refl, replicate, false, ℕ}
use Rattle.qsg_datasets.specs.Kept.{KeptSet}
use Rattle.qsg_datasets.proofs.Maps.{size_loaded}
use Rattle.qsg_datasets.proofs.member_data_set.MemberDataSet.load.Goals as goal

pub returns-clause-loaded : goal.returns-clause-loaded
returns-clause-loaded g c =
    let blank : c.in_ok-free.free ≡ replicate c.self.inside.data.blocks false = c.in_ok-free.ensures ∙ ap (λ (n : ℕ). replicate n false) c.blocks-2.ensures in
    let size = size_loaded c.self.inside.data.blocks c.in_ok-map.field-0.map c.in_ok-free.free blank c.in_ok-map.ensures.size in record {
      used = c.unwrap_or-used.result;
      map = refl;
      size = rw c.unwrap_or-used.ensures size ∙ ap (λ (s : KeptSet). s.contents.blocks) c.self.view_is;
      hands = search rules;
      contents = search rules;
      bytes = search rules;
      gate = search rules;
      saved = search rules;
      blank = search rules;
      none = search rules;
    }
