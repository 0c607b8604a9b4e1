use Rattle.std.proofs.Common.{◌∙◌, sym, ap, ℕ, subst, Option}
use Rattle.std.proofs.lemmas.List.{length-set}
use Rattle.qsg_datasets.specs.declared.member_data_set.KeptMap.{KeptMap}
use Rattle.qsg_datasets.specs.Kept.{taken_in, used_by}
use Rattle.qsg_datasets.proofs.Maps.{HasSize, size_taken}
use Rattle.qsg_datasets.proofs.member_data_set.MemberDataSet.take.Goals as goal

pub invariant_of-self-2 : goal.invariant_of-self-2
invariant_of-self-2 g c =
    let marked = c.in_ok-blocks.ensures.marked ∙ ap (λ (n : ℕ). taken_in c.args.epoch c.args.n (used_by c.args.epoch n c.self.inside.map)) c.blocks-2.ensures in (
      length-set _ _ _ ∙ c.self.invariant.0,
      subst (λ (m : Option KeptMap). HasSize c.self.inside.data.blocks m) (sym marked) (size_taken c.args.epoch c.self.inside.data.blocks c.args.n c.self.inside.map c.self.invariant.1),
    )
