use Rattle.std.proofs.Common.{◌∙◌, ap, arith}
use Rattle.qsg_objects.specs.Registry.{structure_called, is_structure}
use Rattle.qsg_objects.proofs.Lookups.{looked_up}
use Rattle.qsg_objects.proofs.Kept.{found-lent, numbered-below}
use Rattle.qsg_objects.proofs.registry.Objects.structure_called.Goals as goal

pub returns : goal.returns
returns c =
    let found = c.get.ensures.value ∙ looked_up (λ s. s.definition.name) c.args.name.now c.self.inside.structures.entries c.self.invariant.structure_keys in
    record {
      value = found ∙ ap (λ o. structure_called c.args.name.now o) c.self.view_is;
      counted = rw (← c.self.view_is) (found-lent _ (is_structure c.args.name.now) _ c.get.result (numbered-below 1 _ _ c.self.invariant.numbered (omega arith)) found);
    }
