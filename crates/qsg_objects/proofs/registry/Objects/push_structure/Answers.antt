use Rattle.std.proofs.Common.{◌∙◌, ap, arith}
use Rattle.std.specs.Prelude.{string_bytes, find, map}
use Rattle.qsg_num.proofs.Ranges.{structure-bounds}
use Rattle.qsg_objects.specs.Registry.{is_name}
use Rattle.qsg_objects.proofs.Lookups.{looked_up}
use Rattle.qsg_objects.proofs.Kept.{kept-structure-if, length-map, none-named}
use Rattle.qsg_objects.proofs.registry.Objects.push_structure.Goals as goal

pub add-requires : goal.add-requires
add-requires c =
    looked_up (λ s. s.definition.name) (string_bytes c.in_ok-key.key) c.self.inside.structures.entries c.self.invariant.structure_keys
    ∙ ap (λ k. find (λ s. is_name k s.definition.name) (map (λ e. e.1) c.self.inside.structures.entries)) (c.in_ok-key.ensures.ok ∙ c.as_str.ensures)
    ∙ none-named c.args.definition.name (map (λ e. e.1) c.self.inside.structures.entries) (rw (← c.self.view_is) at c.requires.fresh)

pub invariant_of-self : goal.invariant_of-self
invariant_of-self c =
    let next = rw (← c.self.view_is) at c.requires.next in
    let h = length-map (λ e. e.1) c.self.inside.structures.entries in
    let b = structure-bounds c.args.number in
    kept-structure-if c.add.result _ _ _ (c.in_ok-key.key, _) c.add.ensures.ok c.add.ensures.unchanged c.self.invariant
    (c.in_ok-key.ensures.ok ∙ c.as_str.ensures)
    (omega (arith, next, h))
    (omega (arith, next, h, b))
