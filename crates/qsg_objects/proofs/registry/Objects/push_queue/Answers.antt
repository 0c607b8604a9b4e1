use Rattle.std.proofs.Common.{◌∙◌, ap, arith}
use Rattle.std.specs.Prelude.{string_bytes, find, map}
use Rattle.qsg_objects.specs.Registry.{is_name}
use Rattle.qsg_objects.proofs.Lookups.{looked_up}
use Rattle.qsg_objects.proofs.Kept.{kept-queue-if, length-map}
use Rattle.qsg_objects.proofs.registry.Objects.push_queue.Goals as goal

pub add-requires : goal.add-requires
add-requires c =
    looked_up (λ q. q.definition.name) (string_bytes c.in_ok-key.key) c.self.inside.queues.entries c.self.invariant.queue_keys
    ∙ ap (λ k. find (λ q. is_name k q.definition.name) (map (λ e. e.1) c.self.inside.queues.entries)) (c.in_ok-key.ensures.ok ∙ c.as_str.ensures.text)
    ∙ rw (← c.self.view_is) at c.requires.fresh

pub invariant_of-self : goal.invariant_of-self
invariant_of-self c =
    kept-queue-if c.add.result _ _ _ (c.in_ok-key.key, _) c.add.ensures.ok c.add.ensures.unchanged c.self.invariant
    (c.in_ok-key.ensures.ok ∙ c.as_str.ensures.text)
    (rw (← c.self.view_is) at c.requires.placed)
    (let room = rw (← c.self.view_is) at c.requires.room in let h = length-map (λ e. e.1) c.self.inside.queues.entries in omega (arith, room, h))
