use Rattle.std.proofs.Common.{◌∙◌, ap}
use Rattle.qsg_objects.specs.Registry.{queue_named, is_queue}
use Rattle.qsg_objects.proofs.Lookups.{looked_up}
use Rattle.qsg_objects.proofs.Kept.{found-lent, counted-queues}
use Rattle.qsg_objects.proofs.registry.Objects.queue.Goals as goal

pub returns : goal.returns
returns c =
    let found = c.get.ensures.value ∙ looked_up (λ q. q.definition.name) c.args.name.now c.self.inside.queues.entries c.self.invariant.queue_keys in
    record {
      value = found ∙ ap (λ o. queue_named c.args.name.now o) c.self.view_is;
      placed = rw (← c.self.view_is) (found-lent _ (is_queue c.args.name.now) _ c.get.result c.self.invariant.placed found);
      counted = rw (← c.self.view_is) (found-lent _ (is_queue c.args.name.now) _ c.get.result (counted-queues _ _ c.self.invariant.numbered c.self.invariant.placed) found);
    }
