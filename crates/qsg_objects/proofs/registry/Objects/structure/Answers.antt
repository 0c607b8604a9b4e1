use Rattle.qsg_objects.proofs.Kept.{numbered-lent}
use Rattle.qsg_objects.proofs.registry.Objects.structure.Goals as goal

pub returns-clause-number : goal.returns-clause-number
returns-clause-number c = numbered-lent _ c.index.result c.args.no c.value_at.result c.self.invariant.numbered c.value_at.ensures.value c.index.ensures.value
