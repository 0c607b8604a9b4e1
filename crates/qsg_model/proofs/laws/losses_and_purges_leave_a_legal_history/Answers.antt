use Rattle.std.proofs.Common.{refl}
use Rattle.qsg_model.specs.declared.history.Item.TheVariants as items
use Rattle.qsg_model.proofs.Growing.{quiet_legal}
use Rattle.qsg_model.proofs.laws.losses_and_purges_leave_a_legal_history.Goals as goal

pub returns-clause-lost : goal.returns-clause-lost
returns-clause-lost c = λ h s. quiet_legal h (items.Lost s) refl refl

pub returns-clause-purged : goal.returns-clause-purged
returns-clause-purged c = λ h s. quiet_legal h (items.Purged s) refl refl
