use Rattle.qsg_model.specs.declared.history.Item.TheVariants as items
use Rattle.qsg_model.proofs.Longer.{held-push}
use Rattle.qsg_model.proofs.laws.purges_keep_nothing.Goals as goal

pub returns : goal.returns
returns c = λ h s. held-push h (items.Purged s)
