use Rattle.qsg_lists.proofs.Revising.{order-revise}
use Rattle.qsg_lists.proofs.Appending.{order_push}
use Rattle.qsg_lists.proofs.laws.order_is_kept.Goals as goal

pub returns-clause-appended : goal.returns-clause-appended
returns-clause-appended c = λ es e ordered below. order_push es e ordered below

pub returns-clause-revised : goal.returns-clause-revised
returns-clause-revised c = λ id f es keeps ordered. order-revise id f keeps es ordered
