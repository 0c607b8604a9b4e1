use Rattle.std.proofs.Common.{sym, subst}
use Rattle.std.specs.Prelude.{IfSome}
use Rattle.qsg_num.specs.declared.ids.Actor.TheVariants as actor
use Rattle.qsg_directives.specs.Asking.{IsRight}
use Rattle.qsg_working.proofs.Directing.{next_right}
use Rattle.qsg_working.proofs.hands.work_of.Goals as goal

pub request_of-requires : goal.request_of-requires
request_of-requires c = subst (λ o. IfSome o IsRight) (sym c.in-Some-next.ensures) (next_right (actor.Task c.args.member c.args.task) c.args.agenda.now c.requires.right)
