use Rattle.std.proofs.lemmas.Result.{IfOk-weaker}
use Rattle.qsg_run.proofs.Paces.{paced}
use Rattle.qsg_run.proofs.groups.DrivenGroup.step.Goals as goal

pub returns-clause-pace : goal.returns-clause-pace
returns-clause-pace g c =
    let s = c.args.self.now.sysplex in
    IfOk-weaker c.step.result _ _ (λ step made. paced c.args.actor s step _ (c.each_step_that_moves_leaves_less.ensures s _ c.args.actor c.kept.ensures.sound) made) c.step.ensures.next
