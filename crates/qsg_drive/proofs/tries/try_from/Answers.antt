use Rattle.std.proofs.Common.{◌≡◌, ◌++◌, List, subst}
use Rattle.std.proofs.lemmas.Result.{IfOk-weaker}
use Rattle.qsg_num.specs.declared.ids.Actor.{Actor}
use Rattle.qsg_drive.specs.Runs.{round_from}
use Rattle.qsg_drive.specs.Tries.{AreTried}
use Rattle.qsg_drive.proofs.Trying.{around, tried_then, still_of_false}
use Rattle.qsg_drive.proofs.tries.try_from.Goals as goal

pub returns-clause-tried : goal.returns-clause-tried
returns-clause-tried g c =
    let same : c.split_at.result.1.now ++ c.split_at.result.0.now ≡ round_from c.args.from c.args.actors.now = around c.args.actors.now c.args.from c.place_of-place.result _ _ c.place_of-place.ensures.place c.split_at.ensures.front c.split_at.ensures.back in
    let first = still_of_false c.in_ok-try_all.field-0 _ _ _ c.if-branch.false c.in_ok-try_all.ensures.tried in
    IfOk-weaker c.try_all-2.result _ _ (λ moved h. subst (λ (actors : List Actor). AreTried moved actors (g.G.Group.state c.args.group.now) (g.G.Group.state c.try_all-2.new.group)) same (tried_then moved _ _ _ _ _ first.0 first.1 h)) c.try_all-2.ensures.tried
