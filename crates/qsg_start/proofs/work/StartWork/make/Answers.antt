use Rattle.std.proofs.Common.{Err, refl, ap, ◌∙◌}
use Rattle.qsg_parts.specs.Owned.{owned}
use Rattle.qsg_walk.specs.Walks.{Walk}
use Rattle.qsg_start.specs.declared.phases.Phase.TheVariants.{Begin}
use Rattle.qsg_start.specs.Works.{Work}
use Rattle.qsg_start.proofs.Making.{acted, refusing, carried}
use Rattle.qsg_start.proofs.work.StartWork.make.Goals.{in-Ok, in-Err}
use Rattle.qsg_start.proofs.work.StartWork.make.Goals as goal

pub returns-after-feed-clause-next : goal.returns-after-feed-clause-next
returns-after-feed-clause-next g c =
    let old : Work = record { member = c.self.inside.member; phase = c.self.inside.phase; walk = c.self.inside.walk } in
    elim c.match-feed.branch [
      | in-Ok w ↦ carried old c.args.self.now (owned c.args.parts.now) w.come_up.result c.match-feed.result w.come_up.new.self c.match-feed.self (owned w.come_up.new.parts) (owned c.match-feed.parts) c.self.view_is w.result-is w.self-is (ap owned w.parts-is)
          (acted (Begin c.in-Begin.page) old (owned c.args.parts.now) c.feed.new.self w.in-Ok.field-0 w.come_up.result w.come_up.new.self (owned w.come_up.new.parts) refl c.in-Begin.is w.in-Ok.ensures.fed w.come_up.ensures.acts)
      | in-Err w ↦ carried old c.args.self.now (owned c.args.parts.now) w.ended.result c.match-feed.result c.match-feed.self c.match-feed.self (owned c.match-feed.parts) (owned c.match-feed.parts) c.self.view_is w.result-is refl refl
          (refusing (Begin c.in-Begin.page) old (owned c.args.parts.now) w.in-Err.refused w.ended.result c.match-feed.self (owned c.match-feed.parts) refl c.in-Begin.is (λ why is. w.in-Err.ensures.bad why (ap Err is)) w.in-Err.ensures.kept
          w.ended.ensures.bad w.ended.ensures.memory (w.self-is ∙ ap (λ (x : Walk). record old { walk = x }) w.in-Err.ensures.refused) (ap owned w.parts-is))
    ]
