use Rattle.std.proofs.Common.{map, map-id, rules, ap, ◌∙◌, sym}
use Rattle.std.proofs.lemmas.Iterator.Consumers.{YieldsList-end}
use Rattle.std.proofs.lemmas.Iterator.Adapters.{YieldsList-from_vec}
use Rattle.qsg_agenda.specs.Courses.{begun}
use Rattle.qsg_agenda.specs.Parts.{IsKept}
use Rattle.qsg_agenda.proofs.Found.{begun_more, all_more}
use Rattle.qsg_agenda.proofs.agenda.begin_all.Goals as goal

pub loop-actor-preserved : goal.loop-actor-preserved
loop-actor-preserved c =
    let begin = c.in_ok-begin.ensures in (
      begun_more c.loop-actor.parts.items c.loop-actor.yielded c.in_ok-begin.field-0 _ _ _ c.in_ok-push.ensures.items c.loop-actor.invariant.0 begin.actor begin.directives begin.answers,
      all_more IsKept c.loop-actor.parts.items c.in_ok-begin.field-0 _ c.in_ok-push.ensures.items c.loop-actor.invariant.1 begin.kept,
    )

pub returns-clause-begun : goal.returns-clause-begun
returns-clause-begun c =
    let all =
    YieldsList-end (YieldsList-from_vec {s = c.into_iter-actor-iterator.result} c.args.works.items (search rules) (search rules))
    c.loop-actor.yielded c.loop-actor.actor-iterator c.loop-actor.yielded_by c.next.result c.next.new.self c.in-None.is c.next.ensures.steps in
    c.loop-actor.invariant.0 ∙ ap (map begun) (sym (map-id c.loop-actor.yielded) ∙ all.0)
