use Rattle.std.proofs.Common.{◌∙◌, ap, sym}
use Rattle.qsg_schedule.specs.Course.{pick_of}
use Rattle.qsg_schedule.proofs.turns.Schedule.next.Goals as goal

pub returns-then-self-len-clause-pick : goal.returns-then-self-len-clause-pick
returns-then-self-len-clause-pick c =
    let due = rw c.as_slice.ensures.value at c.first_due-self.ensures.due in
    sym (ap (λ l. pick_of l c.args.actors.now c.args.self.now.round) due ∙ c.take_turn.ensures.pick c.args.actors.now c.args.self.now.round)
