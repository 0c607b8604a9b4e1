use Rattle.std.proofs.Common.{◌≡◌, Some}
use Rattle.qsg_parts.specs.Owned.{owned}
use Rattle.qsg_peer.proofs.Marks.{found_there}
use Rattle.qsg_peer.proofs.steps.search.Goals as goal

pub returns-in-Ok-Some-clause-sound : goal.returns-in-Ok-Some-clause-sound
returns-in-Ok-Some-clause-sound g c = λ walk ended fed.
    let is : c.in-Ok-Some.field-0 ≡ Some c.in-Ok-Some.found = rw c.in-Ok-Some.is at c.in-Ok-Some.field-0-is in (
      ended,
      fed,
      found_there c.args.of c.args.connection c.args.after (owned c.args.parts.now) c.marked_after-answer.result c.in-Ok-Some.field-0 c.in-Ok-Some.found c.marked_after-answer.ensures c.in-Ok-Some.is is,
    )
