use Rattle.std.proofs.Common.{◌∙◌, ap, length}
use Rattle.std.specs.Option.{unwrap_or}
use Rattle.qsg_agenda.proofs.Found.{or_len}
use Rattle.qsg_agenda.specs.Courses.{same_actor}
use Rattle.qsg_num.specs.declared.ids.Actor.{Actor}
use Rattle.qsg_drive.proofs.places.place_of.Goals as goal

pub returns-clause-place : goal.returns-clause-place
returns-clause-place c = c.unwrap_or.ensures ∙ ap (λ o. unwrap_or o (length c.args.actors.now)) c.position_of.ensures ∙ or_len (λ (a : Actor). same_actor a c.args.who) c.args.actors.now
