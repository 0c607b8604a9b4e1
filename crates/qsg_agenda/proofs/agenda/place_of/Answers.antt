use Rattle.std.proofs.Common.{◌∙◌, ap, length}
use Rattle.std.specs.Option.{unwrap_or}
use Rattle.qsg_agenda.proofs.Found.{or_len, is_of}
use Rattle.qsg_agenda.proofs.agenda.place_of.Goals as goal

pub returns : goal.returns
returns c = c.unwrap_or.ensures ∙ ap (λ o. unwrap_or o (length c.args.parts.now)) c.position_of.ensures ∙ or_len (is_of c.args.actor) c.args.parts.now
