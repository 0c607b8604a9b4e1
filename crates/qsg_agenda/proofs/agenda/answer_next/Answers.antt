use Rattle.std.proofs.Common.{◌∙◌, ap, sym}
use Rattle.std.specs.Option.{option_copied}
use Rattle.qsg_agenda.proofs.Found.{kept_next}
use Rattle.qsg_agenda.proofs.agenda.answer_next.Goals as goal

pub returns-in-Some-clause-kept : goal.returns-in-Some-clause-kept
returns-in-Some-clause-kept c =
    kept_next c.args.part.now c.in-Some.directive.now _ c.push.new.self c.requires.kept (sym c.next_in.ensures.value ∙ ap option_copied c.in-Some.is)
    c.verb_of-verb.ensures c.push.ensures.answers c.push.ensures.room
