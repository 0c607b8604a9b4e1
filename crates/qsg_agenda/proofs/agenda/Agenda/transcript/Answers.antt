use Rattle.std.proofs.Common.{◌∙◌, ap, sym}
use Rattle.std.specs.Prelude.{option_map}
use Rattle.std.specs.Option.{option_copied}
use Rattle.qsg_agenda.specs.Courses.{answers_in}
use Rattle.qsg_agenda.specs.Parts.{course_in}
use Rattle.qsg_agenda.proofs.Found.{seen}
use Rattle.qsg_agenda.proofs.agenda.Agenda.transcript.Goals as goal

pub returns-in-Some : goal.returns-in-Some
returns-in-Some c =
    c.as_slice.ensures ∙ ap (λ o. answers_in (option_map course_in (option_copied o))) (sym c.in-Some.is)
    ∙ ap answers_in (seen c.args.actor c.deref.result.now c.self.inside.parts.items c.args.self.now c.part_of.result c.part_of.ensures c.deref.ensures.value c.self.view_is)

pub returns-in-None : goal.returns-in-None
returns-in-None c =
    ap (λ o. answers_in (option_map course_in (option_copied o))) (sym c.in-None.is)
    ∙ ap answers_in (seen c.args.actor c.deref.result.now c.self.inside.parts.items c.args.self.now c.part_of.result c.part_of.ensures c.deref.ensures.value c.self.view_is)
