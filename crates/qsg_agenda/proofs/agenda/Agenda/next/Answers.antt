use Rattle.std.proofs.Common.{◌∙◌, ap, sym}
use Rattle.std.specs.Prelude.{option_map}
use Rattle.std.specs.Option.{option_and_then, option_copied}
use Rattle.qsg_agenda.specs.Courses.{next_in}
use Rattle.qsg_agenda.specs.Parts.{course_in}
use Rattle.qsg_agenda.proofs.Found.{seen}
use Rattle.qsg_agenda.proofs.agenda.Agenda.next.Goals as goal

pub returns-in_err-part_of : goal.returns-in_err-part_of
returns-in_err-part_of c =
    ap option_copied c.from_residual.ensures ∙ ap (λ o. option_and_then next_in (option_map course_in (option_copied o))) (sym c.in_err-part_of.was)
    ∙ ap (option_and_then next_in) (seen c.args.actor c.deref.result.now c.self.inside.parts.items c.args.self.now c.part_of.result c.part_of.ensures c.deref.ensures.value c.self.view_is)

pub returns : goal.returns
returns c =
    c.next_in.ensures.value ∙ ap (λ o. option_and_then next_in (option_map course_in (option_copied o))) (sym c.in_ok-part_of.was)
    ∙ ap (option_and_then next_in) (seen c.args.actor c.deref.result.now c.self.inside.parts.items c.args.self.now c.part_of.result c.part_of.ensures c.deref.ensures.value c.self.view_is)
