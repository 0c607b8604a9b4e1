use Rattle.std.proofs.Common.{◌∙◌, ap}
use Rattle.std.specs.Prelude.{map}
use Rattle.std.specs.List.{list_all}
use Rattle.qsg_agenda.specs.Courses.{is_through}
use Rattle.qsg_agenda.specs.Parts.{course_in}
use Rattle.qsg_agenda.proofs.Found.{all_mapped}
use Rattle.qsg_agenda.proofs.agenda.Agenda.is_through.Goals as goal

pub returns : goal.returns
returns c =
    c.are_through.ensures ∙ all_mapped c.deref.result.now ∙ ap (λ l. list_all is_through (map course_in l)) c.deref.ensures.value
    ∙ ap (list_all is_through) c.self.view_is
