use Rattle.std.proofs.Common.{◌∙◌, ap}
use Rattle.qsg_report.specs.Words.{member_names, structure_names}
use Rattle.qsg_report.proofs.words.labels_of.Goals as goal

pub returns : goal.returns
returns c =
    let members = c.in_ok-members.ensures ∙ ap member_names c.deref.ensures.value in
    let structures = c.in_ok-structures.ensures ∙ ap structure_names c.deref-2.ensures.value in
    c.new.ensures ∙ (λ i. record { members = members i; structures = structures i })
