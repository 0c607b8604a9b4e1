use Rattle.std.proofs.Common.{sym, ◌∙◌}
use Rattle.qsg_lists.specs.Settling.{deleted}
use Rattle.qsg_lists.proofs.Revising.{revise-at}
use Rattle.qsg_lists.proofs.Places.{id_of_found}
use Rattle.qsg_lists.proofs.change.forget.Goals as goal

pub returns-clause-after : goal.returns-clause-after
returns-clause-after c =
    let stands = rw c.deref.ensures.value at c.in-Some.ensures.some in
    let e = c.index.result.now in
    c.remove.ensures.items
    ∙ sym (revise-at c.args.id deleted c.args.entries.now.items c.in-Some.place e c.requires stands.within (id_of_found _ _ _ e stands))
