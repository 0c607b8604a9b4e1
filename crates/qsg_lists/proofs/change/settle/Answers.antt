use Rattle.std.proofs.Common.{sym, ◌∙◌}
use Rattle.qsg_lists.specs.Settling.{settled_entry}
use Rattle.qsg_lists.proofs.Revising.{revise-at}
use Rattle.qsg_lists.proofs.Places.{id_of_found}
use Rattle.qsg_lists.proofs.change.settle.Goals as goal

pub returns-clause-after : goal.returns-clause-after
returns-clause-after c =
    let stands = rw c.deref.ensures.value at c.in-Some.ensures.some in
    let e = c.index.result.now in
    c.settle_at.ensures e
    ∙ sym (revise-at c.args.id (settled_entry c.args.commits) c.args.entries.now.items c.in-Some.place e c.requires stands.within (id_of_found _ _ _ e stands))
