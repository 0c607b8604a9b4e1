use Rattle.qsg_lists.proofs.Takes.{marked_at, found_at_place}
use Rattle.qsg_lists.proofs.change.take.Goals as goal

pub returns-in-Some-clause-after : goal.returns-in-Some-clause-after
returns-in-Some-clause-after c =
    let f = rw c.deref.ensures.value at c.in-Some.ensures.some in
    let x = c.index_mut.result.now in
    marked_at c.args.unit c.args.entries.now.items _ c.in-Some.place x c.requires f.within (f.found x) c.index_mut.ensures.value

pub returns-in-Some-clause-at : goal.returns-in-Some-clause-at
returns-in-Some-clause-at c =
    let f = rw c.deref.ensures.value at c.in-Some.ensures.some in
    let x = c.index_mut.result.now in
    found_at_place c.args.unit c.args.entries.now.items _ c.in-Some.place x f.within (f.found x) c.index_mut.ensures.value
