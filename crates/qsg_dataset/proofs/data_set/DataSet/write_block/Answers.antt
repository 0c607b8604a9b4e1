use Rattle.std.proofs.Common.{ℕ, length, ap, ◌∙◌, sym}
use Rattle.qsg_disk.specs.Byte.{values, part}
use Rattle.qsg_dataset.proofs.Blocks.{on_ok, above, values-written, other_block, header_beside}
use Rattle.qsg_dataset.proofs.data_set.DataSet.write_block.Goals as goal

pub returns-clause-reads : goal.returns-clause-reads
returns-clause-reads g c =
    let begins = rw (← c.self.view_is) at c.offset-at.ensures.value in
    rw (← c.self.view_is) (on_ok c.write.result
    (λ wrote told. ap (λ (a : ℕ). values (part a (length c.args.bytes.now) (g.D.Disk.bytes c.write.new.self))) (sym begins) ∙ ap values (wrote told) ∙ values-written c.args.bytes.now)
    c.write.ensures.written)

pub returns-clause-others : goal.returns-clause-others
returns-clause-others g c =
    let begins = rw (← c.self.view_is) at c.offset-at.ensures.value in
    let fits = rw (← c.self.view_is) at c.requires.length in
    let beside = rw begins at c.write.ensures.beside in
    rw (← c.self.view_is) (λ told k n differ low. other_block _ _ k c.args.block.number (length c.args.bytes.now) n c.self.inside.block_size (beside told) differ fits low)

pub returns-clause-header : goal.returns-clause-header
returns-clause-header g c =
    let begins = rw (← c.self.view_is) at c.offset-at.ensures.value in
    rw (← c.self.view_is) (λ told. header_beside _ _ c.offset-at.result (length c.args.bytes.now) (c.write.ensures.beside told) (above _ _ begins))
