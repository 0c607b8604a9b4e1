use Rattle.std.proofs.lemmas.Result.{on_ok_weaker, on_err_weaker}
use Rattle.qsg_draft.proofs.Kept.{extended_at, unextended, unchanged_at}
use Rattle.qsg_draft.proofs.sections.add_to_section.Goals as goal

pub returns-in_default-clause-ok : goal.returns-in_default-clause-ok
returns-in_default-clause-ok c = unextended c.args.actor c.args.directive c.args.sections.now.items (cc)

pub returns-clause-ok : goal.returns-clause-ok
returns-clause-ok c =
    on_ok_weaker c.add.result (λ e. extended_at c.args.actor c.args.directive c.index_mut.result.now c.add.new.directives c.args.sections.now.items c.in-Some.at (cc) c.index_mut.ensures.value e) c.add.ensures.ok

pub returns-clause-err : goal.returns-clause-err
returns-clause-err c =
    on_err_weaker c.add.result (λ e. unchanged_at c.args.actor c.args.sections.now.items c.in-Some.at c.index_mut.result.now c.add.new.directives (cc) c.index_mut.ensures.value e) c.add.ensures.err
