use Rattle.std.proofs.Common.{◌++◌, get_or, ap, sym, ◌∙◌, arith}
use Rattle.qsg_num.specs.declared.seats.Member.TheVariants as member
use Rattle.qsg_sysplex.specs.Actors.{actors_of_member}
use Rattle.qsg_sysplex.specs.Starting.{all_members}
use Rattle.qsg_sysplex.proofs.Flat.{flat_more}
use Rattle.qsg_sysplex.proofs.actors.push_members.Goals as goal

pub loop-index-preserved : goal.loop-index-preserved
loop-index-preserved c =
    c.in_ok-push_member.ensures
    ∙ (ap (λ xs. xs ++ actors_of_member c.args.works.now (get_or all_members c.loop-index.index member.One)) c.loop-index.invariant
    ∙ sym (flat_more (actors_of_member c.args.works.now) all_members c.loop-index.index member.One (omega (arith, c.loop-index-test.true, c.requires.few))))
