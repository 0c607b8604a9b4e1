use Rattle.qsg_rebuild.proofs.Making.{StarterLaws}
use Rattle.qsg_rebuild.proofs.Going.{goes_on, done}
use Rattle.qsg_rebuild.proofs.laws.a_rebuild_makes_a_map.Goals as goal

pub returns-clause-begins : goal.returns-clause-begins
returns-clause-begins c = λ m s g down gate. record { gate = gate; map = down }

pub returns-clause-goes_on : goal.returns-clause-goes_on
returns-clause-goes_on c =
    let told = c.a_starter_counts_blocks.ensures in
    let laws : StarterLaws = record { saved = told.loads; blank = told.blank; claims = told.claims; passes = told.passes; ends = told.ends } in
    goes_on laws

pub returns-clause-done : goal.returns-clause-done
returns-clause-done c = done
