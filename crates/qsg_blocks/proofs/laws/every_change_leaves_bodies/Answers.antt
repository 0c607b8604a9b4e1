use Rattle.qsg_blocks.proofs.Bodies.{bodies_before, bodies_after, held_before, held_after}
use Rattle.qsg_blocks.proofs.laws.every_change_leaves_bodies.Goals as goal

pub returns-clause-before : goal.returns-clause-before
returns-clause-before c = λ g h change told fits laws. bodies_before g h change told fits laws

pub returns-clause-after : goal.returns-clause-after
returns-clause-after c = λ g h change told fits laws. bodies_after g h change told fits laws

pub returns-clause-held_before : goal.returns-clause-held_before
returns-clause-held_before c = λ old new s g h change told fits laws was is. held_before old new s g h change told fits laws was is

pub returns-clause-held_after : goal.returns-clause-held_after
returns-clause-held_after c = λ old new s g h change told fits laws was is. held_after old new s g h change told fits laws was is
