use Rattle.qsg_sysplex.proofs.laws.a_step_that_wants_memory_keeps_a_group.Goals as goal

pub returns : goal.returns
returns c = λ s r kept types unmade. record {
  sound = c.a_step_that_wants_memory_keeps_a_group_sound.ensures s r kept.sound types unmade;
  fits = c.a_step_that_wants_memory_keeps_answers_fitting.ensures s r kept.sound kept.fits unmade;
}
