use Rattle.qsg_sysplex.proofs.laws.a_new_group_is_kept.Goals as goal

pub returns : goal.returns
returns c = λ s new. record {
  sound = c.a_new_group_is_sound.ensures s new;
  fits = λ telling. c.answers_of_a_new_group_fit.ensures s new;
}
