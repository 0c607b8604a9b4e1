use Rattle.qsg_sound.specs.Sound.{IsSound}
use Rattle.qsg_sysplex.proofs.laws.a_step_keeps_a_group.Goals as goal

pub returns : goal.returns
returns c = λ s r who step kept ids types made.
    let sound : IsSound r = c.a_step_keeps_a_group_sound.ensures s r who step kept.sound ids types made in
    record {
      sound = sound;
      fits = c.a_step_keeps_answers_fitting.ensures s r who step kept.sound sound kept.fits made;
    }
