use Rattle.qsg_run.proofs.data_sets.data_set.Goals as goal

pub show_data_set-requires : goal.show_data_set-requires
show_data_set-requires g c = record { sets = rw c.parts.ensures c.kept.ensures.sound.steady.shape.datasets }
