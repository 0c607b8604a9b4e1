use Rattle.std.proofs.Math.Nat.{le_refl}
use Rattle.qsg_repo.specs.Keeping.{keep}
use Rattle.qsg_repo.proofs.Falling.{keep-published, keep-noted, keep-purged, keep-crashed, keep-released, keep-held, keep-note_held}
use Rattle.qsg_repo.proofs.laws.keep_never_falls.Goals as goal

pub returns-clause-publish_low : goal.returns-clause-publish_low
returns-clause-publish_low c = keep-published

pub returns-clause-put_note : goal.returns-clause-put_note
returns-clause-put_note c = keep-noted

pub returns-clause-purge_note : goal.returns-clause-purge_note
returns-clause-purge_note c = keep-purged

pub returns-clause-crashed : goal.returns-clause-crashed
returns-clause-crashed c = keep-crashed

pub returns-clause-resolve : goal.returns-clause-resolve
returns-clause-resolve c = λ repo m k i. le_refl (keep m repo)

pub returns-clause-started : goal.returns-clause-started
returns-clause-started c = λ repo m k. le_refl (keep m repo)

pub returns-clause-stopped : goal.returns-clause-stopped
returns-clause-stopped c = λ repo m k. le_refl (keep m repo)

pub returns-clause-set_smds : goal.returns-clause-set_smds
returns-clause-set_smds c = λ repo m k s to. le_refl (keep m repo)

pub returns-clause-smds_use : goal.returns-clause-smds_use
returns-clause-smds_use c = λ repo m k s. le_refl (keep m repo)

pub returns-clause-smds_dirty : goal.returns-clause-smds_dirty
returns-clause-smds_dirty c = λ repo m s. le_refl (keep m repo)

pub returns-clause-smds_done : goal.returns-clause-smds_done
returns-clause-smds_done c = λ repo m k t s recovered. keep-released repo m k t

pub returns-clause-smds_stopped : goal.returns-clause-smds_stopped
returns-clause-smds_stopped c = λ repo m k s used. le_refl (keep m repo)

pub returns-clause-hold : goal.returns-clause-hold
returns-clause-hold c = keep-held

pub returns-clause-note_hold : goal.returns-clause-note_hold
returns-clause-note_hold c = keep-note_held

pub returns-clause-release : goal.returns-clause-release
returns-clause-release c = keep-released
