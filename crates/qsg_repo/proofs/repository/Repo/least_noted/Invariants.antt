use Rattle.std.proofs.Common.{◌≡◌, take, map, filter}
use Rattle.qsg_repo.specs.Tables.{recovers, note_at}
use Rattle.qsg_repo.specs.Keeping.{least, noted_page, structures}
use Rattle.qsg_repo.proofs.repository.Repo.least_noted.Given as goal

abbrev pub invariant-loop-structure : goal.invariant-loop-structure
invariant-loop-structure l = l.least ≡ least l.first (map (λ s. noted_page l.member (note_at s l.self)) (filter (λ s. recovers s l.self) (take l.structure-index structures)))
