use Rattle.std.proofs.Common.{◌∙◌, ap, arith, ◌≡◌, ◌+◌, ◌-◌, ◌%◌, length, slice_index_or}
use Rattle.qsg_num.specs.declared.ids.Actor.TheVariants.{Operator}
use Rattle.qsg_schedule.specs.declared.chooser.Pick.TheVariants.{Round}
use Rattle.qsg_schedule.specs.Course.{turns_of}
use Rattle.qsg_schedule.proofs.Runs.{line-picks, round-picks}
use Rattle.qsg_schedule.proofs.laws.picks_of_a_schedule.Goals as goal

pub returns-clause-lines : goal.returns-clause-lines
returns-clause-lines c list actors k lt = line-picks k list actors 0 lt

pub returns-clause-rounds : goal.returns-clause-rounds
returns-clause-rounds c list actors k le some =
    let same : 0 + (k - length (turns_of list)) ≡ k - length (turns_of list) = omega arith in
    round-picks k list actors 0 le some ∙ ap (λ x. Round (slice_index_or actors (x % length actors) Operator)) same
