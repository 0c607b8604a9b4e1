-- how many works in hand pass a test
use Rattle.std.proofs.Common.{◌≡◌, ℕ, ◌+◌, ◌<◌, List, length, Option, None, Bool, cond, arith}
use Rattle.std.specs.Prelude.{count_by}
use Rattle.std.proofs.lemmas.List.Sums.{sum_by-set}
use Rattle.qsg_num.specs.declared.seats.Member.{Member}
use Rattle.qsg_num.specs.declared.seats.TaskNo.{TaskNo}
use Rattle.qsg_steady.proofs.Places.{member_some, member_few, task_few}
use Rattle.qsg_works.specs.declared.work.Work.{Work}
use Rattle.qsg_works.specs.InHand.{place, work_of, with_work}

pub place_few : (m : Member) (t : TaskNo) → place m t < 40
place_few m t = omega (arith, member_some m, member_few m, task_few t)

abbrev one : (Option Work → Bool) → Option Work → ℕ
one p hand = cond (p hand) 1 0

pub counted_with : (p : Option Work → Bool) (m : Member) (t : TaskNo) (hand : Option Work) (works : List (Option Work)) → length works ≡ 40 → count_by p (with_work m t hand works) + cond (p (work_of m t works)) 1 0 ≡ count_by p works + cond (p hand) 1 0
counted_with p m t hand works forty = sum_by-set (one p) works (place m t) hand None (omega (arith, place_few m t, forty))
