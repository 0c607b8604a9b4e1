-- the works in the hands of tasks
use Rattle.std.proofs.Common.{◌≡◌, ℕ, ◌+◌, ◌*◌, ◌-◌, ◌<◌, ◌≤◌, List, length, Option, Some, None, is_some, cond, ap, arith}
use Rattle.std.proofs.lemmas.List.{get_or-set_same, get_or-set_other}
use Rattle.std.proofs.lemmas.List.Sums.{sum_by-set}
use Rattle.qsg_num.specs.declared.seats.Member.{Member}
use Rattle.qsg_num.specs.declared.seats.TaskNo.{TaskNo}
use Rattle.qsg_num.specs.Seats.{member_number, task_number}
use Rattle.qsg_steady.specs.Standing.{IsOther}
use Rattle.qsg_steady.proofs.Moving.{by_member, by_task}
use Rattle.qsg_steady.proofs.Places.{member_some, member_few, task_few}
use Rattle.qsg_works.specs.declared.work.Work.{Work}
use Rattle.qsg_works.specs.InHand.{place, work_of, with_work}
use Rattle.qsg_sound.specs.Sound.{in_progress}

-- a task, and all others
pub by_hand : (P : Member → TaskNo → Type 0) (m : Member) (t : TaskNo) → P m t → ((k : Member) (w : TaskNo) → IsOther m t k w → P k w) → (k : Member) (w : TaskNo) → P k w
by_hand P m t here others k w =
    by_member (λ x. (z : TaskNo) → P x z) m (by_task (P m) t here (λ z differ. others m z (λ e f. differ f))) (λ x differ z. others x z (λ e f. differ e)) k w

place_few : (m : Member) (t : TaskNo) → place m t < 40
place_few m t = omega (arith, member_some m, member_few m, task_few t)

pub work_same : (m : Member) (t : TaskNo) (hand : Option Work) (works : List (Option Work)) → length works ≡ 40 → work_of m t (with_work m t hand works) ≡ hand
work_same m t hand works forty = get_or-set_same works (place m t) hand None (omega (arith, place_few m t, forty))

pub places_differ : (m t k w : ℕ) → 1 ≤ m → 1 ≤ k → t < 5 → w < 5 → (k ≡ m → w ≡ t → ⊥) → (k - 1) * 5 + w ≡ (m - 1) * 5 + t → ⊥
places_differ m t k w one some few less differ same = differ (omega arith) (omega arith)

pub work_other : (m : Member) (t : TaskNo) (hand : Option Work) (works : List (Option Work)) (k : Member) (w : TaskNo) → IsOther m t k w → work_of k w (with_work m t hand works) ≡ work_of k w works
work_other m t hand works k w differ =
    get_or-set_other works (place m t) (place k w) hand None
    (places_differ (member_number m) (task_number t) (member_number k) (task_number w) (member_some m) (member_some k) (task_few t) (task_few w) differ)

-- ---- how many there are

abbrev one : Option Work → ℕ
one hand = cond (is_some hand) 1 0

-- those of all other tasks
abbrev pub others_in : Member → TaskNo → List (Option Work) → ℕ
others_in m t works = in_progress (with_work m t None works)

counted : (m : Member) (t : TaskNo) (hand : Option Work) (works : List (Option Work)) → length works ≡ 40 → in_progress (with_work m t hand works) + one (work_of m t works) ≡ in_progress works + one hand
counted m t hand works forty = sum_by-set one works (place m t) hand None (omega (arith, place_few m t, forty))

pub with_one : (m : Member) (t : TaskNo) (work : Work) (works : List (Option Work)) → length works ≡ 40 → in_progress (with_work m t (Some work) works) ≡ others_in m t works + 1
with_one m t work works forty = let a = counted m t (Some work) works forty in let b = counted m t None works forty in omega (arith, a, b)

pub has_one : (m : Member) (t : TaskNo) (work : Work) (works : List (Option Work)) → length works ≡ 40 → work_of m t works ≡ Some work → in_progress works ≡ others_in m t works + 1
has_one m t work works forty is = let a = counted m t None works forty in let b = ap one is in omega (arith, a, b)

pub has_none : (m : Member) (t : TaskNo) (works : List (Option Work)) → length works ≡ 40 → work_of m t works ≡ None → in_progress works ≡ others_in m t works
has_none m t works forty is = let a = counted m t None works forty in let b = ap one is in omega (arith, a, b)

pub others_most : (m : Member) (t : TaskNo) (works : List (Option Work)) → length works ≡ 40 → others_in m t works ≤ in_progress works
others_most m t works forty = let a = counted m t None works forty in omega (arith, a)
