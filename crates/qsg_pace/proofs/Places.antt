-- the work of one task changes
use Rattle.std.proofs.Common.{◌≡◌, ℕ, zero, suc, ◌+◌, ◌/◌, ◌%◌, ◌<◌, List, length, get_or, Option, None, subst, arith}
use Rattle.std.specs.Prelude.{sum_by}
use Rattle.qsg_num.specs.declared.seats.Member.{Member}
use Rattle.qsg_num.specs.declared.seats.Member.TheVariants as members
use Rattle.qsg_num.specs.declared.seats.TaskNo.{TaskNo}
use Rattle.qsg_num.specs.declared.seats.TaskNo.TheVariants as numbers
use Rattle.qsg_num.specs.Seats.{member_number, task_number}
use Rattle.qsg_steady.proofs.Places.{member_some, member_few, task_few}
use Rattle.qsg_works.specs.declared.work.Work.{Work}
use Rattle.qsg_works.specs.InHand.{place, work_of, with_work, IsOther}
use Rattle.qsg_pace.proofs.Sums.{sum_moved}

pub member_with : (n : ℕ) → n < 8 → (m : Member) × (member_number m ≡ n + 1)
member_with zero less = (members.One, omega arith)
member_with (suc zero) less = (members.Two, omega arith)
member_with (suc (suc zero)) less = (members.Three, omega arith)
member_with (suc (suc (suc zero))) less = (members.Four, omega arith)
member_with (suc (suc (suc (suc zero)))) less = (members.Five, omega arith)
member_with (suc (suc (suc (suc (suc zero))))) less = (members.Six, omega arith)
member_with (suc (suc (suc (suc (suc (suc zero)))))) less = (members.Seven, omega arith)
member_with (suc (suc (suc (suc (suc (suc (suc zero))))))) less = (members.Eight, omega arith)
member_with (suc (suc (suc (suc (suc (suc (suc (suc n)))))))) less = absurd (omega (arith, less))

task_with : (n : ℕ) → n < 5 → (t : TaskNo) × (task_number t ≡ n)
task_with zero less = (numbers.System, omega arith)
task_with (suc zero) less = (numbers.One, omega arith)
task_with (suc (suc zero)) less = (numbers.Two, omega arith)
task_with (suc (suc (suc zero))) less = (numbers.Three, omega arith)
task_with (suc (suc (suc (suc zero)))) less = (numbers.Four, omega arith)
task_with (suc (suc (suc (suc (suc n))))) less = absurd (omega (arith, less))

-- each place is that of a task
record IsPlaceOf (i : ℕ) : Type 0 where
  pub member : Member
  pub task : TaskNo
  pub is : place member task ≡ i

placed : (i : ℕ) → i < 40 → IsPlaceOf i
placed i less =
    let m = member_with (i / 5) (omega (arith, less)) in
    let t = task_with (i % 5) (omega arith) in
    let one = m.1 in
    let two = t.1 in
    record { member = m.0; task = t.0; is = omega (arith, one, two) }

place_few : (m : Member) (t : TaskNo) → place m t < 40
place_few m t = omega (arith, member_some m, member_few m, task_few t)

-- each other task's work counts as it did
pub sum_places : (f g : Option Work → ℕ) (works : List (Option Work)) (m : Member) (t : TaskNo) (y : Option Work) → length works ≡ 40 → ((k : Member) (w : TaskNo) → IsOther m t k w → g (work_of k w works) ≡ f (work_of k w works))
    → sum_by g (with_work m t y works) + f (work_of m t works) ≡ sum_by f works + g y
sum_places f g works m t y forty each = sum_moved f g works (place m t) y None (omega (arith, forty, place_few m t)) others
  where
    others : (j : ℕ) → j < length works → (j ≡ place m t → ⊥) → g (get_or works j None) ≡ f (get_or works j None)
    others j less differ =
        let at = placed j (omega (arith, forty, less)) in
        subst (λ (i : ℕ). g (get_or works i None) ≡ f (get_or works i None)) at.is (each at.member at.task (λ e h. differ (let is = at.is in omega (arith, is, e, h))))
