-- the tasks whose next request is answered 2009
use Rattle.std.proofs.Common.{◌≡◌, Bool, true, false, cond, List, length, Option, refl, ◌∙◌, length-set}
use Rattle.std.proofs.lemmas.List.{get_or-set_other}
use Rattle.qsg_num.specs.declared.seats.Member.{Member}
use Rattle.qsg_num.specs.declared.seats.TaskNo.{TaskNo}
use Rattle.qsg_num.specs.declared.seats.TaskNo.TheVariants as task
use Rattle.qsg_num.specs.Seats.{member_number, task_number}
use Rattle.qsg_parts.specs.Owned.{Owned}
use Rattle.qsg_steady.specs.Standing.{IsOther}
use Rattle.qsg_steady.proofs.Places.{member_some, task_few}
use Rattle.qsg_works.specs.declared.work.Work.{Work}
use Rattle.qsg_works.specs.InHand.{place}
use Rattle.qsg_step.specs.States.{is_due, with_due}
use Rattle.qsg_step.specs.Ends.{loses_unit, due_task, due_after}
use Rattle.qsg_sound.proofs.Hands.{places_differ}

pub due_other : (m : Member) (t : TaskNo) (is : Bool) (due : List Bool) (k : Member) (w : TaskNo) → IsOther m t k w → is_due k w (with_due m t is due) ≡ is_due k w due
due_other m t is due k w differ =
    get_or-set_other due (place m t) (place k w) is false
    (places_differ (member_number m) (task_number t) (member_number k) (task_number w) (member_some m) (member_some k) (task_few t) (task_few w) differ)

pub due_length : (m : Member) (t : TaskNo) (is : Bool) (due : List Bool) → length (with_due m t is due) ≡ length due
due_length m t is due = length-set due (place m t) is

task_length : (m : Member) (t : TaskNo) (works : List (Option Work)) (p : Owned) (due : List Bool) → length (due_task m t works p due) ≡ length due
task_length m t works p due = by (loses_unit m t works p)
  where
    by : (b : Bool) → length (cond b (with_due m t true due) due) ≡ length due
    by true = due_length m t true due
    by false = refl

task_other : (m : Member) (t : TaskNo) (works : List (Option Work)) (p : Owned) (due : List Bool) (k : Member) (w : TaskNo) → IsOther m t k w → is_due k w (due_task m t works p due) ≡ is_due k w due
task_other m t works p due k w differ = by (loses_unit m t works p)
  where
    by : (b : Bool) → is_due k w (cond b (with_due m t true due) due) ≡ is_due k w due
    by true = due_other m t true due k w differ
    by false = refl

-- those of a member without its first task, without its first two, and without its first three
abbrev first : Member → List (Option Work) → Owned → List Bool → List Bool
first m works p due = due_task m task.One works p due

abbrev second : Member → List (Option Work) → Owned → List Bool → List Bool
second m works p due = due_task m task.Two works p (first m works p due)

abbrev third : Member → List (Option Work) → Owned → List Bool → List Bool
third m works p due = due_task m task.Three works p (second m works p due)

pub after_length : (m : Member) (works : List (Option Work)) (p : Owned) (due : List Bool) → length (due_after m works p due) ≡ length due
after_length m works p due =
    task_length m task.Four works p (third m works p due) ∙ task_length m task.Three works p (second m works p due) ∙ task_length m task.Two works p (first m works p due) ∙ task_length m task.One works p due

-- the end of a member is no matter of others' tasks
pub after_other : (m : Member) (works : List (Option Work)) (p : Owned) (due : List Bool) (k : Member) (w : TaskNo) → (member_number k ≡ member_number m → ⊥) → is_due k w (due_after m works p due) ≡ is_due k w due
after_other m works p due k w differ =
    task_other m task.Four works p (third m works p due) k w (λ e f. differ e) ∙ task_other m task.Three works p (second m works p due) k w (λ e f. differ e) ∙ task_other m task.Two works p (first m works p due) k w (λ e f. differ e) ∙ task_other m task.One works p due k w (λ e f. differ e)
