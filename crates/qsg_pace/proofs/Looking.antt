-- what stands at each member and task once one is changed
use Rattle.std.proofs.Common.{◌≡◌, ℕ, zero, suc, ◌-◌, List, [], ◌∷◌, get_or, set, Bool, true, false, Option, refl, ap, ◌∙◌, inl, inr}
use Rattle.qsg_num.specs.declared.seats.Member.{Member}
use Rattle.qsg_num.specs.declared.seats.TaskNo.{TaskNo}
use Rattle.qsg_num.specs.Seats.{member_number}
use Rattle.qsg_num.specs.declared.ids.UnitName.{UnitName}
use Rattle.qsg_lists.specs.Structures.{ListStructure}
use Rattle.qsg_logpage.specs.Log.{Hand}
use Rattle.qsg_group.specs.declared.tasks.Task.{Task}
use Rattle.qsg_group.specs.Observers.{is_hardening}
use Rattle.qsg_group.proofs.Tables.{cases_member}
use Rattle.qsg_manager.specs.declared.managers.Manager.{Manager}
use Rattle.qsg_manager.specs.Storage.{no_manager, task_in, manager_in, with_manager, task_at, with_task, with_drawn}
use Rattle.qsg_manager.proofs.Grouping.{manager_other}
use Rattle.qsg_logs.specs.Kept.{KeptLog, no_log, log_in, with_log, fallen_back}
use Rattle.qsg_parts.specs.Owned.{Owned}
use Rattle.qsg_steady.proofs.Places.{log_other, task_other}
use Rattle.qsg_works.specs.InHand.{IsOther}

-- what f sees of each element stays where it sees the same in the new one
pub seen_kept : {X Y : Type 0} (f : X → Y) (xs : List X) (i j : ℕ) (y d : X) → f y ≡ f (get_or xs i d) → f (get_or (set xs i y) j d) ≡ f (get_or xs j d)
seen_kept f [] i j y d same = refl
seen_kept f (x ∷ xs) zero zero y d same = same
seen_kept f (x ∷ xs) zero (suc j) y d same = refl
seen_kept f (x ∷ xs) (suc i) zero y d same = refl
seen_kept f (x ∷ xs) (suc i) (suc j) y d same = seen_kept f xs i j y d same

-- another task stands as it did
pub task_beside : (m : Member) (t : TaskNo) (y : Task) (ms : List Manager) (k : Member) (w : TaskNo) → IsOther m t k w → task_at k w (with_task m t y ms) ≡ task_at k w ms
task_beside m t y ms k w other = elim (cases_member k m) [
  | inl same ↦
      seen_kept (λ (x : Manager). task_in w x.tasks) ms (member_number m - 1) (member_number k - 1) _ no_manager (task_other t w y (manager_in m ms).tasks (other (ap member_number same)))
  | inr differ ↦ ap (λ (x : Manager). task_in w x.tasks) (manager_other m k _ ms differ)
]

-- a manager with the same tasks
pub tasks_kept : (m : Member) (x : Manager) (ms : List Manager) → x.tasks ≡ (manager_in m ms).tasks → (k : Member) (w : TaskNo) → task_at k w (with_manager m x ms) ≡ task_at k w ms
tasks_kept m x ms same k w = seen_kept (λ (z : Manager). task_in w z.tasks) ms (member_number m - 1) (member_number k - 1) x no_manager (ap (task_in w) same)

abbrev pub hand_in : Member → List KeptLog → Option Hand
hand_in m logs = (log_in m logs).writer.hand

-- a log with the same run in hand
pub hand_kept : (m : Member) (y : KeptLog) (logs : List KeptLog) → y.writer.hand ≡ hand_in m logs → (k : Member) → hand_in k (with_log m y logs) ≡ hand_in k logs
hand_kept m y logs same k = seen_kept (λ (l : KeptLog). l.writer.hand) logs (member_number m - 1) (member_number k - 1) y no_log same

-- how many pages the log of a member has, and one with as many
abbrev pub size_in : Member → List KeptLog → ℕ
size_in m logs = (log_in m logs).writer.size

pub size_kept : (m : Member) (y : KeptLog) (logs : List KeptLog) → y.writer.size ≡ size_in m logs → (k : Member) → size_in k (with_log m y logs) ≡ size_in k logs
size_kept m y logs same k = seen_kept (λ (l : KeptLog). l.writer.size) logs (member_number m - 1) (member_number k - 1) y no_log same

pub hand_other : (m k : Member) (y : KeptLog) (logs : List KeptLog) → (member_number k ≡ member_number m → ⊥) → hand_in k (with_log m y logs) ≡ hand_in k logs
hand_other m k y logs differ = ap (λ (l : KeptLog). l.writer.hand) (log_other m k y logs differ)

-- The other tasks stand as they did, and so does the run in hand of one that is hardening. Each log has as many pages as
-- before, and the repository the same incarnations.
pub record IsBeside (m : Member) (t : TaskNo) (p q : Owned) : Type 0 where
  pub tasks : (k : Member) (w : TaskNo) → IsOther m t k w → task_at k w q.managers ≡ task_at k w p.managers
  pub hands : (k : Member) (w : TaskNo) → IsOther m t k w → is_hardening (task_at k w p.managers).stage ≡ true → hand_in k q.logs ≡ hand_in k p.logs
  pub sizes : (k : Member) → size_in k q.logs ≡ size_in k p.logs
  pub lives : q.repo.lives ≡ p.repo.lives
  pub starts : q.repo.starts ≡ p.repo.starts

pub still_beside : (m : Member) (t : TaskNo) (p : Owned) → IsBeside m t p p
still_beside m t p = record { tasks = λ k w other. refl; hands = λ k w other hardens. refl; sizes = λ k. refl; lives = refl; starts = refl }

pub both_beside : (m : Member) (t : TaskNo) (p q r : Owned) → IsBeside m t p q → IsBeside m t q r → IsBeside m t p r
both_beside m t p q r first then = record {
  tasks = λ k w other. then.tasks k w other ∙ first.tasks k w other;
  hands = λ k w other hardens. then.hands k w other (ap (λ (x : Task). is_hardening x.stage) (first.tasks k w other) ∙ hardens) ∙ first.hands k w other hardens;
  sizes = λ k. then.sizes k ∙ first.sizes k;
  lives = then.lives ∙ first.lives;
  starts = then.starts ∙ first.starts;
}

-- ---- what a step of a task leaves beside it

pub logged_beside : (m : Member) (t : TaskNo) (y : KeptLog) (p : Owned) → y.writer.hand ≡ hand_in m p.logs → y.writer.size ≡ size_in m p.logs → IsBeside m t p (record p { logs = with_log m y p.logs })
logged_beside m t y p same size = record {
  tasks = λ k w other. refl;
  hands = λ k w other hardens. hand_kept m y p.logs same k;
  sizes = λ k. size_kept m y p.logs size k;
  lives = refl;
  starts = refl;
}

pub tasked_beside : (m : Member) (t : TaskNo) (y : Task) (ss : List ListStructure) (p : Owned) → IsBeside m t p (record p { structures = ss; managers = with_task m t y p.managers })
tasked_beside m t y ss p = record { tasks = λ k w other. task_beside m t y p.managers k w other; hands = λ k w other hardens. refl; sizes = λ k. refl; lives = refl; starts = refl }

pub acted_beside : (m : Member) (t : TaskNo) (y : Task) (log : KeptLog) (ss : List ListStructure) (p : Owned) → log.writer.hand ≡ hand_in m p.logs → log.writer.size ≡ size_in m p.logs
    → IsBeside m t p (record p { structures = ss; managers = with_task m t y p.managers; logs = with_log m log p.logs })
acted_beside m t y log ss p same size = record {
  tasks = λ k w other. task_beside m t y p.managers k w other;
  hands = λ k w other hardens. hand_kept m log p.logs same k;
  sizes = λ k. size_kept m log p.logs size k;
  lives = refl;
  starts = refl;
}

pub fallen_hand : (t : TaskNo) (u : UnitName) (b : Bool) (log : KeptLog) → (fallen_back t u b log).writer.hand ≡ log.writer.hand
fallen_hand t u true log = refl
fallen_hand t u false log = refl

pub fallen_size : (t : TaskNo) (u : UnitName) (b : Bool) (log : KeptLog) → (fallen_back t u b log).writer.size ≡ log.writer.size
fallen_size t u true log = refl
fallen_size t u false log = refl

pub drawn_beside : (m : Member) (t : TaskNo) (y : Task) (ms : List Manager) (k : Member) (w : TaskNo) → IsOther m t k w → task_at k w (with_task m t y (with_drawn m ms)) ≡ task_at k w ms
drawn_beside m t y ms k w other = task_beside m t y (with_drawn m ms) k w other ∙ tasks_kept m _ ms refl k w
