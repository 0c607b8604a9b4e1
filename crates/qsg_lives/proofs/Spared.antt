-- which tasks stand as they stood
use Rattle.std.proofs.Common.{◌≡◌, ℕ, ◌-◌, ◌≤◌, [], length, refl, sym, ap, subst, ◌∙◌, length-set, Bool, true, false}
use Rattle.std.specs.Prelude.{slice_index_or}
use Rattle.qsg_num.specs.declared.ids.PageNo.{PageNo}
use Rattle.qsg_num.specs.declared.seats.Member.{Member}
use Rattle.qsg_num.specs.declared.seats.TaskNo.{TaskNo}
use Rattle.qsg_num.specs.declared.seats.TaskNo.TheVariants as number
use Rattle.qsg_num.specs.Seats.{member_number, structure_number, task_number}
use Rattle.qsg_lists.specs.declared.parts.Connection.{Connection}
use Rattle.qsg_lists.specs.Settling.{settled_entry, revised_if_done}
use Rattle.qsg_logneed.specs.Filled.{no_pages, filled}
use Rattle.qsg_repo.specs.Calls.{next_incarnation}
use Rattle.qsg_group.specs.declared.tasks.Task.{Task}
use Rattle.qsg_group.specs.Group.{idle}
use Rattle.qsg_manager.specs.declared.managers.Manager.{Manager}
use Rattle.qsg_manager.specs.declared.structures.MarkedEntry.{MarkedEntry}
use Rattle.qsg_manager.specs.Facilities.{structure_in}
use Rattle.qsg_manager.specs.Storage.{task_in, manager_in, task_at}
use Rattle.qsg_manager.proofs.Grouping.{manager_same, manager_other}
use Rattle.qsg_logs.specs.Cuts.{restarted}
use Rattle.qsg_logs.specs.Kept.{KeptLog, no_fillings, filling_of, log_in}
use Rattle.qsg_datasets.specs.Kept.{sets_of}
use Rattle.qsg_logs.specs.Reading.{IsRead}
use Rattle.qsg_parts.specs.Owned.{Owned, HasMember}
use Rattle.qsg_crash.specs.Crashes.{committed_by, IsCrash, crashed}
use Rattle.qsg_start.specs.Steps.{started}
use Rattle.qsg_peer.specs.declared.phases.FailedLife.{FailedLife}
use Rattle.qsg_peer.specs.Steps.{mark_answer, with_mark_off, with_resolved}
use Rattle.qsg_steady.specs.Actions.{paged}
use Rattle.qsg_steady.specs.Standing.{pages_of, Spares}
use Rattle.qsg_steady.specs.Steady.{IsSteady}
use Rattle.qsg_steady.proofs.Acting.{held_of}
use Rattle.qsg_steady.proofs.Gives.{down_idle}
use Rattle.qsg_steady.proofs.Moving.{by_member}
use Rattle.qsg_steady.proofs.Places.{log_same, log_other}
use Rattle.qsg_lives.specs.Standing.{SparesOtherMembers, SparesAll}
use Rattle.qsg_lives.proofs.Downing.{down_other, down_length}
use Rattle.qsg_logs.specs.Held.{is_open, lengths_held}

-- a task stands as it stood where its member's storage and log are as they were, or as much of them as it looks at
stood : (k : Member) (t : TaskNo) (p q : Owned) → task_at k t q.managers ≡ task_at k t p.managers → filling_of t (log_in k q.logs) ≡ filling_of t (log_in k p.logs)
    → pages_of (task_at k t q.managers).unit (log_in k q.logs).writer.reserved ≡ pages_of (task_at k t p.managers).unit (log_in k p.logs).writer.reserved
    → length q.managers ≡ length p.managers → length q.logs ≡ length p.logs → length q.structures ≡ length p.structures → Spares k t p q
stood k t p q task filling pages members logs structures = λ i. record { task = task i; filling = filling i; pages = pages i; members = members i; logs = logs i; structures = structures i }

stood_beside : (k : Member) (t : TaskNo) (p q : Owned) → manager_in k q.managers ≡ manager_in k p.managers → log_in k q.logs ≡ log_in k p.logs → length q.managers ≡ length p.managers → length q.logs ≡ length p.logs → length q.structures ≡ length p.structures → Spares k t p q
stood_beside k t p q manager log members logs structures =
    stood k t p q (ap (λ (x : Manager). task_in t x.tasks) manager) (ap (filling_of t) log) (λ i. pages_of (task_in t (manager i).tasks).unit (log i).writer.reserved) members logs structures

pub crash_spares : (m : Member) (p q : Owned) → IsCrash m p q → SparesOtherMembers m p q
crash_spares m p q crash = subst (SparesOtherMembers m p) (sym crash.parts) (λ k t differ.
    stood_beside k t p (crashed m (log_in m q.logs) (sets_of m q.datasets) (committed_by crash.left m p) q.history.room p)
    (down_other m k p.managers differ) (log_other m k (log_in m q.logs) p.logs differ) (down_length m p.managers) (length-set p.logs (member_number m - 1) (log_in m q.logs)) refl)

-- ---- a read

read_stand : (t : TaskNo) (old new : KeptLog) → IsRead old new → (filling_of t new ≡ filling_of t old) × (new.writer ≡ old.writer)
read_stand t old new read = (ap (filling_of t) read.rest, ap (λ (x : KeptLog). x.writer) read.rest)

pub read_spares : (m : Member) (log : KeptLog) (p : Owned) → member_number m ≤ length p.logs → IsRead (log_in m p.logs) log → SparesAll p (paged m log p)
read_spares m log p has read k t = by_member (λ j. Spares j t p (paged m log p)) m here (λ j differ. stood_beside j t p (paged m log p) refl (log_other m j log p.logs differ) refl counts refl) k
  where
    counts : length (paged m log p).logs ≡ length p.logs
    counts = length-set p.logs (member_number m - 1) log

    here : Spares m t p (paged m log p)
    here =
        let same = log_same m log p.logs has in
        let stands = read_stand t (log_in m p.logs) log read in
        stood m t p (paged m log p) refl (ap (filling_of t) same ∙ stands.0) (ap (λ (x : KeptLog). pages_of (task_at m t p.managers).unit x.writer.reserved) same ∙ ap (λ w. pages_of (task_at m t p.managers).unit w.reserved) stands.1) refl counts refl

-- ---- a start

none_filled : (t : TaskNo) → slice_index_or no_fillings (task_number t) no_pages ≡ no_pages
none_filled t = elim t as (λ w. slice_index_or no_fillings (task_number w) no_pages ≡ no_pages) [
  | number.System ↦ refl
  | number.One ↦ refl
  | number.Two ↦ refl
  | number.Three ↦ refl
  | number.Four ↦ refl
]

pub start_spares : (a b : ℕ) (m : Member) (page : PageNo) (p : Owned) → IsSteady a b p → HasMember m p → (manager_in m p.managers).up ≡ false → SparesAll p (started m page p)
start_spares a b m page p s has down k t = by_member (λ j. Spares j t p (started m page p)) m here
    (λ j differ. stood_beside j t p (started m page p) (manager_other m j x p.managers differ) (log_other m j log p.logs differ) members logs refl) k
  where
    x : Manager
    x = record (manager_in m p.managers) { up = true; incarnation = next_incarnation m p.repo; next = 1 }

    log : KeptLog
    log = restarted page.number (log_in m p.logs)

    members : length (started m page p).managers ≡ length p.managers
    members = length-set p.managers (member_number m - 1) x

    logs : length (started m page p).logs ≡ length p.logs
    logs = length-set p.logs (member_number m - 1) log

    idles : task_at m t p.managers ≡ idle
    idles = down_idle a b p m t s down

    task : task_at m t (started m page p).managers ≡ task_at m t p.managers
    task = ap (λ (y : Manager). task_in t y.tasks) (manager_same m x p.managers has.manager)

    same : log_in m (started m page p).logs ≡ log
    same = log_same m log p.logs has.log

    filling : filling_of t (log_in m p.logs) ≡ no_pages
    filling = (held_of a b p m s has).fillings t (ap (λ (y : Task). is_open y.stage) idles) ∙ ap (λ (y : Task). filled (lengths_held y)) idles

    here : Spares m t p (started m page p)
    here = stood m t p (started m page p) task (ap (filling_of t) same ∙ none_filled t ∙ sym filling)
        ((λ i. pages_of (task i).unit (same i).writer.reserved) ∙ ap (λ (y : Task). pages_of y.unit []) idles ∙ sym (ap (λ (y : Task). pages_of y.unit (log_in m p.logs).writer.reserved) idles))
        members logs refl

-- ---- peers

pub off_spares : (connection : Connection) (found : MarkedEntry) (commits : Bool) (p : Owned) → SparesAll p (with_mark_off connection found commits p)
off_spares connection found commits p k t =
    stood_beside k t p (with_mark_off connection found commits p) refl refl refl refl
    (length-set p.structures (structure_number connection.structure - 1) (revised_if_done (mark_answer connection found p) found.id (settled_entry commits) (structure_in connection.structure p.structures)))

pub resolve_spares : (life : FailedLife) (p : Owned) → SparesAll p (with_resolved life p)
resolve_spares life p k t = refl
