-- each step of a COMMIT or BACKOUT after its first leaves fewer of it, and the other tasks as they stood
use Rattle.std.proofs.Common.{◌≡◌, ℕ, ◌+◌, ◌<◌, ◌≤◌, length, Bool, true, false, cond, Option, Some, None, refl, sym, ap, subst, ◌∙◌, arith, inl, inr, true≢false}
use Rattle.std.specs.Prelude.{IsSome}
use Rattle.qsg_num.specs.declared.seats.Member.{Member}
use Rattle.qsg_num.specs.declared.seats.TaskNo.{TaskNo}
use Rattle.qsg_num.specs.declared.ids.PageNo.{PageNo}
use Rattle.qsg_num.specs.declared.ids.UnitName.{UnitName}
use Rattle.qsg_num.specs.Seats.{member_number, task_number}
use Rattle.qsg_requests.specs.declared.replies.Turn.{Turn}
use Rattle.qsg_requests.specs.declared.replies.Turn.TheVariants.{More}
use Rattle.qsg_logpage.specs.Log.{LogState}
use Rattle.qsg_repo.specs.Calls.{has_failed, later_page}
use Rattle.qsg_repo.specs.Tables.{Repository, low_of, with_low}
use Rattle.qsg_group.specs.declared.tasks.Claim.{Claim}
use Rattle.qsg_group.specs.declared.tasks.Task.{Task}
use Rattle.qsg_group.specs.Group.{idle}
use Rattle.qsg_group.specs.Observers.{is_hardening}
use Rattle.qsg_group.proofs.Tables.{cases_member}
use Rattle.qsg_manager.specs.Settles.{next_claim, further}
use Rattle.qsg_manager.specs.Storage.{manager_in, task_at, with_task}
use Rattle.qsg_manager.specs.Units.{decided, safe_stage}
use Rattle.qsg_logs.specs.Kept.{KeptLog, log_in, with_ended}
use Rattle.qsg_parts.specs.Owned.{Owned, HasMember}
use Rattle.qsg_commit.specs.declared.phases.Phase.{Phase}
use Rattle.qsg_commit.specs.declared.phases.Phase.TheVariants.{Pages, Settle, Publish, Undo}
use Rattle.qsg_commit.specs.Committing.{is_none, at_log, IsPageStep, IsFailedPage}
use Rattle.qsg_commit.specs.Ending.{settled_by, settled, is_settled, ended, low_page, published}
use Rattle.qsg_commit.specs.Next.{unit_ended, after_page, after_settle, after_undo}
use Rattle.qsg_fit.proofs.Opened.{task_stored}
use Rattle.qsg_works.specs.InHand.{IsOther}
use Rattle.qsg_pace.specs.Pace.{left_of_run, left_of_end, marks_left}
use Rattle.qsg_pace.proofs.Looking.{hand_in, hand_other, size_in, size_kept, IsBeside, still_beside, both_beside, tasked_beside, acted_beside}
use Rattle.qsg_pace.proofs.Requests.{Lowers}
use Rattle.qsg_pace.proofs.Pages.{page_less, run_some, advanced_size}
use Rattle.qsg_pace.proofs.Marks.{mark_less, hardened_left}

abbrev pub left_at : Member → TaskNo → Phase → Owned → ℕ
left_at m t phase p = left_of_end phase (task_at m t p.managers) (hand_in m p.logs)

abbrev pub marks_at : Member → TaskNo → Owned → ℕ
marks_at m t p = marks_left (task_at m t p.managers)

-- what a step makes of what is left of its request
pub record Ends (m : Member) (t : TaskNo) (p q : Owned) (turn : Turn) (old new : Phase) : Type 0 where
  pub beside : IsBeside m t p q
  pub lowers : Lowers turn (left_at m t new q) (left_at m t old p)

-- the group has the member, with its five tasks
pub record IsThere (m : Member) (p : Owned) : Type 0 where
  pub has : HasMember m p
  pub five : length (manager_in m p.managers).tasks ≡ 5

pub stored : (m : Member) (t : TaskNo) (y : Task) (p : Owned) → IsThere m p → task_at m t (with_task m t y p.managers) ≡ y
stored m t y p there = task_stored m t y p.managers there.has.manager there.five

-- ---- a mark

-- the next mark came off, if there was one
pub record IsMarkOff (u : UnitName) (t : TaskNo) (p q : Owned) : Type 0 where
  pub beside : IsBeside u.member t p q
  pub fewer : is_settled u t q ≡ false → marks_at u.member t q + 1 ≡ marks_at u.member t p

mark_by : (p : Owned) (t : TaskNo) (u : UnitName) (next : Option Claim) → IsThere u.member p → next_claim (task_at u.member t p.managers) ≡ next → IsMarkOff u t p (settled_by u t next p)
mark_by p t u None there is = record { beside = still_beside u.member t p; fewer = λ some. absurd (true≢false (sym (ap is_none is) ∙ some)) }
mark_by p t u (Some c) there is =
    let task = task_at u.member t p.managers in
    let y = record task { stage = further task.stage } in
    let now = ap marks_left (stored u.member t y p there) in
    let less = mark_less task.stage task.claims c is in
    record { beside = tasked_beside u.member t y _ p; fewer = λ some. omega (arith, now, less) }

mark_off : (p : Owned) (t : TaskNo) (u : UnitName) → IsThere u.member p → IsMarkOff u t p (settled u t p)
mark_off p t u there = mark_by p t u (next_claim (task_at u.member t p.managers)) there refl

pub settle_ends : (p : Owned) (t : TaskNo) (u : UnitName) (count : ℕ) → IsThere u.member p → Ends u.member t p (after_settle t u count p).parts More (Settle u count) (after_settle t u count p).phase
settle_ends p t u count there = record { beside = off.beside; lowers = by (is_settled u t q) refl }
  where
    q : Owned
    q = settled u t p

    off : IsMarkOff u t p q
    off = mark_off p t u there

    by : (z : Bool) → is_settled u t q ≡ z → left_at u.member t (cond z (Publish u count) (Settle u count)) q < marks_at u.member t p + 2
    by true is = omega arith
    by false is = omega (arith, off.fewer is)

-- ---- the end

ended_beside : (p : Owned) (t : TaskNo) (u : UnitName) → IsBeside u.member t p (ended u t p)
ended_beside p t u = acted_beside u.member t idle (with_ended t u (log_in u.member p.logs)) p.structures p refl refl

-- a member that tells its low page leaves the incarnations
low_lives : (m : Member) (page : PageNo) (b : Bool) (repo : Repository) → (cond b repo (with_low m page repo)).lives ≡ repo.lives
low_lives m page true repo = refl
low_lives m page false repo = refl

low_starts : (m : Member) (page : PageNo) (b : Bool) (repo : Repository) → (cond b repo (with_low m page repo)).starts ≡ repo.starts
low_starts m page true repo = refl
low_starts m page false repo = refl

pub publish_ends : (p : Owned) (t : TaskNo) (u : UnitName) (count : ℕ) → Ends u.member t p (published u t p) (unit_ended u count) (Publish u count) (Publish u count)
publish_ends p t u count =
    let end = ended_beside p t u in
    let m = u.member in
    let page = later_page (low_of m p.repo) (low_page m (ended u t p)) in
    record {
      beside = record { tasks = end.tasks; hands = end.hands; sizes = end.sizes; lives = low_lives m page (has_failed m p.repo) p.repo; starts = low_starts m page (has_failed m p.repo) p.repo };
      lowers = omega arith;
    }

-- ---- a mark of a unit that is given up; the last one ends it

pub record IsUndone (u : UnitName) (t : TaskNo) (p q : Owned) (turn : Turn) (new : Phase) : Type 0 where
  pub beside : IsBeside u.member t p q
  pub lowers : Lowers turn (left_at u.member t new q) (marks_at u.member t p + 1)

pub undone : (p : Owned) (t : TaskNo) (u : UnitName) (count : ℕ) (at : Phase) → IsThere u.member p → IsUndone u t p (after_undo t u count at p).parts (after_undo t u count at p).turn (after_undo t u count at p).phase
undone p t u count at there = by (is_settled u t q) refl
  where
    q : Owned
    q = settled u t p

    off : IsMarkOff u t p q
    off = mark_off p t u there

    by : (z : Bool) → is_settled u t q ≡ z → IsUndone u t p (cond z (ended u t q) q) (cond z (unit_ended u count) More) (cond z at (Undo u count))
    by true is = record { beside = both_beside u.member t p q (ended u t q) off.beside (ended_beside q t u); lowers = omega arith }
    by false is = record { beside = off.beside; lowers = omega (arith, off.fewer is) }

pub undo_ends : (p : Owned) (t : TaskNo) (u : UnitName) (count : ℕ) → IsThere u.member p → Ends u.member t p (after_undo t u count (Undo u count) p).parts (after_undo t u count (Undo u count) p).turn (Undo u count) (after_undo t u count (Undo u count) p).phase
undo_ends p t u count there = let all = undone p t u count (Undo u count) there in record { beside = all.beside; lowers = all.lowers }

-- ---- a page

-- the task writes its unit's run, which is in hand, and no other task of the member does
pub record IsWriting (m : Member) (t : TaskNo) (p : Owned) : Type 0 where
  pub hardens : is_hardening (task_at m t p.managers).stage ≡ true
  pub hand : IsSome (hand_in m p.logs)
  pub only : (w : TaskNo) → is_hardening (task_at m w p.managers).stage ≡ true → w ≡ t

-- the log of the member is another
logged : (m : Member) (t : TaskNo) (p : Owned) (log : KeptLog) → IsWriting m t p → (k : Member) (w : TaskNo) → IsOther m t k w → is_hardening (task_at k w p.managers).stage ≡ true → hand_in k (at_log m log p).logs ≡ hand_in k p.logs
logged m t p log own k w other hardens = elim (cases_member k m) [
  | inl same ↦ absurd (other (ap member_number same) (ap task_number (own.only w (subst (λ (x : Member). is_hardening (task_at x w p.managers).stage ≡ true) same hardens))))
  | inr differ ↦ hand_other m k log p.logs differ
]

pub page_ends : (p q : Owned) (t : TaskNo) (u : UnitName) (count : ℕ) (done : Bool) → IsThere u.member p → IsWriting u.member t p → IsPageStep u t done p q → Ends u.member t p q More (Pages u count) (after_page done u count)
page_ends p q t u count false there own step =
    let m = u.member in
    let less = page_less (log_in m p.logs).writer own.hand in
    let now = ap (λ (l : LogState). left_of_run l.hand) step.written.writer in
    let marks = ap (λ (x : Owned). marks_at m t x) step.made in
    record {
      beside = record {
        tasks = λ k w other. ap (λ (x : Owned). task_at k w x.managers) step.made;
        hands = λ k w other hardens. ap (λ (x : Owned). hand_in k x.logs) step.made ∙ logged m t p (log_in m q.logs) own k w other hardens;
        sizes = λ k. ap (λ (x : Owned). size_in k x.logs) step.made ∙ size_kept m (log_in m q.logs) p.logs (ap (λ (l : LogState). l.size) step.written.writer ∙ advanced_size (log_in m p.logs).writer) k;
        lives = ap (λ (x : Owned). x.repo.lives) step.made;
        starts = ap (λ (x : Owned). x.repo.starts) step.made;
      };
      lowers = omega (arith, less, now, marks);
    }
page_ends p q t u count true there own step =
    let m = u.member in
    let task = task_at m t p.managers in
    let some = run_some (hand_in m p.logs) own.hand in
    let y = decided (safe_stage task.stage) task in
    let marks = ap (λ (x : Owned). marks_at m t x) step.made.parts ∙ ap marks_left (stored m t y p there) in
    let left = hardened_left task.stage task.claims own.hardens in
    let acted = tasked_beside m t y p.structures p in
    record {
      beside = record {
        tasks = λ k w other. ap (λ (x : Owned). task_at k w x.managers) step.made.parts ∙ acted.tasks k w other;
        hands = λ k w other hardens. ap (λ (x : Owned). hand_in k x.logs) step.made.parts ∙ logged m t p (log_in m q.logs) own k w other hardens;
        sizes = λ k. ap (λ (x : Owned). size_in k x.logs) step.made.parts ∙ size_kept m (log_in m q.logs) p.logs (ap (λ (l : LogState). l.size) step.written.writer ∙ advanced_size (log_in m p.logs).writer) k;
        lives = ap (λ (x : Owned). x.repo.lives) step.made.parts;
        starts = ap (λ (x : Owned). x.repo.starts) step.made.parts;
      };
      lowers = omega (arith, some, marks, left);
    }

-- a page that failed leaves as many
pub record IsStill (m : Member) (t : TaskNo) (p q : Owned) (old new : Phase) : Type 0 where
  pub beside : IsBeside m t p q
  pub managers : q.managers ≡ p.managers
  pub same : left_at m t new q ≤ left_at m t old p

pub failed_still : (p q : Owned) (m : Member) (t : TaskNo) (u : UnitName) (count : ℕ) → IsWriting m t p → IsFailedPage m p q → IsStill m t p q (Pages u count) (Pages u count)
failed_still p q m t u count own failed =
    let now = ap (λ (l : LogState). left_of_run l.hand) failed.writer in
    let marks = ap (λ (x : Owned). marks_at m t x) failed.parts in
    record {
      beside = record {
        tasks = λ k w other. ap (λ (x : Owned). task_at k w x.managers) failed.parts;
        hands = λ k w other hardens. ap (λ (x : Owned). hand_in k x.logs) failed.parts ∙ logged m t p (log_in m q.logs) own k w other hardens;
        sizes = λ k. ap (λ (x : Owned). size_in k x.logs) failed.parts ∙ size_kept m (log_in m q.logs) p.logs (ap (λ (l : LogState). l.size) failed.writer) k;
        lives = ap (λ (x : Owned). x.repo.lives) failed.parts;
        starts = ap (λ (x : Owned). x.repo.starts) failed.parts;
      };
      managers = ap (λ (x : Owned). x.managers) failed.parts;
      same = omega (arith, now, marks);
    }
