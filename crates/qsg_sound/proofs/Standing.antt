-- a START in progress while others make steps, and what is left to say of system tasks
use Rattle.std.proofs.Common.{◌≡◌, ℕ, ◌-◌, ◌≤◌, List, length, true, false, Option, Some, None, sym, ap, subst, ◌∙◌, true≢false}
use Rattle.std.specs.Prelude.{IfSome, slice_index_or}
use Rattle.qsg_num.specs.declared.seats.Member.{Member}
use Rattle.qsg_num.specs.declared.ids.Actor.TheVariants as actor
use Rattle.qsg_num.specs.declared.ids.PageNo.{PageNo}
use Rattle.qsg_num.specs.Seats.{member_number}
use Rattle.qsg_disk.specs.Byte.{Byte}
use Rattle.qsg_repo.specs.Tables.{low_of}
use Rattle.qsg_agenda.specs.Courses.{next_of}
use Rattle.qsg_logs.specs.Kept.{KeptLog, log_in}
use Rattle.qsg_logs.specs.Reading.{IsRead}
use Rattle.qsg_manager.specs.Storage.{no_manager, manager_in}
use Rattle.qsg_parts.specs.Owned.{Owned, HasMember}
use Rattle.qsg_steady.specs.Steady.{IsSteady}
use Rattle.qsg_steady.proofs.Gives.{member_has}
use Rattle.qsg_walk.specs.Following.{Follows}
use Rattle.qsg_start.specs.Works.{Work as StartWork}
use Rattle.qsg_peers.specs.Peers.{peer_of}
use Rattle.qsg_step.specs.States.{State, is_member_up}
use Rattle.qsg_sound.specs.Systems.{IsPeerAt, IsStarting}
use Rattle.qsg_sound.specs.Tallying.{AreTallied}
use Rattle.qsg_sound.proofs.Leaving.{LeavesOthers}

-- what holds of the works of system tasks, and of what is counted
pub record AreSystemsSound (r : State) : Type 0 where
  pub peers : (m : Member) → IfSome (peer_of m r.peers).work (λ work. IsPeerAt m work r)
  pub tallies : AreTallied r

-- a member that is up isn't one that is down
pub ups_apart : (m k : Member) (s : State) → is_member_up m s ≡ true → is_member_up k s ≡ false → member_number k ≡ member_number m → ⊥
ups_apart m k s up down same = true≢false (sym up ∙ sym (ap (λ (n : ℕ). (slice_index_or s.parts.managers (n - 1) no_manager).up) same) ∙ down)

-- the member of a START, the pages of its log and its low page are as they were
pub record IsStartLeft (m : Member) (p q : Owned) : Type 0 where
  pub up : (manager_in m q.managers).up ≡ (manager_in m p.managers).up
  pub size : (log_in m q.logs).writer.size ≡ (log_in m p.logs).writer.size
  pub tells : (log_in m q.logs).tells ≡ (log_in m p.logs).tells
  pub bytes : (log_in m p.logs).tells ≡ true → (log_in m q.logs).bytes ≡ (log_in m p.logs).bytes
  pub low : low_of m q.repo ≡ low_of m p.repo

pub left_by : (m : Member) (p q : Owned) → (manager_in m q.managers).up ≡ (manager_in m p.managers).up → log_in m q.logs ≡ log_in m p.logs → low_of m q.repo ≡ low_of m p.repo → IsStartLeft m p q
left_by m p q up log low = record {
  up = up;
  size = ap (λ (l : KeptLog). l.writer.size) log;
  tells = ap (λ (l : KeptLog). l.tells) log;
  bytes = λ tells. ap (λ (l : KeptLog). l.bytes) log;
  low = low;
}

pub left_read : (m : Member) (p q : Owned) → (manager_in m q.managers).up ≡ (manager_in m p.managers).up → IsRead (log_in m p.logs) (log_in m q.logs) → low_of m q.repo ≡ low_of m p.repo → IsStartLeft m p q
left_read m p q up read low = record {
  up = up;
  size = ap (λ (l : KeptLog). l.writer.size) read.rest;
  tells = ap (λ (l : KeptLog). l.tells) read.rest;
  bytes = read.bytes;
  low = low;
}

pub starting_kept : (w : StartWork) (s r : State) → next_of actor.Operator r.courses ≡ next_of actor.Operator s.courses → HasMember w.member r.parts → IsStartLeft w.member s.parts r.parts → IsStarting w s → IsStarting w r
starting_kept w s r next member left is =
    let old = log_in w.member s.parts.logs in
    let new = log_in w.member r.parts.logs in
    record {
      asked = next ∙ is.asked;
      member = member;
      down = left.up ∙ is.down;
      checked = is.checked;
      follows = λ walks tells.
          let told : old.tells ≡ true = sym left.tells ∙ tells in
          subst (λ (page : PageNo). Follows page.number new.writer.size new.bytes w.walk) (sym left.low)
          (subst (λ (n : ℕ). Follows (low_of w.member s.parts.repo).number n new.bytes w.walk) (sym left.size)
          (subst (λ (l : List Byte). Follows (low_of w.member s.parts.repo).number old.writer.size l w.walk) (sym (left.bytes told)) (is.follows walks told)));
      low = λ walks. subst (λ (page : PageNo). page.number ≤ w.walk.next) (sym left.low) (is.low walks);
    }

-- a step of a member that is up leaves a START so
pub starting_beside : (m : Member) (s r : State) (a b : ℕ) → is_member_up m s ≡ true → next_of actor.Operator r.courses ≡ next_of actor.Operator s.courses → ((k : Member) → is_member_up k r ≡ is_member_up k s) → LeavesOthers m s.parts r.parts
    → length r.parts.managers ≡ length s.parts.managers → IsSteady a b r.parts → (o : Option StartWork) → IfSome o (λ w. IsStarting w s) → IfSome o (λ w. IsStarting w r)
starting_beside m s r a b up next ups left members steady None is = tt
starting_beside m s r a b up next ups left members steady (Some w) is =
    let differ = ups_apart m w.member s up is.down in
    starting_kept w s r next (member_has a b r.parts w.member steady (subst (λ (n : ℕ). member_number w.member ≤ n) (sym members) is.member.manager))
    (left_by w.member s.parts r.parts (ups w.member) (left.logs w.member differ) (left.lows w.member differ)) is
