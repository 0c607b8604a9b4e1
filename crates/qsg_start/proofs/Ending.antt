-- a walk ends before the page that is written next
use Rattle.std.proofs.Common.{◌≡◌, ◌⊎◌, inl, inr, ℕ, ◌+◌, ◌-◌, ◌/◌, ◌≤◌, min, List, length, None, sym, ap, ◌∙◌, arith}
use Rattle.std.proofs.lemmas.Bool.{cases_lt}
use Rattle.qsg_num.specs.declared.seats.Member.{Member}
use Rattle.qsg_disk.specs.Byte.{Byte}
use Rattle.qsg_logpage.specs.Page.{page_at}
use Rattle.qsg_logpage.specs.Log.{LogState, IsTied, pages_written}
use Rattle.qsg_logpage.proofs.Cuts.{all_open, whole_open}
use Rattle.qsg_logs.specs.Kept.{log_in}
use Rattle.qsg_parts.specs.Owned.{Owned}
use Rattle.qsg_walk.specs.Walks.{Walk}
use Rattle.qsg_walk.specs.Following.{read_at, Follows}
use Rattle.qsg_walk.proofs.Reading.{read_all, none_at_next, none_behind, written_read}
use Rattle.qsg_start.specs.Following.{IsFollowed}

-- pages that stand from a page on stand from any later one on that is written
tied_from : (keep first : ℕ) (log : LogState) (bytes : List Byte) → keep ≤ first → first ≤ log.next → IsTied keep log bytes → IsTied first log bytes
tied_from keep first log bytes above within tied = record {
  from = within;
  room = omega (arith, tied.room, above);
  stands = λ k from less. tied.stands k (omega (arith, above, from)) less;
  at_next = tied.at_next;
  later = tied.later;
}

ends_at : (first : ℕ) (log : LogState) (bytes : List Byte) (w : Walk) → log.hand ≡ None → IsTied first log bytes → log.next ≤ 4290000000 → Follows first log.size bytes w → w.left ≡ 0 → w.next ≡ log.next
ends_at first log bytes w idle tied small follows left = omega (arith, follows.next, ap (λ (l : List (List ℕ)). length l) all_are, long, tied.from)
  where
    unread : read_at bytes log.size log.next ≡ None
    unread = none_at_next first log bytes idle tied

    behind : (length follows.all ≡ min log.size (4290000000 - first)) → (length follows.all ≡ log.size) ⊎ (read_at bytes log.size (first + length follows.all) ≡ None)
    behind is = elim (cases_lt (4290000000 - first) log.size) [
      | inl fewer ↦ inr (none_behind first log bytes unread tied (first + length follows.all) (omega (arith, is, fewer, small, tied.from)) (omega (arith, is, fewer, small, tied.from)))
      | inr over ↦ inl (omega (arith, is, over))
    ]

    stops : (length follows.all ≡ log.size) ⊎ (read_at bytes log.size (first + length follows.all) ≡ None)
    stops = elim follows.left [ inl e ↦ behind (omega (arith, e, left)) | inr z ↦ inr z.2 ]

    all_are : follows.all ≡ pages_written first log bytes
    all_are = sym (read_all bytes log.size first log.size follows.all follows.read follows.few stops) ∙ written_read first log bytes unread tied

    long : length (pages_written first log bytes) ≡ log.next - first
    long = all_open log.size bytes first (log.next - first) (λ k above less. let s = tied.stands k above (omega (arith, tied.from, less)) in whole_open (k / log.size) s.body (page_at bytes log.size k) s.whole)

pub walk_ends : (m : Member) (keep first : ℕ) (p : Owned) (walk : Walk) → (log_in m p.logs).writer.hand ≡ None → IsTied keep (log_in m p.logs).writer (log_in m p.logs).bytes → keep ≤ first → first ≤ (log_in m p.logs).writer.next
    → (log_in m p.logs).writer.next ≤ 4290000000 → IsFollowed m first p walk → walk.left ≡ 0 → walk.next ≡ (log_in m p.logs).writer.next
walk_ends m keep first p walk idle tied above within small follows left =
    ends_at first (log_in m p.logs).writer (log_in m p.logs).bytes walk idle (tied_from keep first (log_in m p.logs).writer (log_in m p.logs).bytes above within tied) small follows left
