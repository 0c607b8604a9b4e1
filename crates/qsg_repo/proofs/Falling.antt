-- no call lets keep fall
use Rattle.std.proofs.Common.{ℕ, ◌≤◌, ◌≡◌, subst, ap, arith, Bool, true, false, cond, List, Option, Some, None, slice_set, get_or}
use Rattle.qsg_num.specs.declared.seats.Member.{Member}
use Rattle.qsg_num.specs.declared.seats.StructNo.{StructNo}
use Rattle.qsg_num.specs.declared.seats.TaskNo.{TaskNo}
use Rattle.qsg_num.specs.declared.ids.PageNo.{PageNo}
use Rattle.qsg_num.specs.declared.ids.Incarnation.{Incarnation}
use Rattle.qsg_num.specs.declared.ids.UnitName.{UnitName}
use Rattle.qsg_num.specs.Seats.{task_number}
use Rattle.qsg_repo.specs.declared.notes.Note.{Note}
use Rattle.qsg_repo.specs.Tables.{Repository, member_place, structure_place, page_at, low_of, note_at, hold_at, holds_of, recovers, with_low, with_note, with_hold}
use Rattle.qsg_repo.specs.Calls.{published, has_failed, later_page, noted, is_older_than, purged, crashed, held, note_held, lows_of_note, released}
use Rattle.qsg_repo.specs.Keeping.{keep, noted_page, IsFromHold, IsBeforeAllNeeded}
use Rattle.qsg_repo.proofs.Needed.{keep-before, keep-last, set-holds, tasks-set, tasks-at, members-set, members-at}

hold-set : (m k : Member) (t : TaskNo) (hold : Option (List PageNo)) (q : ℕ) (repo : Repository) → IsFromHold m q hold → IsBeforeAllNeeded m q repo → IsBeforeAllNeeded m q (with_hold k t hold repo)
hold-set m k t hold q repo g h = record {
  low = h.low;
  notes = h.notes;
  holds = members-set m q repo.holds (member_place k) (slice_set (holds_of k repo) (task_number t) hold) h.holds (tasks-set m q (holds_of k repo) (task_number t) hold (members-at m q repo.holds (member_place k) h.holds) g);
}

note-set : (m : Member) (s : StructNo) (note : Note) (q : ℕ) (repo : Repository) → q ≤ noted_page m (Some note) → IsBeforeAllNeeded m q repo → IsBeforeAllNeeded m q (with_note s note repo)
note-set m s note q repo g h = record {
  low = h.low;
  notes = λ r is. set-holds (λ o. q ≤ noted_page m o) repo.notes (structure_place r) (structure_place s) None (Some note) (h.notes r is) (λ e. g);
  holds = h.holds;
}

low-set : (m k : Member) (page : PageNo) (q : ℕ) (repo : Repository) → IsBeforeAllNeeded m q repo → IsBeforeAllNeeded m q (with_low k (later_page (low_of k repo) page) repo)
low-set m k page q repo h =
    let P : PageNo → Type 0 = λ p. q ≤ p.number in
    record {
      low = set-holds P repo.lows (member_place m) (member_place k) (page_at 0) (later_page (low_of k repo) page) h.low (λ e. let same : (low_of m repo).number ≡ (low_of k repo).number = ap (λ i. (get_or repo.lows i (page_at 0)).number) e in omega (arith, same, h.low));
      notes = h.notes;
      holds = h.holds;
    }

either : (b : Bool) (x y : Repository) (m : Member) (q : ℕ) → IsBeforeAllNeeded m q x → IsBeforeAllNeeded m q y → IsBeforeAllNeeded m q (cond b x y)
either true x y m q h g = h
either false x y m q h g = g

pub keep-published : (repo : Repository) (m k : Member) (page : PageNo) → keep m repo ≤ keep m (published k page repo)
keep-published repo m k page =
    let h = keep-before m repo in
    let q = keep m repo in
    keep-last m q (published k page repo) (either (has_failed k repo) repo (with_low k (later_page (low_of k repo) page) repo) m q h (low-set m k page q repo h))

pub keep-noted : (repo : Repository) (m k : Member) (t : TaskNo) (s : StructNo) (note : Note) → hold_at k t repo ≡ Some note.low → keep m repo ≤ keep m (noted k t s note repo)
keep-noted repo m k t s note e =
    let h = keep-before m repo in
    let q = keep m repo in
    let dropped = hold-set m k t None q repo tt h in
    let mine : IsFromHold m q (Some note.low) = subst (IsFromHold m q) e (tasks-at m q (holds_of k repo) (task_number t) (members-at m q repo.holds (member_place k) h.holds)) in
    keep-last m q (noted k t s note repo) (either (is_older_than (note_at s repo) note) (with_hold k t None repo) (with_note s note (with_hold k t None repo)) m q dropped (note-set m s note q (with_hold k t None repo) mine dropped))

pub keep-purged : (repo : Repository) (m : Member) (s : StructNo) (epoch : ℕ) (backup : UnitName) → keep m repo ≤ keep m (purged s epoch backup repo)
keep-purged repo m s epoch backup =
    let h = keep-before m repo in
    keep-last m (keep m repo) (purged s epoch backup repo) (note-set m s _ (keep m repo) repo h.low h)

pub keep-crashed : (repo : Repository) (m k : Member) (i : Incarnation) → keep m repo ≤ keep m (crashed k i repo)
keep-crashed repo m k i =
    let h = keep-before m repo in
    let q = keep m repo in
    keep-last m q (crashed k i repo) (record { low = h.low; notes = h.notes; holds = members-set m q repo.holds (member_place k) _ h.holds (tt, (tt, (tt, (tt, (tt, tt))))) })

pub keep-released : (repo : Repository) (m k : Member) (t : TaskNo) → keep m repo ≤ keep m (released k t repo)
keep-released repo m k t = keep-last m (keep m repo) (released k t repo) (hold-set m k t None (keep m repo) repo tt (keep-before m repo))

pub keep-held : (repo : Repository) (m k : Member) (t : TaskNo) → keep m repo ≤ keep m (held k t repo)
keep-held repo m k t =
    let h = keep-before m repo in
    keep-last m (keep m repo) (held k t repo) (hold-set m k t (Some repo.lows) (keep m repo) repo h.low h)

from-note : (m : Member) (q : ℕ) (note : Option Note) → q ≤ noted_page m note → IsFromHold m q (Some (lows_of_note note))
from-note m q None h = omega (arith, h)
from-note m q (Some note) h = h

pub keep-note_held : (repo : Repository) (m k : Member) (t : TaskNo) (s : StructNo) → recovers s repo ≡ true → keep m repo ≤ keep m (note_held k t s repo)
keep-note_held repo m k t s is =
    let h = keep-before m repo in
    let q = keep m repo in
    keep-last m q (note_held k t s repo) (hold-set m k t (Some (lows_of_note (note_at s repo))) q repo (from-note m q (note_at s repo) (h.notes s is)) h)
