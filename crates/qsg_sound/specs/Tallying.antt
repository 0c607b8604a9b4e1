-- what is counted of incarnations that failed, and what stands of their marks
use Rattle.std.specs.Prelude.{ℕ, ◌+◌, ◌^◌, ◌≡◌, ◌<◌, ◌≤◌, Bool, true, false, not, List, length, Option, Some, None, IsSome, find, count_by, sum_by}
use Rattle.std.specs.List.{AllByRecursion}
use Rattle.qsg_num.specs.declared.seats.Member.{Member}
use Rattle.qsg_num.specs.declared.ids.Incarnation.{Incarnation}
use Rattle.qsg_repo.specs.declared.lives.Life.{Life}
use Rattle.qsg_repo.specs.Lives.{is_up, is_failed}
use Rattle.qsg_repo.specs.Calls.{is_unresolved}
use Rattle.qsg_agenda.specs.Courses.{Course}
use Rattle.qsg_lives.specs.Marks.{AreEmptyUnlessActive}
use Rattle.qsg_manager.specs.Marked.{marks_of}
use Rattle.qsg_parts.specs.Owned.{Owned}
use Rattle.qsg_peer.specs.declared.phases.FailedLife.{FailedLife}
use Rattle.qsg_peer.specs.declared.phases.Phase.{Phase}
use Rattle.qsg_peer.specs.declared.phases.Phase.TheVariants.{Find, Low, At}
use Rattle.qsg_peer.specs.Machine.{IsOver}
use Rattle.qsg_peer.specs.Needs.{AreMembers}
use Rattle.qsg_peer.specs.Works.{Work as PeerWork}
use Rattle.qsg_peers.specs.Peers.{peer_of}
use Rattle.qsg_tallies.specs.declared.tally.Tally.{Tally}
use Rattle.qsg_tallies.specs.Tallies.{taken_off, count_in, is_tally_of}
use Rattle.qsg_step.specs.States.{State}

abbrev pub life_of : Tally → FailedLife
life_of tally = record { member = tally.member; incarnation = tally.incarnation }

-- The marks that named an incarnation when it failed are those that system tasks took off since and those that stand now.
-- None stands once it is resolved.
pub record IsTallied (p : Owned) (tally : Tally) : Type 0 where
  pub over : IsOver (life_of tally) p
  pub eight : length tally.counts ≡ 8
  pub marks : tally.marks ≡ taken_off tally + marks_of tally.member tally.incarnation p.structures
  pub few : tally.marks < 2 ^ 30
  pub clear : is_unresolved tally.member tally.incarnation p.repo ≡ false → marks_of tally.member tally.incarnation p.structures ≡ 0

abbrev pub is_down : Life → Bool
is_down l = not (is_up l.fate)

abbrev pub tally_of : Member → Incarnation → List Tally → Option Tally
tally_of m i tallies = find (is_tally_of m i) tallies

-- one incarnation has one tally
abbrev pub AreApart : List Tally → Type 0
AreApart tallies = (m : Member) (i : Incarnation) → count_by (is_tally_of m i) tallies ≤ 1

-- The incarnation on which a work works has a tally, and no more marks are counted by the work than its member's system
-- task took off.
abbrev pub IsCountedBy : Member → Option Tally → ℕ → Type 0
IsCountedBy m None settled = ⊥
IsCountedBy m (Some tally) settled = settled ≤ count_in m tally

abbrev pub IsCountedAt : Member → Phase → List Tally → ℕ → Type 0
IsCountedAt m Find tallies settled = settled ≡ 0
IsCountedAt m (Low life) tallies settled = (settled ≡ 0) × IsSome (tally_of life.member life.incarnation tallies)
IsCountedAt m (At life stage) tallies settled = IsCountedBy m (tally_of life.member life.incarnation tallies) settled

abbrev pub IsWorkCounted : Member → List Tally → Option PeerWork → Type 0
IsWorkCounted m tallies None = Unit {0}
IsWorkCounted m tallies (Some work) = IsCountedAt m work.phase tallies work.settled

-- an incarnation that has ended and isn't one that failed any more has no mark
abbrev pub IsClearOnceResolved : Owned → Life → Type 0
IsClearOnceResolved p l = is_down l ≡ true → is_failed l.fate ≡ false → marks_of l.member l.incarnation p.structures ≡ 0

-- Each incarnation that failed has a tally, which is true; a resolved one has no mark. There is room for those of all
-- incarnations that the repository can give, each of which is one of a member of the group. Each mark was set by a request
-- that was answered, and stands in a structure that is active.
pub record AreTallied (s : State) : Type 0 where
  pub room : s.parts.repo.starts ≤ s.tallies.limit
  pub rows : length s.tallies.rows ≤ count_by is_down s.parts.repo.lives
  pub tallied : AllByRecursion (IsTallied s.parts) s.tallies.rows
  pub apart : AreApart s.tallies.rows
  pub failed : AllByRecursion (λ (l : Life). is_down l ≡ true → IsSome (tally_of l.member l.incarnation s.tallies.rows)) s.parts.repo.lives
  pub resolved : AllByRecursion (IsClearOnceResolved s.parts) s.parts.repo.lives
  pub counted : (m : Member) → IsWorkCounted m s.tallies.rows (peer_of m s.peers).work
  pub few : (m : Member) (i : Incarnation) → marks_of m i s.parts.structures ≤ sum_by (λ (c : Course). length c.answers) s.courses
  pub empty : AreEmptyUnlessActive s.parts
  pub members : AreMembers s.parts
