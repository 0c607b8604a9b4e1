-- a group that works its plan, before its first step
use Rattle.std.specs.Prelude.{ℕ, ◌+◌, ◌^◌, ◌≡◌, ◌<◌, ◌≤◌, true, false, List, [], None, length, replicate}
use Rattle.std.specs.List.{AllByRecursion}
use Rattle.qsg_agenda.specs.Courses.{Course}
use Rattle.qsg_repo.specs.declared.lives.Life.{Life}
use Rattle.qsg_repo.specs.Lives.{is_up}
use Rattle.qsg_steady.specs.Founding.{IsNew}
use Rattle.qsg_fit.specs.Outcomes.{IsPlaced}
use Rattle.qsg_peer.specs.Needs.{AreMembers}
use Rattle.qsg_peers.specs.Peers.{new_peer}
use Rattle.qsg_step.specs.States.{State, IsCourseRight}
use Rattle.qsg_sound.specs.Sound.{directives_in, starts_left, IsCourseWithin, AreLogsKept, AreStructuresKept}

abbrev pub IsUnanswered : Course → Type 0
IsUnanswered c = c.answers ≡ []

-- Its parts are new, nothing is answered, no work is in hand, nothing is due or counted, each incarnation is up, and the
-- repository has one for each START, each of which has room for its tally.
pub record IsNewState (s : State) : Type 0 where
  pub parts : IsNew s.parts
  pub logs : AreLogsKept s.parts
  pub structures : AreStructuresKept s.parts
  pub placed : (name : List ℕ) → IsPlaced name s.parts.objects
  pub right : AllByRecursion IsCourseRight s.courses
  pub within : AllByRecursion (IsCourseWithin (length s.parts.managers)) s.courses
  pub unanswered : AllByRecursion IsUnanswered s.courses
  pub few : directives_in s.courses < 2 ^ 30
  pub four : length s.parts.structures ≤ 4
  pub works : s.works ≡ replicate 40 None
  pub due : s.due ≡ replicate 40 false
  pub peers : s.peers ≡ replicate 8 new_peer
  pub starting : s.starting ≡ None
  pub lives : length s.parts.repo.lives ≡ length s.parts.managers
  pub members : AreMembers s.parts
  pub ups : AllByRecursion (λ (l : Life). is_up l.fate ≡ true) s.parts.repo.lives
  pub starts : starts_left s.courses + length s.parts.repo.lives ≤ s.parts.repo.starts
  pub limit : s.parts.repo.starts ≤ s.tallies.limit
  pub untallied : s.tallies.rows ≡ []
