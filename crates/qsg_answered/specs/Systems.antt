-- the answers of system tasks
use Rattle.std.specs.Prelude.{ℕ, ◌≡◌, false, List, ◌++◌, length}
use Rattle.std.specs.List.{AllByRecursion, filter_map}
use Rattle.std.specs.Prelude.{Option, Some, None}
use Rattle.qsg_num.specs.declared.seats.Member.{Member}
use Rattle.qsg_num.specs.declared.ids.Incarnation.{Incarnation}
use Rattle.qsg_repo.specs.Calls.{is_unresolved}
use Rattle.qsg_requests.specs.declared.replies.Reason.TheVariants as reason
use Rattle.qsg_requests.specs.declared.replies.Reply.{Reply}
use Rattle.qsg_requests.specs.declared.replies.Reply.TheVariants as reply
use Rattle.qsg_requests.specs.declared.transcript.Answer.{Answer}
use Rattle.qsg_parts.specs.Owned.{Owned}
use Rattle.qsg_peer.specs.Machine.{IsOver}
use Rattle.qsg_peer.specs.Steps.{life_of}
use Rattle.qsg_peers.specs.Peers.{Peer, peer_of}
use Rattle.qsg_tallies.specs.declared.tally.Tally.{Tally}
use Rattle.qsg_step.specs.States.{State}
use Rattle.qsg_sound.specs.Tallying.{tally_of, IsCountedBy}
use Rattle.qsg_answered.specs.Timing.{AreTimed}

-- Resolved names an incarnation that has ended and isn't unresolved any more, and no more marks than the task took off
-- of it. GAVEUP names one that has ended.
pub record IsResolved (m : Member) (p : Owned) (tallies : List Tally) (of : Member) (i : Incarnation) (settled : ℕ) : Type 0 where
  pub over : IsOver (life_of (of, i)) p
  pub resolved : is_unresolved of i p.repo ≡ false
  pub counted : IsCountedBy m (tally_of of i tallies) settled

abbrev pub EndsSystem : Member → Owned → List Tally → Reply → Type 0
EndsSystem m p tallies (reply.Resolved of i settled) = IsResolved m p tallies of i settled
EndsSystem m p tallies (reply.Refused (reason.GaveUp of i why)) = IsOver (life_of (of, i)) p
EndsSystem m p tallies r = ⊥

abbrev pub FitsSystem : Member → Owned → List Tally → Answer → Type 0
FitsSystem m p tallies a = EndsSystem m p tallies a.reply

-- the incarnation that an answer gives up
abbrev pub given_up_by : Reply → Option (Member × Incarnation)
given_up_by (reply.Refused (reason.GaveUp of i why)) = Some (of, i)
given_up_by r = None

abbrev pub given_up_in : List Answer → List (Member × Incarnation)
given_up_in answers = filter_map (λ (a : Answer). given_up_by a.reply) answers

-- what a system task has given up is what its last answers gave up, those since its member last came up
pub record HasGivenUp (peer : Peer) : Type 0 where
  pub before : List Answer
  pub since : List Answer
  pub answers_are : peer.answers ≡ before ++ since
  pub given_up_is : peer.given_up ≡ given_up_in since

pub record IsSystemFitting (m : Member) (s : State) : Type 0 where
  pub answers : AllByRecursion (FitsSystem m s.parts s.tallies.rows) (peer_of m s.peers).answers
  pub given_up : HasGivenUp (peer_of m s.peers)
  pub timed : AreTimed 0 (length s.parts.history.items) (peer_of m s.peers).answers

abbrev pub AreSystemsFitting : State → Type 0
AreSystemsFitting s = (m : Member) → IsSystemFitting m s
