-- a step of a system task, from the steps that the code makes
use Rattle.std.proofs.Common.{◌≡◌, ℕ, ◌-◌, ◌<◌, ◌≤◌, true, List, length, Option, Some, None, Ok, refl, ap, sym, ◌∙◌, subst, set-set, arith}
use Rattle.std.specs.Prelude.{IsSome, is_some}
use Rattle.std.proofs.lemmas.Bool.{false≢true}
use Rattle.std.proofs.lemmas.List.{get_or-set_same, set-get_or}
use Rattle.qsg_num.specs.declared.seats.Member.{Member}
use Rattle.qsg_num.specs.Seats.{member_number}
use Rattle.qsg_num.proofs.Ranges.{member-bounds}
use Rattle.qsg_parts.specs.Owned.{Owned}
use Rattle.qsg_peer.specs.declared.phases.FailedLife.{FailedLife}
use Rattle.qsg_peer.specs.Needs.{MayStepAt, takes_memory}
use Rattle.qsg_peer.specs.Works.{Work as PeerWork}
use Rattle.qsg_peers.specs.Peers.{Peer, new_peer, peer_of, with_peer, in_hand, Steps as PeerSteps}
use Rattle.qsg_tallies.specs.Tallies.{Tallied}
use Rattle.qsg_step.specs.States.{State}
use Rattle.qsg_step.specs.Steps.{peer_work_or, peer_work_before, peer_before, tallied, IsPeerStep, IsUnmade}
use Rattle.qsg_working.proofs.Directing.{some_injective}
use Rattle.qsg_working.proofs.Unmade.{unchanged}

-- the system tasks of all members, with a work in the hand of this one's
abbrev pub with_begun : Member → List Peer → List Peer
with_begun m peers = with_peer m (in_hand (peer_work_or m (peer_of m peers).work) (peer_of m peers)) peers

small : (m : Member) → member_number m - 1 < 8
small m = less (member-bounds m).1
  where
    less : member_number m ≤ 8 → member_number m - 1 < 8
    less most = omega (arith, most)

-- a work that is in hand already stays there
pub busy_begun : (m : Member) (peers : List Peer) → IsSome (peer_of m peers).work → peers ≡ with_begun m peers
busy_begun m peers busy = by (peer_of m peers).work refl busy
  where
    by : (held : Option PeerWork) → (peer_of m peers).work ≡ held → IsSome held → peers ≡ with_peer m (in_hand (peer_work_or m held) (peer_of m peers)) peers
    by None is busy = absurd (false≢true busy)
    by (Some w) is busy = sym (set-get_or peers (member_number m - 1) new_peer) ∙ ap (λ (h : Option PeerWork). with_peer m (record (peer_of m peers) { work = h }) peers) is

begun_at : (m : Member) (peers mid : List Peer) → length peers ≡ 8 → mid ≡ with_begun m peers → peer_of m mid ≡ in_hand (peer_work_or m (peer_of m peers).work) (peer_of m peers)
begun_at m peers mid eight is = ap (peer_of m) is ∙ get_or-set_same peers (member_number m - 1) (in_hand (peer_work_or m (peer_of m peers).work) (peer_of m peers)) new_peer (within (small m))
  where
    within : member_number m - 1 < 8 → member_number m - 1 < length peers
    within less = omega (arith, less, eight)

pub begun_work : (m : Member) (peers mid : List Peer) → length peers ≡ 8 → mid ≡ with_begun m peers → (peer_of m mid).work ≡ Some (peer_work_or m (peer_of m peers).work)
begun_work m peers mid eight is = ap (λ (p : Peer). p.work) (begun_at m peers mid eight is)

pub begun_busy : (m : Member) (peers mid : List Peer) → length peers ≡ 8 → mid ≡ with_begun m peers → IsSome (peer_of m mid).work
begun_busy m peers mid eight is = ap (λ (h : Option PeerWork). is_some h) (begun_work m peers mid eight is)

pub begun_may : (m : Member) (s : State) (mid : List Peer) → length s.peers ≡ 8 → mid ≡ with_begun m s.peers → MayStepAt (peer_work_before m s).phase s.parts → (work : PeerWork) → (peer_of m mid).work ≡ Some work → MayStepAt work.phase s.parts
begun_may m s mid eight is may work held = subst (λ (w : PeerWork). MayStepAt w.phase s.parts) (some_injective (peer_work_before m s) work (sym (begun_work m s.peers mid eight is) ∙ held)) may

-- a step of its work
pub peer_made : (m : Member) (s : State) (mid new : List Peer) (off : Option FailedLife) (at : ℕ) (q : Owned) (ts : Tallied) → length s.peers ≡ 8 → mid ≡ with_begun m s.peers → new ≡ with_peer m (peer_of m new) mid
    → ((work : PeerWork) → (peer_of m mid).work ≡ Some work → PeerSteps at work s.parts (Ok off) (peer_of m mid) (peer_of m new) q) → at ≡ length s.parts.history.items → ts ≡ tallied off m s.tallies
    → IsPeerStep m s (record s { parts = q; peers = new; tallies = ts })
peer_made m s mid new off at q ts eight is others steps so_long counted = record {
  off = off;
  peer = peer_of m new;
  parts = q;
  steps = subst (λ (p : Peer). PeerSteps (length s.parts.history.items) (peer_work_before m s) s.parts (Ok off) p (peer_of m new) q) (begun_at m s.peers mid eight is)
      (subst (λ (n : ℕ). PeerSteps n (peer_work_before m s) s.parts (Ok off) (peer_of m mid) (peer_of m new) q) so_long (steps (peer_work_before m s) (begun_work m s.peers mid eight is)));
  after = λ i. record s { parts = q; peers = own i; tallies = counted i };
}
  where
    own : new ≡ with_peer m (peer_of m new) s.peers
    own = others ∙ ap (with_peer m (peer_of m new)) is ∙ set-set s.peers (member_number m - 1) (peer_before m s) (peer_of m new)

-- only a work in hand wants memory for its step
pub wanting_held : (m : Member) (peers mid : List Peer) → mid ≡ with_begun m peers → takes_memory (peer_work_or m (peer_of m peers).work) ≡ true → mid ≡ peers
wanting_held m peers mid is takes = is ∙ by (peer_of m peers).work refl takes
  where
    by : (held : Option PeerWork) → (peer_of m peers).work ≡ held → takes_memory (peer_work_or m held) ≡ true → with_peer m (in_hand (peer_work_or m held) (peer_of m peers)) peers ≡ peers
    by None is takes = absurd (false≢true takes)
    by (Some w) is takes = ap (λ (h : Option PeerWork). with_peer m (record (peer_of m peers) { work = h }) peers) (sym is) ∙ set-get_or peers (member_number m - 1) new_peer

-- where it wanted memory, nothing changed
pub peer_not_made : (m : Member) (s : State) (mid new : List Peer) (q : Owned) → length s.peers ≡ 8 → mid ≡ with_begun m s.peers → (new ≡ mid) × (q ≡ s.parts) → ((work : PeerWork) → (peer_of m mid).work ≡ Some work → takes_memory work ≡ true) → IsUnmade s (record s { parts = q; peers = new })
peer_not_made m s mid new q eight is same takes = unchanged s (record s { parts = q; peers = new }) (λ i. record s { parts = same.1 i; peers = back i })
  where
    back : new ≡ s.peers
    back = same.0 ∙ wanting_held m s.peers mid is (takes (peer_work_before m s) (begun_work m s.peers mid eight is))
