-- a group in which nothing has happened has no tally, and no mark
use Rattle.std.proofs.Common.{◌≡◌, ◌-◌, ◌≤◌, List, [], ◌∷◌, length, true, false, None, sym, ap, subst, ◌∙◌, arith, true≢false}
use Rattle.std.specs.Prelude.{not, count_by, IsSome}
use Rattle.std.specs.List.{AllByRecursion}
use Rattle.qsg_num.specs.declared.seats.Member.{Member}
use Rattle.qsg_num.specs.Seats.{member_number}
use Rattle.qsg_repo.specs.declared.lives.Life.{Life}
use Rattle.qsg_repo.specs.Lives.{is_up, is_failed}
use Rattle.qsg_manager.specs.Marked.{marks_of}
use Rattle.qsg_lives.proofs.Clearing.{new_empty}
use Rattle.qsg_lives.proofs.Giving.{new_marks}
use Rattle.qsg_peers.specs.Peers.{Peer, new_peer, peer_of}
use Rattle.qsg_tallies.specs.declared.tally.Tally.{Tally}
use Rattle.qsg_tallies.specs.Tallies.{is_tally_of}
use Rattle.qsg_step.specs.States.{State}
use Rattle.qsg_sound.specs.Founding.{IsNewState}
use Rattle.qsg_sound.specs.Sound.{IsSound}
use Rattle.qsg_sound.specs.Tallying.{IsTallied, is_down, tally_of, IsWorkCounted, AreTallied}
use Rattle.qsg_sound.proofs.Founded.{new_sound, all_same}

-- where each incarnation is up, what is said of those that are down holds of all
all_up : (P : Life → Type 0) (ls : List Life) → AllByRecursion (λ (l : Life). is_up l.fate ≡ true) ls → AllByRecursion (λ (l : Life). is_down l ≡ true → P l) ls
all_up P [] each = tt
all_up P (l ∷ ls) each = ((λ down. absurd (true≢false (sym down ∙ ap not each.0))), all_up P ls each.1)

new_tallied : (s : State) → IsNewState s → AreTallied s
new_tallied s new =
    let none : s.tallies.rows ≡ [] = new.untallied in
    let idle : (m : Member) → (peer_of m s.peers).work ≡ None =
    λ m. ap (λ (l : List Peer). (peer_of m l).work) new.peers ∙ ap (λ (x : Peer). x.work) (all_same 8 (member_number m - 1) new_peer) in
    record {
      room = new.limit;
      rows = subst (λ (l : List Tally). length l ≤ count_by is_down s.parts.repo.lives) (sym none) (omega arith);
      tallied = subst (AllByRecursion (IsTallied s.parts)) (sym none) tt;
      apart = λ m i. subst (λ (l : List Tally). count_by (is_tally_of m i) l ≤ 1) (sym none) (omega arith);
      failed = all_up (λ (l : Life). IsSome (tally_of l.member l.incarnation s.tallies.rows)) s.parts.repo.lives new.ups;
      resolved = all_up (λ (l : Life). is_failed l.fate ≡ false → marks_of l.member l.incarnation s.parts.structures ≡ 0) s.parts.repo.lives new.ups;
      counted = λ m. subst (IsWorkCounted m s.tallies.rows) (sym (idle m)) tt;
      few = λ m i. let no = new_marks (record { member = m; incarnation = i }) s.parts new.parts in omega (arith, no);
      empty = new_empty s.parts new.parts;
      members = new.members;
    }

pub new_group_sound : (s : State) → IsNewState s → IsSound s
new_group_sound s new = new_sound s new (new_tallied s new)
