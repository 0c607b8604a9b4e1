-- a group in which nothing has happened is sound
use Rattle.std.proofs.Common.{◌≡◌, ℕ, ◌-◌, ◌<◌, ◌≤◌, zero, suc, List, [], ◌∷◌, length, get_or, Bool, true, Option, None, refl, sym, ap, subst, ◌∙◌, arith}
use Rattle.std.specs.Prelude.{replicate, IfSome}
use Rattle.std.specs.List.{AllByRecursion}
use Rattle.std.proofs.lemmas.List.Sums.{sum_by-cons}
use Rattle.qsg_num.specs.declared.seats.Member.{Member}
use Rattle.qsg_num.specs.declared.seats.TaskNo.{TaskNo}
use Rattle.qsg_num.specs.declared.seats.TaskNo.TheVariants as number
use Rattle.qsg_num.specs.Seats.{member_number, structure_number}
use Rattle.qsg_lists.specs.declared.parts.Entry.{Entry}
use Rattle.qsg_lists.specs.Entries.{AreInOrder}
use Rattle.qsg_lists.specs.Structures.{ListStructure}
use Rattle.qsg_requests.specs.declared.transcript.Answer.{Answer}
use Rattle.qsg_agenda.specs.Courses.{Course, AreAnswered, IsAnswered}
use Rattle.qsg_logs.specs.Held.{is_open}
use Rattle.qsg_manager.specs.declared.managers.Manager.{Manager}
use Rattle.qsg_manager.specs.Facilities.{no_structure}
use Rattle.qsg_manager.specs.Storage.{task_in, no_manager, manager_in}
use Rattle.qsg_start.specs.Works.{Work as StartWork}
use Rattle.qsg_steady.specs.Founding.{new_manager, IsNewStructure}
use Rattle.qsg_steady.specs.Steady.{IsSteady}
use Rattle.qsg_steady.proofs.Founded.{founded}
use Rattle.qsg_steady.proofs.Places.{member_some}
use Rattle.qsg_works.specs.declared.work.Work.{Work}
use Rattle.qsg_works.specs.InHand.{place, work_of}
use Rattle.qsg_peer.specs.Sweeping.{AreOrdered}
use Rattle.qsg_peer.specs.Works.{Work as PeerWork}
use Rattle.qsg_peers.specs.Peers.{Peer, new_peer, peer_of}
use Rattle.qsg_parts.specs.Owned.{Owned}
use Rattle.qsg_step.specs.States.{State}
use Rattle.qsg_sound.specs.Founding.{IsUnanswered, IsNewState}
use Rattle.qsg_sound.specs.Sound.{answers_given, in_progress, IsHand, IsSound}
use Rattle.qsg_sound.specs.Systems.{IsPeerKept, IsStartKept, IsPeerAt, IsStarting}
use Rattle.qsg_sound.specs.Tallying.{AreTallied}

none_given : (cs : List Course) → AllByRecursion IsUnanswered cs → answers_given cs ≡ 0
none_given [] each = refl
none_given (c ∷ cs) each =
    let none : length c.answers ≡ 0 = ap (λ (l : List Answer). length l) each.0 in
    omega (arith, sum_by-cons (λ (x : Course). length x.answers) c cs, none, none_given cs each.1)

none_answered : (cs : List Course) → AllByRecursion IsUnanswered cs → AllByRecursion IsAnswered cs
none_answered [] each = tt
none_answered (c ∷ cs) each = (subst (AreAnswered c.directives) (sym each.0) (none c.directives), none_answered cs each.1)
  where
    none : (ds : List _) → AreAnswered ds []
    none [] = tt
    none (d ∷ ds) = tt

pub all_same : {X : Type 0} (n i : ℕ) (x : X) → get_or (replicate n x) i x ≡ x
all_same zero i x = refl
all_same (suc n) zero x = refl
all_same (suc n) (suc i) x = all_same n i x

new_at : (xs : List Manager) (i : ℕ) → AllByRecursion (λ (x : Manager). x ≡ new_manager) xs → i < length xs → get_or xs i no_manager ≡ new_manager
new_at [] i each less = absurd (omega (arith, less))
new_at (x ∷ xs) zero each less = each.0
new_at (x ∷ xs) (suc i) each less = new_at xs i each.1 (omega (arith, less))

new_open : (t : TaskNo) → is_open (task_in t new_manager.tasks).stage ≡ true
new_open number.System = refl
new_open number.One = refl
new_open number.Two = refl
new_open number.Three = refl
new_open number.Four = refl

-- structures without entries are in order
no_entries : (xs : List ListStructure) (i : ℕ) → AllByRecursion IsNewStructure xs → (get_or xs i no_structure).entries ≡ []
no_entries [] i each = refl
no_entries (x ∷ xs) zero each = each.0.entries
no_entries (x ∷ xs) (suc i) each = no_entries xs i each.1

new_ordered : (p : Owned) → AllByRecursion IsNewStructure p.structures → AreOrdered p
new_ordered p each = record {
  ordered = λ s. subst AreInOrder (sym (no_entries p.structures (structure_number s - 1) each)) tt;
  above = λ s. subst (AllByRecursion (λ (e : Entry). 0 < e.id.number)) (sym (no_entries p.structures (structure_number s - 1) each)) tt;
}

pub new_sound : (s : State) → IsNewState s → AreTallied s → IsSound s
new_sound s new tallies =
    let managers = s.parts.managers in
    let first : (m : Member) → member_number m ≤ length managers → manager_in m managers ≡ new_manager =
    λ m there. new_at managers (member_number m - 1) new.parts.managers (omega (arith, there, member_some m)) in
    let none : (m : Member) (t : TaskNo) → work_of m t s.works ≡ None =
    λ m t. ap (λ (l : List (Option Work)). work_of m t l) new.works ∙ all_same 40 (place m t) None in
    let idle : (m : Member) → (peer_of m s.peers).work ≡ None =
    λ m. ap (λ (l : List Peer). (peer_of m l).work) new.peers ∙ ap (λ (x : Peer). x.work) (all_same 8 (member_number m - 1) new_peer) in
    record {
      right = new.right;
      within = new.within;
      answered = none_answered s.courses new.unanswered;
      few = new.few;
      forty = ap (λ l. length l) new.works;
      dues = ap (λ (l : List Bool). length l) new.due;
      eight = ap (λ (l : List Peer). length l) new.peers;
      four = new.four;
      steady = subst (λ (n : ℕ). IsSteady n (in_progress s.works) s.parts) (sym (none_given s.courses new.unanswered)) (subst (λ (n : ℕ). IsSteady 0 n s.parts) (sym (ap in_progress new.works)) (founded s.parts new.parts));
      kept = record {
        logs = new.logs;
        structures = new.structures;
        peers = λ m. subst (λ (o : Option PeerWork). IfSome o IsPeerKept) (sym (idle m)) tt;
        starting = subst (λ (o : Option StartWork). IfSome o IsStartKept) (sym new.starting) tt;
      };
      ordered = new_ordered s.parts new.parts.structures;
      placed = new.placed;
      hands = λ m t. subst (λ (x : Option Work). IsHand m t x s.courses s.parts) (sym (none m t)) (λ there. ap (λ (x : Manager). is_open (task_in t x.tasks).stage) (first m there) ∙ new_open t);
      systems = λ m. none m number.System;
      owed = λ m t is. none m t;
      down = λ m t is. none m t;
      peers = λ m. subst (λ (o : Option PeerWork). IfSome o (λ w. IsPeerAt m w s)) (sym (idle m)) tt;
      starting = subst (λ (o : Option StartWork). IfSome o (λ w. IsStarting w s)) (sym new.starting) tt;
      starts = new.starts;
      tallies = tallies;
    }
