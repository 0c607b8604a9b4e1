-- a step that leaves all requests in progress keeps the group sound
use Rattle.std.proofs.Common.{◌≡◌, inl, inr, ℕ, ◌+◌, ◌≤◌, List, length, true, false, Option, None, sym, ap, subst, ◌∙◌}
use Rattle.std.specs.Prelude.{IfSome, ◌⊎◌}
use Rattle.std.specs.List.{AllByRecursion}
use Rattle.qsg_num.specs.declared.seats.Member.{Member}
use Rattle.qsg_num.specs.declared.seats.Member.TheVariants as member
use Rattle.qsg_num.specs.declared.seats.TaskNo.{TaskNo}
use Rattle.qsg_num.specs.declared.seats.TaskNo.TheVariants as task
use Rattle.qsg_num.specs.declared.ids.Actor.TheVariants as actor
use Rattle.qsg_num.specs.Seats.{member_number}
use Rattle.qsg_objects.specs.Registry.{Registry}
use Rattle.qsg_agenda.specs.Courses.{Course, next_of}
use Rattle.qsg_logs.specs.Held.{is_open}
use Rattle.qsg_manager.specs.Storage.{manager_in}
use Rattle.qsg_parts.specs.Owned.{Owned}
use Rattle.qsg_steady.specs.Standing.{Stand, Spares}
use Rattle.qsg_steady.specs.Steady.{IsSteady}
use Rattle.qsg_start.specs.Works.{Work as StartWork}
use Rattle.qsg_works.specs.declared.work.Work.{Work}
use Rattle.qsg_works.specs.InHand.{work_of}
use Rattle.qsg_fit.specs.Outcomes.{IsPlaced}
use Rattle.qsg_lives.specs.Standing.{SparesAll}
use Rattle.qsg_peer.specs.Sweeping.{AreOrdered}
use Rattle.qsg_peers.specs.Peers.{Peer}
use Rattle.qsg_tallies.specs.Tallies.{Tallied}
use Rattle.qsg_step.specs.States.{State}
use Rattle.qsg_sound.specs.Sound.{answers_given, in_progress, starts_left, IsCourseWithin, IsHand, IsSound, AreLogsKept, AreTypesKept}
use Rattle.qsg_sound.specs.Systems.{IsStarting}
use Rattle.qsg_sound.proofs.Keeping.{AreKept}
use Rattle.qsg_sound.proofs.Spared.{hand_spared}
use Rattle.qsg_sound.proofs.Standing.{AreSystemsSound}

-- A member is up as it was, or its tasks have no request in progress.
abbrev pub IsUpOrFree : Member → State → Owned → Type 0
IsUpOrFree k s q = ((manager_in k q.managers).up ≡ (manager_in k s.parts.managers).up) ⊎ ((w : TaskNo) → work_of k w s.works ≡ None)

-- what such a step leaves
pub record IsBeside (cs : List Course) (q : Owned) (s : State) : Type 0 where
  pub kept : AreKept (length s.parts.managers) cs
  pub steady : IsSteady (answers_given cs) (in_progress s.works) q
  pub objects : q.objects ≡ s.parts.objects
  pub spares : SparesAll s.parts q
  pub ups : (k : Member) → IsUpOrFree k s q
  pub ordered : AreOrdered q
  pub next : (k : Member) (w : TaskNo) → next_of (actor.Task k w) cs ≡ next_of (actor.Task k w) s.courses
  pub starts : starts_left cs + length q.repo.lives ≤ q.repo.starts

free_spared : (k : Member) (w : TaskNo) (cs after : List Course) (p q : Owned) → Spares k w p q → IsHand k w None cs p → IsHand k w None after q
free_spared k w cs after p q spares free =
    λ there. subst (λ (x : Stand). is_open x.task.stage ≡ true) (sym spares) (free (subst (λ (n : ℕ). member_number k ≤ n) (ap (λ (x : Stand). x.members) spares) there))

hand_beside : (k : Member) (w : TaskNo) (cs : List Course) (q : Owned) (s : State) → q.objects ≡ s.parts.objects → Spares k w s.parts q → IsUpOrFree k s q → AreLogsKept q → next_of (actor.Task k w) cs ≡ next_of (actor.Task k w) s.courses
    → IsHand k w (work_of k w s.works) s.courses s.parts → IsHand k w (work_of k w s.works) cs q
hand_beside k w cs q s objects spares (inl up) kept next hand = hand_spared k w (work_of k w s.works) s.courses cs s.parts q (record { objects = objects; up = up; stands = spares }) kept next hand
hand_beside k w cs q s objects spares (inr none) kept next hand =
    subst (λ (x : Option Work). IsHand k w x cs q) (sym (none w)) (free_spared k w s.courses cs s.parts q spares (subst (λ (x : Option Work). IsHand k w x s.courses s.parts) (none w) hand))

down_beside : (k : Member) (w : TaskNo) (q : Owned) (s : State) → IsSound s → IsUpOrFree k s q → (manager_in k q.managers).up ≡ false → work_of k w s.works ≡ None
down_beside k w q s sound (inl up) is = sound.down k w (sym up ∙ is)
down_beside k w q s sound (inr none) is = none w

-- the state that it left
abbrev pub beside : List Course → Owned → Option StartWork → List Peer → Tallied → State → State
beside cs q o peers tallies s = record s { parts = q; courses = cs; starting = o; peers = peers; tallies = tallies }

pub beside_sound : (cs : List Course) (q : Owned) (o : Option StartWork) (peers : List Peer) (tallies : Tallied) (s : State) → IsSound s → IsBeside cs q s → length peers ≡ 8 → IfSome o (λ w. IsStarting w (beside cs q o peers tallies s))
    → AreTypesKept (beside cs q o peers tallies s) → AreSystemsSound (beside cs q o peers tallies s) → IsSound (beside cs q o peers tallies s)
beside_sound cs q o peers tallies s sound is eight starting kept systems =
    let stands = is.spares member.One task.System in
    record {
      right = is.kept.right;
      within = subst (λ (n : ℕ). AllByRecursion (IsCourseWithin n) cs) (sym (ap (λ (x : Stand). x.members) stands)) is.kept.within;
      answered = is.kept.answered;
      few = is.kept.few;
      forty = sound.forty;
      dues = sound.dues;
      eight = eight;
      four = subst (λ (n : ℕ). n ≤ 4) (sym (ap (λ (x : Stand). x.structures) stands)) sound.four;
      steady = is.steady;
      kept = kept;
      ordered = is.ordered;
      placed = λ name. subst (λ (x : Registry). IsPlaced name x) (sym is.objects) (sound.placed name);
      hands = λ k w. hand_beside k w cs q s is.objects (is.spares k w) (is.ups k) kept.logs (is.next k w) (sound.hands k w);
      systems = sound.systems;
      owed = sound.owed;
      down = λ k w down. down_beside k w q s sound (is.ups k) down;
      peers = systems.peers;
      starting = starting;
      starts = is.starts;
      tallies = systems.tallies;
    }
