-- a step of a system task keeps the group sound
use Rattle.std.proofs.Common.{◌≡◌, inl, inr, ℕ, ◌-◌, ◌≤◌, List, length, Option, Some, None, Ok, refl, sym, ap, subst, ◌∙◌, arith, length-set}
use Rattle.std.specs.Prelude.{IfSome}
use Rattle.std.proofs.lemmas.List.{length-map}
use Rattle.qsg_num.specs.declared.seats.Member.{Member}
use Rattle.qsg_num.specs.declared.ids.Actor.TheVariants as actor
use Rattle.qsg_num.specs.declared.ids.Incarnation.{Incarnation}
use Rattle.qsg_num.specs.declared.ids.PageNo.{PageNo}
use Rattle.qsg_num.specs.Seats.{member_number}
use Rattle.qsg_repo.specs.Lives.{first_open, resolved_life}
use Rattle.qsg_repo.specs.Tables.{Repository, low_in}
use Rattle.qsg_agenda.specs.Courses.{Course, next_of}
use Rattle.qsg_manager.specs.declared.managers.Manager.{Manager}
use Rattle.qsg_manager.specs.Storage.{manager_in}
use Rattle.qsg_parts.specs.Owned.{Owned, HasMember}
use Rattle.qsg_steady.specs.Steady.{IsSteady}
use Rattle.qsg_steady.proofs.Gives.{member_has}
use Rattle.qsg_start.specs.Works.{Work as StartWork}
use Rattle.qsg_lives.proofs.Peers.{step_spares}
use Rattle.qsg_peer.specs.declared.phases.FailedLife.{FailedLife}
use Rattle.qsg_peer.specs.declared.phases.PeerTurn.{PeerTurn}
use Rattle.qsg_peer.specs.declared.phases.Phase.{Phase}
use Rattle.qsg_peer.specs.declared.phases.Phase.TheVariants.{Find, Low, At}
use Rattle.qsg_peer.specs.declared.phases.Stage.{Stage}
use Rattle.qsg_peer.specs.declared.phases.Stage.TheVariants.{Read, Connect, Search, Settle, Resolve}
use Rattle.qsg_peer.specs.Needs.{MayStepAt}
use Rattle.qsg_peer.specs.Steps.{Next, found_phase, after_find, after_low, after_connect, after_search, after_settle, after_resolve, Acts, GoesOn, NextAt, NextPeer}
use Rattle.qsg_peer.specs.Sweeping.{AreOrdered}
use Rattle.qsg_peer.specs.Works.{Work}
use Rattle.qsg_peer.proofs.Leaving.{rest_left}
use Rattle.qsg_peers.specs.Peers.{peer_of, with_peer}
use Rattle.qsg_step.specs.States.{State}
use Rattle.qsg_step.specs.Steps.{peer_work_or, peer_work_before, peer_before, tallied, IsPeerStep}
use Rattle.qsg_sound.specs.Sound.{answers_given, in_progress, IsSound, AreTypesKept}
use Rattle.qsg_sound.specs.Systems.{IsPeerAt, IsStarting}
use Rattle.qsg_sound.proofs.Beside.{beside, beside_sound}
use Rattle.qsg_sound.proofs.Keeping.{sound_kept}
use Rattle.qsg_sound.proofs.Standing.{AreSystemsSound, IsStartLeft, left_read, starting_kept}

-- ---- the repository after a step

-- low pages and how many incarnations there are, and may be
pub record KeepsLives (old new : Repository) : Type 0 where
  pub lows : new.lows ≡ old.lows
  pub lives : length new.lives ≡ length old.lives
  pub starts : new.starts ≡ old.starts

same_lives : (p q : Owned) → q.repo ≡ p.repo → KeepsLives p.repo q.repo
same_lives p q is = record { lows = ap (λ (x : Repository). x.lows) is; lives = ap (λ (x : Repository). length x.lives) is; starts = ap (λ (x : Repository). x.starts) is }

made_lives : (next : Next) (turn : PeerTurn) (v : Work) (p q : Owned) → next.parts.repo ≡ p.repo → record { turn = turn; work = v; parts = q } ≡ next → KeepsLives p.repo q.repo
made_lives next turn v p q same is = same_lives p q (ap (λ (n : Next). n.parts.repo) is ∙ same)

resolved_lives : (life : FailedLife) (w : Work) (turn : PeerTurn) (v : Work) (p q : Owned) → record { turn = turn; work = v; parts = q } ≡ after_resolve life w p → KeepsLives p.repo q.repo
resolved_lives life w turn v p q is = record {
  lows = ap (λ (n : Next). n.parts.repo.lows) is;
  lives = ap (λ (n : Next). length n.parts.repo.lives) is ∙ length-map p.repo.lives (resolved_life life.member life.incarnation);
  starts = ap (λ (n : Next). n.parts.repo.starts) is;
}

find_same : (phase : Option Phase) (w : Work) (p : Owned) → (after_find phase w p).parts.repo ≡ p.repo
find_same None w p = refl
find_same (Some phase) w p = refl

act_lives : (life : FailedLife) (stage : Stage) (w : Work) (p : Owned) (turn : PeerTurn) (v : Work) (q : Owned) → Acts life stage w p (Ok turn) v q → KeepsLives p.repo q.repo
act_lives life Read w p turn v q acts = same_lives p q (ap (λ (x : Owned). x.repo) acts.0.others)
act_lives life (Connect s) w p turn v q acts = made_lives (after_connect life s w p) turn v p q refl acts
act_lives life (Search connection after) w p turn v q acts = made_lives (after_search life connection after w p) turn v p q refl acts
act_lives life (Settle connection found) w p turn v q acts = made_lives (after_settle life connection found w p) turn v p q refl acts
act_lives life Resolve w p turn v q acts = resolved_lives life w turn v p q acts

on_lives : (life : FailedLife) (stage : Stage) (w : Work) (p : Owned) (turn : PeerTurn) (v : Work) (q : Owned) → GoesOn life stage w p (Ok turn) v q → KeepsLives p.repo q.repo
on_lives life stage w p turn v q (inl given) = same_lives p q (ap (λ (x : Owned). x.repo) given.parts_are)
on_lives life stage w p turn v q (inr (inl lacks)) = same_lives p q (ap (λ (x : Owned). x.repo) lacks.parts_are)
on_lives life stage w p turn v q (inr (inr acted)) = act_lives life stage (record w { walk = acted.walk }) p turn v q acted.acts

lives_at : (skip : List (Member × Incarnation)) (phase : Phase) (w : Work) (p : Owned) (turn : PeerTurn) (v : Work) (q : Owned) → NextAt skip phase w p (Ok turn) v q → KeepsLives p.repo q.repo
lives_at skip Find w p turn v q next = let found = found_phase (first_open skip p.repo.lives) in made_lives (after_find found w p) turn v p q (find_same found w p) next
lives_at skip (Low life) w p turn v q next = made_lives (after_low life w p) turn v p q refl next
lives_at skip (At life stage) w p turn v q next = on_lives life stage w p turn v q next

pub peer_lives : (skip : List (Member × Incarnation)) (w : Work) (p : Owned) (turn : PeerTurn) (v : Work) (q : Owned) → NextPeer skip w p (Ok turn) v q → KeepsLives p.repo q.repo
peer_lives skip w p turn v q next = lives_at skip w.phase w p turn v q next

-- ---- the work before the step

pub peer_may : (m : Member) (s : State) → IsSound s → MayStepAt (peer_work_before m s).phase s.parts
peer_may m s sound = by (peer_of m s.peers).work (sound.peers m)
  where
    by : (o : Option Work) → IfSome o (λ w. IsPeerAt m w s) → MayStepAt (peer_work_or m o).phase s.parts
    by None is = tt
    by (Some w) is = is.may

-- ---- the state

start_after : (m : Member) (q : Owned) (s r : State) (a b : ℕ) (turn : PeerTurn) (v : Work) (skip : List (Member × Incarnation)) → NextPeer skip (peer_work_before m s) s.parts (Ok turn) v q → IsSteady a b q → r.parts ≡ q → r.courses ≡ s.courses
    → (o : Option StartWork) → IfSome o (λ w. IsStarting w s) → IfSome o (λ w. IsStarting w r)
start_after m q s r a b turn v skip next steady parts courses None is = tt
start_after m q s r a b turn v skip next steady parts courses (Some w) is =
    let rest = rest_left skip (peer_work_before m s) s.parts (Ok turn) v q next in
    let lives = peer_lives skip (peer_work_before m s) s.parts turn v q next in
    starting_kept w s r (ap (λ (cs : List Course). next_of actor.Operator cs) courses)
    (subst (λ (x : Owned). HasMember w.member x) (sym parts) (member_has a b q w.member steady (subst (λ (l : List Manager). member_number w.member ≤ length l) (sym rest.managers) is.member.manager)))
    (subst (λ (x : Owned). IsStartLeft w.member s.parts x) (sym parts)
    (left_read w.member s.parts q (ap (λ (l : List Manager). (manager_in w.member l).up) rest.managers) (rest.logs w.member) (ap (λ (l : List PageNo). low_in w.member l) lives.lows))) is

pub peer_keeps : (m : Member) (s r : State) → IsSound s → IsSteady (answers_given s.courses) (in_progress s.works) r.parts → IsPeerStep m s r → AreOrdered r.parts → AreTypesKept r → AreSystemsSound r → IsSound r
peer_keeps m s r sound steady step ordered kept systems =
    let a = answers_given s.courses in
    let b = in_progress s.works in
    let q = step.parts in
    let w = peer_work_before m s in
    let made = step.steps in
    let skip = (peer_before m s).given_up in
    let parts : r.parts ≡ q = ap (λ (x : State). x.parts) step.after in
    let peers = with_peer m step.peer s.peers in
    let tallies = tallied step.off m s.tallies in
    let after = beside s.courses q s.starting peers tallies s in
    let rest = rest_left skip w s.parts (Ok made.turn) made.work q made.next in
    let lives = peer_lives skip w s.parts made.turn made.work q made.next in
    let left = sound.starts in
    subst IsSound (sym step.after) (beside_sound s.courses q s.starting peers tallies s sound (record {
      kept = sound_kept s sound;
      steady = subst (IsSteady a b) parts steady;
      objects = rest.objects;
      spares = step_spares skip w s.parts (Ok made.turn) made.work q (peer_may m s sound) made.next;
      ups = λ k. inl (ap (λ (l : List Manager). (manager_in k l).up) rest.managers);
      ordered = subst AreOrdered parts ordered;
      next = λ k t. refl;
      starts = let few = lives.lives in let given = lives.starts in omega (arith, left, few, given);
    }) (length-set s.peers (member_number m - 1) step.peer ∙ sound.eight)
    (start_after m q s after a b made.turn made.work skip made.next (subst (IsSteady a b) parts steady) refl refl s.starting sound.starting) (subst AreTypesKept step.after kept) (subst AreSystemsSound step.after systems))
