-- a step of a system task's work leaves a sound group steady: its walk knows of the units of an incarnation that is
-- unresolved, and one that is resolved has no mark
use Rattle.std.proofs.Common.{◌≡◌, inl, inr, ℕ, ◌-◌, Bool, true, false, List, [], ◌∷◌, zero, suc, Option, Some, None, Result, Ok, Err, refl, sym, ap, subst, ◌∙◌, true≢false, arith}
use Rattle.std.specs.Prelude.{◌⊎◌, IsSome, slice_index_or, slice_set}
use Rattle.std.proofs.lemmas.Bool.{cases_Bool}
use Rattle.qsg_num.specs.declared.seats.Member.{Member}
use Rattle.qsg_num.specs.declared.ids.Incarnation.{Incarnation}
use Rattle.qsg_num.specs.Seats.{structure_number}
use Rattle.qsg_lists.specs.declared.parts.Connection.{Connection}
use Rattle.qsg_lists.specs.declared.parts.Lost.{Lost}
use Rattle.qsg_lists.specs.declared.parts.Settled.{Settled}
use Rattle.qsg_lists.specs.declared.parts.Settled.TheVariants.{Done, NotYours}
use Rattle.qsg_lists.specs.Settling.{settled_entry, revised_if_done}
use Rattle.qsg_logread.specs.Fed.{is_committed}
use Rattle.qsg_repo.specs.Calls.{is_unresolved}
use Rattle.qsg_manager.specs.declared.structures.MarkedEntry.{MarkedEntry}
use Rattle.qsg_manager.specs.Facilities.{no_structure, structure_in, with_structure}
use Rattle.qsg_manager.specs.Marked.{marks_of}
use Rattle.qsg_logs.specs.Kept.{log_in}
use Rattle.qsg_parts.specs.Owned.{Owned}
use Rattle.qsg_steady.specs.Steady.{IsSteady}
use Rattle.qsg_reading.proofs.Agreeing.{ended_knows_by_all}
use Rattle.qsg_peer.specs.declared.phases.FailedLife.{FailedLife}
use Rattle.qsg_peer.specs.declared.phases.PeerTurn.{PeerTurn}
use Rattle.qsg_peer.specs.declared.phases.Phase.{Phase}
use Rattle.qsg_peer.specs.declared.phases.Phase.TheVariants.{Find, Low, At}
use Rattle.qsg_peer.specs.declared.phases.Stage.{Stage}
use Rattle.qsg_peer.specs.declared.phases.Stage.TheVariants.{Read, Connect, Search, Settle, Resolve}
use Rattle.qsg_peer.specs.Machine.{is_of}
use Rattle.qsg_peer.specs.Needs.{MayStepAt}
use Rattle.qsg_peer.specs.Steps.{Next, mark_answer, GoesOn, NextAt, NextPeer}
use Rattle.qsg_peer.specs.Works.{Work, IsSound}
use Rattle.qsg_peers.specs.Peers.{peer_of}
use Rattle.qsg_tallies.specs.declared.tally.Tally.{Tally}
use Rattle.qsg_lives.specs.Deciding.{MayDecideAt}
use Rattle.qsg_lives.specs.Marks.{marks_left, came_off_by}
use Rattle.qsg_lives.proofs.Counting.{off_counts}
use Rattle.qsg_lives.proofs.Peers.{step_steady}
use Rattle.qsg_step.specs.States.{State, is_member_up}
use Rattle.qsg_step.specs.Steps.{peer_work_or, peer_work_before, peer_before, IsPeerStep}
use Rattle.qsg_sound.specs.Sound.{ArePeersKept}
use Rattle.qsg_sound.specs.Systems.{WorksAt, IsPeerAt}
use Rattle.qsg_sound.specs.Tallying.{IsTallied, tally_of, IsCountedBy, IsCountedAt, IsWorkCounted, AreTallied}
use Rattle.qsg_sound.proofs.SystemsReading.{pair}
use Rattle.qsg_sound.proofs.SystemsPeers.{ArePeers}
use Rattle.qsg_sound.proofs.SystemsOwn.{before_at, before_kept}
use Rattle.qsg_sound.proofs.TallyingRows.{one_if, found_tally}

-- ---- a settle that takes no mark off

set_own : {X : Type 0} (n : ℕ) (d : X) (xs : List X) → slice_set xs n (slice_index_or xs n d) ≡ xs
set_own n d [] = refl
set_own zero d (x ∷ xs) = refl
set_own (suc n) d (x ∷ xs) = ap (λ ys. x ∷ ys) (set_own n d xs)

none_off_same : (life : FailedLife) (c : Connection) (found : MarkedEntry) (commits : Bool) (answer : Result Settled Lost) (p : Owned) → is_of life found.unit ≡ true → came_off_by life found answer ≡ 0
    → record p { structures = with_structure c.structure (revised_if_done answer found.id (settled_entry commits) (structure_in c.structure p.structures)) p.structures } ≡ p
none_off_same life c found commits (Ok Done) p is none = absurd (one_none (is_of life found.unit) is none)
  where
    one_none : (b : Bool) → b ≡ true → one_if b ≡ 0 → ⊥
    one_none true is none = omega (arith, none)
    one_none false is none = true≢false (sym is)
none_off_same life c found commits (Ok (NotYours mark)) p is none = ap (λ xs. record p { structures = xs }) (set_own (structure_number c.structure - 1) no_structure p.structures)
none_off_same life c found commits (Err lost) p is none = ap (λ xs. record p { structures = xs }) (set_own (structure_number c.structure - 1) no_structure p.structures)

-- ---- what decides

-- the incarnation on which a work works has a tally
has_tally : (m : Member) (o : Option Tally) (n : ℕ) → IsCountedBy m o n → IsSome o
has_tally m None n few = absurd few
has_tally m (Some t) n few = refl

module _ (a b : ℕ) (m : Member) (s : State) (steady : IsSteady a b s.parts) (kept : ArePeersKept s) (up : is_member_up m s ≡ true) (are : ArePeers s) (t : AreTallied s) where
  abbrev p : Owned
  p = s.parts

  abbrev w : Work
  w = peer_work_before m s

  at : IsPeerAt m w s
  at = before_at m s up (are m)

  sound : IsSound w.phase w.walk
  sound = before_kept m s (kept m)

  counted : IsCountedAt m w.phase s.tallies.rows w.settled
  counted = by (peer_of m s.peers).work (t.counted m)
    where
      by : (o : Option Work) → IsWorkCounted m s.tallies.rows o → IsCountedAt m (peer_work_or m o).phase s.tallies.rows (peer_work_or m o).settled
      by None is = refl
      by (Some work) is = is

  -- no mark of an incarnation stands that the work settles though it is resolved
  no_mark : (life : FailedLife) (stage : Stage) → w.phase ≡ At life stage → is_unresolved life.member life.incarnation p.repo ≡ false → marks_left life p ≡ 0
  no_mark life stage is resolved =
      let few = subst (λ x. IsCountedAt m x s.tallies.rows w.settled) is counted in
      let f = found_tally (IsTallied p) life.member life.incarnation s.tallies.rows t.tallied (has_tally m (tally_of life.member life.incarnation s.tallies.rows) w.settled few) in
      subst (λ k. marks_of k life.incarnation p.structures ≡ 0) f.member (subst (λ i. marks_of f.tally.member i p.structures ≡ 0) f.incarnation
      (f.holds.clear (subst (λ k. is_unresolved k f.tally.incarnation p.repo ≡ false) (sym f.member) (subst (λ i. is_unresolved life.member i p.repo ≡ false) (sym f.incarnation) resolved))))

  -- where it is unresolved, its reader knows of its units
  pub may_decide : ((life : FailedLife) (stage : Stage) → (peer_work_before m s).phase ≡ At life stage → is_unresolved life.member life.incarnation s.parts.repo ≡ true)
      → MayDecideAt (peer_work_before m s).phase (peer_work_before m s).walk.reader s.parts
  may_decide unresolved = by w.phase refl
    where
      stages : (life : FailedLife) (stage : Stage) → w.phase ≡ At life stage → MayDecideAt (At life stage) w.walk.reader p
      stages life Read is = tt
      stages life (Connect x) is = tt
      stages life (Search c after) is = tt
      stages life (Settle c found) is =
          let works = subst (λ x. WorksAt x w.walk s) is at.works in
          let ended = subst (λ x. IsSound x w.walk) is sound in
          (works.0.over, λ telling l. ended_knows_by_all (pair life) l.rest.logs (log_in life.member p.logs) w.walk ((works.1 telling (unresolved life (Settle c found) is)).reads l) ended.0 ended.1)
      stages life Resolve is = tt

      by : (phase : Phase) → w.phase ≡ phase → MayDecideAt phase w.walk.reader p
      by Find is = tt
      by (Low life) is = tt
      by (At life stage) is = stages life stage is

  -- ---- the step

  settle_same : (life : FailedLife) (c : Connection) (found : MarkedEntry) (turn : PeerTurn) (v : Work) (q : Owned) → w.phase ≡ At life (Settle c found) → marks_left life p ≡ 0 → GoesOn life (Settle c found) w p (Ok turn) v q → q ≡ p
  settle_same life c found turn v q is none (inl given) = given.parts_are
  settle_same life c found turn v q is none (inr (inl lacks)) = lacks.parts_are
  settle_same life c found turn v q is none (inr (inr acted)) =
      let commits = is_committed found.unit acted.walk.reader.commits in
      let ended = subst (λ x. IsSound x w.walk) is sound in
      let may = subst (λ x. MayStepAt x p) is at.may in
      ap (λ (n : Next). n.parts) acted.acts
      ∙ none_off_same life c found commits (mark_answer c found p) p ended.2 (omega (arith, none, off_counts life c found commits p may))

  keeps_at : (skip : List (Member × Incarnation)) (turn : PeerTurn) (v : Work) (q : Owned) → NextPeer skip w p (Ok turn) v q → (phase : Phase) → w.phase ≡ phase → IsSteady a b q
  keeps_at skip turn v q next Find is = step_steady a b skip w p (Ok turn) v q steady sound at.may at.swept (may_decide (λ life stage at. absurd (cc (is, at)))) next
  keeps_at skip turn v q next (Low life) is = step_steady a b skip w p (Ok turn) v q steady sound at.may at.swept (may_decide (λ life stage at. absurd (cc (is, at)))) next
  keeps_at skip turn v q next (At life stage) is = by (cases_Bool (is_unresolved life.member life.incarnation p.repo))
    where
      decided : MayDecideAt (At life stage) w.walk.reader p → IsSteady a b q
      decided may = step_steady a b skip w p (Ok turn) v q steady sound at.may at.swept (subst (λ x. MayDecideAt x w.walk.reader p) (sym is) may) next

      resolved : (stage : Stage) → w.phase ≡ At life stage → is_unresolved life.member life.incarnation p.repo ≡ false → (MayDecideAt (At life stage) w.walk.reader p → IsSteady a b q) → IsSteady a b q
      resolved Read is none decided = decided tt
      resolved (Connect x) is none decided = decided tt
      resolved (Search c after) is none decided = decided tt
      resolved (Settle c found) is none decided = subst (IsSteady a b) (sym (settle_same life c found turn v q is (no_mark life (Settle c found) is none) (subst (λ x. NextAt skip x w p (Ok turn) v q) is next))) steady
      resolved Resolve is none decided = decided tt

      same_life : (other : FailedLife) (later : Stage) → w.phase ≡ At other later → At other later ≡ At life stage
      same_life other later there = sym there ∙ is

      life_in : Phase → FailedLife
      life_in Find = life
      life_in (Low other) = other
      life_in (At other after) = other

      by : (is_unresolved life.member life.incarnation p.repo ≡ true) ⊎ (is_unresolved life.member life.incarnation p.repo ≡ false) → IsSteady a b q
      by (inl unresolved) = step_steady a b skip w p (Ok turn) v q steady sound at.may at.swept
          (may_decide (λ other there was. subst (λ x. is_unresolved x.member x.incarnation p.repo ≡ true) (sym (ap life_in (same_life other there was))) unresolved)) next
      by (inr none) = resolved stage is none decided

  pub peer_keeps_steady : (r : State) → IsPeerStep m s r → IsSteady a b r.parts
  peer_keeps_steady r step = subst (λ x. IsSteady a b x.parts) (sym step.after) (keeps_at (peer_before m s).given_up step.steps.turn step.steps.work step.parts step.steps.next w.phase refl)
