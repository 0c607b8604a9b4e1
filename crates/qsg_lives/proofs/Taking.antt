-- what a step of a peer's work does to structures: a mark comes off, or they stay
use Rattle.std.proofs.Common.{◌≡◌, inl, inr, ◌⊎◌, ◌≤◌, Bool, true, false, List, Result, refl, ap, subst, ◌∙◌, arith}
use Rattle.qsg_num.specs.declared.ids.Incarnation.{Incarnation}
use Rattle.qsg_num.specs.declared.ids.UnitName.{UnitName}
use Rattle.qsg_num.specs.declared.seats.Member.{Member}
use Rattle.qsg_lists.specs.Structures.{ListStructure}
use Rattle.qsg_logread.specs.Fed.{is_committed}
use Rattle.qsg_parts.specs.Owned.{Owned}
use Rattle.qsg_peer.specs.declared.phases.FailedLife.{FailedLife}
use Rattle.qsg_peer.specs.declared.phases.NoMemory.{NoMemory}
use Rattle.qsg_peer.specs.declared.phases.PeerTurn.{PeerTurn}
use Rattle.qsg_peer.specs.declared.phases.Phase.{Phase}
use Rattle.qsg_peer.specs.declared.phases.Phase.TheVariants.{Find, Low, At}
use Rattle.qsg_peer.specs.declared.phases.Stage.{Stage}
use Rattle.qsg_peer.specs.declared.phases.Stage.TheVariants.{Read, Connect, Search, Settle, Resolve}
use Rattle.qsg_peer.specs.Works.{Work}
use Rattle.qsg_peer.specs.Needs.{MayStepOn, MayStepAt}
use Rattle.qsg_peer.specs.Steps.{after_settle, GoesOn, NextAt, NextPeer}
use Rattle.qsg_peer.specs.Leaving.{is_settle, takes_off}
use Rattle.qsg_peer.specs.Pace.{HasNoMoreMarks}
use Rattle.qsg_peer.specs.Sweeping.{AreAbove}
use Rattle.qsg_peer.proofs.Leaving.{structures_left}
use Rattle.qsg_lives.specs.Marks.{marks_left, AreEmptyUnlessActive}
use Rattle.qsg_lives.proofs.Counting.{made}
use Rattle.qsg_lives.proofs.Structures.{none_changed}
use Rattle.qsg_lives.proofs.Touching.{HasOff, off_few, off_no_more, off_above, off_empty, same_above, same_empty}

-- a mark of some unit comes off, or structures stay
abbrev TakesOne : List ListStructure → List ListStructure → Type 0
TakesOne before after = (after ≡ before) ⊎ ((u : UnitName) × HasOff u before after)

at_settle : (life : FailedLife) (stage : Stage) (w : Work) (p : Owned) (result : Result PeerTurn NoMemory) (v : Work) (q : Owned) → MayStepOn life stage p → is_settle stage ≡ true → GoesOn life stage w p result v q → TakesOne p.structures q.structures
at_settle life Read w p result v q may is next = absurd (cc is)
at_settle life (Connect s) w p result v q may is next = absurd (cc is)
at_settle life (Search c after) w p result v q may is next = absurd (cc is)
at_settle life (Settle c found) w p result v q may is (inl given) = inl (ap (λ (x : Owned). x.structures) given.parts_are)
at_settle life (Settle c found) w p result v q may is (inr (inl lacks)) = inl (ap (λ (x : Owned). x.structures) lacks.parts_are)
at_settle life (Settle c found) w p result v q may is (inr (inr acted)) =
    let fed : Work = record w { walk = acted.walk } in
    inr (
      found.unit,
      record {
        commits = is_committed found.unit acted.walk.reader.commits;
        connection = c;
        id = found.id;
        within = may;
        is = ap (λ (x : Owned). x.structures) (made (after_settle life c found fed p) result v q acted.acts);
      },
    )
at_settle life Resolve w p result v q may is next = absurd (cc is)

at_phase : (skip : List (Member × Incarnation)) (phase : Phase) (w : Work) (p : Owned) (result : Result PeerTurn NoMemory) (v : Work) (q : Owned) → w.phase ≡ phase → MayStepAt phase p → NextPeer skip w p result v q → TakesOne p.structures q.structures
at_phase skip Find w p result v q at may next = inl (structures_left skip w p result v q next (ap takes_off at))
at_phase skip (Low life) w p result v q at may next = inl (structures_left skip w p result v q next (ap takes_off at))
at_phase skip (At life stage) w p result v q at may next = by (is_settle stage) refl
  where
    by : (b : Bool) → is_settle stage ≡ b → TakesOne p.structures q.structures
    by true is = at_settle life stage w p result v q may is (subst (λ (x : Phase). NextAt skip x w p result v q) at next)
    by false is = inl (structures_left skip w p result v q next (ap takes_off at ∙ is))

peer_takes : (skip : List (Member × Incarnation)) (w : Work) (p : Owned) (result : Result PeerTurn NoMemory) (v : Work) (q : Owned) → MayStepAt w.phase p → NextPeer skip w p result v q → TakesOne p.structures q.structures
peer_takes skip w p result v q may next = at_phase skip w.phase w p result v q refl may next

-- ---- what that leaves

pub peer_few : (life : FailedLife) (skip : List (Member × Incarnation)) (w : Work) (p : Owned) (result : Result PeerTurn NoMemory) (v : Work) (q : Owned) → MayStepAt w.phase p → NextPeer skip w p result v q → marks_left life q ≤ marks_left life p
peer_few life skip w p result v q may next = by (peer_takes skip w p result v q may next)
  where
    by : TakesOne p.structures q.structures → marks_left life q ≤ marks_left life p
    by (inl same) = omega (arith, (none_changed life p q same).marks)
    by (inr (u, off)) = off_few life u p q off

pub peer_no_more : (life : FailedLife) (skip : List (Member × Incarnation)) (w : Work) (p : Owned) (result : Result PeerTurn NoMemory) (v : Work) (q : Owned) → MayStepAt w.phase p → NextPeer skip w p result v q → HasNoMoreMarks life p q
peer_no_more life skip w p result v q may next = by (peer_takes skip w p result v q may next)
  where
    by : TakesOne p.structures q.structures → HasNoMoreMarks life p q
    by (inl same) = (none_changed life p q same).above
    by (inr (u, off)) = off_no_more life u p q off

pub peer_above : (skip : List (Member × Incarnation)) (w : Work) (p : Owned) (result : Result PeerTurn NoMemory) (v : Work) (q : Owned) → MayStepAt w.phase p → NextPeer skip w p result v q → AreAbove p → AreAbove q
peer_above skip w p result v q may next above = by (peer_takes skip w p result v q may next)
  where
    by : TakesOne p.structures q.structures → AreAbove q
    by (inl same) = same_above p q same above
    by (inr (u, off)) = off_above u p q off above

pub peer_empty : (skip : List (Member × Incarnation)) (w : Work) (p : Owned) (result : Result PeerTurn NoMemory) (v : Work) (q : Owned) → MayStepAt w.phase p → NextPeer skip w p result v q → AreEmptyUnlessActive p → AreEmptyUnlessActive q
peer_empty skip w p result v q may next empty = by (peer_takes skip w p result v q may next)
  where
    by : TakesOne p.structures q.structures → AreEmptyUnlessActive q
    by (inl same) = same_empty p q same empty
    by (inr (u, off)) = off_empty u p q off empty
