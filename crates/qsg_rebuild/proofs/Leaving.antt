-- what a step leaves of the group
use Rattle.std.proofs.Common.{◌≡◌, ℕ, ◌≤◌, Bool, true, false, List, Option, Some, None, Result, Ok, Err, refl, sym, ap, subst, ◌∙◌, arith}
use Rattle.std.specs.Prelude.{if◌then◌else◌, ◌==◌}
use Rattle.qsg_num.specs.declared.seats.Member.{Member}
use Rattle.qsg_num.specs.Seats.{member_number}
use Rattle.qsg_num.specs.declared.ids.Block.{Block}
use Rattle.qsg_lists.specs.declared.parts.Entry.{Entry}
use Rattle.qsg_lists.specs.declared.parts.Lost.{Lost}
use Rattle.qsg_lists.specs.declared.parts.Place.{Place}
use Rattle.qsg_lists.specs.declared.parts.Place.TheVariants.{Inline, Offloaded}
use Rattle.qsg_lists.specs.Structures.{connect_answer}
use Rattle.qsg_dataset.specs.Contents.{IsSame}
use Rattle.qsg_datasets.specs.Kept.{KeptSet, claimed, unmapped}
use Rattle.qsg_parts.specs.Owned.{Owned}
use Rattle.qsg_rebuild.specs.declared.phases.Phase.{Phase}
use Rattle.qsg_rebuild.specs.declared.phases.Phase.TheVariants.{Connect, Load, Scan, Shut, Sync}
use Rattle.qsg_rebuild.specs.declared.phases.RebuildTurn.{RebuildTurn}
use Rattle.qsg_rebuild.specs.declared.phases.RebuildTurn.TheVariants.{More, Done}
use Rattle.qsg_rebuild.specs.declared.phases.RebuildError.{RebuildError}
use Rattle.qsg_rebuild.specs.declared.phases.RebuildError.TheVariants.{NoMemory, Failed}
use Rattle.qsg_rebuild.specs.declared.work.RebuildWork.{RebuildWork}
use Rattle.qsg_rebuild.specs.Steps.{structure_of, set_of, with_set_of, at_phase, IsSamePlace, Next, loading, after_connect, shutting, kept_if, HasLoaded, HasCalled, claimed_by, scan_answer, scanned, after_scan, Ends, NextAt, NextRebuild}
use Rattle.qsg_rebuild.specs.Needs.{MayStep}
use Rattle.qsg_rebuild.specs.Leaving.{LeavesRest}
use Rattle.qsg_rebuild.proofs.Places.{with_set_of-same, set_is, others_are}

-- ---- what makes of a data set another one, of the same size and with the same hands

pub record IsRest (old new : KeptSet) : Type 0 where
  pub hands : new.hands ≡ old.hands
  pub contents : IsSame old.contents new.contents
  pub later : old.contents.faults ≤ new.contents.faults

same_rest : (set : KeptSet) → IsRest set set
same_rest set = record { hands = refl; contents = record { tells = refl; block_size = refl; blocks = refl }; later = omega arith }

unmapped_rest : (old new : KeptSet) → IsRest old new → IsRest old (unmapped new)
unmapped_rest old new rest = record { hands = rest.hands; contents = rest.contents; later = rest.later }

kept_rest : (served : Bool) (old new : KeptSet) → IsRest old new → IsRest old (kept_if served new)
kept_rest true old new rest = rest
kept_rest false old new rest = unmapped_rest old new rest

claimed_if : (own : Bool) (blocks : List Block) (set : KeptSet) → IsRest set (if own then claimed blocks set else set)
claimed_if true blocks set = record { hands = refl; contents = record { tells = refl; block_size = refl; blocks = refl }; later = omega arith }
claimed_if false blocks set = same_rest set

claimed_rest : (m : Member) (place : Place) (set : KeptSet) → IsRest set (claimed_by m place set)
claimed_rest m (Inline body) set = same_rest set
claimed_rest m (Offloaded owner blocks length) set = claimed_if (member_number owner == member_number m) blocks set

-- ---- the group

pub leaves_set : (w : RebuildWork) (set : KeptSet) (p q : Owned) → MayStep w p → q ≡ with_set_of w set p → IsRest (set_of w p) set → LeavesRest w p q
leaves_set w set p q may is rest =
    let there = set_is w set p q may.set is in
    let back : IsRest (set_of w p) (set_of w q) = subst (IsRest (set_of w p)) (sym there) rest in
    record { others = others_are w set p q may.set is; hands = back.hands; contents = back.contents; later = back.later }

leaves_all : (w : RebuildWork) (p q : Owned) → MayStep w p → q ≡ p → LeavesRest w p q
leaves_all w p q may is = leaves_set w (set_of w p) p q may (is ∙ sym (with_set_of-same w p)) (same_rest (set_of w p))

pub parts_are : (next : Next) (turn : RebuildTurn) (v : RebuildWork) (q : Owned) → record { turn = turn; work = v; parts = q } ≡ next → q ≡ next.parts
parts_are next turn v q is = ap (λ (n : Next). n.parts) is

pub work_is : (next : Next) (turn : RebuildTurn) (v : RebuildWork) (q : Owned) → record { turn = turn; work = v; parts = q } ≡ next → v ≡ next.work
work_is next turn v q is = ap (λ (n : Next). n.work) is

pub turn_is : (next : Next) (turn : RebuildTurn) (v : RebuildWork) (q : Owned) → record { turn = turn; work = v; parts = q } ≡ next → turn ≡ next.turn
turn_is next turn v q is = ap (λ (n : Next). n.turn) is

called_leaves : (w : RebuildWork) (p : Owned) (result : Result RebuildTurn RebuildError) (q : Owned) → HasCalled w p result q → LeavesRest w p q
called_leaves w p result q called = record { others = called.others; hands = called.storage.hands; contents = called.storage.contents; later = called.cause.later }

scanned_leaves : (answer : Result (Option Entry) Lost) (epoch : ℕ) (open_gate : Bool) (w : RebuildWork) (p q : Owned) → MayStep w p → q ≡ (scanned answer epoch open_gate w p).parts → LeavesRest w p q
scanned_leaves (Ok (Some e)) epoch open_gate w p q may is = leaves_set w (claimed_by w.member e.place (set_of w p)) p q may is (claimed_rest w.member e.place (set_of w p))
scanned_leaves (Ok None) epoch open_gate w p q may is = leaves_all w p q may is
scanned_leaves (Err lost) epoch open_gate w p q may is = leaves_set w (unmapped (set_of w p)) p q may is (unmapped_rest (set_of w p) (set_of w p) (same_rest (set_of w p)))

loaded_leaves : (epoch : ℕ) (served : Bool) (w : RebuildWork) (p : Owned) (turn : RebuildTurn) (v : RebuildWork) (q : Owned) → HasLoaded epoch served w p turn v q → LeavesRest w p q
loaded_leaves epoch served w p turn v q loaded =
    let made : IsRest (set_of w p) loaded.loaded.made = record { hands = loaded.loaded.loaded.hands; contents = loaded.loaded.loaded.contents; later = loaded.loaded.later } in
    let back : IsRest (set_of w p) (set_of w q) = subst (IsRest (set_of w p)) (sym loaded.loaded.new_is) (kept_rest served (set_of w p) loaded.loaded.made made) in
    record { others = loaded.others; hands = back.hands; contents = back.contents; later = back.later }

leaves_at : (phase : Phase) (w : RebuildWork) (p : Owned) (result : Result RebuildTurn RebuildError) (v : RebuildWork) (q : Owned) → MayStep w p → NextAt phase w p result v q → LeavesRest w p q
leaves_at Connect w p (Ok turn) v q may next = leaves_set w (unmapped (set_of w p)) p q may (parts_are (after_connect w p) turn v q next) (unmapped_rest (set_of w p) (set_of w p) (same_rest (set_of w p)))
leaves_at Connect w p (Err e) v q may next = absurd next
leaves_at (Load epoch served) w p (Ok turn) v q may next = loaded_leaves epoch served w p turn v q next
leaves_at (Load epoch served) w p (Err NoMemory) v q may next = leaves_all w p q may next.1
leaves_at (Load epoch served) w p (Err Failed) v q may next = called_leaves w p (Err Failed) q next.called
leaves_at (Scan epoch after open_gate) w p (Ok turn) v q may next = scanned_leaves (scan_answer w epoch after p) epoch open_gate w p q may (parts_are (after_scan epoch after open_gate w p) turn v q next)
leaves_at (Scan epoch after open_gate) w p (Err e) v q may next = absurd next
leaves_at Shut w p result v q may next = called_leaves w p result q next.0.called
leaves_at Sync w p result v q may next = called_leaves w p result q next.0.called

pub step_leaves : (w : RebuildWork) (p : Owned) (result : Result RebuildTurn RebuildError) (v : RebuildWork) (q : Owned) → MayStep w p → NextRebuild w p result v q → LeavesRest w p q
step_leaves w p result v q may next = leaves_at w.phase w p result v q may next

-- ---- the work

phase_place : (phase : Phase) (w v : RebuildWork) → v ≡ at_phase phase w → IsSamePlace w v
phase_place phase w v is = record { member = ap (λ (x : RebuildWork). x.member) is; structure = ap (λ (x : RebuildWork). x.structure) is }

same_place : (w v : RebuildWork) → v ≡ w → IsSamePlace w v
same_place w v is = record { member = ap (λ (x : RebuildWork). x.member) is; structure = ap (λ (x : RebuildWork). x.structure) is }

scanned_place : (answer : Result (Option Entry) Lost) (epoch : ℕ) (open_gate : Bool) (w : RebuildWork) (p : Owned) (v : RebuildWork) → v ≡ (scanned answer epoch open_gate w p).work → IsSamePlace w v
scanned_place (Ok (Some e)) epoch open_gate w p v is = phase_place (Scan epoch e.id open_gate) w v is
scanned_place (Ok None) epoch open_gate w p v is = phase_place (shutting open_gate) w v is
scanned_place (Err lost) epoch open_gate w p v is = phase_place (shutting open_gate) w v is

ends_place : (wanted : RebuildTurn) (phase : Phase) (w : RebuildWork) (result : Result RebuildTurn RebuildError) (v : RebuildWork) → Ends wanted (at_phase phase w) w result v → IsSamePlace w v
ends_place wanted phase w (Ok turn) v ends = phase_place phase w v ends.1
ends_place wanted phase w (Err e) v ends = same_place w v ends.1

ends_same : (wanted : RebuildTurn) (w : RebuildWork) (result : Result RebuildTurn RebuildError) (v : RebuildWork) → Ends wanted w w result v → IsSamePlace w v
ends_same wanted w (Ok turn) v ends = same_place w v ends.1
ends_same wanted w (Err e) v ends = same_place w v ends.1

place_at : (phase : Phase) (w : RebuildWork) (p : Owned) (result : Result RebuildTurn RebuildError) (v : RebuildWork) (q : Owned) → NextAt phase w p result v q → IsSamePlace w v
place_at Connect w p (Ok turn) v q next = phase_place (loading (connect_answer (structure_of w p))) w v (work_is (after_connect w p) turn v q next)
place_at Connect w p (Err e) v q next = absurd next
place_at (Load epoch served) w p (Ok turn) v q next = record { member = ap (λ (x : RebuildWork). x.member) next.work_is; structure = ap (λ (x : RebuildWork). x.structure) next.work_is }
place_at (Load epoch served) w p (Err NoMemory) v q next = same_place w v next.0
place_at (Load epoch served) w p (Err Failed) v q next = same_place w v next.work_is
place_at (Scan epoch after open_gate) w p (Ok turn) v q next = scanned_place (scan_answer w epoch after p) epoch open_gate w p v (work_is (after_scan epoch after open_gate w p) turn v q next)
place_at (Scan epoch after open_gate) w p (Err e) v q next = absurd next
place_at Shut w p result v q next = ends_place More Sync w result v next.1
place_at Sync w p result v q next = ends_same Done w result v next.1

pub step_place : (w : RebuildWork) (p : Owned) (result : Result RebuildTurn RebuildError) (v : RebuildWork) (q : Owned) → NextRebuild w p result v q → IsSamePlace w v
step_place w p result v q next = place_at w.phase w p result v q next
