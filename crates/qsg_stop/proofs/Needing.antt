-- what the next step of a STOP needs
use Rattle.std.proofs.Common.{◌≡◌, ◌+◌, Bool, true, false, cond, length, Option, Some, None, Result, Ok, Err, refl, sym, ap, subst, ◌∙◌}
use Rattle.std.specs.Prelude.{nat_le}
use Rattle.std.proofs.lemmas.Bool.{leb-true}
use Rattle.qsg_num.specs.declared.seats.Member.{Member}
use Rattle.qsg_num.specs.declared.seats.StructNo.{StructNo}
use Rattle.qsg_num.specs.declared.words.Failed.{Failed}
use Rattle.qsg_num.specs.Seats.{structure_number, structure_at}
use Rattle.qsg_lists.specs.declared.parts.Connection.{Connection}
use Rattle.qsg_lists.specs.declared.parts.Lost.{Lost}
use Rattle.qsg_lists.specs.declared.parts.Seen.{Seen}
use Rattle.qsg_lists.specs.Structures.{connect_answer}
use Rattle.qsg_datasets.specs.declared.member_data_set.KeptMap.{KeptMap}
use Rattle.qsg_datasets.specs.Kept.{KeptSet, HasSet, sets_of, set_in, with_set_for, with_set, is_of_epoch, stands}
use Rattle.qsg_datasets.proofs.Lookups.{has_row, size_with}
use Rattle.qsg_manager.specs.Facilities.{structure_in}
use Rattle.qsg_parts.specs.Owned.{Owned}
use Rattle.qsg_stop.specs.declared.phases.Phase.{Phase}
use Rattle.qsg_stop.specs.declared.phases.Phase.TheVariants.{Connect, Save, Tell, Last}
use Rattle.qsg_stop.specs.declared.phases.SaveCall.{SaveCall}
use Rattle.qsg_stop.specs.declared.phases.SaveCall.TheVariants.{WriteMap}
use Rattle.qsg_stop.specs.declared.phases.StopTurn.{StopTurn}
use Rattle.qsg_stop.specs.declared.phases.StopTurn.TheVariants.{More, Stopped}
use Rattle.qsg_stop.specs.declared.work.StopWork.{StopWork}
use Rattle.qsg_stop.specs.Calls.{call_behind}
use Rattle.qsg_stop.specs.Needs.{HasStructure, HasSets, MaySave, MayStepAt, MayStep}
use Rattle.qsg_stop.specs.Steps.{Next, structure_next, after_structure, connected, behind, saved_phase, after_connect, HasSaved, after_tell, NextAt, NextStop}

-- ---- behind a structure

pub next_may : (n : Option StructNo) (m : Member) (p : Owned) → MayStepAt (structure_next (length p.structures) n) m p
next_may None m p = tt
next_may (Some s) m p = by (nat_le (structure_number s) (length p.structures)) refl
  where
    by : (b : Bool) → nat_le (structure_number s) (length p.structures) ≡ b → MayStepAt (cond b (Connect s) Last) m p
    by true is = leb-true (structure_number s) (length p.structures) is
    by false is = tt

connected_may : (s : StructNo) (m : Member) (p : Owned) (answer : Result Seen Lost) → HasStructure s p → MayStepAt (connected s (length p.structures) (set_in m s p.datasets) answer) m p
connected_may s m p (Ok seen) within = by (stands seen.connection.epoch (set_in m s p.datasets)) refl
  where
    by : (b : Bool) → stands seen.connection.epoch (set_in m s p.datasets) ≡ b → MayStepAt (cond b (Save (record { structure = s; epoch = seen.connection.epoch }) WriteMap) (after_structure (length p.structures) s)) m p
    by true is = record { structure = within; map = is }
    by false is = next_may (structure_at (structure_number s + 1)) m p
connected_may s m p (Err lost) within = next_may (structure_at (structure_number s + 1)) m p

-- ---- the map that is saved is still there

saved_may : (c : Connection) (call : SaveCall) (m : Member) (p : Owned) (answer : Result (Unit {0}) Failed) → MaySave m c p → MayStepAt (saved_phase c call answer) m p
saved_may c call m p (Ok done) may = by (call_behind call)
  where
    by : (o : Option SaveCall) → MayStepAt (behind c o) m p
    by None = may
    by (Some next) = may
saved_may c call m p (Err failed) may = may

may_saved : (c : Connection) (call : SaveCall) (w : StopWork) (p : Owned) (turn : StopTurn) (v : StopWork) (q : Owned) → HasSaved c call w p turn v q → MaySave w.member c p → MaySave w.member c q
may_saved c call w p turn v q has may = record {
  structure = subst (λ (x : Owned). HasStructure c.structure x) (sym has.others) may.structure;
  map = ap (λ (x : Option KeptMap). is_of_epoch c.epoch x) has.call_is.same.map ∙ may.map;
}

-- ---- the data sets are still there

sets_saved : (c : Connection) (call : SaveCall) (w : StopWork) (p : Owned) (turn : StopTurn) (v : StopWork) (q : Owned) → HasSaved c call w p turn v q → HasStructure c.structure p → HasSets w.member p → HasSets w.member q
sets_saved c call w p turn v q has within sets = subst (HasSets w.member) (sym has.others) (record {
  member = (stays c.structure within).member;
  each = λ s there. stays s there;
})
  where
    new : KeptSet
    new = set_in w.member c.structure q.datasets

    stays : (s : StructNo) → HasStructure s p → HasSet w.member s (with_set w.member c.structure new p.datasets)
    stays s there = has_row w.member w.member s (with_set_for c.structure new (sets_of w.member p.datasets)) p.datasets (size_with w.member c.structure new p.datasets) (sets.each s there)

-- ---- a step

next_is : (next : Next) (turn : StopTurn) (v : StopWork) (q : Owned) → record { turn = turn; work = v; parts = q } ≡ next → MayStep next.work next.parts → MayStep v q
next_is next turn v q is may = subst (λ (n : Next). MayStep n.work n.parts) (sym is) may

may_at : (phase : Phase) (w : StopWork) (p : Owned) (turn : StopTurn) (v : StopWork) (q : Owned) → HasSets w.member p → MayStepAt phase w.member p → NextAt phase w p turn v q → turn ≡ More → MayStep v q
may_at (Connect s) w p turn v q sets at next more = next_is (after_connect s w p) turn v q next (record { sets = sets; at = connected_may s w.member p (connect_answer (structure_in s p.structures)) at })
may_at (Save c call) w p turn v q sets at next more = subst (λ (x : StopWork). MayStep x q) (sym next.work_is) (record {
  sets = sets_saved c call w p turn v q next at.structure sets;
  at = saved_may c call w.member q next.answer (may_saved c call w p turn v q next at);
})
may_at (Tell c) w p turn v q sets at next more = next_is (after_tell c w p) turn v q next (record { sets = record { member = sets.member; each = sets.each }; at = next_may (structure_at (structure_number c.structure + 1)) w.member (after_tell c w p).parts })
may_at Last w p turn v q sets at next more = let ended : turn ≡ Stopped = ap (λ (n : Next). n.turn) next in absurd cc

pub may_after : (w : StopWork) (p : Owned) (turn : StopTurn) (v : StopWork) (q : Owned) → MayStep w p → NextStop w p turn v q → turn ≡ More → MayStep v q
may_after w p turn v q may next more = may_at w.phase w p turn v q may.sets may.at next more
