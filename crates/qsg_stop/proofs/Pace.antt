-- each step of a STOP lowers how many are left
use Rattle.std.proofs.Common.{◌≡◌, ℕ, ◌+◌, ◌-◌, ◌*◌, ◌<◌, ◌≤◌, Bool, true, false, cond, length, Result, Ok, Err, refl, sym, ap, ◌∙◌, arith}
use Rattle.std.specs.Prelude.{nat_le}
use Rattle.std.proofs.lemmas.Bool.Decides.{nat_tests}
use Rattle.qsg_num.specs.declared.seats.Member.{Member}
use Rattle.qsg_num.specs.declared.seats.StructNo.{StructNo}
use Rattle.qsg_num.specs.declared.seats.StructNo.TheVariants as s
use Rattle.qsg_num.specs.declared.words.Failed.{Failed}
use Rattle.qsg_num.specs.Seats.{structure_number}
use Rattle.qsg_lists.specs.declared.parts.Connection.{Connection}
use Rattle.qsg_lists.specs.declared.parts.Lost.{Lost}
use Rattle.qsg_lists.specs.declared.parts.Seen.{Seen}
use Rattle.qsg_lists.specs.Structures.{connect_answer}
use Rattle.qsg_datasets.specs.Kept.{KeptSet, set_in, stands}
use Rattle.qsg_manager.specs.Facilities.{structure_in}
use Rattle.qsg_parts.specs.Owned.{Owned}
use Rattle.qsg_stop.specs.declared.phases.Phase.{Phase}
use Rattle.qsg_stop.specs.declared.phases.Phase.TheVariants.{Connect, Save, Tell, Last}
use Rattle.qsg_stop.specs.declared.phases.SaveCall.{SaveCall}
use Rattle.qsg_stop.specs.declared.phases.SaveCall.TheVariants.{WriteMap, SyncMap, OpenGate, SyncGate}
use Rattle.qsg_stop.specs.declared.phases.StopTurn.{StopTurn}
use Rattle.qsg_stop.specs.declared.phases.StopTurn.TheVariants.{More, Stopped}
use Rattle.qsg_stop.specs.declared.work.StopWork.{StopWork}
use Rattle.qsg_stop.specs.Needs.{MayStepAt, MayStep}
use Rattle.qsg_stop.specs.Steps.{Next, begun, new_work, after_structure, connected, saved_phase, HasSaved, after_connect, after_tell, NextAt, NextStop}
use Rattle.qsg_stop.specs.Pace.{left_behind, left_at, left_of_stop}

-- ---- a structure that comes next

from_left : (x : StructNo) (count : ℕ) → structure_number x ≤ count + 1 → left_at (cond (nat_le (structure_number x) count) (Connect x) Last) count ≤ left_behind (count + 1 - structure_number x)
from_left x count near = by (nat_le (structure_number x) count)
  where
    by : (b : Bool) → left_at (cond b (Connect x) Last) count ≤ left_behind (count + 1 - structure_number x)
    by true = omega arith
    by false = omega arith

after_left : (x : StructNo) (count : ℕ) → structure_number x ≤ count → left_at (after_structure count x) count ≤ left_behind (count - structure_number x)
after_left s.One count within = let h = from_left s.Two count (omega arith) in omega (arith, h)
after_left s.Two count within = let h = from_left s.Three count (omega arith) in omega (arith, h)
after_left s.Three count within = let h = from_left s.Four count (omega arith) in omega (arith, h)
after_left s.Four count within = omega arith

pub begun_left : (m : Member) (p : Owned) → left_of_stop (new_work m p) (begun m p) ≡ 6 * length p.structures + 1
begun_left m p = by (nat_le 1 (length p.structures)) refl
  where
    none : nat_le 1 (length p.structures) ≡ false → length p.structures ≡ 0
    none is = grind (arith, nat_tests)

    by : (b : Bool) → nat_le 1 (length p.structures) ≡ b → left_at (cond b (Connect s.One) Last) (length p.structures) ≡ 6 * length p.structures + 1
    by true is = omega arith
    by false is = omega (arith, none is)

-- ---- a step

connected_left : (x : StructNo) (count : ℕ) (set : KeptSet) (answer : Result Seen Lost) → structure_number x ≤ count → left_at (connected x count set answer) count < left_at (Connect x) count
connected_left x count set (Ok seen) within = by (stands seen.connection.epoch set)
  where
    by : (b : Bool) → left_at (cond b (Save (record { structure = x; epoch = seen.connection.epoch }) WriteMap) (after_structure count x)) count < left_at (Connect x) count
    by true = omega arith
    by false = omega (arith, after_left x count within)
connected_left x count set (Err lost) within = omega (arith, after_left x count within)

-- a call that succeeds leaves one less, and one that fails no more
call_left : (c : Connection) (call : SaveCall) (count : ℕ) (done : Unit {0}) → left_at (saved_phase c call (Ok done)) count + 1 ≡ left_at (Save c call) count
call_left c WriteMap count done = omega arith
call_left c SyncMap count done = omega arith
call_left c OpenGate count done = omega arith
call_left c SyncGate count done = omega arith

fault_left : (c : Connection) (call : SaveCall) (count : ℕ) → left_at (Tell c) count < left_at (Save c call) count
fault_left c WriteMap count = omega arith
fault_left c SyncMap count = omega arith
fault_left c OpenGate count = omega arith
fault_left c SyncGate count = omega arith

saved_left : (c : Connection) (call : SaveCall) (count : ℕ) (answer : Result (Unit {0}) Failed) → left_at (saved_phase c call answer) count < left_at (Save c call) count
saved_left c call count (Ok done) = omega (arith, call_left c call count done)
saved_left c call count (Err failed) = fault_left c call count

-- how many are left behind a step, of as many structures as before
next_left : (next : Next) (turn : StopTurn) (v : StopWork) (q : Owned) → record { turn = turn; work = v; parts = q } ≡ next → left_of_stop v q ≡ left_of_stop next.work next.parts
next_left next turn v q is = ap (λ (n : Next). left_of_stop n.work n.parts) is

saved_is : (c : Connection) (call : SaveCall) (w : StopWork) (p : Owned) (turn : StopTurn) (v : StopWork) (q : Owned) → (has : HasSaved c call w p turn v q) → left_of_stop v q ≡ left_at (saved_phase c call has.answer) (length p.structures)
saved_is c call w p turn v q has = ap (λ (x : StopWork). left_of_stop x q) has.work_is ∙ ap (λ (x : Owned). left_at (saved_phase c call has.answer) (length x.structures)) has.others

left_lower : (phase : Phase) (w : StopWork) (p : Owned) (v : StopWork) (q : Owned) → MayStepAt phase w.member p → NextAt phase w p More v q → left_of_stop v q < left_at phase (length p.structures)
left_lower (Connect x) w p v q may next =
    omega (arith, next_left (after_connect x w p) More v q next, connected_left x (length p.structures) (set_in w.member x p.datasets) (connect_answer (structure_in x p.structures)) may)
left_lower (Save c call) w p v q may next = omega (arith, saved_is c call w p More v q next, saved_left c call (length p.structures) next.answer)
left_lower (Tell c) w p v q may next = omega (arith, next_left (after_tell c w p) More v q next, after_left c.structure (length p.structures) may.structure)
left_lower Last w p v q may next = let ended : More ≡ Stopped = ap (λ (n : Next). n.turn) next in absurd cc

pub lowers : (w : StopWork) (p : Owned) (v : StopWork) (q : Owned) → MayStep w p → NextStop w p More v q → left_of_stop v q < left_of_stop w p
lowers w p v q may next = left_lower w.phase w p v q may.at next

exactly : (c : Connection) (call : SaveCall) (count : ℕ) (answer : Result (Unit {0}) Failed) → answer ≡ Ok tt → left_at (saved_phase c call answer) count + 1 ≡ left_at (Save c call) count
exactly c call count (Ok done) is = call_left c call count done
exactly c call count (Err failed) is = absurd cc

pub saves_exactly : (c : Connection) (call : SaveCall) (w : StopWork) (p : Owned) (turn : StopTurn) (v : StopWork) (q : Owned) → w.phase ≡ Save c call → (has : HasSaved c call w p turn v q) → has.answer ≡ Ok tt → left_of_stop v q + 1 ≡ left_of_stop w p
saves_exactly c call w p turn v q is has ok =
    ap (λ (n : ℕ). n + 1) (saved_is c call w p turn v q has) ∙ exactly c call (length p.structures) has.answer ok ∙ sym (ap (λ (x : Phase). left_at x (length p.structures)) is)

ends_at : (phase : Phase) (w : StopWork) (p : Owned) (v : StopWork) (q : Owned) → NextAt phase w p Stopped v q → left_at phase (length p.structures) ≡ 1
ends_at (Connect x) w p v q next = let more : Stopped ≡ More = ap (λ (n : Next). n.turn) next in absurd cc
ends_at (Save c call) w p v q next = let more : Stopped ≡ More = next.turn_is in absurd cc
ends_at (Tell c) w p v q next = let more : Stopped ≡ More = ap (λ (n : Next). n.turn) next in absurd cc
ends_at Last w p v q next = refl

pub ends : (w : StopWork) (p : Owned) (v : StopWork) (q : Owned) → NextStop w p Stopped v q → left_of_stop w p ≡ 1
ends w p v q next = ends_at w.phase w p v q next
