-- how far a map is saved
use Rattle.std.proofs.Common.{◌≡◌, ◌≢◌, ℕ, ◌+◌, Bool, true, false, cond, List, [], ◌∷◌, length, map, replicate, Option, Some, None, Result, Ok, Err, refl, sym, ap, subst, ◌∙◌, arith}
use Rattle.std.specs.Prelude.{◌==◌, IfSome, nat_le}
use Rattle.std.proofs.lemmas.List.{length-replicate}
use Rattle.qsg_num.specs.declared.seats.Member.{Member}
use Rattle.qsg_num.specs.declared.seats.StructNo.{StructNo}
use Rattle.qsg_num.specs.declared.words.Failed.{Failed}
use Rattle.qsg_num.specs.Seats.{structure_number, structure_at}
use Rattle.qsg_disk.specs.Byte.{Byte, safe_byte}
use Rattle.qsg_lists.specs.declared.parts.Connection.{Connection}
use Rattle.qsg_lists.specs.declared.parts.Lost.{Lost}
use Rattle.qsg_lists.specs.declared.parts.Seen.{Seen}
use Rattle.qsg_lists.specs.Structures.{connect_answer}
use Rattle.qsg_dataset.specs.Contents.{gate_of, gate_value, IsReady, IsSaved}
use Rattle.qsg_dataset.specs.Steps.{SaveStep}
use Rattle.qsg_dataset.proofs.Saving.{saving-ready, ready-saved, made_ready, made_open}
use Rattle.qsg_datasets.specs.declared.member_data_set.KeptMap.{KeptMap}
use Rattle.qsg_datasets.specs.Kept.{KeptSet, IsKept, set_in, stands, used_by, used_in}
use Rattle.qsg_datasets.specs.Calls.{IsStorageSame}
use Rattle.qsg_manager.specs.Facilities.{structure_in}
use Rattle.qsg_parts.specs.Owned.{Owned}
use Rattle.qsg_stop.specs.declared.phases.Phase.{Phase}
use Rattle.qsg_stop.specs.declared.phases.Phase.TheVariants.{Connect, Save, Tell, Last}
use Rattle.qsg_stop.specs.declared.phases.SaveCall.{SaveCall}
use Rattle.qsg_stop.specs.declared.phases.SaveCall.TheVariants.{WriteMap, SyncMap, OpenGate, SyncGate}
use Rattle.qsg_stop.specs.declared.phases.StopTurn.{StopTurn}
use Rattle.qsg_stop.specs.declared.work.StopWork.{StopWork}
use Rattle.qsg_stop.specs.Calls.{number_of, call_behind}
use Rattle.qsg_stop.specs.Steps.{Next, structure_next, after_structure, connected, saved_phase, IsSaveCall, HasSaved, after_connect, after_tell, after_last, NextAt, NextStop}
use Rattle.qsg_stop.specs.Saving.{HasMade, IsMapSafe, IsSavedTo, IsSavedAt, IsSafelySaved, IsReadAt}

-- ---- behind a structure nothing is saved yet

pub next_saved : (count : ℕ) (n : Option StructNo) (m : Member) (p : Owned) → IsSavedAt (structure_next count n) m p
next_saved count None m p = tt
next_saved count (Some s) m p = by (nat_le (structure_number s) count)
  where
    by : (b : Bool) → IsSavedAt (cond b (Connect s) Last) m p
    by true = tt
    by false = tt

connected_saved : (s : StructNo) (count : ℕ) (set : KeptSet) (answer : Result Seen Lost) (m : Member) (p : Owned) → IsSavedAt (connected s count set answer) m p
connected_saved s count set (Ok seen) m p = by (stands seen.connection.epoch set)
  where
    by : (b : Bool) → IsSavedAt (cond b (Save (record { structure = s; epoch = seen.connection.epoch }) WriteMap) (after_structure count s)) m p
    by true = λ tells. tt
    by false = next_saved count (structure_at (structure_number s + 1)) m p
connected_saved s count set (Err lost) m p = next_saved count (structure_at (structure_number s + 1)) m p

-- ---- a call

-- the same map stands
same_used : (epoch : ℕ) (old new : KeptSet) → IsStorageSame old new → used_in epoch new ≡ used_in epoch old
same_used epoch old new same =
    ap (λ (n : ℕ). used_by epoch n new.map) same.contents.blocks ∙ ap (λ (x : Option KeptMap). used_by epoch old.contents.blocks x) same.map

-- what a call that succeeded leaves before the next one
call_on : (call next : SaveCall) (epoch : ℕ) (done : Unit {0}) (old new : KeptSet) → call_behind call ≡ Some next → IsSaveCall call epoch (Ok done) old new → old.contents.tells ≡ true → IsSavedTo call epoch old → IsSavedTo next epoch new
call_on WriteMap next epoch done old new is has tells saved =
    let used = same_used epoch old new has.same in
    let behind : SyncMap ≡ next = cc in
    subst (λ (x : SaveCall). IsSavedTo x epoch new) behind (record {
      old = old.contents.bytes;
      done = done;
      step = subst (λ (u : List Bool). SaveStep {E = Failed} 1 epoch u (Ok done) old.contents.bytes new.contents.bytes) (sym used) (has.step tells);
    })
call_on SyncMap next epoch done old new is has tells saved =
    let used = same_used epoch old new has.same in
    let behind : OpenGate ≡ next = cc in
    subst (λ (x : SaveCall). IsSavedTo x epoch new) behind
    (subst (λ (u : List Bool). IsReady epoch u new.contents.bytes) (sym used) (made_ready epoch (used_in epoch old) saved.old old.contents.bytes new.contents.bytes saved.done done saved.step (has.step tells)))
call_on OpenGate next epoch done old new is has tells saved =
    let used = same_used epoch old new has.same in
    let behind : SyncGate ≡ next = cc in
    subst (λ (x : SaveCall). IsSavedTo x epoch new) behind (
      subst (λ (u : List Bool). IsReady epoch u new.contents.bytes) (sym used) (saving-ready 3 epoch (used_in epoch old) (Ok done) old.contents.bytes new.contents.bytes (omega arith) (has.step tells) saved),
      record {
        old = old.contents.bytes;
        done = done;
        step = subst (λ (u : List Bool). SaveStep {E = Failed} 3 epoch u (Ok done) old.contents.bytes new.contents.bytes) (sym used) (has.step tells);
      },
    )
call_on SyncGate next epoch done old new is has tells saved = absurd cc

saved_on : (c : Connection) (call : SaveCall) (answer : Result (Unit {0}) Failed) (m : Member) (p q : Owned) → IsSaveCall call c.epoch answer (set_in m c.structure p.datasets) (set_in m c.structure q.datasets)
    → IsSavedAt (Save c call) m p → IsSavedAt (saved_phase c call answer) m q
saved_on c call (Err failed) m p q has saved = tt
saved_on c call (Ok done) m p q has saved = by (call_behind call) refl
  where
    by : (o : Option SaveCall) → call_behind call ≡ o → IsSavedAt (Rattle.qsg_stop.specs.Steps.behind c o) m q
    by None is = tt
    by (Some next) is = λ tells. let told = sym has.same.contents.tells ∙ tells in call_on call next c.epoch done (set_in m c.structure p.datasets) (set_in m c.structure q.datasets) is has told (saved told)

-- ---- a step

next_is : (next : Next) (turn : StopTurn) (v : StopWork) (q : Owned) (m : Member) → record { turn = turn; work = v; parts = q } ≡ next → IsSavedAt next.work.phase m next.parts → IsSavedAt v.phase m q
next_is next turn v q m is saved = subst (λ (n : Next). IsSavedAt n.work.phase m n.parts) (sym is) saved

saved_at : (phase : Phase) (w : StopWork) (p : Owned) (turn : StopTurn) (v : StopWork) (q : Owned) → w.phase ≡ phase → IsSavedAt phase w.member p → NextAt phase w p turn v q → IsSavedAt v.phase w.member q
saved_at (Connect s) w p turn v q is saved next = next_is (after_connect s w p) turn v q w.member next (connected_saved s (length p.structures) (set_in w.member s p.datasets) (connect_answer (structure_in s p.structures)) w.member p)
saved_at (Save c call) w p turn v q is saved next = subst (λ (x : StopWork). IsSavedAt x.phase w.member q) (sym next.work_is) (saved_on c call next.answer w.member p q next.call_is saved)
saved_at (Tell c) w p turn v q is saved next = next_is (after_tell c w p) turn v q w.member next (next_saved (length p.structures) (structure_at (structure_number c.structure + 1)) w.member (after_tell c w p).parts)
saved_at Last w p turn v q is saved next = next_is (after_last w p) turn v q w.member next (subst (λ (x : Phase). IsSavedAt x w.member (after_last w p).parts) (sym is) tt)

pub saved_goes_on : (w : StopWork) (p : Owned) (turn : StopTurn) (v : StopWork) (q : Owned) → IsSavedAt w.phase w.member p → NextStop w p turn v q → IsSavedAt v.phase w.member q
saved_goes_on w p turn v q saved next = saved_at w.phase w p turn v q refl saved next

-- ---- a step of another actor

read_used : (epoch : ℕ) (old new : KeptSet) → IsReadAt old new → used_in epoch new ≡ used_in epoch old
read_used epoch old new read =
    ap (λ (n : ℕ). used_by epoch n new.map) read.blocks ∙ ap (λ (x : Option KeptMap). used_by epoch old.contents.blocks x) read.map

made_beside : (call : SaveCall) (epoch : ℕ) (old new : KeptSet) → IsReadAt old new → old.contents.tells ≡ true → HasMade call epoch old → HasMade call epoch new
made_beside call epoch old new read tells made = record {
  old = made.old;
  done = made.done;
  step = subst (λ (u : List Bool). SaveStep {E = Failed} (number_of call) epoch u (Ok made.done) made.old new.contents.bytes) (sym (read_used epoch old new read))
      (subst (SaveStep {E = Failed} (number_of call) epoch (used_in epoch old) (Ok made.done) made.old) (sym (read.bytes tells)) made.step);
}

safe_beside : (epoch : ℕ) (old new : KeptSet) → IsReadAt old new → old.contents.tells ≡ true → IsMapSafe epoch old → IsMapSafe epoch new
safe_beside epoch old new read tells safe = subst (λ (u : List Bool). IsReady epoch u new.contents.bytes) (sym (read_used epoch old new read)) (subst (IsReady epoch (used_in epoch old)) (sym (read.bytes tells)) safe)

to_beside : (call : SaveCall) (epoch : ℕ) (old new : KeptSet) → IsReadAt old new → old.contents.tells ≡ true → IsSavedTo call epoch old → IsSavedTo call epoch new
to_beside WriteMap epoch old new read tells saved = tt
to_beside SyncMap epoch old new read tells saved = made_beside WriteMap epoch old new read tells saved
to_beside OpenGate epoch old new read tells saved = safe_beside epoch old new read tells saved
to_beside SyncGate epoch old new read tells saved = (safe_beside epoch old new read tells saved.0, made_beside OpenGate epoch old new read tells saved.1)

pub saved_beside : (m : Member) (phase : Phase) (p q : Owned) → ((s : StructNo) → IsReadAt (set_in m s p.datasets) (set_in m s q.datasets)) → IsSavedAt phase m p → IsSavedAt phase m q
saved_beside m (Connect s) p q read saved = tt
saved_beside m (Save c call) p q read saved = λ tells.
    let told = sym (read c.structure).tells ∙ tells in to_beside call c.epoch (set_in m c.structure p.datasets) (set_in m c.structure q.datasets) (read c.structure) told (saved told)
saved_beside m (Tell c) p q read saved = tt
saved_beside m Last p q read saved = tt

-- ---- the last call

-- the map has as many blocks as the data set
whole_map : (epoch : ℕ) (set : KeptSet) → IsKept set → length (used_in epoch set) ≡ set.contents.blocks
whole_map epoch set kept = by set.map kept.map
  where
    by : (o : Option KeptMap) → IfSome o (λ (m : KeptMap). length m.used ≡ set.contents.blocks) → length (used_by epoch set.contents.blocks o) ≡ set.contents.blocks
    by None fits = length-replicate set.contents.blocks false
    by (Some m) fits = one (m.epoch == epoch)
      where
        one : (b : Bool) → length (cond b m.used (replicate set.contents.blocks false)) ≡ set.contents.blocks
        one true = fits
        one false = length-replicate set.contents.blocks false

gate_opened : (bytes : List Byte) → gate_of bytes ≡ map safe_byte (1 ∷ []) → gate_value bytes ≢ 0
gate_opened [] is = absurd cc
gate_opened (b ∷ bytes) is = λ shut. let same : b ≡ safe_byte 1 = cc in let one : b.value ≡ 1 = ap (λ (x : Byte). x.value) same in omega (arith, one, shut)

safely : (epoch : ℕ) (answer : Result (Unit {0}) Failed) (old new : KeptSet) → IsKept old → IsSaveCall SyncGate epoch answer old new → answer ≡ Ok tt → old.contents.tells ≡ true → IsSavedTo SyncGate epoch old → IsSafelySaved epoch new
safely epoch (Err failed) old new kept has ok tells saved = absurd cc
safely epoch (Ok done) old new kept has ok tells saved = record {
  saved = subst (λ (n : ℕ). IsSaved epoch n (used_in epoch new) new.contents.bytes) whole (ready-saved epoch (used_in epoch new) new.contents.bytes ready (gate_opened new.contents.bytes gate));
  spelled = ready;
  gate = gate;
}
  where
    used : used_in epoch new ≡ used_in epoch old
    used = same_used epoch old new has.same

    ready : IsReady epoch (used_in epoch new) new.contents.bytes
    ready = subst (λ (u : List Bool). IsReady epoch u new.contents.bytes) (sym used) (saving-ready 4 epoch (used_in epoch old) (Ok done) old.contents.bytes new.contents.bytes (omega arith) (has.step tells) saved.0)

    gate : gate_of new.contents.bytes ≡ map safe_byte (1 ∷ [])
    gate = made_open epoch (used_in epoch old) saved.1.old old.contents.bytes new.contents.bytes saved.1.done done saved.1.step (has.step tells)

    whole : length (used_in epoch new) ≡ new.contents.blocks
    whole = ap (λ (u : List Bool). length u) used ∙ whole_map epoch old kept ∙ sym has.same.contents.blocks

pub saved_safely : (c : Connection) (w : StopWork) (p : Owned) (turn : StopTurn) (v : StopWork) (q : Owned) → w.phase ≡ Save c SyncGate → IsSavedAt w.phase w.member p → IsKept (set_in w.member c.structure p.datasets)
    → (has : HasSaved c SyncGate w p turn v q) → has.answer ≡ Ok tt → (set_in w.member c.structure p.datasets).contents.tells ≡ true → IsSafelySaved c.epoch (set_in w.member c.structure q.datasets)
saved_safely c w p turn v q is saved kept has ok tells =
    safely c.epoch has.answer (set_in w.member c.structure p.datasets) (set_in w.member c.structure q.datasets) kept has.call_is ok tells (subst (λ (x : Phase). IsSavedAt x w.member p) is saved tells)
