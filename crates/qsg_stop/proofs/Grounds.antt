-- a STOP, as the machine of blocks sees it
use Rattle.std.proofs.Common.{◌≡◌, ℕ, zero, suc, ◌+◌, ◌-◌, ◌<◌, ◌≤◌, Bool, true, false, cond, List, [], ◌∷◌, length, drop, map, replicate, Option, Some, None, Result, Ok, Err, refl, sym, ap, subst, ◌∙◌, true≢false, inl, inr, arith}
use Rattle.std.specs.Prelude.{◌⊎◌, nat_le}
use Rattle.std.proofs.lemmas.Bool.{eqb-true, cases_lt}
use Rattle.std.proofs.lemmas.Option.{same_Some}
use Rattle.std.proofs.lemmas.List.{get_or_past}
use Rattle.qsg_num.specs.declared.seats.Member.{Member}
use Rattle.qsg_num.specs.declared.seats.StructNo.{StructNo}
use Rattle.qsg_num.specs.declared.seats.StructNo.TheVariants as structure
use Rattle.qsg_num.specs.declared.words.Failed.{Failed}
use Rattle.qsg_num.specs.Seats.{member_number, structure_number, structure_at}
use Rattle.qsg_num.proofs.Ranges.{structure-bounds}
use Rattle.qsg_disk.specs.Byte.{Byte, Beside}
use Rattle.qsg_group.specs.Tables.{at_member}
use Rattle.qsg_group.proofs.Tables.{cases_member, cases_structure, change-same, change-other}
use Rattle.qsg_lists.specs.declared.parts.Connection.{Connection}
use Rattle.qsg_lists.specs.declared.parts.Lost.{Lost}
use Rattle.qsg_lists.specs.declared.parts.Seen.{Seen}
use Rattle.qsg_lists.specs.Structures.{is_active, connect_answer}
use Rattle.qsg_dataset.specs.Steps.{SaveStep}
use Rattle.qsg_dataset.proofs.Spelling.{length-spelling}
use Rattle.qsg_blocks.specs.State.{Ground, IsThere, AreTold, stands as post_stands}
use Rattle.qsg_blocks.specs.Laws.{AreBlank, IsFitting, Laws}
use Rattle.qsg_blocks.specs.Changes.{Change, MaySave, MaySync, ended as ended_post, with_set as ground_set, with_post}
use Rattle.qsg_blocks.specs.Changes.Change.{Rests, Saves, Syncs, Maps, Stops}
use Rattle.qsg_blocks.specs.Works.{Stopper, FitsStop, IsOtherMembers}
use Rattle.qsg_datasets.specs.declared.member_data_set.KeptMap.{KeptMap}
use Rattle.qsg_datasets.specs.Kept.{KeptSet, HasSet, no_set, set_for, with_set_for, sets_of, set_in, with_set, emptied, emptied_all, is_of_epoch, stands, used_by, used_in}
use Rattle.qsg_datasets.specs.Calls.{IsStorageSame}
use Rattle.qsg_datasets.proofs.Lookups.{row_here, set_here, set_of_structure, set_of_member, emptied_here, size_emptied}
use Rattle.qsg_manager.specs.declared.managers.Manager.{Manager}
use Rattle.qsg_manager.specs.Facilities.{structure_in}
use Rattle.qsg_manager.specs.Storage.{manager_in}
use Rattle.qsg_manager.specs.Seats.{with_down}
use Rattle.qsg_parts.specs.Owned.{Owned}
use Rattle.qsg_stop.specs.declared.phases.Phase.{Phase}
use Rattle.qsg_stop.specs.declared.phases.Phase.TheVariants.{Connect, Save, Tell, Last}
use Rattle.qsg_stop.specs.declared.phases.SaveCall.{SaveCall}
use Rattle.qsg_stop.specs.declared.phases.SaveCall.TheVariants.{WriteMap, SyncMap, OpenGate, SyncGate}
use Rattle.qsg_stop.specs.declared.phases.StopTurn.{StopTurn}
use Rattle.qsg_stop.specs.declared.work.StopWork.{StopWork}
use Rattle.qsg_stop.specs.Calls.{number_of, call_behind}
use Rattle.qsg_stop.specs.Needs.{HasSets, HasStructure, MaySave as MaySaveMap, MayStepAt, MayStep}
use Rattle.qsg_stop.specs.Steps.{Next, begun, new_work, structure_next, after_structure, connected, behind, saved_phase, HasSaved, after_connect, after_tell, after_last, NextAt, NextStop}
use Rattle.qsg_stop.specs.Ground.{post_of, ground_in}
use Rattle.qsg_stop.specs.Stopping.{calls_before, IsTrueTo, AreTrueBehind, AreTrueAt, AreKept, HasLaws, IsIdle, IsOthers}
use Rattle.qsg_stop.proofs.Downing.{down_here, down_other}

-- ---- what is known of stoppers

abbrev pub Begins : Type 0
Begins = (g : Ground) (m : Member) → IsFitting g → Laws g → (g.posts m).up ≡ true → AreBlank (g.sets m).hands →
    (is_active g.structure.state ≡ false → post_stands g.structure.state m (g.posts m) ≡ false) →
    FitsStop (record { owner = m; steps = 0 }) (with_post m (ended_post (g.posts m)) g)

abbrev pub WritesHeaders : Type 0
WritesHeaders = (w : Stopper) (g : Ground) (kept : KeptMap) (result : Result (Unit {0}) Failed) (set : KeptSet) → IsFitting g → FitsStop w g → IsThere (g.sets w.owner) →
    (g.sets w.owner).map ≡ Some kept → IsStorageSame (g.sets w.owner) set → (w.steps ≡ 0) ⊎ (w.steps ≡ 2) →
    SaveStep (w.steps + 1) kept.epoch kept.used result (g.sets w.owner).contents.bytes set.contents.bytes → MaySave g w.owner set

abbrev pub GoesOn : Type 0
GoesOn = (w : Stopper) (g : Ground) (kept : KeptMap) (one : Unit {0}) (set : KeptSet) → FitsStop w g →
    (g.sets w.owner).map ≡ Some kept → IsStorageSame (g.sets w.owner) set → w.steps ≤ 3 →
    SaveStep {E = Failed} (w.steps + 1) kept.epoch kept.used (Ok one) (g.sets w.owner).contents.bytes set.contents.bytes →
    FitsStop (record w { steps = w.steps + 1 }) (ground_set w.owner set g)

abbrev pub KeepsStoppers : Type 0
KeepsStoppers = (w : Stopper) (g h : Ground) (c : Change g h) → IsOtherMembers w.owner g h c → AreTold g.sets → IsFitting g → Laws g → FitsStop w g → FitsStop w h

-- ---- grounds that stay, or of which one data set changes

rests : (s : StructNo) (p q : Owned) → ground_in s q ≡ ground_in s p → Change (ground_in s p) (ground_in s q)
rests s p q same = subst (Change (ground_in s p)) (sym same) (Rests (ground_in s p))

sets_here : (m : Member) (s : StructNo) (x : KeptSet) (sets : List (List KeptSet)) → HasSet m s sets → (k : Member) → set_in k s (with_set m s x sets) ≡ at_member m (λ old. x) (λ j. set_in j s sets) k
sets_here m s x sets has k = elim (cases_member k m) [
  | inl same ↦ subst (λ j. set_in j s (with_set m s x sets) ≡ at_member m (λ old. x) (λ i. set_in i s sets) j) (sym same)
      (set_here m s x sets has ∙ sym (change-same member_number m (λ old. x) (λ j. set_in j s sets)))
  | inr differ ↦ set_of_member m k s (with_set_for s x (sets_of m sets)) sets differ ∙ sym (change-other member_number m (λ old. x) (λ j. set_in j s sets) k differ)
]

sets_elsewhere : (m : Member) (s z : StructNo) (x : KeptSet) (sets : List (List KeptSet)) → HasSet m s sets → (structure_number z ≡ structure_number s → ⊥) → (k : Member) → set_in k z (with_set m s x sets) ≡ set_in k z sets
sets_elsewhere m s z x sets has differ k = elim (cases_member k m) [
  | inl same ↦ subst (λ j. set_in j z (with_set m s x sets) ≡ set_in j z sets) (sym same) (set_of_structure m s z x sets has differ)
  | inr other ↦ set_of_member m k z (with_set_for s x (sets_of m sets)) sets other
]

-- after a call that saves a map
saved_here : (c : Connection) (call : SaveCall) (w : StopWork) (p : Owned) (turn : StopTurn) (v : StopWork) (q : Owned) → HasSets w.member p → HasStructure c.structure p → HasSaved c call w p turn v q
    → ground_in c.structure q ≡ ground_set w.member (set_in w.member c.structure q.datasets) (ground_in c.structure p)
saved_here c call w p turn v q sets within has =
    ap (ground_in c.structure) has.others
    ∙ (λ i. record (ground_in c.structure p) { sets = λ k. sets_here w.member c.structure (set_in w.member c.structure q.datasets) p.datasets (sets.each c.structure within) k i })

saved_elsewhere : (c : Connection) (call : SaveCall) (z : StructNo) (w : StopWork) (p : Owned) (turn : StopTurn) (v : StopWork) (q : Owned) → HasSets w.member p → HasStructure c.structure p → (structure_number z ≡ structure_number c.structure → ⊥) → HasSaved c call w p turn v q
    → ground_in z q ≡ ground_in z p
saved_elsewhere c call z w p turn v q sets within differ has =
    ap (ground_in z) has.others
    ∙ (λ i. record (ground_in z p) { sets = λ k. sets_elsewhere w.member c.structure z (set_in w.member c.structure q.datasets) p.datasets (sets.each c.structure within) differ k i })

-- ---- the begin

begun_posts : (m : Member) (ms : List Manager) → member_number m ≤ length ms → (k : Member) → post_of (manager_in k (with_down m ms)) ≡ at_member m (λ old. ended_post (post_of (manager_in m ms))) (λ j. post_of (manager_in j ms)) k
begun_posts m ms within k = elim (cases_member k m) [
  | inl same ↦ subst (λ j. post_of (manager_in j (with_down m ms)) ≡ at_member m (λ old. ended_post (post_of (manager_in m ms))) (λ i. post_of (manager_in i ms)) j) (sym same)
      (ap post_of (down_here m ms within) ∙ sym (change-same member_number m (λ old. ended_post (post_of (manager_in m ms))) (λ j. post_of (manager_in j ms))))
  | inr differ ↦ ap post_of (down_other m k ms differ) ∙ sym (change-other member_number m (λ old. ended_post (post_of (manager_in m ms))) (λ j. post_of (manager_in j ms)) k differ)
]

begun_ground : (s : StructNo) (m : Member) (p : Owned) → member_number m ≤ length p.managers → ground_in s (begun m p) ≡ with_post m (ended_post ((ground_in s p).posts m)) (ground_in s p)
begun_ground s m p within = λ i. record (ground_in s p) { posts = λ k. begun_posts m p.managers within k i }

pub begun_change : (s : StructNo) (m : Member) (p : Owned) → member_number m ≤ length p.managers → (manager_in m p.managers).up ≡ true → IsIdle m s p → Change (ground_in s p) (ground_in s (begun m p))
begun_change s m p within up idle = subst (Change (ground_in s p)) (sym (begun_ground s m p within)) (Stops (ground_in s p) m (record { up = up; blank = idle.blank }))

begun_true : Begins → (s : StructNo) (m : Member) (p : Owned) → member_number m ≤ length p.managers → (manager_in m p.managers).up ≡ true → HasLaws s p → IsIdle m s p → IsTrueTo 0 m s (begun m p)
begun_true begins s m p within up has idle told =
    let g = ground_in s p in
    subst (FitsStop (record { owner = m; steps = 0 })) (sym (begun_ground s m p within)) (begins g m has.fitting (has.laws told) up idle.blank idle.calm)

behind_next : (count : ℕ) (s : Option StructNo) (n : ℕ) (m : Member) (p : Owned) → ((x : StructNo) → s ≡ Some x → n ≤ structure_number x - 1) → AreTrueBehind n m p → AreTrueAt (structure_next count s) m p
behind_next count None n m p higher true_behind = tt
behind_next count (Some x) n m p higher true_behind = by (nat_le (structure_number x) count)
  where
    by : (b : Bool) → AreTrueAt (cond b (Connect x) Last) m p
    by true = λ z above. let h = higher x refl in true_behind z (omega arith)
    by false = tt

pub begun_are_true : Begins → (m : Member) (p : Owned) → member_number m ≤ length p.managers → (manager_in m p.managers).up ≡ true → ((s : StructNo) → HasLaws s p) → ((s : StructNo) → IsIdle m s p) → AreTrueAt (new_work m p).phase m (begun m p)
begun_are_true begins m p within up has idle =
    behind_next (length p.structures) (structure_at 1) 0 m (begun m p) (λ x is. omega arith) (λ s above. begun_true begins s m p within up (has s) (idle s))

-- ---- a map that stands

standing : (epoch : ℕ) (set : KeptSet) → stands epoch set ≡ true → (kept : KeptMap) × (set.map ≡ Some kept) × (kept.epoch ≡ epoch) × (kept.used ≡ used_in epoch set)
standing epoch set is = by set.map refl is
  where
    by : (o : Option KeptMap) → set.map ≡ o → is_of_epoch epoch o ≡ true → (kept : KeptMap) × (set.map ≡ Some kept) × (kept.epoch ≡ epoch) × (kept.used ≡ used_in epoch set)
    by None at none = absurd (true≢false (sym none))
    by (Some kept) at same =
        let used : used_in epoch set ≡ kept.used = ap (λ (o : Option KeptMap). used_by epoch set.contents.blocks o) at ∙ ap (λ (b : Bool). cond b kept.used (replicate set.contents.blocks false)) same in
        (kept, at, eqb-true kept.epoch epoch same, sym used)

-- a call on it, by the map that is kept
own_step : (n epoch : ℕ) (set : KeptSet) (kept : KeptMap) (answer : Result (Unit {0}) Failed) (new : List Byte) → kept.epoch ≡ epoch → kept.used ≡ used_in epoch set → SaveStep n epoch (used_in epoch set) answer set.contents.bytes new → SaveStep n kept.epoch kept.used answer set.contents.bytes new
own_step n epoch set kept answer new at used step =
    subst (λ (e : ℕ). SaveStep n e kept.used answer set.contents.bytes new) (sym at) (subst (λ (u : List Bool). SaveStep n epoch u answer set.contents.bytes new) (sym used) step)

-- ---- what is true stays so in a step

-- devices tell their bytes behind a call where they did before it
told_saved : (c : Connection) (call : SaveCall) (w : StopWork) (p : Owned) (turn : StopTurn) (v : StopWork) (q : Owned) → HasSets w.member p → HasStructure c.structure p → HasSaved c call w p turn v q
    → AreTold (ground_in c.structure q).sets → AreTold (ground_in c.structure p).sets
told_saved c call w p turn v q sets within has told k there = elim (cases_member k w.member) [
  | inl same ↦
      let same_contents = has.call_is.same.contents in
      let old_there = subst (λ (j : Member). IsThere (set_in j c.structure p.datasets)) same there in
      let new_there : IsThere (set_in w.member c.structure q.datasets) = let h = same_contents.blocks in omega (arith, old_there) in
      subst (λ (j : Member). (set_in j c.structure p.datasets).contents.tells ≡ true) (sym same) (sym same_contents.tells ∙ told w.member new_there)
  | inr differ ↦
      let stays : set_in k c.structure q.datasets ≡ set_in k c.structure p.datasets =
      ap (λ (x : Owned). set_in k c.structure x.datasets) has.others ∙ set_of_member w.member k c.structure (with_set_for c.structure (set_in w.member c.structure q.datasets) (sets_of w.member p.datasets)) p.datasets differ in
      ap (λ (x : KeptSet). x.contents.tells) (sym stays) ∙ told k (subst IsThere (sym stays) there)
]

moved : (n : ℕ) (m : Member) (z : StructNo) (p q : Owned) → ground_in z q ≡ ground_in z p → IsTrueTo n m z p → IsTrueTo n m z q
moved n m z p q same is = subst (λ (g : Ground). AreTold g.sets → FitsStop (record { owner = m; steps = n }) g) (sym same) is

true_on : GoesOn → (c : Connection) (call next : SaveCall) (w : StopWork) (p : Owned) (turn : StopTurn) (v : StopWork) (q : Owned) → HasSets w.member p → MaySaveMap w.member c p → (has : HasSaved c call w p turn v q) → (done : Unit {0}) → has.answer ≡ Ok done
    → calls_before call + 1 ≡ number_of call → call_behind call ≡ Some next → calls_before call ≤ 3 → calls_before next ≡ calls_before call + 1 → IsThere (set_in w.member c.structure p.datasets) → IsTrueTo (calls_before call) w.member c.structure p → IsTrueTo (calls_before next) w.member c.structure q
true_on goes_on c call next w p turn v q sets may has done ok number is few more there true_now told =
    let old_told = told_saved c call w p turn v q sets may.structure has told in
    let g = ground_in c.structure p in
    let set = set_in w.member c.structure p.datasets in
    let new = set_in w.member c.structure q.datasets in
    let map = standing c.epoch set may.map in
    let step = own_step (number_of call) c.epoch set map.0 has.answer new.contents.bytes map.2 map.3 (has.call_is.step (old_told w.member there)) in
    let one = subst (λ (r : Result (Unit {0}) Failed). SaveStep (number_of call) map.0.epoch map.0.used r set.contents.bytes new.contents.bytes) ok step in
    let at = subst (λ (n : ℕ). SaveStep {E = Failed} n map.0.epoch map.0.used (Ok done) set.contents.bytes new.contents.bytes) (sym number) one in
    subst (λ (h : Ground). FitsStop (record { owner = w.member; steps = calls_before next }) h) (sym (saved_here c call w p turn v q sets may.structure has))
    (subst (λ (n : ℕ). FitsStop (record { owner = w.member; steps = n }) (ground_set w.member new g)) (sym more)
    (goes_on (record { owner = w.member; steps = calls_before call }) g map.0 done new (true_now old_told) map.1 has.call_is.same few at))

-- ---- behind a structure

behind_moved : (n : ℕ) (m : Member) (p q : Owned) → ((z : StructNo) → n < structure_number z → ground_in z q ≡ ground_in z p) → AreTrueBehind n m p → AreTrueBehind n m q
behind_moved n m p q same true_behind = λ z above. moved 0 m z p q (same z above) (true_behind z above)

number_at : (n : ℕ) (x : StructNo) → structure_at n ≡ Some x → structure_number x ≡ n
number_at zero x is = absurd cc
number_at (suc zero) x is = ap structure_number (sym (same_Some structure.One x is))
number_at (suc (suc zero)) x is = ap structure_number (sym (same_Some structure.Two x is))
number_at (suc (suc (suc zero))) x is = ap structure_number (sym (same_Some structure.Three x is))
number_at (suc (suc (suc (suc zero)))) x is = ap structure_number (sym (same_Some structure.Four x is))
number_at (suc (suc (suc (suc (suc n))))) x is = absurd cc

next_higher : (n : ℕ) (x : StructNo) → structure_at (n + 1) ≡ Some x → n ≤ structure_number x - 1
next_higher n x is = let h = number_at (n + 1) x is in omega (arith, h)

after_true : (count : ℕ) (s : StructNo) (m : Member) (p : Owned) → AreTrueBehind (structure_number s) m p → AreTrueAt (after_structure count s) m p
after_true count s m p true_behind = behind_next count (structure_at (structure_number s + 1)) (structure_number s) m p (λ x is. next_higher (structure_number s) x is) true_behind

-- ---- a step

connected_true : (s : StructNo) (count : ℕ) (set : KeptSet) (answer : Result Seen Lost) (m : Member) (p : Owned) → AreTrueBehind (structure_number s - 1) m p → AreTrueAt (connected s count set answer) m p
connected_true s count set (Ok seen) m p true_behind = by (stands seen.connection.epoch set)
  where
    by : (b : Bool) → AreTrueAt (cond b (Save (record { structure = s; epoch = seen.connection.epoch }) WriteMap) (after_structure count s)) m p
    by true = let one = structure-bounds s in (true_behind s (omega arith), λ z above. true_behind z (omega arith))
    by false = after_true count s m p (λ z above. let one = structure-bounds s in true_behind z (omega arith))
connected_true s count set (Err lost) m p true_behind = after_true count s m p (λ z above. let one = structure-bounds s in true_behind z (omega arith))

saved_true : GoesOn → (c : Connection) (call : SaveCall) (w : StopWork) (p : Owned) (turn : StopTurn) (v : StopWork) (q : Owned) → HasSets w.member p → MaySaveMap w.member c p → IsThere (set_in w.member c.structure p.datasets) → (has : HasSaved c call w p turn v q)
    → IsTrueTo (calls_before call) w.member c.structure p → AreTrueBehind (structure_number c.structure) w.member p → (answer : Result (Unit {0}) Failed) → has.answer ≡ answer → AreTrueAt (saved_phase c call answer) w.member q
saved_true goes_on c call w p turn v q sets may there has now true_behind answer is = by answer is
  where
    rest : AreTrueBehind (structure_number c.structure) w.member q
    rest = behind_moved (structure_number c.structure) w.member p q (λ z above. saved_elsewhere c call z w p turn v q sets may.structure (λ same. omega (arith, same, above)) has) true_behind

    on : (x next : SaveCall) (done : Unit {0}) → has.answer ≡ Ok done → call ≡ x → calls_before x + 1 ≡ number_of x → call_behind x ≡ Some next → calls_before x ≤ 3 → calls_before next ≡ calls_before x + 1 → IsTrueTo (calls_before next) w.member c.structure q
    on x next done ok same number behind few more =
        let has_x = subst (λ (y : SaveCall). (h : HasSaved c y w p turn v q) × (h.answer ≡ Ok done)) same (has, ok) in
        true_on goes_on c x next w p turn v q sets may has_x.0 done has_x.1 number behind few more there (subst (λ (y : SaveCall). IsTrueTo (calls_before y) w.member c.structure p) same now)

    of_call : (x : SaveCall) (done : Unit {0}) → has.answer ≡ Ok done → call ≡ x → AreTrueAt (saved_phase c x (Ok done)) w.member q
    of_call WriteMap done ok same = (on WriteMap SyncMap done ok same refl refl (omega arith) refl, rest)
    of_call SyncMap done ok same = (on SyncMap OpenGate done ok same refl refl (omega arith) refl, rest)
    of_call OpenGate done ok same = (on OpenGate SyncGate done ok same refl refl (omega arith) refl, rest)
    of_call SyncGate done ok same = rest

    by : (r : Result (Unit {0}) Failed) → has.answer ≡ r → AreTrueAt (saved_phase c call r) w.member q
    by (Ok done) ok = of_call call done ok refl
    by (Err failed) ok = rest

next_is : (next : Next) (turn : StopTurn) (v : StopWork) (q : Owned) (m : Member) → record { turn = turn; work = v; parts = q } ≡ next → AreTrueAt next.work.phase m next.parts → AreTrueAt v.phase m q
next_is next turn v q m is holds = subst (λ (n : Next). AreTrueAt n.work.phase m n.parts) (sym is) holds

kept_there : (m : Member) (s : StructNo) (p : Owned) → AreKept m p → HasSets m p → HasStructure s p → IsThere (set_in m s p.datasets)
kept_there m s p kept sets within = (kept s (sets.each s within)).sized.some_blocks

true_at : GoesOn → (phase : Phase) (w : StopWork) (p : Owned) (turn : StopTurn) (v : StopWork) (q : Owned) → w.phase ≡ phase → HasSets w.member p → AreKept w.member p → MayStepAt phase w.member p → AreTrueAt phase w.member p → NextAt phase w p turn v q → AreTrueAt v.phase w.member q
true_at goes_on (Connect s) w p turn v q is sets kept may holds next = next_is (after_connect s w p) turn v q w.member next (connected_true s (length p.structures) (set_in w.member s p.datasets) (connect_answer (structure_in s p.structures)) w.member p holds)
true_at goes_on (Save c call) w p turn v q is sets kept may holds next = subst (λ (x : StopWork). AreTrueAt x.phase w.member q) (sym next.work_is)
    (saved_true goes_on c call w p turn v q sets may (kept_there w.member c.structure p kept sets may.structure) next holds.0 holds.1 next.answer refl)
true_at goes_on (Tell c) w p turn v q is sets kept may holds next = next_is (after_tell c w p) turn v q w.member next (after_true (length p.structures) c.structure w.member (after_tell c w p).parts holds)
true_at goes_on Last w p turn v q is sets kept may holds next = next_is (after_last w p) turn v q w.member next (subst (λ (x : Phase). AreTrueAt x w.member (after_last w p).parts) (sym is) tt)

pub stays_true : GoesOn → (w : StopWork) (p : Owned) (turn : StopTurn) (v : StopWork) (q : Owned) → MayStep w p → AreKept w.member p → AreTrueAt w.phase w.member p → NextStop w p turn v q → AreTrueAt v.phase w.member q
stays_true goes_on w p turn v q may kept holds next = true_at goes_on w.phase w p turn v q refl may.sets kept may.at holds next

-- ---- an action of others

to_beside : KeepsStoppers → (n : ℕ) (m : Member) (s : StructNo) (p q : Owned) → HasLaws s p → IsOthers m (ground_in s p) (ground_in s q) → IsTrueTo n m s p → IsTrueTo n m s q
to_beside keeps n m s p q has others holds told =
    let old = others.told told in
    keeps (record { owner = m; steps = n }) (ground_in s p) (ground_in s q) others.change others.others old has.fitting (has.laws old) (holds old)

pub true_beside : KeepsStoppers → (m : Member) (phase : Phase) (p q : Owned) → ((s : StructNo) → HasLaws s p) → ((s : StructNo) → IsOthers m (ground_in s p) (ground_in s q)) → AreTrueAt phase m p → AreTrueAt phase m q
true_beside keeps m (Connect s) p q has others holds = λ z above. to_beside keeps 0 m z p q (has z) (others z) (holds z above)
true_beside keeps m (Save c call) p q has others holds = (to_beside keeps (calls_before call) m c.structure p q (has c.structure) (others c.structure) holds.0, λ z above. to_beside keeps 0 m z p q (has z) (others z) (holds.1 z above))
true_beside keeps m (Tell c) p q has others holds = λ z above. to_beside keeps 0 m z p q (has z) (others z) (holds z above)
true_beside keeps m Last p q has others holds = tt

-- ---- what a call on a header is

-- a write within the header is beside all that is behind it
drop_behind : (old new : List Byte) → drop 1 new ≡ drop 1 old → drop 4096 new ≡ drop 4096 old
drop_behind [] [] same = refl
drop_behind [] (y ∷ new) same = ap (drop 4095) same
drop_behind (x ∷ old) [] same = ap (drop 4095) same
drop_behind (x ∷ old) (y ∷ new) same = ap (drop 4095) same

map_written : (epoch : ℕ) (used : List Bool) (answer : Result (Unit {0}) Failed) (old new : List Byte) → SaveStep 1 epoch used answer old new → Beside 0 4096 old new
map_written epoch used answer old new step = record {
  before = refl;
  after = subst (λ (n : ℕ). drop (1 + n) new ≡ drop (1 + n) old) (length-spelling epoch used) step.beside.after;
  same_length = step.beside.same_length;
}

gate_written : (epoch : ℕ) (used : List Bool) (answer : Result (Unit {0}) Failed) (old new : List Byte) → SaveStep 3 epoch used answer old new → Beside 0 4096 old new
gate_written epoch used answer old new step = record {
  before = refl;
  after = drop_behind old new step.beside.after;
  same_length = step.beside.same_length;
}

-- a write of the map, or of the gate
save_change : WritesHeaders → (c : Connection) (call : SaveCall) (w : StopWork) (p : Owned) (turn : StopTurn) (v : StopWork) (q : Owned) → HasSets w.member p → MaySaveMap w.member c p → IsThere (set_in w.member c.structure p.datasets) → HasLaws c.structure p → (manager_in w.member p.managers).up ≡ false
    → IsTrueTo (calls_before call) w.member c.structure p → (has : HasSaved c call w p turn v q) → calls_before call + 1 ≡ number_of call → (calls_before call ≡ 0) ⊎ (calls_before call ≡ 2)
    → ((set_in w.member c.structure p.datasets).contents.tells ≡ true → Beside 0 4096 (set_in w.member c.structure p.datasets).contents.bytes (set_in w.member c.structure q.datasets).contents.bytes)
    → Change (ground_in c.structure p) (ground_in c.structure q)
save_change writes c call w p turn v q sets may there laws down now has number which beside =
    let g = ground_in c.structure p in
    let set = set_in w.member c.structure p.datasets in
    let new = set_in w.member c.structure q.datasets in
    let map = standing c.epoch set may.map in
    subst (Change g) (sym (saved_here c call w p turn v q sets may.structure has)) (Saves g w.member new (record {
      down = down;
      there = there;
      same = has.call_is.same;
      beside = beside;
      header = λ told.
          let step = own_step (number_of call) c.epoch set map.0 has.answer new.contents.bytes map.2 map.3 (has.call_is.step (told w.member there)) in
          let at = subst (λ (n : ℕ). SaveStep n map.0.epoch map.0.used has.answer set.contents.bytes new.contents.bytes) (sym number) step in
          (writes (record { owner = w.member; steps = calls_before call }) g map.0 has.answer new laws.fitting (now told) there map.1 has.call_is.same which at).header told;
    }))

-- a sync
sync_change : (c : Connection) (call : SaveCall) (w : StopWork) (p : Owned) (turn : StopTurn) (v : StopWork) (q : Owned) → HasSets w.member p → HasStructure c.structure p → IsThere (set_in w.member c.structure p.datasets) → (has : HasSaved c call w p turn v q)
    → MaySync (ground_in c.structure p) w.member (set_in w.member c.structure q.datasets) → Change (ground_in c.structure p) (ground_in c.structure q)
sync_change c call w p turn v q sets within there has may = subst (Change (ground_in c.structure p)) (sym (saved_here c call w p turn v q sets within has)) (Syncs (ground_in c.structure p) w.member (set_in w.member c.structure q.datasets) may)

call_change : WritesHeaders → (c : Connection) (call : SaveCall) (w : StopWork) (p : Owned) (turn : StopTurn) (v : StopWork) (q : Owned) → HasSets w.member p → MaySaveMap w.member c p → IsThere (set_in w.member c.structure p.datasets) → HasLaws c.structure p → (manager_in w.member p.managers).up ≡ false
    → IsTrueTo (calls_before call) w.member c.structure p → HasSaved c call w p turn v q → Change (ground_in c.structure p) (ground_in c.structure q)
call_change writes c WriteMap w p turn v q sets may there laws down now has = save_change writes c WriteMap w p turn v q sets may there laws down now has refl (inl refl)
    (λ tells. map_written c.epoch (used_in c.epoch (set_in w.member c.structure p.datasets)) has.answer (set_in w.member c.structure p.datasets).contents.bytes (set_in w.member c.structure q.datasets).contents.bytes (has.call_is.step tells))
call_change writes c SyncMap w p turn v q sets may there laws down now has = sync_change c SyncMap w p turn v q sets may.structure there has (record { there = there; same = has.call_is.same; kept = λ tells. (has.call_is.step tells).kept })
call_change writes c OpenGate w p turn v q sets may there laws down now has = save_change writes c OpenGate w p turn v q sets may there laws down now has refl (inr refl)
    (λ tells. gate_written c.epoch (used_in c.epoch (set_in w.member c.structure p.datasets)) has.answer (set_in w.member c.structure p.datasets).contents.bytes (set_in w.member c.structure q.datasets).contents.bytes (has.call_is.step tells))
call_change writes c SyncGate w p turn v q sets may there laws down now has = sync_change c SyncGate w p turn v q sets may.structure there has (record { there = there; same = has.call_is.same; kept = λ tells. (has.call_is.step tells).kept })

saved_change : WritesHeaders → (s : StructNo) (c : Connection) (call : SaveCall) (w : StopWork) (p : Owned) (turn : StopTurn) (v : StopWork) (q : Owned) → HasSets w.member p → MaySaveMap w.member c p → IsThere (set_in w.member c.structure p.datasets) → HasLaws s p → (manager_in w.member p.managers).up ≡ false
    → IsTrueTo (calls_before call) w.member c.structure p → HasSaved c call w p turn v q → Change (ground_in s p) (ground_in s q)
saved_change writes s c call w p turn v q sets may there laws down now has = elim (cases_structure s c.structure) [
  | inl same ↦ subst (λ (x : StructNo). Change (ground_in x p) (ground_in x q)) (sym same) (call_change writes c call w p turn v q sets may there (subst (λ (x : StructNo). HasLaws x p) same laws) down now has)
  | inr differ ↦ rests s p q (saved_elsewhere c call s w p turn v q sets may.structure differ has)
]

-- ---- the end

ended_sets : (m : Member) (s : StructNo) (sets : List (List KeptSet)) → HasSet m s sets → (k : Member) → set_in k s (emptied_all m sets) ≡ at_member m (λ old. emptied (set_in m s sets)) (λ j. set_in j s sets) k
ended_sets m s sets has k = elim (cases_member k m) [
  | inl same ↦ subst (λ j. set_in j s (emptied_all m sets) ≡ at_member m (λ old. emptied (set_in m s sets)) (λ i. set_in i s sets) j) (sym same)
      (emptied_here m s sets has
      ∙ sym (change-same member_number m (λ old. emptied (set_in m s sets)) (λ j. set_in j s sets)))
  | inr differ ↦ set_of_member m k s (map emptied (sets_of m sets)) sets differ ∙ sym (change-other member_number m (λ old. emptied (set_in m s sets)) (λ j. set_in j s sets) k differ)
]

-- what stands where the member has no data set stays
none_ended : (m : Member) (s : StructNo) (sets : List (List KeptSet)) → member_number m ≤ length sets → length (sets_of m sets) ≤ structure_number s - 1 → (k : Member) → set_in k s (emptied_all m sets) ≡ set_in k s sets
none_ended m s sets within past k = elim (cases_member k m) [
  | inl same ↦ subst (λ j. set_in j s (emptied_all m sets) ≡ set_in j s sets) (sym same)
      (ap (set_for s) (row_here m (map emptied (sets_of m sets)) sets within)
      ∙ get_or_past (map emptied (sets_of m sets)) (structure_number s - 1) no_set (omega (arith, past, size_emptied m sets))
      ∙ sym (get_or_past (sets_of m sets) (structure_number s - 1) no_set past))
  | inr differ ↦ set_of_member m k s (map emptied (sets_of m sets)) sets differ
]

ended_change : (s : StructNo) (w : StopWork) (p : Owned) → HasSets w.member p → AreKept w.member p → (manager_in w.member p.managers).up ≡ false → Change (ground_in s p) (ground_in s (after_last w p).parts)
ended_change s w p sets kept down = elim (cases_lt (structure_number s - 1) (length (sets_of w.member p.datasets))) [
  | inl within ↦
      let has : HasSet w.member s p.datasets = record { member = sets.member; structure = let one = structure-bounds s in omega arith } in
      let here = kept s has in
      let ground : ground_in s (after_last w p).parts ≡ ground_set w.member (emptied (set_in w.member s p.datasets)) (ground_in s p) =
      λ i. record (ground_in s p) { sets = λ k. ended_sets w.member s p.datasets has k i } in
      subst (Change (ground_in s p)) (sym ground) (Maps (ground_in s p) w.member (emptied (set_in w.member s p.datasets)) (record {
        down = down;
        there = here.sized.some_blocks;
        kept = record { sized = here.sized; five = refl; map = tt };
        hands = inr (refl, (refl, (refl, (refl, (refl, tt)))));
        same = record { tells = refl; block_size = refl; blocks = refl };
        bytes = λ tells. refl;
      }))
  | inr past ↦ rests s p (after_last w p).parts (λ i. record (ground_in s p) { sets = λ k. none_ended w.member s p.datasets sets.member past k i })
]

parts_are : (next : Next) (turn : StopTurn) (v : StopWork) (q : Owned) → record { turn = turn; work = v; parts = q } ≡ next → q ≡ next.parts
parts_are next turn v q is = ap (λ (n : Next). n.parts) is

change_at : WritesHeaders → (s : StructNo) (phase : Phase) (w : StopWork) (p : Owned) (turn : StopTurn) (v : StopWork) (q : Owned) → HasSets w.member p → AreKept w.member p → MayStepAt phase w.member p → HasLaws s p → (manager_in w.member p.managers).up ≡ false → AreTrueAt phase w.member p → NextAt phase w p turn v q → Change (ground_in s p) (ground_in s q)
change_at writes s (Connect x) w p turn v q sets kept may laws down holds next = rests s p q (ap (ground_in s) (parts_are (after_connect x w p) turn v q next))
change_at writes s (Save c call) w p turn v q sets kept may laws down holds next = saved_change writes s c call w p turn v q sets may (kept_there w.member c.structure p kept sets may.structure) laws down holds.0 next
change_at writes s (Tell c) w p turn v q sets kept may laws down holds next = rests s p q (ap (ground_in s) (parts_are (after_tell c w p) turn v q next))
change_at writes s Last w p turn v q sets kept may laws down holds next = subst (λ (x : Owned). Change (ground_in s p) (ground_in s x)) (sym (parts_are (after_last w p) turn v q next)) (ended_change s w p sets kept down)

pub step_change : WritesHeaders → (s : StructNo) (w : StopWork) (p : Owned) (turn : StopTurn) (v : StopWork) (q : Owned) → MayStep w p → AreKept w.member p → HasLaws s p → (manager_in w.member p.managers).up ≡ false → AreTrueAt w.phase w.member p → NextStop w p turn v q → Change (ground_in s p) (ground_in s q)
step_change writes s w p turn v q may kept laws down holds next = change_at writes s w.phase w p turn v q may.sets kept may.at laws down holds next
