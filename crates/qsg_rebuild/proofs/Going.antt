-- what a rebuild knows of its map and of its gate, step by step
use Rattle.std.proofs.Common.{◌≡◌, ℕ, ◌^◌, ◌<◌, ◌≤◌, Bool, true, false, List, length, Option, Some, None, Result, Ok, Err, refl, sym, ap, subst, ◌∙◌, arith}
use Rattle.std.specs.Prelude.{if◌then◌else◌, ◌==◌, ◌&&◌, find}
use Rattle.qsg_num.specs.declared.seats.Member.{Member}
use Rattle.qsg_num.specs.declared.ids.EntryId.{EntryId}
use Rattle.qsg_disk.specs.Byte.{Byte, values}
use Rattle.qsg_lists.specs.declared.parts.Entry.{Entry}
use Rattle.qsg_lists.specs.declared.parts.Lost.{Lost}
use Rattle.qsg_num.specs.declared.ids.Block.{Block}
use Rattle.qsg_lists.specs.declared.parts.Place.{Place}
use Rattle.qsg_lists.specs.declared.parts.Place.TheVariants.{Inline, Offloaded}
use Rattle.qsg_lists.specs.Entries.{is_above}
use Rattle.qsg_lists.specs.Structures.{ListStructure, IsSound, is_active, connect_answer, unless}
use Rattle.qsg_dataset.specs.Contents.{Contents, IsShut, gate_of}
use Rattle.qsg_datasets.specs.Kept.{KeptSet, IsKept, claimed, unmapped}
use Rattle.qsg_blocks.specs.State.{Ground, IsThere}
use Rattle.qsg_blocks.specs.Changes.{with_set}
use Rattle.qsg_blocks.specs.Works.{FitsStart, epoch_of_map}
use Rattle.qsg_parts.specs.Owned.{Owned}
use Rattle.qsg_num.specs.Seats.{member_number}
use Rattle.qsg_rebuild.specs.declared.phases.Phase.{Phase}
use Rattle.qsg_rebuild.specs.declared.phases.Phase.TheVariants.{Connect, Load, Scan, Shut, Sync}
use Rattle.qsg_rebuild.specs.declared.phases.RebuildTurn.{RebuildTurn}
use Rattle.qsg_rebuild.specs.declared.phases.RebuildTurn.TheVariants.{More, Done}
use Rattle.qsg_rebuild.specs.declared.work.RebuildWork.{RebuildWork}
use Rattle.qsg_rebuild.specs.Steps.{structure_of, set_of, with_set_of, Next, loading, after_connect, shutting, loaded_phase, kept_if, HasLoaded, claimed_by, scan_answer, scanned, after_scan, NextAt, NextRebuild}
use Rattle.qsg_rebuild.specs.Needs.{MayStep}
use Rattle.qsg_rebuild.specs.Grounds.{ground_of}
use Rattle.qsg_rebuild.specs.Gates.{gate_at, IsGate, KnowsGate, IsWhole}
use Rattle.qsg_rebuild.specs.Fitting.{IsLawful, HasGate, IsMadeOfAll, FitsAt, FitsRebuild, ended}
use Rattle.qsg_rebuild.proofs.Places.{set_is}
use Rattle.qsg_rebuild.proofs.Leaving.{parts_are, work_is, turn_is, step_place}
use Rattle.qsg_rebuild.proofs.Grounding.{ground_with}
use Rattle.qsg_rebuild.proofs.Gating.{gate_some, some_gate, gate_told, gate_written, gate_synced, loading_gate, loaded_gate, shutting_gate}
use Rattle.qsg_rebuild.proofs.Keeping.{gate_of_start}
use Rattle.qsg_rebuild.proofs.Making.{StarterLaws, connects, loads, claims, ends_scan, loses_scan, storage_all, shut_start}

-- ---- the gate alone

-- a device that tells its bytes has one
some_byte : (set : KeptSet) → IsKept set → IsWhole set.contents → set.contents.tells ≡ true → 1 ≤ length set.contents.bytes
some_byte set kept whole told = let exact = whole told in omega (arith, exact)

-- a map that is claimed or dropped leaves the bytes
claimed_if : (own : Bool) (blocks : List Block) (set : KeptSet) → (if own then claimed blocks set else set).contents ≡ set.contents
claimed_if true blocks set = refl
claimed_if false blocks set = refl

pub claimed_bytes : (m : Member) (place : Place) (set : KeptSet) → (claimed_by m place set).contents ≡ set.contents
claimed_bytes m (Inline body) set = refl
claimed_bytes m (Offloaded owner blocks n) set = claimed_if (member_number owner == member_number m) blocks set

pub kept_bytes : (served : Bool) (set : KeptSet) → (kept_if served set).contents ≡ set.contents
kept_bytes true set = refl
kept_bytes false set = refl

scanned_gate : (answer : Result (Option Entry) Lost) (epoch : ℕ) (open_gate : Bool) (w : RebuildWork) (p : Owned) → gate_at (scanned answer epoch open_gate w p).work.phase ≡ Some open_gate
scanned_gate (Ok (Some e)) epoch open_gate w p = refl
scanned_gate (Ok None) epoch open_gate w p = shutting_gate open_gate
scanned_gate (Err lost) epoch open_gate w p = shutting_gate open_gate

scanned_bytes : (answer : Result (Option Entry) Lost) (epoch : ℕ) (open_gate : Bool) (w : RebuildWork) (p q : Owned) → MayStep w p → q ≡ (scanned answer epoch open_gate w p).parts → (set_of w q).contents ≡ (set_of w p).contents
scanned_bytes (Ok (Some e)) epoch open_gate w p q may is = ap (λ (x : KeptSet). x.contents) (set_is w (claimed_by w.member e.place (set_of w p)) p q may.set is) ∙ claimed_bytes w.member e.place (set_of w p)
scanned_bytes (Ok None) epoch open_gate w p q may is = ap (λ (x : Owned). (set_of w x).contents) is
scanned_bytes (Err lost) epoch open_gate w p q may is = ap (λ (x : KeptSet). x.contents) (set_is w (unmapped (set_of w p)) p q may.set is)

scanned_turn : (answer : Result (Option Entry) Lost) (epoch : ℕ) (open_gate : Bool) (w : RebuildWork) (p : Owned) → (scanned answer epoch open_gate w p).turn ≡ More
scanned_turn (Ok (Some e)) epoch open_gate w p = refl
scanned_turn (Ok None) epoch open_gate w p = refl
scanned_turn (Err lost) epoch open_gate w p = refl

-- what is known of the bytes after a step, at the phase that it leaves
knows : (gate : Option Bool) (phase : Phase) (old new : List Byte) → gate_at phase ≡ gate → new ≡ old → IsGate gate old → KnowsGate phase new
knows gate phase old new is same known = subst (λ (x : Option Bool). IsGate x new) (sym is) (subst (IsGate gate) (sym same) known)

loaded_next : (epoch : ℕ) (served : Bool) (w : RebuildWork) (p : Owned) (v : RebuildWork) (q : Owned) → IsKept (set_of w p) → IsWhole (set_of w p).contents → (set_of w p).contents.tells ≡ true → HasLoaded epoch served w p More v q → KnowsGate v.phase (set_of w q).contents.bytes
loaded_next epoch served w p v q kept whole told next =
    let made = next.loaded.made in
    let same : (set_of w q).contents.bytes ≡ (set_of w p).contents.bytes = ap (λ (x : KeptSet). x.contents.bytes) next.loaded.new_is ∙ ap (λ (x : Contents). x.bytes) (kept_bytes served made) ∙ next.loaded.loaded.bytes told in
    knows (Some next.found.gate_open) v.phase (set_of w p).contents.bytes (set_of w q).contents.bytes (ap (λ (x : RebuildWork). gate_at x.phase) next.work_is ∙ loaded_gate served epoch next.found) same
    (gate_told next.found.gate_open (set_of w p).contents.bytes (some_byte (set_of w p) kept whole told) (next.loaded.loaded.gate told))

gate_at_next : (phase : Phase) (w : RebuildWork) (p : Owned) (v : RebuildWork) (q : Owned) → MayStep w p → IsKept (set_of w p) → IsWhole (set_of w p).contents → (set_of w p).contents.tells ≡ true → KnowsGate phase (set_of w p).contents.bytes → NextAt phase w p (Ok More) v q
    → KnowsGate v.phase (set_of w q).contents.bytes
gate_at_next Connect w p v q may kept whole told known next =
    knows None v.phase (set_of w q).contents.bytes (set_of w q).contents.bytes (ap (λ (x : RebuildWork). gate_at x.phase) (work_is (after_connect w p) More v q next) ∙ loading_gate (connect_answer (structure_of w p))) refl tt
gate_at_next (Load epoch served) w p v q may kept whole told known next = loaded_next epoch served w p v q kept whole told next
gate_at_next (Scan epoch after open_gate) w p v q may kept whole told known next =
    knows (Some open_gate) v.phase (set_of w p).contents.bytes (set_of w q).contents.bytes (ap (λ (x : RebuildWork). gate_at x.phase) (work_is (after_scan epoch after open_gate w p) More v q next) ∙ scanned_gate (scan_answer w epoch after p) epoch open_gate w p)
    (ap (λ (x : Contents). x.bytes) (scanned_bytes (scan_answer w epoch after p) epoch open_gate w p q may (parts_are (after_scan epoch after open_gate w p) More v q next))) known
gate_at_next Shut w p v q may kept whole told known next =
    knows (Some false) v.phase (set_of w q).contents.bytes (set_of w q).contents.bytes (ap (λ (x : RebuildWork). gate_at x.phase) next.1.1) refl (gate_written (set_of w p).contents.bytes (set_of w q).contents.bytes More (next.0.step told))
gate_at_next Sync w p v q may kept whole told known next = absurd (cc next.1.0)

pub gate_next : (w : RebuildWork) (p : Owned) (v : RebuildWork) (q : Owned) → MayStep w p → IsKept (set_of w p) → IsWhole (set_of w p).contents → (set_of w p).contents.tells ≡ true → KnowsGate w.phase (set_of w p).contents.bytes → NextRebuild w p (Ok More) v q
    → KnowsGate v.phase (set_of w q).contents.bytes
gate_next w p v q may kept whole told known next = gate_at_next w.phase w p v q may kept whole told known next

-- only the last sync ends a rebuild
more_done : More ≡ Done → ⊥
more_done is = cc

gate_at_done : (phase : Phase) (w : RebuildWork) (p : Owned) (v : RebuildWork) (q : Owned) → (set_of w p).contents.tells ≡ true → KnowsGate phase (set_of w p).contents.bytes → NextAt phase w p (Ok Done) v q → IsShut (set_of w q).contents.bytes
gate_at_done Connect w p v q told known next = absurd (more_done (sym (turn_is (after_connect w p) Done v q next)))
gate_at_done (Load epoch served) w p v q told known next = absurd (more_done (sym next.turn_is))
gate_at_done (Scan epoch after open_gate) w p v q told known next = absurd (more_done (sym (turn_is (after_scan epoch after open_gate w p) Done v q next ∙ scanned_turn (scan_answer w epoch after p) epoch open_gate w p)))
gate_at_done Shut w p v q told known next = absurd (more_done (sym next.1.0))
gate_at_done Sync w p v q told known next = gate_synced (set_of w p).contents.bytes (set_of w q).contents.bytes Done (next.0.step told) known

pub gate_done : (w : RebuildWork) (p : Owned) (v : RebuildWork) (q : Owned) → (set_of w p).contents.tells ≡ true → KnowsGate w.phase (set_of w p).contents.bytes → NextRebuild w p (Ok Done) v q → IsShut (set_of w q).contents.bytes
gate_done w p v q told known next = gate_at_done w.phase w p v q told known next

-- ---- the map

small_epoch : (s : ListStructure) → IsSound s → s.epoch < 2 ^ 32
small_epoch s sound = let low = sound.epoch_fits in omega (arith, low)

some_blocks : (set : KeptSet) → IsKept set → IsThere set
some_blocks set kept = kept.sized.some_blocks

moved : (phase other : Phase) (m : Member) (g h : Ground) → other ≡ phase → h ≡ g → FitsAt phase m g → FitsAt other m h
moved phase other m g h is same fits = subst (λ (x : Phase). FitsAt x m h) (sym is) (subst (FitsAt phase m) (sym same) fits)

phase_is : (next : Next) (turn : RebuildTurn) (v : RebuildWork) (q : Owned) → record { turn = turn; work = v; parts = q } ≡ next → v.phase ≡ next.work.phase
phase_is next turn v q is = ap (λ (n : Next). n.work.phase) is

pub put_ground : (w : RebuildWork) (set : KeptSet) (p q : Owned) → MayStep w p → q ≡ with_set_of w set p → ground_of w.structure q ≡ with_set w.member set (ground_of w.structure p)
put_ground w set p q may is = ap (ground_of w.structure) is ∙ ground_with w set p may.set

scan_fits : StarterLaws → (served : Bool) (found : Option Entry) (epoch : ℕ) (after : EntryId) (open_gate : Bool) (w : RebuildWork) (p : Owned) (v : RebuildWork) (q : Owned) → MayStep w p → IsLawful (ground_of w.structure p) → FitsAt (Scan epoch after open_gate) w.member (ground_of w.structure p)
    → (is_active (structure_of w p).state && (epoch == (structure_of w p).epoch)) ≡ served → find (is_above after) (structure_of w p).entries ≡ found
    → record { turn = More; work = v; parts = q } ≡ scanned (unless (if served then None else Some (record { state = (structure_of w p).state; epoch = (structure_of w p).epoch })) found) epoch open_gate w p
    → FitsAt v.phase w.member (ground_of w.structure q)
scan_fits laws true (Some e) epoch after open_gate w p v q may lawful fits served found next =
    moved (Scan epoch e.id open_gate) v.phase w.member (with_set w.member (claimed_by w.member e.place (set_of w p)) (ground_of w.structure p)) (ground_of w.structure q)
    (phase_is (scanned (Ok (Some e)) epoch open_gate w p) More v q next) (put_ground w (claimed_by w.member e.place (set_of w p)) p q may (parts_are (scanned (Ok (Some e)) epoch open_gate w p) More v q next))
    (claims laws w.member epoch after open_gate e (ground_of w.structure p) lawful fits found)
scan_fits laws true None epoch after open_gate w p v q may lawful fits served found next =
    moved (shutting open_gate) v.phase w.member (ground_of w.structure p) (ground_of w.structure q) (phase_is (scanned (Ok None) epoch open_gate w p) More v q next) (ap (ground_of w.structure) (parts_are (scanned (Ok None) epoch open_gate w p) More v q next))
    (ends_scan laws w.member epoch after open_gate (ground_of w.structure p) fits found)
scan_fits laws false found epoch after open_gate w p v q may lawful fits served is next =
    let lost : Lost = record { state = (structure_of w p).state; epoch = (structure_of w p).epoch } in
    moved (shutting open_gate) v.phase w.member (with_set w.member (unmapped (set_of w p)) (ground_of w.structure p)) (ground_of w.structure q)
    (phase_is (scanned (Err lost) epoch open_gate w p) More v q next) (put_ground w (unmapped (set_of w p)) p q may (parts_are (scanned (Err lost) epoch open_gate w p) More v q next))
    (loses_scan w.member epoch after open_gate (ground_of w.structure p) fits served)

map_at_next : StarterLaws → (phase : Phase) (w : RebuildWork) (p : Owned) (v : RebuildWork) (q : Owned) → MayStep w p → IsKept (set_of w p) → (structure_of w p).epoch < 2 ^ 32 → IsLawful (ground_of w.structure p) → HasGate w.member (ground_of w.structure p) → FitsAt phase w.member (ground_of w.structure p) → NextAt phase w p (Ok More) v q
    → FitsAt v.phase w.member (ground_of w.structure q)
map_at_next laws Connect w p v q may kept small lawful some fits next =
    moved (loading (connect_answer (structure_of w p))) v.phase w.member (with_set w.member (unmapped (set_of w p)) (ground_of w.structure p)) (ground_of w.structure q) (phase_is (after_connect w p) More v q next)
    (put_ground w (unmapped (set_of w p)) p q may (parts_are (after_connect w p) More v q next)) (connects w.member (ground_of w.structure p) fits)
map_at_next laws (Load epoch served) w p v q may kept small lawful some fits next =
    moved (loaded_phase served epoch next.found) v.phase w.member (with_set w.member (set_of w q) (ground_of w.structure p)) (ground_of w.structure q) (ap (λ (x : RebuildWork). x.phase) next.work_is) (put_ground w (set_of w q) p q may next.others)
    (loads laws served w.member epoch next.found (set_of w q) (ground_of w.structure p) lawful (some_blocks (set_of w p) kept) (gate_some (set_of w p).contents.bytes some) small fits next.loaded)
map_at_next laws (Scan epoch after open_gate) w p v q may kept small lawful some fits next =
    scan_fits laws (is_active (structure_of w p).state && (epoch == (structure_of w p).epoch)) (find (is_above after) (structure_of w p).entries) epoch after open_gate w p v q may lawful fits refl refl next
map_at_next laws Shut w p v q may kept small lawful some fits next =
    moved Sync v.phase w.member (with_set w.member (set_of w q) (ground_of w.structure p)) (ground_of w.structure q) (ap (λ (x : RebuildWork). x.phase) next.1.1) (put_ground w (set_of w q) p q may next.0.called.others)
    (storage_all w.member true false (set_of w q) (ground_of w.structure p) next.0.called.storage fits (gate_written (set_of w p).contents.bytes (set_of w q).contents.bytes More (next.0.step (lawful.told w.member (some_blocks (set_of w p) kept)))))
map_at_next laws Sync w p v q may kept small lawful some fits next = absurd (cc next.1.0)

-- the gate stays a gate
still_gate : (old new : List Byte) → length new ≡ length old → 1 ≤ length (gate_of old) → 1 ≤ length (gate_of new)
still_gate old new same some = let one = gate_some old some in some_gate new (omega (arith, same, one))

loaded_length : (epoch : ℕ) (served : Bool) (w : RebuildWork) (p : Owned) (turn : RebuildTurn) (v : RebuildWork) (q : Owned) → (set_of w p).contents.tells ≡ true → HasLoaded epoch served w p turn v q → (set_of w q).contents.bytes ≡ (set_of w p).contents.bytes
loaded_length epoch served w p turn v q told next = ap (λ (x : KeptSet). x.contents.bytes) next.loaded.new_is ∙ ap (λ (x : Contents). x.bytes) (kept_bytes served next.loaded.made) ∙ next.loaded.loaded.bytes told

length_at : (phase : Phase) (w : RebuildWork) (p : Owned) (turn : RebuildTurn) (v : RebuildWork) (q : Owned) → MayStep w p → (set_of w p).contents.tells ≡ true → NextAt phase w p (Ok turn) v q → length (set_of w q).contents.bytes ≡ length (set_of w p).contents.bytes
length_at Connect w p turn v q may told next = ap (λ (x : KeptSet). length x.contents.bytes) (set_is w (unmapped (set_of w p)) p q may.set (parts_are (after_connect w p) turn v q next))
length_at (Load epoch served) w p turn v q may told next = ap (λ (l : List Byte). length l) (loaded_length epoch served w p turn v q told next)
length_at (Scan epoch after open_gate) w p turn v q may told next =
    ap (λ (x : Contents). length x.bytes) (scanned_bytes (scan_answer w epoch after p) epoch open_gate w p q may (parts_are (after_scan epoch after open_gate w p) turn v q next))
length_at Shut w p turn v q may told next = (next.0.step told).beside.same_length
length_at Sync w p turn v q may told next = (next.0.step told).kept.same_length

pub has_gate_next : (w : RebuildWork) (p : Owned) (turn : RebuildTurn) (v : RebuildWork) (q : Owned) → MayStep w p → (set_of w p).contents.tells ≡ true → HasGate w.member (ground_of w.structure p) → NextRebuild w p (Ok turn) v q → HasGate w.member (ground_of w.structure q)
has_gate_next w p turn v q may told some next = still_gate (set_of w p).contents.bytes (set_of w q).contents.bytes (length_at w.phase w p turn v q may told next) some

-- a rebuild of the same map
same_member_of : (w v : RebuildWork) (g : Ground) → v.member ≡ w.member → HasGate w.member g → FitsAt v.phase w.member g → FitsRebuild v g
same_member_of w v g same gate map = record {
  gate = subst (λ (x : Member). HasGate x g) (sym same) gate;
  map = subst (λ (x : Member). FitsAt v.phase x g) (sym same) map;
}

pub goes_on : StarterLaws → (w : RebuildWork) (p : Owned) (v : RebuildWork) (q : Owned) → MayStep w p → IsKept (set_of w p) → IsSound (structure_of w p) → IsLawful (ground_of w.structure p) → FitsRebuild w (ground_of w.structure p) → NextRebuild w p (Ok More) v q
    → FitsRebuild v (ground_of w.structure q)
goes_on laws w p v q may kept sound lawful fits next =
    let small : (structure_of w p).epoch < 2 ^ 32 = small_epoch (structure_of w p) sound in
    same_member_of w v (ground_of w.structure q) (step_place w p (Ok More) v q next).member
    (has_gate_next w p More v q may (lawful.told w.member (some_blocks (set_of w p) kept)) fits.gate next) (map_at_next laws w.phase w p v q may kept small lawful fits.gate fits.map next)

done_at : (phase : Phase) (w : RebuildWork) (p : Owned) (v : RebuildWork) (q : Owned) → MayStep w p → (set_of w p).contents.tells ≡ true → FitsAt phase w.member (ground_of w.structure p) → NextAt phase w p (Ok Done) v q → FitsStart (ended w.member (ground_of w.structure q)) (ground_of w.structure q)
done_at Connect w p v q may told fits next = absurd (more_done (sym (turn_is (after_connect w p) Done v q next)))
done_at (Load epoch served) w p v q may told fits next = absurd (more_done (sym next.turn_is))
done_at (Scan epoch after open_gate) w p v q may told fits next = absurd (more_done (sym (turn_is (after_scan epoch after open_gate w p) Done v q next ∙ scanned_turn (scan_answer w epoch after p) epoch open_gate w p)))
done_at Shut w p v q may told fits next = absurd (more_done (sym next.1.0))
done_at Sync w p v q may told fits next =
    let reads = gate_of_start false w.member (epoch_of_map (set_of w p).map) None (ground_of w.structure p) fits in
    let shut : IsShut (set_of w q).contents.bytes = gate_synced (set_of w p).contents.bytes (set_of w q).contents.bytes Done (next.0.step told) reads in
    let whole : IsMadeOfAll w.member false (ground_of w.structure q) = subst (IsMadeOfAll w.member false) (sym (put_ground w (set_of w q) p q may next.0.called.others))
    (storage_all w.member false false (set_of w q) (ground_of w.structure p) next.0.called.storage fits (ap values shut)) in
    shut_start w.member (ground_of w.structure q) whole shut

pub done : (w : RebuildWork) (p : Owned) (v : RebuildWork) (q : Owned) → MayStep w p → IsKept (set_of w p) → IsLawful (ground_of w.structure p) → FitsRebuild w (ground_of w.structure p) → NextRebuild w p (Ok Done) v q
    → FitsStart (ended w.member (ground_of w.structure q)) (ground_of w.structure q)
done w p v q may kept lawful fits next = done_at w.phase w p v q may (lawful.told w.member (some_blocks (set_of w p) kept)) fits.map next
