-- what the steps that save a map leave, and what a power cut between them leaves
use Rattle.std.proofs.Common.{◌≡◌, ◌≢◌, ℕ, zero, suc, ◌≤◌, Bool, List, [], ◌∷◌, length, map, take, drop, refl, ap, sym, subst, ◌∙◌, arith, Ok, Result}
use Rattle.std.proofs.lemmas.List.{drop-map, take-map}
use Rattle.std.specs.List.{AllZip}
use Rattle.qsg_num.specs.declared.words.Failed.{Failed}
use Rattle.qsg_disk.specs.Byte.{Byte, values, written, synced, safe_byte, part, Beside, EachPair, IsKeptOrSynced, IsCut}
use Rattle.qsg_disk.proofs.Parts.{part_before, part_after, zipped_part, safe_kept, safe_cut}
use Rattle.qsg_dataset.specs.Headers.{spelling}
use Rattle.qsg_dataset.specs.Contents.{gate_of, rest_of, gate_value, IsSaved, IsShut, IsReady}
use Rattle.qsg_dataset.specs.Steps.{SaveStep, ShutStep}
use Rattle.qsg_dataset.proofs.Spelling.{length-spelling}

-- syncs and cuts keep what is safe
synced_part : (vs : List ℕ) (at n : ℕ) (old new : List Byte) → EachPair IsKeptOrSynced old new → part at n old ≡ map safe_byte vs → part at n new ≡ map safe_byte vs
synced_part vs at n old new each safe =
    safe_kept vs (part at n new) (subst (λ (l : List Byte). AllZip IsKeptOrSynced l (part at n new)) safe (zipped_part IsKeptOrSynced old new at n each))

cut_part : (vs : List ℕ) (at n : ℕ) (old new : List Byte) → EachPair IsCut old new → part at n old ≡ map safe_byte vs → part at n new ≡ map safe_byte vs
cut_part vs at n old new each safe =
    safe_cut vs (part at n new) (subst (λ (l : List Byte). AllZip IsCut l (part at n new)) safe (zipped_part IsCut old new at n each))

-- a write behind the gate leaves the gate, and one of the gate the rest
gate_beside : (n : ℕ) (old new : List Byte) → Beside 1 n old new → gate_of new ≡ gate_of old
gate_beside n old new beside = part_before 1 n old new 0 1 beside (omega arith)

rest_beside : (old new : List Byte) → Beside 0 1 old new → rest_of new ≡ rest_of old
rest_beside old new beside = part_after 0 1 old new 1 4095 beside (omega arith)

gate_value-of : (bytes : List Byte) (x : Byte) → gate_of bytes ≡ x ∷ [] → gate_value bytes ≡ x.value
gate_value-of [] x is = absurd cc
gate_value-of (b ∷ bytes) x is = let same : b ≡ x = cc in ap (λ (y : Byte). y.value) same

-- a shut gate stays, and no map is saved behind it
pub saving-shut : (at epoch : ℕ) (used : List Bool) (result : Result (Unit {0}) Failed) (old new : List Byte) → at ≤ 2 → SaveStep at epoch used result old new → IsShut old → IsShut new
saving-shut zero epoch used result old new early step shut = absurd step
saving-shut (suc zero) epoch used result old new early step shut = gate_beside (length (spelling epoch used)) old new step.beside ∙ shut
saving-shut (suc (suc zero)) epoch used result old new early step shut = synced_part (0 ∷ []) 0 1 old new step.kept shut
saving-shut (suc (suc (suc n))) epoch used result old new early step shut = absurd (omega (arith, early))

pub shutting-shut : (at : ℕ) (result : Result (Unit {0}) Failed) (old new : List Byte) → 2 ≤ at → ShutStep at result old new → IsShut old → IsShut new
shutting-shut zero result old new late step shut = absurd step
shutting-shut (suc zero) result old new late step shut = absurd (omega (arith, late))
shutting-shut (suc (suc n)) result old new late step shut = synced_part (0 ∷ []) 0 1 old new step.kept shut

pub cut-shut : (old new : List Byte) → EachPair IsCut old new → IsShut old → IsShut new
cut-shut old new cut shut = cut_part (0 ∷ []) 0 1 old new cut shut

pub shut-unsaved : (epoch blocks : ℕ) (used : List Bool) (bytes : List Byte) → IsShut bytes → IsSaved epoch blocks used bytes → ⊥
shut-unsaved epoch blocks used bytes shut saved = saved.opened (gate_value-of bytes (safe_byte 0) shut)

-- a map that is safely spelled stays so
pub saving-ready : (at epoch : ℕ) (used : List Bool) (result : Result (Unit {0}) Failed) (old new : List Byte) → 2 ≤ at → SaveStep at epoch used result old new → IsReady epoch used old → IsReady epoch used new
saving-ready zero epoch used result old new late step ready = absurd step
saving-ready (suc zero) epoch used result old new late step ready = absurd (omega (arith, late))
saving-ready (suc (suc zero)) epoch used result old new late step ready = synced_part (spelling epoch used) 1 4095 old new step.kept ready
saving-ready (suc (suc (suc zero))) epoch used result old new late step ready = rest_beside old new step.beside ∙ ready
saving-ready (suc (suc (suc (suc n)))) epoch used result old new late step ready = synced_part (spelling epoch used) 1 4095 old new step.kept ready

pub shutting-ready : (at epoch : ℕ) (used : List Bool) (result : Result (Unit {0}) Failed) (old new : List Byte) → ShutStep at result old new → IsReady epoch used old → IsReady epoch used new
shutting-ready zero epoch used result old new step ready = absurd step
shutting-ready (suc zero) epoch used result old new step ready = rest_beside old new step.beside ∙ ready
shutting-ready (suc (suc n)) epoch used result old new step ready = synced_part (spelling epoch used) 1 4095 old new step.kept ready

pub cut-ready : (epoch : ℕ) (used : List Bool) (old new : List Byte) → EachPair IsCut old new → IsReady epoch used old → IsReady epoch used new
cut-ready epoch used old new cut ready = cut_part (spelling epoch used) 1 4095 old new cut ready

values-safe : (vs : List ℕ) → values (map safe_byte vs) ≡ vs
values-safe [] = refl
values-safe (v ∷ vs) = ap (λ (l : List ℕ). v ∷ l) (values-safe vs)

pub ready-saved : (epoch : ℕ) (used : List Bool) (bytes : List Byte) → IsReady epoch used bytes → gate_value bytes ≢ 0 → IsSaved epoch (length used) used bytes
ready-saved epoch used bytes ready opened = record { opened = opened; size = refl; spelled = ap values ready ∙ values-safe (spelling epoch used) }

-- what a write left is safe after a sync
synced-written : (vs : List ℕ) → map synced (map written vs) ≡ map safe_byte vs
synced-written [] = refl
synced-written (v ∷ vs) = ap (λ (l : List Byte). safe_byte v ∷ l) (synced-written vs)

part-map : (f : Byte → Byte) (at n : ℕ) (bytes : List Byte) → part at n (map f bytes) ≡ map f (part at n bytes)
part-map f at n bytes = ap (take n) (drop-map f at bytes) ∙ take-map f n (drop at bytes)

made_safe : (vs : List ℕ) (at n : ℕ) (mid new : List Byte) → part at n mid ≡ map written vs → new ≡ map synced mid → part at n new ≡ map safe_byte vs
made_safe vs at n mid new wrote same = ap (part at n) same ∙ part-map synced at n mid ∙ ap (map synced) wrote ∙ synced-written vs

pub made_ready : (epoch : ℕ) (used : List Bool) (old mid new : List Byte) (one two : Unit {0}) → SaveStep {E = Failed} 1 epoch used (Ok one) old mid → SaveStep {E = Failed} 2 epoch used (Ok two) mid new → IsReady epoch used new
made_ready epoch used old mid new one two first second =
    made_safe (spelling epoch used) 1 4095 mid new (ap (λ (n : ℕ). part 1 n mid) (sym (length-spelling epoch used)) ∙ first.written) second.synced

pub made_open : (epoch : ℕ) (used : List Bool) (old mid new : List Byte) (one two : Unit {0}) → SaveStep {E = Failed} 3 epoch used (Ok one) old mid → SaveStep {E = Failed} 4 epoch used (Ok two) mid new → gate_of new ≡ map safe_byte (1 ∷ [])
made_open epoch used old mid new one two first second = made_safe (1 ∷ []) 0 1 mid new first.written second.synced

pub made_shut : (old mid new : List Byte) (one two : Unit {0}) → ShutStep {E = Failed} 1 (Ok one) old mid → ShutStep {E = Failed} 2 (Ok two) mid new → IsShut new
made_shut old mid new one two first second = made_safe (0 ∷ []) 0 1 mid new first.written second.synced
