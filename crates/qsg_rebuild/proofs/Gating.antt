-- what a step does to the gate, and to what the rebuild knows of it
use Rattle.std.proofs.Common.{◌≡◌, ℕ, ◌≤◌, Bool, true, false, List, [], ◌∷◌, length, Option, Some, None, Result, Ok, Err, inl, inr, refl, sym, ap, ◌∙◌, arith, map}
use Rattle.std.specs.Prelude.{not, ◌==◌, slice_index, if◌then◌else◌}
use Rattle.std.proofs.lemmas.Bool.{cases_eq, eq-eqb, ne_eqb, true≢false}
use Rattle.std.proofs.lemmas.List.{length-map}
use Rattle.qsg_disk.specs.Byte.{Byte, values, value_of, synced, safe_byte}
use Rattle.qsg_lists.specs.declared.parts.Lost.{Lost}
use Rattle.qsg_lists.specs.declared.parts.Seen.{Seen}
use Rattle.qsg_dataset.specs.Contents.{IsShut, gate_of, gate_value}
use Rattle.qsg_dataset.specs.Steps.{ShutStep}
use Rattle.qsg_datasets.specs.declared.member_data_set.Found.{Found}
use Rattle.qsg_rebuild.specs.declared.phases.Phase.{Phase}
use Rattle.qsg_rebuild.specs.declared.phases.Phase.TheVariants.{Scan}
use Rattle.qsg_rebuild.specs.declared.phases.RebuildTurn.{RebuildTurn}
use Rattle.qsg_rebuild.specs.declared.phases.RebuildError.{RebuildError}
use Rattle.qsg_rebuild.specs.Gates.{gate_at, IsGate}
use Rattle.qsg_rebuild.specs.Steps.{loading, shutting, loaded_phase}

-- the gate is the first byte
pub gate_value-gate : (bytes : List Byte) → gate_value bytes ≡ slice_index (values (gate_of bytes)) 0
gate_value-gate [] = refl
gate_value-gate (b ∷ bytes) = refl

pub gate-reads : (bytes : List Byte) → 1 ≤ length bytes → gate_value bytes ≡ 0 → values (gate_of bytes) ≡ 0 ∷ []
gate-reads [] some zero_is = absurd (omega (arith, some))
gate-reads (b ∷ bytes) some zero_is = ap (λ (n : ℕ). n ∷ []) zero_is

-- a header with a gate isn't empty
pub gate_some : (bytes : List Byte) → 1 ≤ length (gate_of bytes) → 1 ≤ length bytes
gate_some [] some = some
gate_some (b ∷ bytes) some = omega arith

pub some_gate : (bytes : List Byte) → 1 ≤ length bytes → 1 ≤ length (gate_of bytes)
some_gate [] some = some
some_gate (b ∷ bytes) some = omega arith

pub length-gate : (old new : List Byte) → values (gate_of new) ≡ values (gate_of old) → length (gate_of new) ≡ length (gate_of old)
length-gate old new same = sym (length-map (gate_of new) value_of) ∙ ap (λ (l : List ℕ). length l) same ∙ length-map (gate_of old) value_of

-- what is known where the gate reads as before
pub gate_same : (gate : Option Bool) (old new : List Byte) → values (gate_of new) ≡ values (gate_of old) → IsGate gate old → IsGate gate new
gate_same None old new same known = tt
gate_same (Some true) old new same known = λ zero_is. known (gate_value-gate old ∙ ap (λ (l : List ℕ). slice_index l 0) (sym same) ∙ sym (gate_value-gate new) ∙ zero_is)
gate_same (Some false) old new same known = same ∙ known

-- a header that was read tells its gate
pub gate_told : (is_open : Bool) (bytes : List Byte) → 1 ≤ length bytes → is_open ≡ not (gate_value bytes == 0) → IsGate (Some is_open) bytes
gate_told true bytes some told = λ zero_is. true≢false (told ∙ ap not (eq-eqb (gate_value bytes) 0 zero_is))
gate_told false bytes some told = gate-reads bytes some (elim (cases_eq (gate_value bytes) 0) [
  | inl same ↦ same
  | inr differ ↦ absurd (true≢false (sym (told ∙ ap not (ne_eqb (gate_value bytes) 0 differ))))
])

pub shutting_gate : (is_open : Bool) → gate_at (shutting is_open) ≡ Some is_open
shutting_gate true = refl
shutting_gate false = refl

fork_gate : (b : Bool) (x y : Phase) (gate : Option Bool) → gate_at x ≡ gate → gate_at y ≡ gate → gate_at (if b then x else y) ≡ gate
fork_gate true x y gate one two = one
fork_gate false x y gate one two = two

pub loaded_gate : (served : Bool) (epoch : ℕ) (found : Found) → gate_at (loaded_phase served epoch found) ≡ Some found.gate_open
loaded_gate true epoch found = fork_gate found.has_map (shutting found.gate_open) (Scan epoch (record { number = 0 }) found.gate_open) (Some found.gate_open) (shutting_gate found.gate_open) refl
loaded_gate false epoch found = shutting_gate found.gate_open

pub loading_gate : (answer : Result Seen Lost) → gate_at (loading answer) ≡ None
loading_gate (Ok seen) = refl
loading_gate (Err lost) = refl

-- the gate was written as 0
pub gate_written : (old new : List Byte) (turn : RebuildTurn) → ShutStep {E = RebuildError} 1 (Ok turn) old new → values (gate_of new) ≡ 0 ∷ []
gate_written old new turn step = ap values step.written

-- a sync makes safe what it reads
synced_gate : (bytes : List Byte) → values (gate_of bytes) ≡ 0 ∷ [] → gate_of (map synced bytes) ≡ map safe_byte (0 ∷ [])
synced_gate [] reads = absurd cc
synced_gate (b ∷ bytes) reads = let zero_is : b.value ≡ 0 = cc in ap (λ (n : ℕ). safe_byte n ∷ []) zero_is

pub gate_synced : (old new : List Byte) (turn : RebuildTurn) → ShutStep {E = RebuildError} 2 (Ok turn) old new → values (gate_of old) ≡ 0 ∷ [] → IsShut new
gate_synced old new turn step reads = ap gate_of step.synced ∙ synced_gate old reads
