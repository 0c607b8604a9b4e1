-- what a rebuild knows of the entries stays true, whatever others do
use Rattle.std.proofs.Common.{◌≡◌, ℕ, Bool, true, false, Option, Some, None, inl, inr, refl, sym, subst, ◌∙◌, arith}
use Rattle.std.specs.Prelude.{◌⊎◌, ◌==◌, not, IfSome}
use Rattle.std.proofs.lemmas.Bool.{true≢false, cases_eq}
use Rattle.qsg_num.specs.declared.seats.Member.{Member}
use Rattle.qsg_num.specs.declared.ids.Block.{Block}
use Rattle.qsg_lists.specs.Structures.{is_active}
use Rattle.qsg_dataset.specs.Contents.{gate_value}
use Rattle.qsg_datasets.specs.Kept.{used_in}
use Rattle.qsg_blocks.specs.State.{Ground, AreTold, tally, listed, used_once}
use Rattle.qsg_blocks.specs.Laws.{IsFitting, IsPast, Laws}
use Rattle.qsg_blocks.specs.Changes.{Change}
use Rattle.qsg_blocks.specs.Works.{Starter, FitsStart, IsOtherMembers, epoch_of_map, lists_to}
use Rattle.qsg_rebuild.specs.declared.phases.Phase.{Phase}
use Rattle.qsg_rebuild.specs.declared.phases.Phase.TheVariants.{Connect, Load, Scan, Shut, Sync}
use Rattle.qsg_rebuild.specs.declared.work.RebuildWork.{RebuildWork}
use Rattle.qsg_rebuild.specs.Gates.{IsGate, KnowsGate}
use Rattle.qsg_rebuild.specs.Fitting.{IsLawful, ended, HasNoMap, HasGate, IsTold, IsBare, starter, IsMadeOfAll, FitsAt, FitsRebuild}
use Rattle.qsg_rebuild.proofs.Gating.{gate_told, gate_some, length-gate}
use Rattle.qsg_rebuild.proofs.Staying.{down_stays, map_stays, gate_stays, past_stays, active_epoch}

-- the law on starters, as it is given
abbrev pub KeepsStarters : Type 0
KeepsStarters = (w : Starter) (g h : Ground) (c : Change g h) → IsOtherMembers w.owner g h c → AreTold g.sets → IsFitting g → Laws g → FitsStart w g → FitsStart w h

pub bool_cases : (b : Bool) → (b ≡ true) ⊎ (b ≡ false)
bool_cases true = inl refl
bool_cases false = inr refl

pub none_some : {X : Type 0} (x : X) → None ≡ Some x → ⊥
none_some x is = cc

-- ---- a starter, whose gate is open or reads 0

pub start : (m : Member) (epoch place : Option ℕ) (open_gate : Bool) (g : Ground) → (g.posts m).up ≡ false → epoch_of_map (g.sets m).map ≡ epoch → IfSome epoch (IsPast (is_active g.structure.state) g.structure.epoch)
    → (is_active g.structure.state ≡ true → epoch ≡ Some g.structure.epoch → (b : Block) → used_once (used_in g.structure.epoch (g.sets m)) b ≡ tally (lists_to place m b) g.structure.entries)
    → (is_active g.structure.state ≡ true → (epoch ≡ Some g.structure.epoch → ⊥) → (b : Block) → listed m b g.structure.entries ≡ 0)
    → IsGate (Some open_gate) (g.sets m).contents.bytes → FitsStart (starter m epoch place open_gate) g
start m epoch place true g down map past made gone gate = record {
  down = down;
  map = map;
  past = past;
  made = made;
  gone = gone;
  opened = λ none. gate;
  reads = λ late. absurd (omega (arith, late));
  shut = λ late. absurd (omega (arith, late));
}
start m epoch place false g down map past made gone gate = record {
  down = down;
  map = map;
  past = past;
  made = made;
  gone = gone;
  opened = λ none. absurd (omega (arith, none));
  reads = λ late. gate;
  shut = λ late. absurd (omega (arith, late));
}

pub gate_of_start : (open_gate : Bool) (m : Member) (epoch place : Option ℕ) (g : Ground) → FitsStart (starter m epoch place open_gate) g → IsGate (Some open_gate) (g.sets m).contents.bytes
gate_of_start true m epoch place g fits = fits.opened refl
gate_of_start false m epoch place g fits = fits.reads (omega arith)

-- ---- where no entry lists a block of the member

pub bare_start : (m : Member) (open_gate : Bool) (g : Ground) → HasNoMap m g → IsBare m g.structure → IsGate (Some open_gate) (g.sets m).contents.bytes → FitsStart (starter m None None open_gate) g
bare_start m open_gate g none bare gate = start m None None open_gate g none.down none.map tt (λ act is. absurd (none_some g.structure.epoch is)) (λ act not_it. bare act) gate

bare_stays : KeepsStarters → (m : Member) (g h : Ground) (c : Change g h) → IsOtherMembers m g h c → IsLawful g → HasGate m g → HasNoMap m g → IsBare m g.structure → IsBare m h.structure
bare_stays keeps m g h c other lawful some none bare act =
    let gate = gate_told (not (gate_value (g.sets m).contents.bytes == 0)) (g.sets m).contents.bytes (gate_some (g.sets m).contents.bytes some) refl in
    (keeps (starter m None None (not (gate_value (g.sets m).contents.bytes == 0))) g h c other lawful.told lawful.fitting lawful.laws (bare_start m (not (gate_value (g.sets m).contents.bytes == 0)) g none bare gate)).gone act (none_some h.structure.epoch)

-- ---- each phase

none_stays : (m : Member) (g h : Ground) (c : Change g h) → IsOtherMembers m g h c → HasNoMap m g → HasNoMap m h
none_stays m g h c other none = record { down = down_stays m g h c other none.down; map = map_stays m g h c other none.down ∙ none.map }

gone_stays : KeepsStarters → (m : Member) (epoch : ℕ) (g h : Ground) (c : Change g h) → IsOtherMembers m g h c → IsLawful g → HasGate m g → HasNoMap m g → IsTold m epoch g.structure
    → is_active h.structure.state ≡ true → (epoch ≡ h.structure.epoch → ⊥) → (b : Block) → listed m b h.structure.entries ≡ 0
gone_stays keeps m epoch g h c other lawful some none told act differ = elim (bool_cases (is_active g.structure.state)) [
  | inl was ↦ elim (cases_eq epoch g.structure.epoch) [
    | inl same ↦ absurd (differ (same ∙ sym (active_epoch g h c was act)))
    | inr apart ↦ bare_stays keeps m g h c other lawful some none (λ here. told.gone here apart) act
  ]
  | inr lost ↦ bare_stays keeps m g h c other lawful some none (λ here. absurd (true≢false (sym here ∙ lost))) act
]

told_stays : KeepsStarters → (m : Member) (epoch : ℕ) (g h : Ground) (c : Change g h) → IsOtherMembers m g h c → IsLawful g → HasGate m g → HasNoMap m g → IsTold m epoch g.structure → IsTold m epoch h.structure
told_stays keeps m epoch g h c other lawful some none told = record {
  past = past_stays epoch g h c told.past;
  gone = gone_stays keeps m epoch g h c other lawful some none told;
}

-- the map is of the epoch that it is of
pub made_of_all : (m : Member) (epoch : Option ℕ) (open_gate : Bool) (g : Ground) → FitsStart (starter m epoch None open_gate) g → IsMadeOfAll m open_gate g
made_of_all m epoch open_gate g fits = subst (λ (x : Option ℕ). FitsStart (starter m x None open_gate) g) (sym fits.map) fits

all_stays : KeepsStarters → (m : Member) (open_gate : Bool) (g h : Ground) (c : Change g h) → IsOtherMembers m g h c → IsLawful g → IsMadeOfAll m open_gate g → IsMadeOfAll m open_gate h
all_stays keeps m open_gate g h c other lawful fits =
    made_of_all m (epoch_of_map (g.sets m).map) open_gate h (keeps (starter m (epoch_of_map (g.sets m).map) None open_gate) g h c other lawful.told lawful.fitting lawful.laws fits)

at_stays : KeepsStarters → (phase : Phase) (m : Member) (g h : Ground) (c : Change g h) → IsOtherMembers m g h c → IsLawful g → HasGate m g → FitsAt phase m g → FitsAt phase m h
at_stays keeps Connect m g h c other lawful some fits = down_stays m g h c other fits
at_stays keeps (Load epoch true) m g h c other lawful some fits = (none_stays m g h c other fits.0, told_stays keeps m epoch g h c other lawful some fits.0 fits.1)
at_stays keeps (Load epoch false) m g h c other lawful some fits = (none_stays m g h c other fits.0, bare_stays keeps m g h c other lawful some fits.0 fits.1)
at_stays keeps (Scan epoch after open_gate) m g h c other lawful some fits = keeps (starter m (Some epoch) (Some after.number) open_gate) g h c other lawful.told lawful.fitting lawful.laws fits
at_stays keeps Shut m g h c other lawful some fits = all_stays keeps m true g h c other lawful fits
at_stays keeps Sync m g h c other lawful some fits = all_stays keeps m false g h c other lawful fits

-- the member of a rebuild is down
pub down_at : (phase : Phase) (m : Member) (g : Ground) → FitsAt phase m g → (g.posts m).up ≡ false
down_at Connect m g fits = fits
down_at (Load epoch true) m g fits = fits.0.down
down_at (Load epoch false) m g fits = fits.0.down
down_at (Scan epoch after open_gate) m g fits = fits.down
down_at Shut m g fits = fits.down
down_at Sync m g fits = fits.down

pub rebuild_stays : KeepsStarters → (w : RebuildWork) (g h : Ground) (c : Change g h) → IsOtherMembers w.member g h c → IsLawful g → FitsRebuild w g → FitsRebuild w h
rebuild_stays keeps w g h c other lawful fits =
    let down = down_at w.phase w.member g fits.map in
    let same = length-gate (g.sets w.member).contents.bytes (h.sets w.member).contents.bytes (gate_stays w.member g h c other lawful.told down) in
    let some = fits.gate in
    record { gate = omega (arith, same, some); map = at_stays keeps w.phase w.member g h c other lawful fits.gate fits.map }

-- what it knows of the gate
gate_at_phase : (phase : Phase) (m : Member) (g : Ground) → FitsAt phase m g → KnowsGate phase (g.sets m).contents.bytes
gate_at_phase Connect m g fits = tt
gate_at_phase (Load epoch served) m g fits = tt
gate_at_phase (Scan epoch after open_gate) m g fits = gate_of_start open_gate m (Some epoch) (Some after.number) g fits
gate_at_phase Shut m g fits = gate_of_start true m (epoch_of_map (g.sets m).map) None g fits
gate_at_phase Sync m g fits = gate_of_start false m (epoch_of_map (g.sets m).map) None g fits

pub knows_gate : (w : RebuildWork) (g : Ground) → FitsRebuild w g → KnowsGate w.phase (g.sets w.member).contents.bytes
knows_gate w g fits = gate_at_phase w.phase w.member g fits.map

-- ---- once the map is made

pub ended_stays : KeepsStarters → (m : Member) (g h : Ground) (c : Change g h) → IsOtherMembers m g h c → IsLawful g → FitsStart (ended m g) g → FitsStart (ended m h) h
ended_stays keeps m g h c other lawful fits =
    subst (λ (x : Option ℕ). FitsStart (record { owner = m; epoch = x; place = None; shuts = 2 }) h) (sym (map_stays m g h c other fits.down)) (keeps (ended m g) g h c other lawful.told lawful.fitting lawful.laws fits)
