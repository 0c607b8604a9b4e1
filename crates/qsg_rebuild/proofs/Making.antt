-- what the steps of a rebuild make of its map
use Rattle.std.proofs.Common.{◌≡◌, ℕ, ◌^◌, ◌<◌, ◌≤◌, Bool, true, false, List, length, Option, Some, None, Ok, Err, refl, sym, ap, subst, ◌∙◌, arith}
use Rattle.std.specs.Prelude.{if◌then◌else◌, ◌==◌, ◌&&◌, find, IfSome}
use Rattle.std.proofs.lemmas.Bool.{true≢false, eq-eqb, eqb-true}
use Rattle.qsg_num.specs.declared.seats.Member.{Member}
use Rattle.qsg_num.specs.declared.ids.Block.{Block}
use Rattle.qsg_num.specs.declared.ids.EntryId.{EntryId}
use Rattle.qsg_num.specs.Seats.{member_number}
use Rattle.qsg_disk.specs.Byte.{values}
use Rattle.qsg_lists.specs.declared.parts.Entry.{Entry}
use Rattle.qsg_lists.specs.declared.parts.Place.{Place}
use Rattle.qsg_lists.specs.declared.parts.Place.TheVariants.{Inline, Offloaded}
use Rattle.qsg_lists.specs.Entries.{is_above, is_owned}
use Rattle.qsg_lists.specs.Structures.{is_active, seen, connect_answer}
use Rattle.qsg_dataset.specs.Contents.{IsShut}
use Rattle.qsg_group.proofs.Tables.{change-same, same_member}
use Rattle.qsg_datasets.specs.declared.member_data_set.Found.{Found}
use Rattle.qsg_datasets.specs.Kept.{KeptSet, used_by, used_in, claimed, unmapped}
use Rattle.qsg_datasets.specs.Calls.{IsStorageSame, IsLoaded}
use Rattle.qsg_blocks.specs.State.{Ground, AreTold, IsThere, tally, listed, used_once}
use Rattle.qsg_blocks.specs.Laws.{IsFitting, IsPast, Laws}
use Rattle.qsg_blocks.specs.Changes.{with_set}
use Rattle.qsg_blocks.specs.Works.{Starter, FitsStart, shuts_for, epoch_of_map, lists_to}
use Rattle.qsg_rebuild.specs.declared.phases.Phase.TheVariants.{Load, Scan}
use Rattle.qsg_rebuild.specs.Steps.{loading, shutting, loaded_phase, LoadsMap, claimed_by}
use Rattle.qsg_rebuild.specs.Gates.{IsGate}
use Rattle.qsg_rebuild.specs.Fitting.{IsLawful, HasNoMap, IsTold, IsBare, starter, IsMadeOfAll, FitsAt, ended}
use Rattle.qsg_rebuild.proofs.Gating.{gate_told}
use Rattle.qsg_rebuild.proofs.Keeping.{start, gate_of_start, made_of_all, none_some}

-- ---- the laws on starters, as they are given

abbrev pub LoadsSaved : Type 0
LoadsSaved = (g : Ground) (m : Member) (found : Found) (set : KeptSet) → AreTold g.sets → IsFitting g → Laws g → (g.posts m).up ≡ false → IsThere (g.sets m) →
    is_active g.structure.state ≡ true → g.structure.epoch < 2 ^ 32 → IsLoaded g.structure.epoch found (g.sets m) set → found.has_map ≡ true →
    FitsStart (record { owner = m; epoch = Some g.structure.epoch; place = None; shuts = shuts_for found.gate_open }) (with_set m set g)

abbrev pub LoadsBlank : Type 0
LoadsBlank = (g : Ground) (m : Member) (found : Found) (set : KeptSet) → AreTold g.sets → Laws g → (g.posts m).up ≡ false → IsThere (g.sets m) → 1 ≤ length (g.sets m).contents.bytes →
    is_active g.structure.state ≡ true → IsLoaded g.structure.epoch found (g.sets m) set → found.has_map ≡ false →
    FitsStart (record { owner = m; epoch = Some g.structure.epoch; place = Some 0; shuts = shuts_for found.gate_open }) (with_set m set g)

abbrev pub ClaimsEntry : Type 0
ClaimsEntry = (w : Starter) (g : Ground) (place : ℕ) (e : Entry) (blocks : List Block) (n : ℕ) → IsFitting g → Laws g → FitsStart w g → w.place ≡ Some place →
    find (is_above (record { number = place })) g.structure.entries ≡ Some e → e.place ≡ Offloaded w.owner blocks n →
    FitsStart (record w { place = Some e.id.number }) (with_set w.owner (claimed blocks (g.sets w.owner)) g)

abbrev pub PassesEntry : Type 0
PassesEntry = (w : Starter) (g : Ground) (place : ℕ) (e : Entry) → Laws g → FitsStart w g → w.place ≡ Some place →
    find (is_above (record { number = place })) g.structure.entries ≡ Some e → is_owned w.owner e.place ≡ false →
    FitsStart (record w { place = Some e.id.number }) g

abbrev pub EndsEntries : Type 0
EndsEntries = (w : Starter) (g : Ground) (place : ℕ) → FitsStart w g → w.place ≡ Some place →
    find (is_above (record { number = place })) g.structure.entries ≡ None → FitsStart (record w { place = None }) g

pub record StarterLaws : Type 0 where
  pub saved : LoadsSaved
  pub blank : LoadsBlank
  pub claims : ClaimsEntry
  pub passes : PassesEntry
  pub ends : EndsEntries

-- ---- another map put in the member's place

there : (m : Member) (set : KeptSet) (g : Ground) → (with_set m set g).sets m ≡ set
there m set g = change-same member_number m (λ _. set) g.sets

pub starts_with : (m : Member) (set : KeptSet) (g : Ground) (epoch place : Option ℕ) (open_gate : Bool) → (g.posts m).up ≡ false → epoch_of_map set.map ≡ epoch → IfSome epoch (IsPast (is_active g.structure.state) g.structure.epoch)
    → (is_active g.structure.state ≡ true → epoch ≡ Some g.structure.epoch → (b : Block) → used_once (used_in g.structure.epoch set) b ≡ tally (lists_to place m b) g.structure.entries)
    → (is_active g.structure.state ≡ true → (epoch ≡ Some g.structure.epoch → ⊥) → (b : Block) → listed m b g.structure.entries ≡ 0)
    → IsGate (Some open_gate) set.contents.bytes → FitsStart (starter m epoch place open_gate) (with_set m set g)
starts_with m set g epoch place open_gate down map past made gone gate = start m epoch place open_gate (with_set m set g) down (ap (λ (x : KeptSet). epoch_of_map x.map) (there m set g) ∙ map) past
    (λ act is b. ap (λ (x : KeptSet). used_once (used_in g.structure.epoch x) b) (there m set g) ∙ made act is b) gone
    (subst (λ (x : KeptSet). IsGate (Some open_gate) x.contents.bytes) (sym (there m set g)) gate)

-- what was made on another map is known of it
made_with : (m : Member) (set : KeptSet) (g : Ground) (epoch place : Option ℕ) (open_gate : Bool) → FitsStart (starter m epoch place open_gate) (with_set m set g) → is_active g.structure.state ≡ true → epoch ≡ Some g.structure.epoch → (b : Block)
    → used_once (used_in g.structure.epoch set) b ≡ tally (lists_to place m b) g.structure.entries
made_with m set g epoch place open_gate fits act is b = ap (λ (x : KeptSet). used_once (used_in g.structure.epoch x) b) (sym (there m set g)) ∙ fits.made act is b

all_with : (m : Member) (set : KeptSet) (g : Ground) (epoch : Option ℕ) (open_gate : Bool) → FitsStart (starter m epoch None open_gate) (with_set m set g) → IsMadeOfAll m open_gate (with_set m set g)
all_with m set g epoch open_gate fits = made_of_all m epoch open_gate (with_set m set g) fits

fits_shutting : (open_gate : Bool) (m : Member) (g : Ground) → IsMadeOfAll m open_gate g → FitsAt (shutting open_gate) m g
fits_shutting true m g all_of = all_of
fits_shutting false m g all_of = all_of

-- ---- the connection

active_past : (b : Bool) (n : ℕ) → b ≡ true → IsPast b n n
active_past true n is = omega arith
active_past false n is = absurd cc

fits_loading : (b : Bool) (m : Member) (g : Ground) → is_active g.structure.state ≡ b → HasNoMap m g
    → FitsAt (loading (if b then Ok (seen g.structure) else Err (record { state = g.structure.state; epoch = g.structure.epoch }))) m g
fits_loading true m g act none = (none, record { past = active_past (is_active g.structure.state) g.structure.epoch act; gone = λ here differ. absurd (differ refl) })
fits_loading false m g lost none = (none, λ act. absurd (true≢false (sym act ∙ lost)))

pub connects : (m : Member) (g : Ground) → (g.posts m).up ≡ false → FitsAt (loading (connect_answer g.structure)) m (with_set m (unmapped (g.sets m)) g)
connects m g down = fits_loading (is_active g.structure.state) m (with_set m (unmapped (g.sets m)) g) refl (record { down = down; map = ap (λ (x : KeptSet). epoch_of_map x.map) (there m (unmapped (g.sets m)) g) })

-- ---- the header

some_same : (x y : ℕ) → Some x ≡ Some y → x ≡ y
some_same x y is = cc

some_differ : (x y : ℕ) → (Some x ≡ Some y → ⊥) → x ≡ y → ⊥
some_differ x y differ same = differ (ap (λ (n : ℕ). Some n) same)

loaded_start : (m : Member) (epoch : ℕ) (found : Found) (set : KeptSet) (g : Ground) (place : Option ℕ) → (g.posts m).up ≡ false → IsTold m epoch g.structure → IsLoaded epoch found (g.sets m) set
    → (is_active g.structure.state ≡ true → IsLoaded g.structure.epoch found (g.sets m) set → FitsStart (starter m (Some g.structure.epoch) place found.gate_open) (with_set m set g))
    → IsGate (Some found.gate_open) set.contents.bytes → FitsStart (starter m (Some epoch) place found.gate_open) (with_set m set g)
loaded_start m epoch found set g place down told loaded law gate = starts_with m set g (Some epoch) place found.gate_open down (ap epoch_of_map loaded.map) told.past
    (λ act is. let same = some_same epoch g.structure.epoch is in made_with m set g (Some g.structure.epoch) place found.gate_open (law act (subst (λ (n : ℕ). IsLoaded n found (g.sets m) set) same loaded)) act refl)
    (λ act differ. told.gone act (some_differ epoch g.structure.epoch differ)) gate

fits_loaded : StarterLaws → (b : Bool) (m : Member) (epoch : ℕ) (found : Found) (set : KeptSet) (g : Ground) → found.has_map ≡ b → IsLawful g → IsThere (g.sets m) → 1 ≤ length (g.sets m).contents.bytes → g.structure.epoch < 2 ^ 32 → HasNoMap m g → IsTold m epoch g.structure → IsLoaded epoch found (g.sets m) set
    → IsGate (Some found.gate_open) set.contents.bytes → FitsAt (if b then shutting found.gate_open else Scan epoch (record { number = 0 }) found.gate_open) m (with_set m set g)
fits_loaded laws true m epoch found set g has lawful here some small none told loaded gate = fits_shutting found.gate_open m (with_set m set g) (all_with m set g (Some epoch) found.gate_open
    (loaded_start m epoch found set g None none.down told loaded (λ act now. laws.saved g m found set lawful.told lawful.fitting lawful.laws none.down here act small now has) gate))
fits_loaded laws false m epoch found set g hasnt lawful here some small none told loaded gate =
    loaded_start m epoch found set g (Some 0) none.down told loaded (λ act now. laws.blank g m found set lawful.told lawful.laws none.down here some act now hasnt) gate

-- without a map, where it isn't wanted or the connection is lost
pub unmapped_start : (m : Member) (open_gate : Bool) (set : KeptSet) (g : Ground) → (g.posts m).up ≡ false → IsBare m g.structure → IsGate (Some open_gate) set.contents.bytes → FitsStart (starter m None None open_gate) (with_set m (unmapped set) g)
unmapped_start m open_gate set g down bare gate = starts_with m (unmapped set) g None None open_gate down refl tt (λ act is. absurd (none_some g.structure.epoch is)) (λ act differ. bare act) gate

-- what was read of the gate
loaded_gate_is : (epoch : ℕ) (found : Found) (old new : KeptSet) → old.contents.tells ≡ true → 1 ≤ length old.contents.bytes → IsLoaded epoch found old new → IsGate (Some found.gate_open) new.contents.bytes
loaded_gate_is epoch found old new told some loaded = subst (IsGate (Some found.gate_open)) (sym (loaded.bytes told)) (gate_told found.gate_open old.contents.bytes some (loaded.gate told))

pub loads : StarterLaws → (served : Bool) (m : Member) (epoch : ℕ) (found : Found) (set : KeptSet) (g : Ground) → IsLawful g → IsThere (g.sets m) → 1 ≤ length (g.sets m).contents.bytes → g.structure.epoch < 2 ^ 32 → FitsAt (Load epoch served) m g → LoadsMap epoch served found (g.sets m) set
    → FitsAt (loaded_phase served epoch found) m (with_set m set g)
loads laws true m epoch found set g lawful here some small fits loaded =
    let gate = loaded_gate_is epoch found (g.sets m) loaded.made (lawful.told m here) some loaded.loaded in
    subst (λ (x : KeptSet). FitsAt (loaded_phase true epoch found) m (with_set m x g)) (sym loaded.new_is) (fits_loaded laws found.has_map m epoch found loaded.made g refl lawful here some small fits.0 fits.1 loaded.loaded gate)
loads laws false m epoch found set g lawful here some small fits loaded =
    let gate = loaded_gate_is epoch found (g.sets m) loaded.made (lawful.told m here) some loaded.loaded in
    subst (λ (x : KeptSet). FitsAt (loaded_phase false epoch found) m (with_set m x g)) (sym loaded.new_is)
    (fits_shutting found.gate_open m (with_set m (unmapped loaded.made) g) (all_with m (unmapped loaded.made) g None found.gate_open (unmapped_start m found.gate_open loaded.made g fits.0.down fits.1 gate)))

-- ---- the entries

put_back : (m : Member) (epoch place : Option ℕ) (open_gate : Bool) (g : Ground) → FitsStart (starter m epoch place open_gate) g → FitsStart (starter m epoch place open_gate) (with_set m (g.sets m) g)
put_back m epoch place open_gate g fits = starts_with m (g.sets m) g epoch place open_gate fits.down fits.map fits.past fits.made fits.gone (gate_of_start open_gate m epoch place g fits)

claimed_start : StarterLaws → (own : Bool) (m owner : Member) (epoch place : ℕ) (open_gate : Bool) (e : Entry) (blocks : List Block) (n : ℕ) (g : Ground) → (member_number owner == member_number m) ≡ own → e.place ≡ Offloaded owner blocks n → IsLawful g → FitsStart (starter m (Some epoch) (Some place) open_gate) g
    → find (is_above (record { number = place })) g.structure.entries ≡ Some e → FitsStart (starter m (Some epoch) (Some e.id.number) open_gate) (with_set m (if own then claimed blocks (g.sets m) else g.sets m) g)
claimed_start laws true m owner epoch place open_gate e blocks n g own is lawful fits found =
    let mine : e.place ≡ Offloaded m blocks n = is ∙ ap (λ (x : Member). Offloaded x blocks n) (same_member owner m (eqb-true (member_number owner) (member_number m) own)) in
    laws.claims (starter m (Some epoch) (Some place) open_gate) g place e blocks n lawful.fitting lawful.laws fits refl found mine
claimed_start laws false m owner epoch place open_gate e blocks n g own is lawful fits found =
    put_back m (Some epoch) (Some e.id.number) open_gate g (laws.passes (starter m (Some epoch) (Some place) open_gate) g place e lawful.laws fits refl found (ap (is_owned m) is ∙ own))

entry_start : StarterLaws → (m : Member) (epoch place : ℕ) (open_gate : Bool) (e : Entry) (body : Place) (g : Ground) → e.place ≡ body → IsLawful g → FitsStart (starter m (Some epoch) (Some place) open_gate) g
    → find (is_above (record { number = place })) g.structure.entries ≡ Some e → FitsStart (starter m (Some epoch) (Some e.id.number) open_gate) (with_set m (claimed_by m body (g.sets m)) g)
entry_start laws m epoch place open_gate e (Inline body) g is lawful fits found = put_back m (Some epoch) (Some e.id.number) open_gate g (laws.passes (starter m (Some epoch) (Some place) open_gate) g place e lawful.laws fits refl found (ap (is_owned m) is))
entry_start laws m epoch place open_gate e (Offloaded owner blocks n) g is lawful fits found = claimed_start laws (member_number owner == member_number m) m owner epoch place open_gate e blocks n g refl is lawful fits found

pub claims : StarterLaws → (m : Member) (epoch : ℕ) (after : EntryId) (open_gate : Bool) (e : Entry) (g : Ground) → IsLawful g → FitsAt (Scan epoch after open_gate) m g → find (is_above after) g.structure.entries ≡ Some e
    → FitsAt (Scan epoch e.id open_gate) m (with_set m (claimed_by m e.place (g.sets m)) g)
claims laws m epoch after open_gate e g lawful fits found = entry_start laws m epoch after.number open_gate e e.place g refl lawful fits found

pub ends_scan : StarterLaws → (m : Member) (epoch : ℕ) (after : EntryId) (open_gate : Bool) (g : Ground) → FitsAt (Scan epoch after open_gate) m g → find (is_above after) g.structure.entries ≡ None → FitsAt (shutting open_gate) m g
ends_scan laws m epoch after open_gate g fits none = fits_shutting open_gate m g (made_of_all m (Some epoch) open_gate g (laws.ends (starter m (Some epoch) (Some after.number) open_gate) g after.number fits refl none))

apart_both : (act : Bool) (x y : ℕ) → (act && (x == y)) ≡ false → act ≡ true → x ≡ y → ⊥
apart_both true x y lost is same = true≢false (sym (eq-eqb x y same) ∙ lost)
apart_both false x y lost is same = true≢false (sym is)

-- a connection that is lost isn't one of the present epoch of an active structure
pub loses_scan : (m : Member) (epoch : ℕ) (after : EntryId) (open_gate : Bool) (g : Ground) → FitsAt (Scan epoch after open_gate) m g → (is_active g.structure.state && (epoch == g.structure.epoch)) ≡ false
    → FitsAt (shutting open_gate) m (with_set m (unmapped (g.sets m)) g)
loses_scan m epoch after open_gate g fits lost = fits_shutting open_gate m (with_set m (unmapped (g.sets m)) g) (all_with m (unmapped (g.sets m)) g None open_gate (unmapped_start m open_gate (g.sets m) g fits.down
    (λ act. fits.gone act (λ same. apart_both (is_active g.structure.state) epoch g.structure.epoch lost act (some_same epoch g.structure.epoch same))) (gate_of_start open_gate m (Some epoch) (Some after.number) g fits)))

-- ---- the gate

used_same : (n : ℕ) (old new : KeptSet) → IsStorageSame old new → used_in n new ≡ used_in n old
used_same n old new same = λ i. used_by n (same.contents.blocks i) (same.map i)

pub storage_start : (m : Member) (epoch place : Option ℕ) (was is_now : Bool) (set : KeptSet) (g : Ground) → IsStorageSame (g.sets m) set → FitsStart (starter m epoch place was) g → IsGate (Some is_now) set.contents.bytes → FitsStart (starter m epoch place is_now) (with_set m set g)
storage_start m epoch place was is_now set g same fits gate = starts_with m set g epoch place is_now fits.down (ap epoch_of_map same.map ∙ fits.map) fits.past
    (λ act is b. ap (λ (l : List Bool). used_once l b) (used_same g.structure.epoch (g.sets m) set same) ∙ fits.made act is b) fits.gone gate

pub storage_all : (m : Member) (was is_now : Bool) (set : KeptSet) (g : Ground) → IsStorageSame (g.sets m) set → IsMadeOfAll m was g → IsGate (Some is_now) set.contents.bytes → IsMadeOfAll m is_now (with_set m set g)
storage_all m was is_now set g same fits gate = all_with m set g (epoch_of_map (g.sets m).map) is_now (storage_start m (epoch_of_map (g.sets m).map) None was is_now set g same fits gate)

-- with its gate shut, a START has this map
pub shut_start : (m : Member) (g : Ground) → IsMadeOfAll m false g → IsShut (g.sets m).contents.bytes → FitsStart (ended m g) g
shut_start m g fits shut = record {
  down = fits.down;
  map = fits.map;
  past = fits.past;
  made = fits.made;
  gone = fits.gone;
  opened = λ none. absurd (omega (arith, none));
  reads = λ late. ap values shut;
  shut = λ late. shut;
}
