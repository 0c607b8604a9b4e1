-- a STOP's own steps
use Rattle.std.proofs.Common.{◌≡◌, ℕ, zero, suc, ◌+◌, ◌≤◌, Bool, true, false, List, [], ◌∷◌, Option, Some, None, refl, sym, ap, ◌∙◌, arith, inl, inr, subst, length, map, take, drop}
use Rattle.std.specs.Prelude.{◌⊎◌, IfSome, Result, Ok}
use Rattle.std.proofs.lemmas.List.{take-map, drop-map}
use Rattle.qsg_num.specs.declared.seats.Member.{Member}
use Rattle.qsg_num.specs.declared.words.Failed.{Failed}
use Rattle.qsg_disk.specs.Byte.{Byte, values, synced, safe_byte, part, EachPair, IsKeptOrSynced}
use Rattle.qsg_disk.proofs.Parts.{part_after, zipped_part, values_kept}
use Rattle.qsg_lists.specs.Structures.{is_active}
use Rattle.qsg_dataset.specs.Headers.{spelling}
use Rattle.qsg_dataset.specs.Contents.{IsReady, rest_of}
use Rattle.qsg_dataset.specs.Steps.{SaveStep}
use Rattle.qsg_dataset.proofs.Saving.{saving-shut, saving-ready}
use Rattle.qsg_dataset.proofs.Spelling.{length-spelling}
use Rattle.qsg_dataset.proofs.Blocks.{values-written}
use Rattle.qsg_datasets.specs.declared.member_data_set.KeptMap.{KeptMap}
use Rattle.qsg_datasets.specs.Kept.{KeptSet}
use Rattle.qsg_datasets.specs.Calls.{IsStorageSame}
use Rattle.qsg_blocks.specs.State.{Post, Ground, IsThere, stands, used_once}
use Rattle.qsg_blocks.specs.Laws.{IsPast, AreBlank, IsMapTrue, IsFitting, Laws}
use Rattle.qsg_blocks.specs.Changes.{with_set, with_post, ended, MaySave}
use Rattle.qsg_blocks.specs.Works.{Stopper, IsSaving, FitsStop}
use Rattle.qsg_blocks.proofs.Fitting.{set_at, post_at}
use Rattle.qsg_blocks.proofs.Standing.{stands-active, past_before, past_low, past_now, blank_reserved, used_in-now}
use Rattle.qsg_blocks.proofs.Counted.{owned}
use Rattle.qsg_blocks.proofs.Headers.{header_up}
use Rattle.qsg_blocks.proofs.Loading.{header_beside}

-- ---- it begins

stop_past : (act st : Bool) (now n : ℕ) → (act ≡ false → st ≡ false) → IsPast st now n → IsPast act now n
stop_past true st now n other past = past_low st now n past
stop_past false st now n other past = past_before st now n (other refl) past

stop_true : (g : Ground) (m : Member) (x : KeptMap) → Laws g → (g.posts m).up ≡ true → AreBlank (g.sets m).hands → (is_active g.structure.state ≡ false → stands g.structure.state m (g.posts m) ≡ false)
    → (g.sets m).map ≡ Some x → IsPast (stands g.structure.state m (g.posts m)) g.structure.epoch x.epoch → IsMapTrue m x.epoch x.used g.structure
stop_true g m x laws up blank other is past =
    let old = stop_past (is_active g.structure.state) (stands g.structure.state m (g.posts m)) g.structure.epoch x.epoch other past in
    record {
      past = old;
      same = λ now b.
          let live = stands-active g.structure.state m (g.posts m) (past_now (is_active g.structure.state) g.structure.epoch x.epoch now old) ∙ up in
          let o = owned g m b live laws in
          let r = blank_reserved g.structure.epoch b (g.sets m).hands blank in
          let u = ap (λ l. used_once l b) (used_in-now g.structure.epoch (g.sets m) x is now) in
          omega (arith, o, r, u);
    }

pub stopper_begins : (g : Ground) (m : Member) → IsFitting g → Laws g → (g.posts m).up ≡ true → AreBlank (g.sets m).hands → (is_active g.structure.state ≡ false → stands g.structure.state m (g.posts m) ≡ false)
    → FitsStop (record { owner = m; steps = 0 }) (with_post m (ended (g.posts m)) g)
stopper_begins g m fits laws up blank other = record {
  down = ap (λ (x : Post). x.up) (post_at m (ended (g.posts m)) g.posts);
  is_true = by (g.sets m).map refl ((laws.timely m).map up);
  saving = all (g.sets m).map;
}
  where
    by : (o : Option KeptMap) → (g.sets m).map ≡ o → IfSome o (λ (x : KeptMap). IsPast (stands g.structure.state m (g.posts m)) g.structure.epoch x.epoch) → IfSome o (λ (x : KeptMap). IsMapTrue m x.epoch x.used g.structure)
    by None is past = tt
    by (Some x) is past = stop_true g m x laws up blank other is past

    all : (o : Option KeptMap) → IfSome o (IsSaving 0 (g.sets m))
    all None = tt
    all (Some x) = record {
      shut = λ early. header_up m (g.sets m).contents g.structure (g.posts m).up up (laws.headers m (fits.there m up));
      wrote = λ late. absurd (omega (arith, late));
      ready = λ late. absurd (omega (arith, late));
    }

-- ---- it saves

of_map : (set : KeptSet) (x : KeptMap) (P : KeptMap → Type 0) → set.map ≡ Some x → IfSome set.map P → P x
of_map set x P is all = subst (λ o. IfSome o P) is all

pub stopper_writes : (w : Stopper) (g : Ground) (kept : KeptMap) (result : Result (Unit {0}) Failed) (set : KeptSet) → IsFitting g → FitsStop w g → IsThere (g.sets w.owner) → (g.sets w.owner).map ≡ Some kept → IsStorageSame (g.sets w.owner) set
    → (w.steps ≡ 0) ⊎ (w.steps ≡ 2) → SaveStep (w.steps + 1) kept.epoch kept.used result (g.sets w.owner).contents.bytes set.contents.bytes → MaySave g w.owner set
stopper_writes w g kept result set fits fit there is same (inl none) step =
    let saving = of_map (g.sets w.owner) kept (IsSaving w.steps (g.sets w.owner)) is fit.saving in
    let one : SaveStep 1 kept.epoch kept.used result (g.sets w.owner).contents.bytes set.contents.bytes = subst (λ k. SaveStep (k + 1) kept.epoch kept.used result (g.sets w.owner).contents.bytes set.contents.bytes) none step in
    let l = length-spelling kept.epoch kept.used in
    record {
      down = fit.down;
      there = there;
      same = same;
      beside = λ tells. header_beside 1 (length (spelling kept.epoch kept.used)) (g.sets w.owner).contents.bytes set.contents.bytes (omega (arith, l)) one.beside;
      header = λ told. inl (saving-shut 1 kept.epoch kept.used result (g.sets w.owner).contents.bytes set.contents.bytes (omega arith) one (saving.shut (omega (arith, none))));
    }
stopper_writes w g kept result set fits fit there is same (inr two) step =
    let saving = of_map (g.sets w.owner) kept (IsSaving w.steps (g.sets w.owner)) is fit.saving in
    let third : SaveStep 3 kept.epoch kept.used result (g.sets w.owner).contents.bytes set.contents.bytes = subst (λ k. SaveStep (k + 1) kept.epoch kept.used result (g.sets w.owner).contents.bytes set.contents.bytes) two step in
    record {
      down = fit.down;
      there = there;
      same = same;
      beside = λ tells. header_beside 0 1 (g.sets w.owner).contents.bytes set.contents.bytes (omega arith) third.beside;
      header = λ told. inr (record {
        epoch = kept.epoch;
        used = kept.used;
        size = of_map (g.sets w.owner) kept (λ (x : KeptMap). length x.used ≡ (g.sets w.owner).contents.blocks) is (fits.kept w.owner there).map ∙ sym same.contents.blocks;
        ready = saving-ready 3 kept.epoch kept.used result (g.sets w.owner).contents.bytes set.contents.bytes (omega arith) third (saving.ready (omega (arith, two)));
        is_true = of_map (g.sets w.owner) kept (λ (x : KeptMap). IsMapTrue w.owner x.epoch x.used g.structure) is fit.is_true;
      });
    }

-- ---- a step that succeeds

synced_values : (xs : List Byte) → map synced xs ≡ map safe_byte (values xs)
synced_values [] = refl
synced_values (x ∷ xs) = ap (λ (l : List Byte). synced x ∷ l) (synced_values xs)

synced_part : (at n : ℕ) (bytes : List Byte) → part at n (map synced bytes) ≡ map synced (part at n bytes)
synced_part at n bytes = ap (take n) (drop-map synced at bytes) ∙ take-map synced n (drop at bytes)

-- the header that reads as a map is made safe
made_ready : (epoch : ℕ) (used : List Bool) (old new : List Byte) → new ≡ map synced old → values (rest_of old) ≡ spelling epoch used → IsReady epoch used new
made_ready epoch used old new is reads = ap rest_of is ∙ synced_part 1 4095 old ∙ synced_values (rest_of old) ∙ ap (map safe_byte) reads

saves_one : (x : KeptMap) (one : Unit {0}) (old new : KeptSet) → IsSaving 0 old x → SaveStep {E = Failed} 1 x.epoch x.used (Ok one) old.contents.bytes new.contents.bytes → IsSaving 1 new x
saves_one x one old new saving step = record {
  shut = λ early. saving-shut 1 x.epoch x.used (Ok one) old.contents.bytes new.contents.bytes (omega arith) step (saving.shut (omega arith));
  wrote = λ late. ap (λ n. values (part 1 n new.contents.bytes)) (sym (length-spelling x.epoch x.used)) ∙ ap values step.written ∙ values-written (spelling x.epoch x.used);
  ready = λ late. absurd (omega (arith, late));
}

kept_reads : (epoch : ℕ) (used : List Bool) (old new : List Byte) → EachPair IsKeptOrSynced old new → values (rest_of old) ≡ spelling epoch used → values (rest_of new) ≡ spelling epoch used
kept_reads epoch used old new each reads = values_kept (rest_of old) (rest_of new) (zipped_part IsKeptOrSynced old new 1 4095 each) ∙ reads

saves_two : (x : KeptMap) (one : Unit {0}) (old new : KeptSet) → IsSaving 1 old x → SaveStep {E = Failed} 2 x.epoch x.used (Ok one) old.contents.bytes new.contents.bytes → IsSaving 2 new x
saves_two x one old new saving step = record {
  shut = λ early. saving-shut 2 x.epoch x.used (Ok one) old.contents.bytes new.contents.bytes (omega arith) step (saving.shut (omega arith));
  wrote = λ late. kept_reads x.epoch x.used old.contents.bytes new.contents.bytes step.kept (saving.wrote (omega arith));
  ready = λ late. made_ready x.epoch x.used old.contents.bytes new.contents.bytes step.synced (saving.wrote (omega arith));
}

saves_three : (x : KeptMap) (one : Unit {0}) (old new : KeptSet) → IsSaving 2 old x → SaveStep {E = Failed} 3 x.epoch x.used (Ok one) old.contents.bytes new.contents.bytes → IsSaving 3 new x
saves_three x one old new saving step = record {
  shut = λ early. absurd (omega (arith, early));
  wrote = λ late. ap values (part_after 0 1 old.contents.bytes new.contents.bytes 1 4095 step.beside (omega arith)) ∙ saving.wrote (omega arith);
  ready = λ late. saving-ready 3 x.epoch x.used (Ok one) old.contents.bytes new.contents.bytes (omega arith) step (saving.ready (omega arith));
}

saves_four : (x : KeptMap) (one : Unit {0}) (old new : KeptSet) → IsSaving 3 old x → SaveStep {E = Failed} 4 x.epoch x.used (Ok one) old.contents.bytes new.contents.bytes → IsSaving 4 new x
saves_four x one old new saving step = record {
  shut = λ early. absurd (omega (arith, early));
  wrote = λ late. kept_reads x.epoch x.used old.contents.bytes new.contents.bytes step.kept (saving.wrote (omega arith));
  ready = λ late. saving-ready 4 x.epoch x.used (Ok one) old.contents.bytes new.contents.bytes (omega arith) step (saving.ready (omega arith));
}

saves : (steps : ℕ) (x : KeptMap) (one : Unit {0}) (old new : KeptSet) → steps ≤ 3 → IsSaving steps old x → SaveStep {E = Failed} (steps + 1) x.epoch x.used (Ok one) old.contents.bytes new.contents.bytes → IsSaving (steps + 1) new x
saves zero x one old new low saving step = saves_one x one old new saving step
saves (suc zero) x one old new low saving step = saves_two x one old new saving step
saves (suc (suc zero)) x one old new low saving step = saves_three x one old new saving step
saves (suc (suc (suc zero))) x one old new low saving step = saves_four x one old new saving step
saves (suc (suc (suc (suc n)))) x one old new low saving step = absurd (omega (arith, low))

pub stopper_goes_on : (w : Stopper) (g : Ground) (kept : KeptMap) (one : Unit {0}) (set : KeptSet) → FitsStop w g → (g.sets w.owner).map ≡ Some kept → IsStorageSame (g.sets w.owner) set → w.steps ≤ 3
    → SaveStep {E = Failed} (w.steps + 1) kept.epoch kept.used (Ok one) (g.sets w.owner).contents.bytes set.contents.bytes → FitsStop (record w { steps = w.steps + 1 }) (with_set w.owner set g)
stopper_goes_on w g kept one set fit is same low step =
    let here = sym (set_at w.owner set g.sets) in
    let map : set.map ≡ Some kept = same.map ∙ is in
    record {
      down = fit.down;
      is_true = subst (λ (x : KeptSet). IfSome x.map (λ (y : KeptMap). IsMapTrue w.owner y.epoch y.used g.structure)) here
          (subst (λ o. IfSome o (λ (y : KeptMap). IsMapTrue w.owner y.epoch y.used g.structure)) (sym map) (of_map (g.sets w.owner) kept (λ (x : KeptMap). IsMapTrue w.owner x.epoch x.used g.structure) is fit.is_true));
      saving = subst (λ (x : KeptSet). IfSome x.map (IsSaving (w.steps + 1) x)) here
          (subst (λ o. IfSome o (IsSaving (w.steps + 1) set)) (sym map) (saves w.steps kept one (g.sets w.owner) set low (of_map (g.sets w.owner) kept (IsSaving w.steps (g.sets w.owner)) is fit.saving) step));
    }
