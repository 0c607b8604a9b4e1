-- a START's own steps
use Rattle.std.proofs.Common.{◌≡◌, ◌≢◌, ℕ, ◌+◌, ◌-◌, ◌^◌, ◌<◌, ◌≤◌, not, Bool, true, false, List, [], ◌∷◌, Option, Some, None, refl, sym, ap, ◌∙◌, arith, inl, inr, subst, length, map, drop}
use Rattle.std.specs.Prelude.{IfSome, find, ◌==◌, if◌then◌else◌, nat_lt, Result, Ok}
use Rattle.std.specs.List.{AllByRecursion}
use Rattle.std.proofs.lemmas.Bool.Decides.{nat_tests}
use Rattle.std.proofs.lemmas.Bool.{cases_eq, cases_Bool, eq-eqb, ne_eqb}
use Rattle.std.proofs.lemmas.List.{drop-drop}
use Rattle.qsg_num.specs.declared.seats.Member.{Member}
use Rattle.qsg_num.specs.declared.ids.Block.{Block}
use Rattle.qsg_num.specs.declared.words.Failed.{Failed}
use Rattle.qsg_disk.specs.Byte.{Byte, values, synced, safe_byte, Beside}
use Rattle.qsg_lists.specs.declared.parts.Entry.{Entry}
use Rattle.qsg_lists.specs.declared.parts.Place.{Place}
use Rattle.qsg_lists.specs.declared.parts.Place.TheVariants.{Inline, Offloaded}
use Rattle.qsg_lists.specs.Entries.{AreInOrder, is_above, is_owned}
use Rattle.qsg_lists.specs.Structures.{is_active}
use Rattle.qsg_lists.proofs.Found.{find-passes, all-find, find-none}
use Rattle.qsg_space.specs.Spaces.{marked}
use Rattle.qsg_dataset.specs.Headers.{spelling}
use Rattle.qsg_dataset.specs.Contents.{Contents, IsSaved, IsShut, gate_of, gate_value}
use Rattle.qsg_dataset.specs.Steps.{ShutStep}
use Rattle.qsg_dataset.proofs.Saving.{shut-unsaved, shutting-ready}
use Rattle.qsg_dataset.proofs.Spelling.{one_epoch, one_map}
use Rattle.qsg_dataset.proofs.Blocks.{values-written}
use Rattle.qsg_datasets.specs.declared.member_data_set.Found.{Found}
use Rattle.qsg_datasets.specs.declared.member_data_set.KeptMap.{KeptMap}
use Rattle.qsg_datasets.specs.Kept.{KeptSet, IsKept, used_in, claimed_in, claimed}
use Rattle.qsg_datasets.specs.Calls.{IsStorageSame, IsLoaded}
use Rattle.qsg_blocks.specs.State.{Ground, IsThere, AreTold, lists, listed, tally, uses, used_once}
use Rattle.qsg_blocks.specs.Laws.{AreWithin, FitsPlace, IsPast, IsOpen, IsHeader, IsFitting, Laws}
use Rattle.qsg_blocks.specs.Changes.{with_set, IsMade, MaySave}
use Rattle.qsg_blocks.specs.Works.{lists_to, epoch_of_map, shuts_for, Starter, FitsStart}
use Rattle.qsg_blocks.proofs.Counting.{used-blank, used-marked, uses-tail, tally-none, lists-own}
use Rattle.qsg_blocks.proofs.Fitting.{set_at}
use Rattle.qsg_blocks.proofs.Standing.{past_up, past_low, used_in-now, used_in-old, used_in-none, used_in-same}
use Rattle.qsg_blocks.proofs.Counted.{apart}
use Rattle.qsg_blocks.proofs.Headers.{header_down}

-- the law of a START, by the data set of its owner
pub starter_at : (w : Starter) (g : Ground) (set : KeptSet) → (g.posts w.owner).up ≡ false → epoch_of_map set.map ≡ w.epoch → IfSome w.epoch (IsPast (is_active g.structure.state) g.structure.epoch)
    → (is_active g.structure.state ≡ true → w.epoch ≡ Some g.structure.epoch → (b : Block) → used_once (used_in g.structure.epoch set) b ≡ tally (lists_to w.place w.owner b) g.structure.entries)
    → (is_active g.structure.state ≡ true → (w.epoch ≡ Some g.structure.epoch → ⊥) → (b : Block) → listed w.owner b g.structure.entries ≡ 0)
    → (w.shuts ≡ 0 → gate_value set.contents.bytes ≢ 0) → (1 ≤ w.shuts → values (gate_of set.contents.bytes) ≡ 0 ∷ []) → (2 ≤ w.shuts → IsShut set.contents.bytes)
    → FitsStart w (with_set w.owner set g)
starter_at w g set down map past made gone opened reads shut =
    let same = sym (set_at w.owner set g.sets) in
    record {
      down = down;
      map = subst (λ (x : KeptSet). epoch_of_map x.map ≡ w.epoch) same map;
      past = past;
      made = λ act now b. subst (λ (x : KeptSet). used_once (used_in g.structure.epoch x) b ≡ tally (lists_to w.place w.owner b) g.structure.entries) same (made act now b);
      gone = gone;
      opened = λ none. subst (λ (x : KeptSet). gate_value x.contents.bytes ≢ 0) same (opened none);
      reads = λ some. subst (λ (x : KeptSet). values (gate_of x.contents.bytes) ≡ 0 ∷ []) same (reads some);
      shut = λ two. subst (λ (x : KeptSet). IsShut x.contents.bytes) same (shut two);
    }

-- ---- the gate, as it was read

gate_first : (bytes : List Byte) → 1 ≤ length bytes → values (gate_of bytes) ≡ gate_value bytes ∷ []
gate_first [] some = absurd (omega arith)
gate_first (x ∷ bytes) some = refl

opened_gate : (is_open : Bool) (n : ℕ) → is_open ≡ not (n == 0) → shuts_for is_open ≡ 0 → n ≢ 0
opened_gate true n is none e = let z : true ≡ not true = is ∙ ap not (eq-eqb n 0 e) in absurd cc
opened_gate false n is none e = absurd cc

closed_gate : (is_open : Bool) (n : ℕ) → is_open ≡ not (n == 0) → 1 ≤ shuts_for is_open → n ≡ 0
closed_gate true n is some = absurd (omega arith)
closed_gate false n is some = elim (cases_eq n 0) [
  | inl same ↦ same
  | inr differ ↦ let z : false ≡ not false = is ∙ ap not (ne_eqb n 0 differ) in absurd cc
]

two_shuts : {X : Type 0} (is_open : Bool) → 2 ≤ shuts_for is_open → X
two_shuts true two = absurd (omega arith)
two_shuts false two = absurd (omega arith)

gate_opened : (epoch : ℕ) (found : Found) (old loaded : KeptSet) → IsLoaded epoch found old loaded → old.contents.tells ≡ true → shuts_for found.gate_open ≡ 0 → gate_value loaded.contents.bytes ≢ 0
gate_opened epoch found old loaded load tells none e = opened_gate found.gate_open (gate_value old.contents.bytes) (load.gate tells) none (sym (ap gate_value (load.bytes tells)) ∙ e)

gate_reads : (epoch : ℕ) (found : Found) (old loaded : KeptSet) → IsLoaded epoch found old loaded → old.contents.tells ≡ true → 1 ≤ length old.contents.bytes → 1 ≤ shuts_for found.gate_open → values (gate_of loaded.contents.bytes) ≡ 0 ∷ []
gate_reads epoch found old loaded load tells some shut =
    ap (λ l. values (gate_of l)) (load.bytes tells) ∙ gate_first old.contents.bytes some ∙ ap (λ n. n ∷ []) (closed_gate found.gate_open (gate_value old.contents.bytes) (load.gate tells) shut)

-- ---- a saved map

open_is_true : (g : Ground) (m : Member) (epoch : ℕ) (used : List Bool) → IsOpen m (g.sets m).contents g.structure → IsSaved epoch (g.sets m).contents.blocks used (g.sets m).contents.bytes → IsKept (g.sets m) → epoch ≡ g.structure.epoch → epoch < 2 ^ 32
    → (b : Block) → used_once used b ≡ listed m b g.structure.entries
open_is_true g m epoch used opened saved kept now small b =
    let spelled : spelling opened.epoch opened.used ≡ spelling epoch used = sym (values_safe (spelling opened.epoch opened.used)) ∙ sym (ap values opened.ready) ∙ saved.spelled in
    let low = past_low _ _ _ opened.is_true.past in
    let epochs = one_epoch opened.epoch epoch opened.used used (omega (arith, low, now, small)) small spelled in
    let most = kept.sized.most_blocks in
    let size = opened.size in
    let maps = one_map opened.epoch epoch opened.used used (opened.size ∙ sym saved.size) (omega (arith, most, size)) spelled in
    ap (λ l. used_once l b) (sym maps) ∙ opened.is_true.same (epochs ∙ now) b
  where
    values_safe : (vs : List ℕ) → values (map safe_byte vs) ≡ vs
    values_safe [] = refl
    values_safe (v ∷ vs) = ap (λ (l : List ℕ). v ∷ l) (values_safe vs)

loaded_made : (g : Ground) (m : Member) (found : Found) (set : KeptSet) → AreTold g.sets → IsFitting g → Laws g → (g.posts m).up ≡ false → IsThere (g.sets m) → g.structure.epoch < 2 ^ 32 → IsLoaded g.structure.epoch found (g.sets m) set → found.has_map ≡ true
    → (b : Block) → used_once (used_in g.structure.epoch set) b ≡ listed m b g.structure.entries
loaded_made g m found set told fits laws down there small load has b =
    ap (λ l. used_once l b) (used_in-now g.structure.epoch set (record { epoch = g.structure.epoch; used = load.used }) load.map refl)
    ∙ by (header_down m (g.sets m).contents g.structure (g.posts m).up (laws.headers m there))
  where
    saved : IsSaved g.structure.epoch (g.sets m).contents.blocks load.used (g.sets m).contents.bytes
    saved = load.saved has (told m there)

    by : IsHeader false m (g.sets m).contents g.structure → used_once load.used b ≡ listed m b g.structure.entries
    by (inl shut) = absurd (shut-unsaved g.structure.epoch (g.sets m).contents.blocks load.used (g.sets m).contents.bytes shut saved)
    by (inr opened) = open_is_true g m g.structure.epoch load.used opened saved (fits.kept m there) refl small b

-- where a saved map is found the gate doesn't read 0
saved_open : (is_open : Bool) (n : ℕ) → is_open ≡ not (n == 0) → n ≢ 0 → shuts_for is_open ≡ 0
saved_open true n is differ = refl
saved_open false n is differ = let z : false ≡ not false = is ∙ ap not (ne_eqb n 0 differ) in absurd cc

pub starter_loads : (g : Ground) (m : Member) (found : Found) (set : KeptSet) → AreTold g.sets → IsFitting g → Laws g → (g.posts m).up ≡ false → IsThere (g.sets m) → is_active g.structure.state ≡ true → g.structure.epoch < 2 ^ 32
    → IsLoaded g.structure.epoch found (g.sets m) set → found.has_map ≡ true → FitsStart (record { owner = m; epoch = Some g.structure.epoch; place = None; shuts = shuts_for found.gate_open }) (with_set m set g)
starter_loads g m found set told fits laws down there active small load has =
    let tells = told m there in
    let none : shuts_for found.gate_open ≡ 0 = saved_open found.gate_open (gate_value (g.sets m).contents.bytes) (load.gate tells) (load.saved has tells).opened in
    starter_at (record { owner = m; epoch = Some g.structure.epoch; place = None; shuts = shuts_for found.gate_open }) g set down (ap epoch_of_map load.map) (past_up _ _ _ active (omega arith))
    (λ act now b. loaded_made g m found set told fits laws down there small load has b)
    (λ act other b. absurd (other refl))
    (gate_opened g.structure.epoch found (g.sets m) set load tells)
    (λ some. absurd (omega (arith, some, none)))
    (λ two. absurd (omega (arith, two, none)))

-- ---- a map of free blocks

none_to : (m : Member) (b : Block) (es : List Entry) → AllByRecursion (λ (e : Entry). 1 ≤ e.id.number) es → tally (lists_to (Some 0) m b) es ≡ 0
none_to m b es first = tally-none (lists_to (Some 0) m b) es (each es first)
  where
    each : (es : List Entry) → AllByRecursion (λ (e : Entry). 1 ≤ e.id.number) es → AllByRecursion (λ (e : Entry). lists_to (Some 0) m b e ≡ 0) es
    each [] first = tt
    each (e ∷ es) first = (let f = first.0 in grind (arith, nat_tests, f), each es first.1)

pub starter_blank : (g : Ground) (m : Member) (found : Found) (set : KeptSet) → AreTold g.sets → Laws g → (g.posts m).up ≡ false → IsThere (g.sets m) → 1 ≤ length (g.sets m).contents.bytes → is_active g.structure.state ≡ true
    → IsLoaded g.structure.epoch found (g.sets m) set → found.has_map ≡ false → FitsStart (record { owner = m; epoch = Some g.structure.epoch; place = Some 0; shuts = shuts_for found.gate_open }) (with_set m set g)
starter_blank g m found set told laws down there some active load has =
    let tells = told m there in
    starter_at (record { owner = m; epoch = Some g.structure.epoch; place = Some 0; shuts = shuts_for found.gate_open }) g set down (ap epoch_of_map load.map) (past_up _ _ _ active (omega arith))
    (λ act now b.
    ap (λ l. used_once l b) (used_in-now g.structure.epoch set (record { epoch = g.structure.epoch; used = load.used }) load.map refl ∙ load.blank has)
    ∙ used-blank (g.sets m).contents.blocks b
    ∙ sym (none_to m b g.structure.entries laws.fresh.first))
    (λ act other b. absurd (other refl))
    (gate_opened g.structure.epoch found (g.sets m) set load tells)
    (gate_reads g.structure.epoch found (g.sets m) set load tells some)
    (λ two. two_shuts found.gate_open two)

-- ---- no map

pub starter_drops : (g : Ground) (m : Member) (epoch : ℕ) (found : Found) (loaded set : KeptSet) → AreTold g.sets → (g.posts m).up ≡ false → IsThere (g.sets m) → 1 ≤ length (g.sets m).contents.bytes → is_active g.structure.state ≡ false
    → IsLoaded epoch found (g.sets m) loaded → set.contents ≡ loaded.contents → set.map ≡ None → FitsStart (record { owner = m; epoch = None; place = None; shuts = shuts_for found.gate_open }) (with_set m set g)
starter_drops g m epoch found loaded set told down there some inactive load same none =
    let tells = told m there in
    starter_at (record { owner = m; epoch = None; place = None; shuts = shuts_for found.gate_open }) g set down (ap epoch_of_map none) tt
    (λ act now b. absurd cc)
    (λ act other b. absurd cc)
    (λ shuts. subst (λ (c : Contents). gate_value c.bytes ≢ 0) (sym same) (gate_opened epoch found (g.sets m) loaded load tells shuts))
    (λ shut. ap (λ (c : Contents). values (gate_of c.bytes)) same ∙ gate_reads epoch found (g.sets m) loaded load tells some shut)
    (λ two. two_shuts found.gate_open two)

-- ---- one entry after another

above_none : (place : ℕ) (m : Member) (b : Block) (es : List Entry) → AllByRecursion (λ (x : Entry). place < x.id.number) es → tally (lists_to (Some place) m b) es ≡ 0
above_none place m b es above = tally-none (lists_to (Some place) m b) es (each es above)
  where
    each : (es : List Entry) → AllByRecursion (λ (x : Entry). place < x.id.number) es → AllByRecursion (λ (e : Entry). lists_to (Some place) m b e ≡ 0) es
    each [] above = tt
    each (e ∷ es) above = (let f = above.0 in grind (arith, nat_tests, f), each es above.1)

above_low : (low high : ℕ) (es : List Entry) → low < high → AllByRecursion (λ (x : Entry). high < x.id.number) es → AllByRecursion (λ (x : Entry). low < x.id.number) es
above_low low high [] less all = tt
above_low low high (x ∷ es) less all = let h = all.0 in (omega (arith, h, less), above_low low high es less all.1)

lists_in : (place : ℕ) (m : Member) (b : Block) (e : Entry) → e.id.number ≤ place → lists_to (Some place) m b e ≡ lists m b e.place
lists_in place m b e low = grind (arith, nat_tests, low)

lists_out : (place : ℕ) (m : Member) (b : Block) (e : Entry) → place < e.id.number → lists_to (Some place) m b e ≡ 0
lists_out place m b e above = grind (arith, nat_tests, above)

lt_true : (a b : ℕ) → nat_lt a b ≡ true → a < b
lt_true a b is = grind (arith, nat_tests, is)

lt_false : (a b : ℕ) → nat_lt a b ≡ false → b ≤ a
lt_false a b is = grind (arith, nat_tests, is)

find_head : (place : ℕ) (x e : Entry) (es : List Entry) → nat_lt place x.id.number ≡ true → find (is_above (record { number = place })) (x ∷ es) ≡ Some e → x ≡ e
find_head place x e es above found = let f : Some x ≡ Some e = sym (ap (λ c. if c then Some x else find (is_above (record { number = place })) es) above) ∙ found in cc

find_tail : (place : ℕ) (x e : Entry) (es : List Entry) → nat_lt place x.id.number ≡ false → find (is_above (record { number = place })) (x ∷ es) ≡ Some e → find (is_above (record { number = place })) es ≡ Some e
find_tail place x e es low found = sym (ap (λ c. if c then Some x else find (is_above (record { number = place })) es) low) ∙ found

-- the next entry above a place
walked : (place : ℕ) (m : Member) (b : Block) (es : List Entry) (e : Entry) → AreInOrder es → find (is_above (record { number = place })) es ≡ Some e
    → tally (lists_to (Some e.id.number) m b) es ≡ tally (lists_to (Some place) m b) es + lists m b e.place
walked place m b [] e ordered found = absurd cc
walked place m b (x ∷ es) e ordered found = elim (cases_Bool (nat_lt place x.id.number)) [
  | inl above ↦
      let here = find_head place x e es above found in
      let less = lt_true place x.id.number above in
      let p = lists_in e.id.number m b x (let n = ap (λ (y : Entry). y.id.number) here in omega (arith, n)) in
      let q = lists_out place m b x less in
      let r = above_none e.id.number m b es (subst (λ (y : Entry). AllByRecursion (λ (z : Entry). y.id.number < z.id.number) es) here ordered.0) in
      let s = above_none place m b es (above_low place x.id.number es less ordered.0) in
      let t = ap (λ (y : Entry). lists m b y.place) here in
      omega (arith, p, q, r, s, t)
  | inr low ↦
      let more = find_tail place x e es low found in
      let rest = walked place m b es e ordered.1 more in
      let less = lt_true place e.id.number (find-passes (is_above (record { number = place })) es e more) in
      let under = lt_false place x.id.number low in
      let p = lists_in e.id.number m b x (omega (arith, less, under)) in
      let q = lists_in place m b x under in
      omega (arith, rest, p, q)
]

to_all : (place : Option ℕ) (m : Member) (b : Block) (es : List Entry) → tally (lists_to place m b) es ≤ listed m b es
to_all place m b [] = omega arith
to_all place m b (e ∷ es) = let r = to_all place m b es in let h = one place in omega (arith, r, h)
  where
    zero_or : (c : Bool) (n : ℕ) → (if c then 0 else n) ≤ n
    zero_or true n = omega arith
    zero_or false n = omega arith

    one : (place : Option ℕ) → lists_to place m b e ≤ lists m b e.place
    one None = omega arith
    one (Some n) = zero_or (nat_lt n e.id.number) (lists m b e.place)

place_changed : (w : Starter) (g : Ground) (place : ℕ) (to : Option ℕ) (b : Block) → w.place ≡ Some place → tally (lists_to w.place w.owner b) g.structure.entries ≡ tally (lists_to (Some place) w.owner b) g.structure.entries
place_changed w g place to b is = ap (λ o. tally (lists_to o w.owner b) g.structure.entries) is

-- a block of the list is in range
within_one : (most : ℕ) (bs : List Block) (b : Block) → AreWithin most bs → 0 < uses b bs → b.number < most
within_one most [] b all used = absurd (omega (arith, used))
within_one most (x ∷ bs) b all used = elim (cases_eq x.number b.number) [
  | inl same ↦ let h = all.0 in omega (arith, h, same)
  | inr differ ↦ within_one most bs b all.1 (let t = uses-tail b x bs differ in omega (arith, t, used))
]

claimed_once : (g : Ground) (m : Member) (bs : List Block) (b : Block) → IsFitting g → AreWithin (g.sets m).contents.blocks bs → epoch_of_map (g.sets m).map ≡ Some g.structure.epoch → uses b bs + used_once (used_in g.structure.epoch (g.sets m)) b ≤ 1
    → used_once (used_in g.structure.epoch (claimed bs (g.sets m))) b ≡ used_once (used_in g.structure.epoch (g.sets m)) b + uses b bs
claimed_once g m bs b fits within epoch once = by (g.sets m).map refl
  where
    by : (o : Option KeptMap) → (g.sets m).map ≡ o → used_once (used_in g.structure.epoch (claimed bs (g.sets m))) b ≡ used_once (used_in g.structure.epoch (g.sets m)) b + uses b bs
    by None is = let e : None ≡ Some g.structure.epoch = sym (ap epoch_of_map is) ∙ epoch in absurd cc
    by (Some x) is =
        let e : Some x.epoch ≡ Some g.structure.epoch = sym (ap epoch_of_map is) ∙ epoch in
        let now : x.epoch ≡ g.structure.epoch = cc in
        let old = ap (λ l. used_once l b) (used_in-now g.structure.epoch (g.sets m) x is now) in
        let new = ap (λ l. used_once l b) (used_in-now g.structure.epoch (claimed bs (g.sets m)) (record x { used = marked true bs x.used }) (ap (claimed_in bs) is) now) in
        let c = used-marked bs x.used b (omega (arith, once, old)) (λ used.
        let inside = within_one (g.sets m).contents.blocks bs b within used in
        let kept = fits.kept m (omega (arith, inside)) in
        let size : length x.used ≡ (g.sets m).contents.blocks = subst (λ o. IfSome o (λ (y : KeptMap). length y.used ≡ (g.sets m).contents.blocks)) is kept.map in
        omega (arith, inside, size)) in
        omega (arith, old, new, c)

pub starter_claims : (w : Starter) (g : Ground) (place : ℕ) (e : Entry) (blocks : List Block) (n : ℕ) → IsFitting g → Laws g → FitsStart w g → w.place ≡ Some place → find (is_above (record { number = place })) g.structure.entries ≡ Some e → e.place ≡ Offloaded w.owner blocks n
    → FitsStart (record w { place = Some e.id.number }) (with_set w.owner (claimed blocks (g.sets w.owner)) g)
starter_claims w g place e blocks n fits laws fit is found at =
    starter_at (record w { place = Some e.id.number }) g (claimed blocks (g.sets w.owner)) fit.down (claimed_epoch (g.sets w.owner).map ∙ fit.map) fit.past
    (λ act now b.
    let old = fit.made act now b in
    let p = place_changed w g place None b is in
    let walk = walked place w.owner b g.structure.entries e laws.fresh.ordered found in
    let l = ap (lists w.owner b) at ∙ lists-own w.owner b blocks n in
    let all = to_all (Some e.id.number) w.owner b g.structure.entries in
    let one = apart g w.owner b laws in
    let within : FitsPlace g.sets (Offloaded w.owner blocks n) = subst (FitsPlace g.sets) at (all-find (λ (y : Entry). FitsPlace g.sets y.place) (is_above (record { number = place })) g.structure.entries e fits.places found) in
    let c = claimed_once g w.owner blocks b fits within.0 (fit.map ∙ now) (omega (arith, old, p, walk, l, all, one)) in
    omega (arith, old, p, walk, l, c))
    fit.gone fit.opened fit.reads fit.shut
  where
    claimed_epoch : (o : Option KeptMap) → epoch_of_map (claimed_in blocks o) ≡ epoch_of_map o
    claimed_epoch None = refl
    claimed_epoch (Some x) = refl

unowned_none : (m : Member) (b : Block) (place : Place) → is_owned m place ≡ false → lists m b place ≡ 0
unowned_none m b (Inline body) is = refl
unowned_none m b (Offloaded owner bs n) is = ap (λ c. if c then uses b bs else 0) is

pub starter_passes : (w : Starter) (g : Ground) (place : ℕ) (e : Entry) → Laws g → FitsStart w g → w.place ≡ Some place → find (is_above (record { number = place })) g.structure.entries ≡ Some e → is_owned w.owner e.place ≡ false
    → FitsStart (record w { place = Some e.id.number }) g
starter_passes w g place e laws fit is found other = record {
  down = fit.down;
  map = fit.map;
  past = fit.past;
  made = λ act now b.
      let old = fit.made act now b in
      let p = place_changed w g place None b is in
      let walk = walked place w.owner b g.structure.entries e laws.fresh.ordered found in
      let z = unowned_none w.owner b e.place other in
      omega (arith, old, p, walk, z);
  gone = fit.gone;
  opened = fit.opened;
  reads = fit.reads;
  shut = fit.shut;
}

-- where no entry is above the place
ended_to : (place : ℕ) (m : Member) (b : Block) (es : List Entry) → AllByRecursion (λ (x : Entry). is_above (record { number = place }) x ≡ false) es → tally (lists_to (Some place) m b) es ≡ tally (lists_to None m b) es
ended_to place m b [] all = refl
ended_to place m b (x ∷ es) all = let r = ended_to place m b es all.1 in let h = lists_in place m b x (lt_false place x.id.number all.0) in omega (arith, r, h)

pub starter_ends : (w : Starter) (g : Ground) (place : ℕ) → FitsStart w g → w.place ≡ Some place → find (is_above (record { number = place })) g.structure.entries ≡ None → FitsStart (record w { place = None }) g
starter_ends w g place fit is none = record {
  down = fit.down;
  map = fit.map;
  past = fit.past;
  made = λ act now b. fit.made act now b ∙ place_changed w g place None b is ∙ ended_to place w.owner b g.structure.entries (find-none (is_above (record { number = place })) g.structure.entries none);
  gone = fit.gone;
  opened = fit.opened;
  reads = fit.reads;
  shut = fit.shut;
}

pub starter_loses : (w : Starter) (g : Ground) → FitsStart w g → (is_active g.structure.state ≡ true → w.epoch ≢ Some g.structure.epoch) → FitsStart (record w { place = None }) g
starter_loses w g fit lost = record { down = fit.down; map = fit.map; past = fit.past; made = λ act now b. absurd (lost act now); gone = fit.gone; opened = fit.opened; reads = fit.reads; shut = fit.shut }

-- ---- the gate is shut

drop_beyond : (n m : ℕ) (xs : List Byte) → n ≤ m → drop m xs ≡ drop (m - n) (drop n xs)
drop_beyond n m xs low = sym (drop-drop (m - n) n xs ∙ ap (λ k. drop k xs) (omega arith))

-- nothing changes behind the header
pub header_beside : (at n : ℕ) (old new : List Byte) → at + n ≤ 4096 → Beside at n old new → Beside 0 4096 old new
header_beside at n old new within beside = record {
  before = refl;
  after = drop_beyond (at + n) 4096 new within ∙ ap (drop (4096 - (at + n))) beside.after ∙ sym (drop_beyond (at + n) 4096 old within);
  same_length = beside.same_length;
}

unshut : (bytes : List Byte) → gate_value bytes ≢ 0 → IsShut bytes → ⊥
unshut [] differ shut = absurd cc
unshut (x ∷ bytes) differ shut = let e : x ≡ safe_byte 0 = cc in differ (ap (λ (y : Byte). y.value) e)

pub starter_may : (w : Starter) (g : Ground) (result : Result (Unit {0}) Failed) (set : KeptSet) → Laws g → FitsStart w g → IsThere (g.sets w.owner) → w.shuts ≡ 0 → IsStorageSame (g.sets w.owner) set
    → ShutStep 1 result (g.sets w.owner).contents.bytes set.contents.bytes → MaySave g w.owner set
starter_may w g result set laws fit there none same step = record {
  down = fit.down;
  there = there;
  same = same;
  beside = λ tells. header_beside 0 1 (g.sets w.owner).contents.bytes set.contents.bytes (omega arith) step.beside;
  header = λ told. by (header_down w.owner (g.sets w.owner).contents g.structure (g.posts w.owner).up (laws.headers w.owner there));
}
  where
    by : IsHeader false w.owner (g.sets w.owner).contents g.structure → IsHeader false w.owner set.contents g.structure
    by (inl shut) = absurd (unshut (g.sets w.owner).contents.bytes (fit.opened none) shut)
    by (inr opened) = inr (record { epoch = opened.epoch; used = opened.used; size = opened.size ∙ sym same.contents.blocks; ready = shutting-ready 1 opened.epoch opened.used result (g.sets w.owner).contents.bytes set.contents.bytes step opened.ready; is_true = opened.is_true })

-- the law of a START after a call on its header
header_starter : (w : Starter) (g : Ground) (set : KeptSet) (shuts : ℕ) → IsStorageSame (g.sets w.owner) set → FitsStart w g
    → (shuts ≡ 0 → gate_value set.contents.bytes ≢ 0) → (1 ≤ shuts → values (gate_of set.contents.bytes) ≡ 0 ∷ []) → (2 ≤ shuts → IsShut set.contents.bytes) → FitsStart (record w { shuts = shuts }) (with_set w.owner set g)
header_starter w g set shuts same fit opened reads shut =
    starter_at (record w { shuts = shuts }) g set fit.down (ap epoch_of_map same.map ∙ fit.map) fit.past
    (λ act now b. ap (λ l. used_once l b) (used_in-same g.structure.epoch (g.sets w.owner) set same.map same.contents.blocks) ∙ fit.made act now b)
    fit.gone opened reads shut

pub starter_writes : (w : Starter) (g : Ground) (one : Unit {0}) (set : KeptSet) → FitsStart w g → IsStorageSame (g.sets w.owner) set → ShutStep {E = Failed} 1 (Ok one) (g.sets w.owner).contents.bytes set.contents.bytes
    → FitsStart (record w { shuts = 1 }) (with_set w.owner set g)
starter_writes w g one set fit same step = header_starter w g set 1 same fit (λ none. absurd (omega (arith, none))) (λ some. ap values step.written ∙ values-written (0 ∷ [])) (λ two. absurd (omega (arith, two)))

synced_gate : (old new : List Byte) → new ≡ map synced old → values (gate_of old) ≡ 0 ∷ [] → IsShut new
synced_gate [] new is reads = absurd cc
synced_gate (x ∷ old) new is reads = let v : x.value ≡ 0 = cc in ap gate_of is ∙ ap (λ n. safe_byte n ∷ []) v

pub starter_syncs : (w : Starter) (g : Ground) (one : Unit {0}) (set : KeptSet) → FitsStart w g → w.shuts ≡ 1 → IsStorageSame (g.sets w.owner) set → ShutStep {E = Failed} 2 (Ok one) (g.sets w.owner).contents.bytes set.contents.bytes
    → FitsStart (record w { shuts = 2 }) (with_set w.owner set g)
starter_syncs w g one set fit is same step =
    let shut = synced_gate (g.sets w.owner).contents.bytes set.contents.bytes step.synced (fit.reads (omega (arith, is))) in
    header_starter w g set 2 same fit (λ none. absurd (omega (arith, none))) (λ some. ap values shut) (λ two. shut)

-- ---- it is ready

pub starter_ready : (w : Starter) (g : Ground) → FitsStart w g → w.shuts ≡ 2 → w.place ≡ None → IsMade w.owner (g.sets w.owner) g.structure
starter_ready w g fit two all = record {
  past = by_map (g.sets w.owner).map refl;
  made = λ act b. by act b (g.sets w.owner).map refl;
  shut = fit.shut (omega (arith, two));
}
  where
    by_map : (o : Option KeptMap) → (g.sets w.owner).map ≡ o → IfSome (g.sets w.owner).map (λ (x : KeptMap). IsPast (is_active g.structure.state) g.structure.epoch x.epoch)
    by_map None is = subst (λ o. IfSome o (λ (x : KeptMap). IsPast (is_active g.structure.state) g.structure.epoch x.epoch)) (sym is) tt
    by_map (Some x) is = subst (λ o. IfSome o (λ (y : KeptMap). IsPast (is_active g.structure.state) g.structure.epoch y.epoch)) (sym is)
        (subst (λ o. IfSome o (IsPast (is_active g.structure.state) g.structure.epoch)) (sym fit.map ∙ ap epoch_of_map is) fit.past)

    none_epoch : (n : ℕ) → w.epoch ≡ None → w.epoch ≡ Some n → ⊥
    none_epoch n is now = let e : None ≡ Some n = sym is ∙ now in cc

    other_epoch : (x n : ℕ) → x ≢ n → w.epoch ≡ Some x → w.epoch ≡ Some n → ⊥
    other_epoch x n differ is now = let e : Some x ≡ Some n = sym is ∙ now in differ cc

    by : is_active g.structure.state ≡ true → (b : Block) → (o : Option KeptMap) → (g.sets w.owner).map ≡ o → used_once (used_in g.structure.epoch (g.sets w.owner)) b ≡ listed w.owner b g.structure.entries
    by act b None is = used_in-none g.structure.epoch (g.sets w.owner) b is ∙ sym (fit.gone act (none_epoch g.structure.epoch (sym fit.map ∙ ap epoch_of_map is)) b)
    by act b (Some x) is = elim (cases_eq x.epoch g.structure.epoch) [
      | inl same ↦
          fit.made act (sym fit.map ∙ ap epoch_of_map is ∙ ap (λ n. Some n) same) b ∙ ap (λ o. tally (lists_to o w.owner b) g.structure.entries) all
      | inr differ ↦
          used_in-old g.structure.epoch (g.sets w.owner) b (subst (λ o. IfSome o (λ (y : KeptMap). y.epoch ≢ g.structure.epoch)) (sym is) differ)
          ∙ sym (fit.gone act (other_epoch x.epoch g.structure.epoch differ (sym fit.map ∙ ap epoch_of_map is)) b)
    ]
