-- blocks stay in range, over every device
use Rattle.std.proofs.Common.{◌≡◌, ℕ, zero, suc, ◌+◌, ◌<◌, ◌≤◌, Bool, true, false, List, [], ◌∷◌, Option, Some, None, refl, sym, ap, ◌∙◌, arith, length, inl, inr, subst, take}
use Rattle.std.specs.Prelude.{IfSome, replicate, ◌==◌, if◌then◌else◌, ◌⊎◌}
use Rattle.std.specs.List.{cons_option, AllByRecursion}
use Rattle.std.proofs.lemmas.List.{length-set, length-replicate}
use Rattle.std.proofs.lemmas.Bool.{cases_eq}
use Rattle.qsg_num.specs.declared.seats.Member.{Member}
use Rattle.qsg_num.specs.declared.seats.TaskNo.{TaskNo}
use Rattle.qsg_num.specs.declared.seats.TaskNo.TheVariants as numbers
use Rattle.qsg_num.specs.declared.ids.Block.{Block}
use Rattle.qsg_num.specs.declared.ids.EntryId.{EntryId}
use Rattle.qsg_num.specs.Seats.{member_number, task_number}
use Rattle.qsg_lists.specs.declared.parts.Entry.{Entry}
use Rattle.qsg_lists.specs.declared.parts.Place.{Place}
use Rattle.qsg_lists.specs.declared.parts.Place.TheVariants.{Inline, Offloaded}
use Rattle.qsg_lists.specs.Entries.{revise}
use Rattle.qsg_lists.specs.Structures.{ListStructure}
use Rattle.qsg_lists.specs.Settling.{deleted}
use Rattle.qsg_lists.proofs.Lookups.{revise-head, revise-tail}
use Rattle.qsg_lists.proofs.Appending.{all_push}
use Rattle.qsg_space.specs.Spaces.{marked, free_from, free_blocks}
use Rattle.qsg_space.proofs.Marking.{length-marked}
use Rattle.qsg_dataset.specs.Contents.{Contents, IsSame}
use Rattle.qsg_datasets.specs.declared.member_data_set.Hand.{Hand}
use Rattle.qsg_datasets.specs.declared.member_data_set.KeptMap.{KeptMap}
use Rattle.qsg_datasets.specs.Kept.{KeptSet, IsKept, no_hand, used_by, used_in, hand_of, with_hand, given, taken, given_back, freed_in, freed}
use Rattle.qsg_datasets.specs.Calls.{IsStorageSame, IsCut}
use Rattle.qsg_group.specs.Tables.{at_member}
use Rattle.qsg_group.proofs.Tables.{change-same, change-other, every_member}
use Rattle.qsg_blocks.specs.State.{Post, Ground, IsThere, AreTold, blocks_for}
use Rattle.qsg_blocks.specs.Laws.{AreWithin, FitsPlace, AreAlike, AreBlank, IsFitting}
use Rattle.qsg_blocks.specs.Changes.{with_structure, with_set, with_post, begun_set, without_map, blocks_of, handed_over, KeepsPlaces, MayList, Change}
use Rattle.qsg_blocks.specs.Changes.Change.{Rests, Takes, GivesBack, Writes, Syncs, Reads, PutsInside, PutsOutside, Revises, Forgets, Crashes, Stops, Maps, Saves, Starts, Loses, Begins, RestoresInside, RestoresOutside, Ends, Abandons}
use Rattle.qsg_blocks.proofs.Counting.{hands-mono, hands-set, hands-at}

-- ---- tables

pub set_at : (m : Member) (set : KeptSet) (sets : Member → KeptSet) → at_member m (λ _. set) sets m ≡ set
set_at m set sets = change-same member_number m (λ _. set) sets

pub set_other : (m : Member) (set : KeptSet) (sets : Member → KeptSet) (k : Member) → (member_number k ≡ member_number m → ⊥) → at_member m (λ _. set) sets k ≡ sets k
set_other m set sets k differ = change-other member_number m (λ _. set) sets k differ

pub post_at : (m : Member) (post : Post) (posts : Member → Post) → at_member m (λ _. post) posts m ≡ post
post_at m post posts = change-same member_number m (λ _. post) posts

pub post_other : (m : Member) (post : Post) (posts : Member → Post) (k : Member) → (member_number k ≡ member_number m → ⊥) → at_member m (λ _. post) posts k ≡ posts k
post_other m post posts k differ = change-other member_number m (λ _. post) posts k differ

pub task_within : (t : TaskNo) → task_number t < 5
task_within numbers.System = omega arith
task_within numbers.One = omega arith
task_within numbers.Two = omega arith
task_within numbers.Three = omega arith
task_within numbers.Four = omega arith

-- ---- sizes

pub same_sizes : (a b : KeptSet) → IsSame a.contents b.contents → AreAlike b a
same_sizes a b same = record { block_size = same.block_size; blocks = same.blocks }

pub alike_refl : (a : KeptSet) → AreAlike a a
alike_refl a = record { block_size = refl; blocks = refl }

alike_sym : (a b : KeptSet) → AreAlike a b → AreAlike b a
alike_sym a b same = record { block_size = sym same.block_size; blocks = sym same.blocks }

alike_trans : (a b c : KeptSet) → AreAlike a b → AreAlike b c → AreAlike a c
alike_trans a b c p q = record { block_size = p.block_size ∙ q.block_size; blocks = p.blocks ∙ q.blocks }

there_alike : (a b : KeptSet) → AreAlike b a → IsThere b → IsThere a
there_alike a b same there = subst (λ n. 1 ≤ n) same.blocks there

-- a data set of these sizes, with five hands and a map of as many blocks
pub kept_by : (a b : KeptSet) → AreAlike b a → length b.hands ≡ 5 → IfSome b.map (λ (x : KeptMap). length x.used ≡ a.contents.blocks) → IsKept a → IsKept b
kept_by a b same five map kept = record {
  sized = record {
    some_bytes = subst (λ n. 1 ≤ n) (sym same.block_size) kept.sized.some_bytes;
    some_blocks = subst (λ n. 1 ≤ n) (sym same.blocks) kept.sized.some_blocks;
    most_blocks = subst (λ n. n ≤ 8192) (sym same.blocks) kept.sized.most_blocks;
    exact = refl;
  };
  five = five;
  map = subst (λ n. IfSome b.map (λ (x : KeptMap). length x.used ≡ n)) (sym same.blocks) map;
}

pub length-used : (epoch : ℕ) (set : KeptSet) → IsKept set → length (used_in epoch set) ≡ set.contents.blocks
length-used epoch set kept = by set.map kept.map
  where
    pick : (x : KeptMap) (c : Bool) → length x.used ≡ set.contents.blocks → length (if c then x.used else replicate set.contents.blocks false) ≡ set.contents.blocks
    pick x true own = own
    pick x false own = length-replicate set.contents.blocks false

    by : (map : Option KeptMap) → IfSome map (λ (x : KeptMap). length x.used ≡ set.contents.blocks) → length (used_by epoch set.contents.blocks map) ≡ set.contents.blocks
    by None sized = length-replicate set.contents.blocks false
    by (Some x) sized = pick x (x.epoch == epoch) sized

length-freed_in : (epoch n : ℕ) (bs : List Block) (map : Option KeptMap) → IfSome map (λ (x : KeptMap). length x.used ≡ n) → IfSome (freed_in epoch bs map) (λ (x : KeptMap). length x.used ≡ n)
length-freed_in epoch n bs None sized = tt
length-freed_in epoch n bs (Some x) sized = by (x.epoch == epoch)
  where
    by : (c : Bool) → length (if c then record x { used = marked false bs x.used } else x).used ≡ n
    by true = length-marked false bs x.used ∙ sized
    by false = sized

length-hand : (t : TaskNo) (hand : Hand) (set : KeptSet) → length (with_hand t hand set).hands ≡ length set.hands
length-hand t hand set = length-set set.hands (task_number t) hand

-- ---- blocks in range

within_mono : (n : ℕ) (k : ℕ) (used : List Bool) → k + length used ≤ n → AreWithin n (free_from k used)
within_mono n k [] fits = tt
within_mono n k (true ∷ used) fits = within_mono n (k + 1) used (omega arith)
within_mono n k (false ∷ used) fits = (omega arith, within_mono n (k + 1) used (omega arith))

within_take : (n k : ℕ) (bs : List Block) → AreWithin n bs → AreWithin n (take k bs)
within_take n zero bs all = tt
within_take n (suc k) [] all = tt
within_take n (suc k) (b ∷ bs) all = (all.0, within_take n k bs all.1)

given_within : (epoch n : ℕ) (set : KeptSet) → IsKept set → AreWithin set.contents.blocks (given epoch n set)
given_within epoch n set kept = let l = length-used epoch set kept in within_take set.contents.blocks n (free_blocks (used_in epoch set)) (within_mono set.contents.blocks 0 (used_in epoch set) (omega (arith, l)))

abbrev HandsWithin : ℕ → List Hand → Type 0
HandsWithin n hands = AllByRecursion (λ (h : Hand). AreWithin n h.blocks) hands

blank_within : (n : ℕ) (hand : Hand) → hand.blocks ≡ [] → AreWithin n hand.blocks
blank_within n hand blank = subst (AreWithin n) (sym blank) tt

blanks_within : (n : ℕ) (hands : List Hand) → AreBlank hands → HandsWithin n hands
blanks_within n hands blank = hands-mono (λ (h : Hand). h.blocks ≡ []) (λ (h : Hand). AreWithin n h.blocks) (blank_within n) hands blank

-- ---- places

fits_place : (sets new : Member → KeptSet) → ((k : Member) → AreAlike (new k) (sets k)) → (place : Place) → FitsPlace sets place → FitsPlace new place
fits_place sets new same (Inline body) fits = tt
fits_place sets new same (Offloaded owner bs n) fits =
    (subst (λ most. AreWithin most bs) (sym (same owner).blocks) fits.0, subst (λ size. length bs ≡ blocks_for size n) (sym (same owner).block_size) fits.1)

fits_places : (sets new : Member → KeptSet) → ((k : Member) → AreAlike (new k) (sets k)) → (es : List Entry) → AllByRecursion (λ (e : Entry). FitsPlace sets e.place) es → AllByRecursion (λ (e : Entry). FitsPlace new e.place) es
fits_places sets new same [] fits = tt
fits_places sets new same (e ∷ es) fits = (fits_place sets new same e.place fits.0, fits_places sets new same es fits.1)

-- what is left of an entry keeps its place
abbrev pub StaysPut : (Entry → Option Entry) → Type 0
StaysPut f = (e x : Entry) → f e ≡ Some x → x.place ≡ e.place

pub stays_put : (f : Entry → Option Entry) → KeepsPlaces f → StaysPut f
stays_put f keeps e x is = ap (λ (y : Entry). y.place) (keeps.stays e x is)

pub deleted_put : StaysPut deleted
deleted_put e x is = absurd cc

pub places-revise : (P : Place → Type 0) (id : EntryId) (f : Entry → Option Entry) → StaysPut f → (es : List Entry) → AllByRecursion (λ (e : Entry). P e.place) es → AllByRecursion (λ (e : Entry). P e.place) (revise id f es)
places-revise P id f put [] all = tt
places-revise P id f put (e ∷ es) all = elim (cases_eq e.id.number id.number) [
  | inl same ↦ subst (AllByRecursion (λ (x : Entry). P x.place)) (sym (revise-head id f e es same)) (left (f e) refl)
  | inr differ ↦ subst (AllByRecursion (λ (x : Entry). P x.place)) (sym (revise-tail id f e es differ)) (all.0, places-revise P id f put es all.1)
]
  where
    left : (o : Option Entry) → f e ≡ o → AllByRecursion (λ (x : Entry). P x.place) (cons_option o es)
    left None is = all.1
    left (Some y) is = (subst P (sym (put e y is)) all.0, all.1)

-- ---- fitting

pub fits_set : (g : Ground) (m : Member) (set : KeptSet) → AreAlike set (g.sets m) → (IsKept (g.sets m) → IsKept set) → HandsWithin (g.sets m).contents.blocks set.hands → IsFitting g → IsFitting (with_set m set g)
fits_set g m set same kept hands fits =
    let sizes : (k : Member) → AreAlike (at_member m (λ _. set) g.sets k) (g.sets k) = every_member (λ k x. AreAlike x (g.sets k)) m (λ _. set) g.sets same (λ k differ. alike_refl (g.sets k)) in
    record {
      there = every_member (λ k x. (g.posts k).up ≡ true → IsThere x) m (λ _. set) g.sets (λ up. there_alike set (g.sets m) (alike_sym set (g.sets m) same) (fits.there m up)) (λ k differ. fits.there k);
      kept = every_member (λ k x. IsThere x → IsKept x) m (λ _. set) g.sets (λ there. kept (fits.kept m (there_alike (g.sets m) set same there))) (λ k differ. fits.kept k);
      alike = λ a b here there. alike_trans _ (g.sets a) _ (sizes a) (alike_trans (g.sets a) (g.sets b) _ (fits.alike a b (there_alike (g.sets a) _ (sizes a) here) (there_alike (g.sets b) _ (sizes b) there)) (alike_sym _ (g.sets b) (sizes b)));
      hands = every_member (λ k x. HandsWithin x.contents.blocks x.hands) m (λ _. set) g.sets (subst (λ n. HandsWithin n set.hands) (sym same.blocks) hands) (λ k differ. fits.hands k);
      places = fits_places g.sets (at_member m (λ _. set) g.sets) sizes g.structure.entries fits.places;
    }

pub fits_structure : (g : Ground) (s : ListStructure) → AllByRecursion (λ (e : Entry). FitsPlace g.sets e.place) s.entries → IsFitting g → IsFitting (with_structure s g)
fits_structure g s places fits = record { there = fits.there; kept = fits.kept; alike = fits.alike; hands = fits.hands; places = places }

pub fits_post : (g : Ground) (m : Member) (post : Post) → (post.up ≡ true → IsThere (g.sets m)) → IsFitting g → IsFitting (with_post m post g)
fits_post g m post there fits = record {
  there = every_member (λ k (x : Post). x.up ≡ true → IsThere (g.sets k)) m (λ _. post) g.posts there (λ k differ. fits.there k);
  kept = fits.kept;
  alike = fits.alike;
  hands = fits.hands;
  places = fits.places;
}

-- calls that keep the storage
fits_storage : (g : Ground) (m : Member) (set : KeptSet) → IsStorageSame (g.sets m) set → IsFitting g → IsFitting (with_set m set g)
fits_storage g m set same fits = fits_set g m set (same_sizes (g.sets m) set same.contents)
    (λ kept. kept_by (g.sets m) set (same_sizes (g.sets m) set same.contents) (ap length same.hands ∙ kept.five) (subst (λ o. IfSome o (λ (x : KeptMap). length x.used ≡ (g.sets m).contents.blocks)) (sym same.map) kept.map) kept)
    (subst (HandsWithin (g.sets m).contents.blocks) (sym same.hands) (fits.hands m)) fits

fits_taken : (g : Ground) (m : Member) (t : TaskNo) (epoch n : ℕ) → IsThere (g.sets m) → IsFitting g → IsFitting (with_set m (taken t epoch n (g.sets m)) g)
fits_taken g m t epoch n there fits = fits_set g m (taken t epoch n (g.sets m)) (record { block_size = refl; blocks = refl })
    (λ kept. kept_by (g.sets m) (taken t epoch n (g.sets m)) (record { block_size = refl; blocks = refl })
    (length-set (g.sets m).hands (task_number t) (record { epoch = epoch; blocks = given epoch n (g.sets m) }) ∙ kept.five)
    (length-marked true (given epoch n (g.sets m)) (used_in epoch (g.sets m)) ∙ length-used epoch (g.sets m) kept) kept)
    (hands-set (λ (h : Hand). AreWithin (g.sets m).contents.blocks h.blocks) (g.sets m).hands (task_number t) (record { epoch = epoch; blocks = given epoch n (g.sets m) }) (given_within epoch n (g.sets m) (fits.kept m there)) (fits.hands m))
    fits

pub fits_freed : (g : Ground) (m : Member) (epoch : ℕ) (bs : List Block) → IsFitting g → IsFitting (with_set m (freed epoch bs (g.sets m)) g)
fits_freed g m epoch bs fits = fits_set g m (freed epoch bs (g.sets m)) (record { block_size = refl; blocks = refl })
    (λ kept. kept_by (g.sets m) (freed epoch bs (g.sets m)) (record { block_size = refl; blocks = refl }) kept.five (length-freed_in epoch (g.sets m).contents.blocks bs (g.sets m).map kept.map) kept)
    (fits.hands m) fits

fits_given_back : (g : Ground) (m : Member) (t : TaskNo) → IsFitting g → IsFitting (with_set m (given_back t (g.sets m)) g)
fits_given_back g m t fits = fits_set g m (given_back t (g.sets m)) (record { block_size = refl; blocks = refl })
    (λ kept. kept_by (g.sets m) (given_back t (g.sets m)) (record { block_size = refl; blocks = refl }) (length-set (g.sets m).hands (task_number t) no_hand ∙ kept.five)
    (length-freed_in (hand_of t (g.sets m)).epoch (g.sets m).contents.blocks (hand_of t (g.sets m)).blocks (g.sets m).map kept.map) kept)
    (hands-set (λ (h : Hand). AreWithin (g.sets m).contents.blocks h.blocks) (g.sets m).hands (task_number t) no_hand tt (fits.hands m))
    fits

pub fits_handed : (g : Ground) (m : Member) (t : TaskNo) (left : Hand) → left.blocks ≡ [] → IsFitting g → IsFitting (handed_over m t left g)
fits_handed g m t left blank fits = fits_set g m (with_hand t left (g.sets m)) (record { block_size = refl; blocks = refl })
    (λ kept. kept_by (g.sets m) (with_hand t left (g.sets m)) (record { block_size = refl; blocks = refl }) (length-hand t left (g.sets m) ∙ kept.five) kept.map kept)
    (hands-set (λ (h : Hand). AreWithin (g.sets m).contents.blocks h.blocks) (g.sets m).hands (task_number t) left (blank_within (g.sets m).contents.blocks left blank) (fits.hands m))
    fits

-- the place that an entry of a hand's blocks has
pub fits_listed : (g : Ground) (m : Member) (t : TaskNo) (n : ℕ) (left : Hand) → MayList g m t n left → IsFitting g → FitsPlace (handed_over m t left g).sets (Offloaded m (blocks_of m t g) n)
fits_listed g m t n left may fits =
    let same = set_at m (with_hand t left (g.sets m)) g.sets in (
      subst (λ (x : KeptSet). AreWithin x.contents.blocks (blocks_of m t g)) (sym same) (hands-at (λ (h : Hand). AreWithin (g.sets m).contents.blocks h.blocks) (g.sets m).hands (task_number t) no_hand tt (fits.hands m)),
      subst (λ (x : KeptSet). length (blocks_of m t g) ≡ blocks_for x.contents.block_size n) (sym same) may.enough,
    )

fits_cut : (g : Ground) (m : Member) (set : KeptSet) → IsCut (g.sets m) set → IsFitting g → IsFitting (with_set m set g)
fits_cut g m set cut fits = fits_set g m set (same_sizes (g.sets m) set cut.contents)
    (λ kept. kept_by (g.sets m) set (same_sizes (g.sets m) set cut.contents) (ap length cut.hands) (subst (λ o. IfSome o (λ (x : KeptMap). length x.used ≡ (g.sets m).contents.blocks)) (sym cut.map) tt) kept)
    (subst (HandsWithin (g.sets m).contents.blocks) (sym cut.hands) (tt, (tt, (tt, (tt, (tt, tt)))))) fits

hands_mapped : (g : Ground) (m : Member) (set : KeptSet) → (set.hands ≡ (g.sets m).hands) ⊎ AreBlank set.hands → IsFitting g → HandsWithin (g.sets m).contents.blocks set.hands
hands_mapped g m set (inl same) fits = subst (HandsWithin (g.sets m).contents.blocks) (sym same) (fits.hands m)
hands_mapped g m set (inr blank) fits = blanks_within (g.sets m).contents.blocks set.hands blank

pub fitting_stays : (g h : Ground) → Change g h → IsFitting g → IsFitting h
fitting_stays g _ (Rests _) fits = fits
fitting_stays g _ (Takes _ m t epoch n may) fits = fits_taken g m t epoch n (fits.there m may.up) fits
fitting_stays g _ (GivesBack _ m t) fits = fits_given_back g m t fits
fitting_stays g _ (Writes _ m t block n set may) fits = fits_storage g m set may.same fits
fitting_stays g _ (Syncs _ m set may) fits = fits_storage g m set may.same fits
fitting_stays g _ (Reads _ m set may) fits = fits_storage g m set may.same fits
fitting_stays g _ (PutsInside _ u head body active) fits = fits_structure g _ (all_push (λ (e : Entry). FitsPlace g.sets e.place) g.structure.entries _ fits.places tt) fits
fitting_stays g _ (PutsOutside _ m t u head n left active may) fits =
    let handed = fits_handed g m t left may.emptied fits in
    fits_structure (handed_over m t left g) _ (all_push (λ (e : Entry). FitsPlace (handed_over m t left g).sets e.place) g.structure.entries _ handed.places (fits_listed g m t n left may fits)) handed
fitting_stays g _ (Revises _ id f keeps) fits = fits_structure g _ (places-revise (FitsPlace g.sets) id f (stays_put f keeps) g.structure.entries fits.places) fits
fitting_stays g _ (Forgets _ m e bs n may) fits =
    let after = fits_freed g m g.structure.epoch bs fits in
    fits_structure (with_set m (freed g.structure.epoch bs (g.sets m)) g) _ (places-revise (FitsPlace (with_set m (freed g.structure.epoch bs (g.sets m)) g).sets) e.id deleted deleted_put g.structure.entries after.places) after
fitting_stays g _ (Crashes _ m set may) fits = fits_post (with_set m set g) m _ (λ up. absurd cc) (fits_cut g m set may.cut fits)
fitting_stays g _ (Stops _ m may) fits = fits_post g m _ (λ up. absurd cc) fits
fitting_stays g _ (Maps _ m set may) fits = fits_set g m set (same_sizes (g.sets m) set may.same) (λ kept. may.kept) (hands_mapped g m set may.hands fits) fits
fitting_stays g _ (Saves _ m set may) fits = fits_storage g m set may.same fits
fitting_stays g _ (Starts _ m may) fits = fits_post g m _ (λ up. may.there) fits
fitting_stays g _ (Loses _ may) fits = fits_structure g _ tt fits
fitting_stays g _ (Begins _ m i may) fits = fits_structure (with_set m (begun_set g m) g) _ tt (fits_set g m (begun_set g m) (record { block_size = refl; blocks = refl })
    (λ kept. kept_by (g.sets m) (begun_set g m) (record { block_size = refl; blocks = refl }) kept.five (length-replicate (g.sets m).contents.blocks false) kept) (fits.hands m) fits)
fitting_stays g _ (RestoresInside _ e body restore is) fits = fits_structure g _ (all_push (λ (x : Entry). FitsPlace g.sets x.place) g.structure.entries e fits.places (subst (FitsPlace g.sets) (sym is) tt)) fits
fitting_stays g _ (RestoresOutside _ m t e n left restore may is) fits =
    let handed = fits_handed g m t left may.emptied fits in
    fits_structure (handed_over m t left g) _ (all_push (λ (x : Entry). FitsPlace (handed_over m t left g).sets x.place) g.structure.entries e handed.places
    (subst (FitsPlace (handed_over m t left g).sets) (sym is) (fits_listed g m t n left may fits))) handed
fitting_stays g _ (Ends _ m i floor may) fits = fits_structure g _ fits.places fits
fitting_stays g _ (Abandons _ m i may) fits = fits_structure (with_set m (without_map (g.sets m)) g) _ tt (fits_set g m (without_map (g.sets m)) (record { block_size = refl; blocks = refl })
    (λ kept. kept_by (g.sets m) (without_map (g.sets m)) (record { block_size = refl; blocks = refl }) kept.five tt kept) (fits.hands m) fits)

-- ---- telling

told_set : (g : Ground) (m : Member) (set : KeptSet) → IsSame (g.sets m).contents set.contents → AreTold g.sets → AreTold (at_member m (λ _. set) g.sets)
told_set g m set same told = every_member (λ k x. IsThere x → x.contents.tells ≡ true) m (λ _. set) g.sets (λ there. same.tells ∙ told m (subst (λ n. 1 ≤ n) same.blocks there)) (λ k differ. told k)

same_contents : (c : Contents) → IsSame c c
same_contents c = record { tells = refl; block_size = refl; blocks = refl }

pub told_stays : (g h : Ground) → Change g h → AreTold g.sets → AreTold h.sets
told_stays g _ (Takes _ m t epoch n may) told = told_set g m _ (same_contents (g.sets m).contents) told
told_stays g _ (GivesBack _ m t) told = told_set g m _ (same_contents (g.sets m).contents) told
told_stays g _ (Writes _ m t block n set may) told = told_set g m set may.same.contents told
told_stays g _ (Syncs _ m set may) told = told_set g m set may.same.contents told
told_stays g _ (Reads _ m set may) told = told_set g m set may.same.contents told
told_stays g _ (PutsOutside _ m t u head n left active may) told = told_set g m _ (same_contents (g.sets m).contents) told
told_stays g _ (Forgets _ m e bs n may) told = told_set g m _ (same_contents (g.sets m).contents) told
told_stays g _ (Crashes _ m set may) told = told_set g m set may.cut.contents told
told_stays g _ (Maps _ m set may) told = told_set g m set may.same told
told_stays g _ (Saves _ m set may) told = told_set g m set may.same.contents told
told_stays g _ (Begins _ m i may) told = told_set g m _ (same_contents (g.sets m).contents) told
told_stays g _ (RestoresOutside _ m t e n left restore may is) told = told_set g m _ (same_contents (g.sets m).contents) told
told_stays g _ (Abandons _ m i may) told = told_set g m _ (same_contents (g.sets m).contents) told
told_stays g _ _ told = told
