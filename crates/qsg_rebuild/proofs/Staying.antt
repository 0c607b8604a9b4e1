-- what the actions of others leave of a member that is down
use Rattle.std.proofs.Common.{◌≡◌, ℕ, ◌<◌, ◌≤◌, Bool, true, false, List, Option, Some, None, inl, inr, refl, sym, ap, subst, ◌∙◌, arith, max}
use Rattle.std.proofs.lemmas.Bool.{true≢false}
use Rattle.std.specs.Prelude.{if◌then◌else◌, ◌==◌, ◌&&◌}
use Rattle.qsg_num.specs.declared.seats.Member.{Member}
use Rattle.qsg_num.specs.declared.ids.Block.{Block}
use Rattle.qsg_num.specs.Seats.{member_number}
use Rattle.qsg_disk.specs.Byte.{Byte, values, part, EachPair, IsKeptOrSynced}
use Rattle.qsg_disk.proofs.Parts.{values_kept, zipped_part}
use Rattle.qsg_space.specs.Spaces.{marked}
use Rattle.qsg_lists.specs.declared.parts.State.{State}
use Rattle.qsg_lists.specs.declared.parts.State.TheVariants.{Active, Failed, InRecover}
use Rattle.qsg_lists.specs.Structures.{is_active}
use Rattle.qsg_dataset.specs.Contents.{gate_of}
use Rattle.qsg_group.proofs.Tables.{change-same, change-other, cases_member, same_member}
use Rattle.qsg_datasets.specs.declared.member_data_set.KeptMap.{KeptMap}
use Rattle.qsg_datasets.specs.Kept.{KeptSet, hand_of, with_hand, taken, given_back, freed, freed_in}
use Rattle.qsg_blocks.specs.State.{Ground, Post, AreTold, stands}
use Rattle.qsg_blocks.specs.Laws.{IsPast}
use Rattle.qsg_blocks.specs.Changes.{Change, with_set, with_post, ended, next, begun_set, without_map}
use Rattle.qsg_blocks.specs.Changes.Change.{Takes, GivesBack, Writes, Syncs, Reads, PutsOutside, Forgets, Crashes, Stops, Maps, Saves, Starts, Loses, Begins, RestoresOutside, Ends, Abandons}
use Rattle.qsg_blocks.specs.Works.{IsOtherMembers, epoch_of_map}

-- ---- another member

differ_up : (g : Ground) (m k : Member) → (g.posts k).up ≡ true → (g.posts m).up ≡ false → member_number m ≡ member_number k → ⊥
differ_up g m k up down same = let there : (g.posts m).up ≡ true = subst (λ (x : Member). (g.posts x).up ≡ true) (sym (same_member m k same)) up in true≢false (sym there ∙ down)

differ_member : (m k : Member) → (m ≡ k → ⊥) → member_number m ≡ member_number k → ⊥
differ_member m k differ same = differ (same_member m k same)

right_of : (a b : Bool) → (a && b) ≡ true → b ≡ true
right_of true b both = both
right_of false b both = absurd cc

left_of : (a b : Bool) → (a && b) ≡ true → a ≡ true
left_of true b both = refl
left_of false b both = absurd cc

-- a member that may write entries is up
stands_up : (state : State) (m : Member) (post : Post) → stands state m post ≡ true → post.up ≡ true
stands_up Active m post is = is
stands_up Failed m post is = absurd cc
stands_up (InRecover by i) m post is = left_of post.up (post.incarnation == i.number) (right_of (member_number by == member_number m) (post.up && (post.incarnation == i.number)) is)

-- what stands at one member's place, where another one's was put
look_other : {A : Type 0} (look : KeptSet → A) (m k : Member) (set : KeptSet) (g : Ground) → (member_number m ≡ member_number k → ⊥) → look ((with_set k set g).sets m) ≡ look (g.sets m)
look_other look m k set g differ = ap look (change-other member_number k (λ _. set) g.sets m differ)

-- what stands there, where what was put looks as before
look_same : {A : Type 0} (look : KeptSet → A) (m k : Member) (set : KeptSet) (g : Ground) → look set ≡ look (g.sets k) → look ((with_set k set g).sets m) ≡ look (g.sets m)
look_same look m k set g same = elim (cases_member m k) [
  | inl is ↦ subst (λ (x : Member). look ((with_set k set g).sets x) ≡ look (g.sets x)) (sym is) (ap look (change-same member_number k (λ _. set) g.sets) ∙ same)
  | inr differ ↦ look_other look m k set g differ
]

-- ---- the member stays down

down_put : (m k : Member) (post : Post) (g : Ground) → post.up ≡ false → (g.posts m).up ≡ false → ((with_post k post g).posts m).up ≡ false
down_put m k post g down was = elim (cases_member m k) [
  | inl is ↦ subst (λ (x : Member). ((with_post k post g).posts x).up ≡ false) (sym is) (ap (λ (x : Post). x.up) (change-same member_number k (λ _. post) g.posts) ∙ down)
  | inr differ ↦ ap (λ (x : Post). x.up) (change-other member_number k (λ _. post) g.posts m differ) ∙ was
]

pub down_stays : (m : Member) (g h : Ground) (c : Change g h) → IsOtherMembers m g h c → (g.posts m).up ≡ false → (h.posts m).up ≡ false
down_stays m g _ (Crashes _ k set may) other down = down_put m k (ended (g.posts k)) g refl down
down_stays m g _ (Stops _ k may) other down = down_put m k (ended (g.posts k)) g refl down
down_stays m g _ (Starts _ k may) other down = ap (λ (x : Post). x.up) (change-other member_number k (λ _. next (g.posts k)) g.posts m (differ_member m k other)) ∙ down
down_stays m g _ _ other down = down

-- ---- its map is of the same epoch

freed_epoch : (epoch : ℕ) (blocks : List Block) (map : Option KeptMap) → epoch_of_map (freed_in epoch blocks map) ≡ epoch_of_map map
freed_epoch epoch blocks None = refl
freed_epoch epoch blocks (Some x) = by (x.epoch == epoch)
  where
    by : (b : Bool) → Some (if b then record x { used = marked false blocks x.used } else x).epoch ≡ Some x.epoch
    by true = refl
    by false = refl

pub map_stays : (m : Member) (g h : Ground) (c : Change g h) → IsOtherMembers m g h c → (g.posts m).up ≡ false → epoch_of_map (h.sets m).map ≡ epoch_of_map (g.sets m).map
map_stays m g _ (Takes _ k t epoch n may) other down = look_other (λ (x : KeptSet). epoch_of_map x.map) m k (taken t epoch n (g.sets k)) g (differ_up g m k may.up down)
map_stays m g _ (GivesBack _ k t) other down = look_same (λ (x : KeptSet). epoch_of_map x.map) m k (given_back t (g.sets k)) g (freed_epoch (hand_of t (g.sets k)).epoch (hand_of t (g.sets k)).blocks (g.sets k).map)
map_stays m g _ (Writes _ k t block n set may) other down = look_same (λ (x : KeptSet). epoch_of_map x.map) m k set g (ap epoch_of_map may.same.map)
map_stays m g _ (Syncs _ k set may) other down = look_same (λ (x : KeptSet). epoch_of_map x.map) m k set g (ap epoch_of_map may.same.map)
map_stays m g _ (Reads _ k set may) other down = look_same (λ (x : KeptSet). epoch_of_map x.map) m k set g (ap epoch_of_map may.same.map)
map_stays m g _ (PutsOutside _ k t u head n left active may) other down = look_same (λ (x : KeptSet). epoch_of_map x.map) m k (with_hand t left (g.sets k)) g refl
map_stays m g _ (Forgets _ k e blocks n may) other down = look_same (λ (x : KeptSet). epoch_of_map x.map) m k (freed g.structure.epoch blocks (g.sets k)) g (freed_epoch g.structure.epoch blocks (g.sets k).map)
map_stays m g _ (Crashes _ k set may) other down = look_other (λ (x : KeptSet). epoch_of_map x.map) m k set g (differ_up g m k may.up down)
map_stays m g _ (Maps _ k set may) other down = look_other (λ (x : KeptSet). epoch_of_map x.map) m k set g (differ_member m k other)
map_stays m g _ (Saves _ k set may) other down = look_other (λ (x : KeptSet). epoch_of_map x.map) m k set g (differ_member m k other)
map_stays m g _ (Begins _ k i may) other down = look_other (λ (x : KeptSet). epoch_of_map x.map) m k (begun_set g k) g (differ_up g m k may.up down)
map_stays m g _ (RestoresOutside _ k t e n left restore may is) other down = look_same (λ (x : KeptSet). epoch_of_map x.map) m k (with_hand t left (g.sets k)) g refl
map_stays m g _ (Abandons _ k i may) other down = look_other (λ (x : KeptSet). epoch_of_map x.map) m k (without_map (g.sets k)) g (differ_up g m k (stands_up g.structure.state k (g.posts k) may.live) down)
map_stays m g _ _ other down = refl

-- ---- its gate reads as before

kept_gate : (old new : List Byte) → EachPair IsKeptOrSynced old new → values (gate_of new) ≡ values (gate_of old)
kept_gate old new kept = values_kept (part 0 1 old) (part 0 1 new) (zipped_part IsKeptOrSynced old new 0 1 kept)

abbrev reads_of : KeptSet → List ℕ
reads_of set = values (gate_of set.contents.bytes)

pub gate_stays : (m : Member) (g h : Ground) (c : Change g h) → IsOtherMembers m g h c → AreTold g.sets → (g.posts m).up ≡ false → values (gate_of (h.sets m).contents.bytes) ≡ values (gate_of (g.sets m).contents.bytes)
gate_stays m g _ (Takes _ k t epoch n may) other told down = look_same reads_of m k (taken t epoch n (g.sets k)) g refl
gate_stays m g _ (GivesBack _ k t) other told down = look_same reads_of m k (given_back t (g.sets k)) g refl
gate_stays m g _ (Writes _ k t block n set may) other told down = look_other reads_of m k set g (differ_up g m k may.up down)
gate_stays m g _ (Syncs _ k set may) other told down = look_same reads_of m k set g (kept_gate (g.sets k).contents.bytes set.contents.bytes (may.kept (told k may.there)))
gate_stays m g _ (Reads _ k set may) other told down = look_same reads_of m k set g (ap (λ (l : List Byte). values (gate_of l)) (may.bytes (told k may.there)))
gate_stays m g _ (PutsOutside _ k t u head n left active may) other told down = look_same reads_of m k (with_hand t left (g.sets k)) g refl
gate_stays m g _ (Forgets _ k e blocks n may) other told down = look_same reads_of m k (freed g.structure.epoch blocks (g.sets k)) g refl
gate_stays m g _ (Crashes _ k set may) other told down = look_other reads_of m k set g (differ_up g m k may.up down)
gate_stays m g _ (Maps _ k set may) other told down = look_other reads_of m k set g (differ_member m k other)
gate_stays m g _ (Saves _ k set may) other told down = look_other reads_of m k set g (differ_member m k other)
gate_stays m g _ (Begins _ k i may) other told down = look_same reads_of m k (begun_set g k) g refl
gate_stays m g _ (RestoresOutside _ k t e n left restore may is) other told down = look_same reads_of m k (with_hand t left (g.sets k)) g refl
gate_stays m g _ (Abandons _ k i may) other told down = look_same reads_of m k (without_map (g.sets k)) g refl
gate_stays m g _ _ other told down = refl

-- ---- an epoch that was told is past, or the present one of an active structure

past_active : (b : Bool) (n epoch : ℕ) → b ≡ true → IsPast b n epoch → epoch ≤ n
past_active true n epoch is past = past
past_active false n epoch is past = absurd cc

past_other : (b : Bool) (n epoch : ℕ) → b ≡ false → IsPast b n epoch → epoch < n
past_other true n epoch is past = absurd cc
past_other false n epoch is past = past

below_max : (n floor epoch : ℕ) → epoch < n → epoch ≤ max n floor
below_max n floor epoch low = omega (arith, low)

pub past_stays : (epoch : ℕ) (g h : Ground) → Change g h → IsPast (is_active g.structure.state) g.structure.epoch epoch → IsPast (is_active h.structure.state) h.structure.epoch epoch
past_stays epoch g _ (Loses _ may) past = let low = past_active (is_active g.structure.state) g.structure.epoch epoch may.active past in omega (arith, low)
past_stays epoch g _ (Begins _ k i may) past = past_other (is_active g.structure.state) g.structure.epoch epoch may.inactive past
past_stays epoch g _ (Ends _ k i floor may) past = below_max g.structure.epoch floor epoch (past_other (is_active g.structure.state) g.structure.epoch epoch (ap is_active may.by) past)
past_stays epoch g _ (Abandons _ k i may) past = past_other (is_active g.structure.state) g.structure.epoch epoch (ap is_active may.by) past
past_stays epoch g _ _ past = past

-- a structure that stays active stays in its epoch
pub active_epoch : (g h : Ground) → Change g h → is_active g.structure.state ≡ true → is_active h.structure.state ≡ true → h.structure.epoch ≡ g.structure.epoch
active_epoch g _ (Loses _ may) one two = absurd cc
active_epoch g _ (Begins _ k i may) one two = absurd cc
active_epoch g _ (Ends _ k i floor may) one two = absurd (true≢false (sym one ∙ ap is_active may.by))
active_epoch g _ (Abandons _ k i may) one two = absurd cc
active_epoch g _ _ one two = refl
