-- a START and a STOP, while others act
use Rattle.std.proofs.Common.{◌≡◌, ℕ, Bool, true, false, List, [], ◌∷◌, Option, Some, None, refl, sym, ap, ◌∙◌, inl, subst, map}
use Rattle.std.specs.Prelude.{IfSome, slice_index, ◌==◌, if◌then◌else◌}
use Rattle.std.specs.List.{AllZip}
use Rattle.qsg_num.specs.declared.seats.Member.{Member}
use Rattle.qsg_num.specs.declared.ids.Block.{Block}
use Rattle.qsg_disk.specs.Byte.{Byte, values, safe_byte, part, IsKeptOrSynced}
use Rattle.qsg_disk.proofs.Parts.{zipped_part, safe_kept, values_kept}
use Rattle.qsg_lists.specs.Structures.{is_active}
use Rattle.qsg_space.specs.Spaces.{marked}
use Rattle.qsg_dataset.specs.Headers.{spelling}
use Rattle.qsg_dataset.specs.Contents.{Contents, gate_value}
use Rattle.qsg_datasets.specs.declared.member_data_set.KeptMap.{KeptMap}
use Rattle.qsg_datasets.specs.Kept.{KeptSet, used_in, hand_of, with_hand, no_hand, freed_in, freed, taken, given_back}
use Rattle.qsg_group.specs.Tables.{at_member}
use Rattle.qsg_group.proofs.Tables.{moved}
use Rattle.qsg_blocks.specs.State.{Post, Ground, AreTold, listed, used_once}
use Rattle.qsg_blocks.specs.Laws.{IsPast, IsBlank, IsEmptied, IsFitting, Laws}
use Rattle.qsg_blocks.specs.Changes.{ended, next, begun_set, without_map, Change}
use Rattle.qsg_blocks.specs.Changes.Change.{Takes, GivesBack, Writes, Syncs, Reads, PutsInside, PutsOutside, Revises, Forgets, Crashes, Stops, Maps, Saves, Starts, Loses, Begins, RestoresInside, RestoresOutside, Ends, Abandons}
use Rattle.qsg_blocks.specs.Works.{lists_to, epoch_of_map, Starter, FitsStart, IsOtherMembers, Stopper, IsSaving, FitsStop}
use Rattle.qsg_blocks.proofs.Counting.{hands-at}
use Rattle.qsg_blocks.proofs.Standing.{stands-up, down_blank, used_in-same}
use Rattle.qsg_blocks.proofs.Writing.{sizes_stay}
use Rattle.qsg_blocks.proofs.Down.{shares_to, share_stays, listed_stays, up_differ, unrecovered, epoch_cases, true_stays}

-- ---- the member stays down, with its map

no_both : {X : Type 0} (c : Bool) → c ≡ true → c ≡ false → X
no_both c up down = absurd cc

-- a member that is up isn't one that is down
not_up : {X : Type 0} (g : Ground) (m k : Member) → (g.posts k).up ≡ true → (g.posts m).up ≡ false → m ≡ k → X
not_up g m k up down same = no_both (g.posts k).up up (ap (λ (x : Member). (g.posts x).up) (sym same) ∙ down)

post_down : (g : Ground) (m k : Member) (post : Post) → (g.posts m).up ≡ false → (m ≡ k → post.up ≡ false) → (at_member k (λ _. post) g.posts m).up ≡ false
post_down g m k post down own = moved (λ (x : Post). x.up ≡ false) k (λ _. post) g.posts m (λ same now. own same) down

pub down_stays : (m : Member) (g h : Ground) (c : Change g h) → IsOtherMembers m g h c → (g.posts m).up ≡ false → (h.posts m).up ≡ false
down_stays m g _ (Crashes _ k set may) others down = post_down g m k (ended (g.posts k)) down (λ same. refl)
down_stays m g _ (Stops _ k may) others down = post_down g m k (ended (g.posts k)) down (λ same. refl)
down_stays m g _ (Starts _ k may) others down = post_down g m k (next (g.posts k)) down (λ same. absurd (others same))
down_stays m g _ _ others down = down

map_moved : (g : Ground) (m k : Member) (set : KeptSet) → (m ≡ k → set.map ≡ (g.sets k).map) → (at_member k (λ _. set) g.sets m).map ≡ (g.sets m).map
map_moved g m k set own = moved (λ (x : KeptSet). x.map ≡ (g.sets m).map) k (λ _. set) g.sets m (λ same now. own same ∙ ap (λ (x : Member). (g.sets x).map) (sym same)) refl

-- no blocks are given back in vain
freed_none : (epoch : ℕ) (bs : List Block) (map : Option KeptMap) → bs ≡ [] → freed_in epoch bs map ≡ map
freed_none epoch bs None none = refl
freed_none epoch bs (Some x) none = ap (λ l. freed_in epoch l (Some x)) none ∙ by (x.epoch == epoch)
  where
    by : (c : Bool) → Some (if c then record x { used = marked false [] x.used } else x) ≡ Some x
    by true = refl
    by false = refl

pub map_stays : (m : Member) (g h : Ground) (c : Change g h) → IsOtherMembers m g h c → Laws g → (g.posts m).up ≡ false → (h.sets m).map ≡ (g.sets m).map
map_stays m g _ (Takes _ k t epoch n may) others laws down = map_moved g m k (taken t epoch n (g.sets k)) (λ same. not_up g m k may.up down same)
map_stays m g _ (GivesBack _ k t) others laws down = map_moved g m k (given_back t (g.sets k)) (λ same.
    freed_none (hand_of t (g.sets k)).epoch (hand_of t (g.sets k)).blocks (g.sets k).map
    (hands-at IsBlank (g.sets k).hands _ no_hand refl (down_blank k (g.posts k) g.structure (g.sets k) (ap (λ (x : Member). (g.posts x).up) (sym same) ∙ down) (laws.timely k))))
map_stays m g _ (Writes _ k t block n set may) others laws down = map_moved g m k set (λ same. may.same.map)
map_stays m g _ (Syncs _ k set may) others laws down = map_moved g m k set (λ same. may.same.map)
map_stays m g _ (Reads _ k set may) others laws down = map_moved g m k set (λ same. may.same.map)
map_stays m g _ (PutsOutside _ k t u head n left active may) others laws down = map_moved g m k (with_hand t left (g.sets k)) (λ same. refl)
map_stays m g _ (Forgets _ k e bs n may) others laws down = map_moved g m k (freed g.structure.epoch bs (g.sets k)) (λ same. not_up g m k may.up down same)
map_stays m g _ (Crashes _ k set may) others laws down = map_moved g m k set (λ same. not_up g m k may.up down same)
map_stays m g _ (Maps _ k set may) others laws down = map_moved g m k set (λ same. absurd (others same))
map_stays m g _ (Saves _ k set may) others laws down = map_moved g m k set (λ same. may.same.map)
map_stays m g _ (Begins _ k i may) others laws down = map_moved g m k (begun_set g k) (λ same. not_up g m k may.up down same)
map_stays m g _ (RestoresOutside _ k t e n left restore may is) others laws down = map_moved g m k (with_hand t left (g.sets k)) (λ same. refl)
map_stays m g _ (Abandons _ k i may) others laws down = map_moved g m k (without_map (g.sets k)) (λ same. not_up g m k (stands-up g.structure.state k (g.posts k) may.live) down same)
map_stays m g _ _ others laws down = refl

-- ---- its bytes are synced at most

abbrev Quiet : Contents → Contents → Type 0
Quiet c d = (at n : ℕ) → AllZip IsKeptOrSynced (part at n c.bytes) (part at n d.bytes)

kept_refl : (xs : List Byte) → AllZip IsKeptOrSynced xs xs
kept_refl [] = tt
kept_refl (x ∷ xs) = (inl refl, kept_refl xs)

quiet_same : (c d : Contents) → d.bytes ≡ c.bytes → Quiet c d
quiet_same c d is at n = subst (AllZip IsKeptOrSynced (part at n c.bytes)) (sym (ap (part at n) is)) (kept_refl (part at n c.bytes))

quiet_moved : (g : Ground) (m k : Member) (set : KeptSet) → (m ≡ k → Quiet (g.sets k).contents set.contents) → Quiet (g.sets m).contents (at_member k (λ _. set) g.sets m).contents
quiet_moved g m k set own = moved (λ (x : KeptSet). Quiet (g.sets m).contents x.contents) k (λ _. set) g.sets m
    (λ same now. subst (λ (x : Member). Quiet (g.sets x).contents set.contents) (sym same) (own same)) (quiet_same (g.sets m).contents (g.sets m).contents refl)

pub quiet : (m : Member) (g h : Ground) (c : Change g h) → IsOtherMembers m g h c → AreTold g.sets → (g.posts m).up ≡ false → Quiet (g.sets m).contents (h.sets m).contents
quiet m g _ (Takes _ k t epoch n may) others told down = quiet_moved g m k (taken t epoch n (g.sets k)) (λ same. quiet_same (g.sets k).contents (g.sets k).contents refl)
quiet m g _ (GivesBack _ k t) others told down = quiet_moved g m k (given_back t (g.sets k)) (λ same. quiet_same (g.sets k).contents (g.sets k).contents refl)
quiet m g _ (Writes _ k t block n set may) others told down = quiet_moved g m k set (λ same. not_up g m k may.up down same)
quiet m g _ (Syncs _ k set may) others told down = quiet_moved g m k set (λ same at n. zipped_part IsKeptOrSynced (g.sets k).contents.bytes set.contents.bytes at n (may.kept (told k may.there)))
quiet m g _ (Reads _ k set may) others told down = quiet_moved g m k set (λ same. quiet_same (g.sets k).contents set.contents (may.bytes (told k may.there)))
quiet m g _ (PutsOutside _ k t u head n left active may) others told down = quiet_moved g m k (with_hand t left (g.sets k)) (λ same. quiet_same (g.sets k).contents (g.sets k).contents refl)
quiet m g _ (Forgets _ k e bs n may) others told down = quiet_moved g m k (freed g.structure.epoch bs (g.sets k)) (λ same. quiet_same (g.sets k).contents (g.sets k).contents refl)
quiet m g _ (Crashes _ k set may) others told down = quiet_moved g m k set (λ same. not_up g m k may.up down same)
quiet m g _ (Maps _ k set may) others told down = quiet_moved g m k set (λ same. absurd (others same))
quiet m g _ (Saves _ k set may) others told down = quiet_moved g m k set (λ same. absurd (others same))
quiet m g _ (Begins _ k i may) others told down = quiet_moved g m k (begun_set g k) (λ same. quiet_same (g.sets k).contents (g.sets k).contents refl)
quiet m g _ (RestoresOutside _ k t e n left restore may is) others told down = quiet_moved g m k (with_hand t left (g.sets k)) (λ same. quiet_same (g.sets k).contents (g.sets k).contents refl)
quiet m g _ (Abandons _ k i may) others told down = quiet_moved g m k (without_map (g.sets k)) (λ same. quiet_same (g.sets k).contents (g.sets k).contents refl)
quiet m g _ _ others told down = quiet_same (g.sets m).contents (g.sets m).contents refl

pub quiet_values : (c d : Contents) (at n : ℕ) → Quiet c d → values (part at n d.bytes) ≡ values (part at n c.bytes)
quiet_values c d at n still = values_kept (part at n c.bytes) (part at n d.bytes) (still at n)

pub quiet_safe : (c d : Contents) (at n : ℕ) (vs : List ℕ) → Quiet c d → part at n c.bytes ≡ map safe_byte vs → part at n d.bytes ≡ map safe_byte vs
quiet_safe c d at n vs still safe = safe_kept vs (part at n d.bytes) (subst (λ (l : List Byte). AllZip IsKeptOrSynced l (part at n d.bytes)) safe (still at n))

-- ---- no entry lists its blocks, where its map isn't of the epoch

gone_stays : (m : Member) (epoch : Option ℕ) (g h : Ground) → Change g h → Laws g → (g.posts m).up ≡ false
    → (is_active g.structure.state ≡ true → (epoch ≡ Some g.structure.epoch → ⊥) → (b : Block) → listed m b g.structure.entries ≡ 0)
    → is_active h.structure.state ≡ true → (epoch ≡ Some h.structure.epoch → ⊥) → (b : Block) → listed m b h.structure.entries ≡ 0
gone_stays m epoch g _ (PutsInside _ u head body active) laws down gone act other b = listed_stays m b g _ (PutsInside g u head body active) down refl active ∙ gone active other b
gone_stays m epoch g _ (PutsOutside _ k t u head n left active may) laws down gone act other b = listed_stays m b g _ (PutsOutside g k t u head n left active may) down refl active ∙ gone active other b
gone_stays m epoch g _ (Revises _ id f keeps) laws down gone act other b = listed_stays m b g _ (Revises g id f keeps) down refl act ∙ gone act other b
gone_stays m epoch g _ (Forgets _ k e bs n may) laws down gone act other b = listed_stays m b g _ (Forgets g k e bs n may) down refl act ∙ gone act other b
gone_stays m epoch g _ (Loses _ may) laws down gone act other b = absurd cc
gone_stays m epoch g _ (Begins _ k i may) laws down gone act other b = absurd cc
gone_stays m epoch g _ (RestoresInside _ e body restore is) laws down gone act other b = absurd (unrecovered g.structure.state act restore.recovering)
gone_stays m epoch g _ (RestoresOutside _ k t e n left restore may is) laws down gone act other b = absurd (unrecovered g.structure.state act restore.recovering)
gone_stays m epoch g _ (Ends _ k i floor may) laws down gone act other b =
    subst (λ st. IsEmptied st g.structure.entries) may.by laws.emptied m b (up_differ g m k (stands-up g.structure.state k (g.posts k) may.live) down)
gone_stays m epoch g _ (Abandons _ k i may) laws down gone act other b = absurd cc
gone_stays m epoch g _ _ laws down gone act other b = gone act other b

-- ---- START

if_epoch : (o : Option ℕ) (P Q : ℕ → Type 0) → ((n : ℕ) → P n → Q n) → IfSome o P → IfSome o Q
if_epoch None P Q f all = tt
if_epoch (Some n) P Q f all = f n all

past_of : (o : Option ℕ) (P : ℕ → Type 0) (n : ℕ) → o ≡ Some n → IfSome o P → P n
past_of o P n is all = subst (λ x. IfSome x P) is all

gate_stays : (c d : Contents) → Quiet c d → gate_value d.bytes ≡ gate_value c.bytes
gate_stays c d still = ap (λ l. slice_index l 0) (quiet_values c d 0 4096 still)

pub starter_stays : (w : Starter) (g h : Ground) (c : Change g h) → IsOtherMembers w.owner g h c → AreTold g.sets → IsFitting g → Laws g → FitsStart w g → FitsStart w h
starter_stays w g h c others told fits laws fit =
    let map = map_stays w.owner g h c others laws fit.down in
    let still = quiet w.owner g h c others told fit.down in
    record {
      down = down_stays w.owner g h c others fit.down;
      map = ap epoch_of_map map ∙ fit.map;
      past = if_epoch w.epoch _ _ (λ n past. (epoch_cases n g h c past).0) fit.past;
      made = λ act now b.
          let k = (epoch_cases h.structure.epoch g h c (past_of w.epoch (IsPast (is_active g.structure.state) g.structure.epoch) h.structure.epoch now fit.past)).1 refl in
          ap (λ l. used_once l b) (used_in-same h.structure.epoch (g.sets w.owner) (h.sets w.owner) map (sizes_stay g h c w.owner).blocks)
          ∙ ap (λ ep. used_once (used_in ep (g.sets w.owner)) b) k.1.0
          ∙ fit.made k.1.1 (now ∙ ap (λ n. Some n) k.1.0) b
          ∙ sym (share_stays w.owner (lists_to w.place w.owner b) g h c (shares_to w.place w.owner b) fit.down k.1.0 k.1.1);
      gone = λ act other b. gone_stays w.owner w.epoch g h c laws fit.down fit.gone act other b;
      opened = λ none reads. fit.opened none (sym (gate_stays (g.sets w.owner).contents (h.sets w.owner).contents still) ∙ reads);
      reads = λ some. quiet_values (g.sets w.owner).contents (h.sets w.owner).contents 0 1 still ∙ fit.reads some;
      shut = λ two. quiet_safe (g.sets w.owner).contents (h.sets w.owner).contents 0 1 (0 ∷ []) still (fit.shut two);
    }

-- ---- STOP

saving_stays : (steps : ℕ) (old new : KeptSet) (x : KeptMap) → Quiet old.contents new.contents → IsSaving steps old x → IsSaving steps new x
saving_stays steps old new x still saving = record {
  shut = λ early. quiet_safe old.contents new.contents 0 1 (0 ∷ []) still (saving.shut early);
  wrote = λ late. quiet_values old.contents new.contents 1 4095 still ∙ saving.wrote late;
  ready = λ late. quiet_safe old.contents new.contents 1 4095 (spelling x.epoch x.used) still (saving.ready late);
}

if_map : (o p : Option KeptMap) (P Q : KeptMap → Type 0) → p ≡ o → ((x : KeptMap) → P x → Q x) → IfSome o P → IfSome p Q
if_map o p P Q same f all = subst (λ l. IfSome l Q) (sym same) (by o all)
  where
    by : (o : Option KeptMap) → IfSome o P → IfSome o Q
    by None all = tt
    by (Some x) all = f x all

pub stopper_stays : (w : Stopper) (g h : Ground) (c : Change g h) → IsOtherMembers w.owner g h c → AreTold g.sets → IsFitting g → Laws g → FitsStop w g → FitsStop w h
stopper_stays w g h c others told fits laws fit =
    let map = map_stays w.owner g h c others laws fit.down in
    let still = quiet w.owner g h c others told fit.down in
    record {
      down = down_stays w.owner g h c others fit.down;
      is_true = if_map (g.sets w.owner).map (h.sets w.owner).map _ _ map (λ (x : KeptMap) is. true_stays w.owner x.epoch x.used g h c fit.down is) fit.is_true;
      saving = if_map (g.sets w.owner).map (h.sets w.owner).map _ _ map (λ (x : KeptMap) is. saving_stays w.steps (g.sets w.owner) (h.sets w.owner) x still is) fit.saving;
    }
