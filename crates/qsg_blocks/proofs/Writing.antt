-- what a writer has written stays
use Rattle.std.proofs.Common.{◌≡◌, ℕ, zero, suc, ◌*◌, ◌<◌, ◌≤◌, true, List, [], ◌∷◌, refl, sym, ap, ◌∙◌, arith, inl, inr, subst, length, take, slice_set}
use Rattle.std.specs.Prelude.{◌⊎◌, slice_index_or}
use Rattle.std.specs.List.{AllByRecursion, AllZip}
use Rattle.std.proofs.lemmas.Bool.{cases_Bool}
use Rattle.std.proofs.lemmas.List.{get_or-set_other}
use Rattle.qsg_num.specs.declared.seats.Member.{Member}
use Rattle.qsg_num.specs.declared.seats.TaskNo.{TaskNo}
use Rattle.qsg_num.specs.declared.ids.Block.{Block}
use Rattle.qsg_num.specs.Seats.{task_number}
use Rattle.qsg_disk.specs.Byte.{Byte, Beside, EachPair, IsKeptOrSynced}
use Rattle.qsg_datasets.specs.declared.member_data_set.Hand.{Hand}
use Rattle.qsg_datasets.specs.Kept.{KeptSet, no_hand, hand_of, with_hand, given, taken, given_back, freed}
use Rattle.qsg_datasets.specs.Calls.{IsStorageSame}
use Rattle.qsg_group.specs.Tables.{at_member}
use Rattle.qsg_group.proofs.Tables.{same_task, every_member, moved}
use Rattle.qsg_blocks.specs.State.{Ground, AreTold, stands, cells_at, body_at, blocks_for, uses}
use Rattle.qsg_blocks.specs.Laws.{AreAlike, IsBlank, IsHeldBy, IsSafe, IsFitting, Laws}
use Rattle.qsg_blocks.specs.Changes.{begun_set, without_map, blocks_of, MayWrite, Change}
use Rattle.qsg_blocks.specs.Changes.Change.{Rests, Takes, GivesBack, Writes, Syncs, Reads, PutsInside, PutsOutside, Revises, Forgets, Crashes, Stops, Maps, Saves, Starts, Loses, Begins, RestoresInside, RestoresOutside, Ends, Abandons}
use Rattle.qsg_blocks.specs.Works.{Writer, FitsHand, FitsWrite, IsOthers}
use Rattle.qsg_blocks.proofs.Counting.{uses-take, has-used, holds-now, reserved-at, reserved-two, hands-at}
use Rattle.qsg_blocks.proofs.Fitting.{same_sizes, alike_refl}
use Rattle.qsg_blocks.proofs.Standing.{told_true, told_false, told_low}
use Rattle.qsg_blocks.proofs.Counted.{apart}
use Rattle.qsg_blocks.proofs.Bytes.{IsKeptByte, synced_kept, zip_refl, zip_mono, kept_values, kept_safe, cells_same, cells_each, cells_beside, cells_header}

-- ---- sizes stay

set_alike : (g : Ground) (m : Member) (set : KeptSet) → AreAlike set (g.sets m) → (k : Member) → AreAlike (at_member m (λ _. set) g.sets k) (g.sets k)
set_alike g m set same = every_member (λ k x. AreAlike x (g.sets k)) m (λ _. set) g.sets same (λ k differ. alike_refl (g.sets k))

pub sizes_stay : (g h : Ground) → Change g h → (k : Member) → AreAlike (h.sets k) (g.sets k)
sizes_stay g _ (Takes _ m t epoch n may) = set_alike g m _ (record { block_size = refl; blocks = refl })
sizes_stay g _ (GivesBack _ m t) = set_alike g m _ (record { block_size = refl; blocks = refl })
sizes_stay g _ (Writes _ m t block n set may) = set_alike g m set (same_sizes (g.sets m) set may.same.contents)
sizes_stay g _ (Syncs _ m set may) = set_alike g m set (same_sizes (g.sets m) set may.same.contents)
sizes_stay g _ (Reads _ m set may) = set_alike g m set (same_sizes (g.sets m) set may.same.contents)
sizes_stay g _ (PutsOutside _ m t u head n left active may) = set_alike g m _ (record { block_size = refl; blocks = refl })
sizes_stay g _ (Forgets _ m e bs n may) = set_alike g m _ (record { block_size = refl; blocks = refl })
sizes_stay g _ (Crashes _ m set may) = set_alike g m set (same_sizes (g.sets m) set may.cut.contents)
sizes_stay g _ (Maps _ m set may) = set_alike g m set (same_sizes (g.sets m) set may.same)
sizes_stay g _ (Saves _ m set may) = set_alike g m set (same_sizes (g.sets m) set may.same.contents)
sizes_stay g _ (Begins _ m i may) = set_alike g m _ (record { block_size = refl; blocks = refl })
sizes_stay g _ (RestoresOutside _ m t e n left restore may is) = set_alike g m _ (record { block_size = refl; blocks = refl })
sizes_stay g _ (Abandons _ m i may) = set_alike g m _ (record { block_size = refl; blocks = refl })
sizes_stay g _ (Rests _) = λ k. record { block_size = refl; blocks = refl }
sizes_stay g _ (PutsInside _ u head body active) = λ k. record { block_size = refl; blocks = refl }
sizes_stay g _ (Revises _ id f keeps) = λ k. record { block_size = refl; blocks = refl }
sizes_stay g _ (Stops _ m may) = λ k. record { block_size = refl; blocks = refl }
sizes_stay g _ (Starts _ m may) = λ k. record { block_size = refl; blocks = refl }
sizes_stay g _ (Loses _ may) = λ k. record { block_size = refl; blocks = refl }
sizes_stay g _ (RestoresInside _ e body restore is) = λ k. record { block_size = refl; blocks = refl }
sizes_stay g _ (Ends _ m i floor may) = λ k. record { block_size = refl; blocks = refl }

-- ---- the hand stays

other_hand : (hands : List Hand) (s t : TaskNo) (new : Hand) → (t ≡ s → ⊥) → slice_index_or (slice_set hands (task_number s) new) (task_number t) no_hand ≡ slice_index_or hands (task_number t) no_hand
other_hand hands s t new differ = get_or-set_other hands (task_number s) (task_number t) new no_hand (λ e. differ (same_task t s e))

hand_moved : (g : Ground) (m : Member) (t : TaskNo) (k : Member) (set : KeptSet) → (m ≡ k → hand_of t set ≡ hand_of t (g.sets m)) → hand_of t (at_member k (λ _. set) g.sets m) ≡ hand_of t (g.sets m)
hand_moved g m t k set own = moved (λ (x : KeptSet). hand_of t x ≡ hand_of t (g.sets m)) k (λ _. set) g.sets m (λ same now. own same) refl

hand_storage : (g : Ground) (m : Member) (t : TaskNo) (k : Member) (set : KeptSet) → IsStorageSame (g.sets k) set → m ≡ k → hand_of t set ≡ hand_of t (g.sets m)
hand_storage g m t k set same here = ap (λ (l : List Hand). slice_index_or l (task_number t) no_hand) same.hands ∙ ap (λ (x : Member). hand_of t (g.sets x)) (sym here)

hand_of_other : (g : Ground) (m : Member) (t : TaskNo) (k : Member) (s : TaskNo) (new : Hand) → (m ≡ k → t ≡ s → ⊥) → m ≡ k → slice_index_or (slice_set (g.sets k).hands (task_number s) new) (task_number t) no_hand ≡ hand_of t (g.sets m)
hand_of_other g m t k s new others here = other_hand (g.sets k).hands s t new (others here) ∙ ap (λ (x : Member). hand_of t (g.sets x)) (sym here)

hand_kept : (g : Ground) (m : Member) (t : TaskNo) (k : Member) → m ≡ k → hand_of t (g.sets k) ≡ hand_of t (g.sets m)
hand_kept g m t k here = ap (λ (x : Member). hand_of t (g.sets x)) (sym here)

pub hand_stays : (m : Member) (t : TaskNo) (g h : Ground) (c : Change g h) → IsOthers m t g h c → hand_of t (h.sets m) ≡ hand_of t (g.sets m)
hand_stays m t g _ (Takes _ k s epoch n may) others = hand_moved g m t k (taken s epoch n (g.sets k)) (hand_of_other g m t k s (record { epoch = epoch; blocks = given epoch n (g.sets k) }) others)
hand_stays m t g _ (GivesBack _ k s) others = hand_moved g m t k (given_back s (g.sets k)) (hand_of_other g m t k s no_hand others)
hand_stays m t g _ (Writes _ k s block n set may) others = hand_moved g m t k set (hand_storage g m t k set may.same)
hand_stays m t g _ (Syncs _ k set may) others = hand_moved g m t k set (hand_storage g m t k set may.same)
hand_stays m t g _ (Reads _ k set may) others = hand_moved g m t k set (hand_storage g m t k set may.same)
hand_stays m t g _ (PutsOutside _ k s u head n left active may) others = hand_moved g m t k (with_hand s left (g.sets k)) (hand_of_other g m t k s left others)
hand_stays m t g _ (Forgets _ k e bs n may) others = hand_moved g m t k _ (hand_kept g m t k)
hand_stays m t g _ (Crashes _ k set may) others = hand_moved g m t k set (λ same. absurd (others same))
hand_stays m t g _ (Maps _ k set may) others = hand_moved g m t k set (λ same. absurd (others same))
hand_stays m t g _ (Saves _ k set may) others = hand_moved g m t k set (hand_storage g m t k set may.same)
hand_stays m t g _ (Begins _ k i may) others = hand_moved g m t k _ (hand_kept g m t k)
hand_stays m t g _ (RestoresOutside _ k s e n left restore may is) others = hand_moved g m t k (with_hand s left (g.sets k)) (hand_of_other g m t k s left others)
hand_stays m t g _ (Abandons _ k i may) others = hand_moved g m t k _ (hand_kept g m t k)
hand_stays m t g _ _ others = refl

pub fits_hand : (w : Writer) (old new : KeptSet) → AreAlike new old → hand_of w.task new ≡ hand_of w.task old → FitsHand w old → FitsHand w new
fits_hand w old new same hand fits = record {
  there = subst (λ n. 1 ≤ n) (sym same.blocks) fits.there;
  epoch = ap (λ (x : Hand). x.epoch) hand ∙ fits.epoch;
  enough = ap (λ (x : Hand). length x.blocks) hand ∙ fits.enough ∙ ap (λ size. blocks_for size (length w.body)) (sym same.block_size);
}

pub writer_hand_stays : (w : Writer) (g h : Ground) (c : Change g h) → IsOthers w.owner w.task g h c → FitsHand w (g.sets w.owner) → FitsHand w (h.sets w.owner)
writer_hand_stays w g h c others fits = fits_hand w (g.sets w.owner) (h.sets w.owner) (sizes_stay g h c w.owner) (hand_stays w.owner w.task g h c others) fits

-- ---- its blocks are nobody else's

two_hands : (g : Ground) (m : Member) (t s : TaskNo) (b : Block) → Laws g → (t ≡ s → ⊥) → (hand_of t (g.sets m)).epoch ≡ g.structure.epoch → 0 < uses b (blocks_of m s g) → uses b (blocks_of m t g) ≡ 0
two_hands g m t s b laws differ now used = by (hands-at (λ (h : Hand). IsBlank h ⊎ IsHeldBy m (g.posts m) g.structure h) (g.sets m).hands (task_number t) no_hand (inl refl) (laws.timely m).hands)
    (hands-at (λ (h : Hand). IsBlank h ⊎ IsHeldBy m (g.posts m) g.structure h) (g.sets m).hands (task_number s) no_hand (inl refl) (laws.timely m).hands)
  where
    by : IsBlank (hand_of t (g.sets m)) ⊎ IsHeldBy m (g.posts m) g.structure (hand_of t (g.sets m)) → IsBlank (hand_of s (g.sets m)) ⊎ IsHeldBy m (g.posts m) g.structure (hand_of s (g.sets m)) → uses b (blocks_of m t g) ≡ 0
    by (inl blank) other = ap (uses b) blank
    by (inr held) (inl blank) = let z = ap (uses b) blank in absurd (omega (arith, z, used))
    by (inr held) (inr other) = elim (cases_Bool (stands g.structure.state m (g.posts m))) [
      | inl is ↦
          let e = told_true _ _ _ _ is other.told in
          let a = apart g m b laws in
          let two = reserved-two g.structure.epoch b (g.sets m).hands (task_number t) (task_number s) no_hand refl (λ same. differ (same_task t s same)) in
          let x = holds-now g.structure.epoch b (hand_of t (g.sets m)) now in
          let y = holds-now g.structure.epoch b (hand_of s (g.sets m)) e in
          omega (arith, a, two, x, y, used)
      | inr isnt ↦ let low = (told_false _ _ _ _ isnt held.told).0 in absurd (omega (arith, low, now))
    ]

pub hand_once : (g : Ground) (m : Member) (t : TaskNo) (b : Block) → Laws g → (hand_of t (g.sets m)).epoch ≡ g.structure.epoch → uses b (blocks_of m t g) ≤ 1
hand_once g m t b laws now =
    let a = apart g m b laws in
    let r = reserved-at g.structure.epoch b (g.sets m).hands (task_number t) no_hand refl in
    let h = holds-now g.structure.epoch b (hand_of t (g.sets m)) now in
    omega (arith, a, r, h)

-- ---- its bytes are kept

-- those of blocks of the hand
abbrev Keeps : Member → TaskNo → Ground → KeptSet → Type 0
Keeps m t g new = (bs : List Block) (n : ℕ) → ((b : Block) → uses b bs ≤ uses b (blocks_of m t g)) → AllZip IsKeptByte (cells_at (g.sets m).contents bs n) (cells_at new.contents bs n)

kept_refl : (x : Byte) → IsKeptByte x x
kept_refl x = (refl, λ safe. safe)

keeps_same : (m : Member) (t : TaskNo) (g : Ground) (k : Member) (new : KeptSet) → m ≡ k → new.contents.block_size ≡ (g.sets k).contents.block_size → new.contents.bytes ≡ (g.sets k).contents.bytes → Keeps m t g new
keeps_same m t g k new here size bytes bs n within =
    let e = cells_same (g.sets k).contents new.contents bs n size bytes ∙ ap (λ (x : Member). cells_at (g.sets x).contents bs n) (sym here) in
    subst (AllZip IsKeptByte (cells_at (g.sets m).contents bs n)) (sym e) (zip_refl IsKeptByte kept_refl (cells_at (g.sets m).contents bs n))

keeps_moved : (m : Member) (t : TaskNo) (g : Ground) (k : Member) (set : KeptSet) → (m ≡ k → Keeps m t g set) → Keeps m t g (at_member k (λ _. set) g.sets m)
keeps_moved m t g k set own = moved (Keeps m t g) k (λ _. set) g.sets m (λ same now. own same) (λ bs n within. zip_refl IsKeptByte kept_refl (cells_at (g.sets m).contents bs n))

keeps_written : (m : Member) (t : TaskNo) (g : Ground) (k : Member) (s : TaskNo) (block : Block) (n : ℕ) (set : KeptSet) → MayWrite g k s block n set → (m ≡ k → t ≡ s → ⊥) → AreTold g.sets → IsFitting g → Laws g → (hand_of t (g.sets m)).epoch ≡ g.structure.epoch → m ≡ k → Keeps m t g set
keeps_written m t g k s block w set may others told fits laws now here bs n within =
    subst (λ (x : Member). AllZip IsKeptByte (cells_at (g.sets x).contents bs n) (cells_at set.contents bs n)) (sym here)
    (cells_beside IsKeptByte kept_refl (g.sets k).contents set.contents block w may.same.contents.block_size may.fits (may.beside (told k (fits.there k may.up))) bs n
    (let z = two_hands g m t s block laws (others here) now (subst (λ (x : Member). 0 < uses block (blocks_of x s g)) (sym here) (has-used block (blocks_of k s g) may.has)) in let l = within block in omega (arith, z, l)))

keeps_each : (m : Member) (t : TaskNo) (g : Ground) (k : Member) (set : KeptSet) → set.contents.block_size ≡ (g.sets k).contents.block_size → EachPair IsKeptOrSynced (g.sets k).contents.bytes set.contents.bytes → m ≡ k → Keeps m t g set
keeps_each m t g k set size each here bs n within =
    subst (λ (x : Member). AllZip IsKeptByte (cells_at (g.sets x).contents bs n) (cells_at set.contents bs n)) (sym here)
    (zip_mono IsKeptOrSynced IsKeptByte synced_kept (cells_at (g.sets k).contents bs n) (cells_at set.contents bs n) (cells_each IsKeptOrSynced (g.sets k).contents set.contents size each bs n))

keeps_header : (m : Member) (t : TaskNo) (g : Ground) (k : Member) (set : KeptSet) → set.contents.block_size ≡ (g.sets k).contents.block_size → Beside 0 4096 (g.sets k).contents.bytes set.contents.bytes → m ≡ k → Keeps m t g set
keeps_header m t g k set size beside here bs n within =
    subst (λ (x : Member). AllZip IsKeptByte (cells_at (g.sets x).contents bs n) (cells_at set.contents bs n)) (sym here)
    (cells_header IsKeptByte kept_refl (g.sets k).contents set.contents size beside bs n)

keeps : (m : Member) (t : TaskNo) (g h : Ground) (c : Change g h) → IsOthers m t g h c → AreTold g.sets → IsFitting g → Laws g → (hand_of t (g.sets m)).epoch ≡ g.structure.epoch → Keeps m t g (h.sets m)
keeps m t g _ (Takes _ k s epoch n may) others told fits laws now = keeps_moved m t g k (taken s epoch n (g.sets k)) (λ here. keeps_same m t g k (taken s epoch n (g.sets k)) here refl refl)
keeps m t g _ (GivesBack _ k s) others told fits laws now = keeps_moved m t g k (given_back s (g.sets k)) (λ here. keeps_same m t g k (given_back s (g.sets k)) here refl refl)
keeps m t g _ (Writes _ k s block n set may) others told fits laws now = keeps_moved m t g k set (keeps_written m t g k s block n set may others told fits laws now)
keeps m t g _ (Syncs _ k set may) others told fits laws now = keeps_moved m t g k set (keeps_each m t g k set may.same.contents.block_size (may.kept (told k may.there)))
keeps m t g _ (Reads _ k set may) others told fits laws now = keeps_moved m t g k set (λ here. keeps_same m t g k set here may.same.contents.block_size (may.bytes (told k may.there)))
keeps m t g _ (PutsOutside _ k s u head n left active may) others told fits laws now = keeps_moved m t g k (with_hand s left (g.sets k)) (λ here. keeps_same m t g k (with_hand s left (g.sets k)) here refl refl)
keeps m t g _ (Forgets _ k e bs n may) others told fits laws now = keeps_moved m t g k (freed g.structure.epoch bs (g.sets k)) (λ here. keeps_same m t g k (freed g.structure.epoch bs (g.sets k)) here refl refl)
keeps m t g _ (Crashes _ k set may) others told fits laws now = keeps_moved m t g k set (λ here. absurd (others here))
keeps m t g _ (Maps _ k set may) others told fits laws now = keeps_moved m t g k set (λ here. absurd (others here))
keeps m t g _ (Saves _ k set may) others told fits laws now = keeps_moved m t g k set (keeps_header m t g k set may.same.contents.block_size (may.beside (told k may.there)))
keeps m t g _ (Begins _ k i may) others told fits laws now = keeps_moved m t g k (begun_set g k) (λ here. keeps_same m t g k (begun_set g k) here refl refl)
keeps m t g _ (RestoresOutside _ k s e n left restore may is) others told fits laws now = keeps_moved m t g k (with_hand s left (g.sets k)) (λ here. keeps_same m t g k (with_hand s left (g.sets k)) here refl refl)
keeps m t g _ (Abandons _ k i may) others told fits laws now = keeps_moved m t g k (without_map (g.sets k)) (λ here. keeps_same m t g k (without_map (g.sets k)) here refl refl)
keeps m t g _ _ others told fits laws now = λ bs n within. zip_refl IsKeptByte kept_refl (cells_at (g.sets m).contents bs n)

-- ---- epochs rise, and no hand is of one that isn't there yet

pub epoch_rises : (g h : Ground) → Change g h → g.structure.epoch ≤ h.structure.epoch
epoch_rises g _ (Loses _ may) = omega arith
epoch_rises g _ (Ends _ m i floor may) = omega arith
epoch_rises g _ _ = omega arith

hand_epoch : (g : Ground) (m : Member) (t : TaskNo) (later : ℕ) → Laws g → g.structure.epoch ≤ later → (hand_of t (g.sets m)).epoch ≡ later → IsBlank (hand_of t (g.sets m)) ⊎ ((hand_of t (g.sets m)).epoch ≡ g.structure.epoch)
hand_epoch g m t later laws above is = by (hands-at (λ (h : Hand). IsBlank h ⊎ IsHeldBy m (g.posts m) g.structure h) (g.sets m).hands (task_number t) no_hand (inl refl) (laws.timely m).hands)
  where
    by : IsBlank (hand_of t (g.sets m)) ⊎ IsHeldBy m (g.posts m) g.structure (hand_of t (g.sets m)) → IsBlank (hand_of t (g.sets m)) ⊎ ((hand_of t (g.sets m)).epoch ≡ g.structure.epoch)
    by (inl blank) = inl blank
    by (inr held) = let low = told_low _ _ _ _ held.told in inr (omega (arith, low, above, is))

-- a body that needs no blocks is empty
pub enough-most : (size n : ℕ) → 1 ≤ size → n ≤ blocks_for size n * size
enough-most size n some = grind arith

no_blocks : (size n : ℕ) → 1 ≤ size → 0 ≡ blocks_for size n → n ≡ 0
no_blocks size n some none = let m = enough-most size n some in let z = ap (λ k. k * size) none in omega (arith, m, z)

take_none : {X : Type 0} (k : ℕ) → ◌≡◌ {A = List X} (take k []) []
take_none zero = refl
take_none (suc k) = refl

none_of : {X : Type 0} (xs : List X) → length xs ≡ 0 → xs ≡ []
none_of [] is = refl
none_of (x ∷ xs) is = absurd (omega arith)

-- ---- the law

writer_written : (w : Writer) (g h : Ground) (c : Change g h) → IsOthers w.owner w.task g h c → AreTold g.sets → IsFitting g → Laws g → FitsWrite w g → w.epoch ≡ h.structure.epoch
    → body_at (h.sets w.owner).contents (take w.count (hand_of w.task (h.sets w.owner)).blocks) (length w.body) ≡ take (w.count * (h.sets w.owner).contents.block_size) w.body
writer_written w g h c others told fits laws fit now = elim (hand_epoch g w.owner w.task h.structure.epoch laws (epoch_rises g h c) (fit.hand.epoch ∙ now)) [
  | inl blank ↦
      let some = (fits.kept w.owner fit.hand.there).sized.some_bytes in
      let empty : w.body ≡ [] = none_of w.body (no_blocks (g.sets w.owner).contents.block_size (length w.body) some (sym (ap length blank) ∙ fit.hand.enough)) in
      let none : (hand_of w.task (h.sets w.owner)).blocks ≡ [] = ap (λ (x : Hand). x.blocks) (hand_stays w.owner w.task g h c others) ∙ blank in
      ap (λ l. body_at (h.sets w.owner).contents (take w.count l) (length w.body)) none
      ∙ ap (λ l. body_at (h.sets w.owner).contents l (length w.body)) (take_none w.count)
      ∙ sym (take_none (w.count * (h.sets w.owner).contents.block_size))
      ∙ ap (take (w.count * (h.sets w.owner).contents.block_size)) (sym empty)
  | inr same ↦
      let bs = take w.count (hand_of w.task (g.sets w.owner)).blocks in
      let kept = keeps w.owner w.task g h c others told fits laws same bs (length w.body) (λ b. uses-take b w.count (hand_of w.task (g.sets w.owner)).blocks) in
      ap (λ (x : Hand). body_at (h.sets w.owner).contents (take w.count x.blocks) (length w.body)) (hand_stays w.owner w.task g h c others)
      ∙ kept_values (cells_at (g.sets w.owner).contents bs (length w.body)) (cells_at (h.sets w.owner).contents bs (length w.body)) kept
      ∙ fit.written (sym fit.hand.epoch ∙ same)
      ∙ ap (λ size. take (w.count * size) w.body) (sym (sizes_stay g h c w.owner).block_size)
]

writer_safe : (w : Writer) (g h : Ground) (c : Change g h) → IsOthers w.owner w.task g h c → AreTold g.sets → IsFitting g → Laws g → FitsWrite w g → w.epoch ≡ h.structure.epoch → w.synced ≡ true
    → AllByRecursion IsSafe (cells_at (h.sets w.owner).contents (hand_of w.task (h.sets w.owner)).blocks (length w.body))
writer_safe w g h c others told fits laws fit now done = elim (hand_epoch g w.owner w.task h.structure.epoch laws (epoch_rises g h c) (fit.hand.epoch ∙ now)) [
  | inl blank ↦ subst (λ (l : List Block). AllByRecursion IsSafe (cells_at (h.sets w.owner).contents l (length w.body))) (sym (ap (λ (x : Hand). x.blocks) (hand_stays w.owner w.task g h c others) ∙ blank)) tt
  | inr same ↦
      let bs = (hand_of w.task (g.sets w.owner)).blocks in
      let kept = keeps w.owner w.task g h c others told fits laws same bs (length w.body) (λ b. omega arith) in
      subst (λ (x : Hand). AllByRecursion IsSafe (cells_at (h.sets w.owner).contents x.blocks (length w.body))) (sym (hand_stays w.owner w.task g h c others))
      (kept_safe (cells_at (g.sets w.owner).contents bs (length w.body)) (cells_at (h.sets w.owner).contents bs (length w.body)) kept (fit.safe (sym fit.hand.epoch ∙ same) done))
]

pub writer_stays : (w : Writer) (g h : Ground) (c : Change g h) → IsOthers w.owner w.task g h c → AreTold g.sets → IsFitting g → Laws g → FitsWrite w g → FitsWrite w h
writer_stays w g h c others told fits laws fit = record {
  hand = writer_hand_stays w g h c others fit.hand;
  written = λ now. writer_written w g h c others told fits laws fit now;
  safe = λ now done. writer_safe w g h c others told fits laws fit now done;
}
