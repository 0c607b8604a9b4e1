-- a writer's own steps
use Rattle.std.proofs.Common.{◌≡◌, ℕ, zero, suc, ◌+◌, ◌*◌, ◌-◌, ◌<◌, ◌≤◌, min, true, false, List, [], ◌∷◌, ◌++◌, Some, refl, sym, ap, ◌∙◌, arith, inl, inr, subst, length, take, drop, map}
use Rattle.std.specs.Prelude.{slice_get, slice_index_or}
use Rattle.std.specs.List.{AllByRecursion, AllZip}
use Rattle.std.proofs.lemmas.Bool.{cases_eq}
use Rattle.std.proofs.lemmas.Grind.{get_or-set_at}
use Rattle.std.proofs.lemmas.List.{length-take, length-take-le, length-drop, take-map, drop-map}
use Rattle.std.proofs.Math.Seq.{take-length}
use Rattle.qsg_num.specs.declared.seats.Member.{Member}
use Rattle.qsg_num.specs.declared.seats.TaskNo.{TaskNo}
use Rattle.qsg_num.specs.declared.ids.Block.{Block}
use Rattle.qsg_num.specs.Seats.{task_number}
use Rattle.qsg_disk.specs.Byte.{Byte, values, part, synced}
use Rattle.qsg_disk.proofs.Parts.{take-add}
use Rattle.qsg_space.specs.Spaces.{free_blocks, free_count}
use Rattle.qsg_space.proofs.Free.{length-free_from}
use Rattle.qsg_dataset.specs.Contents.{Contents, offset_of, block_bytes}
use Rattle.qsg_lists.specs.declared.parts.Place.TheVariants.{Offloaded}
use Rattle.qsg_datasets.specs.declared.member_data_set.Hand.{Hand}
use Rattle.qsg_datasets.specs.Kept.{KeptSet, IsKept, no_hand, used_in, hand_of, given, taken}
use Rattle.qsg_datasets.specs.Calls.{IsStorageSame}
use Rattle.qsg_blocks.specs.State.{Ground, AreTold, cells_at, body_at, blocks_for, uses}
use Rattle.qsg_blocks.specs.Laws.{IsSafe, IsSafePlace, IsFitting, Laws}
use Rattle.qsg_blocks.specs.Changes.{with_set, blocks_of, MayWrite}
use Rattle.qsg_blocks.specs.Works.{Writer, FitsHand, FitsWrite}
use Rattle.qsg_blocks.proofs.Counting.{uses-head, uses-tail}
use Rattle.qsg_blocks.proofs.Fitting.{set_at, task_within, same_sizes}
use Rattle.qsg_blocks.proofs.Bytes.{IsKeptByte, kept_values, synced_safe, safe_append, safe_take, safe_drop, cells_zip, cells_beside}
use Rattle.qsg_blocks.proofs.Reading.{values-append, cells-next}
use Rattle.qsg_blocks.proofs.Writing.{fits_hand, hand_once, enough-most}

-- the law of a writer, by the data set of its owner
fits_at : (w : Writer) (g : Ground) (set : KeptSet) → FitsHand w set
    → (w.epoch ≡ g.structure.epoch → body_at set.contents (take w.count (hand_of w.task set).blocks) (length w.body) ≡ take (w.count * set.contents.block_size) w.body)
    → (w.epoch ≡ g.structure.epoch → w.synced ≡ true → AllByRecursion IsSafe (cells_at set.contents (hand_of w.task set).blocks (length w.body)))
    → FitsWrite w (with_set w.owner set g)
fits_at w g set hand written safe =
    let same = sym (set_at w.owner set g.sets) in
    record {
      hand = subst (FitsHand w) same hand;
      written = λ now. subst (λ (x : KeptSet). body_at x.contents (take w.count (hand_of w.task x).blocks) (length w.body) ≡ take (w.count * x.contents.block_size) w.body) same (written now);
      safe = λ now done. subst (λ (x : KeptSet). AllByRecursion IsSafe (cells_at x.contents (hand_of w.task x).blocks (length w.body))) same (safe now done);
    }

-- ---- it takes blocks

pub hand_taken : (t : TaskNo) (epoch n : ℕ) (set : KeptSet) → IsKept set → hand_of t (taken t epoch n set) ≡ record { epoch = epoch; blocks = given epoch n set }
hand_taken t epoch n set kept = let five = kept.five in let inside = task_within t in get_or-set_at set.hands (task_number t) (task_number t) (record { epoch = epoch; blocks = given epoch n set }) no_hand refl (omega (arith, five, inside))

length-given : (epoch n : ℕ) (set : KeptSet) → n ≤ free_count (used_in epoch set) → length (given epoch n set) ≡ n
length-given epoch n set room = length-take-le n (free_blocks (used_in epoch set)) (subst (λ k. n ≤ k) (sym (length-free_from 0 (used_in epoch set))) room)

none_written : (c : Contents) (bs : List Block) (body : List ℕ) → body_at c (take 0 bs) (length body) ≡ take (0 * c.block_size) body
none_written c bs body = let z : 0 ≡ 0 * c.block_size = omega arith in ap (λ k. take k body) z

pub writer_begins : (g : Ground) (m : Member) (t : TaskNo) (epoch n : ℕ) (body : List ℕ) → IsKept (g.sets m) → n ≡ blocks_for (g.sets m).contents.block_size (length body) → n ≤ free_count (used_in epoch (g.sets m))
    → FitsWrite (record { owner = m; task = t; epoch = epoch; body = body; count = 0; synced = false }) (with_set m (taken t epoch n (g.sets m)) g)
writer_begins g m t epoch n body kept enough room =
    let w : Writer = record { owner = m; task = t; epoch = epoch; body = body; count = 0; synced = false } in
    let hand = hand_taken t epoch n (g.sets m) kept in
    fits_at w g (taken t epoch n (g.sets m))
    (record {
      there = kept.sized.some_blocks;
      epoch = ap (λ (x : Hand). x.epoch) hand;
      enough = ap (λ (x : Hand). length x.blocks) hand ∙ length-given epoch n (g.sets m) room ∙ enough;
    })
    (λ now. none_written (g.sets m).contents (hand_of t (taken t epoch n (g.sets m))).blocks body)
    (λ now done. absurd cc)

-- ---- it writes the next block

same_zip : (xs ys : List Byte) → AllZip (λ x y. y ≡ x) xs ys → ys ≡ xs
same_zip [] [] all = refl
same_zip [] (y ∷ ys) all = absurd all
same_zip (x ∷ xs) [] all = absurd all
same_zip (x ∷ xs) (y ∷ ys) all = λ i. all.0 i ∷ same_zip xs ys all.1 i

same_some : (x y : Block) → Some x ≡ Some y → x ≡ y
same_some x y is = cc

-- a block that stands once stands in front of none that come before it
uses_there : (b : Block) (bs : List Block) (k : ℕ) → slice_get bs k ≡ Some b → 0 < uses b bs
uses_there b [] k at = absurd cc
uses_there b (x ∷ bs) zero at = let h = uses-head b x bs (ap (λ (y : Block). y.number) (same_some x b at)) in omega (arith, h)
uses_there b (x ∷ bs) (suc k) at = let r = uses_there b bs k at in omega (arith, r)

unused_before : (b : Block) (bs : List Block) (k : ℕ) → slice_get bs k ≡ Some b → uses b bs ≤ 1 → uses b (take k bs) ≡ 0
unused_before b [] k at once = absurd cc
unused_before b (x ∷ bs) zero at once = refl
unused_before b (x ∷ bs) (suc k) at once = elim (cases_eq x.number b.number) [
  | inl same ↦ let there = uses_there b bs k at in let h = uses-head b x bs same in absurd (omega (arith, there, h, once))
  | inr differ ↦
      let t = uses-tail b x bs differ in
      let u = uses-tail b x (take k bs) differ in
      let r = unused_before b bs k at (omega (arith, t, once)) in
      omega (arith, u, r)
]

next_take : (k size : ℕ) (body : List ℕ) → take (k * size) body ++ take size (drop (k * size) body) ≡ take ((k + 1) * size) body
next_take k size body = sym (take-add (k * size) size body) ∙ ap (λ j. take j body) (grind arith)

length_piece : (k size : ℕ) (body : List ℕ) → length (take size (drop (k * size) body)) ≡ min size (length body - k * size)
length_piece k size body = length-take size (drop (k * size) body) ∙ ap (min size) (length-drop (k * size) body)

pub writer_goes_on : (w : Writer) (g : Ground) (b : Block) (piece : List ℕ) (set : KeptSet) → AreTold g.sets → IsFitting g → Laws g → FitsWrite w g → w.synced ≡ false → slice_get (blocks_of w.owner w.task g) w.count ≡ Some b
    → piece ≡ take (g.sets w.owner).contents.block_size (drop (w.count * (g.sets w.owner).contents.block_size) w.body)
    → MayWrite g w.owner w.task b (length piece) set → values (block_bytes set.contents b.number (length piece)) ≡ piece
    → FitsWrite (record w { count = w.count + 1 }) (with_set w.owner set g)
writer_goes_on w g b piece set told fits laws fit unsynced at is may reads =
    fits_at (record w { count = w.count + 1 }) g set
    (fits_hand (record w { count = w.count + 1 }) (g.sets w.owner) set (same_sizes (g.sets w.owner) set may.same.contents) (ap (λ (l : List Hand). slice_index_or l (task_number w.task) no_hand) may.same.hands)
    (record { there = fit.hand.there; epoch = fit.hand.epoch; enough = fit.hand.enough }))
    written
    (λ now done. let e : true ≡ false = sym done ∙ unsynced in absurd cc)
  where
    old : Contents
    old = (g.sets w.owner).contents

    bs : List Block
    bs = blocks_of w.owner w.task g

    size : set.contents.block_size ≡ old.block_size
    size = may.same.contents.block_size

    hands : (hand_of w.task set).blocks ≡ bs
    hands = ap (λ (l : List Hand). (slice_index_or l (task_number w.task) no_hand).blocks) may.same.hands

    before : w.epoch ≡ g.structure.epoch → cells_at set.contents (take w.count bs) (length w.body) ≡ cells_at old (take w.count bs) (length w.body)
    before now = same_zip (cells_at old (take w.count bs) (length w.body)) (cells_at set.contents (take w.count bs) (length w.body))
        (cells_beside (λ x y. y ≡ x) (λ x. refl) old set.contents b (length piece) size may.fits (may.beside (told w.owner fit.hand.there)) (take w.count bs) (length w.body)
        (unused_before b bs w.count at (hand_once g w.owner w.task b laws (fit.hand.epoch ∙ now))))

    behind : values (block_bytes set.contents b.number (min set.contents.block_size (length w.body - w.count * set.contents.block_size))) ≡ take old.block_size (drop (w.count * old.block_size) w.body)
    behind =
        ap (λ k. values (block_bytes set.contents b.number (min k (length w.body - w.count * k)))) size
        ∙ ap (λ k. values (block_bytes set.contents b.number k)) (sym (length_piece w.count old.block_size w.body) ∙ sym (ap (λ (l : List ℕ). length l) is))
        ∙ reads ∙ is

    written : w.epoch ≡ g.structure.epoch → body_at set.contents (take (w.count + 1) (hand_of w.task set).blocks) (length w.body) ≡ take ((w.count + 1) * set.contents.block_size) w.body
    written now =
        ap (λ l. body_at set.contents (take (w.count + 1) l) (length w.body)) hands
        ∙ ap values (cells-next set.contents bs w.count (length w.body) b at)
        ∙ values-append (cells_at set.contents (take w.count bs) (length w.body)) (block_bytes set.contents b.number (min set.contents.block_size (length w.body - w.count * set.contents.block_size)))
        ∙ ap (λ l. values l ++ values (block_bytes set.contents b.number (min set.contents.block_size (length w.body - w.count * set.contents.block_size)))) (before now)
        ∙ ap (λ (l : List ℕ). l ++ values (block_bytes set.contents b.number (min set.contents.block_size (length w.body - w.count * set.contents.block_size)))) (fit.written now)
        ∙ ap (λ (l : List ℕ). take (w.count * old.block_size) w.body ++ l) behind
        ∙ next_take w.count old.block_size w.body
        ∙ ap (λ k. take ((w.count + 1) * k) w.body) (sym size)

-- ---- it syncs

zip_synced : (xs : List Byte) → AllZip IsKeptByte xs (map synced xs)
zip_synced [] = tt
zip_synced (x ∷ xs) = ((refl, λ safe. refl), zip_synced xs)

part_synced : (at n : ℕ) (bytes : List Byte) → part at n (map synced bytes) ≡ map synced (part at n bytes)
part_synced at n bytes = ap (take n) (drop-map synced at bytes) ∙ take-map synced n (drop at bytes)

cells_synced : (c d : Contents) (bs : List Block) (n : ℕ) → d.block_size ≡ c.block_size → d.bytes ≡ map synced c.bytes → AllZip IsKeptByte (cells_at c bs n) (cells_at d bs n)
cells_synced c d bs n size is = cells_zip IsKeptByte c d size bs n (λ b k used low.
    subst (AllZip IsKeptByte (part (offset_of c b.number) k c.bytes)) (sym (ap (part (offset_of c b.number) k) is ∙ part_synced (offset_of c b.number) k c.bytes)) (zip_synced (part (offset_of c b.number) k c.bytes)))

cells_safe : (c : Contents) (bs : List Block) (n : ℕ) → AllByRecursion IsSafe c.bytes → AllByRecursion IsSafe (cells_at c bs n)
cells_safe c [] n all = tt
cells_safe c (b ∷ bs) n all = safe_append (block_bytes c b.number (min c.block_size n)) (cells_at c bs (n - c.block_size)) (safe_take (min c.block_size n) (drop (offset_of c b.number) c.bytes) (safe_drop (offset_of c b.number) c.bytes all)) (cells_safe c bs (n - c.block_size) all)

pub writer_syncs : (w : Writer) (g : Ground) (set : KeptSet) → FitsWrite w g → IsStorageSame (g.sets w.owner) set → set.contents.bytes ≡ map synced (g.sets w.owner).contents.bytes → FitsWrite (record w { synced = true }) (with_set w.owner set g)
writer_syncs w g set fit same is =
    fits_at (record w { synced = true }) g set
    (fits_hand (record w { synced = true }) (g.sets w.owner) set (same_sizes (g.sets w.owner) set same.contents) (ap (λ (l : List Hand). slice_index_or l (task_number w.task) no_hand) same.hands)
    (record { there = fit.hand.there; epoch = fit.hand.epoch; enough = fit.hand.enough }))
    (λ now.
    ap (λ (l : List Hand). body_at set.contents (take w.count (slice_index_or l (task_number w.task) no_hand).blocks) (length w.body)) same.hands
    ∙ kept_values (cells_at (g.sets w.owner).contents (take w.count (blocks_of w.owner w.task g)) (length w.body)) (cells_at set.contents (take w.count (blocks_of w.owner w.task g)) (length w.body))
    (cells_synced (g.sets w.owner).contents set.contents (take w.count (blocks_of w.owner w.task g)) (length w.body) same.contents.block_size is)
    ∙ fit.written now
    ∙ ap (λ size. take (w.count * size) w.body) (sym same.contents.block_size))
    (λ now done. cells_safe set.contents (hand_of w.task set).blocks (length w.body) (subst (AllByRecursion IsSafe) (sym is) (synced_safe (g.sets w.owner).contents.bytes)))

-- ---- its body is whole

take_all : (k : ℕ) (xs : List ℕ) → length xs ≤ k → take k xs ≡ xs
take_all k [] all = take_none k
  where
    take_none : (k : ℕ) → ◌≡◌ {A = List ℕ} (take k []) []
    take_none zero = refl
    take_none (suc k) = refl
take_all zero (x ∷ xs) all = absurd (omega arith)
take_all (suc k) (x ∷ xs) all = ap (λ (l : List ℕ). x ∷ l) (take_all k xs (omega arith))

pub writer_whole : (w : Writer) (g : Ground) → IsKept (g.sets w.owner) → FitsWrite w g → w.epoch ≡ g.structure.epoch → w.synced ≡ true → w.count ≡ length (blocks_of w.owner w.task g)
    → (body_at (g.sets w.owner).contents (blocks_of w.owner w.task g) (length w.body) ≡ w.body) × IsSafePlace g.sets (Offloaded w.owner (blocks_of w.owner w.task g) (length w.body))
writer_whole w g kept fit now done all =
    let bs = blocks_of w.owner w.task g in
    let most = enough-most (g.sets w.owner).contents.block_size (length w.body) kept.sized.some_bytes in
    let count : w.count ≡ blocks_for (g.sets w.owner).contents.block_size (length w.body) = all ∙ fit.hand.enough in (
      ap (λ l. body_at (g.sets w.owner).contents l (length w.body)) (sym (ap (λ k. take k bs) all ∙ take-length bs))
          ∙ fit.written now
          ∙ take_all (w.count * (g.sets w.owner).contents.block_size) w.body (subst (λ k. length w.body ≤ k * (g.sets w.owner).contents.block_size) (sym count) most),
      fit.safe now done,
    )
