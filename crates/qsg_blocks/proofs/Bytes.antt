-- what calls leave of the bytes in blocks
use Rattle.std.proofs.Common.{◌≡◌, ℕ, zero, suc, ◌+◌, ◌*◌, ◌-◌, ◌<◌, ◌≤◌, min, List, [], ◌∷◌, ◌++◌, Some, refl, sym, ap, ◌∙◌, arith, inl, inr, subst, take, drop, map}
use Rattle.std.specs.Prelude.{IfSome}
use Rattle.std.specs.List.{AllByRecursion, AllZip}
use Rattle.qsg_num.specs.declared.ids.Block.{Block}
use Rattle.qsg_disk.specs.Byte.{Byte, values, value_of, part, synced, Beside, EachPair, IsKeptOrSynced, IsCut}
use Rattle.qsg_disk.proofs.Parts.{zipped_part, part_after}
use Rattle.qsg_dataset.specs.Contents.{Contents, offset_of, block_bytes}
use Rattle.qsg_dataset.proofs.Blocks.{other_block}
use Rattle.qsg_blocks.specs.State.{cells_at, uses}
use Rattle.qsg_blocks.specs.Laws.{IsSafe}
use Rattle.qsg_blocks.proofs.Counting.{uses-head, uses-by_number}

-- ---- bytes

-- a safe byte stays as it is: any call, and a cut
abbrev pub Steady : Byte → Byte → Type 0
Steady x y = IsSafe x → y ≡ x

-- a byte reads as before, and one that was safe is so: any call but a cut
abbrev pub IsKeptByte : Byte → Byte → Type 0
IsKeptByte x y = (y.value ≡ x.value) × (IsSafe x → IsSafe y)

pub kept_steady : (x y : Byte) → IsKeptByte x y → Steady x y
kept_steady x y kept safe = let q : y.safe ≡ x.safe = kept.1 safe ∙ ap Some kept.0 ∙ sym safe in λ i. record { value = kept.0 i; safe = q i }

pub synced_kept : (x y : Byte) → IsKeptOrSynced x y → IsKeptByte x y
synced_kept x y (inl same) = (ap value_of same, λ safe. subst IsSafe (sym same) safe)
synced_kept x y (inr same) = (ap value_of same, λ safe. subst IsSafe (sym same) refl)

pub cut_steady : (x y : Byte) → IsCut x y → Steady x y
cut_steady x y cut safe =
    let v : y.value ≡ x.value = subst (λ o. IfSome o (λ value. y.value ≡ value)) safe cut.keeps in
    let s : y.safe ≡ x.safe = cut.is_safe ∙ ap Some v ∙ sym safe in
    λ i. record { value = v i; safe = s i }

-- ---- lists of bytes

pub zip_refl : (R : Byte → Byte → Type 0) → ((x : Byte) → R x x) → (xs : List Byte) → AllZip R xs xs
zip_refl R own [] = tt
zip_refl R own (x ∷ xs) = (own x, zip_refl R own xs)

pub zip_mono : (R S : Byte → Byte → Type 0) → ((x y : Byte) → R x y → S x y) → (xs ys : List Byte) → AllZip R xs ys → AllZip S xs ys
zip_mono R S f [] [] all = tt
zip_mono R S f [] (y ∷ ys) all = absurd all
zip_mono R S f (x ∷ xs) [] all = absurd all
zip_mono R S f (x ∷ xs) (y ∷ ys) all = (f x y all.0, zip_mono R S f xs ys all.1)

pub zip_append : (R : Byte → Byte → Type 0) (xs ys us vs : List Byte) → AllZip R xs ys → AllZip R us vs → AllZip R (xs ++ us) (ys ++ vs)
zip_append R [] [] us vs a b = b
zip_append R [] (y ∷ ys) us vs a b = absurd a
zip_append R (x ∷ xs) [] us vs a b = absurd a
zip_append R (x ∷ xs) (y ∷ ys) us vs a b = (a.0, zip_append R xs ys us vs a.1 b)

-- safe bytes stay as they are
pub steady_same : (xs ys : List Byte) → AllZip Steady xs ys → AllByRecursion IsSafe xs → ys ≡ xs
steady_same [] [] all safe = refl
steady_same [] (y ∷ ys) all safe = absurd all
steady_same (x ∷ xs) [] all safe = absurd all
steady_same (x ∷ xs) (y ∷ ys) all safe = λ i. (all.0 safe.0) i ∷ (steady_same xs ys all.1 safe.1) i

pub kept_values : (xs ys : List Byte) → AllZip IsKeptByte xs ys → values ys ≡ values xs
kept_values [] [] all = refl
kept_values [] (y ∷ ys) all = absurd all
kept_values (x ∷ xs) [] all = absurd all
kept_values (x ∷ xs) (y ∷ ys) all = λ i. all.0.0 i ∷ (kept_values xs ys all.1) i

pub kept_safe : (xs ys : List Byte) → AllZip IsKeptByte xs ys → AllByRecursion IsSafe xs → AllByRecursion IsSafe ys
kept_safe [] [] all safe = tt
kept_safe [] (y ∷ ys) all safe = absurd all
kept_safe (x ∷ xs) [] all safe = absurd all
kept_safe (x ∷ xs) (y ∷ ys) all safe = (all.0.1 safe.0, kept_safe xs ys all.1 safe.1)

pub synced_safe : (xs : List Byte) → AllByRecursion IsSafe (map synced xs)
synced_safe [] = tt
synced_safe (x ∷ xs) = (refl, synced_safe xs)

pub safe_append : (xs ys : List Byte) → AllByRecursion IsSafe xs → AllByRecursion IsSafe ys → AllByRecursion IsSafe (xs ++ ys)
safe_append [] ys a b = b
safe_append (x ∷ xs) ys a b = (a.0, safe_append xs ys a.1 b)

pub safe_take : (n : ℕ) (xs : List Byte) → AllByRecursion IsSafe xs → AllByRecursion IsSafe (take n xs)
safe_take zero xs all = tt
safe_take (suc n) [] all = tt
safe_take (suc n) (x ∷ xs) all = (all.0, safe_take n xs all.1)

pub safe_drop : (n : ℕ) (xs : List Byte) → AllByRecursion IsSafe xs → AllByRecursion IsSafe (drop n xs)
safe_drop zero xs all = all
safe_drop (suc n) [] all = tt
safe_drop (suc n) (x ∷ xs) all = safe_drop n xs all.1

-- ---- bytes of bodies

pub cells_same : (c d : Contents) (bs : List Block) (n : ℕ) → d.block_size ≡ c.block_size → d.bytes ≡ c.bytes → cells_at d bs n ≡ cells_at c bs n
cells_same c d [] n size bytes = refl
cells_same c d (b ∷ bs) n size bytes =
    let rest : cells_at d bs (n - d.block_size) ≡ cells_at c bs (n - c.block_size) = ap (λ k. cells_at d bs (n - k)) size ∙ cells_same c d bs (n - c.block_size) size bytes in
    λ i. part (4096 + b.number * size i) (min (size i) n) (bytes i) ++ rest i

-- each pair of bytes of these blocks is related
pub cells_zip : (R : Byte → Byte → Type 0) (c d : Contents) → d.block_size ≡ c.block_size → (bs : List Block) (n : ℕ)
    → ((b : Block) (k : ℕ) → 0 < uses b bs → k ≤ c.block_size → AllZip R (part (offset_of c b.number) k c.bytes) (part (offset_of c b.number) k d.bytes)) → AllZip R (cells_at c bs n) (cells_at d bs n)
cells_zip R c d size [] n each = tt
cells_zip R c d size (b ∷ bs) n each =
    zip_append R (block_bytes c b.number (min c.block_size n)) (block_bytes d b.number (min d.block_size n)) (cells_at c bs (n - c.block_size)) (cells_at d bs (n - d.block_size))
    (subst (λ k. AllZip R (block_bytes c b.number (min c.block_size n)) (part (4096 + b.number * k) (min k n) d.bytes)) (sym size) (each b (min c.block_size n) (head b) (omega arith)))
    (subst (λ k. AllZip R (cells_at c bs (n - c.block_size)) (cells_at d bs (n - k))) (sym size) (cells_zip R c d size bs (n - c.block_size) (λ a k used low. each a k (tail a used) low)))
  where
    head : (x : Block) → 0 < uses x (x ∷ bs)
    head x = let h = uses-head x x bs refl in omega (arith, h)

    tail : (a : Block) → 0 < uses a bs → 0 < uses a (b ∷ bs)
    tail a used = omega (arith, used)

-- a call that relates all bytes
pub cells_each : (R : Byte → Byte → Type 0) (c d : Contents) → d.block_size ≡ c.block_size → EachPair R c.bytes d.bytes → (bs : List Block) (n : ℕ) → AllZip R (cells_at c bs n) (cells_at d bs n)
cells_each R c d size each bs n = cells_zip R c d size bs n (λ b k used low. zipped_part R c.bytes d.bytes (offset_of c b.number) k each)

-- a write on another block
pub cells_beside : (R : Byte → Byte → Type 0) → ((x : Byte) → R x x) → (c d : Contents) (block : Block) (w : ℕ) → d.block_size ≡ c.block_size → w ≤ c.block_size → Beside (offset_of c block.number) w c.bytes d.bytes
    → (bs : List Block) (n : ℕ) → uses block bs ≡ 0 → AllZip R (cells_at c bs n) (cells_at d bs n)
cells_beside R own c d block w size fits beside bs n unused = cells_zip R c d size bs n (λ b k used low.
    subst (AllZip R (part (offset_of c b.number) k c.bytes)) (sym (other_block c.bytes d.bytes b.number block.number w k c.block_size beside (λ same. apart b used same) fits low)) (zip_refl R own (part (offset_of c b.number) k c.bytes)))
  where
    apart : (b : Block) → 0 < uses b bs → b.number ≡ block.number → ⊥
    apart b used same = let e = uses-by_number b block bs same in omega (arith, e, used, unused)

-- a write in the header
pub cells_header : (R : Byte → Byte → Type 0) → ((x : Byte) → R x x) → (c d : Contents) → d.block_size ≡ c.block_size → Beside 0 4096 c.bytes d.bytes → (bs : List Block) (n : ℕ) → AllZip R (cells_at c bs n) (cells_at d bs n)
cells_header R own c d size beside bs n = cells_zip R c d size bs n (λ b k used low.
    subst (AllZip R (part (offset_of c b.number) k c.bytes)) (sym (part_after 0 4096 c.bytes d.bytes (offset_of c b.number) k beside (omega arith))) (zip_refl R own (part (offset_of c b.number) k c.bytes)))
