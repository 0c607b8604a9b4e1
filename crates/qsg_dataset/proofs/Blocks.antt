-- blocks of a data set, and its header
use Rattle.std.proofs.Common.{◌≡◌, ◌≢◌, ℕ, Bool, true, false, ◌+◌, ◌*◌, ◌-◌, ◌/◌, ◌<◌, ◌≤◌, List, [], ◌∷◌, take, drop, map, refl, ap, sym, ◌∙◌, arith, inl, inr}
use Rattle.std.specs.Prelude.{Result, Ok, Err, OnOk, Option, Some, None, IfNone, IfSome}
use Rattle.std.proofs.Math.Nat.{mul-div_cancel, mul-le-mul_right}
use Rattle.std.proofs.lemmas.Bool.{cases_order, true≢false}
use Rattle.std.proofs.lemmas.List.{drop-take, drop-map, take-map, take-take}
use Rattle.qsg_disk.specs.Byte.{Byte, values, value_of, written, part, Beside}
use Rattle.qsg_disk.proofs.Parts.{part_before, part_after}
use Rattle.qsg_dataset.specs.Contents.{IsSized, header_of, rest_of}

-- the number of blocks is the only one
pub blocks_counted : (extent block_size n : ℕ) → IsSized extent block_size n → (extent - 4096) / block_size ≡ n
blocks_counted extent block_size n sized =
    ap (λ (m : ℕ). (m - 4096) / block_size) sized.exact
    ∙ ap (λ (m : ℕ). m / block_size) (omega arith)
    ∙ mul-div_cancel n (omega (arith, sized.some_bytes))

-- what was written is read
pub values-written : (vs : List ℕ) → values (map written vs) ≡ vs
values-written [] = refl
values-written (v ∷ vs) = ap (λ (l : List ℕ). v ∷ l) (values-written vs)

-- one block ends before the next one begins
block_before : (j k n block_size : ℕ) → j < k → n ≤ block_size → (4096 + j * block_size) + n ≤ 4096 + k * block_size
block_before j k n block_size less fits = let h = mul-le-mul_right block_size less in omega (arith, h)

-- a write within one block leaves the others
pub other_block : (old new : List Byte) (k block n m block_size : ℕ) → Beside (4096 + block * block_size) n old new → k ≢ block → n ≤ block_size → m ≤ block_size → part (4096 + k * block_size) m new ≡ part (4096 + k * block_size) m old
other_block old new k block n m block_size beside differ fits low =
    elim (cases_order k block) [
      | inl same ↦ absurd (differ same)
      | inr apart ↦ elim apart [
        | inl before ↦ part_before (4096 + block * block_size) n old new (4096 + k * block_size) m beside (block_before k block m block_size before low)
        | inr after ↦ part_after (4096 + block * block_size) n old new (4096 + k * block_size) m beside (block_before block k n block_size after fits)
      ]
    ]

-- and the header
pub header_beside : (old new : List Byte) (at n : ℕ) → Beside at n old new → 4096 ≤ at → header_of new ≡ header_of old
header_beside old new at n beside far = part_before at n old new 0 4096 beside (omega arith)

-- the header behind the gate, in what was read
pub values-rest : (bytes : List Byte) → drop 1 (values (header_of bytes)) ≡ values (rest_of bytes)
values-rest bytes = drop-map value_of 1 (header_of bytes) ∙ ap (map value_of) (drop-take 1 4095 bytes)

-- what follows from what a success or an absence says
pub on_ok : {T E P Q : Type 0} (r : Result T E) → (P → Q) → OnOk r P → OnOk r Q
on_ok (Ok v) f h = f h
on_ok (Err e) f h = tt

pub if_none : {X P Q : Type 0} (o : Option X) → (P → Q) → IfNone o P → IfNone o Q
if_none None f h = f h
if_none (Some x) f h = tt

pub if_some : {X : Type 0} {P Q R : X → Type 0} (o : Option X) → ((x : X) → P x → Q x → R x) → IfSome o P → IfSome o Q → IfSome o R
if_some None f p q = tt
if_some (Some x) f p q = f x p q

pub no_both : (b : Bool) → b ≡ true → b ≡ false → ⊥
no_both b yes_it_is isnt = true≢false (sym yes_it_is ∙ isnt)

pub above : (x b : ℕ) → x ≡ 4096 + b → 4096 ≤ x
above x b is = omega (arith, is)

pub read_rest : (bytes : List Byte) (header : List ℕ) → header ≡ values (header_of bytes) → take 4095 (drop 1 header) ≡ values (rest_of bytes)
read_rest bytes header is =
    ap (λ (l : List ℕ). take 4095 (drop 1 l)) is
    ∙ ap (take 4095) (values-rest bytes)
    ∙ take-map value_of 4095 (rest_of bytes)
    ∙ ap (map value_of) (take-take 4095 4095 (drop 1 bytes) (omega arith))
