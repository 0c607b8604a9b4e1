-- parts of a device's bytes, after a call
use Rattle.std.proofs.Common.{◌≡◌, inl, inr, ℕ, zero, suc, ◌+◌, ◌-◌, ◌≤◌, List, [], ◌∷◌, ◌++◌, take, drop, map, Some, refl, sym, ap, ◌∙◌, arith}
use Rattle.std.specs.List.{AllZip}
use Rattle.std.proofs.lemmas.List.{drop-take, take-take, drop-drop, take-append-drop}
use Rattle.qsg_disk.specs.Byte.{Byte, safe_byte, values, part, Beside, EachPair, IsKeptOrSynced, IsCut}

module _ {X : Type 0} where
  pub take-add : (n m : ℕ) (xs : List X) → take (n + m) xs ≡ take n xs ++ take m (drop n xs)
  take-add n m xs = sym (take-append-drop n (take (n + m) xs)) ∙ (λ i. take-take n (n + m) xs (omega arith) i ++ drop-take n m xs i)

  pub part-split : (at n m : ℕ) (xs : List X) → part at (n + m) xs ≡ part at n xs ++ part (at + n) m xs
  part-split at n m xs = take-add n m (drop at xs) ∙ ap (λ l. part at n xs ++ take m l) (drop-drop n at xs)

  -- a part in front of a change
  pub part_before : (at n : ℕ) (old new : List X) (m k : ℕ) → Beside at n old new → m + k ≤ at → part m k new ≡ part m k old
  part_before at n old new m k beside within =
      sym (drop-take m k new)
      ∙ ap (drop m) (sym (take-take (m + k) at new within) ∙ ap (take (m + k)) beside.before ∙ take-take (m + k) at old within)
      ∙ drop-take m k old

  drop_beyond : (n m : ℕ) (xs : List X) → n ≤ m → drop m xs ≡ drop (m - n) (drop n xs)
  drop_beyond n m xs le = sym (drop-drop (m - n) n xs ∙ ap (λ k. drop k xs) (omega arith))

  -- a part behind it
  pub part_after : (at n : ℕ) (old new : List X) (m k : ℕ) → Beside at n old new → at + n ≤ m → part m k new ≡ part m k old
  part_after at n old new m k beside beyond =
      ap (take k) (drop_beyond (at + n) m new beyond ∙ ap (drop (m - (at + n))) beside.after ∙ sym (drop_beyond (at + n) m old beyond))

pub zipped : (R : Byte → Byte → Type 0) (old new : List Byte) → EachPair R old new → AllZip R old new
zipped R [] [] each = tt
zipped R [] (y ∷ new) each = absurd (omega (arith, each.same_length))
zipped R (x ∷ old) [] each = absurd (omega (arith, each.same_length))
zipped R (x ∷ old) (y ∷ new) each = (each.at 0 x (omega arith), zipped R old new (record { same_length = omega (arith, each.same_length); at = λ k d less. each.at (suc k) d (omega arith) }))

pub AllZip-take : (R : Byte → Byte → Type 0) (n : ℕ) (old new : List Byte) → AllZip R old new → AllZip R (take n old) (take n new)
AllZip-take R zero old new each = tt
AllZip-take R (suc n) [] [] each = tt
AllZip-take R (suc n) [] (y ∷ new) each = each
AllZip-take R (suc n) (x ∷ old) [] each = each
AllZip-take R (suc n) (x ∷ old) (y ∷ new) each = (each.0, AllZip-take R n old new each.1)

pub AllZip-drop : (R : Byte → Byte → Type 0) (n : ℕ) (old new : List Byte) → AllZip R old new → AllZip R (drop n old) (drop n new)
AllZip-drop R zero old new each = each
AllZip-drop R (suc n) [] [] each = tt
AllZip-drop R (suc n) [] (y ∷ new) each = absurd each
AllZip-drop R (suc n) (x ∷ old) [] each = absurd each
AllZip-drop R (suc n) (x ∷ old) (y ∷ new) each = AllZip-drop R n old new each.1

pub zipped_part : (R : Byte → Byte → Type 0) (old new : List Byte) (at n : ℕ) → EachPair R old new → AllZip R (part at n old) (part at n new)
zipped_part R old new at n each = AllZip-take R n (drop at old) (drop at new) (AllZip-drop R at old new (zipped R old new each))

-- a safe byte stays, through a sync that fails or not, and through a cut
pub kept_byte : (v : ℕ) (new : Byte) → IsKeptOrSynced (safe_byte v) new → new ≡ safe_byte v
kept_byte v new (inl same) = same
kept_byte v new (inr same) = same

pub cut_byte : (v : ℕ) (new : Byte) → IsCut (safe_byte v) new → new ≡ safe_byte v
cut_byte v new cut = byte_is new v cut.keeps (cut.is_safe ∙ ap Some cut.keeps)
  where
    byte_is : (b : Byte) (v : ℕ) → b.value ≡ v → b.safe ≡ Some v → b ≡ safe_byte v
    byte_is b v value safe = λ i. record { value = value i; safe = safe i }

pub safe_kept : (vs : List ℕ) (new : List Byte) → AllZip IsKeptOrSynced (map safe_byte vs) new → new ≡ map safe_byte vs
safe_kept [] [] each = refl
safe_kept [] (y ∷ new) each = absurd each
safe_kept (v ∷ vs) [] each = absurd each
safe_kept (v ∷ vs) (y ∷ new) each = λ i. kept_byte v y each.0 i ∷ safe_kept vs new each.1 i

pub safe_cut : (vs : List ℕ) (new : List Byte) → AllZip IsCut (map safe_byte vs) new → new ≡ map safe_byte vs
safe_cut [] [] each = refl
safe_cut [] (y ∷ new) each = absurd each
safe_cut (v ∷ vs) [] each = absurd each
safe_cut (v ∷ vs) (y ∷ new) each = λ i. cut_byte v y each.0 i ∷ safe_cut vs new each.1 i

-- no sync changes a value
pub values_kept : (old new : List Byte) → AllZip IsKeptOrSynced old new → values new ≡ values old
values_kept [] [] each = refl
values_kept [] (y ∷ new) each = absurd each
values_kept (x ∷ old) [] each = absurd each
values_kept (x ∷ old) (y ∷ new) each = λ i. same each.0 i ∷ values_kept old new each.1 i
  where
    same : IsKeptOrSynced x y → y.value ≡ x.value
    same (inl is) = ap (λ b. b.value) is
    same (inr is) = ap (λ b. b.value) is
