-- what a device in memory tells of its bytes, after a call
use Rattle.std.proofs.Common.{◌≡◌, inl, inr, ℕ, zero, suc, ◌+◌, ◌<◌, ◌≤◌, List, [], ◌∷◌, length, get_or, take, drop, map, replicate, Option, Some, None, refl, sym, ap, ◌∙◌, subst, arith}
use Rattle.std.proofs.lemmas.List.{length-map, get_or-map, take-map, drop-map}
use Rattle.qsg_disk.specs.Byte.{Byte, written, synced, values, zero_byte, part, AreUnsafe, Beside, EachPair, IsKeptOrSynced, IsCut}
use Rattle.qsg_disk_mem.specs.Cells.{Cell, now_of, byte_of, zero_cell, doubted, all_overwritten, settled, after_cut, all_cut}
use Rattle.qsg_disk_mem.proofs.Points.{part-map, get-cut, length-cut}

pub values_told : (cells : List Cell) → values (map byte_of cells) ≡ map now_of cells
values_told [] = refl
values_told (c ∷ cells) = ap (λ l. c.now ∷ l) (values_told cells)

pub read_told : (at n : ℕ) (cells : List Cell) → map now_of (part at n cells) ≡ values (part at n (map byte_of cells))
read_told at n cells = sym (ap values (part-map byte_of at n cells) ∙ values_told (part at n cells))

pub beside_told : (at n : ℕ) (old new : List Cell) → Beside at n old new → Beside at n (map byte_of old) (map byte_of new)
beside_told at n old new beside = record {
  before = take-map byte_of at new ∙ ap (map byte_of) beside.before ∙ sym (take-map byte_of at old);
  after = drop-map byte_of (at + n) new ∙ ap (map byte_of) beside.after ∙ sym (drop-map byte_of (at + n) old);
  same_length = length-map new byte_of ∙ beside.same_length ∙ sym (length-map old byte_of);
}

unsafe_doubted : (cells : List Cell) → AreUnsafe (map byte_of (map doubted cells))
unsafe_doubted [] k d less = absurd (omega arith)
unsafe_doubted (c ∷ cells) zero d less = refl
unsafe_doubted (c ∷ cells) (suc k) d less = unsafe_doubted cells k d (omega arith)

pub torn_doubted : (at n : ℕ) (old new : List Cell) → part at n new ≡ map doubted (part at n old) → AreUnsafe (part at n (map byte_of new))
torn_doubted at n old new is = subst AreUnsafe (sym (part-map byte_of at n new ∙ ap (map byte_of) is)) (unsafe_doubted (part at n old))

written_over : (vs : List ℕ) (cells : List Cell) → length cells ≡ length vs → map byte_of (all_overwritten vs cells) ≡ map written vs
written_over [] cells same = refl
written_over (v ∷ vs) [] same = absurd (omega arith)
written_over (v ∷ vs) (c ∷ cells) same = ap (λ l. written v ∷ l) (written_over vs cells (omega arith))

unsafe_over : (vs : List ℕ) (cells : List Cell) → AreUnsafe (map byte_of (all_overwritten vs cells))
unsafe_over [] cells k d less = absurd (omega arith)
unsafe_over (v ∷ vs) [] k d less = absurd (omega arith)
unsafe_over (v ∷ vs) (c ∷ cells) zero d less = refl
unsafe_over (v ∷ vs) (c ∷ cells) (suc k) d less = unsafe_over vs cells k d (omega arith)

pub torn_over : (at n : ℕ) (vs : List ℕ) (old new : List Cell) → part at n new ≡ all_overwritten vs (part at n old) → AreUnsafe (part at n (map byte_of new))
torn_over at n vs old new is = subst AreUnsafe (sym (part-map byte_of at n new ∙ ap (map byte_of) is)) (unsafe_over vs (part at n old))

pub written_told : (at n : ℕ) (vs : List ℕ) (old new : List Cell) → length (part at n old) ≡ length vs → part at n new ≡ all_overwritten vs (part at n old) → part at n (map byte_of new) ≡ map written vs
written_told at n vs old new long is = part-map byte_of at n new ∙ ap (map byte_of) is ∙ written_over vs (part at n old) long

pub synced_told : (cells : List Cell) → map byte_of (map settled cells) ≡ map synced (map byte_of cells)
synced_told [] = refl
synced_told (c ∷ cells) = ap (λ l. synced (byte_of c) ∷ l) (synced_told cells)

pub kept_same : (old new : List Byte) → new ≡ old → EachPair IsKeptOrSynced old new
kept_same old new is = record { same_length = ap length is; at = λ k d less. inl (ap (λ l. get_or l k d) is) }

pub kept_synced : (old new : List Byte) → new ≡ map synced old → EachPair IsKeptOrSynced old new
kept_synced old new is = record {
  same_length = ap length is ∙ length-map old synced;
  at = λ k d less. inr (ap (λ l. get_or l k d) is ∙ get_or-map synced old k d d less);
}

cut_cell : (pick k : ℕ) (now : ℕ) (before : Option ℕ) → IsCut (byte_of (record { now = now; before = before })) (byte_of (after_cut pick k (record { now = now; before = before })))
cut_cell pick k now None = record { is_safe = refl; keeps = refl }
cut_cell pick k now (Some old) = record { is_safe = refl; keeps = tt }

pub cut_told : (pick : ℕ) (cells : List Cell) → EachPair IsCut (map byte_of cells) (map byte_of (all_cut pick 0 cells))
cut_told pick cells = record {
  same_length = length-map (all_cut pick 0 cells) byte_of ∙ length-cut pick 0 cells ∙ sym (length-map cells byte_of);
  at = λ k d less. at_each k d (omega (arith, length-map cells byte_of));
}
  where
    at_each : (k : ℕ) (d : Byte) → k < length cells → IsCut (get_or (map byte_of cells) k d) (get_or (map byte_of (all_cut pick 0 cells)) k d)
    at_each k d less =
        let c = get_or cells k zero_cell in
        let before : get_or (map byte_of cells) k d ≡ byte_of c = get_or-map byte_of cells k zero_cell d less in
        let after : get_or (map byte_of (all_cut pick 0 cells)) k d ≡ byte_of (after_cut pick k c) =
        get_or-map byte_of (all_cut pick 0 cells) k zero_cell d (omega (arith, length-cut pick 0 cells))
        ∙ ap byte_of (get-cut pick 0 cells k zero_cell less ∙ ap (λ (n : ℕ). after_cut pick n c) (omega arith)) in
        subst (λ x. IsCut x (get_or (map byte_of (all_cut pick 0 cells)) k d)) (sym before) (subst (λ x. IsCut (byte_of c) x) (sym after) (cut_cell pick k c.now c.before))

pub zeros_told : (n : ℕ) → map byte_of (replicate n zero_cell) ≡ replicate n zero_byte
zeros_told zero = refl
zeros_told (suc n) = ap (λ l. zero_byte ∷ l) (zeros_told n)
