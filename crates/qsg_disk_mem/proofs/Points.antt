-- lists by what stands at each place
use Rattle.std.proofs.Common.{◌≡◌, inl, inr, ℕ, zero, suc, ◌+◌, ◌-◌, ◌<◌, ◌≤◌, List, [], ◌∷◌, length, get_or, take, drop, map, Option, Some, None, Bool, true, false, refl, sym, ap, ◌∙◌, subst, arith, length-drop, cond, replicate, ◌/◌, ◌%◌}
use Rattle.std.specs.Int.{bit_at}
use Rattle.std.proofs.lemmas.Nat.Bits.{bit_at-zero}
use Rattle.std.specs.Prelude.{◌==◌, slice_index, unwrap_or}
use Rattle.std.specs.List.{range_with_len}
use Rattle.std.proofs.lemmas.List.{same_lists, get_or-take, get_or-drop, get_or-map, length-take, length-map, get_or_default, get_or-replicate, length-replicate, take-map, drop-map}
use Rattle.std.proofs.lemmas.List.FromFn.{length-map-range_with_len, get_or-map-range_with_len}
use Rattle.qsg_disk.specs.Byte.{part, Beside}
use Rattle.std.proofs.lemmas.Bool.{cases_lt}
use Rattle.qsg_disk_mem.specs.Bits.{is_marked, AreMarkedWithin}
use Rattle.qsg_disk_mem.specs.Cells.{Cell, doubted, overwritten, all_overwritten, settled, after_cut, all_cut, now_of, zero_cell, before_at, cell_at, cells_of}

module _ {X : Type 0} where
  pub get-part : (at n : ℕ) (xs : List X) (k : ℕ) (d : X) → k < n → get_or (part at n xs) k d ≡ get_or xs (at + k) d
  get-part at n xs k d less = get_or-take n (drop at xs) k d less ∙ get_or-drop at xs k d

  pub length-part : (at n : ℕ) (xs : List X) → at + n ≤ length xs → length (part at n xs) ≡ n
  length-part at n xs within = omega (arith, length-take n (drop at xs), length-drop at xs)

  pub beside_points : (at n : ℕ) (old new : List X) → length new ≡ length old → at + n ≤ length old
      → ((k : ℕ) (d : X) → k < at → get_or new k d ≡ get_or old k d)
      → ((k : ℕ) (d : X) → at + n ≤ k → k < length old → get_or new k d ≡ get_or old k d)
      → Beside at n old new
  beside_points at n old new long within front back = record {
    before = same_lists (take at new) (take at old) (omega (arith, length-take at new, length-take at old))
        (λ k d less. let below : k < at = omega (arith, length-take at new) in get_or-take at new k d below ∙ front k d below ∙ sym (get_or-take at old k d below));
    after = same_lists (drop (at + n) new) (drop (at + n) old) (omega (arith, length-drop (at + n) new, length-drop (at + n) old))
        (λ k d less. get_or-drop (at + n) new k d ∙ back (at + n + k) d (omega arith) (omega (arith, length-drop (at + n) new)) ∙ sym (get_or-drop (at + n) old k d));
    same_length = long;
  }

  pub part_points : (at n : ℕ) (new ys : List X) → at + n ≤ length new → length ys ≡ n
      → ((k : ℕ) (d : X) → k < n → get_or new (at + k) d ≡ get_or ys k d) → part at n new ≡ ys
  part_points at n new ys within long each = same_lists (part at n new) ys (length-part at n new within ∙ sym long)
      (λ k d less. let below : k < n = omega (arith, length-part at n new within) in get-part at n new k d below ∙ each k d below)

pub length-cells : (v kept doubt : List ℕ) → length (cells_of v kept doubt) ≡ length v
length-cells v kept doubt = length-map-range_with_len (cell_at v kept doubt) 0 (length v)

-- from the view of a value
pub count : (v kept doubt : List ℕ) (cells : List Cell) → cells_of v kept doubt ≡ cells → length cells ≡ length v
count v kept doubt cells is = ap length (sym is) ∙ length-cells v kept doubt

pub get-cells : (v kept doubt : List ℕ) (k : ℕ) (d : Cell) → k < length v → get_or (cells_of v kept doubt) k d ≡ cell_at v kept doubt k
get-cells v kept doubt k d less = get_or-map-range_with_len (cell_at v kept doubt) 0 (length v) k k d less (omega arith)

abbrev pub cell : ℕ → Option ℕ → Cell
cell now before = record { now = now; before = before }

same_cell : (a b : ℕ) (p q : Option ℕ) → a ≡ b → p ≡ q → cell a p ≡ cell b q
same_cell a b p q now before = λ i. record { now = now i; before = before i }

-- a range that comes into doubt

module _ (v kept doubt kept2 doubt2 : List ℕ) (at n : ℕ) (within : at + n ≤ length v) where
  pub doubted_beside : ((k : ℕ) → k < at → before_at kept2 doubt2 k ≡ before_at kept doubt k) → ((k : ℕ) → at + n ≤ k → before_at kept2 doubt2 k ≡ before_at kept doubt k)
      → Beside at n (cells_of v kept doubt) (cells_of v kept2 doubt2)
  doubted_beside front back = beside_points at n _ _ (length-cells v kept2 doubt2 ∙ sym (length-cells v kept doubt)) (omega (arith, length-cells v kept doubt))
      (λ k d less. same k d (omega arith) (front k less))
      (λ k d from less. same k d (omega (arith, length-cells v kept doubt)) (back k from))
    where
      same : (k : ℕ) (d : Cell) → k < length v → before_at kept2 doubt2 k ≡ before_at kept doubt k → get_or (cells_of v kept2 doubt2) k d ≡ get_or (cells_of v kept doubt) k d
      same k d less is = get-cells v kept2 doubt2 k d less ∙ same_cell _ _ _ _ refl is ∙ sym (get-cells v kept doubt k d less)

  pub doubted_part : ((k : ℕ) → at ≤ k → k < at + n → before_at kept2 doubt2 k ≡ Some (unwrap_or (before_at kept doubt k) (slice_index v k)))
      → part at n (cells_of v kept2 doubt2) ≡ map doubted (part at n (cells_of v kept doubt))
  doubted_part range =
      let old = cells_of v kept doubt in
      let long : length (part at n old) ≡ n = length-part at n old (omega (arith, length-cells v kept doubt)) in
      part_points at n (cells_of v kept2 doubt2) (map doubted (part at n old)) (omega (arith, length-cells v kept2 doubt2)) (length-map (part at n old) doubted ∙ long)
      (λ k d less.
      get-cells v kept2 doubt2 (at + k) d (omega arith)
      ∙ same_cell _ _ _ _ refl (range (at + k) (omega arith) (omega arith))
      ∙ ap doubted (sym (get-cells v kept doubt (at + k) d (omega arith)) ∙ sym (get-part at n old k d less))
      ∙ sym (get_or-map doubted (part at n old) k d d (omega arith)))

mark_of : (kept doubt kept2 doubt2 : List ℕ) (k : ℕ) → before_at kept2 doubt2 k ≡ before_at kept doubt k → is_marked doubt2 k ≡ true → is_marked doubt k ≡ true
mark_of kept doubt kept2 doubt2 k same is = both (is_marked doubt2 k) (is_marked doubt k) _ _ same is
  where
    both : (b2 b : Bool) (x y : ℕ) → cond b2 (Some x) None ≡ cond b (Some y) None → b2 ≡ true → b ≡ true
    both true true x y e is = refl
    both true false x y e is = absurd (cc)
    both false b x y e is = absurd (cc)

-- bounds that take in the range hold the marks
pub widened_marked : (kept doubt kept2 doubt2 : List ℕ) (at n low high lo hi : ℕ) → AreMarkedWithin low high doubt
    → ((k : ℕ) → k < at → before_at kept2 doubt2 k ≡ before_at kept doubt k) → ((k : ℕ) → at + n ≤ k → before_at kept2 doubt2 k ≡ before_at kept doubt k)
    → lo ≤ at → at + n ≤ hi → (low < high → (lo ≤ low) × (high ≤ hi)) → AreMarkedWithin lo hi doubt2
widened_marked kept doubt kept2 doubt2 at n low high lo hi within front back from to wide k is = elim (cases_lt k at) [
  | inl below ↦ older (mark_of kept doubt kept2 doubt2 k (front k below) is)
  | inr above ↦ elim (cases_lt k (at + n)) [
    | inl inside ↦ (omega arith, omega arith)
    | inr beyond ↦ older (mark_of kept doubt kept2 doubt2 k (back k beyond) is)
  ]
]
  where
    older : is_marked doubt k ≡ true → (lo ≤ k) × (k < hi)
    older m = let w : (low ≤ k) × (k < high) = within k m in let o : (lo ≤ low) × (high ≤ hi) = wide (omega arith) in (omega arith, omega arith)

-- a range that is overwritten

length-all : (vs : List ℕ) (cs : List Cell) → length cs ≡ length vs → length (all_overwritten vs cs) ≡ length vs
length-all [] cs same = refl
length-all (v ∷ vs) [] same = absurd (omega arith)
length-all (v ∷ vs) (c ∷ cs) same = ap suc (length-all vs cs (omega arith))

get-all : (vs : List ℕ) (cs : List Cell) (k : ℕ) (d : Cell) → length cs ≡ length vs → k < length vs → get_or (all_overwritten vs cs) k d ≡ overwritten (get_or vs k 0) (get_or cs k d)
get-all [] cs k d same less = absurd (omega arith)
get-all (v ∷ vs) [] k d same less = absurd (omega arith)
get-all (v ∷ vs) (c ∷ cs) zero d same less = refl
get-all (v ∷ vs) (c ∷ cs) (suc k) d same less = get-all vs cs k d (omega arith) (omega arith)

module _ (v v2 kept doubt : List ℕ) (at : ℕ) (from : List ℕ) (old : List Cell) (within : at + length from ≤ length v) (long : length v2 ≡ length v)
    (beside : Beside at (length from) old (cells_of v kept doubt)) (range : part at (length from) (cells_of v kept doubt) ≡ map doubted (part at (length from) old)) where
  total : length (cells_of v kept doubt) ≡ length v
  total = length-cells v kept doubt

  pub overwritten_beside : ((k : ℕ) → k < at → slice_index v2 k ≡ slice_index v k) → ((k : ℕ) → at + length from ≤ k → slice_index v2 k ≡ slice_index v k)
      → Beside at (length from) old (cells_of v2 kept doubt)
  overwritten_beside front back = record { before = put.before ∙ beside.before; after = put.after ∙ beside.after; same_length = put.same_length ∙ beside.same_length }
    where
      same : (k : ℕ) (d : Cell) → k < length v → slice_index v2 k ≡ slice_index v k → get_or (cells_of v2 kept doubt) k d ≡ get_or (cells_of v kept doubt) k d
      same k d less is = get-cells v2 kept doubt k d (omega arith) ∙ same_cell _ _ _ _ is refl ∙ sym (get-cells v kept doubt k d less)

      put : Beside at (length from) (cells_of v kept doubt) (cells_of v2 kept doubt)
      put = beside_points at (length from) _ _ (length-cells v2 kept doubt ∙ long ∙ sym total) (omega (arith, total))
          (λ k d less. same k d (omega arith) (front k less))
          (λ k d from' less. same k d (omega (arith, total)) (back k from'))

  pub overwritten_part : ((k : ℕ) → at ≤ k → k < at + length from → slice_index v2 k ≡ slice_index from (k - at))
      → part at (length from) (cells_of v2 kept doubt) ≡ all_overwritten from (part at (length from) old)
  overwritten_part put =
      let olds : length old ≡ length v = sym beside.same_length ∙ total in
      let same : length (part at (length from) old) ≡ length from = length-part at (length from) old (omega arith) in
      part_points at (length from) (cells_of v2 kept doubt) (all_overwritten from (part at (length from) old)) (omega (arith, length-cells v2 kept doubt)) (length-all from (part at (length from) old) same)
      (λ k d less.
      let before : before_at kept doubt (at + k) ≡ (doubted (get_or (part at (length from) old) k d)).before =
      ap (λ (c : Cell). c.before) (sym (get-cells v kept doubt (at + k) d (omega arith)) ∙ sym (get-part at (length from) (cells_of v kept doubt) k d less)
      ∙ ap (λ (l : List Cell). get_or l k d) range ∙ get_or-map doubted (part at (length from) old) k d d (omega arith)) in
      get-cells v2 kept doubt (at + k) d (omega arith)
      ∙ same_cell _ _ _ _ (put (at + k) (omega arith) (omega arith) ∙ ap (λ (j : ℕ). get_or from j 0) (omega arith)) before
      ∙ sym (get-all from (part at (length from) old) k d same less))

-- nothing is in doubt

pub settled_cells : (v kept doubt doubt2 : List ℕ) → ((k : ℕ) → is_marked doubt2 k ≡ false) → cells_of v kept doubt2 ≡ map settled (cells_of v kept doubt)
settled_cells v kept doubt doubt2 none = same_lists _ _ (length-cells v kept doubt2 ∙ sym (length-map (cells_of v kept doubt) settled ∙ length-cells v kept doubt))
    (λ k d less.
    let below : k < length v = omega (arith, length-cells v kept doubt2) in
    get-cells v kept doubt2 k d below
    ∙ same_cell _ _ _ _ refl (ap (λ (b : Bool). cond b (Some (slice_index kept k)) None) (none k))
    ∙ ap settled (sym (get-cells v kept doubt k d below))
    ∙ sym (get_or-map settled (cells_of v kept doubt) k d d (omega (arith, length-cells v kept doubt))))

pub length-cut : (pick at : ℕ) (cs : List Cell) → length (all_cut pick at cs) ≡ length cs
length-cut pick at [] = refl
length-cut pick at (c ∷ cs) = ap suc (length-cut pick (at + 1) cs)

pub get-cut : (pick at : ℕ) (cs : List Cell) (k : ℕ) (d : Cell) → k < length cs → get_or (all_cut pick at cs) k d ≡ after_cut pick (at + k) (get_or cs k d)
get-cut pick at [] k d less = absurd (omega arith)
get-cut pick at (c ∷ cs) zero d less = ap (λ (n : ℕ). after_cut pick n c) (omega arith)
get-cut pick at (c ∷ cs) (suc k) d less = get-cut pick (at + 1) cs k d (omega arith) ∙ ap (λ (n : ℕ). after_cut pick n (get_or cs k d)) (omega arith)

pub cut_cells : (pick : ℕ) (v v2 kept doubt : List ℕ) → length v2 ≡ length v → ((k : ℕ) → k < length v → slice_index v2 k ≡ (after_cut pick k (cell_at v kept doubt k)).now)
    → map settled (cells_of v2 kept doubt) ≡ all_cut pick 0 (cells_of v kept doubt)
cut_cells pick v v2 kept doubt long chosen = same_lists _ _ (length-map (cells_of v2 kept doubt) settled ∙ length-cells v2 kept doubt ∙ long ∙ sym (length-cut pick 0 (cells_of v kept doubt) ∙ length-cells v kept doubt))
    (λ k d less.
    let below : k < length v = omega (arith, length-map (cells_of v2 kept doubt) settled, length-cells v2 kept doubt) in
    get_or-map settled (cells_of v2 kept doubt) k d d (omega (arith, length-cells v2 kept doubt))
    ∙ ap settled (get-cells v2 kept doubt k d (omega arith))
    ∙ same_cell _ _ _ _ (chosen k below) refl
    ∙ ap (λ (c : Cell). after_cut pick k c) (sym (get-cells v kept doubt k d below))
    ∙ ap (λ (n : ℕ). after_cut pick n (get_or (cells_of v kept doubt) k d)) (omega arith)
    ∙ sym (get-cut pick 0 (cells_of v kept doubt) k d (omega (arith, length-cells v kept doubt))))

-- the values now

pub now_cells : (v kept doubt : List ℕ) → map now_of (cells_of v kept doubt) ≡ v
now_cells v kept doubt = same_lists _ _ (length-map (cells_of v kept doubt) now_of ∙ length-cells v kept doubt)
    (λ k d less.
    let below : k < length v = omega (arith, length-map (cells_of v kept doubt) now_of, length-cells v kept doubt) in
    get_or-map now_of (cells_of v kept doubt) k zero_cell d (omega (arith, length-cells v kept doubt))
    ∙ ap now_of (get-cells v kept doubt k zero_cell below)
    ∙ get_or_default v k 0 d below)

pub part-map : {X Y : Type 0} (f : X → Y) (at n : ℕ) (xs : List X) → part at n (map f xs) ≡ map f (part at n xs)
part-map f at n xs = ap (take n) (drop-map f at xs) ∙ take-map f n (drop at xs)

pub read_part : (v kept doubt : List ℕ) (cells : List Cell) (at n : ℕ) → cells_of v kept doubt ≡ cells → part at n v ≡ map now_of (part at n cells)
read_part v kept doubt cells at n is = ap (part at n) (sym (now_cells v kept doubt) ∙ ap (map now_of) is) ∙ part-map now_of at n cells

-- a new device

abbrev pub zeros : ℕ → List ℕ
zeros m = replicate m 0

get-zeros : (m j : ℕ) → get_or (zeros m) j 0 ≡ 0
get-zeros zero j = refl
get-zeros (suc m) zero = refl
get-zeros (suc m) (suc j) = get-zeros m j

pub no_marks : (m k : ℕ) → is_marked (zeros m) k ≡ false
no_marks m k = ap (λ (n : ℕ). bit_at n (k % 8) == 1) (get-zeros m (k / 8)) ∙ ap (λ (n : ℕ). n == 1) (bit_at-zero (k % 8))

pub zero_cells : (n m : ℕ) (kept : List ℕ) → cells_of (zeros n) kept (zeros m) ≡ replicate n zero_cell
zero_cells n m kept = same_lists _ _ (length-cells (zeros n) kept (zeros m) ∙ length-replicate {A = ℕ} n 0 ∙ sym (length-replicate n zero_cell))
    (λ k d less.
    let below : k < n = omega (arith, length-cells (zeros n) kept (zeros m), length-replicate {A = ℕ} n 0) in
    get-cells (zeros n) kept (zeros m) k d (omega (arith, length-replicate {A = ℕ} n 0))
    ∙ same_cell _ _ _ _ (get-zeros n k) (ap (λ (b : Bool). cond b (Some (slice_index kept k)) None) (no_marks m k))
    ∙ sym (get_or-replicate n k zero_cell d below))
