-- which blocks are used in a map after calls
use Rattle.std.proofs.Common.{◌≡◌, ◌∙◌, sym, ap, refl, subst, inl, inr, ℕ, zero, suc, ◌+◌, ◌<◌, ◌≤◌, Bool, true, false, not, cond, ◌&&◌, ◌||◌, ◌==◌, List, [], ◌∷◌, length, map, take, replicate, get_or, slice_set, Option, None, Some, arith, zero-add}
use Rattle.std.specs.List.{AllByRecursion}
use Rattle.std.specs.List.Sorted.{IsStrictlyIncreasing}
use Rattle.std.proofs.lemmas.List.{length-take-le, get_or_past, get_or-set_other, get_or-take, take-map}
use Rattle.std.proofs.lemmas.List.Sums.{sum_by-set}
use Rattle.std.proofs.lemmas.Bool.{eq-eqb, ne_eqb, cases_eq, cases_lt}
use Rattle.qsg_num.specs.declared.ids.Block.{Block}
use Rattle.qsg_num.specs.declared.seats.TaskNo.{TaskNo}
use Rattle.qsg_space.specs.Spaces.{is_used, is_free, free_from, free_blocks, free_count, marked, has_block, number_of}
use Rattle.qsg_space.proofs.Marking.{length-marked, get_or-marked}
use Rattle.qsg_space.proofs.Free.{length-free_from, has-free_from, free_from-rises}
use Rattle.qsg_datasets.specs.declared.member_data_set.KeptMap.{KeptMap}
use Rattle.qsg_datasets.specs.Kept.{KeptSet, is_of_epoch, stands, used_by, used_in, freed_in, claimed_in, given, taken}
use Rattle.qsg_datasets.proofs.Maps.{HasSize}

-- ---- marks

or_cond : (h u : Bool) → cond h true u ≡ (u || h)
or_cond true true = refl
or_cond true false = refl
or_cond false true = refl
or_cond false false = refl

and_cond : (h u : Bool) → cond h false u ≡ (u && not h)
and_cond true true = refl
and_cond true false = refl
and_cond false true = refl
and_cond false false = refl

and_true : (u : Bool) → u ≡ (u && true)
and_true true = refl
and_true false = refl

used_past : (used : List Bool) (b : Block) → length used ≤ b.number → is_used used b ≡ false
used_past used b past = get_or_past used b.number false past

used_none : (n k : ℕ) → get_or (replicate n false) k false ≡ false
used_none zero k = refl
used_none (suc n) zero = refl
used_none (suc n) (suc k) = used_none n k

-- a block is used once it was marked so
pub used_marked : (bs : List Block) (used : List Bool) (b : Block) → b.number < length used → is_used (marked true bs used) b ≡ (is_used used b || has_block b bs)
used_marked bs used b low = get_or-marked true bs used b false low ∙ or_cond (has_block b bs) (is_used used b)

-- and isn't once it was marked free
pub freed_marked : (bs : List Block) (used : List Bool) (b : Block) → is_used (marked false bs used) b ≡ (is_used used b && not (has_block b bs))
freed_marked bs used b = elim (cases_lt b.number (length used)) [
  | inl low ↦ get_or-marked false bs used b false low ∙ and_cond (has_block b bs) (is_used used b)
  | inr past ↦ used_past (marked false bs used) b (omega (arith, length-marked false bs used)) ∙ sym (ap (λ (u : Bool). u && not (has_block b bs)) (used_past used b past))
]

-- ---- what is given

or_more : (p q r : Bool) → (q ≡ true → r ≡ true) → (p || q) ≡ true → (p || r) ≡ true
or_more true q r more h = refl
or_more false q r more h = more h

or_first : (p q : Bool) → p ≡ true → (p || q) ≡ true
or_first true q h = refl
or_first false q h = absurd (cc)

or_second : (p q : Bool) → q ≡ true → (p || q) ≡ true
or_second true q h = refl
or_second false q h = h

has_take : (n : ℕ) (bs : List Block) (b : Block) → has_block b (take n bs) ≡ true → has_block b bs ≡ true
has_take zero bs b h = absurd (cc)
has_take (suc n) [] b h = h
has_take (suc n) (x ∷ bs) b h = or_more (x.number == b.number) (has_block b (take n bs)) (has_block b bs) (has_take n bs b) h

-- what holds of each block that is there
all_has : (P : Block → Type 0) (bs : List Block) → ((b : Block) → has_block b bs ≡ true → P b) → AllByRecursion P bs
all_has P [] each = tt
all_has P (x ∷ bs) each =
    (each x (or_first (x.number == x.number) (has_block x bs) (eq-eqb x.number x.number refl)), all_has P bs (λ b h. each b (or_second (x.number == b.number) (has_block b bs) h)))

pub free_given : (n : ℕ) (used : List Bool) (b : Block) → has_block b (take n (free_blocks used)) ≡ true → is_free used b ≡ true
free_given n used b h = sym (has-free_from b 0 b.number used (sym (zero-add b.number))) ∙ has_take n (free_blocks used) b h

free_low : (used : List Bool) (b : Block) → is_free used b ≡ true → b.number < length used
free_low used b h = elim (cases_lt b.number (length used)) [
  | inl low ↦ low
  | inr past ↦ absurd (cc (h, ap not (get_or_past used b.number true past)))
]

pub within_given : (n most : ℕ) (used : List Bool) → length used ≡ most → AllByRecursion (λ (b : Block). b.number < most) (take n (free_blocks used))
within_given n most used size = all_has (λ (b : Block). b.number < most) (take n (free_blocks used)) (λ b h. omega (arith, size, free_low used b (free_given n used b h)))

length_take : (n : ℕ) (xs : List ℕ) → (length (take n xs) ≤ n) × (length (take n xs) ≤ length xs)
length_take zero xs = (omega arith, omega arith)
length_take (suc n) [] = (omega arith, omega arith)
length_take (suc n) (x ∷ xs) = let rest = length_take n xs in (omega (arith, rest.0), omega (arith, rest.1))

rises_take : (n : ℕ) (xs : List ℕ) → IsStrictlyIncreasing xs → IsStrictlyIncreasing (take n xs)
rises_take n xs rises j h =
    let size = length_take n xs in
    let first : get_or (take n xs) j 0 ≡ get_or xs j 0 = get_or-take n xs j 0 (omega (arith, size.0, h)) in
    let second : get_or (take n xs) (j + 1) 0 ≡ get_or xs (j + 1) 0 = get_or-take n xs (j + 1) 0 (omega (arith, size.0, h)) in
    omega (arith, rises j (omega (arith, size.1, h)), first, second)

pub rises_given : (n : ℕ) (used : List Bool) → IsStrictlyIncreasing (map number_of (take n (free_blocks used)))
rises_given n used = subst IsStrictlyIncreasing (take-map number_of n (free_blocks used)) (rises_take n (map number_of (free_blocks used)) (free_from-rises 0 used))

pub length_given : (n : ℕ) (used : List Bool) → n ≤ free_count used → length (take n (free_blocks used)) ≡ n
length_given n used room = length-take-le n (free_blocks used) (omega (arith, length-free_from 0 used, room))

-- ---- what is taken

not_true : (b : Bool) → (b ≡ true → ⊥) → b ≡ false
not_true true h = absurd (h refl)
not_true false h = refl

none_past : (n : ℕ) (used : List Bool) (b : Block) → length used ≤ b.number → has_block b (take n (free_blocks used)) ≡ false
none_past n used b past = not_true (has_block b (take n (free_blocks used))) (λ h. omega (arith, past, free_low used b (free_given n used b h)))

used_given : (n : ℕ) (used : List Bool) (b : Block) → is_used (marked true (take n (free_blocks used)) used) b ≡ (is_used used b || has_block b (take n (free_blocks used)))
used_given n used b = elim (cases_lt b.number (length used)) [
  | inl low ↦ used_marked (take n (free_blocks used)) used b low
  | inr past ↦ used_past (marked true (take n (free_blocks used)) used) b (omega (arith, length-marked true (take n (free_blocks used)) used))
      ∙ sym (ap (λ (u : Bool). u || has_block b (take n (free_blocks used))) (used_past used b past) ∙ none_past n used b past)
]

map_taken : (t : TaskNo) (epoch n : ℕ) (set : KeptSet) → used_in epoch (taken t epoch n set) ≡ marked true (given epoch n set) (used_in epoch set)
map_taken t epoch n set = ap (λ (b : Bool). cond b (marked true (given epoch n set) (used_in epoch set)) (replicate set.contents.blocks false)) (eq-eqb epoch epoch refl)

pub used_taken : (t : TaskNo) (epoch n : ℕ) (set : KeptSet) (b : Block) → is_used (used_in epoch (taken t epoch n set)) b ≡ (is_used (used_in epoch set) b || has_block b (given epoch n set))
used_taken t epoch n set b = ap (λ (used : List Bool). is_used used b) (map_taken t epoch n set) ∙ used_given n (used_in epoch set) b

-- blocks in rising order, from a number on
abbrev AreAbove : ℕ → List Block → Type 0
AreAbove k [] = Unit {0}
AreAbove k (b ∷ bs) = (k ≤ b.number) × AreAbove (b.number + 1) bs

above_less : (j k : ℕ) (bs : List Block) → j ≤ k → AreAbove k bs → AreAbove j bs
above_less j k [] less above = tt
above_less j k (b ∷ bs) less above = (omega (arith, above.0), above.1)

above_free : (k : ℕ) (used : List Bool) → AreAbove k (free_from k used)
above_free k [] = tt
above_free k (true ∷ used) = above_less k (k + 1) (free_from (k + 1) used) (omega arith) (above_free (k + 1) used)
above_free k (false ∷ used) = (omega arith, above_free (k + 1) used)

above_take : (n k : ℕ) (bs : List Block) → AreAbove k bs → AreAbove k (take n bs)
above_take zero k bs above = tt
above_take (suc n) k [] above = tt
above_take (suc n) k (b ∷ bs) above = (above.0, above_take n (b.number + 1) bs above.1)

abbrev AreFree : List Bool → List Block → Type 0
AreFree used bs = AllByRecursion (λ (b : Block). is_free used b ≡ true) bs

free_stays : (j k : ℕ) (used : List Bool) (bs : List Block) → j < k → AreAbove k bs → AreFree used bs → AreFree (slice_set used j true) bs
free_stays j k used [] less above free = tt
free_stays j k used (b ∷ bs) less above free = (
  ap not (get_or-set_other used j b.number true true (λ e. omega (arith, e, less, above.0))) ∙ free.0,
  free_stays j (b.number + 1) used bs (omega (arith, less, above.0)) above.1 free.1,
)

one_less : (u : Bool) (a c : ℕ) → not u ≡ true → a + cond (not true) 1 0 + cond (not u) 1 0 ≡ c → a + 1 ≡ c
one_less true a c free sum = absurd (cc)
one_less false a c free sum = omega (arith, sum)

count_set : (used : List Bool) (b : Block) → is_free used b ≡ true → free_count (slice_set used b.number true) + 1 ≡ free_count used
count_set used b free =
    let sum = sum_by-set (λ (x : Bool). cond (not x) 1 0) used b.number true true (free_low used b free) in
    one_less (get_or used b.number true) (free_count (slice_set used b.number true)) (free_count used) free (omega (arith, sum))

count_marked : (k : ℕ) (bs : List Block) (used : List Bool) → AreAbove k bs → AreFree used bs → free_count (marked true bs used) + length bs ≡ free_count used
count_marked k [] used above free = omega arith
count_marked k (b ∷ bs) used above free =
    let rest = count_marked (b.number + 1) bs (slice_set used b.number true) above.1 (free_stays b.number (b.number + 1) used bs (omega arith) above.1 free.1) in
    let one = count_set used b free.0 in
    omega (arith, rest, one)

count_given : (n : ℕ) (used : List Bool) → n ≤ free_count used → free_count (marked true (take n (free_blocks used)) used) + n ≡ free_count used
count_given n used room =
    let count = count_marked 0 (take n (free_blocks used)) used (above_take n 0 (free_blocks used) (above_free 0 used)) (all_has (λ (b : Block). is_free used b ≡ true) (take n (free_blocks used)) (free_given n used)) in
    omega (arith, count, length_given n used room)

pub count_taken : (t : TaskNo) (epoch n : ℕ) (set : KeptSet) → n ≤ free_count (used_in epoch set) → free_count (used_in epoch (taken t epoch n set)) + n ≡ free_count (used_in epoch set)
count_taken t epoch n set room = ap (λ (used : List Bool). free_count used + n) (map_taken t epoch n set) ∙ count_given n (used_in epoch set) room

-- ---- what is freed

map_either : (b : Bool) (e : ℕ) (m : KeptMap) (used : List Bool) → is_of_epoch e (Some (cond b (record m { used = used }) m)) ≡ (m.epoch == e)
map_either true e m used = refl
map_either false e m used = refl

pub map_freed : (epoch e : ℕ) (bs : List Block) (map : Option KeptMap) → is_of_epoch e (freed_in epoch bs map) ≡ is_of_epoch e map
map_freed epoch e bs None = refl
map_freed epoch e bs (Some m) = map_either (m.epoch == epoch) e m (marked false bs m.used)

-- by whether the map is of the epoch that is looked at, and of that of the blocks
used_either : (here there same h : Bool) (n : ℕ) (bs : List Block) (m : KeptMap) (b : Block) → (here ≡ true → same ≡ there) → h ≡ has_block b bs
    → is_used (cond here (cond there (marked false bs m.used) m.used) (replicate n false)) b ≡ (is_used (cond here m.used (replicate n false)) b && not (same && h))
used_either true true same h n bs m b agree has = freed_marked bs m.used b ∙ sym (ap (λ (s : Bool). is_used m.used b && not (s && h)) (agree refl) ∙ ap (λ (x : Bool). is_used m.used b && not x) has)
used_either true false same h n bs m b agree has = and_true (is_used m.used b) ∙ sym (ap (λ (s : Bool). is_used m.used b && not (s && h)) (agree refl))
used_either false there same h n bs m b agree has = used_none n b.number ∙ sym (ap (λ (x : Bool). x && not (same && h)) (used_none n b.number))

open_either : (there : Bool) (e n : ℕ) (m : KeptMap) (used : List Bool) → used_by e n (Some (cond there (record m { used = used }) m)) ≡ cond (m.epoch == e) (cond there used m.used) (replicate n false)
open_either true e n m used = refl
open_either false e n m used = refl

agree_on : (a e epoch : ℕ) → (a == e) ≡ true → (e == epoch) ≡ (a == epoch)
agree_on a e epoch same = elim (cases_eq a e) [
  | inl is ↦ ap (λ (n : ℕ). n == epoch) (sym is)
  | inr isnt ↦ absurd (cc (same, ne_eqb a e isnt))
]

pub used_freed : (epoch e n : ℕ) (bs : List Block) (map : Option KeptMap) (b : Block) → is_used (used_by e n (freed_in epoch bs map)) b ≡ (is_used (used_by e n map) b && not ((e == epoch) && has_block b bs))
used_freed epoch e n bs None b = used_none n b.number ∙ sym (ap (λ (x : Bool). x && not ((e == epoch) && has_block b bs)) (used_none n b.number))
used_freed epoch e n bs (Some m) b =
    ap (λ (used : List Bool). is_used used b) (open_either (m.epoch == epoch) e n m (marked false bs m.used))
    ∙ used_either (m.epoch == e) (m.epoch == epoch) (e == epoch) (has_block b bs) n bs m b (agree_on m.epoch e epoch) refl

-- ---- what is claimed

pub map_claimed : (e : ℕ) (bs : List Block) (map : Option KeptMap) → is_of_epoch e (claimed_in bs map) ≡ is_of_epoch e map
map_claimed e bs None = refl
map_claimed e bs (Some m) = refl

pub used_claimed : (e n : ℕ) (bs : List Block) (map : Option KeptMap) (b : Block) → HasSize n map → is_of_epoch e map ≡ true → b.number < n
    → is_used (used_by e n (claimed_in bs map)) b ≡ (is_used (used_by e n map) b || has_block b bs)
used_claimed e n bs None b has stands low = absurd (cc)
used_claimed e n bs (Some m) b has stands low =
    let as_is : (used : List Bool) → cond (m.epoch == e) used (replicate n false) ≡ used = λ used. ap (λ (x : Bool). cond x used (replicate n false)) stands in
    ap (λ (used : List Bool). is_used used b) (as_is (marked true bs m.used)) ∙ used_marked bs m.used b (omega (arith, has, low))
    ∙ sym (ap (λ (used : List Bool). is_used used b || has_block b bs) (as_is m.used))
