-- how often a block is listed, held and used
use Rattle.std.proofs.Common.{◌≡◌, ◌≢◌, ℕ, zero, suc, ◌+◌, ◌<◌, ◌≤◌, Bool, true, false, cond, List, [], ◌∷◌, ◌++◌, Option, Some, None, refl, sym, ap, ◌∙◌, arith, length, inl, inr, subst, get_or, take, slice_set}
use Rattle.std.specs.Prelude.{if◌then◌else◌, ◌==◌, ◌||◌, ◌⊎◌, slice_index_or, replicate}
use Rattle.std.specs.List.{cons_option, AllByRecursion}
use Rattle.std.proofs.lemmas.Bool.{cases_eq, cases_lt, cases_Bool, eq-eqb, ne_eqb}
use Rattle.qsg_num.specs.declared.seats.Member.{Member}
use Rattle.qsg_num.specs.declared.ids.Block.{Block}
use Rattle.qsg_num.specs.declared.ids.EntryId.{EntryId}
use Rattle.qsg_num.specs.Seats.{member_number}
use Rattle.qsg_lists.specs.declared.parts.Entry.{Entry}
use Rattle.qsg_lists.specs.declared.parts.Place.TheVariants.{Offloaded}
use Rattle.qsg_lists.specs.Entries.{entry_at, revise}
use Rattle.qsg_lists.proofs.Lookups.{revise-head, revise-tail, entry_at-head, entry_at-tail}
use Rattle.qsg_space.specs.Spaces.{marked, has_block, free_from, free_blocks, is_used, block_at}
use Rattle.qsg_space.proofs.Marking.{get_or-marked, length-marked}
use Rattle.qsg_datasets.specs.declared.member_data_set.Hand.{Hand}
use Rattle.qsg_blocks.specs.State.{uses, lists, tally, holds, reserved, used_once}

-- ---- a block in a list

pub uses-head : (b x : Block) (bs : List Block) → x.number ≡ b.number → uses b (x ∷ bs) ≡ 1 + uses b bs
uses-head b x bs same = rw (eq-eqb x.number b.number same) refl

pub uses-tail : (b x : Block) (bs : List Block) → x.number ≢ b.number → uses b (x ∷ bs) ≡ uses b bs
uses-tail b x bs differ = let e : uses b (x ∷ bs) ≡ 0 + uses b bs = ap (λ c. (if c then 1 else 0) + uses b bs) (ne_eqb x.number b.number differ) in omega (arith, e)

pub uses-by_number : (a b : Block) (bs : List Block) → a.number ≡ b.number → uses a bs ≡ uses b bs
uses-by_number a b [] same = refl
uses-by_number a b (x ∷ bs) same = let r = uses-by_number a b bs same in λ i. (if x.number == same i then 1 else 0) + r i

pub has-used : (b : Block) (bs : List Block) → has_block b bs ≡ true → 0 < uses b bs
has-used b [] has = absurd cc
has-used b (x ∷ bs) has = elim (cases_eq x.number b.number) [
  | inl same ↦ let h = uses-head b x bs same in omega (arith, h)
  | inr differ ↦ let r = has-used b bs (sym (ap (λ c. c || has_block b bs) (ne_eqb x.number b.number differ)) ∙ has) in let t = uses-tail b x bs differ in omega (arith, r, t)
]

pub has_not-used : (b : Block) (bs : List Block) → has_block b bs ≡ false → uses b bs ≡ 0
has_not-used b [] has = refl
has_not-used b (x ∷ bs) has = elim (cases_eq x.number b.number) [
  | inl same ↦ let h : true ≡ false = sym (ap (λ c. c || has_block b bs) (eq-eqb x.number b.number same)) ∙ has in absurd cc
  | inr differ ↦ uses-tail b x bs differ ∙ has_not-used b bs (sym (ap (λ c. c || has_block b bs) (ne_eqb x.number b.number differ)) ∙ has)
]

pub uses-take : (b : Block) (n : ℕ) (bs : List Block) → uses b (take n bs) ≤ uses b bs
uses-take b zero bs = omega arith
uses-take b (suc n) [] = omega arith
uses-take b (suc n) (x ∷ bs) = let r = uses-take b n bs in omega (arith, r)

-- ---- used in a map

pub used-one : (used : List Bool) (b : Block) → used_once used b ≤ 1
used-one used b = by (is_used used b)
  where
    by : (c : Bool) → (if c then 1 else 0) ≤ 1
    by true = omega arith
    by false = omega arith

get_or-past : (used : List Bool) (i : ℕ) → length used ≤ i → slice_index_or used i false ≡ false
get_or-past [] i past = refl
get_or-past (x ∷ used) zero past = absurd (omega arith)
get_or-past (x ∷ used) (suc i) past = get_or-past used i (omega arith)

pub used-past : (used : List Bool) (b : Block) → length used ≤ b.number → used_once used b ≡ 0
used-past used b past = rw (get_or-past used b.number past) refl

pub used-blank : (n : ℕ) (b : Block) → used_once (replicate n false) b ≡ 0
used-blank n b = rw (blank n b.number) refl
  where
    blank : (n i : ℕ) → slice_index_or (replicate n false) i false ≡ false
    blank zero i = refl
    blank (suc n) zero = refl
    blank (suc n) (suc i) = blank n i

once-true : (used : List Bool) (b : Block) → is_used used b ≡ true → used_once used b ≡ 1
once-true used b is = rw is refl

once-false : (used : List Bool) (b : Block) → is_used used b ≡ false → used_once used b ≡ 0
once-false used b is = rw is refl

cases_has : (b : Block) (bs : List Block) → (has_block b bs ≡ true) ⊎ (has_block b bs ≡ false)
cases_has b bs = cases_Bool (has_block b bs)

-- blocks that were free are used
pub used-marked : (bs : List Block) (used : List Bool) (b : Block) → uses b bs + used_once used b ≤ 1 → (0 < uses b bs → b.number < length used) → used_once (marked true bs used) b ≡ used_once used b + uses b bs
used-marked bs used b once within = elim (cases_lt b.number (length used)) [
  | inl inside ↦ elim (cases_has b bs) [
    | inl has ↦
        let k = once-true (marked true bs used) b (get_or-marked true bs used b false inside ∙ ap (λ c. cond c true (get_or used b.number false)) has) in
        let u = has-used b bs has in
        omega (arith, k, u, once)
    | inr hasnt ↦
        let k : used_once (marked true bs used) b ≡ used_once used b = ap (λ c. if c then 1 else 0) (get_or-marked true bs used b false inside ∙ ap (λ c. cond c true (get_or used b.number false)) hasnt) in
        let u = has_not-used b bs hasnt in
        omega (arith, k, u)
  ]
  | inr outside ↦
      let k = used-past (marked true bs used) b (subst (λ n. n ≤ b.number) (sym (length-marked true bs used)) outside) in
      let l = used-past used b outside in
      elim (cases_has b bs) [
        | inl has ↦ let u = has-used b bs has in let w = within u in absurd (omega (arith, w, outside))
        | inr hasnt ↦ let u = has_not-used b bs hasnt in omega (arith, k, l, u)
      ]
]

-- blocks that were used are free
pub used-freed : (bs : List Block) (used : List Bool) (b : Block) → uses b bs ≤ used_once used b → used_once (marked false bs used) b + uses b bs ≡ used_once used b
used-freed bs used b once = elim (cases_lt b.number (length used)) [
  | inl inside ↦ elim (cases_has b bs) [
    | inl has ↦
        let k = once-false (marked false bs used) b (get_or-marked false bs used b false inside ∙ ap (λ c. cond c false (get_or used b.number false)) has) in
        let u = has-used b bs has in
        let o = used-one used b in
        omega (arith, k, u, once, o)
    | inr hasnt ↦
        let k : used_once (marked false bs used) b ≡ used_once used b = ap (λ c. if c then 1 else 0) (get_or-marked false bs used b false inside ∙ ap (λ c. cond c false (get_or used b.number false)) hasnt) in
        let u = has_not-used b bs hasnt in
        omega (arith, k, u)
  ]
  | inr outside ↦
      let k = used-past (marked false bs used) b (subst (λ n. n ≤ b.number) (sym (length-marked false bs used)) outside) in
      let l = used-past used b outside in
      omega (arith, k, l, once)
]

-- each free block is found once, and is in range
none-below : (b : Block) (k : ℕ) (used : List Bool) → b.number < k → uses b (free_from k used) ≡ 0
none-below b k [] low = refl
none-below b k (true ∷ used) low = none-below b (k + 1) used (omega arith)
none-below b k (false ∷ used) low =
    let r = none-below b (k + 1) used (omega arith) in
    let differ : k ≢ b.number = λ e. omega (arith, e, low) in
    uses-tail b (block_at k) (free_from (k + 1) used) differ ∙ r

abbrev bit : Bool → ℕ
bit c = if c then 1 else 0

free_from-once : (b : Block) (k n : ℕ) (used : List Bool) → b.number ≡ k + n → uses b (free_from k used) + bit (slice_index_or used n false) ≤ 1
free_from-once b k n [] e = omega arith
free_from-once b k zero (true ∷ used) e = let r = none-below b (k + 1) used (omega arith) in omega (arith, r)
free_from-once b k zero (false ∷ used) e =
    let r = none-below b (k + 1) used (omega arith) in
    let h = uses-head b (block_at k) (free_from (k + 1) used) (omega arith) in
    omega (arith, r, h)
free_from-once b k (suc n) (true ∷ used) e = free_from-once b (k + 1) n used (omega arith)
free_from-once b k (suc n) (false ∷ used) e =
    let differ : k ≢ b.number = λ s. omega (arith, e, s) in
    let t = uses-tail b (block_at k) (free_from (k + 1) used) differ in
    let r = free_from-once b (k + 1) n used (omega arith) in
    omega (arith, t, r)

free_from-within : (b : Block) (k n : ℕ) (used : List Bool) → b.number ≡ k + n → 0 < uses b (free_from k used) → n < length used
free_from-within b k n [] e found = absurd (omega (arith, found))
free_from-within b k zero (x ∷ used) e found = omega arith
free_from-within b k (suc n) (true ∷ used) e found = let r = free_from-within b (k + 1) n used (omega arith) found in omega (arith, r)
free_from-within b k (suc n) (false ∷ used) e found =
    let differ : k ≢ b.number = λ s. omega (arith, e, s) in
    let t = uses-tail b (block_at k) (free_from (k + 1) used) differ in
    let r = free_from-within b (k + 1) n used (omega arith) (omega (arith, t, found)) in
    omega (arith, r)

pub given-once : (b : Block) (n : ℕ) (used : List Bool) → uses b (take n (free_blocks used)) + used_once used b ≤ 1
given-once b n used =
    let t = uses-take b n (free_blocks used) in
    let f : uses b (free_blocks used) + used_once used b ≤ 1 = free_from-once b 0 b.number used (omega arith) in
    omega (arith, t, f)

pub given-within : (b : Block) (n : ℕ) (used : List Bool) → 0 < uses b (take n (free_blocks used)) → b.number < length used
given-within b n used found = let t = uses-take b n (free_blocks used) in free_from-within b 0 b.number used (omega arith) (omega (arith, t, found))

-- ---- held by tasks

pub holds-blank : (epoch : ℕ) (b : Block) (hand : Hand) → hand.blocks ≡ [] → holds epoch b hand ≡ 0
holds-blank epoch b hand blank = by (hand.epoch == epoch)
  where
    by : (c : Bool) → (if c then uses b hand.blocks else 0) ≡ 0
    by true = ap (uses b) blank
    by false = refl

pub holds-now : (epoch : ℕ) (b : Block) (hand : Hand) → hand.epoch ≡ epoch → holds epoch b hand ≡ uses b hand.blocks
holds-now epoch b hand now = rw (eq-eqb hand.epoch epoch now) refl

pub holds-other : (epoch : ℕ) (b : Block) (hand : Hand) → hand.epoch ≢ epoch → holds epoch b hand ≡ 0
holds-other epoch b hand other = rw (ne_eqb hand.epoch epoch other) refl

pub holds-most : (epoch : ℕ) (b : Block) (hand : Hand) → holds epoch b hand ≤ uses b hand.blocks
holds-most epoch b hand = by (hand.epoch == epoch)
  where
    by : (c : Bool) → (if c then uses b hand.blocks else 0) ≤ uses b hand.blocks
    by true = omega arith
    by false = omega arith

pub reserved-set : (epoch : ℕ) (b : Block) (hands : List Hand) (k : ℕ) (d new : Hand) → k < length hands
    → reserved epoch b (slice_set hands k new) + holds epoch b (slice_index_or hands k d) ≡ reserved epoch b hands + holds epoch b new
reserved-set epoch b [] k d new within = absurd (omega arith)
reserved-set epoch b (h ∷ hands) zero d new within = omega arith
reserved-set epoch b (h ∷ hands) (suc k) d new within = let r = reserved-set epoch b hands k d new (omega arith) in omega (arith, r)

pub reserved-at : (epoch : ℕ) (b : Block) (hands : List Hand) (k : ℕ) (d : Hand) → d.blocks ≡ [] → holds epoch b (slice_index_or hands k d) ≤ reserved epoch b hands
reserved-at epoch b [] k d blank = let z = holds-blank epoch b d blank in omega (arith, z)
reserved-at epoch b (h ∷ hands) zero d blank = omega arith
reserved-at epoch b (h ∷ hands) (suc k) d blank = let r = reserved-at epoch b hands k d blank in omega (arith, r)

-- two hands have no block in common
pub reserved-two : (epoch : ℕ) (b : Block) (hands : List Hand) (j k : ℕ) (d : Hand) → d.blocks ≡ [] → j ≢ k
    → holds epoch b (slice_index_or hands j d) + holds epoch b (slice_index_or hands k d) ≤ reserved epoch b hands
reserved-two epoch b [] j k d blank differ = let z = holds-blank epoch b d blank in omega (arith, z)
reserved-two epoch b (h ∷ hands) zero zero d blank differ = absurd (differ refl)
reserved-two epoch b (h ∷ hands) zero (suc k) d blank differ = let r = reserved-at epoch b hands k d blank in omega (arith, r)
reserved-two epoch b (h ∷ hands) (suc j) zero d blank differ = let r = reserved-at epoch b hands j d blank in omega (arith, r)
reserved-two epoch b (h ∷ hands) (suc j) (suc k) d blank differ = let r = reserved-two epoch b hands j k d blank (λ e. differ (ap (λ n. suc n) e)) in omega (arith, r)

pub reserved-none : (epoch : ℕ) (b : Block) (hands : List Hand) → AllByRecursion (λ (h : Hand). holds epoch b h ≡ 0) hands → reserved epoch b hands ≡ 0
reserved-none epoch b [] none = refl
reserved-none epoch b (h ∷ hands) none = let r = reserved-none epoch b hands none.1 in let z = none.0 in omega (arith, r, z)

-- ---- lists of hands

pub hands-mono : (P Q : Hand → Type 0) → ((h : Hand) → P h → Q h) → (hands : List Hand) → AllByRecursion P hands → AllByRecursion Q hands
hands-mono P Q f [] all = tt
hands-mono P Q f (h ∷ hands) all = (f h all.0, hands-mono P Q f hands all.1)

pub hands-set : (P : Hand → Type 0) (hands : List Hand) (k : ℕ) (new : Hand) → P new → AllByRecursion P hands → AllByRecursion P (slice_set hands k new)
hands-set P [] k new own all = tt
hands-set P (h ∷ hands) zero new own all = (own, all.1)
hands-set P (h ∷ hands) (suc k) new own all = (all.0, hands-set P hands k new own all.1)

pub hands-at : (P : Hand → Type 0) (hands : List Hand) (k : ℕ) (d : Hand) → P d → AllByRecursion P hands → P (slice_index_or hands k d)
hands-at P [] k d own all = own
hands-at P (h ∷ hands) zero d own all = all.0
hands-at P (h ∷ hands) (suc k) d own all = hands-at P hands k d own all.1

-- ---- sums over entries

pub tally-push : (f : Entry → ℕ) (es : List Entry) (e : Entry) → tally f (es ++ e ∷ []) ≡ tally f es + f e
tally-push f [] e = omega arith
tally-push f (x ∷ es) e = let r = tally-push f es e in omega (arith, r)

abbrev pub share : (Entry → ℕ) → Option Entry → ℕ
share f None = 0
share f (Some e) = f e

tally-cons_option : (f : Entry → ℕ) (o : Option Entry) (es : List Entry) → tally f (cons_option o es) ≡ share f o + tally f es
tally-cons_option f None es = omega arith
tally-cons_option f (Some e) es = refl

-- a change of one entry is a change of its share
pub tally-revise : (f : Entry → ℕ) (id : EntryId) (h : Entry → Option Entry) (es : List Entry) (e : Entry) → entry_at id es ≡ Some e → tally f (revise id h es) + f e ≡ tally f es + share f (h e)
tally-revise f id h [] e there = absurd cc
tally-revise f id h (x ∷ es) e there = elim (cases_eq x.id.number id.number) [
  | inl same ↦
      let here : x ≡ e = same_some x e (sym (entry_at-head id x es same) ∙ there) in
      let c = ap (tally f) (revise-head id h x es same) ∙ tally-cons_option f (h x) es in
      let p = ap f here in
      let q = ap (λ (y : Entry). share f (h y)) here in
      omega (arith, c, p, q)
  | inr differ ↦
      let r = tally-revise f id h es e (sym (entry_at-tail id x es differ) ∙ there) in
      let c = ap (tally f) (revise-tail id h x es differ) in
      omega (arith, c, r)
]
  where
    same_some : (x e : Entry) → Some x ≡ Some e → x ≡ e
    same_some x e is = cc

-- where the entry of that id keeps its share
pub tally-kept : (f : Entry → ℕ) (id : EntryId) (h : Entry → Option Entry) (es : List Entry) → ((e : Entry) → share f (h e) ≡ f e) → tally f (revise id h es) ≡ tally f es
tally-kept f id h [] kept = refl
tally-kept f id h (x ∷ es) kept = elim (cases_eq x.id.number id.number) [
  | inl same ↦ let c = ap (tally f) (revise-head id h x es same) ∙ tally-cons_option f (h x) es in let k = kept x in omega (arith, c, k)
  | inr differ ↦ let r = tally-kept f id h es kept in let c = ap (tally f) (revise-tail id h x es differ) in omega (arith, c, r)
]

pub tally-at : (f : Entry → ℕ) (id : EntryId) (es : List Entry) (e : Entry) → entry_at id es ≡ Some e → f e ≤ tally f es
tally-at f id es e there = let r = tally-revise f id (λ _. None) es e there in omega (arith, r)

pub tally-none : (f : Entry → ℕ) (es : List Entry) → AllByRecursion (λ (e : Entry). f e ≡ 0) es → tally f es ≡ 0
tally-none f [] none = refl
tally-none f (e ∷ es) none = let r = tally-none f es none.1 in let z = none.0 in omega (arith, r, z)

-- ---- places

pub lists-own : (m : Member) (b : Block) (bs : List Block) (n : ℕ) → lists m b (Offloaded m bs n) ≡ uses b bs
lists-own m b bs n = rw (eq-eqb (member_number m) (member_number m) refl) refl

pub lists-other : (k m : Member) (b : Block) (bs : List Block) (n : ℕ) → (member_number k ≡ member_number m → ⊥) → lists k b (Offloaded m bs n) ≡ 0
lists-other k m b bs n differ = rw (ne_eqb (member_number m) (member_number k) (λ e. differ (sym e))) refl
