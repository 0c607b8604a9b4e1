-- who may write entries, and for which epoch blocks are held
use Rattle.std.proofs.Common.{◌≡◌, ◌≢◌, ℕ, ◌+◌, ◌<◌, ◌≤◌, Bool, true, false, List, Option, Some, None, refl, sym, ap, ◌∙◌, arith, inl, inr, subst}
use Rattle.std.specs.Prelude.{IfSome, ◌==◌, ◌&&◌, if◌then◌else◌, ◌⊎◌, replicate}
use Rattle.std.specs.List.{AllByRecursion}
use Rattle.std.proofs.lemmas.Bool.{cases_eq, eq-eqb, ne_eqb}
use Rattle.qsg_num.specs.declared.seats.Member.{Member}
use Rattle.qsg_num.specs.declared.ids.Block.{Block}
use Rattle.qsg_num.specs.declared.ids.Incarnation.{Incarnation}
use Rattle.qsg_num.specs.Seats.{member_number}
use Rattle.qsg_lists.specs.declared.parts.State.{State}
use Rattle.qsg_lists.specs.declared.parts.State.TheVariants.{Active, Failed, InRecover}
use Rattle.qsg_lists.specs.Structures.{ListStructure, is_active}
use Rattle.qsg_space.specs.Spaces.{marked}
use Rattle.qsg_datasets.specs.declared.member_data_set.Hand.{Hand}
use Rattle.qsg_datasets.specs.declared.member_data_set.KeptMap.{KeptMap}
use Rattle.qsg_datasets.specs.Kept.{KeptSet, used_by, used_in, freed_in, freed}
use Rattle.qsg_blocks.specs.State.{Post, stands, holds, reserved, used_once}
use Rattle.qsg_blocks.specs.Laws.{Counts, IsTold, IsPast, IsBlank, AreBlank, IsHeldBy, IsTimely}
use Rattle.qsg_blocks.proofs.Counting.{used-blank, used-freed, holds-blank, holds-now, holds-other, reserved-none, hands-mono}

-- ---- who stands

and_false : (c : Bool) → (c && false) ≡ false
and_false true = refl
and_false false = refl

pub stands-down : (st : State) (m : Member) (post : Post) → post.up ≡ false → stands st m post ≡ false
stands-down Active m post down = down
stands-down Failed m post down = refl
stands-down (InRecover by i) m post down = ap (λ up. (member_number by == member_number m) && (up && (post.incarnation == i.number))) down ∙ and_false (member_number by == member_number m)

pub stands-up : (st : State) (m : Member) (post : Post) → stands st m post ≡ true → post.up ≡ true
stands-up st m post is = by post.up refl
  where
    by : (up : Bool) → post.up ≡ up → post.up ≡ true
    by true now = now
    by false now = let e = stands-down st m post now in absurd cc

pub stands-active : (st : State) (m : Member) (post : Post) → is_active st ≡ true → stands st m post ≡ post.up
stands-active Active m post active = refl
stands-active Failed m post active = absurd cc
stands-active (InRecover by i) m post active = absurd cc

pub is_now_active : (st : State) → is_active st ≡ true → st ≡ Active
is_now_active Active active = refl
is_now_active Failed active = absurd cc
is_now_active (InRecover by i) active = absurd cc

pub stands-others : (by : Member) (i : Incarnation) (m : Member) (post : Post) → (member_number m ≡ member_number by → ⊥) → stands (InRecover by i) m post ≡ false
stands-others by i m post differ = ap (λ c. c && (post.up && (post.incarnation == i.number))) (ne_eqb (member_number by) (member_number m) (λ e. differ (sym e)))

pub stands-own : (by : Member) (i : Incarnation) (post : Post) → post.up ≡ true → post.incarnation ≡ i.number → stands (InRecover by i) by post ≡ true
stands-own by i post up is = rw (eq-eqb (member_number by) (member_number by) refl, up, eq-eqb post.incarnation i.number is) refl

pub stands-newer : (by : Member) (i : Incarnation) (m : Member) (post : Post) → post.incarnation ≢ i.number → stands (InRecover by i) m post ≡ false
stands-newer by i m post differ = ap (λ c. (member_number by == member_number m) && (post.up && c)) (ne_eqb post.incarnation i.number differ) ∙ ap (λ c. (member_number by == member_number m) && c) (and_false post.up) ∙ and_false (member_number by == member_number m)

-- ---- the equation, and back

pub counts-up : (up : Bool) (u l r : ℕ) → up ≡ true → Counts up u l r → l + r ≡ u
counts-up true u l r is c = c
counts-up false u l r is c = absurd cc

pub counts-down : (up : Bool) (u l r : ℕ) → up ≡ false → Counts up u l r → (l ≤ 1) × (r ≡ 0)
counts-down true u l r is c = absurd cc
counts-down false u l r is c = c

pub up-counts : (up : Bool) (u l r : ℕ) → up ≡ true → l + r ≡ u → Counts up u l r
up-counts true u l r is c = c
up-counts false u l r is c = absurd cc

pub down-counts : (up : Bool) (u l r : ℕ) → up ≡ false → l ≤ 1 → r ≡ 0 → Counts up u l r
down-counts true u l r is a c = absurd cc
down-counts false u l r is a c = (a, c)

-- whatever the owner, listed and reserved once at most
pub counts-one : (up : Bool) (u l r : ℕ) → u ≤ 1 → Counts up u l r → l + r ≤ 1
counts-one true u l r one c = omega arith
counts-one false u l r one c = omega (arith, c.0, c.1)

pub counts_if : (up : Bool) (u l r : ℕ) → (up ≡ true → l + r ≡ u) → (up ≡ false → (l ≤ 1) × (r ≡ 0)) → Counts up u l r
counts_if true u l r a c = a refl
counts_if false u l r a c = c refl

-- ---- what is told

pub told_true : (c : Bool) (st : State) (now n : ℕ) → c ≡ true → IsTold c st now n → n ≡ now
told_true true st now n is told = told
told_true false st now n is told = absurd cc

pub told_false : (c : Bool) (st : State) (now n : ℕ) → c ≡ false → IsTold c st now n → (n < now) × (st ≡ Failed)
told_false true st now n is told = absurd cc
told_false false st now n is told = told

pub true_told : (c : Bool) (st : State) (now n : ℕ) → c ≡ true → n ≡ now → IsTold c st now n
true_told true st now n is told = told
true_told false st now n is told = absurd cc

-- no epoch is told that isn't there yet
pub told_low : (c : Bool) (st : State) (now n : ℕ) → IsTold c st now n → n ≤ now
told_low true st now n told = omega arith
told_low false st now n told = let low = told.0 in omega (arith, low)

pub past_low : (c : Bool) (now n : ℕ) → IsPast c now n → n ≤ now
past_low true now n past = past
past_low false now n past = omega arith

pub past_before : (c : Bool) (now n : ℕ) → c ≡ false → IsPast c now n → n < now
past_before true now n is past = absurd cc
past_before false now n is past = past

pub past_up : (c : Bool) (now n : ℕ) → c ≡ true → n ≤ now → IsPast c now n
past_up true now n is low = low
past_up false now n is low = absurd cc

pub before_past : (c : Bool) (now n : ℕ) → n < now → IsPast c now n
before_past true now n low = omega arith
before_past false now n low = low

pub past_now : (c : Bool) (now n : ℕ) → n ≡ now → IsPast c now n → c ≡ true
past_now true now n same past = refl
past_now false now n same past = absurd (omega (arith, same))

-- ---- hands

-- while a structure isn't lost, only owners that stand have blocks in hand
pub unlost_blank : (m : Member) (post : Post) (s : ListStructure) (set : KeptSet) → stands s.state m post ≡ false → s.state ≢ Failed → IsTimely m post s set → AreBlank set.hands
unlost_blank m post s set isnt unlost timely = hands-mono _ IsBlank by set.hands timely.hands
  where
    by : (h : Hand) → IsBlank h ⊎ IsHeldBy m post s h → IsBlank h
    by h (inl blank) = blank
    by h (inr held) = absurd (unlost (told_false (stands s.state m post) s.state s.epoch h.epoch isnt held.told).1)

pub down_blank : (m : Member) (post : Post) (s : ListStructure) (set : KeptSet) → post.up ≡ false → IsTimely m post s set → AreBlank set.hands
down_blank m post s set down timely = hands-mono _ IsBlank by set.hands timely.hands
  where
    by : (h : Hand) → IsBlank h ⊎ IsHeldBy m post s h → IsBlank h
    by h (inl blank) = blank
    by h (inr held) = let up = held.up in absurd cc

pub still_blank : (m : Member) (post : Post) (s : ListStructure) (old new : KeptSet) → post.up ≡ false → (new.hands ≡ old.hands) ⊎ AreBlank new.hands → IsTimely m post s old → AreBlank new.hands
still_blank m post s old new down (inl same) timely = subst AreBlank (sym same) (down_blank m post s old down timely)
still_blank m post s old new down (inr blank) timely = blank

pub blank_reserved : (epoch : ℕ) (b : Block) (hands : List Hand) → AreBlank hands → reserved epoch b hands ≡ 0
blank_reserved epoch b hands blank = reserved-none epoch b hands (hands-mono IsBlank (λ (h : Hand). holds epoch b h ≡ 0) (λ h is. holds-blank epoch b h is) hands blank)

-- an owner that doesn't stand has none of the present epoch
pub idle_hands : (m : Member) (post : Post) (s : ListStructure) (set : KeptSet) (b : Block) → stands s.state m post ≡ false → IsTimely m post s set → AllByRecursion (λ (h : Hand). holds s.epoch b h ≡ 0) set.hands
idle_hands m post s set b isnt timely = hands-mono _ (λ (h : Hand). holds s.epoch b h ≡ 0) by set.hands timely.hands
  where
    by : (h : Hand) → IsBlank h ⊎ IsHeldBy m post s h → holds s.epoch b h ≡ 0
    by h (inl blank) = holds-blank s.epoch b h blank
    by h (inr held) = let low = (told_false (stands s.state m post) s.state s.epoch h.epoch isnt held.told).0 in holds-other s.epoch b h (λ e. omega (arith, e, low))

-- and nobody has any of a later one
pub early_hands : (m : Member) (post : Post) (s : ListStructure) (set : KeptSet) (later : ℕ) (b : Block) → s.epoch < later → IsTimely m post s set → AllByRecursion (λ (h : Hand). holds later b h ≡ 0) set.hands
early_hands m post s set later b above timely = hands-mono _ (λ (h : Hand). holds later b h ≡ 0) by set.hands timely.hands
  where
    by : (h : Hand) → IsBlank h ⊎ IsHeldBy m post s h → holds later b h ≡ 0
    by h (inl blank) = holds-blank later b h blank
    by h (inr held) = let low = told_low (stands s.state m post) s.state s.epoch h.epoch held.told in holds-other later b h (λ e. omega (arith, e, low, above))

-- ---- the map of an epoch

pub used_in-now : (epoch : ℕ) (set : KeptSet) (x : KeptMap) → set.map ≡ Some x → x.epoch ≡ epoch → used_in epoch set ≡ x.used
used_in-now epoch set x is now = ap (used_by epoch set.contents.blocks) is ∙ ap (λ c. if c then x.used else replicate set.contents.blocks false) (eq-eqb x.epoch epoch now)

pub used_in-old : (epoch : ℕ) (set : KeptSet) (b : Block) → IfSome set.map (λ (x : KeptMap). x.epoch ≢ epoch) → used_once (used_in epoch set) b ≡ 0
used_in-old epoch set b old = by set.map old
  where
    by : (map : Option KeptMap) → IfSome map (λ (x : KeptMap). x.epoch ≢ epoch) → used_once (used_by epoch set.contents.blocks map) b ≡ 0
    by None old = used-blank set.contents.blocks b
    by (Some x) old = ap (λ c. used_once (if c then x.used else replicate set.contents.blocks false) b) (ne_eqb x.epoch epoch old) ∙ used-blank set.contents.blocks b

pub used_in-none : (epoch : ℕ) (set : KeptSet) (b : Block) → set.map ≡ None → used_once (used_in epoch set) b ≡ 0
used_in-none epoch set b none = used_in-old epoch set b (subst (λ o. IfSome o (λ (x : KeptMap). x.epoch ≢ epoch)) (sym none) tt)

pub used_in-same : (epoch : ℕ) (a b : KeptSet) → b.map ≡ a.map → b.contents.blocks ≡ a.contents.blocks → used_in epoch b ≡ used_in epoch a
used_in-same epoch a b map blocks = λ i. used_by epoch (blocks i) (map i)

-- blocks of a hand are free again in the map of their epoch
pub used-freed_in : (now : ℕ) (hand : Hand) (set : KeptSet) (b : Block) → holds now b hand ≤ used_once (used_in now set) b
    → used_once (used_in now (freed hand.epoch hand.blocks set)) b + holds now b hand ≡ used_once (used_in now set) b
used-freed_in now hand set b most = by set.map refl
  where
    by : (map : Option KeptMap) → set.map ≡ map → used_once (used_in now (freed hand.epoch hand.blocks set)) b + holds now b hand ≡ used_once (used_in now set) b
    by None is =
        let a = used_in-none now set b is in
        let c = used_in-none now (freed hand.epoch hand.blocks set) b (ap (freed_in hand.epoch hand.blocks) is) in
        omega (arith, a, c, most)
    by (Some x) is = elim (cases_eq x.epoch hand.epoch) [
      | inl same ↦
          let m : (freed hand.epoch hand.blocks set).map ≡ Some (record x { used = marked false hand.blocks x.used }) = ap (freed_in hand.epoch hand.blocks) is ∙ ap (λ c. Some (if c then record x { used = marked false hand.blocks x.used } else x)) (eq-eqb x.epoch hand.epoch same) in
          elim (cases_eq hand.epoch now) [
            | inl this ↦
                let h = holds-now now b hand this in
                let u = ap (λ l. used_once l b) (used_in-now now set x is (same ∙ this)) in
                let v = ap (λ l. used_once l b) (used_in-now now (freed hand.epoch hand.blocks set) (record x { used = marked false hand.blocks x.used }) m (same ∙ this)) in
                let f = used-freed hand.blocks x.used b (omega (arith, h, u, most)) in
                omega (arith, h, u, v, f)
            | inr other ↦
                let h = holds-other now b hand other in
                let u = used_in-old now set b (subst (λ o. IfSome o (λ (y : KeptMap). y.epoch ≢ now)) (sym is) (λ e. other (sym same ∙ e))) in
                let v = used_in-old now (freed hand.epoch hand.blocks set) b (subst (λ o. IfSome o (λ (y : KeptMap). y.epoch ≢ now)) (sym m) (λ e. other (sym same ∙ e))) in
                omega (arith, h, u, v)
          ]
      | inr differ ↦
          let m : (freed hand.epoch hand.blocks set).map ≡ set.map = ap (freed_in hand.epoch hand.blocks) is ∙ ap (λ c. Some (if c then record x { used = marked false hand.blocks x.used } else x)) (ne_eqb x.epoch hand.epoch differ) ∙ sym is in
          let v = ap (λ l. used_once l b) (used_in-same now set (freed hand.epoch hand.blocks set) m refl) in
          elim (cases_eq hand.epoch now) [
            | inl this ↦
                let h = holds-now now b hand this in
                let u = used_in-old now set b (subst (λ o. IfSome o (λ (y : KeptMap). y.epoch ≢ now)) (sym is) (λ e. differ (e ∙ sym this))) in
                omega (arith, h, u, v, most)
            | inr other ↦ let h = holds-other now b hand other in omega (arith, h, v)
          ]
    ]
