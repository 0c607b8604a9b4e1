-- the map of used blocks through the calls
use Rattle.std.proofs.Common.{◌≡◌, ◌∙◌, ap, ℕ, List, length, take, Bool, true, false, cond, ◌==◌, replicate, Option, None, Some, IfSome, unwrap_or}
use Rattle.std.proofs.lemmas.List.{length-replicate}
use Rattle.qsg_num.specs.declared.ids.Block.{Block}
use Rattle.qsg_space.specs.Spaces.{marked, free_blocks}
use Rattle.qsg_space.proofs.Marking.{length-marked}
use Rattle.qsg_datasets.specs.declared.member_data_set.KeptMap.{KeptMap}
use Rattle.qsg_datasets.specs.Kept.{used_by, freed_in, claimed_in, taken_in}

-- the map is of so many blocks
abbrev pub HasSize : ℕ → Option KeptMap → Type 0
HasSize n map = IfSome map (λ m. length m.used ≡ n)

size_either : (b : Bool) (n : ℕ) (xs ys : List Bool) → length xs ≡ n → length ys ≡ n → length (cond b xs ys) ≡ n
size_either true n xs ys x y = x
size_either false n xs ys x y = y

pub size_used : (epoch n : ℕ) (map : Option KeptMap) → HasSize n map → length (used_by epoch n map) ≡ n
size_used epoch n None has = length-replicate n false
size_used epoch n (Some m) has = size_either (m.epoch == epoch) n m.used (replicate n false) has (length-replicate n false)

freed_either : (b : Bool) (n : ℕ) (m : KeptMap) (used : List Bool) → length m.used ≡ n → length used ≡ n → HasSize n (Some (cond b (record m { used = used }) m))
freed_either true n m used x y = y
freed_either false n m used x y = x

pub size_freed : (epoch n : ℕ) (bs : List Block) (map : Option KeptMap) → HasSize n map → HasSize n (freed_in epoch bs map)
size_freed epoch n bs None has = tt
size_freed epoch n bs (Some m) has = freed_either (m.epoch == epoch) n m (marked false bs m.used) has (length-marked false bs m.used ∙ has)

pub size_taken : (epoch n k : ℕ) (map : Option KeptMap) → HasSize n map → HasSize n (taken_in epoch k (used_by epoch n map))
size_taken epoch n k map has = length-marked true (take k (free_blocks (used_by epoch n map))) (used_by epoch n map) ∙ size_used epoch n map has

pub size_claimed : (n : ℕ) (bs : List Block) (map : Option KeptMap) → HasSize n map → HasSize n (claimed_in bs map)
size_claimed n bs None has = tt
size_claimed n bs (Some m) has = length-marked true bs m.used ∙ has

-- a map that is found has the size, and so has a new one
pub size_loaded : (n : ℕ) (found : Option (List Bool)) (free : List Bool) → free ≡ replicate n false → IfSome found (λ used. length used ≡ n) → length (unwrap_or found free) ≡ n
size_loaded n None free is has = ap (λ (l : List Bool). length l) is ∙ length-replicate n false
size_loaded n (Some used) free is has = has
