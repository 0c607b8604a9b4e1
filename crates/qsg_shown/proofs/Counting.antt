-- blocks that are used, and those that are free
use Rattle.std.proofs.Common.{◌≡◌, ◌-◌, ℕ, Bool, List, length, refl, arith}
use Rattle.std.specs.Prelude.{not, count_by}
use Rattle.std.proofs.lemmas.List.Sums.{length-filter}
use Rattle.std.proofs.lemmas.List.Filters.{length-filter_both}
use Rattle.qsg_space.specs.Spaces.{free_count}
use Rattle.qsg_datasets.specs.Kept.{KeptSet, IsKept, used_in}
use Rattle.qsg_datasets.proofs.Maps.{size_used}
use Rattle.qsg_shown.specs.Showing.{used_blocks}

rest-used : (used : List Bool) → count_by (λ b. b) used ≡ length used - free_count used
rest-used used =
    let both = length-filter_both (λ b. b) not (λ b. refl) used in
    let marked = length-filter (λ b. b) used in
    let free = length-filter not used in
    omega (arith, both, marked, free)

pub rest-free : (epoch : ℕ) (set : KeptSet) → IsKept set → used_blocks epoch set ≡ set.contents.blocks - free_count (used_in epoch set)
rest-free epoch set kept =
    let size : length (used_in epoch set) ≡ set.contents.blocks = size_used epoch set.contents.blocks set.map kept.map in
    let rest = rest-used (used_in epoch set) in
    omega (arith, size, rest)
