-- the map of a data set: the list that tells of each of its blocks whether it is used
use Rattle.std.specs.Prelude.{ℕ, ◌+◌, ◌==◌, Bool, true, false, not, cond, List, [], ◌∷◌, count_by, slice_index_or, slice_set}
use Rattle.std.specs.List.{list_any}
use Rattle.qsg_num.specs.declared.ids.Block.{Block}

abbrev pub block_at : ℕ → Block
block_at k = record { number = k }

-- a block past the end is neither used nor free
abbrev pub is_used : List Bool → Block → Bool
is_used used b = slice_index_or used b.number false

abbrev pub is_free : List Bool → Block → Bool
is_free used b = not (slice_index_or used b.number true)

-- the free ones of the blocks from k on, in rising order
abbrev pub free_from : ℕ → List Bool → List Block
free_from k [] = []
free_from k (is_used ∷ used) = cond is_used (free_from (k + 1) used) (block_at k ∷ free_from (k + 1) used)

abbrev pub free_blocks : List Bool → List Block
free_blocks used = free_from 0 used

abbrev pub free_count : List Bool → ℕ
free_count used = count_by not used

-- each of these blocks is now used, or each is now free, and all else is as it was
abbrev pub marked : Bool → List Block → List Bool → List Bool
marked now [] used = used
marked now (b ∷ bs) used = marked now bs (slice_set used b.number now)

abbrev pub number_of : Block → ℕ
number_of b = b.number

abbrev pub has_block : Block → List Block → Bool
has_block b bs = list_any (λ x. x.number == b.number) bs
