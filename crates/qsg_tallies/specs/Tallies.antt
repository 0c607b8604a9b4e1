-- what is counted of incarnations that failed
use Rattle.std.specs.Prelude.{ℕ, ◌+◌, ◌-◌, ◌^◌, min, ◌==◌, ◌&&◌, Bool, List, [], ◌∷◌, ◌++◌, if◌then◌else◌, replicate, slice_index_or, slice_set, sum_by}
use Rattle.qsg_num.specs.declared.seats.Member.{Member}
use Rattle.qsg_num.specs.declared.ids.Incarnation.{Incarnation}
use Rattle.qsg_num.specs.Seats.{member_number}
use Rattle.qsg_tallies.specs.declared.tally.Tally.{Tally}

-- the tallies, in the order in which the incarnations failed, and how many there may be
pub record Tallied : Type 0 where
  pub limit : ℕ
  pub rows : List Tally

-- the tally of an incarnation that so many marks name
abbrev pub new_tally : Member → Incarnation → ℕ → Tally
new_tally m i marks = record { member = m; incarnation = i; marks = marks; counts = replicate 8 0 }

abbrev pub with_tally : Tally → Tallied → Tallied
with_tally tally tallies = record tallies { rows = tallies.rows ++ tally ∷ [] }

-- how many marks the system task of a member took off
abbrev pub count_in : Member → Tally → ℕ
count_in m tally = slice_index_or tally.counts (member_number m - 1) 0

-- how many came off in all
abbrev pub taken_off : Tally → ℕ
taken_off tally = sum_by (λ (n : ℕ). n) tally.counts

-- one more that the system task of a member took off, as far as the number goes
abbrev pub with_one : Member → Tally → Tally
with_one m tally = record tally { counts = slice_set tally.counts (member_number m - 1) (min (count_in m tally + 1) (2 ^ 32 - 1)) }

abbrev pub is_tally_of : Member → Incarnation → Tally → Bool
is_tally_of m i tally = (member_number tally.member == member_number m) && (tally.incarnation.number == i.number)

-- the tallies after the system task of a member took a mark of this incarnation off
abbrev pub counted_in : Member → Incarnation → Member → List Tally → List Tally
counted_in of i m [] = []
counted_in of i m (tally ∷ tallies) = if is_tally_of of i tally then with_one m tally ∷ tallies else tally ∷ counted_in of i m tallies

abbrev pub counted : Member → Incarnation → Member → Tallied → Tallied
counted of i m tallies = record tallies { rows = counted_in of i m tallies.rows }
