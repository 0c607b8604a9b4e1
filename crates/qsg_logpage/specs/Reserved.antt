-- what of a log is reserved
use Rattle.std.specs.Prelude.{ℕ, ◌-◌, List, [], ◌∷◌, Bool, not, if◌then◌else◌, filter, sum_by}
use Rattle.qsg_num.specs.declared.ids.UnitName.{UnitName}
use Rattle.qsg_num.specs.Ids.{same_unit}
use Rattle.qsg_logpage.specs.declared.table.Reservation.{Reservation}

abbrev pub is_other : UnitName → Reservation → Bool
is_other unit r = not (same_unit r.unit unit)

-- the reservations of the other units
abbrev pub besides : UnitName → List Reservation → List Reservation
besides unit rs = filter (is_other unit) rs

abbrev pub pages_of : Reservation → ℕ
pages_of r = r.pages

-- all pages that are reserved
abbrev pub total : List Reservation → ℕ
total rs = sum_by pages_of rs

-- the pages that are reserved for a unit
abbrev pub pages_for : UnitName → List Reservation → ℕ
pages_for unit [] = 0
pages_for unit (r ∷ rs) = if is_other unit r then pages_for unit rs else r.pages

-- a page less is reserved for a unit
abbrev pub lowered : UnitName → List Reservation → List Reservation
lowered unit [] = []
lowered unit (r ∷ rs) = if is_other unit r then r ∷ lowered unit rs else record { unit = r.unit; pages = r.pages - 1 } ∷ rs

-- the same where that unit may have been found before
abbrev pub left_lowered : UnitName → Bool → List Reservation → List Reservation
left_lowered unit found rs = if found then rs else lowered unit rs
