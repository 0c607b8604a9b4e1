-- ids of entries, and names of units
use Rattle.std.specs.Prelude.{ℕ, ◌+◌, ◌*◌, ◌/◌, ◌%◌, ◌^◌, Bool, ◌==◌, ◌&&◌}
use Rattle.qsg_num.specs.declared.ids.EntryId.{EntryId}
use Rattle.qsg_num.specs.declared.ids.UnitName.{UnitName}
use Rattle.qsg_num.specs.declared.seats.Member.{Member}
use Rattle.qsg_num.specs.Seats.{member_number}

-- the id of a number in an epoch
abbrev pub id_at : ℕ → ℕ → EntryId
id_at epoch seq = record { number = epoch * 2 ^ 40 + seq }

abbrev pub epoch_of : EntryId → ℕ
epoch_of id = id.number / 2 ^ 40

abbrev pub seq_of : EntryId → ℕ
seq_of id = id.number % 2 ^ 40

-- the name of a member, an incarnation's number and a number
abbrev pub unit_at : Member → ℕ → ℕ → UnitName
unit_at m i s = record { member = m; incarnation = record { number = i }; seq = s }

-- whether two names are the same
abbrev pub same_unit : UnitName → UnitName → Bool
same_unit a b = (member_number a.member == member_number b.member) && ((a.incarnation.number == b.incarnation.number) && (a.seq == b.seq))
