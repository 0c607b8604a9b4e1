-- a table with a place for each member and kind of device
use Rattle.std.specs.Prelude.{ℕ, ◌+◌, ◌-◌, ◌*◌}
use Rattle.qsg_num.specs.declared.seats.Member.{Member}
use Rattle.qsg_num.specs.Seats.{member_number}
use Rattle.qsg_disk.specs.declared.kinds.Kind.{Kind}
use Rattle.qsg_disk.specs.Places.{kind_number}

-- five places for each member: its log and its four data sets
abbrev pub place_of : Member → Kind → ℕ
place_of member kind = 5 * (member_number member - 1) + kind_number kind
