-- which device of a group
use Rattle.std.specs.Prelude.{ℕ, Bool, ◌==◌, ◌&&◌}
use Rattle.qsg_num.specs.declared.seats.Member.{Member}
use Rattle.qsg_num.specs.Seats.{member_number, structure_number}
use Rattle.qsg_disk.specs.declared.kinds.Kind.{Kind}
use Rattle.qsg_disk.specs.declared.kinds.Kind.TheVariants.{Log, DataSet}

-- 0 is the log, and a data set has the number of its structure
abbrev pub kind_number : Kind → ℕ
kind_number Log = 0
kind_number (DataSet s) = structure_number s

-- whether a member and a kind are this member and this kind
abbrev pub is_place : Member → Kind → Member → Kind → Bool
is_place member kind m k = (member_number m == member_number member) && (kind_number k == kind_number kind)
