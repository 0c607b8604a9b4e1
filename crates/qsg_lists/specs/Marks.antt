-- marks, and whose they are
use Rattle.std.specs.Prelude.{Bool, true, false, ◌==◌, ◌&&◌}
use Rattle.qsg_num.specs.declared.seats.Member.{Member}
use Rattle.qsg_num.specs.declared.ids.Incarnation.{Incarnation}
use Rattle.qsg_num.specs.declared.ids.UnitName.{UnitName}
use Rattle.qsg_num.specs.Seats.{member_number}
use Rattle.qsg_num.specs.Ids.{same_unit}
use Rattle.qsg_lists.specs.declared.parts.Mark.{Mark}
use Rattle.qsg_lists.specs.declared.parts.Mark.TheVariants.{Visible, PutBy, GotBy, Cleanup}

abbrev pub is_visible : Mark → Bool
is_visible Visible = true
is_visible (PutBy unit) = false
is_visible (GotBy unit) = false
is_visible Cleanup = false

abbrev pub is_cleanup : Mark → Bool
is_cleanup Visible = false
is_cleanup (PutBy unit) = false
is_cleanup (GotBy unit) = false
is_cleanup Cleanup = true

-- the mark names this unit
abbrev pub names_unit : UnitName → Mark → Bool
names_unit unit Visible = false
names_unit unit (PutBy other) = same_unit other unit
names_unit unit (GotBy other) = same_unit other unit
names_unit unit Cleanup = false

-- the unit is one of this incarnation of the member
abbrev pub is_unit_of : Member → Incarnation → UnitName → Bool
is_unit_of member incarnation unit = (member_number unit.member == member_number member) && (unit.incarnation.number == incarnation.number)

-- the mark names a unit of this incarnation of the member
abbrev pub names_member : Member → Incarnation → Mark → Bool
names_member member incarnation Visible = false
names_member member incarnation (PutBy unit) = is_unit_of member incarnation unit
names_member member incarnation (GotBy unit) = is_unit_of member incarnation unit
names_member member incarnation Cleanup = false
