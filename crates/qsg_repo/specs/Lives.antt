-- the incarnations that members were given, and what became of them
use Rattle.std.specs.Prelude.{Bool, true, false, ◌&&◌, ◌||◌, ◌==◌, not, nat_lt, if◌then◌else◌, List, Option, Some, None, map, filter, fold}
use Rattle.std.specs.List.{list_any}
use Rattle.qsg_num.specs.declared.seats.Member.{Member}
use Rattle.qsg_num.specs.declared.ids.Incarnation.{Incarnation}
use Rattle.qsg_num.specs.Seats.{member_number}
use Rattle.qsg_repo.specs.declared.lives.Fate.{Fate}
use Rattle.qsg_repo.specs.declared.lives.Fate.TheVariants as f
use Rattle.qsg_repo.specs.declared.lives.Life.{Life}

abbrev pub is_failed : Fate → Bool
is_failed f.Up = false
is_failed f.Stopped = false
is_failed f.Failed = true
is_failed f.Resolved = false

-- it didn't crash so far
abbrev pub is_unharmed : Fate → Bool
is_unharmed f.Up = true
is_unharmed f.Stopped = true
is_unharmed f.Failed = false
is_unharmed f.Resolved = false

abbrev pub is_up : Fate → Bool
is_up f.Up = true
is_up f.Stopped = false
is_up f.Failed = false
is_up f.Resolved = false

abbrev pub is_member : Member → Life → Bool
is_member m l = member_number l.member == member_number m

abbrev pub is_life : Member → Incarnation → Life → Bool
is_life m i l = is_member m l && (l.incarnation.number == i.number)

-- a failed one that isn't resolved
abbrev pub is_failed_of : Member → Life → Bool
is_failed_of m l = is_member m l && is_failed l.fate

abbrev pub is_failed_life : Member → Incarnation → Life → Bool
is_failed_life m i l = is_life m i l && is_failed l.fate

-- that incarnation crashes, is resolved; its member stops
abbrev pub failed_life : Member → Incarnation → Life → Life
failed_life m i l = if is_life m i l && is_unharmed l.fate then record l { fate = f.Failed } else l

abbrev pub resolved_life : Member → Incarnation → Life → Life
resolved_life m i l = if is_failed_life m i l then record l { fate = f.Resolved } else l

abbrev pub stopped_life : Member → Life → Life
stopped_life m l = if is_member m l && is_up l.fate then record l { fate = f.Stopped } else l

abbrev pub name_of : Life → Member × Incarnation
name_of l = (l.member, l.incarnation)

abbrev pub is_name : Life → Member × Incarnation → Bool
is_name l n = (member_number n.0 == member_number l.member) && (n.1.number == l.incarnation.number)

-- failed, unresolved and not to be skipped
abbrev pub is_open : List (Member × Incarnation) → Life → Bool
is_open skip l = is_failed l.fate && not (list_any (is_name l) skip)

-- by member, then by incarnation
abbrev pub is_before : Member × Incarnation → Member × Incarnation → Bool
is_before x y = nat_lt (member_number x.0) (member_number y.0) || ((member_number x.0 == member_number y.0) && nat_lt x.1.number y.1.number)

abbrev pub lesser : Option (Member × Incarnation) → Member × Incarnation → Option (Member × Incarnation)
lesser None x = Some x
lesser (Some least) x = if is_before x least then Some x else Some least

abbrev pub least_name : List (Member × Incarnation) → Option (Member × Incarnation)
least_name names = fold lesser None names

abbrev pub first_open : List (Member × Incarnation) → List Life → Option (Member × Incarnation)
first_open skip lives = least_name (map name_of (filter (is_open skip) lives))
