-- which tasks a step leaves as they stood
use Rattle.std.specs.Prelude.{◌≡◌}
use Rattle.qsg_num.specs.declared.seats.Member.{Member}
use Rattle.qsg_num.specs.declared.seats.TaskNo.{TaskNo}
use Rattle.qsg_num.specs.Seats.{member_number}
use Rattle.qsg_parts.specs.Owned.{Owned}
use Rattle.qsg_steady.specs.Standing.{Spares}

-- each task of each member but one
abbrev pub SparesOtherMembers : Member → Owned → Owned → Type 0
SparesOtherMembers m p q = (k : Member) (t : TaskNo) → (member_number k ≡ member_number m → ⊥) → Spares k t p q

-- each task
abbrev pub SparesAll : Owned → Owned → Type 0
SparesAll p q = (k : Member) (t : TaskNo) → Spares k t p q
