-- a number tells which one it is, and lies in its range
use Rattle.std.proofs.Common.{◌≤◌, ◌≡◌, ap, sym, ◌∙◌, arith, refl, Some}
use Rattle.qsg_num.specs.declared.seats.Member.{Member}
use Rattle.qsg_num.specs.declared.seats.Member.TheVariants as m
use Rattle.qsg_num.specs.declared.seats.StructNo.{StructNo}
use Rattle.qsg_num.specs.declared.seats.StructNo.TheVariants as s
use Rattle.qsg_num.specs.declared.seats.TaskNo.{TaskNo}
use Rattle.qsg_num.specs.declared.seats.TaskNo.TheVariants as t
use Rattle.qsg_num.specs.declared.seats.Priority.{Priority}
use Rattle.qsg_num.specs.declared.seats.Priority.TheVariants as p
use Rattle.qsg_num.specs.Seats.{member_number, member_at, structure_number, structure_at, task_number, task_at, priority_number, priority_at}

pub some-same : {A : Type 0} (a b : A) → Some a ≡ Some b → a ≡ b
some-same a b e = cc

pub member-back : (x : Member) → member_at (member_number x) ≡ Some x
member-back m.One = refl
member-back m.Two = refl
member-back m.Three = refl
member-back m.Four = refl
member-back m.Five = refl
member-back m.Six = refl
member-back m.Seven = refl
member-back m.Eight = refl

pub member-same : (x y : Member) → member_number x ≡ member_number y → x ≡ y
member-same x y e = some-same _ _ (sym (member-back x) ∙ ap member_at e ∙ member-back y)

pub member-bounds : (x : Member) → (1 ≤ member_number x) × (member_number x ≤ 8)
member-bounds m.One = omega arith
member-bounds m.Two = omega arith
member-bounds m.Three = omega arith
member-bounds m.Four = omega arith
member-bounds m.Five = omega arith
member-bounds m.Six = omega arith
member-bounds m.Seven = omega arith
member-bounds m.Eight = omega arith

pub structure-back : (x : StructNo) → structure_at (structure_number x) ≡ Some x
structure-back s.One = refl
structure-back s.Two = refl
structure-back s.Three = refl
structure-back s.Four = refl

pub structure-same : (x y : StructNo) → structure_number x ≡ structure_number y → x ≡ y
structure-same x y e = some-same _ _ (sym (structure-back x) ∙ ap structure_at e ∙ structure-back y)

pub structure-bounds : (x : StructNo) → (1 ≤ structure_number x) × (structure_number x ≤ 4)
structure-bounds s.One = omega arith
structure-bounds s.Two = omega arith
structure-bounds s.Three = omega arith
structure-bounds s.Four = omega arith

pub task-back : (x : TaskNo) → task_at (task_number x) ≡ Some x
task-back t.System = refl
task-back t.One = refl
task-back t.Two = refl
task-back t.Three = refl
task-back t.Four = refl

pub task-same : (x y : TaskNo) → task_number x ≡ task_number y → x ≡ y
task-same x y e = some-same _ _ (sym (task-back x) ∙ ap task_at e ∙ task-back y)

pub task-bounds : (x : TaskNo) → task_number x ≤ 4
task-bounds t.System = omega arith
task-bounds t.One = omega arith
task-bounds t.Two = omega arith
task-bounds t.Three = omega arith
task-bounds t.Four = omega arith

pub priority-back : (x : Priority) → priority_at (priority_number x) ≡ Some x
priority-back p.Zero = refl
priority-back p.One = refl
priority-back p.Two = refl
priority-back p.Three = refl
priority-back p.Four = refl
priority-back p.Five = refl
priority-back p.Six = refl
priority-back p.Seven = refl
priority-back p.Eight = refl
priority-back p.Nine = refl

pub priority-same : (x y : Priority) → priority_number x ≡ priority_number y → x ≡ y
priority-same x y e = some-same _ _ (sym (priority-back x) ∙ ap priority_at e ∙ priority-back y)

pub priority-bounds : (x : Priority) → priority_number x ≤ 9
priority-bounds p.Zero = omega arith
priority-bounds p.One = omega arith
priority-bounds p.Two = omega arith
priority-bounds p.Three = omega arith
priority-bounds p.Four = omega arith
priority-bounds p.Five = omega arith
priority-bounds p.Six = omega arith
priority-bounds p.Seven = omega arith
priority-bounds p.Eight = omega arith
priority-bounds p.Nine = omega arith
