-- members, structures, tasks and priorities, and their numbers
use Rattle.std.specs.Prelude.{ℕ, zero, suc, Option, Some, None}
use Rattle.qsg_num.specs.declared.seats.Member.{Member}
use Rattle.qsg_num.specs.declared.seats.Member.TheVariants as m
use Rattle.qsg_num.specs.declared.seats.StructNo.{StructNo}
use Rattle.qsg_num.specs.declared.seats.StructNo.TheVariants as s
use Rattle.qsg_num.specs.declared.seats.TaskNo.{TaskNo}
use Rattle.qsg_num.specs.declared.seats.TaskNo.TheVariants as t
use Rattle.qsg_num.specs.declared.seats.Priority.{Priority}
use Rattle.qsg_num.specs.declared.seats.Priority.TheVariants as p

-- its number
abbrev pub member_number : Member → ℕ
member_number m.One = 1
member_number m.Two = 2
member_number m.Three = 3
member_number m.Four = 4
member_number m.Five = 5
member_number m.Six = 6
member_number m.Seven = 7
member_number m.Eight = 8

-- the one of a number, if there is one
abbrev pub member_at : ℕ → Option Member
member_at zero = None
member_at (suc zero) = Some m.One
member_at (suc (suc zero)) = Some m.Two
member_at (suc (suc (suc zero))) = Some m.Three
member_at (suc (suc (suc (suc zero)))) = Some m.Four
member_at (suc (suc (suc (suc (suc zero))))) = Some m.Five
member_at (suc (suc (suc (suc (suc (suc zero)))))) = Some m.Six
member_at (suc (suc (suc (suc (suc (suc (suc zero))))))) = Some m.Seven
member_at (suc (suc (suc (suc (suc (suc (suc (suc zero)))))))) = Some m.Eight
member_at (suc (suc (suc (suc (suc (suc (suc (suc (suc n))))))))) = None

-- its number
abbrev pub structure_number : StructNo → ℕ
structure_number s.One = 1
structure_number s.Two = 2
structure_number s.Three = 3
structure_number s.Four = 4

-- the one of a number, if there is one
abbrev pub structure_at : ℕ → Option StructNo
structure_at zero = None
structure_at (suc zero) = Some s.One
structure_at (suc (suc zero)) = Some s.Two
structure_at (suc (suc (suc zero))) = Some s.Three
structure_at (suc (suc (suc (suc zero)))) = Some s.Four
structure_at (suc (suc (suc (suc (suc n))))) = None

-- its number
abbrev pub task_number : TaskNo → ℕ
task_number t.System = 0
task_number t.One = 1
task_number t.Two = 2
task_number t.Three = 3
task_number t.Four = 4

-- the one of a number, if there is one
abbrev pub task_at : ℕ → Option TaskNo
task_at zero = Some t.System
task_at (suc zero) = Some t.One
task_at (suc (suc zero)) = Some t.Two
task_at (suc (suc (suc zero))) = Some t.Three
task_at (suc (suc (suc (suc zero)))) = Some t.Four
task_at (suc (suc (suc (suc (suc n))))) = None

-- its number
abbrev pub priority_number : Priority → ℕ
priority_number p.Zero = 0
priority_number p.One = 1
priority_number p.Two = 2
priority_number p.Three = 3
priority_number p.Four = 4
priority_number p.Five = 5
priority_number p.Six = 6
priority_number p.Seven = 7
priority_number p.Eight = 8
priority_number p.Nine = 9

-- the one of a number, if there is one
abbrev pub priority_at : ℕ → Option Priority
priority_at zero = Some p.Zero
priority_at (suc zero) = Some p.One
priority_at (suc (suc zero)) = Some p.Two
priority_at (suc (suc (suc zero))) = Some p.Three
priority_at (suc (suc (suc (suc zero)))) = Some p.Four
priority_at (suc (suc (suc (suc (suc zero))))) = Some p.Five
priority_at (suc (suc (suc (suc (suc (suc zero)))))) = Some p.Six
priority_at (suc (suc (suc (suc (suc (suc (suc zero))))))) = Some p.Seven
priority_at (suc (suc (suc (suc (suc (suc (suc (suc zero)))))))) = Some p.Eight
priority_at (suc (suc (suc (suc (suc (suc (suc (suc (suc zero))))))))) = Some p.Nine
priority_at (suc (suc (suc (suc (suc (suc (suc (suc (suc (suc n)))))))))) = None
