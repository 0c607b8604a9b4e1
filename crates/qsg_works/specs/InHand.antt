-- the work in hand of each task of a group
use Rattle.std.specs.Prelude.{ℕ, ◌+◌, ◌-◌, ◌*◌, ◌≡◌, List, Option, None, slice_index_or, slice_set}
use Rattle.qsg_num.specs.declared.seats.Member.{Member}
use Rattle.qsg_num.specs.declared.seats.TaskNo.{TaskNo}
use Rattle.qsg_num.specs.Seats.{member_number, task_number}
use Rattle.qsg_works.specs.declared.work.Work.{Work}

-- tasks of a member, its system task among them
abbrev pub tasks : ℕ
tasks = 5

-- the place of a task of a member
abbrev pub place : Member → TaskNo → ℕ
place m t = (member_number m - 1) * tasks + task_number t

-- the work that a task has in hand, if it has one
abbrev pub work_of : Member → TaskNo → List (Option Work) → Option Work
work_of m t works = slice_index_or works (place m t) None

-- a task has this work in hand, or none
abbrev pub with_work : Member → TaskNo → Option Work → List (Option Work) → List (Option Work)
with_work m t work works = slice_set works (place m t) work

-- another task, by the numbers of member and task
abbrev pub IsOther : Member → TaskNo → Member → TaskNo → Type 0
IsOther m t k w = member_number k ≡ member_number m → task_number w ≡ task_number t → ⊥
