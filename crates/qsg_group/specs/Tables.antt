-- what stands at each member, structure or task, and the change of one place
use Rattle.std.specs.Prelude.{ℕ, ◌==◌, if◌then◌else◌}
use Rattle.qsg_num.specs.declared.seats.Member.{Member}
use Rattle.qsg_num.specs.declared.seats.StructNo.{StructNo}
use Rattle.qsg_num.specs.declared.seats.TaskNo.{TaskNo}
use Rattle.qsg_num.specs.Seats.{member_number, structure_number, task_number}

-- places are told apart by their numbers
abbrev pub change : {I A : Type 0} → (I → ℕ) → I → (A → A) → (I → A) → I → A
change number i f table j = if number j == number i then f (table j) else table j

abbrev pub at_member : {A : Type 0} → Member → (A → A) → (Member → A) → Member → A
at_member m f table = change member_number m f table

abbrev pub at_structure : {A : Type 0} → StructNo → (A → A) → (StructNo → A) → StructNo → A
at_structure s f table = change structure_number s f table

abbrev pub at_task : {A : Type 0} → Member → TaskNo → (A → A) → (Member → TaskNo → A) → Member → TaskNo → A
at_task m t f table = change member_number m (λ row. change task_number t f row) table
