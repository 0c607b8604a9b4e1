-- how many steps are left to a member's system task, with its cleanings
use Rattle.std.specs.Prelude.{ℕ, ◌+◌, ◌-◌, ◌*◌, ◌≡◌, ◌==◌, ◌&&◌, Bool, true, false, if◌then◌else◌, List, Option, Some, None, is_some}
use Rattle.std.specs.List.{AllByRecursion}
use Rattle.qsg_num.specs.declared.seats.Member.{Member}
use Rattle.qsg_num.specs.declared.seats.StructNo.{StructNo}
use Rattle.qsg_num.specs.declared.seats.StructNo.TheVariants as structure
use Rattle.qsg_lists.specs.declared.parts.Connection.{Connection}
use Rattle.qsg_lists.specs.declared.parts.Entry.{Entry}
use Rattle.qsg_lists.specs.Entries.{entry_at}
use Rattle.qsg_lists.specs.Structures.{ListStructure, is_active}
use Rattle.qsg_parts.specs.Owned.{Owned}
use Rattle.qsg_cleaning.specs.declared.phases.Phase.{Phase}
use Rattle.qsg_cleaning.specs.declared.phases.Phase.TheVariants.{Connect, Search, Forget}
use Rattle.qsg_cleaning.specs.declared.work.CleaningWork.{CleaningWork}
use Rattle.qsg_cleaning.specs.Finding.{cleanup_in, has_cleanup}
use Rattle.qsg_cleaning.specs.Steps.{structure_of, is_to_clean}
use Rattle.qsg_cleaning.specs.Forgetting.{count_to_clean}

-- how many entries of active structures the member is to forget
abbrev pub left_in : Member → ListStructure → ℕ
left_in owner structure = if is_active structure.state then count_to_clean owner structure.entries else 0

abbrev pub all_to_clean : Member → Owned → ℕ
all_to_clean owner p =
    left_in owner (structure_of structure.One p) + left_in owner (structure_of structure.Two p)
    + left_in owner (structure_of structure.Three p) + left_in owner (structure_of structure.Four p)

-- the structure serves uses of this epoch
abbrev pub serves : ℕ → ListStructure → Bool
serves epoch structure = is_active structure.state && (epoch == structure.epoch)

abbrev pub is_to_clean_if : Member → Option Entry → Bool
is_to_clean_if owner None = false
is_to_clean_if owner (Some e) = is_to_clean owner e

-- the entry that the work is to forget stands
abbrev pub is_on_at : Phase → Member → ListStructure → Bool
is_on_at Connect owner structure = has_cleanup owner structure
is_on_at (Search epoch) owner structure = serves epoch structure && is_some (cleanup_in owner structure.entries)
is_on_at (Forget epoch id) owner structure = serves epoch structure && is_to_clean_if owner (entry_at id structure.entries)

abbrev pub made_at : Phase → ℕ
made_at Connect = 0
made_at (Search epoch) = 1
made_at (Forget epoch id) = 2

-- Each entry counts four steps: three of its cleaning, and one more, so that a cleaning whose entry is lost with its
-- structure can end.
abbrev pub whole_cleaning : ℕ
whole_cleaning = 4

abbrev pub left_before : Member → Owned → ℕ
left_before owner p = whole_cleaning * all_to_clean owner p

-- with a cleaning in hand
abbrev pub left_if : Bool → ℕ → ℕ → ℕ
left_if true before made = before - made
left_if false before made = before + 3 - made

abbrev pub left_at : Phase → CleaningWork → Owned → ℕ
left_at phase w p = left_if (is_on_at phase w.member (structure_of w.structure p)) (left_before w.member p) (made_at phase)

abbrev pub left_with : CleaningWork → Owned → ℕ
left_with w p = left_at w.phase w p
