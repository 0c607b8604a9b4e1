-- how many steps are left to a rebuild at most
use Rattle.std.specs.Prelude.{ℕ, ◌+◌, List, length, count_by}
use Rattle.qsg_num.specs.declared.ids.EntryId.{EntryId}
use Rattle.qsg_lists.specs.declared.parts.Entry.{Entry}
use Rattle.qsg_lists.specs.Entries.{is_above}
use Rattle.qsg_parts.specs.Owned.{Owned}
use Rattle.qsg_rebuild.specs.declared.phases.Phase.{Phase}
use Rattle.qsg_rebuild.specs.declared.phases.Phase.TheVariants.{Connect, Load, Scan, Shut, Sync}
use Rattle.qsg_rebuild.specs.declared.work.RebuildWork.{RebuildWork}
use Rattle.qsg_rebuild.specs.Steps.{structure_of}

-- how many entries are above an id
abbrev pub entries_above : EntryId → List Entry → ℕ
entries_above id entries = count_by (is_above id) entries

-- two steps until the header is read, one for each entry and one more, and two that shut the gate
abbrev pub left_at : Phase → List Entry → ℕ
left_at Connect entries = length entries + 5
left_at (Load epoch is_served) entries = length entries + 4
left_at (Scan epoch after is_open) entries = entries_above after entries + 3
left_at Shut entries = 2
left_at Sync entries = 1

abbrev pub left_of_rebuild : RebuildWork → Owned → ℕ
left_of_rebuild w p = left_at w.phase (structure_of w p).entries
