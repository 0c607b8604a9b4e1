-- entries that units have marked
use Rattle.std.specs.Prelude.{ℕ, List, Option, Some, None, find, count_by, sum_by}
use Rattle.std.specs.Option.{option_and_then}
use Rattle.qsg_num.specs.declared.seats.Member.{Member}
use Rattle.qsg_num.specs.declared.ids.EntryId.{EntryId}
use Rattle.qsg_num.specs.declared.ids.Incarnation.{Incarnation}
use Rattle.qsg_lists.specs.declared.parts.Entry.{Entry}
use Rattle.qsg_lists.specs.declared.parts.Mark.{Mark}
use Rattle.qsg_lists.specs.declared.parts.Mark.TheVariants.{Visible, PutBy, GotBy, Cleanup}
use Rattle.qsg_lists.specs.Marks.{names_member}
use Rattle.qsg_lists.specs.Entries.{is_marked_above}
use Rattle.qsg_lists.specs.Structures.{ListStructure}
use Rattle.qsg_manager.specs.declared.structures.MarkedEntry.{MarkedEntry}

abbrev pub marked_by : EntryId → Mark → Option MarkedEntry
marked_by id Visible = None
marked_by id (PutBy unit) = Some (record { id = id; unit = unit })
marked_by id (GotBy unit) = Some (record { id = id; unit = unit })
marked_by id Cleanup = None

-- the entry with the unit that its mark names, if it names one
abbrev pub marked_entry : Entry → Option MarkedEntry
marked_entry e = marked_by e.id e.mark

-- the first of these entries above an id whose mark names this incarnation of the member
abbrev pub marked_above : Member → Incarnation → EntryId → List Entry → Option MarkedEntry
marked_above m i id entries = option_and_then marked_entry (find (is_marked_above m i id) entries)

-- how many of these entries have a mark that names this incarnation of the member
abbrev pub marks_in : Member → Incarnation → List Entry → ℕ
marks_in m i entries = count_by (λ e. names_member m i e.mark) entries

-- how many entries of all structures do
abbrev pub marks_of : Member → Incarnation → List ListStructure → ℕ
marks_of m i structures = sum_by (λ s. marks_in m i s.entries) structures
