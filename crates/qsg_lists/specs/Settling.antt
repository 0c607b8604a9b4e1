-- the commands that act on the entry of an id
use Rattle.std.specs.Prelude.{Bool, true, false, List, Option, Some, None, if◌then◌else◌, Result, Ok, Err, option_map}
use Rattle.qsg_num.specs.declared.ids.UnitName.{UnitName}
use Rattle.qsg_num.specs.declared.ids.EntryId.{EntryId}
use Rattle.qsg_lists.specs.declared.parts.Entry.{Entry}
use Rattle.qsg_lists.specs.declared.parts.Place.{Place}
use Rattle.qsg_lists.specs.declared.parts.Place.TheVariants.{Inline, Offloaded}
use Rattle.qsg_lists.specs.declared.parts.Mark.{Mark}
use Rattle.qsg_lists.specs.declared.parts.Mark.TheVariants.{Visible, PutBy, GotBy, Cleanup}
use Rattle.qsg_lists.specs.declared.parts.Settled.{Settled}
use Rattle.qsg_lists.specs.declared.parts.Settled.TheVariants.{Done, NotYours}
use Rattle.qsg_lists.specs.declared.parts.Connection.{Connection}
use Rattle.qsg_lists.specs.declared.parts.Lost.{Lost}
use Rattle.qsg_lists.specs.Marks.{names_unit, is_cleanup}
use Rattle.qsg_lists.specs.Entries.{entry_at, revise}
use Rattle.qsg_lists.specs.Structures.{ListStructure, lost_of, unless}

-- the mark of an entry that is removed, if it stays: only one with its body outside does
abbrev pub removed_mark : Place → Option Mark
removed_mark (Inline body) = None
removed_mark (Offloaded owner blocks length) = Some Cleanup

-- the mark that a commit or a backout leaves, if the entry stays
abbrev pub settled_mark : Bool → Mark → Place → Option Mark
settled_mark true (PutBy unit) place = Some Visible
settled_mark false (PutBy unit) place = removed_mark place
settled_mark true (GotBy unit) place = removed_mark place
settled_mark false (GotBy unit) place = Some Visible
settled_mark commits Visible place = Some Visible
settled_mark commits Cleanup place = Some Cleanup

-- the entry with another mark
abbrev pub marked : Mark → Entry → Entry
marked mark e = record e { mark = mark }

-- what a commit or a backout leaves of an entry
abbrev pub settled_entry : Bool → Entry → Option Entry
settled_entry commits e = option_map (λ mark. marked mark e) (settled_mark commits e.mark e.place)

-- an entry that is deleted leaves nothing
abbrev pub deleted : Entry → Option Entry
deleted e = None

-- Done where the mark of the entry passes; else the mark is told
abbrev pub told_by : (Mark → Bool) → Option Entry → Settled
told_by passes None = NotYours None
told_by passes (Some e) = if passes e.mark then Done else NotYours (Some e.mark)

abbrev pub settle_answer : ListStructure → Connection → EntryId → UnitName → Result Settled Lost
settle_answer s connection id unit = unless (lost_of s connection) (told_by (names_unit unit) (entry_at id s.entries))

abbrev pub forget_answer : ListStructure → Connection → EntryId → Result Settled Lost
forget_answer s connection id = unless (lost_of s connection) (told_by is_cleanup (entry_at id s.entries))

-- the entries with the one of this id revised, where the answer is Done
abbrev pub revise_if_done : Settled → EntryId → (Entry → Option Entry) → List Entry → List Entry
revise_if_done Done id f entries = revise id f entries
revise_if_done (NotYours mark) id f entries = entries

-- the structure with the entry of this id revised, where the answer is Done
abbrev pub revised_if_done : Result Settled Lost → EntryId → (Entry → Option Entry) → ListStructure → ListStructure
revised_if_done (Ok settled) id f s = record s { entries = revise_if_done settled id f s.entries }
revised_if_done (Err lost) id f s = s
