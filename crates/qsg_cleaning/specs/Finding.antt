-- whether a member has an entry to forget, and in which structure
use Rattle.std.specs.Prelude.{◌<◌, Bool, ◌&&◌, [], ◌∷◌, List, Option, is_some, find}
use Rattle.std.specs.List.{AllByRecursion}
use Rattle.qsg_num.specs.declared.seats.Member.{Member}
use Rattle.qsg_num.specs.declared.seats.StructNo.{StructNo}
use Rattle.qsg_num.specs.declared.seats.StructNo.TheVariants as structure
use Rattle.qsg_num.specs.declared.ids.EntryId.{EntryId}
use Rattle.qsg_lists.specs.declared.parts.Entry.{Entry}
use Rattle.qsg_lists.specs.Entries.{is_cleanup_above}
use Rattle.qsg_lists.specs.Structures.{ListStructure, is_active}
use Rattle.qsg_manager.specs.Facilities.{structure_in}
use Rattle.qsg_parts.specs.Owned.{Owned}

-- every id is above it
abbrev pub no_id : EntryId
no_id = record { number = 0 }

-- the first entry that is removed and whose blocks are this owner's
abbrev pub cleanup_in : Member → List Entry → Option Entry
cleanup_in owner entries = find (is_cleanup_above owner no_id) entries

-- the structure is active and has such an entry
abbrev pub has_cleanup : Member → ListStructure → Bool
has_cleanup owner structure = is_active structure.state && is_some (cleanup_in owner structure.entries)

abbrev pub has_cleaning_in : Member → Owned → StructNo → Bool
has_cleaning_in owner p s = has_cleanup owner (structure_in s p.structures)

-- the least structure by number that has one
abbrev pub first_to_clean : Member → Owned → Option StructNo
first_to_clean owner p = find (has_cleaning_in owner p) (structure.One ∷ structure.Two ∷ structure.Three ∷ structure.Four ∷ [])

abbrev pub has_cleaning : Member → Owned → Bool
has_cleaning owner p = is_some (first_to_clean owner p)

-- the ids of entries are above 0
abbrev pub AreAbove : Owned → Type 0
AreAbove p = (s : StructNo) → AllByRecursion (λ (e : Entry). 0 < e.id.number) (structure_in s p.structures).entries
