-- the command that marks and lends the entry that a get is given
use Rattle.std.specs.Prelude.{ℕ, List, Option, Some, None, option_map}
use Rattle.qsg_num.specs.declared.ids.UnitName.{UnitName}
use Rattle.qsg_num.specs.declared.words.Delivery.{Delivery}
use Rattle.qsg_lists.specs.declared.parts.Entry.{Entry}
use Rattle.qsg_lists.specs.declared.parts.Selector.{Selector}
use Rattle.qsg_lists.specs.declared.parts.Mark.TheVariants.{GotBy}
use Rattle.qsg_lists.specs.declared.parts.Connection.{Connection}
use Rattle.qsg_lists.specs.declared.parts.Lost.{Lost}
use Rattle.qsg_lists.specs.Entries.{first_of, revise}
use Rattle.qsg_lists.specs.Structures.{ListStructure, lost_of}
use Rattle.qsg_lists.specs.Settling.{marked}

-- the entry as a get of this unit marks it
abbrev pub got_by : UnitName → Entry → Entry
got_by unit e = marked (GotBy unit) e

-- the entries with the one that was found marked
abbrev pub mark_found : UnitName → Option Entry → List Entry → List Entry
mark_found unit None entries = entries
mark_found unit (Some e) entries = revise e.id (λ x. Some (got_by unit x)) entries

-- what take lends: the first entry, as it marks it
abbrev pub take_answer : ListStructure → UnitName → List ℕ → Delivery → Selector → Option Entry
take_answer s unit queue order select = option_map (got_by unit) (first_of queue order select s.entries)

abbrev pub if_served : Option Lost → ListStructure → ListStructure → ListStructure
if_served (Some lost) before after = before
if_served None before after = after

-- what take leaves
abbrev pub taken : ListStructure → Connection → UnitName → List ℕ → Delivery → Selector → ListStructure
taken s connection unit queue order select =
    if_served (lost_of s connection) s (record s { entries = mark_found unit (first_of queue order select s.entries) s.entries })
