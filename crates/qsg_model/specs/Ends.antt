-- The losses and purges of a structure, counted item by item.
use Rattle.std.specs.Prelude.{ℕ, ◌+◌, ◌==◌, if◌then◌else◌}
use Rattle.qsg_num.specs.Seats.{structure_number}
use Rattle.qsg_model.specs.declared.history.Item.{Item}
use Rattle.qsg_model.specs.declared.history.Item.TheVariants.{Unit as UnitOf, Lost, Purged}
use Rattle.qsg_model.specs.declared.ends.Ends.{Ends}

abbrev pub ends_after : ℕ → Ends → Item → Ends
ends_after s ends (UnitOf u ops) = ends
ends_after s ends (Lost t) = if s == structure_number t then record { count = ends.count + 1; floor = ends.floor } else ends
ends_after s ends (Purged t) = if s == structure_number t then record { count = ends.count + 1; floor = ends.count + 1 } else ends

abbrev pub no_ends : Ends
no_ends = record { count = 0; floor = 0 }
