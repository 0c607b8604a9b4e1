-- what is left from a place on
use Rattle.std.specs.Prelude.{ℕ, ◌+◌, ◌≤◌, List, length}
use Rattle.qsg_lines.specs.declared.statements.Place.{Place}
use Rattle.qsg_lines.specs.declared.items.Item.{Item}
use Rattle.qsg_lines.specs.Lines.{lines_of}
use Rattle.qsg_lines.specs.Items.{items_from, Remaining, remaining_from}

abbrev pub items_at : Place → List Item
items_at at = items_from at.line at.within (lines_of at.rest.now)

abbrev pub end_at : Place → ℕ
end_at at = at.line + length (lines_of at.rest.now)

abbrev pub remaining_at : Place → Remaining
remaining_at at = remaining_from at.line at.within (lines_of at.rest.now)

-- The numbers of the lines that are left fit.
pub record IsRoom (at : Place) : Type 0 where
  pub counted : 1 ≤ at.line
  pub fits : at.line + length at.rest.now ≤ 4194305
