-- What contracts see of a history that is kept.
use Rattle.std.specs.Prelude.{ℕ, List}
use Rattle.qsg_model.specs.declared.history.Item.{Item}

-- its items, and how many more have room that was reserved
pub record Recorded : Type 0 where
  pub items : List Item
  pub room : ℕ
