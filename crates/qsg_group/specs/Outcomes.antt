-- How a unit of work ends whose member ends first: runs of the machine that can be had.
use Rattle.std.specs.Prelude.{ℕ, false, [], ◌∷◌, ◌≡◌}
use Rattle.qsg_num.specs.declared.seats.Member.TheVariants as members
use Rattle.qsg_num.specs.declared.seats.StructNo.TheVariants as structures
use Rattle.qsg_num.specs.declared.ids.UnitName.{UnitName}
use Rattle.qsg_num.specs.Ids.{id_at, unit_at}
use Rattle.qsg_msg.specs.declared.message.Message.{Message}
use Rattle.qsg_model.specs.declared.history.Op.TheVariants.{Put}
use Rattle.qsg_model.specs.declared.history.Item.TheVariants.{Unit as UnitOf}
use Rattle.qsg_lists.specs.declared.parts.Mark.TheVariants.{Visible}
use Rattle.qsg_group.specs.Group.{Group}
use Rattle.qsg_group.specs.Changes.{Reached}

-- the first message of the first structure, and the first unit of the first member
abbrev pub first_message : Message → Message
first_message m = record m { id = id_at 0 1; structure = structures.One }

abbrev pub first_unit : UnitName
first_unit = unit_at members.One 1 1

-- the unit is in the history, its member is down and resolved, and the message that it put is there for all
pub record Outlives (m : Message) (g : Group) : Type 0 where
  pub reached : Reached g
  pub down : (g.seats members.One).up ≡ false
  pub resolved : (i : ℕ) → g.failed members.One i ≡ false
  pub history : g.history ≡ UnitOf first_unit ((structures.One, Put (first_message m)) ∷ []) ∷ []
  pub entries : (g.shelves structures.One).entries ≡ record { message = first_message m; mark = Visible; outside = false } ∷ []

-- its put was made, nothing is in the history, its member is down and resolved, and no entry is left
pub record IsUndone (g : Group) : Type 0 where
  pub reached : Reached g
  pub down : (g.seats members.One).up ≡ false
  pub resolved : (i : ℕ) → g.failed members.One i ≡ false
  pub given : (g.shelves structures.One).last ≡ 1
  pub history : g.history ≡ []
  pub entries : (g.shelves structures.One).entries ≡ []
