-- what actions change of a group besides its structures and its members' storage
use Rattle.std.specs.Prelude.{ℕ, List, [], ◌∷◌, ◌++◌, max}
use Rattle.qsg_num.specs.declared.seats.Member.{Member}
use Rattle.qsg_num.specs.declared.seats.StructNo.{StructNo}
use Rattle.qsg_num.specs.declared.ids.UnitName.{UnitName}
use Rattle.qsg_model.specs.declared.history.Op.{Op}
use Rattle.qsg_model.specs.declared.history.Item.TheVariants.{Unit as UnitOf}
use Rattle.qsg_group.specs.declared.tasks.Claim.{Claim}
use Rattle.qsg_group.specs.Tables.{at_member}
use Rattle.qsg_group.specs.Observers.{logged_ops}
use Rattle.qsg_group.specs.Changes.{with_run}
use Rattle.qsg_manager.specs.Groups.{Rest}

-- the unit is in the history, and its run, from page `first` to before `next`, in its member's log
abbrev pub with_unit : UnitName → List (StructNo × Op) → List Claim → ℕ → ℕ → Rest → Rest
with_unit u ops claims first next rest = record rest {
  history = rest.history ++ UnitOf u ops ∷ [];
  logs = at_member u.member (with_run (record { unit = u; first = first; told = logged_ops ops claims }) next) rest.logs;
}

-- the member's low page is at least this one
abbrev pub with_low : Member → ℕ → Rest → Rest
with_low m page rest = record rest { logs = at_member m (λ log. record log { low = max log.low page }) rest.logs }
