-- what a refusal leaves of a unit
use Rattle.std.specs.Prelude.{◌≡◌}
use Rattle.qsg_parts.specs.Owned.{Owned}

-- structures and members' storage are as they were
pub record LeavesUnit (p q : Owned) : Type 0 where
  pub structures : q.structures ≡ p.structures
  pub managers : q.managers ≡ p.managers
