-- the claims that a unit has still to settle
use Rattle.std.specs.Prelude.{ℕ, ◌+◌, Bool, true, false, List, Option, None, slice_get}
use Rattle.qsg_group.specs.declared.tasks.Claim.{Claim}
use Rattle.qsg_group.specs.declared.tasks.Stage.{Stage}
use Rattle.qsg_group.specs.declared.tasks.Stage.TheVariants.{Open, Hardening, Committed, BackedOut}
use Rattle.qsg_group.specs.declared.tasks.Task.{Task}

-- the claim that is settled next, once the unit is committed or backed out
abbrev pub next_by : Stage → List Claim → Option Claim
next_by Open claims = None
next_by (Hardening first) claims = None
next_by (Committed first settled) claims = slice_get claims settled
next_by (BackedOut settled) claims = slice_get claims settled

abbrev pub next_claim : Task → Option Claim
next_claim task = next_by task.stage task.claims

-- whether its marks are settled as those of a committed unit
abbrev pub commits : Stage → Bool
commits Open = false
commits (Hardening first) = false
commits (Committed first settled) = true
commits (BackedOut settled) = false

-- the unit with one claim more settled
abbrev pub further : Stage → Stage
further Open = Open
further (Hardening first) = Hardening first
further (Committed first settled) = Committed first (settled + 1)
further (BackedOut settled) = BackedOut (settled + 1)

-- how many claims are settled
abbrev pub settled_of : Stage → ℕ
settled_of Open = 0
settled_of (Hardening first) = 0
settled_of (Committed first settled) = settled
settled_of (BackedOut settled) = settled
