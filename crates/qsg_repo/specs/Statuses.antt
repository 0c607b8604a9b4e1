-- what calls make of access and status of a data set
use Rattle.std.specs.Prelude.{ℕ, Bool, true, false, ◌&&◌, ◌==◌, if◌then◌else◌}
use Rattle.qsg_repo.specs.declared.statuses.Access.{Access}
use Rattle.qsg_repo.specs.declared.statuses.Access.TheVariants as a
use Rattle.qsg_repo.specs.declared.statuses.Status.{Status}
use Rattle.qsg_repo.specs.declared.statuses.Status.TheVariants as s
use Rattle.qsg_repo.specs.declared.statuses.Smds.{Smds}

-- a data set at the start
abbrev pub new_smds : Smds
new_smds = record { access = a.Enabled; status = s.New }

abbrev pub is_enabled : Access → Bool
is_enabled a.Enabled = true
is_enabled a.Suspended = false
is_enabled a.Disabled = false

-- nothing is in it, so a use makes it active
abbrev pub is_idle : Status → Bool
is_idle s.New = true
is_idle s.Active = false
is_idle s.Empty = true
is_idle s.Failed = false
is_idle s.InRecover = false
is_idle s.Recovered = true

abbrev pub is_active : Status → Bool
is_active s.New = false
is_active s.Active = true
is_active s.Empty = false
is_active s.Failed = false
is_active s.InRecover = false
is_active s.Recovered = false

abbrev pub is_failed : Status → Bool
is_failed s.New = false
is_failed s.Active = false
is_failed s.Empty = false
is_failed s.Failed = true
is_failed s.InRecover = false
is_failed s.Recovered = false

abbrev pub is_in_recover : Status → Bool
is_in_recover s.New = false
is_in_recover s.Active = false
is_in_recover s.Empty = false
is_in_recover s.Failed = false
is_in_recover s.InRecover = true
is_in_recover s.Recovered = false

abbrev pub is_failed_smds : Smds → Bool
is_failed_smds smds = is_failed smds.status

-- its member uses it
abbrev pub used_smds : Smds → Smds
used_smds smds = if is_enabled smds.access && is_idle smds.status then record smds { status = s.Active } else smds

-- its member stops with so many of its blocks used
abbrev pub stopped_smds : ℕ → Smds → Smds
stopped_smds used smds = if (used == 0) && is_active smds.status then record smds { status = s.Empty } else smds

-- a RECOVER of its structure begins
abbrev pub dirty_smds : Smds → Smds
dirty_smds smds = if is_failed smds.status then record smds { status = s.InRecover } else smds

-- that RECOVER ends, well or not
abbrev pub ended_smds : Bool → Smds → Smds
ended_smds true smds = record { access = a.Enabled; status = s.Recovered }
ended_smds false smds = record smds { status = s.Failed }

abbrev pub done_smds : Bool → Smds → Smds
done_smds recovered smds = if is_in_recover smds.status then ended_smds recovered smds else smds
