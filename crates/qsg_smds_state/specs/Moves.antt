-- the table of moves that the operator may make
use Rattle.std.specs.Prelude.{Option, Some, None}
use Rattle.qsg_num.specs.declared.words.Wanted.{Wanted}
use Rattle.qsg_num.specs.declared.words.Wanted.TheVariants as w
use Rattle.qsg_repo.specs.declared.statuses.Access.TheVariants as a
use Rattle.qsg_repo.specs.declared.statuses.Status.{Status}
use Rattle.qsg_repo.specs.declared.statuses.Status.TheVariants as s
use Rattle.qsg_repo.specs.declared.statuses.Smds.{Smds}

-- what is in it is lost: any but a failed one may be given up
abbrev pub given_up : Status → Option Smds
given_up s.New = Some (record { access = a.Suspended; status = s.Failed })
given_up s.Active = Some (record { access = a.Suspended; status = s.Failed })
given_up s.Empty = Some (record { access = a.Suspended; status = s.Failed })
given_up s.Failed = None
given_up s.InRecover = Some (record { access = a.Suspended; status = s.Failed })
given_up s.Recovered = Some (record { access = a.Suspended; status = s.Failed })

-- it is declared to be recovered: only where it is failed or in recovery
abbrev pub declared_recovered : Status → Option Smds
declared_recovered s.New = None
declared_recovered s.Active = None
declared_recovered s.Empty = None
declared_recovered s.Failed = Some (record { access = a.Enabled; status = s.Recovered })
declared_recovered s.InRecover = Some (record { access = a.Enabled; status = s.Recovered })
declared_recovered s.Recovered = None

-- its access is enabled: not where it is failed or in recovery
abbrev pub enabled : Status → Option Smds
enabled s.New = Some (record { access = a.Enabled; status = s.New })
enabled s.Active = Some (record { access = a.Enabled; status = s.Active })
enabled s.Empty = Some (record { access = a.Enabled; status = s.Empty })
enabled s.Failed = None
enabled s.InRecover = None
enabled s.Recovered = Some (record { access = a.Enabled; status = s.Recovered })

-- where a data set is moved, whatever its access was; its access may always be disabled
abbrev pub moved : Smds → Wanted → Option Smds
moved smds w.AccessEnabled = enabled smds.status
moved smds w.AccessDisabled = Some (record smds { access = a.Disabled })
moved smds w.StatusFailed = given_up smds.status
moved smds w.StatusRecovered = declared_recovered smds.status
