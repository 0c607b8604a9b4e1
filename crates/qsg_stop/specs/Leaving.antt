-- what a step of a STOP leaves as it was
use Rattle.std.specs.Prelude.{◌≡◌, Bool, true, false, filter}
use Rattle.qsg_num.specs.declared.seats.Member.{Member}
use Rattle.qsg_num.specs.declared.seats.StructNo.{StructNo}
use Rattle.qsg_num.specs.Seats.{member_number}
use Rattle.qsg_repo.specs.Lives.{is_member}
use Rattle.qsg_repo.specs.Tables.{Repository, smds_at}
use Rattle.qsg_datasets.specs.Kept.{set_in}
use Rattle.qsg_manager.specs.Storage.{manager_in}
use Rattle.qsg_logs.specs.Kept.{log_in}
use Rattle.qsg_parts.specs.Owned.{Owned}
use Rattle.qsg_stop.specs.declared.phases.Phase.{Phase}
use Rattle.qsg_stop.specs.declared.phases.Phase.TheVariants.{Connect, Save, Tell, Last}

-- it is another member
abbrev pub IsOther : Member → Member → Type 0
IsOther m k = member_number k ≡ member_number m → ⊥

-- of the repository all but the incarnations of one member, and what it tells of that member's data sets
pub record LeavesRepository (m : Member) (old new : Repository) : Type 0 where
  pub rest : new ≡ record old { lives = new.lives; smds = new.smds }
  pub lives : (k : Member) → IsOther m k → filter (is_member k) new.lives ≡ filter (is_member k) old.lives
  pub smds : (k : Member) (s : StructNo) → IsOther m k → smds_at k s new ≡ smds_at k s old

-- all but these, and the data sets of the member
pub record LeavesRest (m : Member) (p q : Owned) : Type 0 where
  pub parts : q ≡ record p { datasets = q.datasets; repo = q.repo }
  pub sets : (k : Member) (s : StructNo) → IsOther m k → set_in k s q.datasets ≡ set_in k s p.datasets
  pub repo : LeavesRepository m p.repo q.repo

-- what begins a STOP leaves all but the storage of the member's tasks and its log
pub record LeavesOthers (m : Member) (p q : Owned) : Type 0 where
  pub parts : q ≡ record p { managers = q.managers; logs = q.logs }
  pub managers : (k : Member) → IsOther m k → manager_in k q.managers ≡ manager_in k p.managers
  pub logs : (k : Member) → IsOther m k → log_in k q.logs ≡ log_in k p.logs

-- ---- the one call of a step

-- on a device
abbrev pub calls_device : Phase → Bool
calls_device (Connect s) = false
calls_device (Save connection call) = true
calls_device (Tell connection) = false
calls_device Last = false

-- of the repository
abbrev pub calls_repository : Phase → Bool
calls_repository (Connect s) = false
calls_repository (Save connection call) = false
calls_repository (Tell connection) = true
calls_repository Last = true

-- no device changed
abbrev pub LeavesDevices : Owned → Owned → Type 0
LeavesDevices p q = (k : Member) (s : StructNo) → (set_in k s q.datasets).contents ≡ (set_in k s p.datasets).contents
