-- the failing calls of devices
use Rattle.std.specs.Prelude.{ℕ, List, Some, None, if◌then◌else◌}
use Rattle.std.specs.List.{filter_map}
use Rattle.qsg_num.specs.declared.seats.Member.{Member}
use Rattle.qsg_disk.specs.declared.kinds.Kind.{Kind}
use Rattle.qsg_disk.specs.Places.{is_place}

-- the numbers of the failing calls of one device, of a list for all
abbrev pub calls_for : Member → Kind → List (Member × Kind × ℕ) → List ℕ
calls_for member kind failing = filter_map (λ (entry : Member × Kind × ℕ). if is_place member kind entry.0 entry.1 then Some entry.2 else None) failing
