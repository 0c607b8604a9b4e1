-- the commands of a recovery
use Rattle.std.specs.Prelude.{ℕ, ◌-◌, max, Bool, true, false, ◌==◌, List, [], ◌∷◌, ◌++◌, Option, Some, None, if◌then◌else◌, slice_get, option_and_then, nat_lt}
use Rattle.qsg_num.specs.declared.seats.Member.{Member}
use Rattle.qsg_num.specs.declared.ids.Incarnation.{Incarnation}
use Rattle.qsg_num.specs.Seats.{member_number}
use Rattle.qsg_lists.specs.declared.parts.Entry.{Entry}
use Rattle.qsg_lists.specs.declared.parts.Place.{Place}
use Rattle.qsg_lists.specs.declared.parts.State.{State}
use Rattle.qsg_lists.specs.declared.parts.State.TheVariants as state
use Rattle.qsg_lists.specs.declared.parts.RecoverFault.{RecoverFault}
use Rattle.qsg_lists.specs.declared.parts.RecoverFault.TheVariants as fault
use Rattle.qsg_lists.specs.declared.parts.WriteWhy.{WriteWhy}
use Rattle.qsg_lists.specs.declared.parts.WriteWhy.TheVariants as why
use Rattle.qsg_lists.specs.Entries.{cost_of}
use Rattle.qsg_lists.specs.Structures.{ListStructure}
use Rattle.qsg_lists.specs.Writing.{free_of}

abbrev pub is_incarnation : Incarnation → Option Incarnation → Bool
is_incarnation incarnation None = false
is_incarnation incarnation (Some other) = other.number == incarnation.number

-- this incarnation of the member lives: the list has it at the member's place
abbrev pub is_live : List (Option Incarnation) → Member → Incarnation → Bool
is_live live member incarnation = is_incarnation incarnation (option_and_then (λ o. o) (slice_get live (member_number member - 1)))

-- why a recovery doesn't begin, if it doesn't
abbrev pub recover_fault : List (Option Incarnation) → State → Option RecoverFault
recover_fault live state.Active = Some (fault.NotFailed state.Active)
recover_fault live state.Failed = None
recover_fault live (state.InRecover member incarnation) = if is_live live member incarnation then Some (fault.InRecover member) else None

-- the structure in recovery by this incarnation of a member, empty
abbrev pub begun : ListStructure → Member → Incarnation → ListStructure
begun s by incarnation = record s { state = state.InRecover by incarnation; entries = [] }

abbrev pub is_recovering : State → Bool
is_recovering state.Active = false
is_recovering state.Failed = false
is_recovering (state.InRecover member incarnation) = true

-- Full where the entry needs more than is free
abbrev pub restore_refusal : ListStructure → Place → Option WriteWhy
restore_refusal s place = if nat_lt (free_of s) (cost_of place) then Some (why.Full (cost_of place) (free_of s)) else None

-- the structure with the entry at its end
abbrev pub restored : ListStructure → Entry → ListStructure
restored s entry = record s { entries = s.entries ++ entry ∷ [] }

-- the structure serves its users again, in the larger of its epoch and the floor
abbrev pub recovered : ListStructure → ℕ → ListStructure
recovered s floor = record s { state = state.Active; epoch = max s.epoch floor }

-- the recovery is given up: failed and empty
abbrev pub abandoned : ListStructure → ListStructure
abandoned s = record s { state = state.Failed; entries = [] }
