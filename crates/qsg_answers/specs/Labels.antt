-- the names of members and structures, and what is named by them
use Rattle.std.specs.Prelude.{ℕ, ◌-◌, List, ◌++◌, slice_get, codes, Option, Some, None}
use Rattle.std.specs.Fmt.{decimal}
use Rattle.qsg_num.specs.declared.ids.Incarnation.{Incarnation}
use Rattle.qsg_num.specs.declared.ids.UnitName.{UnitName}
use Rattle.qsg_num.specs.declared.seats.Member.{Member}
use Rattle.qsg_num.specs.declared.seats.StructNo.{StructNo}
use Rattle.qsg_num.specs.Seats.{member_number, structure_number}
use Rattle.qsg_lists.specs.declared.parts.State.{State}
use Rattle.qsg_lists.specs.declared.parts.State.TheVariants.{Active, Failed, InRecover}

-- names, in order of the numbers from 1
pub record Labelling : Type 0 where
  pub members : List (List ℕ)
  pub structures : List (List ℕ)

-- a name, or the number where there is none
abbrev pub name_or : ℕ → Option (List ℕ) → List ℕ
name_or number None = decimal number
name_or number (Some name) = name

abbrev pub label_of : ℕ → List (List ℕ) → List ℕ
label_of number names = name_or number (slice_get names (number - 1))

abbrev pub member_text : Labelling → Member → List ℕ
member_text labels m = label_of (member_number m) labels.members

abbrev pub structure_text : Labelling → StructNo → List ℕ
structure_text labels s = label_of (structure_number s) labels.structures

-- an incarnation is its member and its number
abbrev pub incarnation_text : Labelling → Member → Incarnation → List ℕ
incarnation_text labels m i = member_text labels m ++ codes "/" ++ decimal i.number

-- a unit is its incarnation and its number
abbrev pub unit_text : Labelling → UnitName → List ℕ
unit_text labels u = incarnation_text labels u.member u.incarnation ++ codes "/" ++ decimal u.seq

abbrev pub state_text : Labelling → State → List ℕ
state_text labels Active = codes "active"
state_text labels Failed = codes "failed"
state_text labels (InRecover m i) = codes "inrecover " ++ member_text labels m
