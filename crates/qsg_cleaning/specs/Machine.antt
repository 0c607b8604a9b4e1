-- the parts of a group as the machines see them
use Rattle.std.specs.Prelude.{◌≡◌, ◌⊎◌}
use Rattle.qsg_group.specs.Group.{Group}
use Rattle.qsg_group.specs.Changes.{Change}
use Rattle.qsg_manager.specs.Groups.{Rest, group_of}
use Rattle.qsg_parts.specs.Owned.{Owned}

-- the machine's group, with what it has besides structures and members
abbrev pub group_in : Rest → Owned → Group
group_in rest p = group_of rest p.structures p.managers

-- the group is as it was, or one shared action was made
abbrev pub IsStep : Group → Group → Type 0
IsStep g h = (h ≡ g) ⊎ Change g h
