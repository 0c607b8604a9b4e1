use Rattle.std.proofs.Common.{◌≡◌, take}
use Rattle.std.specs.List.{flat_map}
use Rattle.qsg_sysplex.specs.Actors.{actors_of_member}
use Rattle.qsg_sysplex.specs.Starting.{all_members}
use Rattle.qsg_sysplex.proofs.actors.push_members.Given as goal

abbrev pub invariant-loop-index : goal.invariant-loop-index
invariant-loop-index l = l.actors.items ≡ flat_map (actors_of_member l.works) (take l.index all_members)
