-- the sections as they are kept
use Rattle.std.specs.Prelude.{Bool, nat_lt, ◌==◌, List, map}
use Rattle.std.specs.declared.alloc.Global.{Global}
use Rattle.std.specs.declared.vec.Vec.{Vec}
use Rattle.qsg_num.specs.declared.ids.Actor.{Actor}
use Rattle.qsg_objects.specs.declared.directives.Directive.{Directive}
use Rattle.qsg_draft.specs.Lookups.{rank_of}

-- each with the list of its directives
abbrev pub seen : List (Actor × Vec Directive Global) → List (Actor × List Directive)
seen sections = map (λ (s : Actor × Vec Directive Global). (s.0, s.1.items)) sections

-- that of an actor
abbrev pub is_kept : Actor → Actor × Vec Directive Global → Bool
is_kept a s = rank_of s.0 == rank_of a

-- that of an actor behind it
abbrev pub is_later : Actor → Actor × Vec Directive Global → Bool
is_later a s = nat_lt (rank_of a) (rank_of s.0)
