-- a step that wasn't made
use Rattle.std.proofs.Common.{◌≡◌, refl, sym, subst, arith}
use Rattle.qsg_commit.specs.Committing.{IsSameButRoom}
use Rattle.qsg_parts.specs.Owned.{Owned}
use Rattle.qsg_step.specs.States.{State}
use Rattle.qsg_step.specs.Steps.{IsUnmade}

same_room : (p : Owned) → IsSameButRoom p p
same_room p = record { same = refl; room = omega arith }

-- nothing changed at all
pub unchanged : (s r : State) → r ≡ s → IsUnmade s r
unchanged s r is = subst (IsUnmade s) (sym is) (record { parts = same_room s.parts; others = refl })
