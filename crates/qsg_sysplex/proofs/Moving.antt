-- an actor that the group doesn't have makes no step, so that it needs nothing
use Rattle.std.proofs.Common.{◌≡◌, ◌≤◌, ◌<◌, ℕ, zero, suc, Bool, true, false, List, [], ◌∷◌, length, Some, None, refl, ap, sym, subst, arith}
use Rattle.std.specs.Prelude.{◌&&◌, ◌-◌, nat_lt, if◌then◌else◌, slice_index_or}
use Rattle.std.proofs.lemmas.Bool.{false≢true}
use Rattle.std.proofs.lemmas.Bool.Decides.{nat_tests}
use Rattle.qsg_num.specs.declared.seats.Member.{Member}
use Rattle.qsg_num.specs.declared.seats.TaskNo.{TaskNo}
use Rattle.qsg_num.specs.declared.seats.TaskNo.TheVariants as task
use Rattle.qsg_num.specs.declared.ids.Actor.{Actor}
use Rattle.qsg_num.specs.declared.ids.Actor.TheVariants as actor
use Rattle.qsg_num.specs.Seats.{member_number}
use Rattle.qsg_objects.specs.declared.directives.Directive.{Directive}
use Rattle.qsg_requests.specs.declared.replies.Cause.TheVariants.{Down}
use Rattle.qsg_manager.specs.declared.managers.Manager.{Manager}
use Rattle.qsg_manager.specs.Storage.{no_manager}
use Rattle.qsg_step.specs.Asking.{asked}
use Rattle.qsg_step.specs.Needs.{MayMove}
use Rattle.qsg_step.specs.States.{State, IsWithin, is_member_up}
use Rattle.qsg_step.specs.Waiting.{cause_of, cause_asked}

beyond : {X : Type 0} (xs : List X) (i : ℕ) (d : X) → length xs ≤ i → slice_index_or xs i d ≡ d
beyond [] i d h = refl
beyond (x ∷ xs) zero d h = absurd (omega (arith, h))
beyond (x ∷ xs) (suc i) d h = beyond xs i d (omega (arith, h))

outside_down : (m : Member) (s : State) → length s.parts.managers < member_number m → is_member_up m s ≡ false
outside_down m s outside = ap (λ (x : Manager). x.up) (beyond s.parts.managers (member_number m - 1) no_manager (omega (arith, outside)))

no_work : (b c : Bool) → b ≡ false → (b && c) ≡ true → ⊥
no_work true c down has = false≢true (sym down)
no_work false c down has = false≢true has

some_none : {X : Type 0} (x : X) → Some x ≡ None → ⊥
some_none x e = cc

-- a task of a member that is down waits
waits : (m : Member) (t : TaskNo) (s : State) (d : Directive) → is_member_up m s ≡ false → cause_of (actor.Task m t) (asked (actor.Task m t) d) s ≡ None → ⊥
waits m t s d down none = some_none Down (subst (λ (b : Bool). (if b then cause_asked (asked (actor.Task m t) d) s else Some Down) ≡ None) down none)

moves_not : (m : Member) (t : TaskNo) (s : State) → is_member_up m s ≡ false → MayMove (actor.Task m t) s
moves_not m task.System s down = λ has. absurd (no_work (is_member_up m s) _ down has)
moves_not m task.One s down = λ d next none. absurd (waits m task.One s d down none)
moves_not m task.Two s down = λ d next none. absurd (waits m task.Two s d down none)
moves_not m task.Three s down = λ d next none. absurd (waits m task.Three s d down none)
moves_not m task.Four s down = λ d next none. absurd (waits m task.Four s d down none)

pub kept_may_move : (s : State) (who : Actor) → (IsWithin who (length s.parts.managers) → MayMove who s) → MayMove who s
kept_may_move s actor.Operator law = law tt
kept_may_move s (actor.Task m t) law = by (nat_lt (length s.parts.managers) (member_number m)) refl
  where
    by : (b : Bool) → nat_lt (length s.parts.managers) (member_number m) ≡ b → MayMove (actor.Task m t) s
    by true is = moves_not m t s (outside_down m s (grind (arith, nat_tests, is)))
    by false is = law (grind (arith, nat_tests, is))
