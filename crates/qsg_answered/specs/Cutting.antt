-- units whose member ended before their COMMIT was answered
use Rattle.std.specs.Prelude.{ℕ, ◌+◌, ◌≡◌, Bool, true, false, not, ◌&&◌, ◌||◌, List, [], ◌∷◌, ◌++◌, Some, Contains, fold, map, take}
use Rattle.std.specs.List.{AllByRecursion, list_any}
use Rattle.qsg_num.specs.declared.seats.StructNo.{StructNo}
use Rattle.qsg_num.specs.declared.seats.TaskNo.{TaskNo}
use Rattle.qsg_num.specs.declared.ids.Actor.TheVariants as actor
use Rattle.qsg_num.specs.declared.ids.UnitName.{UnitName}
use Rattle.qsg_num.specs.Ids.{same_unit}
use Rattle.qsg_num.specs.Seats.{structure_number}
use Rattle.qsg_model.specs.declared.history.Item.{Item}
use Rattle.qsg_model.specs.declared.history.Item.TheVariants.{Unit as UnitOf, Lost, Purged}
use Rattle.qsg_model.specs.History.{has_key}
use Rattle.qsg_model.specs.Past.{is_unit}
use Rattle.qsg_lists.specs.declared.parts.Entry.{Entry}
use Rattle.qsg_lists.specs.declared.parts.Mark.{Mark}
use Rattle.qsg_lists.specs.declared.parts.Mark.TheVariants.{Visible, PutBy, GotBy, Cleanup}
use Rattle.qsg_objects.specs.declared.directives.Directive.{Directive}
use Rattle.qsg_repo.specs.Calls.{is_unresolved}
use Rattle.qsg_requests.specs.declared.transcript.Answer.{Answer}
use Rattle.qsg_requests.specs.declared.words.Request.TheVariants as request
use Rattle.qsg_agenda.specs.Courses.{Course}
use Rattle.qsg_group.specs.Observers.{key_of_op}
use Rattle.qsg_manager.specs.Facilities.{structure_in}
use Rattle.qsg_parts.specs.Owned.{Owned}
use Rattle.qsg_step.specs.States.{State}
use Rattle.qsg_answered.specs.Telling.{requested, is_broken, with_answered, told}

-- A COMMIT of the unit's member was answered 2009, and the unit was in the history then, at the latest by the end of the
-- member itself, with the operations that were pending there.
pub record WasCutOff (u : UnitName) (s : State) : Type 0 where
  pub course : Course
  pub there : Contains s.courses course
  pub task : TaskNo
  pub own : course.actor ≡ actor.Task u.member task
  pub before : List (Directive × Answer)
  pub directive : Directive
  pub answer : Answer
  pub behind : List (Directive × Answer)
  pub told_is : told course ≡ before ++ (directive, answer) ∷ behind
  pub asks : requested course.actor directive ≡ Some request.Commit
  pub broken : is_broken answer.reply ≡ true
  pub committed : Contains (take (answer.at + 1) s.parts.history.items) (UnitOf u (fold (with_answered s.parts.objects course.actor) [] before))

-- ---- what is left of them

-- the unit is in the history, and works on the message of the key
abbrev pub works_on : UnitName → ℕ × ℕ → Item → Bool
works_on u k (UnitOf v ops) = same_unit u v && has_key (map key_of_op ops) k
works_on u k (Lost s) = false
works_on u k (Purged s) = false

-- where its incarnation failed, it isn't in the history, or it was cut off and works on the message
abbrev pub is_told_of : (UnitName → Bool) → Owned → ℕ × ℕ → UnitName → Bool
is_told_of cut_off p k u =
    not (is_unresolved u.member u.incarnation p.repo) || (not (is_unit u p.history.items) || (cut_off u && list_any (works_on u k) p.history.items))

-- so is the unit that put the message of an entry, if it hasn't ended
abbrev pub put_is_told : (ℕ × ℕ → UnitName → Bool) → ℕ × ℕ → Mark → Bool
put_is_told is_told k Visible = true
put_is_told is_told k (PutBy u) = is_told k u
put_is_told is_told k (GotBy u) = true
put_is_told is_told k Cleanup = true

abbrev pub IsToldOf : (ℕ × ℕ → UnitName → Bool) → ℕ → Entry → Type 0
IsToldOf is_told x e = put_is_told is_told (x, e.id.number) e.mark ≡ true

abbrev pub AreToldBy : (ℕ × ℕ → UnitName → Bool) → Owned → Type 0
AreToldBy is_told p = (x : StructNo) → AllByRecursion (IsToldOf is_told (structure_number x)) (structure_in x p.structures).entries

abbrev pub AreToldOf : (UnitName → Bool) → Owned → Type 0
AreToldOf cut_off p = AreToldBy (is_told_of cut_off p) p
