-- what each step of a request leaves of the group and of the operations that are pending
use Rattle.std.proofs.Common.{◌≡◌, ℕ, ◌+◌, List, [], ◌∷◌, ◌++◌, length, Bool, true, false, cond, Some, ◌⊎◌, refl, sym, ap, subst}
use Rattle.std.specs.Prelude.{count_by}
use Rattle.std.specs.List.{AllByRecursion}
use Rattle.qsg_num.specs.declared.seats.Member.{Member}
use Rattle.qsg_num.specs.declared.seats.StructNo.{StructNo}
use Rattle.qsg_num.specs.declared.seats.TaskNo.{TaskNo}
use Rattle.qsg_num.specs.declared.ids.UnitName.{UnitName}
use Rattle.qsg_num.specs.Ids.{same_unit}
use Rattle.qsg_num.specs.Seats.{structure_number}
use Rattle.qsg_model.specs.declared.history.Item.{Item}
use Rattle.qsg_model.specs.declared.history.Item.TheVariants.{Unit as UnitOf}
use Rattle.qsg_model.specs.declared.history.Op.{Op}
use Rattle.qsg_model.specs.History.{names}
use Rattle.qsg_model.specs.Past.{is_unit}
use Rattle.qsg_requests.specs.declared.replies.Reply.{Reply}
use Rattle.qsg_requests.specs.declared.replies.Turn.{Turn}
use Rattle.qsg_requests.specs.declared.replies.Turn.TheVariants.{More, Ended, Waits}
use Rattle.qsg_lists.specs.Structures.{ListStructure}
use Rattle.qsg_manager.specs.Facilities.{structure_in}
use Rattle.qsg_manager.specs.Storage.{task_at}
use Rattle.qsg_parts.specs.Owned.{Owned}
use Rattle.qsg_works.specs.declared.work.Work.{Work}
use Rattle.qsg_sound.specs.Sound.{request_in}
use Rattle.qsg_answered.specs.Telling.{is_broken, pending_after, commits}
use Rattle.qsg_answered.specs.Cutting.{AreToldBy}
use Rattle.qsg_answered.specs.Fits.{EndsRequest, Holds, StaysOut, commits_now, AreInside}
use Rattle.qsg_answered.proofs.Frames.{IsFrame, frame_same, IsTelling, AllTold}

-- the definitions and the lives of members stay, one task at most changes, and bodies stay inside
pub record IsMove (m : Member) (t : TaskNo) (p q : Owned) : Type 0 where
  pub objects : q.objects ≡ p.objects
  pub lives : q.repo.lives ≡ p.repo.lives
  pub frame : IsFrame m t p.managers q.managers
  pub inside : AllByRecursion AreInside p.structures → AllByRecursion AreInside q.structures
  pub told : (is_told : IsTelling) → ((u : UnitName) (k : ℕ × ℕ) → (task_at m t p.managers).unit ≡ Some u → is_told k u ≡ true) → AreToldBy is_told p → AreToldBy is_told q

pub still : (m : Member) (t : TaskNo) (p : Owned) → IsMove m t p p
still m t p = record { objects = refl; lives = refl; frame = frame_same m t p.managers; inside = λ each. each; told = λ is_told own each. each }

-- nothing that is looked at changes, as where only logs do
pub logs_alone : (m : Member) (t : TaskNo) (p q : Owned) → q.objects ≡ p.objects → q.repo ≡ p.repo → q.managers ≡ p.managers → q.structures ≡ p.structures → IsMove m t p q
logs_alone m t p q objects repo managers structures = record {
  objects = objects;
  lives = ap (λ r. r.lives) repo;
  frame = subst (IsFrame m t p.managers) (sym managers) (frame_same m t p.managers);
  inside = λ each. subst (AllByRecursion AreInside) (sym structures) each;
  told = λ is_told own each x. subst (λ (ss : List ListStructure). AllTold is_told (structure_number x) (structure_in x ss).entries) (sym structures) (each x);
}

-- the history has one unit more, which the task held
pub record IsAdded (m : Member) (t : TaskNo) (p q : Owned) : Type 0 where
  pub unit : UnitName
  pub ops : List (StructNo × Op)
  pub holds : (task_at m t p.managers).unit ≡ Some unit
  pub new : is_unit unit p.history.items ≡ false
  pub items : q.history.items ≡ p.history.items ++ UnitOf unit ops ∷ []

abbrev pub one_if : Bool → ℕ
one_if b = cond b 1 0

abbrev pub named_in : UnitName → List Item → ℕ
named_in u h = count_by (same_unit u) (names h)

-- a request goes on
pub record Goes (m : Member) (t : TaskNo) (ops : List (StructNo × Op)) (before work : Work) (p q : Owned) : Type 0 where
  pub move : IsMove m t p q
  pub history : (q.history.items ≡ p.history.items) ⊎ IsAdded m t p q
  pub holds : Holds p.objects q.history.items (task_at m t q.managers) ops (Some work)
  pub counts : (u : UnitName) → one_if (commits_now u (Some work)) + named_in u p.history.items ≡ one_if (commits_now u (Some before)) + named_in u q.history.items

-- a request is answered
-- with no 2009, which only the end of a member brings
pub record Answered (m : Member) (t : TaskNo) (ops : List (StructNo × Op)) (before : Work) (r : Reply) (p q : Owned) : Type 0 where
  pub move : IsMove m t p q
  pub history : q.history.items ≡ p.history.items
  pub holds : (task_at m t q.managers).ops ≡ pending_after p.objects ops (Some (request_in before)) r
  pub ends : EndsRequest p.objects p.history.items ops (length p.history.items) (request_in before) r
  pub whole : is_broken r ≡ false
  pub out : StaysOut q (Some (request_in before)) r
  pub counts : (u : UnitName) → commits u (Some (request_in before)) r ≡ commits_now u (Some before)

abbrev pub Moves : Member → TaskNo → List (StructNo × Op) → Work → Work → Owned → Owned → Turn → Type 0
Moves m t ops before work p q More = Goes m t ops before work p q
Moves m t ops before work p q (Ended r) = Answered m t ops before r p q
Moves m t ops before work p q (Waits cause) = Unit {0}
