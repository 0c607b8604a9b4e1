-- What was committed and answered is there for gets.
use Rattle.std.specs.Prelude.{◌≡◌, ◌<◌, Bool, true, false, List, Some, Contains, sum_by}
use Rattle.std.specs.List.{AllByRecursion}
use Rattle.qsg_num.specs.declared.seats.Member.{Member}
use Rattle.qsg_num.specs.declared.seats.StructNo.{StructNo}
use Rattle.qsg_num.specs.declared.seats.TaskNo.{TaskNo}
use Rattle.qsg_num.specs.declared.ids.EntryId.{EntryId}
use Rattle.qsg_num.specs.declared.ids.UnitName.{UnitName}
use Rattle.qsg_msg.specs.declared.message.Message.{Message}
use Rattle.qsg_model.specs.declared.history.Item.{Item}
use Rattle.qsg_model.specs.declared.history.Item.TheVariants.{Unit as UnitOf}
use Rattle.qsg_model.specs.declared.history.Op.{Op}
use Rattle.qsg_model.specs.History.{key}
use Rattle.qsg_model.specs.Past.{held_at, is_put}
use Rattle.qsg_lists.specs.declared.parts.Entry.{Entry}
use Rattle.qsg_lists.specs.declared.parts.Mark.{Mark}
use Rattle.qsg_lists.specs.declared.parts.Mark.TheVariants.{Visible, PutBy, GotBy, Cleanup}
use Rattle.qsg_lists.specs.declared.parts.Place.TheVariants.{Inline}
use Rattle.qsg_lists.specs.Entries.{entry_at}
use Rattle.qsg_lists.specs.Structures.{is_active, ListStructure}
use Rattle.qsg_repo.specs.Tables.{Repository}
use Rattle.qsg_repo.specs.Calls.{is_unresolved}
use Rattle.qsg_agenda.specs.Courses.{Course}
use Rattle.qsg_group.specs.Laws.{is_pending}
use Rattle.qsg_group.specs.Observers.{IsElsewhere}
use Rattle.qsg_manager.specs.Facilities.{structure_in}
use Rattle.qsg_manager.specs.Storage.{task_at}
use Rattle.qsg_manager.specs.Views.{message_of}
use Rattle.qsg_step.specs.States.{State}
use Rattle.qsg_answered.specs.Fits.{commits_in}

-- an answer to a COMMIT named the unit
abbrev pub IsNamed : UnitName → List Course → Type 0
IsNamed u courses = 0 < sum_by (commits_in u) courses

-- the history holds the message, which a unit put whose COMMIT was answered
pub record IsDelivered (m : Message) (h : List Item) (courses : List Course) : Type 0 where
  pub held : held_at (key m) h ≡ Some m
  pub unit : UnitName
  pub ops : List (StructNo × Op)
  pub there : Contains h (UnitOf unit ops)
  pub put : is_put (key m) ops ≡ true
  pub answered : IsNamed unit courses

-- anyone may get the message of the entry, or a unit got it that hasn't ended, or whose marks no peer took off yet
abbrev pub is_shown : Mark → Bool
is_shown Visible = true
is_shown (PutBy u) = false
is_shown (GotBy u) = true
is_shown Cleanup = false

-- the structure has the message in an entry that shows it
pub record IsShown (m : Message) (structure : ListStructure) : Type 0 where
  pub entry : Entry
  pub there : entry_at m.id structure.entries ≡ Some entry
  pub says : message_of m.structure entry.id entry.head m.body ≡ m
  pub body : entry.place ≡ Inline m.body
  pub shown : is_shown entry.mark ≡ true

-- every message that was delivered is shown, where its structure is active
abbrev pub AreShown : State → Type 0
AreShown s = (m : Message) → is_active (structure_in m.structure s.parts.structures).state ≡ true → IsDelivered m s.parts.history.items s.courses → IsShown m (structure_in m.structure s.parts.structures)

-- no unit in hand has work on the structure
abbrev pub IsAtRest : StructNo → State → Type 0
IsAtRest x s = (m : Member) (t : TaskNo) → AllByRecursion (IsElsewhere x) (task_at m t s.parts.managers).claims

-- the mark is of a unit whose incarnation failed, and isn't resolved yet
abbrev pub is_unsettled : Mark → Repository → Bool
is_unsettled Visible repo = false
is_unsettled (PutBy u) repo = is_unresolved u.member u.incarnation repo
is_unsettled (GotBy u) repo = is_unresolved u.member u.incarnation repo
is_unsettled Cleanup repo = false

-- every entry of a structure may be got by anyone, or is removed, but for those of incarnations that aren't resolved
abbrev pub IsQuiet : Repository → ListStructure → Type 0
IsQuiet repo structure = (id : EntryId) (e : Entry) → entry_at id structure.entries ≡ Some e → is_pending e.mark ≡ true → is_unsettled e.mark repo ≡ true

-- each structure is quiet once no unit in hand has work on it
abbrev pub AreQuiet : State → Type 0
AreQuiet s = (x : StructNo) → IsAtRest x s → IsQuiet s.parts.repo (structure_in x s.parts.structures)
