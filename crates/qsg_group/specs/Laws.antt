-- The laws that hold after every step. Each takes only the parts of a group that it looks at.
use Rattle.std.specs.Prelude.{ℕ, ◌+◌, ◌^◌, List, [], ◌∷◌, ◌++◌, Bool, true, false, Some, None, map, max, ◌≡◌, ◌<◌, ◌≤◌, ◌⊎◌}
use Rattle.std.specs.List.{AllByRecursion}
use Rattle.qsg_num.specs.declared.seats.Member.{Member}
use Rattle.qsg_num.specs.declared.seats.StructNo.{StructNo}
use Rattle.qsg_num.specs.declared.seats.TaskNo.{TaskNo}
use Rattle.qsg_num.specs.declared.ids.UnitName.{UnitName}
use Rattle.qsg_num.specs.Seats.{structure_number}
use Rattle.qsg_num.specs.Ids.{same_unit, epoch_of}
use Rattle.qsg_msg.specs.declared.message.Message.{Message}
use Rattle.qsg_model.specs.declared.history.Op.{Op}
use Rattle.qsg_model.specs.declared.history.Item.{Item}
use Rattle.qsg_model.specs.History.{puts, gots, has_key, count_of, AllDiffer, Legal}
use Rattle.qsg_model.specs.Past.{message_at, keys_of, is_put, is_got, was_put, was_got, is_unit, held_at, past_of}
use Rattle.qsg_lists.specs.declared.parts.Mark.{Mark}
use Rattle.qsg_lists.specs.declared.parts.Mark.TheVariants.{Visible, PutBy, GotBy, Cleanup}
use Rattle.qsg_lists.specs.declared.parts.State.{State}
use Rattle.qsg_lists.specs.declared.parts.State.TheVariants.{Active, Failed, InRecover}
use Rattle.qsg_lists.specs.Structures.{is_active}
use Rattle.qsg_lists.specs.Recovering.{is_recovering}
use Rattle.qsg_group.specs.declared.tasks.Claim.{Claim}
use Rattle.qsg_group.specs.declared.tasks.Stage.{Stage}
use Rattle.qsg_group.specs.declared.tasks.Stage.TheVariants.{Open, Hardening, Committed, BackedOut}
use Rattle.qsg_group.specs.declared.tasks.Task.{Task}
use Rattle.qsg_group.specs.Group.{Held, Shelf, Run, Log, Seat, Group}
use Rattle.qsg_group.specs.Observers.{entry_at, top_of, is_committed, is_lasting, told, settled_at, is_undecided, is_hardening, is_hardened, key_of_claim, keys_claimed, key_of_op, left_by, is_live, IsPurged, IsElsewhere}

-- ---- the history and the logs

-- what a log tells of a unit
abbrev pub told_of : Run → UnitName × List (StructNo × Op)
told_of run = (run.unit, run.told)

-- A log tells of the member's last units in order, and where nothing was given up, of all
pub record IsLogged (m : Member) (h : List Item) (log : Log) : Type 0 where
  pub front : List (UnitName × List (StructNo × Op))
  pub tells : told m h ≡ front ++ map told_of log.runs
  pub whole : log.keep ≡ 0 → front ≡ []

abbrev pub AreLogged : List Item → (Member → Log) → Type 0
AreLogged h logs = (m : Member) → IsLogged m h (logs m)

-- the runs begin behind one another, at pages from keep on, and before the next page
abbrev pub AreRuns : ℕ → ℕ → List Run → Type 0
AreRuns from next [] = from ≤ next
AreRuns from next (run ∷ runs) = (from ≤ run.first) × AreRuns (run.first + 1) next runs

pub record IsLog (log : Log) : Type 0 where
  pub runs : AreRuns log.keep log.next log.runs
  pub low_kept : log.keep ≤ log.low
  pub low_written : log.low ≤ log.next

abbrev pub AreLogs : (Member → Log) → Type 0
AreLogs logs = (m : Member) → IsLog (logs m)

-- ---- the structures

abbrev pub is_pending : Mark → Bool
is_pending Visible = false
is_pending (PutBy u) = true
is_pending (GotBy u) = true
is_pending Cleanup = false

-- a put that isn't settled was made in this epoch
abbrev pub IsOfEpoch : ℕ → Held → Type 0
IsOfEpoch epoch e = (u : UnitName) → e.mark ≡ PutBy u → epoch_of e.message.id ≡ epoch

-- ids rise, up to the last one
abbrev pub AreRising : ℕ → List Held → Type 0
AreRising top [] = Unit {0}
AreRising top (e ∷ es) = (e.message.id.number ≤ top) × AllByRecursion (λ x. e.message.id.number < x.message.id.number) es × AreRising top es

pub record IsShelf (s : StructNo) (shelf : Shelf) : Type 0 where
  pub last_fits : shelf.last < 2 ^ 40
  pub rising : AreRising (top_of shelf) shelf.entries
  pub own : AllByRecursion (λ e. e.message.structure ≡ s) shelf.entries
  pub present : AllByRecursion (IsOfEpoch shelf.epoch) shelf.entries
  -- a structure that isn't active has no pending entries
  pub quiet : is_active shelf.state ≡ false → AllByRecursion (λ e. is_pending e.mark ≡ false) shelf.entries

abbrev pub AreShelves : (StructNo → Shelf) → Type 0
AreShelves shelves = (s : StructNo) → IsShelf s (shelves s)

-- An active structure's epoch is the number of its losses and purges
abbrev pub AreEpochs : List Item → (StructNo → Shelf) → Type 0
AreEpochs h shelves = (s : StructNo) → is_active (shelves s).state ≡ true → (shelves s).epoch ≡ count_of (structure_number s) h

-- The top of the note that is kept isn't of a later epoch than the number of losses and purges, and of a structure
-- that isn't active that number is the larger of its epoch and the note's
pub record IsNoted (count top : ℕ) (shelf : Shelf) : Type 0 where
  pub below : top ≤ count
  pub inactive : is_active shelf.state ≡ false → max shelf.epoch top ≡ count

abbrev pub AreNoted : List Item → (StructNo → Shelf) → (StructNo → ℕ) → Type 0
AreNoted h shelves tops = (s : StructNo) → IsNoted (count_of (structure_number s) h) (tops s) (shelves s)

-- A failed structure was lost since its last purge; one in recovery holds nothing once it is purged
abbrev pub IsEmptied : List Item → StructNo → State → Type 0
IsEmptied h s Active = Unit {0}
IsEmptied h s Failed = (past_of (structure_number s, 0) h).floor < (past_of (structure_number s, 0) h).count
IsEmptied h s (InRecover m i) = IsPurged s h → (id : ℕ) → held_at (structure_number s, id) h ≡ None

abbrev pub AreEmptied : List Item → (StructNo → Shelf) → Type 0
AreEmptied h shelves = (s : StructNo) → IsEmptied h s (shelves s).state

-- no id comes again
abbrev pub IsFresh : List Item → (StructNo → Shelf) → Type 0
IsFresh h shelves = (s : StructNo) (id : ℕ) → top_of (shelves s) < id → was_put (structure_number s, id) h ≡ false

-- Each pending unit settled by its member's log, an active structure holds what the history holds
abbrev pub IsGood : List Item → (Member → Log) → (StructNo → Shelf) → Type 0
IsGood h logs shelves = (s : StructNo) → is_active (shelves s).state ≡ true → (id : ℕ) → settled_at id logs (shelves s).entries ≡ held_at (structure_number s, id) h

-- ---- marks and units

-- a task of the unit's member holds it
abbrev pub Has : (Member → TaskNo → Task) → UnitName → TaskNo → Type 0
Has tasks u t = (tasks u.member t).unit ≡ Some u

-- the unit's incarnation failed and isn't resolved, or a live task holds the unit and has this to do
abbrev pub Names : (Member → ℕ → Bool) → (Member → TaskNo → Task) → UnitName → (Task → Type 0) → Type 0
Names failed tasks u Due = (failed u.member u.incarnation.number ≡ true) ⊎ ((t : TaskNo) × Has tasks u t × Due (tasks u.member t))

-- the task's unit put this message, and hasn't settled it yet
abbrev pub PutsBy : Stage → List (StructNo × Op) → List Claim → ℕ × ℕ → Message → Type 0
PutsBy Open ops claims k m = message_at k (puts ops) ≡ Some m
PutsBy (Hardening first) ops claims k m = message_at k (puts ops) ≡ Some m
PutsBy (Committed first settled) ops claims k m = has_key (keys_claimed (left_by (Committed first settled) claims)) k ≡ true
PutsBy (BackedOut settled) ops claims k m = has_key (keys_claimed (left_by (BackedOut settled) claims)) k ≡ true

-- the task's unit got the message of this key, and hasn't settled it yet
abbrev pub GetsBy : Stage → List (StructNo × Op) → List Claim → ℕ × ℕ → Type 0
GetsBy Open ops claims k = is_got k ops ≡ true
GetsBy (Hardening first) ops claims k = is_got k ops ≡ true
GetsBy (Committed first settled) ops claims k = has_key (keys_claimed (left_by (Committed first settled) claims)) k ≡ true
GetsBy (BackedOut settled) ops claims k = has_key (keys_claimed (left_by (BackedOut settled) claims)) k ≡ true

abbrev pub MarkNames : (Member → ℕ → Bool) → (Member → TaskNo → Task) → ℕ × ℕ → Message → Mark → Type 0
MarkNames failed tasks k m Visible = Unit {0}
MarkNames failed tasks k m (PutBy u) = Names failed tasks u (λ task. PutsBy task.stage task.ops task.claims k m)
MarkNames failed tasks k m (GotBy u) = Names failed tasks u (λ task. GetsBy task.stage task.ops task.claims k)
MarkNames failed tasks k m Cleanup = Unit {0}

-- Each mark names a unit of an unresolved incarnation, or one that a live task holds with that entry
abbrev pub AreMarked : (Member → ℕ → Bool) → (Member → TaskNo → Task) → (StructNo → Shelf) → Type 0
AreMarked failed tasks shelves = (s : StructNo) (id : ℕ) (e : Held) → entry_at id (shelves s).entries ≡ Some e → MarkNames failed tasks (structure_number s, id) e.message e.mark

-- what an undecided unit did in a structure stands there under its mark
pub record IsDone (u : UnitName) (ops : List (StructNo × Op)) (s : ℕ) (es : List Held) : Type 0 where
  pub puts_stand : (id : ℕ) (m : Message) → message_at (s, id) (puts ops) ≡ Some m → (outside : Bool) × (entry_at id es ≡ Some (record { message = m; mark = PutBy u; outside = outside }))
  pub gots_stand : (id : ℕ) → is_got (s, id) ops ≡ true → (m : Message) × (outside : Bool) × (entry_at id es ≡ Some (record { message = m; mark = GotBy u; outside = outside }))

abbrev pub AreDone : (Member → TaskNo → Task) → (StructNo → Shelf) → Type 0
AreDone tasks shelves = (u : UnitName) (t : TaskNo) → Has tasks u t → is_undecided (tasks u.member t).stage ≡ true
    → (s : StructNo) → is_active (shelves s).state ≡ true → IsDone u (tasks u.member t).ops (structure_number s) (shelves s).entries

-- each claim is that of an operation, and says whether the operation is persistent
abbrev pub AreMatched : List Item → List (StructNo × Op) → List Claim → Type 0
AreMatched h [] [] = Unit {0}
AreMatched h [] (c ∷ claims) = ⊥
AreMatched h (w ∷ ops) [] = ⊥
AreMatched h (w ∷ ops) (c ∷ claims) = (key_of_claim c ≡ key_of_op w) × (c.persistent ≡ is_lasting h w) × AreMatched h ops claims

-- an undecided unit may follow the history
pub record IsReady (h : List Item) (ops : List (StructNo × Op)) (claims : List Claim) : Type 0 where
  pub matched : AreMatched h ops claims
  pub puts_differ : AllDiffer (keys_of (puts ops))
  pub gots_differ : AllDiffer (gots ops)
  pub puts_are_new : (k : ℕ × ℕ) → is_put k ops ≡ true → was_put k h ≡ false
  pub gots_were_put : (k : ℕ × ℕ) → is_got k ops ≡ true → was_put k h ≡ true
  pub gots_are_new : (k : ℕ × ℕ) → is_got k ops ≡ true → was_got k h ≡ false

abbrev pub AreReady : List Item → (Member → TaskNo → Task) → Type 0
AreReady h tasks = (u : UnitName) (t : TaskNo) → Has tasks u t → is_undecided (tasks u.member t).stage ≡ true
    → IsReady h (tasks u.member t).ops (tasks u.member t).claims

-- two undecided units have no key in common
pub record AreApart (xs ys : List (StructNo × Op)) : Type 0 where
  pub puts_apart : (k : ℕ × ℕ) → is_put k xs ≡ true → is_put k ys ≡ false
  pub gots_apart : (k : ℕ × ℕ) → is_got k xs ≡ true → is_got k ys ≡ false

abbrev pub UnitsAreApart : (Member → TaskNo → Task) → Type 0
UnitsAreApart tasks = (u v : UnitName) (t w : TaskNo) → Has tasks u t → Has tasks v w → is_undecided (tasks u.member t).stage ≡ true → is_undecided (tasks v.member w).stage ≡ true
    → same_unit u v ≡ false → AreApart (tasks u.member t).ops (tasks v.member w).ops

-- puts of units in hand have ids that were given
abbrev pub AreGiven : (Member → TaskNo → Task) → (StructNo → Shelf) → Type 0
AreGiven tasks shelves = (u : UnitName) (t : TaskNo) → Has tasks u t → (s : StructNo) (id : ℕ) → is_put (structure_number s, id) (tasks u.member t).ops ≡ true → id ≤ top_of (shelves s)

-- claims in an active structure are of its present epoch
abbrev pub IsConnected : (StructNo → Shelf) → Claim → Type 0
IsConnected shelves c = is_active (shelves c.connection.structure).state ≡ true → c.connection.epoch ≡ (shelves c.connection.structure).epoch

abbrev pub AreConnected : (Member → TaskNo → Task) → (StructNo → Shelf) → Type 0
AreConnected tasks shelves = (u : UnitName) (t : TaskNo) → Has tasks u t → AllByRecursion (IsConnected shelves) (tasks u.member t).claims

-- no unit in hand has work on a structure in recovery
abbrev pub AreResting : (Member → TaskNo → Task) → (StructNo → Shelf) → Type 0
AreResting tasks shelves = (s : StructNo) → is_recovering (shelves s).state ≡ true → (u : UnitName) (t : TaskNo) → Has tasks u t → AllByRecursion (IsElsewhere s) (tasks u.member t).claims

-- ---- units in hand

-- a unit in hand is of the incarnation that is up, its name was drawn, and it is in the history and in its
-- member's log exactly where it is hardened
pub record IsInHand (h : List Item) (logs : Member → Log) (seats : Member → Seat) (u : UnitName) (task : Task) : Type 0 where
  pub live : is_live u (seats u.member) ≡ true
  pub drawn : u.seq < (seats u.member).next
  pub in_history : is_unit u h ≡ is_hardened task.stage
  pub in_log : is_committed logs u ≡ is_hardened task.stage

abbrev pub AreInHand : List Item → (Member → Log) → (Member → Seat) → (Member → TaskNo → Task) → Type 0
AreInHand h logs seats tasks = (u : UnitName) (t : TaskNo) → Has tasks u t → IsInHand h logs seats u (tasks u.member t)

-- one task at most holds a unit
abbrev pub AreHeldOnce : (Member → TaskNo → Task) → Type 0
AreHeldOnce tasks = (u : UnitName) (t w : TaskNo) → Has tasks u t → Has tasks u w → t ≡ w

-- each name in the history was drawn
pub record IsDrawn (u : UnitName) (seat : Seat) : Type 0 where
  pub past : u.incarnation.number ≤ seat.incarnation
  pub below : u.incarnation.number ≡ seat.incarnation → u.seq < seat.next

abbrev pub AreDrawn : List Item → (Member → Seat) → Type 0
AreDrawn h seats = (u : UnitName) → is_unit u h ≡ true → IsDrawn u (seats u.member)

-- an incarnation that failed is an earlier one, or the last one while the member is down
pub record HasEnded (i : ℕ) (seat : Seat) : Type 0 where
  pub past : i ≤ seat.incarnation
  pub down : i ≡ seat.incarnation → seat.up ≡ false

abbrev pub HaveEnded : (Member → ℕ → Bool) → (Member → Seat) → Type 0
HaveEnded failed seats = (m : Member) (i : ℕ) → failed m i ≡ true → HasEnded i (seats m)

-- ---- pages that are still needed

-- the run of a unit stands at or after a page, or at a page
abbrev pub RunsFrom : ℕ → UnitName → List Run → Type 0
RunsFrom page u runs = AllByRecursion (λ (run : Run). same_unit u run.unit ≡ true → page ≤ run.first) runs

abbrev pub RunsAt : ℕ → UnitName → List Run → Type 0
RunsAt page u runs = AllByRecursion (λ (run : Run). same_unit u run.unit ≡ true → run.first ≡ page) runs

-- the unit that a mark names has its run, where there is one, at or after the low page
abbrev pub IsKept : (Member → Log) → Mark → Type 0
IsKept logs Visible = Unit {0}
IsKept logs (PutBy u) = RunsFrom (logs u.member).low u (logs u.member).runs
IsKept logs (GotBy u) = RunsFrom (logs u.member).low u (logs u.member).runs
IsKept logs Cleanup = Unit {0}

-- The run of a unit that a mark names, or that a task holds, stands at or after the low page
pub record AreKept (logs : Member → Log) (shelves : StructNo → Shelf) (tasks : Member → TaskNo → Task) : Type 0 where
  pub of_marked : (s : StructNo) (id : ℕ) (e : Held) → entry_at id (shelves s).entries ≡ Some e → IsKept logs e.mark
  pub of_held : (u : UnitName) (t : TaskNo) → Has tasks u t → RunsFrom (logs u.member).low u (logs u.member).runs

-- a hardened unit knows where its run begins
abbrev pub IsPlaced : UnitName → List Run → Stage → Type 0
IsPlaced u runs Open = Unit {0}
IsPlaced u runs (Hardening first) = Unit {0}
IsPlaced u runs (Committed first settled) = RunsAt first.number u runs
IsPlaced u runs (BackedOut settled) = Unit {0}

abbrev pub ArePlaced : (Member → Log) → (Member → TaskNo → Task) → Type 0
ArePlaced logs tasks = (u : UnitName) (t : TaskNo) → Has tasks u t → IsPlaced u (logs u.member).runs (tasks u.member t).stage

-- a run that is being written begins at the next page
abbrev pub IsNext : ℕ → Stage → Type 0
IsNext next Open = Unit {0}
IsNext next (Hardening first) = first.number ≡ next
IsNext next (Committed first settled) = Unit {0}
IsNext next (BackedOut settled) = Unit {0}

-- At most one unit of a member is being written, behind all its runs
pub record AreLatched (logs : Member → Log) (tasks : Member → TaskNo → Task) : Type 0 where
  pub next : (m : Member) (t : TaskNo) → IsNext (logs m).next (tasks m t).stage
  pub one : (m : Member) (t w : TaskNo) → is_hardening (tasks m t).stage ≡ true → is_hardening (tasks m w).stage ≡ true → t ≡ w

pub record Laws (g : Group) : Type 0 where
  pub legal : Legal g.history
  pub logged : AreLogged g.history g.logs
  pub logs : AreLogs g.logs
  pub shelves : AreShelves g.shelves
  pub epochs : AreEpochs g.history g.shelves
  pub fresh : IsFresh g.history g.shelves
  pub good : IsGood g.history g.logs g.shelves
  pub marked : AreMarked g.failed g.tasks g.shelves
  pub done : AreDone g.tasks g.shelves
  pub ready : AreReady g.history g.tasks
  pub apart : UnitsAreApart g.tasks
  pub given : AreGiven g.tasks g.shelves
  pub connected : AreConnected g.tasks g.shelves
  pub noted : AreNoted g.history g.shelves g.tops
  pub emptied : AreEmptied g.history g.shelves
  pub resting : AreResting g.tasks g.shelves
  pub in_hand : AreInHand g.history g.logs g.seats g.tasks
  pub once : AreHeldOnce g.tasks
  pub drawn : AreDrawn g.history g.seats
  pub ended : HaveEnded g.failed g.seats
  pub kept : AreKept g.logs g.shelves g.tasks
  pub placed : ArePlaced g.logs g.tasks
  pub latched : AreLatched g.logs g.tasks
