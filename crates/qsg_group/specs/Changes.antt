-- The shared actions of the group: what each changes, and when it may come.
use Rattle.std.specs.Prelude.{ℕ, ◌+◌, ◌^◌, List, [], ◌∷◌, ◌++◌, Bool, true, false, Option, Some, None, if◌then◌else◌, ◌==◌, ◌||◌, ◌&&◌, not, max, nat_le, filter, length, slice_get, ◌≡◌, ◌<◌, ◌≤◌}
use Rattle.std.specs.List.{AllByRecursion}
use Rattle.qsg_num.specs.declared.seats.Member.{Member}
use Rattle.qsg_num.specs.declared.seats.StructNo.{StructNo}
use Rattle.qsg_num.specs.declared.seats.TaskNo.{TaskNo}
use Rattle.qsg_num.specs.declared.ids.Incarnation.{Incarnation}
use Rattle.qsg_num.specs.declared.ids.UnitName.{UnitName}
use Rattle.qsg_num.specs.Ids.{same_unit, id_at}
use Rattle.qsg_msg.specs.declared.message.Message.{Message}
use Rattle.qsg_model.specs.declared.history.Op.{Op}
use Rattle.qsg_model.specs.declared.history.Op.TheVariants.{Put, Got}
use Rattle.qsg_model.specs.declared.history.Item.TheVariants.{Unit as UnitOf, Lost, Purged}
use Rattle.qsg_lists.specs.declared.parts.State.TheVariants.{Active, Failed, InRecover}
use Rattle.qsg_lists.specs.declared.parts.Mark.{Mark}
use Rattle.qsg_lists.specs.declared.parts.Mark.TheVariants.{Visible, PutBy, GotBy, Cleanup}
use Rattle.qsg_lists.specs.Structures.{is_active}
use Rattle.qsg_lists.specs.Recovering.{is_recovering}
use Rattle.qsg_group.specs.declared.tasks.Claim.{Claim}
use Rattle.qsg_group.specs.declared.tasks.Stage.{Stage}
use Rattle.qsg_group.specs.declared.tasks.Stage.TheVariants.{Open, Hardening, Committed, BackedOut}
use Rattle.qsg_group.specs.declared.tasks.Task.{Task}
use Rattle.qsg_group.specs.Tables.{at_member, at_structure, at_task}
use Rattle.qsg_group.specs.Group.{Held, Shelf, Run, Log, Seat, Group, idle, empty_group}
use Rattle.qsg_group.specs.Observers.{entry_at, revise, is_committed, is_hardening, logged_ops, names_incarnation, IsPurged, IsElsewhere}

-- ---- tasks by their stage

abbrev pub open_task : UnitName → List (StructNo × Op) → List Claim → Task
open_task u ops claims = record { unit = Some u; ops = ops; claims = claims; stage = Open }

abbrev pub hardening_task : UnitName → List (StructNo × Op) → List Claim → ℕ → Task
hardening_task u ops claims first = record { unit = Some u; ops = ops; claims = claims; stage = Hardening (record { number = first }) }

-- the stage of a unit that settles its marks, so many of them settled
abbrev pub settling : Option ℕ → ℕ → Stage
settling None settled = BackedOut settled
settling (Some first) settled = Committed (record { number = first }) settled

abbrev pub is_commit : Option ℕ → Bool
is_commit None = false
is_commit (Some first) = true

-- its first page where it is committed, none where it is backed out
abbrev pub settling_task : UnitName → List Claim → Option ℕ → ℕ → Task
settling_task u claims first settled = record { unit = Some u; ops = []; claims = claims; stage = settling first settled }

-- ---- what each action makes of the group

-- a task draws the next name of its member
abbrev pub drawn : Group → UnitName → TaskNo → Group
drawn g u t = record g {
  tasks = at_task u.member t (λ task. open_task u [] []) g.tasks;
  seats = at_member u.member (λ seat. record seat { next = u.seq + 1 }) g.seats;
}

abbrev pub claim_of : StructNo → Shelf → Message → Claim
claim_of s shelf m = record { connection = record { structure = s; epoch = shelf.epoch }; id = m.id; persistent = m.persistent }

abbrev pub with_entry : Held → Shelf → Shelf
with_entry e shelf = record shelf { last = shelf.last + 1; entries = shelf.entries ++ e ∷ [] }

abbrev pub with_entries : (List Held → List Held) → Shelf → Shelf
with_entries f shelf = record shelf { entries = f shelf.entries }

-- an entry is written, marked by the unit that puts it
abbrev pub put : Group → UnitName → TaskNo → List (StructNo × Op) → List Claim → StructNo → Message → Bool → Group
put g u t ops claims s m outside = record g {
  shelves = at_structure s (with_entry (record { message = m; mark = PutBy u; outside = outside })) g.shelves;
  tasks = at_task u.member t (λ task. open_task u (ops ++ (s, Put m) ∷ []) (claims ++ claim_of s (g.shelves s) m ∷ [])) g.tasks;
}

abbrev pub marked : Mark → Held → Option Held
marked mark e = Some (record e { mark = mark })

-- an entry is marked by the unit that gets it
abbrev pub got : Group → UnitName → TaskNo → List (StructNo × Op) → List Claim → StructNo → Message → Group
got g u t ops claims s m = record g {
  shelves = at_structure s (with_entries (revise m.id.number (marked (GotBy u)))) g.shelves;
  tasks = at_task u.member t (λ task. open_task u (ops ++ (s, Got m.id) ∷ []) (claims ++ claim_of s (g.shelves s) m ∷ [])) g.tasks;
}

-- a unit takes the log's latch, for a run from the next page on
abbrev pub begun : Group → UnitName → TaskNo → List (StructNo × Op) → List Claim → Group
begun g u t ops claims = record g { tasks = at_task u.member t (λ task. hardening_task u ops claims (g.logs u.member).next) g.tasks }

abbrev pub with_run : Run → ℕ → Log → Log
with_run run next log = record log { runs = log.runs ++ run ∷ []; next = next }

-- the last page of a unit's run is safe: the unit is committed
abbrev pub hardened : Group → UnitName → TaskNo → List (StructNo × Op) → List Claim → ℕ → Group
hardened g u t ops claims next =
    let first = (g.logs u.member).next in
    record g {
      history = g.history ++ UnitOf u ops ∷ [];
      logs = at_member u.member (with_run (record { unit = u; first = first; told = logged_ops ops claims }) next) g.logs;
      tasks = at_task u.member t (λ task. settling_task u claims (Some first) 0) g.tasks;
    }

-- a unit is given up
abbrev pub backed_out : Group → UnitName → TaskNo → List Claim → Group
backed_out g u t claims = record g { tasks = at_task u.member t (λ task. settling_task u claims None 0) g.tasks }

-- what is left of an entry that is removed: one whose body stands outside waits for its owner
abbrev pub removed : Held → Option Held
removed e = if e.outside then marked Cleanup e else None

-- what a settle leaves of an entry
abbrev pub settled_entry : UnitName → Bool → Mark → Held → Option Held
settled_entry u commits Visible e = Some e
settled_entry u commits (PutBy v) e = if same_unit u v then (if commits then marked Visible e else removed e) else Some e
settled_entry u commits (GotBy v) e = if same_unit u v then (if commits then removed e else marked Visible e) else Some e
settled_entry u commits Cleanup e = Some e

abbrev pub settle : ℕ → UnitName → Bool → List Held → List Held
settle id u commits es = revise id (λ e. settled_entry u commits e.mark e) es

-- a unit's last operation, a get, is undone: its mark comes off, and the entry may be had again
abbrev pub ungot : Group → UnitName → TaskNo → List (StructNo × Op) → List Claim → Claim → Group
ungot g u t ops claims c = record g {
  shelves = at_structure c.connection.structure (with_entries (settle c.id.number u false)) g.shelves;
  tasks = at_task u.member t (λ task. open_task u ops claims) g.tasks;
}

-- the entry of an id goes
abbrev pub forget : ℕ → List Held → List Held
forget id es = revise id (λ e. None) es

-- an entry that was removed goes, once its owner needs it no more
abbrev pub forgotten : Group → StructNo → ℕ → Group
forgotten g s id = record g { shelves = at_structure s (with_entries (forget id)) g.shelves }

-- a unit's next mark comes off
abbrev pub settled : Group → UnitName → TaskNo → List Claim → Option ℕ → ℕ → Claim → Group
settled g u t claims first n c = record g {
  shelves = at_structure c.connection.structure (with_entries (settle c.id.number u (is_commit first))) g.shelves;
  tasks = at_task u.member t (λ task. settling_task u claims first (n + 1)) g.tasks;
}

-- the unit ends
abbrev pub finished : Group → UnitName → TaskNo → Group
finished g u t = record g { tasks = at_task u.member t (λ task. idle) g.tasks }

-- the member's low page rises
abbrev pub published : Group → Member → ℕ → Group
published g m page = record g { logs = at_member m (λ log. record log { low = max log.low page }) g.logs }

-- pages before one may be written anew
abbrev pub given_up : Group → Member → ℕ → Group
given_up g m page = record g { logs = at_member m (λ log. record log { runs = filter (λ run. nat_le page run.first) log.runs; keep = page }) g.logs }

-- a seat whose member is down, and one whose next incarnation has begun
abbrev pub ended_seat : Seat → Seat
ended_seat seat = record seat { up = false }

abbrev pub next_seat : Seat → Seat
next_seat seat = record { up = true; incarnation = seat.incarnation + 1; next = 1 }

-- an incarnation is one that failed, or isn't any more
abbrev pub with_failed : ℕ → (ℕ → Bool) → ℕ → Bool
with_failed i row j = (j == i) || row j

abbrev pub without_failed : ℕ → (ℕ → Bool) → ℕ → Bool
without_failed i row j = row j && not (j == i)

abbrev pub idle_tasks : (TaskNo → Task) → TaskNo → Task
idle_tasks row t = idle

-- a member ends: its tasks are gone, and its incarnation is one that failed
abbrev pub crashed : Group → Member → Group
crashed g m = record g {
  seats = at_member m ended_seat g.seats;
  failed = at_member m (with_failed (g.seats m).incarnation) g.failed;
  tasks = at_member m idle_tasks g.tasks;
}

-- a member ends in order: its tasks are gone
abbrev pub stopped : Group → Member → Group
stopped g m = record g {
  seats = at_member m ended_seat g.seats;
  tasks = at_member m idle_tasks g.tasks;
}

-- a member begins its next incarnation
abbrev pub started : Group → Member → Group
started g m = record g { seats = at_member m next_seat g.seats }

-- the mark of a failed unit comes off an entry, as the log of its member decides
abbrev pub peer_settled : Group → StructNo → ℕ → UnitName → Group
peer_settled g s id u = record g { shelves = at_structure s (with_entries (settle id u (is_committed g.logs u))) g.shelves }

-- a failed incarnation is resolved
abbrev pub resolved : Group → Member → ℕ → Group
resolved g m i = record g { failed = at_member m (without_failed i) g.failed }

-- a structure is lost: failed and empty, in its next epoch
abbrev pub lost_shelf : Shelf → Shelf
lost_shelf shelf = record { state = Failed; epoch = shelf.epoch + 1; last = 0; entries = [] }

abbrev pub lost : Group → StructNo → Group
lost g s = record g {
  shelves = at_structure s lost_shelf g.shelves;
  history = g.history ++ Lost s ∷ [];
}

-- a structure is in recovery by this incarnation of a member, empty
abbrev pub in_recovery : Member → Incarnation → Shelf → Shelf
in_recovery m i shelf = record shelf { state = InRecover m i; entries = [] }

abbrev pub recovering : Group → StructNo → Member → Incarnation → Group
recovering g s m i = record g { shelves = at_structure s (in_recovery m i) g.shelves }

-- a structure is purged: none of its messages is held any more, and a note is kept of the epoch that it goes on in
abbrev pub purged_top : ℕ → ℕ → ℕ
purged_top epoch top = 1 + max epoch top

abbrev pub purged : Group → StructNo → Group
purged g s = record g {
  tops = at_structure s (purged_top (g.shelves s).epoch) g.tops;
  history = g.history ++ Purged s ∷ [];
}

-- a structure is active again, in the epoch of its note's top where that is larger
abbrev pub reopened_shelf : ℕ → Shelf → Shelf
reopened_shelf top shelf = record shelf { state = Active; epoch = max shelf.epoch top }

abbrev pub reopened : Group → StructNo → Group
reopened g s = record g { shelves = at_structure s (reopened_shelf (g.tops s)) g.shelves }

-- ---- when each may come

pub record MayDraw (g : Group) (u : UnitName) (t : TaskNo) : Type 0 where
  pub free : g.tasks u.member t ≡ idle
  pub seat : g.seats u.member ≡ record { up = true; incarnation = u.incarnation.number; next = u.seq }

pub record MayPut (g : Group) (u : UnitName) (t : TaskNo) (ops : List (StructNo × Op)) (claims : List Claim) (s : StructNo) (m : Message) : Type 0 where
  pub has : g.tasks u.member t ≡ open_task u ops claims
  pub active : is_active (g.shelves s).state ≡ true
  pub fits : (g.shelves s).last + 1 < 2 ^ 40
  pub id : m.id ≡ id_at (g.shelves s).epoch ((g.shelves s).last + 1)
  pub own : m.structure ≡ s

pub record MayGet (g : Group) (u : UnitName) (t : TaskNo) (ops : List (StructNo × Op)) (claims : List Claim) (s : StructNo) (m : Message) (outside : Bool) : Type 0 where
  pub has : g.tasks u.member t ≡ open_task u ops claims
  pub active : is_active (g.shelves s).state ≡ true
  pub there : entry_at m.id.number (g.shelves s).entries ≡ Some (record { message = m; mark = Visible; outside = outside })

pub record MayUnget (g : Group) (u : UnitName) (t : TaskNo) (ops : List (StructNo × Op)) (claims : List Claim) (c : Claim) : Type 0 where
  pub has : g.tasks u.member t ≡ open_task u (ops ++ (c.connection.structure, Got c.id) ∷ []) (claims ++ c ∷ [])

-- the entry was removed, but for its body outside
pub record MayForget (g : Group) (s : StructNo) (id : ℕ) : Type 0 where
  pub entry : Held
  pub there : entry_at id (g.shelves s).entries ≡ Some entry
  pub mark : entry.mark ≡ Cleanup

pub record MayBegin (g : Group) (u : UnitName) (t : TaskNo) (ops : List (StructNo × Op)) (claims : List Claim) : Type 0 where
  pub has : g.tasks u.member t ≡ open_task u ops claims
  pub latch : (w : TaskNo) → is_hardening (g.tasks u.member w).stage ≡ false

pub record MayHarden (g : Group) (u : UnitName) (t : TaskNo) (ops : List (StructNo × Op)) (claims : List Claim) (first next : ℕ) : Type 0 where
  pub has : g.tasks u.member t ≡ hardening_task u ops claims first
  pub pages : first < next

pub record MayBackOut (g : Group) (u : UnitName) (t : TaskNo) (ops : List (StructNo × Op)) (claims : List Claim) : Type 0 where
  pub has : g.tasks u.member t ≡ open_task u ops claims

pub record MaySettle (g : Group) (u : UnitName) (t : TaskNo) (claims : List Claim) (first : Option ℕ) (n : ℕ) (c : Claim) : Type 0 where
  pub has : g.tasks u.member t ≡ settling_task u claims first n
  pub is : slice_get claims n ≡ Some c

pub record MayFinish (g : Group) (u : UnitName) (t : TaskNo) (claims : List Claim) (first : Option ℕ) (n : ℕ) : Type 0 where
  pub has : g.tasks u.member t ≡ settling_task u claims first n
  pub through : length claims ≤ n

-- no page from this one on is behind one that a unit of the member still needs
abbrev pub IsNeededFrom : ℕ → Stage → Type 0
IsNeededFrom page Open = Unit {0}
IsNeededFrom page (Hardening first) = page ≤ first.number
IsNeededFrom page (Committed first settled) = page ≤ first.number
IsNeededFrom page (BackedOut settled) = Unit {0}

pub record MayPublish (g : Group) (m : Member) (page : ℕ) : Type 0 where
  pub written : page ≤ (g.logs m).next
  pub needed : (t : TaskNo) → IsNeededFrom page (g.tasks m t).stage
  pub resolved : (i : ℕ) → g.failed m i ≡ false

pub record MayGiveUp (g : Group) (m : Member) (page : ℕ) : Type 0 where
  pub rises : (g.logs m).keep ≤ page
  pub low : page ≤ (g.logs m).low

pub record MayCrash (g : Group) (m : Member) : Type 0 where
  pub up : (g.seats m).up ≡ true

-- no unit of the member has an operation
pub record MayStop (g : Group) (m : Member) : Type 0 where
  pub up : (g.seats m).up ≡ true
  pub unused : (u : UnitName) (t : TaskNo) → u.member ≡ m → (g.tasks m t).unit ≡ Some u → g.tasks m t ≡ open_task u [] []

pub record MayStart (g : Group) (m : Member) : Type 0 where
  pub down : (g.seats m).up ≡ false

pub record MayPeerSettle (g : Group) (u : UnitName) : Type 0 where
  pub failed : g.failed u.member u.incarnation.number ≡ true

pub record MayResolve (g : Group) (m : Member) (i : ℕ) : Type 0 where
  pub unnamed : (s : StructNo) (id : ℕ) (e : Held) → entry_at id (g.shelves s).entries ≡ Some e → names_incarnation m i e.mark ≡ false

pub record MayLose (g : Group) (s : StructNo) : Type 0 where
  pub active : is_active (g.shelves s).state ≡ true

-- no unit in hand has work on the structure
pub record MayRecover (g : Group) (s : StructNo) : Type 0 where
  pub inactive : is_active (g.shelves s).state ≡ false
  pub unworked : (u : UnitName) (t : TaskNo) → (g.tasks u.member t).unit ≡ Some u → AllByRecursion (IsElsewhere s) (g.tasks u.member t).claims

pub record MayPurge (g : Group) (s : StructNo) : Type 0 where
  pub recovering : is_recovering (g.shelves s).state ≡ true

pub record MayReopen (g : Group) (s : StructNo) : Type 0 where
  pub recovering : is_recovering (g.shelves s).state ≡ true
  pub purged : IsPurged s g.history
  pub empty : (g.shelves s).entries ≡ []

-- one shared action
pub data Change : Group → Group → Type 0 where
  Draws : (g : Group) (u : UnitName) (t : TaskNo) → MayDraw g u t → Change g (drawn g u t)
  Puts : (g : Group) (u : UnitName) (t : TaskNo) (ops : List (StructNo × Op)) (claims : List Claim) (s : StructNo) (m : Message) (outside : Bool) → MayPut g u t ops claims s m → Change g (put g u t ops claims s m outside)
  Gets : (g : Group) (u : UnitName) (t : TaskNo) (ops : List (StructNo × Op)) (claims : List Claim) (s : StructNo) (m : Message) (outside : Bool) → MayGet g u t ops claims s m outside → Change g (got g u t ops claims s m)
  Ungets : (g : Group) (u : UnitName) (t : TaskNo) (ops : List (StructNo × Op)) (claims : List Claim) (c : Claim) → MayUnget g u t ops claims c → Change g (ungot g u t ops claims c)
  Forgets : (g : Group) (s : StructNo) (id : ℕ) → MayForget g s id → Change g (forgotten g s id)
  Begins : (g : Group) (u : UnitName) (t : TaskNo) (ops : List (StructNo × Op)) (claims : List Claim) → MayBegin g u t ops claims → Change g (begun g u t ops claims)
  Hardens : (g : Group) (u : UnitName) (t : TaskNo) (ops : List (StructNo × Op)) (claims : List Claim) (first next : ℕ) → MayHarden g u t ops claims first next → Change g (hardened g u t ops claims next)
  BacksOut : (g : Group) (u : UnitName) (t : TaskNo) (ops : List (StructNo × Op)) (claims : List Claim) → MayBackOut g u t ops claims → Change g (backed_out g u t claims)
  Settles : (g : Group) (u : UnitName) (t : TaskNo) (claims : List Claim) (first : Option ℕ) (n : ℕ) (c : Claim) → MaySettle g u t claims first n c → Change g (settled g u t claims first n c)
  Finishes : (g : Group) (u : UnitName) (t : TaskNo) (claims : List Claim) (first : Option ℕ) (n : ℕ) → MayFinish g u t claims first n → Change g (finished g u t)
  Publishes : (g : Group) (m : Member) (page : ℕ) → MayPublish g m page → Change g (published g m page)
  GivesUp : (g : Group) (m : Member) (page : ℕ) → MayGiveUp g m page → Change g (given_up g m page)
  Crashes : (g : Group) (m : Member) → MayCrash g m → Change g (crashed g m)
  Stops : (g : Group) (m : Member) → MayStop g m → Change g (stopped g m)
  Starts : (g : Group) (m : Member) → MayStart g m → Change g (started g m)
  PeerSettles : (g : Group) (s : StructNo) (id : ℕ) (u : UnitName) → MayPeerSettle g u → Change g (peer_settled g s id u)
  Resolves : (g : Group) (m : Member) (i : ℕ) → MayResolve g m i → Change g (resolved g m i)
  Loses : (g : Group) (s : StructNo) → MayLose g s → Change g (lost g s)
  Recovers : (g : Group) (s : StructNo) (m : Member) (i : Incarnation) → MayRecover g s → Change g (recovering g s m i)
  Purges : (g : Group) (s : StructNo) → MayPurge g s → Change g (purged g s)
  Reopens : (g : Group) (s : StructNo) → MayReopen g s → Change g (reopened g s)

-- what any number of actions makes of the empty group
pub data Reached : Group → Type 0 where
  Beginning : Reached empty_group
  More : (g h : Group) → Reached g → Change g h → Reached h
