-- what directives ask for, and of whom
use Rattle.std.proofs.Common.{◌≡◌, ℕ, zero, suc, ◌-◌, ◌<◌, ◌≤◌, Bool, true, false, List, [], ◌∷◌, length, get_or, Option, Some, None, refl, sym, arith, true≢false}
use Rattle.std.specs.Prelude.{if◌then◌else◌}
use Rattle.std.proofs.lemmas.Option.{none-some}
use Rattle.qsg_num.specs.declared.seats.Member.{Member}
use Rattle.qsg_num.specs.declared.seats.TaskNo.{TaskNo}
use Rattle.qsg_num.specs.declared.seats.TaskNo.TheVariants as task
use Rattle.qsg_num.specs.declared.ids.Actor.{Actor}
use Rattle.qsg_num.specs.declared.ids.Actor.TheVariants as actor
use Rattle.qsg_num.specs.Seats.{member_number, task_number}
use Rattle.qsg_objects.specs.declared.directives.Directive.{Directive}
use Rattle.qsg_objects.specs.declared.directives.Directive.TheVariants as directive
use Rattle.qsg_requests.specs.declared.replies.Cause.{Cause}
use Rattle.qsg_requests.specs.declared.replies.Cause.TheVariants.{Down}
use Rattle.qsg_requests.specs.declared.words.Request.{Request}
use Rattle.qsg_directives.specs.Asking.{request_of}
use Rattle.qsg_manager.specs.declared.managers.Manager.{Manager}
use Rattle.qsg_manager.specs.Storage.{no_manager, manager_in}
use Rattle.qsg_step.specs.declared.asked.Asked.{Asked}
use Rattle.qsg_step.specs.declared.asked.Asked.TheVariants as asks
use Rattle.qsg_step.specs.Asking.{work_for, if_operator, asked, IsOwn}
use Rattle.qsg_step.specs.States.{State, is_up}
use Rattle.qsg_step.specs.Waiting.{cause_asked, cause_of, system_of}
use Rattle.qsg_steady.proofs.Places.{member_some}

own_work : (who : Actor) → IsOwn who (work_for who)
own_work (actor.Task m t) = refl
own_work actor.Operator = tt

own_crash : (who : Actor) (m : Member) (pick : ℕ) → IsOwn who (if_operator who (asks.Crash m pick))
own_crash (actor.Task k t) m pick = tt
own_crash actor.Operator m pick = refl

own_start : (who : Actor) (m : Member) → IsOwn who (if_operator who (asks.Start m))
own_start (actor.Task k t) m = tt
own_start actor.Operator m = refl

-- a work that is asked for is of the actor itself, and only the operator ends and starts members
pub asked_own : (who : Actor) (d : Directive) → IsOwn who (asked who d)
asked_own who (directive.Put queue body priority persistent msg_id correl_id) = own_work who
asked_own who (directive.Get queue msg_id correl_id) = own_work who
asked_own who directive.Commit = own_work who
asked_own who directive.Backout = own_work who
asked_own who (directive.Wait other answers) = tt
asked_own who (directive.Crash m pick) = own_crash who m pick
asked_own who (directive.Start m) = own_start who m
asked_own who other = tt

-- a directive of a task that asks for no work is no request
abbrev pub IsNoRequest : Asked → Option Request → Type 0
IsNoRequest (asks.Work m t) request = Unit {0}
IsNoRequest (asks.Until other n) request = request ≡ None
IsNoRequest (asks.Crash m pick) request = request ≡ None
IsNoRequest (asks.Start m) request = request ≡ None
IsNoRequest asks.Later request = request ≡ None

pub no_request : (m : Member) (t : TaskNo) (d : Directive) → IsNoRequest (asked (actor.Task m t) d) (request_of d)
no_request m t (directive.Put queue body priority persistent msg_id correl_id) = tt
no_request m t (directive.Get queue msg_id correl_id) = tt
no_request m t directive.Commit = tt
no_request m t directive.Backout = tt
no_request m t (directive.Wait other answers) = refl
no_request m t other = refl

-- what the operator asks for is what its directive says
abbrev pub IsSaid : Asked → Directive → Type 0
IsSaid (asks.Crash m pick) d = d ≡ directive.Crash m pick
IsSaid (asks.Start m) d = d ≡ directive.Start m
IsSaid other d = Unit {0}

said_crash : (who : Actor) (m : Member) (pick : ℕ) → IsSaid (if_operator who (asks.Crash m pick)) (directive.Crash m pick)
said_crash (actor.Task k t) m pick = tt
said_crash actor.Operator m pick = refl

said_start : (who : Actor) (m : Member) → IsSaid (if_operator who (asks.Start m)) (directive.Start m)
said_start (actor.Task k t) m = tt
said_start actor.Operator m = refl

said_work : (who : Actor) (d : Directive) → IsSaid (work_for who) d
said_work (actor.Task m t) d = tt
said_work actor.Operator d = tt

pub asked_said : (who : Actor) (d : Directive) → IsSaid (asked who d) d
asked_said who (directive.Put queue body priority persistent msg_id correl_id) = said_work who (directive.Put queue body priority persistent msg_id correl_id)
asked_said who (directive.Get queue msg_id correl_id) = said_work who (directive.Get queue msg_id correl_id)
asked_said who directive.Commit = said_work who directive.Commit
asked_said who directive.Backout = said_work who directive.Backout
asked_said who (directive.Wait other answers) = tt
asked_said who (directive.Crash m pick) = said_crash who m pick
asked_said who (directive.Start m) = said_start who m
asked_said who other = tt

-- ---- who steps is up

pub up_unless : (who : Actor) (a : Asked) (s : State) → cause_of who a s ≡ None → is_up who s ≡ true
up_unless who a s none = by (is_up who s) none
  where
    by : (b : Bool) → (if b then cause_asked a s else Some Down) ≡ None → b ≡ true
    by true is = refl
    by false is = some_none Down is
      where
        some_none : {P : Type 0} (c : Cause) → Some c ≡ None → P
        some_none c e = cc

past : (ms : List Manager) (i : ℕ) → (get_or ms i no_manager).up ≡ true → i < length ms
past [] i up = absurd (true≢false (sym up))
past (x ∷ ms) zero up = omega arith
past (x ∷ ms) (suc i) up = let h = past ms i up in omega (arith, h)

-- a member that is up is one of the group's
pub up_within : (m : Member) (s : State) → (manager_in m s.parts.managers).up ≡ true → member_number m ≤ length s.parts.managers
up_within m s up =
    let there = past s.parts.managers (member_number m - 1) up in
    omega (arith, there, member_some m)

-- a task that isn't the system task has another number
pub not_system : (m : Member) (t : TaskNo) → system_of (actor.Task m t) ≡ None → task_number task.System ≡ task_number t → ⊥
not_system m task.System none same = absurd (none-some m (sym none))
not_system m task.One none same = omega (arith, same)
not_system m task.Two none same = omega (arith, same)
not_system m task.Three none same = omega (arith, same)
not_system m task.Four none same = omega (arith, same)
