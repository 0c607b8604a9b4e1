-- a request that fits has what its next step needs
use Rattle.std.proofs.Common.{◌≡◌, ℕ, ◌+◌, ◌≤◌, length, true, false, Option, Some, None, refl, sym, ap, subst, arith, true≢false}
use Rattle.std.specs.Prelude.{IfSome}
use Rattle.qsg_num.specs.declared.seats.Member.{Member}
use Rattle.qsg_num.specs.declared.seats.StructNo.{StructNo}
use Rattle.qsg_num.specs.declared.seats.TaskNo.{TaskNo}
use Rattle.qsg_num.specs.declared.ids.UnitName.{UnitName}
use Rattle.qsg_num.specs.Seats.{member_number}
use Rattle.qsg_requests.specs.declared.words.PutWords.{PutWords}
use Rattle.qsg_requests.specs.declared.words.Request.{Request}
use Rattle.qsg_requests.specs.declared.words.Request.TheVariants as request
use Rattle.qsg_logpage.specs.Log.{has_run}
use Rattle.qsg_logpage.specs.Reserved.{pages_for}
use Rattle.qsg_group.specs.declared.tasks.Stage.{Stage}
use Rattle.qsg_group.specs.declared.tasks.Stage.TheVariants.{Open, Hardening, Committed, BackedOut}
use Rattle.qsg_group.specs.declared.tasks.Task.{Task}
use Rattle.qsg_group.specs.Observers.{is_hardening}
use Rattle.qsg_manager.specs.Storage.{manager_in, task_at, next_name}
use Rattle.qsg_logs.specs.Held.{is_open}
use Rattle.qsg_logs.specs.Kept.{log_in, need_of}
use Rattle.qsg_logs.proofs.Holding.{never_less}
use Rattle.qsg_parts.specs.Owned.{Owned, HasMember}
use Rattle.qsg_steady.specs.Standing.{Stand, pages_of, stand, Spares}
use Rattle.qsg_steady.specs.Steady.{tasks_of, IsSteady}
use Rattle.qsg_steady.proofs.Acting.{held_of, member_five}
use Rattle.qsg_steady.proofs.Gives.{member_has, few, idle_run, idle_next, kept_written, name_left, id_left, slot_left}
use Rattle.qsg_commit.specs.Fits.{IsServing}
use Rattle.qsg_commit.proofs.Fitting.{may_step}
use Rattle.qsg_get.specs.declared.phases.Phase.{Phase as GetPhase}
use Rattle.qsg_get.specs.declared.phases.Phase.TheVariants as get_phase
use Rattle.qsg_get.specs.Needs as gets
use Rattle.qsg_get.specs.Steps.{got_record, name_or_next}
use Rattle.qsg_put.specs.declared.phases.Phase.{Phase as PutPhase}
use Rattle.qsg_put.specs.declared.phases.Phase.TheVariants as put_phase
use Rattle.qsg_put.specs.Checking.{said_or}
use Rattle.qsg_put.specs.Messages.{logged}
use Rattle.qsg_put.specs.Needs as puts
use Rattle.qsg_works.specs.declared.work.Work.{Work}
use Rattle.qsg_works.specs.declared.work.Work.TheVariants.{Put, Get, Commit}
use Rattle.qsg_fit.specs.Fits.{IsPrepared, FitsPut, FitsGet, member_of, task_of, FitsStand, Fits}
use Rattle.qsg_works.specs.Steps.{begun, MayStep}

-- an open stage isn't one of a unit whose run is in hand
open_closed : (stage : Stage) → is_open stage ≡ true → is_hardening stage ≡ false
open_closed Open is = refl
open_closed (Hardening first) is = absurd (true≢false (sym is))
open_closed (Committed first n) is = refl
open_closed (BackedOut n) is = refl

-- ---- a check

-- what a check needs of the unit that a task holds, or draws
record MayName (m : Member) (u : UnitName) (unit : Option UnitName) (p : Owned) : Type 0 where
  pub idle : has_run u (log_in m p.logs).writer ≡ false
  pub own : IfSome unit (λ v. v.member ≡ m)

named_put : (a b : ℕ) (p : Owned) (m : Member) (t : TaskNo) (unit : Option UnitName) → IsSteady a b p → HasMember m p → (task_at m t p.managers).unit ≡ unit → is_open (task_at m t p.managers).stage ≡ true → MayName m (said_or unit (next_name m p.managers)) unit p
named_put a b p m t None s has is opened = record { idle = idle_next a b p m s has; own = tt }
named_put a b p m t (Some u) s has is opened = record { idle = idle_run a b p m t u s has is (open_closed (task_at m t p.managers).stage opened); own = s.own m t u is }

named_get : (a b : ℕ) (p : Owned) (m : Member) (t : TaskNo) (unit : Option UnitName) → IsSteady a b p → HasMember m p → (task_at m t p.managers).unit ≡ unit → is_open (task_at m t p.managers).stage ≡ true → MayName m (name_or_next unit m p.managers) unit p
named_get a b p m t None s has is opened = record { idle = idle_next a b p m s has; own = tt }
named_get a b p m t (Some u) s has is opened = record { idle = idle_run a b p m t u s has is (open_closed (task_at m t p.managers).stage opened); own = s.own m t u is }

-- ---- a unit that has its pages

prepared_pages : (p : Owned) (m : Member) (t : TaskNo) (u : UnitName) (bytes : Option ℕ) (structure : StructNo) → IsPrepared m u bytes structure (stand m t p) → need_of t bytes (log_in m p.logs) ≤ pages_for u (log_in m p.logs).writer.reserved
prepared_pages p m t u bytes structure ready = subst (λ (x : Task). need_of t bytes (log_in m p.logs) ≤ pages_of x.unit (log_in m p.logs).writer.reserved) ready.holds ready.reserved

prepared_idle : (a b : ℕ) (p : Owned) (m : Member) (t : TaskNo) (u : UnitName) (bytes : Option ℕ) (structure : StructNo) → IsSteady a b p → HasMember m p → IsPrepared m u bytes structure (stand m t p) → has_run u (log_in m p.logs).writer ≡ false
prepared_idle a b p m t u bytes structure s has ready = idle_run a b p m t u s has (ap (λ (x : Task). x.unit) ready.holds) (ap (λ (x : Task). is_hardening x.stage) ready.holds)

put_ready : (a b : ℕ) (p : Owned) (m : Member) (t : TaskNo) (words : PutWords) (u : UnitName) (terms : Rattle.qsg_put.specs.declared.checking.Terms.Terms) → IsSteady a b p → HasMember m p → IsPrepared m u (logged words terms) terms.structure (stand m t p) → puts.IsReady m t words u terms p
put_ready a b p m t words u terms s has ready = record {
  member = has;
  structure = ready.within;
  log = record { idle = prepared_idle a b p m t u (logged words terms) terms.structure s has ready; few = few a b p m u s has };
  reserved = prepared_pages p m t u (logged words terms) terms.structure ready;
}

get_ready : (a b : ℕ) (p : Owned) (m : Member) (t : TaskNo) (u : UnitName) (terms : Rattle.qsg_get.specs.declared.checking.Terms.Terms) → IsSteady a b p → HasMember m p → IsPrepared m u got_record terms.structure (stand m t p) → gets.IsReady m t u terms p
get_ready a b p m t u terms s has ready =
    let reserved = prepared_pages p m t u got_record terms.structure ready in
    let task = task_at m t p.managers in
    record {
      member = has;
      structure = ready.within;
      log = record { idle = prepared_idle a b p m t u got_record terms.structure s has ready; few = few a b p m u s has };
      reserved = reserved;
      before = omega (arith, reserved, never_less (tasks_of (manager_in m p.managers)) (log_in m p.logs) t u task.ops task.claims got_record (held_of a b p m s has) ready.holds);
    }

put_may : (a b : ℕ) (p : Owned) (m : Member) (t : TaskNo) (words : PutWords) (phase : PutPhase) → IsSteady a b p → a + b ≤ 2147483648 → HasMember m p → FitsPut m words (stand m t p) phase → puts.MayStepAt m t words p phase
put_may a b p m t words put_phase.Check s bound has fits =
    let named = named_put a b p m t (task_at m t p.managers).unit s has refl fits in
    record { member = has; log = record { idle = named.idle; few = few a b p m _ s has }; kept = kept_written a b p m s has; own = named.own; left = λ nameless. name_left a b p m s bound }
put_may a b p m t words (put_phase.Connect u terms) s bound has fits = put_ready a b p m t words u terms s has fits
put_may a b p m t words (put_phase.Write u terms epoch) s bound has fits = record { ready = put_ready a b p m t words u terms s has fits; left = id_left a b p terms.structure s (omega (arith, bound)) }

get_may : (a b : ℕ) (p : Owned) (m : Member) (t : TaskNo) (phase : GetPhase) → IsSteady a b p → a + b ≤ 2147483648 → HasMember m p → FitsGet m (stand m t p) phase → gets.MayStepAt m t p phase
get_may a b p m t get_phase.Check s bound has fits =
    let named = named_get a b p m t (task_at m t p.managers).unit s has refl fits in
    record { member = has; log = record { idle = named.idle; few = few a b p m _ s has }; kept = kept_written a b p m s has; own = named.own; left = name_left a b p m s bound }
get_may a b p m t (get_phase.Connect u terms) s bound has fits = get_ready a b p m t u terms s has fits
get_may a b p m t (get_phase.Take u terms epoch) s bound has fits = get_ready a b p m t u terms s has fits

-- ---- a COMMIT or BACKOUT

serving : (a b : ℕ) (p : Owned) (m : Member) → IsSteady a b p → a + b ≤ 2147483648 → HasMember m p → IsServing m p
serving a b p m s bound has = record {
  member = has;
  five = member_five a b p m s has;
  held = held_of a b p m s has;
  slots = λ t hardens. slot_left a b p m t s has hardens;
  few = λ t. omega (arith, s.short m t, bound);
  within = λ t. s.within m t;
  own = λ t u is. s.own m t u is;
}

pub works_may : (a b : ℕ) (p : Owned) (work : Work) → IsSteady a b p → a + b ≤ 2147483648 → Fits work p → MayStep work p
works_may a b p (Put w) s bound fits = put_may a b p w.member w.task w.words w.phase s bound (member_has a b p w.member s fits.member) fits.stands
works_may a b p (Get w) s bound fits = get_may a b p w.member w.task w.phase s bound (member_has a b p w.member s fits.member) fits.stands
works_may a b p (Commit w) s bound fits = may_step w.member w.task p w.phase (serving a b p w.member s bound (member_has a b p w.member s fits.member)) fits.stands

pub first_fits : (p : Owned) (m : Member) (t : TaskNo) (r : Request) → member_number m ≤ length p.managers → is_open (task_at m t p.managers).stage ≡ true → Fits (begun m t r) p
first_fits p m t (request.Put words) there opened = record { member = there; stands = opened }
first_fits p m t (request.Get queue select) there opened = record { member = there; stands = opened }
first_fits p m t request.Commit there opened = record { member = there; stands = opened }
first_fits p m t request.Backout there opened = record { member = there; stands = opened }

pub spared_fits : (p q : Owned) (work : Work) → Spares (member_of work) (task_of work) p q → Fits work p → Fits work q
spared_fits p q work spares fits = record {
  member = subst (λ (s : Stand). member_number (member_of work) ≤ s.members) (sym spares) fits.member;
  stands = subst (FitsStand work) (sym spares) fits.stands;
}
