-- each step of a get keeps the group steady
use Rattle.std.proofs.Common.{◌≡◌, ℕ, ◌+◌, ◌≤◌, List, [], length, Bool, true, false, Option, Some, None, Result, Ok, Err, refl, sym, ap, subst, ◌∙◌, arith}
use Rattle.std.specs.Prelude.{if◌then◌else◌, not, nat_le}
use Rattle.qsg_num.specs.declared.seats.Member.{Member}
use Rattle.qsg_num.specs.declared.seats.StructNo.{StructNo}
use Rattle.qsg_num.specs.declared.seats.TaskNo.{TaskNo}
use Rattle.qsg_num.specs.declared.ids.UnitName.{UnitName}
use Rattle.qsg_num.specs.Seats.{structure_number}
use Rattle.qsg_lists.specs.declared.parts.Entry.{Entry}
use Rattle.qsg_lists.specs.declared.parts.Lost.{Lost}
use Rattle.qsg_lists.specs.declared.parts.Seen.{Seen}
use Rattle.qsg_lists.specs.declared.parts.Selector.{Selector}
use Rattle.qsg_lists.specs.Structures.{lost_of, connect_answer}
use Rattle.qsg_logpage.specs.declared.writer.NoLog.{NoLog}
use Rattle.qsg_logneed.proofs.RecordBytes.{got_long}
use Rattle.qsg_objects.specs.declared.registry.Queue.{Queue}
use Rattle.qsg_objects.specs.Registry.{queue_named}
use Rattle.qsg_repo.specs.Keeping.{keep}
use Rattle.qsg_requests.specs.declared.replies.Reason.{Reason}
use Rattle.qsg_requests.specs.declared.replies.Reason.TheVariants.{StructureFailed, NoMessage, GetInhibited, SyncpointLimit}
use Rattle.qsg_group.specs.declared.tasks.Task.{Task}
use Rattle.qsg_manager.specs.Facilities.{structure_in}
use Rattle.qsg_manager.specs.Getting.{found_in, claim_on, with_got}
use Rattle.qsg_manager.specs.Storage.{manager_in, task_at, next_name}
use Rattle.qsg_manager.specs.Units.{with_name}
use Rattle.qsg_logs.specs.Held.{is_open, logged_by}
use Rattle.qsg_logs.specs.Kept.{log_in, with_reserved, need_of}
use Rattle.qsg_logs.specs.Writers.{reserve_answer}
use Rattle.qsg_logs.proofs.Holding.{never_less}
use Rattle.qsg_parts.specs.Owned.{Owned, HasMember}
use Rattle.qsg_steady.specs.Actions.{IsLogKept, got_of}
use Rattle.qsg_steady.specs.Standing.{pages_of, stand}
use Rattle.qsg_steady.specs.Steady.{tasks_of, IsSteady}
use Rattle.qsg_steady.proofs.Acting.{member_five, held_of}
use Rattle.qsg_steady.proofs.Committing.{counts_steady}
use Rattle.qsg_steady.proofs.Operating.{got_steady}
use Rattle.qsg_steady.proofs.Reserving.{reserved_steady, reserved_spares, drawn_steady, drawn_spares, fallen_steady, fallen_spares}
use Rattle.qsg_steady.proofs.Spares.{got_spares}
use Rattle.qsg_get.specs.declared.checking.Terms.{Terms}
use Rattle.qsg_get.specs.declared.phases.Phase.{Phase}
use Rattle.qsg_get.specs.declared.phases.Phase.TheVariants.{Check, Connect, Take}
use Rattle.qsg_get.specs.Checking.{terms_of, answer_at, check_answer}
use Rattle.qsg_get.specs.Steps.{refused, goes_on, at_log, fallen, got_record, name_or_next, unit_of, named, need, after_reserve, after_check, after_connect, use_of, logged, after_take, next_at, next_get}
use Rattle.qsg_get.specs.Works.{Work}
use Rattle.qsg_fit.specs.Fits.{IsPrepared, FitsGet}
use Rattle.qsg_fit.specs.Outcomes.{IsPlaced, IsGetOf, IsSteadyAtGet, KeepsGet}
use Rattle.qsg_fit.proofs.Opened.{opened, opened_by, task_stored, drawn_task, pages_held}

-- ---- the check

check_refused : (a b : ℕ) (m : Member) (t : TaskNo) (p : Owned) (reason : Reason) → IsSteady a b p → is_open (task_at m t p.managers).stage ≡ true → KeepsGet a b m t p (refused reason Check p)
check_refused a b m t p reason s ready = record { steady = counts_steady a b (a + 1) b p (omega arith) (omega arith) s; spares = λ k w other. refl; fits_after = ready }

passed : (a b : ℕ) (m : Member) (t : TaskNo) (terms : Terms) (p : Owned) (held : Option UnitName) → IsSteady a b p → HasMember m p → (manager_in m p.managers).up ≡ true
    → (task_at m t p.managers).unit ≡ held → is_open (task_at m t p.managers).stage ≡ true → structure_number terms.structure ≤ length p.structures
    → reserve_answer (name_or_next held m p.managers) (need m t p) (keep m p.repo) (log_in m p.logs).writer ≡ Ok tt
    → KeepsGet a b m t p (goes_on (Connect (name_or_next held m p.managers) terms)
    (at_log m (with_reserved (name_or_next held m p.managers) (need m t p)) (record p { managers = named held m t p.managers })))
passed a b m t terms p None s has up is ready within free =
    let now = drawn_task m t p.managers has.manager (member_five a b p m s has) in
    let task = task_at m t (with_name m t p.managers) in
    record {
      steady = drawn_steady a b p m t got_record s has up is free;
      spares = drawn_spares a b p m t got_record s has;
      fits_after = record {
        own = refl;
        holds = opened_by task (next_name m p.managers) [] [] now;
        within = within;
        reserved = pages_held m t (next_name m p.managers) got_record task.unit p has (ap (λ (z : Task). z.unit) now);
      };
    }
passed a b m t terms p (Some u) s has up is ready within free =
    let task = task_at m t p.managers in
    let holds = opened task u is ready in
    record {
      steady = counts_steady a b a (b + 1) _ (omega arith) (omega arith) (reserved_steady a b p m t u task.ops task.claims got_record s has holds free);
      spares = reserved_spares a b p m t u got_record s has is;
      fits_after = record {
        own = s.own m t u is;
        holds = holds;
        within = within;
        reserved = pages_held m t u got_record task.unit p has is;
      };
    }

reserving : (a b : ℕ) (m : Member) (t : TaskNo) (terms : Terms) (p : Owned) (answer : Result (Unit {0}) NoLog) → IsSteady a b p → HasMember m p → (manager_in m p.managers).up ≡ true
    → is_open (task_at m t p.managers).stage ≡ true → structure_number terms.structure ≤ length p.structures
    → reserve_answer (unit_of m t p.managers) (need m t p) (keep m p.repo) (log_in m p.logs).writer ≡ answer → KeepsGet a b m t p (after_reserve m t terms p answer)
reserving a b m t terms p (Err why) s has up ready within is = check_refused a b m t p _ s ready
reserving a b m t terms p (Ok done) s has up ready within is = passed a b m t terms p (task_at m t p.managers).unit s has up refl ready within is

terms_within : (n : ℕ) (inhibited many : Bool) (queue : Queue) (terms : Terms) → structure_number queue.structure ≤ n
    → (if inhibited then Err GetInhibited else if many then Err SyncpointLimit else Ok (terms_of queue)) ≡ Ok terms → structure_number terms.structure ≤ n
terms_within n true many queue terms within is = absurd cc
terms_within n false true queue terms within is = absurd cc
terms_within n false false queue terms within is =
    let same : terms_of queue ≡ terms = cc in
    subst (λ (x : Terms). structure_number x.structure ≤ n) same within

found_within : (n operations : ℕ) (found : Option Queue) (terms : Terms) → ((queue : Queue) → found ≡ Some queue → structure_number queue.structure ≤ n) → answer_at operations found ≡ Ok terms → structure_number terms.structure ≤ n
found_within n operations None terms all is = absurd cc
found_within n operations (Some queue) terms all is = terms_within n (not queue.definition.get) (nat_le 1000 operations) queue terms (all queue refl) is

checking : (a b : ℕ) (m : Member) (t : TaskNo) (queue : List ℕ) (p : Owned) (answer : Result Terms Reason) → IsSteady a b p → HasMember m p → (manager_in m p.managers).up ≡ true → IsPlaced queue p.objects
    → is_open (task_at m t p.managers).stage ≡ true → check_answer p.objects queue (length (task_at m t p.managers).ops) ≡ answer → KeepsGet a b m t p (after_check m t p answer)
checking a b m t queue p (Err reason) s has up placed_at ready is = check_refused a b m t p reason s ready
checking a b m t queue p (Ok terms) s has up placed_at ready is =
    let defined = found_within (length p.objects.structures) (length (task_at m t p.managers).ops) (queue_named queue p.objects) terms placed_at is in
    reserving a b m t terms p (reserve_answer (unit_of m t p.managers) (need m t p) (keep m p.repo) (log_in m p.logs).writer) s has up ready
    (omega (arith, defined, s.shape.structures)) refl

-- ---- a refusal after the check

falls : (a b : ℕ) (t : TaskNo) (u : UnitName) (structure : StructNo) (p : Owned) (reason : Reason) (phase : Phase) → IsSteady a (b + 1) p → HasMember u.member p
    → IsPrepared u.member u got_record structure (stand u.member t p) → KeepsGet a b u.member t p (refused reason phase (fallen u.member t u p))
falls a b t u structure p reason phase s has ready =
    let task = task_at u.member t p.managers in
    record {
      steady = counts_steady a (b + 1) (a + 1) b _ (omega arith) (omega arith) (fallen_steady a (b + 1) p t u task.ops task.claims s has ready.holds);
      spares = fallen_spares a (b + 1) p t u s has (ap (λ (z : Task). z.unit) ready.holds);
      fits_after = ap (λ (z : Task). is_open z.stage) ready.holds;
    }

-- ---- the connection

connecting : (a b : ℕ) (t : TaskNo) (u : UnitName) (terms : Terms) (p : Owned) (answer : Result Seen Lost) → IsSteady a (b + 1) p → HasMember u.member p
    → IsPrepared u.member u got_record terms.structure (stand u.member t p) → KeepsGet a b u.member t p (after_connect u.member t u terms p answer)
connecting a b t u terms p (Err lost) s has ready = falls a b t u terms.structure p StructureFailed (Connect u terms) s has ready
connecting a b t u terms p (Ok seen) s has ready = record { steady = s; spares = λ k w other. refl; fits_after = ready }

-- ---- the entry

logged_is : (u : UnitName) (terms : Terms) (epoch : ℕ) (e : Entry) → logged e.head.persistent ≡ logged_by u (got_of (use_of terms epoch) e) (claim_on (use_of terms epoch) e)
logged_is u terms epoch e = ap (λ (n : ℕ). if e.head.persistent then Some n else None) (sym (got_long u e.id terms.structure))

-- a get that isn't logged takes no more pages than one that is
logged_fits : (n : ℕ) (persistent : Bool) (m : Member) (t : TaskNo) (p : Owned) → need_of t None (log_in m p.logs) ≤ need m t p → need m t p ≤ n → need_of t (logged persistent) (log_in m p.logs) ≤ n
logged_fits n true m t p less enough = enough
logged_fits n false m t p less enough = omega (arith, less, enough)

taking : (a b : ℕ) (t : TaskNo) (queue : List ℕ) (select : Selector) (u : UnitName) (terms : Terms) (epoch : ℕ) (p : Owned) (lost : Option Lost) (found : Option Entry) → IsSteady a (b + 1) p → HasMember u.member p → IsLogKept u.member p
    → IsPrepared u.member u got_record terms.structure (stand u.member t p) → lost_of (structure_in terms.structure p.structures) (use_of terms epoch) ≡ lost → found_in (use_of terms epoch) queue terms.order select p.structures ≡ found
    → KeepsGet a b u.member t p (after_take u.member t u terms epoch p lost found)
taking a b t queue select u terms epoch p (Some lost) found s has kept ready served is = falls a b t u terms.structure p StructureFailed (Take u terms epoch) s has ready
taking a b t queue select u terms epoch p None None s has kept ready served is = falls a b t u terms.structure p NoMessage (Take u terms epoch) s has ready
taking a b t queue select u terms epoch p None (Some e) s has kept ready served is =
    let m = u.member in
    let task = task_at m t p.managers in
    let log = log_in m p.logs in
    let c = use_of terms epoch in
    let five = member_five a (b + 1) p m s has in
    let less = never_less (tasks_of (manager_in m p.managers)) log t u task.ops task.claims got_record (held_of a (b + 1) p m s has) ready.holds in
    let enough : need m t p ≤ pages_of (Some u) log.writer.reserved = subst (λ (x : Task). need m t p ≤ pages_of x.unit log.writer.reserved) ready.holds ready.reserved in
    record {
      steady = got_steady a b p t u task.ops task.claims c queue terms.order select e (logged e.head.persistent) s has kept ready.within ready.holds served is
          (logged_is u terms epoch e) (logged_fits (pages_of (Some u) log.writer.reserved) e.head.persistent m t p less enough);
      spares = got_spares a (b + 1) p t u c e (logged e.head.persistent) s has (ap (λ (z : Task). z.unit) ready.holds);
      fits_after = ap (λ (z : Task). is_open z.stage) (task_stored m t (with_got c e task) p.managers has.manager five) ∙ ap (λ (z : Task). is_open z.stage) ready.holds;
    }

-- ---- each step

connected : (a b : ℕ) (m : Member) (t : TaskNo) (queue : List ℕ) (select : Selector) (u : UnitName) (terms : Terms) (p : Owned) → u.member ≡ m → IsSteady a (b + 1) p → HasMember m p
    → IsPrepared m u got_record terms.structure (stand m t p) → KeepsGet a b m t p (next_at m t queue select p (Connect u terms))
connected a b m t queue select u terms p own s =
    subst (λ (k : Member). HasMember k p → IsPrepared k u got_record terms.structure (stand k t p) → KeepsGet a b k t p (next_at k t queue select p (Connect u terms))) own
    (connecting a b t u terms p (connect_answer (structure_in terms.structure p.structures)) s)

taken : (a b : ℕ) (m : Member) (t : TaskNo) (queue : List ℕ) (select : Selector) (u : UnitName) (terms : Terms) (epoch : ℕ) (p : Owned) → u.member ≡ m → IsSteady a (b + 1) p → HasMember m p → IsLogKept m p
    → IsPrepared m u got_record terms.structure (stand m t p) → KeepsGet a b m t p (next_at m t queue select p (Take u terms epoch))
taken a b m t queue select u terms epoch p own s =
    subst (λ (k : Member). HasMember k p → IsLogKept k p → IsPrepared k u got_record terms.structure (stand k t p) → KeepsGet a b k t p (next_at k t queue select p (Take u terms epoch))) own
    (λ has kept ready. taking a b t queue select u terms epoch p (lost_of (structure_in terms.structure p.structures) (use_of terms epoch)) (found_in (use_of terms epoch) queue terms.order select p.structures) s has kept ready refl refl)

keeps_at : (a b : ℕ) (m : Member) (t : TaskNo) (queue : List ℕ) (select : Selector) (p : Owned) (phase : Phase) → IsSteadyAtGet a b phase p → HasMember m p → (manager_in m p.managers).up ≡ true → IsLogKept m p → IsPlaced queue p.objects
    → FitsGet m (stand m t p) phase → KeepsGet a b m t p (next_at m t queue select p phase)
keeps_at a b m t queue select p Check s has up kept placed_at fits = checking a b m t queue p (check_answer p.objects queue (length (task_at m t p.managers).ops)) s has up placed_at fits refl
keeps_at a b m t queue select p (Connect u terms) s has up kept placed_at fits = connected a b m t queue select u terms p fits.own s has fits
keeps_at a b m t queue select p (Take u terms epoch) s has up kept placed_at fits = taken a b m t queue select u terms epoch p fits.own s has kept fits

pub get_keeps : (a b : ℕ) (p : Owned) (work : Work) → IsSteadyAtGet a b work.phase p → IsGetOf work p → KeepsGet a b work.member work.task p (next_get work p)
get_keeps a b p work s get = keeps_at a b work.member work.task work.queue work.select p work.phase s get.member get.up get.log get.queue get.stands
