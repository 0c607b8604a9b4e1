-- what a step that goes on leaves is what the next step needs
use Rattle.std.proofs.Common.{◌≡◌, ℕ, ◌-◌, ◌<◌, ◌≤◌, Bool, true, not, cond, List, [], ◌∷◌, ◌++◌, length, Option, Some, None, Result, Ok, Err, refl, sym, ap, subst, ◌∙◌, arith, length-set}
use Rattle.std.specs.Prelude.{IfOk}
use Rattle.std.proofs.lemmas.List.{get_or-set_same, append-nil}
use Rattle.std.proofs.lemmas.List.Elements.{filter-append}
use Rattle.std.proofs.lemmas.Bool.{eq-eqb}
use Rattle.qsg_num.specs.declared.seats.Member.{Member}
use Rattle.qsg_num.specs.declared.seats.TaskNo.{TaskNo}
use Rattle.qsg_num.specs.declared.ids.UnitName.{UnitName}
use Rattle.qsg_num.specs.Seats.{member_number, structure_number}
use Rattle.qsg_num.specs.Ids.{same_unit}
use Rattle.qsg_lists.specs.declared.parts.Entry.{Entry}
use Rattle.qsg_lists.specs.declared.parts.Lost.{Lost}
use Rattle.qsg_lists.specs.declared.parts.Seen.{Seen}
use Rattle.qsg_lists.specs.declared.parts.Selector.{Selector}
use Rattle.qsg_lists.specs.Structures.{connect_answer}
use Rattle.qsg_logpage.specs.declared.table.Reservation.{Reservation}
use Rattle.qsg_logpage.specs.declared.writer.NoLog.{NoLog as NoPages}
use Rattle.qsg_logpage.specs.Reserved.{is_other, besides, pages_for}
use Rattle.qsg_repo.specs.Keeping.{keep}
use Rattle.qsg_requests.specs.declared.replies.Reason.{Reason}
use Rattle.qsg_requests.specs.declared.replies.Turn.TheVariants.{More}
use Rattle.qsg_manager.specs.declared.managers.Manager.{Manager}
use Rattle.qsg_manager.specs.Facilities.{structure_in}
use Rattle.qsg_manager.specs.Storage.{task_at, with_drawn}
use Rattle.qsg_logs.specs.Kept.{KeptLog, no_log, log_in, with_log, need_of, with_reserved}
use Rattle.qsg_logs.specs.Writers.{reserve_answer}
use Rattle.qsg_logs.proofs.Owners.{are_besides, besides_none, pages_for-own}
use Rattle.qsg_parts.specs.Owned.{Owned, HasMember}
use Rattle.qsg_get.specs.declared.checking.Terms.{Terms}
use Rattle.qsg_get.specs.declared.phases.Phase.{Phase}
use Rattle.qsg_get.specs.declared.phases.Phase.TheVariants.{Check, Connect, Take}
use Rattle.qsg_get.specs.Checking.{check_answer}
use Rattle.qsg_get.specs.Works.{Work}
use Rattle.qsg_get.specs.Steps.{got_record, at_log, unit_of, named, need, after_reserve, after_check, after_connect, after_take, next_get, next_at}
use Rattle.qsg_get.specs.Needs.{MayReserve, MayCheck, IsReady, MayStepAt, MayStep, MayPassAt, MayPass}
use Rattle.qsg_get.proofs.Records.{member_some}

log_there : (m : Member) (x : KeptLog) (logs : List KeptLog) → member_number m ≤ length logs → log_in m (with_log m x logs) ≡ x
log_there m x logs within = let one = member_some m in get_or-set_same logs (member_number m - 1) x no_log (omega (arith, one, within))

same_self : (u : UnitName) → same_unit u u ≡ true
same_self u = rw (eq-eqb (member_number u.member) (member_number u.member) refl, eq-eqb u.incarnation.number u.incarnation.number refl, eq-eqb u.seq u.seq refl) refl

abbrev own : UnitName → ℕ → Reservation
own u n = record { unit = u; pages = n }

besides_own : (u : UnitName) (n : ℕ) (rs : List Reservation) → besides u (besides u rs ++ own u n ∷ []) ≡ besides u rs
besides_own u n rs =
    filter-append (is_other u) (besides u rs) (own u n ∷ [])
    ∙ ap (λ (l : List Reservation). l ++ besides u (own u n ∷ [])) (besides_none u (besides u rs) (are_besides u rs))
    ∙ ap (λ (b : Bool). besides u rs ++ cond (not b) (own u n ∷ []) []) (same_self u)
    ∙ append-nil (besides u rs)

-- a reservation is there, and leaves a place for the next
ready_log : (t : TaskNo) (u : UnitName) (n : ℕ) (log : KeptLog) → MayReserve u log → MayReserve u (with_reserved u n log)
ready_log t u n log may = record { idle = may.idle; few = subst (λ (l : List Reservation). length l < 8) (sym (besides_own u n log.writer.reserved)) may.few }

reserved_pages : (u : UnitName) (n : ℕ) (log : KeptLog) → pages_for u (with_reserved u n log).writer.reserved ≡ n
reserved_pages u n log = pages_for-own u n (besides u log.writer.reserved) (are_besides u log.writer.reserved)

ready_pages : (t : TaskNo) (u : UnitName) (n : ℕ) (log : KeptLog) (bytes : Option ℕ) → need_of t bytes log ≤ n → need_of t bytes (with_reserved u n log) ≤ pages_for u (with_reserved u n log).writer.reserved
ready_pages t u n log bytes fits = subst (λ k. need_of t bytes log ≤ k) (sym (reserved_pages u n log)) fits

reserved_ready : (m : Member) (t : TaskNo) (u : UnitName) (terms : Terms) (p : Owned) (managers : List Manager) → HasMember m p → length managers ≡ length p.managers → structure_number terms.structure ≤ length p.structures
    → MayReserve u (log_in m p.logs) → need_of t None (log_in m p.logs) ≤ need m t p → IsReady m t u terms (at_log m (with_reserved u (need m t p)) (record p { managers = managers }))
reserved_ready m t u terms p managers has same within log less =
    let x = with_reserved u (need m t p) (log_in m p.logs) in
    let there = log_there m x p.logs has.log in
    let enough : need m t p ≤ need m t p = omega arith in
    record {
      member = record { manager = subst (λ n. member_number m ≤ n) (sym same) has.manager; log = subst (λ n. member_number m ≤ n) (sym (length-set p.logs (member_number m - 1) x)) has.log };
      structure = within;
      log = subst (MayReserve u) (sym there) (ready_log t u (need m t p) (log_in m p.logs) log);
      reserved = subst (λ (l : KeptLog). need_of t got_record l ≤ pages_for u l.writer.reserved) (sym there) (ready_pages t u (need m t p) (log_in m p.logs) got_record enough);
      before = subst (λ (l : KeptLog). need_of t None l ≤ pages_for u l.writer.reserved) (sym there) (ready_pages t u (need m t p) (log_in m p.logs) None less);
    }

named_length : (o : Option UnitName) (m : Member) (t : TaskNo) (managers : List Manager) → length (named o m t managers) ≡ length managers
named_length (Some u) m t managers = refl
named_length None m t managers = length-set (with_drawn m managers) (member_number m - 1) _ ∙ length-set managers (member_number m - 1) _

reserve_goes_on : (m : Member) (t : TaskNo) (terms : Terms) (p : Owned) (answer : Result (Unit {0}) NoPages) → MayCheck m t p → structure_number terms.structure ≤ length p.structures → need_of t None (log_in m p.logs) ≤ need m t p
    → (after_reserve m t terms p answer).turn ≡ More → MayStepAt m t (after_reserve m t terms p answer).parts (after_reserve m t terms p answer).phase
reserve_goes_on m t terms p (Err why) may within less is = absurd cc
reserve_goes_on m t terms p (Ok done) may within less is =
    reserved_ready m t (unit_of m t p.managers) terms p (named (task_at m t p.managers).unit m t p.managers) may.member (named_length (task_at m t p.managers).unit m t p.managers) within may.log less

check_goes_on : (m : Member) (t : TaskNo) (p : Owned) (answer : Result Terms Reason) → MayCheck m t p → IfOk answer (λ (terms : Terms). structure_number terms.structure ≤ length p.structures) → need_of t None (log_in m p.logs) ≤ need m t p
    → (after_check m t p answer).turn ≡ More → MayStepAt m t (after_check m t p answer).parts (after_check m t p answer).phase
check_goes_on m t p (Err reason) may within less is = absurd cc
check_goes_on m t p (Ok terms) may within less is = reserve_goes_on m t terms p (reserve_answer (unit_of m t p.managers) (need m t p) (keep m p.repo) (log_in m p.logs).writer) may within less is

connect_goes_on : (m : Member) (t : TaskNo) (u : UnitName) (terms : Terms) (p : Owned) (answer : Result Seen Lost) → IsReady m t u terms p
    → (after_connect m t u terms p answer).turn ≡ More → MayStepAt m t (after_connect m t u terms p answer).parts (after_connect m t u terms p answer).phase
connect_goes_on m t u terms p (Err lost) ready is = absurd cc
connect_goes_on m t u terms p (Ok told) ready is = ready

-- a take ends the get
take_ends : (m : Member) (t : TaskNo) (u : UnitName) (terms : Terms) (epoch : ℕ) (p : Owned) (lost : Option Lost) (found : Option Entry) → (after_take m t u terms epoch p lost found).turn ≡ More → ⊥
take_ends m t u terms epoch p (Some l) found is = cc
take_ends m t u terms epoch p None None is = cc
take_ends m t u terms epoch p None (Some e) is = cc

at_goes_on : (m : Member) (t : TaskNo) (queue : List ℕ) (select : Selector) (p : Owned) (phase : Phase) → MayStepAt m t p phase → MayPassAt m t queue p phase
    → (next_at m t queue select p phase).turn ≡ More → MayStepAt m t (next_at m t queue select p phase).parts (next_at m t queue select p phase).phase
at_goes_on m t queue select p Check may pass is = check_goes_on m t p (check_answer p.objects queue _) may pass.within pass.less is
at_goes_on m t queue select p (Connect u terms) may pass is = connect_goes_on m t u terms p (connect_answer (structure_in terms.structure p.structures)) may is
at_goes_on m t queue select p (Take u terms epoch) may pass is = absurd (take_ends m t u terms epoch p _ _ is)

pub step_goes_on : (work : Work) (p : Owned) → MayStep work p → MayPass work p → (next_get work p).turn ≡ More → MayStep (record work { phase = (next_get work p).phase }) (next_get work p).parts
step_goes_on work p may pass is = at_goes_on work.member work.task work.queue work.select p work.phase may pass is

-- the steps behind the check need no more
reserve_passes : (m : Member) (t : TaskNo) (queue : List ℕ) (terms : Terms) (p q : Owned) (answer : Result (Unit {0}) NoPages) → (after_reserve m t terms p answer).turn ≡ More → MayPassAt m t queue q (after_reserve m t terms p answer).phase
reserve_passes m t queue terms p q (Err why) is = absurd cc
reserve_passes m t queue terms p q (Ok done) is = tt

check_passes : (m : Member) (t : TaskNo) (queue : List ℕ) (p q : Owned) (answer : Result Terms Reason) → (after_check m t p answer).turn ≡ More → MayPassAt m t queue q (after_check m t p answer).phase
check_passes m t queue p q (Err reason) is = absurd cc
check_passes m t queue p q (Ok terms) is = reserve_passes m t queue terms p q (reserve_answer (unit_of m t p.managers) (need m t p) (keep m p.repo) (log_in m p.logs).writer) is

connect_passes : (m : Member) (t : TaskNo) (queue : List ℕ) (u : UnitName) (terms : Terms) (p q : Owned) (answer : Result Seen Lost) → (after_connect m t u terms p answer).turn ≡ More → MayPassAt m t queue q (after_connect m t u terms p answer).phase
connect_passes m t queue u terms p q (Err lost) is = absurd cc
connect_passes m t queue u terms p q (Ok told) is = tt

at_passes : (m : Member) (t : TaskNo) (queue : List ℕ) (select : Selector) (p q : Owned) (phase : Phase) → (next_at m t queue select p phase).turn ≡ More → MayPassAt m t queue q (next_at m t queue select p phase).phase
at_passes m t queue select p q Check is = check_passes m t queue p q (check_answer p.objects queue _) is
at_passes m t queue select p q (Connect u terms) is = connect_passes m t queue u terms p q (connect_answer (structure_in terms.structure p.structures)) is
at_passes m t queue select p q (Take u terms epoch) is = absurd (take_ends m t u terms epoch p _ _ is)

pub step_passes : (work : Work) (p q : Owned) → (next_get work p).turn ≡ More → MayPass (record work { phase = (next_get work p).phase }) q
step_passes work p q is = at_passes work.member work.task work.queue work.select p q work.phase is
