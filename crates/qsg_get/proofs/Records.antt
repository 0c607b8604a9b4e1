-- the record of a get among those of its unit, and whose unit a get is by
use Rattle.std.proofs.Common.{◌≡◌, ℕ, ◌-◌, ◌≤◌, Bool, true, false, List, length, Option, None, Result, Ok, Err, sym, ap, subst, ◌∙◌, arith, set-set}
use Rattle.std.specs.Prelude.{IfOk}
use Rattle.std.proofs.lemmas.List.{get_or-set_same}
use Rattle.qsg_num.specs.declared.seats.Member.{Member}
use Rattle.qsg_num.specs.declared.seats.Member.TheVariants as members
use Rattle.qsg_num.specs.declared.seats.TaskNo.{TaskNo}
use Rattle.qsg_num.specs.declared.ids.UnitName.{UnitName}
use Rattle.qsg_num.specs.Seats.{member_number}
use Rattle.qsg_logpage.specs.Reserved.{pages_for}
use Rattle.qsg_logs.specs.Kept.{KeptLog, no_log, log_in, with_log, need_of}
use Rattle.qsg_logs.specs.Writers.{IsWithin}
use Rattle.qsg_logs.proofs.Within.{reserved_fits}
use Rattle.qsg_requests.specs.declared.replies.Reason.{Reason}
use Rattle.qsg_get.specs.declared.phases.Phase.{Phase}
use Rattle.qsg_get.specs.Works.{IsOwn}
use Rattle.qsg_get.specs.Steps.{got_record, logged, phase_after}

-- the unit has reserved what its records need, logged or not, and that fits its log
pub record_fits : (persistent : Bool) (t : TaskNo) (u : UnitName) (log : KeptLog) (bytes : Option ℕ) → bytes ≡ logged persistent → need_of t got_record log ≤ pages_for u log.writer.reserved → need_of t None log ≤ pages_for u log.writer.reserved → IsWithin log.writer
    → need_of t bytes log ≤ log.writer.size
record_fits persistent t u log bytes is reserved before within = subst (λ b. need_of t b log ≤ log.writer.size) (sym is) (by persistent)
  where
    by : (persistent : Bool) → need_of t (logged persistent) log ≤ log.writer.size
    by true = let fits = reserved_fits log u within in omega (arith, reserved, fits)
    by false = let fits = reserved_fits log u within in omega (arith, before, fits)

pub member_some : (m : Member) → 1 ≤ member_number m
member_some members.One = omega arith
member_some members.Two = omega arith
member_some members.Three = omega arith
member_some members.Four = omega arith
member_some members.Five = omega arith
member_some members.Six = omega arith
member_some members.Seven = omega arith
member_some members.Eight = omega arith

-- one change of a log after another
pub log_again : (m : Member) (logs mid after : List KeptLog) (x : KeptLog) (f : KeptLog → KeptLog) → member_number m ≤ length logs → mid ≡ with_log m x logs → after ≡ with_log m (f (log_in m mid)) mid → after ≡ with_log m (f x) logs
log_again m logs mid after x f within first second =
    let one = member_some m in
    second
    ∙ ap (λ l. with_log m (f (log_in m l)) l) first
    ∙ ap (λ y. with_log m (f y) (with_log m x logs)) (get_or-set_same logs (member_number m - 1) x no_log (omega (arith, one, within)))
    ∙ set-set logs (member_number m - 1) x (f x)

-- a get that goes on is by a unit of its member
pub goes_on_own : (m : Member) (answer : Result Phase Reason) (old new : Phase) → new ≡ phase_after answer old → IfOk answer (IsOwn m) → IsOwn m old → IsOwn m new
goes_on_own m (Ok phase) old new is own was = subst (IsOwn m) (sym is) own
goes_on_own m (Err reason) old new is own was = subst (IsOwn m) (sym is) was
