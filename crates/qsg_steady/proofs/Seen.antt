-- what the machine sees of a member's log, as its storage and its log change
use Rattle.std.proofs.Common.{◌≡◌, ℕ, ◌-◌, ◌≤◌, List, Bool, true, false, Option, Some, None, refl, sym, ap, subst, ◌∙◌, arith, true≢false}
use Rattle.std.specs.Prelude.{nat_lt, Result, Ok, Err, is_ok, min, if◌then◌else◌}
use Rattle.std.specs.List.{AllByRecursion}
use Rattle.std.proofs.lemmas.Bool.Decides.{nat_tests}
use Rattle.qsg_num.specs.declared.seats.Member.{Member}
use Rattle.qsg_num.specs.declared.seats.TaskNo.{TaskNo}
use Rattle.qsg_num.specs.declared.ids.Incarnation.{Incarnation}
use Rattle.qsg_num.specs.declared.ids.UnitName.{UnitName}
use Rattle.qsg_disk.specs.Byte.{Byte}
use Rattle.qsg_logpage.specs.declared.table.Reservation.{Reservation}
use Rattle.qsg_logpage.specs.declared.writer.NoLog.{NoLog}
use Rattle.qsg_logpage.specs.Log.{LogState, IsTied, free}
use Rattle.qsg_logpage.specs.Reserved.{besides, total}
use Rattle.qsg_logpage.proofs.Totals.{total-push}
use Rattle.qsg_logneed.specs.declared.counting.Filling.{Filling}
use Rattle.qsg_repo.specs.Tables.{Repository}
use Rattle.qsg_repo.specs.Keeping.{keep}
use Rattle.qsg_group.specs.declared.tasks.Task.{Task}
use Rattle.qsg_group.specs.Group.{Run, Log}
use Rattle.qsg_group.specs.Observers.{runs_from, is_hardening}
use Rattle.qsg_group.specs.Laws.{HasEnded}
use Rattle.qsg_unitlog.proofs.Steps.{reserved_tells}
use Rattle.qsg_manager.specs.declared.managers.Manager.{Manager}
use Rattle.qsg_manager.specs.Groups.{seat_of}
use Rattle.qsg_logs.specs.Kept.{KeptLog}
use Rattle.qsg_logs.specs.Writers.{reserved, reserve_answer}
use Rattle.qsg_logs.proofs.Owners.{all_weaker}
use Rattle.qsg_steady.specs.Steady.{pages_named, TellsFrom, tasks_of, IsRunOf, IsSeen}
use Rattle.qsg_steady.proofs.Starts.{all_pairs, named_kept}

pub run_stays : (old new : TaskNo → Task) (hand : Option Run) → ((t : TaskNo) → is_hardening (old t).stage ≡ true → new t ≡ old t) → IsRunOf old hand → IsRunOf new hand
run_stays old new None same is = tt
run_stays old new (Some run) same (t, ops, claims, has, told) = (t, ops, claims, same t (ap (λ (x : Task). is_hardening x.stage) has) ∙ has, told)

pub has_ended : (old new : Manager) (i : ℕ) → new.up ≡ old.up → new.incarnation ≡ old.incarnation → HasEnded i (seat_of old) → HasEnded i (seat_of new)
has_ended old new i up inc e = record {
  past = subst (λ (n : ℕ). i ≤ n) (sym (ap (λ (x : Incarnation). x.number) inc)) e.past;
  down = λ is. up ∙ e.down (is ∙ ap (λ (x : Incarnation). x.number) inc);
}

pub ended_stays : (old new : Manager) (gone : List UnitName) → new.up ≡ old.up → new.incarnation ≡ old.incarnation
    → AllByRecursion (λ (u : UnitName). HasEnded u.incarnation.number (seat_of old)) gone → AllByRecursion (λ (u : UnitName). HasEnded u.incarnation.number (seat_of new)) gone
ended_stays old new gone up inc = all_weaker (λ (u : UnitName). HasEnded u.incarnation.number (seat_of old)) (λ (u : UnitName). HasEnded u.incarnation.number (seat_of new)) gone (λ u e. has_ended old new u.incarnation.number up inc e)

-- ---- reservations

abbrev answer_by : Bool → NoLog → Result (Unit {0}) NoLog
answer_by b why = if b then Err why else Ok tt

answered : (b : Bool) (why : NoLog) → is_ok (answer_by b why) ≡ true → b ≡ false
answered true why ok = absurd (true≢false (sym ok))
answered false why ok = refl

pub is_free : (u : UnitName) (need keep : ℕ) (writer : LogState) → reserve_answer u need keep writer ≡ Ok tt → nat_lt (free u keep writer) need ≡ false
is_free u need keep writer ok =
    let why : NoLog = record { need = need; free = free u keep writer } in
    let answer : answer_by (nat_lt (free u keep writer) need) why ≡ Ok tt = ok in
    answered (nat_lt (free u keep writer) need) why (ap (λ (r : Result (Unit {0}) NoLog). is_ok r) answer)

least_of_two : (x y n : ℕ) → n ≤ min x y → n ≤ x
least_of_two x y n less = omega (arith, less)

pub tied_more : (u : UnitName) (need keep : ℕ) (writer : LogState) (bytes : List Byte) → nat_lt (free u keep writer) need ≡ false → total (besides u writer.reserved) ≤ total writer.reserved → IsTied keep writer bytes → IsTied keep (reserved u need writer) bytes
tied_more u need keep writer bytes enough fewer tied =
    let less : need ≤ free u keep writer = grind (arith, nat_tests) in
    let some : need ≤ writer.size - (writer.next - keep) - total (besides u writer.reserved) = least_of_two _ _ need less in
    record {
      from = tied.from;
      room = omega (arith, some, fewer, tied.room, tied.from, total-push (besides u writer.reserved) (record { unit = u; pages = need }));
      stands = tied.stands;
      at_next = tied.at_next;
      later = tied.later;
    }

-- ---- a task changes whose run isn't in hand

-- a device that has what its writer has written, from a page on, has it from each later one on
pub tied_later : (keep page : ℕ) (writer : LogState) (bytes : List Byte) → keep ≤ page → page ≤ writer.next → IsTied keep writer bytes → IsTied page writer bytes
tied_later keep page writer bytes later within tied = record {
  from = within;
  room = omega (arith, tied.room, later);
  stands = λ k from before. tied.stands k (omega (arith, later, from)) before;
  at_next = tied.at_next;
  later = tied.later;
}

pub seen_beside : (m : Member) (log : Log) (old new : Manager) (repo : Repository) (kept : KeptLog) (rs : List Reservation) (fillings : List Filling)
    → (IsTied log.keep kept.writer kept.bytes → IsTied log.keep (record kept.writer { reserved = rs }) kept.bytes)
    → new.up ≡ old.up → new.incarnation ≡ old.incarnation
    → ((t : TaskNo) → is_hardening (tasks_of old t).stage ≡ true → tasks_of new t ≡ tasks_of old t)
    → IsSeen m log old repo kept → IsSeen m log new repo (record kept { writer = record kept.writer { reserved = rs }; fillings = fillings })
seen_beside m log old new repo kept rs fillings tied up inc same seen = record {
  low = seen.low;
  keep = seen.keep;
  behind = seen.behind;
  next = seen.next;
  told = let told = seen.told in record {
    gone = told.gone;
    hand = told.hand;
    tells = reserved_tells log.keep kept.writer (record kept.writer { reserved = rs }) rs told.gone log.runs told.hand kept.bytes refl (tied told.tells.tied) told.tells;
    later = all_pairs (λ n. keep m repo ≤ n) (TellsFrom log kept told.gone told.hand) (TellsFrom log (record kept { writer = record kept.writer { reserved = rs }; fillings = fillings }) told.gone told.hand) (pages_named m repo)
        (λ n below tells. reserved_tells n kept.writer (record kept.writer { reserved = rs }) rs told.gone (runs_from n log.runs) told.hand kept.bytes refl
        (tied_later log.keep n (record kept.writer { reserved = rs }) kept.bytes (omega (arith, seen.keep, below)) tells.tied.from (tied told.tells.tied)) tells)
        (named_kept m repo) told.later;
    ended = ended_stays old new told.gone up inc told.ended;
    run = run_stays (tasks_of old) (tasks_of new) told.hand same told.run;
  };
}
