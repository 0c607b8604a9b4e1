-- what holds of a member and of its request holds after each step
use Rattle.std.proofs.Common.{◌≡◌, ℕ, ◌-◌, ◌<◌, ◌≤◌, ◌^◌, List, length, Bool, true, false, Option, Some, None, Result, Ok, Err, refl, sym, ap, subst, ◌∙◌, cond, arith, true≢false}
use Rattle.std.specs.Prelude.{nat_lt, option_map}
use Rattle.std.proofs.lemmas.Option.{same_Some, none-some}
use Rattle.qsg_num.specs.declared.seats.Member.{Member}
use Rattle.qsg_num.specs.declared.seats.TaskNo.{TaskNo}
use Rattle.qsg_num.specs.declared.ids.UnitName.{UnitName}
use Rattle.qsg_requests.specs.declared.replies.Cause.TheVariants.{LogBusy}
use Rattle.qsg_requests.specs.declared.replies.Turn.{Turn}
use Rattle.qsg_requests.specs.declared.replies.Turn.TheVariants.{More, Waits}
use Rattle.qsg_group.specs.declared.tasks.Stage.TheVariants.{Hardening, BackedOut}
use Rattle.qsg_group.specs.declared.tasks.Task.{Task}
use Rattle.qsg_group.specs.Observers.{is_hardening}
use Rattle.qsg_manager.specs.declared.managers.Manager.{Manager}
use Rattle.qsg_manager.specs.Latches.{latch_of}
use Rattle.qsg_manager.specs.Storage.{manager_in, task_at}
use Rattle.qsg_logs.specs.Kept.{KeptLog, log_in, IsKept}
use Rattle.qsg_logs.specs.Held.{is_open}
use Rattle.qsg_parts.specs.Owned.{Owned}
use Rattle.qsg_commit.specs.declared.phases.Phase.{Phase}
use Rattle.qsg_commit.specs.declared.phases.Phase.TheVariants.{Latch, Pages, Settle, Publish, GiveUp, Undo}
use Rattle.qsg_commit.specs.declared.phases.StepError.{StepError}
use Rattle.qsg_commit.specs.declared.phases.StepError.TheVariants.{NoMemory, LogFailed}
use Rattle.qsg_commit.specs.declared.phases.Taken.{Taken}
use Rattle.qsg_commit.specs.declared.phases.Taken.TheVariants.{Nothing, Busy, Begun}
use Rattle.qsg_commit.specs.Pending.{pending}
use Rattle.qsg_commit.specs.Committing.{take_of, take_answer, IsLatched, IsPageStep, IsFailedPage}
use Rattle.qsg_commit.specs.Ending.{settled, is_settled, ended, given_up}
use Rattle.qsg_commit.specs.Next.{Next, unit_ended, LatchStep, after_settle, after_publish, after_undo, after_give_up, after_page, NextAt}
use Rattle.qsg_logs.specs.Held.{AreHeld}
use Rattle.qsg_commit.specs.Committing.{with_room}
use Rattle.qsg_commit.specs.Fits.{AreWithin, IsServing, IsWriting, IsEnding, FitsAt, Stepped}
use Rattle.qsg_commit.specs.Ending.{settled_by}
use Rattle.qsg_lists.specs.Structures.{ListStructure}
use Rattle.qsg_group.specs.declared.tasks.Claim.{Claim}
use Rattle.qsg_manager.specs.Settles.{next_claim, further}
use Rattle.qsg_manager.specs.Units.{decided, safe_stage}
use Rattle.qsg_num.specs.Seats.{member_number}
use Rattle.std.proofs.lemmas.List.{length-set}
use Rattle.qsg_commit.proofs.Finishing.{task_same}
use Rattle.qsg_commit.proofs.Fitting.{open_quiet}
use Rattle.qsg_commit.proofs.Serving.{settled_serving, given_up_serving, ended_serving, low_told_serving, latched_serving, page_serving, is_member, further_closed, further_quiet, safe_closed, held_same}

-- ---- where nothing but the room of the history changed

room_serving : (m : Member) (p : Owned) (room : ℕ) → IsServing m p → p.history.room ≤ room → IsServing m (with_room room p)
room_serving m p room serving more = record {
  member = record { manager = serving.member.manager; log = serving.member.log };
  five = serving.five;
  held = serving.held;
  slots = λ t hardens. omega (arith, more, serving.slots t hardens);
  few = serving.few;
  within = serving.within;
  own = serving.own;
}

-- ---- the latch

pending_unit : (task : Task) (u : UnitName) (n : ℕ) → pending task ≡ Some (u, n) → task.unit ≡ Some u
pending_unit task u n is = by (nat_lt 0 (length task.ops)) task.unit is
  where
    by : (b : Bool) (unit : Option UnitName) → cond b (option_map {U = UnitName × ℕ} (λ (v : UnitName). (v, length task.ops)) unit) None ≡ Some (u, n) → unit ≡ Some u
    by false unit is = absurd (none-some (u, n) is)
    by true None is = absurd (none-some (u, n) is)
    by true (Some v) is = ap (λ (x : UnitName × ℕ). Some x.0) (same_Some (v, length task.ops) (u, n) is)

unit_taken : UnitName → Taken → UnitName
unit_taken d Nothing = d
unit_taken d (Busy busy) = d
unit_taken d (Begun u count) = u

is_begun : Taken → Bool
is_begun Nothing = false
is_begun (Busy busy) = false
is_begun (Begun u count) = true

begun_free : (found : Option (UnitName × ℕ)) (latch : Option TaskNo) (u : UnitName) (count : ℕ) → take_of found latch ≡ Begun u count → (latch ≡ None) × ((n : ℕ) × (found ≡ Some (u, n)))
unfolding unit_taken is_begun
begun_free None latch u count is = absurd (true≢false (sym (ap is_begun is)))
begun_free (Some (v, n)) (Some busy) u count is = absurd (true≢false (sym (ap is_begun is)))
begun_free (Some (v, n)) None u count is = (refl, (n, ap (λ (x : UnitName). Some (x, n)) (ap (unit_taken v) is)))

-- ---- marks

still_ending : (u : UnitName) (t : TaskNo) (p : Owned) → IsServing u.member p → IsEnding u.member u (task_at u.member t p.managers) → IsEnding u.member u (task_at u.member t (settled u t p).managers)
still_ending u t p serving ending = by (next_claim (task_at u.member t p.managers))
  where
    by : (next : Option Claim) → IsEnding u.member u (task_at u.member t (settled_by u t next p).managers)
    by None = ending
    by (Some c) =
        let task = task_at u.member t p.managers in
        let moved = record task { stage = further task.stage } in
        subst (IsEnding u.member u) (sym (task_same u.member t moved p.managers (is_member u.member p serving)))
        (record { own = refl; holds = ending.holds; closed = further_closed task.stage ending.closed; settling = further_quiet task.stage ending.settling })

same_logs : (u : UnitName) (t : TaskNo) (p : Owned) → (settled u t p).logs ≡ p.logs
same_logs u t p = by (next_claim (task_at u.member t p.managers))
  where
    by : (next : Option Claim) → (settled_by u t next p).logs ≡ p.logs
    by None = refl
    by (Some c) = refl

-- a unit that is given up loses its next mark
undo_stepped : (u : UnitName) (t : TaskNo) (count : ℕ) (at phase : Phase) (turn : Turn) (p q : Owned) → IsServing u.member p → length (log_in u.member p.logs).fillings ≡ 5 → IsEnding u.member u (task_at u.member t p.managers)
    → record { turn = turn; phase = phase; parts = q } ≡ after_undo t u count at p → Stepped u.member t (Ok turn) phase q
undo_stepped u t count at phase turn p q serving five ending next = by (is_settled u t (settled u t p)) refl
  where
    mid : IsServing u.member (settled u t p)
    mid = settled_serving u t p serving ending.closed ending.settling

    left : IsEnding u.member u (task_at u.member t (settled u t p).managers)
    left = still_ending u t p serving ending

    by : (b : Bool) → is_settled u t (settled u t p) ≡ b → Stepped u.member t (Ok turn) phase q
    by true is =
        let turn_is : turn ≡ unit_ended u count = ap (λ (x : Next). x.turn) next ∙ ap (λ (b : Bool). cond b (unit_ended u count) More) is in
        let q_is : q ≡ ended u t (settled u t p) = ap (λ (x : Next). x.parts) next ∙ ap (λ (b : Bool). cond b (ended u t (settled u t p)) (settled u t p)) is in
        subst (λ (x : Turn). Stepped u.member t (Ok x) phase q) (sym turn_is) (record {
          serving = subst (IsServing u.member) (sym q_is) (ended_serving u t (settled u t p) mid (ap (λ (l : List KeptLog). length (log_in u.member l).fillings) (same_logs u t p) ∙ five) left.holds left.settling);
          fits = tt;
        })
    by false is =
        let turn_is : turn ≡ More = ap (λ (x : Next). x.turn) next ∙ ap (λ (b : Bool). cond b (unit_ended u count) More) is in
        let q_is : q ≡ settled u t p = ap (λ (x : Next). x.parts) next ∙ ap (λ (b : Bool). cond b (ended u t (settled u t p)) (settled u t p)) is in
        let phase_is : phase ≡ Undo u count = ap (λ (x : Next). x.phase) next ∙ ap (λ (b : Bool). cond b at (Undo u count)) is in
        subst (λ (x : Turn). Stepped u.member t (Ok x) phase q) (sym turn_is) (subst (λ (x : Phase). Stepped u.member t (Ok More) x q) (sym phase_is) (record {
          serving = subst (IsServing u.member) (sym q_is) mid;
          fits = subst (λ (x : Owned). IsEnding u.member u (task_at u.member t x.managers)) (sym q_is) left;
        }))

-- ---- a step

latch_stepped : (m : Member) (t : TaskNo) (p q : Owned) (taken : Taken) (turn : Turn) (phase : Phase) → IsServing m p → is_open (task_at m t p.managers).stage ≡ true → take_answer m t p ≡ taken → LatchStep m t taken p turn phase q → Stepped m t (Ok turn) phase q
latch_stepped m t p q Nothing turn phase serving opened is next =
    subst (λ (x : Turn). Stepped m t (Ok x) phase q) (sym next.0) (record { serving = subst (IsServing m) (sym next.2) serving; fits = tt })
latch_stepped m t p q (Busy busy) turn phase serving opened is next =
    subst (λ (x : Turn). Stepped m t (Ok x) phase q) (sym next.0) (subst (λ (x : Phase). Stepped m t (Ok (Waits (LogBusy busy))) x q) (sym next.1) (record {
      serving = subst (IsServing m) (sym next.2) serving;
      fits = subst (λ (x : Owned). is_open (task_at m t x.managers).stage ≡ true) (sym next.2) opened;
    }))
latch_stepped m t p q (Begun u count) turn phase serving opened is next =
    let found = begun_free (pending (task_at m t p.managers)) (latch_of (manager_in m p.managers).tasks) u count is in
    let holds : (task_at m t p.managers).unit ≡ Some u = pending_unit (task_at m t p.managers) u found.1.0 found.1.1 in
    let own : u.member ≡ m = serving.own t u holds in
    let latch = next.2 in
    let back = λ (P : Member → Type 0). λ (x : P m). subst P (sym own) x in
    let serves : IsServing u.member q
    = latched_serving u t p q (back (λ k. IsServing k p) serving) (back (λ k. (task_at k t p.managers).unit ≡ Some u) holds) (back (λ k. is_open (task_at k t p.managers).stage ≡ true) opened)
    (back (λ k. latch_of (manager_in k p.managers).tasks ≡ None) found.0) (back (λ k. IsLatched k t u p q) latch) in
    let moved = record (task_at m t p.managers) { stage = Hardening (record { number = (log_in m p.logs).writer.next }) } in
    let task_is : task_at m t q.managers ≡ moved = ap (λ (x : Owned). task_at m t x.managers) latch.parts ∙ task_same m t moved p.managers (is_member m p serving) in
    subst (λ (x : Turn). Stepped m t (Ok x) phase q) (sym next.0) (subst (λ (x : Phase). Stepped m t (Ok More) x q) (sym next.1) (record {
      serving = subst (λ (k : Member). IsServing k q) own serves;
      fits = subst (IsWriting m u) (sym task_is) (record { own = own; holds = holds; hardens = refl });
    }))

page_stepped : (u : UnitName) (t : TaskNo) (count : ℕ) (p q : Owned) (turn : Turn) (phase : Phase) (done : Bool) → IsServing u.member p → IsKept (log_in u.member p.logs).extent (log_in u.member p.logs).writer (log_in u.member p.logs).fillings
    → IsWriting u.member u (task_at u.member t p.managers) → turn ≡ More → phase ≡ after_page done u count → IsPageStep u t done p q → Stepped u.member t (Ok turn) phase q
page_stepped u t count p q turn phase false serving kept writing turn_is phase_is step =
    subst (λ (x : Turn). Stepped u.member t (Ok x) phase q) (sym turn_is) (subst (λ (x : Phase). Stepped u.member t (Ok More) x q) (sym phase_is) (record {
      serving = page_serving u t false p q serving kept.within writing.hardens step;
      fits = subst (λ (l : List Manager). IsWriting u.member u (task_at u.member t l)) (sym (ap (λ (x : Owned). x.managers) step.made)) writing;
    }))
page_stepped u t count p q turn phase true serving kept writing turn_is phase_is step =
    let task = task_at u.member t p.managers in
    let moved = decided (safe_stage task.stage) task in
    let task_is : task_at u.member t q.managers ≡ moved = ap (λ (x : Owned). task_at u.member t x.managers) step.made.parts ∙ task_same u.member t moved p.managers (is_member u.member p serving) in
    subst (λ (x : Turn). Stepped u.member t (Ok x) phase q) (sym turn_is) (subst (λ (x : Phase). Stepped u.member t (Ok More) x q) (sym phase_is) (record {
      serving = page_serving u t true p q serving kept.within writing.hardens step;
      fits = subst (IsEnding u.member u) (sym task_is) (record { own = refl; holds = writing.holds; closed = (safe_closed task.stage writing.hardens).0; settling = (safe_closed task.stage writing.hardens).1 });
    }))

failed_stepped : (u : UnitName) (t : TaskNo) (count : ℕ) (p q : Owned) (phase : Phase) → IsServing u.member p → IsWriting u.member u (task_at u.member t p.managers) → phase ≡ Pages u count → IsFailedPage u.member p q → Stepped u.member t (Err LogFailed) phase q
failed_stepped u t count p q phase serving writing phase_is failed =
    let new = log_in u.member q.logs in
    let m = u.member in
    let same : q.managers ≡ p.managers = ap (λ (x : Owned). x.managers) failed.parts in
    let structures : q.structures ≡ p.structures = ap (λ (x : Owned). x.structures) failed.parts in
    subst (λ (x : Phase). Stepped u.member t (Err LogFailed) x q) (sym phase_is) (record {
      serving = record {
        member = record {
          manager = subst (λ (l : List Manager). member_number m ≤ length l) (sym same) serving.member.manager;
          log = subst (λ (l : List KeptLog). member_number m ≤ length l) (sym (ap (λ (x : Owned). x.logs) failed.parts)) (subst (λ (n : ℕ). member_number m ≤ n) (sym (length-set p.logs (member_number m - 1) new)) serving.member.log);
        };
        five = subst (λ (l : List Manager). length (manager_in m l).tasks ≡ 5) (sym same) serving.five;
        held = subst (λ (l : List Manager). AreHeld (λ w. task_at m w l) new) (sym same) (held_same (λ w. task_at m w p.managers) (log_in m p.logs) new serving.held failed.writer failed.fillings);
        slots = λ w hardens. subst (λ (n : ℕ). 0 < n) (sym (ap (λ (x : Owned). x.history.room) failed.parts)) (serving.slots w (ap (λ (l : List Manager). is_hardening (task_at m w l).stage) (sym same) ∙ hardens));
        few = subst (λ (l : List Manager). (w : TaskNo) → length (task_at m w l).ops < 2 ^ 32) (sym same) serving.few;
        within = subst (λ (x : List ListStructure). (w : TaskNo) → AreWithin (length x) (task_at m w q.managers).claims) (sym structures)
            (subst (λ (l : List Manager). (w : TaskNo) → AreWithin (length p.structures) (task_at m w l).claims) (sym same) serving.within);
        own = subst (λ (l : List Manager). (w : TaskNo) (v : UnitName) → (task_at m w l).unit ≡ Some v → v.member ≡ m) (sym same) serving.own;
      };
      fits = subst (λ (l : List Manager). IsWriting m u (task_at m t l)) (sym same) writing;
    })

settle_stepped : (u : UnitName) (t : TaskNo) (count : ℕ) (p q : Owned) (turn : Turn) (phase : Phase) → IsServing u.member p → IsEnding u.member u (task_at u.member t p.managers)
    → record { turn = turn; phase = phase; parts = q } ≡ after_settle t u count p → Stepped u.member t (Ok turn) phase q
settle_stepped u t count p q turn phase serving ending next =
    let q_is : q ≡ settled u t p = ap (λ (x : Next). x.parts) next in
    subst (λ (x : Turn). Stepped u.member t (Ok x) phase q) (sym (ap (λ (x : Next). x.turn) next)) (subst (λ (x : Phase). Stepped u.member t (Ok More) x q) (sym (ap (λ (x : Next). x.phase) next)) (record {
      serving = subst (IsServing u.member) (sym q_is) (settled_serving u t p serving ending.closed ending.settling);
      fits = subst (λ (x : Owned). FitsAt u.member (task_at u.member t x.managers) (cond (is_settled u t (settled u t p)) (Publish u count) (Settle u count))) (sym q_is)
          (either (is_settled u t (settled u t p)) (task_at u.member t (settled u t p).managers) (still_ending u t p serving ending));
    }))
  where
    either : (b : Bool) (task : Task) → IsEnding u.member u task → FitsAt u.member task (cond b (Publish u count) (Settle u count))
    either true task left = left
    either false task left = left

publish_stepped : (u : UnitName) (t : TaskNo) (count : ℕ) (p q : Owned) (turn : Turn) (phase : Phase) → IsServing u.member p → length (log_in u.member p.logs).fillings ≡ 5 → IsEnding u.member u (task_at u.member t p.managers)
    → record { turn = turn; phase = phase; parts = q } ≡ after_publish t u count p → Stepped u.member t (Ok turn) phase q
publish_stepped u t count p q turn phase serving five ending next =
    subst (λ (x : Turn). Stepped u.member t (Ok x) phase q) (sym (ap (λ (x : Next). x.turn) next)) (record {
      serving = subst (IsServing u.member) (sym (ap (λ (x : Next). x.parts) next)) (low_told_serving u.member (ended u t p) (ended_serving u t p serving five ending.holds ending.settling));
      fits = tt;
    })

give_up_stepped : (m : Member) (t : TaskNo) (p q : Owned) (found : Option (UnitName × ℕ)) (turn : Turn) (phase : Phase) → IsServing m p → length (log_in m p.logs).fillings ≡ 5 → is_open (task_at m t p.managers).stage ≡ true → pending (task_at m t p.managers) ≡ found
    → record { turn = turn; phase = phase; parts = q } ≡ after_give_up t found p → Stepped m t (Ok turn) phase q
give_up_stepped m t p q None turn phase serving five opened is next =
    subst (λ (x : Turn). Stepped m t (Ok x) phase q) (sym (ap (λ (x : Next). x.turn) next)) (record { serving = subst (IsServing m) (sym (ap (λ (x : Next). x.parts) next)) serving; fits = tt })
give_up_stepped m t p q (Some (u, count)) turn phase serving five opened is next =
    let holds : (task_at m t p.managers).unit ≡ Some u = pending_unit (task_at m t p.managers) u count is in
    let own : u.member ≡ m = serving.own t u holds in
    let here = subst (λ (k : Member). IsServing k p) (sym own) serving in
    let held_here = subst (λ (k : Member). (task_at k t p.managers).unit ≡ Some u) (sym own) holds in
    let quiet : is_hardening (task_at u.member t p.managers).stage ≡ false = subst (λ (k : Member). is_hardening (task_at k t p.managers).stage ≡ false) (sym own) (open_quiet (task_at m t p.managers).stage opened) in
    let moved = decided (BackedOut 0) (task_at u.member t p.managers) in
    let ending : IsEnding u.member u (task_at u.member t (given_up u t p).managers)
    = subst (IsEnding u.member u) (sym (task_same u.member t moved p.managers (is_member u.member p here))) (record { own = refl; holds = held_here; closed = refl; settling = refl }) in
    subst (λ (k : Member). Stepped k t (Ok turn) phase q) own
    (undo_stepped u t count GiveUp phase turn (given_up u t p) q (given_up_serving u t p here quiet) (subst (λ (k : Member). length (log_in k p.logs).fillings ≡ 5) (sym own) five) ending next)

pub stepped : (m : Member) (t : TaskNo) (p q : Owned) (phase after : Phase) (result : Result Turn StepError) → IsServing m p → IsKept (log_in m p.logs).extent (log_in m p.logs).writer (log_in m p.logs).fillings
    → FitsAt m (task_at m t p.managers) phase → NextAt m t phase p result after q → Stepped m t result after q
stepped m t p q Latch after (Ok turn) serving kept fits next = latch_stepped m t p q (take_answer m t p) turn after serving fits refl next
stepped m t p q Latch after (Err NoMemory) serving kept fits next =
    subst (λ (x : Phase). Stepped m t (Err NoMemory) x q) (sym next.0) (record {
      serving = subst (IsServing m) (sym next.1.same) (room_serving m p q.history.room serving next.1.room);
      fits = subst (λ (x : Owned). is_open (task_at m t x.managers).stage ≡ true) (sym next.1.same) fits;
    })
stepped m t p q Latch after (Err LogFailed) serving kept fits next = absurd next
stepped m t p q (Pages u count) after (Ok turn) serving kept fits next =
    subst (λ (k : Member). Stepped k t (Ok turn) after q) fits.own
    (page_stepped u t count p q turn after next.0 (subst (λ (k : Member). IsServing k p) (sym fits.own) serving) (subst (λ (k : Member). IsKept (log_in k p.logs).extent (log_in k p.logs).writer (log_in k p.logs).fillings) (sym fits.own) kept)
    (subst (λ (k : Member). IsWriting k u (task_at k t p.managers)) (sym fits.own) fits) next.1 next.2 next.3)
stepped m t p q (Pages u count) after (Err NoMemory) serving kept fits next = absurd next
stepped m t p q (Pages u count) after (Err LogFailed) serving kept fits next =
    subst (λ (k : Member). Stepped k t (Err LogFailed) after q) fits.own
    (failed_stepped u t count p q after (subst (λ (k : Member). IsServing k p) (sym fits.own) serving) (subst (λ (k : Member). IsWriting k u (task_at k t p.managers)) (sym fits.own) fits) next.0 next.1)
stepped m t p q (Settle u count) after (Ok turn) serving kept fits next =
    subst (λ (k : Member). Stepped k t (Ok turn) after q) fits.own
    (settle_stepped u t count p q turn after (subst (λ (k : Member). IsServing k p) (sym fits.own) serving) (subst (λ (k : Member). IsEnding k u (task_at k t p.managers)) (sym fits.own) fits) next)
stepped m t p q (Settle u count) after (Err e) serving kept fits next = absurd next
stepped m t p q (Publish u count) after (Ok turn) serving kept fits next =
    subst (λ (k : Member). Stepped k t (Ok turn) after q) fits.own
    (publish_stepped u t count p q turn after (subst (λ (k : Member). IsServing k p) (sym fits.own) serving) (subst (λ (k : Member). length (log_in k p.logs).fillings ≡ 5) (sym fits.own) kept.five)
    (subst (λ (k : Member). IsEnding k u (task_at k t p.managers)) (sym fits.own) fits) next)
stepped m t p q (Publish u count) after (Err e) serving kept fits next = absurd next
stepped m t p q GiveUp after (Ok turn) serving kept fits next = give_up_stepped m t p q (pending (task_at m t p.managers)) turn after serving kept.five fits refl next
stepped m t p q GiveUp after (Err e) serving kept fits next = absurd next
stepped m t p q (Undo u count) after (Ok turn) serving kept fits next =
    subst (λ (k : Member). Stepped k t (Ok turn) after q) fits.own
    (undo_stepped u t count (Undo u count) after turn p q (subst (λ (k : Member). IsServing k p) (sym fits.own) serving) (subst (λ (k : Member). length (log_in k p.logs).fillings ≡ 5) (sym fits.own) kept.five)
    (subst (λ (k : Member). IsEnding k u (task_at k t p.managers)) (sym fits.own) fits) next)
stepped m t p q (Undo u count) after (Err e) serving kept fits next = absurd next
