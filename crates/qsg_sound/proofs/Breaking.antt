-- the requests in progress of a member that ends are answered
use Rattle.std.proofs.Common.{◌≡◌, ℕ, ◌+◌, ◌≤◌, true, false, List, length, Option, Some, None, is_some, refl, sym, subst, ◌∙◌, arith, length-set}
use Rattle.std.proofs.lemmas.Option.{none-some}
use Rattle.qsg_num.specs.declared.seats.Member.{Member}
use Rattle.qsg_num.specs.declared.seats.TaskNo.{TaskNo}
use Rattle.qsg_num.specs.declared.seats.TaskNo.TheVariants as task
use Rattle.qsg_num.specs.declared.ids.Actor.{Actor}
use Rattle.qsg_num.specs.declared.ids.Actor.TheVariants as actor
use Rattle.qsg_num.specs.Seats.{member_number, task_number}
use Rattle.qsg_objects.specs.declared.directives.Directive.{Directive}
use Rattle.qsg_requests.specs.declared.replies.Reason.TheVariants.{ConnectionBroken}
use Rattle.qsg_requests.specs.declared.replies.Reply.TheVariants.{Refused}
use Rattle.qsg_requests.specs.declared.transcript.Answer.{Answer}
use Rattle.qsg_agenda.specs.Courses.{Course, same_actor, next_of, answered}
use Rattle.qsg_steady.specs.Standing.{IsOther}
use Rattle.qsg_works.specs.declared.work.Work.{Work}
use Rattle.qsg_works.specs.InHand.{place, work_of, with_work}
use Rattle.qsg_step.specs.Ends.{answer_at, broken, broken_if, broken_task, broken_off, dropped}
use Rattle.qsg_sound.specs.Sound.{answers_given, in_progress, starts_left}
use Rattle.qsg_sound.proofs.Answering.{one_more, next_apart, tasks_apart}
use Rattle.qsg_sound.proofs.Hands.{by_hand, work_same, work_other, has_one, has_none}
use Rattle.qsg_sound.proofs.Keeping.{AreKept, kept_answered}
use Rattle.qsg_sound.proofs.Starts.{starts_fewer}

-- a directive of the task comes next
pub record HasNext (k : Member) (w : TaskNo) (cs : List Course) : Type 0 where
  pub directive : Directive
  pub next : next_of (actor.Task k w) cs ≡ Some directive

-- each request in progress is that of a directive
pub record AreAsked (n : ℕ) (cs : List Course) (works : List (Option Work)) : Type 0 where
  pub kept : AreKept n cs
  pub forty : length works ≡ 40
  pub asked : (k : Member) (w : TaskNo) (work : Work) → work_of k w works ≡ Some work → HasNext k w cs

-- the request of a task, if it had one in progress, was answered
pub record IsBroken (n : ℕ) (m : Member) (t : TaskNo) (cs after : List Course) (works now : List (Option Work)) : Type 0 where
  pub are : AreAsked n after now
  pub counts : answers_given after + in_progress now ≡ answers_given cs + in_progress works
  pub fewer : in_progress now ≤ in_progress works
  pub starts : starts_left after ≤ starts_left cs
  pub operator : next_of actor.Operator after ≡ next_of actor.Operator cs
  pub next : (k : Member) (w : TaskNo) → IsOther m t k w → next_of (actor.Task k w) after ≡ next_of (actor.Task k w) cs
  pub others : (k : Member) (w : TaskNo) → IsOther m t k w → work_of k w now ≡ work_of k w works
  pub gone : work_of m t now ≡ None

-- no answer of a task is one of the operator
pub task_apart : (m : Member) (t : TaskNo) (a : Answer) (cs : List Course) → next_of actor.Operator (answered (actor.Task m t) a cs) ≡ next_of actor.Operator cs
task_apart m t a cs = next_apart (actor.Task m t) actor.Operator a cs apart
  where
    apart : (c : Actor) → same_actor c (actor.Task m t) ≡ true → same_actor c actor.Operator ≡ false
    apart (actor.Task k w) is = refl
    apart actor.Operator is = sym is

asked_still : (n : ℕ) (m : Member) (t : TaskNo) (cs after : List Course) (works : List (Option Work)) → AreKept n after → AreAsked n cs works → ((k : Member) (w : TaskNo) → IsOther m t k w → next_of (actor.Task k w) after ≡ next_of (actor.Task k w) cs)
    → AreAsked n after (with_work m t None works)
asked_still n m t cs after works kept are next = record {
  kept = kept;
  forty = length-set works (place m t) None ∙ are.forty;
  asked = by_hand (λ k w. (work : Work) → work_of k w (with_work m t None works) ≡ Some work → HasNext k w after) m t
      (λ work is. absurd (none-some work (sym (work_same m t None works are.forty) ∙ is)))
      (λ k w differ work is. let h = are.asked k w work (sym (work_other m t None works k w differ) ∙ is) in record { directive = h.directive; next = next k w differ ∙ h.next });
}

break_held : (n : ℕ) (m : Member) (t : TaskNo) (at : ℕ) (cs : List Course) (works : List (Option Work)) (held : Option Work) → AreAsked n cs works → work_of m t works ≡ held → IsBroken n m t cs (broken_if (is_some held) (actor.Task m t) at cs) works (with_work m t None works)
break_held n m t at cs works None are is = record {
  are = asked_still n m t cs cs works are.kept are (λ k w differ. refl);
  counts = let h = has_none m t works are.forty is in omega (arith, h);
  fewer = let h = has_none m t works are.forty is in omega (arith, h);
  starts = omega arith;
  operator = refl;
  next = λ k w differ. refl;
  others = λ k w differ. work_other m t None works k w differ;
  gone = work_same m t None works are.forty;
}
break_held n m t at cs works (Some work) are is =
    let who = actor.Task m t in
    let has = are.asked m t work is in
    let a = answer_at at has.directive (Refused ConnectionBroken) in
    let after = answered who a cs in
    let kept = kept_answered n who a has.directive cs are.kept has.next refl in
    let apart : (k : Member) (w : TaskNo) → IsOther m t k w → next_of (actor.Task k w) after ≡ next_of (actor.Task k w) cs = λ k w differ. next_apart who (actor.Task k w) a cs (tasks_apart m t k w differ) in
    subst (λ (d : Option Directive). IsBroken n m t cs (broken who at d cs) works (with_work m t None works)) (sym has.next) (record {
      are = asked_still n m t cs after works kept are apart;
      counts = let h = has_one m t work works are.forty is in let more = one_more who a cs has.directive has.next in omega (arith, h, more);
      fewer = let h = has_one m t work works are.forty is in omega (arith, h);
      starts = starts_fewer who a cs has.directive has.next;
      operator = task_apart m t a cs;
      next = apart;
      others = λ k w differ. work_other m t None works k w differ;
      gone = work_same m t None works are.forty;
    })

-- the test is made of the works before any was dropped
break_task : (n : ℕ) (m : Member) (t : TaskNo) (at : ℕ) (cs : List Course) (works first : List (Option Work)) → AreAsked n cs works → work_of m t works ≡ work_of m t first → IsBroken n m t cs (broken_task m t first at cs) works (with_work m t None works)
break_task n m t at cs works first are same = break_held n m t at cs works (work_of m t first) are same

-- ---- all tasks of a member

abbrev IsOtherMember : Member → Member → Type 0
IsOtherMember m k = member_number k ≡ member_number m → ⊥

-- all requests in progress of the member were answered
pub record AreBroken (n : ℕ) (m : Member) (cs after : List Course) (works now : List (Option Work)) : Type 0 where
  pub kept : AreKept n after
  pub forty : length now ≡ 40
  pub counts : answers_given after + in_progress now ≡ answers_given cs + in_progress works
  pub fewer : in_progress now ≤ in_progress works
  pub starts : starts_left after ≤ starts_left cs
  pub operator : next_of actor.Operator after ≡ next_of actor.Operator cs
  pub next : (k : Member) (w : TaskNo) → IsOtherMember m k → next_of (actor.Task k w) after ≡ next_of (actor.Task k w) cs
  pub others : (k : Member) (w : TaskNo) → IsOtherMember m k → work_of k w now ≡ work_of k w works
  pub gone : (w : TaskNo) → work_of m w now ≡ None

-- without the work of its first task, of its first two, and of its first three
abbrev first : Member → List (Option Work) → List (Option Work)
first m works = with_work m task.One None works

abbrev second : Member → List (Option Work) → List (Option Work)
second m works = with_work m task.Two None (first m works)

abbrev third : Member → List (Option Work) → List (Option Work)
third m works = with_work m task.Three None (second m works)

set_forty : (m : Member) (t : TaskNo) (xs : List (Option Work)) → length xs ≡ 40 → length (with_work m t None xs) ≡ 40
set_forty m t xs forty = length-set xs (place m t) None ∙ forty

task_other : (m : Member) (t w : TaskNo) (xs : List (Option Work)) → (task_number w ≡ task_number t → ⊥) → work_of m w (with_work m t None xs) ≡ work_of m w xs
task_other m t w xs differ = work_other m t None xs m w (λ e f. differ f)

all_gone : (m : Member) (works : List (Option Work)) → length works ≡ 40 → work_of m task.System works ≡ None → (w : TaskNo) → work_of m w (dropped m works) ≡ None
all_gone m works forty system task.System =
    task_other m task.Four task.System (third m works) (λ f. omega (arith, f)) ∙ task_other m task.Three task.System (second m works) (λ f. omega (arith, f)) ∙ task_other m task.Two task.System (first m works) (λ f. omega (arith, f)) ∙ task_other m task.One task.System works (λ f. omega (arith, f)) ∙ system
all_gone m works forty system task.One =
    task_other m task.Four task.One (third m works) (λ f. omega (arith, f)) ∙ task_other m task.Three task.One (second m works) (λ f. omega (arith, f)) ∙ task_other m task.Two task.One (first m works) (λ f. omega (arith, f)) ∙ work_same m task.One None works forty
all_gone m works forty system task.Two =
    task_other m task.Four task.Two (third m works) (λ f. omega (arith, f)) ∙ task_other m task.Three task.Two (second m works) (λ f. omega (arith, f)) ∙ work_same m task.Two None (first m works) (set_forty m task.One works forty)
all_gone m works forty system task.Three =
    task_other m task.Four task.Three (third m works) (λ f. omega (arith, f)) ∙ work_same m task.Three None (second m works) (set_forty m task.Two (first m works) (set_forty m task.One works forty))
all_gone m works forty system task.Four =
    work_same m task.Four None (third m works) (set_forty m task.Three (second m works) (set_forty m task.Two (first m works) (set_forty m task.One works forty)))

pub break_off : (n : ℕ) (m : Member) (at : ℕ) (cs : List Course) (works : List (Option Work)) → AreAsked n cs works → work_of m task.System works ≡ None → AreBroken n m cs (broken_off m works at cs) works (dropped m works)
break_off n m at cs works are system =
    let cs1 = broken_task m task.One works at cs in
    let cs2 = broken_task m task.Two works at cs1 in
    let cs3 = broken_task m task.Three works at cs2 in
    let one = break_task n m task.One at cs works works are refl in
    let two = break_task n m task.Two at cs1 (first m works) works one.are (task_other m task.One task.Two works (λ f. omega (arith, f))) in
    let three = break_task n m task.Three at cs2 (second m works) works two.are
    (task_other m task.Two task.Three (first m works) (λ f. omega (arith, f)) ∙ task_other m task.One task.Three works (λ f. omega (arith, f))) in
    let four = break_task n m task.Four at cs3 (third m works) works three.are
    (task_other m task.Three task.Four (second m works) (λ f. omega (arith, f)) ∙ task_other m task.Two task.Four (first m works) (λ f. omega (arith, f)) ∙ task_other m task.One task.Four works (λ f. omega (arith, f))) in
    record {
      kept = four.are.kept;
      forty = four.are.forty;
      counts = four.counts ∙ three.counts ∙ two.counts ∙ one.counts;
      fewer = omega (arith, four.fewer, three.fewer, two.fewer, one.fewer);
      starts = omega (arith, four.starts, three.starts, two.starts, one.starts);
      operator = four.operator ∙ three.operator ∙ two.operator ∙ one.operator;
      next = λ k w differ. four.next k w (λ e f. differ e) ∙ three.next k w (λ e f. differ e) ∙ two.next k w (λ e f. differ e) ∙ one.next k w (λ e f. differ e);
      others = λ k w differ. four.others k w (λ e f. differ e) ∙ three.others k w (λ e f. differ e) ∙ two.others k w (λ e f. differ e) ∙ one.others k w (λ e f. differ e);
      gone = all_gone m works are.forty system;
    }
