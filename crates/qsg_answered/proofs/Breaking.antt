-- what the end of a member makes of the requests of its tasks, one task after the other
use Rattle.std.proofs.Common.{◌≡◌, ℕ, ◌+◌, ◌≤◌, List, [], ◌∷◌, ◌++◌, length, length-set, Bool, true, false, cond, Option, Some, None, ◌⊎◌, inl, inr, refl, sym, ap, subst, ◌∙◌, arith, true≢false}
use Rattle.std.specs.Prelude.{Contains, count_by, sum_by, fold, is_some, ◌||◌}
use Rattle.std.specs.Option.{option_and_then}
use Rattle.std.proofs.lemmas.List.{get_or-set_same, get_or-set_other, append_assoc}
use Rattle.std.proofs.lemmas.Option.{none-some, same_Some}
use Rattle.qsg_num.specs.declared.seats.Member.{Member}
use Rattle.qsg_num.specs.declared.seats.StructNo.{StructNo}
use Rattle.qsg_num.specs.declared.seats.TaskNo.{TaskNo}
use Rattle.qsg_num.specs.declared.seats.TaskNo.TheVariants as task
use Rattle.qsg_num.specs.declared.ids.Actor.{Actor}
use Rattle.qsg_num.specs.declared.ids.Actor.TheVariants as actor
use Rattle.qsg_num.specs.declared.ids.UnitName.{UnitName}
use Rattle.qsg_num.specs.Seats.{member_number, task_number}
use Rattle.qsg_model.specs.declared.history.Item.{Item}
use Rattle.qsg_model.specs.declared.history.Op.{Op}
use Rattle.qsg_model.proofs.Differing.{at_head, in_tail, head_or_tail, none_in_empty}
use Rattle.qsg_objects.specs.declared.directives.Directive.{Directive}
use Rattle.qsg_objects.specs.Registry.{Registry}
use Rattle.qsg_requests.specs.declared.replies.Reason.TheVariants.{ConnectionBroken}
use Rattle.qsg_requests.specs.declared.replies.Reply.TheVariants.{Refused}
use Rattle.qsg_requests.specs.declared.transcript.Answer.{Answer}
use Rattle.qsg_requests.specs.declared.words.Request.{Request}
use Rattle.qsg_requests.specs.declared.words.Request.TheVariants as request
use Rattle.qsg_agenda.specs.Courses.{Course, same_actor, course_of, next_in, next_of, answered, with_answer}
use Rattle.qsg_directives.specs.Asking.{request_of}
use Rattle.qsg_group.proofs.Tables.{cases_task}
use Rattle.qsg_steady.proofs.Places.{member_some, task_few}
use Rattle.qsg_steady.specs.Standing.{IsOther}
use Rattle.qsg_parts.specs.Owned.{Owned}
use Rattle.qsg_works.specs.declared.work.Work.{Work}
use Rattle.qsg_works.specs.InHand.{place, work_of, with_work}
use Rattle.qsg_step.specs.declared.asked.Asked.{Asked}
use Rattle.qsg_step.specs.declared.asked.Asked.TheVariants as asks
use Rattle.qsg_step.specs.Asking.{asked}
use Rattle.qsg_step.specs.States.{is_due, with_due}
use Rattle.qsg_step.specs.Ends.{answer_at, broken, broken_if, broken_task, loses_unit, due_task}
use Rattle.qsg_sound.specs.Sound.{request_in, IsAsked}
use Rattle.qsg_sound.proofs.Answering.{AreApart, tasks_apart}
use Rattle.qsg_sound.proofs.Hands.{by_hand, work_same, work_other, places_differ}
use Rattle.qsg_answered.specs.Telling.{is_broken, pending_after, with_answered, told, pending, pending_in, pending_of, commits, starts, starts_in}
use Rattle.qsg_answered.specs.Fits.{EndsAsked, StaysOut, commits_now}
use Rattle.qsg_answered.proofs.Answering.{IsNextOf, starts_answered}
use Rattle.qsg_answered.proofs.Courses.{course_is, next_course, answered_own, answered_apart}
use Rattle.qsg_answered.proofs.Hands.{place_few, counted_with}
use Rattle.qsg_answered.proofs.Keeping.{IsCarried, carried_self, carried_more, carried_answer, own_pending}
use Rattle.qsg_answered.proofs.Outcomes.{one_if}
use Rattle.qsg_answered.proofs.Told.{told_more}

-- ---- the tasks of a member, in order

abbrev pub four : List TaskNo
four = task.One ∷ task.Two ∷ task.Three ∷ task.Four ∷ []

abbrev pub AreDistinct : List TaskNo → Type 0
AreDistinct [] = Unit {0}
AreDistinct (t ∷ ts) = (Contains ts t → ⊥) × AreDistinct ts

lacks_one : (t : TaskNo) (w : TaskNo) (ts : List TaskNo) → (task_number w ≡ task_number t → ⊥) → (Contains ts t → ⊥) → Contains (w ∷ ts) t → ⊥
lacks_one t w ts differ rest c = elim (head_or_tail w t ts c) [ inl same ↦ differ (ap task_number same) | inr later ↦ rest later ]

lacks_none : (t : TaskNo) → Contains [] t → ⊥
lacks_none t c = none_in_empty t c

pub four_distinct : AreDistinct four
four_distinct = (
  lacks_one task.One task.Two (task.Three ∷ task.Four ∷ []) (λ e. omega (arith, e)) (lacks_one task.One task.Three (task.Four ∷ []) (λ e. omega (arith, e)) (lacks_one task.One task.Four [] (λ e. omega (arith, e)) (lacks_none task.One))),
  (
    lacks_one task.Two task.Three (task.Four ∷ []) (λ e. omega (arith, e)) (lacks_one task.Two task.Four [] (λ e. omega (arith, e)) (lacks_none task.Two)),
    (
      lacks_one task.Three task.Four [] (λ e. omega (arith, e)) (lacks_none task.Three),
      (lacks_none task.Four, tt),
    ),
  ),
)

pub four_without : Contains four task.System → ⊥
four_without = lacks_one task.System task.One (task.Two ∷ task.Three ∷ task.Four ∷ []) (λ e. omega (arith, e)) (lacks_one task.System task.Two (task.Three ∷ task.Four ∷ []) (λ e. omega (arith, e))
    (lacks_one task.System task.Three (task.Four ∷ []) (λ e. omega (arith, e)) (lacks_one task.System task.Four [] (λ e. omega (arith, e)) (lacks_none task.System))))

pub in_four : (w : TaskNo) → (w ≡ task.System) ⊎ Contains four w
in_four task.System = inl refl
in_four task.One = inr (at_head task.One (task.Two ∷ task.Three ∷ task.Four ∷ []))
in_four task.Two = inr (in_tail task.One task.Two (task.Two ∷ task.Three ∷ task.Four ∷ []) (at_head task.Two (task.Three ∷ task.Four ∷ [])))
in_four task.Three = inr (in_tail task.One task.Three (task.Two ∷ task.Three ∷ task.Four ∷ []) (in_tail task.Two task.Three (task.Three ∷ task.Four ∷ []) (at_head task.Three (task.Four ∷ []))))
in_four task.Four = inr (in_tail task.One task.Four (task.Two ∷ task.Three ∷ task.Four ∷ []) (in_tail task.Two task.Four (task.Three ∷ task.Four ∷ []) (in_tail task.Three task.Four (task.Four ∷ []) (at_head task.Four []))))

-- two tasks in a list of distinct ones are the same, or differ in their numbers
pub apart_from : (m : Member) (t w : TaskNo) (ts : List TaskNo) → (Contains ts t → ⊥) → Contains ts w → IsOther m t m w
apart_from m t w ts lacks has e f = by (cases_task w t)
  where
    by : (w ≡ t) ⊎ (task_number w ≡ task_number t → ⊥) → ⊥
    by (inl same) = lacks (subst (Contains ts) same has)
    by (inr differ) = differ f

-- ---- courses

abbrev pub breaks : Member → List (Option Work) → ℕ → List TaskNo → List Course → List Course
breaks m works at [] cs = cs
breaks m works at (t ∷ ts) cs = breaks m works at ts (broken_task m t works at cs)

-- a request in progress is what the task's next directive asks for
abbrev pub AsksFor : Member → TaskNo → List (Option Work) → List Course → Type 0
AsksFor m t works cs = (w : Work) → work_of m t works ≡ Some w → IsAsked m t w cs

-- the request in progress is answered 2009
pub record IsBrokenOff (m : Member) (t : TaskNo) (w : Work) (at : ℕ) (cs ds : List Course) : Type 0 where
  pub directive : Directive
  pub next : next_of (actor.Task m t) cs ≡ Some directive
  pub request : request_of directive ≡ Some (request_in w)
  pub after : ds ≡ answered (actor.Task m t) (answer_at at directive (Refused ConnectionBroken)) cs

broken_none : (m : Member) (t : TaskNo) (works : List (Option Work)) (at : ℕ) (cs : List Course) → work_of m t works ≡ None → broken_task m t works at cs ≡ cs
broken_none m t works at cs none = ap (λ (o : Option Work). broken_if (is_some o) (actor.Task m t) at cs) none

pub broken_some : (m : Member) (t : TaskNo) (works : List (Option Work)) (at : ℕ) (cs : List Course) (w : Work) → work_of m t works ≡ Some w → IsAsked m t w cs → IsBrokenOff m t w at cs (broken_task m t works at cs)
broken_some m t works at cs w is asks_for = record {
  directive = asks_for.directive;
  next = asks_for.next;
  request = asks_for.request;
  after = ap (λ (o : Option Work). broken_if (is_some o) (actor.Task m t) at cs) is ∙ ap (λ (o : Option Directive). broken (actor.Task m t) at o cs) asks_for.next;
}

-- the course of another task stays
pub course_other : (m : Member) (t : TaskNo) (k : Member) (w : TaskNo) (works : List (Option Work)) (at : ℕ) (cs : List Course) → IsOther m t k w → course_of (actor.Task k w) (broken_task m t works at cs) ≡ course_of (actor.Task k w) cs
course_other m t k w works at cs differ = by (is_some (work_of m t works))
  where
    off : (next : Option Directive) → course_of (actor.Task k w) (broken (actor.Task m t) at next cs) ≡ course_of (actor.Task k w) cs
    off None = refl
    off (Some d) = answered_apart (actor.Task m t) (actor.Task k w) (answer_at at d (Refused ConnectionBroken)) cs (tasks_apart m t k w differ)

    by : (b : Bool) → course_of (actor.Task k w) (broken_if b (actor.Task m t) at cs) ≡ course_of (actor.Task k w) cs
    by false = refl
    by true = off (next_of (actor.Task m t) cs)

asks_stay : (m : Member) (t w : TaskNo) (works : List (Option Work)) (at : ℕ) (cs : List Course) → IsOther m t m w → AsksFor m w works cs → AsksFor m w works (broken_task m t works at cs)
asks_stay m t w works at cs differ asks_for work is =
    let old = asks_for work is in
    record { directive = old.directive; next = ap (option_and_then next_in) (course_other m t m w works at cs differ) ∙ old.next; request = old.request }

-- ---- all answers that break off

out_broken : (p : Owned) (asks_for : Option Request) → StaysOut p asks_for (Refused ConnectionBroken)
out_broken p None = tt
out_broken p (Some (request.Put words)) = tt
out_broken p (Some (request.Get queue select)) = tt
out_broken p (Some request.Commit) = tt
out_broken p (Some request.Backout) = tt

commits_broken : (u : UnitName) (asks_for : Option Request) → commits u asks_for (Refused ConnectionBroken) ≡ false
commits_broken u None = refl
commits_broken u (Some (request.Put words)) = refl
commits_broken u (Some (request.Get queue select)) = refl
commits_broken u (Some request.Commit) = refl
commits_broken u (Some request.Backout) = refl

pub gone_after : (objects : Registry) (ops : List (StructNo × Op)) (asks_for : Request) → pending_after objects ops (Some asks_for) (Refused ConnectionBroken) ≡ []
gone_after objects ops (request.Put words) = refl
gone_after objects ops (request.Get queue select) = refl
gone_after objects ops request.Commit = refl
gone_after objects ops request.Backout = refl

pub next_is : (who : Actor) (d : Directive) (cs : List Course) → next_of who cs ≡ Some d → (c : Course) × IsNextOf who d c cs
next_is who d cs next = let found = next_course who cs d next in (found.0, record { course = found.1; next = found.2 })

pub carried_broken : (objects : Registry) (h : List Item) (p : Owned) (m : Member) (t : TaskNo) (d : Directive) (at : ℕ) (cs : List Course) (asks_for : Request) → next_of (actor.Task m t) cs ≡ Some d → request_of d ≡ Some asks_for → at ≡ length h
    → IsCarried objects h p cs (answered (actor.Task m t) (answer_at at d (Refused ConnectionBroken)) cs)
carried_broken objects h p m t d at cs asks_for next request now =
    let found = next_is (actor.Task m t) d cs next in
    let a = answer_at at d (Refused ConnectionBroken) in
    carried_answer objects h p (actor.Task m t) d a found.0 cs found.1 now
    (subst (EndsAsked objects h (pending objects found.0) (asked (actor.Task m t) d) a) (sym request) tt) (out_broken p (request_of d)) (λ u. commits_broken u (request_of d))

carried_one : (objects : Registry) (h : List Item) (p : Owned) (m : Member) (t : TaskNo) (works : List (Option Work)) (at : ℕ) (cs : List Course) → at ≡ length h → AsksFor m t works cs → IsCarried objects h p cs (broken_task m t works at cs)
carried_one objects h p m t works at cs now asks_for = by (work_of m t works) refl
  where
    by : (o : Option Work) → work_of m t works ≡ o → IsCarried objects h p cs (broken_task m t works at cs)
    by None is = subst (IsCarried objects h p cs) (sym (broken_none m t works at cs is)) (carried_self objects h p cs)
    by (Some w) is =
        let off = broken_some m t works at cs w is (asks_for w is) in
        subst (IsCarried objects h p cs) (sym off.after) (carried_broken objects h p m t off.directive at cs (request_in w) off.next off.request now)

starts_broken : (k : Member) (a : Asked) → starts k a (Refused ConnectionBroken) ≡ false
starts_broken k (asks.Work m t) = refl
starts_broken k (asks.Until other n) = refl
starts_broken k (asks.Crash m pick) = refl
starts_broken k (asks.Start m) = refl
starts_broken k asks.Later = refl

pub starts_by : (k : Member) (m : Member) (t : TaskNo) (d : Directive) (at : ℕ) (cs : List Course) → next_of (actor.Task m t) cs ≡ Some d → sum_by (starts_in k) (answered (actor.Task m t) (answer_at at d (Refused ConnectionBroken)) cs) ≡ sum_by (starts_in k) cs
starts_by k m t d at cs next =
    let found = next_is (actor.Task m t) d cs next in
    let more = starts_answered k (actor.Task m t) d (answer_at at d (Refused ConnectionBroken)) found.0 cs found.1 in
    let none = ap one_if (starts_broken k (asked (actor.Task m t) d)) in
    omega (arith, more, none)

starts_one : (k m : Member) (t : TaskNo) (works : List (Option Work)) (at : ℕ) (cs : List Course) → AsksFor m t works cs → sum_by (starts_in k) (broken_task m t works at cs) ≡ sum_by (starts_in k) cs
starts_one k m t works at cs asks_for = by (work_of m t works) refl
  where
    by : (o : Option Work) → work_of m t works ≡ o → sum_by (starts_in k) (broken_task m t works at cs) ≡ sum_by (starts_in k) cs
    by None is = ap (sum_by (starts_in k)) (broken_none m t works at cs is)
    by (Some w) is = let off = broken_some m t works at cs w is (asks_for w is) in ap (sum_by (starts_in k)) off.after ∙ starts_by k m t off.directive at cs off.next

abbrev pub AllAsk : Member → List TaskNo → List (Option Work) → List Course → Type 0
AllAsk m ts works cs = (t : TaskNo) → Contains ts t → AsksFor m t works cs

pub rest_ask : (m : Member) (t : TaskNo) (ts : List TaskNo) (works : List (Option Work)) (at : ℕ) (cs : List Course) → (Contains ts t → ⊥) → AllAsk m (t ∷ ts) works cs → AllAsk m ts works (broken_task m t works at cs)
rest_ask m t ts works at cs lacks ask w has = asks_stay m t w works at cs (apart_from m t w ts lacks has) (ask w (in_tail t w ts has))

pub carried_breaks : (objects : Registry) (h : List Item) (p : Owned) (m : Member) (works : List (Option Work)) (at : ℕ) (ts : List TaskNo) (cs : List Course) → at ≡ length h → AreDistinct ts → AllAsk m ts works cs → IsCarried objects h p cs (breaks m works at ts cs)
carried_breaks objects h p m works at [] cs now distinct ask = carried_self objects h p cs
carried_breaks objects h p m works at (t ∷ ts) cs now distinct ask =
    let one = broken_task m t works at cs in
    carried_more objects h p cs one (breaks m works at ts one) (carried_one objects h p m t works at cs now (ask t (at_head t ts)))
    (carried_breaks objects h p m works at ts one now distinct.1 (rest_ask m t ts works at cs distinct.0 ask))

pub starts_breaks : (k m : Member) (works : List (Option Work)) (at : ℕ) (ts : List TaskNo) (cs : List Course) → AreDistinct ts → AllAsk m ts works cs → sum_by (starts_in k) (breaks m works at ts cs) ≡ sum_by (starts_in k) cs
starts_breaks k m works at [] cs distinct ask = refl
starts_breaks k m works at (t ∷ ts) cs distinct ask =
    starts_breaks k m works at ts (broken_task m t works at cs) distinct.1 (rest_ask m t ts works at cs distinct.0 ask) ∙ starts_one k m t works at cs (ask t (at_head t ts))

operator_other : (m : Member) (t : TaskNo) → AreApart (actor.Task m t) actor.Operator
operator_other m t (actor.Task n u) is = refl
operator_other m t actor.Operator is = absurd (true≢false (sym is))

-- the operator's stays
operator_one : (m : Member) (t : TaskNo) (works : List (Option Work)) (at : ℕ) (cs : List Course) → course_of actor.Operator (broken_task m t works at cs) ≡ course_of actor.Operator cs
operator_one m t works at cs = by (is_some (work_of m t works))
  where
    off : (next : Option Directive) → course_of actor.Operator (broken (actor.Task m t) at next cs) ≡ course_of actor.Operator cs
    off None = refl
    off (Some d) = answered_apart (actor.Task m t) actor.Operator (answer_at at d (Refused ConnectionBroken)) cs (operator_other m t)

    by : (b : Bool) → course_of actor.Operator (broken_if b (actor.Task m t) at cs) ≡ course_of actor.Operator cs
    by false = refl
    by true = off (next_of (actor.Task m t) cs)

pub operator_kept : (m : Member) (works : List (Option Work)) (at : ℕ) (ts : List TaskNo) (cs : List Course) → course_of actor.Operator (breaks m works at ts cs) ≡ course_of actor.Operator cs
operator_kept m works at [] cs = refl
operator_kept m works at (t ∷ ts) cs = operator_kept m works at ts (broken_task m t works at cs) ∙ operator_one m t works at cs

-- the course of a task without a request in progress stays
course_kept : (m : Member) (t : TaskNo) (works : List (Option Work)) (at : ℕ) (cs : List Course) (k : Member) (w : TaskNo) → (member_number k ≡ member_number m → task_number w ≡ task_number t → work_of m t works ≡ None)
    → course_of (actor.Task k w) (broken_task m t works at cs) ≡ course_of (actor.Task k w) cs
course_kept m t works at cs = by_hand (λ k w. (member_number k ≡ member_number m → task_number w ≡ task_number t → work_of m t works ≡ None) → course_of (actor.Task k w) (broken_task m t works at cs) ≡ course_of (actor.Task k w) cs) m t
    (λ none. ap (course_of (actor.Task m t)) (broken_none m t works at cs (none refl refl)))
    (λ k w differ none. course_other m t k w works at cs differ)

pub courses_kept : (m : Member) (works : List (Option Work)) (at : ℕ) (ts : List TaskNo) (cs : List Course) (k : Member) (w : TaskNo) → ((t : TaskNo) → Contains ts t → member_number k ≡ member_number m → task_number w ≡ task_number t → work_of m t works ≡ None)
    → course_of (actor.Task k w) (breaks m works at ts cs) ≡ course_of (actor.Task k w) cs
courses_kept m works at [] cs k w none = refl
courses_kept m works at (t ∷ ts) cs k w none =
    courses_kept m works at ts (broken_task m t works at cs) k w (λ x has. none x (in_tail t x ts has)) ∙ course_kept m t works at cs k w (none t (at_head t ts))

-- ---- the answer of one task

-- the request was answered 2009, and nothing is pending any more
pub record WasBrokenOff (objects : Registry) (m : Member) (t : TaskNo) (w : Work) (at : ℕ) (cs ds : List Course) : Type 0 where
  pub course : Course
  pub there : Contains ds course
  pub own : course.actor ≡ actor.Task m t
  pub before : List (Directive × Answer)
  pub directive : Directive
  pub answer : Answer
  pub behind : List (Directive × Answer)
  pub told_is : told course ≡ before ++ (directive, answer) ∷ behind
  pub request : request_of directive ≡ Some (request_in w)
  pub broken : is_broken answer.reply ≡ true
  pub now : answer.at ≡ at
  pub pending : fold (with_answered objects course.actor) [] before ≡ pending_of objects m t cs
  pub gone : pending_of objects m t ds ≡ []

course_there : (who : Actor) (cs : List Course) (c : Course) → course_of who cs ≡ Some c → Contains cs c
course_there who [] c is = absurd (none-some c is)
course_there who (x ∷ cs) c is = by (same_actor x.actor who) is (course_there who cs c)
  where
    by : (b : Bool) → cond b (Some x) (course_of who cs) ≡ Some c → (course_of who cs ≡ Some c → Contains cs c) → Contains (x ∷ cs) c
    by true same rest = subst (Contains (x ∷ cs)) (same_Some x c same) (at_head x cs)
    by false same rest = in_tail x c cs (rest same)

broken_here : (objects : Registry) (h : List Item) (p : Owned) (m : Member) (t : TaskNo) (ts : List TaskNo) (works : List (Option Work)) (at : ℕ) (cs : List Course) (w : Work) → at ≡ length h → AreDistinct (t ∷ ts) → AllAsk m (t ∷ ts) works cs → work_of m t works ≡ Some w
    → WasBrokenOff objects m t w at cs (breaks m works at (t ∷ ts) cs)
broken_here objects h p m t ts works at cs w now distinct ask is =
    let who = actor.Task m t in
    let one = broken_task m t works at cs in
    let ds = breaks m works at ts one in
    let off = broken_some m t works at cs w is (ask t (at_head t ts) w is) in
    let found = next_is who off.directive cs off.next in
    let c = found.0 in
    let a = answer_at at off.directive (Refused ConnectionBroken) in
    let here : course_of who one ≡ Some (with_answer a c) = ap (course_of who) off.after ∙ answered_own who a cs c found.1.course in
    let grown = (carried_breaks objects h p m works at ts one now distinct.1 (rest_ask m t ts works at cs distinct.0 ask)).grown (with_answer a c) (course_there who one (with_answer a c) here) in
    let is_own = course_is who cs c found.1.course in
    record {
      course = grown.course;
      there = grown.there;
      own = grown.actor ∙ is_own;
      before = told c;
      directive = off.directive;
      answer = a;
      behind = grown.more;
      told_is = grown.told_is ∙ ap (λ (l : List (Directive × Answer)). l ++ grown.more) (told_more c off.directive a found.1.next) ∙ append_assoc (told c) ((off.directive, a) ∷ []) grown.more;
      request = off.request;
      broken = refl;
      now = refl;
      pending = ap (λ (x : Actor). fold (with_answered objects x) [] (told c)) grown.actor ∙ sym (ap (pending_in objects) found.1.course);
      gone =
          ap (pending_in objects) (courses_kept m works at ts one m t (λ x has e f. absurd (apart_from m t x ts distinct.0 has refl (sym f))))
          ∙ ap (pending_of objects m t) off.after ∙ own_pending objects m t off.directive a c cs found.1
          ∙ ap (λ (x : Option Request). pending_after objects (pending_of objects m t cs) x (Refused ConnectionBroken)) off.request ∙ gone_after objects (pending_of objects m t cs) (request_in w);
    }

pub broken_in : (objects : Registry) (h : List Item) (p : Owned) (m : Member) (t : TaskNo) (ts : List TaskNo) (works : List (Option Work)) (at : ℕ) (cs : List Course) (w : Work) → at ≡ length h → AreDistinct ts → AllAsk m ts works cs → Contains ts t → work_of m t works ≡ Some w
    → WasBrokenOff objects m t w at cs (breaks m works at ts cs)
broken_in objects h p m t [] works at cs w now distinct ask has is = absurd (none_in_empty t has)
broken_in objects h p m t (x ∷ ts) works at cs w now distinct ask has is = elim (head_or_tail x t ts has) [
  | inl same ↦ subst (λ (y : TaskNo). work_of m y works ≡ Some w → WasBrokenOff objects m y w at cs (breaks m works at (x ∷ ts) cs)) same (λ here. broken_here objects h p m x ts works at cs w now distinct ask here) is
  | inr later ↦
      let one = broken_task m x works at cs in
      let rest = broken_in objects h p m t ts works at one w now distinct.1 (rest_ask m x ts works at cs distinct.0 ask) later is in
      let kept : pending_of objects m t one ≡ pending_of objects m t cs = ap (pending_in objects) (course_other m x m t works at cs (apart_from m x t ts distinct.0 later)) in
      record {
        course = rest.course;
        there = rest.there;
        own = rest.own;
        before = rest.before;
        directive = rest.directive;
        answer = rest.answer;
        behind = rest.behind;
        told_is = rest.told_is;
        request = rest.request;
        broken = rest.broken;
        now = rest.now;
        pending = rest.pending ∙ kept;
        gone = rest.gone;
      }
]

-- ---- works

abbrev pub drops : Member → List TaskNo → List (Option Work) → List (Option Work)
drops m [] works = works
drops m (t ∷ ts) works = drops m ts (with_work m t None works)

drops_long : (m : Member) (t : TaskNo) (works : List (Option Work)) → length works ≡ 40 → length (with_work m t None works) ≡ 40
drops_long m t works forty = length-set works (place m t) None ∙ forty

none_stays : (m : Member) (ts : List TaskNo) (works : List (Option Work)) (w : TaskNo) → length works ≡ 40 → work_of m w works ≡ None → work_of m w (drops m ts works) ≡ None
none_stays m [] works w forty none = none
none_stays m (t ∷ ts) works w forty none = none_stays m ts (with_work m t None works) w (drops_long m t works forty)
    (elim (cases_task w t) [ inl same ↦ subst (λ (x : TaskNo). work_of m x (with_work m t None works) ≡ None) (sym same) (work_same m t None works forty) | inr differ ↦ work_other m t None works m w (λ e f. differ f) ∙ none ])

pub drops_gone : (m : Member) (ts : List TaskNo) (works : List (Option Work)) (w : TaskNo) → length works ≡ 40 → Contains ts w → work_of m w (drops m ts works) ≡ None
drops_gone m [] works w forty has = absurd (none_in_empty w has)
drops_gone m (t ∷ ts) works w forty has = elim (head_or_tail t w ts has) [
  | inl same ↦ none_stays m ts (with_work m t None works) w (drops_long m t works forty) (subst (λ (x : TaskNo). work_of m x (with_work m t None works) ≡ None) same (work_same m t None works forty))
  | inr later ↦ drops_gone m ts (with_work m t None works) w (drops_long m t works forty) later
]

pub drops_kept : (m : Member) (ts : List TaskNo) (works : List (Option Work)) (k : Member) (w : TaskNo) → ((t : TaskNo) → Contains ts t → IsOther m t k w) → work_of k w (drops m ts works) ≡ work_of k w works
drops_kept m [] works k w differ = refl
drops_kept m (t ∷ ts) works k w differ = drops_kept m ts (with_work m t None works) k w (λ x has. differ x (in_tail t x ts has)) ∙ work_other m t None works k w (differ t (at_head t ts))

-- how many COMMITs in hand have the unit
abbrev pub hits : UnitName → Member → List TaskNo → List (Option Work) → ℕ
hits u m [] works = 0
hits u m (t ∷ ts) works = one_if (commits_now u (work_of m t works)) + hits u m ts works

abbrev pub is_hit : UnitName → Member → List TaskNo → List (Option Work) → Bool
is_hit u m [] works = false
is_hit u m (t ∷ ts) works = commits_now u (work_of m t works) || is_hit u m ts works

hits_kept : (u : UnitName) (m : Member) (t : TaskNo) (ts : List TaskNo) (works : List (Option Work)) → (Contains ts t → ⊥) → hits u m ts (with_work m t None works) ≡ hits u m ts works
hits_kept u m t [] works lacks = refl
hits_kept u m t (w ∷ ts) works lacks =
    let one = ap (λ (o : Option Work). one_if (commits_now u o)) (work_other m t None works m w (λ e f. apart_from m t w (w ∷ ts) lacks (at_head w ts) e f)) in
    let rest = hits_kept u m t ts works (λ has. lacks (in_tail w t ts has)) in
    omega (arith, one, rest)

pub counted_drops : (u : UnitName) (m : Member) (ts : List TaskNo) (works : List (Option Work)) → length works ≡ 40 → AreDistinct ts → count_by (commits_now u) (drops m ts works) + hits u m ts works ≡ count_by (commits_now u) works
counted_drops u m [] works forty distinct = omega arith
counted_drops u m (t ∷ ts) works forty distinct =
    let rest = counted_drops u m ts (with_work m t None works) (drops_long m t works forty) distinct.1 in
    let kept = hits_kept u m t ts works distinct.0 in
    let one = counted_with (commits_now u) m t None works forty in
    omega (arith, rest, kept, one)

pub or_one : (a b : Bool) → one_if a + one_if b ≤ 1 → one_if (a || b) ≡ one_if a + one_if b
or_one true true most = absurd (omega (arith, most))
or_one true false most = refl
or_one false b most = omega arith

pub one_hit : (u : UnitName) (m : Member) (ts : List TaskNo) (works : List (Option Work)) → hits u m ts works ≤ 1 → one_if (is_hit u m ts works) ≡ hits u m ts works
one_hit u m [] works most = refl
one_hit u m (t ∷ ts) works most =
    let rest = one_hit u m ts works (omega (arith, most)) in
    or_one (commits_now u (work_of m t works)) (is_hit u m ts works) (omega (arith, rest, most)) ∙ ap (λ (n : ℕ). one_if (commits_now u (work_of m t works)) + n) rest

-- the task whose COMMIT has it
pub hit_at : (u : UnitName) (m : Member) (ts : List TaskNo) (works : List (Option Work)) → is_hit u m ts works ≡ true → (t : TaskNo) × Contains ts t × (commits_now u (work_of m t works) ≡ true)
hit_at u m [] works hit = absurd (true≢false (sym hit))
hit_at u m (t ∷ ts) works hit = by (commits_now u (work_of m t works)) refl hit (hit_at u m ts works)
  where
    by : (b : Bool) → commits_now u (work_of m t works) ≡ b → (b || is_hit u m ts works) ≡ true → (is_hit u m ts works ≡ true → (x : TaskNo) × Contains ts x × (commits_now u (work_of m x works) ≡ true)) → (x : TaskNo) × Contains (t ∷ ts) x × (commits_now u (work_of m x works) ≡ true)
    by true is any rest = (t, at_head t ts, is)
    by false is any rest = let found = rest any in (found.0, in_tail t found.0 ts found.1, found.2)

pub hit_there : (u : UnitName) (m : Member) (ts : List TaskNo) (works : List (Option Work)) (t : TaskNo) → Contains ts t → commits_now u (work_of m t works) ≡ true → is_hit u m ts works ≡ true
hit_there u m [] works t has now = absurd (none_in_empty t has)
hit_there u m (w ∷ ts) works t has now = elim (head_or_tail w t ts has) [
  | inl same ↦ ap (λ b. b || is_hit u m ts works) (ap (λ (x : TaskNo). commits_now u (work_of m x works)) same ∙ now)
  | inr later ↦ or_true (commits_now u (work_of m w works)) (is_hit u m ts works) (hit_there u m ts works t later now)
]
  where
    or_true : (a b : Bool) → b ≡ true → (a || b) ≡ true
    or_true true b is = refl
    or_true false b is = is

-- ---- dues

abbrev pub dues : Member → List (Option Work) → Owned → List TaskNo → List Bool → List Bool
dues m works p [] due = due
dues m works p (t ∷ ts) due = dues m works p ts (due_task m t works p due)

pub due_same : (m : Member) (t : TaskNo) (is : Bool) (due : List Bool) → length due ≡ 40 → is_due m t (with_due m t is due) ≡ is
due_same m t is due forty = get_or-set_same due (place m t) is false (omega (arith, place_few m t, forty))

pub due_other : (m : Member) (t : TaskNo) (is : Bool) (due : List Bool) (k : Member) (w : TaskNo) → IsOther m t k w → is_due k w (with_due m t is due) ≡ is_due k w due
due_other m t is due k w differ =
    get_or-set_other due (place m t) (place k w) is false
    (places_differ (member_number m) (task_number t) (member_number k) (task_number w) (member_some m) (member_some k) (task_few t) (task_few w) differ)

due_long : (m : Member) (t : TaskNo) (works : List (Option Work)) (p : Owned) (due : List Bool) → length due ≡ 40 → length (due_task m t works p due) ≡ 40
due_long m t works p due forty = by (loses_unit m t works p)
  where
    by : (b : Bool) → length (cond b (with_due m t true due) due) ≡ 40
    by true = length-set due (place m t) true ∙ forty
    by false = forty

due_kept : (m : Member) (t : TaskNo) (works : List (Option Work)) (p : Owned) (due : List Bool) (k : Member) (w : TaskNo) → (member_number k ≡ member_number m → task_number w ≡ task_number t → loses_unit m t works p ≡ false) → is_due k w (due_task m t works p due) ≡ is_due k w due
due_kept m t works p due = by_hand (λ k w. (member_number k ≡ member_number m → task_number w ≡ task_number t → loses_unit m t works p ≡ false) → is_due k w (due_task m t works p due) ≡ is_due k w due) m t
    (λ none. ap (λ (b : Bool). is_due m t (cond b (with_due m t true due) due)) (none refl refl))
    (λ k w differ none. by (loses_unit m t works p) k w differ)
  where
    by : (b : Bool) (k : Member) (w : TaskNo) → IsOther m t k w → is_due k w (cond b (with_due m t true due) due) ≡ is_due k w due
    by true k w differ = due_other m t true due k w differ
    by false k w differ = refl

pub dues_kept : (m : Member) (works : List (Option Work)) (p : Owned) (ts : List TaskNo) (due : List Bool) (k : Member) (w : TaskNo) → ((t : TaskNo) → Contains ts t → member_number k ≡ member_number m → task_number w ≡ task_number t → loses_unit m t works p ≡ false)
    → is_due k w (dues m works p ts due) ≡ is_due k w due
dues_kept m works p [] due k w none = refl
dues_kept m works p (t ∷ ts) due k w none = dues_kept m works p ts (due_task m t works p due) k w (λ x has. none x (in_tail t x ts has)) ∙ due_kept m t works p due k w (none t (at_head t ts))

due_stays : (m : Member) (works : List (Option Work)) (p : Owned) (ts : List TaskNo) (due : List Bool) (w : TaskNo) → length due ≡ 40 → is_due m w due ≡ true → is_due m w (dues m works p ts due) ≡ true
due_stays m works p [] due w forty is = is
due_stays m works p (t ∷ ts) due w forty is = due_stays m works p ts (due_task m t works p due) w (due_long m t works p due forty) (by (loses_unit m t works p))
  where
    by : (b : Bool) → is_due m w (cond b (with_due m t true due) due) ≡ true
    by true = elim (cases_task w t) [ inl same ↦ subst (λ (x : TaskNo). is_due m x (with_due m t true due) ≡ true) (sym same) (due_same m t true due forty) | inr differ ↦ due_other m t true due m w (λ e f. differ f) ∙ is ]
    by false = is

pub dues_set : (m : Member) (works : List (Option Work)) (p : Owned) (ts : List TaskNo) (due : List Bool) (w : TaskNo) → length due ≡ 40 → Contains ts w → loses_unit m w works p ≡ true → is_due m w (dues m works p ts due) ≡ true
dues_set m works p [] due w forty has loses = absurd (none_in_empty w has)
dues_set m works p (t ∷ ts) due w forty has loses = elim (head_or_tail t w ts has) [
  | inl same ↦ due_stays m works p ts (due_task m t works p due) w (due_long m t works p due forty)
      (subst (λ (x : TaskNo). loses_unit m x works p ≡ true → is_due m x (due_task m t works p due) ≡ true) same (λ is. ap (λ (b : Bool). is_due m t (cond b (with_due m t true due) due)) is ∙ due_same m t true due forty) loses)
  | inr later ↦ dues_set m works p ts (due_task m t works p due) w (due_long m t works p due forty) later loses
]
