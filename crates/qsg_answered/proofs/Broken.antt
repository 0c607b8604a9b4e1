-- each end of a member is told once to each of its tasks that is at work
use Rattle.std.proofs.Common.{◌≡◌, ℕ, ◌+◌, ◌≤◌, List, [], ◌∷◌, ◌++◌, length, Bool, true, false, cond, Option, Some, None, Result, Ok, Err, ◌⊎◌, inl, inr, refl, sym, ap, subst, ◌∙◌, arith}
use Rattle.std.specs.Prelude.{Contains, is_some, not, ◌&&◌, ◌||◌}
use Rattle.std.proofs.lemmas.List.Sums.{sum_by-append, sum_by-cons}
use Rattle.std.proofs.lemmas.Option.{none-some}
use Rattle.qsg_num.specs.declared.seats.Member.{Member}
use Rattle.qsg_num.specs.declared.seats.TaskNo.{TaskNo}
use Rattle.qsg_num.specs.declared.ids.Actor.{Actor}
use Rattle.qsg_num.specs.declared.ids.Actor.TheVariants as actor
use Rattle.qsg_num.specs.declared.ids.UnitName.{UnitName}
use Rattle.qsg_num.specs.Seats.{member_number, task_number}
use Rattle.qsg_model.specs.declared.history.Item.{Item}
use Rattle.qsg_model.proofs.Differing.{at_head, head_or_tail, none_in_empty}
use Rattle.qsg_objects.specs.declared.directives.Directive.{Directive}
use Rattle.qsg_repo.specs.Calls.{next_incarnation}
use Rattle.qsg_requests.specs.declared.replies.Cause.{Cause}
use Rattle.qsg_requests.specs.declared.replies.Reason.TheVariants as reason
use Rattle.qsg_requests.specs.declared.replies.Reply.{Reply}
use Rattle.qsg_requests.specs.declared.replies.Reply.TheVariants as reply
use Rattle.qsg_requests.specs.declared.replies.Turn.{Turn}
use Rattle.qsg_requests.specs.declared.replies.Turn.TheVariants as turn
use Rattle.qsg_requests.specs.declared.transcript.Answer.{Answer}
use Rattle.qsg_agenda.specs.Courses.{Course, same_actor, course_of, answers_in, answers_of, next_of, with_answer as with_one, answered}
use Rattle.qsg_group.proofs.Tables.{cases_member, cases_task}
use Rattle.qsg_manager.specs.declared.managers.Manager.{Manager}
use Rattle.qsg_manager.specs.Storage.{manager_in, task_at}
use Rattle.qsg_logs.specs.Kept.{KeptLog, log_in}
use Rattle.qsg_datasets.specs.Kept.{KeptSet, sets_of}
use Rattle.qsg_parts.specs.Owned.{Owned}
use Rattle.qsg_steady.specs.Steady.{IsLawful}
use Rattle.qsg_commit.specs.declared.phases.StepError.{StepError}
use Rattle.qsg_commit.specs.declared.phases.StepError.TheVariants.{NoMemory, LogFailed}
use Rattle.qsg_works.specs.declared.work.Work.{Work}
use Rattle.qsg_works.specs.InHand.{work_of}
use Rattle.qsg_works.specs.Steps.{NextWork}
use Rattle.qsg_crash.specs.Crashes.{committed_by}
use Rattle.qsg_peers.specs.Peers.{with_peer}
use Rattle.qsg_start.specs.declared.phases.StartTurn.{StartTurn}
use Rattle.qsg_start.specs.declared.phases.StartTurn.TheVariants.{More, Up, Started, Fault}
use Rattle.qsg_start.specs.Works.{Work as StartWork}
use Rattle.qsg_step.specs.declared.asked.Asked.{Asked}
use Rattle.qsg_step.specs.declared.asked.Asked.TheVariants as asks
use Rattle.qsg_step.specs.declared.step.Step.{Step}
use Rattle.qsg_step.specs.Asking.{asked, IsOwn}
use Rattle.qsg_step.specs.States.{State, is_due, is_up, is_member_up}
use Rattle.qsg_step.specs.Ends.{answer_at, loses_unit, has_unit, broken_task, IsEnd}
use Rattle.qsg_step.specs.Steps.{answer_to, with_answer, with_hand, work_before, told_so, IsAfter, WorkSteps, RequestSteps, CrashSteps, start_reply, start_before, started_as, IsStartStep, peer_before, peer_work_before, tallied, SystemSteps, StepAsked, StepUnless, StepAt, StepAs, IsStep}
use Rattle.qsg_step.specs.Waiting.{cause_of, has_work, system_of}
use Rattle.qsg_sound.specs.Sound.{IsSound}
use Rattle.qsg_sound.proofs.Asking.{asked_own, up_unless, up_within, not_system}
use Rattle.qsg_sound.proofs.Hands.{by_hand}
use Rattle.qsg_answered.specs.Telling.{is_broken, pending_of}
use Rattle.qsg_answered.specs.Broken.{broken_in, has_ended, is_at_work, IsToldOnce}
use Rattle.qsg_answered.specs.Fits.{AreFitting}
use Rattle.qsg_answered.proofs.Breaking.{next_is, four, four_distinct, in_four, AllAsk, rest_ask, breaks, broken_some, course_other, courses_kept, apart_from, AreDistinct, dues, dues_kept, dues_set, due_same, due_other}
use Rattle.qsg_answered.proofs.Courses.{answered_own, answered_apart}
use Rattle.qsg_answered.proofs.Ends.{after_end, all_ask, end_is, lost_if, some_ops, due_is_idle}
use Rattle.qsg_answered.proofs.Outcomes.{one_if}
use Rattle.qsg_answered.proofs.Starting.{start_moved, StartMoves, started_all}
use Rattle.qsg_answered.proofs.Steps.{moves_there, held_now, in_hand, same_but_logs}
use Rattle.qsg_answered.proofs.Systems.{peer_moved, peer_managers}
use Rattle.qsg_answered.proofs.Taking.{IsTaken, taken_is}
use Rattle.qsg_answered.proofs.Working.{failed_is}
use Rattle.qsg_lives.proofs.Downing.{down_here, down_other}
use Rattle.qsg_sound.proofs.Answering.{tasks_apart}

-- ---- answers

broken_push : (answers : List Answer) (a : Answer) → broken_in (answers ++ a ∷ []) ≡ broken_in answers + one_if (is_broken a.reply)
broken_push answers a =
    let f : Answer → ℕ = λ x. cond (is_broken x.reply) 1 0 in
    sum_by-append f answers (a ∷ []) ∙ ap (λ (n : ℕ). broken_in answers + n) (sum_by-cons f a [] ∙ plus_none (f a))
  where
    plus_none : (n : ℕ) → n + 0 ≡ n
    plus_none n = omega arith

-- an answer that is no 2009 leaves how many there are
whole_answered : (who other : Actor) (a : Answer) (cs : List Course) → is_broken a.reply ≡ false → broken_in (answers_of other (answered who a cs)) ≡ broken_in (answers_of other cs)
whole_answered who other a [] whole = refl
whole_answered who other a (c ∷ cs) whole = by (same_actor c.actor who) (whole_answered who other a cs whole)
  where
    own : (b : Bool) → broken_in (answers_in (cond b (Some (with_one a c)) (course_of other cs))) ≡ broken_in (answers_in (cond b (Some c) (course_of other cs)))
    own true = let more = broken_push c.answers a in let none = ap one_if whole in omega (arith, more, none)
    own false = refl

    rest : (b : Bool) → broken_in (answers_of other (answered who a cs)) ≡ broken_in (answers_of other cs) → broken_in (answers_in (cond b (Some c) (course_of other (answered who a cs)))) ≡ broken_in (answers_in (cond b (Some c) (course_of other cs)))
    rest true same = refl
    rest false same = same

    by : (b : Bool) → broken_in (answers_of other (answered who a cs)) ≡ broken_in (answers_of other cs) → broken_in (answers_of other (cond b (with_one a c ∷ cs) (c ∷ answered who a cs))) ≡ broken_in (answers_of other (c ∷ cs))
    by true same = own (same_actor c.actor other)
    by false same = rest (same_actor c.actor other) same

-- a 2009 is one more
broken_answered : (who : Actor) (d : Directive) (a : Answer) (cs : List Course) → next_of who cs ≡ Some d → is_broken a.reply ≡ true → broken_in (answers_of who (answered who a cs)) ≡ broken_in (answers_of who cs) + 1
broken_answered who d a cs next broken =
    let found = next_is who d cs next in
    let more = broken_push found.0.answers a in
    let one = ap one_if broken in
    ap (λ (o : Option Course). broken_in (answers_in o)) (answered_own who a cs found.0 found.1.course) ∙ more ∙ (λ i. broken_in (answers_in (sym found.1.course i)) + one i)

-- ---- where nothing of it changes

untold : (m : Member) (t : TaskNo) (s r : State) → broken_in (answers_of (actor.Task m t) r.courses) ≡ broken_in (answers_of (actor.Task m t) s.courses) → is_due m t r.due ≡ is_due m t s.due → (is_member_up m s ≡ true → is_member_up m r ≡ true) → IsToldOnce m t s r
untold m t s r same due up =
    let none : one_if (has_ended m s r && is_at_work m t s) ≡ 0 = by (is_member_up m s) refl in
    let dues = ap one_if due in
    omega (arith, same, dues, none)
  where
    by : (b : Bool) → is_member_up m s ≡ b → one_if ((b && not (is_member_up m r)) && is_at_work m t s) ≡ 0
    by false is = refl
    by true is = ap (λ (c : Bool). one_if (not c && is_at_work m t s)) (up is)

same_told : (m : Member) (t : TaskNo) (s r : State) → r ≡ s → IsToldOnce m t s r
same_told m t s r same = subst (IsToldOnce m t s) (sym same) (untold m t s s refl refl (λ up. up))

-- ---- the end of a member

broken_off_one : (m : Member) (t : TaskNo) (ts : List TaskNo) (works : List (Option Work)) (at : ℕ) (cs : List Course) (w : Work) → AreDistinct ts → AllAsk m ts works cs → Contains ts t → work_of m t works ≡ Some w
    → broken_in (answers_of (actor.Task m t) (breaks m works at ts cs)) ≡ broken_in (answers_of (actor.Task m t) cs) + 1
broken_off_one m t [] works at cs w distinct ask has is = absurd (none_in_empty t has)
broken_off_one m t (x ∷ ts) works at cs w distinct ask has is = elim (head_or_tail x t ts has) [
  | inl same ↦ subst (λ (y : TaskNo). work_of m y works ≡ Some w → broken_in (answers_of (actor.Task m y) (breaks m works at (x ∷ ts) cs)) ≡ broken_in (answers_of (actor.Task m y) cs) + 1) same
      (λ here.
      let off = broken_some m x works at cs w here (ask x (at_head x ts) w here) in
      ap (λ (o : Option Course). broken_in (answers_in o)) (courses_kept m works at ts (broken_task m x works at cs) m x (λ y there e f. absurd (apart_from m x y ts distinct.0 there refl (sym f))))
      ∙ ap (λ (l : List Course). broken_in (answers_of (actor.Task m x) l)) off.after ∙ broken_answered (actor.Task m x) off.directive (answer_at at off.directive (reply.Refused reason.ConnectionBroken)) cs off.next refl) is
  | inr later ↦
      let one = broken_task m x works at cs in
      broken_off_one m t ts works at one w distinct.1 (rest_ask m x ts works at cs distinct.0 ask) later is
      ∙ ap (λ (o : Option Course). broken_in (answers_in o) + 1) (course_other m x m t works at cs (apart_from m x t ts distinct.0 later))
]

same_of : (x y : TaskNo) → task_number y ≡ task_number x → y ≡ x
same_of x y e = elim (cases_task y x) [ inl same ↦ same | inr differ ↦ absurd (differ e) ]

-- a task of the member that ends
own_told : (m : Member) (log : KeptLog) (row : List KeptSet) (units : List Item) (room : ℕ) (ls : List KeptLog) (s : State) (cs : List Course) (t : TaskNo) → IsSound s → AreFitting s → member_number m ≤ length s.parts.managers → (manager_in m s.parts.managers).up ≡ true → Contains four t
    → broken_in (answers_of (actor.Task m t) cs) ≡ broken_in (answers_of (actor.Task m t) (breaks m s.works (length s.parts.history.items) four s.courses)) → IsToldOnce m t s (record (after_end m log row units room ls s) { courses = cs })
own_told m log row units room ls s cs t sound fits within up has same = by (work_of m t s.works) refl
  where
    p : Owned
    p = record s.parts { logs = ls }

    at : ℕ
    at = length s.parts.history.items

    r : State
    r = record (after_end m log row units room ls s) { courses = cs }

    ends : has_ended m s r ≡ true
    ends = λ i. up i && not (ap (λ (x : Manager). x.up) (down_here m s.parts.managers within) i)

    kept_due : loses_unit m t s.works p ≡ false → is_due m t (dues m s.works p four s.due) ≡ is_due m t s.due
    kept_due none = dues_kept m s.works p four s.due m t (λ x there e f. ap (λ (y : TaskNo). loses_unit m y s.works p) (sym (same_of x t f)) ∙ none)

    kept_course : work_of m t s.works ≡ None → course_of (actor.Task m t) (breaks m s.works at four s.courses) ≡ course_of (actor.Task m t) s.courses
    kept_course none = courses_kept m s.works at four s.courses m t (λ x there e f. ap (λ (y : TaskNo). work_of m y s.works) (sym (same_of x t f)) ∙ none)

    more : (b : Bool) → is_at_work m t s ≡ b → one_if (has_ended m s r && is_at_work m t s) ≡ one_if b
    more b is = ap one_if (λ i. ends i && is i)

    by : (o : Option Work) → work_of m t s.works ≡ o → IsToldOnce m t s r
    by (Some w) busy =
        let off = broken_off_one m t four s.works at s.courses w four_distinct (all_ask m s sound) has busy in
        let due = ap one_if (kept_due (lost_if m t s.works p (Some w) busy)) in
        let one = more true (ap (λ (o : Option Work). is_some o || has_unit (task_at m t s.parts.managers)) busy) in
        omega (arith, same, off, due, one)
    by None free = held (has_unit (task_at m t s.parts.managers)) refl
      where
        work : (b : Bool) → has_unit (task_at m t s.parts.managers) ≡ b → is_at_work m t s ≡ b
        work b is = ap (λ (o : Option Work). is_some o || has_unit (task_at m t s.parts.managers)) free ∙ is

        held : (b : Bool) → has_unit (task_at m t s.parts.managers) ≡ b → IsToldOnce m t s r
        held true is =
            let own = some_ops (task_at m t s.parts.managers) is in
            let before : is_due m t s.due ≡ false = not_yet (is_due m t s.due) refl own.1.0 own.1.1 in
            let now = ap one_if (dues_set m s.works p four s.due t sound.dues has (lost_if m t s.works p None free ∙ is)) in
            let was = ap one_if before in
            let course = ap (λ (o : Option Course). broken_in (answers_in o)) (kept_course free) in
            let one = more true (work true is) in
            omega (arith, same, course, now, was, one)
          where
            not_yet : (b : Bool) → is_due m t s.due ≡ b → (u : UnitName) → (task_at m t s.parts.managers).unit ≡ Some u → b ≡ false
            not_yet false due u holds = refl
            not_yet true due u holds = absurd (none-some u (sym (due_is_idle m t s fits due).1 ∙ holds))
        held false is =
            let due = ap one_if (kept_due (lost_if m t s.works p None free ∙ is)) in
            let course = ap (λ (o : Option Course). broken_in (answers_in o)) (kept_course free) in
            let none = more false (work false is) in
            omega (arith, same, course, due, none)

end_told : (m : Member) (log : KeptLog) (row : List KeptSet) (units : List Item) (room : ℕ) (ls : List KeptLog) (s : State) (cs : List Course) (k : Member) (w : TaskNo) → IsSound s → AreFitting s → member_number m ≤ length s.parts.managers → (manager_in m s.parts.managers).up ≡ true → Contains four w
    → broken_in (answers_of (actor.Task k w) cs) ≡ broken_in (answers_of (actor.Task k w) (breaks m s.works (length s.parts.history.items) four s.courses)) → IsToldOnce k w s (record (after_end m log row units room ls s) { courses = cs })
end_told m log row units room ls s cs k w sound fits within up has same = by (cases_member m k)
  where
    by : (m ≡ k) ⊎ (member_number m ≡ member_number k → ⊥) → IsToldOnce k w s (record (after_end m log row units room ls s) { courses = cs })
    by (inl is) =
        subst (λ (x : Member). broken_in (answers_of (actor.Task x w) cs) ≡ broken_in (answers_of (actor.Task x w) (breaks m s.works (length s.parts.history.items) four s.courses)) → IsToldOnce x w s (record (after_end m log row units room ls s) { courses = cs })) is
        (λ here. own_told m log row units room ls s cs w sound fits within up has here) same
    by (inr differ) =
        untold k w s (record (after_end m log row units room ls s) { courses = cs })
        (same ∙ ap (λ (o : Option Course). broken_in (answers_in o)) (courses_kept m s.works (length s.parts.history.items) four s.courses k w (λ x there e f. absurd (differ (sym e)))))
        (dues_kept m s.works (record s.parts { logs = ls }) four s.due k w (λ x there e f. absurd (differ (sym e))))
        (λ was. ap (λ (x : Manager). x.up) (down_other m k s.parts.managers (λ e. differ (sym e))) ∙ was)

ended_told : (m : Member) (ls : List KeptLog) (s r : State) (k : Member) (w : TaskNo) → IsSound s → AreFitting s → (manager_in m s.parts.managers).up ≡ true → Contains four w → IsEnd m (record s { parts = record s.parts { logs = ls } }) r → IsToldOnce k w s r
ended_told m ls s r k w sound fits up has end =
    subst (IsToldOnce k w s) (sym (end_is m ls s r end))
    (end_told m (log_in m r.parts.logs) (sets_of m r.parts.datasets) (committed_by end.crash.left m (record s.parts { logs = ls })) r.parts.history.room ls s (breaks m s.works (length s.parts.history.items) four s.courses) k w sound fits (up_within m s up) up has refl)

-- ---- each step

work_told : (m : Member) (t : TaskNo) (d : Directive) (before work : Work) (result : Result Turn StepError) (q : Owned) (s : State) (step : Step) (r : State) (k : Member) (w : TaskNo) → IsSound s → IsLawful s.parts → AreFitting s → (manager_in m s.parts.managers).up ≡ true → Contains four w
    → work_before m t d s ≡ Some before → IsTaken m t d (pending_of s.parts.objects m t s.courses) before s → NextWork before s.parts result work q → IsAfter m t d result work q s step r → IsToldOnce k w s r
work_told m t d before work (Ok turn.More) q s step r k w sound l fits up has is taken made after =
    let moves = moves_there m t d before work q turn.More s sound l fits taken made in
    subst (IsToldOnce k w s) (sym after.1) (untold k w s (with_hand m t (Some work) q s) refl refl (λ was. (moves.move.frame.grows k).up ∙ was))
work_told m t d before work (Ok (turn.Ended said)) q s step r k w sound l fits up has is taken made after =
    let moves = moves_there m t d before work q (turn.Ended said) s sound l fits taken made in
    subst (IsToldOnce k w s) (sym after.1)
    (untold k w s (with_hand m t None q (with_answer (actor.Task m t) d said s)) (whole_answered (actor.Task m t) (actor.Task k w) (answer_to d said s) s.courses moves.whole) refl (λ was. (moves.move.frame.grows k).up ∙ was))
work_told m t d before work (Ok (turn.Waits cause)) q s step r k w sound l fits up has is taken made after = same_told k w s r after.1
work_told m t d before work (Err LogFailed) q s step r k w sound l fits up has is taken made after =
    let failed = failed_is s.parts q before work made in
    ended_told m failed.logs s r k w sound fits up has (subst (λ (x : State). IsEnd m x r) (same_but_logs m t before work q s failed (in_hand m t d before s is failed.begun)) after.1)
work_told m t d before work (Err NoMemory) q s step r k w sound l fits up has is taken made after = absurd after

works_told : (s r : State) (m : Member) (t : TaskNo) (d : Directive) (step : Step) (k : Member) (w : TaskNo) → IsSound s → IsLawful s.parts → AreFitting s → is_due m t s.due ≡ false → next_of (actor.Task m t) s.courses ≡ Some d → (manager_in m s.parts.managers).up ≡ true → Contains four w
    → WorkSteps m t d (work_before m t d s) s step r → IsToldOnce k w s r
works_told s r m t d step k w sound l fits free next up has steps = by (work_before m t d s) refl steps
  where
    by : (before : Option Work) → work_before m t d s ≡ before → WorkSteps m t d before s step r → IsToldOnce k w s r
    by None given made = absurd made
    by (Some before) given made =
        work_told m t d before made.work made.result made.parts s step r k w sound l fits up has given (taken_is m t d (pending_of s.parts.objects m t s.courses) before s sound (up_within m s up) next (held_now m t s fits free) given) made.next made.after

-- the 2009 that was due is answered
so_told : (m : Member) (t : TaskNo) (d : Directive) (s : State) (k : Member) (w : TaskNo) → IsSound s → is_due m t s.due ≡ true → next_of (actor.Task m t) s.courses ≡ Some d → IsToldOnce k w s (told_so m t d s)
so_told m t d s k w sound due next = by_hand (λ x y. IsToldOnce x y s (told_so m t d s)) m t
    (let one = broken_answered (actor.Task m t) d (answer_to d (reply.Refused reason.ConnectionBroken) s) s.courses next refl in
    let was = ap one_if due in
    let now = ap one_if (due_same m t false s.due sound.dues) in
    let none = unended m t (is_member_up m s) in
    omega (arith, one, was, now, none))
    (λ x y differ. untold x y s (told_so m t d s) (ap (λ (o : Option Course). broken_in (answers_in o)) (answered_apart (actor.Task m t) (actor.Task x y) (answer_to d (reply.Refused reason.ConnectionBroken) s) s.courses (tasks_apart m t x y differ)))
    (due_other m t false s.due x y differ) (λ was. was)) k w
  where
    unended : (x : Member) (y : TaskNo) (b : Bool) → one_if ((b && not b) && is_at_work x y s) ≡ 0
    unended x y true = refl
    unended x y false = refl

requests_told : (s r : State) (m : Member) (t : TaskNo) (d : Directive) (step : Step) (k : Member) (w : TaskNo) → IsSound s → IsLawful s.parts → AreFitting s → next_of (actor.Task m t) s.courses ≡ Some d → (manager_in m s.parts.managers).up ≡ true → Contains four w
    → RequestSteps (is_due m t s.due) m t d s step r → IsToldOnce k w s r
requests_told s r m t d step k w sound l fits next up has steps = by (is_due m t s.due) refl steps
  where
    by : (b : Bool) → is_due m t s.due ≡ b → RequestSteps b m t d s step r → IsToldOnce k w s r
    by false free made = works_told s r m t d step k w sound l fits free next up has made
    by true due made = subst (IsToldOnce k w s) (sym made.1) (so_told m t d s k w sound due next)

-- another answer
said_told : (who : Actor) (d : Directive) (said : Reply) (s r : State) (k : Member) (w : TaskNo) → is_broken said ≡ false → r ≡ with_answer who d said s → IsToldOnce k w s r
said_told who d said s r k w whole after = subst (IsToldOnce k w s) (sym after) (untold k w s (with_answer who d said s) (whole_answered who (actor.Task k w) (answer_to d said s) s.courses whole) refl (λ was. was))

crash_told : (s r : State) (m : Member) (d : Directive) (k : Member) (w : TaskNo) → IsSound s → AreFitting s → Contains four w → CrashSteps (is_member_up m s) m d s r → IsToldOnce k w s r
crash_told s r m d k w sound fits has steps = by (is_member_up m s) refl steps
  where
    by : (b : Bool) → is_member_up m s ≡ b → CrashSteps b m d s r → IsToldOnce k w s r
    by false down made = said_told actor.Operator d (reply.Refused reason.Down) s r k w refl made
    by true up made =
        let e = made.ended in
        let end = made.ends in
        let broken = breaks m s.works (length s.parts.history.items) four s.courses in
        let a = answer_to d reply.Done s in
        subst (IsToldOnce k w s) (sym (made.answered ∙ ap (λ (x : State). record x { courses = answered actor.Operator a x.courses }) (end_is m s.parts.logs s e end)))
        (end_told m (log_in m e.parts.logs) (sets_of m e.parts.datasets) (committed_by end.crash.left m s.parts) e.parts.history.room s.parts.logs s (answered actor.Operator a broken) k w sound fits (up_within m s up) up has (whole_answered actor.Operator (actor.Task k w) a broken refl))

start_ups : (turn : StartTurn) (m : Member) (s : State) (q : Owned) (k : Member) → StartMoves (start_before m s) s.parts turn q → (manager_in k s.parts.managers).up ≡ true → (manager_in k q.managers).up ≡ true
start_ups More m s q k moved was = ap (λ (x : Owned). (manager_in k x.managers).up) moved.1 ∙ was
start_ups Up m s q k moved was = ap (λ (x : Owned). (manager_in k x.managers).up) moved.1 ∙ was
start_ups (Fault why) m s q k moved was = ap (λ (x : Owned). (manager_in k x.managers).up) moved.1 ∙ was
start_ups (Started i) m s q k moved was =
    ap (λ (x : Owned). (manager_in k x.managers).up) moved.2
    ∙ started_all (λ j x. x.up ≡ true) (start_before m s).member (next_incarnation (start_before m s).member s.parts.repo) s.parts.managers refl k was

turn_told : (turn : StartTurn) (m : Member) (d : Directive) (s : State) (work : StartWork) (q : Owned) (k : Member) (w : TaskNo) → ((manager_in k s.parts.managers).up ≡ true → (manager_in k q.managers).up ≡ true) → IsToldOnce k w s (started_as (start_reply m turn) d work q s)
turn_told More m d s work q k w ups = untold k w s (started_as None d work q s) refl refl ups
turn_told Up m d s work q k w ups = untold k w s (started_as (Some (reply.Refused reason.Up)) d work q s) (whole_answered actor.Operator (actor.Task k w) (answer_to d (reply.Refused reason.Up) s) s.courses refl) refl ups
turn_told (Started i) m d s work q k w ups = untold k w s (started_as (Some (reply.Started i)) d work q s) (whole_answered actor.Operator (actor.Task k w) (answer_to d (reply.Started i) s) s.courses refl) refl ups
turn_told (Fault why) m d s work q k w ups =
    untold k w s (started_as (Some (reply.Refused (reason.LogFault m why))) d work q s) (whole_answered actor.Operator (actor.Task k w) (answer_to d (reply.Refused (reason.LogFault m why)) s) s.courses refl) refl ups

start_told : (s r : State) (m : Member) (d : Directive) (k : Member) (w : TaskNo) → IsStartStep m d s r → IsToldOnce k w s r
start_told s r m d k w step =
    subst (IsToldOnce k w s) (sym step.after)
    (turn_told step.turn m d s step.work step.parts k w (start_ups step.turn m s step.parts k (start_moved (start_before m s) s.parts step.turn step.work step.parts step.next)))

asked_told : (s r : State) (who : Actor) (d : Directive) (a : Asked) (step : Step) (k : Member) (w : TaskNo) → IsSound s → IsLawful s.parts → AreFitting s → next_of who s.courses ≡ Some d → is_up who s ≡ true → asked who d ≡ a → Contains four w → StepAsked who d a s step r → IsToldOnce k w s r
asked_told s r who d (asks.Work m t) step k w sound l fits next up is has steps =
    let own = subst (IsOwn who) is (asked_own who d) in
    requests_told s r m t d step k w sound l fits (subst (λ (x : Actor). next_of x s.courses ≡ Some d) own next) (subst (λ (x : Actor). is_up x s ≡ true) own up) has steps
asked_told s r who d (asks.Until other n) step k w sound l fits next up is has steps = said_told who d reply.Done s r k w refl steps.1
asked_told s r who d (asks.Crash m pick) step k w sound l fits next up is has steps = crash_told s r m d k w sound fits has steps.1
asked_told s r who d (asks.Start m) step k w sound l fits next up is has steps = start_told s r m d k w steps.1
asked_told s r who d asks.Later step k w sound l fits next up is has steps = said_told who d (reply.Refused reason.NotYet) s r k w refl steps.1

user_told : (s r : State) (who : Actor) (step : Step) (k : Member) (w : TaskNo) → IsSound s → IsLawful s.parts → AreFitting s → Contains four w → StepAt who (next_of who s.courses) s step r → IsToldOnce k w s r
user_told s r who step k w sound l fits has steps = by (next_of who s.courses) refl steps
  where
    unless : (d : Directive) (cause : Option Cause) → next_of who s.courses ≡ Some d → cause_of who (asked who d) s ≡ cause → StepUnless who d cause s step r → IsToldOnce k w s r
    unless d None next free made = asked_told s r who d (asked who d) step k w sound l fits next (up_unless who (asked who d) s free) refl has made
    unless d (Some cause) next waits made = same_told k w s r made.1

    by : (next : Option Directive) → next_of who s.courses ≡ next → StepAt who next s step r → IsToldOnce k w s r
    by None is made = same_told k w s r made.1
    by (Some d) is made = unless d (cause_of who (asked who d) s) is refl made

system_told : (s r : State) (m : Member) (works : Bool) (step : Step) (k : Member) (w : TaskNo) → SystemSteps works m s step r → IsToldOnce k w s r
system_told s r m false step k w steps = same_told k w s r steps.1
system_told s r m true step k w steps =
    let made = steps.1.steps in
    let moved = peer_moved (peer_before m s).given_up (peer_work_before m s) s.parts made.turn made.work steps.1.parts made.next in
    subst (IsToldOnce k w s) (sym steps.1.after)
    (untold k w s (record s { parts = steps.1.parts; peers = with_peer m steps.1.peer s.peers; tallies = tallied steps.1.off m s.tallies }) refl refl
    (λ was. ap (λ (ms : List Manager). (manager_in k ms).up) (peer_managers s.parts steps.1.parts moved.0) ∙ was))

pub step_told : (s r : State) (who : Actor) (step : Step) (k : Member) (w : TaskNo) → IsSound s → IsLawful s.parts → AreFitting s → system_of (actor.Task k w) ≡ None → IsStep who s step r → IsToldOnce k w s r
step_told s r who step k w sound l fits user steps = by (system_of who) steps (elim (in_four w) [ inl system ↦ absurd (not_system k w user (sym (ap task_number system))) | inr has ↦ has ])
  where
    by : (o : Option Member) → StepAs o who s step r → Contains four w → IsToldOnce k w s r
    by None made has = user_told s r who step k w sound l fits has made
    by (Some m) made has = system_told s r m (has_work m s) step k w made
