-- the end of a member leaves fewer steps
use Rattle.std.proofs.Common.{◌≡◌, ℕ, ◌+◌, ◌-◌, ◌*◌, ◌<◌, ◌≤◌, List, [], length, length-set, get_or, Bool, true, false, Option, Some, None, is_some, refl, sym, ap, subst, ◌∙◌, arith}
use Rattle.std.specs.Prelude.{count_by, sum_by, map, replicate}
use Rattle.std.specs.List.{list_any}
use Rattle.std.proofs.lemmas.List.{length-map}
use Rattle.std.proofs.lemmas.Option.{none-some}
use Rattle.qsg_num.specs.declared.seats.Member.{Member}
use Rattle.qsg_num.specs.declared.seats.TaskNo.{TaskNo}
use Rattle.qsg_num.specs.declared.seats.TaskNo.TheVariants as task
use Rattle.qsg_num.specs.declared.ids.Actor.{Actor}
use Rattle.qsg_num.specs.declared.ids.Actor.TheVariants as actor
use Rattle.qsg_num.specs.declared.ids.Incarnation.{Incarnation}
use Rattle.qsg_num.specs.Seats.{member_number, task_number}
use Rattle.qsg_objects.specs.declared.directives.Directive.{Directive}
use Rattle.qsg_requests.specs.declared.transcript.Answer.{Answer}
use Rattle.qsg_repo.specs.declared.lives.Life.{Life}
use Rattle.qsg_repo.specs.Lives.{is_open, failed_life}
use Rattle.qsg_logpage.specs.Log.{LogState}
use Rattle.qsg_agenda.specs.Courses.{Course, next_of, answered}
use Rattle.qsg_group.specs.Group.{idle}
use Rattle.qsg_manager.specs.declared.managers.Manager.{Manager}
use Rattle.qsg_manager.specs.Storage.{no_manager, task_in, manager_in, task_at}
use Rattle.qsg_logs.specs.Kept.{KeptLog, no_log, log_in}
use Rattle.qsg_datasets.specs.Kept.{sets_of}
use Rattle.qsg_parts.specs.Owned.{Owned}
use Rattle.qsg_steady.specs.Steady.{is_up_life}
use Rattle.qsg_steady.proofs.Places.{member_some, member_few}
use Rattle.qsg_works.specs.declared.work.Work.{Work}
use Rattle.qsg_works.specs.InHand.{work_of, with_work, IsOther}
use Rattle.qsg_crash.specs.Crashes.{IsCrash, crashed, committed_by}
use Rattle.qsg_peers.specs.Peers.{Peer, new_peer, peer_of, with_peer, ended_peer}
use Rattle.qsg_step.specs.States.{State}
use Rattle.qsg_step.specs.Ends.{broken, broken_if, broken_task, broken_off, dropped, incarnation_of, IsEnd}
use Rattle.qsg_sound.proofs.Answering.{next_apart, tasks_apart}
use Rattle.qsg_sound.proofs.Hands.{work_other}
use Rattle.qsg_pace.specs.Pace.{whole, left_of_run, marks_left, left_in, left_to_peer, passed_by, unanswered, unharmed, events_left, work_left, left}
use Rattle.qsg_pace.proofs.Sums.{answered_less, answered_fewer, sum_raised, eight_times}
use Rattle.qsg_pace.proofs.Falling.{goes_down, pays}
use Rattle.qsg_pace.proofs.Lives.{count_most, failed_open, failed_less}
use Rattle.qsg_pace.proofs.Looking.{hand_in, size_in, size_kept}
use Rattle.qsg_pace.proofs.Places.{sum_places}
use Rattle.qsg_pace.proofs.Fewer.{LeavesNoMore, works_fewer, seen_fewer, AreAsLong, same_marks, any_work, peer_above}

-- ---- a request that is broken off

-- the task whose request is broken off is answered, where it has one
record IsBrokenOff (m : Member) (t : TaskNo) (has : Bool) (old new : List Course) : Type 0 where
  pub fewer : unanswered new ≤ unanswered old
  pub answered : has ≡ true → (d : Directive) → next_of (actor.Task m t) old ≡ Some d → unanswered new + 1 ≡ unanswered old
  pub others : (w : TaskNo) → IsOther m t m w → next_of (actor.Task m w) new ≡ next_of (actor.Task m w) old

break_off : (m : Member) (t : TaskNo) (has : Bool) (at : ℕ) (courses : List Course) → IsBrokenOff m t has courses (broken_if has (actor.Task m t) at courses)
break_off m t false at courses = record { fewer = omega arith; answered = λ is d next. absurd (cc is); others = λ w other. refl }
break_off m t true at courses = by (next_of (actor.Task m t) courses) refl
  where
    by : (o : Option Directive) → next_of (actor.Task m t) courses ≡ o → IsBrokenOff m t true courses (broken (actor.Task m t) at o courses)
    by None none = record { fewer = omega arith; answered = λ is d next. absurd (none-some d (sym none ∙ next)); others = λ w other. refl }
    by (Some d) some = record {
      fewer = answered_fewer (actor.Task m t) _ courses;
      answered = λ is e next. answered_less (actor.Task m t) _ d courses some;
      others = λ w other. next_apart (actor.Task m t) (actor.Task m w) _ courses (tasks_apart m t m w other);
    }

-- ---- one task after the other

-- the requests that the tasks of the member have in hand, and the directives that they do
abbrev pub HasNext : Member → List (Option Work) → List Course → TaskNo → Type 0
HasNext m works courses t = (w : Work) → work_of m t works ≡ Some w → (d : Directive) × (next_of (actor.Task m t) courses ≡ Some d)

-- What is left of requests, and a whole one for each directive that isn't answered.
abbrev pub weight : Owned → List (Option Work) → List Course → ℕ
weight q works courses = sum_by (left_in q) works + whole * unanswered courses

drop_less : (q : Owned) (m : Member) (t : TaskNo) (works begun : List (Option Work)) (at : ℕ) (courses : List Course) → length works ≡ 40 → work_of m t works ≡ work_of m t begun → HasNext m begun courses t
    → weight q (with_work m t None works) (broken_task m t begun at courses) ≤ weight q works courses
drop_less q m t works begun at courses forty same next = by (work_of m t begun) refl
  where
    sum : sum_by (left_in q) (with_work m t None works) + left_in q (work_of m t works) ≡ sum_by (left_in q) works + left_in q None
    sum = sum_places (left_in q) (left_in q) works m t None forty (λ k w other. refl)

    by : (hand : Option Work) → work_of m t begun ≡ hand → sum_by (left_in q) (with_work m t None works) + whole * unanswered (broken_if (is_some hand) (actor.Task m t) at courses) ≤ weight q works courses
    by None none = let is : left_in q (work_of m t works) ≡ whole = ap (left_in q) (same ∙ none) in omega (arith, sum, is)
    by (Some w) some =
        let d = next w some in
        let one = (break_off m t true at courses).answered refl d.0 d.1 in
        omega (arith, sum, one)

-- another task of the member has still in hand what it had
kept_other : (m : Member) (t w : TaskNo) (works begun : List (Option Work)) → IsOther m t m w → work_of m w works ≡ work_of m w begun → work_of m w (with_work m t None works) ≡ work_of m w begun
kept_other m t w works begun other same = work_other m t None works m w other ∙ same

next_other : (m : Member) (t w : TaskNo) (begun : List (Option Work)) (at : ℕ) (courses : List Course) → IsOther m t m w → HasNext m begun courses w → HasNext m begun (broken_task m t begun at courses) w
next_other m t w begun at courses other next = λ x has.
    let d = next x has in
    (d.0, (break_off m t (is_some (work_of m t begun)) at courses).others w other ∙ d.1)

apart : (m : Member) (t w : TaskNo) → (task_number w ≡ task_number t → ⊥) → IsOther m t m w
apart m t w differ = λ member same. differ same

pub all_dropped : (q : Owned) (m : Member) (works : List (Option Work)) (at : ℕ) (courses : List Course) → length works ≡ 40 → ((t : TaskNo) → HasNext m works courses t) → weight q (dropped m works) (broken_off m works at courses) ≤ weight q works courses
all_dropped q m works at courses forty next =
    let one_two = apart m task.One task.Two (λ e. absurd (omega (arith, e))) in
    let one_three = apart m task.One task.Three (λ e. absurd (omega (arith, e))) in
    let one_four = apart m task.One task.Four (λ e. absurd (omega (arith, e))) in
    let two_three = apart m task.Two task.Three (λ e. absurd (omega (arith, e))) in
    let two_four = apart m task.Two task.Four (λ e. absurd (omega (arith, e))) in
    let three_four = apart m task.Three task.Four (λ e. absurd (omega (arith, e))) in
    let w1 = with_work m task.One None works in
    let w2 = with_work m task.Two None w1 in
    let w3 = with_work m task.Three None w2 in
    let c1 = broken_task m task.One works at courses in
    let c2 = broken_task m task.Two works at c1 in
    let c3 = broken_task m task.Three works at c2 in
    let f1 = forty_kept m task.One works forty in
    let f2 = forty_kept m task.Two w1 f1 in
    let f3 = forty_kept m task.Three w2 f2 in
    let two = kept_other m task.One task.Two works works one_two refl in
    let three = kept_other m task.Two task.Three w1 works two_three (kept_other m task.One task.Three works works one_three refl) in
    let four = kept_other m task.Three task.Four w2 works three_four (kept_other m task.Two task.Four w1 works two_four (kept_other m task.One task.Four works works one_four refl)) in
    let n2 = next_other m task.One task.Two works at courses one_two (next task.Two) in
    let n3 = next_other m task.Two task.Three works at c1 two_three (next_other m task.One task.Three works at courses one_three (next task.Three)) in
    let n4 = next_other m task.Three task.Four works at c2 three_four (next_other m task.Two task.Four works at c1 two_four (next_other m task.One task.Four works at courses one_four (next task.Four))) in
    let s1 = drop_less q m task.One works works at courses forty refl (next task.One) in
    let s2 = drop_less q m task.Two w1 works at c1 f1 two n2 in
    let s3 = drop_less q m task.Three w2 works at c2 f2 three n3 in
    let s4 = drop_less q m task.Four w3 works at c3 f3 four n4 in
    omega (arith, s1, s2, s3, s4)
  where
    forty_kept : (m : Member) (t : TaskNo) (ws : List (Option Work)) → length ws ≡ 40 → length (with_work m t None ws) ≡ 40
    forty_kept m t ws forty = length-set ws _ None ∙ forty

fewer_broken : (m : Member) (t : TaskNo) (works : List (Option Work)) (at : ℕ) (courses : List Course) → unanswered (broken_task m t works at courses) ≤ unanswered courses
fewer_broken m t works at courses = (break_off m t (is_some (work_of m t works)) at courses).fewer

pub all_broken : (m : Member) (works : List (Option Work)) (at : ℕ) (courses : List Course) → unanswered (broken_off m works at courses) ≤ unanswered courses
all_broken m works at courses =
    let c1 = broken_task m task.One works at courses in
    let c2 = broken_task m task.Two works at c1 in
    let c3 = broken_task m task.Three works at c2 in
    omega (arith, fewer_broken m task.One works at courses, fewer_broken m task.Two works at c1, fewer_broken m task.Three works at c2, fewer_broken m task.Four works at c3)

-- ---- the parts after a crash

nothing_left : (w : TaskNo) → marks_left (task_in w (replicate 5 idle)) ≡ 0
nothing_left task.System = refl
nothing_left task.One = refl
nothing_left task.Two = refl
nothing_left task.Three = refl
nothing_left task.Four = refl

crash_fewer : (m : Member) (p q : Owned) → IsCrash m p q → LeavesNoMore p q
crash_fewer m p q crash = record {
  tasks = λ k w.
      let is : marks_left (task_at k w q.managers) ≡ marks_left (task_at k w after.managers) = ap (λ (x : Owned). marks_left (task_at k w x.managers)) crash.parts in
      let less = seen_fewer (λ (x : Manager). marks_left (task_in w x.tasks)) p.managers (member_number m - 1) (member_number k - 1) (record (manager_in m p.managers) { up = false; tasks = replicate 5 idle }) no_manager (omega (arith, nothing_left w)) in
      omega (arith, is, less);
  hands = λ k.
      let is : left_of_run (hand_in k q.logs) ≡ left_of_run (hand_in k after.logs) = ap (λ (x : Owned). left_of_run (hand_in k x.logs)) crash.parts in
      let none : left_of_run (hand_in m q.logs) ≡ 0 = ap (λ (x : LogState). left_of_run x.hand) crash.log.writer in
      let less = seen_fewer (λ (l : KeptLog). left_of_run l.writer.hand) p.logs (member_number m - 1) (member_number k - 1) (log_in m q.logs) no_log (omega (arith, none)) in
      omega (arith, is, less);
}
  where
    after : Owned
    after = crashed m (log_in m q.logs) (sets_of m q.datasets) (committed_by crash.left m p) q.history.room p

crash_long : (m : Member) (p q : Owned) → IsCrash m p q → AreAsLong p q
crash_long m p q crash = λ k. ap (λ (x : Owned). size_in k x.logs) crash.parts ∙ size_kept m (log_in m q.logs) p.logs (ap (λ (x : LogState). x.size) crash.log.writer) k

-- ---- the end of a member

-- each request in hand does a directive, the member's incarnation is up, and the repository has given no more than it can
pub record MayFall (m : Member) (s : State) : Type 0 where
  pub forty : length s.works ≡ 40
  pub eight : length s.peers ≡ 8
  pub next : (t : TaskNo) → HasNext m s.works s.courses t
  pub up : list_any (is_up_life m (incarnation_of m s.parts)) s.parts.repo.lives ≡ true
  pub few : length s.parts.repo.lives ≤ s.parts.repo.starts

-- an incarnation has failed, and what is left more is paid for
pub record IsFallen (s r : State) : Type 0 where
  pub starts : r.parts.repo.starts ≡ s.parts.repo.starts
  pub answered : unanswered r.courses ≤ unanswered s.courses
  pub failed : unharmed r.parts.repo.lives + 1 ≤ unharmed s.parts.repo.lives
  pub work : work_left r + whole * unanswered r.courses + 8 * whole * unharmed r.parts.repo.lives ≤ work_left s + whole * unanswered s.courses + 8 * whole * unharmed s.parts.repo.lives + whole * s.parts.repo.starts

-- what the lives of a group become
failed_lives : (m : Member) (p q : Owned) → IsCrash m p q → q.repo.lives ≡ map (failed_life m (incarnation_of m p)) p.repo.lives
failed_lives m p q crash = ap (λ (x : Owned). x.repo.lives) crash.parts

peers_fall : (m : Member) (p q : Owned) (peers : List Peer) (d : ℕ) → IsCrash m p q → length peers ≡ 8 → length p.repo.lives ≤ p.repo.starts → unharmed q.repo.lives + d ≡ unharmed p.repo.lives
    → sum_by (left_to_peer q) (with_peer m (ended_peer (peer_of m peers)) peers) ≤ sum_by (left_to_peer p) peers + whole * p.repo.starts + 8 * (whole * d)
peers_fall m p q peers d crash eight few apart_by =
    let own_few : left_to_peer q new ≤ whole * p.repo.starts = omega (arith, count_most (is_open []) q.repo.lives, length_same, few) in
    let sum = sum_raised (left_to_peer p) (left_to_peer q) peers (member_number m - 1) new new_peer (whole * d) (omega (arith, eight, member_some m, member_few m)) (λ j within differ. others (get_or peers j new_peer)) in
    omega (arith, sum, own_few, eight_times (whole * d) peers eight)
  where
    new : Peer
    new = ended_peer (peer_of m peers)

    i : Incarnation
    i = incarnation_of m p

    lives : q.repo.lives ≡ map (failed_life m i) p.repo.lives
    lives = failed_lives m p q crash

    length_same : length q.repo.lives ≡ length p.repo.lives
    length_same = ap (λ (ls : List Life). length ls) lives ∙ length-map p.repo.lives (failed_life m i)

    open_above : (skip : List (Member × Incarnation)) → count_by (is_open skip) q.repo.lives ≤ count_by (is_open skip) p.repo.lives + d
    open_above skip =
        let now : count_by (is_open skip) q.repo.lives ≡ count_by (is_open skip) (map (failed_life m i) p.repo.lives) = ap (λ (ls : List Life). count_by (is_open skip) ls) lives in
        let left : unharmed q.repo.lives ≡ unharmed (map (failed_life m i) p.repo.lives) = ap unharmed lives in
        omega (arith, now, left, apart_by, failed_open m i skip p.repo.lives)

    others : (k : Peer) → left_to_peer q k ≤ left_to_peer p k + whole * d
    others k = peer_above p q k d (any_work p q (same_marks p q (ap (λ (x : Owned). x.structures) crash.parts)) k.work) (crash_long m p q crash) (open_above (passed_by k))

pub end_falls : (m : Member) (s r : State) → MayFall m s → IsEnd m s r → IsFallen s r
end_falls m s r may end =
    let p = s.parts in
    let q = r.parts in
    let i = incarnation_of m p in
    let d = unharmed p.repo.lives - unharmed q.repo.lives in
    let left : unharmed q.repo.lives ≡ unharmed (map (failed_life m i) p.repo.lives) = ap unharmed (failed_lives m p q end.crash) in
    let one = failed_less m i p.repo.lives may.up in
    let apart_by : unharmed q.repo.lives + d ≡ unharmed p.repo.lives = omega (arith, left, one) in
    let peers = peers_fall m p q s.peers d end.crash may.eight may.few apart_by in
    let same = works_fewer p q s.works (crash_fewer m p q end.crash) in
    let works = all_dropped q m s.works (length p.history.items) s.courses may.forty may.next in
    let fewer = all_broken m s.works (length p.history.items) s.courses in
    subst (IsFallen s) (sym end.after) (record {
      starts = ap (λ (x : Owned). x.repo.starts) end.crash.parts;
      answered = fewer;
      failed = omega (arith, left, one);
      work = omega (arith, peers, same, works, apart_by);
    })

-- a further answer changes nothing of it
pub answer_falls : (s r : State) (who : Actor) (a : Answer) → IsFallen s r → IsFallen s (record r { courses = answered who a r.courses })
answer_falls s r who a fallen =
    let fewer = answered_fewer who a r.courses in
    record {
      starts = fallen.starts;
      answered = omega (arith, fewer, fallen.answered);
      failed = fallen.failed;
      work = omega (arith, fewer, fallen.work);
    }

pub fallen_less : (s r : State) → IsFallen s r → left r < left s
fallen_less s r fallen = by (events_left s - events_left r) (omega (arith, fallen.answered, fallen.failed))
  where
    by : (d : ℕ) → events_left r + d ≡ events_left s → left r < left s
    by d apart =
        let paid = pays d s.parts.repo.starts (omega (arith, apart, fallen.answered, fallen.failed)) in
        goes_down s r d fallen.starts (omega (arith, apart)) (omega (arith, paid, apart, fallen.work, fallen.answered, fallen.failed))
