-- each step that an actor makes leaves fewer steps
use Rattle.std.proofs.Common.{◌≡◌, ℕ, zero, suc, ◌+◌, ◌-◌, ◌*◌, ◌^◌, ◌<◌, ◌≤◌, List, [], ◌∷◌, length, length-set, get_or, Bool, true, false, cond, Option, Some, None, refl, sym, ap, subst, ◌∙◌, inl, inr, arith}
use Rattle.std.specs.Prelude.{Result, Ok, Err, ◌⊎◌, IfSome, sum_by}
use Rattle.std.specs.List.{AllByRecursion, list_any}
use Rattle.std.proofs.lemmas.Bool.{false≢true}
use Rattle.std.proofs.lemmas.List.Sums.{sum_by-cons}
use Rattle.qsg_num.specs.declared.seats.Member.{Member}
use Rattle.qsg_num.specs.declared.seats.TaskNo.{TaskNo}
use Rattle.qsg_num.specs.declared.ids.Actor.{Actor}
use Rattle.qsg_num.specs.declared.ids.Actor.TheVariants as actor
use Rattle.qsg_num.specs.Seats.{member_number}
use Rattle.qsg_objects.specs.declared.directives.Directive.{Directive}
use Rattle.qsg_objects.specs.declared.directives.Directive.TheVariants as directive
use Rattle.qsg_requests.specs.declared.replies.Cause.{Cause}
use Rattle.qsg_requests.specs.declared.replies.Reason.TheVariants as reason
use Rattle.qsg_requests.specs.declared.replies.Reply.{Reply}
use Rattle.qsg_requests.specs.declared.replies.Reply.TheVariants as reply
use Rattle.qsg_requests.specs.declared.replies.Turn.{Turn}
use Rattle.qsg_requests.specs.declared.replies.Turn.TheVariants as turn
use Rattle.qsg_requests.specs.declared.transcript.Answer.{Answer}
use Rattle.qsg_requests.specs.declared.words.PutWords.{PutWords}
use Rattle.qsg_requests.specs.declared.words.Request.{Request}
use Rattle.qsg_requests.specs.declared.words.Request.TheVariants as request
use Rattle.qsg_repo.specs.declared.lives.Life.{Life}
use Rattle.qsg_agenda.specs.Courses.{Course, next_of, AreAnswered, IsAnswered}
use Rattle.qsg_directives.specs.Asking.{request_of}
use Rattle.qsg_manager.specs.declared.managers.Manager.{Manager}
use Rattle.qsg_manager.specs.Storage.{no_manager, manager_in, task_at}
use Rattle.qsg_logs.specs.Held.{is_open}
use Rattle.qsg_logs.specs.Kept.{KeptLog}
use Rattle.qsg_parts.specs.Owned.{Owned, HasMember}
use Rattle.qsg_steady.specs.Steady.{is_up_life, IsSteady}
use Rattle.qsg_steady.proofs.Gives.{member_has}
use Rattle.qsg_steady.proofs.Moving.{by_task}
use Rattle.qsg_steady.proofs.Places.{member_some}
use Rattle.qsg_commit.specs.declared.phases.StepError.{StepError}
use Rattle.qsg_commit.specs.declared.phases.StepError.TheVariants.{NoMemory, LogFailed}
use Rattle.qsg_commit.specs.Committing.{with_room}
use Rattle.qsg_put.specs.Steps.{Next as PutNext}
use Rattle.qsg_works.specs.declared.work.Work.{Work as Request_in_progress}
use Rattle.qsg_works.specs.declared.work.Work.TheVariants.{Put, Get, Commit}
use Rattle.qsg_works.specs.InHand.{place, work_of, with_work, IsOther}
use Rattle.qsg_works.specs.Steps.{begun, NextWork}
use Rattle.qsg_fit.specs.Fits.{member_of, task_of}
use Rattle.qsg_fit.specs.Requests.{IsSteadyIf, IsSteadyBeside}
use Rattle.qsg_walk.specs.Walks.{Walk}
use Rattle.qsg_peer.specs.declared.phases.FailedLife.{FailedLife}
use Rattle.qsg_peer.specs.declared.phases.Phase.{Phase as PeerPhase}
use Rattle.qsg_peer.specs.declared.phases.Phase.TheVariants.{Find, Low, At}
use Rattle.qsg_peer.specs.Machine.{IsOver}
use Rattle.qsg_peer.specs.Pace.{HasNoMoreMarks, HasNoMoreAt}
use Rattle.qsg_peer.specs.Works.{Work as PeerWork}
use Rattle.qsg_peers.specs.Peers.{Peer, new_peer, peer_of}
use Rattle.qsg_lives.proofs.Requests.{request_leaves}
use Rattle.qsg_step.specs.declared.asked.Asked.{Asked}
use Rattle.qsg_step.specs.declared.asked.Asked.TheVariants.{Work, Until, Crash, Start, Later}
use Rattle.qsg_step.specs.declared.step.Step.{Step}
use Rattle.qsg_step.specs.declared.step.Step.TheVariants.{Moved, Waits, Done}
use Rattle.qsg_step.specs.Asking.{work_for, asked, IsOwn}
use Rattle.qsg_step.specs.Ends.{incarnation_of}
use Rattle.qsg_step.specs.States.{State, is_due, with_due, is_member_up, is_up}
use Rattle.qsg_step.specs.Steps.{answer_to, with_answer, begun_if, in_hand_or, with_hand, IsAfter, WorkSteps, RequestSteps, CrashSteps, StepAsked, StepUnless, StepAt, SystemSteps, StepAs, IsStep, IsUnmade}
use Rattle.qsg_step.specs.Waiting.{cause_asked, cause_of, has_work, system_of}
use Rattle.qsg_sound.specs.Sound.{answers_given, directives_in, in_progress, IsAsked, IsInHand, IsHand, IsSound, HasRequestIds}
use Rattle.qsg_sound.specs.Systems.{IsPeerAt, WorksAt}
use Rattle.qsg_sound.proofs.Beginning.{first_unbegun, first_request}
use Rattle.qsg_sound.proofs.Hands.{work_other, others_in, has_one, has_none}
use Rattle.qsg_pace.specs.Pace.{whole, left_of_run, marks_left, left_of, left_in, left_of_starting, to_find, left_to_peer, unanswered, unharmed, most_added, events_left, left}
use Rattle.qsg_pace.proofs.Sums.{answered_less, unanswered_some, sum_fewer}
use Rattle.qsg_pace.proofs.Falling.{goes_down, works_down, stays_down}
use Rattle.qsg_pace.proofs.Looking.{hand_in, IsBeside}
use Rattle.qsg_pace.proofs.Requests.{put_structures}
use Rattle.qsg_pace.proofs.Works.{IsPaced, begun_paced, fit_paced, begun_whole, begun_member, begun_task, work_goes, work_fails, owned_member, owned_task, same_left}
use Rattle.qsg_pace.proofs.Places.{sum_places}
use Rattle.qsg_pace.proofs.Fewer.{LeavesNoMore, works_fewer, HasNoMoreFor, same_marks, peer_above, each_peer, all_peers_fewer}
use Rattle.qsg_pace.proofs.Systems.{system_less}
use Rattle.qsg_pace.proofs.Starting.{start_less}
use Rattle.qsg_pace.proofs.Ending.{HasNext, MayFall, end_falls, answer_falls, fallen_less}

-- ---- how many answers there are

few_answers : (ds : List Directive) (said : List Answer) → AreAnswered ds said → length said ≤ length ds
few_answers ds [] each = omega arith
few_answers [] (a ∷ said) each = absurd each
few_answers (d ∷ ds) (a ∷ said) each = omega (arith, few_answers ds said each.1)

given_few : (courses : List Course) → AllByRecursion IsAnswered courses → answers_given courses ≤ directives_in courses
given_few [] each = omega arith
given_few (c ∷ courses) each =
    let here = few_answers c.directives c.answers each.0 in
    let rest = given_few courses each.1 in
    omega (arith, sum_by-cons (λ (x : Course). length x.answers) c courses, sum_by-cons (λ (x : Course). length x.directives) c courses, here, rest)

few : (s : State) → IsSound s → answers_given s.courses < 2 ^ 30
few s sound = omega (arith, given_few s.courses sound.answered, sound.few)

-- ---- a member that is up

up_within : (ms : List Manager) (i : ℕ) → (get_or ms i no_manager).up ≡ true → i < length ms
up_within [] i up = absurd (false≢true up)
up_within (x ∷ ms) zero up = omega arith
up_within (x ∷ ms) (suc i) up = omega (arith, up_within ms i up)

-- the group has the member, which is up
record IsUp (m : Member) (s : State) : Type 0 where
  pub has : HasMember m s.parts
  pub up : (manager_in m s.parts.managers).up ≡ true

up_is : (m : Member) (s : State) → IsSound s → is_member_up m s ≡ true → IsUp m s
up_is m s sound is =
    let within = up_within s.parts.managers (member_number m - 1) is in
    let one = member_some m in
    record { has = member_has (answers_given s.courses) (in_progress s.works) s.parts m sound.steady (omega (arith, within, one)); up = is }

-- ---- a step of a request

moved_waits : (cause : Cause) → Moved ≡ Waits cause → ⊥
moved_waits cause is = cc

moved_done : Moved ≡ Done → ⊥
moved_done is = cc

-- a request that a task has in progress, or begins
record IsBefore (m : Member) (t : TaskNo) (before : Request_in_progress) (s : State) : Type 0 where
  pub member : member_of before ≡ m
  pub task : task_of before ≡ t
  pub paced : IsPaced before s.parts
  pub within : left_of s.parts before ≤ left_in s.parts (work_of m t s.works)
  -- its step leaves no more marks of an incarnation that is over
  pub marks : (work : Request_in_progress) (q : Owned) (result : Result Turn StepError) → NextWork before s.parts result work q → (life : FailedLife) → IsOver life s.parts → HasNoMoreMarks life s.parts q

in_hand_before : (m : Member) (t : TaskNo) (before : Request_in_progress) (s : State) → IsSound s → work_of m t s.works ≡ Some before → IsInHand m t before s.courses s.parts → IsBefore m t before s
in_hand_before m t before s sound is hand = record {
  member = owned_member m t before hand.own;
  task = owned_task m t before hand.own;
  paced = fit_paced before s.parts hand.fits;
  within = let here : left_in s.parts (work_of m t s.works) ≡ left_of s.parts before = ap (left_in s.parts) is in omega (arith, here);
  marks = λ work q result next life over. (request_leaves (answers_given s.courses) (others_in m t s.works) life before work s.parts q result steady hand.fits sound.ordered over next).above;
}
  where
    steady : IsSteadyBeside (answers_given s.courses) (others_in m t s.works) before s.parts
    steady =
        subst (λ (b : Bool). IsSteadyIf b (answers_given s.courses) (others_in m t s.works) s.parts) (sym hand.begun)
        (subst (λ (n : ℕ). IsSteady (answers_given s.courses) n s.parts) (has_one m t before s.works sound.forty is) sound.steady)

-- the check of a put leaves all structures
first_put : (m : Member) (t : TaskNo) (words : PutWords) (p : Owned) (result : Result Turn StepError) (work : Request_in_progress) (q : Owned) → NextWork (begun m t (request.Put words)) p result work q → q.structures ≡ p.structures
first_put m t words p (Ok turn) (Put new) q next = ap (λ (n : PutNext). n.parts.structures) next.1 ∙ put_structures m t words p
first_put m t words p (Err NoMemory) (Put new) q next = ap (λ (x : Owned). x.structures) next.1
first_put m t words p (Err LogFailed) (Put new) q next = absurd next
first_put m t words p result (Get new) q next = absurd next
first_put m t words p result (Commit new) q next = absurd next

first_marks : (m : Member) (t : TaskNo) (r : Request) (s : State) → IsSound s → IsUp m s → work_of m t s.works ≡ None → is_open (task_at m t s.parts.managers).stage ≡ true
    → (work : Request_in_progress) (q : Owned) (result : Result Turn StepError) → NextWork (begun m t r) s.parts result work q → (life : FailedLife) → IsOver life s.parts → HasNoMoreMarks life s.parts q
first_marks m t r s sound up is ready work q result = by r
  where
    marks : (x : Request) → HasRequestIds x → NextWork (begun m t x) s.parts result work q → (life : FailedLife) → IsOver life s.parts → HasNoMoreMarks life s.parts q
    marks x ids next life over =
        let steady =
        subst (λ (b : Bool). IsSteadyIf b (answers_given s.courses) (others_in m t s.works) s.parts) (sym (first_unbegun m t x))
        (subst (λ (n : ℕ). IsSteady (answers_given s.courses) n s.parts) (has_none m t s.works sound.forty is) sound.steady) in
        let fits = first_request s.parts m t x up.has up.up (sound.kept.logs m up.has.log) sound.placed ids ready in
        (request_leaves (answers_given s.courses) (others_in m t s.works) life (begun m t x) work s.parts q result steady fits sound.ordered over next).above

    by : (x : Request) → NextWork (begun m t x) s.parts result work q → (life : FailedLife) → IsOver life s.parts → HasNoMoreMarks life s.parts q
    by (request.Put words) next life over = same_marks s.parts q (first_put m t words s.parts result work q next) life
    by (request.Get queue select) next life over = marks (request.Get queue select) tt next life over
    by request.Commit next life over = marks request.Commit tt next life over
    by request.Backout next life over = marks request.Backout tt next life over

fresh_before : (m : Member) (t : TaskNo) (r : Request) (s : State) → IsSound s → IsUp m s → work_of m t s.works ≡ None → is_open (task_at m t s.parts.managers).stage ≡ true → IsBefore m t (begun m t r) s
fresh_before m t r s sound up is ready = record {
  member = begun_member m t r;
  task = begun_task m t r;
  paced = begun_paced m t r s.parts up.has (sound.kept.logs m up.has.log) ready;
  within = let here : left_in s.parts (work_of m t s.works) ≡ whole = ap (left_in s.parts) is in omega (arith, here, begun_whole m t r s.parts);
  marks = first_marks m t r s sound up is ready;
}

-- the other tasks' requests count as they did
others_same : (m : Member) (t : TaskNo) (s : State) (q : Owned) → IsSound s → IsBeside m t s.parts q → (k : Member) (w : TaskNo) → IsOther m t k w → left_in q (work_of k w s.works) ≡ left_in s.parts (work_of k w s.works)
others_same m t s q sound beside k w other = by (work_of k w s.works) (sound.hands k w)
  where
    by : (o : Option Request_in_progress) → IsHand k w o s.courses s.parts → left_in q o ≡ left_in s.parts o
    by None hand = refl
    by (Some x) hand = same_left m t s.parts q k w x beside other hand.own hand.fits

-- the directive of a request in progress
pub in_progress_asked : (s : State) (m : Member) (t : TaskNo) (work : Request_in_progress) → IsSound s → work_of m t s.works ≡ Some work → IsAsked m t work s.courses
in_progress_asked s m t work sound is = (subst (λ (o : Option Request_in_progress). IsHand m t o s.courses s.parts) is (sound.hands m t)).asked

-- ---- the works of system tasks

on_over : (phase : PeerPhase) (walk : Walk) (s : State) (q : Owned) → WorksAt phase walk s → ((life : FailedLife) → IsOver life s.parts → HasNoMoreMarks life s.parts q) → HasNoMoreAt phase s.parts q
on_over Find walk s q works fewer = tt
on_over (Low life) walk s q works fewer = fewer life works.over
on_over (At life stage) walk s q works fewer = fewer life works.0.over

-- no more is left to them, as no more marks stand of the incarnations on which they work
peers_fewer : (m : Member) (t : TaskNo) (s : State) (q : Owned) → IsSound s → IsBeside m t s.parts q → ((life : FailedLife) → IsOver life s.parts → HasNoMoreMarks life s.parts q) → sum_by (left_to_peer q) s.peers ≤ sum_by (left_to_peer s.parts) s.peers
peers_fewer m t s q sound beside fewer = sum_fewer (left_to_peer s.parts) (left_to_peer q) s.peers new_peer (each_peer (λ (k : Peer). left_to_peer q k ≤ left_to_peer s.parts k) s.peers sound.eight each)
  where
    works : (o : Option PeerWork) (k : Member) → IfSome o (λ w. IsPeerAt k w s) → IfSome o (HasNoMoreFor s.parts q)
    works None k at = tt
    works (Some w) k at = on_over w.phase w.walk s q at.works fewer

    each : (k : Member) → left_to_peer q (peer_of k s.peers) ≤ left_to_peer s.parts (peer_of k s.peers)
    each k =
        let peer = peer_of k s.peers in
        let same : to_find q.repo.lives peer ≡ to_find s.parts.repo.lives peer = ap (λ (ls : List Life). to_find ls peer) beside.lives in
        let above = peer_above s.parts q peer 0 (works peer.work k (sound.peers k)) beside.sizes (omega (arith, same)) in
        omega (arith, above)

-- ---- a step of a request

-- what a step of a request makes of all that is left but for its own
record IsBesides (m : Member) (t : TaskNo) (s : State) (q : Owned) : Type 0 where
  pub beside : IsBeside m t s.parts q
  pub peers : sum_by (left_to_peer q) s.peers ≤ sum_by (left_to_peer s.parts) s.peers
  pub unharmed : unharmed q.repo.lives ≡ unharmed s.parts.repo.lives

goes_beside : (m : Member) (t : TaskNo) (s : State) (before work : Request_in_progress) (q : Owned) (result : Result Turn StepError) → IsSound s → IsBefore m t before s → IsBeside (member_of before) (task_of before) s.parts q → NextWork before s.parts result work q → IsBesides m t s q
goes_beside m t s before work q result sound is at_own step =
    let beside = subst (λ (k : Member). IsBeside k t s.parts q) is.member (subst (λ (w : TaskNo). IsBeside (member_of before) w s.parts q) is.task at_own) in
    record {
      beside = beside;
      peers = peers_fewer m t s q sound beside (is.marks work q result step);
      unharmed = ap unharmed beside.lives;
    }

-- a member whose log has failed may end
may_fall : (m : Member) (t : TaskNo) (d : Directive) (work : Request_in_progress) (q : Owned) (s : State) → IsSound s → IsUp m s → next_of (actor.Task m t) s.courses ≡ Some d → IsBeside m t s.parts q → q.managers ≡ s.parts.managers → MayFall m (with_hand m t (Some work) q s)
may_fall m t d work q s sound up next beside managers = record {
  forty = length-set s.works (place m t) (Some work) ∙ sound.forty;
  eight = sound.eight;
  next = by_task (HasNext m (with_work m t (Some work) s.works) s.courses) t (λ w has. (d, next)) (λ w differ x has. others w x (sym (work_other m t (Some work) s.works m w (λ e f. differ f)) ∙ has));
  up =
      subst (λ (ls : List Life). list_any (is_up_life m (incarnation_of m q)) ls ≡ true) (sym beside.lives)
      (subst (λ (ms : List Manager). list_any (is_up_life m (manager_in m ms).incarnation) s.parts.repo.lives ≡ true) (sym managers) ((sound.steady.listed m up.has.manager).up up.up));
  few =
      let lives : length q.repo.lives ≡ length s.parts.repo.lives = ap (λ (ls : List Life). length ls) beside.lives in
      omega (arith, lives, beside.starts, sound.starts);
}
  where
    others : (w : TaskNo) (x : Request_in_progress) → work_of m w s.works ≡ Some x → (e : Directive) × (next_of (actor.Task m w) s.courses ≡ Some e)
    others w x has = let asks = in_progress_asked s m w x sound has in (asks.directive, asks.next)

work_less : (s r : State) (m : Member) (t : TaskNo) (d : Directive) (before work : Request_in_progress) (q : Owned) (result : Result Turn StepError) → IsSound s → IsUp m s → IsBefore m t before s → next_of (actor.Task m t) s.courses ≡ Some d
    → NextWork before s.parts result work q → IsAfter m t d result work q s Moved r → left r < left s
work_less s r m t d before work q (Ok turn.More) sound up is next step after =
    let goes = work_goes (answers_given s.courses) (in_progress s.works) s.parts q before work turn.More sound.steady (few s sound) is.paced step in
    let all = goes_beside m t s before work q (Ok turn.More) sound is goes.beside step in
    let sum = sum_places (left_in s.parts) (left_in q) s.works m t (Some work) sound.forty (others_same m t s q sound all.beside) in
    let less = goes.lowers in
    let within = is.within in
    let peers = all.peers in
    let as_many = all.unharmed in
    subst (λ (x : State). left x < left s) (sym after.1) (works_down s (with_hand m t (Some work) q s) all.beside.starts (omega (arith, as_many)) (omega (arith, sum, less, within, peers)))
work_less s r m t d before work q (Ok (turn.Ended reply)) sound up is next step after =
    let goes = work_goes (answers_given s.courses) (in_progress s.works) s.parts q before work (turn.Ended reply) sound.steady (few s sound) is.paced step in
    let all = goes_beside m t s before work q (Ok (turn.Ended reply)) sound is goes.beside step in
    let sum = sum_places (left_in s.parts) (left_in q) s.works m t None sound.forty (others_same m t s q sound all.beside) in
    let one = answered_less (actor.Task m t) (answer_to d reply s) d s.courses next in
    let less = goes.lowers in
    let within = is.within in
    let peers = all.peers in
    let as_many = all.unharmed in
    subst (λ (x : State). left x < left s) (sym after.1)
    (goes_down s (with_hand m t None q (with_answer (actor.Task m t) d reply s)) 1 all.beside.starts (omega (arith, as_many, one)) (omega (arith, sum, less, within, peers)))
work_less s r m t d before work q (Ok (turn.Waits cause)) sound up is next step after = absurd (moved_waits cause after.0)
work_less s r m t d before work q (Err LogFailed) sound up is next step after =
    let fails = work_fails (answers_given s.courses) (in_progress s.works) s.parts q before work sound.steady is.paced step in
    let all = goes_beside m t s before work q (Err LogFailed) sound is fails.beside step in
    let sum = sum_places (left_in s.parts) (left_in q) s.works m t (Some work) sound.forty (others_same m t s q sound all.beside) in
    let same = fails.same in
    let within = is.within in
    let peers = all.peers in
    let as_many = all.unharmed in
    let failed = with_hand m t (Some work) q s in
    let no_more = stays_down s failed all.beside.starts (omega (arith, as_many)) (omega (arith, sum, same, within, peers)) in
    let fewer = fallen_less failed r (end_falls m failed r (may_fall m t d work q s sound up next all.beside fails.managers) after.1) in
    omega (arith, no_more, fewer)
work_less s r m t d before work q (Err NoMemory) sound up is next step after = absurd after

-- ---- a step of an actor

begins : (s r : State) (m : Member) (t : TaskNo) (d : Directive) (request : Option Request) → IsSound s → IsUp m s → next_of (actor.Task m t) s.courses ≡ Some d → work_of m t s.works ≡ None → is_open (task_at m t s.parts.managers).stage ≡ true
    → WorkSteps m t d (begun_if m t request) s Moved r → left r < left s
begins s r m t d None sound up next is ready step = absurd step
begins s r m t d (Some asked_for) sound up next is ready step =
    work_less s r m t d (begun m t asked_for) step.work step.parts step.result sound up (fresh_before m t asked_for s sound up is ready) next step.next step.after

goes_on : (s r : State) (m : Member) (t : TaskNo) (d : Directive) (o : Option Request_in_progress) → IsSound s → IsUp m s → next_of (actor.Task m t) s.courses ≡ Some d → work_of m t s.works ≡ o → IsHand m t o s.courses s.parts
    → WorkSteps m t d (in_hand_or o (begun_if m t (request_of d))) s Moved r → left r < left s
goes_on s r m t d None sound up next is hand step = begins s r m t d (request_of d) sound up next is (hand up.has.manager) step
goes_on s r m t d (Some before) sound up next is hand step = work_less s r m t d before step.work step.parts step.result sound up (in_hand_before m t before s sound is hand) next step.next step.after

-- an answer, whatever it leaves due
answered_due : (s : State) (who : Actor) (d : Directive) (reply : Reply) (due : List Bool) → next_of who s.courses ≡ Some d → left (record (with_answer who d reply s) { due = due }) < left s
answered_due s who d reply due next =
    let one = answered_less who (answer_to d reply s) d s.courses next in
    goes_down s (record (with_answer who d reply s) { due = due }) 1 refl (omega (arith, one)) (omega arith)

request_less : (s r : State) (m : Member) (t : TaskNo) (d : Directive) (told : Bool) → IsSound s → IsUp m s → next_of (actor.Task m t) s.courses ≡ Some d → RequestSteps told m t d s Moved r → left r < left s
request_less s r m t d true sound up next step = subst (λ (x : State). left x < left s) (sym step.1) (answered_due s (actor.Task m t) d (reply.Refused reason.ConnectionBroken) (with_due m t false s.due) next)
request_less s r m t d false sound up next step = goes_on s r m t d (work_of m t s.works) sound up next refl (sound.hands m t) step

answer_less : (s r : State) (who : Actor) (d : Directive) (reply : Reply) → next_of who s.courses ≡ Some d → r ≡ with_answer who d reply s → left r < left s
answer_less s r who d reply next is = subst (λ (x : State). left x < left s) (sym is) (answered_due s who d reply s.due next)

-- a member that is up may end
may_crash : (m : Member) (s : State) → IsSound s → IsUp m s → MayFall m s
may_crash m s sound up = record {
  forty = sound.forty;
  eight = sound.eight;
  next = λ t w has. let asks = in_progress_asked s m t w sound has in (asks.directive, asks.next);
  up = (sound.steady.listed m up.has.manager).up up.up;
  few = omega (arith, sound.starts);
}

crash_less : (s r : State) (m : Member) (d : Directive) (up : Bool) → IsSound s → is_member_up m s ≡ up → next_of actor.Operator s.courses ≡ Some d → CrashSteps up m d s r → left r < left s
crash_less s r m d true sound is next step =
    let fallen = end_falls m s step.ended (may_crash m s sound (up_is m s sound is)) step.ends in
    subst (λ (x : State). left x < left s) (sym step.answered) (fallen_less s _ (answer_falls s step.ended actor.Operator (answer_to d reply.Done s) fallen))
crash_less s r m d false sound is next step = answer_less s r actor.Operator d _ next step

asked_less : (s r : State) (who : Actor) (d : Directive) (a : Asked) → IsSound s → is_up who s ≡ true → IsOwn who a → next_of who s.courses ≡ Some d → StepAsked who d a s Moved r → left r < left s
asked_less s r who d (Work m t) sound up own next step =
    request_less s r m t d (is_due m t s.due) sound (up_is m s sound (subst (λ (x : Actor). is_up x s ≡ true) own up)) (subst (λ (x : Actor). next_of x s.courses ≡ Some d) own next) step
asked_less s r who d (Until other answers) sound up own next step = answer_less s r who d _ next step.1
asked_less s r who d (Crash m pick) sound up own next step = crash_less s r m d (is_member_up m s) sound refl (subst (λ (x : Actor). next_of x s.courses ≡ Some d) own next) step.1
asked_less s r who d (Start m) sound up own next step = start_less s r m d sound (subst (λ (x : Actor). next_of x s.courses ≡ Some d) own next) step.1
asked_less s r who d Later sound up own next step = answer_less s r who d _ next step.1

own_work : (who : Actor) → IsOwn who (work_for who)
own_work (actor.Task m t) = refl
own_work actor.Operator = tt

asked_own : (who : Actor) (d : Directive) → IsOwn who (asked who d)
asked_own who (directive.Put queue body priority persistent msg_id correl_id) = own_work who
asked_own who (directive.Get queue msg_id correl_id) = own_work who
asked_own who directive.Commit = own_work who
asked_own who directive.Backout = own_work who
asked_own who (directive.Wait other answers) = tt
asked_own (actor.Task m t) (directive.Crash k pick) = tt
asked_own actor.Operator (directive.Crash k pick) = refl
asked_own (actor.Task m t) (directive.Start k) = tt
asked_own actor.Operator (directive.Start k) = refl
asked_own who (directive.Backup name) = tt
asked_own who (directive.Recover name kind) = tt
asked_own who (directive.ResetSmds k name wanted) = tt
asked_own who (directive.DisplayCfstatus name) = tt
asked_own who (directive.DisplayQueue name) = tt
asked_own who (directive.DisplaySmds name) = tt
asked_own who (directive.Stop k) = tt
asked_own who (directive.Lose k) = tt

-- an actor that isn't up waits
none_up : (b : Bool) (x : Option Cause) (cause : Cause) → cond b x (Some cause) ≡ None → b ≡ true
none_up true x cause is = refl
none_up false x cause is = cc

unless_less : (s r : State) (who : Actor) (d : Directive) (cause : Option Cause) → IsSound s → next_of who s.courses ≡ Some d → cause_of who (asked who d) s ≡ cause → StepUnless who d cause s Moved r → left r < left s
unless_less s r who d (Some cause) sound next is step = absurd (moved_waits cause step.0)
unless_less s r who d None sound next is step =
    asked_less s r who d (asked who d) sound (none_up (is_up who s) (cause_asked (asked who d) s) _ is) (asked_own who d) next step

at_less : (s r : State) (who : Actor) (o : Option Directive) → IsSound s → next_of who s.courses ≡ o → StepAt who o s Moved r → left r < left s
at_less s r who None sound is step = absurd (moved_done step.0)
at_less s r who (Some d) sound is step = unless_less s r who d (cause_of who (asked who d) s) sound is refl step

by_system : (s r : State) (m : Member) (has : Bool) → IsSound s → has_work m s ≡ has → SystemSteps has m s Moved r → left r < left s
by_system s r m true sound is step = system_less s r m sound is step.1
by_system s r m false sound is step = absurd (moved_done step.0)

as_less : (s r : State) (who : Actor) (system : Option Member) → IsSound s → StepAs system who s Moved r → left r < left s
as_less s r who (Some m) sound step = by_system s r m (has_work m s) sound refl step
as_less s r who None sound step = at_less s r who (next_of who s.courses) sound refl step

pub step_leaves_less : (s r : State) (who : Actor) → IsSound s → IsStep who s Moved r → left r < left s
step_leaves_less s r who sound step = as_less s r who (system_of who) sound step

-- ---- a step that isn't made

work_still : (m : Member) (t : TaskNo) (d : Directive) (result : Result Turn StepError) (work : Request_in_progress) (q : Owned) (s : State) (step : Step) (r : State) → IsAfter m t d result work q s step r → (step ≡ Moved) ⊎ (r ≡ s)
work_still m t d (Ok turn.More) work q s step r after = inl after.0
work_still m t d (Ok (turn.Ended reply)) work q s step r after = inl after.0
work_still m t d (Ok (turn.Waits cause)) work q s step r after = inr after.1
work_still m t d (Err LogFailed) work q s step r after = inl after.0
work_still m t d (Err NoMemory) work q s step r after = absurd after

works_still : (m : Member) (t : TaskNo) (d : Directive) (before : Option Request_in_progress) (s : State) (step : Step) (r : State) → WorkSteps m t d before s step r → (step ≡ Moved) ⊎ (r ≡ s)
works_still m t d None s step r made = absurd made
works_still m t d (Some before) s step r made = work_still m t d made.result made.work made.parts s step r made.after

request_still : (m : Member) (t : TaskNo) (d : Directive) (told : Bool) (s : State) (step : Step) (r : State) → RequestSteps told m t d s step r → (step ≡ Moved) ⊎ (r ≡ s)
request_still m t d true s step r made = inl made.0
request_still m t d false s step r made = works_still m t d _ s step r made

asked_still : (who : Actor) (d : Directive) (a : Asked) (s : State) (step : Step) (r : State) → StepAsked who d a s step r → (step ≡ Moved) ⊎ (r ≡ s)
asked_still who d (Work m t) s step r made = request_still m t d (is_due m t s.due) s step r made
asked_still who d (Until other answers) s step r made = inl made.0
asked_still who d (Crash m pick) s step r made = inl made.0
asked_still who d (Start m) s step r made = inl made.0
asked_still who d Later s step r made = inl made.0

unless_still : (who : Actor) (d : Directive) (cause : Option Cause) (s : State) (step : Step) (r : State) → StepUnless who d cause s step r → (step ≡ Moved) ⊎ (r ≡ s)
unless_still who d (Some cause) s step r made = inr made.1
unless_still who d None s step r made = asked_still who d (asked who d) s step r made

at_still : (who : Actor) (o : Option Directive) (s : State) (step : Step) (r : State) → StepAt who o s step r → (step ≡ Moved) ⊎ (r ≡ s)
at_still who None s step r made = inr made.1
at_still who (Some d) s step r made = unless_still who d (cause_of who (asked who d) s) s step r made

system_still : (m : Member) (has : Bool) (s : State) (step : Step) (r : State) → SystemSteps has m s step r → (step ≡ Moved) ⊎ (r ≡ s)
system_still m true s step r made = inl made.0
system_still m false s step r made = inr made.1

as_still : (who : Actor) (system : Option Member) (s : State) (step : Step) (r : State) → StepAs system who s step r → (step ≡ Moved) ⊎ (r ≡ s)
as_still who (Some m) s step r made = system_still m (has_work m s) s step r made
as_still who None s step r made = at_still who (next_of who s.courses) s step r made

pub moved_or_still : (s r : State) (who : Actor) (step : Step) → IsStep who s step r → (step ≡ Moved) ⊎ (r ≡ s)
moved_or_still s r who step made = as_still who (system_of who) s step r made

pub step_leaves_no_more : (s r : State) (who : Actor) (step : Step) → IsSound s → IsStep who s step r → left r ≤ left s
step_leaves_no_more s r who step sound made = elim (moved_or_still s r who step made) [
  | inl moved ↦
      let less = step_leaves_less s r who sound (subst (λ (x : Step). IsStep who s x r) moved made) in
      omega (arith, less)
  | inr same ↦ let as_many : left r ≡ left s = ap left same in omega (arith, as_many)
]

-- the history has more room, which doesn't count
no_more : (p q : Owned) → q.managers ≡ p.managers → q.logs ≡ p.logs → LeavesNoMore p q
no_more p q managers logs = record {
  tasks = λ k w. let same : marks_left (task_at k w q.managers) ≡ marks_left (task_at k w p.managers) = ap (λ (ms : List Manager). marks_left (task_at k w ms)) managers in omega (arith, same);
  hands = λ k. let same : left_of_run (hand_in k q.logs) ≡ left_of_run (hand_in k p.logs) = ap (λ (ls : List KeptLog). left_of_run (hand_in k ls)) logs in omega (arith, same);
}

roomy : (n : ℕ) (s : State) → left (record s { parts = with_room n s.parts }) ≡ left s
roomy n s = λ i. events_left s * most_added s.parts.repo + (works i + (peers i + left_of_starting s.starting))
  where
    p : Owned
    p = s.parts

    q : Owned
    q = with_room n s.parts

    works : sum_by (left_in q) s.works ≡ sum_by (left_in p) s.works
    works = omega (arith, works_fewer p q s.works (no_more p q refl refl), works_fewer q p s.works (no_more q p refl refl))

    peers : sum_by (left_to_peer q) s.peers ≡ sum_by (left_to_peer p) s.peers
    peers = omega (arith, all_peers_fewer p q s.peers (same_marks p q refl) (λ k. refl) (λ skip. omega arith), all_peers_fewer q p s.peers (same_marks q p refl) (λ k. refl) (λ skip. omega arith))

pub unmade_leaves_as_many : (s r : State) → IsUnmade s r → left r ≡ left s
unmade_leaves_as_many s r unmade = ap left unmade.others ∙ ap (λ (p : Owned). left (record s { parts = p })) unmade.parts.same ∙ roomy r.parts.history.room s

-- ---- a request in progress

pub in_progress_counted : (s : State) (m : Member) (t : TaskNo) (work : Request_in_progress) → IsSound s → work_of m t s.works ≡ Some work → 1 ≤ unanswered s.courses
in_progress_counted s m t work sound is = let asks = in_progress_asked s m t work sound is in unanswered_some (actor.Task m t) asks.directive s.courses asks.next
