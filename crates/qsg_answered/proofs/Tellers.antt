-- a step leaves which logs tell their bytes
use Rattle.std.proofs.Common.{◌≡◌, ℕ, ◌-◌, ◌≤◌, List, length, map, get_or, Bool, true, false, cond, Option, Some, None, Result, Ok, Err, inl, inr, refl, sym, ap, subst, ◌∙◌}
use Rattle.std.proofs.lemmas.List.{length-map}
use Rattle.std.proofs.Math.ListN.{get_or-map}
use Rattle.std.proofs.Math.Seq.{map-set_same}
use Rattle.qsg_num.specs.declared.seats.Member.{Member}
use Rattle.qsg_num.specs.declared.seats.TaskNo.{TaskNo}
use Rattle.qsg_num.specs.declared.ids.Actor.{Actor}
use Rattle.qsg_num.specs.declared.ids.UnitName.{UnitName}
use Rattle.qsg_num.specs.Seats.{member_number}
use Rattle.qsg_lists.specs.declared.parts.Entry.{Entry}
use Rattle.qsg_lists.specs.declared.parts.Lost.{Lost}
use Rattle.qsg_lists.specs.declared.parts.Seen.{Seen}
use Rattle.qsg_lists.specs.declared.parts.WriteWhy.{WriteWhy}
use Rattle.qsg_lists.specs.Structures.{lost_of, connect_answer}
use Rattle.qsg_lists.specs.declared.parts.Selector.{Selector}
use Rattle.qsg_logpage.specs.declared.writer.NoLog.{NoLog}
use Rattle.qsg_objects.specs.declared.directives.Directive.{Directive}
use Rattle.qsg_repo.specs.Keeping.{keep}
use Rattle.qsg_requests.specs.declared.replies.Cause.{Cause}
use Rattle.qsg_requests.specs.declared.replies.Reason.{Reason}
use Rattle.qsg_requests.specs.declared.replies.Turn.{Turn}
use Rattle.qsg_requests.specs.declared.replies.Turn.TheVariants as turn
use Rattle.qsg_requests.specs.declared.words.PutWords.{PutWords}
use Rattle.qsg_agenda.specs.Courses.{next_of}
use Rattle.qsg_group.specs.declared.tasks.Claim.{Claim}
use Rattle.qsg_manager.specs.Facilities.{structure_in}
use Rattle.qsg_manager.specs.Getting.{found_in}
use Rattle.qsg_manager.specs.Settles.{next_claim}
use Rattle.qsg_manager.specs.Storage.{task_at}
use Rattle.qsg_logs.specs.Kept.{KeptLog, no_log, log_in, with_log, fallen_back}
use Rattle.qsg_logs.specs.Writers.{reserve_answer}
use Rattle.qsg_parts.specs.Owned.{Owned}
use Rattle.qsg_steady.specs.Steady.{AreTelling}
use Rattle.qsg_put.specs.declared.checking.Terms.{Terms as PutTerms}
use Rattle.qsg_put.specs.declared.phases.Phase.{Phase as PutPhase}
use Rattle.qsg_put.specs.declared.phases.Phase.TheVariants as put_phase
use Rattle.qsg_put.specs.Checking.{check_answer as put_answer}
use Rattle.qsg_put.specs.Steps as put
use Rattle.qsg_get.specs.declared.checking.Terms.{Terms as GetTerms}
use Rattle.qsg_get.specs.declared.phases.Phase.{Phase as GetPhase}
use Rattle.qsg_get.specs.declared.phases.Phase.TheVariants as get_phase
use Rattle.qsg_get.specs.Checking.{check_answer as get_answer}
use Rattle.qsg_get.specs.Steps as get
use Rattle.qsg_commit.specs.declared.phases.Phase.{Phase as EndPhase}
use Rattle.qsg_commit.specs.declared.phases.Phase.TheVariants as end_phase
use Rattle.qsg_commit.specs.declared.phases.StepError.{StepError}
use Rattle.qsg_commit.specs.declared.phases.StepError.TheVariants.{NoMemory, LogFailed}
use Rattle.qsg_commit.specs.declared.phases.Taken.{Taken}
use Rattle.qsg_commit.specs.declared.phases.Taken.TheVariants.{Nothing, Busy, Begun}
use Rattle.qsg_commit.specs.Committing.{take_answer, IsPageStep}
use Rattle.qsg_commit.specs.Ending.{settled_by, settled, is_settled, ended, given_up}
use Rattle.qsg_commit.specs.Next.{Next, after_settle, after_publish, after_undo, after_give_up, LatchStep, NextAt}
use Rattle.qsg_commit.specs.Pending.{pending}
use Rattle.qsg_works.specs.declared.work.Work.{Work}
use Rattle.qsg_works.specs.declared.work.Work.TheVariants.{Put, Get, Commit}
use Rattle.qsg_works.specs.Steps.{NextWork}
use Rattle.qsg_step.specs.declared.asked.Asked.{Asked}
use Rattle.qsg_step.specs.declared.asked.Asked.TheVariants as asks
use Rattle.qsg_step.specs.declared.step.Step.{Step}
use Rattle.qsg_step.specs.Asking.{asked}
use Rattle.qsg_step.specs.States.{State, is_due, is_member_up}
use Rattle.qsg_step.specs.Ends.{IsEnd}
use Rattle.qsg_step.specs.Steps.{IsAfter, with_hand, work_before, WorkSteps, RequestSteps, CrashSteps, start_reply, start_before, started_as, IsStartStep, peer_work_before, peer_before, IsPeerStep, SystemSteps, StepAsked, StepUnless, StepAt, StepAs, IsStep}
use Rattle.qsg_step.specs.Waiting.{cause_of, has_work, system_of}
use Rattle.qsg_num.specs.declared.ids.Incarnation.{Incarnation}
use Rattle.qsg_repo.specs.Lives.{first_open}
use Rattle.qsg_requests.specs.declared.replies.Reply.{Reply}
use Rattle.qsg_manager.specs.Storage.{manager_in}
use Rattle.qsg_logs.specs.Reading.{IsRead}
use Rattle.qsg_start.specs.declared.phases.StartTurn.{StartTurn}
use Rattle.qsg_start.specs.declared.phases.Phase.{Phase as StartPhase}
use Rattle.qsg_start.specs.declared.phases.Phase.TheVariants as start_phase
use Rattle.qsg_start.specs.Works.{Work as StartWork}
use Rattle.qsg_start.specs.Steps as starting
use Rattle.qsg_start.specs.Steps.{Next as NextOfStart, checked}
use Rattle.qsg_peer.specs.declared.phases.FailedLife.{FailedLife}
use Rattle.qsg_peer.specs.declared.phases.PeerTurn.{PeerTurn}
use Rattle.qsg_peer.specs.declared.phases.Phase.{Phase as PeerPhase}
use Rattle.qsg_peer.specs.declared.phases.Phase.TheVariants.{Find, Low, At}
use Rattle.qsg_peer.specs.declared.phases.Stage.{Stage}
use Rattle.qsg_peer.specs.declared.phases.Stage.TheVariants.{Read, Connect, Search, Settle, Resolve}
use Rattle.qsg_peer.specs.Works.{Work as PeerWork}
use Rattle.qsg_peer.specs.Steps as peer
use Rattle.qsg_peer.specs.Steps.{Next as NextOfPeer}

-- of each log, whether it tells its bytes
abbrev tells : KeptLog → Bool
tells log = log.tells

abbrev pub tellers : Owned → List Bool
tellers p = map tells p.logs

pub telling_of : (p q : Owned) → tellers q ≡ tellers p → AreTelling q → AreTelling p
telling_of p q same telling m there =
    let i = member_number m - 1 in
    let long : length q.logs ≡ length p.logs = sym (length-map q.logs tells) ∙ ap length same ∙ length-map p.logs tells in
    let at : (log_in m p.logs).tells ≡ (log_in m q.logs).tells = sym (get_or-map tells p.logs i no_log) ∙ ap (λ (l : List Bool). get_or l i false) (sym same) ∙ get_or-map tells q.logs i no_log in
    at ∙ telling m (subst (λ n. member_number m ≤ n) (sym long) there)

-- a log that tells as the one in its place did
log_same : (m : Member) (y : KeptLog) (logs : List KeptLog) → y.tells ≡ (log_in m logs).tells → map tells (with_log m y logs) ≡ map tells logs
log_same m y logs same = map-set_same tells logs (member_number m - 1) y no_log same

fallen_same : (t : TaskNo) (u : UnitName) (b : Bool) (log : KeptLog) → (fallen_back t u b log).tells ≡ log.tells
fallen_same t u true log = refl
fallen_same t u false log = refl

-- ---- a put

put_falls : (m : Member) (t : TaskNo) (u : UnitName) (p : Owned) → tellers (put.fallen m t u p) ≡ tellers p
put_falls m t u p = log_same m (fallen_back t u (put.has_operations m t p.managers) (log_in m p.logs)) p.logs (fallen_same t u (put.has_operations m t p.managers) (log_in m p.logs))

put_reserves : (m : Member) (t : TaskNo) (words : PutWords) (terms : PutTerms) (p : Owned) (answer : Result (Unit {0}) NoLog) → tellers (put.after_reserve m t words terms p answer).parts ≡ tellers p
put_reserves m t words terms p (Err why) = refl
put_reserves m t words terms p (Ok done) = log_same m _ p.logs refl

put_checks : (m : Member) (t : TaskNo) (words : PutWords) (p : Owned) (answer : Result PutTerms Reason) → tellers (put.after_check m t words p answer).parts ≡ tellers p
put_checks m t words p (Err reason) = refl
put_checks m t words p (Ok terms) = put_reserves m t words terms p (reserve_answer (put.unit_of m t p.managers) (put.need m t words terms p) (keep m p.repo) (log_in m p.logs).writer)

put_connects : (m : Member) (t : TaskNo) (u : UnitName) (terms : PutTerms) (p : Owned) (answer : Result Seen Lost) → tellers (put.after_connect m t u terms p answer).parts ≡ tellers p
put_connects m t u terms p (Err lost) = put_falls m t u p
put_connects m t u terms p (Ok seen) = refl

put_refuses : (m : Member) (t : TaskNo) (u : UnitName) (terms : PutTerms) (epoch : ℕ) (p : Owned) (reason : Option Reason) → tellers (put.after_refusal m t u terms epoch p reason).parts ≡ tellers p
put_refuses m t u terms epoch p (Some reason) = put_falls m t u p
put_refuses m t u terms epoch p None = refl

put_writes : (m : Member) (t : TaskNo) (words : PutWords) (u : UnitName) (terms : PutTerms) (epoch : ℕ) (p : Owned) (why : Option WriteWhy) → tellers (put.after_write m t words u terms epoch p why).parts ≡ tellers p
put_writes m t words u terms epoch p None = log_same m _ p.logs refl
put_writes m t words u terms epoch p (Some why) = put_refuses m t u terms epoch p (put.reason_of why)

put_at : (m : Member) (t : TaskNo) (words : PutWords) (p : Owned) (phase : PutPhase) → tellers (put.next_at m t words p phase).parts ≡ tellers p
put_at m t words p put_phase.Check = put_checks m t words p (put_answer p.objects words (length (task_at m t p.managers).ops))
put_at m t words p (put_phase.Connect u terms) = put_connects m t u terms p (connect_answer (structure_in terms.structure p.structures))
put_at m t words p (put_phase.Write u terms epoch) = put_writes m t words u terms epoch p (put.refusal_of words terms epoch p)

-- ---- a get

get_falls : (m : Member) (t : TaskNo) (u : UnitName) (p : Owned) → tellers (get.fallen m t u p) ≡ tellers p
get_falls m t u p = log_same m (fallen_back t u (get.has_operations m t p.managers) (log_in m p.logs)) p.logs (fallen_same t u (get.has_operations m t p.managers) (log_in m p.logs))

get_reserves : (m : Member) (t : TaskNo) (terms : GetTerms) (p : Owned) (answer : Result (Unit {0}) NoLog) → tellers (get.after_reserve m t terms p answer).parts ≡ tellers p
get_reserves m t terms p (Err why) = refl
get_reserves m t terms p (Ok done) = log_same m _ p.logs refl

get_checks : (m : Member) (t : TaskNo) (p : Owned) (answer : Result GetTerms Reason) → tellers (get.after_check m t p answer).parts ≡ tellers p
get_checks m t p (Err reason) = refl
get_checks m t p (Ok terms) = get_reserves m t terms p (reserve_answer (get.unit_of m t p.managers) (get.need m t p) (keep m p.repo) (log_in m p.logs).writer)

get_connects : (m : Member) (t : TaskNo) (u : UnitName) (terms : GetTerms) (p : Owned) (answer : Result Seen Lost) → tellers (get.after_connect m t u terms p answer).parts ≡ tellers p
get_connects m t u terms p (Err lost) = get_falls m t u p
get_connects m t u terms p (Ok seen) = refl

get_takes : (m : Member) (t : TaskNo) (u : UnitName) (terms : GetTerms) (epoch : ℕ) (p : Owned) (lost : Option Lost) (found : Option Entry) → tellers (get.after_take m t u terms epoch p lost found).parts ≡ tellers p
get_takes m t u terms epoch p (Some lost) found = get_falls m t u p
get_takes m t u terms epoch p None None = get_falls m t u p
get_takes m t u terms epoch p None (Some e) = log_same m _ p.logs refl

get_at : (m : Member) (t : TaskNo) (queue : List ℕ) (select : Selector) (p : Owned) (phase : GetPhase) → tellers (get.next_at m t queue select p phase).parts ≡ tellers p
get_at m t queue select p get_phase.Check = get_checks m t p (get_answer p.objects queue (length (task_at m t p.managers).ops))
get_at m t queue select p (get_phase.Connect u terms) = get_connects m t u terms p (connect_answer (structure_in terms.structure p.structures))
get_at m t queue select p (get_phase.Take u terms epoch) = get_takes m t u terms epoch p (lost_of (structure_in terms.structure p.structures) (get.use_of terms epoch)) (found_in (get.use_of terms epoch) queue terms.order select p.structures)

-- ---- a COMMIT or BACKOUT

latches : (m : Member) (t : TaskNo) (taken : Taken) (p q : Owned) (said : Turn) (phase : EndPhase) → LatchStep m t taken p said phase q → tellers q ≡ tellers p
latches m t Nothing p q said phase step = ap tellers step.2
latches m t (Busy busy) p q said phase step = ap tellers step.2
latches m t (Begun u count) p q said phase step = ap tellers step.2.parts ∙ log_same m _ p.logs refl

pages : (t : TaskNo) (u : UnitName) (done : Bool) (p q : Owned) → IsPageStep u t done p q → tellers q ≡ tellers p
pages t u false p q step = ap tellers step.made ∙ log_same u.member (log_in u.member q.logs) p.logs step.written.tells
pages t u true p q step = ap tellers step.made.parts ∙ log_same u.member (log_in u.member q.logs) p.logs step.written.tells

settles_by : (t : TaskNo) (u : UnitName) (next : Option Claim) (p : Owned) → tellers (settled_by u t next p) ≡ tellers p
settles_by t u None p = refl
settles_by t u (Some c) p = refl

settles : (t : TaskNo) (u : UnitName) (p : Owned) → tellers (settled u t p) ≡ tellers p
settles t u p = settles_by t u (next_claim (task_at u.member t p.managers)) p

ends : (t : TaskNo) (u : UnitName) (p : Owned) → tellers (ended u t p) ≡ tellers p
ends t u p = log_same u.member _ p.logs refl

undoes_by : (t : TaskNo) (u : UnitName) (p : Owned) (z : Bool) → tellers (cond z (ended u t p) p) ≡ tellers p
undoes_by t u p true = ends t u p
undoes_by t u p false = refl

undoes : (t : TaskNo) (u : UnitName) (count : ℕ) (at : EndPhase) (p : Owned) → tellers (after_undo t u count at p).parts ≡ tellers p
undoes t u count at p = undoes_by t u (settled u t p) (is_settled u t (settled u t p)) ∙ settles t u p

gives_up : (t : TaskNo) (found : Option (UnitName × ℕ)) (p : Owned) → tellers (after_give_up t found p).parts ≡ tellers p
gives_up t None p = refl
gives_up t (Some (u, count)) p = undoes t u count end_phase.GiveUp (given_up u t p)

parts_are : (said : Turn) (phase : EndPhase) (p q : Owned) (next : Next) → record { turn = said; phase = phase; parts = q } ≡ next → tellers next.parts ≡ tellers p → tellers q ≡ tellers p
parts_are said phase p q next is same = ap (λ (x : Next). tellers x.parts) is ∙ same

end_at : (m : Member) (t : TaskNo) (p q : Owned) (before phase : EndPhase) (said : Turn) → NextAt m t before p (Ok said) phase q → tellers q ≡ tellers p
end_at m t p q end_phase.Latch phase said next = latches m t (take_answer m t p) p q said phase next
end_at m t p q (end_phase.Pages u count) phase said next = pages t u next.0 p q next.3
end_at m t p q (end_phase.Settle u count) phase said next = parts_are said phase p q (after_settle t u count p) next (settles t u p)
end_at m t p q (end_phase.Publish u count) phase said next = parts_are said phase p q (after_publish t u count p) next (ends t u p)
end_at m t p q end_phase.GiveUp phase said next = parts_are said phase p q (after_give_up t (pending (task_at m t p.managers)) p) next (gives_up t (pending (task_at m t p.managers)) p)
end_at m t p q (end_phase.Undo u count) phase said next = parts_are said phase p q (after_undo t u count (end_phase.Undo u count) p) next (undoes t u count (end_phase.Undo u count) p)

failed_at : (m : Member) (t : TaskNo) (p q : Owned) (before phase : EndPhase) → NextAt m t before p (Err LogFailed) phase q → tellers q ≡ tellers p
failed_at m t p q (end_phase.Pages u count) phase next = ap tellers next.1.parts ∙ log_same u.member (log_in u.member q.logs) p.logs next.1.tells
failed_at m t p q before phase next = absurd next

-- ---- a step of a request

work_at : (p q : Owned) (before work : Work) (said : Turn) → NextWork before p (Ok said) work q → tellers q ≡ tellers p
work_at p q (Put old) (Put new) said next = ap (λ (x : put.Next). tellers x.parts) next.1 ∙ put_at old.member old.task old.words p old.phase
work_at p q (Get old) (Get new) said next = ap (λ (x : get.Next). tellers x.parts) next.1 ∙ get_at old.member old.task old.queue old.select p old.phase
work_at p q (Commit old) (Commit new) said next = end_at old.member old.task p q old.phase new.phase said next.next
work_at p q before work said next = absurd next

failed_work : (p q : Owned) (before work : Work) → NextWork before p (Err LogFailed) work q → tellers q ≡ tellers p
failed_work p q (Commit old) (Commit new) next = failed_at old.member old.task p q old.phase new.phase next.next
failed_work p q (Put old) (Put new) next = absurd next
failed_work p q (Get old) (Get new) next = absurd next
failed_work p q before work next = absurd next

-- ---- the end of a member, a START, and system tasks

end_tells : (m : Member) (s r : State) → IsEnd m s r → tellers r.parts ≡ tellers s.parts
end_tells m s r end = ap tellers end.crash.parts ∙ log_same m (log_in m r.parts.logs) s.parts.logs end.crash.log.tells

read_tells : (m : Member) (p q : Owned) → q ≡ record p { logs = with_log m (log_in m q.logs) p.logs } → IsRead (log_in m p.logs) (log_in m q.logs) → tellers q ≡ tellers p
read_tells m p q is read = ap tellers is ∙ log_same m (log_in m q.logs) p.logs (ap (λ (l : KeptLog). l.tells) read.rest)

start_parts : (next : NextOfStart) (turn : StartTurn) (v : StartWork) (q : Owned) → record { turn = turn; work = v; parts = q } ≡ next → tellers q ≡ tellers next.parts
start_parts next turn v q is = ap (λ (x : NextOfStart). tellers x.parts) is

check_tells : (up : Bool) (w : StartWork) (p : Owned) → tellers (checked up w p).parts ≡ tellers p
check_tells true w p = refl
check_tells false w p = refl

start_acts : (phase : StartPhase) (w : StartWork) (p : Owned) (turn : StartTurn) (v : StartWork) (q : Owned) → starting.Acts phase w p (Ok turn) v q → tellers q ≡ tellers p
start_acts start_phase.Check w p turn v q acts = start_parts (starting.after_check w p) turn v q acts ∙ check_tells (manager_in w.member p.managers).up w p
start_acts start_phase.Low w p turn v q acts = start_parts (starting.after_low w p) turn v q acts
start_acts start_phase.Read w p turn v q acts = read_tells w.member p q acts.0.others acts.0.log
start_acts (start_phase.Begin page) w p turn v q acts = start_parts (starting.after_begin page w p) turn v q acts ∙ log_same w.member _ p.logs refl

start_goes : (w : StartWork) (p : Owned) (turn : StartTurn) (v : StartWork) (q : Owned) → starting.GoesOn w p (Ok turn) v q → tellers q ≡ tellers p
start_goes w p turn v q (inl given) = ap tellers given.parts_are
start_goes w p turn v q (inr (inl lacks)) = ap tellers lacks.parts_are
start_goes w p turn v q (inr (inr acted)) = start_acts w.phase (record w { walk = acted.walk }) p turn v q acted.acts

start_at : (phase : StartPhase) (w : StartWork) (p : Owned) (turn : StartTurn) (v : StartWork) (q : Owned) → starting.NextAt phase w p (Ok turn) v q → tellers q ≡ tellers p
start_at start_phase.Check w p turn v q next = start_parts (starting.after_check w p) turn v q next ∙ check_tells (manager_in w.member p.managers).up w p
start_at start_phase.Low w p turn v q next = start_parts (starting.after_low w p) turn v q next
start_at start_phase.Read w p turn v q next = start_goes w p turn v q next
start_at (start_phase.Begin page) w p turn v q next = start_goes w p turn v q next

started_parts : (said : Option Reply) (d : Directive) (work : StartWork) (q : Owned) (s : State) → (started_as said d work q s).parts ≡ q
started_parts None d work q s = refl
started_parts (Some said) d work q s = refl

start_tells : (m : Member) (d : Directive) (s r : State) → IsStartStep m d s r → tellers r.parts ≡ tellers s.parts
start_tells m d s r step =
    ap (λ (x : State). tellers x.parts) step.after ∙ ap tellers (started_parts (start_reply m step.turn) d step.work step.parts s)
    ∙ start_at (start_before m s).phase (start_before m s) s.parts step.turn step.work step.parts step.next

peer_parts : (next : NextOfPeer) (turn : PeerTurn) (v : PeerWork) (q : Owned) → record { turn = turn; work = v; parts = q } ≡ next → tellers q ≡ tellers next.parts
peer_parts next turn v q is = ap (λ (x : NextOfPeer). tellers x.parts) is

find_tells : (phase : Option PeerPhase) (w : PeerWork) (p : Owned) → tellers (peer.after_find phase w p).parts ≡ tellers p
find_tells None w p = refl
find_tells (Some phase) w p = refl

peer_acts : (life : FailedLife) (stage : Stage) (w : PeerWork) (p : Owned) (turn : PeerTurn) (v : PeerWork) (q : Owned) → peer.Acts life stage w p (Ok turn) v q → tellers q ≡ tellers p
peer_acts life Read w p turn v q acts = read_tells life.member p q acts.0.others acts.0.log
peer_acts life (Connect s) w p turn v q acts = peer_parts (peer.after_connect life s w p) turn v q acts
peer_acts life (Search connection after) w p turn v q acts = peer_parts (peer.after_search life connection after w p) turn v q acts
peer_acts life (Settle connection found) w p turn v q acts = peer_parts (peer.after_settle life connection found w p) turn v q acts
peer_acts life Resolve w p turn v q acts = peer_parts (peer.after_resolve life w p) turn v q acts

peer_goes : (life : FailedLife) (stage : Stage) (w : PeerWork) (p : Owned) (turn : PeerTurn) (v : PeerWork) (q : Owned) → peer.GoesOn life stage w p (Ok turn) v q → tellers q ≡ tellers p
peer_goes life stage w p turn v q (inl given) = ap tellers given.parts_are
peer_goes life stage w p turn v q (inr (inl lacks)) = ap tellers lacks.parts_are
peer_goes life stage w p turn v q (inr (inr acted)) = peer_acts life stage (record w { walk = acted.walk }) p turn v q acted.acts

peer_at : (skip : List (Member × Incarnation)) (phase : PeerPhase) (w : PeerWork) (p : Owned) (turn : PeerTurn) (v : PeerWork) (q : Owned) → peer.NextAt skip phase w p (Ok turn) v q → tellers q ≡ tellers p
peer_at skip Find w p turn v q next = let found = peer.found_phase (first_open skip p.repo.lives) in peer_parts (peer.after_find found w p) turn v q next ∙ find_tells found w p
peer_at skip (Low life) w p turn v q next = peer_parts (peer.after_low life w p) turn v q next
peer_at skip (At life stage) w p turn v q next = peer_goes life stage w p turn v q next

peer_tells : (m : Member) (s r : State) → IsPeerStep m s r → tellers r.parts ≡ tellers s.parts
peer_tells m s r step =
    ap (λ (x : State). tellers x.parts) step.after ∙ peer_at (peer_before m s).given_up (peer_work_before m s).phase (peer_work_before m s) s.parts step.steps.turn step.steps.work step.parts step.steps.next

-- ---- a step

after_at : (m : Member) (t : TaskNo) (d : Directive) (before work : Work) (result : Result Turn StepError) (q : Owned) (s : State) (step : Step) (r : State) → NextWork before s.parts result work q → IsAfter m t d result work q s step r
    → tellers r.parts ≡ tellers s.parts
after_at m t d before work (Ok turn.More) q s step r next after = ap (λ (x : State). tellers x.parts) after.1 ∙ work_at s.parts q before work turn.More next
after_at m t d before work (Ok (turn.Ended said)) q s step r next after = ap (λ (x : State). tellers x.parts) after.1 ∙ work_at s.parts q before work (turn.Ended said) next
after_at m t d before work (Ok (turn.Waits cause)) q s step r next after = ap (λ (x : State). tellers x.parts) after.1
after_at m t d before work (Err LogFailed) q s step r next after = end_tells m (with_hand m t (Some work) q s) r after.1 ∙ failed_work s.parts q before work next
after_at m t d before work (Err NoMemory) q s step r next after = absurd after

work_steps : (s r : State) (m : Member) (t : TaskNo) (d : Directive) (before : Option Work) (step : Step) → WorkSteps m t d before s step r → tellers r.parts ≡ tellers s.parts
work_steps s r m t d None step steps = absurd steps
work_steps s r m t d (Some before) step steps = after_at m t d before steps.work steps.result steps.parts s step r steps.next steps.after

request_steps : (s r : State) (m : Member) (t : TaskNo) (d : Directive) (due : Bool) (step : Step) → RequestSteps due m t d s step r → tellers r.parts ≡ tellers s.parts
request_steps s r m t d true step steps = ap (λ (x : State). tellers x.parts) steps.1
request_steps s r m t d false step steps = work_steps s r m t d (work_before m t d s) step steps

crash_steps : (s r : State) (m : Member) (d : Directive) (up : Bool) → CrashSteps up m d s r → tellers r.parts ≡ tellers s.parts
crash_steps s r m d true steps = ap (λ (x : State). tellers x.parts) steps.answered ∙ end_tells m s steps.ended steps.ends
crash_steps s r m d false steps = ap (λ (x : State). tellers x.parts) steps

asked_steps : (s r : State) (who : Actor) (d : Directive) (a : Asked) (step : Step) → StepAsked who d a s step r → tellers r.parts ≡ tellers s.parts
asked_steps s r who d (asks.Work m t) step steps = request_steps s r m t d (is_due m t s.due) step steps
asked_steps s r who d (asks.Until other n) step steps = ap (λ (x : State). tellers x.parts) steps.1
asked_steps s r who d (asks.Crash m pick) step steps = crash_steps s r m d (is_member_up m s) steps.1
asked_steps s r who d (asks.Start m) step steps = start_tells m d s r steps.1
asked_steps s r who d asks.Later step steps = ap (λ (x : State). tellers x.parts) steps.1

unless_steps : (s r : State) (who : Actor) (d : Directive) (cause : Option Cause) (step : Step) → StepUnless who d cause s step r → tellers r.parts ≡ tellers s.parts
unless_steps s r who d (Some cause) step steps = ap (λ (x : State). tellers x.parts) steps.1
unless_steps s r who d None step steps = asked_steps s r who d (asked who d) step steps

steps_at : (s r : State) (who : Actor) (next : Option Directive) (step : Step) → StepAt who next s step r → tellers r.parts ≡ tellers s.parts
steps_at s r who None step steps = ap (λ (x : State). tellers x.parts) steps.1
steps_at s r who (Some d) step steps = unless_steps s r who d (cause_of who (asked who d) s) step steps

system_steps : (s r : State) (m : Member) (works : Bool) (step : Step) → SystemSteps works m s step r → tellers r.parts ≡ tellers s.parts
system_steps s r m true step steps = peer_tells m s r steps.1
system_steps s r m false step steps = ap (λ (x : State). tellers x.parts) steps.1

steps_as : (s r : State) (who : Actor) (system : Option Member) (step : Step) → StepAs system who s step r → tellers r.parts ≡ tellers s.parts
steps_as s r who (Some m) step steps = system_steps s r m (has_work m s) step steps
steps_as s r who None step steps = steps_at s r who (next_of who s.courses) step steps

pub step_leaves_telling : (s r : State) (who : Actor) (step : Step) → IsStep who s step r → AreTelling r.parts → AreTelling s.parts
step_leaves_telling s r who step steps = telling_of s.parts r.parts (steps_as s r who (system_of who) step steps)
