-- a step of a START, and other answers of the operator, leave the answers fitting
use Rattle.std.proofs.Common.{◌≡◌, ℕ, ◌+◌, ◌-◌, ◌≤◌, List, length, length-set, Bool, true, false, Option, Some, None, Result, Ok, Err, inl, inr, refl, sym, ap, subst, ◌∙◌, arith, true≢false}
use Rattle.std.specs.Prelude.{◌==◌, IfSome, count_by, sum_by}
use Rattle.std.proofs.lemmas.Bool.{ne_eqb}
use Rattle.std.proofs.lemmas.Bool.Decides.{nat_tests}
use Rattle.std.proofs.lemmas.Option.{same_Some}
use Rattle.qsg_num.specs.declared.seats.Member.{Member}
use Rattle.qsg_num.specs.declared.ids.Actor.{Actor}
use Rattle.qsg_num.specs.declared.ids.Actor.TheVariants as actor
use Rattle.qsg_num.specs.declared.ids.Incarnation.{Incarnation}
use Rattle.qsg_num.specs.declared.ids.PageNo.{PageNo}
use Rattle.qsg_num.specs.Seats.{member_number}
use Rattle.qsg_objects.specs.declared.directives.Directive.{Directive}
use Rattle.qsg_objects.specs.declared.directives.Directive.TheVariants as directive
use Rattle.qsg_repo.specs.Calls.{next_incarnation}
use Rattle.qsg_repo.specs.Lives.{is_member}
use Rattle.qsg_requests.specs.declared.replies.Reason.TheVariants as reason
use Rattle.qsg_requests.specs.declared.replies.Reply.{Reply}
use Rattle.qsg_requests.specs.declared.replies.Reply.TheVariants as reply
use Rattle.qsg_agenda.specs.Courses.{next_of, answered}
use Rattle.qsg_group.specs.Laws.{IsDrawn, HasEnded}
use Rattle.qsg_group.proofs.Tables.{cases_member}
use Rattle.qsg_manager.specs.declared.managers.Manager.{Manager}
use Rattle.qsg_manager.specs.Groups.{seat_of}
use Rattle.qsg_manager.specs.Seats.{with_started}
use Rattle.qsg_manager.specs.Storage.{no_manager, manager_in, task_in, task_at}
use Rattle.qsg_manager.proofs.Grouping.{manager_same, manager_other}
use Rattle.qsg_logs.specs.Kept.{KeptLog, log_in, with_log}
use Rattle.qsg_parts.specs.Owned.{Owned}
use Rattle.qsg_steady.specs.Steady.{IsSteady}
use Rattle.qsg_steady.proofs.Places.{member_some}
use Rattle.qsg_lives.proofs.Incarnations.{starts_unresolved}
use Rattle.qsg_lives.proofs.Starting.{start_ended}
use Rattle.qsg_peer.specs.declared.phases.FailedLife.{FailedLife}
use Rattle.qsg_peer.specs.Machine.{IsOver}
use Rattle.qsg_peers.specs.Peers.{peer_of}
use Rattle.qsg_start.specs.declared.phases.NoMemory.{NoMemory}
use Rattle.qsg_start.specs.declared.phases.StartTurn.{StartTurn}
use Rattle.qsg_start.specs.declared.phases.StartTurn.TheVariants.{More, Up, Started, Fault}
use Rattle.qsg_start.specs.declared.phases.Phase.{Phase}
use Rattle.qsg_start.specs.declared.phases.Phase.TheVariants.{Check, Low, Read, Begin}
use Rattle.qsg_start.specs.Steps.{Next, checked, after_check, after_low, after_begin, started, Acts, GoesOn, NextAt, NextStart}
use Rattle.qsg_start.specs.Works.{Work}
use Rattle.qsg_step.specs.States.{State}
use Rattle.qsg_step.specs.Steps.{answer_to, with_answer, start_or, start_before, start_reply, started_as, IsStartStep}
use Rattle.qsg_step.specs.Asking.{asked}
use Rattle.qsg_sound.specs.Sound.{answers_given, in_progress, IsSound}
use Rattle.qsg_sound.specs.Systems.{IsStarting}
use Rattle.qsg_answered.specs.Telling.{requested, starts, starts_in}
use Rattle.qsg_answered.specs.Fits.{EndsOther, AreFitting}
use Rattle.qsg_answered.proofs.Answering.{starts_answered}
use Rattle.qsg_answered.proofs.Breaking.{next_is}
use Rattle.qsg_answered.proofs.Frames.{set_or}
use Rattle.qsg_answered.proofs.Keeping.{IsBeside, carried_self, carried_other, pending_stays, moved_fits}
use Rattle.qsg_answered.proofs.Outcomes.{one_if}
use Rattle.qsg_answered.proofs.Staying.{systems_stay}
use Rattle.qsg_answered.proofs.Systems.{beside_logs, beside_goes}

-- ---- an answer without a request

pub other_fits : (who : Actor) (d : Directive) (said : Reply) (s : State) → AreFitting s → next_of who s.courses ≡ Some d → requested who d ≡ None → EndsOther (asked who d) said → ((k : Member) → starts k (asked who d) said ≡ false) → AreFitting (with_answer who d said s)
other_fits who d said s fits next none ends unstarted =
    let found = next_is who d s.courses next in
    let a = answer_to d said s in
    let p = s.parts in
    moved_fits s p (answered who a s.courses) s.starting s.peers s.tallies fits (beside_logs p p.logs) (carried_other p.objects p.history.items p who d a found.0 s.courses found.1 refl none ends)
    (λ k w. pending_stays p.objects who d a found.0 s.courses k w found.1 none)
    (λ k within. let more = starts_answered k who d a found.0 s.courses found.1 in let zero = ap one_if (unstarted k) in let old = fits.given k within in omega (arith, more, zero, old))
    (λ k. let own = fits.systems k in record { answers = own.answers; given_up = own.given_up; timed = own.timed })

-- ---- what a step of a START changes

-- the member came up, or nothing but logs changed
abbrev pub StartMoves : Work → Owned → StartTurn → Owned → Type 0
StartMoves w p (Started i) q = (page : PageNo) × (i ≡ next_incarnation w.member p.repo) × (q ≡ started w.member page p)
StartMoves w p turn q = (logs : List KeptLog) × (q ≡ record p { logs = logs })

turn_in : Result StartTurn NoMemory → StartTurn
turn_in (Ok turn) = turn
turn_in (Err e) = Up

start_made : (w : Work) (p : Owned) (next : Next) (turn : StartTurn) (v : Work) (q : Owned) → record { turn = turn; work = v; parts = q } ≡ next → StartMoves w p next.turn next.parts → StartMoves w p turn q
start_made w p next turn v q is moved = subst (λ (x : Next). StartMoves w p x.turn x.parts) (sym is) moved

checks : (w : Work) (p : Owned) (up : Bool) → StartMoves w p (checked up w p).turn (checked up w p).parts
checks w p true = (p.logs, refl)
checks w p false = (p.logs, refl)

start_acts : (w x : Work) (p : Owned) (phase : Phase) (turn : StartTurn) (v : Work) (q : Owned) → x.member ≡ w.member → Acts phase x p (Ok turn) v q → StartMoves w p turn q
start_acts w x p Check turn v q same acts = start_made w p (after_check x p) turn v q acts (by (manager_in x.member p.managers).up)
  where
    by : (up : Bool) → StartMoves w p (checked up x p).turn (checked up x p).parts
    by true = (p.logs, refl)
    by false = (p.logs, refl)
start_acts w x p Low turn v q same acts = start_made w p (after_low x p) turn v q acts (p.logs, refl)
start_acts w x p Read turn v q same acts = elim acts.1 [
  | inl failed ↦ subst (λ (z : StartTurn). StartMoves w p z q) (sym failed.turn_is) (with_log x.member (log_in x.member q.logs) p.logs, acts.0.others)
  | inr found ↦ subst (λ (z : StartTurn). StartMoves w p z q) (sym found.turn_is) (with_log x.member (log_in x.member q.logs) p.logs, acts.0.others)
]
start_acts w x p (Begin page) turn v q same acts = start_made w p (after_begin page x p) turn v q acts (page, ap (λ (m : Member). next_incarnation m p.repo) same, ap (λ (m : Member). started m page p) same)

start_goes : (w : Work) (p : Owned) (turn : StartTurn) (v : Work) (q : Owned) → GoesOn w p (Ok turn) v q → StartMoves w p turn q
unfolding turn_in
start_goes w p turn v q (inl given) = subst (λ (z : StartTurn). StartMoves w p z q) (sym (ap turn_in given.turn_is)) (p.logs, given.parts_are)
start_goes w p turn v q (inr (inl lacks)) = absurd (true≢false (sym lacks.refused))
start_goes w p turn v q (inr (inr acted)) = start_acts w (record w { walk = acted.walk }) p w.phase turn v q refl acted.acts

start_at : (phase : Phase) (w : Work) (p : Owned) (turn : StartTurn) (v : Work) (q : Owned) → NextAt phase w p (Ok turn) v q → StartMoves w p turn q
start_at Check w p turn v q next = start_made w p (after_check w p) turn v q next (checks w p (manager_in w.member p.managers).up)
start_at Low w p turn v q next = start_made w p (after_low w p) turn v q next (p.logs, refl)
start_at Read w p turn v q next = start_goes w p turn v q next
start_at (Begin page) w p turn v q next = start_goes w p turn v q next

pub start_moved : (w : Work) (p : Owned) (turn : StartTurn) (v : Work) (q : Owned) → NextStart w p (Ok turn) v q → StartMoves w p turn q
start_moved w p turn v q next = start_at w.phase w p turn v q next

-- ---- the member comes up

same_of : (k m : Member) → member_number m - 1 ≡ member_number k - 1 → m ≡ k
same_of k m e = elim (cases_member m k) [ inl same ↦ same | inr differ ↦ absurd (differ (let one = member_some m in let two = member_some k in omega (arith, e, one, two))) ]

-- what holds of the member that came up, and of the others as they were, holds of each
pub started_all : (P : Member → Manager → Type 0) (m : Member) (i : Incarnation) (ms : List Manager) → P m (record (manager_in m ms) { up = true; incarnation = i; next = 1 }) → (k : Member) → P k (manager_in k ms) → P k (manager_in k (with_started m i ms))
started_all P m i ms here k old = set_or (P k) ms (member_number m - 1) (member_number k - 1) (record (manager_in m ms) { up = true; incarnation = i; next = 1 }) no_manager
    (λ e. subst (λ (j : Member). P j (record (manager_in m ms) { up = true; incarnation = i; next = 1 })) (same_of k m e) here) old

beside_started : (a b : ℕ) (m : Member) (page : PageNo) (p : Owned) → IsSteady a b p → member_number m ≤ length p.managers → IsBeside p (started m page p)
beside_started a b m page p s within = record {
  objects = refl;
  history = refl;
  tasks = λ k w. started_all (λ k x. task_in w x.tasks ≡ task_at k w p.managers) m (next_incarnation m p.repo) p.managers refl k refl;
  drawn = λ u drawn. started_all (λ k x. IsDrawn u (seat_of (manager_in k p.managers)) → IsDrawn u (seat_of x)) m (next_incarnation m p.repo) p.managers
      (λ old. let given = (s.listed m within).given in record { past = omega (arith, old.past, given); below = λ e. absurd (omega (arith, e, old.past, given)) }) u.member (λ old. old) drawn;
  failed = λ k i is. sym (starts_unresolved k m i p.repo) ∙ is;
  inside = λ each. each;
  told = λ is_told each. each;
}

over_started : (a b : ℕ) (m : Member) (page : PageNo) (p : Owned) (life : FailedLife) → IsSteady a b p → member_number m ≤ length p.managers → IsOver life p → IsOver life (started m page p)
over_started a b m page p life s within over =
    started_all (λ k x. HasEnded life.incarnation.number (seat_of (manager_in k p.managers)) → HasEnded life.incarnation.number (seat_of x)) m (next_incarnation m p.repo) p.managers
    (λ old. start_ended life.incarnation.number (next_incarnation m p.repo).number (seat_of (manager_in m p.managers)) (let given = (s.listed m within).given in omega (arith, given)) old) life.member (λ old. old) over

-- ---- a step

pub start_asked : (m : Member) (s : State) → IsSound s → next_of actor.Operator s.courses ≡ Some (directive.Start m) → (start_before m s).member ≡ m
start_asked m s sound next = by s.starting sound.starting
  where
    same_member : (a b : Member) → directive.Start a ≡ directive.Start b → a ≡ b
    same_member a b e = cc

    by : (o : Option Work) → IfSome o (λ w. IsStarting w s) → (start_or m o).member ≡ m
    by None is = refl
    by (Some w) is = same_member w.member m (same_Some (directive.Start w.member) (directive.Start m) (sym is.asked ∙ next))

logs_fit : (q : Owned) (logs : List KeptLog) (starting : Option Work) (s : State) → AreFitting s → q ≡ record s.parts { logs = logs } → AreFitting (record s { parts = q; starting = starting })
logs_fit q logs starting s fits is =
    subst (λ (x : Owned). AreFitting (record s { parts = x; starting = starting })) (sym is)
    (moved_fits s (record s.parts { logs = logs }) s.courses starting s.peers s.tallies fits (beside_logs s.parts logs) (carried_self s.parts.objects s.parts.history.items (record s.parts { logs = logs }) s.courses) (λ k w. refl) fits.given
    (λ k. let own = fits.systems k in record {
      answers = systems_stay k s.parts (record s.parts { logs = logs }) s.tallies.rows s.tallies.rows (peer_of k s.peers).answers (beside_goes k s.parts (record s.parts { logs = logs }) s.tallies.rows s.tallies.rows (beside_logs s.parts logs) (λ life over. over) (λ of i settled counted. counted)) own.answers;
      given_up = own.given_up;
      timed = own.timed;
    }))

answered_logs : (m : Member) (said : Reply) (q : Owned) (logs : List KeptLog) (s : State) → AreFitting s → next_of actor.Operator s.courses ≡ Some (directive.Start m) → q ≡ record s.parts { logs = logs } → EndsOther (asked actor.Operator (directive.Start m)) said
    → ((k : Member) → starts k (asked actor.Operator (directive.Start m)) said ≡ false) → AreFitting (record (with_answer actor.Operator (directive.Start m) said s) { parts = q; starting = None })
answered_logs m said q logs s fits next is ends unstarted =
    logs_fit q logs None (with_answer actor.Operator (directive.Start m) said s) (other_fits actor.Operator (directive.Start m) said s fits next refl ends unstarted) is

self_equal : (n : ℕ) → (n == n) ≡ true
self_equal n = grind (arith, nat_tests)

came_up : (m : Member) (page : PageNo) (s : State) → IsSound s → AreFitting s → member_number m ≤ length s.parts.managers → next_of actor.Operator s.courses ≡ Some (directive.Start m)
    → AreFitting (record (with_answer actor.Operator (directive.Start m) (reply.Started (next_incarnation m s.parts.repo)) s) { parts = started m page s.parts; starting = None })
came_up m page s sound fits within next =
    let a = answers_given s.courses in
    let b = in_progress s.works in
    let p = s.parts in
    let q = started m page p in
    let i = next_incarnation m p.repo in
    let x : Manager = record (manager_in m p.managers) { up = true; incarnation = i; next = 1 } in
    let d = directive.Start m in
    let found = next_is actor.Operator d s.courses next in
    let answer = answer_to d (reply.Started i) s in
    let cs = answered actor.Operator answer s.courses in
    let given : count_by (is_member m) p.repo.lives ≡ (manager_in m p.managers).incarnation.number = (sound.steady.listed m within).given in
    let first = fits.given m within in
    let beside = beside_started a b m page p sound.steady within in
    let more : (k : Member) → sum_by (starts_in k) cs ≡ sum_by (starts_in k) s.courses + one_if (member_number m == member_number k) = λ k. starts_answered k actor.Operator d answer found.0 s.courses found.1 in
    moved_fits s q cs None s.peers s.tallies fits beside
    (carried_other p.objects p.history.items q actor.Operator d answer found.0 s.courses found.1 refl refl (omega (arith, given, first)))
    (λ k w. pending_stays p.objects actor.Operator d answer found.0 s.courses k w found.1 refl)
    (λ k here. elim (cases_member k m) [
      | inl same ↦ subst (λ (j : Member). (manager_in j q.managers).incarnation.number ≡ 1 + sum_by (starts_in j) cs) (sym same)
          (let one : one_if (member_number m == member_number m) ≡ 1 = ap one_if (self_equal (member_number m)) in
          let now = more m in
          let there : (manager_in m q.managers).incarnation.number ≡ i.number = ap (λ (z : Manager). z.incarnation.number) (manager_same m x p.managers within) in
          omega (arith, given, first, one, now, there))
      | inr differ ↦
          let none : one_if (member_number m == member_number k) ≡ 0 = ap one_if (ne_eqb (member_number m) (member_number k) (λ e. differ (sym e))) in
          let now = more k in
          let there : (manager_in k q.managers).incarnation.number ≡ (manager_in k p.managers).incarnation.number = ap (λ (z : Manager). z.incarnation.number) (manager_other m k x p.managers differ) in
          let old = fits.given k (subst (λ (n : ℕ). member_number k ≤ n) (length-set p.managers (member_number m - 1) x) here) in
          omega (arith, none, now, there, old)
    ])
    (λ k. let own = fits.systems k in record {
      answers = systems_stay k p q s.tallies.rows s.tallies.rows (peer_of k s.peers).answers (beside_goes k p q s.tallies.rows s.tallies.rows beside (λ life over. over_started a b m page p life sound.steady within over) (λ of j settled counted. counted)) own.answers;
      given_up = own.given_up;
      timed = own.timed;
    })

-- the member isn't brought up
abbrev IsStill : StartTurn → Type 0
IsStill More = Unit {0}
IsStill Up = Unit {0}
IsStill (Started i) = ⊥
IsStill (Fault why) = Unit {0}

-- an answer that brings no member up
ends_start : (m : Member) (turn : StartTurn) (d : Directive) (work : Work) (q : Owned) (s : State) → AreFitting s → next_of actor.Operator s.courses ≡ Some (directive.Start m) → d ≡ directive.Start m → (logs : List KeptLog) × (q ≡ record s.parts { logs = logs })
    → IsStill turn → AreFitting (started_as (start_reply m turn) (directive.Start m) work q s)
ends_start m More d work q s fits next is moved still = logs_fit q moved.0 (Some work) s fits moved.1
ends_start m Up d work q s fits next is moved still = answered_logs m (reply.Refused reason.Up) q moved.0 s fits next moved.1 tt (λ k. refl)
ends_start m (Fault why) d work q s fits next is moved still = answered_logs m (reply.Refused (reason.LogFault m why)) q moved.0 s fits next moved.1 refl (λ k. refl)
ends_start m (Started i) d work q s fits next is moved still = absurd still

turn_fits : (m : Member) (turn : StartTurn) (work : Work) (q : Owned) (s : State) → IsSound s → AreFitting s → next_of actor.Operator s.courses ≡ Some (directive.Start m) → member_number m ≤ length s.parts.managers
    → StartMoves (start_before m s) s.parts turn q → AreFitting (started_as (start_reply m turn) (directive.Start m) work q s)
turn_fits m More work q s sound fits next within moved = ends_start m More (directive.Start m) work q s fits next refl moved tt
turn_fits m Up work q s sound fits next within moved = ends_start m Up (directive.Start m) work q s fits next refl moved tt
turn_fits m (Fault why) work q s sound fits next within moved = ends_start m (Fault why) (directive.Start m) work q s fits next refl moved tt
turn_fits m (Started i) work q s sound fits next within moved =
    let own = start_asked m s sound next in
    let same : i ≡ next_incarnation m s.parts.repo = moved.1 ∙ ap (λ (k : Member). next_incarnation k s.parts.repo) own in
    let parts : q ≡ started m moved.0 s.parts = moved.2 ∙ ap (λ (k : Member). started k moved.0 s.parts) own in
    subst (λ (j : Incarnation). AreFitting (record (with_answer actor.Operator (directive.Start m) (reply.Started j) s) { parts = q; starting = None })) (sym same)
    (subst (λ (x : Owned). AreFitting (record (with_answer actor.Operator (directive.Start m) (reply.Started (next_incarnation m s.parts.repo)) s) { parts = x; starting = None })) (sym parts) (came_up m moved.0 s sound fits within next))

pub start_fits : (m : Member) (s r : State) → IsSound s → AreFitting s → next_of actor.Operator s.courses ≡ Some (directive.Start m) → member_number m ≤ length s.parts.managers → IsStartStep m (directive.Start m) s r → AreFitting r
start_fits m s r sound fits next within step =
    subst AreFitting (sym step.after) (turn_fits m step.turn step.work step.parts s sound fits next within (start_moved (start_before m s) s.parts step.turn step.work step.parts step.next))
