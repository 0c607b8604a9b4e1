-- each step of a START leaves fewer steps
use Rattle.std.proofs.Common.{◌≡◌, inl, inr, ℕ, ◌+◌, ◌-◌, ◌<◌, ◌≤◌, List, get_or, set, Bool, true, false, Option, Some, None, Result, Ok, Err, refl, sym, ap, subst, ◌∙◌, arith}
use Rattle.std.specs.Prelude.{IfSome, count_by, sum_by}
use Rattle.qsg_num.specs.declared.ids.Actor.TheVariants as actor
use Rattle.qsg_num.specs.declared.ids.Incarnation.{Incarnation}
use Rattle.qsg_num.specs.declared.ids.PageNo.{PageNo}
use Rattle.qsg_num.specs.declared.seats.Member.{Member}
use Rattle.qsg_num.specs.declared.words.LogWhy.{LogWhy}
use Rattle.qsg_num.specs.declared.words.LogWhy.TheVariants.{Device}
use Rattle.qsg_num.specs.Seats.{member_number}
use Rattle.qsg_objects.specs.declared.directives.Directive.{Directive}
use Rattle.qsg_requests.specs.declared.replies.Reply.{Reply}
use Rattle.qsg_repo.specs.declared.lives.Fate.TheVariants as fate
use Rattle.qsg_repo.specs.declared.lives.Life.{Life}
use Rattle.qsg_repo.specs.Calls.{next_incarnation}
use Rattle.qsg_repo.specs.Lives.{is_open}
use Rattle.qsg_agenda.specs.Courses.{next_of}
use Rattle.qsg_manager.specs.declared.managers.Manager.{Manager}
use Rattle.qsg_manager.specs.Storage.{no_manager, task_in, manager_in, task_at}
use Rattle.qsg_logs.specs.Cuts.{restarted}
use Rattle.qsg_logs.specs.Kept.{KeptLog, no_log, log_in}
use Rattle.qsg_parts.specs.Owned.{Owned}
use Rattle.qsg_peer.specs.declared.phases.FailedLife.{FailedLife}
use Rattle.qsg_peer.specs.Pace.{HasNoMoreMarks}
use Rattle.qsg_peers.specs.Peers.{Peer}
use Rattle.qsg_start.specs.declared.phases.NoMemory.{NoMemory}
use Rattle.qsg_start.specs.declared.phases.Phase.{Phase}
use Rattle.qsg_start.specs.declared.phases.Phase.TheVariants.{Check, Low, Read, Begin}
use Rattle.qsg_start.specs.declared.phases.StartTurn.{StartTurn}
use Rattle.qsg_start.specs.declared.phases.StartTurn.TheVariants.{More, Up, Started, Fault}
use Rattle.qsg_start.specs.Pace.{left_of_start}
use Rattle.qsg_start.specs.Steps.{Next, checked, after_check, after_low, started, HasRead, Acts, GoesOn, NextAt, NextStart}
use Rattle.qsg_start.specs.Works.{Work, IsSound as IsStartSound}
use Rattle.qsg_start.proofs.Needing.{only_reads}
use Rattle.qsg_start.proofs.Pacing.{lowers}
use Rattle.qsg_step.specs.States.{State}
use Rattle.qsg_step.specs.Steps.{answer_to, with_answer, start_or, start_before, start_reply, started_as, IsStartStep}
use Rattle.qsg_sound.specs.Sound.{IsSound}
use Rattle.qsg_sound.specs.Systems.{IsStartKept}
use Rattle.qsg_pace.specs.Pace.{whole, left_of_run, marks_left, left_of_starting, left_to_peer, unharmed, left}
use Rattle.qsg_pace.proofs.Sums.{answered_less}
use Rattle.qsg_pace.proofs.Falling.{goes_down, works_down}
use Rattle.qsg_pace.proofs.Lives.{begun_open, begun_unharmed}
use Rattle.qsg_pace.proofs.Looking.{hand_in, size_in, size_kept}
use Rattle.qsg_pace.proofs.Fewer.{LeavesNoMore, works_fewer, seen_fewer, AreAsLong, same_marks, all_peers_fewer}
use Rattle.qsg_pace.proofs.Most.{log_few}

-- ---- what a step leaves

-- of all other works no more is left than before; so many more incarnations can fail
record Leaves (p q : Owned) (n : ℕ) : Type 0 where
  pub starts : q.repo.starts ≡ p.repo.starts
  pub unharmed : unharmed q.repo.lives ≤ unharmed p.repo.lives + n
  pub found : (skip : List (Member × Incarnation)) → count_by (is_open skip) q.repo.lives ≤ count_by (is_open skip) p.repo.lives
  pub works : LeavesNoMore p q
  pub marks : (life : FailedLife) → HasNoMoreMarks life p q
  pub long : AreAsLong p q

-- a log with no more pages in hand, and as many in all
log_fewer : (m : Member) (y : KeptLog) (logs : List KeptLog) → left_of_run y.writer.hand ≤ left_of_run (hand_in m logs) → (k : Member) → left_of_run (get_or (set logs (member_number m - 1) y) (member_number k - 1) no_log).writer.hand ≤ left_of_run (hand_in k logs)
log_fewer m y logs less k = seen_fewer (λ (l : KeptLog). left_of_run l.writer.hand) logs (member_number m - 1) (member_number k - 1) y no_log less

read_leaves : (m : Member) (p q : Owned) → HasRead m p q → Leaves p q 0
read_leaves m p q has = record {
  starts = ap (λ (x : Owned). x.repo.starts) has.others;
  unharmed = let same : unharmed q.repo.lives ≡ unharmed p.repo.lives = ap (λ (x : Owned). unharmed x.repo.lives) has.others in omega (arith, same);
  found = λ skip. let same : count_by (is_open skip) q.repo.lives ≡ count_by (is_open skip) p.repo.lives = ap (λ (x : Owned). count_by (is_open skip) x.repo.lives) has.others in omega (arith, same);
  works = record {
    tasks = λ k w. let same : marks_left (task_at k w q.managers) ≡ marks_left (task_at k w p.managers) = ap (λ (x : Owned). marks_left (task_at k w x.managers)) has.others in omega (arith, same);
    hands = λ k.
        let is = ap (λ (x : Owned). left_of_run (hand_in k x.logs)) has.others in
        let same = ap (λ (l : KeptLog). left_of_run l.writer.hand) has.log.rest in
        let less = log_fewer m (log_in m q.logs) p.logs (omega (arith, same)) k in
        omega (arith, is, less);
  };
  marks = same_marks p q (ap (λ (x : Owned). x.structures) has.others);
  long = λ k. ap (λ (x : Owned). size_in k x.logs) has.others ∙ size_kept m (log_in m q.logs) p.logs (ap (λ (l : KeptLog). l.writer.size) has.log.rest) k;
}

begun_leaves : (m : Member) (page : PageNo) (p : Owned) → Leaves p (started m page p) 1
begun_leaves m page p = record {
  starts = refl;
  unharmed = begun_unharmed p.repo.lives life;
  found = λ skip. begun_open skip p.repo.lives life refl;
  works = record {
    tasks = λ k w. seen_fewer (λ (x : Manager). marks_left (task_in w x.tasks)) p.managers (member_number m - 1) (member_number k - 1) manager no_manager (omega arith);
    hands = λ k. log_fewer m (restarted page.number (log_in m p.logs)) p.logs (omega arith) k;
  };
  marks = same_marks p (started m page p) refl;
  long = λ k. size_kept m (restarted page.number (log_in m p.logs)) p.logs refl k;
}
  where
    life : Life
    life = record { member = m; incarnation = next_incarnation m p.repo; fate = fate.Up }

    manager : Manager
    manager = record (manager_in m p.managers) { up = true; incarnation = next_incarnation m p.repo; next = 1 }

-- ---- a step that brings the member up

abbrev turn_of : StartTurn → Result StartTurn NoMemory → StartTurn
turn_of other (Ok turn) = turn
turn_of other (Err e) = other

more_apart : (i : Incarnation) → More ≡ Started i → ⊥
more_apart i is = cc

up_apart : (i : Incarnation) → Up ≡ Started i → ⊥
up_apart i is = cc

fault_apart : (why : LogWhy) (i : Incarnation) → Fault why ≡ Started i → ⊥
fault_apart why i is = cc

checked_apart : (up : Bool) (w : Work) (p : Owned) (i : Incarnation) → (checked up w p).turn ≡ Started i → ⊥
checked_apart true w p i is = up_apart i is
checked_apart false w p i is = more_apart i is

made_turn : (next : Next) (i : Incarnation) (v : Work) (q : Owned) → record { turn = Started i; work = v; parts = q } ≡ next → next.turn ≡ Started i
made_turn next i v q is = sym (ap (λ (n : Next). n.turn) is)

act_started : (phase : Phase) (w : Work) (p : Owned) (i : Incarnation) (v : Work) (q : Owned) → Acts phase w p (Ok (Started i)) v q → Leaves p q 1
act_started Check w p i v q acts = absurd (checked_apart (manager_in w.member p.managers).up w p i (made_turn (after_check w p) i v q acts))
act_started Low w p i v q acts = absurd (more_apart i (made_turn (after_low w p) i v q acts))
act_started Read w p i v q (has, inl failed) = absurd (fault_apart Device i (sym failed.turn_is))
act_started Read w p i v q (has, inr found) = absurd (more_apart i (sym found.turn_is))
act_started (Begin page) w p i v q acts = subst (λ (x : Owned). Leaves p x 1) (sym (ap (λ (n : Next). n.parts) acts)) (begun_leaves w.member page p)

on_started : (w : Work) (p : Owned) (i : Incarnation) (v : Work) (q : Owned) → GoesOn w p (Ok (Started i)) v q → Leaves p q 1
on_started w p i v q (inl given) = absurd (fault_apart given.why i (sym (ap (turn_of More) given.turn_is)))
on_started w p i v q (inr (inl lacks)) = absurd (cc lacks.refused)
on_started w p i v q (inr (inr acted)) = act_started w.phase (record w { walk = acted.walk }) p i v q acted.acts

started_at : (phase : Phase) (w : Work) (p : Owned) (i : Incarnation) (v : Work) (q : Owned) → NextAt phase w p (Ok (Started i)) v q → Leaves p q 1
started_at Check w p i v q next = act_started Check w p i v q next
started_at Low w p i v q next = act_started Low w p i v q next
started_at Read w p i v q next = on_started w p i v q next
started_at (Begin page) w p i v q next = on_started w p i v q next

-- ---- a step

-- the START whose step is made: what is left of it counts
record IsUnderWay (s : State) (w : Work) : Type 0 where
  pub sound : IsStartSound w.phase w.walk
  pub most : left_of_start w ≤ left_of_starting s.starting

under_way : (m : Member) (s : State) → IsSound s → IsUnderWay s (start_before m s)
under_way m s sound = by s.starting refl sound.kept.starting
  where
    by : (o : Option Work) → s.starting ≡ o → IfSome o IsStartKept → IsUnderWay s (start_or m o)
    by None is kept = record { sound = tt; most = let whole_left : left_of_starting s.starting ≡ whole = ap left_of_starting is in omega (arith, whole_left) }
    by (Some w) is kept = record { sound = kept; most = let same : left_of_starting s.starting ≡ left_of_start w = ap left_of_starting is in omega (arith, same) }

peers_fewer : (p q : Owned) (n : ℕ) (peers : List Peer) → Leaves p q n → sum_by (left_to_peer q) peers ≤ sum_by (left_to_peer p) peers
peers_fewer p q n peers leaves = all_peers_fewer p q peers leaves.marks leaves.long leaves.found

ended_less : (s : State) (d : Directive) (reply : Reply) (q : Owned) (n : ℕ) → n ≤ 1 → Leaves s.parts q n → next_of actor.Operator s.courses ≡ Some d → left (record (with_answer actor.Operator d reply s) { parts = q; starting = None }) < left s
ended_less s d reply q n few leaves next =
    let one = answered_less actor.Operator (answer_to d reply s) d s.courses next in
    let unharmed_few = leaves.unharmed in
    let works = works_fewer s.parts q s.works leaves.works in
    let peers = peers_fewer s.parts q n s.peers leaves in
    goes_down s (record (with_answer actor.Operator d reply s) { parts = q; starting = None }) 1 leaves.starts (omega (arith, one, unharmed_few, few)) (omega (arith, works, peers))

turned_less : (s r : State) (m : Member) (d : Directive) (w : Work) (turn : StartTurn) (v : Work) (q : Owned) → IsSound s → next_of actor.Operator s.courses ≡ Some d → IsUnderWay s w → NextStart w s.parts (Ok turn) v q
    → r ≡ started_as (start_reply m turn) d v q s → left r < left s
turned_less s r m d w More v q sound next is step after =
    let leaves = read_leaves w.member s.parts q (only_reads w s.parts (Ok More) v q step refl) in
    let size = log_few w.member s.parts sound.kept.logs in
    let less = lowers w s.parts v q is.sound (omega (arith, size)) step in
    let unharmed_few = leaves.unharmed in
    let works = works_fewer s.parts q s.works leaves.works in
    let peers = peers_fewer s.parts q 0 s.peers leaves in
    let most = is.most in
    subst (λ (x : State). left x < left s) (sym after) (works_down s (record s { parts = q; starting = Some v }) leaves.starts (omega (arith, unharmed_few)) (omega (arith, works, peers, less, most)))
turned_less s r m d w Up v q sound next is step after =
    subst (λ (x : State). left x < left s) (sym after) (ended_less s d _ q 0 (omega arith) (read_leaves w.member s.parts q (only_reads w s.parts (Ok Up) v q step refl)) next)
turned_less s r m d w (Started i) v q sound next is step after =
    subst (λ (x : State). left x < left s) (sym after) (ended_less s d _ q 1 (omega arith) (started_at w.phase w s.parts i v q step) next)
turned_less s r m d w (Fault why) v q sound next is step after =
    subst (λ (x : State). left x < left s) (sym after) (ended_less s d _ q 0 (omega arith) (read_leaves w.member s.parts q (only_reads w s.parts (Ok (Fault why)) v q step refl)) next)

pub start_less : (s r : State) (m : Member) (d : Directive) → IsSound s → next_of actor.Operator s.courses ≡ Some d → IsStartStep m d s r → left r < left s
start_less s r m d sound next step = turned_less s r m d (start_before m s) step.turn step.work step.parts sound next (under_way m s sound) step.next step.after
