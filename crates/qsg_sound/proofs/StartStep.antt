-- a step of a START keeps the group sound
use Rattle.std.proofs.Common.{◌≡◌, inl, inr, ℕ, suc, ◌+◌, ◌≤◌, List, length, Bool, true, false, Option, Some, None, Ok, refl, sym, ap, subst, ◌∙◌, arith}
use Rattle.std.specs.Prelude.{IfSome}
use Rattle.std.proofs.lemmas.Bool.{false≢true}
use Rattle.std.proofs.lemmas.Option.{same_Some}
use Rattle.qsg_num.specs.declared.seats.Member.{Member}
use Rattle.qsg_num.specs.declared.seats.TaskNo.{TaskNo}
use Rattle.qsg_num.specs.declared.ids.Actor.TheVariants as actor
use Rattle.qsg_num.specs.declared.ids.Incarnation.{Incarnation}
use Rattle.qsg_num.specs.Seats.{member_number}
use Rattle.qsg_objects.specs.declared.directives.Directive.{Directive}
use Rattle.qsg_objects.specs.declared.directives.Directive.TheVariants as directive
use Rattle.qsg_repo.specs.Tables.{Repository, low_of}
use Rattle.qsg_requests.specs.declared.replies.Reason.TheVariants as reason
use Rattle.qsg_requests.specs.declared.replies.Reply.{Reply}
use Rattle.qsg_requests.specs.declared.replies.Reply.TheVariants as reply
use Rattle.qsg_agenda.specs.Courses.{Course, next_of, answered}
use Rattle.qsg_logs.specs.Kept.{KeptLog, log_in}
use Rattle.qsg_manager.specs.declared.managers.Manager.{Manager}
use Rattle.qsg_manager.specs.Storage.{manager_in}
use Rattle.qsg_manager.proofs.Grouping.{manager_other}
use Rattle.qsg_parts.specs.Owned.{Owned, HasMember}
use Rattle.qsg_steady.specs.Steady.{AreTelling, IsSteady}
use Rattle.qsg_steady.proofs.Committing.{counts_steady}
use Rattle.qsg_steady.proofs.Gives.{member_has, down_quiet, lawful_told}
use Rattle.qsg_steady.proofs.Moving.{by_member}
use Rattle.qsg_lives.specs.Deciding.{MayStartAt}
use Rattle.qsg_lives.proofs.Starting.{step_steady, step_spares}
use Rattle.qsg_walk.specs.Walks.{Walk}
use Rattle.qsg_start.specs.declared.phases.Phase.{Phase}
use Rattle.qsg_start.specs.declared.phases.Phase.TheVariants as starting
use Rattle.qsg_start.specs.declared.phases.StartTurn.{StartTurn}
use Rattle.qsg_start.specs.declared.phases.StartTurn.TheVariants as starts
use Rattle.qsg_start.specs.Following.{IsFollowed, walks}
use Rattle.qsg_start.specs.Steps.{first_walk, is_start, NextStart}
use Rattle.qsg_start.specs.Works.{Work as StartWork, IsSound as IsStartSound}
use Rattle.qsg_start.proofs.Ending.{walk_ends}
use Rattle.qsg_start.proofs.Following.{walk_begun, walk_goes_on}
use Rattle.qsg_start.proofs.Needing.{only_reads}
use Rattle.qsg_step.specs.States.{State, is_member_up}
use Rattle.qsg_step.specs.Steps.{answer_to, with_answer, start_or, start_before, start_reply, started_as, IsStartStep}
use Rattle.qsg_sound.specs.Sound.{answers_given, in_progress, starts_left, IsSound, AreTypesKept}
use Rattle.qsg_sound.specs.Systems.{IsStartKept, has_checked, IsStarting}
use Rattle.qsg_sound.proofs.Answering.{one_more, next_apart, operator_apart}
use Rattle.qsg_sound.proofs.Beginnings.{GoesFurther, start_goes, start_begins}
use Rattle.qsg_sound.proofs.Beside.{IsUpOrFree, IsBeside, beside_sound}
use Rattle.qsg_sound.proofs.EndStep.{structures_ordered}
use Rattle.qsg_sound.proofs.Keeping.{AreKept, sound_kept, kept_answered}
use Rattle.qsg_sound.proofs.Standing.{AreSystemsSound}
use Rattle.qsg_sound.proofs.Starts.{length_push, starts_after, starts_fewer, next_within}

-- ---- the work before the step

same_member : (a b : Member) → directive.Start a ≡ directive.Start b → a ≡ b
same_member a b e = cc

-- it is of the member whose START comes next
pub start_member : (m : Member) (s : State) → IsSound s → next_of actor.Operator s.courses ≡ Some (directive.Start m) → (start_before m s).member ≡ m
start_member m s sound next = by s.starting sound.starting
  where
    by : (o : Option StartWork) → IfSome o (λ w. IsStarting w s) → (start_or m o).member ≡ m
    by None is = refl
    by (Some w) is = same_member w.member m (same_Some (directive.Start w.member) (directive.Start m) (sym is.asked ∙ next))

-- the member is one of the group's
pub start_has : (m : Member) (s : State) → IsSound s → next_of actor.Operator s.courses ≡ Some (directive.Start m) → HasMember m s.parts
start_has m s sound next =
    member_has (answers_given s.courses) (in_progress s.works) s.parts m sound.steady (next_within (length s.parts.managers) actor.Operator s.courses (directive.Start m) sound.within next)

-- what its types keep
start_kept : (m : Member) (s : State) → IsSound s → IsStartKept (start_before m s)
start_kept m s sound = by s.starting sound.kept.starting
  where
    by : (o : Option StartWork) → IfSome o IsStartKept → IsStartKept (start_or m o)
    by None is = tt
    by (Some w) is = is

-- the walk of a START has ended before the page that is written next
ends_at_next : (w : StartWork) (s : State) → IsSound s → IsStarting w s → walks w.phase ≡ true → w.walk.left ≡ 0 → AreTelling s.parts → w.walk.next ≡ (log_in w.member s.parts.logs).writer.next
ends_at_next w s sound is walked left telling =
    let a = answers_given s.courses in
    let b = in_progress s.works in
    let seen = (lawful_told a b s.parts telling sound.steady).logs w.member is.member.manager in
    let tied = seen.told.later.0.tied in
    let low = (low_of w.member s.parts.repo).number in
    let within = (sound.kept.logs w.member is.member.log).within.numbers in
    walk_ends w.member low low s.parts w.walk (down_quiet a b s.parts w.member sound.steady is.member is.down) tied (omega arith) (sound.steady.behind w.member is.member.manager).low (omega (arith, within))
    (is.follows walked (telling w.member is.member.log)) left

-- it may make its next step
pub may_start : (m : Member) (s : State) → IsSound s → MayStartAt (start_before m s).phase (start_before m s).member s.parts
may_start m s sound = by s.starting sound.starting sound.kept.starting
  where
    at : (phase : Phase) (w : StartWork) → w.phase ≡ phase → IsStarting w s → IsStartKept w → MayStartAt phase w.member s.parts
    at starting.Check w same is kept = tt
    at starting.Low w same is kept = tt
    at starting.Read w same is kept = tt
    at (starting.Begin page) w same is kept =
        let ended = subst (λ (x : Phase). IsStartSound x w.walk) same kept in
        let lower = is.low (ap walks same) in
        record { down = is.down; low = omega (arith, lower, ended.page_is); next = λ telling. ended.page_is ∙ ends_at_next w s sound is (ap walks same) ended.ended telling }

    by : (o : Option StartWork) → IfSome o (λ w. IsStarting w s) → IfSome o IsStartKept → MayStartAt (start_or m o).phase (start_or m o).member s.parts
    by None is kept = tt
    by (Some w) is kept = at w.phase w refl is kept

-- what was known of it
record WasStarting (w : StartWork) (s : State) : Type 0 where
  pub follows : walks w.phase ≡ true → (log_in w.member s.parts.logs).tells ≡ true → IsFollowed w.member (low_of w.member s.parts.repo).number s.parts w.walk
  pub low : walks w.phase ≡ true → (low_of w.member s.parts.repo).number ≤ w.walk.next
  pub down : has_checked w.phase ≡ true → is_member_up w.member s ≡ false

was_starting : (m : Member) (s : State) → IsSound s → WasStarting (start_before m s) s
was_starting m s sound = by s.starting sound.starting
  where
    by : (o : Option StartWork) → IfSome o (λ w. IsStarting w s) → WasStarting (start_or m o) s
    by None is = record { follows = λ walked. absurd (false≢true walked); low = λ walked. absurd (false≢true walked); down = λ passed. absurd (false≢true passed) }
    by (Some w) is = record { follows = is.follows; low = is.low; down = λ passed. is.down }

-- ---- a step that doesn't bring the member up

-- the START that goes on
starting_on : (m : Member) (work : StartWork) (q : Owned) (s : State) (a b : ℕ) → IsSound s → next_of actor.Operator s.courses ≡ Some (directive.Start m) → NextStart (start_before m s) s.parts (Ok starts.More) work q → IsSteady a b q
    → IsStarting work (record s { parts = q; starting = Some work })
starting_on m work q s a b sound next made steady =
    let w = start_before m s in
    let was = was_starting m s sound in
    let goes = start_goes w s.parts work q made in
    let read = only_reads w s.parts (Ok starts.More) work q made refl in
    let same : work.member ≡ m = goes.member ∙ start_member m s sound next in
    let managers : q.managers ≡ s.parts.managers = ap (λ (x : Owned). x.managers) read.others in
    let repo : q.repo ≡ s.parts.repo = ap (λ (x : Owned). x.repo) read.others in
    let tells : (log_in w.member q.logs).tells ≡ (log_in w.member s.parts.logs).tells = ap (λ (l : KeptLog). l.tells) read.log.rest in
    let there = (start_has m s sound next).manager in
    record {
      asked = next ∙ ap (λ (k : Member). Some (directive.Start k)) (sym same);
      member = member_has a b q work.member steady (subst (λ k. member_number k ≤ length q.managers) (sym same) (subst (λ (l : List Manager). member_number m ≤ length l) (sym managers) there));
      down = subst (λ k. (manager_in k q.managers).up ≡ false) (sym goes.member) (subst (λ (l : List Manager). (manager_in w.member l).up ≡ false) (sym managers) (down (has_checked w.phase) refl was goes));
      checked = goes.checked;
      follows = λ walking. subst (λ k. (log_in k q.logs).tells ≡ true → IsFollowed k (low_of k q.repo).number q work.walk) (sym goes.member)
          (λ told. subst (λ (r : Repository). IsFollowed w.member (low_of w.member r).number q work.walk) (sym repo) (followed (walks w.phase) refl was goes walking (sym tells ∙ told)));
      low = λ walking. subst (λ k. (low_of k q.repo).number ≤ work.walk.next) (sym goes.member)
          (subst (λ (r : Repository). (low_of w.member r).number ≤ work.walk.next) (sym repo) (goes.low walking was.low));
    }
  where
    down : (passed : Bool) → has_checked (start_before m s).phase ≡ passed → WasStarting (start_before m s) s → GoesFurther (start_before m s) s.parts work q → (manager_in (start_before m s).member s.parts.managers).up ≡ false
    down true is was goes = was.down is
    down false is was goes = goes.down is

    followed : (walked : Bool) → walks (start_before m s).phase ≡ walked → WasStarting (start_before m s) s → GoesFurther (start_before m s) s.parts work q → walks work.phase ≡ true → (log_in (start_before m s).member s.parts.logs).tells ≡ true
        → IsFollowed (start_before m s).member (low_of (start_before m s).member s.parts.repo).number q work.walk
    followed true is was goes walking told =
        walk_goes_on (low_of (start_before m s).member s.parts.repo).number (start_before m s) s.parts (Ok starts.More) work q is (start_kept m s sound) made told (was.follows is told)
    followed false is was goes walking told =
        let begun = goes.begun is walking in
        let k = (start_before m s).member in
        subst (λ (x : Walk). IsFollowed k (low_of k s.parts.repo).number q x) (sym begun.0) (subst (λ (x : Owned). IsFollowed k (low_of k s.parts.repo).number x (first_walk k s.parts)) (sym begun.1) (walk_begun k s.parts))

-- what it leaves, with the courses as they are then
still_beside : (m : Member) (turn : StartTurn) (work : StartWork) (cs : List Course) (q : Owned) (s : State) → IsSound s → next_of actor.Operator s.courses ≡ Some (directive.Start m) → NextStart (start_before m s) s.parts (Ok turn) work q → is_start turn ≡ false
    → AreKept (length s.parts.managers) cs → answers_given s.courses ≤ answers_given cs → starts_left cs ≤ starts_left s.courses → ((k : Member) (w : TaskNo) → next_of (actor.Task k w) cs ≡ next_of (actor.Task k w) s.courses) → IsBeside cs q s
still_beside m turn work cs q s sound next made still kept more fewer nexts =
    let w = start_before m s in
    let a = answers_given s.courses in
    let b = in_progress s.works in
    let has = subst (λ k. HasMember k s.parts) (sym (start_member m s sound next)) (start_has m s sound next) in
    let may = may_start m s sound in
    let read = only_reads w s.parts (Ok turn) work q made still in
    record {
      kept = kept;
      steady = counts_steady a b (answers_given cs) b q more (omega (arith, more)) (step_steady a b w s.parts (Ok turn) work q sound.steady has may made);
      objects = ap (λ (x : Owned). x.objects) read.others;
      spares = step_spares a b w s.parts (Ok turn) work q sound.steady has may made;
      ups = λ k. inl (ap (λ (x : Owned). (manager_in k x.managers).up) read.others);
      ordered = structures_ordered s.parts q (ap (λ (x : Owned). x.structures) read.others) sound.ordered;
      next = nexts;
      starts = subst (λ (r : Repository). starts_left cs + length r.lives ≤ r.starts) (sym (ap (λ (x : Owned). x.repo) read.others)) (omega (arith, fewer, sound.starts));
    }

goes_on : (m : Member) (work : StartWork) (q : Owned) (s : State) → IsSound s → next_of actor.Operator s.courses ≡ Some (directive.Start m) → NextStart (start_before m s) s.parts (Ok starts.More) work q
    → AreTypesKept (record s { parts = q; starting = Some work }) → AreSystemsSound (record s { parts = q; starting = Some work }) → IsSound (record s { parts = q; starting = Some work })
goes_on m work q s sound next made kept systems =
    let is = still_beside m starts.More work s.courses q s sound next made refl (sound_kept s sound) (omega arith) (omega arith) (λ k w. refl) in
    beside_sound s.courses q (Some work) s.peers s.tallies s sound is sound.eight (starting_on m work q s (answers_given s.courses) (in_progress s.works) sound next made is.steady) kept systems

-- ---- its answer

-- the state once the operator was answered
abbrev ended_start : Directive → Reply → Owned → State → State
ended_start d reply q s = record (with_answer actor.Operator d reply s) { parts = q; starting = None }

ends : (d : Directive) (reply : Reply) (q : Owned) (s : State) → IsSound s → IsBeside (with_answer actor.Operator d reply s).courses q s → AreTypesKept (ended_start d reply q s) → AreSystemsSound (ended_start d reply q s) → IsSound (ended_start d reply q s)
ends d reply q s sound is kept systems = beside_sound (with_answer actor.Operator d reply s).courses q None s.peers s.tallies s sound is sound.eight tt kept systems

-- the member isn't up
still_ends : (m : Member) (turn : StartTurn) (reply : Reply) (work : StartWork) (q : Owned) (s : State) → IsSound s → next_of actor.Operator s.courses ≡ Some (directive.Start m) → NextStart (start_before m s) s.parts (Ok turn) work q → is_start turn ≡ false
    → AreTypesKept (ended_start (directive.Start m) reply q s) → AreSystemsSound (ended_start (directive.Start m) reply q s) → IsSound (ended_start (directive.Start m) reply q s)
still_ends m turn reply work q s sound next made still kept systems =
    let d = directive.Start m in
    let who = actor.Operator in
    let a = answer_to d reply s in
    let more = one_more who a s.courses d next in
    ends d reply q s sound (still_beside m turn work (answered who a s.courses) q s sound next made still (kept_answered (length s.parts.managers) who a d s.courses (sound_kept s sound) next refl)
    (omega (arith, more)) (starts_fewer who a s.courses d next) (λ k w. next_apart who (actor.Task k w) a s.courses (operator_apart k w))) kept systems

-- the member is up
started_ends : (m : Member) (i : Incarnation) (reply : Reply) (work : StartWork) (q : Owned) (s : State) → IsSound s → next_of actor.Operator s.courses ≡ Some (directive.Start m) → NextStart (start_before m s) s.parts (Ok (starts.Started i)) work q
    → AreTypesKept (ended_start (directive.Start m) reply q s) → AreSystemsSound (ended_start (directive.Start m) reply q s) → IsSound (ended_start (directive.Start m) reply q s)
started_ends m i reply work q s sound next made kept systems =
    let d = directive.Start m in
    let who = actor.Operator in
    let answer = answer_to d reply s in
    let cs = answered who answer s.courses in
    let w = start_before m s in
    let a = answers_given s.courses in
    let b = in_progress s.works in
    let has = subst (λ k. HasMember k s.parts) (sym (start_member m s sound next)) (start_has m s sound next) in
    let may = may_start m s sound in
    let begins = start_begins i w s.parts work q made in
    let was = was_starting m s sound in
    let down = was.down (ap has_checked begins.phase) in
    let more = one_more who answer s.courses d next in
    let left = starts_after who answer s.courses d next in
    let lives : length q.repo.lives ≡ suc (length s.parts.repo.lives) = ap (λ (x : Owned). length x.repo.lives) begins.parts ∙ length_push s.parts.repo.lives _ in
    let given : q.repo.starts ≡ s.parts.repo.starts = ap (λ (x : Owned). x.repo.starts) begins.parts in
    ends d reply q s sound (record {
      kept = kept_answered (length s.parts.managers) who answer d s.courses (sound_kept s sound) next refl;
      steady = counts_steady a b (answers_given cs) b q (omega (arith, more)) (omega (arith, more)) (step_steady a b w s.parts (Ok (starts.Started i)) work q sound.steady has may made);
      objects = ap (λ (x : Owned). x.objects) begins.parts;
      spares = step_spares a b w s.parts (Ok (starts.Started i)) work q sound.steady has may made;
      ups = by_member (λ k. IsUpOrFree k s q) w.member (inr (λ t. sound.down w.member t down))
          (λ k differ. inl (ap (λ (x : Owned). (manager_in k x.managers).up) begins.parts ∙ ap (λ (x : Manager). x.up) (manager_other w.member k _ s.parts.managers differ)));
      ordered = structures_ordered s.parts q (ap (λ (x : Owned). x.structures) begins.parts) sound.ordered;
      next = λ k t. next_apart who (actor.Task k t) answer s.courses (operator_apart k t);
      starts = omega (arith, left, lives, given, sound.starts);
    }) kept systems

-- ---- a step

pub start_keeps : (m : Member) (s r : State) → IsSound s → next_of actor.Operator s.courses ≡ Some (directive.Start m) → IsStartStep m (directive.Start m) s r → AreTypesKept r → AreSystemsSound r → IsSound r
start_keeps m s r sound next step kept systems = by step.turn step.next step.after
  where
    by : (turn : StartTurn) → NextStart (start_before m s) s.parts (Ok turn) step.work step.parts → r ≡ started_as (start_reply m turn) (directive.Start m) step.work step.parts s → IsSound r
    by starts.More made after = subst IsSound (sym after) (goes_on m step.work step.parts s sound next made (subst AreTypesKept after kept) (subst AreSystemsSound after systems))
    by starts.Up made after = subst IsSound (sym after) (still_ends m starts.Up (reply.Refused reason.Up) step.work step.parts s sound next made refl (subst AreTypesKept after kept) (subst AreSystemsSound after systems))
    by (starts.Started i) made after = subst IsSound (sym after) (started_ends m i (reply.Started i) step.work step.parts s sound next made (subst AreTypesKept after kept) (subst AreSystemsSound after systems))
    by (starts.Fault why) made after =
        subst IsSound (sym after) (still_ends m (starts.Fault why) (reply.Refused (reason.LogFault m why)) step.work step.parts s sound next made refl (subst AreTypesKept after kept) (subst AreSystemsSound after systems))
