-- the answers fit at first, and after each step
use Rattle.std.proofs.Common.{◌≡◌, ℕ, ◌+◌, List, [], length, Bool, true, false, Option, Some, None, Result, Ok, Err, refl, sym, ap, subst, ◌∙◌, arith, append-nil, true≢false}
use Rattle.std.specs.Prelude.{IsSome}
use Rattle.std.proofs.lemmas.List.{set-get_or}
use Rattle.std.proofs.lemmas.Option.{none-some, same_Some}
use Rattle.qsg_num.specs.declared.seats.Member.{Member}
use Rattle.qsg_num.specs.declared.seats.StructNo.{StructNo}
use Rattle.qsg_num.specs.declared.seats.TaskNo.{TaskNo}
use Rattle.qsg_num.specs.declared.seats.TaskNo.TheVariants as task
use Rattle.qsg_num.specs.declared.ids.Actor.{Actor}
use Rattle.qsg_num.specs.declared.ids.Actor.TheVariants as actor
use Rattle.qsg_num.specs.Seats.{task_number}
use Rattle.qsg_model.specs.declared.history.Op.{Op}
use Rattle.qsg_objects.specs.declared.directives.Directive.{Directive}
use Rattle.qsg_objects.specs.declared.directives.Directive.TheVariants as directive
use Rattle.qsg_requests.specs.declared.replies.Cause.{Cause}
use Rattle.qsg_requests.specs.declared.replies.Reason.TheVariants.{ConnectionBroken, Down, NotYet}
use Rattle.qsg_requests.specs.declared.replies.Reply.{Reply}
use Rattle.qsg_requests.specs.declared.replies.Reply.TheVariants as reply
use Rattle.qsg_requests.specs.declared.replies.Turn.{Turn}
use Rattle.qsg_requests.specs.declared.replies.Turn.TheVariants as turn
use Rattle.qsg_requests.specs.declared.words.Request.{Request}
use Rattle.qsg_requests.specs.declared.words.Request.TheVariants as request
use Rattle.qsg_agenda.specs.Courses.{next_of, answered}
use Rattle.qsg_directives.specs.Asking.{request_of}
use Rattle.qsg_group.specs.declared.tasks.Task.{Task}
use Rattle.qsg_manager.specs.Storage.{manager_in, task_at}
use Rattle.qsg_commit.specs.declared.phases.StepError.{StepError}
use Rattle.qsg_commit.specs.declared.phases.StepError.TheVariants.{NoMemory, LogFailed}
use Rattle.qsg_commit.specs.Committing.{with_room}
use Rattle.qsg_parts.specs.Owned.{Owned}
use Rattle.qsg_works.specs.declared.work.Work.{Work}
use Rattle.qsg_works.specs.InHand.{place, work_of, with_work}
use Rattle.qsg_works.specs.Steps.{begun, NextWork}
use Rattle.qsg_peers.specs.Peers.{peer_of}
use Rattle.qsg_fit.specs.Fits.{member_of, task_of}
use Rattle.qsg_fit.specs.Requests.{has_begun}
use Rattle.qsg_steady.specs.Steady.{AreTelling, IsLawful}
use Rattle.qsg_step.specs.declared.asked.Asked.{Asked}
use Rattle.qsg_step.specs.declared.asked.Asked.TheVariants as asks
use Rattle.qsg_step.specs.declared.step.Step.{Step}
use Rattle.qsg_step.specs.Asking.{asked, IsOwn}
use Rattle.qsg_step.specs.States.{State, is_due, with_due, is_up, is_member_up}
use Rattle.qsg_step.specs.Ends.{IsEnd}
use Rattle.qsg_step.specs.Steps.{IsAfter, IsUnmade, answer_to, with_hand, begun_if, in_hand_or, work_before, told_so, WorkSteps, RequestSteps, CrashSteps, SystemSteps, StepAsked, StepUnless, StepAt, StepAs, IsStep, with_answer, IsStartStep}
use Rattle.qsg_step.specs.Waiting.{cause_of, has_work, system_of}
use Rattle.qsg_sound.specs.Founding.{IsNewState}
use Rattle.qsg_sound.specs.Sound.{IsSound}
use Rattle.qsg_answered.specs.Telling.{requested, pending_after, pending_of, starts}
use Rattle.qsg_answered.specs.Fits.{EndsOther, Holds, HoldsUnlessDue, AreFitting}
use Rattle.qsg_sound.proofs.Asking.{asked_own, asked_said, IsSaid, up_unless, up_within, not_system}
use Rattle.qsg_sound.proofs.StartStep.{start_has}
use Rattle.qsg_answered.proofs.Breaking.{next_is, carried_broken, starts_by, gone_after, due_same, due_other}
use Rattle.qsg_answered.proofs.Ends.{ended_fits, crash_fits}
use Rattle.qsg_answered.proofs.Starting.{other_fits, start_fits}
use Rattle.qsg_answered.proofs.Systems.{beside_goes, peer_fits}
use Rattle.qsg_answered.proofs.Founded.{new_fits}
use Rattle.qsg_answered.proofs.Keeping.{IsBeside, carried_self, moved_fits, own_pending, other_pending, goes_fitting, answered_fitting}
use Rattle.qsg_answered.proofs.Outcomes.{Moves}
use Rattle.qsg_sound.proofs.Owning.{at_owner, at_work}
use Rattle.qsg_answered.proofs.Staying.{cut_stays, systems_stay}
use Rattle.qsg_sound.proofs.Hands.{by_hand}
use Rattle.qsg_answered.proofs.Taking.{IsTaken, taken_is}
use Rattle.qsg_answered.proofs.Tellers.{step_leaves_telling}
use Rattle.qsg_answered.proofs.Working.{work_moves, HasFailed, failed_is}

pub new_answers_fit : (s : State) → IsNewState s → AreFitting s
new_answers_fit s new = new_fits s new

-- ---- a step of a request

-- what a task holds, by the work that it has taken up
holds_there : (m : Member) (t : TaskNo) (d : Directive) (ops : List (StructNo × Op)) (before : Work) (s : State) → IsTaken m t d ops before s
    → Holds s.parts.objects s.parts.history.items (task_at (member_of before) (task_of before) s.parts.managers) ops (Some before)
holds_there m t d ops before s taken = at_work (λ k w. Holds s.parts.objects s.parts.history.items (task_at k w s.parts.managers) ops (Some before)) before m t taken.own taken.holds

pub moves_there : (m : Member) (t : TaskNo) (d : Directive) (before work : Work) (q : Owned) (result : Turn) (s : State) → IsSound s → IsLawful s.parts → AreFitting s → IsTaken m t d (pending_of s.parts.objects m t s.courses) before s → NextWork before s.parts (Ok result) work q
    → Moves m t (pending_of s.parts.objects m t s.courses) before work s.parts q result
moves_there m t d before work q result s sound l fits taken next =
    let ops = pending_of s.parts.objects m t s.courses in
    at_owner (λ k w. Moves k w ops before work s.parts q result) before m t taken.own
    (work_moves _ _ ops s.parts q before work result sound.steady l taken.ready fits.inside (holds_there m t d ops before s taken) next)

-- what a task without a 2009 that is due holds
pub held_now : (m : Member) (t : TaskNo) (s : State) → AreFitting s → is_due m t s.due ≡ false → Holds s.parts.objects s.parts.history.items (task_at m t s.parts.managers) (pending_of s.parts.objects m t s.courses) (work_of m t s.works)
held_now m t s fits free = subst (λ (b : Bool). HoldsUnlessDue b s.parts.objects s.parts.history.items (task_at m t s.parts.managers) (pending_of s.parts.objects m t s.courses) (work_of m t s.works)) free (fits.tasks m t)

-- ---- a log that failed

begun_first : (m : Member) (t : TaskNo) (r : Request) → has_begun (begun m t r) ≡ false
begun_first m t (request.Put words) = refl
begun_first m t (request.Get queue select) = refl
begun_first m t request.Commit = refl
begun_first m t request.Backout = refl

-- a work that has begun is in hand
pub in_hand : (m : Member) (t : TaskNo) (d : Directive) (before : Work) (s : State) → work_before m t d s ≡ Some before → has_begun before ≡ true → work_of m t s.works ≡ Some before
in_hand m t d before s is begun_now = by (work_of m t s.works) refl is
  where
    first : (r : Option Request) → begun_if m t r ≡ Some before → ⊥
    first None is = none-some before is
    first (Some r) is = true≢false (sym begun_now ∙ ap has_begun (sym (same_Some (begun m t r) before is)) ∙ begun_first m t r)

    by : (o : Option Work) → work_of m t s.works ≡ o → in_hand_or o (begun_if m t (request_of d)) ≡ Some before → work_of m t s.works ≡ Some before
    by None hand is = absurd (first (request_of d) is)
    by (Some w) hand is = hand ∙ is

-- the group is as it was, but for logs
pub same_but_logs : (m : Member) (t : TaskNo) (before work : Work) (q : Owned) (s : State) → (failed : HasFailed before work s.parts q) → work_of m t s.works ≡ Some before → with_hand m t (Some work) q s ≡ record s { parts = record s.parts { logs = failed.logs } }
same_but_logs m t before work q s failed hand =
    let works : with_work m t (Some work) s.works ≡ s.works = ap (λ (o : Option Work). with_work m t o s.works) (ap (λ (w : Work). Some w) failed.work_is ∙ sym hand) ∙ set-get_or s.works (place m t) None in
    (λ i. record s { parts = failed.parts_are i; works = works i })

fails : (m : Member) (t : TaskNo) (d : Directive) (before work : Work) (q : Owned) (s r : State) → IsSound s → IsLawful s.parts → AreFitting s → (manager_in m s.parts.managers).up ≡ true → work_before m t d s ≡ Some before → NextWork before s.parts (Err LogFailed) work q
    → IsEnd m (with_hand m t (Some work) q s) r → AreFitting r
fails m t d before work q s r sound l fits up is next end =
    let failed = failed_is s.parts q before work next in
    let hand = in_hand m t d before s is failed.begun in
    ended_fits m failed.logs s r sound l fits (up_within m s up) up (subst (λ (x : State). IsEnd m x r) (same_but_logs m t before work q s failed hand) end)

-- ---- a step of a request

work_fits : (m : Member) (t : TaskNo) (d : Directive) (before work : Work) (result : Result Turn StepError) (q : Owned) (s : State) (step : Step) (r : State) → IsSound s → IsLawful s.parts → AreFitting s → is_due m t s.due ≡ false → (task_number t ≡ 0 → ⊥) → (manager_in m s.parts.managers).up ≡ true
    → next_of (actor.Task m t) s.courses ≡ Some d → work_before m t d s ≡ Some before
    → IsTaken m t d (pending_of s.parts.objects m t s.courses) before s → NextWork before s.parts result work q → IsAfter m t d result work q s step r → AreFitting r
work_fits m t d before work (Ok turn.More) q s step r sound l fits free own up next is taken made after =
    subst AreFitting (sym after.1) (goes_fitting m t before work q s sound l fits free taken.commits (moves_there m t d before work q turn.More s sound l fits taken made))
work_fits m t d before work (Ok (turn.Ended said)) q s step r sound l fits free own up next is taken made after =
    let found = next_is (actor.Task m t) d s.courses next in
    subst AreFitting (sym after.1) (answered_fitting m t d before said found.0 q s sound l fits free own found.1 taken (moves_there m t d before work q (turn.Ended said) s sound l fits taken made))
work_fits m t d before work (Ok (turn.Waits cause)) q s step r sound l fits free own up next is taken made after = subst AreFitting (sym after.1) fits
work_fits m t d before work (Err LogFailed) q s step r sound l fits free own up next is taken made after = fails m t d before work q s r sound l fits up is made after.1
work_fits m t d before work (Err NoMemory) q s step r sound l fits free own up next is taken made after = absurd after

work_steps : (s r : State) (m : Member) (t : TaskNo) (d : Directive) (step : Step) → IsSound s → IsLawful s.parts → AreFitting s → is_due m t s.due ≡ false → (task_number t ≡ 0 → ⊥) → next_of (actor.Task m t) s.courses ≡ Some d → (manager_in m s.parts.managers).up ≡ true
    → WorkSteps m t d (work_before m t d s) s step r → AreFitting r
work_steps s r m t d step sound l fits free own next up steps = by (work_before m t d s) refl steps
  where
    by : (before : Option Work) → work_before m t d s ≡ before → WorkSteps m t d before s step r → AreFitting r
    by None given made = absurd made
    by (Some before) given made =
        work_fits m t d before made.work made.result made.parts s step r sound l fits free own up next given (taken_is m t d (pending_of s.parts.objects m t s.courses) before s sound (up_within m s up) next (held_now m t s fits free) given) made.next made.after

-- ---- a task that is told of the end of its member

due_fits : (m : Member) (t : TaskNo) (d : Directive) (s : State) (asks_for : Request) → IsSound s → AreFitting s → is_due m t s.due ≡ true → (task_number t ≡ 0 → ⊥) → next_of (actor.Task m t) s.courses ≡ Some d → request_of d ≡ Some asks_for → AreFitting (told_so m t d s)
due_fits m t d s asks_for sound fits due own next asking =
    let p = s.parts in
    let h = p.history.items in
    let who = actor.Task m t in
    let a = answer_to d (reply.Refused ConnectionBroken) s in
    let cs = answered who a s.courses in
    let found = next_is who d s.courses next in
    let carried = carried_broken p.objects h p m t d (length h) s.courses asks_for next asking refl in
    let lost = subst (λ (b : Bool). HoldsUnlessDue b p.objects h (task_at m t p.managers) (pending_of p.objects m t s.courses) (work_of m t s.works)) due (fits.tasks m t) in
    let gone : pending_of p.objects m t cs ≡ [] = own_pending p.objects m t d a found.0 s.courses found.1 ∙ ap (λ (x : Option Request). pending_after p.objects (pending_of p.objects m t s.courses) x a.reply) asking ∙ gone_after p.objects (pending_of p.objects m t s.courses) asks_for in
    let holds : Holds p.objects h (task_at m t p.managers) (pending_of p.objects m t cs) (work_of m t s.works) =
    subst (λ (o : Option Work). Holds p.objects h (task_at m t p.managers) (pending_of p.objects m t cs) o) (sym lost.idle) (ap (λ (z : Task). z.ops) (sound.steady.named m t lost.free) ∙ sym gone) in
    record {
      answers = carried.fits fits.answers;
      tasks = by_hand (λ k w. HoldsUnlessDue (is_due k w (with_due m t false s.due)) p.objects h (task_at k w p.managers) (pending_of p.objects k w cs) (work_of k w s.works)) m t
          (subst (λ (b : Bool). HoldsUnlessDue b p.objects h (task_at m t p.managers) (pending_of p.objects m t cs) (work_of m t s.works)) (sym (due_same m t false s.due sound.dues)) holds)
          (λ k w differ.
          subst (λ (b : Bool). HoldsUnlessDue b p.objects h (task_at k w p.managers) (pending_of p.objects k w cs) (work_of k w s.works)) (sym (due_other m t false s.due k w differ))
          (subst (λ (ops : List (StructNo × Op)). HoldsUnlessDue (is_due k w s.due) p.objects h (task_at k w p.managers) ops (work_of k w s.works)) (sym (other_pending p.objects m t k w a s.courses differ)) (fits.tasks k w)));
      none = λ k. other_pending p.objects m t k task.System a s.courses (λ e f. own (sym f)) ∙ fits.none k;
      left_out = carried.out fits.left_out;
      cut_off = fits.cut_off;
      cut = λ u is. cut_stays s (told_so m t d s) u [] carried.grown refl (sym (append-nil h)) (fits.cut u is);
      once = λ u. let sums = carried.commits u in let law = fits.once u in omega (arith, sums, law);
      inside = fits.inside;
      told = fits.told;
      timed = carried.timed (length h) refl fits.timed;
      given = λ k within. fits.given k within ∙ ap (λ (n : ℕ). 1 + n) (sym (starts_by k m t d (length h) s.courses next));
      systems = λ k. let mine = fits.systems k in record { answers = mine.answers; given_up = mine.given_up; timed = mine.timed };
    }

some_of : {X : Type 0} (o : Option X) → IsSome o → (x : X) × (o ≡ Some x)
some_of None is = absurd (true≢false (sym is))
some_of (Some x) is = (x, refl)

request_steps : (s r : State) (m : Member) (t : TaskNo) (d : Directive) (step : Step) → IsSound s → IsLawful s.parts → AreFitting s → (task_number t ≡ 0 → ⊥) → next_of (actor.Task m t) s.courses ≡ Some d → IsSome (request_of d) → (manager_in m s.parts.managers).up ≡ true
    → RequestSteps (is_due m t s.due) m t d s step r → AreFitting r
request_steps s r m t d step sound l fits own next asking up steps = by (is_due m t s.due) refl steps
  where
    by : (b : Bool) → is_due m t s.due ≡ b → RequestSteps b m t d s step r → AreFitting r
    by false free made = work_steps s r m t d step sound l fits free own next up made
    by true due made = let found = some_of (request_of d) asking in subst AreFitting (sym made.1) (due_fits m t d s found.0 sound fits due own next found.1)

-- ---- what is asked for

abbrev IsAskedAs : Actor → Directive → Asked → Type 0
IsAskedAs who d (asks.Work m t) = IsSome (request_of d)
IsAskedAs who d (asks.Until other answers) = requested who d ≡ None
IsAskedAs who d (asks.Crash m pick) = requested who d ≡ None
IsAskedAs who d (asks.Start m) = requested who d ≡ None
IsAskedAs who d asks.Later = requested who d ≡ None

asked_as : (who : Actor) (d : Directive) → IsAskedAs who d (asked who d)
asked_as (actor.Task m t) (directive.Put queue body priority persistent msg_id correl_id) = refl
asked_as (actor.Task m t) (directive.Get queue msg_id correl_id) = refl
asked_as (actor.Task m t) directive.Commit = refl
asked_as (actor.Task m t) directive.Backout = refl
asked_as (actor.Task m t) (directive.Wait other answers) = refl
asked_as (actor.Task m t) other = refl
asked_as actor.Operator (directive.Put queue body priority persistent msg_id correl_id) = refl
asked_as actor.Operator (directive.Get queue msg_id correl_id) = refl
asked_as actor.Operator directive.Commit = refl
asked_as actor.Operator directive.Backout = refl
asked_as actor.Operator (directive.Wait other answers) = refl
asked_as actor.Operator other = refl

-- an answer to what isn't a request
said_fits : (who : Actor) (d : Directive) (a : Asked) (said : Reply) (s : State) → AreFitting s → next_of who s.courses ≡ Some d → asked who d ≡ a → requested who d ≡ None → EndsOther a said → ((k : Member) → starts k a said ≡ false) → AreFitting (with_answer who d said s)
said_fits who d a said s fits next is none ends unstarted =
    other_fits who d said s fits next none (subst (λ (x : Asked). EndsOther x said) (sym is) ends) (λ k. ap (λ (x : Asked). starts k x said) is ∙ unstarted k)

crash_steps : (s r : State) (m : Member) (pick : ℕ) (d : Directive) → IsSound s → IsLawful s.parts → AreFitting s → next_of actor.Operator s.courses ≡ Some d → asked actor.Operator d ≡ asks.Crash m pick → CrashSteps (is_member_up m s) m d s r → AreFitting r
crash_steps s r m pick d sound l fits next is steps = by (is_member_up m s) refl steps
  where
    by : (b : Bool) → is_member_up m s ≡ b → CrashSteps b m d s r → AreFitting r
    by true up made = crash_fits m d pick s made.ended r sound l fits (up_within m s up) up next is made.ends made.answered
    by false down made = subst AreFitting (sym made) (said_fits actor.Operator d (asks.Crash m pick) (reply.Refused Down) s fits next is refl tt (λ k. refl))

-- ---- a step

asked_steps : (s r : State) (who : Actor) (d : Directive) (a : Asked) (step : Step) → IsSound s → IsLawful s.parts → AreFitting s → system_of who ≡ None → next_of who s.courses ≡ Some d → is_up who s ≡ true → asked who d ≡ a → StepAsked who d a s step r → AreFitting r
asked_steps s r who d (asks.Work m t) step sound l fits user next up is steps =
    let own = subst (IsOwn who) is (asked_own who d) in
    request_steps s r m t d step sound l fits (λ zero. not_system m t (subst (λ (x : Actor). system_of x ≡ None) own user) (sym zero)) (subst (λ (x : Actor). next_of x s.courses ≡ Some d) own next) (subst (IsAskedAs who d) is (asked_as who d))
    (subst (λ (x : Actor). is_up x s ≡ true) own up) steps
asked_steps s r who d (asks.Until other n) step sound l fits user next up is steps =
    subst AreFitting (sym steps.1) (said_fits who d (asks.Until other n) reply.Done s fits next is (subst (IsAskedAs who d) is (asked_as who d)) tt (λ k. refl))
asked_steps s r who d (asks.Crash m pick) step sound l fits user next up is steps =
    let own = subst (IsOwn who) is (asked_own who d) in
    crash_steps s r m pick d sound l fits (subst (λ (x : Actor). next_of x s.courses ≡ Some d) own next) (subst (λ (x : Actor). asked x d ≡ asks.Crash m pick) own is) steps.1
asked_steps s r who d (asks.Start m) step sound l fits user next up is steps =
    let own = subst (IsOwn who) is (asked_own who d) in
    let said : d ≡ directive.Start m = subst (λ (x : Asked). IsSaid x d) is (asked_said who d) in
    let now : next_of actor.Operator s.courses ≡ Some (directive.Start m) = subst (λ (x : Actor). next_of x s.courses ≡ Some d) own next ∙ ap (λ (x : Directive). Some x) said in
    start_fits m s r sound fits now (start_has m s sound now).manager (subst (λ (x : Directive). IsStartStep m x s r) said steps.1)
asked_steps s r who d asks.Later step sound l fits user next up is steps =
    subst AreFitting (sym steps.1) (said_fits who d asks.Later (reply.Refused NotYet) s fits next is (subst (IsAskedAs who d) is (asked_as who d)) tt (λ k. refl))

user_fits : (s r : State) (who : Actor) (step : Step) → IsSound s → IsLawful s.parts → AreFitting s → system_of who ≡ None → StepAt who (next_of who s.courses) s step r → AreFitting r
user_fits s r who step sound l fits user steps = by (next_of who s.courses) refl steps
  where
    unless : (d : Directive) (cause : Option Cause) → next_of who s.courses ≡ Some d → cause_of who (asked who d) s ≡ cause → StepUnless who d cause s step r → AreFitting r
    unless d None next free made = asked_steps s r who d (asked who d) step sound l fits user next (up_unless who (asked who d) s free) refl made
    unless d (Some cause) next waits made = subst AreFitting (sym made.1) fits

    by : (next : Option Directive) → next_of who s.courses ≡ next → StepAt who next s step r → AreFitting r
    by None is made = subst AreFitting (sym made.1) fits
    by (Some d) is made = unless d (cause_of who (asked who d) s) is refl made

system_fits : (s r : State) (m : Member) (works : Bool) (step : Step) → IsSound s → AreFitting s → SystemSteps works m s step r → AreFitting r
system_fits s r m true step sound fits steps = peer_fits m s r sound fits steps.1
system_fits s r m false step sound fits steps = subst AreFitting (sym steps.1) fits

step_fits : (s r : State) (who : Actor) (step : Step) → IsSound s → IsLawful s.parts → AreFitting s → IsStep who s step r → AreFitting r
step_fits s r who step sound l fits steps = by (system_of who) refl steps
  where
    by : (o : Option Member) → system_of who ≡ o → StepAs o who s step r → AreFitting r
    by None user made = user_fits s r who step sound l fits user made
    by (Some m) user made = system_fits s r m (has_work m s) step sound fits made

-- where logs tell their bytes after a step, they told them before it
pub step_keeps_fitting : (s r : State) (who : Actor) (step : Step) → IsSound s → IsSound r → (AreTelling s.parts → AreFitting s) → IsStep who s step r → AreTelling r.parts → AreFitting r
step_keeps_fitting s r who step sound after fits steps telling =
    let before = step_leaves_telling s r who step steps telling in
    step_fits s r who step sound (sound.steady.lawful before) (fits before) steps

-- ---- more room

room_fits : (s : State) (room : ℕ) → AreFitting s → AreFitting (record s { parts = with_room room s.parts })
room_fits s room fits =
    let p = s.parts in
    let q = with_room room p in
    moved_fits s q s.courses s.starting s.peers s.tallies fits (beside_room p room) (carried_self p.objects p.history.items q s.courses) (λ k w. refl) fits.given
    (λ k. let own = fits.systems k in record {
      answers = systems_stay k p q s.tallies.rows s.tallies.rows (peer_of k s.peers).answers (beside_goes k p q s.tallies.rows s.tallies.rows (beside_room p room) (λ life over. over) (λ of i settled counted. counted)) own.answers;
      given_up = own.given_up;
      timed = own.timed;
    })
  where
    beside_room : (p : Owned) (room : ℕ) → IsBeside p (with_room room p)
    beside_room p room = record { objects = refl; history = refl; tasks = λ k w. refl; drawn = λ u drawn. drawn; failed = λ k i is. is; inside = λ each. each; told = λ is_told each. each }

pub roomy_fitting : (s r : State) → IsSound s → (AreTelling s.parts → AreFitting s) → IsUnmade s r → AreTelling r.parts → AreFitting r
roomy_fitting s r sound fits unmade telling =
    subst AreFitting (sym unmade.others)
    (subst (λ (x : Owned). AreFitting (record s { parts = x })) (sym unmade.parts.same) (room_fits s r.parts.history.room (fits (subst AreTelling unmade.parts.same telling))))
