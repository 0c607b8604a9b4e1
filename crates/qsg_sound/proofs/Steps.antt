-- a group is sound at first, and after each step
use Rattle.std.proofs.Common.{◌≡◌, ℕ, length, Bool, true, false, Option, Some, None, refl, sym, ap, subst, ◌∙◌}
use Rattle.std.proofs.lemmas.Bool.{and_parts}
use Rattle.qsg_num.specs.declared.seats.Member.{Member}
use Rattle.qsg_num.specs.declared.seats.TaskNo.{TaskNo}
use Rattle.qsg_num.specs.declared.ids.Actor.{Actor}
use Rattle.qsg_num.specs.declared.ids.Actor.TheVariants as actor
use Rattle.qsg_objects.specs.declared.directives.Directive.{Directive}
use Rattle.qsg_objects.specs.declared.directives.Directive.TheVariants as directive
use Rattle.qsg_requests.specs.declared.replies.Cause.{Cause}
use Rattle.qsg_requests.specs.declared.replies.Reason.TheVariants as reason
use Rattle.qsg_requests.specs.declared.replies.Reply.{Reply}
use Rattle.qsg_requests.specs.declared.replies.Reply.TheVariants as reply
use Rattle.qsg_agenda.specs.Courses.{next_of}
use Rattle.qsg_directives.specs.Asking.{request_of}
use Rattle.qsg_steady.proofs.Gives.{member_has}
use Rattle.qsg_works.specs.declared.work.Work.{Work}
use Rattle.qsg_works.specs.InHand.{work_of}
use Rattle.qsg_step.specs.declared.asked.Asked.{Asked}
use Rattle.qsg_step.specs.declared.asked.Asked.TheVariants as asks
use Rattle.qsg_step.specs.declared.step.Step.{Step}
use Rattle.qsg_step.specs.Asking.{asked, IsOwn}
use Rattle.qsg_step.specs.States.{State, is_due, with_due, is_member_up, is_up}
use Rattle.qsg_step.specs.Steps.{answer_to, with_answer, work_before, WorkSteps, RequestSteps, CrashSteps, IsStartStep, told_so, StepAsked, StepUnless, StepAt, SystemSteps, StepAs, IsStep, IsUnmade}
use Rattle.qsg_step.specs.Waiting.{has_work, cause_of, reading, system_of}
use Rattle.qsg_sound.specs.Sound.{answers_given, in_progress, is_start, IsSound, AreTypesKept, HaveIds}
use Rattle.qsg_sound.proofs.AnswerStep.{no_work, no_start, IsNoStart, unstarted, IsFree, told_sound}
use Rattle.qsg_sound.proofs.Asking.{asked_own, IsNoRequest, no_request, IsSaid, asked_said, up_unless, up_within, not_system}
use Rattle.qsg_sound.proofs.Dues.{due_other, due_length}
use Rattle.qsg_sound.proofs.EndStep.{end_operator, end_keeps}
use Rattle.qsg_sound.proofs.Hands.{by_hand}
use Rattle.qsg_sound.proofs.PeerStep.{peer_keeps}
use Rattle.qsg_sound.proofs.Ready.{is_ready}
use Rattle.qsg_sound.proofs.RequestStep.{work_keeps}
use Rattle.qsg_sound.proofs.Roomy.{room_keeps}
use Rattle.qsg_sound.proofs.StartStep.{start_keeps}
use Rattle.qsg_sound.proofs.Starts.{next_within}
use Rattle.qsg_sound.proofs.SystemsAfter.{request_ordered, request_systems, answer_systems, end_systems, start_systems, peer_ordered, peer_steady, peer_systems, unmade_systems}

-- ---- a request

work_steps : (s r : State) (m : Member) (t : TaskNo) (d : Directive) (step : Step) → IsSound s → HaveIds (actor.Task m t) s → AreTypesKept r → next_of (actor.Task m t) s.courses ≡ Some d → is_member_up m s ≡ true → system_of (actor.Task m t) ≡ None → is_due m t s.due ≡ false
    → WorkSteps m t d (work_before m t d s) s step r → IsSound r
work_steps s r m t d step sound ids kept next up apart due steps = by (work_before m t d s) refl steps
  where
    by : (before : Option Work) → work_before m t d s ≡ before → WorkSteps m t d before s step r → IsSound r
    by None given made = absurd made
    by (Some before) given made =
        let ready = is_ready m t d before s sound ids up (up_within m s up) next given in
        work_keeps m t d before made.work made.result made.parts s step r sound up (not_system m t apart) due ready next made.next made.after
        (request_ordered m t d before made.work made.result made.parts s step r sound ready made.next made.after kept) kept
        (request_systems m t d before made.work made.result made.parts s step r sound (member_has (answers_given s.courses) (in_progress s.works) s.parts m sound.steady (up_within m s up)) up ready next made.next made.after)

-- a task that learns what a crash took
told_due : (m : Member) (t : TaskNo) (d : Directive) (s : State) → IsSound s → next_of (actor.Task m t) s.courses ≡ Some d → is_due m t s.due ≡ true → AreTypesKept (told_so m t d s) → IsSound (told_so m t d s)
told_due m t d s sound next due kept =
    told_sound (actor.Task m t) d (answer_to d (reply.Refused reason.ConnectionBroken) s) (with_due m t false s.due) s sound next refl (sound.owed m t due) (due_length m t false s.due ∙ sound.dues)
    (by_hand (λ k w. is_due k w (with_due m t false s.due) ≡ true → is_due k w s.due ≡ true) m t (λ is. due) (λ k w differ is. sym (due_other m t false s.due k w differ) ∙ is))
    kept (answer_systems s (actor.Task m t) d (answer_to d (reply.Refused reason.ConnectionBroken) s) (with_due m t false s.due) sound)

request_steps : (s r : State) (m : Member) (t : TaskNo) (d : Directive) (step : Step) → IsSound s → HaveIds (actor.Task m t) s → AreTypesKept r → next_of (actor.Task m t) s.courses ≡ Some d → is_member_up m s ≡ true → system_of (actor.Task m t) ≡ None
    → RequestSteps (is_due m t s.due) m t d s step r → IsSound r
request_steps s r m t d step sound ids kept next up apart steps = by (is_due m t s.due) refl steps
  where
    by : (due : Bool) → is_due m t s.due ≡ due → RequestSteps due m t d s step r → IsSound r
    by true due made = subst IsSound (sym made.1) (told_due m t d s sound next due (subst AreTypesKept made.1 kept))
    by false due made = work_steps s r m t d step sound ids kept next up apart due made

-- ---- an answer

answers : (s : State) (who : Actor) (d : Directive) (said : Reply) → IsSound s → next_of who s.courses ≡ Some d → IsFree who s → AreTypesKept (with_answer who d said s) → IsSound (with_answer who d said s)
answers s who d said sound next free kept = told_sound who d (answer_to d said s) s.due s sound next refl free sound.dues (λ k w is. is) kept (answer_systems s who d (answer_to d said s) s.due sound)

free_until : (s : State) (who : Actor) (d : Directive) (other : Actor) (n : ℕ) → IsSound s → next_of who s.courses ≡ Some d → asked who d ≡ asks.Until other n → IsFree who s
free_until s (actor.Task m t) d other n sound next is = no_work m t d (work_of m t s.works) s.courses s.parts next (subst (λ (a : Asked). IsNoRequest a (request_of d)) is (no_request m t d)) (sound.hands m t)
free_until s actor.Operator d other n sound next is = no_start d s s.starting next (subst (λ (a : Asked). IsNoStart a (is_start d)) is (unstarted d)) sound.starting

free_later : (s : State) (who : Actor) (d : Directive) → IsSound s → next_of who s.courses ≡ Some d → asked who d ≡ asks.Later → IsFree who s
free_later s (actor.Task m t) d sound next is = no_work m t d (work_of m t s.works) s.courses s.parts next (subst (λ (a : Asked). IsNoRequest a (request_of d)) is (no_request m t d)) (sound.hands m t)
free_later s actor.Operator d sound next is = no_start d s s.starting next (subst (λ (a : Asked). IsNoStart a (is_start d)) is (unstarted d)) sound.starting

-- ---- CRASH and START

crash_steps : (s r : State) (m : Member) (pick : ℕ) → IsSound s → AreTypesKept r → next_of actor.Operator s.courses ≡ Some (directive.Crash m pick) → CrashSteps (is_member_up m s) m (directive.Crash m pick) s r → IsSound r
crash_steps s r m pick sound kept next steps = by (is_member_up m s) refl steps
  where
    free : s.starting ≡ None
    free = no_start (directive.Crash m pick) s s.starting next refl sound.starting

    by : (up : Bool) → is_member_up m s ≡ up → CrashSteps up m (directive.Crash m pick) s r → IsSound r
    by true up made =
        let has = member_has (answers_given s.courses) (in_progress s.works) s.parts m sound.steady (next_within (length s.parts.managers) actor.Operator s.courses (directive.Crash m pick) sound.within next) in
        let types = subst AreTypesKept made.answered kept in
        let ended : AreTypesKept made.ended = record { logs = types.logs; structures = types.structures; peers = types.peers; starting = types.starting } in
        let still = end_keeps m s made.ended sound has up made.ends ended (end_systems m s made.ended sound has up made.ends) in
        let asked = ap (λ (x : State). next_of actor.Operator x.courses) made.ends.after ∙ end_operator m made.ended.parts s sound ∙ next in
        let empty = ap (λ (x : State). x.starting) made.ends.after ∙ free in
        let a = answer_to (directive.Crash m pick) reply.Done s in
        subst IsSound (sym made.answered) (told_sound actor.Operator (directive.Crash m pick) a made.ended.due made.ended still asked refl empty still.dues (λ k w is. is) types
        (answer_systems made.ended actor.Operator (directive.Crash m pick) a made.ended.due still))
    by false up made = subst IsSound (sym made) (answers s actor.Operator (directive.Crash m pick) (reply.Refused reason.Down) sound next free (subst AreTypesKept made kept))

start_steps : (s r : State) (m : Member) → IsSound s → AreTypesKept r → next_of actor.Operator s.courses ≡ Some (directive.Start m) → reading m s ≡ None → IsStartStep m (directive.Start m) s r → IsSound r
start_steps s r m sound kept next free made = start_keeps m s r sound next made kept (start_systems m s r sound next free made)

-- ---- an actor

asked_steps : (s r : State) (who : Actor) (d : Directive) (a : Asked) (step : Step) → IsSound s → HaveIds who s → AreTypesKept r → system_of who ≡ None → next_of who s.courses ≡ Some d → cause_of who a s ≡ None → asked who d ≡ a → StepAsked who d a s step r → IsSound r
asked_steps s r who d (asks.Work m t) step sound ids kept apart next free is steps =
    let own = subst (IsOwn who) is (asked_own who d) in
    request_steps s r m t d step sound (subst (λ (x : Actor). HaveIds x s) own ids) kept (subst (λ (x : Actor). next_of x s.courses ≡ Some d) own next)
    (subst (λ (x : Actor). is_up x s ≡ true) own (up_unless who (asks.Work m t) s free)) (subst (λ (x : Actor). system_of x ≡ None) own apart) steps
asked_steps s r who d (asks.Until other n) step sound ids kept apart next free is steps =
    subst IsSound (sym steps.1) (answers s who d reply.Done sound next (free_until s who d other n sound next is) (subst AreTypesKept steps.1 kept))
asked_steps s r who d (asks.Crash m pick) step sound ids kept apart next free is steps =
    let own = subst (IsOwn who) is (asked_own who d) in
    let said = subst (λ (x : Asked). IsSaid x d) is (asked_said who d) in
    crash_steps s r m pick sound kept (subst (λ (x : Actor). next_of x s.courses ≡ Some (directive.Crash m pick)) own (next ∙ ap Some said)) (subst (λ (x : Directive). CrashSteps (is_member_up m s) m x s r) said steps.1)
asked_steps s r who d (asks.Start m) step sound ids kept apart next free is steps =
    let own = subst (IsOwn who) is (asked_own who d) in
    let said = subst (λ (x : Asked). IsSaid x d) is (asked_said who d) in
    start_steps s r m sound kept (subst (λ (x : Actor). next_of x s.courses ≡ Some (directive.Start m)) own (next ∙ ap Some said))
    (subst (λ (x : Actor). cause_of x (asks.Start m) s ≡ None) own free) (subst (λ (x : Directive). IsStartStep m x s r) said steps.1)
asked_steps s r who d asks.Later step sound ids kept apart next free is steps =
    subst IsSound (sym steps.1) (answers s who d (reply.Refused reason.NotYet) sound next (free_later s who d sound next is) (subst AreTypesKept steps.1 kept))

actor_steps : (s r : State) (who : Actor) (step : Step) → IsSound s → HaveIds who s → AreTypesKept r → system_of who ≡ None → StepAt who (next_of who s.courses) s step r → IsSound r
actor_steps s r who step sound ids kept apart steps = by (next_of who s.courses) refl steps
  where
    unless : (d : Directive) (cause : Option Cause) → next_of who s.courses ≡ Some d → cause_of who (asked who d) s ≡ cause → StepUnless who d cause s step r → IsSound r
    unless d None next free made = asked_steps s r who d (asked who d) step sound ids kept apart next free refl made
    unless d (Some cause) next waits made = subst IsSound (sym made.1) sound

    by : (next : Option Directive) → next_of who s.courses ≡ next → StepAt who next s step r → IsSound r
    by None is made = subst IsSound (sym made.1) sound
    by (Some d) is made = unless d (cause_of who (asked who d) s) is refl made

-- ---- a system task

system_steps : (s r : State) (m : Member) (step : Step) → IsSound s → AreTypesKept r → SystemSteps (has_work m s) m s step r → IsSound r
system_steps s r m step sound kept steps = by (has_work m s) refl steps
  where
    by : (has : Bool) → has_work m s ≡ has → SystemSteps has m s step r → IsSound r
    by true has made =
        let up = (and_parts (is_member_up m s) _ has).0 in
        peer_keeps m s r sound (peer_steady m s r sound up made.1) made.1 (peer_ordered m s r sound kept made.1) kept (peer_systems m s r sound up made.1)
    by false has made = subst IsSound (sym made.1) sound

-- ---- every step

pub step_keeps_sound : (s r : State) (who : Actor) (step : Step) → IsSound s → HaveIds who s → AreTypesKept r → IsStep who s step r → IsSound r
step_keeps_sound s r who step sound ids kept steps = by (system_of who) refl steps
  where
    by : (system : Option Member) → system_of who ≡ system → StepAs system who s step r → IsSound r
    by None is made = actor_steps s r who step sound ids kept is made
    by (Some m) is made = system_steps s r m step sound kept made

pub roomy_sound : (s r : State) → IsSound s → AreTypesKept r → IsUnmade s r → IsSound r
roomy_sound s r sound kept unmade = subst IsSound (sym unmade.others) (room_keeps s r.parts sound unmade.parts (subst AreTypesKept unmade.others kept) (unmade_systems s r.parts sound unmade.parts))
