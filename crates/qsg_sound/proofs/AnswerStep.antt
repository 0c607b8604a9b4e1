-- an answer to a directive that does nothing keeps the group sound
use Rattle.std.proofs.Common.{◌≡◌, Bool, true, false, List, length, Option, Some, None, refl, sym, ap, subst, ◌∙◌, arith}
use Rattle.std.specs.Prelude.{IfSome}
use Rattle.std.proofs.lemmas.Bool.{false≢true}
use Rattle.std.proofs.lemmas.Option.{none-some, same_Some}
use Rattle.qsg_num.specs.declared.seats.Member.{Member}
use Rattle.qsg_num.specs.declared.seats.TaskNo.{TaskNo}
use Rattle.qsg_num.specs.declared.ids.Actor.{Actor}
use Rattle.qsg_num.specs.declared.ids.Actor.TheVariants as actor
use Rattle.qsg_objects.specs.declared.directives.Directive.{Directive}
use Rattle.qsg_objects.specs.declared.directives.Directive.TheVariants as directive
use Rattle.qsg_requests.specs.declared.transcript.Answer.{Answer}
use Rattle.qsg_agenda.specs.Courses.{Course, verb_of, next_of, answered}
use Rattle.qsg_directives.specs.Asking.{request_of}
use Rattle.qsg_parts.specs.Owned.{Owned}
use Rattle.qsg_steady.proofs.Committing.{counts_steady}
use Rattle.qsg_start.specs.Works.{Work as StartWork}
use Rattle.qsg_works.specs.declared.work.Work.{Work}
use Rattle.qsg_works.specs.InHand.{work_of}
use Rattle.qsg_step.specs.declared.asked.Asked.{Asked}
use Rattle.qsg_step.specs.declared.asked.Asked.TheVariants as asks
use Rattle.qsg_step.specs.Asking.{asked}
use Rattle.qsg_step.specs.States.{State, is_due}
use Rattle.qsg_sound.specs.Sound.{answers_given, in_progress, is_start, request_in, IsHand, IsSound, AreTypesKept}
use Rattle.qsg_sound.specs.Systems.{IsStarting}
use Rattle.qsg_sound.proofs.Answering.{one_more, next_apart, tasks_apart, operator_apart}
use Rattle.qsg_sound.proofs.Breaking.{task_apart}
use Rattle.qsg_sound.proofs.Hands.{by_hand}
use Rattle.qsg_sound.proofs.Keeping.{sound_kept, kept_answered}
use Rattle.qsg_sound.proofs.Standing.{AreSystemsSound}
use Rattle.qsg_sound.proofs.Starts.{starts_fewer}

-- ---- who has nothing in progress

-- a task whose next directive is no request has no work in hand
pub no_work : (m : Member) (t : TaskNo) (d : Directive) (held : Option Work) (cs : List Course) (p : Owned) → next_of (actor.Task m t) cs ≡ Some d → request_of d ≡ None → IsHand m t held cs p → held ≡ None
no_work m t d None cs p next none hand = refl
no_work m t d (Some work) cs p next none hand =
    absurd (none-some (request_in work) (sym none ∙ ap request_of (same_Some d hand.asked.directive (sym next ∙ hand.asked.next)) ∙ hand.asked.request))

-- only a START is in progress where it comes next
pub no_start : (d : Directive) (s : State) (o : Option StartWork) → next_of actor.Operator s.courses ≡ Some d → is_start d ≡ false → IfSome o (λ w. IsStarting w s) → o ≡ None
no_start d s None next none is = refl
no_start d s (Some w) next none is =
    let same : directive.Start w.member ≡ d = same_Some (directive.Start w.member) d (sym is.asked ∙ next) in
    absurd (false≢true (sym none ∙ sym (ap is_start same)))

abbrev pub IsNoStart : Asked → Bool → Type 0
IsNoStart (asks.Start m) is = Unit {0}
IsNoStart other is = is ≡ false

pub unstarted : (d : Directive) → IsNoStart (asked actor.Operator d) (is_start d)
unstarted (directive.Start m) = tt
unstarted other = refl

-- the actor has no request or START in progress
abbrev pub IsFree : Actor → State → Type 0
IsFree (actor.Task m t) s = work_of m t s.works ≡ None
IsFree actor.Operator s = s.starting ≡ None

-- ---- hands

-- a hand stays as it was where the next directive of its task does
pub hand_next : (k : Member) (w : TaskNo) (held : Option Work) (cs after : List Course) (p : Owned) → next_of (actor.Task k w) after ≡ next_of (actor.Task k w) cs → IsHand k w held cs p → IsHand k w held after p
hand_next k w None cs after p next free = free
hand_next k w (Some work) cs after p next hand = record {
  own = hand.own;
  begun = hand.begun;
  asked = record { directive = hand.asked.directive; next = next ∙ hand.asked.next; request = hand.asked.request };
  fits = hand.fits;
}

hands_after : (who : Actor) (a : Answer) (s : State) → IsSound s → IsFree who s → (k : Member) (w : TaskNo) → IsHand k w (work_of k w s.works) (answered who a s.courses) s.parts
hands_after (actor.Task m t) a s sound free =
    let cs = answered (actor.Task m t) a s.courses in
    by_hand (λ k w. IsHand k w (work_of k w s.works) cs s.parts) m t
    (subst (λ (x : Option Work). IsHand m t x cs s.parts) (sym free) (subst (λ (x : Option Work). IsHand m t x s.courses s.parts) free (sound.hands m t)))
    (λ k w differ. hand_next k w (work_of k w s.works) s.courses cs s.parts (next_apart (actor.Task m t) (actor.Task k w) a s.courses (tasks_apart m t k w differ)) (sound.hands k w))
hands_after actor.Operator a s sound free =
    λ k w. hand_next k w (work_of k w s.works) s.courses (answered actor.Operator a s.courses) s.parts (next_apart actor.Operator (actor.Task k w) a s.courses (operator_apart k w)) (sound.hands k w)

-- ---- the START in progress

-- an answer, with other tasks due
abbrev pub told : Actor → Answer → List Bool → State → State
told who a due s = record s { courses = answered who a s.courses; due = due }

start_next : (who : Actor) (a : Answer) (due : List Bool) (s : State) (o : Option StartWork) → next_of actor.Operator (told who a due s).courses ≡ next_of actor.Operator s.courses → IfSome o (λ w. IsStarting w s) → IfSome o (λ w. IsStarting w (told who a due s))
start_next who a due s None next is = tt
start_next who a due s (Some w) next is = record { asked = next ∙ is.asked; member = is.member; down = is.down; checked = is.checked; follows = is.follows; low = is.low }

start_after : (who : Actor) (a : Answer) (due : List Bool) (s : State) → IsSound s → IsFree who s → IfSome s.starting (λ w. IsStarting w (told who a due s))
start_after (actor.Task m t) a due s sound free = start_next (actor.Task m t) a due s s.starting (task_apart m t a s.courses) sound.starting
start_after actor.Operator a due s sound free = subst (λ (o : Option StartWork). IfSome o (λ w. IsStarting w (told actor.Operator a due s))) (sym free) tt

-- ---- the state

pub told_sound : (who : Actor) (d : Directive) (a : Answer) (due : List Bool) (s : State) → IsSound s → next_of who s.courses ≡ Some d → a.verb ≡ verb_of d → IsFree who s → length due ≡ 40 → ((k : Member) (w : TaskNo) → is_due k w due ≡ true → is_due k w s.due ≡ true)
    → AreTypesKept (told who a due s) → AreSystemsSound (told who a due s) → IsSound (told who a due s)
told_sound who d a due s sound next verb free forty dues kept systems =
    let cs = answered who a s.courses in
    let are = kept_answered (length s.parts.managers) who a d s.courses (sound_kept s sound) next verb in
    let more = one_more who a s.courses d next in
    let fewer = starts_fewer who a s.courses d next in
    let left = sound.starts in
    record {
      right = are.right;
      within = are.within;
      answered = are.answered;
      few = are.few;
      forty = sound.forty;
      dues = forty;
      eight = sound.eight;
      four = sound.four;
      steady = counts_steady (answers_given s.courses) (in_progress s.works) (answers_given cs) (in_progress s.works) s.parts (omega (arith, more)) (omega (arith, more)) sound.steady;
      kept = kept;
      ordered = sound.ordered;
      placed = sound.placed;
      hands = hands_after who a s sound free;
      systems = sound.systems;
      owed = λ k w is. sound.owed k w (dues k w is);
      down = sound.down;
      peers = systems.peers;
      starting = start_after who a due s sound free;
      starts = omega (arith, fewer, left);
      tallies = systems.tallies;
    }
