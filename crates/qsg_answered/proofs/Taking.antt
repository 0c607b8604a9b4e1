-- the request that a task's step works on
use Rattle.std.proofs.Common.{◌≡◌, List, Option, Some, None, refl, sym, ap, subst, ◌∙◌, arith, length}
use Rattle.std.specs.Prelude.{◌≤◌}
use Rattle.std.proofs.lemmas.Option.{none-some, same_Some}
use Rattle.qsg_num.specs.declared.seats.Member.{Member}
use Rattle.qsg_num.specs.declared.seats.StructNo.{StructNo}
use Rattle.qsg_num.specs.declared.seats.TaskNo.{TaskNo}
use Rattle.qsg_num.specs.declared.ids.Actor.TheVariants as actor
use Rattle.qsg_num.specs.declared.ids.UnitName.{UnitName}
use Rattle.qsg_num.specs.Seats.{member_number}
use Rattle.qsg_model.specs.declared.history.Item.{Item}
use Rattle.qsg_model.specs.declared.history.Op.{Op}
use Rattle.qsg_objects.specs.declared.directives.Directive.{Directive}
use Rattle.qsg_objects.specs.Registry.{Registry}
use Rattle.qsg_requests.specs.declared.words.Request.{Request}
use Rattle.qsg_requests.specs.declared.words.Request.TheVariants as request
use Rattle.qsg_agenda.specs.Courses.{next_of}
use Rattle.qsg_directives.specs.Asking.{request_of}
use Rattle.qsg_group.specs.declared.tasks.Task.{Task}
use Rattle.qsg_manager.specs.Storage.{task_at}
use Rattle.qsg_parts.specs.Owned.{HasMember}
use Rattle.qsg_works.specs.declared.work.Work.{Work}
use Rattle.qsg_works.specs.InHand.{work_of}
use Rattle.qsg_works.specs.Steps.{owner, begun}
use Rattle.qsg_step.specs.States.{State}
use Rattle.qsg_step.specs.Steps.{begun_if, in_hand_or, work_before}
use Rattle.qsg_sound.specs.Sound.{request_in, IsInHand, IsHand, IsSound}
use Rattle.qsg_answered.specs.Fits.{Holds, commits_now}
use Rattle.qsg_answered.proofs.Working.{IsReady, ready_of, ready_first}

-- a request that is taken up is of its task, does what is asked for, and is in hand or at its first step
pub record IsTaken (m : Member) (t : TaskNo) (d : Directive) (ops : List (StructNo × Op)) (before : Work) (s : State) : Type 0 where
  pub own : owner before ≡ actor.Task m t
  pub asked : request_of d ≡ Some (request_in before)
  pub ready : IsReady before s.parts
  pub holds : Holds s.parts.objects s.parts.history.items (task_at m t s.parts.managers) ops (Some before)
  pub commits : (u : UnitName) → commits_now u (work_of m t s.works) ≡ commits_now u (Some before)

begun_own : (m : Member) (t : TaskNo) (asked : Request) → owner (begun m t asked) ≡ actor.Task m t
begun_own m t (request.Put words) = refl
begun_own m t (request.Get queue select) = refl
begun_own m t request.Commit = refl
begun_own m t request.Backout = refl

begun_asked : (m : Member) (t : TaskNo) (asked : Request) → request_in (begun m t asked) ≡ asked
begun_asked m t (request.Put words) = refl
begun_asked m t (request.Get queue select) = refl
begun_asked m t request.Commit = refl
begun_asked m t request.Backout = refl

begun_holds : (objects : Registry) (h : List Item) (task : Task) (ops : List (StructNo × Op)) (m : Member) (t : TaskNo) (asked : Request) → task.ops ≡ ops → Holds objects h task ops (Some (begun m t asked))
begun_holds objects h task ops m t (request.Put words) held = (held, tt)
begun_holds objects h task ops m t (request.Get queue select) held = held
begun_holds objects h task ops m t request.Commit held = held
begun_holds objects h task ops m t request.Backout held = held

begun_commits : (m : Member) (t : TaskNo) (asked : Request) (u : UnitName) → commits_now u None ≡ commits_now u (Some (begun m t asked))
begun_commits m t (request.Put words) u = refl
begun_commits m t (request.Get queue select) u = refl
begun_commits m t request.Commit u = refl
begun_commits m t request.Backout u = refl

taken_hand : (m : Member) (t : TaskNo) (d : Directive) (ops : List (StructNo × Op)) (work : Work) (s : State) → next_of (actor.Task m t) s.courses ≡ Some d → work_of m t s.works ≡ Some work → IsInHand m t work s.courses s.parts
    → Holds s.parts.objects s.parts.history.items (task_at m t s.parts.managers) ops (Some work) → IsTaken m t d ops work s
taken_hand m t d ops work s next is hand holds = record {
  own = hand.own;
  asked = ap request_of (same_Some d hand.asked.directive (sym next ∙ hand.asked.next)) ∙ hand.asked.request;
  ready = ready_of work s.parts hand.fits;
  holds = holds;
  commits = λ u. ap (commits_now u) is;
}

taken_first : (m : Member) (t : TaskNo) (d : Directive) (ops : List (StructNo × Op)) (asked : Request) (s : State) → IsSound s → member_number m ≤ length s.parts.managers → work_of m t s.works ≡ None → request_of d ≡ Some asked
    → IsHand m t None s.courses s.parts → (task_at m t s.parts.managers).ops ≡ ops → IsTaken m t d ops (begun m t asked) s
taken_first m t d ops asked s sound within is request hand held =
    let has : HasMember m s.parts = record { manager = within; log = omega (arith, within, sound.steady.shape.logs) } in
    record {
      own = begun_own m t asked;
      asked = request ∙ ap (λ (x : Request). Some x) (sym (begun_asked m t asked));
      ready = ready_first m t asked s.parts has (hand within);
      holds = begun_holds s.parts.objects s.parts.history.items (task_at m t s.parts.managers) ops m t asked held;
      commits = λ u. ap (commits_now u) is ∙ begun_commits m t asked u;
    }

pub taken_is : (m : Member) (t : TaskNo) (d : Directive) (ops : List (StructNo × Op)) (before : Work) (s : State) → IsSound s → member_number m ≤ length s.parts.managers → next_of (actor.Task m t) s.courses ≡ Some d
    → Holds s.parts.objects s.parts.history.items (task_at m t s.parts.managers) ops (work_of m t s.works) → work_before m t d s ≡ Some before → IsTaken m t d ops before s
taken_is m t d ops before s sound within next holds given = by (work_of m t s.works) refl (sound.hands m t) holds given
  where
    at_first : (asked : Option Request) → request_of d ≡ asked → work_of m t s.works ≡ None → IsHand m t None s.courses s.parts → (task_at m t s.parts.managers).ops ≡ ops → begun_if m t asked ≡ Some before → IsTaken m t d ops before s
    at_first None is none hand held given = absurd (none-some before given)
    at_first (Some asked) is none hand held given = subst (λ (x : Work). IsTaken m t d ops x s) (same_Some (begun m t asked) before given) (taken_first m t d ops asked s sound within none is hand held)

    by : (hand : Option Work) → work_of m t s.works ≡ hand → IsHand m t hand s.courses s.parts → Holds s.parts.objects s.parts.history.items (task_at m t s.parts.managers) ops hand → in_hand_or hand (begun_if m t (request_of d)) ≡ Some before → IsTaken m t d ops before s
    by None is hand held given = at_first (request_of d) refl is hand held given
    by (Some work) is hand held given = subst (λ (x : Work). IsTaken m t d ops x s) (same_Some work before given) (taken_hand m t d ops work s next is hand held)
