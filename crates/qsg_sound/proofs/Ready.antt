-- the work whose step is made next
use Rattle.std.proofs.Common.{◌≡◌, ℕ, ◌+◌, ◌≤◌, length, Bool, true, Option, Some, None, is_some, refl, sym, ap, subst, ◌∙◌, arith}
use Rattle.std.specs.Prelude.{IfSome}
use Rattle.std.proofs.lemmas.Option.{none-some, same_Some}
use Rattle.std.proofs.lemmas.List.Sums.{count_by-le-length}
use Rattle.qsg_num.specs.declared.seats.Member.{Member}
use Rattle.qsg_num.specs.declared.seats.TaskNo.{TaskNo}
use Rattle.qsg_num.specs.declared.ids.Actor.TheVariants as actor
use Rattle.qsg_num.specs.Seats.{member_number}
use Rattle.qsg_objects.specs.declared.directives.Directive.{Directive}
use Rattle.qsg_requests.specs.declared.words.Request.{Request}
use Rattle.qsg_agenda.specs.Courses.{next_of}
use Rattle.qsg_directives.specs.Asking.{request_of}
use Rattle.qsg_steady.specs.Steady.{IsSteady}
use Rattle.qsg_steady.proofs.Gives.{member_has}
use Rattle.qsg_works.specs.declared.work.Work.{Work}
use Rattle.qsg_works.specs.InHand.{work_of}
use Rattle.qsg_works.specs.Steps.{owner, begun, MayStep}
use Rattle.qsg_fit.specs.Fits.{Fits}
use Rattle.qsg_fit.specs.Requests.{IsSteadyIf, IsSteadyBeside, IsRequestOf}
use Rattle.qsg_fit.proofs.Fitting.{works_may, first_fits}
use Rattle.qsg_step.specs.States.{State, is_member_up}
use Rattle.qsg_step.specs.Steps.{begun_if, in_hand_or, work_before}
use Rattle.qsg_sound.specs.Sound.{answers_given, in_progress, request_in, IsHand, IsSound, HasRequestIds, HaveIdsAt, HaveIds}
use Rattle.qsg_sound.proofs.Answering.{few_answers}
use Rattle.qsg_sound.proofs.Beginning.{first_own, first_asked, first_unbegun, first_request}
use Rattle.qsg_sound.proofs.Fitting.{request_fits}
use Rattle.qsg_sound.proofs.Hands.{others_in, has_one, has_none}

-- fewer than 2^31 requests have begun
pub few_begun : (s : State) → IsSound s → answers_given s.courses + in_progress s.works ≤ 2147483648
few_begun s sound = let a = few_answers s.courses sound.answered in let b = count_by-le-length is_some s.works in let c = sound.few in let d = sound.forty in omega (arith, a, b, c, d)

-- the work is of the task, does what its next directive asks for, and fits in the group with all other requests in progress
pub record IsReady (m : Member) (t : TaskNo) (d : Directive) (before : Work) (s : State) : Type 0 where
  pub own : owner before ≡ actor.Task m t
  pub request : request_of d ≡ Some (request_in before)
  pub steady : IsSteadyBeside (answers_given s.courses) (others_in m t s.works) before s.parts
  pub fits : IsRequestOf before s.parts

-- a work that the task has in hand
pub hand_ready : (m : Member) (t : TaskNo) (d : Directive) (work : Work) (s : State) → IsSound s → next_of (actor.Task m t) s.courses ≡ Some d → work_of m t s.works ≡ Some work → IsHand m t (Some work) s.courses s.parts → IsReady m t d work s
hand_ready m t d work s sound next has hand =
    let a = answers_given s.courses in
    record {
      own = hand.own;
      request = ap request_of (same_Some d hand.asked.directive (sym next ∙ hand.asked.next)) ∙ hand.asked.request;
      steady = subst (λ (b : Bool). IsSteadyIf b a (others_in m t s.works) s.parts) (sym hand.begun) (subst (λ (n : ℕ). IsSteady a n s.parts) (has_one m t work s.works sound.forty has) sound.steady);
      fits = hand.fits;
    }

-- a new one
first_ready : (m : Member) (t : TaskNo) (d : Directive) (r : Request) (s : State) → IsSound s → HasRequestIds r → is_member_up m s ≡ true → member_number m ≤ length s.parts.managers → request_of d ≡ Some r → work_of m t s.works ≡ None → IsHand m t None s.courses s.parts
    → IsReady m t d (begun m t r) s
first_ready m t d r s sound ids up there is has free =
    let a = answers_given s.courses in
    let member = member_has a (in_progress s.works) s.parts m sound.steady there in
    record {
      own = first_own m t r;
      request = is ∙ ap Some (sym (first_asked m t r));
      steady = subst (λ (b : Bool). IsSteadyIf b a (others_in m t s.works) s.parts) (sym (first_unbegun m t r)) (subst (λ (n : ℕ). IsSteady a n s.parts) (has_none m t s.works sound.forty has) sound.steady);
      fits = first_request s.parts m t r member up (sound.kept.logs m member.log) sound.placed ids (free there);
    }

asked_ids : (o : Option Directive) (d : Directive) (r : Request) → HaveIdsAt o → o ≡ Some d → request_of d ≡ Some r → HasRequestIds r
asked_ids o d r ids next is = by (request_of d) (subst HaveIdsAt next ids) is
  where
    by : (q : Option Request) → IfSome q HasRequestIds → q ≡ Some r → HasRequestIds r
    by None have e = absurd (none-some r e)
    by (Some x) have e = subst HasRequestIds (same_Some x r e) have

pub is_ready : (m : Member) (t : TaskNo) (d : Directive) (before : Work) (s : State) → IsSound s → HaveIds (actor.Task m t) s → is_member_up m s ≡ true → member_number m ≤ length s.parts.managers → next_of (actor.Task m t) s.courses ≡ Some d → work_before m t d s ≡ Some before
    → IsReady m t d before s
is_ready m t d before s sound ids up there next given = by (work_of m t s.works) (request_of d) refl refl (sound.hands m t) given
  where
    by : (held : Option Work) (q : Option Request) → work_of m t s.works ≡ held → request_of d ≡ q → IsHand m t held s.courses s.parts → in_hand_or held (begun_if m t q) ≡ Some before → IsReady m t d before s
    by (Some work) q has is hand e = subst (λ (x : Work). IsReady m t d x s) (same_Some work before e) (hand_ready m t d work s sound next has hand)
    by None None has is hand e = absurd (none-some before e)
    by None (Some r) has is hand e = subst (λ (x : Work). IsReady m t d x s) (same_Some (begun m t r) before e) (first_ready m t d r s sound (asked_ids (next_of (actor.Task m t) s.courses) d r ids next is) up there is has hand)

-- it has what its step needs
pub ready_fits : (m : Member) (t : TaskNo) (d : Directive) (before : Work) (s : State) → IsSound s → member_number m ≤ length s.parts.managers → work_before m t d s ≡ Some before → Fits before s.parts
ready_fits m t d before s sound there given = by (work_of m t s.works) (request_of d) (sound.hands m t) given
  where
    by : (held : Option Work) (q : Option Request) → IsHand m t held s.courses s.parts → in_hand_or held (begun_if m t q) ≡ Some before → Fits before s.parts
    by (Some work) q hand e = subst (λ (x : Work). Fits x s.parts) (same_Some work before e) (request_fits work s.parts hand.fits)
    by None None hand e = absurd (none-some before e)
    by None (Some r) hand e = subst (λ (x : Work). Fits x s.parts) (same_Some (begun m t r) before e) (first_fits s.parts m t r there (hand there))

pub ready_may : (m : Member) (t : TaskNo) (d : Directive) (before : Work) (s : State) → IsSound s → member_number m ≤ length s.parts.managers → work_before m t d s ≡ Some before → MayStep before s.parts
ready_may m t d before s sound there given =
    works_may (answers_given s.courses) (in_progress s.works) s.parts before sound.steady (few_begun s sound) (ready_fits m t d before s sound there given)
