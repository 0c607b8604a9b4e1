-- a step of the work that a task has in hand, from the steps that the code makes
use Rattle.std.proofs.Common.{◌≡◌, ◌≤◌, ℕ, Bool, List, length, Option, Some, None, is_some, Result, Ok, Err, ap, sym, ◌∙◌, subst}
use Rattle.std.specs.Prelude.{IfOk, OnErr, IsSome}
use Rattle.qsg_num.specs.declared.seats.Member.{Member}
use Rattle.qsg_num.specs.declared.seats.TaskNo.{TaskNo}
use Rattle.qsg_num.specs.declared.ids.Actor.TheVariants as actor
use Rattle.qsg_objects.specs.declared.directives.Directive.{Directive}
use Rattle.qsg_requests.specs.declared.replies.Turn.{Turn}
use Rattle.qsg_agenda.specs.Courses.{next_of}
use Rattle.qsg_directives.specs.Asking.{request_of}
use Rattle.qsg_commit.specs.declared.phases.StepError.{StepError}
use Rattle.qsg_commit.specs.declared.phases.StepError.TheVariants.{NoMemory, LogFailed}
use Rattle.qsg_commit.specs.Committing.{IsSameButRoom}
use Rattle.qsg_lists.specs.Structures.{ListStructure}
use Rattle.qsg_parts.specs.Owned.{Owned}
use Rattle.qsg_works.specs.declared.work.Work.{Work}
use Rattle.qsg_works.specs.InHand.{work_of, with_work}
use Rattle.qsg_works.specs.Steps as works
use Rattle.qsg_step.specs.declared.step.Step.{Step}
use Rattle.qsg_step.specs.Needs.{MayEnd, MayRequest, MayWork}
use Rattle.qsg_step.specs.States.{State}
use Rattle.qsg_step.specs.Steps.{begun_if, work_for, work_before, WorkSteps, IsUnmade}
use Rattle.qsg_working.specs.Hands.{IsGiven, returned, put_in_hand, IsSettled}
use Rattle.qsg_working.proofs.Directing.{with_next}
use Rattle.qsg_working.proofs.Settling.{taken_out, in_hand_again, returned_as_before, is_after}
use Rattle.qsg_working.proofs.Failing.{failed_structures}
use Rattle.qsg_working.proofs.Waits.{waits_unmade}

-- what was given for the next directive of a task
abbrev pub AreGiven : Member → TaskNo → State → Option (Work × Bool) → Type 0
AreGiven m t s given = (d : Directive) → next_of (actor.Task m t) s.courses ≡ Some d → IsGiven m t d s.works given

abbrev pub HasNext : Member → TaskNo → State → Type 0
HasNext m t s = IsSome (next_of (actor.Task m t) s.courses)

abbrev pub MayGoOn : Member → TaskNo → State → Type 0
MayGoOn m t s = (d : Directive) → next_of (actor.Task m t) s.courses ≡ Some d → MayWork m t (work_before m t d s) s

given_at : (m : Member) (t : TaskNo) (s : State) (given : Option (Work × Bool)) (work : Work) (in_hand : Bool) (d : Directive) → AreGiven m t s given → given ≡ Some (work, in_hand) → next_of (actor.Task m t) s.courses ≡ Some d
    → (work_for m t d s.works ≡ Some work) × (in_hand ≡ is_some (work_of m t s.works))
given_at m t s given work in_hand d are is next = subst (IsGiven m t d s.works) is (are d next)

may_request : (m : Member) (t : TaskNo) (s : State) (given : Option (Work × Bool)) (work : Work) (in_hand : Bool) → HasNext m t s → MayGoOn m t s → AreGiven m t s given → given ≡ Some (work, in_hand) → MayRequest m t work s
may_request m t s given work in_hand has may are is = with_next _ (actor.Task m t) s.courses has (λ d next. (subst (λ (o : Option Work). MayWork m t o s) (given_at m t s given work in_hand d are is next).0 (may d next)).1)

-- the work that is given has what its step needs
pub given_may_step : (m : Member) (t : TaskNo) (s : State) (given : Option (Work × Bool)) (work : Work) (in_hand : Bool) → HasNext m t s → MayGoOn m t s → AreGiven m t s given → given ≡ Some (work, in_hand) → works.MayStep work s.parts
given_may_step m t s given work in_hand has may are is = (may_request m t s given work in_hand has may are is).step

-- the group where a work was taken out of its task's hand, and the parts are others
abbrev pub taken_from : Owned → List (Option Work) → State → State
taken_from q ws s = record s { parts = q; works = ws }

failed_next : (work v : Work) (p q : Owned) (made : Result Turn StepError) → works.NextWork work p made v q → made ≡ Err LogFailed → works.NextWork work p (Err LogFailed) v q
failed_next work v p q made next failed = subst (λ (e : Result Turn StepError). works.NextWork work p e v q) failed next

-- a member whose log failed may end
pub failed_may_end : (m : Member) (t : TaskNo) (s : State) (given : Option (Work × Bool)) (work v : Work) (in_hand : Bool) (q : Owned) (ws : List (Option Work)) (made : Result Turn StepError)
    → HasNext m t s → MayGoOn m t s → AreGiven m t s given → given ≡ Some (work, in_hand) → ws ≡ with_work m t None s.works → works.NextWork work s.parts made v q → length s.parts.structures ≤ 4 → made ≡ Err LogFailed
    → MayEnd m (put_in_hand m t v (taken_from q ws s)) × (length q.structures ≤ 4)
failed_may_end m t s given work v in_hand q ws made has may are is taken next four failed = (ends, subst (λ (xs : List ListStructure). length xs ≤ 4) (sym (failed_structures work v s.parts q (failed_next work v s.parts q made next failed))) four)
  where
    ends : MayEnd m (put_in_hand m t v (taken_from q ws s))
    ends = subst (MayEnd m) (sym (ap (λ (z : List (Option Work)). put_in_hand m t v (taken_from q z s)) taken ∙ in_hand_again m t v q s))
        ((may_request m t s given work in_hand has may are is).fails v q (failed_next work v s.parts q made next failed))

-- what is made of its step is what the group makes of it
pub work_steps : {E : Type 0} (m : Member) (t : TaskNo) (s : State) (given : Option (Work × Bool)) (work v : Work) (in_hand : Bool) (at : ℕ) (q : Owned) (ws : List (Option Work)) (made : Result Turn StepError) (result : Result Step E) (r : State)
    → AreGiven m t s given → given ≡ Some (work, in_hand) → at ≡ length s.parts.history.items → ws ≡ with_work m t None s.works → works.NextWork work s.parts made v q
    → IfOk result (λ step. (d : Directive) → next_of (actor.Task m t) s.courses ≡ Some d → IsSettled m t d at in_hand made v (taken_from q ws s) step r)
    → IfOk result (λ step. (d : Directive) → next_of (actor.Task m t) s.courses ≡ Some d → WorkSteps m t d (work_before m t d s) s step r)
work_steps m t s given work v in_hand at q ws made (Err e) r are is so_long taken next settled = tt
work_steps m t s given work v in_hand at q ws made (Ok step) r are is so_long taken next settled = λ d now.
    let here : (work_for m t d s.works ≡ Some work) × (in_hand ≡ is_some (work_of m t s.works)) = given_at m t s given work in_hand d are is now in
    let long : IsSettled m t d (length s.parts.history.items) in_hand made v (taken_from q ws s) step r
    = subst (λ (n : ℕ). IsSettled m t d n in_hand made v (taken_from q ws s) step r) so_long (settled d now) in
    let out : IsSettled m t d (length s.parts.history.items) in_hand made v (taken_out m t q s) step r
    = subst (λ (z : List (Option Work)). IsSettled m t d (length s.parts.history.items) in_hand made v (taken_from q z s) step r) taken long in
    let done : IsSettled m t d (length s.parts.history.items) (is_some (work_of m t s.works)) made v (taken_out m t q s) step r
    = subst (λ (b : Bool). IsSettled m t d (length s.parts.history.items) b made v (taken_out m t q s) step r) here.1 out in
    subst (λ (o : Option Work). WorkSteps m t d o s step r) (sym here.0) (record {
      result = made;
      work = v;
      parts = q;
      next = next;
      after = is_after m t d made work v q s (begun_if m t (request_of d)) step r here.0 (λ cause waits. waits_unmade work v s.parts q cause (subst (λ (e : Result Turn StepError). works.NextWork work s.parts e v q) waits next)) done;
    })

unmade : (made : Result Turn StepError) (work v : Work) (p q : Owned) → made ≡ Err NoMemory → works.IsUnmade made work p v q → (v ≡ work) × IsSameButRoom p q
unmade made work v p q is kept = subst (λ (e : Result Turn StepError). works.IsUnmade e work p v q) is kept

-- where it wanted memory, nothing changed but the room of the history
pub work_unmade : {E : Type 0} (m : Member) (t : TaskNo) (s : State) (given : Option (Work × Bool)) (work v : Work) (in_hand : Bool) (q : Owned) (ws : List (Option Work)) (made : Result Turn StepError) (result : Result Step E) (r : State)
    → HasNext m t s → AreGiven m t s given → given ≡ Some (work, in_hand) → ws ≡ with_work m t None s.works → works.IsUnmade made work s.parts v q
    → OnErr result ((made ≡ Err NoMemory) × (r ≡ record (taken_from q ws s) { works = returned in_hand m t v ws }))
    → OnErr result (IsUnmade s r)
work_unmade m t s given work v in_hand q ws made (Ok step) r has are is taken kept left = tt
work_unmade m t s given work v in_hand q ws made (Err e) r has are is taken kept left = with_next _ (actor.Task m t) s.courses has (λ d next.
    let here : (work_for m t d s.works ≡ Some work) × (in_hand ≡ is_some (work_of m t s.works)) = given_at m t s given work in_hand d are is next in
    let same : (v ≡ work) × IsSameButRoom s.parts q = unmade made work v s.parts q left.0 kept in
    let back : returned in_hand m t v ws ≡ s.works
    = ap (λ (z : List (Option Work)). returned in_hand m t v z) taken ∙ (ap (λ (b : Bool). returned b m t v (with_work m t None s.works)) here.1 ∙ (ap (λ (w : Work). returned (is_some (work_of m t s.works)) m t w (with_work m t None s.works)) same.0 ∙ returned_as_before m t work s.works (begun_if m t (request_of d)) here.0)) in
    let parts : r.parts ≡ q = ap (λ (z : State). z.parts) left.1 in
    record {
      parts = subst (IsSameButRoom s.parts) (sym parts) same.1;
      others = left.1 ∙ (λ i. record s { parts = sym parts i; works = back i });
    })
