-- a unit that is committed and not ended belongs to a COMMIT in hand
use Rattle.std.proofs.Common.{◌≡◌, ℕ, ◌<◌, zero, suc, get_or, [], ◌∷◌, ◌-◌, ◌≤◌, List, length, Bool, true, false, refl, Option, Some, None, sym, ap, subst, ◌∙◌, arith, true≢false}
use Rattle.std.proofs.lemmas.Bool.{both_ways}
use Rattle.std.proofs.lemmas.Option.{none-some, same_Some}
use Rattle.qsg_num.specs.declared.seats.Member.{Member}
use Rattle.qsg_num.specs.declared.seats.StructNo.{StructNo}
use Rattle.qsg_num.specs.declared.seats.TaskNo.{TaskNo}
use Rattle.qsg_num.specs.declared.ids.UnitName.{UnitName}
use Rattle.qsg_num.specs.Ids.{same_unit}
use Rattle.qsg_num.specs.Seats.{member_number}
use Rattle.qsg_model.specs.declared.history.Item.{Item}
use Rattle.qsg_model.specs.declared.history.Op.{Op}
use Rattle.qsg_model.specs.History.{names, AllDiffer}
use Rattle.qsg_model.specs.Past.{is_unit}
use Rattle.qsg_model.proofs.Differing.{same_unit-self}
use Rattle.qsg_objects.specs.Registry.{Registry}
use Rattle.qsg_requests.specs.declared.words.PutWords.{PutWords}
use Rattle.qsg_requests.specs.declared.words.Request.TheVariants as request
use Rattle.qsg_group.specs.declared.tasks.Stage.{Stage}
use Rattle.qsg_group.specs.declared.tasks.Stage.TheVariants.{Open, Hardening, Committed, BackedOut}
use Rattle.qsg_group.specs.declared.tasks.Task.{Task}
use Rattle.qsg_group.specs.declared.tasks.Claim.{Claim}
use Rattle.qsg_group.specs.Changes.{settling_task}
use Rattle.qsg_group.specs.Observers.{is_hardening, is_hardened}
use Rattle.qsg_model.specs.declared.history.Item.TheVariants.{Unit as UnitOf}
use Rattle.std.specs.Prelude.{Contains}
use Rattle.qsg_group.proofs.Pages.{same_name}
use Rattle.qsg_manager.specs.declared.managers.Manager.{Manager}
use Rattle.qsg_manager.specs.Storage.{no_manager, manager_in, task_at}
use Rattle.qsg_logs.specs.Held.{is_open}
use Rattle.qsg_put.specs.declared.phases.Phase.{Phase as PutPhase}
use Rattle.qsg_put.specs.declared.phases.Phase.TheVariants as put_phase
use Rattle.qsg_get.specs.declared.phases.Phase.{Phase as GetPhase}
use Rattle.qsg_get.specs.declared.phases.Phase.TheVariants as get_phase
use Rattle.qsg_commit.specs.declared.phases.Phase.{Phase as EndPhase}
use Rattle.qsg_commit.specs.declared.phases.Phase.TheVariants as end_phase
use Rattle.qsg_works.specs.declared.work.Work.{Work}
use Rattle.qsg_works.specs.declared.work.Work.TheVariants.{Put, Get, Commit}
use Rattle.qsg_works.specs.InHand.{work_of}
use Rattle.qsg_steady.specs.Standing.{Stand, stand}
use Rattle.qsg_steady.specs.Steady.{IsLawful}
use Rattle.qsg_steady.proofs.Places.{member_some}
use Rattle.qsg_fit.specs.Fits.{FitsPut, FitsGet}
use Rattle.qsg_fit.specs.Outcomes.{FitsEnd}
use Rattle.qsg_fit.specs.Requests.{IsOwnEnd}
use Rattle.qsg_step.specs.States.{State, is_due}
use Rattle.qsg_sound.specs.Sound.{request_in, IsHand, IsSound}
use Rattle.qsg_answered.specs.Telling.{pending_of}
use Rattle.qsg_answered.specs.Fits.{IsSettled, HoldsEnd, Holds, HoldsUnlessDue, has_committed, commits_now, AreFitting}
use Rattle.qsg_answered.specs.Fresh.{IsNamed}
use Rattle.qsg_answered.proofs.Hands.{counted_with}
use Rattle.qsg_answered.proofs.Histories.{once_most}
use Rattle.qsg_answered.proofs.Outcomes.{one_if}
use Rattle.qsg_sound.proofs.Owning.{own_member, at_work}

-- ---- stages

open_or_hardened : (stage : Stage) → is_open stage ≡ true → is_hardened stage ≡ true → ⊥
open_or_hardened Open opens hardened = true≢false (sym hardened)
open_or_hardened (Hardening first) opens hardened = true≢false (sym hardened)
open_or_hardened (Committed first n) opens hardened = true≢false (sym opens)
open_or_hardened (BackedOut n) opens hardened = true≢false (sym opens)

no_put : (m : Member) (words : PutWords) (s : Stand) (phase : PutPhase) → FitsPut m words s phase → is_hardened s.task.stage ≡ true → ⊥
no_put m words s put_phase.Check fits hardened = open_or_hardened s.task.stage fits hardened
no_put m words s (put_phase.Connect u terms) fits hardened = true≢false (sym hardened ∙ ap (λ (z : Task). is_hardened z.stage) fits.holds)
no_put m words s (put_phase.Write u terms epoch) fits hardened = true≢false (sym hardened ∙ ap (λ (z : Task). is_hardened z.stage) fits.holds)

no_get : (m : Member) (s : Stand) (phase : GetPhase) → FitsGet m s phase → is_hardened s.task.stage ≡ true → ⊥
no_get m s get_phase.Check fits hardened = open_or_hardened s.task.stage fits hardened
no_get m s (get_phase.Connect u terms) fits hardened = true≢false (sym hardened ∙ ap (λ (z : Task). is_hardened z.stage) fits.holds)
no_get m s (get_phase.Take u terms epoch) fits hardened = true≢false (sym hardened ∙ ap (λ (z : Task). is_hardened z.stage) fits.holds)

-- ---- a task that waits for a 2009 holds no unit, and has no request in progress

pub holds_by_unit : (due : Bool) (objects : Registry) (h : List Item) (task : Task) (ops : List (StructNo × Op)) (work : Option Work) (v : UnitName) → task.unit ≡ Some v → HoldsUnlessDue due objects h task ops work → Holds objects h task ops work
holds_by_unit true objects h task ops work v holds lost = absurd (none-some v (sym lost.free ∙ holds))
holds_by_unit false objects h task ops work v holds held = held

pub holds_by_work : (due : Bool) (objects : Registry) (h : List Item) (task : Task) (ops : List (StructNo × Op)) (work : Option Work) (w : Work) → work ≡ Some w → HoldsUnlessDue due objects h task ops work → Holds objects h task ops work
holds_by_work true objects h task ops work w is lost = absurd (none-some w (sym lost.idle ∙ is))
holds_by_work false objects h task ops work w is held = held

-- ---- the COMMIT in hand

-- the COMMIT of a unit is in hand, with the operations that the history has of it
pub record IsDeciding (h : List Item) (task : Task) (v : UnitName) (ops : List (StructNo × Op)) (work : Option Work) : Type 0 where
  pub commits : commits_now v work ≡ true
  pub count : ℕ
  pub settled : IsSettled h task v ops count

-- a unit that its task is settling is the one that it holds
settles_same : (h : List Item) (task other : Task) (v u : UnitName) (ops : List (StructNo × Op)) (count : ℕ) → other.unit ≡ Some v → other.unit ≡ Some u → IsSettled h task u ops count → (same_unit v u ≡ true) × IsSettled h task v ops count
settles_same h task other v u ops count one two settled =
    let is : v ≡ u = same_Some v u (sym one ∙ two) in
    (ap (same_unit v) (sym is) ∙ same_unit-self v, subst (λ (x : UnitName). IsSettled h task x ops count) (sym is) settled)

decided_by : (h : List Item) (task other : Task) (v : UnitName) (ops : List (StructNo × Op)) (phase : EndPhase) → other.unit ≡ Some v → is_hardened other.stage ≡ true → is_unit v h ≡ true → FitsEnd other phase → HoldsEnd h task ops phase
    → (has_committed v phase ≡ true) × ((count : ℕ) × IsSettled h task v ops count)
decided_by h task other v ops end_phase.Latch holds hardened named fits held = absurd (open_or_hardened other.stage fits hardened)
decided_by h task other v ops (end_phase.Pages u count) holds hardened named fits held = absurd (true≢false (sym hardened ∙ ap (λ (z : Task). is_hardened z.stage) fits.is))
decided_by h task other v ops (end_phase.Settle u count) holds hardened named fits held =
    let both = settles_same h task other v u ops count holds (ap (λ (z : Task). z.unit) fits.is) held in (both.0, (count, both.1))
decided_by h task other v ops (end_phase.Publish u count) holds hardened named fits held =
    let both = settles_same h task other v u ops count holds (ap (λ (z : Task). z.unit) fits.0.is) held in (both.0, (count, both.1))
decided_by h task other v ops end_phase.GiveUp holds hardened named fits held = absurd (open_or_hardened other.stage fits hardened)
decided_by h task other v ops (end_phase.Undo u count) holds hardened named fits held =
    let is : v ≡ u = same_Some v u (sym holds ∙ ap (λ (z : Task). z.unit) fits.is) in
    absurd (both_ways (is_unit v h) (ap (λ (x : UnitName). is_unit x h) is ∙ held.0) named)

hand_decides : (s : State) (m : Member) (t : TaskNo) (v : UnitName) (ops : List (StructNo × Op)) (work : Option Work) → member_number m ≤ length s.parts.managers → (task_at m t s.parts.managers).unit ≡ Some v → is_hardened (task_at m t s.parts.managers).stage ≡ true
    → is_unit v s.parts.history.items ≡ true → IsHand m t work s.courses s.parts → Holds s.parts.objects s.parts.history.items (task_at m t s.parts.managers) ops work → IsDeciding s.parts.history.items (task_at m t s.parts.managers) v ops work
hand_decides s m t v ops None within holds hardened named hand held = absurd (open_or_hardened (task_at m t s.parts.managers).stage (hand within) hardened)
hand_decides s m t v ops (Some (Put w)) within holds hardened named hand held =
    absurd (no_put w.member w.words (stand w.member w.task s.parts) w.phase hand.fits.stands (at_work (λ k x. is_hardened (task_at k x s.parts.managers).stage ≡ true) (Put w) m t hand.own hardened))
hand_decides s m t v ops (Some (Get w)) within holds hardened named hand held =
    absurd (no_get w.member (stand w.member w.task s.parts) w.phase hand.fits.stands (at_work (λ k x. is_hardened (task_at k x s.parts.managers).stage ≡ true) (Get w) m t hand.own hardened))
hand_decides s m t v ops (Some (Commit w)) within holds hardened named hand held =
    let found = decided_by s.parts.history.items (task_at m t s.parts.managers) (task_at w.member w.task s.parts.managers) v ops w.phase
    (at_work (λ k x. (task_at k x s.parts.managers).unit ≡ Some v) (Commit w) m t hand.own holds)
    (at_work (λ k x. is_hardened (task_at k x s.parts.managers).stage ≡ true) (Commit w) m t hand.own hardened) named hand.fits.stands held in
    record { commits = found.0; count = found.1.0; settled = found.1.1 }

-- a member that is up is one of the group's
pub past : (ms : List Manager) (i : ℕ) → (get_or ms i no_manager).up ≡ true → i < length ms
past [] i up = absurd (true≢false (sym up))
past (x ∷ ms) zero up = omega arith
past (x ∷ ms) (suc i) up = let h = past ms i up in omega (arith, h)

-- a member whose task holds a unit is one of the group's
holder_within : (s : State) (t : TaskNo) (v : UnitName) → IsSound s → (task_at v.member t s.parts.managers).unit ≡ Some v → member_number v.member ≤ length s.parts.managers
holder_within s t v sound holds =
    let live = sound.steady.live v.member t v holds in
    let x = manager_in v.member s.parts.managers in
    let there = past s.parts.managers (member_number v.member - 1) live.up in
    omega (arith, there, member_some v.member)

pub decides : (s : State) (t : TaskNo) (v : UnitName) → IsSound s → IsLawful s.parts → AreFitting s → (task_at v.member t s.parts.managers).unit ≡ Some v → is_hardened (task_at v.member t s.parts.managers).stage ≡ true
    → IsDeciding s.parts.history.items (task_at v.member t s.parts.managers) v (pending_of s.parts.objects v.member t s.courses) (work_of v.member t s.works)
decides s t v sound l fits holds hardened =
    let named = ap (is_unit v) (sym l.mirrored.history) ∙ (l.laws.in_hand v t holds).in_history ∙ hardened in
    hand_decides s v.member t v (pending_of s.parts.objects v.member t s.courses) (work_of v.member t s.works) (holder_within s t v sound holds) holds hardened named (sound.hands v.member t)
    (holds_by_unit (is_due v.member t s.due) s.parts.objects s.parts.history.items (task_at v.member t s.parts.managers) (pending_of s.parts.objects v.member t s.courses) (work_of v.member t s.works) v holds (fits.tasks v.member t))

-- ---- counted once

-- the COMMIT of a unit that is in hand wasn't answered
pub unanswered : (s : State) (m : Member) (t : TaskNo) (v : UnitName) → IsSound s → IsLawful s.parts → AreFitting s → commits_now v (work_of m t s.works) ≡ true → IsNamed v s.courses → ⊥
unanswered s m t v sound l fits now answered =
    let legal = l.laws.legal in
    let most = once_most v (names s.parts.history.items) (subst (λ h. AllDiffer (names h)) l.mirrored.history legal.names_differ) in
    let without = counted_with (commits_now v) m t None s.works sound.forty in
    let one : one_if (commits_now v (work_of m t s.works)) ≡ one_if true = ap one_if now in
    let law = fits.once v in
    absurd (omega (arith, answered, most, without, one, law))

-- so wasn't that of a unit that was cut off
pub cut_unanswered : (s : State) (v : UnitName) → IsSound s → IsLawful s.parts → (fits : AreFitting s) → fits.cut_off v ≡ true → IsNamed v s.courses → ⊥
cut_unanswered s v sound l fits cut answered =
    let legal = l.laws.legal in
    let most = once_most v (names s.parts.history.items) (subst (λ h. AllDiffer (names h)) l.mirrored.history legal.names_differ) in
    let one : one_if (fits.cut_off v) ≡ one_if true = ap one_if cut in
    let law = fits.once v in
    absurd (omega (arith, answered, most, one, law))

-- ---- the COMMIT whose run is being written

-- a COMMIT in hand writes the run of its task's unit, which has the operations that are pending
pub record IsWriting (task : Task) (ops : List (StructNo × Op)) (work : Option Work) : Type 0 where
  pub there : Work
  pub is : work ≡ Some there
  pub commit : request_in there ≡ request.Commit
  pub held : task.ops ≡ ops

open_or_hardening : (stage : Stage) → is_open stage ≡ true → is_hardening stage ≡ true → ⊥
open_or_hardening Open opens hardening = true≢false (sym hardening)
open_or_hardening (Hardening first) opens hardening = true≢false (sym opens)
open_or_hardening (Committed first n) opens hardening = true≢false (sym hardening)
open_or_hardening (BackedOut n) opens hardening = true≢false (sym hardening)

unwritten_put : (m : Member) (words : PutWords) (s : Stand) (phase : PutPhase) → FitsPut m words s phase → is_hardening s.task.stage ≡ true → ⊥
unwritten_put m words s put_phase.Check fits hardening = open_or_hardening s.task.stage fits hardening
unwritten_put m words s (put_phase.Connect u terms) fits hardening = true≢false (sym hardening ∙ ap (λ (z : Task). is_hardening z.stage) fits.holds)
unwritten_put m words s (put_phase.Write u terms epoch) fits hardening = true≢false (sym hardening ∙ ap (λ (z : Task). is_hardening z.stage) fits.holds)

unwritten_get : (m : Member) (s : Stand) (phase : GetPhase) → FitsGet m s phase → is_hardening s.task.stage ≡ true → ⊥
unwritten_get m s get_phase.Check fits hardening = open_or_hardening s.task.stage fits hardening
unwritten_get m s (get_phase.Connect u terms) fits hardening = true≢false (sym hardening ∙ ap (λ (z : Task). is_hardening z.stage) fits.holds)
unwritten_get m s (get_phase.Take u terms epoch) fits hardening = true≢false (sym hardening ∙ ap (λ (z : Task). is_hardening z.stage) fits.holds)

unwritten_settling : (u : UnitName) (claims : List Claim) (first : Option ℕ) (count : ℕ) → is_hardening (settling_task u claims first count).stage ≡ true → ⊥
unwritten_settling u claims None count hardening = true≢false (sym hardening)
unwritten_settling u claims (Some page) count hardening = true≢false (sym hardening)

writing_end : (task other : Task) (h : List Item) (ops : List (StructNo × Op)) (phase : EndPhase) → is_hardening other.stage ≡ true → FitsEnd other phase → HoldsEnd h task ops phase → (task.ops ≡ ops) × ((m : Member) (t : TaskNo) → request_in (Commit (record { member = m; task = t; phase = phase })) ≡ request.Commit)
writing_end task other h ops end_phase.Latch hardening fits held = absurd (open_or_hardening other.stage fits hardening)
writing_end task other h ops (end_phase.Pages u count) hardening fits held = (held.0, λ m t. refl)
writing_end task other h ops (end_phase.Settle u count) hardening fits held = absurd (unwritten_settling u fits.claims fits.first fits.count (sym (ap (λ (z : Task). is_hardening z.stage) fits.is) ∙ hardening))
writing_end task other h ops (end_phase.Publish u count) hardening fits held = absurd (unwritten_settling u fits.0.claims fits.0.first fits.0.count (sym (ap (λ (z : Task). is_hardening z.stage) fits.0.is) ∙ hardening))
writing_end task other h ops end_phase.GiveUp hardening fits held = absurd (open_or_hardening other.stage fits hardening)
writing_end task other h ops (end_phase.Undo u count) hardening fits held = absurd (unwritten_settling u fits.claims fits.first fits.count (sym (ap (λ (z : Task). is_hardening z.stage) fits.is) ∙ hardening))

hand_writes : (s : State) (m : Member) (t : TaskNo) (ops : List (StructNo × Op)) (work : Option Work) → member_number m ≤ length s.parts.managers → is_hardening (task_at m t s.parts.managers).stage ≡ true → IsHand m t work s.courses s.parts
    → Holds s.parts.objects s.parts.history.items (task_at m t s.parts.managers) ops work → IsWriting (task_at m t s.parts.managers) ops work
hand_writes s m t ops None within hardening hand held = absurd (open_or_hardening (task_at m t s.parts.managers).stage (hand within) hardening)
hand_writes s m t ops (Some (Put w)) within hardening hand held =
    absurd (unwritten_put w.member w.words (stand w.member w.task s.parts) w.phase hand.fits.stands (at_work (λ k x. is_hardening (task_at k x s.parts.managers).stage ≡ true) (Put w) m t hand.own hardening))
hand_writes s m t ops (Some (Get w)) within hardening hand held =
    absurd (unwritten_get w.member (stand w.member w.task s.parts) w.phase hand.fits.stands (at_work (λ k x. is_hardening (task_at k x s.parts.managers).stage ≡ true) (Get w) m t hand.own hardening))
hand_writes s m t ops (Some (Commit w)) within hardening hand held =
    let found = writing_end (task_at m t s.parts.managers) (task_at w.member w.task s.parts.managers) s.parts.history.items ops w.phase
    (at_work (λ k x. is_hardening (task_at k x s.parts.managers).stage ≡ true) (Commit w) m t hand.own hardening) hand.fits.stands held in
    record { there = Commit w; is = refl; commit = found.1 w.member w.task; held = found.0 }

pub writes : (s : State) (m : Member) (t : TaskNo) (v : UnitName) → IsSound s → AreFitting s → member_number m ≤ length s.parts.managers → (task_at m t s.parts.managers).unit ≡ Some v → is_hardening (task_at m t s.parts.managers).stage ≡ true
    → IsWriting (task_at m t s.parts.managers) (pending_of s.parts.objects m t s.courses) (work_of m t s.works)
writes s m t v sound fits within holds hardening =
    hand_writes s m t (pending_of s.parts.objects m t s.courses) (work_of m t s.works) within hardening (sound.hands m t)
    (holds_by_unit (is_due m t s.due) s.parts.objects s.parts.history.items (task_at m t s.parts.managers) (pending_of s.parts.objects m t s.courses) (work_of m t s.works) v holds (fits.tasks m t))

-- ---- the COMMIT whose unit is in the history

-- a COMMIT in hand of the unit's member has it, and the history has it with the operations that are pending
pub record IsCommitting (h : List Item) (m : Member) (u : UnitName) (ops : List (StructNo × Op)) (work : Option Work) : Type 0 where
  pub there : Work
  pub is : work ≡ Some there
  pub commit : request_in there ≡ request.Commit
  pub own : u.member ≡ m
  pub committed : Contains h (UnitOf u ops)

committing_end : (h : List Item) (task other : Task) (k : Member) (u : UnitName) (ops : List (StructNo × Op)) (phase : EndPhase) → has_committed u phase ≡ true → IsOwnEnd k phase → HoldsEnd h task ops phase
    → (u.member ≡ k) × Contains h (UnitOf u ops) × ((m : Member) (t : TaskNo) → request_in (Commit (record { member = m; task = t; phase = phase })) ≡ request.Commit)
committing_end h task other k u ops end_phase.Latch now own held = absurd (true≢false (sym now))
committing_end h task other k u ops (end_phase.Pages v count) now own held = absurd (true≢false (sym now))
committing_end h task other k u ops (end_phase.Settle v count) now own held =
    let same = same_name u v now in (ap (λ (x : UnitName). x.member) same ∙ own, subst (λ (x : UnitName). Contains h (UnitOf x ops)) (sym same) held.committed.there, λ m t. refl)
committing_end h task other k u ops (end_phase.Publish v count) now own held =
    let same = same_name u v now in (ap (λ (x : UnitName). x.member) same ∙ own, subst (λ (x : UnitName). Contains h (UnitOf x ops)) (sym same) held.committed.there, λ m t. refl)
committing_end h task other k u ops end_phase.GiveUp now own held = absurd (true≢false (sym now))
committing_end h task other k u ops (end_phase.Undo v count) now own held = absurd (true≢false (sym now))

pub commits_there : (s : State) (m : Member) (t : TaskNo) (u : UnitName) (ops : List (StructNo × Op)) (work : Option Work) → commits_now u work ≡ true → IsHand m t work s.courses s.parts → Holds s.parts.objects s.parts.history.items (task_at m t s.parts.managers) ops work
    → IsCommitting s.parts.history.items m u ops work
commits_there s m t u ops None now hand held = absurd (true≢false (sym now))
commits_there s m t u ops (Some (Put w)) now hand held = absurd (true≢false (sym now))
commits_there s m t u ops (Some (Get w)) now hand held = absurd (true≢false (sym now))
commits_there s m t u ops (Some (Commit w)) now hand held =
    let found = committing_end s.parts.history.items (task_at m t s.parts.managers) (task_at m t s.parts.managers) w.member u ops w.phase now hand.fits.own held in
    record { there = Commit w; is = refl; commit = found.2 w.member w.task; own = found.0 ∙ own_member (Commit w) m t hand.own; committed = found.1 }

pub committing : (s : State) (m : Member) (t : TaskNo) (u : UnitName) → IsSound s → AreFitting s → commits_now u (work_of m t s.works) ≡ true → IsCommitting s.parts.history.items m u (pending_of s.parts.objects m t s.courses) (work_of m t s.works)
committing s m t u sound fits now =
    commits_there s m t u (pending_of s.parts.objects m t s.courses) (work_of m t s.works) now (sound.hands m t) (held (work_of m t s.works) refl now)
  where
    held : (work : Option Work) → work_of m t s.works ≡ work → commits_now u work ≡ true → Holds s.parts.objects s.parts.history.items (task_at m t s.parts.managers) (pending_of s.parts.objects m t s.courses) (work_of m t s.works)
    held None is now = absurd (true≢false (sym now))
    held (Some w) is now = holds_by_work (is_due m t s.due) s.parts.objects s.parts.history.items (task_at m t s.parts.managers) (pending_of s.parts.objects m t s.courses) (work_of m t s.works) w is (fits.tasks m t)
