-- the end of a member leaves the answers fitting
use Rattle.std.proofs.Common.{◌≡◌, ℕ, ◌+◌, ◌-◌, ◌<◌, ◌≤◌, zero, suc, List, [], ◌∷◌, ◌++◌, length, map, Bool, true, false, cond, Option, Some, None, ◌⊎◌, inl, inr, refl, sym, ap, subst, ◌∙◌, arith, append-nil, length-append, true≢false}
use Rattle.std.specs.Prelude.{slice_index_or, Contains, count_by, sum_by, take, find, fold, is_some, nat_lt, not, ◌&&◌, ◌||◌}
use Rattle.std.specs.List.{AllByRecursion, list_any}
use Rattle.std.proofs.Math.Seq.{take-length}
use Rattle.std.proofs.lemmas.Bool.Decides.{nat_tests}
use Rattle.std.proofs.lemmas.List.{take-append-le}
use Rattle.std.proofs.lemmas.List.Elements.{Contains-append_right}
use Rattle.std.proofs.lemmas.List.Folds.{list_any-append}
use Rattle.std.proofs.lemmas.List.Sums.{sum_by-cons}
use Rattle.std.proofs.lemmas.Option.{none-some, same_Some}
use Rattle.qsg_num.specs.declared.seats.Member.{Member}
use Rattle.qsg_num.specs.declared.seats.StructNo.{StructNo}
use Rattle.qsg_num.specs.declared.seats.TaskNo.{TaskNo}
use Rattle.qsg_num.specs.declared.seats.TaskNo.TheVariants as task
use Rattle.qsg_num.specs.declared.ids.Actor.{Actor}
use Rattle.qsg_num.specs.declared.ids.Actor.TheVariants as actor
use Rattle.qsg_num.specs.declared.ids.Incarnation.{Incarnation}
use Rattle.qsg_num.specs.declared.ids.UnitName.{UnitName}
use Rattle.qsg_num.specs.Ids.{same_unit}
use Rattle.qsg_num.specs.Seats.{member_number, structure_number, task_number}
use Rattle.qsg_msg.specs.declared.message.Message.{Message}
use Rattle.qsg_model.specs.declared.history.Item.{Item}
use Rattle.qsg_model.specs.declared.history.Item.TheVariants.{Unit as UnitOf}
use Rattle.qsg_model.specs.declared.history.Op.{Op}
use Rattle.qsg_model.specs.declared.history.Op.TheVariants.{Put, Got}
use Rattle.qsg_model.specs.History.{key, same_key, has_key, puts, names, AllDiffer}
use Rattle.qsg_model.specs.Past.{is_unit, is_put}
use Rattle.qsg_model.proofs.Differing.{at_head, in_tail, head_or_tail, none_in_empty, same_unit-self}
use Rattle.qsg_model.proofs.Growing.{is_unit-push}
use Rattle.qsg_model.proofs.Keyed.{message_at-key}
use Rattle.qsg_lists.specs.declared.parts.Entry.{Entry}
use Rattle.qsg_lists.specs.declared.parts.Mark.{Mark}
use Rattle.qsg_lists.specs.declared.parts.Mark.TheVariants.{Visible, PutBy, GotBy, Cleanup}
use Rattle.qsg_lists.specs.Entries as lists
use Rattle.qsg_lists.specs.Entries.{AreInOrder}
use Rattle.qsg_lists.proofs.Found.{find-passes, all-find, find-entry_at, find-none}
use Rattle.qsg_manager.proofs.Bridges.{found}
use Rattle.std.specs.Prelude.{option_map}
use Rattle.qsg_objects.specs.declared.directives.Directive.{Directive}
use Rattle.qsg_objects.specs.Registry.{Registry}
use Rattle.qsg_repo.specs.Calls.{is_unresolved}
use Rattle.qsg_requests.specs.declared.replies.Reply.TheVariants as reply
use Rattle.qsg_requests.specs.declared.words.Request.{Request}
use Rattle.qsg_requests.specs.declared.words.Request.TheVariants as request
use Rattle.qsg_agenda.specs.Courses.{Course, next_in, next_of, answered}
use Rattle.std.specs.Option.{option_and_then}
use Rattle.qsg_group.specs.declared.tasks.Stage.{Stage}
use Rattle.qsg_group.specs.declared.tasks.Stage.TheVariants.{Open, Hardening, Committed, BackedOut}
use Rattle.qsg_group.specs.declared.tasks.Task.{Task}
use Rattle.qsg_group.specs.declared.tasks.Claim.{Claim}
use Rattle.qsg_group.specs.Group.{idle}
use Rattle.qsg_group.specs.Laws.{IsDrawn, HasEnded, PutsBy, MarkNames}
use Rattle.qsg_group.specs.Observers.{is_hardening, is_hardened, key_of_op, keys_claimed}
use Rattle.qsg_group.proofs.Pages.{same_name}
use Rattle.qsg_group.proofs.Tables.{cases_member, cases_task}
use Rattle.qsg_unitlog.specs.Tells.{is_last}
use Rattle.qsg_manager.specs.declared.managers.Manager.{Manager}
use Rattle.qsg_manager.specs.Facilities.{structure_in}
use Rattle.qsg_manager.specs.Groups.{seat_of}
use Rattle.qsg_manager.specs.Latches.{task_numbers, latch_of}
use Rattle.qsg_manager.specs.Marked.{marks_of}
use Rattle.qsg_manager.specs.Seats.{with_down}
use Rattle.qsg_manager.specs.Storage.{manager_in, task_in, task_at}
use Rattle.qsg_manager.specs.Views.{held_of}
use Rattle.qsg_logs.specs.Kept.{KeptLog, log_in}
use Rattle.qsg_datasets.specs.Kept.{KeptSet, sets_of}
use Rattle.qsg_parts.specs.Owned.{Owned}
use Rattle.qsg_steady.specs.Steady.{IsLawful}
use Rattle.qsg_crash.specs.Crashes.{unit_of, unit_at, latched_unit, committed_by, crashed}
use Rattle.qsg_lives.proofs.Downing.{idle_in, down_here, down_other, down_length, ended_down}
use Rattle.qsg_lives.proofs.Incarnations.{same_life, life_is, fails_all, fails_unresolved}
use Rattle.qsg_peer.specs.declared.phases.FailedLife.{FailedLife}
use Rattle.qsg_peer.specs.Machine.{IsOver}
use Rattle.qsg_peers.specs.Peers.{Peer, peer_of, ended_peer, new_peer}
use Rattle.qsg_tallies.specs.declared.tally.Tally.{Tally}
use Rattle.qsg_tallies.specs.Tallies.{is_tally_of, new_tally}
use Rattle.qsg_works.specs.declared.work.Work.{Work}
use Rattle.qsg_works.specs.InHand.{work_of}
use Rattle.qsg_step.specs.States.{State, is_due}
use Rattle.qsg_step.specs.declared.asked.Asked.{Asked}
use Rattle.qsg_step.specs.declared.asked.Asked.TheVariants as asks
use Rattle.qsg_step.specs.Asking.{asked}
use Rattle.qsg_step.specs.Steps.{answer_to}
use Rattle.qsg_step.specs.Ends.{has_unit, loses_unit, ended, IsEnd}
use Rattle.qsg_sound.specs.Sound.{answers_given, in_progress, request_in, IsAsked, IsHand, IsSound}
use Rattle.qsg_sound.specs.Tallying.{tally_of, IsCountedBy}
use Rattle.qsg_answered.specs.Telling.{requested, with_answered, told, pending_in, pending_of, starts, starts_in}
use Rattle.qsg_answered.specs.Cutting.{WasCutOff, works_on, is_told_of, put_is_told, IsToldOf}
use Rattle.qsg_answered.specs.Fits.{FitsCourse, Holds, HasLostUnit, HoldsUnlessDue, IsLeftOut, LeavesOut, commits_in, commits_now, EndsOther, AreFitting}
use Rattle.qsg_answered.specs.Timing.{AreTimed}
use Rattle.qsg_answered.specs.Systems.{FitsSystem, HasGivenUp, IsSystemFitting}
use Rattle.qsg_answered.proofs.Answering.{starts_answered, all_timed, timed_more}
use Rattle.qsg_answered.proofs.Breaking.{next_is, operator_kept, four, four_distinct, four_without, in_four, AsksFor, breaks, carried_breaks, starts_breaks, courses_kept, WasBrokenOff, broken_in, drops, drops_gone, drops_kept, is_hit, counted_drops, or_one, one_hit, hit_at, hit_there, dues, dues_kept, dues_set}
use Rattle.qsg_answered.proofs.Committing.{named_more}
use Rattle.qsg_answered.proofs.Courses.{all_more}
use Rattle.qsg_answered.proofs.Deciding.{decides, writes, committing}
use Rattle.qsg_answered.proofs.Frames.{set_or}
use Rattle.qsg_answered.proofs.Histories.{once_most, left_claimed}
use Rattle.qsg_answered.proofs.Keeping.{IsCarried, carried_self, carried_other, pending_stays, beside_holds}
use Rattle.qsg_answered.proofs.Outcomes.{one_if, named_in}
use Rattle.qsg_answered.proofs.Staying.{told_out, unit_longer, apart_of, holds_longer, hand_apart, cut_stays, is_told_more, held_unfailed, GoesOnFor, systems_stay}
use Rattle.qsg_answered.proofs.Told.{fits_longer}

-- ---- the unit that the end of a member commits

-- none, or that of the task whose run is being written
pub record IsLatched (m : Member) (p : Owned) (units : List Item) : Type 0 where
  pub task : TaskNo
  pub unit : UnitName
  pub holds : (task_at m task p.managers).unit ≡ Some unit
  pub writes : is_hardening (task_at m task p.managers).stage ≡ true
  pub units_are : units ≡ UnitOf unit (task_at m task p.managers).ops ∷ []

abbrev pub Commits : Member → Owned → List Item → Type 0
Commits m p units = (units ≡ []) ⊎ IsLatched m p units

found_passes : (f : TaskNo → Bool) (ts : List TaskNo) (t : TaskNo) → find f ts ≡ Some t → f t ≡ true
found_passes f [] t found = absurd (none-some t found)
found_passes f (x ∷ ts) t found = by (f x) refl found (found_passes f ts t)
  where
    by : (b : Bool) → f x ≡ b → cond b (Some x) (find f ts) ≡ Some t → (find f ts ≡ Some t → f t ≡ true) → f t ≡ true
    by true is same rest = subst (λ y. f y ≡ true) (same_Some x t same) is
    by false is same rest = rest same

unit_commits : (m : Member) (p : Owned) (t : TaskNo) → is_hardening (task_at m t p.managers).stage ≡ true → Commits m p (unit_of (task_at m t p.managers))
unit_commits m p t writes = by (task_at m t p.managers).unit refl
  where
    by : (o : Option UnitName) → (task_at m t p.managers).unit ≡ o → Commits m p (unit_of (task_at m t p.managers))
    by None is = inl (ap (λ (o : Option UnitName). elim o as (λ x. List Item) [ None ↦ [] | Some v ↦ UnitOf v (task_at m t p.managers).ops ∷ [] ]) is)
    by (Some u) is = inr (record {
      task = t;
      unit = u;
      holds = is;
      writes = writes;
      units_are = ap (λ (o : Option UnitName). elim o as (λ x. List Item) [ None ↦ [] | Some v ↦ UnitOf v (task_at m t p.managers).ops ∷ [] ]) is;
    })

latched_commits : (m : Member) (p : Owned) → Commits m p (latched_unit (manager_in m p.managers).tasks)
latched_commits m p = by (latch_of (manager_in m p.managers).tasks) refl
  where
    by : (o : Option TaskNo) → latch_of (manager_in m p.managers).tasks ≡ o → Commits m p (unit_at o (manager_in m p.managers).tasks)
    by None is = inl refl
    by (Some t) is = unit_commits m p t (found_passes (λ (x : TaskNo). is_hardening (task_in x (manager_in m p.managers).tasks).stage) task_numbers t is)

pub cut_commits : (left : Bool) (m : Member) (p : Owned) → Commits m p (committed_by left m p)
cut_commits left m p = by (is_last (log_in m p.logs).writer && left)
  where
    by : (b : Bool) → Commits m p (cond b (latched_unit (manager_in m p.managers).tasks) [])
    by true = latched_commits m p
    by false = inl refl

-- ---- the history afterwards

taken_more : (n : ℕ) (l : List Item) (i : Item) → Contains (take n l) i → Contains (take (suc n) l) i
taken_more zero l i there = absurd (none_in_empty i there)
taken_more (suc n) [] i there = absurd (none_in_empty i there)
taken_more (suc n) (j ∷ l) i there = elim (head_or_tail j i (take n l) there) [
  | inl same ↦ subst (λ (x : Item). Contains (j ∷ take (suc n) l) x) same (at_head j (take (suc n) l))
  | inr later ↦ in_tail j i (take (suc n) l) (taken_more n l i later)
]

-- what the history had before is among its items up to the first new one
taken_old : (h k : List Item) (i : Item) → Contains h i → Contains (take (length h + 1) (h ++ k)) i
taken_old h k i there =
    let one : suc (length h) ≡ length h + 1 = omega arith in
    let here : Contains (take (length h) (h ++ k)) i = subst (λ (l : List Item). Contains l i) (sym (take-append-le (length h) h k (omega arith) ∙ take-length h)) there in
    subst (λ (n : ℕ). Contains (take n (h ++ k)) i) one (taken_more (length h) (h ++ k) i here)

taken_new : (h : List Item) (i : Item) → Contains (take (length h + 1) (h ++ i ∷ [])) i
taken_new h i =
    let all : take (length (h ++ i ∷ [])) (h ++ i ∷ []) ≡ h ++ i ∷ [] = take-length (h ++ i ∷ []) in
    let here : Contains (take (length (h ++ i ∷ [])) (h ++ i ∷ [])) i = subst (λ (l : List Item). Contains l i) (sym all) (Contains-append_right h (i ∷ []) i (at_head i [])) in
    subst (λ (n : ℕ). Contains (take n (h ++ i ∷ [])) i) (length-append h (i ∷ [])) here

unnamed : (u : UnitName) (us : List UnitName) → list_any (same_unit u) us ≡ false → count_by (same_unit u) us ≡ 0
unnamed u [] none = refl
unnamed u (v ∷ us) none = by (same_unit u v) refl none (unnamed u us)
  where
    by : (b : Bool) → same_unit u v ≡ b → (b || list_any (same_unit u) us) ≡ false → (list_any (same_unit u) us ≡ false → count_by (same_unit u) us ≡ 0) → count_by (same_unit u) (v ∷ us) ≡ 0
    by true is none rest = absurd (true≢false none)
    by false is none rest = let one : one_if (same_unit u v) ≡ 0 = ap one_if is in omega (arith, sum_by-cons (λ (x : UnitName). cond (same_unit u x) 1 0) v us, one, rest none)

-- the unit that was being written isn't in the history yet
latched_new : (m : Member) (s : State) (t : TaskNo) (v : UnitName) → IsSound s → IsLawful s.parts → (task_at m t s.parts.managers).unit ≡ Some v → is_hardening (task_at m t s.parts.managers).stage ≡ true → is_unit v s.parts.history.items ≡ false
latched_new m s t v sound l holds writes =
    let own = sound.steady.own m t v holds in
    subst (λ (k : Member). (task_at k t s.parts.managers).unit ≡ Some v → is_hardening (task_at k t s.parts.managers).stage ≡ true → is_unit v s.parts.history.items ≡ false) own
    (λ has hard. ap (is_unit v) (sym l.mirrored.history) ∙ (l.laws.in_hand v t has).in_history ∙ by (task_at v.member t s.parts.managers).stage hard) holds writes
  where
    by : (stage : Stage) → is_hardening stage ≡ true → is_hardened stage ≡ false
    by Open hard = refl
    by (Hardening first) hard = refl
    by (Committed first n) hard = absurd (true≢false (sym hard))
    by (BackedOut n) hard = refl

or_false : (b : Bool) → (b || false) ≡ b
or_false true = refl
or_false false = refl

-- how often a unit is named then
named_then : (m : Member) (s : State) (units : List Item) (u : UnitName) → Commits m s.parts units → named_in u (s.parts.history.items ++ units) ≡ named_in u s.parts.history.items + one_if (is_unit u units)
named_then m s units u (inl none) = ap (λ (l : List Item). named_in u (s.parts.history.items ++ l)) none ∙ ap (named_in u) (append-nil s.parts.history.items) ∙ plus_none ∙ ap (λ (l : List Item). named_in u s.parts.history.items + one_if (is_unit u l)) (sym none)
  where
    plus_none : named_in u s.parts.history.items ≡ named_in u s.parts.history.items + 0
    plus_none = omega arith
named_then m s units u (inr c) =
    ap (λ (l : List Item). named_in u (s.parts.history.items ++ l)) c.units_are ∙ named_more u c.unit s.parts.history.items (task_at m c.task s.parts.managers).ops
    ∙ ap (λ (b : Bool). named_in u s.parts.history.items + one_if b) (sym (or_false (same_unit u c.unit))) ∙ ap (λ (l : List Item). named_in u s.parts.history.items + one_if (is_unit u l)) (sym c.units_are)

-- once at most
named_once : (m : Member) (s : State) (units : List Item) (u : UnitName) → IsSound s → IsLawful s.parts → Commits m s.parts units → named_in u s.parts.history.items + one_if (is_unit u units) ≤ 1
named_once m s units u sound l commits =
    let most = once_most u (names s.parts.history.items) (subst (λ h. AllDiffer (names h)) l.mirrored.history l.laws.legal.names_differ) in
    by (is_unit u units) refl commits most
  where
    by : (b : Bool) → is_unit u units ≡ b → Commits m s.parts units → named_in u s.parts.history.items ≤ 1 → named_in u s.parts.history.items + one_if b ≤ 1
    by false is c most = omega (arith, most)
    by true is (inl none) most = absurd (true≢false (sym is ∙ ap (is_unit u) none))
    by true is (inr c) most =
        let same = same_name u c.unit (sym (or_false (same_unit u c.unit)) ∙ ap (is_unit u) (sym c.units_are) ∙ is) in
        let new = ap (λ (x : UnitName). is_unit x s.parts.history.items) same ∙ latched_new m s c.task c.unit sound l c.holds c.writes in
        let none = unnamed u (names s.parts.history.items) new in
        omega (arith, none)

-- a unit that is there then was there before, or is the one that was committed
was_there : (m : Member) (s : State) (units : List Item) (u : UnitName) → Commits m s.parts units → is_unit u (s.parts.history.items ++ units) ≡ true → (is_unit u s.parts.history.items ≡ true) ⊎ ((c : IsLatched m s.parts units) × (u ≡ c.unit))
was_there m s units u (inl none) there = inl (sym (ap (λ (l : List Item). is_unit u (s.parts.history.items ++ l)) none ∙ ap (is_unit u) (append-nil s.parts.history.items)) ∙ there)
was_there m s units u (inr c) there = by (same_unit u c.unit) refl (sym (ap (λ (l : List Item). is_unit u (s.parts.history.items ++ l)) c.units_are ∙ is_unit-push u s.parts.history.items c.unit (task_at m c.task s.parts.managers).ops) ∙ there)
  where
    by : (b : Bool) → same_unit u c.unit ≡ b → (is_unit u s.parts.history.items || b) ≡ true → (is_unit u s.parts.history.items ≡ true) ⊎ ((x : IsLatched m s.parts units) × (u ≡ x.unit))
    by true is any = inr (c, same_name u c.unit is)
    by false is any = inl (sym (or_false (is_unit u s.parts.history.items)) ∙ any)

-- ---- units that are cut off

abbrev pub cut_after : (UnitName → Bool) → Member → List (Option Work) → List Item → UnitName → Bool
cut_after cut_off m works units u = cut_off u || (is_hit u m four works || is_unit u units)

-- the parts, and the group, after the end
abbrev pub parts_after : Member → KeptLog → List KeptSet → List Item → ℕ → List KeptLog → State → Owned
parts_after m log row units room ls s = crashed m log row units room (record s.parts { logs = ls })

abbrev pub after_end : Member → KeptLog → List KeptSet → List Item → ℕ → List KeptLog → State → State
after_end m log row units room ls s = ended m (parts_after m log row units room ls s) (record s { parts = record s.parts { logs = ls } })

-- requests in progress are what is asked for
pub all_ask : (m : Member) (s : State) → IsSound s → (t : TaskNo) → Contains four t → AsksFor m t s.works s.courses
all_ask m s sound t has w is = by (work_of m t s.works) is (sound.hands m t)
  where
    by : (o : Option Work) → o ≡ Some w → IsHand m t o s.courses s.parts → IsAsked m t w s.courses
    by None same hand = absurd (none-some w same)
    by (Some x) same hand = subst (λ (y : Work). IsAsked m t y s.courses) (same_Some x w same) hand.asked

-- a COMMIT that was answered 2009 has its unit where the history has it by then
broken_cut : (m : Member) (log : KeptLog) (row : List KeptSet) (units : List Item) (room : ℕ) (ls : List KeptLog) (s : State) (t : TaskNo) (u : UnitName) (w : Work) → u.member ≡ m → request_in w ≡ request.Commit
    → WasBrokenOff s.parts.objects m t w (length s.parts.history.items) s.courses (breaks m s.works (length s.parts.history.items) four s.courses)
    → Contains (take (length s.parts.history.items + 1) (s.parts.history.items ++ units)) (UnitOf u (pending_of s.parts.objects m t s.courses)) → WasCutOff u (after_end m log row units room ls s)
broken_cut m log row units room ls s t u w own commit off there = record {
  course = off.course;
  there = off.there;
  task = t;
  own = off.own ∙ ap (λ (k : Member). actor.Task k t) (sym own);
  before = off.before;
  directive = off.directive;
  answer = off.answer;
  behind = off.behind;
  told_is = off.told_is;
  asks = ap (λ (x : Actor). requested x off.directive) off.own ∙ off.request ∙ ap (λ (x : Request). Some x) commit;
  broken = off.broken;
  committed =
      subst (λ (n : ℕ). Contains (take (n + 1) (s.parts.history.items ++ units)) (UnitOf u (fold (with_answered s.parts.objects off.course.actor) [] off.before))) (sym off.now)
      (subst (λ (l : List (StructNo × Op)). Contains (take (length s.parts.history.items + 1) (s.parts.history.items ++ units)) (UnitOf u l)) (sym off.pending) there);
}

broken_of : (m : Member) (s : State) (p : Owned) (t : TaskNo) (w : Work) → IsSound s → Contains four t → work_of m t s.works ≡ Some w
    → WasBrokenOff s.parts.objects m t w (length s.parts.history.items) s.courses (breaks m s.works (length s.parts.history.items) four s.courses)
broken_of m s p t w sound has is = broken_in s.parts.objects s.parts.history.items p m t four s.works (length s.parts.history.items) s.courses w refl four_distinct (all_ask m s sound) has is

-- a work in hand is that of one of the four tasks
worker : (m : Member) (s : State) (t : TaskNo) (w : Work) → IsSound s → work_of m t s.works ≡ Some w → Contains four t
worker m s t w sound is = elim (in_four t) [ inl system ↦ absurd (none-some w (sym (ap (λ (x : TaskNo). work_of m x s.works) system ∙ sound.systems m) ∙ is)) | inr has ↦ has ]

pub cut_then : (m : Member) (log : KeptLog) (row : List KeptSet) (units : List Item) (room : ℕ) (ls : List KeptLog) (s : State) → IsSound s → IsLawful s.parts → (fits : AreFitting s) → member_number m ≤ length s.parts.managers → Commits m s.parts units
    → (u : UnitName) → cut_after fits.cut_off m s.works units u ≡ true → WasCutOff u (after_end m log row units room ls s)
cut_then m log row units room ls s sound l fits within commits u cut = by (fits.cut_off u) refl cut
  where
    h : List Item
    h = s.parts.history.items

    hit : is_hit u m four s.works ≡ true → WasCutOff u (after_end m log row units room ls s)
    hit is =
        let found = hit_at u m four s.works is in
        let c = committing s m found.0 u sound fits found.2 in
        broken_cut m log row units room ls s found.0 u c.there c.own c.commit (broken_of m s s.parts found.0 c.there sound found.1 c.is) (taken_old h units (UnitOf u (pending_of s.parts.objects m found.0 s.courses)) c.committed)

    added : Commits m s.parts units → is_unit u units ≡ true → WasCutOff u (after_end m log row units room ls s)
    added (inl none) is = absurd (true≢false (sym is ∙ ap (is_unit u) none))
    added (inr c) is =
        let same = same_name u c.unit (sym (or_false (same_unit u c.unit)) ∙ ap (is_unit u) (sym c.units_are) ∙ is) in
        let w = writes s m c.task c.unit sound fits within c.holds c.writes in
        let own = ap (λ (x : UnitName). x.member) same ∙ sound.steady.own m c.task c.unit c.holds in
        let units_are : units ≡ UnitOf u (pending_of s.parts.objects m c.task s.courses) ∷ [] = c.units_are ∙ (λ i. UnitOf (sym same i) (w.held i) ∷ []) in
        broken_cut m log row units room ls s c.task u w.there own w.commit (broken_of m s s.parts c.task w.there sound (worker m s c.task w.there sound w.is) w.is)
        (subst (λ (k : List Item). Contains (take (length h + 1) (h ++ k)) (UnitOf u (pending_of s.parts.objects m c.task s.courses))) (sym units_are) (taken_new h (UnitOf u (pending_of s.parts.objects m c.task s.courses))))

    rest : (b : Bool) → is_hit u m four s.works ≡ b → (b || is_unit u units) ≡ true → WasCutOff u (after_end m log row units room ls s)
    rest true is any = hit is
    rest false is any = added commits any

    by : (b : Bool) → fits.cut_off u ≡ b → (b || (is_hit u m four s.works || is_unit u units)) ≡ true → WasCutOff u (after_end m log row units room ls s)
    by true is any = cut_stays s (after_end m log row units room ls s) u units (carried_breaks s.parts.objects h s.parts m s.works (length h) four s.courses refl four_distinct (all_ask m s sound)).grown refl refl (fits.cut u is)
    by false is any = rest (is_hit u m four s.works) refl any

-- ---- what tasks hold afterwards

-- the unit with an operation of a task without a request in progress is lost
pub lost_if : (m : Member) (t : TaskNo) (works : List (Option Work)) (p : Owned) (o : Option Work) → work_of m t works ≡ o → loses_unit m t works p ≡ (not (is_some o) && has_unit (task_at m t p.managers))
lost_if m t works p o is = ap (λ (x : Option Work). not (is_some x) && has_unit (task_at m t p.managers)) is

idle_holds : (objects : Registry) (h : List Item) (task : Task) (ops : List (StructNo × Op)) (work : Option Work) → task ≡ idle → ops ≡ [] → work ≡ None → Holds objects h task ops work
idle_holds objects h task ops work is none free = subst (λ (o : Option Work). Holds objects h task ops o) (sym free) (ap (λ (z : Task). z.ops) is ∙ sym none)

idle_lost : (task : Task) (ops : List (StructNo × Op)) (work : Option Work) → task ≡ idle → 0 < length ops → work ≡ None → HasLostUnit task ops work
idle_lost task ops work is some free = record { free = ap (λ (z : Task). z.unit) is; idle = free; some = some }

-- a task without a unit that has an operation has none
no_ops : (task : Task) → (task.unit ≡ None → task ≡ idle) → has_unit task ≡ false → task.ops ≡ []
no_ops task named none = by task.unit task.ops refl refl none
  where
    by : (o : Option UnitName) (ops : List (StructNo × Op)) → task.unit ≡ o → task.ops ≡ ops → (nat_lt 0 (length ops) && is_some o) ≡ false → task.ops ≡ []
    by None ops unit is none = ap (λ (z : Task). z.ops) (named unit)
    by (Some u) [] unit is none = is
    by (Some u) (w ∷ ops) unit is none = absurd (grind (arith, nat_tests, none))

pub some_ops : (task : Task) → has_unit task ≡ true → (0 < length task.ops) × ((u : UnitName) × (task.unit ≡ Some u))
some_ops task has = by task.unit task.ops refl refl has
  where
    by : (o : Option UnitName) (ops : List (StructNo × Op)) → task.unit ≡ o → task.ops ≡ ops → (nat_lt 0 (length ops) && is_some o) ≡ true → (0 < length task.ops) × ((u : UnitName) × (task.unit ≡ Some u))
    by None [] unit is has = absurd (true≢false (sym has))
    by None (w ∷ ops) unit is has = absurd (grind (arith, nat_tests, has))
    by (Some u) [] unit is has = absurd (true≢false (sym has))
    by (Some u) (w ∷ ops) unit is has = (omega (arith, ap length is), (u, unit))

-- what a task of the member was, as its 2009 is due or not
unless_by : (due after : Bool) (objects : Registry) (h i : List Item) (task other : Task) (ops more : List (StructNo × Op)) (work then : Option Work) → other ≡ idle → then ≡ None
    → (due ≡ true → after ≡ true) → (due ≡ true → more ≡ ops) → (due ≡ false → Holds objects h task ops work → HoldsUnlessDue after objects i other more then) → HoldsUnlessDue due objects h task ops work → HoldsUnlessDue after objects i other more then
unless_by true after objects h i task other ops more work then is free stays same fresh lost =
    subst (λ (b : Bool). HoldsUnlessDue b objects i other more then) (sym (stays refl)) (idle_lost other more then is (subst (λ (l : List (StructNo × Op)). 0 < length l) (sym (same refl)) lost.some) free)
unless_by false after objects h i task other ops more work then is free stays same fresh holds = fresh refl holds

-- no request is in progress of a task whose 2009 is due
pub due_is_idle : (m : Member) (t : TaskNo) (s : State) → AreFitting s → is_due m t s.due ≡ true → (work_of m t s.works ≡ None) × ((task_at m t s.parts.managers).unit ≡ None)
due_is_idle m t s fits due =
    let lost = subst (λ (b : Bool). HoldsUnlessDue b s.parts.objects s.parts.history.items (task_at m t s.parts.managers) (pending_of s.parts.objects m t s.courses) (work_of m t s.works)) due (fits.tasks m t) in
    (lost.idle, lost.free)

ended_task : (m : Member) (t : TaskNo) (p : Owned) → member_number m ≤ length p.managers → task_at m t (with_down m p.managers) ≡ idle
ended_task m t p within = ap (λ (x : Manager). task_in t x.tasks) (down_here m p.managers within) ∙ idle_in t

-- one of the four tasks of the member
worker_holds : (m : Member) (log : KeptLog) (row : List KeptSet) (units : List Item) (room : ℕ) (ls : List KeptLog) (s : State) (t : TaskNo) → IsSound s → AreFitting s → member_number m ≤ length s.parts.managers → Contains four t
    → HoldsUnlessDue (is_due m t (after_end m log row units room ls s).due) s.parts.objects (s.parts.history.items ++ units) (task_at m t (with_down m s.parts.managers)) (pending_of s.parts.objects m t (after_end m log row units room ls s).courses) (work_of m t (after_end m log row units room ls s).works)
worker_holds m log row units room ls s t sound fits within has = by (work_of m t s.works) refl
  where
    p : Owned
    p = record s.parts { logs = ls }

    at : ℕ
    at = length s.parts.history.items

    r : State
    r = after_end m log row units room ls s

    free : work_of m t (drops m four s.works) ≡ None
    free = drops_gone m four s.works t sound.forty has

    is : task_at m t (with_down m s.parts.managers) ≡ idle
    is = ended_task m t s.parts within

    -- its courses and dues where it has no request in progress, or no unit that is lost
    same_due : loses_unit m t s.works p ≡ false → is_due m t (dues m s.works p four s.due) ≡ is_due m t s.due
    same_due none = dues_kept m s.works p four s.due m t (λ x there e f. ap (λ (y : TaskNo). loses_unit m y s.works p) (sym (same_of x t f)) ∙ none)
      where
        same_of : (x y : TaskNo) → task_number y ≡ task_number x → y ≡ x
        same_of x y e = elim (cases_task y x) [ inl same ↦ same | inr differ ↦ absurd (differ e) ]

    same_pending : work_of m t s.works ≡ None → pending_of s.parts.objects m t (breaks m s.works at four s.courses) ≡ pending_of s.parts.objects m t s.courses
    same_pending none = ap (pending_in s.parts.objects) (courses_kept m s.works at four s.courses m t (λ x there e f. ap (λ (y : TaskNo). work_of m y s.works) (sym (same_of x t f)) ∙ none))
      where
        same_of : (x y : TaskNo) → task_number y ≡ task_number x → y ≡ x
        same_of x y e = elim (cases_task y x) [ inl same ↦ same | inr differ ↦ absurd (differ e) ]

    by : (o : Option Work) → work_of m t s.works ≡ o
        → HoldsUnlessDue (is_due m t (dues m s.works p four s.due)) s.parts.objects (s.parts.history.items ++ units) (task_at m t (with_down m s.parts.managers)) (pending_of s.parts.objects m t (breaks m s.works at four s.courses)) (work_of m t (drops m four s.works))
    by (Some w) busy =
        let off = broken_of m s s.parts t w sound has busy in
        let none : loses_unit m t s.works p ≡ false = lost_if m t s.works p (Some w) busy in
        unless_by (is_due m t s.due) (is_due m t (dues m s.works p four s.due)) s.parts.objects s.parts.history.items (s.parts.history.items ++ units) (task_at m t s.parts.managers) (task_at m t (with_down m s.parts.managers))
        (pending_of s.parts.objects m t s.courses) (pending_of s.parts.objects m t (breaks m s.works at four s.courses)) (work_of m t s.works) (work_of m t (drops m four s.works)) is free
        (λ due. absurd (none-some w (sym (due_is_idle m t s fits due).0 ∙ busy))) (λ due. absurd (none-some w (sym (due_is_idle m t s fits due).0 ∙ busy)))
        (λ due holds. subst (λ (b : Bool). HoldsUnlessDue b s.parts.objects (s.parts.history.items ++ units) (task_at m t (with_down m s.parts.managers)) (pending_of s.parts.objects m t (breaks m s.works at four s.courses)) (work_of m t (drops m four s.works))) (sym (same_due none ∙ due))
        (idle_holds s.parts.objects (s.parts.history.items ++ units) (task_at m t (with_down m s.parts.managers)) (pending_of s.parts.objects m t (breaks m s.works at four s.courses)) (work_of m t (drops m four s.works)) is off.gone free)) (fits.tasks m t)
    by None idle_now = held (has_unit (task_at m t s.parts.managers)) refl
      where
        lose : (b : Bool) → has_unit (task_at m t s.parts.managers) ≡ b → loses_unit m t s.works p ≡ b
        lose b is = lost_if m t s.works p None idle_now ∙ is

        held : (b : Bool) → has_unit (task_at m t s.parts.managers) ≡ b
            → HoldsUnlessDue (is_due m t (dues m s.works p four s.due)) s.parts.objects (s.parts.history.items ++ units) (task_at m t (with_down m s.parts.managers)) (pending_of s.parts.objects m t (breaks m s.works at four s.courses)) (work_of m t (drops m four s.works))
        held true has_ops =
            let own = some_ops (task_at m t s.parts.managers) has_ops in
            let now = dues_set m s.works p four s.due t sound.dues has (lose true has_ops) in
            unless_by (is_due m t s.due) (is_due m t (dues m s.works p four s.due)) s.parts.objects s.parts.history.items (s.parts.history.items ++ units) (task_at m t s.parts.managers) (task_at m t (with_down m s.parts.managers))
            (pending_of s.parts.objects m t s.courses) (pending_of s.parts.objects m t (breaks m s.works at four s.courses)) (work_of m t s.works) (work_of m t (drops m four s.works)) is free
            (λ due. now) (λ due. same_pending idle_now)
            (λ due holds.
            let same : (task_at m t s.parts.managers).ops ≡ pending_of s.parts.objects m t s.courses = subst (λ (o : Option Work). Holds s.parts.objects s.parts.history.items (task_at m t s.parts.managers) (pending_of s.parts.objects m t s.courses) o) idle_now holds in
            subst (λ (b : Bool). HoldsUnlessDue b s.parts.objects (s.parts.history.items ++ units) (task_at m t (with_down m s.parts.managers)) (pending_of s.parts.objects m t (breaks m s.works at four s.courses)) (work_of m t (drops m four s.works))) (sym now)
            (idle_lost (task_at m t (with_down m s.parts.managers)) (pending_of s.parts.objects m t (breaks m s.works at four s.courses)) (work_of m t (drops m four s.works)) is
            (subst (λ (l : List (StructNo × Op)). 0 < length l) (same ∙ sym (same_pending idle_now)) own.0) free)) (fits.tasks m t)
        held false no_unit =
            let none = no_ops (task_at m t s.parts.managers) (sound.steady.named m t) no_unit in
            let after = same_due (lose false no_unit) in
            unless_by (is_due m t s.due) (is_due m t (dues m s.works p four s.due)) s.parts.objects s.parts.history.items (s.parts.history.items ++ units) (task_at m t s.parts.managers) (task_at m t (with_down m s.parts.managers))
            (pending_of s.parts.objects m t s.courses) (pending_of s.parts.objects m t (breaks m s.works at four s.courses)) (work_of m t s.works) (work_of m t (drops m four s.works)) is free
            (λ due. after ∙ due) (λ due. same_pending idle_now)
            (λ due holds.
            let same : (task_at m t s.parts.managers).ops ≡ pending_of s.parts.objects m t s.courses = subst (λ (o : Option Work). Holds s.parts.objects s.parts.history.items (task_at m t s.parts.managers) (pending_of s.parts.objects m t s.courses) o) idle_now holds in
            subst (λ (b : Bool). HoldsUnlessDue b s.parts.objects (s.parts.history.items ++ units) (task_at m t (with_down m s.parts.managers)) (pending_of s.parts.objects m t (breaks m s.works at four s.courses)) (work_of m t (drops m four s.works))) (sym (after ∙ due))
            (idle_holds s.parts.objects (s.parts.history.items ++ units) (task_at m t (with_down m s.parts.managers)) (pending_of s.parts.objects m t (breaks m s.works at four s.courses)) (work_of m t (drops m four s.works)) is (same_pending idle_now ∙ sym same ∙ none) free)) (fits.tasks m t)

-- the system task of the member has nothing
system_holds : (m : Member) (log : KeptLog) (row : List KeptSet) (units : List Item) (room : ℕ) (ls : List KeptLog) (s : State) → IsSound s → AreFitting s → member_number m ≤ length s.parts.managers
    → HoldsUnlessDue (is_due m task.System (after_end m log row units room ls s).due) s.parts.objects (s.parts.history.items ++ units) (task_at m task.System (with_down m s.parts.managers)) (pending_of s.parts.objects m task.System (after_end m log row units room ls s).courses) (work_of m task.System (after_end m log row units room ls s).works)
system_holds m log row units room ls s sound fits within =
    let p = record s.parts { logs = ls } in
    let at = length s.parts.history.items in
    let t = task.System in
    let lacks : (x : TaskNo) → Contains four x → task_number t ≡ task_number x → ⊥ = λ x has e. by x has e (cases_task x t) in
    let free : work_of m t (drops m four s.works) ≡ None = drops_kept m four s.works m t (λ x has e f. lacks x has f) ∙ sound.systems m in
    let due : is_due m t (dues m s.works p four s.due) ≡ is_due m t s.due = dues_kept m s.works p four s.due m t (λ x has e f. absurd (lacks x has f)) in
    let pending : pending_of s.parts.objects m t (breaks m s.works at four s.courses) ≡ pending_of s.parts.objects m t s.courses = ap (pending_in s.parts.objects) (courses_kept m s.works at four s.courses m t (λ x has e f. absurd (lacks x has f))) in
    let is = ended_task m t s.parts within in
    unless_by (is_due m t s.due) (is_due m t (dues m s.works p four s.due)) s.parts.objects s.parts.history.items (s.parts.history.items ++ units) (task_at m t s.parts.managers) (task_at m t (with_down m s.parts.managers))
    (pending_of s.parts.objects m t s.courses) (pending_of s.parts.objects m t (breaks m s.works at four s.courses)) (work_of m t s.works) (work_of m t (drops m four s.works)) is free
    (λ b. due ∙ b) (λ b. pending)
    (λ b holds. subst (λ (c : Bool). HoldsUnlessDue c s.parts.objects (s.parts.history.items ++ units) (task_at m t (with_down m s.parts.managers)) (pending_of s.parts.objects m t (breaks m s.works at four s.courses)) (work_of m t (drops m four s.works))) (sym (due ∙ b))
    (idle_holds s.parts.objects (s.parts.history.items ++ units) (task_at m t (with_down m s.parts.managers)) (pending_of s.parts.objects m t (breaks m s.works at four s.courses)) (work_of m t (drops m four s.works)) is (pending ∙ fits.none m) free)) (fits.tasks m t)
  where
    by : (x : TaskNo) → Contains four x → task_number task.System ≡ task_number x → (x ≡ task.System) ⊎ (task_number x ≡ task_number task.System → ⊥) → ⊥
    by x has e (inl same) = four_without (subst (Contains four) same has)
    by x has e (inr differ) = differ (sym e)

-- the tasks of other members hold what they held
longer_holds : (due : Bool) (m : Member) (units : List Item) (s : State) (k : Member) (w : TaskNo) → IsSound s → IsLawful s.parts → Commits m s.parts units → (member_number k ≡ member_number m → ⊥)
    → HoldsUnlessDue due s.parts.objects s.parts.history.items (task_at k w s.parts.managers) (pending_of s.parts.objects k w s.courses) (work_of k w s.works)
    → HoldsUnlessDue due s.parts.objects (s.parts.history.items ++ units) (task_at k w s.parts.managers) (pending_of s.parts.objects k w s.courses) (work_of k w s.works)
longer_holds true m units s k w sound l commits differ lost = lost
longer_holds false m units s k w sound l (inl none) differ holds =
    subst (λ h. Holds s.parts.objects h (task_at k w s.parts.managers) (pending_of s.parts.objects k w s.courses) (work_of k w s.works)) (sym (ap (λ (x : List Item). s.parts.history.items ++ x) none ∙ append-nil s.parts.history.items)) holds
longer_holds false m units s k w sound l (inr c) differ holds =
    subst (λ x. Holds s.parts.objects (s.parts.history.items ++ x) (task_at k w s.parts.managers) (pending_of s.parts.objects k w s.courses) (work_of k w s.works)) (sym c.units_are)
    (holds_longer s.parts.objects s.parts.history.items c.unit (task_at m c.task s.parts.managers).ops (task_at k w s.parts.managers) (pending_of s.parts.objects k w s.courses) (work_of k w s.works)
    (hand_apart s m c.task k w c.unit (work_of k w s.works) sound l (λ e f. differ e) c.holds (sound.hands k w)) holds)

other_member : (m : Member) (log : KeptLog) (row : List KeptSet) (units : List Item) (room : ℕ) (ls : List KeptLog) (s : State) (k : Member) (w : TaskNo) → IsSound s → IsLawful s.parts → AreFitting s → Commits m s.parts units → (member_number k ≡ member_number m → ⊥)
    → HoldsUnlessDue (is_due k w (after_end m log row units room ls s).due) s.parts.objects (s.parts.history.items ++ units) (task_at k w (with_down m s.parts.managers)) (pending_of s.parts.objects k w (after_end m log row units room ls s).courses) (work_of k w (after_end m log row units room ls s).works)
other_member m log row units room ls s k w sound l fits commits differ =
    let p = record s.parts { logs = ls } in
    let at = length s.parts.history.items in
    let due : is_due k w (dues m s.works p four s.due) ≡ is_due k w s.due = dues_kept m s.works p four s.due k w (λ x has e f. absurd (differ e)) in
    let pending : pending_of s.parts.objects k w (breaks m s.works at four s.courses) ≡ pending_of s.parts.objects k w s.courses = ap (pending_in s.parts.objects) (courses_kept m s.works at four s.courses k w (λ x has e f. absurd (differ e))) in
    let work : work_of k w (drops m four s.works) ≡ work_of k w s.works = drops_kept m four s.works k w (λ x has e f. differ e) in
    let task : task_at k w (with_down m s.parts.managers) ≡ task_at k w s.parts.managers = ap (λ (x : Manager). task_in w x.tasks) (down_other m k s.parts.managers differ) in
    subst (λ (o : Option Work). HoldsUnlessDue (is_due k w (dues m s.works p four s.due)) s.parts.objects (s.parts.history.items ++ units) (task_at k w (with_down m s.parts.managers)) (pending_of s.parts.objects k w (breaks m s.works at four s.courses)) o) (sym work)
    (subst (λ (b : Bool). HoldsUnlessDue b s.parts.objects (s.parts.history.items ++ units) (task_at k w (with_down m s.parts.managers)) (pending_of s.parts.objects k w (breaks m s.works at four s.courses)) (work_of k w s.works)) (sym due)
    (beside_holds (is_due k w s.due) s.parts.objects s.parts.objects (s.parts.history.items ++ units) (s.parts.history.items ++ units) (task_at k w s.parts.managers) (task_at k w (with_down m s.parts.managers)) (pending_of s.parts.objects k w s.courses)
    (pending_of s.parts.objects k w (breaks m s.works at four s.courses)) (work_of k w s.works) refl refl task pending (longer_holds (is_due k w s.due) m units s k w sound l commits differ (fits.tasks k w))))

all_hold : (m : Member) (log : KeptLog) (row : List KeptSet) (units : List Item) (room : ℕ) (ls : List KeptLog) (s : State) (k : Member) (w : TaskNo) → IsSound s → IsLawful s.parts → AreFitting s → member_number m ≤ length s.parts.managers → Commits m s.parts units
    → HoldsUnlessDue (is_due k w (after_end m log row units room ls s).due) s.parts.objects (s.parts.history.items ++ units) (task_at k w (with_down m s.parts.managers)) (pending_of s.parts.objects k w (after_end m log row units room ls s).courses) (work_of k w (after_end m log row units room ls s).works)
all_hold m log row units room ls s k w sound l fits within commits = elim (cases_member k m) [
  | inl same ↦ subst (λ (x : Member). HoldsUnlessDue (is_due x w (after_end m log row units room ls s).due) s.parts.objects (s.parts.history.items ++ units) (task_at x w (with_down m s.parts.managers)) (pending_of s.parts.objects x w (after_end m log row units room ls s).courses) (work_of x w (after_end m log row units room ls s).works)) (sym same)
      (elim (in_four w) [
        | inl system ↦ subst (λ (t : TaskNo). HoldsUnlessDue (is_due m t (after_end m log row units room ls s).due) s.parts.objects (s.parts.history.items ++ units) (task_at m t (with_down m s.parts.managers)) (pending_of s.parts.objects m t (after_end m log row units room ls s).courses) (work_of m t (after_end m log row units room ls s).works)) (sym system)
            (system_holds m log row units room ls s sound fits within)
        | inr has ↦ worker_holds m log row units room ls s w sound fits within has
      ])
  | inr differ ↦ other_member m log row units room ls s k w sound l fits commits differ
]

-- ---- units that were backed out

drawn_down : (m : Member) (ms : List Manager) (k : Member) (u : UnitName) → member_number m ≤ length ms → IsDrawn u (seat_of (manager_in k ms)) → IsDrawn u (seat_of (manager_in k (with_down m ms)))
drawn_down m ms k u within drawn = elim (cases_member k m) [
  | inl same ↦
      let old = subst (λ (x : Member). IsDrawn u (seat_of (manager_in x ms))) same drawn in
      subst (λ (x : Member). IsDrawn u (seat_of (manager_in x (with_down m ms)))) (sym same) (subst (λ (x : Manager). IsDrawn u (seat_of x)) (sym (down_here m ms within)) (record { past = old.past; below = old.below }))
  | inr differ ↦ subst (λ (x : Manager). IsDrawn u (seat_of x)) (sym (down_other m k ms differ)) drawn
]

unheld_down : (m : Member) (p : Owned) (u : UnitName) → member_number m ≤ length p.managers → ((k : Member) (w : TaskNo) → (task_at k w p.managers).unit ≡ Some u → ⊥) → (k : Member) (w : TaskNo) → (task_at k w (with_down m p.managers)).unit ≡ Some u → ⊥
unheld_down m p u within unheld k w holds = elim (cases_member k m) [
  | inl same ↦ none-some u (sym (ap (λ (z : Task). z.unit) (ended_task m w p within)) ∙ subst (λ (x : Member). (task_at x w (with_down m p.managers)).unit ≡ Some u) same holds)
  | inr differ ↦ unheld k w (ap (λ (z : Task). z.unit) (sym (ap (λ (x : Manager). task_in w x.tasks) (down_other m k p.managers differ))) ∙ holds)
]

out_then : (m : Member) (log : KeptLog) (row : List KeptSet) (units : List Item) (room : ℕ) (ls : List KeptLog) (s : State) (u : UnitName) → member_number m ≤ length s.parts.managers → Commits m s.parts units → IsLeftOut s.parts u → IsLeftOut (parts_after m log row units room ls s) u
out_then m log row units room ls s u within commits out = record {
  out = by commits;
  drawn = drawn_down m s.parts.managers u.member u within out.drawn;
  unheld = unheld_down m s.parts u within out.unheld;
}
  where
    by : Commits m s.parts units → is_unit u (s.parts.history.items ++ units) ≡ false
    by (inl none) = ap (λ (x : List Item). is_unit u (s.parts.history.items ++ x)) none ∙ ap (is_unit u) (append-nil s.parts.history.items) ∙ out.out
    by (inr c) = ap (λ (x : List Item). is_unit u (s.parts.history.items ++ x)) c.units_are ∙ unit_longer u c.unit s.parts.history.items (task_at m c.task s.parts.managers).ops (apart_of u c.unit (λ same. out.unheld m c.task (c.holds ∙ ap (λ x. Some x) (sym same)))) out.out

-- ---- system tasks

counted_push : (m : Member) (rows : List Tally) (t : Tally) (of : Member) (i : Incarnation) (settled : ℕ) → IsCountedBy m (tally_of of i rows) settled → IsCountedBy m (tally_of of i (rows ++ t ∷ [])) settled
counted_push m [] t of i settled counted = absurd counted
counted_push m (x ∷ rows) t of i settled counted = by (is_tally_of of i x) counted (counted_push m rows t of i settled)
  where
    by : (b : Bool) → IsCountedBy m (cond b (Some x) (tally_of of i rows)) settled → (IsCountedBy m (tally_of of i rows) settled → IsCountedBy m (tally_of of i (rows ++ t ∷ [])) settled) → IsCountedBy m (cond b (Some x) (tally_of of i (rows ++ t ∷ []))) settled
    by true counted rest = counted
    by false counted rest = rest counted

over_down : (m : Member) (log : KeptLog) (row : List KeptSet) (units : List Item) (room : ℕ) (ls : List KeptLog) (s : State) (life : FailedLife) → member_number m ≤ length s.parts.managers → IsOver life s.parts → IsOver life (parts_after m log row units room ls s)
over_down m log row units room ls s life within over = elim (cases_member life.member m) [
  | inl same ↦
      let old = subst (λ (x : Member). HasEnded life.incarnation.number (seat_of (manager_in x s.parts.managers))) same over in
      subst (λ (x : Member). HasEnded life.incarnation.number (seat_of (manager_in x (with_down m s.parts.managers)))) (sym same)
      (subst (λ (x : Manager). HasEnded life.incarnation.number (seat_of x)) (sym (down_here m s.parts.managers within)) (ended_down life.incarnation.number (manager_in m s.parts.managers) old))
  | inr differ ↦ subst (λ (x : Manager). HasEnded life.incarnation.number (seat_of x)) (sym (down_other m life.member s.parts.managers differ)) over
]

goes_down : (k m : Member) (log : KeptLog) (row : List KeptSet) (units : List Item) (room : ℕ) (ls : List KeptLog) (s : State) (t : Tally) → member_number m ≤ length s.parts.managers → (manager_in m s.parts.managers).up ≡ true
    → GoesOnFor k s.parts (parts_after m log row units room ls s) s.tallies.rows (s.tallies.rows ++ t ∷ [])
goes_down k m log row units room ls s t within up = record {
  over = λ life over. over_down m log row units room ls s life within over;
  resolved = λ life over is. fails_unresolved life.member m life.incarnation (manager_in m s.parts.managers).incarnation s.parts.repo.lives (apart life over) ∙ is;
  counted = λ of i settled counted. counted_push k s.tallies.rows t of i settled counted;
}
  where
    apart : (life : FailedLife) → IsOver life s.parts → same_life life.member life.incarnation m (manager_in m s.parts.managers).incarnation ≡ false
    apart life over = by (same_life life.member life.incarnation m (manager_in m s.parts.managers).incarnation) refl
      where
        by : (b : Bool) → same_life life.member life.incarnation m (manager_in m s.parts.managers).incarnation ≡ b → b ≡ false
        by false is = refl
        by true is =
            let same = life_is life.member m life.incarnation (manager_in m s.parts.managers).incarnation is in
            let old = subst (λ (x : Member). HasEnded life.incarnation.number (seat_of (manager_in x s.parts.managers))) same.0 over in
            absurd (true≢false (sym up ∙ old.down (ap (λ (i : Incarnation). i.number) same.1)))

-- what is kept of a system task's answers
abbrev IsKeptOf : Member → Owned → List Tally → ℕ → Peer → Type 0
IsKeptOf k p rows n x = AllByRecursion (FitsSystem k p rows) x.answers × HasGivenUp x × AreTimed 0 n x.answers

ended_given_up : (x : Peer) → HasGivenUp (ended_peer x)
ended_given_up x = record { before = x.answers; since = []; answers_are = sym (append-nil x.answers); given_up_is = refl }

system_ends : (k m : Member) (log : KeptLog) (row : List KeptSet) (units : List Item) (room : ℕ) (ls : List KeptLog) (s : State) → AreFitting s → member_number m ≤ length s.parts.managers → (manager_in m s.parts.managers).up ≡ true → IsSystemFitting k (after_end m log row units room ls s)
system_ends k m log row units room ls s fits within up =
    let q = parts_after m log row units room ls s in
    let i = (manager_in m s.parts.managers).incarnation in
    let t = new_tally m i (marks_of m i s.parts.structures) in
    let rows = s.tallies.rows ++ t ∷ [] in
    let n = length (s.parts.history.items ++ units) in
    let own = fits.systems k in
    let grows : length s.parts.history.items ≤ n = omega (arith, length-append s.parts.history.items units) in
    let answers = systems_stay k s.parts q s.tallies.rows rows (peer_of k s.peers).answers (goes_down k m log row units room ls s t within up) own.answers in
    let timed = timed_more 0 (length s.parts.history.items) n (peer_of k s.peers).answers grows own.timed in
    let kept = set_or (IsKeptOf k q rows n) s.peers (member_number m - 1) (member_number k - 1) (ended_peer (peer_of m s.peers)) new_peer
    (λ same.
    let is : peer_of k s.peers ≡ peer_of m s.peers = ap (λ (j : ℕ). slice_index_or s.peers j new_peer) (sym same) in
    (subst (λ (x : Peer). AllByRecursion (FitsSystem k q rows) x.answers) is answers, ended_given_up (peer_of m s.peers), subst (λ (x : Peer). AreTimed 0 n x.answers) is timed))
    (answers, own.given_up, timed) in
    record { answers = kept.0; given_up = kept.1; timed = kept.2 }

-- ---- puts of incarnations that failed

-- entries in order are told where each is that is found under its id
told_by_found : (f : ℕ × ℕ → UnitName → Bool) (x : ℕ) (es : List Entry) (Q : Entry → Type 0) → AreInOrder es → AllByRecursion Q es → ((e : Entry) → lists.entry_at e.id es ≡ Some e → Q e → IsToldOf f x e) → AllByRecursion (IsToldOf f x) es
told_by_found f x es Q order each told = by (find untold es) refl
  where
    untold : Entry → Bool
    untold e = not (put_is_told f (x, e.id.number) e.mark)

    not_false : (b : Bool) → not b ≡ false → b ≡ true
    not_false true is = refl
    not_false false is = absurd (true≢false is)

    all_told : (ys : List Entry) → AllByRecursion (λ (e : Entry). untold e ≡ false) ys → AllByRecursion (IsToldOf f x) ys
    all_told [] none = tt
    all_told (y ∷ ys) none = (not_false (put_is_told f (x, y.id.number) y.mark) none.0, all_told ys none.1)

    by : (o : Option Entry) → find untold es ≡ o → AllByRecursion (IsToldOf f x) es
    by None is = all_told es (find-none untold es is)
    by (Some e) is =
        let one = told e (find-entry_at untold es e order is) (all-find Q untold es e each is) in
        absurd (true≢false (sym (find-passes untold es e is) ∙ ap not one))

any_there : (f : Item → Bool) (h : List Item) (i : Item) → Contains h i → f i ≡ true → list_any f h ≡ true
any_there f [] i there is = absurd (none_in_empty i there)
any_there f (j ∷ h) i there is = by (f j) refl (head_or_tail j i h there) (any_there f h i)
  where
    by : (b : Bool) → f j ≡ b → (j ≡ i) ⊎ Contains h i → (Contains h i → f i ≡ true → list_any f h ≡ true) → (b || list_any f h) ≡ true
    by true here at rest = refl
    by false here (inl same) rest = absurd (true≢false (sym (ap f same ∙ is) ∙ here))
    by false here (inr later) rest = rest later is

-- a unit of the history works on the keys of its operations
works_there : (u : UnitName) (k : ℕ × ℕ) (h : List Item) (ops : List (StructNo × Op)) → Contains h (UnitOf u ops) → has_key (map key_of_op ops) k ≡ true → list_any (works_on u k) h ≡ true
works_there u k h ops there has = any_there (works_on u k) h (UnitOf u ops) there (λ i. same_unit-self u i && has i)

put_has_key : (k : ℕ × ℕ) (ops : List (StructNo × Op)) → is_put k ops ≡ true → has_key (map key_of_op ops) k ≡ true
put_has_key k [] put = absurd (true≢false (sym put))
put_has_key k ((s, Put m) ∷ ops) put = by (same_key k (key m)) put (put_has_key k ops)
  where
    by : (b : Bool) → (b || is_put k ops) ≡ true → (is_put k ops ≡ true → has_key (map key_of_op ops) k ≡ true) → (b || has_key (map key_of_op ops) k) ≡ true
    by true put rest = refl
    by false put rest = rest put
put_has_key k ((s, Got id) ∷ ops) put = or_right (same_key k (structure_number s, id.number)) (has_key (map key_of_op ops) k) (put_has_key k ops put)
  where
    or_right : (a b : Bool) → b ≡ true → (a || b) ≡ true
    or_right true b is = refl
    or_right false b is = is

claimed_key : (stage : Stage) (ops : List (StructNo × Op)) (claims : List Claim) (k : ℕ × ℕ) (m : Message) → is_hardened stage ≡ true → PutsBy stage ops claims k m → has_key (keys_claimed claims) k ≡ true
claimed_key Open ops claims k m hardened due = absurd (true≢false (sym hardened))
claimed_key (Hardening first) ops claims k m hardened due = absurd (true≢false (sym hardened))
claimed_key (Committed first n) ops claims k m hardened due = left_claimed n k claims due
claimed_key (BackedOut n) ops claims k m hardened due = absurd (true≢false (sym hardened))

writing_key : (stage : Stage) (ops : List (StructNo × Op)) (claims : List Claim) (k : ℕ × ℕ) (m : Message) → is_hardening stage ≡ true → PutsBy stage ops claims k m → has_key (map key_of_op ops) k ≡ true
writing_key Open ops claims k m hard due = absurd (true≢false (sym hard))
writing_key (Hardening first) ops claims k m hard due = put_has_key k ops (message_at-key k (puts ops) m due).1
writing_key (Committed first n) ops claims k m hard due = absurd (true≢false (sym hard))
writing_key (BackedOut n) ops claims k m hard due = absurd (true≢false (sym hard))

-- a unit that the task had is cut off where the history has it, and works on what it put
cut_works : (m : Member) (units : List Item) (s : State) (u : UnitName) (k : ℕ × ℕ) (msg : Message) (t : TaskNo) → IsSound s → IsLawful s.parts → (fits : AreFitting s) → Commits m s.parts units → u.member ≡ m → (task_at u.member t s.parts.managers).unit ≡ Some u
    → PutsBy (task_at u.member t s.parts.managers).stage (task_at u.member t s.parts.managers).ops (task_at u.member t s.parts.managers).claims k msg → is_unit u (s.parts.history.items ++ units) ≡ true
    → (cut_after fits.cut_off m s.works units u && list_any (works_on u k) (s.parts.history.items ++ units)) ≡ true
cut_works m units s u k msg t sound l fits commits own holds due there = by (was_there m s units u commits there)
  where
    h : List Item
    h = s.parts.history.items

    task_now : Task
    task_now = task_at u.member t s.parts.managers

    or_left : (a b : Bool) → a ≡ true → (a || b) ≡ true
    or_left true b is = refl
    or_left false b is = absurd (true≢false (sym is))

    or_right : (a b : Bool) → b ≡ true → (a || b) ≡ true
    or_right true b is = refl
    or_right false b is = is

    by : (is_unit u h ≡ true) ⊎ ((c : IsLatched m s.parts units) × (u ≡ c.unit)) → (cut_after fits.cut_off m s.works units u && list_any (works_on u k) (h ++ units)) ≡ true
    by (inl named) =
        let hard = sym (l.laws.in_hand u t holds).in_history ∙ ap (is_unit u) l.mirrored.history ∙ named in
        let deciding = decides s t u sound l fits holds hard in
        let c = committing s u.member t u sound fits deciding.commits in
        let now : commits_now u (work_of m t s.works) ≡ true = ap (λ (x : Member). commits_now u (work_of x t s.works)) (sym own) ∙ deciding.commits in
        let hit = hit_there u m four s.works t (worker u.member s t c.there sound c.is) now in
        let keys = ap (λ ks. has_key ks k) (sym deciding.settled.claims) ∙ claimed_key task_now.stage task_now.ops task_now.claims k msg hard due in
        let works = works_there u k h (pending_of s.parts.objects u.member t s.courses) deciding.settled.committed.there keys in
        (λ i. or_right (fits.cut_off u) (is_hit u m four s.works || is_unit u units) (or_left (is_hit u m four s.works) (is_unit u units) hit) i && (list_any-append (works_on u k) h units ∙ or_left (list_any (works_on u k) h) (list_any (works_on u k) units) works) i)
    by (inr added) =
        let c = added.0 in
        let same = added.1 in
        let here : (task_at u.member c.task s.parts.managers).unit ≡ Some u = subst (λ (x : UnitName). (task_at u.member c.task s.parts.managers).unit ≡ Some x) (sym same) (subst (λ (x : Member). (task_at x c.task s.parts.managers).unit ≡ Some c.unit) (sym own) c.holds) in
        let one : t ≡ c.task = l.laws.once u t c.task holds here in
        let hard : is_hardening task_now.stage ≡ true = ap (λ (x : TaskNo). is_hardening (task_at u.member x s.parts.managers).stage) one ∙ ap (λ (x : Member). is_hardening (task_at x c.task s.parts.managers).stage) own ∙ c.writes in
        let keys = writing_key task_now.stage task_now.ops task_now.claims k msg hard due in
        let ops : task_now.ops ≡ (task_at m c.task s.parts.managers).ops = ap (λ (x : TaskNo). (task_at u.member x s.parts.managers).ops) one ∙ ap (λ (x : Member). (task_at x c.task s.parts.managers).ops) own in
        let units_are : units ≡ UnitOf u task_now.ops ∷ [] = c.units_are ∙ (λ i. UnitOf (sym same i) (sym ops i) ∷ []) in
        let named : is_unit u units ≡ true = ap (is_unit u) units_are ∙ or_left (same_unit u u) false (same_unit-self u) in
        let works = works_there u k units task_now.ops (subst (λ (x : List Item). Contains x (UnitOf u task_now.ops)) (sym units_are) (at_head (UnitOf u task_now.ops) [])) keys in
        (λ i. or_right (fits.cut_off u) (is_hit u m four s.works || is_unit u units) (or_right (is_hit u m four s.works) (is_unit u units) named) i && (list_any-append (works_on u k) h units ∙ or_right (list_any (works_on u k) h) (list_any (works_on u k) units) works) i)

told_then : (m : Member) (log : KeptLog) (row : List KeptSet) (units : List Item) (room : ℕ) (ls : List KeptLog) (s : State) → IsSound s → IsLawful s.parts → (fits : AreFitting s) → member_number m ≤ length s.parts.managers → (manager_in m s.parts.managers).up ≡ true → Commits m s.parts units
    → (x : StructNo) → AllByRecursion (IsToldOf (is_told_of (cut_after fits.cut_off m s.works units) (parts_after m log row units room ls s)) (structure_number x)) (structure_in x s.parts.structures).entries
told_then m log row units room ls s sound l fits within up commits x =
    told_by_found f (structure_number x) es (IsToldOf (is_told_of fits.cut_off s.parts) (structure_number x)) (sound.ordered.ordered x) (fits.told x) (λ e at old. mark_by e e.mark refl at old)
  where
    q : Owned
    q = parts_after m log row units room ls s

    es : List Entry
    es = (structure_in x s.parts.structures).entries

    f : ℕ × ℕ → UnitName → Bool
    f = is_told_of (cut_after fits.cut_off m s.works units) q

    inc : Incarnation
    inc = (manager_in m s.parts.managers).incarnation

    failed : (u : UnitName) → is_unresolved u.member u.incarnation q.repo ≡ (same_life u.member u.incarnation m inc || is_unresolved u.member u.incarnation s.parts.repo)
    failed u = fails_all u.member m u.incarnation inc s.parts.repo.lives ((sound.steady.listed m within).up up)

    or_left : (a b : Bool) → a ≡ true → (a || b) ≡ true
    or_left true b is = refl
    or_left false b is = absurd (true≢false (sym is))

    -- one that failed before
    before : (u : UnitName) (k : ℕ × ℕ) → is_unresolved u.member u.incarnation s.parts.repo ≡ true → is_told_of fits.cut_off s.parts k u ≡ true → f k u ≡ true
    before u k was old = is_told_more fits.cut_off (cut_after fits.cut_off m s.works units) s.parts q k u units (λ now. was)
        (λ now there. named (was_there m s units u commits there)) (λ cut. or_left (fits.cut_off u) (is_hit u m four s.works || is_unit u units) cut) refl old
      where
        named : (is_unit u s.parts.history.items ≡ true) ⊎ ((c : IsLatched m s.parts units) × (u ≡ c.unit)) → is_unit u s.parts.history.items ≡ true
        named (inl is) = is
        named (inr added) = absurd (held_unfailed (answers_given s.courses) (in_progress s.works) m added.0.task u s.parts sound.steady (subst (λ (y : UnitName). (task_at m added.0.task s.parts.managers).unit ≡ Some y) (sym added.1) added.0.holds) was)

    -- one of the member's present incarnation
    present : (e : Entry) (u : UnitName) → e.mark ≡ PutBy u → lists.entry_at e.id es ≡ Some e → u.member ≡ m → is_unresolved u.member u.incarnation s.parts.repo ≡ false → f (structure_number x, e.id.number) u ≡ true
    present e u mark at own unfailed =
        let outside = l.rest.outside in
        let held = held_of outside x e in
        let named = l.laws.marked x e.id.number held (found outside x e.id es ∙ ap (option_map (held_of outside x)) at) in
        let names : MarkNames l.rest.failed (λ k w. task_at k w s.parts.managers) (structure_number x, e.id.number) held.message (PutBy u) = subst (λ (y : Mark). MarkNames l.rest.failed (λ k w. task_at k w s.parts.managers) (structure_number x, e.id.number) held.message y) mark named in
        elim names [
          | inl bad ↦ absurd (true≢false (sym (sym (l.mirrored.failed u.member u.incarnation.number) ∙ bad) ∙ unfailed))
          | inr live ↦ by (is_unit u (s.parts.history.items ++ units)) refl (is_unresolved u.member u.incarnation q.repo)
              (λ there. cut_works m units s u (structure_number x, e.id.number) held.message live.0 sound l fits commits own live.1 live.2 there)
        ]
      where
        by : (b : Bool) → is_unit u (s.parts.history.items ++ units) ≡ b → (a : Bool)
            → (is_unit u (s.parts.history.items ++ units) ≡ true → (cut_after fits.cut_off m s.works units u && list_any (works_on u (structure_number x, e.id.number)) (s.parts.history.items ++ units)) ≡ true)
            → (not a || (not b || (cut_after fits.cut_off m s.works units u && list_any (works_on u (structure_number x, e.id.number)) (s.parts.history.items ++ units)))) ≡ true
        by b is false cut = refl
        by false is true cut = refl
        by true is true cut = cut is

    put : (e : Entry) (u : UnitName) → e.mark ≡ PutBy u → lists.entry_at e.id es ≡ Some e → is_told_of fits.cut_off s.parts (structure_number x, e.id.number) u ≡ true → f (structure_number x, e.id.number) u ≡ true
    put e u mark at old = by (is_unresolved u.member u.incarnation s.parts.repo) refl (same_life u.member u.incarnation m inc) refl
      where
        by : (b : Bool) → is_unresolved u.member u.incarnation s.parts.repo ≡ b → (c : Bool) → same_life u.member u.incarnation m inc ≡ c → f (structure_number x, e.id.number) u ≡ true
        by true was c is = before u (structure_number x, e.id.number) was old
        by false was true is = present e u mark at (life_is u.member m u.incarnation inc is).0 was
        by false was false is =
            let none : is_unresolved u.member u.incarnation q.repo ≡ false = failed u ∙ (λ i. is i || was i) in
            ap (λ (b : Bool). not b || (not (is_unit u (s.parts.history.items ++ units)) || (cut_after fits.cut_off m s.works units u && list_any (works_on u (structure_number x, e.id.number)) (s.parts.history.items ++ units)))) none

    mark_by : (e : Entry) (mark : Mark) → e.mark ≡ mark → lists.entry_at e.id es ≡ Some e → IsToldOf (is_told_of fits.cut_off s.parts) (structure_number x) e → IsToldOf f (structure_number x) e
    mark_by e Visible is at old = ap (put_is_told f (structure_number x, e.id.number)) is
    mark_by e (PutBy u) is at old = ap (put_is_told f (structure_number x, e.id.number)) is ∙ put e u is at (sym (ap (put_is_told (is_told_of fits.cut_off s.parts) (structure_number x, e.id.number)) is) ∙ old)
    mark_by e (GotBy u) is at old = ap (put_is_told f (structure_number x, e.id.number)) is
    mark_by e Cleanup is at old = ap (put_is_told f (structure_number x, e.id.number)) is

-- ---- the group

once_then : (m : Member) (log : KeptLog) (row : List KeptSet) (units : List Item) (room : ℕ) (ls : List KeptLog) (s : State) → IsSound s → IsLawful s.parts → (fits : AreFitting s) → Commits m s.parts units → (u : UnitName)
    → sum_by (commits_in u) (breaks m s.works (length s.parts.history.items) four s.courses) + count_by (commits_now u) (drops m four s.works) + one_if (cut_after fits.cut_off m s.works units u) ≡ named_in u (s.parts.history.items ++ units)
once_then m log row units room ls s sound l fits commits u =
    let h = s.parts.history.items in
    let sums = (carried_breaks s.parts.objects h s.parts m s.works (length h) four s.courses refl four_distinct (all_ask m s sound)).commits u in
    let works = counted_drops u m four s.works sound.forty four_distinct in
    let law = fits.once u in
    let then = named_then m s units u commits in
    let most = named_once m s units u sound l commits in
    let hit = one_hit u m four s.works (omega (arith, works, law, most)) in
    let inner = or_one (is_hit u m four s.works) (is_unit u units) (omega (arith, hit, works, law, most)) in
    let outer = or_one (fits.cut_off u) (is_hit u m four s.works || is_unit u units) (omega (arith, inner, hit, works, law, most)) in
    omega (arith, sums, works, law, then, hit, inner, outer)

given_then : (m k : Member) (ms : List Manager) (n : ℕ) → member_number m ≤ length ms → (member_number k ≤ length ms → (manager_in k ms).incarnation.number ≡ n) → member_number k ≤ length (with_down m ms) → (manager_in k (with_down m ms)).incarnation.number ≡ n
given_then m k ms n within given here =
    let old = given (subst (λ (z : ℕ). member_number k ≤ z) (down_length m ms) here) in
    elim (cases_member k m) [
      | inl same ↦ subst (λ (x : Member). (manager_in x ms).incarnation.number ≡ n → (manager_in x (with_down m ms)).incarnation.number ≡ n) (sym same) (λ is. ap (λ (z : Manager). z.incarnation.number) (down_here m ms within) ∙ is) old
      | inr differ ↦ ap (λ (z : Manager). z.incarnation.number) (down_other m k ms differ) ∙ old
    ]

-- The end of a member, and further answers: those of its operator, if a CRASH brought it.
pub end_fits : (m : Member) (log : KeptLog) (row : List KeptSet) (units : List Item) (room : ℕ) (ls : List KeptLog) (s : State) (cs : List Course) → IsSound s → IsLawful s.parts → AreFitting s → member_number m ≤ length s.parts.managers → (manager_in m s.parts.managers).up ≡ true → Commits m s.parts units
    → IsCarried s.parts.objects s.parts.history.items (parts_after m log row units room ls s) (breaks m s.works (length s.parts.history.items) four s.courses) cs
    → ((k : Member) (w : TaskNo) → pending_of s.parts.objects k w cs ≡ pending_of s.parts.objects k w (breaks m s.works (length s.parts.history.items) four s.courses))
    → ((k : Member) → sum_by (starts_in k) cs ≡ sum_by (starts_in k) (breaks m s.works (length s.parts.history.items) four s.courses))
    → AreFitting (record (after_end m log row units room ls s) { courses = cs })
end_fits m log row units room ls s cs sound l fits within up commits extra pendings starting =
    let p = s.parts in
    let q = parts_after m log row units room ls s in
    let r = after_end m log row units room ls s in
    let h = p.history.items in
    let at = length h in
    let ask = all_ask m s sound in
    let broken = breaks m s.works at four s.courses in
    let short = carried_breaks p.objects h q m s.works at four s.courses refl four_distinct ask in
    record {
      answers = all_more (FitsCourse p.objects h) (FitsCourse p.objects (h ++ units)) cs (λ c. fits_longer p.objects h units c) (extra.fits (short.fits fits.answers));
      tasks = λ k w. subst (λ (ops : List (StructNo × Op)). HoldsUnlessDue (is_due k w r.due) p.objects (h ++ units) (task_at k w (with_down m p.managers)) ops (work_of k w r.works)) (sym (pendings k w)) (all_hold m log row units room ls s k w sound l fits within commits);
      none = λ k. pendings k task.System ∙ ap (pending_in p.objects) (courses_kept m s.works at four s.courses k task.System (λ x has e f. absurd (system_apart x has f))) ∙ fits.none k;
      left_out = extra.out (short.out (all_more (LeavesOut p) (LeavesOut q) s.courses (λ c each. told_out p q c.actor (told c) (λ u out. out_then m log row units room ls s u within commits out) each) fits.left_out));
      cut_off = cut_after fits.cut_off m s.works units;
      cut = λ u is. cut_stays r (record r { courses = cs }) u [] extra.grown refl (sym (append-nil (h ++ units))) (cut_then m log row units room ls s sound l fits within commits u is);
      once = λ u. let sums = extra.commits u in let law = once_then m log row units room ls s sound l fits commits u in omega (arith, sums, law);
      inside = fits.inside;
      told = told_then m log row units room ls s sound l fits within up commits;
      timed = all_timed at (length (h ++ units)) cs (omega (arith, length-append h units)) (extra.timed at refl (short.timed at refl fits.timed));
      given = λ k here. given_then m k p.managers (1 + sum_by (starts_in k) cs) within (λ w. fits.given k w ∙ ap (λ (n : ℕ). 1 + n) (sym (starting k ∙ starts_breaks k m s.works at four s.courses four_distinct ask))) here;
      systems = λ k. let own = system_ends k m log row units room ls s fits within up in record { answers = own.answers; given_up = own.given_up; timed = own.timed };
    }
  where
    system_apart : (x : TaskNo) → Contains four x → task_number task.System ≡ task_number x → ⊥
    system_apart x has e = by (cases_task x task.System)
      where
        by : (x ≡ task.System) ⊎ (task_number x ≡ task_number task.System → ⊥) → ⊥
        by (inl same) = four_without (subst (Contains four) same has)
        by (inr differ) = differ (sym e)

commits_same : (m : Member) (s : State) (ls : List KeptLog) (units : List Item) → Commits m (record s.parts { logs = ls }) units → Commits m s.parts units
commits_same m s ls units (inl none) = inl none
commits_same m s ls units (inr c) = inr (record { task = c.task; unit = c.unit; holds = c.holds; writes = c.writes; units_are = c.units_are })

-- what an end leaves
pub end_is : (m : Member) (ls : List KeptLog) (s r : State) (end : IsEnd m (record s { parts = record s.parts { logs = ls } }) r)
    → r ≡ after_end m (log_in m r.parts.logs) (sets_of m r.parts.datasets) (committed_by end.crash.left m (record s.parts { logs = ls })) r.parts.history.room ls s
end_is m ls s r end = end.after ∙ ap (λ (x : Owned). ended m x (record s { parts = record s.parts { logs = ls } })) end.crash.parts

-- an end whose log failed
pub ended_fits : (m : Member) (ls : List KeptLog) (s r : State) → IsSound s → IsLawful s.parts → AreFitting s → member_number m ≤ length s.parts.managers → (manager_in m s.parts.managers).up ≡ true → IsEnd m (record s { parts = record s.parts { logs = ls } }) r → AreFitting r
ended_fits m ls s r sound l fits within up end =
    let p = record s.parts { logs = ls } in
    let log = log_in m r.parts.logs in
    let row = sets_of m r.parts.datasets in
    let units = committed_by end.crash.left m p in
    let room = r.parts.history.room in
    let broken = breaks m s.works (length s.parts.history.items) four s.courses in
    subst AreFitting (sym (end_is m ls s r end))
    (end_fits m log row units room ls s broken sound l fits within up (commits_same m s ls units (cut_commits end.crash.left m p)) (carried_self s.parts.objects s.parts.history.items (parts_after m log row units room ls s) broken) (λ k w. refl) (λ k. refl))

-- a CRASH, which the operator is told is done
pub crash_fits : (m : Member) (d : Directive) (pick : ℕ) (s e r : State) → IsSound s → IsLawful s.parts → AreFitting s → member_number m ≤ length s.parts.managers → (manager_in m s.parts.managers).up ≡ true → next_of actor.Operator s.courses ≡ Some d → asked actor.Operator d ≡ asks.Crash m pick
    → IsEnd m s e → r ≡ record e { courses = answered actor.Operator (answer_to d reply.Done s) e.courses } → AreFitting r
crash_fits m d pick s e r sound l fits within up next is end after =
    let ls = s.parts.logs in
    let p = s.parts in
    let log = log_in m e.parts.logs in
    let row = sets_of m e.parts.datasets in
    let units = committed_by end.crash.left m p in
    let room = e.parts.history.room in
    let h = p.history.items in
    let broken = breaks m s.works (length h) four s.courses in
    let a = answer_to d reply.Done s in
    let q = parts_after m log row units room ls s in
    let still : next_of actor.Operator broken ≡ Some d = ap (option_and_then next_in) (operator_kept m s.works (length h) four s.courses) ∙ next in
    let found = next_is actor.Operator d broken still in
    let done : EndsOther (asked actor.Operator d) reply.Done = subst (λ (x : Asked). EndsOther x reply.Done) (sym is) tt in
    let zero : (k : Member) → starts k (asked actor.Operator d) reply.Done ≡ false = λ k. ap (λ (x : Asked). starts k x reply.Done) is in
    subst AreFitting (sym (after ∙ ap (λ (x : State). record x { courses = answered actor.Operator a x.courses }) (end_is m ls s e end)))
    (end_fits m log row units room ls s (answered actor.Operator a broken) sound l fits within up (cut_commits end.crash.left m p)
    (carried_other p.objects h q actor.Operator d a found.0 broken found.1 refl refl done)
    (λ k w. pending_stays p.objects actor.Operator d a found.0 broken k w found.1 refl)
    (λ k. let more = starts_answered k actor.Operator d a found.0 broken found.1 in let none = ap one_if (zero k) in omega (arith, more, none)))
