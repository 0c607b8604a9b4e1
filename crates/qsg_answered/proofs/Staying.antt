-- what a step of one task leaves of the facts on all others
use Rattle.std.proofs.Common.{◌≡◌, ℕ, ◌+◌, ◌≤◌, length, length-append, zero, suc, List, [], ◌∷◌, ◌++◌, Bool, true, false, Option, Some, None, ◌⊎◌, inl, inr, refl, sym, ap, subst, ◌∙◌, arith, append-nil, true≢false}
use Rattle.qsg_fit.specs.Outcomes.{FitsEnd}
use Rattle.std.specs.Prelude.{◌||◌, ◌&&◌, not, Contains, take, fold}
use Rattle.std.specs.List.{AllByRecursion, list_any}
use Rattle.std.proofs.lemmas.List.{append_assoc}
use Rattle.std.proofs.lemmas.List.Folds.{list_any-append}
use Rattle.qsg_num.specs.declared.ids.Incarnation.{Incarnation}
use Rattle.qsg_lists.specs.declared.parts.Entry.{Entry}
use Rattle.qsg_lists.specs.declared.parts.Mark.{Mark}
use Rattle.qsg_lists.specs.declared.parts.Mark.TheVariants.{Visible, PutBy, GotBy, Cleanup}
use Rattle.qsg_model.proofs.Differing.{at_head, in_tail, head_or_tail, none_in_empty}
use Rattle.qsg_repo.specs.Calls.{is_unresolved}
use Rattle.qsg_repo.specs.Lives.{is_failed_life}
use Rattle.qsg_manager.specs.Facilities.{structure_in}
use Rattle.qsg_answered.specs.Cutting.{WasCutOff, works_on, is_told_of, put_is_told, IsToldOf, AreToldBy}
use Rattle.qsg_requests.specs.declared.replies.Reason.TheVariants as reason
use Rattle.qsg_peer.specs.declared.phases.FailedLife.{FailedLife}
use Rattle.qsg_peer.specs.Machine.{IsOver}
use Rattle.qsg_peer.specs.Steps.{life_of}
use Rattle.qsg_tallies.specs.declared.tally.Tally.{Tally}
use Rattle.qsg_sound.specs.Tallying.{tally_of, IsCountedBy}
use Rattle.qsg_answered.specs.Systems.{EndsSystem, FitsSystem}
use Rattle.qsg_answered.proofs.Answering.{HaveGrown}
use Rattle.qsg_num.specs.declared.seats.Member.{Member}
use Rattle.qsg_num.specs.declared.seats.StructNo.{StructNo}
use Rattle.qsg_num.specs.declared.seats.TaskNo.{TaskNo}
use Rattle.qsg_num.specs.declared.ids.Actor.{Actor}
use Rattle.qsg_num.specs.declared.ids.UnitName.{UnitName}
use Rattle.qsg_num.specs.Ids.{same_unit}
use Rattle.qsg_num.specs.Seats.{member_number, structure_number, task_number}
use Rattle.qsg_model.specs.declared.history.Item.{Item}
use Rattle.qsg_model.specs.declared.history.Item.TheVariants.{Unit as UnitOf}
use Rattle.qsg_model.specs.declared.history.Op.{Op}
use Rattle.qsg_model.specs.Past.{is_unit}
use Rattle.qsg_model.proofs.Growing.{is_unit-push}
use Rattle.qsg_objects.specs.declared.directives.Directive.{Directive}
use Rattle.qsg_objects.specs.Registry.{Registry}
use Rattle.qsg_requests.specs.declared.replies.Reply.{Reply}
use Rattle.qsg_requests.specs.declared.replies.Reply.TheVariants as reply
use Rattle.qsg_requests.specs.declared.transcript.Answer.{Answer}
use Rattle.qsg_requests.specs.declared.words.Request.{Request}
use Rattle.qsg_requests.specs.declared.words.Request.TheVariants as request
use Rattle.qsg_agenda.specs.Courses.{Course}
use Rattle.qsg_group.specs.declared.tasks.Task.{Task}
use Rattle.qsg_group.specs.Laws.{IsDrawn}
use Rattle.qsg_group.proofs.Pages.{same_name}
use Rattle.qsg_manager.specs.Groups.{seat_of}
use Rattle.qsg_manager.specs.Storage.{manager_in, task_at}
use Rattle.qsg_parts.specs.Owned.{Owned}
use Rattle.qsg_steady.specs.Standing.{IsOther}
use Rattle.qsg_commit.specs.declared.phases.Phase.{Phase as EndPhase}
use Rattle.qsg_commit.specs.declared.phases.Phase.TheVariants as end_phase
use Rattle.qsg_works.specs.declared.work.Work.{Work}
use Rattle.qsg_works.specs.declared.work.Work.TheVariants.{Put, Get, Commit}
use Rattle.qsg_steady.specs.Steady.{IsLawful, IsLive, IsSteady}
use Rattle.qsg_step.specs.States.{State}
use Rattle.qsg_sound.specs.Sound.{IsHand, IsSound}
use Rattle.qsg_answered.specs.Telling.{requested, told, with_answered}
use Rattle.qsg_answered.specs.Fits.{FitsCourse, HoldsEnd, Holds, HasLostUnit, HoldsUnlessDue, IsLeftOut, StaysOut, StaysOutTold, LeavesOut}
use Rattle.qsg_answered.proofs.Frames.{IsNext, IsFrame}
use Rattle.qsg_sound.proofs.Hands.{by_hand}
use Rattle.qsg_answered.proofs.Outcomes.{IsMove, IsAdded}
use Rattle.qsg_sound.proofs.Owning.{at_owner}
use Rattle.qsg_answered.proofs.Told.{committed_longer, fits_longer}

-- ---- the history is as it was, or has the unit of that task besides

abbrev pub GoesOn : Member → TaskNo → Owned → Owned → Type 0
GoesOn m t p q = (q.history.items ≡ p.history.items) ⊎ IsAdded m t p q

-- what holds of a history and of a longer one
pub as_it_goes : (m : Member) (t : TaskNo) (p q : Owned) (P : List Item → Type 0) → GoesOn m t p q → ((added : IsAdded m t p q) → P (p.history.items ++ UnitOf added.unit added.ops ∷ [])) → P p.history.items → P q.history.items
as_it_goes m t p q P (inl same) longer before = subst P (sym same) before
as_it_goes m t p q P (inr added) longer before = subst P (sym added.items) (longer added)

-- ---- the answers of a course

pub course_stays : (m : Member) (t : TaskNo) (p q : Owned) (c : Course) → q.objects ≡ p.objects → GoesOn m t p q → FitsCourse p.objects p.history.items c → FitsCourse q.objects q.history.items c
course_stays m t p q c objects goes fits =
    subst (λ (o : Registry). FitsCourse o q.history.items c) (sym objects)
    (as_it_goes m t p q (λ h. FitsCourse p.objects h c) goes (λ added. fits_longer p.objects p.history.items (UnitOf added.unit added.ops ∷ []) c fits) fits)

-- ---- units that were backed out

-- a name that was drawn isn't the next one
not_next : (u : UnitName) (p : Owned) → IsDrawn u (seat_of (manager_in u.member p.managers)) → IsNext u p.managers → ⊥
not_next u p drawn next =
    let below = drawn.below (ap (λ i. i.number) next.incarnation) in
    absurd (omega (arith, below, next.next))

apart_by : (b : Bool) (u v : UnitName) → same_unit u v ≡ b → (u ≡ v → ⊥) → same_unit u v ≡ false
apart_by true u v is differ = absurd (differ (same_name u v is))
apart_by false u v is differ = is

pub apart_of : (u v : UnitName) → (u ≡ v → ⊥) → same_unit u v ≡ false
apart_of u v differ = apart_by (same_unit u v) u v refl differ

pub unit_longer : (u v : UnitName) (h : List Item) (ops : List (StructNo × Op)) → same_unit u v ≡ false → is_unit u h ≡ false → is_unit u (h ++ UnitOf v ops ∷ []) ≡ false
unit_longer u v h ops differ out = is_unit-push u h v ops ∙ (λ i. out i || differ i)

left_out_stays : (m : Member) (t : TaskNo) (p q : Owned) (u : UnitName) → IsFrame m t p.managers q.managers → GoesOn m t p q → IsLeftOut p u → IsLeftOut q u
left_out_stays m t p q u frame goes out =
    let grows = frame.grows u.member in
    record {
      out = as_it_goes m t p q (λ h. is_unit u h ≡ false) goes
          (λ added. unit_longer u added.unit p.history.items added.ops (apart_of u added.unit (λ same. out.unheld m t (added.holds ∙ ap (λ x. Some x) (sym same)))) out.out) out.out;
      drawn = record {
        past = omega (arith, out.drawn.past, ap (λ i. i.number) grows.incarnation);
        below = λ e. let before = out.drawn.below (e ∙ ap (λ i. i.number) grows.incarnation) in omega (arith, before, grows.next);
      };
      unheld = by_hand (λ k w. (task_at k w q.managers).unit ≡ Some u → ⊥) m t
          (λ holds. elim (frame.unit u holds) [ inl held ↦ out.unheld m t held | inr new ↦ not_next u p out.drawn new ])
          (λ k w differ holds. out.unheld k w (ap (λ (z : Task). z.unit) (sym (frame.others k w differ)) ∙ holds));
    }

out_by : (p q : Owned) (asked : Option Request) (r : Reply) → ((u : UnitName) → IsLeftOut p u → IsLeftOut q u) → StaysOut p asked r → StaysOut q asked r
out_by p q (Some request.Backout) (reply.Unit (Some u) count) more out = more u out
out_by p q asked r more out = out

pub told_out : (p q : Owned) (who : Actor) (l : List (Directive × Answer)) → ((u : UnitName) → IsLeftOut p u → IsLeftOut q u) → AllByRecursion (StaysOutTold p who) l → AllByRecursion (StaysOutTold q who) l
told_out p q who [] more each = tt
told_out p q who ((d, a) ∷ l) more each = (out_by p q (requested who d) a.reply more each.0, told_out p q who l more each.1)

pub leaves_out_stays : (m : Member) (t : TaskNo) (p q : Owned) (c : Course) → IsFrame m t p.managers q.managers → GoesOn m t p q → LeavesOut p c → LeavesOut q c
leaves_out_stays m t p q c frame goes each = told_out p q c.actor (told c) (λ u out. left_out_stays m t p q u frame goes out) each

-- ---- units that were cut off

-- what the history had is still there
pub history_goes : (m : Member) (t : TaskNo) (p q : Owned) → GoesOn m t p q → (more : List Item) × (q.history.items ≡ p.history.items ++ more)
history_goes m t p q (inl same) = ([], same ∙ sym (append-nil p.history.items))
history_goes m t p q (inr added) = (UnitOf added.unit added.ops ∷ [], added.items)

taken_longer : (n : ℕ) (h k : List Item) (i : Item) → Contains (take n h) i → Contains (take n (h ++ k)) i
taken_longer zero h k i there = absurd (none_in_empty i there)
taken_longer (suc n) [] k i there = absurd (none_in_empty i there)
taken_longer (suc n) (j ∷ h) k i there = elim (head_or_tail j i (take n h) there) [
  | inl same ↦ subst (λ (x : Item). Contains (j ∷ take n (h ++ k)) x) same (at_head j (take n (h ++ k)))
  | inr later ↦ in_tail j i (take n (h ++ k)) (taken_longer n h k i later)
]

pub cut_stays : (s r : State) (u : UnitName) (more : List Item) → HaveGrown s.courses r.courses → r.parts.objects ≡ s.parts.objects → r.parts.history.items ≡ s.parts.history.items ++ more → WasCutOff u s → WasCutOff u r
cut_stays s r u more grown objects history cut =
    let g = grown cut.course cut.there in
    record {
      course = g.course;
      there = g.there;
      task = cut.task;
      own = g.actor ∙ cut.own;
      before = cut.before;
      directive = cut.directive;
      answer = cut.answer;
      behind = cut.behind ++ g.more;
      told_is = g.told_is ∙ ap (λ (l : List (Directive × Answer)). l ++ g.more) cut.told_is ∙ append_assoc cut.before ((cut.directive, cut.answer) ∷ cut.behind) g.more;
      asks = ap (λ (x : Actor). requested x cut.directive) g.actor ∙ cut.asks;
      broken = cut.broken;
      committed =
          subst (λ (o : Registry). Contains (take (cut.answer.at + 1) r.parts.history.items) (UnitOf u (fold (with_answered o g.course.actor) [] cut.before))) (sym objects)
          (subst (λ (x : Actor). Contains (take (cut.answer.at + 1) r.parts.history.items) (UnitOf u (fold (with_answered s.parts.objects x) [] cut.before))) (sym g.actor)
          (subst (λ h. Contains (take (cut.answer.at + 1) h) (UnitOf u (fold (with_answered s.parts.objects cut.course.actor) [] cut.before))) (sym history)
          (taken_longer (cut.answer.at + 1) s.parts.history.items more (UnitOf u (fold (with_answered s.parts.objects cut.course.actor) [] cut.before)) cut.committed)));
    }

-- ---- puts of incarnations that failed

-- the entries are told where fewer incarnations failed, and no unit of one that did came into the history
pub told_by : (failed after named then cut cuts : Bool) → (after ≡ true → failed ≡ true) → (after ≡ true → then ≡ true → named ≡ true) → (cut ≡ true → cuts ≡ true) → (not failed || (not named || cut)) ≡ true → (not after || (not then || cuts)) ≡ true
told_by failed false named then cut cuts less same more told = refl
told_by failed true named false cut cuts less same more told = refl
told_by true true true true cut cuts less same more told = more told
told_by true true false true cut cuts less same more told = absurd (true≢false (sym (same refl refl)))
told_by false true named true cut cuts less same more told = absurd (true≢false (sym (less refl)))

and_more : (a b c d : Bool) → (a ≡ true → c ≡ true) → (b ≡ true → d ≡ true) → (a && b) ≡ true → (c && d) ≡ true
and_more true b c d first then both = (λ i. first refl i && then both i)
and_more false b c d first then both = absurd (true≢false (sym both))

any_longer : (f : Item → Bool) (h k : List Item) → list_any f h ≡ true → list_any f (h ++ k) ≡ true
any_longer f h k any = list_any-append f h k ∙ ap (λ b. b || list_any f k) any

pub is_told_more : (cut_off cuts_off : UnitName → Bool) (p q : Owned) (k : ℕ × ℕ) (u : UnitName) (more : List Item) → (is_unresolved u.member u.incarnation q.repo ≡ true → is_unresolved u.member u.incarnation p.repo ≡ true)
    → (is_unresolved u.member u.incarnation q.repo ≡ true → is_unit u q.history.items ≡ true → is_unit u p.history.items ≡ true) → (cut_off u ≡ true → cuts_off u ≡ true) → q.history.items ≡ p.history.items ++ more
    → is_told_of cut_off p k u ≡ true → is_told_of cuts_off q k u ≡ true
is_told_more cut_off cuts_off p q k u more less same cuts history told =
    told_by (is_unresolved u.member u.incarnation p.repo) (is_unresolved u.member u.incarnation q.repo) (is_unit u p.history.items) (is_unit u q.history.items)
    (cut_off u && list_any (works_on u k) p.history.items) (cuts_off u && list_any (works_on u k) q.history.items) less same
    (and_more (cut_off u) (list_any (works_on u k) p.history.items) (cuts_off u) (list_any (works_on u k) q.history.items) cuts
    (λ any. ap (list_any (works_on u k)) history ∙ any_longer (works_on u k) p.history.items more any)) told

pub mark_told : (f g : ℕ × ℕ → UnitName → Bool) (k : ℕ × ℕ) (mark : Mark) → ((u : UnitName) → f k u ≡ true → g k u ≡ true) → put_is_told f k mark ≡ true → put_is_told g k mark ≡ true
mark_told f g k Visible more told = refl
mark_told f g k (PutBy u) more told = more u told
mark_told f g k (GotBy u) more told = refl
mark_told f g k Cleanup more told = refl

entries_told : (f g : ℕ × ℕ → UnitName → Bool) (x : ℕ) (es : List Entry) → ((k : ℕ × ℕ) (u : UnitName) → f k u ≡ true → g k u ≡ true) → AllByRecursion (IsToldOf f x) es → AllByRecursion (IsToldOf g x) es
entries_told f g x [] more each = tt
entries_told f g x (e ∷ es) more each = (mark_told f g (x, e.id.number) e.mark (more (x, e.id.number)) each.0, entries_told f g x es more each.1)

pub told_more_by : (f g : ℕ × ℕ → UnitName → Bool) (p : Owned) → ((k : ℕ × ℕ) (u : UnitName) → f k u ≡ true → g k u ≡ true) → AreToldBy f p → AreToldBy g p
told_more_by f g p more each x = entries_told f g (structure_number x) (structure_in x p.structures).entries more (each x)

-- a unit that a task holds is of no incarnation that failed
pub held_unfailed : (a b : ℕ) (m : Member) (t : TaskNo) (u : UnitName) (p : Owned) → IsSteady a b p → (task_at m t p.managers).unit ≡ Some u → is_unresolved u.member u.incarnation p.repo ≡ true → ⊥
held_unfailed a b m t u p s holds failed =
    let own = s.own m t u holds in
    let live = subst (λ (k : Member). IsLive (manager_in k p.managers) u) (sym own) (s.live m t u holds) in
    let over = s.over u.member u.incarnation failed in
    true≢false (sym live.up ∙ over.ended.down (ap (λ (i : Incarnation). i.number) live.incarnation))

pub added_named : (u v : UnitName) (h : List Item) (ops : List (StructNo × Op)) → (u ≡ v → ⊥) → is_unit u (h ++ UnitOf v ops ∷ []) ≡ true → is_unit u h ≡ true
added_named u v h ops differ named = sym (is_unit-push u h v ops ∙ ap (λ (b : Bool). is_unit u h || b) (apart_of u v differ) ∙ or_false (is_unit u h)) ∙ named
  where
    or_false : (b : Bool) → (b || false) ≡ b
    or_false true = refl
    or_false false = refl

pub told_goes : (a b : ℕ) (m : Member) (t : TaskNo) (cut_off : UnitName → Bool) (p q : Owned) → IsSteady a b p → q.repo.lives ≡ p.repo.lives → GoesOn m t p q → (k : ℕ × ℕ) (u : UnitName) → is_told_of cut_off p k u ≡ true → is_told_of cut_off q k u ≡ true
told_goes a b m t cut_off p q s lives goes k u told =
    let more = history_goes m t p q goes in
    let same : is_unresolved u.member u.incarnation q.repo ≡ is_unresolved u.member u.incarnation p.repo = ap (list_any (is_failed_life u.member u.incarnation)) lives in
    is_told_more cut_off cut_off p q k u more.0 (λ failed. sym same ∙ failed)
    (λ failed. as_it_goes m t p q (λ h. is_unit u h ≡ true → is_unit u p.history.items ≡ true) goes
    (λ added named. added_named u added.unit p.history.items added.ops
    (λ is. held_unfailed a b m t added.unit p s added.holds (subst (λ (x : UnitName). is_unresolved x.member x.incarnation p.repo ≡ true) is (sym same ∙ failed))) named) (λ named. named))
    (λ is. is) more.1 told

-- a unit that its task holds is told after the step
pub held_told : (a b : ℕ) (m : Member) (t : TaskNo) (cut_off : UnitName → Bool) (p q : Owned) (u : UnitName) (k : ℕ × ℕ) → IsSteady a b p → q.repo.lives ≡ p.repo.lives → (task_at m t p.managers).unit ≡ Some u → is_told_of cut_off q k u ≡ true
held_told a b m t cut_off p q u k s lives holds = by (is_unresolved u.member u.incarnation q.repo) refl
  where
    same : is_unresolved u.member u.incarnation q.repo ≡ is_unresolved u.member u.incarnation p.repo
    same = ap (list_any (is_failed_life u.member u.incarnation)) lives

    by : (b : Bool) → is_unresolved u.member u.incarnation q.repo ≡ b → (not b || (not (is_unit u q.history.items) || (cut_off u && list_any (works_on u k) q.history.items))) ≡ true
    by true is = absurd (held_unfailed a b m t u p s holds (sym same ∙ is))
    by false is = refl

-- ---- what other tasks hold

-- a BACKOUT in hand is of another unit
abbrev pub IsApartAt : UnitName → EndPhase → Type 0
IsApartAt v end_phase.Latch = Unit {0}
IsApartAt v (end_phase.Pages u count) = Unit {0}
IsApartAt v (end_phase.Settle u count) = Unit {0}
IsApartAt v (end_phase.Publish u count) = Unit {0}
IsApartAt v end_phase.GiveUp = Unit {0}
IsApartAt v (end_phase.Undo u count) = same_unit u v ≡ false

abbrev pub IsApartFrom : UnitName → Option Work → Type 0
IsApartFrom v None = Unit {0}
IsApartFrom v (Some (Put work)) = Unit {0}
IsApartFrom v (Some (Get work)) = Unit {0}
IsApartFrom v (Some (Commit work)) = IsApartAt v work.phase

end_longer : (h : List Item) (v : UnitName) (more : List (StructNo × Op)) (task : Task) (ops : List (StructNo × Op)) (phase : EndPhase) → IsApartAt v phase → HoldsEnd h task ops phase → HoldsEnd (h ++ UnitOf v more ∷ []) task ops phase
end_longer h v more task ops end_phase.Latch apart holds = holds
end_longer h v more task ops (end_phase.Pages u count) apart holds = holds
end_longer h v more task ops (end_phase.Settle u count) apart holds = record { committed = committed_longer h (UnitOf v more ∷ []) u ops count holds.committed; claims = holds.claims }
end_longer h v more task ops (end_phase.Publish u count) apart holds = record { committed = committed_longer h (UnitOf v more ∷ []) u ops count holds.committed; claims = holds.claims }
end_longer h v more task ops end_phase.GiveUp apart holds = holds
end_longer h v more task ops (end_phase.Undo u count) apart holds = (unit_longer u v h more apart holds.0, holds.1)

pub holds_longer : (objects : Registry) (h : List Item) (v : UnitName) (more : List (StructNo × Op)) (task : Task) (ops : List (StructNo × Op)) (work : Option Work) → IsApartFrom v work → Holds objects h task ops work → Holds objects (h ++ UnitOf v more ∷ []) task ops work
holds_longer objects h v more task ops None apart holds = holds
holds_longer objects h v more task ops (Some (Put work)) apart holds = holds
holds_longer objects h v more task ops (Some (Get work)) apart holds = holds
holds_longer objects h v more task ops (Some (Commit work)) apart holds = end_longer h v more task ops work.phase apart holds

pub other_holds : (m : Member) (t : TaskNo) (k : Member) (w : TaskNo) (p q : Owned) (ops : List (StructNo × Op)) (work : Option Work) → IsMove m t p q → GoesOn m t p q → IsOther m t k w → ((added : IsAdded m t p q) → IsApartFrom added.unit work)
    → Holds p.objects p.history.items (task_at k w p.managers) ops work → Holds q.objects q.history.items (task_at k w q.managers) ops work
other_holds m t k w p q ops work move goes differ apart holds =
    subst (λ (o : Registry). Holds o q.history.items (task_at k w q.managers) ops work) (sym move.objects)
    (subst (λ (z : Task). Holds p.objects q.history.items z ops work) (sym (move.frame.others k w differ))
    (as_it_goes m t p q (λ h. Holds p.objects h (task_at k w p.managers) ops work) goes (λ added. holds_longer p.objects p.history.items added.unit added.ops (task_at k w p.managers) ops work (apart added) holds) holds))

lost_other : (task other : Task) (ops : List (StructNo × Op)) (work : Option Work) → other ≡ task → HasLostUnit task ops work → HasLostUnit other ops work
lost_other task other ops work same lost = record { free = ap (λ (z : Task). z.unit) same ∙ lost.free; idle = lost.idle; some = lost.some }

-- so do those that wait for a 2009
pub other_unless : (due : Bool) (m : Member) (t : TaskNo) (k : Member) (w : TaskNo) (p q : Owned) (ops : List (StructNo × Op)) (work : Option Work) → IsMove m t p q → GoesOn m t p q → IsOther m t k w → ((added : IsAdded m t p q) → IsApartFrom added.unit work)
    → HoldsUnlessDue due p.objects p.history.items (task_at k w p.managers) ops work → HoldsUnlessDue due q.objects q.history.items (task_at k w q.managers) ops work
other_unless true m t k w p q ops work move goes differ apart lost = lost_other (task_at k w p.managers) (task_at k w q.managers) ops work (move.frame.others k w differ) lost
other_unless false m t k w p q ops work move goes differ apart holds = other_holds m t k w p q ops work move goes differ apart holds

-- two tasks have two units
units_apart : (s : State) (m : Member) (t : TaskNo) (k : Member) (w : TaskNo) (u v : UnitName) → IsSound s → IsLawful s.parts → IsOther m t k w → (task_at m t s.parts.managers).unit ≡ Some v → (task_at k w s.parts.managers).unit ≡ Some u → same_unit u v ≡ false
units_apart s m t k w u v sound l differ holds has = apart_of u v (λ same.
    let here : (task_at m t s.parts.managers).unit ≡ Some u = holds ∙ ap (λ x. Some x) (sym same) in
    let one = sound.steady.own m t u here in
    let two = sound.steady.own k w u has in
    let first : (task_at u.member t s.parts.managers).unit ≡ Some u = subst (λ x. (task_at x t s.parts.managers).unit ≡ Some u) (sym one) here in
    let second : (task_at u.member w s.parts.managers).unit ≡ Some u = subst (λ x. (task_at x w s.parts.managers).unit ≡ Some u) (sym two) has in
    differ (ap member_number (sym two ∙ one)) (ap task_number (l.laws.once u w t second first)))

pub hand_apart : (s : State) (m : Member) (t : TaskNo) (k : Member) (w : TaskNo) (v : UnitName) (work : Option Work) → IsSound s → IsLawful s.parts → IsOther m t k w → (task_at m t s.parts.managers).unit ≡ Some v → IsHand k w work s.courses s.parts → IsApartFrom v work
hand_apart s m t k w v None sound l differ holds hand = tt
hand_apart s m t k w v (Some (Put work)) sound l differ holds hand = tt
hand_apart s m t k w v (Some (Get work)) sound l differ holds hand = tt
hand_apart s m t k w v (Some (Commit work)) sound l differ holds hand = by work.phase hand.fits.stands
  where
    here : (u : UnitName) → (task_at work.member work.task s.parts.managers).unit ≡ Some u → (task_at k w s.parts.managers).unit ≡ Some u
    here u has = at_owner (λ x y. (task_at x y s.parts.managers).unit ≡ Some u) (Commit work) k w hand.own has

    by : (phase : EndPhase) → FitsEnd (task_at work.member work.task s.parts.managers) phase → IsApartAt v phase
    by end_phase.Latch fits = tt
    by (end_phase.Pages u count) fits = tt
    by (end_phase.Settle u count) fits = tt
    by (end_phase.Publish u count) fits = tt
    by end_phase.GiveUp fits = tt
    by (end_phase.Undo u count) fits = units_apart s m t k w u v sound l differ holds (here u (ap (λ (z : Task). z.unit) fits.is))

-- ---- system tasks

-- what holds of an answer of a system task still does
pub record GoesOnFor (m : Member) (p q : Owned) (old new : List Tally) : Type 0 where
  pub over : (life : FailedLife) → IsOver life p → IsOver life q
  pub resolved : (life : FailedLife) → IsOver life p → is_unresolved life.member life.incarnation p.repo ≡ false → is_unresolved life.member life.incarnation q.repo ≡ false
  pub counted : (of : Member) (i : Incarnation) (settled : ℕ) → IsCountedBy m (tally_of of i old) settled → IsCountedBy m (tally_of of i new) settled

system_stays : (m : Member) (p q : Owned) (old new : List Tally) (r : Reply) → GoesOnFor m p q old new → EndsSystem m p old r → EndsSystem m q new r
system_stays m p q old new (reply.Resolved of i settled) goes ends = record { over = goes.over (life_of (of, i)) ends.over; resolved = goes.resolved (life_of (of, i)) ends.over ends.resolved; counted = goes.counted of i settled ends.counted }
system_stays m p q old new (reply.Refused (reason.GaveUp of i why)) goes ends = goes.over (life_of (of, i)) ends
system_stays m p q old new r goes ends = absurd ends

pub systems_stay : (m : Member) (p q : Owned) (old new : List Tally) (answers : List Answer) → GoesOnFor m p q old new → AllByRecursion (FitsSystem m p old) answers → AllByRecursion (FitsSystem m q new) answers
systems_stay m p q old new [] goes each = tt
systems_stay m p q old new (a ∷ answers) goes each = (system_stays m p q old new a.reply goes each.0, systems_stay m p q old new answers goes each.1)

over_stays : (m : Member) (t : TaskNo) (p q : Owned) (life : FailedLife) → IsFrame m t p.managers q.managers → IsOver life p → IsOver life q
over_stays m t p q life frame over =
    let grows = frame.grows life.member in
    let same = ap (λ (i : Incarnation). i.number) grows.incarnation in
    record { past = omega (arith, over.past, same); down = λ is. grows.up ∙ over.down (is ∙ same) }

pub goes_for : (k m : Member) (t : TaskNo) (p q : Owned) (rows : List Tally) → IsFrame m t p.managers q.managers → q.repo.lives ≡ p.repo.lives → GoesOnFor k p q rows rows
goes_for k m t p q rows frame lives = record {
  over = λ life over. over_stays m t p q life frame over;
  resolved = λ life over is. ap (list_any (is_failed_life life.member life.incarnation)) lives ∙ is;
  counted = λ of i settled counted. counted;
}

-- the history has no fewer items
pub longer : (h k more : List Item) → k ≡ h ++ more → length h ≤ length k
longer h k more is = omega (arith, ap length is, length-append h more)

pub given_stays : (m : Member) (t : TaskNo) (p q : Owned) (n : ℕ) (k : Member) → IsFrame m t p.managers q.managers → (member_number k ≤ length p.managers → (manager_in k p.managers).incarnation.number ≡ n) → member_number k ≤ length q.managers → (manager_in k q.managers).incarnation.number ≡ n
given_stays m t p q n k frame given within = ap (λ (i : Incarnation). i.number) (frame.grows k).incarnation ∙ given (subst (λ z. member_number k ≤ z) frame.members within)
