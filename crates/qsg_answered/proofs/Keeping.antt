-- a step of a request, and an answer without one, leave the answers fitting
use Rattle.std.proofs.Common.{◌≡◌, ℕ, ◌+◌, List, [], append-nil, ◌≤◌, length, Bool, true, false, Option, Some, None, inl, refl, sym, ap, subst, ◌∙◌, arith, true≢false}
use Rattle.std.specs.Prelude.{sum_by}
use Rattle.std.specs.List.{AllByRecursion}
use Rattle.qsg_num.specs.declared.ids.Incarnation.{Incarnation}
use Rattle.qsg_model.specs.Past.{is_unit}
use Rattle.qsg_repo.specs.Calls.{is_unresolved}
use Rattle.qsg_group.specs.Laws.{IsDrawn}
use Rattle.qsg_manager.specs.Groups.{seat_of}
use Rattle.qsg_start.specs.Works.{Work as StartWork}
use Rattle.qsg_tallies.specs.Tallies.{Tallied}
use Rattle.std.proofs.lemmas.Option.{none-some}
use Rattle.qsg_num.specs.declared.seats.Member.{Member}
use Rattle.qsg_num.specs.declared.seats.StructNo.{StructNo}
use Rattle.qsg_num.specs.declared.seats.TaskNo.{TaskNo}
use Rattle.qsg_num.specs.declared.seats.TaskNo.TheVariants as task
use Rattle.qsg_num.specs.Seats.{member_number, task_number}
use Rattle.qsg_num.specs.declared.ids.Actor.{Actor}
use Rattle.qsg_num.specs.declared.ids.Actor.TheVariants as actor
use Rattle.qsg_num.specs.declared.ids.UnitName.{UnitName}
use Rattle.qsg_model.specs.declared.history.Item.{Item}
use Rattle.qsg_model.specs.declared.history.Op.{Op}
use Rattle.qsg_objects.specs.declared.directives.Directive.{Directive}
use Rattle.qsg_objects.specs.declared.directives.Directive.TheVariants as directive
use Rattle.qsg_objects.specs.Registry.{Registry}
use Rattle.qsg_requests.specs.declared.replies.Reply.{Reply}
use Rattle.qsg_requests.specs.declared.transcript.Answer.{Answer}
use Rattle.qsg_requests.specs.declared.words.Request.{Request}
use Rattle.qsg_agenda.specs.Courses.{Course, answered}
use Rattle.qsg_directives.specs.Asking.{request_of}
use Rattle.qsg_group.specs.declared.tasks.Task.{Task}
use Rattle.qsg_manager.specs.Storage.{manager_in, task_at}
use Rattle.qsg_parts.specs.Owned.{Owned}
use Rattle.qsg_works.specs.declared.work.Work.{Work}
use Rattle.qsg_works.specs.InHand.{work_of, with_work}
use Rattle.qsg_steady.specs.Steady.{IsLawful}
use Rattle.qsg_steady.specs.Standing.{IsOther}
use Rattle.qsg_peers.specs.Peers.{Peer, peer_of}
use Rattle.qsg_step.specs.declared.asked.Asked.{Asked}
use Rattle.qsg_step.specs.declared.asked.Asked.TheVariants as asks
use Rattle.qsg_step.specs.Asking.{asked}
use Rattle.qsg_step.specs.States.{State, is_due}
use Rattle.qsg_step.specs.Steps.{answer_to}
use Rattle.qsg_sound.specs.Sound.{answers_given, in_progress, request_in, IsSound}
use Rattle.qsg_answered.specs.Telling.{requested, is_broken, pending_after, pending, pending_in, pending_of, told, commits, starts, starts_in}
use Rattle.qsg_answered.specs.Timing.{AreTimed}
use Rattle.qsg_answered.specs.Systems.{AreSystemsFitting}
use Rattle.qsg_answered.specs.Cutting.{is_told_of, AreToldBy}
use Rattle.qsg_answered.specs.Fits.{EndsRequest, EndsUnlessBroken, EndsAsked, FitsCourse, Holds, HoldsUnlessDue, StaysOut, LeavesOut, EndsOther, commits_in, commits_now, AreInside, AreFitting}
use Rattle.qsg_answered.proofs.Answering.{IsNextOf, fits_answered, out_answered, commits_answered, starts_answered, timed_answered, all_timed, timed_more, HaveGrown, grown_self, grown_more, grown_answered}
use Rattle.qsg_answered.proofs.Frames.{IsTelling}
use Rattle.qsg_answered.proofs.Courses.{course_is, answered_own, answered_apart, all_more}
use Rattle.qsg_sound.proofs.Answering.{tasks_apart, operator_apart}
use Rattle.qsg_sound.proofs.Hands.{by_hand, work_same, work_other}
use Rattle.qsg_answered.proofs.Hands.{counted_with}
use Rattle.qsg_answered.proofs.Outcomes.{one_if, named_in, Goes, Answered}
use Rattle.qsg_answered.proofs.Staying.{GoesOn, course_stays, leaves_out_stays, other_unless, hand_apart, history_goes, told_out, is_told_more, cut_stays, told_more_by, told_goes, held_told, systems_stay, goes_for, longer, given_stays}
use Rattle.qsg_answered.proofs.Taking.{IsTaken}
use Rattle.qsg_answered.proofs.Told.{pending_more, pending_kept}

-- a 2009 isn't due to a task that has a request in progress
not_due : (due : Bool) (objects : Registry) (h : List Item) (task : Task) (ops : List (StructNo × Op)) (work : Option Work) → due ≡ false → Holds objects h task ops work → HoldsUnlessDue due objects h task ops work
not_due true objects h task ops work free holds = absurd (true≢false free)
not_due false objects h task ops work free holds = holds

-- ---- a request goes on

pub goes_fitting : (m : Member) (t : TaskNo) (before work : Work) (q : Owned) (s : State) → IsSound s → IsLawful s.parts → AreFitting s → is_due m t s.due ≡ false
    → ((u : UnitName) → commits_now u (work_of m t s.works) ≡ commits_now u (Some before)) → Goes m t (pending_of s.parts.objects m t s.courses) before work s.parts q
    → AreFitting (record s { parts = q; works = with_work m t (Some work) s.works })
goes_fitting m t before work q s sound l fits free same goes =
    let p = s.parts in
    let works = with_work m t (Some work) s.works in
    let more = history_goes m t p q goes.history in
    let a = answers_given s.courses in
    let b = in_progress s.works in
    record {
      answers = all_more (FitsCourse p.objects p.history.items) (FitsCourse q.objects q.history.items) s.courses (λ c. course_stays m t p q c goes.move.objects goes.history) fits.answers;
      tasks = by_hand (λ k w. HoldsUnlessDue (is_due k w s.due) q.objects q.history.items (task_at k w q.managers) (pending_of q.objects k w s.courses) (work_of k w works)) m t
          (subst (λ (x : Option Work). HoldsUnlessDue (is_due m t s.due) q.objects q.history.items (task_at m t q.managers) (pending_of q.objects m t s.courses) x) (sym (work_same m t (Some work) s.works sound.forty))
          (subst (λ (o : Registry). HoldsUnlessDue (is_due m t s.due) o q.history.items (task_at m t q.managers) (pending_of o m t s.courses) (Some work)) (sym goes.move.objects)
          (not_due (is_due m t s.due) p.objects q.history.items (task_at m t q.managers) (pending_of p.objects m t s.courses) (Some work) free goes.holds)))
          (λ k w differ.
          subst (λ (x : Option Work). HoldsUnlessDue (is_due k w s.due) q.objects q.history.items (task_at k w q.managers) (pending_of q.objects k w s.courses) x) (sym (work_other m t (Some work) s.works k w differ))
          (subst (λ (o : Registry). HoldsUnlessDue (is_due k w s.due) q.objects q.history.items (task_at k w q.managers) (pending_of o k w s.courses) (work_of k w s.works)) (sym goes.move.objects)
          (other_unless (is_due k w s.due) m t k w p q (pending_of p.objects k w s.courses) (work_of k w s.works) goes.move goes.history differ
          (λ added. hand_apart s m t k w added.unit (work_of k w s.works) sound l differ added.holds (sound.hands k w)) (fits.tasks k w))));
      none = λ k. ap (λ (o : Registry). pending_of o k task.System s.courses) goes.move.objects ∙ fits.none k;
      left_out = all_more (LeavesOut p) (LeavesOut q) s.courses (λ c. leaves_out_stays m t p q c goes.move.frame goes.history) fits.left_out;
      cut_off = fits.cut_off;
      cut = λ u is. cut_stays s (record s { parts = q; works = works }) u more.0 (grown_self s.courses) goes.move.objects more.1 (fits.cut u is);
      once = λ u.
          let counted = counted_with (commits_now u) m t (Some work) s.works sound.forty in
          let was = ap one_if (same u) in
          let rest = goes.counts u in
          let law = fits.once u in
          omega (arith, counted, was, rest, law);
      inside = goes.move.inside fits.inside;
      told = goes.move.told (is_told_of fits.cut_off q) (λ u k holds. held_told a b m t fits.cut_off p q u k sound.steady goes.move.lives holds)
          (told_more_by (is_told_of fits.cut_off p) (is_told_of fits.cut_off q) p (told_goes a b m t fits.cut_off p q sound.steady goes.move.lives goes.history) fits.told);
      timed = all_timed (length p.history.items) (length q.history.items) s.courses (longer p.history.items q.history.items more.0 more.1) fits.timed;
      given = λ k within. given_stays m t p q (1 + sum_by (starts_in k) s.courses) k goes.move.frame (fits.given k) within;
      systems = λ k. let own = fits.systems k in record {
        answers = systems_stay k p q s.tallies.rows s.tallies.rows (peer_of k s.peers).answers (goes_for k m t p q s.tallies.rows goes.move.frame goes.move.lives) own.answers;
        given_up = own.given_up;
        timed = timed_more 0 (length p.history.items) (length q.history.items) (peer_of k s.peers).answers (longer p.history.items q.history.items more.0 more.1) own.timed;
      };
    }

-- ---- a request is answered

-- the pending operations of a task whose course has an answer more
pub own_pending : (objects : Registry) (m : Member) (t : TaskNo) (d : Directive) (a : Answer) (c : Course) (cs : List Course) → IsNextOf (actor.Task m t) d c cs
    → pending_of objects m t (answered (actor.Task m t) a cs) ≡ pending_after objects (pending_of objects m t cs) (request_of d) a.reply
own_pending objects m t d a c cs is =
    ap (pending_in objects) (answered_own (actor.Task m t) a cs c is.course)
    ∙ pending_more objects c d a is.next
    ∙ (λ i. pending_after objects (pending_in objects (sym is.course i)) (requested (course_is (actor.Task m t) cs c is.course i) d) a.reply)

-- those of another one
pub other_pending : (objects : Registry) (m : Member) (t : TaskNo) (k : Member) (w : TaskNo) (a : Answer) (cs : List Course) → IsOther m t k w → pending_of objects k w (answered (actor.Task m t) a cs) ≡ pending_of objects k w cs
other_pending objects m t k w a cs differ = ap (pending_in objects) (answered_apart (actor.Task m t) (actor.Task k w) a cs (tasks_apart m t k w differ))

-- a directive that asks for a request asks for a work
asked_work : (who : Actor) (d : Directive) (asks_for : Request) → requested who d ≡ Some asks_for → (m : Member) × (t : TaskNo) × (asked who d ≡ asks.Work m t)
asked_work (actor.Task m t) (directive.Put queue body priority persistent msg_id correl_id) r is = (m, t, refl)
asked_work (actor.Task m t) (directive.Get queue msg_id correl_id) r is = (m, t, refl)
asked_work (actor.Task m t) directive.Commit r is = (m, t, refl)
asked_work (actor.Task m t) directive.Backout r is = (m, t, refl)
asked_work (actor.Task m t) other r is = absurd (none-some r is)
asked_work actor.Operator d r is = absurd (none-some r is)

-- and so starts no member
pub starts_none : (k : Member) (who : Actor) (d : Directive) (r : Reply) (asks_for : Request) → requested who d ≡ Some asks_for → starts k (asked who d) r ≡ false
starts_none k who d r asks_for is = let work = asked_work who d asks_for is in ap (λ (x : Asked). starts k x r) work.2

-- a request that was answered otherwise than by 2009 ended so
ends_whole : (broken : Bool) (objects : Registry) (h : List Item) (ops : List (StructNo × Op)) (at : ℕ) (asks_for : Request) (r : Reply) → broken ≡ false → EndsRequest objects h ops at asks_for r → EndsUnlessBroken broken objects h ops at asks_for r
ends_whole true objects h ops at asks_for r whole ends = tt
ends_whole false objects h ops at asks_for r whole ends = ends

pub answered_fitting : (m : Member) (t : TaskNo) (d : Directive) (before : Work) (r : Reply) (c : Course) (q : Owned) (s : State) → IsSound s → IsLawful s.parts → AreFitting s → is_due m t s.due ≡ false → (task_number t ≡ 0 → ⊥) → IsNextOf (actor.Task m t) d c s.courses
    → IsTaken m t d (pending_of s.parts.objects m t s.courses) before s → Answered m t (pending_of s.parts.objects m t s.courses) before r s.parts q
    → AreFitting (record s { parts = q; works = with_work m t None s.works; courses = answered (actor.Task m t) (answer_to d r s) s.courses })
answered_fitting m t d before r c q s sound l fits free own_task is taken done =
    let p = s.parts in
    let who = actor.Task m t in
    let a = answer_to d r s in
    let cs = answered who a s.courses in
    let works = with_work m t None s.works in
    let ops = pending_of p.objects m t s.courses in
    let goes : GoesOn m t p q = inl done.history in
    let more = history_goes m t p q goes in
    let x = answers_given s.courses in
    let y = in_progress s.works in
    let ends : EndsAsked p.objects p.history.items (pending p.objects c) (asked who d) a (request_of d) =
    subst (λ (z : Option Request). EndsAsked p.objects p.history.items (pending p.objects c) (asked who d) a z) (sym taken.asked)
    (subst (λ (z : Option Course). EndsAsked p.objects p.history.items (pending_in p.objects z) (asked who d) a (Some (request_in before))) is.course
    (ends_whole (is_broken r) p.objects p.history.items ops (length p.history.items) (request_in before) r done.whole done.ends)) in
    let own : (task_at m t q.managers).ops ≡ pending_of p.objects m t cs =
    done.holds ∙ ap (λ (z : Option Request). pending_after p.objects ops z r) (sym taken.asked) ∙ sym (own_pending p.objects m t d a c s.courses is) in
    record {
      answers = all_more (FitsCourse p.objects p.history.items) (FitsCourse q.objects q.history.items) cs (λ z. course_stays m t p q z done.move.objects goes) (fits_answered p.objects p.history.items who d a c s.courses is fits.answers ends);
      tasks = by_hand (λ k w. HoldsUnlessDue (is_due k w s.due) q.objects q.history.items (task_at k w q.managers) (pending_of q.objects k w cs) (work_of k w works)) m t
          (subst (λ (z : Option Work). HoldsUnlessDue (is_due m t s.due) q.objects q.history.items (task_at m t q.managers) (pending_of q.objects m t cs) z) (sym (work_same m t None s.works sound.forty))
          (not_due (is_due m t s.due) q.objects q.history.items (task_at m t q.managers) (pending_of q.objects m t cs) None free
          (subst (λ (o : Registry). (task_at m t q.managers).ops ≡ pending_of o m t cs) (sym done.move.objects) own)))
          (λ k w differ.
          subst (λ (z : Option Work). HoldsUnlessDue (is_due k w s.due) q.objects q.history.items (task_at k w q.managers) (pending_of q.objects k w cs) z) (sym (work_other m t None s.works k w differ))
          (subst (λ (o : Registry). HoldsUnlessDue (is_due k w s.due) q.objects q.history.items (task_at k w q.managers) (pending_of o k w cs) (work_of k w s.works)) (sym done.move.objects)
          (subst (λ (z : List (StructNo × Op)). HoldsUnlessDue (is_due k w s.due) q.objects q.history.items (task_at k w q.managers) z (work_of k w s.works)) (sym (other_pending p.objects m t k w a s.courses differ))
          (other_unless (is_due k w s.due) m t k w p q (pending_of p.objects k w s.courses) (work_of k w s.works) done.move goes differ
          (λ added. hand_apart s m t k w added.unit (work_of k w s.works) sound l differ added.holds (sound.hands k w)) (fits.tasks k w)))));
      none = λ k. ap (λ (o : Registry). pending_of o k task.System cs) done.move.objects ∙ other_pending p.objects m t k task.System a s.courses (λ e f. own_task (sym f)) ∙ fits.none k;
      left_out = out_answered q who d a c s.courses is
          (all_more (LeavesOut p) (LeavesOut q) s.courses (λ z. leaves_out_stays m t p q z done.move.frame goes) fits.left_out)
          (subst (λ (z : Option Request). StaysOut q z r) (sym taken.asked) done.out);
      cut_off = fits.cut_off;
      cut = λ u cut. cut_stays s (record s { parts = q; works = works; courses = cs }) u more.0 (grown_answered who a s.courses) done.move.objects more.1 (fits.cut u cut);
      once = λ u.
          let counted = counted_with (commits_now u) m t None s.works sound.forty in
          let told_more = commits_answered u who d a c s.courses is in
          let told = ap one_if (ap (λ (z : Option Request). commits u z r) taken.asked ∙ done.counts u ∙ sym (taken.commits u)) in
          let same = ap (λ (h : List Item). named_in u h) done.history in
          let law = fits.once u in
          omega (arith, counted, told_more, told, same, law);
      inside = done.move.inside fits.inside;
      told = done.move.told (is_told_of fits.cut_off q) (λ u k holds. held_told x y m t fits.cut_off p q u k sound.steady done.move.lives holds)
          (told_more_by (is_told_of fits.cut_off p) (is_told_of fits.cut_off q) p (told_goes x y m t fits.cut_off p q sound.steady done.move.lives goes) fits.told);
      timed = timed_answered (length p.history.items) (length q.history.items) who a s.courses refl (longer p.history.items q.history.items more.0 more.1) fits.timed;
      given = λ k within.
          let none = ap one_if (starts_none k who d r (request_in before) taken.asked) in
          let told_more = starts_answered k who d a c s.courses is in
          let old = given_stays m t p q (1 + sum_by (starts_in k) s.courses) k done.move.frame (fits.given k) within in
          omega (arith, none, told_more, old);
      systems = λ k. let own = fits.systems k in record {
        answers = systems_stay k p q s.tallies.rows s.tallies.rows (peer_of k s.peers).answers (goes_for k m t p q s.tallies.rows done.move.frame done.move.lives) own.answers;
        given_up = own.given_up;
        timed = timed_more 0 (length p.history.items) (length q.history.items) (peer_of k s.peers).answers (longer p.history.items q.history.items more.0 more.1) own.timed;
      };
    }

-- ---- what leaves all tasks as they stood

-- Definitions, the history and all tasks are as they were, names that were drawn stay so, no incarnation failed, and marks
-- only came off.
pub record IsBeside (p q : Owned) : Type 0 where
  pub objects : q.objects ≡ p.objects
  pub history : q.history.items ≡ p.history.items
  pub tasks : (k : Member) (w : TaskNo) → task_at k w q.managers ≡ task_at k w p.managers
  pub drawn : (u : UnitName) → IsDrawn u (seat_of (manager_in u.member p.managers)) → IsDrawn u (seat_of (manager_in u.member q.managers))
  pub failed : (k : Member) (i : Incarnation) → is_unresolved k i q.repo ≡ true → is_unresolved k i p.repo ≡ true
  pub inside : AllByRecursion AreInside p.structures → AllByRecursion AreInside q.structures
  pub told : (is_told : IsTelling) → AreToldBy is_told p → AreToldBy is_told q

-- courses have more answers, which fit
pub record IsCarried (objects : Registry) (h : List Item) (p : Owned) (cs ds : List Course) : Type 0 where
  pub fits : AllByRecursion (FitsCourse objects h) cs → AllByRecursion (FitsCourse objects h) ds
  pub out : AllByRecursion (LeavesOut p) cs → AllByRecursion (LeavesOut p) ds
  pub commits : (u : UnitName) → sum_by (commits_in u) ds ≡ sum_by (commits_in u) cs
  pub timed : (n : ℕ) → n ≡ length h → AllByRecursion (λ (c : Course). AreTimed 0 n c.answers) cs → AllByRecursion (λ (c : Course). AreTimed 0 n c.answers) ds
  pub grown : HaveGrown cs ds

pub carried_self : (objects : Registry) (h : List Item) (p : Owned) (cs : List Course) → IsCarried objects h p cs cs
carried_self objects h p cs = record { fits = λ each. each; out = λ each. each; commits = λ u. refl; timed = λ n is each. each; grown = grown_self cs }

pub carried_more : (objects : Registry) (h : List Item) (p : Owned) (cs ds es : List Course) → IsCarried objects h p cs ds → IsCarried objects h p ds es → IsCarried objects h p cs es
carried_more objects h p cs ds es first then = record {
  fits = λ each. then.fits (first.fits each);
  out = λ each. then.out (first.out each);
  commits = λ u. then.commits u ∙ first.commits u;
  timed = λ n is each. then.timed n is (first.timed n is each);
  grown = grown_more cs ds es first.grown then.grown;
}

pub carried_answer : (objects : Registry) (h : List Item) (p : Owned) (who : Actor) (d : Directive) (a : Answer) (c : Course) (cs : List Course) → IsNextOf who d c cs → a.at ≡ length h → EndsAsked objects h (pending objects c) (asked who d) a (requested who d)
    → StaysOut p (requested who d) a.reply → ((u : UnitName) → commits u (requested who d) a.reply ≡ false) → IsCarried objects h p cs (answered who a cs)
carried_answer objects h p who d a c cs is now ends out none = record {
  fits = λ each. fits_answered objects h who d a c cs is each ends;
  out = λ each. out_answered p who d a c cs is each out;
  commits = λ u. let more = commits_answered u who d a c cs is in let zero = ap one_if (none u) in omega (arith, more, zero);
  timed = λ n same each. timed_answered n n who a cs (now ∙ sym same) (omega arith) each;
  grown = grown_answered who a cs;
}

-- an answer without a request leaves what is pending
pub pending_stays : (objects : Registry) (who : Actor) (d : Directive) (a : Answer) (c : Course) (cs : List Course) (k : Member) (w : TaskNo) → IsNextOf who d c cs → requested who d ≡ None → pending_of objects k w (answered who a cs) ≡ pending_of objects k w cs
pending_stays objects (actor.Task m t) d a c cs k w is none =
    by_hand (λ x y. pending_of objects x y (answered (actor.Task m t) a cs) ≡ pending_of objects x y cs) m t
    (own_pending objects m t d a c cs is ∙ ap (λ (x : Option Request). pending_after objects (pending_of objects m t cs) x a.reply) none ∙ pending_kept objects (pending_of objects m t cs) a.reply)
    (λ x y differ. other_pending objects m t x y a cs differ) k w
pending_stays objects actor.Operator d a c cs k w is none = ap (pending_in objects) (answered_apart actor.Operator (actor.Task k w) a cs (operator_apart k w))

pub carried_other : (objects : Registry) (h : List Item) (p : Owned) (who : Actor) (d : Directive) (a : Answer) (c : Course) (cs : List Course) → IsNextOf who d c cs → a.at ≡ length h → requested who d ≡ None → EndsOther (asked who d) a.reply → IsCarried objects h p cs (answered who a cs)
carried_other objects h p who d a c cs is now none ends =
    carried_answer objects h p who d a c cs is now (subst (EndsAsked objects h (pending objects c) (asked who d) a) (sym none) ends) (subst (λ (x : Option Request). StaysOut p x a.reply) (sym none) tt)
    (λ u. ap (λ (x : Option Request). commits u x a.reply) none)

pub beside_holds : (due : Bool) (objects obs : Registry) (h : List Item) (i : List Item) (task other : Task) (ops more : List (StructNo × Op)) (work : Option Work) → obs ≡ objects → i ≡ h → other ≡ task → more ≡ ops → HoldsUnlessDue due objects h task ops work → HoldsUnlessDue due obs i other more work
beside_holds due objects obs h i task other ops more work one two three four holds =
    subst (λ x. HoldsUnlessDue due x i other more work) (sym one) (subst (λ x. HoldsUnlessDue due objects x other more work) (sym two)
    (subst (λ x. HoldsUnlessDue due objects h x more work) (sym three) (subst (λ x. HoldsUnlessDue due objects h task x work) (sym four) holds)))

pub beside_out : (p q : Owned) (c : Course) → IsBeside p q → LeavesOut p c → LeavesOut q c
beside_out p q c b each = told_out p q c.actor (told c) (λ u out. record {
  out = ap (is_unit u) b.history ∙ out.out;
  drawn = b.drawn u out.drawn;
  unheld = λ k w has. out.unheld k w (ap (λ (z : Task). z.unit) (sym (b.tasks k w)) ∙ has);
}) each

pub moved_fits : (s : State) (q : Owned) (cs : List Course) (starting : Option StartWork) (peers : List Peer) (tallies : Tallied) → AreFitting s → IsBeside s.parts q → IsCarried s.parts.objects s.parts.history.items q s.courses cs
    → ((k : Member) (w : TaskNo) → pending_of s.parts.objects k w cs ≡ pending_of s.parts.objects k w s.courses)
    → ((k : Member) → member_number k ≤ length q.managers → (manager_in k q.managers).incarnation.number ≡ 1 + sum_by (starts_in k) cs)
    → AreSystemsFitting (record s { parts = q; courses = cs; starting = starting; peers = peers; tallies = tallies })
    → AreFitting (record s { parts = q; courses = cs; starting = starting; peers = peers; tallies = tallies })
moved_fits s q cs starting peers tallies fits b carried pendings given systems =
    let p = s.parts in
    record {
      answers = subst (λ (o : Registry). AllByRecursion (FitsCourse o q.history.items) cs) (sym b.objects) (subst (λ (h : List Item). AllByRecursion (FitsCourse p.objects h) cs) (sym b.history) (carried.fits fits.answers));
      tasks = λ k w. beside_holds (is_due k w s.due) p.objects q.objects p.history.items q.history.items (task_at k w p.managers) (task_at k w q.managers) (pending_of p.objects k w s.courses) (pending_of q.objects k w cs) (work_of k w s.works)
          b.objects b.history (b.tasks k w) (ap (λ (o : Registry). pending_of o k w cs) b.objects ∙ pendings k w) (fits.tasks k w);
      none = λ k. ap (λ (o : Registry). pending_of o k task.System cs) b.objects ∙ pendings k task.System ∙ fits.none k;
      left_out = carried.out (all_more (LeavesOut p) (LeavesOut q) s.courses (λ c. beside_out p q c b) fits.left_out);
      cut_off = fits.cut_off;
      cut = λ u is. cut_stays s (record s { parts = q; courses = cs; starting = starting; peers = peers; tallies = tallies }) u [] carried.grown b.objects (b.history ∙ sym (append-nil p.history.items)) (fits.cut u is);
      once = λ u. let same = ap (λ (h : List Item). named_in u h) b.history in let sums = carried.commits u in let law = fits.once u in omega (arith, same, sums, law);
      inside = b.inside fits.inside;
      told = b.told (is_told_of fits.cut_off q) (told_more_by (is_told_of fits.cut_off p) (is_told_of fits.cut_off q) p
          (λ k u. is_told_more fits.cut_off fits.cut_off p q k u [] (b.failed u.member u.incarnation) (λ failed named. ap (is_unit u) (sym b.history) ∙ named) (λ is. is) (b.history ∙ sym (append-nil p.history.items))) fits.told);
      timed = carried.timed (length q.history.items) (ap length b.history) (subst (λ n. AllByRecursion (λ (c : Course). AreTimed 0 n c.answers) s.courses) (sym (ap length b.history)) fits.timed);
      given = given;
      systems = systems;
    }
