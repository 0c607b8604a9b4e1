-- in a new group all answers fit
use Rattle.std.proofs.Common.{◌≡◌, ℕ, zero, suc, ◌-◌, ◌<◌, length, true≢false, List, [], ◌∷◌, get_or, Option, Some, None, refl, sym, ap, subst, ◌∙◌, arith, Bool, true, false, cond}
use Rattle.std.specs.Prelude.{slice_index_or, replicate, count_by, sum_by, fold, find}
use Rattle.std.specs.List.{zip, AllByRecursion}
use Rattle.std.proofs.lemmas.List.Sums.{sum_by-cons}
use Rattle.qsg_num.specs.declared.seats.Member.{Member}
use Rattle.qsg_num.specs.declared.seats.TaskNo.{TaskNo}
use Rattle.qsg_num.specs.declared.seats.TaskNo.TheVariants as number
use Rattle.qsg_num.specs.declared.ids.Actor.TheVariants as actor
use Rattle.qsg_num.specs.declared.ids.UnitName.{UnitName}
use Rattle.qsg_num.specs.Ids.{same_unit}
use Rattle.qsg_num.specs.Seats.{member_number, structure_number}
use Rattle.qsg_model.specs.declared.history.Item.{Item}
use Rattle.qsg_model.specs.History.{names}
use Rattle.qsg_lists.specs.Structures.{ListStructure}
use Rattle.qsg_objects.specs.Registry.{Registry}
use Rattle.qsg_agenda.specs.Courses.{Course, same_actor}
use Rattle.qsg_manager.specs.declared.managers.Manager.{Manager}
use Rattle.qsg_manager.specs.Storage.{task_in, no_manager, task_at}
use Rattle.qsg_parts.specs.Owned.{Owned}
use Rattle.qsg_steady.specs.Founding.{new_manager, IsNewStructure}
use Rattle.qsg_works.specs.declared.work.Work.{Work}
use Rattle.qsg_works.specs.InHand.{place, work_of}
use Rattle.qsg_manager.specs.Facilities.{no_structure}
use Rattle.qsg_steady.proofs.Places.{member_some}
use Rattle.qsg_peers.specs.Peers.{Peer, new_peer, peer_of}
use Rattle.qsg_step.specs.States.{State, is_due}
use Rattle.qsg_sound.specs.Founding.{IsUnanswered, IsNewState}
use Rattle.qsg_answered.specs.Telling.{with_answered, told, pending, pending_in, pending_of, commits_told, starts_told, starts_in}
use Rattle.qsg_answered.specs.Cutting.{is_told_of}
use Rattle.qsg_answered.specs.Timing.{AreTimed}
use Rattle.qsg_answered.specs.Systems.{FitsSystem, HasGivenUp}
use Rattle.qsg_answered.specs.Fits.{AllFit, FitsCourse, Holds, HoldsUnlessDue, StaysOutTold, LeavesOut, commits_in, commits_now, IsInside, AreInside, AreFitting}
use Rattle.qsg_answered.proofs.Courses.{all_more}
use Rattle.qsg_answered.proofs.Frames.{all_or, IsTelling, AllTold}
use Rattle.qsg_answered.proofs.Told.{none_told}

-- nothing is told of a course without answers
nothing_told : (c : Course) → IsUnanswered c → told c ≡ []
nothing_told c none = ap (zip c.directives) none ∙ none_told c.directives

fits_none : (objects : Registry) (h : List Item) (c : Course) → IsUnanswered c → FitsCourse objects h c
fits_none objects h c none = subst (AllFit objects h c.actor []) (sym (nothing_told c none)) tt

out_none : (p : Owned) (c : Course) → IsUnanswered c → LeavesOut p c
out_none p c none = subst (AllByRecursion (StaysOutTold p c.actor)) (sym (nothing_told c none)) tt

nothing_pending : (objects : Registry) (c : Course) → IsUnanswered c → pending objects c ≡ []
nothing_pending objects c none = ap (fold (with_answered objects c.actor) []) (nothing_told c none)

all_found : (P : Course → Type 0) (p : Course → Bool) (cs : List Course) → AllByRecursion P cs → (objects : Registry) → ((c : Course) → P c → pending objects c ≡ []) → pending_in objects (find p cs) ≡ []
all_found P p [] each objects none = refl
all_found P p (c ∷ cs) each objects none = by (p c) (all_found P p cs each.1 objects none)
  where
    by : (b : Bool) → pending_in objects (find p cs) ≡ [] → pending_in objects (cond b (Some c) (find p cs)) ≡ []
    by true rest = none c each.0
    by false rest = rest

no_commits : (u : UnitName) (c : Course) → IsUnanswered c → commits_in u c ≡ 0
no_commits u c none = ap (count_by (commits_told c.actor u)) (nothing_told c none)

none_commit : (u : UnitName) (cs : List Course) → AllByRecursion IsUnanswered cs → sum_by (commits_in u) cs ≡ 0
none_commit u [] each = refl
none_commit u (c ∷ cs) each = omega (arith, sum_by-cons (commits_in u) c cs, no_commits u c each.0, none_commit u cs each.1)

-- ---- nothing is in hand

none_in_hand : (n i : ℕ) → get_or {A = Option Work} (replicate n None) i None ≡ None
none_in_hand zero i = refl
none_in_hand (suc n) zero = refl
none_in_hand (suc n) (suc i) = none_in_hand n i

HasNoOps : Manager → Type 0
HasNoOps x = (t : TaskNo) → (task_in t x.tasks).ops ≡ []

new_none : (t : TaskNo) → (task_in t new_manager.tasks).ops ≡ []
new_none number.System = refl
new_none number.One = refl
new_none number.Two = refl
new_none number.Three = refl
new_none number.Four = refl

none_held : (xs : List Manager) → AllByRecursion (λ (x : Manager). x ≡ new_manager) xs → AllByRecursion HasNoOps xs
unfolding HasNoOps
none_held [] each = tt
none_held (x ∷ xs) each = (subst (λ (y : Manager). (t : TaskNo) → (task_in t y.tasks).ops ≡ []) (sym each.0) new_none, none_held xs each.1)

no_ops : (m : Member) (t : TaskNo) (ms : List Manager) → AllByRecursion (λ (x : Manager). x ≡ new_manager) ms → (task_at m t ms).ops ≡ []
unfolding HasNoOps
no_ops m t ms each = all_or HasNoOps ms (member_number m - 1) no_manager (none_held ms each) (λ w. refl) t

-- ---- no entry is there

none_inside : (ss : List ListStructure) → AllByRecursion IsNewStructure ss → AllByRecursion AreInside ss
none_inside [] each = tt
none_inside (x ∷ ss) each = (subst (AllByRecursion IsInside) (sym each.0.entries) tt, none_inside ss each.1)

-- nor is any put of an incarnation that failed
none_told_of : (is_told : IsTelling) (x : ℕ) (ss : List ListStructure) (i : ℕ) → AllByRecursion IsNewStructure ss → AllTold is_told x (slice_index_or ss i no_structure).entries
none_told_of is_told x [] i each = tt
none_told_of is_told x (y ∷ ss) zero each = subst (AllTold is_told x) (sym each.0.entries) tt
none_told_of is_told x (y ∷ ss) (suc i) each = none_told_of is_told x ss i each.1

-- ---- nobody was answered

timed_none : (n : ℕ) (c : Course) → IsUnanswered c → AreTimed 0 n c.answers
timed_none n c none = subst (AreTimed 0 n) (sym none) tt

no_starts : (k : Member) (c : Course) → IsUnanswered c → starts_in k c ≡ 0
no_starts k c none = ap (count_by (starts_told c.actor k)) (nothing_told c none)

none_start : (k : Member) (cs : List Course) → AllByRecursion IsUnanswered cs → sum_by (starts_in k) cs ≡ 0
none_start k [] each = refl
none_start k (c ∷ cs) each = omega (arith, sum_by-cons (starts_in k) c cs, no_starts k c each.0, none_start k cs each.1)

new_at : (ms : List Manager) (i : ℕ) → i < length ms → AllByRecursion (λ (x : Manager). x ≡ new_manager) ms → (slice_index_or ms i no_manager).incarnation.number ≡ 1
new_at [] i less each = absurd (omega (arith, less))
new_at (x ∷ ms) zero less each = ap (λ (z : Manager). z.incarnation.number) each.0
new_at (x ∷ ms) (suc i) less each = new_at ms i (omega (arith, less)) each.1

none_due : (n i : ℕ) → get_or (replicate n false) i false ≡ false
none_due zero i = refl
none_due (suc n) zero = refl
none_due (suc n) (suc i) = none_due n i

new_peers : (n i : ℕ) → get_or (replicate n new_peer) i new_peer ≡ new_peer
new_peers zero i = refl
new_peers (suc n) zero = refl
new_peers (suc n) (suc i) = new_peers n i

new_given_up : HasGivenUp new_peer
new_given_up = record { before = []; since = []; answers_are = refl; given_up_is = refl }

pub new_fits : (s : State) → IsNewState s → AreFitting s
new_fits s new =
    let objects = s.parts.objects in
    let h = s.parts.history.items in
    record {
      answers = all_more IsUnanswered (FitsCourse objects h) s.courses (fits_none objects h) new.unanswered;
      tasks = λ m t.
          subst (λ (b : Bool). HoldsUnlessDue b objects h (task_at m t s.parts.managers) (pending_of objects m t s.courses) (work_of m t s.works)) (sym (ap (is_due m t) new.due ∙ none_due 40 (place m t)))
          (subst (λ (x : Option Work). Holds objects h (task_at m t s.parts.managers) (pending_of objects m t s.courses) x)
          (sym (ap (work_of m t) new.works ∙ none_in_hand 40 (place m t)))
          (no_ops m t s.parts.managers new.parts.managers ∙ sym (all_found IsUnanswered (λ c. same_actor c.actor (actor.Task m t)) s.courses new.unanswered objects (nothing_pending objects))));
      none = λ m. all_found IsUnanswered (λ c. same_actor c.actor (actor.Task m number.System)) s.courses new.unanswered objects (nothing_pending objects);
      left_out = all_more IsUnanswered (LeavesOut s.parts) s.courses (out_none s.parts) new.unanswered;
      cut_off = λ u. false;
      cut = λ u is. absurd (true≢false (sym is));
      once = λ u.
          let none = none_commit u s.courses new.unanswered in
          let works : count_by (commits_now u) s.works ≡ 0 = ap (count_by (commits_now u)) new.works in
          let named : count_by (same_unit u) (names h) ≡ 0 = ap (λ l. count_by (same_unit u) (names l)) new.parts.history in
          omega (arith, none, works, named);
      inside = none_inside s.parts.structures new.parts.structures;
      told = λ x. none_told_of (is_told_of (λ u. false) s.parts) (structure_number x) s.parts.structures (structure_number x - 1) new.parts.structures;
      timed = all_more IsUnanswered (λ (c : Course). AreTimed 0 (length h) c.answers) s.courses (timed_none (length h)) new.unanswered;
      given = λ m within.
          let none = none_start m s.courses new.unanswered in
          let first = new_at s.parts.managers (member_number m - 1) (omega (arith, within, member_some m)) new.parts.managers in
          omega (arith, none, first);
      systems = λ m.
          let same : peer_of m s.peers ≡ new_peer = ap (peer_of m) new.peers ∙ new_peers 8 (member_number m - 1) in
          record {
            answers = subst (λ (x : Peer). AllByRecursion (FitsSystem m s.parts s.tallies.rows) x.answers) (sym same) tt;
            given_up = subst HasGivenUp (sym same) new_given_up;
            timed = subst (λ (x : Peer). AreTimed 0 (length h) x.answers) (sym same) tt;
          };
    }
