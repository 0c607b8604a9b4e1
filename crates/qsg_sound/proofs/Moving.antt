-- a step of a work keeps the group sound
use Rattle.std.proofs.Common.{◌≡◌, ℕ, ◌+◌, ◌≤◌, List, length, true, false, Option, Some, None, refl, sym, ap, subst, ◌∙◌, arith, length-set, true≢false}
use Rattle.std.specs.List.{AllByRecursion}
use Rattle.qsg_num.specs.declared.seats.Member.{Member}
use Rattle.qsg_num.specs.declared.seats.TaskNo.{TaskNo}
use Rattle.qsg_num.specs.declared.seats.TaskNo.TheVariants as task
use Rattle.qsg_num.specs.declared.ids.Actor.TheVariants as actor
use Rattle.qsg_num.specs.Seats.{member_number, task_number}
use Rattle.qsg_objects.specs.declared.directives.Directive.{Directive}
use Rattle.qsg_objects.specs.Registry.{Registry}
use Rattle.qsg_repo.specs.declared.lives.Life.{Life}
use Rattle.qsg_requests.specs.declared.replies.Reply.{Reply}
use Rattle.qsg_agenda.specs.Courses.{Course, next_of, answered}
use Rattle.qsg_logs.specs.Held.{is_open}
use Rattle.qsg_manager.specs.Storage.{manager_in, task_at}
use Rattle.qsg_parts.specs.Owned.{Owned}
use Rattle.qsg_steady.specs.Standing.{Stand, IsOther}
use Rattle.qsg_steady.specs.Steady.{IsSteady}
use Rattle.qsg_works.specs.declared.work.Work.{Work}
use Rattle.qsg_works.specs.InHand.{place, work_of, with_work}
use Rattle.qsg_works.specs.Steps.{owner}
use Rattle.qsg_fit.specs.Fits.{member_of}
use Rattle.qsg_fit.specs.Outcomes.{IsPlaced}
use Rattle.qsg_fit.specs.Requests.{IsUndisturbed, GoesOn, IsAnswered}
use Rattle.qsg_peer.specs.Sweeping.{AreOrdered}
use Rattle.qsg_step.specs.States.{State, is_due, is_member_up}
use Rattle.qsg_step.specs.Steps.{answer_to, with_answer, with_hand}
use Rattle.qsg_sound.specs.Sound.{answers_given, in_progress, starts_left, request_in, IsCourseWithin, IsHand, IsSound, AreTypesKept}
use Rattle.qsg_sound.proofs.Answering.{one_more, next_apart, tasks_apart}
use Rattle.qsg_sound.proofs.Breaking.{task_apart}
use Rattle.qsg_sound.proofs.Fitting.{request_member}
use Rattle.qsg_sound.proofs.Hands.{by_hand, work_same, work_other, others_in, others_most, with_one}
use Rattle.qsg_sound.proofs.Keeping.{AreKept, sound_kept, kept_answered}
use Rattle.qsg_sound.proofs.Leaving.{LeavesOthers}
use Rattle.qsg_sound.proofs.Owning.{own_member, at_owner}
use Rattle.qsg_sound.proofs.Ready.{IsReady, few_begun}
use Rattle.qsg_sound.proofs.Spared.{IsSpared, hand_spared}
use Rattle.qsg_sound.proofs.Standing.{AreSystemsSound, starting_beside}
use Rattle.qsg_sound.proofs.Starts.{starts_fewer}

-- what a step of a task's work did to the group besides
record IsWorked (m : Member) (t : TaskNo) (hand : Option Work) (cs : List Course) (q : Owned) (s : State) : Type 0 where
  pub kept : AreKept (length s.parts.managers) cs
  pub steady : IsSteady (answers_given cs) (in_progress (with_work m t hand s.works)) q
  pub left : IsUndisturbed m t s.parts q
  pub leaves : LeavesOthers m s.parts q
  pub ordered : AreOrdered q
  pub next : (k : Member) (w : TaskNo) → IsOther m t k w → next_of (actor.Task k w) cs ≡ next_of (actor.Task k w) s.courses
  pub operator : next_of actor.Operator cs ≡ next_of actor.Operator s.courses
  pub starts : starts_left cs ≤ starts_left s.courses
  pub own : IsHand m t hand cs q

-- the state that it left
abbrev after : Member → TaskNo → Option Work → List Course → Owned → State → State
after m t hand cs q s = record s { parts = q; works = with_work m t hand s.works; courses = cs }

other_spared : (m : Member) (t : TaskNo) (p q : Owned) (k : Member) (w : TaskNo) → IsUndisturbed m t p q → IsOther m t k w → IsSpared k w p q
other_spared m t p q k w left differ = record { objects = left.objects; up = left.ups k; stands = left.spares k w differ }

-- A step of a task's work, which left all other tasks undisturbed, keeps the group sound where the task's own hand is.
after_work : (m : Member) (t : TaskNo) (hand : Option Work) (cs : List Course) (q : Owned) (s : State) → IsSound s → is_member_up m s ≡ true → (task_number task.System ≡ task_number t → ⊥) → is_due m t s.due ≡ false
    → IsWorked m t hand cs q s → AreTypesKept (after m t hand cs q s) → AreSystemsSound (after m t hand cs q s) → IsSound (after m t hand cs q s)
after_work m t hand cs q s sound up not_system due step kept systems =
    let members = step.left.members in
    record {
      right = step.kept.right;
      within = subst (λ (n : ℕ). AllByRecursion (IsCourseWithin n) cs) (sym members) step.kept.within;
      answered = step.kept.answered;
      few = step.kept.few;
      forty = length-set s.works (place m t) hand ∙ sound.forty;
      dues = sound.dues;
      eight = sound.eight;
      four = subst (λ (n : ℕ). n ≤ 4) (sym (ap (λ (x : Stand). x.structures) (step.left.spares m task.System (λ e f. not_system f)))) sound.four;
      steady = step.steady;
      kept = kept;
      ordered = step.ordered;
      placed = λ name. subst (λ (o : Registry). IsPlaced name o) (sym step.left.objects) (sound.placed name);
      hands = by_hand (λ k w. IsHand k w (work_of k w (with_work m t hand s.works)) cs q) m t
          (subst (λ (x : Option Work). IsHand m t x cs q) (sym (work_same m t hand s.works sound.forty)) step.own)
          (λ k w differ. subst (λ (x : Option Work). IsHand k w x cs q) (sym (work_other m t hand s.works k w differ))
          (hand_spared k w (work_of k w s.works) s.courses cs s.parts q (other_spared m t s.parts q k w step.left differ) kept.logs (step.next k w differ) (sound.hands k w)));
      systems = λ k. work_other m t hand s.works k task.System (λ e f. not_system f) ∙ sound.systems k;
      owed = by_hand (λ k w. is_due k w s.due ≡ true → work_of k w (with_work m t hand s.works) ≡ None) m t
          (λ is. absurd (true≢false (sym is ∙ due)))
          (λ k w differ is. work_other m t hand s.works k w differ ∙ sound.owed k w is);
      down = by_hand (λ k w. (manager_in k q.managers).up ≡ false → work_of k w (with_work m t hand s.works) ≡ None) m t
          (λ is. absurd (true≢false (sym up ∙ sym (step.left.ups m) ∙ is)))
          (λ k w differ is. work_other m t hand s.works k w differ ∙ sound.down k w (sym (step.left.ups k) ∙ is));
      peers = systems.peers;
      starting = starting_beside m s (after m t hand cs q s) (answers_given cs) (in_progress (with_work m t hand s.works)) up step.operator step.left.ups step.leaves members step.steady s.starting sound.starting;
      starts = omega (arith, step.starts, sound.starts, ap (λ (l : List Life). length l) step.leaves.lives, step.leaves.starts);
      tallies = systems.tallies;
    }

-- so many requests were answered or are in progress, without that of the task
pub others_few : (m : Member) (t : TaskNo) (s : State) → IsSound s → answers_given s.courses + others_in m t s.works ≤ 2147483648
others_few m t s sound = let a = few_begun s sound in let b = others_most m t s.works sound.forty in omega (arith, a, b)

-- the request goes on: the work stays in the task's hand
pub goes_on : (m : Member) (t : TaskNo) (d : Directive) (before work : Work) (q : Owned) (s : State) → IsSound s → is_member_up m s ≡ true → (task_number task.System ≡ task_number t → ⊥) → is_due m t s.due ≡ false
    → IsReady m t d before s → next_of (actor.Task m t) s.courses ≡ Some d → owner work ≡ owner before → request_in work ≡ request_in before
    → GoesOn (answers_given s.courses) (others_in m t s.works) before work s.parts q → LeavesOthers (member_of before) s.parts q → AreOrdered q
    → AreTypesKept (with_hand m t (Some work) q s) → AreSystemsSound (with_hand m t (Some work) q s) → IsSound (with_hand m t (Some work) q s)
goes_on m t d before work q s sound up not_system due ready next own same goes leaves ordered kept systems =
    let a = answers_given s.courses in
    let there = (request_member before s.parts ready.fits).manager in
    let log : member_number (member_of before) ≤ length q.logs = omega (arith, there, goes.undisturbed.members, goes.steady.shape.logs) in
    after_work m t (Some work) s.courses q s sound up not_system due (record {
      kept = sound_kept s sound;
      steady = subst (λ (n : ℕ). IsSteady a n q) (sym (with_one m t work s.works sound.forty)) goes.steady;
      left = at_owner (λ k w. IsUndisturbed k w s.parts q) before m t ready.own goes.undisturbed;
      leaves = subst (λ k. LeavesOthers k s.parts q) (own_member before m t ready.own) leaves;
      ordered = ordered;
      next = λ k w differ. refl;
      operator = refl;
      starts = omega arith;
      own = record {
        own = own ∙ ready.own;
        begun = goes.begun;
        asked = record { directive = d; next = next; request = ready.request ∙ ap Some (sym same) };
        fits = goes.fits (kept.logs (member_of before) log);
      };
    }) kept systems

-- the request was answered: the task's hand is empty
pub ends : (m : Member) (t : TaskNo) (d : Directive) (reply : Reply) (before : Work) (q : Owned) (s : State) → IsSound s → is_member_up m s ≡ true → (task_number task.System ≡ task_number t → ⊥) → is_due m t s.due ≡ false
    → IsReady m t d before s → next_of (actor.Task m t) s.courses ≡ Some d
    → IsAnswered (answers_given s.courses) (others_in m t s.works) before s.parts q → LeavesOthers (member_of before) s.parts q → AreOrdered q
    → AreTypesKept (with_hand m t None q (with_answer (actor.Task m t) d reply s)) → AreSystemsSound (with_hand m t None q (with_answer (actor.Task m t) d reply s)) → IsSound (with_hand m t None q (with_answer (actor.Task m t) d reply s))
ends m t d reply before q s sound up not_system due ready next done leaves ordered kept systems =
    let who = actor.Task m t in
    let a = answer_to d reply s in
    let cs = answered who a s.courses in
    after_work m t None cs q s sound up not_system due (record {
      kept = kept_answered (length s.parts.managers) who a d s.courses (sound_kept s sound) next refl;
      steady = subst (λ (n : ℕ). IsSteady n (others_in m t s.works) q) (sym (one_more who a s.courses d next)) done.steady;
      left = at_owner (λ k w. IsUndisturbed k w s.parts q) before m t ready.own done.undisturbed;
      leaves = subst (λ k. LeavesOthers k s.parts q) (own_member before m t ready.own) leaves;
      ordered = ordered;
      next = λ k w differ. next_apart who (actor.Task k w) a s.courses (tasks_apart m t k w differ);
      operator = task_apart m t a s.courses;
      starts = starts_fewer who a s.courses d next;
      own = λ there. at_owner (λ k w. is_open (task_at k w q.managers).stage ≡ true) before m t ready.own done.free;
    }) kept systems
