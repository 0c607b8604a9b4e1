-- the end of a member keeps the group sound
use Rattle.std.proofs.Common.{◌≡◌, ℕ, ◌-◌, ◌≤◌, ◌<◌, List, length, true, false, Option, Some, None, sym, ap, subst, ◌∙◌, arith, length-set}
use Rattle.std.specs.Prelude.{IfSome}
use Rattle.std.specs.List.{AllByRecursion}
use Rattle.std.proofs.lemmas.List.{length-map}
use Rattle.qsg_num.specs.declared.seats.Member.{Member}
use Rattle.qsg_num.specs.declared.seats.TaskNo.{TaskNo}
use Rattle.qsg_num.specs.declared.seats.TaskNo.TheVariants as task
use Rattle.qsg_num.specs.declared.ids.Actor.TheVariants as actor
use Rattle.qsg_num.specs.Seats.{member_number}
use Rattle.qsg_objects.specs.Registry.{Registry}
use Rattle.qsg_lists.specs.declared.parts.Entry.{Entry}
use Rattle.qsg_lists.specs.Entries.{AreInOrder}
use Rattle.qsg_lists.specs.Structures.{ListStructure}
use Rattle.qsg_repo.specs.Lives.{failed_life}
use Rattle.qsg_repo.specs.Tables.{low_of}
use Rattle.qsg_agenda.specs.Courses.{Course, next_of}
use Rattle.qsg_group.specs.declared.tasks.Task.{Task}
use Rattle.qsg_group.specs.Group.{idle}
use Rattle.qsg_logs.specs.Held.{is_open}
use Rattle.qsg_logs.specs.Kept.{log_in}
use Rattle.qsg_manager.specs.declared.managers.Manager.{Manager}
use Rattle.qsg_manager.specs.Facilities.{structure_in}
use Rattle.qsg_manager.specs.Seats.{with_down}
use Rattle.qsg_manager.specs.Storage.{task_in, manager_in, task_at}
use Rattle.qsg_parts.specs.Owned.{Owned, HasMember}
use Rattle.qsg_steady.specs.Steady.{IsSteady}
use Rattle.qsg_steady.proofs.Committing.{counts_steady}
use Rattle.qsg_steady.proofs.Gives.{member_has}
use Rattle.qsg_steady.proofs.Moving.{by_member}
use Rattle.qsg_steady.proofs.Places.{log_other}
use Rattle.qsg_works.specs.declared.work.Work.{Work}
use Rattle.qsg_works.specs.InHand.{work_of}
use Rattle.qsg_fit.specs.Outcomes.{IsPlaced}
use Rattle.qsg_crash.specs.Crashes.{IsCrash}
use Rattle.qsg_start.specs.Works.{Work as StartWork}
use Rattle.qsg_peer.specs.Sweeping.{AreOrdered}
use Rattle.qsg_peers.specs.Peers.{ended_peer, peer_of}
use Rattle.qsg_lives.proofs.Crashing.{crash_steady}
use Rattle.qsg_lives.proofs.Downing.{idle_in, down_here, down_other, down_length}
use Rattle.qsg_lives.proofs.Spared.{crash_spares}
use Rattle.qsg_step.specs.States.{State, is_due, is_member_up}
use Rattle.qsg_step.specs.Ends.{ended, IsEnd}
use Rattle.qsg_sound.specs.Sound.{answers_given, in_progress, IsCourseWithin, IsHand, IsSound, AreTypesKept}
use Rattle.qsg_sound.specs.Systems.{IsStarting}
use Rattle.qsg_sound.proofs.Breaking.{HasNext, AreAsked, break_off}
use Rattle.qsg_sound.proofs.Dues.{after_length, after_other}
use Rattle.qsg_sound.proofs.Keeping.{sound_kept}
use Rattle.qsg_sound.proofs.Spared.{hand_spared}
use Rattle.qsg_sound.proofs.Standing.{AreSystemsSound, ups_apart, left_by, starting_kept}

hand_asked : (k : Member) (w : TaskNo) (work : Work) (held : Option Work) (cs : List Course) (p : Owned) → held ≡ Some work → IsHand k w held cs p → HasNext k w cs
hand_asked k w work held cs p is hand = let h = subst (λ (x : Option Work). IsHand k w x cs p) is hand in record { directive = h.asked.directive; next = h.asked.next }

-- each request in progress is that of a directive
pub sound_asked : (s : State) → IsSound s → AreAsked (length s.parts.managers) s.courses s.works
sound_asked s sound = record {
  kept = sound_kept s sound;
  forty = sound.forty;
  asked = λ k w work is. hand_asked k w work (work_of k w s.works) s.courses s.parts is (sound.hands k w);
}

-- ---- what a crash leaves

managers_after : (m : Member) (p q : Owned) → IsCrash m p q → q.managers ≡ with_down m p.managers
managers_after m p q crash = ap (λ (x : Owned). x.managers) crash.parts

members_after : (m : Member) (p q : Owned) → IsCrash m p q → length q.managers ≡ length p.managers
members_after m p q crash = ap (λ (ms : List Manager). length ms) (managers_after m p q crash) ∙ down_length m p.managers

other_after : (m k : Member) (p q : Owned) → IsCrash m p q → (member_number k ≡ member_number m → ⊥) → manager_in k q.managers ≡ manager_in k p.managers
other_after m k p q crash differ = ap (λ (ms : List Manager). manager_in k ms) (managers_after m p q crash) ∙ down_other m k p.managers differ

task_after : (m : Member) (w : TaskNo) (p q : Owned) → HasMember m p → IsCrash m p q → task_at m w q.managers ≡ idle
task_after m w p q has crash =
    ap (λ (ms : List Manager). task_at m w ms) (managers_after m p q crash) ∙ ap (λ (x : Manager). task_in w x.tasks) (down_here m p.managers has.manager) ∙ idle_in w

log_after : (m k : Member) (p q : Owned) → IsCrash m p q → (member_number k ≡ member_number m → ⊥) → log_in k q.logs ≡ log_in k p.logs
log_after m k p q crash differ = ap (λ (x : Owned). log_in k x.logs) crash.parts ∙ log_other m k (log_in m q.logs) p.logs differ

lives_after : (m : Member) (p q : Owned) → IsCrash m p q → length q.repo.lives ≡ length p.repo.lives
lives_after m p q crash = ap (λ (x : Owned). length x.repo.lives) crash.parts ∙ length-map p.repo.lives (failed_life m (manager_in m p.managers).incarnation)

pub structures_ordered : (p q : Owned) → q.structures ≡ p.structures → AreOrdered p → AreOrdered q
structures_ordered p q same are = record {
  ordered = λ s. subst (λ (l : List ListStructure). AreInOrder (structure_in s l).entries) (sym same) (are.ordered s);
  above = λ s. subst (λ (l : List ListStructure). AllByRecursion (λ (e : Entry). 0 < e.id.number) (structure_in s l).entries) (sym same) (are.above s);
}

-- ---- the state

start_after : (m : Member) (q : Owned) (s : State) (a b : ℕ) → is_member_up m s ≡ true → IsCrash m s.parts q → IsSteady a b q → next_of actor.Operator (ended m q s).courses ≡ next_of actor.Operator s.courses
    → (o : Option StartWork) → IfSome o (λ w. IsStarting w s) → IfSome o (λ w. IsStarting w (ended m q s))
start_after m q s a b up crash steady next None is = tt
start_after m q s a b up crash steady next (Some w) is =
    let differ = ups_apart m w.member s up is.down in
    starting_kept w s (ended m q s) next (member_has a b q w.member steady (subst (λ (n : ℕ). member_number w.member ≤ n) (sym (members_after m s.parts q crash)) is.member.manager))
    (left_by w.member s.parts q (ap (λ (x : Manager). x.up) (other_after m w.member s.parts q crash differ)) (log_after m w.member s.parts q crash differ) (ap (λ (x : Owned). low_of w.member x.repo) crash.parts)) is

-- the operator's next directive stays the next
pub end_operator : (m : Member) (q : Owned) (s : State) → IsSound s → next_of actor.Operator (ended m q s).courses ≡ next_of actor.Operator s.courses
end_operator m q s sound = (break_off (length s.parts.managers) m (length s.parts.history.items) s.courses s.works (sound_asked s sound) (sound.systems m)).operator

ended_sound : (m : Member) (q : Owned) (s : State) → IsSound s → HasMember m s.parts → is_member_up m s ≡ true → IsCrash m s.parts q → AreTypesKept (ended m q s) → AreSystemsSound (ended m q s) → IsSound (ended m q s)
ended_sound m q s sound has up crash kept systems =
    let n = length s.parts.managers in
    let broken = break_off n m (length s.parts.history.items) s.courses s.works (sound_asked s sound) (sound.systems m) in
    let a = answers_given s.courses in
    let b = in_progress s.works in
    let c = answers_given (ended m q s).courses in
    let d = in_progress (ended m q s).works in
    let steady = crash_steady a b m s.parts q sound.steady has up crash in
    let after : IsSteady c d q = counts_steady a b c d q (omega (arith, broken.counts, broken.fewer)) (omega (arith, broken.counts)) steady in
    let structures : q.structures ≡ s.parts.structures = ap (λ (x : Owned). x.structures) crash.parts in
    let objects : q.objects ≡ s.parts.objects = ap (λ (x : Owned). x.objects) crash.parts in
    record {
      right = broken.kept.right;
      within = subst (λ (k : ℕ). AllByRecursion (IsCourseWithin k) (ended m q s).courses) (sym (members_after m s.parts q crash)) broken.kept.within;
      answered = broken.kept.answered;
      few = broken.kept.few;
      forty = broken.forty;
      dues = after_length m s.works s.parts s.due ∙ sound.dues;
      eight = length-set s.peers (member_number m - 1) (ended_peer (peer_of m s.peers)) ∙ sound.eight;
      four = subst (λ (l : List ListStructure). length l ≤ 4) (sym structures) sound.four;
      steady = after;
      kept = kept;
      ordered = structures_ordered s.parts q structures sound.ordered;
      placed = λ name. subst (λ (o : Registry). IsPlaced name o) (sym objects) (sound.placed name);
      hands = by_member (λ k. (w : TaskNo) → IsHand k w (work_of k w (ended m q s).works) (ended m q s).courses q) m
          (λ w. subst (λ (x : Option Work). IsHand m w x (ended m q s).courses q) (sym (broken.gone w)) (λ there. ap (λ (x : Task). is_open x.stage) (task_after m w s.parts q has crash)))
          (λ k differ w. subst (λ (x : Option Work). IsHand k w x (ended m q s).courses q) (sym (broken.others k w differ))
          (hand_spared k w (work_of k w s.works) s.courses (ended m q s).courses s.parts q
          (record { objects = objects; up = ap (λ (x : Manager). x.up) (other_after m k s.parts q crash differ); stands = crash_spares m s.parts q crash k w differ })
          kept.logs (broken.next k w differ) (sound.hands k w)));
      systems = by_member (λ k. work_of k task.System (ended m q s).works ≡ None) m (broken.gone task.System) (λ k differ. broken.others k task.System differ ∙ sound.systems k);
      owed = by_member (λ k. (w : TaskNo) → is_due k w (ended m q s).due ≡ true → work_of k w (ended m q s).works ≡ None) m (λ w is. broken.gone w)
          (λ k differ w is. broken.others k w differ ∙ sound.owed k w (sym (after_other m s.works s.parts s.due k w differ) ∙ is));
      down = by_member (λ k. (w : TaskNo) → is_member_up k (ended m q s) ≡ false → work_of k w (ended m q s).works ≡ None) m (λ w is. broken.gone w)
          (λ k differ w is. broken.others k w differ ∙ sound.down k w (sym (ap (λ (x : Manager). x.up) (other_after m k s.parts q crash differ)) ∙ is));
      peers = systems.peers;
      starting = start_after m q s c d up crash after broken.operator s.starting sound.starting;
      starts = let lives = lives_after m s.parts q crash in let starts = ap (λ (x : Owned). x.repo.starts) crash.parts in omega (arith, broken.starts, sound.starts, lives, starts);
      tallies = systems.tallies;
    }

pub end_keeps : (m : Member) (s r : State) → IsSound s → HasMember m s.parts → is_member_up m s ≡ true → IsEnd m s r → AreTypesKept r → AreSystemsSound r → IsSound r
end_keeps m s r sound has up ends kept systems =
    subst IsSound (sym ends.after) (ended_sound m r.parts s sound has up ends.crash (subst AreTypesKept ends.after kept) (subst AreSystemsSound ends.after systems))
