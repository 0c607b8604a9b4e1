-- the group of a plan that can be worked is new
use Rattle.std.proofs.Common.{◌≡◌, ◌≤◌, ◌<◌, ◌^◌, ℕ, true, List, length, replicate, take, refl, ap, sym, subst, ◌∙◌, arith}
use Rattle.std.specs.Prelude.{zero, suc}
use Rattle.std.proofs.lemmas.List.{length-replicate}
use Rattle.std.specs.List.{AllByRecursion}
use Rattle.qsg_objects.specs.declared.plans.Plan.{Plan}
use Rattle.qsg_objects.specs.Registry.{Registry}
use Rattle.qsg_num.specs.Seats.{member_number}
use Rattle.qsg_repo.specs.declared.lives.Life.{Life}
use Rattle.qsg_repo.specs.Lives.{is_up}
use Rattle.qsg_repo.specs.Tables.{Repository}
use Rattle.qsg_manager.specs.declared.managers.Manager.{Manager}
use Rattle.qsg_agenda.specs.Courses.{Course}
use Rattle.qsg_steady.specs.Steady.{IsListed}
use Rattle.qsg_steady.specs.Founding.{new_manager, IsNew, IsNewStructure}
use Rattle.qsg_peer.specs.Needs.{AreMembers}
use Rattle.qsg_tallies.specs.Tallies.{Tallied}
use Rattle.qsg_step.specs.States.{State, IsCourseRight}
use Rattle.qsg_fit.specs.Outcomes.{IsPlaced}
use Rattle.qsg_sound.specs.Founding.{IsUnanswered, IsNewState}
use Rattle.qsg_sound.specs.Sound.{directives_in, starts_left, IsCourseWithin, AreLogsKept, AreStructuresKept}
use Rattle.qsg_devices.specs.Shapes.{shapes_of}
use Rattle.qsg_sysplex.specs.Plans.{IsWorkable}
use Rattle.qsg_sysplex.specs.Starting.{all_members, starts_of, incarnations_of, recovering, new_repo, IsMade}
use Rattle.qsg_sysplex.proofs.NewLogs as logs
use Rattle.qsg_sysplex.proofs.NewSets as sets
use Rattle.qsg_sysplex.proofs.NewStructures as structures
use Rattle.qsg_sysplex.proofs.NewCourses as courses
use Rattle.qsg_sysplex.proofs.NewRepo.{IsUnfailed, all_unfailed, new_listed, new_lives, new_starts, all_ups, all_members_below}

all_same : (n : ℕ) → AllByRecursion (λ (x : Manager). x ≡ new_manager) (replicate n new_manager)
all_same zero = tt
all_same (suc n) = (refl, all_same n)

unfailed : (plan : Plan) → IsUnfailed (new_repo (length plan.members) plan.objects (incarnations_of (length plan.members) plan.works))
unfailed plan = all_unfailed (take (length plan.members) all_members) _ (record { unfailed = λ m i. refl; lows = refl; notes = refl; holds = refl })

new_parts : (plan : Plan) (s : State) → IsWorkable plan → length plan.objects.structures ≤ 4 → IsMade plan s → IsNew s.parts
new_parts plan s can few made =
    let managers : length s.parts.managers ≡ length plan.members = ap length made.managers ∙ length-replicate (length plan.members) new_manager in
    let each : length s.parts.logs ≡ length plan.members = logs.as_many plan.members s.parts.logs made.logs in
    let sized : length s.parts.structures ≡ length plan.sizes = ap length made.structures ∙ structures.as_many plan.sizes (omega (arith, can.sizes, few)) in
    let defined : length s.parts.objects.structures ≡ length plan.objects.structures = ap (λ (o : Registry). length o.structures) made.objects in
    let repo : IsUnfailed s.parts.repo = subst IsUnfailed (sym made.repo) (unfailed plan) in
    record {
      members = each ∙ sym managers;
      datasets = record {
        members = made.datasets.count ∙ sym managers;
        structures = λ m there. sets.as_many plan s.parts.datasets can made.datasets m (omega (arith, there, managers, made.datasets.count)) ∙ sym sized;
      };
      few = omega (arith, managers, can.few);
      defined = omega (arith, defined, sized, can.sizes);
      managers = subst (AllByRecursion (λ (x : Manager). x ≡ new_manager)) (sym made.managers) (all_same (length plan.members));
      logs = logs.all_new plan.members s.parts.logs can.logs made.logs;
      sets = sets.all_new (shapes_of plan.sizes plan.objects) s.parts.datasets made.datasets.each;
      structures = subst (AllByRecursion IsNewStructure) (sym made.structures) (structures.all_new plan.sizes);
      listed = λ m there. subst (IsListed m new_manager) (sym made.repo) (new_listed m (length plan.members) _ _ _ _ (omega (arith, managers, there)));
      unfailed = λ m i. repo.unfailed m (record { number = i });
      lows = repo.lows;
      notes = repo.notes;
      holds = repo.holds;
      history = made.history;
    }

-- as many managers as members, and at most four structures
managers_made : (plan : Plan) (s : State) → IsMade plan s → length s.parts.managers ≡ length plan.members
managers_made plan s made = ap length made.managers ∙ length-replicate (length plan.members) new_manager

four_made : (plan : Plan) (s : State) → IsWorkable plan → IsMade plan s → length s.parts.structures ≤ 4
four_made plan s can made = let sized = ap length made.structures ∙ structures.as_many plan.sizes can.four in omega (arith, sized, can.four)

lives_made : (plan : Plan) (s : State) → IsWorkable plan → IsMade plan s → length s.parts.repo.lives ≡ length plan.members
lives_made plan s can made = ap (λ (r : Repository). length r.lives) made.repo ∙ new_lives (length plan.members) (length plan.members) (length plan.objects.structures) (recovering plan.objects) (incarnations_of (length plan.members) plan.works) can.few

starts_made : (plan : Plan) (s : State) → IsMade plan s → s.parts.repo.starts ≡ incarnations_of (length plan.members) plan.works
starts_made plan s made = ap (λ (r : Repository). r.starts) made.repo ∙ new_starts (length plan.members) (length plan.members) (length plan.objects.structures) (recovering plan.objects) (incarnations_of (length plan.members) plan.works)

left_made : (plan : Plan) (s : State) → IsMade plan s → starts_left s.courses ≡ starts_of plan.works
left_made plan s made = ap starts_left made.courses ∙ courses.all_starts plan.works

limit_made : (plan : Plan) (s : State) → IsMade plan s → s.tallies.limit ≡ incarnations_of (length plan.members) plan.works
limit_made plan s made = ap (λ (t : Tallied). t.limit) made.tallies

within_made : (plan : Plan) (s : State) → IsWorkable plan → IsMade plan s → AllByRecursion (IsCourseWithin (length s.parts.managers)) s.courses
within_made plan s can made =
    subst (λ (n : ℕ). AllByRecursion (IsCourseWithin n) s.courses) (sym (managers_made plan s made))
    (subst (AllByRecursion (IsCourseWithin (length plan.members))) (sym made.courses) (courses.all_within (length plan.members) plan.works can.within))

-- each incarnation is up, and of a member whose log the group has
ups_made : (plan : Plan) (s : State) → IsMade plan s → AllByRecursion (λ (l : Life). is_up l.fate ≡ true) s.parts.repo.lives
ups_made plan s made =
    subst (λ (r : Repository). AllByRecursion (λ (l : Life). is_up l.fate ≡ true) r.lives) (sym made.repo)
    (all_ups (take (length plan.members) all_members) (length plan.members) (length plan.objects.structures) (recovering plan.objects) (incarnations_of (length plan.members) plan.works))

members_made : (plan : Plan) (s : State) → IsMade plan s → AreMembers s.parts
members_made plan s made =
    let each : length s.parts.logs ≡ length plan.members = logs.as_many plan.members s.parts.logs made.logs in
    subst (λ (r : Repository). AllByRecursion (λ (l : Life). member_number l.member ≤ length s.parts.logs) r.lives) (sym made.repo)
    (all_members_below (length s.parts.logs) (length plan.members) (length plan.members) (length plan.objects.structures) (recovering plan.objects) (incarnations_of (length plan.members) plan.works) (omega (arith, each)))

pub made_new : (plan : Plan) (s : State) → IsWorkable plan → length plan.objects.structures ≤ 4 → IsMade plan s → AreLogsKept s.parts → AreStructuresKept s.parts → IsNewState s
made_new plan s can few made kept sound =
    let managers = managers_made plan s made in
    let lives = lives_made plan s can made in
    let starts = starts_made plan s made in
    let left = left_made plan s made in
    let limit = limit_made plan s made in
    record {
      parts = new_parts plan s can few made;
      logs = kept;
      structures = sound;
      placed = λ name. subst (λ (o : Registry). IsPlaced name o) (sym made.objects) (courses.all_placed plan.objects can.queues name);
      right = subst (AllByRecursion IsCourseRight) (sym made.courses) (courses.all_right plan.works can.right);
      within = within_made plan s can made;
      unanswered = subst (AllByRecursion IsUnanswered) (sym made.courses) (courses.all_unanswered plan.works);
      few = subst (λ (cs : List Course). directives_in cs < 2 ^ 30) (sym made.courses) (subst (λ n. n < 2 ^ 30) (sym (courses.as_many plan.works)) can.directives);
      four = four_made plan s can made;
      works = made.works;
      due = made.due;
      peers = made.peers;
      starting = made.starting;
      lives = lives ∙ sym managers;
      members = members_made plan s made;
      ups = ups_made plan s made;
      starts = omega (arith, left, lives, starts);
      limit = omega (arith, starts, limit);
      untallied = ap (λ (t : Tallied). t.rows) made.tallies;
    }

-- a group has as many incarnations to come as its repository has room for
pub incarnations_fit : (plan : Plan) → IsWorkable plan → incarnations_of (length plan.members) plan.works < 2 ^ 32
incarnations_fit plan can = omega (arith, courses.few_starts plan.works, can.few, can.directives)
