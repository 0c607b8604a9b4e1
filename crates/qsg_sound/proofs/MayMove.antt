-- the next step of each actor of a sound group has what it needs
use Rattle.std.proofs.Common.{◌≡◌, ℕ, ◌+◌, ◌-◌, ◌<◌, ◌≤◌, List, [], ◌∷◌, length, Bool, true, false, Option, Some, None, Err, refl, sym, ap, subst, ◌∙◌, arith, cond}
use Rattle.std.specs.Prelude.{IsSome, is_some, not, ◌||◌, count_by}
use Rattle.std.specs.List.{list_any}
use Rattle.std.proofs.lemmas.Bool.{false≢true, and_parts}
use Rattle.std.proofs.lemmas.List.Sums.{sum_by-cons, count_by-le-length, get_or-le-sum_by}
use Rattle.std.proofs.lemmas.Option.{none-some, same_Some}
use Rattle.qsg_num.specs.declared.seats.Member.{Member}
use Rattle.qsg_num.specs.declared.seats.TaskNo.{TaskNo}
use Rattle.qsg_num.specs.declared.ids.Actor.{Actor}
use Rattle.qsg_num.specs.declared.ids.Actor.TheVariants as actor
use Rattle.qsg_num.specs.declared.ids.Incarnation.{Incarnation}
use Rattle.qsg_num.specs.Seats.{member_number}
use Rattle.qsg_objects.specs.declared.directives.Directive.{Directive}
use Rattle.qsg_objects.specs.declared.directives.Directive.TheVariants as directive
use Rattle.qsg_repo.specs.declared.lives.Life.{Life}
use Rattle.qsg_repo.specs.Lives.{is_life, is_up as is_up_fate}
use Rattle.qsg_requests.specs.declared.words.Request.{Request}
use Rattle.qsg_requests.specs.declared.words.Request.TheVariants as request
use Rattle.qsg_agenda.specs.Courses.{next_of}
use Rattle.qsg_directives.specs.Asking.{request_of}
use Rattle.qsg_commit.specs.declared.phases.StepError.TheVariants.{LogFailed}
use Rattle.qsg_logpage.specs.Log.{Hand}
use Rattle.qsg_logs.specs.Kept.{log_in}
use Rattle.qsg_manager.specs.Latches.{latch_of}
use Rattle.qsg_manager.specs.Storage.{no_manager, manager_in}
use Rattle.qsg_parts.specs.Owned.{Owned, HasMember}
use Rattle.qsg_steady.specs.Steady.{written_by, is_up_life, IsSteady}
use Rattle.qsg_steady.proofs.Gives.{member_has, latch_idle}
use Rattle.qsg_steady.proofs.Places.{member_some, written_one}
use Rattle.qsg_crash.specs.Crashes.{MayCrash}
use Rattle.qsg_start.specs.Needs.{MayStep as MayStepStart}
use Rattle.qsg_start.proofs.Needing.{may_step}
use Rattle.qsg_works.specs.declared.work.Work.{Work}
use Rattle.qsg_works.specs.declared.work.Work.TheVariants.{Put, Get, Commit}
use Rattle.qsg_works.specs.InHand.{work_of}
use Rattle.qsg_works.specs.Steps.{begun, NextWork}
use Rattle.qsg_fit.proofs.Requests.{failed_request_keeps}
use Rattle.qsg_step.specs.declared.asked.Asked.{Asked}
use Rattle.qsg_step.specs.declared.asked.Asked.TheVariants as asks
use Rattle.qsg_step.specs.Asking.{asked, IsOwn}
use Rattle.qsg_step.specs.Needs.{MayEnd, MayWork, MayAsk, MayMoveAs, MayMove}
use Rattle.qsg_step.specs.States.{State, is_member_up, is_up, IsWithin}
use Rattle.qsg_step.specs.Steps.{begun_if, in_hand_or, work_before, with_hand, start_before}
use Rattle.qsg_step.specs.Waiting.{system_of}
use Rattle.qsg_sound.specs.Sound.{answers_given, in_progress, IsHand, IsSound}
use Rattle.qsg_sound.specs.Tallying.{is_down}
use Rattle.qsg_sound.proofs.Asking.{asked_own, IsSaid, asked_said, up_unless, up_within}
use Rattle.qsg_sound.proofs.Hands.{others_in}
use Rattle.qsg_sound.proofs.PeerStep.{peer_may}
use Rattle.qsg_sound.proofs.Ready.{hand_ready, ready_may}
use Rattle.qsg_sound.proofs.StartStep.{start_member, start_has}
use Rattle.qsg_sound.proofs.Starts.{next_within, start_left}

-- ---- the end of a member

-- where a run is in hand, a task has the latch, and the history has room for its unit
pub may_crash : (a b : ℕ) (m : Member) (p : Owned) → IsSteady a b p → HasMember m p → MayCrash m p
may_crash a b m p s has = record { member = has; datasets = subst (λ (n : ℕ). member_number m ≤ n) (sym s.shape.datasets.members) has.manager; room = λ some. by (latch_of (manager_in m p.managers).tasks) refl some }
  where
    no_hand : (hand : Option Hand) → hand ≡ None → IsSome hand → ⊥
    no_hand hand none some = false≢true (sym (ap is_some none) ∙ some)

    by : (latch : Option TaskNo) → latch_of (manager_in m p.managers).tasks ≡ latch → IsSome (log_in m p.logs).writer.hand → 0 < p.history.room
    by None is some = absurd (no_hand (log_in m p.logs).writer.hand (latch_idle a b p m s has is) some)
    by (Some t) is some =
        let one = member_some m in
        let within = has.manager in
        let here = get_or-le-sum_by written_by p.managers (member_number m - 1) no_manager (omega (arith, one, within)) in
        let written = written_one (manager_in m p.managers) (ap is_some is) in
        omega (arith, here, written, s.room)

abbrev one_if : Bool → ℕ
one_if b = cond b 1 0

-- an incarnation that is up isn't down
one_up : (m : Member) (i : Incarnation) (lives : List Life) → list_any (is_up_life m i) lives ≡ true → count_by is_down lives < length lives
one_up m i [] up = absurd (false≢true up)
one_up m i (l ∷ lives) up = by (is_up_life m i l) refl up (λ rest. one_up m i lives rest)
  where
    at_most : (b : Bool) → one_if b ≤ 1
    at_most true = omega arith
    at_most false = omega arith

    by : (b : Bool) → is_up_life m i l ≡ b → (b || list_any (is_up_life m i) lives) ≡ true → (list_any (is_up_life m i) lives ≡ true → count_by is_down lives < length lives) → count_by is_down (l ∷ lives) < length (l ∷ lives)
    by true is up rest =
        let ups = (and_parts (is_life m i l) (is_up_fate l.fate) is).1 in
        let down : one_if (is_down l) ≡ 0 = ap (λ (b : Bool). one_if (not b)) ups in
        omega (arith, sum_by-cons (λ (x : Life). one_if (is_down x)) l lives, count_by-le-length is_down lives, down)
    by false is up rest = let h = rest up in let most = at_most (is_down l) in omega (arith, sum_by-cons (λ (x : Life). one_if (is_down x)) l lives, h, most)

-- there is room for the tally of a member that is up
pub tally_room : (m : Member) (s : State) → IsSound s → is_member_up m s ≡ true → member_number m ≤ length s.parts.managers → length s.tallies.rows < s.tallies.limit
tally_room m s sound up there =
    let few = one_up m (manager_in m s.parts.managers).incarnation s.parts.repo.lives ((sound.steady.listed m there).up up) in
    let rows = sound.tallies.rows in
    let room = sound.tallies.room in
    let starts = sound.starts in
    omega (arith, few, rows, room, starts)

pub may_end : (m : Member) (s : State) → IsSound s → is_member_up m s ≡ true → HasMember m s.parts → MayEnd m s
may_end m s sound up has = record { crash = may_crash (answers_given s.courses) (in_progress s.works) m s.parts sound.steady has; tally = tally_room m s sound up has.manager }

-- ---- a request

-- a task's directive that asks for a work has a request
abbrev HasRequest : Asked → Option Request → Type 0
HasRequest (asks.Work m t) request = IsSome request
HasRequest other request = Unit {0}

has_request : (who : Actor) (d : Directive) → HasRequest (asked who d) (request_of d)
has_request (actor.Task m t) (directive.Put queue body priority persistent msg_id correl_id) = refl
has_request (actor.Task m t) (directive.Get queue msg_id correl_id) = refl
has_request (actor.Task m t) directive.Commit = refl
has_request (actor.Task m t) directive.Backout = refl
has_request (actor.Task m t) other = tt
has_request actor.Operator (directive.Put queue body priority persistent msg_id correl_id) = tt
has_request actor.Operator other = tt

-- the log of a request fails in no first step
first_unfailing : (m : Member) (t : TaskNo) (r : Request) (p : Owned) (work : Work) (q : Owned) → NextWork (begun m t r) p (Err LogFailed) work q → ⊥
first_unfailing m t (request.Put words) p (Put work) q next = next
first_unfailing m t (request.Put words) p (Get work) q next = next
first_unfailing m t (request.Put words) p (Commit work) q next = next
first_unfailing m t (request.Get queue select) p (Put work) q next = next
first_unfailing m t (request.Get queue select) p (Get work) q next = next
first_unfailing m t (request.Get queue select) p (Commit work) q next = next
first_unfailing m t request.Commit p (Put work) q next = next
first_unfailing m t request.Commit p (Get work) q next = next
first_unfailing m t request.Commit p (Commit work) q next = next.next
first_unfailing m t request.Backout p (Put work) q next = next
first_unfailing m t request.Backout p (Get work) q next = next
first_unfailing m t request.Backout p (Commit work) q next = next.next

-- its member may end then
may_fail : (m : Member) (t : TaskNo) (d : Directive) (before : Work) (s : State) → IsSound s → is_member_up m s ≡ true → member_number m ≤ length s.parts.managers → next_of (actor.Task m t) s.courses ≡ Some d → work_before m t d s ≡ Some before
    → (work : Work) (q : Owned) → NextWork before s.parts (Err LogFailed) work q → MayEnd m (with_hand m t (Some work) q s)
may_fail m t d before s sound up there next given work q made = by (work_of m t s.works) (request_of d) refl (sound.hands m t) given
  where
    by : (held : Option Work) (o : Option Request) → work_of m t s.works ≡ held → IsHand m t held s.courses s.parts → in_hand_or held (begun_if m t o) ≡ Some before → MayEnd m (with_hand m t (Some work) q s)
    by None None has hand e = absurd (none-some before e)
    by None (Some r) has hand e = absurd (first_unfailing m t r s.parts work q (subst (λ (x : Work). NextWork x s.parts (Err LogFailed) work q) (sym (same_Some (begun m t r) before e)) made))
    by (Some w) o has hand e =
        let ready = hand_ready m t d w s sound next has hand in
        let a = answers_given s.courses in
        let b = others_in m t s.works in
        let step = subst (λ (x : Work). NextWork x s.parts (Err LogFailed) work q) (sym (same_Some w before e)) made in
        let goes = failed_request_keeps a b s.parts q w work ready.steady ready.fits step in
        record { crash = may_crash a (b + 1) m q goes.steady (member_has a (b + 1) q m goes.steady (subst (λ (n : ℕ). member_number m ≤ n) (sym goes.undisturbed.members) there)); tally = tally_room m s sound up there }

may_work : (m : Member) (t : TaskNo) (d : Directive) (s : State) → IsSound s → is_member_up m s ≡ true → next_of (actor.Task m t) s.courses ≡ Some d → IsSome (request_of d) → MayWork m t (work_before m t d s) s
may_work m t d s sound up next asks = by (work_before m t d s) refl
  where
    there : member_number m ≤ length s.parts.managers
    there = up_within m s up

    some : (held : Option Work) (o : Option Request) → IsSome o → in_hand_or held (begun_if m t o) ≡ None → ⊥
    some (Some w) o is none = none-some w (sym none)
    some None (Some r) is none = none-some (begun m t r) (sym none)
    some None None is none = false≢true is

    by : (before : Option Work) → work_before m t d s ≡ before → MayWork m t before s
    by None given = some (work_of m t s.works) (request_of d) asks given
    by (Some before) given = (
      member_has (answers_given s.courses) (in_progress s.works) s.parts m sound.steady there,
      record { step = ready_may m t d before s sound there given; fails = may_fail m t d before s sound up there next given },
    )

-- ---- a START

may_begin : (m : Member) (s : State) → IsSound s → next_of actor.Operator s.courses ≡ Some (directive.Start m) → MayStepStart (start_before m s) s.parts
may_begin m s sound next =
    let has = subst (λ k. HasMember k s.parts) (sym (start_member m s sound next)) (start_has m s sound next) in
    let some = start_left actor.Operator s.courses (directive.Start m) next refl in
    let starts = sound.starts in
    may_step (start_before m s) s.parts (record {
      low = record { member = has; low = (sound.steady.behind (start_before m s).member has.manager).low };
      begin = record { member = has; left = omega (arith, some, starts) };
    })

-- ---- an actor

may_ask : (s : State) (who : Actor) (d : Directive) (a : Asked) → IsSound s → next_of who s.courses ≡ Some d → is_up who s ≡ true → asked who d ≡ a → MayAsk d a s
may_ask s who d (asks.Work m t) sound next up is =
    let own = subst (IsOwn who) is (asked_own who d) in
    λ due. may_work m t d s sound (subst (λ (x : Actor). is_up x s ≡ true) own up) (subst (λ (x : Actor). next_of x s.courses ≡ Some d) own next) (subst (λ (x : Asked). HasRequest x (request_of d)) is (has_request who d))
may_ask s who d (asks.Until other n) sound next up is = tt
may_ask s who d (asks.Crash m pick) sound next up is =
    let said = subst (λ (x : Asked). IsSaid x d) is (asked_said who d) in
    let there = next_within (length s.parts.managers) who s.courses (directive.Crash m pick) sound.within (next ∙ ap Some said) in
    let has = member_has (answers_given s.courses) (in_progress s.works) s.parts m sound.steady there in
    (has, λ ups. may_end m s sound ups has)
may_ask s who d (asks.Start m) sound next up is =
    let said = subst (λ (x : Asked). IsSaid x d) is (asked_said who d) in
    let own = subst (IsOwn who) is (asked_own who d) in
    may_begin m s sound (subst (λ (x : Actor). next_of x s.courses ≡ Some (directive.Start m)) own (next ∙ ap Some said))
may_ask s who d asks.Later sound next up is = tt

may_as : (s : State) (who : Actor) (system : Option Member) → IsSound s → MayMoveAs system who s
may_as s who (Some m) sound = λ has. peer_may m s sound
may_as s who None sound = λ d next free. may_ask s who d (asked who d) sound next (up_unless who (asked who d) s free) refl

pub may_move : (s : State) (who : Actor) → IsSound s → IsWithin who (length s.parts.managers) → MayMove who s
may_move s who sound within = may_as s who (system_of who) sound
