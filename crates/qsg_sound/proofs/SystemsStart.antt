-- what a step of a START leaves of the works that system tasks have in hand
use Rattle.std.proofs.Common.{◌≡◌, inl, inr, ℕ, ◌-◌, ◌≤◌, ◌<◌, Bool, true, false, cond, List, [], ◌∷◌, length, Option, Some, None, Ok, refl, sym, ap, subst, ◌∙◌, true≢false, length-set, arith}
use Rattle.std.specs.Prelude.{IfSome, ◌||◌, ◌&&◌, ◌==◌, ◌⊎◌, is_some, option_map}
use Rattle.std.specs.List.{AllByRecursion, find}
use Rattle.std.specs.Option.{option_and_then}
use Rattle.std.proofs.lemmas.Bool.{cases_Bool, eq-eqb, eqb-true}
use Rattle.std.proofs.lemmas.Option.{none-some}
use Rattle.qsg_num.specs.declared.seats.Member.{Member}
use Rattle.qsg_num.specs.declared.seats.Member.TheVariants as member
use Rattle.qsg_num.specs.declared.seats.TaskNo.TheVariants as task
use Rattle.qsg_num.specs.declared.ids.PageNo.{PageNo}
use Rattle.qsg_num.specs.Seats.{member_number}
use Rattle.qsg_objects.specs.declared.directives.Directive.{Directive}
use Rattle.qsg_requests.specs.declared.replies.Cause.TheVariants.{Reading}
use Rattle.qsg_requests.specs.declared.replies.Reply.{Reply}
use Rattle.qsg_repo.specs.Calls.{is_unresolved, started as given_in}
use Rattle.qsg_repo.specs.Tables.{Repository, low_of}
use Rattle.qsg_group.proofs.Tables.{cases_member}
use Rattle.qsg_manager.specs.declared.managers.Manager.{Manager}
use Rattle.qsg_manager.specs.Storage.{manager_in}
use Rattle.qsg_manager.proofs.Grouping.{manager_same, manager_other}
use Rattle.qsg_logs.specs.Cuts.{restarted}
use Rattle.qsg_logs.specs.Kept.{KeptLog, log_in}
use Rattle.qsg_parts.specs.Owned.{Owned, HasMember}
use Rattle.qsg_steady.specs.Steady.{IsSteady}
use Rattle.qsg_steady.proofs.Gives.{down_quiet}
use Rattle.qsg_steady.proofs.Moving.{by_member}
use Rattle.qsg_steady.proofs.Places.{log_same, log_other}
use Rattle.qsg_reading.specs.Reading.{HasReadWritten}
use Rattle.qsg_reading.proofs.Others.{unread_written}
use Rattle.qsg_start.specs.declared.phases.Phase.{Phase}
use Rattle.qsg_start.specs.declared.phases.Phase.TheVariants.{Check, Low, Read, Begin}
use Rattle.qsg_start.specs.declared.phases.StartTurn.{StartTurn}
use Rattle.qsg_start.specs.Works.{Work}
use Rattle.qsg_start.specs.Steps.{Next, HasRead as HasReadPage, checked, after_check, after_low, after_begin, Acts, GoesOn, NextAt, NextStart, started}
use Rattle.qsg_peer.specs.declared.phases.FailedLife.{FailedLife}
use Rattle.qsg_peer.specs.declared.phases.Phase.{Phase as PeerPhase}
use Rattle.qsg_peer.specs.declared.phases.Phase.TheVariants.{At}
use Rattle.qsg_peer.specs.declared.phases.Stage.{Stage}
use Rattle.qsg_peer.specs.declared.phases.Stage.TheVariants as stages
use Rattle.qsg_peer.specs.Needs.{is_reading}
use Rattle.qsg_peer.specs.Machine.{IsOver}
use Rattle.qsg_peer.specs.Reading.{life_at, member_of, reading_of}
use Rattle.qsg_peer.specs.Works.{Work as PeerWork, IsSoundAt, IsSound as IsSoundPhase}
use Rattle.qsg_peers.specs.Peers.{peer_of}
use Rattle.qsg_lives.specs.Deciding.{MayGoOnAt, MayStartAt}
use Rattle.qsg_lives.proofs.Incarnations.{starts_unresolved}
use Rattle.qsg_lives.proofs.Overs.{start_over}
use Rattle.qsg_lives.proofs.Starting.{made, checked_same, upped}
use Rattle.qsg_lives.proofs.Structures.{none_changed}
use Rattle.qsg_step.specs.Reading.{members, is_same, reads, reader_of}
use Rattle.qsg_step.specs.States.{State, is_member_up}
use Rattle.qsg_step.specs.Waiting.{reading}
use Rattle.qsg_step.specs.Steps.{start_or, start_before, start_reply, started_as, IsStartStep}
use Rattle.qsg_sound.specs.Sound.{ArePeersKept}
use Rattle.qsg_sound.specs.Systems.{IsPeerKept, is_starting, goes_on}
use Rattle.qsg_sound.proofs.SystemsLogs.{IsQuiet, GoesOn as GoesOnLog, quiet, same_quiet, read_quiet}
use Rattle.qsg_sound.proofs.SystemsReading.{Goes}
use Rattle.qsg_sound.proofs.SystemsPeers.{ArePeers, LeavesCounts, HasReadFor, all_kept}

-- ---- what a step leaves of the parts

-- only the member that comes up goes on with its log, in another incarnation; structures stay
pub record StartLeaves (m : Member) (p q : Owned) : Type 0 where
  pub counts : LeavesCounts p q
  pub goes : Goes p q
  pub structures : q.structures ≡ p.structures
  pub up : (k : Member) → (manager_in k p.managers).up ≡ true → (manager_in k q.managers).up ≡ true
  pub others : (k : Member) → (member_number k ≡ member_number m → ⊥) → (manager_in k q.managers).up ≡ (manager_in k p.managers).up
  pub repo : (q.repo ≡ p.repo) ⊎ (q.repo ≡ given_in m p.repo)

same_leaves : (m : Member) (p q : Owned) → q ≡ p → StartLeaves m p q
same_leaves m p q is = subst (StartLeaves m p) (sym is) (record {
  counts = record { managers = refl; logs = refl; structures = refl };
  goes = record { unresolved = λ k i was. was; lows = λ k failed. refl; logs = refl; tells = λ k. refl; goes = λ telling k. quiet (same_quiet (log_in k p.logs)) };
  structures = refl;
  up = λ k was. was;
  others = λ k differ. refl;
  repo = inl refl;
})

read_leaves : (m : Member) (p q : Owned) → HasMember m p → HasReadPage m p q → StartLeaves m p q
read_leaves m p q has read =
    let managers = ap (λ (x : Owned). x.managers) read.others in
    let structures = ap (λ (x : Owned). x.structures) read.others in
    let repo = ap (λ (x : Owned). x.repo) read.others in
    let count = ap (λ (x : Owned). length x.logs) read.others ∙ length-set p.logs (member_number m - 1) (log_in m q.logs) in
    let all : (k : Member) → IsQuiet (log_in k p.logs) (log_in k q.logs) = by_member (λ k. IsQuiet (log_in k p.logs) (log_in k q.logs)) m (read_quiet (log_in m p.logs) (log_in m q.logs) read.log)
    (λ k differ. subst (IsQuiet (log_in k p.logs)) (sym (ap (λ (x : Owned). log_in k x.logs) read.others ∙ log_other m k (log_in m q.logs) p.logs differ)) (same_quiet (log_in k p.logs))) in
    record {
      counts = record { managers = ap length managers; logs = count; structures = ap length structures };
      goes = record {
        unresolved = λ k i was. subst (λ (x : Repository). is_unresolved k i x ≡ true) repo was;
        lows = λ k failed. ap (low_of k) repo;
        logs = count;
        tells = λ k. (all k).tells;
        goes = λ telling k. quiet (all k);
      };
      structures = structures;
      up = λ k was. ap (λ ms. (manager_in k ms).up) managers ∙ was;
      others = λ k differ. ap (λ ms. (manager_in k ms).up) managers;
      repo = inl repo;
    }

begin_leaves : (a b : ℕ) (m : Member) (page : PageNo) (p : Owned) → IsSteady a b p → HasMember m p → MayGoOnAt m page p → StartLeaves m p (started m page p)
begin_leaves a b m page p s has may =
    let q = started m page p in
    let log = log_in m p.logs in
    let new = restarted page.number log in
    let there : log_in m q.logs ≡ new = log_same m new p.logs has.log in
    let other : (k : Member) → (member_number k ≡ member_number m → ⊥) → manager_in k q.managers ≡ manager_in k p.managers = λ k differ. manager_other m k (upped m p) p.managers differ in
    let other_log : (k : Member) → (member_number k ≡ member_number m → ⊥) → log_in k q.logs ≡ log_in k p.logs = λ k differ. log_other m k new p.logs differ in
    record {
      counts = record { managers = length-set p.managers (member_number m - 1) (upped m p); logs = length-set p.logs (member_number m - 1) new; structures = refl };
      goes = record {
        unresolved = λ k i was. sym (starts_unresolved k m i p.repo) ∙ was;
        lows = λ k failed. refl;
        logs = length-set p.logs (member_number m - 1) new;
        tells = by_member (λ k. (log_in k q.logs).tells ≡ (log_in k p.logs).tells) m (ap (λ (x : KeptLog). x.tells) there) (λ k differ. ap (λ (x : KeptLog). x.tells) (other_log k differ));
        goes = λ telling. by_member (λ k. GoesOnLog (manager_in k p.managers).up k p q) m
            (quiet (subst (IsQuiet log) (sym there) (record { tells = refl; size = refl; next = may.next telling; hand = sym (down_quiet a b p m s has may.down); bytes = λ tells. refl })))
            (λ k differ. quiet (subst (IsQuiet (log_in k p.logs)) (sym (other_log k differ)) (same_quiet (log_in k p.logs))));
      };
      structures = refl;
      up = by_member (λ k. (manager_in k p.managers).up ≡ true → (manager_in k q.managers).up ≡ true) m (λ was. ap (λ (x : Manager). x.up) (manager_same m (upped m p) p.managers has.manager)) (λ k differ was. ap (λ (x : Manager). x.up) (other k differ) ∙ was);
      others = λ k differ. ap (λ (x : Manager). x.up) (other k differ);
      repo = inr refl;
    }

acts_leave : (a b : ℕ) (phase : Phase) (w : Work) (p : Owned) (turn : StartTurn) (v : Work) (q : Owned) → IsSteady a b p → HasMember w.member p → MayStartAt phase w.member p → Acts phase w p (Ok turn) v q → StartLeaves w.member p q
acts_leave a b Check w p turn v q s has may acts = same_leaves w.member p q (made (after_check w p) (Ok turn) v q acts ∙ checked_same (manager_in w.member p.managers).up w p)
acts_leave a b Low w p turn v q s has may acts = same_leaves w.member p q (made (after_low w p) (Ok turn) v q acts)
acts_leave a b Read w p turn v q s has may acts = read_leaves w.member p q has acts.0
acts_leave a b (Begin page) w p turn v q s has may acts = subst (StartLeaves w.member p) (sym (made (after_begin page w p) (Ok turn) v q acts)) (begin_leaves a b w.member page p s has may)

goes_leave : (a b : ℕ) (phase : Phase) (w : Work) (p : Owned) (turn : StartTurn) (v : Work) (q : Owned) → w.phase ≡ phase → IsSteady a b p → HasMember w.member p → MayStartAt phase w.member p → GoesOn w p (Ok turn) v q → StartLeaves w.member p q
goes_leave a b phase w p turn v q at s has may (inl given) = same_leaves w.member p q given.parts_are
goes_leave a b phase w p turn v q at s has may (inr (inl lacks)) = same_leaves w.member p q lacks.parts_are
goes_leave a b phase w p turn v q at s has may (inr (inr acted)) =
    acts_leave a b phase (record w { walk = acted.walk }) p turn v q s has may (subst (λ x. Acts x (record w { walk = acted.walk }) p (Ok turn) v q) at acted.acts)

at_leaves : (a b : ℕ) (phase : Phase) (w : Work) (p : Owned) (turn : StartTurn) (v : Work) (q : Owned) → w.phase ≡ phase → IsSteady a b p → HasMember w.member p → MayStartAt phase w.member p → NextAt phase w p (Ok turn) v q → StartLeaves w.member p q
at_leaves a b Check w p turn v q at s has may next = same_leaves w.member p q (made (after_check w p) (Ok turn) v q next ∙ checked_same (manager_in w.member p.managers).up w p)
at_leaves a b Low w p turn v q at s has may next = same_leaves w.member p q (made (after_low w p) (Ok turn) v q next)
at_leaves a b Read w p turn v q at s has may next = goes_leave a b Read w p turn v q at s has may next
at_leaves a b (Begin page) w p turn v q at s has may next = goes_leave a b (Begin page) w p turn v q at s has may next

pub start_leaves : (a b : ℕ) (w : Work) (p : Owned) (turn : StartTurn) (v : Work) (q : Owned) → IsSteady a b p → HasMember w.member p → MayStartAt w.phase w.member p → NextStart w p (Ok turn) v q → StartLeaves w.member p q
start_leaves a b w p turn v q s has may next = at_leaves a b w.phase w p turn v q refl s has may next

-- ---- no walk that keeps a page goes on over the log of a member whose START has passed its check

each_fails : {X : Type 0} (f : X → Bool) (xs : List X) → find f xs ≡ None → AllByRecursion (λ x. f x ≡ false) xs
each_fails f [] none = tt
each_fails f (x ∷ xs) none = by (f x) refl (each_fails f xs) none
  where
    by : (b : Bool) → f x ≡ b → (find f xs ≡ None → AllByRecursion (λ x. f x ≡ false) xs) → cond b (Some x) (find f xs) ≡ None → AllByRecursion (λ x. f x ≡ false) (x ∷ xs)
    by true is rest none = absurd (none-some x (sym none))
    by false is rest none = (is, rest none)

each_member : (P : Member → Type 0) → AllByRecursion P members → (m : Member) → P m
each_member P all member.One = all.0
each_member P all member.Two = all.1.0
each_member P all member.Three = all.1.1.0
each_member P all member.Four = all.1.1.1.0
each_member P all member.Five = all.1.1.1.1.0
each_member P all member.Six = all.1.1.1.1.1.0
each_member P all member.Seven = all.1.1.1.1.1.1.0
each_member P all member.Eight = all.1.1.1.1.1.1.1.0

kept_none : (m : Member) (life : FailedLife) (w : PeerWork) (kept : Option _) → w.walk.kept ≡ kept → life.member ≡ m → w.phase ≡ At life stages.Read → is_same m (reading_of w) ≡ false → w.walk.kept ≡ None
kept_none m life w None is own at unread = is
kept_none m life w (Some page) is own at unread = absurd (true≢false (sym (reads_so ∙ eq-eqb (member_number life.member) (member_number m) (ap member_number own)) ∙ unread))
  where
    reads_so : is_same m (reading_of w) ≡ (member_number life.member == member_number m)
    reads_so = (λ i. is_same m (cond (is_reading (at i) && is_some (is i)) (member_of (life_at (at i))) None))

-- by the stage: before its end the walk keeps no page
unread : (m : Member) (life : FailedLife) (stage : Stage) (w : PeerWork) → w.phase ≡ At life stage → IsPeerKept w → life.member ≡ m → is_same m (reading_of w) ≡ false → 0 < w.walk.left → w.walk.kept ≡ None
unread m life stage w at kept own free some = by stage at (subst (λ (x : PeerPhase). IsSoundPhase x w.walk) at kept)
  where
    ended : {A : Type 0} → w.walk.left ≡ 0 → A
    ended none = absurd (omega (arith, none, some))

    by : (stage : Stage) → w.phase ≡ At life stage → IsSoundAt life stage w.walk → w.walk.kept ≡ None
    by stages.Read at sound = kept_none m life w w.walk.kept refl own at free
    by (stages.Connect x) at sound = ended sound
    by (stages.Search c after) at sound = sound.1
    by (stages.Settle c found) at sound = sound.1
    by stages.Resolve at sound = ended sound

pub unread_by_all : (m n : Member) (s : State) (w : PeerWork) → reader_of m s.peers ≡ None → (peer_of n s.peers).work ≡ Some w → is_same m (reading_of w) ≡ false
unread_by_all m n s w none is =
    ap (λ o. is_same m (option_and_then reading_of o)) (sym is) ∙ each_member (λ k. reads m s.peers k ≡ false) (each_fails (reads m s.peers) members none) n

-- ---- the step

mapped_none : {X Y : Type 0} (f : X → Y) (o : Option X) → option_map f o ≡ None → o ≡ None
mapped_none f None is = refl
mapped_none f (Some x) is = absurd (none-some (f x) (sym is))

-- a START that may make its step is of a member with whose log somebody goes on, or that no system task is reading
pub start_is_free : (m : Member) (s : State) → IfSome s.starting (λ (w : Work). w.member ≡ m) → reading m s ≡ None → goes_on m s ≡ false → reader_of m s.peers ≡ None
start_is_free m s own none off = by s.starting (is_member_up m s) own none off
  where
    by : (o : Option Work) (up : Bool) → IfSome o (λ (w : Work). w.member ≡ m) → (cond (is_some o || up) None (option_map (λ n. Reading n task.System) (reader_of m s.peers))) ≡ None → (up || is_starting m o) ≡ false → reader_of m s.peers ≡ None
    by None false own none off = mapped_none (λ n. Reading n task.System) (reader_of m s.peers) none
    by None true own none off = absurd (true≢false off)
    by (Some w) true own none off = absurd (true≢false off)
    by (Some w) false own none off = absurd (true≢false (sym (eq-eqb (member_number w.member) (member_number m) (ap member_number own)) ∙ off))

pub before_own : (m : Member) (o : Option Work) → IfSome o (λ (w : Work). w.member ≡ m) → (start_or m o).member ≡ m
before_own m None own = refl
before_own m (Some w) own = own

pub as_parts : (o : Option Reply) (d : Directive) (v : Work) (q : Owned) (s : State) → (started_as o d v q s).parts ≡ q
as_parts None d v q s = refl
as_parts (Some reply) d v q s = refl

pub as_peers : (o : Option Reply) (d : Directive) (v : Work) (q : Owned) (s : State) → (started_as o d v q s).peers ≡ s.peers
as_peers None d v q s = refl
as_peers (Some reply) d v q s = refl

-- a START of another member isn't of this one
not_starting : (m k : Member) (o : Option Work) → IfSome o (λ (w : Work). w.member ≡ m) → (member_number k ≡ member_number m → ⊥) → is_starting k o ≡ false
not_starting m k None own differ = refl
not_starting m k (Some w) own differ = elim (cases_Bool (member_number w.member == member_number k)) [
  | inl same ↦ absurd (differ (sym (eqb-true (member_number w.member) (member_number k) same) ∙ ap member_number own))
  | inr other ↦ other
]

as_starting : (m : Member) (o : Option Reply) (d : Directive) (v : Work) (q : Owned) (s : State) → v.member ≡ m → IfSome (started_as o d v q s).starting (λ (w : Work). w.member ≡ m)
as_starting m None d v q s own = own
as_starting m (Some reply) d v q s own = tt

-- the work of a START stays its member's
pub start_own : (w : Work) (p : Owned) (turn : StartTurn) (v : Work) (q : Owned) → NextStart w p (Ok turn) v q → v.member ≡ w.member
start_own w p turn v q next = at w.phase next
  where
    act : (phase : Phase) (w : Work) → Acts phase w p (Ok turn) v q → v.member ≡ w.member
    act Check w acts = ap (λ (n : Next). n.work.member) acts ∙ check_own (manager_in w.member p.managers).up w
      where
        check_own : (b : Bool) (w : Work) → (checked b w p).work.member ≡ w.member
        check_own true w = refl
        check_own false w = refl
    act Low w acts = ap (λ (n : Next). n.work.member) acts
    act Read w (has, inl failed) = ap (λ (x : Work). x.member) failed.work_is
    act Read w (has, inr found) = ap (λ (x : Work). x.member) found.work_is
    act (Begin page) w acts = ap (λ (n : Next). n.work.member) acts

    go : (phase : Phase) → GoesOn w p (Ok turn) v q → v.member ≡ w.member
    go phase (inl given) = ap (λ (x : Work). x.member) given.work_is
    go phase (inr (inl lacks)) = ap (λ (x : Work). x.member) lacks.work_is
    go phase (inr (inr acted)) = act w.phase (record w { walk = acted.walk }) acted.acts

    at : (phase : Phase) → NextAt phase w p (Ok turn) v q → v.member ≡ w.member
    at Check next = act Check w next
    at Low next = act Low w next
    at Read next = go Read next
    at (Begin page) next = go (Begin page) next

pub peers_after_start : (a b : ℕ) (m : Member) (d : Directive) (s r : State) → IsSteady a b s.parts → HasMember m s.parts → IfSome s.starting (λ (w : Work). w.member ≡ m) → MayStartAt (start_before m s).phase m s.parts → reading m s ≡ None → ArePeersKept s
    → IsStartStep m d s r → ArePeers s → ArePeers r
peers_after_start a b m d s r steady has own may none kept step are = subst ArePeers (sym step.after) after
  where
    p : Owned
    p = s.parts

    q : Owned
    q = step.parts

    w : Work
    w = start_before m s

    v : Work
    v = step.work

    o : Option Reply
    o = start_reply m step.turn

    x : State
    x = started_as o d v q s

    is : w.member ≡ m
    is = before_own m s.starting own

    there : HasMember w.member p
    there = subst (λ k. HasMember k p) (sym is) has

    leaves_own : StartLeaves w.member p q
    leaves_own = start_leaves a b w p step.turn v q steady there (subst (λ k. MayStartAt w.phase k p) (sym is) may) step.next

    leaves : StartLeaves m p q
    leaves = subst (λ k. StartLeaves k p q) is leaves_own

    parts : x.parts ≡ q
    parts = as_parts o d v q s

    left : StartLeaves m p x.parts
    left = subst (StartLeaves m p) (sym parts) leaves

    read : (n : Member) (work : PeerWork) → (peer_of n s.peers).work ≡ Some work → HasReadFor work s x
    read n work in_hand life stage at has_read on = by (cases_member life.member m) (cases_Bool (goes_on m s))
      where
        kept_of : (n : Member) (work : PeerWork) → (peer_of n s.peers).work ≡ Some work → IsPeerKept work
        kept_of n work is = subst (λ y. IfSome y IsPeerKept) is (kept n)

        before : (k : Member) → (member_number k ≡ member_number m → ⊥) → goes_on k x ≡ true → goes_on k s ≡ true
        before k differ on =
            let none_now : is_starting k x.starting ≡ false = not_starting m k x.starting (as_starting m o d v q s (start_own w p step.turn v q step.next ∙ is)) differ in
            up_first (is_member_up k x) (is_member_up k s) (is_starting k x.starting) (is_starting k s.starting) (left.others k differ) none_now on
          where
            up_first : (a b c e : Bool) → a ≡ b → c ≡ false → (a || c) ≡ true → (b || e) ≡ true
            up_first a b c true same none is = or_true b
              where
                or_true : (b : Bool) → (b || true) ≡ true
                or_true true = refl
                or_true false = refl
            up_first a true c e same none is = refl
            up_first true false c e same none is = absurd (true≢false same)
            up_first false false c e same none is = absurd (true≢false (sym is ∙ none))

        by : (life.member ≡ m) ⊎ (member_number life.member ≡ member_number m → ⊥) → (goes_on m s ≡ true) ⊎ (goes_on m s ≡ false) → HasReadWritten work.walk (log_in life.member s.parts.logs)
        by (inl same) (inl going) = has_read.written (ap (λ k. goes_on k s) same ∙ going)
        by (inl same) (inr off) = unread_written (low_of life.member p.repo).number (log_in life.member p.logs) work.walk (steady.behind life.member (subst (λ k. member_number k ≤ length p.managers) (sym same) has.manager)).low has_read.last
            (unread m life stage work at (kept_of n work in_hand) same (unread_by_all m n s work (start_is_free m s own none off) in_hand))
        by (inr differ) other = has_read.written (before life.member differ on)

    after : ArePeers x
    after = all_kept a b s x steady (as_peers o d v q s) left.counts left.goes left.up
        (λ life on. record {
          over = subst (IsOver life) (sym parts) (start_over a b life w p (Ok step.turn) v q steady there step.next on.over);
          swept = (none_changed life p x.parts left.structures).swept;
        }) read are
