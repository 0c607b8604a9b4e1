-- what is counted of incarnations that failed stays true in the steps of others than system tasks
use Rattle.std.proofs.Common.{◌≡◌, inl, inr, ℕ, ◌-◌, ◌+◌, ◌≤◌, ◌<◌, Bool, true, false, cond, List, [], ◌∷◌, ◌++◌, length, map, Option, Some, None, Result, Ok, refl, sym, ap, subst, ◌∙◌, true≢false, length-set, length-append, arith}
use Rattle.std.specs.Prelude.{◌^◌, ◌&&◌, ◌⊎◌, not, count_by, sum_by, IsSome, IfSome}
use Rattle.std.specs.List.{AllByRecursion, list_any}
use Rattle.std.proofs.lemmas.Bool.{cases_Bool, and_parts, eq-eqb}
use Rattle.qsg_num.specs.declared.seats.Member.{Member}
use Rattle.qsg_num.specs.declared.ids.Incarnation.{Incarnation}
use Rattle.qsg_num.specs.Seats.{member_number}
use Rattle.qsg_agenda.specs.Courses.{Course}
use Rattle.qsg_repo.specs.declared.lives.Fate.TheVariants as fate
use Rattle.qsg_repo.specs.declared.lives.Life.{Life}
use Rattle.qsg_repo.specs.Lives.{is_up, is_life, is_unharmed, is_failed_life, failed_life}
use Rattle.qsg_repo.specs.Calls.{is_unresolved, next_incarnation, started as given_in}
use Rattle.qsg_repo.specs.Tables.{Repository}
use Rattle.qsg_group.proofs.Tables.{cases_member}
use Rattle.qsg_manager.specs.Marked.{marks_of}
use Rattle.qsg_logs.specs.Kept.{log_in}
use Rattle.qsg_logs.proofs.Owners.{all_weaker}
use Rattle.qsg_parts.specs.Owned.{Owned, HasMember}
use Rattle.qsg_steady.specs.Steady.{is_up_life, IsSteady}
use Rattle.qsg_requests.specs.declared.replies.Turn.{Turn}
use Rattle.qsg_commit.specs.declared.phases.StepError.{StepError}
use Rattle.qsg_works.specs.declared.work.Work.{Work}
use Rattle.qsg_works.specs.Steps.{NextWork}
use Rattle.qsg_fit.specs.Requests.{IsRequestOf, IsSteadyBeside}
use Rattle.qsg_crash.specs.Crashes.{IsCrash}
use Rattle.qsg_start.specs.Works.{Work as StartWork}
use Rattle.qsg_start.specs.Steps.{NextStart}
use Rattle.qsg_objects.specs.declared.directives.Directive.{Directive}
use Rattle.qsg_requests.specs.declared.replies.Reply.{Reply}
use Rattle.qsg_lives.specs.Deciding.{MayStartAt}
use Rattle.qsg_peer.specs.declared.phases.FailedLife.{FailedLife}
use Rattle.qsg_peer.specs.declared.phases.Phase.{Phase}
use Rattle.qsg_peer.specs.declared.phases.Phase.TheVariants.{Find, Low, At}
use Rattle.qsg_peer.specs.Machine.{IsOver}
use Rattle.qsg_peer.specs.Needs.{HasLog}
use Rattle.qsg_peer.specs.Sweeping.{AreOrdered}
use Rattle.qsg_peer.specs.Works.{Work as PeerWork}
use Rattle.qsg_peers.specs.Peers.{Peer, peer_of, with_peer, ended_peer}
use Rattle.qsg_tallies.specs.declared.tally.Tally.{Tally}
use Rattle.qsg_tallies.specs.Tallies.{Tallied, is_tally_of, new_tally, with_tally, taken_off}
use Rattle.qsg_lives.specs.Marks.{marks_left, answers_in, AreEmptyUnlessActive}
use Rattle.qsg_lives.proofs.Clearing.{request_empty, crash_empty}
use Rattle.qsg_lives.proofs.Giving.{request_most}
use Rattle.qsg_lives.proofs.Touching.{same_empty}
use Rattle.qsg_lives.proofs.Incarnations.{same_life, life_is, fails_unresolved, fails_here, starts_unresolved}
use Rattle.qsg_lives.proofs.Overs.{request_over, crash_over, crash_ends, start_over}
use Rattle.qsg_lives.proofs.Requests.{request_leaves}
use Rattle.qsg_step.specs.States.{State, is_member_up}
use Rattle.qsg_step.specs.Ends.{incarnation_of, IsEnd}
use Rattle.qsg_step.specs.Steps.{start_before, start_reply, started_as, IsStartStep, IsUnmade}
use Rattle.qsg_sound.specs.Tallying.{life_of, IsTallied, is_down, tally_of, AreApart, IsCountedBy, IsCountedAt, IsWorkCounted, IsClearOnceResolved, AreTallied}
use Rattle.qsg_sound.proofs.SystemsLogs.{request_moves}
use Rattle.qsg_sound.proofs.SystemsPeers.{over_in, peer_same, peer_other}
use Rattle.qsg_sound.proofs.SystemsReading.{other_than_up}
use Rattle.qsg_sound.proofs.SystemsStart.{StartLeaves, start_leaves, before_own, as_parts, as_peers}
use Rattle.qsg_sound.proofs.TallyingRows.{one_if, all_push, all_map, all_both, found_push, some_push, new_push, found_tally, one_down_more, down_started, count_push, none_counted}

abbrev pub answers_in_all : List Course → ℕ
answers_in_all courses = sum_by (λ (c : Course). length c.answers) courses

-- ---- an incarnation that has a tally is over

pub over_tallied : (p : Owned) (m : Member) (i : Incarnation) (rows : List Tally) → AllByRecursion (IsTallied p) rows → IsSome (tally_of m i rows) → IsOver (record { member = m; incarnation = i }) p
over_tallied p m i rows all some =
    let f = found_tally (IsTallied p) m i rows all some in
    subst (λ k. IsOver (record { member = k; incarnation = i }) p) f.member (subst (λ k. IsOver (record { member = f.tally.member; incarnation = k }) p) f.incarnation f.holds.over)

-- ---- what leaves the rows of tallies, and the marks of incarnations that are over

pub record LeavesOver (p q : Owned) : Type 0 where
  pub over : (life : FailedLife) → IsOver life p → IsOver life q
  pub marks : (life : FailedLife) → IsOver life p → marks_left life q ≡ marks_left life p
  pub unresolved : (m : Member) (i : Incarnation) → is_unresolved m i p.repo ≡ true → is_unresolved m i q.repo ≡ true

not_false : (a b : Bool) → (a ≡ true → b ≡ true) → b ≡ false → a ≡ false
not_false true b more is = absurd (true≢false (sym (more refl) ∙ is))
not_false false b more is = refl

pub tally_stays : (p q : Owned) (t : Tally) → LeavesOver p q → IsTallied p t → IsTallied q t
tally_stays p q t leaves is = record {
  over = leaves.over (life_of t) is.over;
  eight = is.eight;
  marks = is.marks ∙ ap (λ (n : ℕ). taken_off t + n) (sym (leaves.marks (life_of t) is.over));
  few = is.few;
  clear = λ resolved. leaves.marks (life_of t) is.over ∙ is.clear (not_false (is_unresolved t.member t.incarnation p.repo) (is_unresolved t.member t.incarnation q.repo) (leaves.unresolved t.member t.incarnation) resolved);
}

-- the marks of lives that are resolved
pub clear_stays : (p q : Owned) (rows : List Tally) (lives : List Life) → LeavesOver p q → AllByRecursion (IsTallied p) rows → AllByRecursion (λ (l : Life). is_down l ≡ true → IsSome (tally_of l.member l.incarnation rows)) lives
    → AllByRecursion (IsClearOnceResolved p) lives → AllByRecursion (IsClearOnceResolved q) lives
clear_stays p q rows lives leaves all failed resolved = all_both (λ (l : Life). is_down l ≡ true → IsSome (tally_of l.member l.incarnation rows)) (IsClearOnceResolved p) (IsClearOnceResolved q) lives
    (λ l named clear down calm. leaves.marks (record { member = l.member; incarnation = l.incarnation }) (over_tallied p l.member l.incarnation rows all (named down)) ∙ clear down calm) failed resolved

pub counted_still : (k : Member) (rows now : List Tally) (work : Option PeerWork) → now ≡ rows → IsWorkCounted k rows work → IsWorkCounted k now work
counted_still k rows now work is = subst (λ x. IsWorkCounted k x work) (sym is)

-- the lives stay, or there is one more, which is up
pub record LivesStay (p : Owned) (ls ms : List Life) : Type 1 where
  pub downs : count_by is_down ls ≤ count_by is_down ms
  pub all : (P : Life → Type 0) → ((l : Life) → is_up l.fate ≡ true → HasLog l.member p → P l) → AllByRecursion P ls → AllByRecursion P ms

pub same_lives : (p : Owned) (ls ms : List Life) → ms ≡ ls → LivesStay p ls ms
same_lives p ls ms is = record { downs = subst (λ xs. count_by is_down ls ≤ count_by is_down xs) (sym is) (omega arith); all = λ P new. subst (AllByRecursion P) (sym is) }

pub more_lives : (p : Owned) (l : Life) (ls ms : List Life) → is_up l.fate ≡ true → HasLog l.member p → ms ≡ ls ++ l ∷ [] → LivesStay p ls ms
more_lives p l ls ms up has is = record {
  downs = subst (λ xs. count_by is_down ls ≤ count_by is_down xs) (sym is) (omega (arith, down_started ls l up));
  all = λ P new all. subst (AllByRecursion P) (sym is) (all_push P ls l all (new l up has));
}

pub tallied_still : (s r : State) → r.tallies ≡ s.tallies → LivesStay s.parts s.parts.repo.lives r.parts.repo.lives → r.parts.repo.starts ≡ s.parts.repo.starts → length r.parts.logs ≡ length s.parts.logs → AreEmptyUnlessActive r.parts → r.peers ≡ s.peers
    → LeavesOver s.parts r.parts → ((m : Member) (i : Incarnation) → marks_of m i r.parts.structures ≤ answers_in_all r.courses) → AreTallied s → AreTallied r
tallied_still s r tallies lives starts logs empty peers leaves few t =
    let rows : r.tallies.rows ≡ s.tallies.rows = ap (λ (x : Tallied). x.rows) tallies in
    record {
      room = subst (λ (n : ℕ). n ≤ r.tallies.limit) (sym starts) (subst (λ (x : Tallied). s.parts.repo.starts ≤ x.limit) (sym tallies) t.room);
      rows = omega (arith, ap length rows, t.rows, lives.downs);
      tallied = subst (AllByRecursion (IsTallied r.parts)) (sym rows) (all_weaker (IsTallied s.parts) (IsTallied r.parts) s.tallies.rows (λ x is. tally_stays s.parts r.parts x leaves is) t.tallied);
      apart = subst AreApart (sym rows) t.apart;
      failed = lives.all (λ (l : Life). is_down l ≡ true → IsSome (tally_of l.member l.incarnation r.tallies.rows)) (λ l up has down. up_not_down l up down)
          (subst (λ ts. AllByRecursion (λ (l : Life). is_down l ≡ true → IsSome (tally_of l.member l.incarnation ts)) s.parts.repo.lives) (sym rows) t.failed);
      resolved = lives.all (IsClearOnceResolved r.parts) (λ l up has down calm. up_not_down l up down) (clear_stays s.parts r.parts s.tallies.rows s.parts.repo.lives leaves t.tallied t.failed t.resolved);
      counted = λ m. counted_still m s.tallies.rows r.tallies.rows (peer_of m r.peers).work rows (subst (λ xs. IsWorkCounted m s.tallies.rows (peer_of m xs).work) (sym peers) (t.counted m));
      few = few;
      empty = empty;
      members = lives.all (λ (l : Life). HasLog l.member r.parts) (λ l up has. subst (λ (n : ℕ). member_number l.member ≤ n) (sym logs) has)
          (all_weaker (λ (l : Life). HasLog l.member s.parts) (λ (l : Life). HasLog l.member r.parts) s.parts.repo.lives (λ l has. subst (λ (n : ℕ). member_number l.member ≤ n) (sym logs) has) t.members);
    }
  where
    up_not_down : {A : Type 0} (l : Life) → is_up l.fate ≡ true → is_down l ≡ true → A
    up_not_down l up down = absurd (true≢false (sym down ∙ ap not up))

-- ---- a request

pub tallied_after_request : (a b : ℕ) (before work : Work) (result : Result Turn StepError) (s r : State) → IsSteadyBeside a b before s.parts → IsRequestOf before s.parts → AreOrdered s.parts → NextWork before s.parts result work r.parts
    → r.peers ≡ s.peers → r.tallies ≡ s.tallies → answers_in_all s.courses + answers_in result ≤ answers_in_all r.courses → AreTallied s → AreTallied r
tallied_after_request a b before work result s r beside fits ordered next peers tallies answers t =
    let p = s.parts in
    let q = r.parts in
    let moves = request_moves a b before work p q result beside fits next in
    tallied_still s r tallies (same_lives p p.repo.lives q.repo.lives moves.lives) moves.starts moves.logs (request_empty a b before work p q result beside fits next t.empty) peers
    (record {
      over = λ life over. request_over a b life before work p q result beside fits next over;
      marks = λ life over. (request_leaves a b life before work p q result beside fits ordered over next).marks;
      unresolved = λ m i is. subst (λ ls. list_any (is_failed_life m i) ls ≡ true) (sym moves.lives) is;
    })
    (λ m i. omega (arith, request_most a b (record { member = m; incarnation = i }) before work p q result beside fits next, t.few m i, answers)) t

-- ---- parts that don't change, but for room in the history

pub tallied_in_same : (s r : State) → r.parts.repo ≡ s.parts.repo → r.parts.logs ≡ s.parts.logs → r.parts.structures ≡ s.parts.structures → r.parts.managers ≡ s.parts.managers → r.peers ≡ s.peers → r.tallies ≡ s.tallies
    → answers_in_all s.courses ≤ answers_in_all r.courses → AreTallied s → AreTallied r
tallied_in_same s r repo logs structures managers peers tallies answers t =
    let p = s.parts in
    let q = r.parts in
    tallied_still s r tallies (same_lives p p.repo.lives q.repo.lives (ap (λ (x : Repository). x.lives) repo)) (ap (λ (x : Repository). x.starts) repo) (ap length logs) (same_empty p q structures t.empty) peers
    (record {
      over = λ life over. over_in life p q managers over;
      marks = λ life over. ap (marks_of life.member life.incarnation) structures;
      unresolved = λ m i is. subst (λ (x : Repository). is_unresolved m i x ≡ true) (sym repo) is;
    })
    (λ m i. omega (arith, ap (marks_of m i) structures, t.few m i, answers)) t

pub tallied_after_answer : (s r : State) → r.parts ≡ s.parts → r.peers ≡ s.peers → r.tallies ≡ s.tallies → answers_in_all s.courses ≤ answers_in_all r.courses → AreTallied s → AreTallied r
tallied_after_answer s r parts peers tallies answers t =
    tallied_in_same s r (ap (λ (x : Owned). x.repo) parts) (ap (λ (x : Owned). x.logs) parts) (ap (λ (x : Owned). x.structures) parts) (ap (λ (x : Owned). x.managers) parts) peers tallies answers t

pub tallied_after_unmade : (s r : State) → IsUnmade s r → AreTallied s → AreTallied r
tallied_after_unmade s r unmade t =
    let same = unmade.parts.same in
    let others = unmade.others in
    tallied_in_same s r (ap (λ (x : Owned). x.repo) same) (ap (λ (x : Owned). x.logs) same) (ap (λ (x : Owned). x.structures) same) (ap (λ (x : Owned). x.managers) same) (ap (λ (x : State). x.peers) others) (ap (λ (x : State). x.tallies) others)
    (subst (λ cs. answers_in_all s.courses ≤ answers_in_all cs) (sym (ap (λ (x : State). x.courses) others)) (omega arith)) t

-- ---- the end of a member

-- the tally of the incarnation that ended
abbrev ending : Member → State → Tally
ending m s = new_tally m (incarnation_of m s.parts) (marks_of m (incarnation_of m s.parts) s.parts.structures)

-- the works of others have counted what they did
push_counted : (k : Member) (rows : List Tally) (new : Tally) (work : Option PeerWork) → IsWorkCounted k rows work → IsWorkCounted k (rows ++ new ∷ []) work
push_counted k rows new None is = tt
push_counted k rows new (Some work) is = at work.phase is
  where
    by : (life : FailedLife) (o : Option Tally) → tally_of life.member life.incarnation rows ≡ o → IsCountedBy k o work.settled → IsCountedBy k (tally_of life.member life.incarnation (rows ++ new ∷ [])) work.settled
    by life None found few = absurd few
    by life (Some t) found few = subst (λ o. IsCountedBy k o work.settled) (sym (found_push (is_tally_of life.member life.incarnation) rows new t found)) few

    at : (phase : Phase) → IsCountedAt k phase rows work.settled → IsCountedAt k phase (rows ++ new ∷ []) work.settled
    at Find none = none
    at (Low life) is = (is.0, some_push (is_tally_of life.member life.incarnation) rows new is.1)
    at (At life stage) few = by life (tally_of life.member life.incarnation rows) refl few

pub tallied_after_end : (a b : ℕ) (m : Member) (s r : State) → IsSteady a b s.parts → HasMember m s.parts → is_member_up m s ≡ true → length s.peers ≡ 8 → answers_in_all s.courses < 2 ^ 30 → answers_in_all s.courses ≤ answers_in_all r.courses → IsEnd m s r → AreTallied s → AreTallied r
tallied_after_end a b m s r steady has alive eight few_answers answers end t = record {
  room = subst (λ (x : Tallied). r.parts.repo.starts ≤ x.limit) (sym tallies) (subst (λ (n : ℕ). n ≤ s.tallies.limit) (sym starts) t.room);
  rows = omega (arith, t.rows, ap length rows, length-append s.tallies.rows (new ∷ []), ap (count_by is_down) lives, one_down_more m i s.parts.repo.lives up);
  tallied = subst (AllByRecursion (IsTallied q)) (sym rows) (all_push (IsTallied q) s.tallies.rows new (all_weaker (IsTallied p) (IsTallied q) s.tallies.rows (λ x is. tally_stays p q x leaves is) t.tallied) is_new);
  apart = subst AreApart (sym rows) apart;
  failed = subst (λ ls. AllByRecursion (λ (l : Life). is_down l ≡ true → IsSome (tally_of l.member l.incarnation r.tallies.rows)) ls) (sym lives)
      (all_map (λ (l : Life). is_down l ≡ true → IsSome (tally_of l.member l.incarnation s.tallies.rows)) (λ (l : Life). is_down l ≡ true → IsSome (tally_of l.member l.incarnation r.tallies.rows)) (failed_life m i) s.parts.repo.lives named t.failed);
  resolved = subst (AllByRecursion (IsClearOnceResolved q)) (sym lives) (all_map (IsClearOnceResolved p) (IsClearOnceResolved q) (failed_life m i) s.parts.repo.lives clear t.resolved);
  counted = λ k. subst (λ ts. IsWorkCounted k ts (peer_of k r.peers).work) (sym rows) (counted k);
  few = λ k j. omega (arith, marks k j, t.few k j, answers);
  empty = crash_empty m p q crash t.empty;
  members = subst (λ ls. AllByRecursion (λ (l : Life). HasLog l.member q) ls) (sym lives)
      (all_map (λ (l : Life). HasLog l.member p) (λ (l : Life). HasLog l.member q) (failed_life m i) s.parts.repo.lives within t.members);
}
  where
    p : Owned
    p = s.parts

    q : Owned
    q = r.parts

    i : Incarnation
    i = incarnation_of m p

    new : Tally
    new = ending m s

    crash : IsCrash m p q
    crash = end.crash

    tallies : r.tallies ≡ with_tally new s.tallies
    tallies = ap (λ (x : State). x.tallies) end.after

    rows : r.tallies.rows ≡ s.tallies.rows ++ new ∷ []
    rows = ap (λ (x : Tallied). x.rows) tallies

    lives : q.repo.lives ≡ map (failed_life m i) p.repo.lives
    lives = ap (λ (x : Owned). x.repo.lives) crash.parts

    starts : q.repo.starts ≡ p.repo.starts
    starts = ap (λ (x : Owned). x.repo.starts) crash.parts

    structures : q.structures ≡ p.structures
    structures = ap (λ (x : Owned). x.structures) crash.parts

    logs : length q.logs ≡ length p.logs
    logs = ap (λ (x : Owned). length x.logs) crash.parts ∙ length-set p.logs (member_number m - 1) (log_in m q.logs)

    marks : (k : Member) (j : Incarnation) → marks_of k j q.structures ≡ marks_of k j p.structures
    marks k j = ap (marks_of k j) structures

    up : list_any (is_up_life m i) p.repo.lives ≡ true
    up = (steady.listed m has.manager).up alive

    -- one that is unresolved stays so, and so is the one that was up
    unresolved : (k : Member) (j : Incarnation) → is_unresolved k j p.repo ≡ true → is_unresolved k j q.repo ≡ true
    unresolved k j is = subst (λ ls. list_any (is_failed_life k j) ls ≡ true) (sym lives) (elim (cases_Bool (same_life k j m i)) [
      | inl same ↦ let one = life_is k m j i same in subst (λ x. list_any (is_failed_life x j) (map (failed_life m i) p.repo.lives) ≡ true) (sym one.0)
          (subst (λ x. list_any (is_failed_life m x) (map (failed_life m i) p.repo.lives) ≡ true) (sym one.1) (fails_here m i p.repo.lives up))
      | inr differ ↦ fails_unresolved k m j i p.repo.lives differ ∙ is
    ])

    leaves : LeavesOver p q
    leaves = record { over = λ life over. crash_over life m p q has crash over; marks = λ life over. marks life.member life.incarnation; unresolved = unresolved }

    is_new : IsTallied q new
    is_new = record {
      over = crash_ends m p q has crash;
      eight = refl;
      marks = omega (arith, marks m i);
      few = omega (arith, t.few m i, few_answers);
      clear = λ resolved. absurd (true≢false (sym (subst (λ ls. list_any (is_failed_life m i) ls ≡ true) (sym lives) (fails_here m i p.repo.lives up)) ∙ resolved));
    }

    none : count_by (is_tally_of m i) s.tallies.rows ≡ 0
    none = none_counted m i s.tallies.rows (all_weaker (IsTallied p) (λ x. is_tally_of m i x ≡ false) s.tallies.rows (λ x is. other_than_up (life_of x) m p is.over alive) t.tallied)

    apart : AreApart (s.tallies.rows ++ new ∷ [])
    apart k j = elim (cases_Bool (is_tally_of k j new)) [
      | inl same ↦
          let one = life_is m k i j same in
          let zero_rows = subst (λ x. count_by (is_tally_of x j) s.tallies.rows ≡ 0) one.0 (subst (λ x. count_by (is_tally_of m x) s.tallies.rows ≡ 0) one.1 none) in
          omega (arith, zero_rows, count_push k j s.tallies.rows new, ap one_if same)
      | inr differ ↦ omega (arith, t.apart k j, count_push k j s.tallies.rows new, ap one_if differ)
    ]

    named : (l : Life) → (is_down l ≡ true → IsSome (tally_of l.member l.incarnation s.tallies.rows)) → is_down (failed_life m i l) ≡ true → IsSome (tally_of (failed_life m i l).member (failed_life m i l).incarnation r.tallies.rows)
    named l was = by (is_life m i l && is_unharmed l.fate) refl
      where
        life_back : (k j : Member) (x y : Incarnation) → same_life k x j y ≡ true → same_life j y k x ≡ true
        life_back k j x y is = let one = life_is k j x y is in subst (λ z. same_life z y k x ≡ true) one.0 (subst (λ z. same_life k z k x ≡ true) one.1 (self k x))
          where
            self : (k : Member) (x : Incarnation) → same_life k x k x ≡ true
            self k x = (λ c. eq-eqb (member_number k) (member_number k) refl c && eq-eqb x.number x.number refl c)

        by : (x : Bool) → (is_life m i l && is_unharmed l.fate) ≡ x → is_down (cond x (record l { fate = fate.Failed }) l) ≡ true
            → IsSome (tally_of (cond x (record l { fate = fate.Failed }) l).member (cond x (record l { fate = fate.Failed }) l).incarnation r.tallies.rows)
        by true is down = subst (λ ts. IsSome (tally_of l.member l.incarnation ts)) (sym rows)
            (new_push (is_tally_of l.member l.incarnation) s.tallies.rows new (life_back l.member m l.incarnation i (and_parts (is_life m i l) (is_unharmed l.fate) is).0))
        by false is down = subst (λ ts. IsSome (tally_of l.member l.incarnation ts)) (sym rows) (some_push (is_tally_of l.member l.incarnation) s.tallies.rows new (was down))

    clear : (l : Life) → IsClearOnceResolved p l → IsClearOnceResolved q (failed_life m i l)
    clear l was = by (is_life m i l && is_unharmed l.fate)
      where
        by : (x : Bool) → IsClearOnceResolved q (cond x (record l { fate = fate.Failed }) l)
        by true down calm = absurd (true≢false calm)
        by false down calm = marks l.member l.incarnation ∙ was down calm

    within : (l : Life) → HasLog l.member p → HasLog (failed_life m i l).member q
    within l was = by (is_life m i l && is_unharmed l.fate)
      where
        by : (x : Bool) → HasLog (cond x (record l { fate = fate.Failed }) l).member q
        by true = subst (λ (n : ℕ). member_number l.member ≤ n) (sym logs) was
        by false = subst (λ (n : ℕ). member_number l.member ≤ n) (sym logs) was

    counted : (k : Member) → IsWorkCounted k (s.tallies.rows ++ new ∷ []) (peer_of k r.peers).work
    counted k = subst (λ xs. IsWorkCounted k (s.tallies.rows ++ new ∷ []) (peer_of k xs).work) (sym (ap (λ (x : State). x.peers) end.after)) (elim (cases_member k m) [
      | inl same ↦ subst (λ (x : Peer). IsWorkCounted k (s.tallies.rows ++ new ∷ []) x.work) (sym (ap (λ j. peer_of j (with_peer m (ended_peer (peer_of m s.peers)) s.peers)) same ∙ peer_same m (ended_peer (peer_of m s.peers)) s.peers eight)) tt
      | inr differ ↦ subst (λ (x : Peer). IsWorkCounted k (s.tallies.rows ++ new ∷ []) x.work) (sym (peer_other m k (ended_peer (peer_of m s.peers)) s.peers differ)) (push_counted k s.tallies.rows new (peer_of k s.peers).work (t.counted k))
    ])

-- ---- a START

pub tallied_after_start : (a b : ℕ) (m : Member) (d : Directive) (s r : State) → IsSteady a b s.parts → HasMember m s.parts → IfSome s.starting (λ (w : StartWork). w.member ≡ m) → MayStartAt (start_before m s).phase m s.parts → answers_in_all s.courses ≤ answers_in_all r.courses
    → IsStartStep m d s r → AreTallied s → AreTallied r
tallied_after_start a b m d s r steady has own may answers step t = by leaves.repo
  where
    p : Owned
    p = s.parts

    q : Owned
    q = r.parts

    w : StartWork
    w = start_before m s

    o : Option Reply
    o = start_reply m step.turn

    is : w.member ≡ m
    is = before_own m s.starting own

    there : HasMember w.member p
    there = subst (λ k. HasMember k p) (sym is) has

    parts : q ≡ step.parts
    parts = ap (λ (x : State). x.parts) step.after ∙ as_parts o d step.work step.parts s

    peers : r.peers ≡ s.peers
    peers = ap (λ (x : State). x.peers) step.after ∙ as_peers o d step.work step.parts s

    tallies : r.tallies ≡ s.tallies
    tallies = ap (λ (x : State). x.tallies) step.after ∙ as_tallies o
      where
        as_tallies : (o : Option Reply) → (started_as o d step.work step.parts s).tallies ≡ s.tallies
        as_tallies None = refl
        as_tallies (Some reply) = refl

    next : NextStart w p (Ok step.turn) step.work q
    next = subst (NextStart w p (Ok step.turn) step.work) (sym parts) step.next

    leaves : StartLeaves w.member p q
    leaves = start_leaves a b w p step.turn step.work q steady there (subst (λ k. MayStartAt w.phase k p) (sym is) may) next

    -- what is unresolved stays so
    left : ((k : Member) (i : Incarnation) → is_unresolved k i p.repo ≡ true → is_unresolved k i q.repo ≡ true) → LeavesOver p q
    left unresolved = record {
      over = λ life over. start_over a b life w p (Ok step.turn) step.work q steady there next over;
      marks = λ life over. ap (marks_of life.member life.incarnation) leaves.structures;
      unresolved = unresolved;
    }

    done : LivesStay p p.repo.lives q.repo.lives → q.repo.starts ≡ p.repo.starts → LeavesOver p q → AreTallied r
    done lives starts over = tallied_still s r tallies lives starts leaves.counts.logs (same_empty p q leaves.structures t.empty) peers over
        (λ k i. omega (arith, ap (marks_of k i) leaves.structures, t.few k i, answers)) t

    by : (q.repo ≡ p.repo) ⊎ (q.repo ≡ given_in w.member p.repo) → AreTallied r
    by (inl same) = done (same_lives p p.repo.lives q.repo.lives (ap (λ (x : Repository). x.lives) same)) (ap (λ (x : Repository). x.starts) same) (left (λ k i was. subst (λ (x : Repository). is_unresolved k i x ≡ true) (sym same) was))
    by (inr given) = done
        (more_lives p (record { member = w.member; incarnation = next_incarnation w.member p.repo; fate = fate.Up }) p.repo.lives q.repo.lives refl there.log (ap (λ (x : Repository). x.lives) given))
        (ap (λ (x : Repository). x.starts) given)
        (left (λ k i was. subst (λ (x : Repository). is_unresolved k i x ≡ true) (sym given) (starts_unresolved k w.member i p.repo ∙ was)))
