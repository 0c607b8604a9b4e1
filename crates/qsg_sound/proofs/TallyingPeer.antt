-- what is counted of incarnations that failed stays true in the steps of system tasks
use Rattle.std.proofs.Common.{◌≡◌, inl, inr, ℕ, ◌-◌, ◌+◌, ◌≤◌, ◌<◌, Bool, true, false, cond, List, [], ◌∷◌, length, map, Option, Some, None, Result, Ok, Err, refl, sym, ap, subst, ◌∙◌, true≢false, length-set, arith}
use Rattle.std.specs.Prelude.{◌^◌, ◌&&◌, ◌||◌, ◌⊎◌, not, nat_lt, min, count_by, IsSome}
use Rattle.std.specs.List.{AllByRecursion, list_any}
use Rattle.std.proofs.lemmas.Bool.{cases_Bool, and_parts, eq-eqb}
use Rattle.std.proofs.lemmas.Bool.Decides.{nat_tests}
use Rattle.std.proofs.lemmas.List.Sums.{sum_by-set, get_or-le-sum_by}
use Rattle.std.proofs.lemmas.List.{get_or-set_same, get_or-set_other}
use Rattle.std.proofs.lemmas.Option.{same_Some}
use Rattle.qsg_num.specs.declared.seats.Member.{Member}
use Rattle.qsg_num.specs.declared.ids.Incarnation.{Incarnation}
use Rattle.qsg_num.specs.declared.ids.UnitName.{UnitName}
use Rattle.qsg_num.specs.Seats.{member_number}
use Rattle.qsg_lists.specs.declared.parts.Lost.{Lost}
use Rattle.qsg_lists.specs.declared.parts.Settled.{Settled}
use Rattle.qsg_lists.specs.declared.parts.Settled.TheVariants.{Done, NotYours}
use Rattle.qsg_repo.specs.declared.lives.Fate.{Fate}
use Rattle.qsg_repo.specs.declared.lives.Fate.TheVariants as fate
use Rattle.qsg_repo.specs.declared.lives.Life.{Life}
use Rattle.qsg_repo.specs.Lives.{is_up, is_life, is_failed, is_failed_life, resolved_life, first_open}
use Rattle.qsg_repo.specs.Calls.{is_unresolved}
use Rattle.qsg_repo.specs.Tables.{Repository}
use Rattle.qsg_group.proofs.Tables.{cases_member}
use Rattle.qsg_manager.specs.declared.structures.MarkedEntry.{MarkedEntry}
use Rattle.qsg_manager.specs.Marked.{marks_of}
use Rattle.qsg_logs.proofs.Owners.{all_weaker}
use Rattle.qsg_parts.specs.Owned.{Owned}
use Rattle.qsg_walk.specs.Walks.{Walk}
use Rattle.qsg_steady.proofs.Places.{member_some, member_few}
use Rattle.qsg_peer.specs.declared.phases.FailedLife.{FailedLife}
use Rattle.qsg_peer.specs.declared.phases.PeerTurn.{PeerTurn}
use Rattle.qsg_peer.specs.declared.phases.PeerTurn.TheVariants.{More, Nothing, Resolved, GaveUp}
use Rattle.qsg_peer.specs.declared.phases.Phase.{Phase}
use Rattle.qsg_peer.specs.declared.phases.Phase.TheVariants.{Find, Low, At}
use Rattle.qsg_peer.specs.declared.phases.Stage.{Stage}
use Rattle.qsg_peer.specs.declared.phases.Stage.TheVariants.{Read, Connect, Search, Settle, Resolve}
use Rattle.qsg_peer.specs.Machine.{is_of, IsOver}
use Rattle.qsg_peer.specs.Needs.{HasLog, AreMembers}
use Rattle.qsg_peer.specs.Reading.{life_at}
use Rattle.qsg_peer.specs.Steps.{Next, found_phase, after_find, mark_answer, Acts, GoesOn, NextAt, NextPeer}
use Rattle.qsg_peer.specs.Works.{Work, IsSound, IsSoundAt}
use Rattle.qsg_peer.proofs.Sweeping.{resolve_ends}
use Rattle.qsg_peers.specs.Peers.{Peer, peer_of, with_peer, after_turn, taken_if}
use Rattle.qsg_tallies.specs.declared.tally.Tally.{Tally}
use Rattle.qsg_tallies.specs.Tallies.{is_tally_of, count_in, taken_off, with_one, counted_in}
use Rattle.qsg_lives.specs.Marks.{marks_left, came_off_by, came_off_on, came_off, AreEmptyUnlessActive}
use Rattle.qsg_lives.proofs.Clearing.{clear_none}
use Rattle.qsg_lives.proofs.Counting.{same_life as same_unit, step_counts, step_settled}
use Rattle.qsg_lives.proofs.Incarnations.{same_life, life_is}
use Rattle.qsg_lives.proofs.Overs.{peer_over}
use Rattle.qsg_lives.proofs.Taking.{peer_few, peer_empty}
use Rattle.qsg_step.specs.States.{State, is_member_up}
use Rattle.qsg_step.specs.Steps.{peer_work_or, peer_work_before, peer_before, tallied, IsPeerStep}
use Rattle.qsg_sound.specs.Sound.{ArePeersKept}
use Rattle.qsg_sound.specs.Systems.{IsPeerAt}
use Rattle.qsg_sound.specs.Tallying.{life_of, IsTallied, is_down, tally_of, AreApart, IsCountedBy, IsCountedAt, IsWorkCounted, IsClearOnceResolved, AreTallied}
use Rattle.qsg_sound.proofs.SystemsFound.{found_is}
use Rattle.qsg_sound.proofs.SystemsOwn.{repo_after, PeerLeaves, peer_leaves, before_at, before_kept}
use Rattle.qsg_sound.proofs.SystemsPeers.{ArePeers, peer_same, peer_other}
use Rattle.qsg_sound.proofs.TallyingRows.{one_if, all_map, found_tally, down_resolved, resolve_down, counted_all, counted_length, counted_names, FoundStill, counted_found, counted_here}
use Rattle.qsg_sound.proofs.TallyingSteps.{answers_in_all}

-- ---- marks that come off

-- a step takes no mark off, or one of a unit of the incarnation
pub data ComesOff (life : FailedLife) (off : FailedLife → ℕ) : Type 0 where
  none_off : ((x : FailedLife) → off x ≡ 0) → ComesOff life off
  one_off : (u : UnitName) → is_of life u ≡ true → ((x : FailedLife) → off x ≡ cond (is_of x u) 1 0) → ComesOff life off

settle_off : (life : FailedLife) (found : MarkedEntry) (answer : Result Settled Lost) → is_of life found.unit ≡ true → ComesOff life (λ x. came_off_by x found answer)
settle_off life found (Ok Done) is = one_off found.unit is (λ x. refl)
settle_off life found (Ok (NotYours mark)) is = none_off (λ x. refl)
settle_off life found (Err lost) is = none_off (λ x. refl)

pub stage_off : (life : FailedLife) (stage : Stage) (walk : Walk) (p : Owned) → IsSoundAt life stage walk → ComesOff life (λ x. came_off_on x stage p)
stage_off life Read walk p sound = none_off (λ x. refl)
stage_off life (Connect s) walk p sound = none_off (λ x. refl)
stage_off life (Search connection after) walk p sound = none_off (λ x. refl)
stage_off life (Settle connection found) walk p sound = settle_off life found (mark_answer connection found p) sound.2
stage_off life Resolve walk p sound = none_off (λ x. refl)

-- ---- tallies and units

self_same : (m : Member) (i : Incarnation) → same_life m i m i ≡ true
self_same m i = λ c. eq-eqb (member_number m) (member_number m) refl c && eq-eqb i.number i.number refl c

-- the tally is that of the unit's incarnation
named_of : (life : FailedLife) (u : UnitName) (t : Tally) → is_of life u ≡ true → is_tally_of life.member life.incarnation t ≡ true → is_of (life_of t) u ≡ true
named_of life u t is named =
    let same = life_is t.member life.member t.incarnation life.incarnation named in
    subst (λ k. is_of (record { member = k; incarnation = t.incarnation }) u ≡ true) (sym same.0) (subst (λ j. is_of (record { member = life.member; incarnation = j }) u ≡ true) (sym same.1) is)

other_of : (life : FailedLife) (u : UnitName) (t : Tally) → is_of life u ≡ true → is_tally_of life.member life.incarnation t ≡ false → is_of (life_of t) u ≡ false
other_of life u t is named = elim (cases_Bool (is_of (life_of t) u)) [
  | inl also ↦
      let one = same_unit life u is in
      let two = same_unit (life_of t) u also in
      let members : t.member ≡ life.member = sym two.0 ∙ one.0 in
      let numbers : t.incarnation.number ≡ life.incarnation.number = sym two.1 ∙ one.1 in
      absurd (true≢false (sym (λ c. eq-eqb (member_number t.member) (member_number life.member) (ap member_number members) c && eq-eqb t.incarnation.number life.incarnation.number numbers c) ∙ named))
  | inr differ ↦ differ
]

-- what a member's count is at most
count_few : (p : Owned) (m : Member) (t : Tally) → IsTallied p t → count_in m t < 2 ^ 30
count_few p m t is =
    let one = member_some m in
    let few = member_few m in
    let within : member_number m - 1 < length t.counts = omega (arith, one, few, is.eight) in
    omega (arith, get_or-le-sum_by (λ (n : ℕ). n) t.counts (member_number m - 1) 0 within, is.marks, is.few)

least_one : (n : ℕ) → n < 2 ^ 30 → min (n + 1) (2 ^ 32 - 1) ≡ n + 1
least_one n few = omega (arith, few)

one_taken : (p : Owned) (m : Member) (t : Tally) → IsTallied p t → taken_off (with_one m t) ≡ taken_off t + 1
one_taken p m t is =
    let one = member_some m in
    let few = member_few m in
    let within : member_number m - 1 < length t.counts = omega (arith, one, few, is.eight) in
    omega (arith, sum_by-set (λ (n : ℕ). n) t.counts (member_number m - 1) (min (count_in m t + 1) (2 ^ 32 - 1)) 0 within, least_one (count_in m t) (count_few p m t is))

one_own : (p : Owned) (m : Member) (t : Tally) → IsTallied p t → count_in m (with_one m t) ≡ count_in m t + 1
one_own p m t is =
    let one = member_some m in
    let few = member_few m in
    get_or-set_same t.counts (member_number m - 1) (min (count_in m t + 1) (2 ^ 32 - 1)) 0 (omega (arith, one, few, is.eight)) ∙ least_one (count_in m t) (count_few p m t is)

one_other : (p : Owned) (m k : Member) (t : Tally) → IsTallied p t → count_in k t ≤ count_in k (with_one m t)
one_other p m k t is = elim (cases_member k m) [
  | inl same ↦ subst (λ j. count_in j t ≤ count_in j (with_one m t)) (sym same) (omega (arith, one_own p m t is))
  | inr differ ↦ let one = member_some m in let two = member_some k in
      omega (arith, get_or-set_other t.counts (member_number m - 1) (member_number k - 1) (min (count_in m t + 1) (2 ^ 32 - 1)) 0 (λ e. differ (omega (arith, e, one, two))))
]

-- ---- an incarnation that is resolved

or_first : (a b c d : Bool) → (a ≡ true → c ≡ true) → (b ≡ true → d ≡ true) → (a || b) ≡ true → (c || d) ≡ true
or_first true b c d one two is = ap (λ (x : Bool). x || d) (one refl)
or_first false true true d one two is = refl
or_first false true false d one two is = two refl
or_first false false c d one two is = absurd (true≢false (sym is))

-- another one is unresolved still
other_unresolved : (k m : Member) (i j : Incarnation) (ls : List Life) → same_life k i m j ≡ false → list_any (is_failed_life k i) ls ≡ true → list_any (is_failed_life k i) (map (resolved_life m j) ls) ≡ true
other_unresolved k m i j [] differ is = is
other_unresolved k m i j (l ∷ ls) differ is =
    or_first (is_failed_life k i l) (list_any (is_failed_life k i) ls) (is_failed_life k i (resolved_life m j l)) (list_any (is_failed_life k i) (map (resolved_life m j) ls)) (λ own. by own (is_failed_life m j l) refl) (other_unresolved k m i j ls differ) is
  where
    apart : is_life k i l ≡ true → is_life m j l ≡ true → same_life k i m j ≡ true
    apart one two =
        let a = life_is l.member k l.incarnation i one in
        let b = life_is l.member m l.incarnation j two in
        subst (λ x. same_life x i m j ≡ true) a.0 (subst (λ x. same_life l.member x m j ≡ true) a.1 (subst (λ x. same_life l.member l.incarnation x j ≡ true) b.0 (subst (λ x. same_life l.member l.incarnation l.member x ≡ true) b.1 (self_same l.member l.incarnation))))

    by : is_failed_life k i l ≡ true → (b : Bool) → is_failed_life m j l ≡ b → is_failed_life k i (cond b (record l { fate = fate.Resolved }) l) ≡ true
    by own true is = absurd (true≢false (sym (apart (and_parts (is_life k i l) (is_failed l.fate) own).0 (and_parts (is_life m j l) (is_failed l.fate) is).0) ∙ differ))
    by own false is = own

-- ---- what a step of a system task leaves

module _ (m : Member) (s r : State) (step : IsPeerStep m s r) (few : length s.parts.structures ≤ 4) (kept : ArePeersKept s) (up : is_member_up m s ≡ true) (eight : length s.peers ≡ 8) (are : ArePeers s) (t : AreTallied s) where
  abbrev p : Owned
  p = s.parts

  abbrev q : Owned
  q = step.parts

  abbrev w : Work
  w = peer_work_before m s

  abbrev v : Work
  v = step.steps.work

  abbrev skip : List (Member × Incarnation)
  skip = (peer_before m s).given_up

  abbrev turn : PeerTurn
  turn = step.steps.turn

  next : NextPeer skip w p (Ok turn) v q
  next = step.steps.next

  at : IsPeerAt m w s
  at = before_at m s up (are m)

  sound : IsSound w.phase w.walk
  sound = before_kept m s (kept m)

  leaves : PeerLeaves turn p q
  leaves = peer_leaves skip w p turn v q next

  fewer : (k : Member) (i : Incarnation) → marks_of k i q.structures ≤ marks_of k i p.structures
  fewer k i = peer_few (record { member = k; incarnation = i }) skip w p (Ok turn) v q at.may next

  -- where an incarnation isn't unresolved any more, none of its marks stand
  cleared : (k : Member) (i : Incarnation) → is_unresolved k i p.repo ≡ true → is_unresolved k i q.repo ≡ false → marks_of k i p.structures ≡ 0
  cleared k i was is = by turn next (subst (λ (x : Repository). is_unresolved k i x ≡ false) leaves.repo is)
    where
      by : (turn : PeerTurn) → NextPeer skip w p (Ok turn) v q → is_unresolved k i (repo_after turn p.repo) ≡ false → marks_of k i p.structures ≡ 0
      by More made is = absurd (true≢false (sym was ∙ is))
      by Nothing made is = absurd (true≢false (sym was ∙ is))
      by (GaveUp n j why) made is = absurd (true≢false (sym was ∙ is))
      by (Resolved n j count) made is = elim (cases_Bool (same_life k i n j)) [
        | inl same ↦
            let one = life_is k n i j same in
            let clear = (resolve_ends skip w p n j count v q at.swept made).clear in
            subst (λ x. marks_of x i p.structures ≡ 0) (sym one.0) (subst (λ x. marks_of n x p.structures ≡ 0) (sym one.1) (clear_none (record { member = n; incarnation = j }) p t.empty few clear))
        | inr differ ↦ absurd (true≢false (sym (other_unresolved k n i j p.repo.lives differ was) ∙ is))
      ]

  no_more : (k : Member) (i : Incarnation) → marks_of k i p.structures ≡ 0 → marks_of k i q.structures ≡ 0
  no_more k i none = omega (arith, none, fewer k i)

  clear_now : (k : Member) (i : Incarnation) → (is_unresolved k i p.repo ≡ false → marks_of k i p.structures ≡ 0) → is_unresolved k i q.repo ≡ false → marks_of k i q.structures ≡ 0
  clear_now k i clear is = no_more k i (by (cases_Bool (is_unresolved k i p.repo)))
    where
      by : (is_unresolved k i p.repo ≡ true) ⊎ (is_unresolved k i p.repo ≡ false) → marks_of k i p.structures ≡ 0
      by (inl was) = cleared k i was is
      by (inr none) = clear none

  -- a tally of whose incarnation so many marks came off, and that has counted as many
  tally_now : (old new : Tally) (n : ℕ) → new.member ≡ old.member → new.incarnation ≡ old.incarnation → new.marks ≡ old.marks → length new.counts ≡ length old.counts → taken_off new ≡ taken_off old + n → came_off (life_of old) w.phase p ≡ n → IsTallied p old → IsTallied q new
  tally_now old new n member incarnation marks count taken off is = record {
    over = subst (λ x. IsOver x q) (λ c. record { member = sym member c; incarnation = sym incarnation c }) (peer_over (life_of old) skip w p (Ok turn) v q next is.over);
    eight = count ∙ is.eight;
    marks = subst (λ x. new.marks ≡ taken_off new + marks_left x q) (λ c. record { member = sym member c; incarnation = sym incarnation c })
        (omega (arith, marks, taken, off, is.marks, step_counts (life_of old) skip w p (Ok turn) v q sound at.may next));
    few = omega (arith, marks, is.few);
    clear = subst (λ x. is_unresolved x.member x.incarnation q.repo ≡ false → marks_left x q ≡ 0) (λ c. record { member = sym member c; incarnation = sym incarnation c }) (clear_now old.member old.incarnation is.clear);
  }

  -- ---- lives

  repo_lives : (P Q : Life → Type 0) → ((l : Life) → P l → Q l) → ((k : Member) (i : Incarnation) (n : ℕ) → turn ≡ Resolved k i n → (l : Life) → P l → Q (resolved_life k i l)) → AllByRecursion P p.repo.lives → AllByRecursion Q q.repo.lives
  repo_lives P Q same changed all = subst (AllByRecursion Q) (sym (ap (λ (x : Repository). x.lives) leaves.repo)) (by turn refl)
    where
      by : (x : PeerTurn) → turn ≡ x → AllByRecursion Q (repo_after x p.repo).lives
      by More is = all_weaker P Q p.repo.lives same all
      by Nothing is = all_weaker P Q p.repo.lives same all
      by (GaveUp k i why) is = all_weaker P Q p.repo.lives same all
      by (Resolved k i n) is = all_map P Q (resolved_life k i) p.repo.lives (changed k i n is) all

  downs_same : count_by is_down q.repo.lives ≡ count_by is_down p.repo.lives
  downs_same = ap (λ (x : Repository). count_by is_down x.lives) leaves.repo ∙ by turn
    where
      by : (x : PeerTurn) → count_by is_down (repo_after x p.repo).lives ≡ count_by is_down p.repo.lives
      by More = refl
      by Nothing = refl
      by (GaveUp k i why) = refl
      by (Resolved k i n) = down_resolved k i p.repo.lives

  starts_same : q.repo.starts ≡ p.repo.starts
  starts_same = ap (λ (x : Repository). x.starts) leaves.repo ∙ by turn
    where
      by : (x : PeerTurn) → (repo_after x p.repo).starts ≡ p.repo.starts
      by More = refl
      by Nothing = refl
      by (GaveUp k i why) = refl
      by (Resolved k i n) = refl

  -- the name of a life that is resolved stays
  resolved_keeps : (P : Member → Incarnation → Type 0) (k : Member) (i : Incarnation) (l : Life) → P l.member l.incarnation → P (resolved_life k i l).member (resolved_life k i l).incarnation
  resolved_keeps P k i l is = by (is_failed_life k i l)
    where
      by : (b : Bool) → P (cond b (record l { fate = fate.Resolved }) l).member (cond b (record l { fate = fate.Resolved }) l).incarnation
      by true = is
      by false = is

  resolved_now : (k : Member) (i : Incarnation) (n : ℕ) → turn ≡ Resolved k i n → (l : Life) → IsClearOnceResolved p l → IsClearOnceResolved q (resolved_life k i l)
  resolved_now k i n is l clear = by (is_failed_life k i l) refl
    where
      by : (b : Bool) → is_failed_life k i l ≡ b → IsClearOnceResolved q (cond b (record l { fate = fate.Resolved }) l)
      by true own down calm =
          let one = life_is l.member k l.incarnation i (and_parts (is_life k i l) (is_failed l.fate) own).0 in
          let none = clear_none (record { member = k; incarnation = i }) p t.empty few (resolve_ends skip w p k i n v q at.swept (subst (λ x. NextPeer skip w p (Ok x) v q) is next)).clear in
          no_more l.member l.incarnation (subst (λ x. marks_of x l.incarnation p.structures ≡ 0) (sym one.0) (subst (λ x. marks_of k x p.structures ≡ 0) (sym one.1) none))
      by false own down calm = no_more l.member l.incarnation (clear down calm)

  -- ---- rows

  -- what the rows of tallies are after the step
  record RowsMove (now : List Tally) : Type 0 where
    pub tallied : AllByRecursion (IsTallied q) now
    pub count : length now ≡ length s.tallies.rows
    pub apart : AreApart now
    pub some : (k : Member) (i : Incarnation) → IsSome (tally_of k i s.tallies.rows) → IsSome (tally_of k i now)
    pub counts : (k x : Member) (i : Incarnation) (old : Tally) → tally_of x i s.tallies.rows ≡ Some old → FoundStill (λ old new. count_in k old ≤ count_in k new) x i now old
    pub own : IsCountedAt m w.phase s.tallies.rows w.settled → More ≡ turn → IsCountedAt m v.phase now v.settled

  other_counted : (k : Member) (now : List Tally) (work : Option Work) → RowsMove now → IsWorkCounted k s.tallies.rows work → IsWorkCounted k now work
  other_counted k now None move is = tt
  other_counted k now (Some work) move is = by_phase work.phase is
    where
      by : (life : FailedLife) (o : Option Tally) → tally_of life.member life.incarnation s.tallies.rows ≡ o → IsCountedBy k o work.settled → IsCountedBy k (tally_of life.member life.incarnation now) work.settled
      by life None found few = absurd few
      by life (Some old) found few = let f = move.counts k life.member life.incarnation old found in subst (λ o. IsCountedBy k o work.settled) (sym f.is) (omega (arith, few, f.holds))

      by_phase : (phase : Phase) → IsCountedAt k phase s.tallies.rows work.settled → IsCountedAt k phase now work.settled
      by_phase Find none = none
      by_phase (Low life) is = (is.0, move.some life.member life.incarnation is.1)
      by_phase (At life stage) few = by life (tally_of life.member life.incarnation s.tallies.rows) refl few

  before_counted : IsCountedAt m w.phase s.tallies.rows w.settled
  before_counted = by (peer_of m s.peers).work (t.counted m)
    where
      by : (o : Option Work) → IsWorkCounted m s.tallies.rows o → IsCountedAt m (peer_work_or m o).phase s.tallies.rows (peer_work_or m o).settled
      by None is = refl
      by (Some work) is = is

  moved : (now : List Tally) → r.tallies.rows ≡ now → RowsMove now → r.tallies.limit ≡ s.tallies.limit → AreTallied r
  moved now rows move limit = record {
    room = omega (arith, limit, ap (λ (x : State). x.parts.repo.starts) step.after, starts_same, t.room);
    rows = omega (arith, ap length rows, move.count, t.rows, ap (λ (x : State). count_by is_down x.parts.repo.lives) step.after, downs_same);
    tallied = subst (λ x. AllByRecursion (IsTallied x.parts) r.tallies.rows) (sym step.after) (subst (AllByRecursion (IsTallied q)) (sym rows) move.tallied);
    apart = subst AreApart (sym rows) move.apart;
    failed = subst (λ x. AllByRecursion (λ (l : Life). is_down l ≡ true → IsSome (tally_of l.member l.incarnation r.tallies.rows)) x.parts.repo.lives) (sym step.after)
        (subst (λ ts. AllByRecursion (λ (l : Life). is_down l ≡ true → IsSome (tally_of l.member l.incarnation ts)) q.repo.lives) (sym rows)
        (repo_lives (λ (l : Life). is_down l ≡ true → IsSome (tally_of l.member l.incarnation s.tallies.rows)) (λ (l : Life). is_down l ≡ true → IsSome (tally_of l.member l.incarnation now))
        (λ l named down. move.some l.member l.incarnation (named down))
        (λ k i n is l named down. resolved_keeps (λ x j. IsSome (tally_of x j now)) k i l (move.some l.member l.incarnation (named (sym (resolve_down k i l) ∙ down)))) t.failed));
    resolved = subst (λ x. AllByRecursion (IsClearOnceResolved x.parts) x.parts.repo.lives) (sym step.after)
        (repo_lives (IsClearOnceResolved p) (IsClearOnceResolved q) (λ l clear down calm. no_more l.member l.incarnation (clear down calm)) resolved_now t.resolved);
    counted = λ k. subst (λ ts. IsWorkCounted k ts (peer_of k r.peers).work) (sym rows) (subst (λ x. IsWorkCounted k now (peer_of k x.peers).work) (sym step.after) (counted k (cases_member k m)));
    few = λ k i. omega (arith, t.few k i, fewer k i, ap (λ (x : State). marks_of k i x.parts.structures) step.after, ap (λ (x : State). answers_in_all x.courses) step.after);
    empty = subst (λ x. AreEmptyUnlessActive x.parts) (sym step.after) (peer_empty skip w p (Ok turn) v q at.may next t.empty);
    members = subst (λ x. AreMembers x.parts) (sym step.after)
        (repo_lives (λ (l : Life). HasLog l.member p) (λ (l : Life). HasLog l.member q) (λ l has. subst (λ (n : ℕ). member_number l.member ≤ n) (sym leaves.logs) has)
        (λ k i n is l has. resolved_keeps (λ x j. HasLog x q) k i l (subst (λ (n : ℕ). member_number l.member ≤ n) (sym leaves.logs) has)) t.members);
  }
    where
      after : (x : PeerTurn) → x ≡ turn → IsWorkCounted m now (after_turn (length p.history.items) x v (peer_before m s)).work
      after More is = move.own before_counted is
      after Nothing is = tt
      after (Resolved k i n) is = tt
      after (GaveUp k i why) is = tt

      counted : (k : Member) → (k ≡ m) ⊎ (member_number k ≡ member_number m → ⊥) → IsWorkCounted k now (peer_of k (with_peer m step.peer s.peers)).work
      counted k (inl same) = subst (λ (y : Peer). IsWorkCounted k now y.work) (sym (ap (λ j. peer_of j (with_peer m step.peer s.peers)) same ∙ peer_same m step.peer s.peers eight))
          (subst (λ j. IsWorkCounted j now step.peer.work) (sym same) (subst (λ (y : Peer). IsWorkCounted m now y.work) (sym step.steps.after) (after turn refl)))
      counted k (inr differ) = subst (λ (y : Peer). IsWorkCounted k now y.work) (sym (peer_other m k step.peer s.peers differ)) (other_counted k now (peer_of k s.peers).work move (t.counted k))

  -- ---- a step that takes no mark off

  none_moves : ((x : FailedLife) → came_off x w.phase p ≡ 0) → (IsCountedAt m w.phase s.tallies.rows w.settled → More ≡ turn → IsCountedAt m v.phase s.tallies.rows v.settled) → RowsMove s.tallies.rows
  none_moves none own = record {
    tallied = all_weaker (IsTallied p) (IsTallied q) s.tallies.rows (λ x is. tally_now x x 0 refl refl refl refl (omega arith) (none (life_of x)) is) t.tallied;
    count = refl;
    apart = t.apart;
    some = λ k i some. some;
    counts = λ k x i old found. record { new = old; is = found; holds = omega arith };
    own = own;
  }

  unmoved_rows : step.off ≡ None → RowsMove s.tallies.rows → AreTallied r
  unmoved_rows off move = moved s.tallies.rows (ap (λ (x : State). x.tallies.rows) step.after ∙ ap (λ o. (tallied o m s.tallies).rows) off) move (ap (λ (x : State). x.tallies.limit) step.after ∙ ap (λ o. (tallied o m s.tallies).limit) off)

  -- ---- one that takes one off

  one_moves : (life : FailedLife) (u : UnitName) → is_of life u ≡ true → ((x : FailedLife) → came_off x w.phase p ≡ cond (is_of x u) 1 0) → (IsCountedAt m w.phase s.tallies.rows w.settled → More ≡ turn → IsCountedAt m v.phase (counted_in life.member life.incarnation m s.tallies.rows) v.settled)
      → RowsMove (counted_in life.member life.incarnation m s.tallies.rows)
  one_moves life u is off own =
      let of = life.member in
      let i = life.incarnation in
      let rows = s.tallies.rows in
      record {
        tallied = counted_all (IsTallied p) (IsTallied q) of i m rows
            (λ x named told. tally_now x (with_one m x) 1 refl refl refl (length-set x.counts (member_number m - 1) (min (count_in m x + 1) (2 ^ 32 - 1))) (one_taken p m x told) (off (life_of x) ∙ ap one_if (named_of life u x is named)) told)
            (λ x named told. tally_now x x 0 refl refl refl refl (omega arith) (off (life_of x) ∙ ap one_if (other_of life u x is named)) told) (t.apart of i) t.tallied;
        count = counted_length of i m rows;
        apart = λ k j. omega (arith, counted_names k j of i m rows, t.apart k j);
        some = λ k j some. some_of k j some;
        counts = λ k x j old found. counted_found (IsTallied p) (λ old new. count_in k old ≤ count_in k new) x j of i m rows old (λ y told. omega arith) (λ y told named. one_other p m k y told) t.tallied found;
        own = own;
      }
    where
      some_of : (k : Member) (j : Incarnation) → IsSome (tally_of k j s.tallies.rows) → IsSome (tally_of k j (counted_in life.member life.incarnation m s.tallies.rows))
      some_of k j some =
          let f = found_tally (IsTallied p) k j s.tallies.rows t.tallied some in
          let g = counted_found (IsTallied p) (λ old new. Unit {0}) k j life.member life.incarnation m s.tallies.rows f.tally (λ y told. tt) (λ y told named. tt) t.tallied f.is in
          subst (λ (o : Option Tally). IsSome o) (sym g.is) refl

  -- ---- what the work has counted

  counted_none : (o : Option Tally) (n : ℕ) → IsSome o → n ≡ 0 → IsCountedBy m o n
  counted_none None n some none = absurd (true≢false (sym some))
  counted_none (Some x) n some none = omega (arith, none)

  taken_none : (b : Bool) → taken_if b None ≡ None
  taken_none true = refl
  taken_none false = refl

  -- the incarnation stays that on which the work works
  act_phase : (life : FailedLife) (stage : Stage) (z : Work) → Acts life stage z p (Ok More) v q → (after : Stage) × (v.phase ≡ At life after)
  act_phase life Read z (has, inl failed) = absurd (cc failed.turn_is)
  act_phase life Read z (has, inr found) = (_, ap (λ (x : Work). x.phase) found.work_is)
  act_phase life (Connect x) z acts = (_, ap (λ (n : Next). n.work.phase) acts)
  act_phase life (Search c after) z acts = (_, ap (λ (n : Next). n.work.phase) acts)
  act_phase life (Settle c found) z acts = (_, ap (λ (n : Next). n.work.phase) acts)
  act_phase life Resolve z acts = absurd (cc (ap (λ (n : Next). n.turn) acts))

  goes_phase : (life : FailedLife) (stage : Stage) → GoesOn life stage w p (Ok More) v q → (after : Stage) × (v.phase ≡ At life after)
  goes_phase life stage (inl given) = absurd (cc given.turn_is)
  goes_phase life stage (inr (inl lacks)) = absurd (cc lacks.refused)
  goes_phase life stage (inr (inr acted)) = act_phase life stage (record w { walk = acted.walk }) acted.acts

  by_more : {A : Type 0} → More ≡ turn → (NextPeer skip w p (Ok More) v q → A) → A
  by_more is f = f (subst (λ x. NextPeer skip w p (Ok x) v q) (sym is) next)

  -- by the phase at which the work was
  tallied_at : (phase : Phase) → w.phase ≡ phase → AreTallied r
  tallied_at Find is = unmoved_rows (step.steps.taken ∙ ap (λ x. taken_if (nat_lt w.settled v.settled) (life_at x)) is ∙ taken_none (nat_lt w.settled v.settled))
      (none_moves (λ x. ap (λ y. came_off x y p) is) (λ before more. by_more more (λ n. found (first_open skip p.repo.lives) refl (subst (λ x. IsCountedAt m x s.tallies.rows w.settled) is before) (subst (λ x. NextAt skip x w p (Ok More) v q) is n))))
    where
      found : (name : Option (Member × Incarnation)) → first_open skip p.repo.lives ≡ name → w.settled ≡ 0 → record { turn = More; work = v; parts = q } ≡ after_find (found_phase name) w p → IsCountedAt m v.phase s.tallies.rows v.settled
      found None first none made = absurd (cc (ap (λ (n : Next). n.turn) made))
      found (Some name) first none made =
          let named : IsSome (tally_of name.0 name.1 s.tallies.rows) = found_is (λ n. IsSome (tally_of n.0 n.1 s.tallies.rows)) skip p.repo.lives name (all_weaker (λ (l : Life). is_down l ≡ true → IsSome (tally_of l.member l.incarnation s.tallies.rows)) _ p.repo.lives (λ l has failed. has (failed_down l failed)) t.failed) first in
          subst (λ (n : Next). IsCountedAt m n.work.phase s.tallies.rows n.work.settled) (sym made) (none, named)
        where
          failed_down : (l : Life) → is_failed l.fate ≡ true → is_down l ≡ true
          failed_down l is = by_fate l.fate is
            where
              by_fate : (x : Fate) → is_failed x ≡ true → not (is_up x) ≡ true
              by_fate fate.Up is = absurd (true≢false (sym is))
              by_fate fate.Stopped is = refl
              by_fate fate.Failed is = refl
              by_fate fate.Resolved is = refl
  tallied_at (Low life) is = unmoved_rows (step.steps.taken ∙ ap (λ x. taken_if (nat_lt w.settled v.settled) (life_at x)) is ∙ taken_none (nat_lt w.settled v.settled))
      (none_moves (λ x. ap (λ y. came_off x y p) is) (λ before more. by_more more (λ n.
      let was = subst (λ x. IsCountedAt m x s.tallies.rows w.settled) is before in
      let made = subst (λ x. NextAt skip x w p (Ok More) v q) is n in
      subst (λ (n : Next). IsCountedAt m n.work.phase s.tallies.rows n.work.settled) (sym made) (counted_none (tally_of life.member life.incarnation s.tallies.rows) w.settled was.1 was.0))))
  tallied_at (At life stage) is = by_off (stage_off life stage w.walk p (subst (λ x. IsSound x w.walk) is sound))
    where
      few_settled : IsCountedBy m (tally_of life.member life.incarnation s.tallies.rows) w.settled
      few_settled = subst (λ x. IsCountedAt m x s.tallies.rows w.settled) is before_counted

      -- the tally of the incarnation
      found_own : (old : Tally) × (tally_of life.member life.incarnation s.tallies.rows ≡ Some old) × (w.settled ≤ count_in m old) × IsTallied p old
      found_own = by (tally_of life.member life.incarnation s.tallies.rows) refl few_settled
        where
          by : (o : Option Tally) → tally_of life.member life.incarnation s.tallies.rows ≡ o → IsCountedBy m o w.settled → (old : Tally) × (tally_of life.member life.incarnation s.tallies.rows ≡ Some old) × (w.settled ≤ count_in m old) × IsTallied p old
          by None found few = absurd few
          by (Some old) found few =
              let f = found_tally (IsTallied p) life.member life.incarnation s.tallies.rows t.tallied (subst (λ (o : Option Tally). IsSome o) (sym found) refl) in
              (old, found, few, subst (IsTallied p) (same_Some f.tally old (sym f.is ∙ found)) f.holds)

      few_now : w.settled < 2 ^ 30
      few_now = omega (arith, found_own.2, count_few p m found_own.0 found_own.3)

      settled_now : (n : ℕ) → n ≤ 1 → came_off life w.phase p ≡ n → v.settled ≡ w.settled + n
      settled_now n least off = step_settled life stage skip w p turn v q is (subst (λ x. IsSound x w.walk) is sound) (omega (arith, few_now, off, least)) next ∙ ap (λ (x : ℕ). w.settled + x) off

      at_stage : {A : Type 0} → More ≡ turn → ((after : Stage) → v.phase ≡ At life after → A) → A
      at_stage more f = by_more more (λ n. let after = goes_phase life stage (subst (λ x. NextAt skip x w p (Ok More) v q) is n) in f after.0 after.1)

      by_off : ComesOff life (λ x. came_off_on x stage p) → AreTallied r
      by_off (none_off none) =
          let all : (x : FailedLife) → came_off x w.phase p ≡ 0 = λ x. ap (λ y. came_off x y p) is ∙ none x in
          let same : v.settled ≡ w.settled = omega (arith, settled_now 0 (omega arith) (all life)) in
          unmoved_rows (step.steps.taken ∙ ap (λ b. taken_if b (life_at w.phase)) (not_less w.settled v.settled same))
          (none_moves all (λ before more. at_stage more (λ after at. subst (λ x. IsCountedAt m x s.tallies.rows v.settled) (sym at) (subst (λ (n : ℕ). IsCountedBy m (tally_of life.member life.incarnation s.tallies.rows) n) (sym same) few_settled))))
        where
          not_less : (a b : ℕ) → b ≡ a → nat_lt a b ≡ false
          not_less a b same = grind (arith, nat_tests)
      by_off (one_off u own off) =
          let all : (x : FailedLife) → came_off x w.phase p ≡ cond (is_of x u) 1 0 = λ x. ap (λ y. came_off x y p) is ∙ off x in
          let one : came_off life w.phase p ≡ 1 = all life ∙ ap one_if own in
          let more_settled : v.settled ≡ w.settled + 1 = settled_now 1 (omega arith) one in
          let taken : step.off ≡ Some life = step.steps.taken ∙ ap (λ b. taken_if b (life_at w.phase)) (less w.settled v.settled more_settled) ∙ ap life_at is in
          let now = counted_in life.member life.incarnation m s.tallies.rows in
          let here = counted_here life.member life.incarnation m s.tallies.rows found_own.0 found_own.1 in
          moved now (ap (λ (x : State). x.tallies.rows) step.after ∙ ap (λ o. (tallied o m s.tallies).rows) taken)
          (one_moves life u own all (λ before more. at_stage more (λ after at. subst (λ x. IsCountedAt m x now v.settled) (sym at)
          (subst (λ o. IsCountedBy m o v.settled) (sym here) (omega (arith, more_settled, found_own.2, one_own p m found_own.0 found_own.3))))))
          (ap (λ (x : State). x.tallies.limit) step.after ∙ ap (λ o. (tallied o m s.tallies).limit) taken)
        where
          less : (a b : ℕ) → b ≡ a + 1 → nat_lt a b ≡ true
          less a b more = grind (arith, nat_tests)

  pub tallied_after_peer : AreTallied r
  tallied_after_peer = tallied_at w.phase refl
