-- a step of a system task leaves the answers fitting
use Rattle.std.proofs.Common.{◌≡◌, ℕ, ◌+◌, ◌-◌, ◌^◌, ◌<◌, ◌≤◌, List, [], ◌∷◌, ◌++◌, length, map, Bool, true, false, cond, Option, Some, None, Result, Ok, Err, ◌⊎◌, inl, inr, refl, sym, ap, subst, ◌∙◌, arith, append-nil, true≢false}
use Rattle.std.specs.Prelude.{IfSome, min, ◌&&◌, ◌||◌}
use Rattle.std.specs.List.{AllByRecursion, list_any}
use Rattle.std.proofs.lemmas.List.{append_assoc, get_or-set_same, get_or-set_other}
use Rattle.std.proofs.lemmas.List.Elements.{filter_map-append}
use Rattle.std.proofs.lemmas.List.Sums.{get_or-le-sum_by}
use Rattle.qsg_num.specs.declared.seats.Member.{Member}
use Rattle.qsg_num.specs.declared.ids.Incarnation.{Incarnation}
use Rattle.qsg_num.specs.declared.words.LogWhy.{LogWhy}
use Rattle.qsg_num.specs.declared.words.LogWhy.TheVariants.{Device}
use Rattle.qsg_num.specs.Seats.{member_number, structure_number}
use Rattle.qsg_lists.specs.declared.parts.Connection.{Connection}
use Rattle.qsg_lists.specs.Settling.{settled_entry, revised_if_done}
use Rattle.qsg_logread.specs.Fed.{is_committed}
use Rattle.qsg_repo.specs.declared.lives.Life.{Life}
use Rattle.qsg_repo.specs.declared.lives.Fate.TheVariants as fate
use Rattle.qsg_repo.specs.Calls.{is_unresolved}
use Rattle.qsg_repo.specs.Lives.{is_life, is_failed_life, resolved_life, first_open}
use Rattle.qsg_requests.specs.declared.replies.Reason.TheVariants as reason
use Rattle.qsg_requests.specs.declared.replies.Reply.TheVariants as reply
use Rattle.qsg_requests.specs.declared.transcript.Answer.{Answer}
use Rattle.qsg_group.proofs.Tables.{cases_member}
use Rattle.qsg_group.specs.Laws.{HasEnded}
use Rattle.qsg_manager.specs.Groups.{seat_of}
use Rattle.qsg_manager.specs.declared.managers.Manager.{Manager}
use Rattle.qsg_manager.specs.declared.structures.MarkedEntry.{MarkedEntry}
use Rattle.qsg_manager.specs.Facilities.{structure_in}
use Rattle.qsg_manager.specs.Storage.{manager_in}
use Rattle.qsg_logs.specs.Kept.{KeptLog, log_in, with_log}
use Rattle.qsg_parts.specs.Owned.{Owned}
use Rattle.qsg_steady.proofs.Places.{member_some, member_few}
use Rattle.qsg_lives.proofs.Incarnations.{resolves_unresolved}
use Rattle.qsg_peer.specs.declared.phases.FailedLife.{FailedLife}
use Rattle.qsg_peer.specs.declared.phases.NoMemory.{NoMemory}
use Rattle.qsg_peer.specs.declared.phases.PeerTurn.{PeerTurn}
use Rattle.qsg_peer.specs.declared.phases.PeerTurn.TheVariants.{More, Nothing, Resolved, GaveUp}
use Rattle.qsg_peer.specs.declared.phases.Phase.{Phase}
use Rattle.qsg_peer.specs.declared.phases.Phase.TheVariants.{Find, Low, At}
use Rattle.qsg_peer.specs.declared.phases.Stage.{Stage}
use Rattle.qsg_peer.specs.declared.phases.Stage.TheVariants.{Read, Connect, Search, Settle, Resolve}
use Rattle.qsg_peer.specs.Machine.{IsOver}
use Rattle.qsg_peer.specs.Steps.{Next, life_of, found_phase, after_find, after_low, gave_up, after_connect, after_search, after_settle, after_resolve, mark_answer, with_mark_off, with_resolved, Acts, GoesOn, NextAt, NextPeer}
use Rattle.qsg_peer.specs.Works.{Work}
use Rattle.qsg_peers.specs.Peers.{Peer, new_peer, peer_of, with_peer, told, after_turn}
use Rattle.qsg_tallies.specs.declared.tally.Tally.{Tally}
use Rattle.qsg_tallies.specs.Tallies.{Tallied, is_tally_of, count_in, with_one, counted_in}
use Rattle.qsg_step.specs.States.{State}
use Rattle.qsg_step.specs.Steps.{peer_work_or, peer_work_before, peer_before, tallied, IsPeerStep}
use Rattle.qsg_sound.specs.Sound.{IsSound}
use Rattle.qsg_sound.specs.Systems.{WorksAt, IsPeerAt}
use Rattle.qsg_sound.specs.Tallying.{IsTallied, tally_of, IsCountedBy, IsCountedAt, IsWorkCounted}
use Rattle.qsg_answered.specs.Fits.{AreFitting}
use Rattle.qsg_answered.specs.Systems.{FitsSystem, given_up_by, given_up_in, HasGivenUp, EndsSystem}
use Rattle.qsg_answered.specs.Timing.{AreTimed}
use Rattle.qsg_answered.proofs.Answering.{timed_pushed}
use Rattle.qsg_answered.proofs.Frames.{set_or, inside_in, inside_with, inside_settled, told_with, told_settled}
use Rattle.qsg_answered.proofs.Keeping.{IsBeside, carried_self, moved_fits}
use Rattle.qsg_answered.proofs.Staying.{GoesOnFor, systems_stay}
use Rattle.qsg_answered.proofs.Told.{all_push}

-- ---- what a step changes

-- logs, or a mark, or an incarnation
abbrev pub PeerMoves : Owned → Owned → Type 0
PeerMoves p q = ((logs : List KeptLog) × (q ≡ record p { logs = logs }))
    ⊎ (((connection : Connection) × (found : MarkedEntry) × (commits : Bool) × (q ≡ with_mark_off connection found commits p)) ⊎ ((life : FailedLife) × (q ≡ with_resolved life p)))

-- an answer is of the incarnation on which it works, with what it counted
pub record IsResolving (w : Work) (p : Owned) (m : Member) (i : Incarnation) (n : ℕ) (q : Owned) : Type 0 where
  pub phase : w.phase ≡ At (life_of (m, i)) Resolve
  pub counts : n ≡ w.settled
  pub parts_are : q ≡ with_resolved (life_of (m, i)) p

pub record IsGivingUp (w : Work) (m : Member) (i : Incarnation) : Type 0 where
  pub stage : Stage
  pub phase : w.phase ≡ At (life_of (m, i)) stage

abbrev pub TurnFits : Work → Owned → PeerTurn → Owned → Type 0
TurnFits w p More q = Unit {0}
TurnFits w p Nothing q = Unit {0}
TurnFits w p (Resolved m i n) q = IsResolving w p m i n q
TurnFits w p (GaveUp m i why) q = IsGivingUp w m i

abbrev pub Moved : Work → Owned → PeerTurn → Owned → Type 0
Moved w p turn q = PeerMoves p q × TurnFits w p turn q

-- a step that takes no memory
made : (w : Work) (p : Owned) (next : Next) (turn : PeerTurn) (v : Work) (q : Owned) → record { turn = turn; work = v; parts = q } ≡ next → Moved w p next.turn next.parts → Moved w p turn q
made w p next turn v q is moved = subst (λ (x : Next). Moved w p x.turn x.parts) (sym is) moved

still : (w : Work) (p : Owned) → Moved w p More p
still w p = (inl (p.logs, refl), tt)

find_moved : (w : Work) (p : Owned) (phase : Option Phase) → Moved w p (after_find phase w p).turn (after_find phase w p).parts
find_moved w p None = (inl (p.logs, refl), tt)
find_moved w p (Some phase) = still w p

gives_up : (w : Work) (p q : Owned) (life : FailedLife) (stage : Stage) (why : LogWhy) (logs : List KeptLog) → w.phase ≡ At life stage → q ≡ record p { logs = logs } → Moved w p (gave_up life why) q
gives_up w p q life stage why logs is parts = (inl (logs, parts), record { stage = stage; phase = is })

act_moved : (w x : Work) (p : Owned) (life : FailedLife) (stage : Stage) (turn : PeerTurn) (v : Work) (q : Owned) → w.phase ≡ At life stage → x.settled ≡ w.settled → Acts life stage x p (Ok turn) v q → Moved w p turn q
act_moved w x p life Read turn v q is same acts = elim acts.1 [
  | inl failed ↦ subst (λ (z : PeerTurn). Moved w p z q) (sym failed.turn_is) (gives_up w p q life Read Device (with_log life.member (log_in life.member q.logs) p.logs) is acts.0.others)
  | inr found ↦ subst (λ (z : PeerTurn). Moved w p z q) (sym found.turn_is) (inl (with_log life.member (log_in life.member q.logs) p.logs, acts.0.others), tt)
]
act_moved w x p life (Connect s) turn v q is same acts = made w p (after_connect life s x p) turn v q acts (still w p)
act_moved w x p life (Search connection after) turn v q is same acts = made w p (after_search life connection after x p) turn v q acts (still w p)
act_moved w x p life (Settle connection found) turn v q is same acts = made w p (after_settle life connection found x p) turn v q acts (inr (inl (connection, found, is_committed found.unit x.walk.reader.commits, refl)), tt)
act_moved w x p life Resolve turn v q is same acts = made w p (after_resolve life x p) turn v q acts (inr (inr (life, refl)), record { phase = is; counts = same; parts_are = refl })

turn_in : Result PeerTurn NoMemory → PeerTurn
turn_in (Ok turn) = turn
turn_in (Err e) = Nothing

on_moved : (w : Work) (p : Owned) (life : FailedLife) (stage : Stage) (turn : PeerTurn) (v : Work) (q : Owned) → w.phase ≡ At life stage → GoesOn life stage w p (Ok turn) v q → Moved w p turn q
unfolding turn_in
on_moved w p life stage turn v q is (inl given) =
    let same : turn ≡ gave_up life given.why = ap turn_in given.turn_is in
    subst (λ (z : PeerTurn). Moved w p z q) (sym same) (gives_up w p q life stage given.why p.logs is given.parts_are)
on_moved w p life stage turn v q is (inr (inl lacks)) = absurd (true≢false (sym lacks.refused))
on_moved w p life stage turn v q is (inr (inr acted)) = act_moved w (record w { walk = acted.walk }) p life stage turn v q is refl acted.acts

at_moved : (skip : List (Member × Incarnation)) (phase : Phase) (w : Work) (p : Owned) (turn : PeerTurn) (v : Work) (q : Owned) → w.phase ≡ phase → NextAt skip phase w p (Ok turn) v q → Moved w p turn q
at_moved skip Find w p turn v q is next = let found = found_phase (first_open skip p.repo.lives) in made w p (after_find found w p) turn v q next (find_moved w p found)
at_moved skip (Low life) w p turn v q is next = made w p (after_low life w p) turn v q next (still w p)
at_moved skip (At life stage) w p turn v q is next = on_moved w p life stage turn v q is next

pub peer_moved : (skip : List (Member × Incarnation)) (w : Work) (p : Owned) (turn : PeerTurn) (v : Work) (q : Owned) → NextPeer skip w p (Ok turn) v q → Moved w p turn q
peer_moved skip w p turn v q next = at_moved skip w.phase w p turn v q refl next

-- ---- all tasks stand as they stood

pub beside_logs : (p : Owned) (logs : List KeptLog) → IsBeside p (record p { logs = logs })
beside_logs p logs = record { objects = refl; history = refl; tasks = λ k w. refl; drawn = λ u drawn. drawn; failed = λ k i is. is; inside = λ each. each; told = λ is_told each. each }

beside_off : (p : Owned) (c : Connection) (found : MarkedEntry) (commits : Bool) → IsBeside p (with_mark_off c found commits p)
beside_off p c found commits =
    let s = c.structure in
    let structure = structure_in s p.structures in
    let answer = mark_answer c found p in
    let y = revised_if_done answer found.id (settled_entry commits) structure in
    record {
      objects = refl;
      history = refl;
      tasks = λ k w. refl;
      drawn = λ u drawn. drawn;
      failed = λ k i is. is;
      inside = λ each. inside_with s y p.structures each (inside_settled answer found.id commits structure (inside_in s p.structures each));
      told = λ is_told each. told_with is_told s y p.structures each (told_settled is_told (structure_number s) answer found.id commits structure (each s));
    }

beside_resolved : (p : Owned) (life : FailedLife) → IsBeside p (with_resolved life p)
beside_resolved p life = record {
  objects = refl;
  history = refl;
  tasks = λ k w. refl;
  drawn = λ u drawn. drawn;
  failed = λ k i is. resolves_unresolved k life.member i life.incarnation p.repo is;
  inside = λ each. each;
  told = λ is_told each. each;
}

peer_beside : (p q : Owned) → PeerMoves p q → IsBeside p q
peer_beside p q (inl logs) = subst (IsBeside p) (sym logs.1) (beside_logs p logs.0)
peer_beside p q (inr (inl off)) = subst (IsBeside p) (sym off.3) (beside_off p off.0 off.1 off.2)
peer_beside p q (inr (inr end)) = subst (IsBeside p) (sym end.1) (beside_resolved p end.0)

pub peer_managers : (p q : Owned) → PeerMoves p q → q.managers ≡ p.managers
peer_managers p q (inl logs) = ap (λ (x : Owned). x.managers) logs.1
peer_managers p q (inr (inl off)) = ap (λ (x : Owned). x.managers) off.3
peer_managers p q (inr (inr end)) = ap (λ (x : Owned). x.managers) end.1

-- ---- tallies only rise

count_few : (p : Owned) (m : Member) (t : Tally) → IsTallied p t → count_in m t < 2 ^ 30
count_few p m t is =
    let one = member_some m in
    let few = member_few m in
    let within : member_number m - 1 < length t.counts = omega (arith, one, few, is.eight) in
    omega (arith, get_or-le-sum_by (λ (n : ℕ). n) t.counts (member_number m - 1) 0 within, is.marks, is.few)

least_one : (n : ℕ) → n < 2 ^ 30 → min (n + 1) (2 ^ 32 - 1) ≡ n + 1
least_one n few = omega (arith, few)

one_own : (p : Owned) (m : Member) (t : Tally) → IsTallied p t → count_in m (with_one m t) ≡ count_in m t + 1
one_own p m t is =
    let one = member_some m in
    let few = member_few m in
    get_or-set_same t.counts (member_number m - 1) (min (count_in m t + 1) (2 ^ 32 - 1)) 0 (omega (arith, one, few, is.eight)) ∙ least_one (count_in m t) (count_few p m t is)

one_other : (p : Owned) (m k : Member) (t : Tally) → IsTallied p t → count_in k t ≤ count_in k (with_one m t)
one_other p m k t is = elim (cases_member k m) [
  | inl same ↦ subst (λ j. count_in j t ≤ count_in j (with_one m t)) (sym same) (omega (arith, one_own p m t is))
  | inr differ ↦ let one = member_some m in let two = member_some k in
      omega (arith, get_or-set_other t.counts (member_number m - 1) (member_number k - 1) (min (count_in m t + 1) (2 ^ 32 - 1)) 0 (λ e. differ (omega (arith, e, one, two))))
]

counted_more : (p : Owned) (k m : Member) (of : Member) (i : Incarnation) (rows : List Tally) (by_of : Member) (j : Incarnation) (settled : ℕ) → AllByRecursion (IsTallied p) rows → IsCountedBy k (tally_of by_of j rows) settled → IsCountedBy k (tally_of by_of j (counted_in of i m rows)) settled
counted_more p k m of i [] by_of j settled each counted = counted
counted_more p k m of i (t ∷ rows) by_of j settled each counted = by (is_tally_of of i t) (is_tally_of by_of j t) refl counted (counted_more p k m of i rows by_of j settled each.1)
  where
    found : (x : Tally) (xs : List Tally) (b : Bool) → is_tally_of by_of j x ≡ b → tally_of by_of j (x ∷ xs) ≡ cond b (Some x) (tally_of by_of j xs)
    found x xs b is = ap (λ c. cond c (Some x) (tally_of by_of j xs)) is

    by : (a b : Bool) → is_tally_of by_of j t ≡ b → IsCountedBy k (cond b (Some t) (tally_of by_of j rows)) settled → (IsCountedBy k (tally_of by_of j rows) settled → IsCountedBy k (tally_of by_of j (counted_in of i m rows)) settled)
        → IsCountedBy k (tally_of by_of j (cond a (with_one m t ∷ rows) (t ∷ counted_in of i m rows))) settled
    by true true is counted rest = subst (λ (o : Option Tally). IsCountedBy k o settled) (sym (found (with_one m t) rows true is)) (let more = one_other p m k t each.0 in omega (arith, counted, more))
    by true false is counted rest = subst (λ (o : Option Tally). IsCountedBy k o settled) (sym (found (with_one m t) rows false is)) counted
    by false true is counted rest = subst (λ (o : Option Tally). IsCountedBy k o settled) (sym (found t (counted_in of i m rows) true is)) counted
    by false false is counted rest = subst (λ (o : Option Tally). IsCountedBy k o settled) (sym (found t (counted_in of i m rows) false is)) (rest counted)

tallied_more : (p : Owned) (k m : Member) (off : Option FailedLife) (tallies : Tallied) (of : Member) (i : Incarnation) (settled : ℕ) → AllByRecursion (IsTallied p) tallies.rows → IsCountedBy k (tally_of of i tallies.rows) settled → IsCountedBy k (tally_of of i (tallied off m tallies).rows) settled
tallied_more p k m None tallies of i settled each counted = counted
tallied_more p k m (Some life) tallies of i settled each counted = counted_more p k m life.member life.incarnation tallies.rows of i settled each counted

-- an incarnation that isn't unresolved stays so
stays_resolved : (p q : Owned) (life : FailedLife) → IsBeside p q → is_unresolved life.member life.incarnation p.repo ≡ false → is_unresolved life.member life.incarnation q.repo ≡ false
stays_resolved p q life b was = by (is_unresolved life.member life.incarnation q.repo) refl
  where
    by : (x : Bool) → is_unresolved life.member life.incarnation q.repo ≡ x → x ≡ false
    by false is = refl
    by true is = absurd (true≢false (sym (b.failed life.member life.incarnation is) ∙ was))

pub beside_goes : (k : Member) (p q : Owned) (old new : List Tally) → IsBeside p q → ((life : FailedLife) → IsOver life p → IsOver life q) → ((of : Member) (i : Incarnation) (settled : ℕ) → IsCountedBy k (tally_of of i old) settled → IsCountedBy k (tally_of of i new) settled) → GoesOnFor k p q old new
beside_goes k p q old new b over counted = record { over = over; resolved = λ life is was. stays_resolved p q life b was; counted = counted }

-- ---- the answer

-- the incarnation of which the work resolves isn't unresolved any more
resolved_now : (m : Member) (i : Incarnation) (ls : List Life) → list_any (is_failed_life m i) (map (resolved_life m i) ls) ≡ false
resolved_now m i [] = refl
resolved_now m i (l ∷ ls) = by (is_failed_life m i l) refl (resolved_now m i ls)
  where
    and_false : (b : Bool) → (b && false) ≡ false
    and_false true = refl
    and_false false = refl

    by : (b : Bool) → is_failed_life m i l ≡ b → list_any (is_failed_life m i) (map (resolved_life m i) ls) ≡ false → (is_failed_life m i (cond b (record l { fate = fate.Resolved }) l) || list_any (is_failed_life m i) (map (resolved_life m i) ls)) ≡ false
    by true is rest = λ x. and_false (is_life m i l) x || rest x
    by false is rest = λ x. is x || rest x

-- the work that a system task has in hand is on an incarnation that is over, and has counted no more than its tally
work_over : (m : Member) (s : State) (life : FailedLife) (stage : Stage) → IsSound s → (peer_work_before m s).phase ≡ At life stage → IsOver life s.parts × IsCountedBy m (tally_of life.member life.incarnation s.tallies.rows) (peer_work_before m s).settled
work_over m s life stage sound is = by (peer_of m s.peers).work (sound.peers m) (sound.tallies.counted m) is
  where
    at : (phase : Phase) (w : Work) → w.phase ≡ phase → phase ≡ At life stage → IsPeerAt m w s → IsCountedAt m w.phase s.tallies.rows w.settled → IsOver life s.parts × IsCountedBy m (tally_of life.member life.incarnation s.tallies.rows) w.settled
    at phase w same is peer counted =
        let whole = same ∙ is in
        let works = subst (λ (x : Phase). WorksAt x w.walk s) whole peer.works in
        (works.0.over, subst (λ (x : Phase). IsCountedAt m x s.tallies.rows w.settled) whole counted)

    by : (o : Option Work) → IfSome o (λ w. IsPeerAt m w s) → IsWorkCounted m s.tallies.rows o → (peer_work_or m o).phase ≡ At life stage → IsOver life s.parts × IsCountedBy m (tally_of life.member life.incarnation s.tallies.rows) (peer_work_or m o).settled
    by None peer counted is = absurd (no_stage is)
      where
        no_stage : Find ≡ At life stage → ⊥
        no_stage e = cc
    by (Some w) peer counted is = at w.phase w refl is peer counted

-- what is kept of a system task
abbrev IsKeptOf : Member → Owned → List Tally → ℕ → Peer → Type 0
IsKeptOf k p rows n x = AllByRecursion (FitsSystem k p rows) x.answers × HasGivenUp x × AreTimed 0 n x.answers

given_push : (peer : Peer) (a : Answer) (more : List (Member × Incarnation)) (work : Option Work) → given_up_in (a ∷ []) ≡ more → HasGivenUp peer → HasGivenUp (record { work = work; given_up = peer.given_up ++ more; answers = peer.answers ++ a ∷ [] })
given_push peer a more work is old = record {
  before = old.before;
  since = old.since ++ a ∷ [];
  answers_are = ap (λ (l : List Answer). l ++ a ∷ []) old.answers_are ∙ append_assoc old.before old.since (a ∷ []);
  given_up_is = ap (λ (l : List (Member × Incarnation)). l ++ more) old.given_up_is ∙ ap (λ (l : List (Member × Incarnation)). given_up_in old.since ++ l) (sym is) ∙ sym (filter_map-append (λ (x : Answer). given_up_by x.reply) old.since (a ∷ []));
}

given_none : (peer : Peer) (a : Answer) (work : Option Work) → given_up_in (a ∷ []) ≡ [] → HasGivenUp peer → HasGivenUp (record { work = work; given_up = peer.given_up; answers = peer.answers ++ a ∷ [] })
given_none peer a work is old = subst (λ (l : List (Member × Incarnation)). HasGivenUp (record { work = work; given_up = l; answers = peer.answers ++ a ∷ [] })) (append-nil peer.given_up) (given_push peer a [] work is old)

kept_work : (k : Member) (p : Owned) (rows : List Tally) (n : ℕ) (peer : Peer) (work : Option Work) → IsKeptOf k p rows n peer → IsKeptOf k p rows n (record peer { work = work })
kept_work k p rows n peer work kept = (kept.0, record { before = kept.1.before; since = kept.1.since; answers_are = kept.1.answers_are; given_up_is = kept.1.given_up_is }, kept.2)

turn_kept : (m : Member) (s : State) (q : Owned) (rows : List Tally) (at : ℕ) (turn : PeerTurn) (work : Work) → IsSound s → at ≡ length s.parts.history.items → PeerMoves s.parts q → TurnFits (peer_work_before m s) s.parts turn q → GoesOnFor m s.parts q s.tallies.rows rows
    → IsKeptOf m q rows at (peer_of m s.peers) → IsKeptOf m q rows at (after_turn at turn work (peer_before m s))
turn_kept m s q rows at More work sound now moves fits goes kept = kept_work m q rows at (peer_of m s.peers) (Some work) kept
turn_kept m s q rows at Nothing work sound now moves fits goes kept = kept_work m q rows at (peer_of m s.peers) None kept
turn_kept m s q rows at (Resolved of i n) work sound now moves fits goes kept =
    let peer = peer_of m s.peers in
    let a = told at (reply.Resolved of i n) in
    let over = work_over m s (life_of (of, i)) Resolve sound fits.phase in
    let ends : EndsSystem m q rows (reply.Resolved of i n) = record {
      over = goes.over (life_of (of, i)) over.0;
      resolved = ap (λ (x : Owned). is_unresolved of i x.repo) fits.parts_are ∙ resolved_now of i s.parts.repo.lives;
      counted = subst (λ (z : ℕ). IsCountedBy m (tally_of of i rows) z) (sym fits.counts) (goes.counted of i (peer_work_before m s).settled over.1);
    } in
    (all_push (FitsSystem m q rows) peer.answers a kept.0 ends, given_none peer a None refl kept.1, timed_pushed at at peer.answers a refl (omega arith) kept.2)
turn_kept m s q rows at (GaveUp of i why) work sound now moves fits goes kept =
    let peer = peer_of m s.peers in
    let a = told at (reply.Refused (reason.GaveUp of i why)) in
    let over = work_over m s (life_of (of, i)) fits.stage sound fits.phase in
    (all_push (FitsSystem m q rows) peer.answers a kept.0 (goes.over (life_of (of, i)) over.0), given_push peer a ((of, i) ∷ []) None refl kept.1, timed_pushed at at peer.answers a refl (omega arith) kept.2)

pub peer_fits : (m : Member) (s r : State) → IsSound s → AreFitting s → IsPeerStep m s r → AreFitting r
peer_fits m s r sound fits step =
    let p = s.parts in
    let q = step.parts in
    let made = step.steps in
    let moved = peer_moved (peer_before m s).given_up (peer_work_before m s) p made.turn made.work q made.next in
    let b = peer_beside p q moved.0 in
    let managers = peer_managers p q moved.0 in
    let rows = (tallied step.off m s.tallies).rows in
    let at = length p.history.items in
    let over : (life : FailedLife) → IsOver life p → IsOver life q = λ life is. subst (λ (ms : List Manager). HasEnded life.incarnation.number (seat_of (manager_in life.member ms))) (sym managers) is in
    let goes : (k : Member) → GoesOnFor k p q s.tallies.rows rows = λ k. beside_goes k p q s.tallies.rows rows b over (λ of i settled counted. tallied_more p k m step.off s.tallies of i settled sound.tallies.tallied counted) in
    let kept : (k : Member) → IsKeptOf k q rows at (peer_of k s.peers) = λ k. let own = fits.systems k in (systems_stay k p q s.tallies.rows rows (peer_of k s.peers).answers (goes k) own.answers, own.given_up, own.timed) in
    let own : IsKeptOf m q rows at step.peer = subst (IsKeptOf m q rows at) (sym made.after) (turn_kept m s q rows at made.turn made.work sound refl moved.0 moved.1 (goes m) (kept m)) in
    subst AreFitting (sym step.after)
    (moved_fits s q s.courses s.starting (with_peer m step.peer s.peers) (tallied step.off m s.tallies) fits b (carried_self p.objects p.history.items q s.courses) (λ k w. refl)
    (λ k within. ap (λ (ms : List Manager). (manager_in k ms).incarnation.number) managers ∙ fits.given k (subst (λ (ms : List Manager). member_number k ≤ length ms) managers within))
    (λ k.
    let all = peer_kept k m s.peers q rows at step.peer own (kept k) in
    record { answers = all.0; given_up = all.1; timed = subst (λ n. AreTimed 0 n (peer_of k (with_peer m step.peer s.peers)).answers) (sym (ap length b.history)) all.2 }))
  where
    same_of : (k m : Member) → member_number m - 1 ≡ member_number k - 1 → m ≡ k
    same_of k m e = elim (cases_member m k) [ inl same ↦ same | inr differ ↦ absurd (differ (let one = member_some m in let two = member_some k in omega (arith, e, one, two))) ]

    peer_kept : (k m : Member) (peers : List Peer) (q : Owned) (rows : List Tally) (n : ℕ) (x : Peer) → IsKeptOf m q rows n x → IsKeptOf k q rows n (peer_of k peers) → IsKeptOf k q rows n (peer_of k (with_peer m x peers))
    peer_kept k m peers q rows n x own old = set_or (IsKeptOf k q rows n) peers (member_number m - 1) (member_number k - 1) x new_peer (λ e. subst (λ (j : Member). IsKeptOf j q rows n x) (same_of k m e) own) old
