-- each step of a system task leaves fewer steps
use Rattle.std.proofs.Common.{◌≡◌, inl, inr, ℕ, ◌+◌, ◌-◌, ◌*◌, ◌<◌, ◌≤◌, List, [], ◌∷◌, ◌++◌, length, get_or, Bool, true, false, Option, Some, None, Result, Ok, Err, is_some, refl, sym, ap, subst, ◌∙◌, arith}
use Rattle.std.specs.Prelude.{◌⊎◌, ◌&&◌, ◌||◌, IfSome, count_by}
use Rattle.std.proofs.lemmas.Bool.{false≢true}
use Rattle.qsg_num.specs.declared.ids.Incarnation.{Incarnation}
use Rattle.qsg_num.specs.declared.seats.Member.{Member}
use Rattle.qsg_num.specs.declared.words.LogWhy.{LogWhy}
use Rattle.qsg_num.specs.declared.words.LogWhy.TheVariants.{Device}
use Rattle.qsg_num.specs.Seats.{member_number}
use Rattle.qsg_logread.specs.Fed.{is_committed}
use Rattle.qsg_repo.specs.Lives.{is_open, first_open}
use Rattle.qsg_repo.specs.Tables.{Repository}
use Rattle.qsg_manager.specs.declared.managers.Manager.{Manager}
use Rattle.qsg_manager.specs.Storage.{task_at}
use Rattle.qsg_logs.specs.Kept.{KeptLog}
use Rattle.qsg_parts.specs.Owned.{Owned}
use Rattle.qsg_steady.proofs.Places.{member_some, member_few}
use Rattle.qsg_peer.specs.declared.phases.FailedLife.{FailedLife}
use Rattle.qsg_peer.specs.declared.phases.NoMemory.{NoMemory}
use Rattle.qsg_peer.specs.declared.phases.PeerTurn.{PeerTurn}
use Rattle.qsg_peer.specs.declared.phases.PeerTurn.TheVariants.{More, Nothing, Resolved, GaveUp}
use Rattle.qsg_peer.specs.declared.phases.Phase.{Phase}
use Rattle.qsg_peer.specs.declared.phases.Phase.TheVariants.{Find, Low, At}
use Rattle.qsg_peer.specs.declared.phases.Stage.{Stage}
use Rattle.qsg_peer.specs.declared.phases.Stage.TheVariants.{Read, Connect, Search, Settle, Resolve}
use Rattle.qsg_peer.specs.Leaving.{takes_off, LeavesRest}
use Rattle.qsg_peer.specs.Needs.{MayStepAt}
use Rattle.qsg_peer.specs.Pace.{left_of_peer, whole_of, HasFoundLife, HasNoMoreMarks}
use Rattle.qsg_peer.specs.Steps.{Next, life_of, found_phase, after_find, after_low, gave_up, after_connect, after_search, after_settle, after_resolve, with_resolved, Acts, GoesOn, NextAt, NextPeer}
use Rattle.qsg_peer.specs.Works.{Work, IsSound as IsPeerSound}
use Rattle.qsg_peer.proofs.Leaving.{rest_left, structures_left}
use Rattle.qsg_peer.proofs.Pace.{step_finds, step_left, off_fewer}
use Rattle.qsg_peers.specs.Peers.{Peer, new_peer, peer_of, with_peer, in_hand, after_turn}
use Rattle.qsg_step.specs.States.{State, is_member_up}
use Rattle.qsg_step.specs.Steps.{IsPeerStep, peer_work_or, peer_work_before, peer_before, tallied}
use Rattle.qsg_step.specs.Waiting.{has_work}
use Rattle.qsg_sound.specs.Sound.{IsSound}
use Rattle.qsg_sound.specs.Systems.{IsPeerAt, IsPeerKept}
use Rattle.qsg_pace.specs.Pace.{whole, left_of_run, marks_left, found_at, passed_by, left_to_peer, unharmed, left}
use Rattle.qsg_pace.proofs.Sums.{sum_raised, eight_times}
use Rattle.qsg_pace.proofs.Falling.{works_down}
use Rattle.qsg_pace.proofs.Lives.{both, found_less, resolved_fewer, resolved_found, resolved_unharmed, given_up_fewer}
use Rattle.qsg_pace.proofs.Fewer.{LeavesNoMore, works_fewer, AreAsLong, same_marks, any_work, peer_above}
use Rattle.qsg_pace.proofs.Most.{work_few}

-- ---- the incarnation on which a step works

-- one that was found stays found
abbrev Stays : Phase → Phase → Type 0
Stays Find new = Unit {0}
Stays (Low life) new = found_at new ≡ (life.member, life.incarnation) ∷ []
Stays (At life stage) new = found_at new ≡ (life.member, life.incarnation) ∷ []

record GoesOnWith (phase new : Phase) (p q : Owned) : Type 0 where
  pub repo : q.repo ≡ p.repo
  pub stays : Stays phase new

record FindsNone (skip : List (Member × Incarnation)) (phase : Phase) (p q : Owned) : Type 0 where
  pub finds : phase ≡ Find
  pub none : first_open skip p.repo.lives ≡ None
  pub parts : q ≡ p

record Resolves (m : Member) (i : Incarnation) (phase : Phase) (p q : Owned) : Type 0 where
  pub found : found_at phase ≡ (m, i) ∷ []
  pub parts : q ≡ with_resolved (record { member = m; incarnation = i }) p

record GivesUp (m : Member) (i : Incarnation) (phase : Phase) (p q : Owned) : Type 0 where
  pub found : found_at phase ≡ (m, i) ∷ []
  pub repo : q.repo ≡ p.repo

abbrev After : List (Member × Incarnation) → Phase → Owned → PeerTurn → Work → Owned → Type 0
After skip phase p More v q = GoesOnWith phase v.phase p q
After skip phase p Nothing v q = FindsNone skip phase p q
After skip phase p (Resolved m i n) v q = Resolves m i phase p q
After skip phase p (GaveUp m i why) v q = GivesUp m i phase p q

after_by : (skip : List (Member × Incarnation)) (phase : Phase) (p : Owned) (next : Next) (turn : PeerTurn) (v : Work) (q : Owned) → After skip phase p next.turn next.work next.parts → record { turn = turn; work = v; parts = q } ≡ next → After skip phase p turn v q
after_by skip phase p next turn v q after is = subst (λ (n : Next). After skip phase p n.turn n.work n.parts) (sym is) after

abbrev turn_or : PeerTurn → Result PeerTurn NoMemory → PeerTurn
turn_or other (Ok turn) = turn
turn_or other (Err e) = other

gives_up : (skip : List (Member × Incarnation)) (life : FailedLife) (stage : Stage) (p : Owned) (turn : PeerTurn) (why : LogWhy) (v : Work) (q : Owned) → turn ≡ gave_up life why → q.repo ≡ p.repo → After skip (At life stage) p turn v q
gives_up skip life stage p turn why v q is same = subst (λ (x : PeerTurn). After skip (At life stage) p x v q) (sym is) (record { found = refl; repo = same })

act_after : (skip : List (Member × Incarnation)) (life : FailedLife) (stage : Stage) (w : Work) (p : Owned) (turn : PeerTurn) (v : Work) (q : Owned) → Acts life stage w p (Ok turn) v q → After skip (At life stage) p turn v q
act_after skip life Read w p turn v q (has, inl failed) = gives_up skip life Read p turn Device v q failed.turn_is (ap (λ (x : Owned). x.repo) has.others)
act_after skip life Read w p turn v q (has, inr found) =
    subst (λ (x : PeerTurn). After skip (At life Read) p x v q) (sym found.turn_is) (record { repo = ap (λ (x : Owned). x.repo) has.others; stays = ap (λ (x : Work). found_at x.phase) found.work_is })
act_after skip life (Connect s) w p turn v q acts = after_by skip (At life (Connect s)) p (after_connect life s w p) turn v q (record { repo = refl; stays = refl }) acts
act_after skip life (Search connection after) w p turn v q acts = after_by skip (At life (Search connection after)) p (after_search life connection after w p) turn v q (record { repo = refl; stays = refl }) acts
act_after skip life (Settle connection found) w p turn v q acts = after_by skip (At life (Settle connection found)) p (after_settle life connection found w p) turn v q (record { repo = refl; stays = refl }) acts
act_after skip life Resolve w p turn v q acts = after_by skip (At life Resolve) p (after_resolve life w p) turn v q (record { found = refl; parts = refl }) acts

on_after : (skip : List (Member × Incarnation)) (life : FailedLife) (stage : Stage) (w : Work) (p : Owned) (turn : PeerTurn) (v : Work) (q : Owned) → GoesOn life stage w p (Ok turn) v q → After skip (At life stage) p turn v q
on_after skip life stage w p turn v q (inl given) = gives_up skip life stage p turn given.why v q (ap (turn_or turn) given.turn_is) (ap (λ (x : Owned). x.repo) given.parts_are)
on_after skip life stage w p turn v q (inr (inl lacks)) = absurd (cc lacks.refused)
on_after skip life stage w p turn v q (inr (inr acted)) = act_after skip life stage (record w { walk = acted.walk }) p turn v q acted.acts

step_after : (skip : List (Member × Incarnation)) (phase : Phase) (w : Work) (p : Owned) (turn : PeerTurn) (v : Work) (q : Owned) → NextAt skip phase w p (Ok turn) v q → After skip phase p turn v q
step_after skip Find w p turn v q next = after_by skip Find p (after_find (found_phase (first_open skip p.repo.lives)) w p) turn v q (by (first_open skip p.repo.lives) refl) next
  where
    by : (name : Option (Member × Incarnation)) → first_open skip p.repo.lives ≡ name → After skip Find p (after_find (found_phase name) w p).turn (after_find (found_phase name) w p).work (after_find (found_phase name) w p).parts
    by None none = record { finds = refl; none = none; parts = refl }
    by (Some name) some = record { repo = refl; stays = tt }
step_after skip (Low life) w p turn v q next = after_by skip (Low life) p (after_low life w p) turn v q (record { repo = refl; stays = refl }) next
step_after skip (At life stage) w p turn v q next = on_after skip life stage w p turn v q next

-- ---- what is left to the system task itself

-- What counts for it where it works on this: one that has found an incarnation has a step left, and so has one that finds
-- none.
record Counts (skip : List (Member × Incarnation)) (w : Work) (p : Owned) (n : ℕ) : Type 0 where
  pub most : whole * count_by (is_open (found_at w.phase ++ skip)) p.repo.lives + left_of_peer w p ≤ n
  pub found : (w.phase ≡ Find → ⊥) → whole * count_by (is_open (found_at w.phase ++ skip)) p.repo.lives + left_of_peer w p < n
  pub none : first_open skip p.repo.lives ≡ None → whole * count_by (is_open (found_at w.phase ++ skip)) p.repo.lives + left_of_peer w p < n

low_apart : (life : FailedLife) → Low life ≡ Find → ⊥
low_apart life is = cc

at_apart : (life : FailedLife) (stage : Stage) → At life stage ≡ Find → ⊥
at_apart life stage is = cc

finds_or_not : (phase : Phase) → (phase ≡ Find) ⊎ (phase ≡ Find → ⊥)
finds_or_not Find = inl refl
finds_or_not (Low life) = inr (low_apart life)
finds_or_not (At life stage) = inr (at_apart life stage)

stays_found : (phase new : Phase) → (phase ≡ Find → ⊥) → Stays phase new → found_at new ≡ found_at phase
stays_found Find new found stays = absurd (found refl)
stays_found (Low life) new found stays = stays
stays_found (At life stage) new found stays = stays

empty_apart : (n : Member × Incarnation) → [] ≡ n ∷ [] → ⊥
empty_apart n is = cc

found_some : (phase : Phase) (n : Member × Incarnation) → found_at phase ≡ n ∷ [] → phase ≡ Find → ⊥
found_some phase n found finds = empty_apart n (sym (ap found_at finds) ∙ found)

abbrev open_in : List (Member × Incarnation) → Owned → ℕ
open_in skip p = count_by (is_open skip) p.repo.lives

-- the incarnation that a work has found
find_less : (at : ℕ) (peer : Peer) (w : Work) (p : Owned) (v : Work) (q : Owned) (n : ℕ) → Counts peer.given_up w p n → ((life : FailedLife) → whole_of life p < whole) → w.phase ≡ Find → HasFoundLife peer.given_up w p v q
    → left_to_peer q (after_turn at More v (in_hand w peer)) < n
find_less at peer w p v q n counts few finds found =
    let life = life_of found.name in
    let skip = peer.given_up in
    let less = found_less skip p.repo.lives (life.member, life.incarnation) (named found.name found.first) in
    let names : open_in (found_at v.phase ++ skip) q ≡ open_in ((life.member, life.incarnation) ∷ skip) p =
    ap (λ (x : Work). open_in (found_at x.phase ++ skip) q) found.work_is ∙ ap (open_in ((life.member, life.incarnation) ∷ skip)) found.parts_are in
    let was : open_in (found_at w.phase ++ skip) p ≡ open_in skip p = ap (λ (x : Phase). open_in (found_at x ++ skip) p) finds in
    let most = counts.most in
    let left = found.left in
    let whole_few = few life in
    omega (arith, less, names, was, most, left, whole_few)
  where
    named : (name : Member × Incarnation) → first_open peer.given_up p.repo.lives ≡ Some name → first_open peer.given_up p.repo.lives ≡ Some ((life_of name).member, (life_of name).incarnation)
    named (m, i) is = is

turn_less : (at : ℕ) (peer : Peer) (w : Work) (p : Owned) (turn : PeerTurn) (v : Work) (q : Owned) (n : ℕ) → Counts peer.given_up w p n → ((life : FailedLife) → whole_of life p < whole) → IsPeerSound w.phase w.walk → MayStepAt w.phase p
    → NextPeer peer.given_up w p (Ok turn) v q → After peer.given_up w.phase p turn v q → left_to_peer q (after_turn at turn v (in_hand w peer)) < n
turn_less at peer w p More v q n counts few sound may next after = elim (finds_or_not w.phase) [
  | inl finds ↦ find_less at peer w p v q n counts few finds (step_finds peer.given_up w p v q finds next)
  | inr found ↦
      let skip = peer.given_up in
      let less = step_left skip w p v q found sound may next in
      let same : open_in (found_at v.phase ++ skip) q ≡ open_in (found_at w.phase ++ skip) p =
      ap (λ (f : List (Member × Incarnation)). open_in (f ++ skip) q) (stays_found w.phase v.phase found after.stays) ∙ ap (λ (x : Repository). count_by (is_open (found_at w.phase ++ skip)) x.lives) after.repo in
      omega (arith, less, same, counts.found found)
]
turn_less at peer w p Nothing v q n counts few sound may next after =
    let skip = peer.given_up in
    let same : open_in skip q ≡ open_in (found_at w.phase ++ skip) p = ap (open_in skip) after.parts ∙ ap (λ (x : Phase). open_in (found_at x ++ skip) p) (sym after.finds) in
    omega (arith, same, counts.none after.none)
turn_less at peer w p (Resolved m i settled) v q n counts few sound may next after =
    let skip = peer.given_up in
    let less = resolved_found m i skip p.repo.lives in
    let now : open_in skip q ≡ open_in skip (with_resolved (record { member = m; incarnation = i }) p) = ap (open_in skip) after.parts in
    let was : open_in (found_at w.phase ++ skip) p ≡ open_in ((m, i) ∷ skip) p = ap (λ (f : List (Member × Incarnation)). open_in (f ++ skip) p) after.found in
    omega (arith, less, now, was, counts.found (found_some w.phase (m, i) after.found))
turn_less at peer w p (GaveUp m i why) v q n counts few sound may next after =
    let skip = peer.given_up in
    let less = given_up_fewer skip (m, i) p.repo.lives in
    let now : open_in (skip ++ (m, i) ∷ []) q ≡ open_in (skip ++ (m, i) ∷ []) p = ap (λ (x : Repository). count_by (is_open (skip ++ (m, i) ∷ [])) x.lives) after.repo in
    let was : open_in (found_at w.phase ++ skip) p ≡ open_in ((m, i) ∷ skip) p = ap (λ (f : List (Member × Incarnation)). open_in (f ++ skip) p) after.found in
    omega (arith, less, now, was, counts.found (found_some w.phase (m, i) after.found))

-- ---- what is left to all others

settle_fewer : (skip : List (Member × Incarnation)) (phase : Phase) (w : Work) (p : Owned) (turn : PeerTurn) (v : Work) (q : Owned) → takes_off phase ≡ true → MayStepAt phase p → NextAt skip phase w p (Ok turn) v q → (life : FailedLife) → HasNoMoreMarks life p q
settle_fewer skip Find w p turn v q off may next = absurd (false≢true off)
settle_fewer skip (Low life) w p turn v q off may next = absurd (false≢true off)
settle_fewer skip (At life Read) w p turn v q off may next = absurd (false≢true off)
settle_fewer skip (At life (Connect s)) w p turn v q off may next = absurd (false≢true off)
settle_fewer skip (At life (Search connection after)) w p turn v q off may next = absurd (false≢true off)
settle_fewer skip (At life Resolve) w p turn v q off may next = absurd (false≢true off)
settle_fewer skip (At life (Settle connection found)) w p turn v q off may (inl given) = same_marks p q (ap (λ (x : Owned). x.structures) given.parts_are)
settle_fewer skip (At life (Settle connection found)) w p turn v q off may (inr (inl lacks)) = absurd (cc lacks.refused)
settle_fewer skip (At life (Settle connection found)) w p turn v q off may (inr (inr acted)) = λ other.
    subst (λ (x : Owned). HasNoMoreMarks other p x) (sym (ap (λ (n : Next). n.parts) acted.acts))
    (off_fewer other connection found (is_committed found.unit acted.walk.reader.commits) p may)

step_fewer : (skip : List (Member × Incarnation)) (w : Work) (p : Owned) (turn : PeerTurn) (v : Work) (q : Owned) → MayStepAt w.phase p → NextPeer skip w p (Ok turn) v q → (life : FailedLife) → HasNoMoreMarks life p q
step_fewer skip w p turn v q may next = by (takes_off w.phase) refl
  where
    by : (b : Bool) → takes_off w.phase ≡ b → (life : FailedLife) → HasNoMoreMarks life p q
    by true off = settle_fewer skip w.phase w p turn v q off may next
    by false off = same_marks p q (structures_left skip w p (Ok turn) v q next off)

rest_fewer : (p q : Owned) → LeavesRest p q → LeavesNoMore p q
rest_fewer p q rest = record {
  tasks = λ k w. let same : marks_left (task_at k w q.managers) ≡ marks_left (task_at k w p.managers) = ap (λ (ms : List Manager). marks_left (task_at k w ms)) rest.managers in omega (arith, same);
  hands = λ k. let same = ap (λ (l : KeptLog). left_of_run l.writer.hand) (rest.logs k).rest in omega (arith, same);
}

rest_long : (p q : Owned) → LeavesRest p q → AreAsLong p q
rest_long p q rest = λ k. ap (λ (l : KeptLog). l.writer.size) (rest.logs k).rest

-- the repository gives as many incarnations as before; no more of them can fail, and no more have to be found
record LeavesLives (p q : Owned) : Type 0 where
  pub starts : q.repo.starts ≡ p.repo.starts
  pub unharmed : unharmed q.repo.lives ≤ unharmed p.repo.lives
  pub found : (skip : List (Member × Incarnation)) → open_in skip q ≤ open_in skip p

same_lives : (p q : Owned) → q.repo ≡ p.repo → LeavesLives p q
same_lives p q same = record {
  starts = ap (λ (x : Repository). x.starts) same;
  unharmed = let as_many : unharmed q.repo.lives ≡ unharmed p.repo.lives = ap (λ (x : Repository). unharmed x.lives) same in omega (arith, as_many);
  found = λ skip. let as_many : open_in skip q ≡ open_in skip p = ap (λ (x : Repository). count_by (is_open skip) x.lives) same in omega (arith, as_many);
}

turn_lives : (skip : List (Member × Incarnation)) (phase : Phase) (p : Owned) (turn : PeerTurn) (v : Work) (q : Owned) → After skip phase p turn v q → LeavesLives p q
turn_lives skip phase p More v q after = same_lives p q after.repo
turn_lives skip phase p Nothing v q after = same_lives p q (ap (λ (x : Owned). x.repo) after.parts)
turn_lives skip phase p (Resolved m i n) v q after = subst (λ (x : Owned). LeavesLives p x) (sym after.parts) (record {
  starts = refl;
  unharmed = resolved_unharmed m i p.repo.lives;
  found = λ others. resolved_fewer m i others p.repo.lives;
})
turn_lives skip phase p (GaveUp m i why) v q after = same_lives p q after.repo

-- ---- a step

-- the work whose step is made
record IsAtWork (m : Member) (s : State) (w : Work) : Type 0 where
  pub counts : Counts (peer_of m s.peers).given_up w s.parts (left_to_peer s.parts (peer_of m s.peers))
  pub sound : IsPeerSound w.phase w.walk
  pub may : MayStepAt w.phase s.parts

finds_one : (m : Member) (s : State) (hand : Option Work) (name : Option (Member × Incarnation)) → (is_member_up m s && (is_some hand || is_some name)) ≡ true → hand ≡ None → name ≡ None → ⊥
finds_one m s None None has none missing = absurd (false≢true (both (is_member_up m s) false has).1)
finds_one m s None (Some name) has none missing = absurd cc
finds_one m s (Some w) name has none missing = absurd cc

at_work : (m : Member) (s : State) → IsSound s → has_work m s ≡ true → IsAtWork m s (peer_work_before m s)
at_work m s sound has = by (peer_of m s.peers).work refl (sound.peers m) (sound.kept.peers m)
  where
    skip : List (Member × Incarnation)
    skip = (peer_of m s.peers).given_up

    by : (hand : Option Work) → (peer_of m s.peers).work ≡ hand → IfSome hand (λ w. IsPeerAt m w s) → IfSome hand IsPeerKept → IsAtWork m s (peer_work_or m hand)
    by None none at kept =
        let counted : left_to_peer s.parts (peer_of m s.peers) ≡ whole * open_in skip s.parts + 0 = ap (λ (h : Option Work). left_to_peer s.parts (record (peer_of m s.peers) { work = h })) none in
        record {
          counts = record {
            most = omega (arith, counted);
            found = λ found. absurd (found refl);
            none = λ missing. absurd (finds_one m s (peer_of m s.peers).work (first_open skip s.parts.repo.lives) has none missing);
          };
          sound = tt;
          may = tt;
        }
    by (Some w) some at kept =
        let counted : left_to_peer s.parts (peer_of m s.peers) ≡ whole * open_in (found_at w.phase ++ skip) s.parts + (left_of_peer w s.parts + 1) = ap (λ (h : Option Work). left_to_peer s.parts (record (peer_of m s.peers) { work = h })) some in
        record {
          counts = record { most = omega (arith, counted); found = λ found. omega (arith, counted); none = λ missing. omega (arith, counted) };
          sound = kept;
          may = at.may;
        }

pub system_less : (s r : State) (m : Member) → IsSound s → has_work m s ≡ true → IsPeerStep m s r → left r < left s
system_less s r m sound has step =
    let p = s.parts in
    let q = step.parts in
    let peer = peer_of m s.peers in
    let w = peer_work_before m s in
    let made = step.steps in
    let works = at_work m s sound has in
    let after = step_after peer.given_up w.phase w p made.turn made.work q made.next in
    let rest = rest_left peer.given_up w p (Ok made.turn) made.work q made.next in
    let lives = turn_lives peer.given_up w.phase p made.turn made.work q after in
    let marks = step_fewer peer.given_up w p made.turn made.work q works.may made.next in
    let new = after_turn (length p.history.items) made.turn made.work (peer_before m s) in
    let own : left_to_peer q new < left_to_peer p peer =
    turn_less (length p.history.items) peer w p made.turn made.work q (left_to_peer p peer) works.counts (λ life. work_few life p sound.four sound.kept.logs sound.kept.structures) works.sound works.may made.next after in
    let less = subst (λ (k : Peer). left_to_peer q k < left_to_peer p peer) (sym made.after) own in
    let others : (k : Peer) → left_to_peer q k ≤ left_to_peer p k + whole * 0 = λ k. peer_above p q k 0 (any_work p q marks k.work) (rest_long p q rest) (let found = lives.found (passed_by k) in omega (arith, found)) in
    let sum = sum_raised (left_to_peer p) (left_to_peer q) s.peers (member_number m - 1) step.peer new_peer (whole * 0) (omega (arith, sound.eight, member_some m, member_few m))
    (λ j within differ. others (get_or s.peers j new_peer)) in
    let none = eight_times (whole * 0) s.peers sound.eight in
    let requests = works_fewer p q s.works (rest_fewer p q rest) in
    let unharmed_fewer = lives.unharmed in
    subst (λ (x : State). left x < left s) (sym step.after)
    (works_down s (record s { parts = q; peers = with_peer m step.peer s.peers; tallies = tallied step.off m s.tallies }) lives.starts (omega (arith, unharmed_fewer)) (omega (arith, less, sum, none, requests)))
