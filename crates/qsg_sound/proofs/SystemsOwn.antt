-- what a step of a system task's own work leaves
use Rattle.std.proofs.Common.{◌≡◌, inl, inr, ℕ, ◌-◌, ◌≤◌, ◌<◌, true, List, length, Option, Some, None, Ok, refl, sym, ap, subst, ◌∙◌, length-set, arith}
use Rattle.std.specs.Prelude.{IfSome}
use Rattle.qsg_num.specs.declared.seats.Member.{Member}
use Rattle.qsg_num.specs.declared.ids.Incarnation.{Incarnation}
use Rattle.qsg_num.specs.Seats.{member_number, structure_number}
use Rattle.qsg_logrec.specs.declared.record.LogRecord.{LogRecord}
use Rattle.qsg_repo.specs.Lives.{first_open}
use Rattle.qsg_repo.specs.Calls.{resolved, is_unresolved}
use Rattle.qsg_repo.specs.Tables.{Repository, low_of}
use Rattle.qsg_group.proofs.Tables.{cases_member}
use Rattle.qsg_manager.specs.Storage.{manager_in}
use Rattle.qsg_logs.specs.Kept.{log_in}
use Rattle.qsg_parts.specs.Owned.{Owned, HasMember}
use Rattle.qsg_walk.specs.Walks.{Walk, Feeds, new_walk, after_read}
use Rattle.qsg_walk.specs.Following.{read_at}
use Rattle.qsg_steady.specs.Steady.{IsSteady}
use Rattle.qsg_steady.proofs.Gives.{member_has}
use Rattle.qsg_reading.specs.Reading.{IsReading}
use Rattle.qsg_reading.proofs.Own.{new_reading, fed_reading, read_reading}
use Rattle.qsg_reading.proofs.Others.{begun_written, fed_written, read_written, begun_keeps, read_keeps}
use Rattle.qsg_peer.specs.declared.phases.FailedLife.{FailedLife}
use Rattle.qsg_peer.specs.declared.phases.PeerTurn.{PeerTurn}
use Rattle.qsg_peer.specs.declared.phases.PeerTurn.TheVariants.{More, Nothing, Resolved, GaveUp}
use Rattle.qsg_peer.specs.declared.phases.Phase.{Phase}
use Rattle.qsg_peer.specs.declared.phases.Phase.TheVariants.{Find, Low, At}
use Rattle.qsg_peer.specs.declared.phases.Stage.{Stage}
use Rattle.qsg_peer.specs.declared.phases.Stage.TheVariants.{Read, Connect, Search, Settle, Resolve}
use Rattle.qsg_peer.specs.Needs.{AreMembers}
use Rattle.qsg_peer.specs.Steps.{Next, found_phase, after_find, after_low, first_walk, after_connect, after_search, after_settle, after_resolve, gave_up, Acts, GoesOn, NextAt, NextPeer}
use Rattle.qsg_peer.specs.Sweeping.{AreOrdered}
use Rattle.qsg_peer.specs.Works.{Work, IsSound, IsSoundAt}
use Rattle.qsg_peer.proofs.Following.{fed_leaves}
use Rattle.qsg_peer.proofs.Leaving.{rest_left}
use Rattle.qsg_peer.proofs.Needing.{ready_after}
use Rattle.qsg_peer.proofs.Sweeping.{step_sweeps}
use Rattle.qsg_peers.specs.Peers.{Peer, peer_of, with_peer, after_turn}
use Rattle.qsg_lives.proofs.Counting.{step_swept}
use Rattle.qsg_lives.proofs.Incarnations.{resolves_unresolved}
use Rattle.qsg_lives.proofs.Overs.{peer_over}
use Rattle.qsg_step.specs.States.{State, is_member_up}
use Rattle.qsg_step.specs.Steps.{peer_work_or, peer_work_before, peer_before, tallied, IsPeerStep}
use Rattle.qsg_sound.specs.Sound.{AreLogsKept, ArePeersKept}
use Rattle.qsg_sound.specs.Systems.{IsPeerKept, Reads, IsWorkedOn, WorksAt, IsPeerAt}
use Rattle.qsg_sound.proofs.SystemsLogs.{quiet, read_quiet}
use Rattle.qsg_sound.proofs.SystemsReading.{pair, tells_low, hand_of_others, Goes, reads_still}
use Rattle.qsg_sound.proofs.SystemsPeers.{peer_same, peer_other, ArePeers, lift_some, LeavesLife, LeavesCounts, worked_still, read_before, one_kept, goes_same}
use Rattle.qsg_sound.proofs.SystemsFound.{found_failed}

-- ---- what a step leaves of the parts

abbrev pub repo_after : PeerTurn → Repository → Repository
repo_after More repo = repo
repo_after Nothing repo = repo
repo_after (Resolved m i n) repo = resolved m i repo
repo_after (GaveUp m i why) repo = repo

-- no log or structure comes or goes, and the repository changes at the end only
pub record PeerLeaves (turn : PeerTurn) (p q : Owned) : Type 0 where
  pub logs : length q.logs ≡ length p.logs
  pub structures : length q.structures ≡ length p.structures
  pub repo : q.repo ≡ repo_after turn p.repo

by_next : (P : PeerTurn → Work → Owned → Type 0) (next : Next) (turn : PeerTurn) (v : Work) (q : Owned) → record { turn = turn; work = v; parts = q } ≡ next → P next.turn next.work next.parts → P turn v q
by_next P next turn v q is given = subst (λ (n : Next). P n.turn n.work n.parts) (sym is) given

same_leaves : (p : Owned) → PeerLeaves More p p
same_leaves p = record { logs = refl; structures = refl; repo = refl }

find_leaves : (name : Option (Member × Incarnation)) (w : Work) (p : Owned) → PeerLeaves (after_find (found_phase name) w p).turn p (after_find (found_phase name) w p).parts
find_leaves None w p = record { logs = refl; structures = refl; repo = refl }
find_leaves (Some n) w p = same_leaves p

acts_leave : (life : FailedLife) (stage : Stage) (w : Work) (p : Owned) (turn : PeerTurn) (v : Work) (q : Owned) → Acts life stage w p (Ok turn) v q → PeerLeaves turn p q
acts_leave life Read w p turn v q (has, inl failed) = subst (λ x. PeerLeaves x p q) (sym failed.turn_is) (record {
  logs = ap (λ (x : Owned). length x.logs) has.others ∙ length-set p.logs (member_number life.member - 1) (log_in life.member q.logs);
  structures = ap (λ (x : Owned). length x.structures) has.others;
  repo = ap (λ (x : Owned). x.repo) has.others;
})
acts_leave life Read w p turn v q (has, inr found) = subst (λ x. PeerLeaves x p q) (sym found.turn_is) (record {
  logs = ap (λ (x : Owned). length x.logs) has.others ∙ length-set p.logs (member_number life.member - 1) (log_in life.member q.logs);
  structures = ap (λ (x : Owned). length x.structures) has.others;
  repo = ap (λ (x : Owned). x.repo) has.others;
})
acts_leave life (Connect x) w p turn v q acts = by_next (λ turn v q. PeerLeaves turn p q) (after_connect life x w p) turn v q acts (same_leaves p)
acts_leave life (Search c after) w p turn v q acts = by_next (λ turn v q. PeerLeaves turn p q) (after_search life c after w p) turn v q acts (same_leaves p)
acts_leave life (Settle c found) w p turn v q acts = by_next (λ turn v q. PeerLeaves turn p q) (after_settle life c found w p) turn v q acts (record {
  logs = refl;
  structures = length-set p.structures (structure_number c.structure - 1) _;
  repo = refl;
})
acts_leave life Resolve w p turn v q acts = by_next (λ turn v q. PeerLeaves turn p q) (after_resolve life w p) turn v q acts (record { logs = refl; structures = refl; repo = refl })

goes_leave : (life : FailedLife) (stage : Stage) (w : Work) (p : Owned) (turn : PeerTurn) (v : Work) (q : Owned) → GoesOn life stage w p (Ok turn) v q → PeerLeaves turn p q
goes_leave life stage w p turn v q (inl given) =
    let is : turn ≡ gave_up life given.why = cc given.turn_is in
    subst (λ x. PeerLeaves x p q) (sym is) (record { logs = ap (λ (x : Owned). length x.logs) given.parts_are; structures = ap (λ (x : Owned). length x.structures) given.parts_are; repo = ap (λ (x : Owned). x.repo) given.parts_are })
goes_leave life stage w p turn v q (inr (inl lacks)) = absurd (cc lacks.refused)
goes_leave life stage w p turn v q (inr (inr acted)) = acts_leave life stage (record w { walk = acted.walk }) p turn v q acted.acts

at_leaves : (skip : List (Member × Incarnation)) (phase : Phase) (w : Work) (p : Owned) (turn : PeerTurn) (v : Work) (q : Owned) → NextAt skip phase w p (Ok turn) v q → PeerLeaves turn p q
at_leaves skip Find w p turn v q next = by_next (λ turn v q. PeerLeaves turn p q) (after_find (found_phase (first_open skip p.repo.lives)) w p) turn v q next (find_leaves (first_open skip p.repo.lives) w p)
at_leaves skip (Low life) w p turn v q next = by_next (λ turn v q. PeerLeaves turn p q) (after_low life w p) turn v q next (same_leaves p)
at_leaves skip (At life stage) w p turn v q next = goes_leave life stage w p turn v q next

pub peer_leaves : (skip : List (Member × Incarnation)) (w : Work) (p : Owned) (turn : PeerTurn) (v : Work) (q : Owned) → NextPeer skip w p (Ok turn) v q → PeerLeaves turn p q
peer_leaves skip w p turn v q next = at_leaves skip w.phase w p turn v q next

unresolved_before : (turn : PeerTurn) (k : Member) (i : Incarnation) (repo : Repository) → is_unresolved k i (repo_after turn repo) ≡ true → is_unresolved k i repo ≡ true
unresolved_before More k i repo is = is
unresolved_before Nothing k i repo is = is
unresolved_before (Resolved m j n) k i repo is = resolves_unresolved k m i j repo is
unresolved_before (GaveUp m j why) k i repo is = is

low_after : (turn : PeerTurn) (k : Member) (repo : Repository) → low_of k (repo_after turn repo) ≡ low_of k repo
low_after More k repo = refl
low_after Nothing k repo = refl
low_after (Resolved m j n) k repo = refl
low_after (GaveUp m j why) k repo = refl

pub peer_goes : (skip : List (Member × Incarnation)) (w : Work) (p : Owned) (turn : PeerTurn) (v : Work) (q : Owned) → NextPeer skip w p (Ok turn) v q → Goes p q
peer_goes skip w p turn v q next =
    let rest = rest_left skip w p (Ok turn) v q next in
    let leaves = peer_leaves skip w p turn v q next in
    record {
      unresolved = λ k i is. unresolved_before turn k i p.repo (subst (λ (x : Repository). is_unresolved k i x ≡ true) leaves.repo is);
      lows = λ k failed. ap (low_of k) leaves.repo ∙ low_after turn k p.repo;
      logs = leaves.logs;
      tells = λ k. (read_quiet (log_in k p.logs) (log_in k q.logs) (rest.logs k)).tells;
      goes = λ telling k. quiet (read_quiet (log_in k p.logs) (log_in k q.logs) (rest.logs k));
    }

-- ---- what the work has read

-- what the step leaves in hand, as the parts were before it
pub record OwnAfter (w v : Work) (s : State) : Type 0 where
  pub member : v.member ≡ w.member
  pub works : WorksAt v.phase v.walk s

module _ (a b : ℕ) (s : State) (steady : IsSteady a b s.parts) (kept : AreLogsKept s.parts) where
  -- a page number may be written after all
  small : (m : Member) → HasMember m s.parts → (log_in m s.parts.logs).writer.next ≤ 4290000000
  small m has = omega (arith, (kept m has.log).within.numbers)

  first_reads : (life : FailedLife) → IsWorkedOn life s → Reads life (first_walk life s.parts) s
  first_reads life on telling unresolved =
      let p = s.parts in
      let m = life.member in
      let log = log_in m p.logs in
      let low = (low_of m p.repo).number in
      record {
        reads = λ l. subst (λ (n : ℕ). IsReading (pair life) (l.rest.logs m) log (first n)) (l.logs m on.member.manager).low
            (new_reading (pair life) (l.rest.logs m) log (l.logs m on.member.manager).told.gone (l.logs m on.member.manager).told.hand (tells_low p l m on.member.manager) (kept m on.member.log).within.some (small m on.member));
        last = begun_keeps low log.writer.size;
        written = λ goes. begun_written low log (steady.behind m on.member.manager).low;
      }
    where
      first : ℕ → Walk
      first n = new_walk n (log_in life.member s.parts.logs).writer.size

  -- a walk that has ended, and has fed the page that it kept
  ended_reads : (life : FailedLife) (old new : Walk) (records : List LogRecord) → old.left ≡ 0 → Feeds old records new → Reads life old s → Reads life new s
  ended_reads life old new records left fed reads telling unresolved =
      let has = reads telling unresolved in
      let none : new.left ≡ 0 = (fed_leaves old.kept old new records refl fed).1 ∙ left in
      let log = log_in life.member s.parts.logs in
      record {
        reads = λ l. fed_reading (pair life) (l.rest.logs life.member) log old new records (has.reads l) fed;
        last = λ some. absurd (omega (arith, some, none));
        written = λ goes some. absurd (omega (arith, some, none));
      }

  -- one that reads its next page
  page_reads : (life : FailedLife) (old new : Walk) (records : List LogRecord) (found : Option (List ℕ)) → IsWorkedOn life s → 0 < old.left → Feeds old records new
      → ((log_in life.member s.parts.logs).tells ≡ true → found ≡ read_at (log_in life.member s.parts.logs).bytes (log_in life.member s.parts.logs).writer.size new.next) → Reads life old s → Reads life (after_read found new) s
  page_reads life old new records found on some fed is reads telling unresolved =
      let p = s.parts in
      let m = life.member in
      let log = log_in m p.logs in
      let has = reads telling unresolved in
      let feeds = fed_leaves old.kept old new records refl fed in
      let goes : 0 < new.left = omega (arith, some, feeds.1) in
      let page = is (telling m on.member.log) in
      record {
        reads = λ l. read_reading (pair life) (l.rest.logs m) log new found (l.logs m on.member.manager).told.gone (l.logs m on.member.manager).told.hand
            (fed_reading (pair life) (l.rest.logs m) log old new records (has.reads l) fed) feeds.0 goes (tells_low p l m on.member.manager)
            (hand_of_others a b p m life (l.logs m on.member.manager).told.hand steady on.over (l.logs m on.member.manager).told.run) (small m on.member) page;
        last = read_keeps (low_of m p.repo).number new found feeds.0;
        written = λ going. read_written ((steady.lawful telling).rest.logs m).low log new found (fed_written log old new records (has.written going) fed) goes (tells_low p (steady.lawful telling) m on.member.manager).tied page;
      }

  own_acts : (life : FailedLife) (stage : Stage) (old : Walk) (records : List LogRecord) (w : Work) (v : Work) (q : Owned) → IsWorkedOn life s → IsSoundAt life stage old → Feeds old records w.walk → Reads life old s → Acts life stage w s.parts (Ok More) v q → OwnAfter w v s
  own_acts life Read old records w v q on sound fed reads (has, inl failed) = absurd (cc failed.turn_is)
  own_acts life Read old records w v q on sound fed reads (has, inr found) = record {
    member = ap (λ (x : Work). x.member) found.work_is;
    works = subst (λ phase. WorksAt phase v.walk s) (sym (ap (λ (x : Work). x.phase) found.work_is)) (on, subst (λ walk. Reads life walk s) (sym found.kept.walk_is) (page_reads life old w.walk records found.kept.found on sound fed found.kept.page.page reads));
  }
  own_acts life (Connect x) old records w v q on sound fed reads acts = by_next (λ turn v q. OwnAfter w v s) (after_connect life x w s.parts) More v q acts (record { member = refl; works = (on, ended_reads life old w.walk records sound fed reads) })
  own_acts life (Search c after) old records w v q on sound fed reads acts = by_next (λ turn v q. OwnAfter w v s) (after_search life c after w s.parts) More v q acts (record { member = refl; works = (on, ended_reads life old w.walk records sound.0 fed reads) })
  own_acts life (Settle c found) old records w v q on sound fed reads acts = by_next (λ turn v q. OwnAfter w v s) (after_settle life c found w s.parts) More v q acts (record { member = refl; works = (on, ended_reads life old w.walk records sound.0 fed reads) })
  own_acts life Resolve old records w v q on sound fed reads acts = absurd (cc (ap (λ (n : Next). n.turn) acts))

  own_goes : (life : FailedLife) (stage : Stage) (w v : Work) (q : Owned) → IsSoundAt life stage w.walk → IsWorkedOn life s → Reads life w.walk s → GoesOn life stage w s.parts (Ok More) v q → OwnAfter w v s
  own_goes life stage w v q sound on reads (inl given) = absurd (cc given.turn_is)
  own_goes life stage w v q sound on reads (inr (inl lacks)) = absurd (cc lacks.refused)
  own_goes life stage w v q sound on reads (inr (inr acted)) =
      let after = own_acts life stage w.walk acted.records (record w { walk = acted.walk }) v q on sound acted.fed reads acted.acts in
      record { member = after.member; works = after.works }

  own_found : (name : Option (Member × Incarnation)) (w v : Work) (q : Owned) (skip : List (Member × Incarnation)) → first_open skip s.parts.repo.lives ≡ name → record { turn = More; work = v; parts = q } ≡ after_find (found_phase name) w s.parts → OwnAfter w v s
  own_found None w v q skip first is = absurd (cc (ap (λ (n : Next). n.turn) is))
  own_found (Some (m, i)) w v q skip first is =
      let over = steady.over m i (found_failed skip s.parts.repo.lives (m, i) first) in
      by_next (λ turn v q. OwnAfter w v s) (after_find (found_phase (Some (m, i))) w s.parts) More v q is (record { member = refl; works = record { member = member_has a b s.parts m steady over.member; over = over.ended } })

  own_at : (skip : List (Member × Incarnation)) (phase : Phase) (w v : Work) (q : Owned) → IsSound phase w.walk → WorksAt phase w.walk s → NextAt skip phase w s.parts (Ok More) v q → OwnAfter w v s
  own_at skip Find w v q sound works next = own_found (first_open skip s.parts.repo.lives) w v q skip refl next
  own_at skip (Low life) w v q sound works next = by_next (λ turn v q. OwnAfter w v s) (after_low life w s.parts) More v q next (record { member = refl; works = (works, first_reads life works) })
  own_at skip (At life stage) w v q sound works next = own_goes life stage w v q sound works.0 works.1 next

  pub own_after : (skip : List (Member × Incarnation)) (w v : Work) (q : Owned) → IsSound w.phase w.walk → WorksAt w.phase w.walk s → NextPeer skip w s.parts (Ok More) v q → OwnAfter w v s
  own_after skip w v q sound works next = own_at skip w.phase w v q sound works next

-- ---- the work before the step, which may be a new one

pub before_at : (m : Member) (s : State) → is_member_up m s ≡ true → IfSome (peer_of m s.peers).work (λ work. IsPeerAt m work s) → IsPeerAt m (peer_work_before m s) s
before_at m s up are = by (peer_of m s.peers).work are
  where
    by : (o : Option Work) → IfSome o (λ work. IsPeerAt m work s) → IsPeerAt m (peer_work_or m o) s
    by None none = record { own = refl; up = up; may = tt; swept = tt; works = tt }
    by (Some work) at = at

pub before_kept : (m : Member) (s : State) → IfSome (peer_of m s.peers).work IsPeerKept → IsPeerKept (peer_work_before m s)
before_kept m s are = by (peer_of m s.peers).work are
  where
    by : (o : Option Work) → IfSome o IsPeerKept → IsPeerKept (peer_work_or m o)
    by None none = tt
    by (Some work) kept = kept

-- ---- the step

pub peers_after_peer : (a b : ℕ) (m : Member) (s r : State) → IsSteady a b s.parts → AreLogsKept s.parts → AreOrdered s.parts → ArePeersKept s → AreMembers s.parts → length s.peers ≡ 8 → is_member_up m s ≡ true → IsPeerStep m s r → ArePeers s → ArePeers r
peers_after_peer a b m s r steady kept ordered peers_kept members eight up step are = subst ArePeers (sym step.after) after
  where
    p : Owned
    p = s.parts

    q : Owned
    q = step.parts

    w : Work
    w = peer_work_before m s

    v : Work
    v = step.steps.work

    skip : List (Member × Incarnation)
    skip = (peer_before m s).given_up

    turn : PeerTurn
    turn = step.steps.turn

    next : NextPeer skip w p (Ok turn) v q
    next = step.steps.next

    x : State
    x = record s { parts = q; peers = with_peer m step.peer s.peers; tallies = tallied step.off m s.tallies }

    at : IsPeerAt m w s
    at = before_at m s up (are m)

    sound : IsSound w.phase w.walk
    sound = before_kept m s (peers_kept m)

    leaves : PeerLeaves turn p q
    leaves = peer_leaves skip w p turn v q next

    goes : Goes p q
    goes = peer_goes skip w p turn v q next

    managers : q.managers ≡ p.managers
    managers = (rest_left skip w p (Ok turn) v q next).managers

    counts : LeavesCounts p q
    counts = record { managers = ap length managers; logs = leaves.logs; structures = leaves.structures }

    ups : (k : Member) → is_member_up k x ≡ is_member_up k s
    ups k = ap (λ ms. (manager_in k ms).up) managers

    life_left : (life : FailedLife) → IsWorkedOn life s → LeavesLife life s x
    life_left life on = record {
      over = peer_over life skip w p (Ok turn) v q next on.over;
      swept = step_swept life skip w p (Ok turn) v q sound ordered at.may next;
    }

    own : (t : PeerTurn) → t ≡ turn → NextPeer skip w p (Ok t) v q → IfSome (after_turn (length p.history.items) t v (peer_before m s)).work (λ work. IsPeerAt m work x)
    own More is next =
        let after = own_after a b s steady kept skip w v q sound at.works next in
        record {
          own = after.member ∙ at.own;
          up = ups m ∙ up;
          may = ready_after skip w p (Ok More) v q members at.may next refl;
          swept = step_sweeps skip w p More v q at.may ordered at.swept next;
          works = works_to v.phase refl after.works;
        }
      where
        works_to : (phase : Phase) → v.phase ≡ phase → WorksAt phase v.walk s → WorksAt phase v.walk x
        works_to Find is on = tt
        works_to (Low life) is on = worked_still life s x counts (life_left life on) on
        works_to (At life stage) is on = (
          worked_still life s x counts (life_left life on.0) on.0,
          reads_still a b life v.walk s x steady on.0.over on.0.member.manager counts.managers goes (λ has going. has.written (goes_same s x ups refl life.member going)) on.1,
        )
    own Nothing is next = tt
    own (Resolved k i n) is next = tt
    own (GaveUp k i why) is next = tt

    after : ArePeers x
    after k = elim (cases_member k m) [
      | inl same ↦
          subst (λ (y : Peer). IfSome y.work (λ work. IsPeerAt k work x)) (sym (ap (λ j. peer_of j (with_peer m step.peer s.peers)) same ∙ peer_same m step.peer s.peers eight))
          (subst (λ j. IfSome step.peer.work (λ work. IsPeerAt j work x)) (sym same)
          (subst (λ (y : Peer). IfSome y.work (λ work. IsPeerAt m work x)) (sym step.steps.after) (own turn refl next)))
      | inr differ ↦
          subst (λ (y : Peer). IfSome y.work (λ work. IsPeerAt k work x)) (sym (peer_other m k step.peer s.peers differ))
          (lift_some (λ work. IsPeerAt k work s) (λ work. IsPeerAt k work x) (peer_of k s.peers).work
          (λ other is on. one_kept a b k other s x steady counts goes (λ was. ups k ∙ was) life_left (read_before other s x (goes_same s x ups refl)) on) (are k))
    ]
