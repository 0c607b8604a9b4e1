-- what others' steps leave of the works that system tasks have in hand
use Rattle.std.proofs.Common.{◌≡◌, inl, inr, ℕ, ◌-◌, ◌≤◌, Bool, true, false, List, length, Option, Some, None, Result, refl, sym, ap, subst, ◌∙◌, true≢false, length-set, arith}
use Rattle.std.specs.Prelude.{IfSome, ◌||◌, ◌⊎◌}
use Rattle.std.proofs.lemmas.List.{get_or-set_same, get_or-set_other}
use Rattle.qsg_num.specs.declared.seats.Member.{Member}
use Rattle.qsg_num.specs.Seats.{member_number, structure_number}
use Rattle.qsg_requests.specs.declared.replies.Turn.{Turn}
use Rattle.qsg_commit.specs.declared.phases.StepError.{StepError}
use Rattle.qsg_group.proofs.Tables.{cases_member}
use Rattle.qsg_manager.specs.declared.managers.Manager.{Manager}
use Rattle.qsg_manager.specs.Storage.{manager_in}
use Rattle.qsg_logs.specs.Kept.{log_in}
use Rattle.qsg_parts.specs.Owned.{Owned, HasMember}
use Rattle.qsg_works.specs.declared.work.Work.{Work}
use Rattle.qsg_works.specs.Steps.{NextWork}
use Rattle.qsg_fit.specs.Requests.{IsRequestOf, IsSteadyBeside}
use Rattle.qsg_steady.specs.Steady.{IsSteady}
use Rattle.qsg_steady.proofs.Places.{member_some, member_few}
use Rattle.qsg_reading.specs.Reading.{HasReadWritten}
use Rattle.qsg_crash.specs.Crashes.{IsCrash}
use Rattle.qsg_peer.specs.declared.phases.FailedLife.{FailedLife}
use Rattle.qsg_peer.specs.declared.phases.Phase.{Phase}
use Rattle.qsg_peer.specs.declared.phases.Phase.TheVariants.{Find, Low, At}
use Rattle.qsg_peer.specs.declared.phases.Stage.{Stage}
use Rattle.qsg_peer.specs.declared.phases.Stage.TheVariants.{Read, Connect, Search, Settle, Resolve}
use Rattle.qsg_peer.specs.Machine.{IsOver}
use Rattle.qsg_peer.specs.Needs.{MayStepOn, MayStepAt}
use Rattle.qsg_peer.specs.Sweeping.{HasSweptAt, AreOrdered}
use Rattle.qsg_peer.specs.Works.{Work as PeerWork}
use Rattle.qsg_peers.specs.Peers.{Peer, new_peer, peer_of, with_peer, ended_peer}
use Rattle.qsg_lives.specs.Marks.{StaysSwept}
use Rattle.qsg_lives.proofs.Downing.{down_here, down_other, down_length}
use Rattle.qsg_lives.proofs.Overs.{request_over, crash_over}
use Rattle.qsg_lives.proofs.Requests.{request_leaves}
use Rattle.qsg_lives.proofs.Structures.{none_changed}
use Rattle.qsg_step.specs.States.{State, is_member_up}
use Rattle.qsg_step.specs.Ends.{IsEnd}
use Rattle.qsg_step.specs.Steps.{IsUnmade}
use Rattle.qsg_sound.specs.Systems.{is_starting, goes_on, HasRead, Reads, IsWorkedOn, WorksAt, IsPeerAt}
use Rattle.qsg_sound.proofs.SystemsLogs.{unmoved, request_moves}
use Rattle.qsg_sound.proofs.SystemsReading.{Goes, goes_of, reads_still, reads_ended}

-- ---- system tasks by their members

pub peer_same : (m : Member) (y : Peer) (peers : List Peer) → length peers ≡ 8 → peer_of m (with_peer m y peers) ≡ y
peer_same m y peers eight = let one = member_some m in let few = member_few m in get_or-set_same peers (member_number m - 1) y new_peer (omega arith)

pub peer_other : (m k : Member) (y : Peer) (peers : List Peer) → (member_number k ≡ member_number m → ⊥) → peer_of k (with_peer m y peers) ≡ peer_of k peers
peer_other m k y peers differ = let one = member_some m in let two = member_some k in get_or-set_other peers (member_number m - 1) (member_number k - 1) y new_peer (λ e. differ (omega arith))

-- the works of all system tasks
abbrev pub ArePeers : State → Type 0
ArePeers s = (m : Member) → IfSome (peer_of m s.peers).work (λ work. IsPeerAt m work s)

pub lift_some : {X : Type 0} (P Q : X → Type 0) (o : Option X) → ((x : X) → o ≡ Some x → P x → Q x) → IfSome o P → IfSome o Q
lift_some P Q None lift is = tt
lift_some P Q (Some x) lift is = lift x refl is

-- ---- one work that stays in hand

-- what others' steps leave of an incarnation that is over
pub record LeavesLife (life : FailedLife) (s r : State) : Type 0 where
  pub over : IsOver life r.parts
  pub swept : StaysSwept life s.parts r.parts

pub record LeavesCounts (p q : Owned) : Type 0 where
  pub managers : length q.managers ≡ length p.managers
  pub logs : length q.logs ≡ length p.logs
  pub structures : length q.structures ≡ length p.structures

stage_may : (life : FailedLife) (stage : Stage) (p q : Owned) → LeavesCounts p q → MayStepOn life stage p → MayStepOn life stage q
stage_may life Read p q counts may = subst (λ (n : ℕ). member_number life.member ≤ n) (sym counts.logs) may
stage_may life (Connect s) p q counts may = subst (λ (n : ℕ). structure_number s ≤ n) (sym counts.structures) may
stage_may life (Search connection after) p q counts may = subst (λ (n : ℕ). structure_number connection.structure ≤ n) (sym counts.structures) may
stage_may life (Settle connection found) p q counts may = subst (λ (n : ℕ). structure_number connection.structure ≤ n) (sym counts.structures) may
stage_may life Resolve p q counts may = tt

pub may_stays : (phase : Phase) (p q : Owned) → LeavesCounts p q → MayStepAt phase p → MayStepAt phase q
may_stays Find p q counts may = tt
may_stays (Low life) p q counts may = subst (λ (n : ℕ). member_number life.member ≤ n) (sym counts.logs) may
may_stays (At life stage) p q counts may = stage_may life stage p q counts may

pub has_still : (m : Member) (p q : Owned) → LeavesCounts p q → HasMember m p → HasMember m q
has_still m p q counts has = record { manager = subst (λ (n : ℕ). member_number m ≤ n) (sym counts.managers) has.manager; log = subst (λ (n : ℕ). member_number m ≤ n) (sym counts.logs) has.log }

pub worked_still : (life : FailedLife) (s r : State) → LeavesCounts s.parts r.parts → LeavesLife life s r → IsWorkedOn life s → IsWorkedOn life r
worked_still life s r counts leaves on = record { member = has_still life.member s.parts r.parts counts on.member; over = leaves.over }

pub peer_stays : (n : Member) (w : PeerWork) (s r : State) → LeavesCounts s.parts r.parts → (is_member_up n s ≡ true → is_member_up n r ≡ true) → ((life : FailedLife) → IsWorkedOn life s → LeavesLife life s r)
    → ((life : FailedLife) (stage : Stage) → w.phase ≡ At life stage → IsWorkedOn life s → Reads life w.walk s → Reads life w.walk r) → IsPeerAt n w s → IsPeerAt n w r
peer_stays n w s r counts up leaves reads at = record {
  own = at.own;
  up = up at.up;
  may = may_stays w.phase s.parts r.parts counts at.may;
  swept = swept w.phase at.works at.swept;
  works = works w.phase refl at.works;
}
  where
    swept : (phase : Phase) → WorksAt phase w.walk s → HasSweptAt phase s.parts → HasSweptAt phase r.parts
    swept Find on is = tt
    swept (Low life) on is = tt
    swept (At life stage) on is = (leaves life on.0).swept stage is

    works : (phase : Phase) → w.phase ≡ phase → WorksAt phase w.walk s → WorksAt phase w.walk r
    works Find is on = tt
    works (Low life) is on = worked_still life s r counts (leaves life on) on
    works (At life stage) is on = (worked_still life s r counts (leaves life on.0) on.0, reads life stage is on.0 on.1)

-- ---- a step that leaves the works of all system tasks

-- a walk has read written pages of a log with which somebody goes on
abbrev pub HasReadFor : PeerWork → State → State → Type 0
HasReadFor w s r = (life : FailedLife) (stage : Stage) → w.phase ≡ At life stage → HasRead life w.walk s → goes_on life.member r ≡ true → HasReadWritten w.walk (log_in life.member s.parts.logs)

pub read_before : (w : PeerWork) (s r : State) → ((k : Member) → goes_on k r ≡ true → goes_on k s ≡ true) → HasReadFor w s r
read_before w s r back life stage is has on = has.written (back life.member on)

pub one_kept : (a b : ℕ) (n : Member) (w : PeerWork) (s r : State) → IsSteady a b s.parts → LeavesCounts s.parts r.parts → Goes s.parts r.parts → (is_member_up n s ≡ true → is_member_up n r ≡ true) → ((life : FailedLife) → IsWorkedOn life s → LeavesLife life s r)
    → HasReadFor w s r → IsPeerAt n w s → IsPeerAt n w r
one_kept a b n w s r steady counts goes up leaves read at = peer_stays n w s r counts up leaves
    (λ life stage is on reads. reads_still a b life w.walk s r steady on.over on.member.manager counts.managers goes (read life stage is) reads) at

pub all_kept : (a b : ℕ) (s r : State) → IsSteady a b s.parts → r.peers ≡ s.peers → LeavesCounts s.parts r.parts → Goes s.parts r.parts → ((n : Member) → is_member_up n s ≡ true → is_member_up n r ≡ true)
    → ((life : FailedLife) → IsWorkedOn life s → LeavesLife life s r) → ((n : Member) (w : PeerWork) → (peer_of n s.peers).work ≡ Some w → HasReadFor w s r) → ArePeers s → ArePeers r
all_kept a b s r steady same counts goes up leaves read are n =
    subst (λ peers. IfSome (peer_of n peers).work (λ work. IsPeerAt n work r)) (sym same)
    (lift_some (λ work. IsPeerAt n work s) (λ work. IsPeerAt n work r) (peer_of n s.peers).work (λ w is at. one_kept a b n w s r steady counts goes (up n) leaves (read n w is) at) (are n))

-- which members go on with their logs is as it was
pub goes_same : (s r : State) → ((k : Member) → is_member_up k r ≡ is_member_up k s) → r.starting ≡ s.starting → (k : Member) → goes_on k r ≡ true → goes_on k s ≡ true
goes_same s r ups starting k on = sym (λ i. ups k i || is_starting k (starting i)) ∙ on

-- ---- a request

pub peers_after_request : (a b c d : ℕ) (before work : Work) (result : Result Turn StepError) (s r : State) → IsSteady a b s.parts → IsSteadyBeside c d before s.parts → IsRequestOf before s.parts → AreOrdered s.parts → NextWork before s.parts result work r.parts
    → length r.parts.managers ≡ length s.parts.managers → ((k : Member) → is_member_up k r ≡ is_member_up k s) → r.peers ≡ s.peers → r.starting ≡ s.starting → ArePeers s → ArePeers r
peers_after_request a b c d before work result s r steady beside fits ordered next count ups peers starting are =
    let moves = request_moves c d before work s.parts r.parts result beside fits next in
    all_kept a b s r steady peers (record { managers = count; logs = moves.logs; structures = moves.structures }) (goes_of s.parts r.parts moves)
    (λ n up. ups n ∙ up)
    (λ life on. record {
      over = request_over c d life before work s.parts r.parts result beside fits next on.over;
      swept = (request_leaves c d life before work s.parts r.parts result beside fits ordered on.over next).swept;
    })
    (λ n w is. read_before w s r (goes_same s r ups starting)) are

-- ---- parts that don't change, but for room in the history

-- an incarnation that is over is so where members' storage is the same
pub over_in : (life : FailedLife) (p q : Owned) → q.managers ≡ p.managers → IsOver life p → IsOver life q
over_in life p q managers over = record {
  past = subst (λ ms. life.incarnation.number ≤ (manager_in life.member ms).incarnation.number) (sym managers) over.past;
  down = subst (λ ms. life.incarnation.number ≡ (manager_in life.member ms).incarnation.number → (manager_in life.member ms).up ≡ false) (sym managers) over.down;
}

pub peers_in_same : (a b : ℕ) (s r : State) → IsSteady a b s.parts → r.parts.repo ≡ s.parts.repo → r.parts.logs ≡ s.parts.logs → r.parts.structures ≡ s.parts.structures → r.parts.managers ≡ s.parts.managers → r.peers ≡ s.peers
    → ((n : Member) (w : PeerWork) → (peer_of n s.peers).work ≡ Some w → HasReadFor w s r) → ArePeers s → ArePeers r
peers_in_same a b s r steady repo logs structures managers peers read are =
    let p = s.parts in
    let q = r.parts in
    all_kept a b s r steady peers (record { managers = ap length managers; logs = ap length logs; structures = ap length structures })
    (goes_of p q (unmoved p q repo logs (ap length structures)))
    (λ n up. ap (λ ms. (manager_in n ms).up) managers ∙ up)
    (λ life on. record { over = over_in life p q managers on.over; swept = (none_changed life p q structures).swept })
    read are

-- an answer, or what else leaves the parts
pub peers_after_answer : (a b : ℕ) (s r : State) → IsSteady a b s.parts → r.parts ≡ s.parts → r.peers ≡ s.peers → r.starting ≡ s.starting → ArePeers s → ArePeers r
peers_after_answer a b s r steady parts peers starting are =
    peers_in_same a b s r steady (ap (λ (x : Owned). x.repo) parts) (ap (λ (x : Owned). x.logs) parts) (ap (λ (x : Owned). x.structures) parts) (ap (λ (x : Owned). x.managers) parts) peers
    (λ n w is. read_before w s r (goes_same s r (λ k. ap (λ (x : Owned). (manager_in k x.managers).up) parts) starting)) are

pub peers_after_unmade : (a b : ℕ) (s r : State) → IsSteady a b s.parts → IsUnmade s r → ArePeers s → ArePeers r
peers_after_unmade a b s r steady unmade are =
    let same = unmade.parts.same in
    peers_in_same a b s r steady (ap (λ (x : Owned). x.repo) same) (ap (λ (x : Owned). x.logs) same) (ap (λ (x : Owned). x.structures) same) (ap (λ (x : Owned). x.managers) same) (ap (λ (x : State). x.peers) unmade.others)
    (λ n w is. read_before w s r (goes_same s r (λ k. ap (λ (x : Owned). (manager_in k x.managers).up) same) (ap (λ (x : State). x.starting) unmade.others))) are

-- ---- the end of a member

or_false : (a b : Bool) → a ≡ false → b ≡ false → (a || b) ≡ false
or_false a b one two = λ i. one i || two i

pub peers_after_end : (a b : ℕ) (m : Member) (s r : State) → IsSteady a b s.parts → HasMember m s.parts → is_member_up m s ≡ true → is_starting m s.starting ≡ false → length s.peers ≡ 8 → IsEnd m s r → ArePeers s → ArePeers r
peers_after_end a b m s r steady has alive idle eight end are n = by_case (cases_member n m)
  where
    p : Owned
    p = s.parts

    q : Owned
    q = r.parts

    crash : IsCrash m p q
    crash = end.crash

    peers : r.peers ≡ with_peer m (ended_peer (peer_of m s.peers)) s.peers
    peers = ap (λ (x : State). x.peers) end.after

    starting : r.starting ≡ s.starting
    starting = ap (λ (x : State). x.starting) end.after

    managers : (k : Member) → (member_number k ≡ member_number m → ⊥) → manager_in k q.managers ≡ manager_in k p.managers
    managers k differ = ap (λ (x : Owned). manager_in k x.managers) crash.parts ∙ down_other m k p.managers differ

    counts : LeavesCounts p q
    counts = record {
      managers = ap (λ (x : Owned). length x.managers) crash.parts ∙ down_length m p.managers;
      logs = ap (λ (x : Owned). length x.logs) crash.parts ∙ length-set p.logs (member_number m - 1) (log_in m q.logs);
      structures = ap (λ (x : Owned). length x.structures) crash.parts;
    }

    down : is_member_up m r ≡ false
    down = ap (λ (x : Owned). (manager_in m x.managers).up) crash.parts ∙ ap (λ (x : Manager). x.up) (down_here m p.managers has.manager)

    off : goes_on m r ≡ false
    off = or_false (is_member_up m r) (is_starting m r.starting) down (ap (is_starting m) starting ∙ idle)

    back : (k : Member) → goes_on k r ≡ true → goes_on k s ≡ true
    back k on = elim (cases_member k m) [
      | inl same ↦ absurd (true≢false (sym on ∙ ap (λ x. goes_on x r) same ∙ off))
      | inr differ ↦ sym (λ i. (managers k differ i).up || is_starting k (starting i)) ∙ on
    ]

    by_case : (n ≡ m) ⊎ (member_number n ≡ member_number m → ⊥) → IfSome (peer_of n r.peers).work (λ work. IsPeerAt n work r)
    by_case (inl same) = subst (λ o. IfSome o (λ work. IsPeerAt n work r)) (sym (ap (λ (x : Peer). x.work) (ap (peer_of n) peers ∙ ap (λ k. peer_of k (with_peer m (ended_peer (peer_of m s.peers)) s.peers)) same ∙ peer_same m (ended_peer (peer_of m s.peers)) s.peers eight))) tt
    by_case (inr differ) =
        subst (λ (x : Peer). IfSome x.work (λ work. IsPeerAt n work r)) (sym (ap (peer_of n) peers ∙ peer_other m n (ended_peer (peer_of m s.peers)) s.peers differ))
        (lift_some (λ work. IsPeerAt n work s) (λ work. IsPeerAt n work r) (peer_of n s.peers).work (λ w is at. peer_stays n w s r counts
        (λ up. ap (λ (x : Manager). x.up) (managers n differ) ∙ up)
        (λ life on. record { over = crash_over life m p q has crash on.over; swept = (none_changed life p q (ap (λ (x : Owned). x.structures) crash.parts)).swept })
        (λ life stage is on reads. reads_ended a b life w.walk m s r steady on.over on.member.manager counts.managers counts.logs alive crash off (back life.member) reads) at) (are n))
