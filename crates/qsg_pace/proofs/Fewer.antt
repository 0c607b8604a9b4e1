-- steps that leave no more of what is in hand
use Rattle.std.proofs.Common.{◌≡◌, ℕ, zero, suc, ◌+◌, ◌-◌, ◌*◌, ◌<◌, ◌≤◌, List, [], ◌∷◌, length, get_or, set, Option, Some, None, sym, subst, arith}
use Rattle.std.specs.Prelude.{IfSome, count_by, sum_by}
use Rattle.std.proofs.lemmas.List.Sums.{sum_by-le-sum_by}
use Rattle.qsg_num.specs.declared.seats.Member.{Member}
use Rattle.qsg_num.specs.declared.seats.TaskNo.{TaskNo}
use Rattle.qsg_num.specs.Seats.{member_number}
use Rattle.qsg_num.specs.declared.ids.Incarnation.{Incarnation}
use Rattle.qsg_lists.specs.Structures.{ListStructure}
use Rattle.qsg_repo.specs.Lives.{is_open}
use Rattle.qsg_manager.specs.Facilities.{structure_in}
use Rattle.qsg_manager.specs.Storage.{task_at}
use Rattle.qsg_parts.specs.Owned.{Owned}
use Rattle.qsg_commit.specs.declared.phases.Phase.{Phase}
use Rattle.qsg_commit.specs.declared.phases.Phase.TheVariants.{Latch, Pages, Settle, Publish, GiveUp, Undo}
use Rattle.qsg_works.specs.declared.work.Work.{Work}
use Rattle.qsg_works.specs.declared.work.Work.TheVariants.{Put, Get, Commit}
use Rattle.qsg_peer.specs.declared.phases.FailedLife.{FailedLife}
use Rattle.qsg_peer.specs.declared.phases.Phase.{Phase as PeerPhase}
use Rattle.qsg_peer.specs.declared.phases.Phase.TheVariants.{Find, Low, At}
use Rattle.qsg_peer.specs.Works.{Work as PeerWork}
use Rattle.qsg_peer.specs.Pace.{marks_above, marks_above_in, HasNoMoreMarks, HasNoMoreAt}
use Rattle.qsg_peer.proofs.Pace.{steps_fewer}
use Rattle.qsg_peers.specs.Peers.{Peer, new_peer, peer_of}
use Rattle.qsg_pace.specs.Pace.{left_of_run, marks_left, left_in, whole, passed_by, to_find, left_in_hand, left_to_peer}
use Rattle.qsg_pace.proofs.Sums.{sum_fewer}
use Rattle.qsg_pace.proofs.Looking.{hand_in, size_in}
use Rattle.qsg_pace.proofs.Ends.{left_at}
use Rattle.qsg_pace.proofs.Places.{member_with}

-- ---- requests

-- no task has more marks left, and no log more pages in hand
pub record LeavesNoMore (p q : Owned) : Type 0 where
  pub tasks : (k : Member) (w : TaskNo) → marks_left (task_at k w q.managers) ≤ marks_left (task_at k w p.managers)
  pub hands : (k : Member) → left_of_run (hand_in k q.logs) ≤ left_of_run (hand_in k p.logs)

end_fewer : (p q : Owned) (m : Member) (t : TaskNo) (phase : Phase) → LeavesNoMore p q → left_at m t phase q ≤ left_at m t phase p
end_fewer p q m t Latch fewer = omega arith
end_fewer p q m t (Pages u count) fewer = omega (arith, fewer.tasks m t, fewer.hands m)
end_fewer p q m t (Settle u count) fewer = omega (arith, fewer.tasks m t)
end_fewer p q m t (Publish u count) fewer = omega arith
end_fewer p q m t GiveUp fewer = omega arith
end_fewer p q m t (Undo u count) fewer = omega (arith, fewer.tasks m t)

in_fewer : (p q : Owned) (o : Option Work) → LeavesNoMore p q → left_in q o ≤ left_in p o
in_fewer p q None fewer = omega arith
in_fewer p q (Some (Put work)) fewer = omega arith
in_fewer p q (Some (Get work)) fewer = omega arith
in_fewer p q (Some (Commit work)) fewer = end_fewer p q work.member work.task work.phase fewer

pub works_fewer : (p q : Owned) (works : List (Option Work)) → LeavesNoMore p q → sum_by (left_in q) works ≤ sum_by (left_in p) works
works_fewer p q works fewer = sum_by-le-sum_by (left_in q) (left_in p) works (λ o. in_fewer p q o fewer)

-- one that counts less in the place of another
pub seen_fewer : {X : Type 0} (f : X → ℕ) (xs : List X) (i j : ℕ) (y d : X) → f y ≤ f (get_or xs i d) → f (get_or (set xs i y) j d) ≤ f (get_or xs j d)
seen_fewer f [] i j y d less = omega arith
seen_fewer f (x ∷ xs) zero zero y d less = less
seen_fewer f (x ∷ xs) zero (suc j) y d less = omega arith
seen_fewer f (x ∷ xs) (suc i) zero y d less = omega arith
seen_fewer f (x ∷ xs) (suc i) (suc j) y d less = seen_fewer f xs i j y d less

-- ---- works of system tasks

-- each log has as many pages as before
abbrev pub AreAsLong : Owned → Owned → Type 0
AreAsLong p q = (k : Member) → size_in k q.logs ≡ size_in k p.logs

pub same_marks : (p q : Owned) → q.structures ≡ p.structures → (life : FailedLife) → HasNoMoreMarks life p q
same_marks p q same life = λ id s. subst (λ (ss : List ListStructure). marks_above life id (structure_in s ss).entries ≤ marks_above_in life id s p) (sym same) (omega arith)

pub at_all : (p q : Owned) → ((life : FailedLife) → HasNoMoreMarks life p q) → (phase : PeerPhase) → HasNoMoreAt phase p q
at_all p q fewer Find = tt
at_all p q fewer (Low life) = fewer life
at_all p q fewer (At life stage) = fewer life

abbrev pub HasNoMoreFor : Owned → Owned → PeerWork → Type 0
HasNoMoreFor p q w = HasNoMoreAt w.phase p q

pub any_work : (p q : Owned) → ((life : FailedLife) → HasNoMoreMarks life p q) → (o : Option PeerWork) → IfSome o (HasNoMoreFor p q)
any_work p q fewer None = tt
any_work p q fewer (Some w) = at_all p q fewer w.phase

pub hand_fewer : (p q : Owned) (o : Option PeerWork) → IfSome o (HasNoMoreFor p q) → AreAsLong p q → left_in_hand q o ≤ left_in_hand p o
hand_fewer p q None fewer long = omega arith
hand_fewer p q (Some w) fewer long = omega (arith, steps_fewer w p q fewer long)

-- so many more have to be found at most
pub peer_above : (p q : Owned) (peer : Peer) (c : ℕ) → IfSome peer.work (HasNoMoreFor p q) → AreAsLong p q → to_find q.repo.lives peer ≤ to_find p.repo.lives peer + c → left_to_peer q peer ≤ left_to_peer p peer + whole * c
peer_above p q peer c fewer long find = omega (arith, find, hand_fewer p q peer.work fewer long)

pub each_peer : (P : Peer → Type 0) (peers : List Peer) → length peers ≡ 8 → ((m : Member) → P (peer_of m peers)) → (j : ℕ) → j < length peers → P (get_or peers j new_peer)
each_peer P peers eight each j less =
    let m = member_with j (omega (arith, eight, less)) in
    let is = m.1 in
    let at : member_number m.0 - 1 ≡ j = omega (arith, is) in
    subst (λ (i : ℕ). P (get_or peers i new_peer)) at (each m.0)

-- no more is left to any system task
pub all_peers_fewer : (p q : Owned) (peers : List Peer) → ((life : FailedLife) → HasNoMoreMarks life p q) → AreAsLong p q → ((skip : List (Member × Incarnation)) → count_by (is_open skip) q.repo.lives ≤ count_by (is_open skip) p.repo.lives)
    → sum_by (left_to_peer q) peers ≤ sum_by (left_to_peer p) peers
all_peers_fewer p q peers marks long found = sum_fewer (left_to_peer p) (left_to_peer q) peers new_peer (λ j less.
    let k = get_or peers j new_peer in
    let fewer = found (passed_by k) in
    let above = peer_above p q k 0 (any_work p q marks k.work) long (omega (arith, fewer)) in
    omega (arith, above))
