-- what steps leave as it was
use Rattle.std.proofs.Common.{◌≡◌, inl, inr, ◌-◌, false, List, Option, Some, None, Result, Ok, Err, refl, sym, ap, subst, ◌∙◌, true≢false, arith}
use Rattle.std.proofs.lemmas.List.{get_or-set_other}
use Rattle.qsg_num.specs.declared.ids.Incarnation.{Incarnation}
use Rattle.qsg_num.specs.declared.seats.Member.{Member}
use Rattle.qsg_num.specs.Seats.{member_number}
use Rattle.qsg_num.proofs.Ranges.{member-bounds}
use Rattle.qsg_repo.specs.Lives.{first_open}
use Rattle.qsg_group.proofs.Tables.{cases_member}
use Rattle.qsg_logs.specs.Kept.{KeptLog, no_log, log_in}
use Rattle.qsg_parts.specs.Owned.{Owned}
use Rattle.qsg_logs.specs.Reading.{IsRead}
use Rattle.qsg_peer.specs.declared.phases.FailedLife.{FailedLife}
use Rattle.qsg_peer.specs.declared.phases.NoMemory.{NoMemory}
use Rattle.qsg_peer.specs.declared.phases.PeerTurn.{PeerTurn}
use Rattle.qsg_peer.specs.declared.phases.Phase.{Phase}
use Rattle.qsg_peer.specs.declared.phases.Phase.TheVariants.{Find, Low, At}
use Rattle.qsg_peer.specs.declared.phases.Stage.{Stage}
use Rattle.qsg_peer.specs.declared.phases.Stage.TheVariants.{Read, Connect, Search, Settle, Resolve}
use Rattle.qsg_peer.specs.Works.{Work}
use Rattle.qsg_peer.specs.Steps.{Next, found_phase, after_find, after_low, HasRead, after_connect, after_search, after_settle, after_resolve, Acts, GoesOn, NextAt, NextPeer}
use Rattle.qsg_peer.specs.Leaving.{is_settle, takes_off, LeavesRest, LeavesStructures}

same_read : (log : KeptLog) → IsRead log log
same_read log = record { rest = refl; bytes = λ tells. refl; later = omega arith }

same_rest : (p q : Owned) → q.managers ≡ p.managers → q.datasets ≡ p.datasets → q.objects ≡ p.objects → q.history ≡ p.history → q.logs ≡ p.logs → LeavesRest p q
same_rest p q managers datasets objects history logs = record {
  managers = managers;
  datasets = datasets;
  objects = objects;
  history = history;
  logs = λ m. subst (λ (l : List KeptLog). IsRead (log_in m p.logs) (log_in m l)) (sym logs) (same_read (log_in m p.logs));
}

all_same : (p q : Owned) → q ≡ p → LeavesRest p q
all_same p q is = same_rest p q (ap (λ (x : Owned). x.managers) is) (ap (λ (x : Owned). x.datasets) is) (ap (λ (x : Owned). x.objects) is) (ap (λ (x : Owned). x.history) is) (ap (λ (x : Owned). x.logs) is)

parts_are : (next : Next) (turn : PeerTurn) (v : Work) (q : Owned) → record { turn = turn; work = v; parts = q } ≡ next → q ≡ next.parts
parts_are next turn v q is = ap (λ (n : Next). n.parts) is

read_rest : (life : FailedLife) (p q : Owned) → HasRead life p q → LeavesRest p q
read_rest life p q has = record {
  managers = ap (λ (x : Owned). x.managers) has.others;
  datasets = ap (λ (x : Owned). x.datasets) has.others;
  objects = ap (λ (x : Owned). x.objects) has.others;
  history = ap (λ (x : Owned). x.history) has.others;
  logs = λ k. elim (cases_member k life.member) [
    | inl same ↦ subst (λ (m : Member). IsRead (log_in m p.logs) (log_in m q.logs)) (sym same) has.log
    | inr differ ↦
        let other : log_in k q.logs ≡ log_in k p.logs =
        ap (λ (x : Owned). log_in k x.logs) has.others
        ∙ get_or-set_other p.logs (member_number life.member - 1) (member_number k - 1) (log_in life.member q.logs) no_log (apart k life.member differ) in
        subst (λ (l : KeptLog). IsRead (log_in k p.logs) l) (sym other) (same_read (log_in k p.logs))
  ];
}
  where
    apart : (k m : Member) → (member_number k ≡ member_number m → ⊥) → member_number k - 1 ≡ member_number m - 1 → ⊥
    apart k m differ is = let one = (member-bounds k).0 in let two = (member-bounds m).0 in differ (omega arith)

act_rest : (life : FailedLife) (stage : Stage) (w : Work) (p : Owned) (result : Result PeerTurn NoMemory) (v : Work) (q : Owned) → Acts life stage w p result v q → LeavesRest p q
act_rest life Read w p (Ok turn) v q acts = read_rest life p q acts.0
act_rest life Read w p (Err e) v q acts = absurd acts
act_rest life (Connect s) w p (Ok turn) v q acts = all_same p q (parts_are (after_connect life s w p) turn v q acts)
act_rest life (Connect s) w p (Err e) v q acts = absurd acts
act_rest life (Search connection after) w p (Ok turn) v q acts = all_same p q (parts_are (after_search life connection after w p) turn v q acts)
act_rest life (Search connection after) w p (Err e) v q acts = absurd acts
act_rest life (Settle connection found) w p (Ok turn) v q acts =
    let is = parts_are (after_settle life connection found w p) turn v q acts in
    same_rest p q (ap (λ (x : Owned). x.managers) is) (ap (λ (x : Owned). x.datasets) is) (ap (λ (x : Owned). x.objects) is) (ap (λ (x : Owned). x.history) is) (ap (λ (x : Owned). x.logs) is)
act_rest life (Settle connection found) w p (Err e) v q acts = absurd acts
act_rest life Resolve w p (Ok turn) v q acts =
    let is = parts_are (after_resolve life w p) turn v q acts in
    same_rest p q (ap (λ (x : Owned). x.managers) is) (ap (λ (x : Owned). x.datasets) is) (ap (λ (x : Owned). x.objects) is) (ap (λ (x : Owned). x.history) is) (ap (λ (x : Owned). x.logs) is)
act_rest life Resolve w p (Err e) v q acts = absurd acts

on_rest : (life : FailedLife) (stage : Stage) (w : Work) (p : Owned) (result : Result PeerTurn NoMemory) (v : Work) (q : Owned) → GoesOn life stage w p result v q → LeavesRest p q
on_rest life stage w p result v q (inl given) = all_same p q given.parts_are
on_rest life stage w p result v q (inr (inl lacks)) = all_same p q lacks.parts_are
on_rest life stage w p result v q (inr (inr acted)) = act_rest life stage (record w { walk = acted.walk }) p result v q acted.acts

find_parts : (phase : Option Phase) (w : Work) (p : Owned) → (after_find phase w p).parts ≡ p
find_parts None w p = refl
find_parts (Some phase) w p = refl

rest_at : (skip : List (Member × Incarnation)) (phase : Phase) (w : Work) (p : Owned) (result : Result PeerTurn NoMemory) (v : Work) (q : Owned) → NextAt skip phase w p result v q → LeavesRest p q
rest_at skip Find w p (Ok turn) v q next =
    let found = found_phase (first_open skip p.repo.lives) in all_same p q (parts_are (after_find found w p) turn v q next ∙ find_parts found w p)
rest_at skip Find w p (Err e) v q next = absurd next
rest_at skip (Low life) w p (Ok turn) v q next = all_same p q (parts_are (after_low life w p) turn v q next)
rest_at skip (Low life) w p (Err e) v q next = absurd next
rest_at skip (At life stage) w p result v q next = on_rest life stage w p result v q next

pub rest_left : (skip : List (Member × Incarnation)) (w : Work) (p : Owned) (result : Result PeerTurn NoMemory) (v : Work) (q : Owned) → NextPeer skip w p result v q → LeavesRest p q
rest_left skip w p result v q next = rest_at skip w.phase w p result v q next

-- ---- structures

act_structures : (life : FailedLife) (stage : Stage) (w : Work) (p : Owned) (result : Result PeerTurn NoMemory) (v : Work) (q : Owned) → Acts life stage w p result v q → is_settle stage ≡ false → LeavesStructures p q
act_structures life Read w p (Ok turn) v q acts other = ap (λ (x : Owned). x.structures) acts.0.others
act_structures life Read w p (Err e) v q acts other = absurd acts
act_structures life (Connect s) w p (Ok turn) v q acts other = ap (λ (x : Owned). x.structures) (parts_are (after_connect life s w p) turn v q acts)
act_structures life (Connect s) w p (Err e) v q acts other = absurd acts
act_structures life (Search connection after) w p (Ok turn) v q acts other = ap (λ (x : Owned). x.structures) (parts_are (after_search life connection after w p) turn v q acts)
act_structures life (Search connection after) w p (Err e) v q acts other = absurd acts
act_structures life (Settle connection found) w p result v q acts other = absurd (true≢false other)
act_structures life Resolve w p (Ok turn) v q acts other = ap (λ (x : Owned). x.structures) (parts_are (after_resolve life w p) turn v q acts)
act_structures life Resolve w p (Err e) v q acts other = absurd acts

on_structures : (life : FailedLife) (stage : Stage) (w : Work) (p : Owned) (result : Result PeerTurn NoMemory) (v : Work) (q : Owned) → GoesOn life stage w p result v q → is_settle stage ≡ false → LeavesStructures p q
on_structures life stage w p result v q (inl given) other = ap (λ (x : Owned). x.structures) given.parts_are
on_structures life stage w p result v q (inr (inl lacks)) other = ap (λ (x : Owned). x.structures) lacks.parts_are
on_structures life stage w p result v q (inr (inr acted)) other = act_structures life stage (record w { walk = acted.walk }) p result v q acted.acts other

structures_at : (skip : List (Member × Incarnation)) (phase : Phase) (w : Work) (p : Owned) (result : Result PeerTurn NoMemory) (v : Work) (q : Owned) → NextAt skip phase w p result v q → takes_off phase ≡ false → LeavesStructures p q
structures_at skip Find w p (Ok turn) v q next other =
    let found = found_phase (first_open skip p.repo.lives) in ap (λ (x : Owned). x.structures) (parts_are (after_find found w p) turn v q next ∙ find_parts found w p)
structures_at skip Find w p (Err e) v q next other = absurd next
structures_at skip (Low life) w p (Ok turn) v q next other = ap (λ (x : Owned). x.structures) (parts_are (after_low life w p) turn v q next)
structures_at skip (Low life) w p (Err e) v q next other = absurd next
structures_at skip (At life stage) w p result v q next other = on_structures life stage w p result v q next other

pub structures_left : (skip : List (Member × Incarnation)) (w : Work) (p : Owned) (result : Result PeerTurn NoMemory) (v : Work) (q : Owned) → NextPeer skip w p result v q → takes_off w.phase ≡ false → LeavesStructures p q
structures_left skip w p result v q next other = structures_at skip w.phase w p result v q next other
