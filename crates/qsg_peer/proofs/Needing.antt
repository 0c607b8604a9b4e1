-- what a step leaves is what the next one needs, and which steps take memory
use Rattle.std.proofs.Common.{◌≡◌, inl, inr, ℕ, ◌+◌, ◌-◌, ◌≤◌, Bool, true, false, cond, List, [], ◌∷◌, length, Option, Some, None, Result, Ok, Err, IfOk, refl, sym, ap, subst, ◌∙◌, arith}
use Rattle.std.specs.Prelude.{◌==◌, ◌||◌, nat_le, OnErr, is_some, map, filter, fold}
use Rattle.std.specs.List.{AllByRecursion}
use Rattle.std.proofs.lemmas.Bool.Decides.{nat_tests}
use Rattle.std.proofs.lemmas.List.{length-set}
use Rattle.std.proofs.lemmas.Option.{none-some, same_Some}
use Rattle.qsg_num.specs.declared.ids.Incarnation.{Incarnation}
use Rattle.qsg_num.specs.declared.seats.Member.{Member}
use Rattle.qsg_num.specs.declared.seats.StructNo.{StructNo}
use Rattle.qsg_num.specs.Seats.{member_number, structure_number, structure_at}
use Rattle.qsg_num.proofs.Ranges.{member-bounds, structure-bounds}
use Rattle.qsg_lists.specs.declared.parts.Connection.{Connection}
use Rattle.qsg_lists.specs.declared.parts.Lost.{Lost}
use Rattle.qsg_lists.specs.declared.parts.Seen.{Seen}
use Rattle.qsg_lists.specs.declared.parts.Settled.{Settled}
use Rattle.qsg_lists.specs.Structures.{connect_answer}
use Rattle.qsg_logread.specs.Fed.{is_committed}
use Rattle.qsg_repo.specs.declared.lives.Life.{Life}
use Rattle.qsg_repo.specs.Lives.{name_of, is_open, lesser, is_before, first_open}
use Rattle.qsg_manager.specs.Facilities.{structure_in}
use Rattle.qsg_logs.specs.Kept.{log_in}
use Rattle.qsg_parts.specs.Owned.{Owned}
use Rattle.qsg_manager.specs.declared.structures.MarkedEntry.{MarkedEntry}
use Rattle.qsg_walk.specs.Walks.{Walk}
use Rattle.qsg_peer.specs.declared.phases.FailedLife.{FailedLife}
use Rattle.qsg_peer.specs.declared.phases.NoMemory.{NoMemory}
use Rattle.qsg_peer.specs.declared.phases.PeerTurn.{PeerTurn}
use Rattle.qsg_peer.specs.declared.phases.PeerTurn.TheVariants.{More}
use Rattle.qsg_peer.specs.declared.phases.Phase.{Phase}
use Rattle.qsg_peer.specs.declared.phases.Phase.TheVariants.{Find, Low, At}
use Rattle.qsg_peer.specs.declared.phases.Stage.{Stage}
use Rattle.qsg_peer.specs.declared.phases.Stage.TheVariants.{Read, Connect, Search, Settle, Resolve}
use Rattle.qsg_peer.specs.Works.{Work}
use Rattle.qsg_peer.specs.Needs.{HasLog, MayStepOn, MayStepAt, AreMembers, is_reading, takes_memory}
use Rattle.qsg_peer.specs.Steps.{Next, found_phase, after_find, after_low, stage_at, from_structure, walking, first_walk, Reads, connected, searched, search_answer, settled_stage, mark_answer, after_connect, after_search, after_settle, with_mark_off, after_resolve, Makes, Acts, GoesOn, NextAt, NextPeer}

-- ---- an incarnation that is found is one that was given

lesser_is : (Q : Member × Incarnation → Type 0) (a : Option (Member × Incarnation)) (x : Member × Incarnation) → ((y : Member × Incarnation) → a ≡ Some y → Q y) → Q x → (y : Member × Incarnation) → lesser a x ≡ Some y → Q y
lesser_is Q None x old new y is = subst Q (same_Some x y is) new
lesser_is Q (Some a) x old new y is = by (is_before x a) is
  where
    by : (b : Bool) → cond b (Some x) (Some a) ≡ Some y → Q y
    by true same = subst Q (same_Some x y same) new
    by false same = old y same

pub least_is : (Q : Member × Incarnation → Type 0) (names : List (Member × Incarnation)) (a : Option (Member × Incarnation)) → ((y : Member × Incarnation) → a ≡ Some y → Q y) → AllByRecursion Q names
    → (y : Member × Incarnation) → fold lesser a names ≡ Some y → Q y
least_is Q [] a old all = old
least_is Q (x ∷ names) a old all = least_is Q names (lesser a x) (lesser_is Q a x old all.0) all.1

open_all : (P : Member → Type 0) (skip : List (Member × Incarnation)) (lives : List Life) → AllByRecursion (λ (l : Life). P l.member) lives → AllByRecursion (λ (n : Member × Incarnation). P n.0) (map name_of (filter (is_open skip) lives))
open_all P skip [] all = tt
open_all P skip (l ∷ lives) all = by (is_open skip l) (open_all P skip lives all.1)
  where
    by : (b : Bool) → AllByRecursion (λ (n : Member × Incarnation). P n.0) (map name_of (filter (is_open skip) lives)) → AllByRecursion (λ (n : Member × Incarnation). P n.0) (map name_of (cond b (l ∷ filter (is_open skip) lives) (filter (is_open skip) lives)))
    by true more = (all.0, more)
    by false more = more

pub found_member : (P : Member → Type 0) (skip : List (Member × Incarnation)) (lives : List Life) (name : Member × Incarnation) → AllByRecursion (λ (l : Life). P l.member) lives → first_open skip lives ≡ Some name → P name.0
found_member P skip lives name all is = least_is (λ n. P n.0) (map name_of (filter (is_open skip) lives)) None (λ y none. absurd (none-some y none)) (open_all P skip lives all) name is

-- ---- what comes next is there

may_at : (life : FailedLife) (count : ℕ) (s : Option StructNo) (p : Owned) → count ≡ length p.structures → MayStepOn life (stage_at count s) p
may_at life count None p same = tt
may_at life count (Some s) p same = by (nat_le (structure_number s) count) refl
  where
    by : (b : Bool) → nat_le (structure_number s) count ≡ b → MayStepOn life (cond b (Connect s) Resolve) p
    by true is = subst (λ (n : ℕ). structure_number s ≤ n) same (within (structure_number s) count is)
      where
        within : (a b : ℕ) → nat_le a b ≡ true → a ≤ b
        within a b is = grind (arith, nat_tests)
    by false is = tt

may_walk : (life : FailedLife) (count : ℕ) (walk : Walk) (p : Owned) → count ≡ length p.structures → HasLog life.member p → MayStepOn life (walking count walk) p
may_walk life count walk p same log = by (walk.left == 0)
  where
    by : (b : Bool) → MayStepOn life (cond b (from_structure count 1) Read) p
    by true = may_at life count (structure_at 1) p same
    by false = log

-- a step that leaves exactly this
may_by : (next : Next) (turn : PeerTurn) (v : Work) (q : Owned) → record { turn = turn; work = v; parts = q } ≡ next → MayStepAt next.work.phase next.parts → MayStepAt v.phase q
may_by next turn v q is may = subst (λ (n : Next). MayStepAt n.work.phase n.parts) (sym is) may

ends : (next : Next) (turn : PeerTurn) (v : Work) (q : Owned) → record { turn = turn; work = v; parts = q } ≡ next → turn ≡ More → next.turn ≡ More
ends next turn v q is more = sym (ap (λ (n : Next). n.turn) is) ∙ more

find_ready : (skip : List (Member × Incarnation)) (w : Work) (p : Owned) (turn : PeerTurn) (v : Work) (q : Owned) → AreMembers p → Makes (after_find (found_phase (first_open skip p.repo.lives)) w p) (Ok turn) v q → turn ≡ More → MayStepAt v.phase q
find_ready skip w p turn v q members next more = by (first_open skip p.repo.lives) refl next
  where
    by : (name : Option (Member × Incarnation)) → first_open skip p.repo.lives ≡ name → Makes (after_find (found_phase name) w p) (Ok turn) v q → MayStepAt v.phase q
    by None is made = absurd (cc (ends (after_find (found_phase None) w p) turn v q made more))
    by (Some (m, i)) is made = may_by (after_find (found_phase (Some (m, i))) w p) turn v q made (found_member (λ x. HasLog x p) skip p.repo.lives (m, i) members is)

read_ready : (life : FailedLife) (w : Work) (p : Owned) (turn : PeerTurn) (v : Work) (q : Owned) → HasLog life.member p → Reads life w p turn v q → turn ≡ More → MayStepAt v.phase q
read_ready life w p turn v q log (has, inl failed) more = absurd (cc (failed.turn_is, more))
read_ready life w p turn v q log (has, inr found) more =
    let still : HasLog life.member q = subst (λ (n : ℕ). member_number life.member ≤ n)
    (sym (ap (λ (x : Owned). length x.logs) has.others ∙ length-set p.logs (member_number life.member - 1) (log_in life.member q.logs))) log in
    subst (λ (x : Work). MayStepAt x.phase q) (sym found.work_is)
    (may_walk life (length p.structures) v.walk q (sym (ap (λ (x : Owned). length x.structures) has.others)) still)

connect_ready : (life : FailedLife) (s : StructNo) (p : Owned) (answer : Result Seen Lost) → structure_number s ≤ length p.structures → MayStepOn life (connected s (length p.structures) answer) p
connect_ready life s p (Ok seen) there = there
connect_ready life s p (Err lost) there = may_at life (length p.structures) (structure_at (structure_number s + 1)) p refl

search_ready : (life : FailedLife) (connection : Connection) (p : Owned) (answer : Result (Option MarkedEntry) Lost) → structure_number connection.structure ≤ length p.structures → MayStepOn life (searched connection (length p.structures) answer) p
search_ready life connection p (Ok (Some found)) there = there
search_ready life connection p (Ok None) there = may_at life (length p.structures) (structure_at (structure_number connection.structure + 1)) p refl
search_ready life connection p (Err lost) there = may_at life (length p.structures) (structure_at (structure_number connection.structure + 1)) p refl

settle_ready : (life : FailedLife) (connection : Connection) (found : MarkedEntry) (p q : Owned) (answer : Result Settled Lost) → length p.structures ≡ length q.structures → structure_number connection.structure ≤ length p.structures
    → MayStepOn life (settled_stage connection found.id (length p.structures) answer) q
settle_ready life connection found p q (Ok settled) same there = subst (λ (n : ℕ). structure_number connection.structure ≤ n) same there
settle_ready life connection found p q (Err lost) same there = may_at life (length p.structures) (structure_at (structure_number connection.structure + 1)) q same

act_ready : (life : FailedLife) (stage : Stage) (w : Work) (p : Owned) (turn : PeerTurn) (v : Work) (q : Owned) → MayStepOn life stage p → Acts life stage w p (Ok turn) v q → turn ≡ More → MayStepAt v.phase q
act_ready life Read w p turn v q may acts more = read_ready life w p turn v q may acts more
act_ready life (Connect s) w p turn v q may acts more =
    may_by (after_connect life s w p) turn v q acts (connect_ready life s p (connect_answer (structure_in s p.structures)) may)
act_ready life (Search connection after) w p turn v q may acts more =
    may_by (after_search life connection after w p) turn v q acts (search_ready life connection p (search_answer life connection after p) may)
act_ready life (Settle connection found) w p turn v q may acts more =
    let off = with_mark_off connection found (is_committed found.unit w.walk.reader.commits) p in
    may_by (after_settle life connection found w p) turn v q acts
    (settle_ready life connection found p off (mark_answer connection found p) (sym (length-set p.structures (structure_number connection.structure - 1) _)) may)
act_ready life Resolve w p turn v q may acts more = absurd (cc (ends (after_resolve life w p) turn v q acts more))

on_ready : (life : FailedLife) (stage : Stage) (w : Work) (p : Owned) (turn : PeerTurn) (v : Work) (q : Owned) → MayStepOn life stage p → GoesOn life stage w p (Ok turn) v q → turn ≡ More → MayStepAt v.phase q
on_ready life stage w p turn v q may (inl given) more = absurd (cc (given.turn_is, more))
on_ready life stage w p turn v q may (inr (inl lacks)) more = absurd (cc lacks.refused)
on_ready life stage w p turn v q may (inr (inr acted)) more = act_ready life stage (record w { walk = acted.walk }) p turn v q may acted.acts more

ready_at : (skip : List (Member × Incarnation)) (phase : Phase) (w : Work) (p : Owned) (turn : PeerTurn) (v : Work) (q : Owned) → AreMembers p → MayStepAt phase p → NextAt skip phase w p (Ok turn) v q
    → turn ≡ More → MayStepAt v.phase q
ready_at skip Find w p turn v q members may next more = find_ready skip w p turn v q members next more
ready_at skip (Low life) w p turn v q members may next more =
    may_by (after_low life w p) turn v q next (may_walk life (length p.structures) (first_walk life p) p refl may)
ready_at skip (At life stage) w p turn v q members may next more = on_ready life stage w p turn v q may next more

pub ready_after : (skip : List (Member × Incarnation)) (w : Work) (p : Owned) (result : Result PeerTurn NoMemory) (v : Work) (q : Owned) → AreMembers p → MayStepAt w.phase p → NextPeer skip w p result v q
    → IfOk result (λ turn. turn ≡ More → MayStepAt v.phase q)
ready_after skip w p (Ok turn) v q members may next = ready_at skip w.phase w p turn v q members may next
ready_after skip w p (Err e) v q members may next = tt

-- ---- which steps take memory, and what one that lacks it leaves

act_unmade : (life : FailedLife) (stage : Stage) (w : Work) (p : Owned) (e : NoMemory) (v : Work) (q : Owned) → Acts life stage w p (Err e) v q → ⊥
act_unmade life Read w p e v q acts = acts
act_unmade life (Connect s) w p e v q acts = acts
act_unmade life (Search connection after) w p e v q acts = acts
act_unmade life (Settle connection found) w p e v q acts = acts
act_unmade life Resolve w p e v q acts = acts

-- nothing is changed, by a step that takes memory
record IsUnmade (takes : Bool) (w : Work) (p : Owned) (v : Work) (q : Owned) : Type 0 where
  takes_is : takes ≡ true
  work_is : v ≡ w
  parts_are : q ≡ p

unmade_at : (skip : List (Member × Incarnation)) (phase : Phase) (w : Work) (p : Owned) (e : NoMemory) (v : Work) (q : Owned) → NextAt skip phase w p (Err e) v q → IsUnmade (is_reading phase || is_some w.walk.kept) w p v q
unmade_at skip Find w p e v q next = absurd next
unmade_at skip (Low life) w p e v q next = absurd next
unmade_at skip (At life stage) w p e v q (inl given) = absurd (cc given.turn_is)
unmade_at skip (At life stage) w p e v q (inr (inl lacks)) = record { takes_is = lacks.takes; work_is = lacks.work_is; parts_are = lacks.parts_are }
unmade_at skip (At life stage) w p e v q (inr (inr acted)) = absurd (act_unmade life stage (record w { walk = acted.walk }) p e v q acted.acts)

pub memory_taken : (skip : List (Member × Incarnation)) (w : Work) (p : Owned) (result : Result PeerTurn NoMemory) (v : Work) (q : Owned) → NextPeer skip w p result v q → OnErr result (takes_memory w ≡ true)
memory_taken skip w p (Ok turn) v q next = tt
memory_taken skip w p (Err e) v q next = (unmade_at skip w.phase w p e v q next).takes_is

pub unmade : (skip : List (Member × Incarnation)) (w : Work) (p : Owned) (result : Result PeerTurn NoMemory) (v : Work) (q : Owned) → NextPeer skip w p result v q → OnErr result ((v ≡ w) × (q ≡ p))
unmade skip w p (Ok turn) v q next = tt
unmade skip w p (Err e) v q next = let left = unmade_at skip w.phase w p e v q next in (left.work_is, left.parts_are)

-- ---- a group of the largest size has all that is needed

pub may_always : (phase : Phase) (p : Owned) → 8 ≤ length p.logs → 4 ≤ length p.structures → MayStepAt phase p
may_always Find p logs structures = tt
may_always (Low life) p logs structures = let most = (member-bounds life.member).1 in omega (arith, most, logs)
may_always (At life Read) p logs structures = let most = (member-bounds life.member).1 in omega (arith, most, logs)
may_always (At life (Connect s)) p logs structures = let most = (structure-bounds s).1 in omega (arith, most, structures)
may_always (At life (Search connection after)) p logs structures = let most = (structure-bounds connection.structure).1 in omega (arith, most, structures)
may_always (At life (Settle connection found)) p logs structures = let most = (structure-bounds connection.structure).1 in omega (arith, most, structures)
may_always (At life Resolve) p logs structures = tt

pub may_full : (phase : Phase) (p : Owned) (logs structures : ℕ) → logs ≡ length p.logs → logs ≡ 8 → structures ≡ length p.structures → structures ≡ 4 → MayStepAt phase p
may_full phase p logs structures long eight wide four = may_always phase p (omega (arith, long, eight)) (omega (arith, wide, four))
