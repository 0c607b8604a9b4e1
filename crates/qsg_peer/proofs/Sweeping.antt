-- each step leaves the marks off that are off
use Rattle.std.proofs.Common.{◌≡◌, inl, inr, ℕ, ◌+◌, ◌-◌, ◌<◌, ◌≤◌, Bool, true, false, cond, List, length, Option, Some, None, Result, Ok, Err, refl, sym, ap, subst, ◌∙◌, true≢false, arith}
use Rattle.std.specs.Prelude.{◌==◌, ◌&&◌, nat_le}
use Rattle.std.proofs.lemmas.Bool.{cases_lt, eq-eqb}
use Rattle.std.proofs.lemmas.Bool.Decides.{nat_tests}
use Rattle.std.proofs.lemmas.List.{length-set, get_or_past}
use Rattle.std.proofs.lemmas.Option.{none-some}
use Rattle.qsg_num.specs.declared.ids.Incarnation.{Incarnation}
use Rattle.qsg_num.specs.declared.seats.Member.{Member}
use Rattle.qsg_num.specs.declared.seats.StructNo.{StructNo}
use Rattle.qsg_num.specs.declared.seats.StructNo.TheVariants as s
use Rattle.qsg_num.specs.Seats.{structure_number}
use Rattle.qsg_num.proofs.Ranges.{structure-bounds}
use Rattle.qsg_lists.specs.declared.parts.Connection.{Connection}
use Rattle.qsg_lists.specs.declared.parts.Lost.{Lost}
use Rattle.qsg_lists.specs.declared.parts.Settled.{Settled}
use Rattle.qsg_lists.specs.Entries.{entry_at}
use Rattle.qsg_lists.specs.Marks.{names_unit}
use Rattle.qsg_lists.specs.Settling.{told_by, settled_entry, revised_if_done}
use Rattle.qsg_lists.specs.Structures.{ListStructure, is_active, lost_of, unless, seen, connect_answer}
use Rattle.qsg_logread.specs.Fed.{is_committed}
use Rattle.qsg_repo.specs.Lives.{first_open}
use Rattle.qsg_group.proofs.Tables.{cases_structure}
use Rattle.qsg_manager.specs.Facilities.{structure_in, with_structure, no_structure}
use Rattle.qsg_manager.proofs.Grouping.{structure_same, structure_other}
use Rattle.qsg_parts.specs.Owned.{Owned}
use Rattle.qsg_manager.specs.declared.structures.MarkedEntry.{MarkedEntry}
use Rattle.qsg_manager.specs.Marked.{marked_above}
use Rattle.qsg_walk.specs.Walks.{Walk}
use Rattle.qsg_peer.specs.declared.phases.FailedLife.{FailedLife}
use Rattle.qsg_peer.specs.declared.phases.PeerTurn.{PeerTurn}
use Rattle.qsg_peer.specs.declared.phases.PeerTurn.TheVariants.{Resolved}
use Rattle.qsg_peer.specs.declared.phases.Phase.{Phase}
use Rattle.qsg_peer.specs.declared.phases.Phase.TheVariants.{Find, Low, At}
use Rattle.qsg_peer.specs.declared.phases.Stage.{Stage}
use Rattle.qsg_peer.specs.declared.phases.Stage.TheVariants.{Read, Connect, Search, Settle, Resolve}
use Rattle.qsg_peer.specs.Works.{Work}
use Rattle.qsg_peer.specs.Needs.{MayStepOn, MayStepAt}
use Rattle.qsg_peer.specs.Steps.{Next, found_phase, after_find, after_low, stage_at, from_structure, after_structure, walking, first_walk, Reads, no_id, connected, searched, search_answer, settled_stage, mark_answer, with_mark_off, with_resolved, after_connect, after_search, after_settle, after_resolve, Acts, GoesOn, NextAt, NextPeer}
use Rattle.qsg_peer.specs.Machine.{IsClear, AreClear}
use Rattle.qsg_peer.specs.Sweeping.{IsSweptTo, AreClearBefore, HoldsInUse, HasSwept, HasSweptAt, AreOrdered, HasResolved}
use Rattle.qsg_peer.proofs.SweepingLists.{none_within, last_search, next_search, settle_swept}

-- ---- behind a structure

past_clear : (life : FailedLife) (x : StructNo) (p : Owned) → length p.structures < structure_number x → IsClear life (structure_in x p.structures).entries
past_clear life x p past =
    let one = (structure-bounds x).0 in
    subst (λ (l : ListStructure). IsClear life l.entries) (sym (get_or_past p.structures (structure_number x - 1) no_structure (omega (arith, past, one)))) tt

stage_swept : (life : FailedLife) (count : ℕ) (next : StructNo) (p : Owned) → count ≡ length p.structures → AreClearBefore life (structure_number next) p → HasSwept life (stage_at count (Some next)) p
stage_swept life count next p same before = by (nat_le (structure_number next) count) refl
  where
    over : (a b : ℕ) → nat_le a b ≡ false → b < a
    over a b is = grind (arith, nat_tests)

    by : (b : Bool) → nat_le (structure_number next) count ≡ b → HasSwept life (cond b (Connect next) Resolve) p
    by true is = before
    by false is = λ x active. elim (cases_lt (structure_number x) (structure_number next)) [
      | inl less ↦ before x less active
      | inr more ↦ past_clear life x p (omega (arith, more, same, over (structure_number next) count is))
    ]

before_next : (life : FailedLife) (x : StructNo) (n : ℕ) (p : Owned) → n ≡ structure_number x + 1 → AreClearBefore life (structure_number x) p → (is_active (structure_in x p.structures).state ≡ true → IsClear life (structure_in x p.structures).entries)
    → AreClearBefore life n p
before_next life x n p is before here = λ y less active. elim (cases_structure y x) [
  | inl same ↦ subst (λ (z : StructNo). is_active (structure_in z p.structures).state ≡ true → IsClear life (structure_in z p.structures).entries) (sym same) here active
  | inr differ ↦ before y (below (structure_number y) (structure_number x) n less is differ) active
]
  where
    below : (a b c : ℕ) → a < c → c ≡ b + 1 → (a ≡ b → ⊥) → a < b
    below a b c less is differ = elim (cases_lt a b) [ inl under ↦ under | inr over ↦ absurd (differ (omega (arith, less, is, over))) ]

after_swept : (life : FailedLife) (count : ℕ) (x : StructNo) (p : Owned) → count ≡ length p.structures → AreClearBefore life (structure_number x) p → (is_active (structure_in x p.structures).state ≡ true → IsClear life (structure_in x p.structures).entries)
    → HasSwept life (after_structure count x) p
after_swept life count s.One p same before here = stage_swept life count s.Two p same (before_next life s.One 2 p refl before here)
after_swept life count s.Two p same before here = stage_swept life count s.Three p same (before_next life s.Two 3 p refl before here)
after_swept life count s.Three p same before here = stage_swept life count s.Four p same (before_next life s.Three 4 p refl before here)
after_swept life count s.Four p same before here = λ y active. let most = (structure-bounds y).1 in before_next life s.Four 5 p refl before here y (omega (arith, most)) active

first_swept : (life : FailedLife) (count : ℕ) (walk : Walk) (p : Owned) → count ≡ length p.structures → HasSwept life (walking count walk) p
first_swept life count walk p same = by (walk.left == 0)
  where
    by : (b : Bool) → HasSwept life (cond b (from_structure count 1) Read) p
    by true = stage_swept life count s.One p same (λ y less active. let one = (structure-bounds y).0 in absurd (omega (arith, one, less)))
    by false = tt

-- ---- one structure

connect_swept : (life : FailedLife) (x : StructNo) (p : Owned) → AreOrdered p → AreClearBefore life (structure_number x) p → HasSwept life (connected x (length p.structures) (connect_answer (structure_in x p.structures))) p
connect_swept life x p ordered before = by (is_active (structure_in x p.structures).state) refl
  where
    here : ListStructure
    here = structure_in x p.structures

    served : (b : Bool) (n : ℕ) (lost : Lost) → b ≡ true → cond {A = Option Lost} (b && (n == n)) None (Some lost) ≡ None
    served b n lost is = (λ i. cond {A = Option Lost} (is i && eq-eqb n n refl i) None (Some lost))

    by : (b : Bool) → is_active (structure_in x p.structures).state ≡ b
        → HasSwept life (connected x (length p.structures) (cond b (Ok (seen (structure_in x p.structures))) (Err (record { state = (structure_in x p.structures).state; epoch = (structure_in x p.structures).epoch })))) p
    by true is = (
      before,
      record {
        served = λ served. none_within life no_id 0 (structure_in x p.structures).entries (omega arith) (ordered.above x);
        lost = λ lost told active.
            absurd (none-some lost (sym (served (is_active (structure_in x p.structures).state) (structure_in x p.structures).epoch (record { state = (structure_in x p.structures).state; epoch = (structure_in x p.structures).epoch }) is) ∙ told));
      },
    )
    by false is = after_swept life (length p.structures) x p refl before (λ active. absurd (true≢false (sym active ∙ is)))

search_swept : (life : FailedLife) (connection : Connection) (after : Rattle.qsg_num.specs.declared.ids.EntryId.EntryId) (p : Owned) → AreOrdered p → HasSwept life (Search connection after) p
    → HasSwept life (searched connection (length p.structures) (search_answer life connection after p)) p
search_swept life connection after p ordered swept = by (lost_of (structure_in connection.structure p.structures) connection) refl
  where
    found : lost_of (structure_in connection.structure p.structures) connection ≡ None → (mark : Option MarkedEntry)
        → marked_above life.member life.incarnation after (structure_in connection.structure p.structures).entries ≡ mark → HasSwept life (searched connection (length p.structures) (Ok mark)) p
    found served None is = after_swept life (length p.structures) connection.structure p refl swept.0 (λ active. last_search life after (structure_in connection.structure p.structures).entries is (swept.1.served served))
    found served (Some mark) is = (
      swept.0,
      record { served = λ again. next_search life after (structure_in connection.structure p.structures).entries mark (ordered.ordered connection.structure) is (swept.1.served served); lost = swept.1.lost },
    )

    by : (lost : Option Lost) → lost_of (structure_in connection.structure p.structures) connection ≡ lost
        → HasSwept life (searched connection (length p.structures) (unless lost (marked_above life.member life.incarnation after (structure_in connection.structure p.structures).entries))) p
    by None served = found served (marked_above life.member life.incarnation after (structure_in connection.structure p.structures).entries) refl
    by (Some lost) is = after_swept life (length p.structures) connection.structure p refl swept.0 (swept.1.lost lost is)

settled_swept : (life : FailedLife) (connection : Connection) (mark : MarkedEntry) (commits : Bool) (p : Owned) → structure_number connection.structure ≤ length p.structures → AreOrdered p → HasSwept life (Settle connection mark) p
    → HasSwept life (settled_stage connection mark.id (length p.structures) (mark_answer connection mark p)) (with_mark_off connection mark commits p)
settled_swept life connection mark commits p within ordered swept = by (lost_of (structure_in connection.structure p.structures) connection) refl
  where
    told : Settled
    told = told_by (names_unit mark.unit) (entry_at mark.id (structure_in connection.structure p.structures).entries)

    After : Result Settled Lost → List ListStructure
    After answer = with_structure connection.structure (revised_if_done answer mark.id (settled_entry commits) (structure_in connection.structure p.structures)) p.structures

    others : (answer : Result Settled Lost) → AreClearBefore life (structure_number connection.structure) (record p { structures = with_structure connection.structure (revised_if_done answer mark.id (settled_entry commits) (structure_in connection.structure p.structures)) p.structures })
    others answer = λ y less active.
        let same : structure_in y (with_structure connection.structure (revised_if_done answer mark.id (settled_entry commits) (structure_in connection.structure p.structures)) p.structures) ≡ structure_in y p.structures =
        structure_other connection.structure y (revised_if_done answer mark.id (settled_entry commits) (structure_in connection.structure p.structures)) p.structures (λ e. absurd (omega (arith, less, e))) in
        subst (λ (l : ListStructure). IsClear life l.entries) (sym same) (swept.0 y less (sym (ap (λ (l : ListStructure). is_active l.state) same) ∙ active))

    by : (lost : Option Lost) → lost_of (structure_in connection.structure p.structures) connection ≡ lost
        → HasSwept life (settled_stage connection mark.id (length p.structures) (unless lost (told_by (names_unit mark.unit) (entry_at mark.id (structure_in connection.structure p.structures).entries))))
        (record p { structures = with_structure connection.structure (revised_if_done (unless lost (told_by (names_unit mark.unit) (entry_at mark.id (structure_in connection.structure p.structures).entries))) mark.id (settled_entry commits) (structure_in connection.structure p.structures)) p.structures })
    by None served = (
      others (Ok (told_by (names_unit mark.unit) (entry_at mark.id (structure_in connection.structure p.structures).entries))),
      subst (HoldsInUse life connection (IsSweptTo life mark.id))
          (sym (structure_same connection.structure (revised_if_done (Ok (told_by (names_unit mark.unit) (entry_at mark.id (structure_in connection.structure p.structures).entries))) mark.id (settled_entry commits) (structure_in connection.structure p.structures)) p.structures within))
          (record {
            served = λ again. settle_swept life commits mark (structure_in connection.structure p.structures).entries (ordered.ordered connection.structure) (swept.1.served served);
            lost = λ lost is active. absurd (none-some lost (sym served ∙ is));
          }),
    )
    by (Some lost) is =
        after_swept life (length p.structures) connection.structure (record p { structures = with_structure connection.structure (structure_in connection.structure p.structures) p.structures })
        (sym (length-set p.structures (structure_number connection.structure - 1) (structure_in connection.structure p.structures)))
        (others (Err lost))
        (λ active.
        let same = structure_same connection.structure (structure_in connection.structure p.structures) p.structures within in
        subst (λ (l : ListStructure). IsClear life l.entries) (sym same) (swept.1.lost lost is (sym (ap (λ (l : ListStructure). is_active l.state) same) ∙ active)))

-- ---- a step

swept_by : (next : Next) (turn : PeerTurn) (v : Work) (q : Owned) → record { turn = turn; work = v; parts = q } ≡ next → HasSweptAt next.work.phase next.parts → HasSweptAt v.phase q
swept_by next turn v q is swept = subst (λ (n : Next). HasSweptAt n.work.phase n.parts) (sym is) swept

find_swept : (phase : Option Phase) (name : Option (Member × Incarnation)) (w : Work) (p : Owned) → phase ≡ found_phase name → HasSweptAt w.phase p → HasSweptAt (after_find (found_phase name) w p).work.phase (after_find (found_phase name) w p).parts
find_swept phase None w p is swept = swept
find_swept phase (Some (m, i)) w p is swept = tt

read_swept : (life : FailedLife) (w : Work) (p : Owned) (turn : PeerTurn) (v : Work) (q : Owned) → w.phase ≡ At life Read → Reads life w p turn v q → HasSweptAt v.phase q
read_swept life w p turn v q at (has, inl failed) = subst (λ (x : Phase). HasSweptAt x q) (sym (ap (λ (x : Work). x.phase) failed.work_is ∙ at)) tt
read_swept life w p turn v q at (has, inr found) = subst (λ (x : Work). HasSweptAt x.phase q) (sym found.work_is) (first_swept life (length p.structures) v.walk q (sym (ap (λ (x : Owned). length x.structures) has.others)))

act_swept : (life : FailedLife) (stage : Stage) (w : Work) (p : Owned) (turn : PeerTurn) (v : Work) (q : Owned) → MayStepOn life stage p → AreOrdered p → w.phase ≡ At life stage → HasSwept life stage p → Acts life stage w p (Ok turn) v q
    → HasSweptAt v.phase q
act_swept life Read w p turn v q may ordered at swept acts = read_swept life w p turn v q at acts
act_swept life (Connect x) w p turn v q may ordered at swept acts = swept_by (after_connect life x w p) turn v q acts (connect_swept life x p ordered swept)
act_swept life (Search connection after) w p turn v q may ordered at swept acts = swept_by (after_search life connection after w p) turn v q acts (search_swept life connection after p ordered swept)
act_swept life (Settle connection mark) w p turn v q may ordered at swept acts =
    swept_by (after_settle life connection mark w p) turn v q acts (settled_swept life connection mark (is_committed mark.unit w.walk.reader.commits) p may ordered swept)
act_swept life Resolve w p turn v q may ordered at swept acts = swept_by (after_resolve life w p) turn v q acts (subst (λ (x : Phase). HasSweptAt x (after_resolve life w p).parts) (sym at) swept)

same_swept : (w v : Work) (p q : Owned) → v ≡ w → q ≡ p → HasSweptAt w.phase p → HasSweptAt v.phase q
same_swept w v p q work parts swept = subst (λ (x : Work). HasSweptAt x.phase q) (sym work) (subst (λ (x : Owned). HasSweptAt w.phase x) (sym parts) swept)

on_swept : (life : FailedLife) (stage : Stage) (w : Work) (p : Owned) (turn : PeerTurn) (v : Work) (q : Owned) → MayStepOn life stage p → AreOrdered p → w.phase ≡ At life stage → HasSweptAt w.phase p → GoesOn life stage w p (Ok turn) v q
    → HasSweptAt v.phase q
on_swept life stage w p turn v q may ordered at swept (inl given) = same_swept w v p q given.work_is given.parts_are swept
on_swept life stage w p turn v q may ordered at swept (inr (inl lacks)) = same_swept w v p q lacks.work_is lacks.parts_are swept
on_swept life stage w p turn v q may ordered at swept (inr (inr acted)) =
    act_swept life stage (record w { walk = acted.walk }) p turn v q may ordered at (subst (λ (x : Phase). HasSweptAt x p) at swept) acted.acts

swept_at : (skip : List (Member × Incarnation)) (phase : Phase) (w : Work) (p : Owned) (turn : PeerTurn) (v : Work) (q : Owned) → w.phase ≡ phase → MayStepAt phase p → AreOrdered p → HasSweptAt w.phase p → NextAt skip phase w p (Ok turn) v q
    → HasSweptAt v.phase q
swept_at skip Find w p turn v q at may ordered swept next =
    swept_by (after_find (found_phase (first_open skip p.repo.lives)) w p) turn v q next (find_swept (found_phase (first_open skip p.repo.lives)) (first_open skip p.repo.lives) w p refl swept)
swept_at skip (Low life) w p turn v q at may ordered swept next = swept_by (after_low life w p) turn v q next (first_swept life (length p.structures) (first_walk life p) p refl)
swept_at skip (At life stage) w p turn v q at may ordered swept next = on_swept life stage w p turn v q may ordered at swept next

pub step_sweeps : (skip : List (Member × Incarnation)) (w : Work) (p : Owned) (turn : PeerTurn) (v : Work) (q : Owned) → MayStepAt w.phase p → AreOrdered p → HasSweptAt w.phase p → NextPeer skip w p (Ok turn) v q → HasSweptAt v.phase q
step_sweeps skip w p turn v q may ordered swept next = swept_at skip w.phase w p turn v q refl may ordered swept next

-- ---- the end

turn_is : (next : Next) (turn : PeerTurn) (v : Work) (q : Owned) → record { turn = turn; work = v; parts = q } ≡ next → next.turn ≡ turn
turn_is next turn v q is = sym (ap (λ (n : Next). n.turn) is)

is_end : (life : FailedLife) (m : Member) (i : Incarnation) (n : ℕ) (w : Work) (p q : Owned) → AreClear life p → Resolved life.member life.incarnation w.settled ≡ Resolved m i n → q ≡ with_resolved life p → HasResolved m i n w p q
is_end life m i n w p q clear same parts =
    let member : life.member ≡ m = cc same in
    let incarnation : life.incarnation ≡ i = cc same in
    let life_is : life ≡ record { member = m; incarnation = i } = (λ x. record { member = member x; incarnation = incarnation x }) in
    record {
      clear = subst (λ (l : FailedLife). AreClear l p) life_is clear;
      settled = cc same;
      parts = parts ∙ ap (λ (l : FailedLife). with_resolved l p) life_is;
    }

act_end : (life : FailedLife) (stage : Stage) (w : Work) (p : Owned) (m : Member) (i : Incarnation) (n : ℕ) (v : Work) (q : Owned) → HasSwept life stage p → Acts life stage w p (Ok (Resolved m i n)) v q → HasResolved m i n w p q
act_end life Read w p m i n v q swept (has, inl failed) = absurd (cc failed.turn_is)
act_end life Read w p m i n v q swept (has, inr found) = absurd (cc found.turn_is)
act_end life (Connect x) w p m i n v q swept acts = absurd (cc (turn_is (after_connect life x w p) (Resolved m i n) v q acts))
act_end life (Search connection after) w p m i n v q swept acts = absurd (cc (turn_is (after_search life connection after w p) (Resolved m i n) v q acts))
act_end life (Settle connection mark) w p m i n v q swept acts = absurd (cc (turn_is (after_settle life connection mark w p) (Resolved m i n) v q acts))
act_end life Resolve w p m i n v q swept acts = is_end life m i n w p q swept (turn_is (after_resolve life w p) (Resolved m i n) v q acts) (ap (λ (x : Next). x.parts) acts)

on_end : (life : FailedLife) (stage : Stage) (w : Work) (p : Owned) (m : Member) (i : Incarnation) (n : ℕ) (v : Work) (q : Owned) → HasSwept life stage p → GoesOn life stage w p (Ok (Resolved m i n)) v q → HasResolved m i n w p q
on_end life stage w p m i n v q swept (inl given) = absurd (cc given.turn_is)
on_end life stage w p m i n v q swept (inr (inl lacks)) = absurd (cc lacks.refused)
on_end life stage w p m i n v q swept (inr (inr acted)) =
    let ends = act_end life stage (record w { walk = acted.walk }) p m i n v q swept acted.acts in record { clear = ends.clear; settled = ends.settled; parts = ends.parts }

find_end : (name : Option (Member × Incarnation)) (w : Work) (p : Owned) (m : Member) (i : Incarnation) (n : ℕ) → (after_find (found_phase name) w p).turn ≡ Resolved m i n → ⊥
find_end None w p m i n is = cc is
find_end (Some (k, j)) w p m i n is = cc is

end_at : (skip : List (Member × Incarnation)) (phase : Phase) (w : Work) (p : Owned) (m : Member) (i : Incarnation) (n : ℕ) (v : Work) (q : Owned) → HasSweptAt phase p → NextAt skip phase w p (Ok (Resolved m i n)) v q → HasResolved m i n w p q
end_at skip Find w p m i n v q swept next =
    absurd (find_end (first_open skip p.repo.lives) w p m i n (turn_is (after_find (found_phase (first_open skip p.repo.lives)) w p) (Resolved m i n) v q next))
end_at skip (Low life) w p m i n v q swept next = absurd (cc (turn_is (after_low life w p) (Resolved m i n) v q next))
end_at skip (At life stage) w p m i n v q swept next = on_end life stage w p m i n v q swept next

pub resolve_ends : (skip : List (Member × Incarnation)) (w : Work) (p : Owned) (m : Member) (i : Incarnation) (n : ℕ) (v : Work) (q : Owned) → HasSweptAt w.phase p → NextPeer skip w p (Ok (Resolved m i n)) v q → HasResolved m i n w p q
resolve_ends skip w p m i n v q swept next = end_at skip w.phase w p m i n v q swept next
