-- each step of a peer's work lowers how many are left
use Rattle.std.proofs.Common.{◌≡◌, ◌≢◌, inl, inr, ℕ, ◌+◌, ◌-◌, ◌*◌, ◌<◌, ◌≤◌, Bool, true, false, cond, List, length, Option, Some, None, Result, Ok, Err, refl, sym, ap, subst, arith}
use Rattle.std.specs.Prelude.{◌==◌, nat_le, min}
use Rattle.qsg_num.specs.declared.ids.EntryId.{EntryId}
use Rattle.qsg_num.specs.declared.ids.Incarnation.{Incarnation}
use Rattle.qsg_num.specs.declared.seats.Member.{Member}
use Rattle.qsg_num.specs.declared.seats.StructNo.{StructNo}
use Rattle.qsg_num.specs.declared.seats.StructNo.TheVariants as s
use Rattle.qsg_lists.specs.declared.parts.Connection.{Connection}
use Rattle.qsg_lists.specs.declared.parts.Lost.{Lost}
use Rattle.qsg_lists.specs.declared.parts.Seen.{Seen}
use Rattle.qsg_lists.specs.declared.parts.Settled.{Settled}
use Rattle.qsg_lists.specs.declared.parts.Settled.TheVariants.{Done, NotYours}
use Rattle.qsg_lists.specs.Settling.{settled_entry, revised_if_done}
use Rattle.qsg_lists.specs.Structures.{ListStructure, lost_of, unless, connect_answer}
use Rattle.qsg_logread.specs.Fed.{is_committed}
use Rattle.qsg_repo.specs.Lives.{first_open}
use Rattle.qsg_repo.specs.Tables.{low_of}
use Rattle.qsg_group.proofs.Tables.{cases_structure}
use Rattle.qsg_manager.specs.declared.structures.MarkedEntry.{MarkedEntry}
use Rattle.qsg_manager.specs.Facilities.{structure_in}
use Rattle.qsg_manager.specs.Marked.{marked_above, marks_in, marks_of}
use Rattle.qsg_manager.proofs.Grouping.{structure_same, structure_other}
use Rattle.qsg_logs.specs.Kept.{log_in}
use Rattle.qsg_walk.specs.Walks.{Walk, after_read}
use Rattle.qsg_parts.specs.Owned.{Owned}
use Rattle.qsg_peer.specs.declared.phases.FailedLife.{FailedLife}
use Rattle.qsg_peer.specs.declared.phases.PeerTurn.{PeerTurn}
use Rattle.qsg_peer.specs.declared.phases.PeerTurn.TheVariants.{More}
use Rattle.qsg_peer.specs.declared.phases.Phase.{Phase}
use Rattle.qsg_peer.specs.declared.phases.Phase.TheVariants.{Find, Low, At}
use Rattle.qsg_peer.specs.declared.phases.Stage.{Stage}
use Rattle.qsg_peer.specs.declared.phases.Stage.TheVariants.{Read, Connect, Search, Settle, Resolve}
use Rattle.qsg_peer.specs.Works.{Work, IsSoundAt, IsSound}
use Rattle.qsg_peer.specs.Needs.{HasStructure, MayStepOn, MayStepAt}
use Rattle.qsg_peer.specs.Steps.{Next, life_of, found_phase, after_find, after_low, from_structure, after_structure, walking, first_walk, Reads, no_id, connected, searched, search_answer, settled_stage, mark_answer, with_mark_off, after_connect, after_search, after_settle, after_resolve, Acts, GoesOn, NextAt, NextPeer}
use Rattle.qsg_peer.specs.Pace.{marks_above, marks_above_in, left_in, left_behind, left_in_all, left_on, left_at, left_of_peer, whole_peer, HasFoundLife, HasNoMoreMarks, HasNoMoreAt}
use Rattle.qsg_peer.proofs.Following.{fed_leaves, sound_fed}
use Rattle.qsg_peer.proofs.SweepingLists.{unnamed}
use Rattle.qsg_peer.proofs.PaceLists.{above_fewer, above-le-all, found_less, above_revised, four_within}

-- ---- what comes behind a structure

stage_left : (life : FailedLife) (x : StructNo) (walk : Walk) (p : Owned) (b : Bool) → left_on life (cond b (Connect x) Resolve) walk p ≤ left_in life x p + left_behind life x p + 1
stage_left life x walk p true = omega arith
stage_left life x walk p false = omega arith

after_left : (life : FailedLife) (count : ℕ) (x : StructNo) (walk : Walk) (p : Owned) → left_on life (after_structure count x) walk p ≤ left_behind life x p + 1
after_left life count s.One walk p = omega (arith, stage_left life s.Two walk p (nat_le 2 count))
after_left life count s.Two walk p = omega (arith, stage_left life s.Three walk p (nat_le 3 count))
after_left life count s.Three walk p = omega (arith, stage_left life s.Four walk p (nat_le 4 count))
after_left life count s.Four walk p = omega arith

walking_left : (life : FailedLife) (count : ℕ) (walk : Walk) (p : Owned) → left_on life (walking count walk) walk p ≤ walk.left + left_in_all life p + 1
walking_left life count walk p = by (walk.left == 0)
  where
    by : (b : Bool) → left_on life (cond b (from_structure count 1) Read) walk p ≤ walk.left + left_in_all life p + 1
    by true = omega (arith, stage_left life s.One walk p (nat_le 1 count))
    by false = omega arith

-- ---- marks that came off

off_in : (life : FailedLife) (id other : EntryId) (commits : Bool) (answer : Result Settled Lost) (l : ListStructure) → marks_above life id (revised_if_done answer other (settled_entry commits) l).entries ≤ marks_above life id l.entries
off_in life id other commits (Ok Done) l = above_revised life id other (settled_entry commits) l.entries (unnamed life commits)
off_in life id other commits (Ok (NotYours mark)) l = omega arith
off_in life id other commits (Err lost) l = omega arith

pub off_fewer : (life : FailedLife) (connection : Connection) (found : MarkedEntry) (commits : Bool) (p : Owned) → HasStructure connection.structure p → HasNoMoreMarks life p (with_mark_off connection found commits p)
off_fewer life connection found commits p within = λ id x. elim (cases_structure x connection.structure) [
  | inl same ↦ subst (λ (y : StructNo). marks_above_in life id y (with_mark_off connection found commits p) ≤ marks_above_in life id y p) (sym same)
      (subst (λ (l : ListStructure). marks_above life id l.entries ≤ marks_above_in life id connection.structure p) (sym (structure_same connection.structure new p.structures within))
      (off_in life id found.id commits (mark_answer connection found p) (structure_in connection.structure p.structures)))
  | inr differ ↦ subst (λ (l : ListStructure). marks_above life id l.entries ≤ marks_above_in life id x p) (sym (structure_other connection.structure x new p.structures differ)) (omega arith)
]
  where
    new : ListStructure
    new = revised_if_done (mark_answer connection found p) found.id (settled_entry commits) (structure_in connection.structure p.structures)

in_fewer : (life : FailedLife) (x : StructNo) (p q : Owned) → HasNoMoreMarks life p q → left_in life x q ≤ left_in life x p
in_fewer life x p q fewer = omega (arith, fewer no_id x)

behind_fewer : (life : FailedLife) (x : StructNo) (p q : Owned) → HasNoMoreMarks life p q → left_behind life x q ≤ left_behind life x p
behind_fewer life s.One p q fewer = omega (arith, fewer no_id s.Two, fewer no_id s.Three, fewer no_id s.Four)
behind_fewer life s.Two p q fewer = omega (arith, fewer no_id s.Three, fewer no_id s.Four)
behind_fewer life s.Three p q fewer = omega (arith, fewer no_id s.Four)
behind_fewer life s.Four p q fewer = omega arith

stage_fewer : (life : FailedLife) (stage : Stage) (walk : Walk) (p q : Owned) → HasNoMoreMarks life p q → left_on life stage walk q ≤ left_on life stage walk p
stage_fewer life Read walk p q fewer = omega (arith, in_fewer life s.One p q fewer, behind_fewer life s.One p q fewer)
stage_fewer life (Connect x) walk p q fewer = omega (arith, in_fewer life x p q fewer, behind_fewer life x p q fewer)
stage_fewer life (Search connection after) walk p q fewer = omega (arith, fewer after connection.structure, behind_fewer life connection.structure p q fewer)
stage_fewer life (Settle connection found) walk p q fewer = omega (arith, fewer found.id connection.structure, behind_fewer life connection.structure p q fewer)
stage_fewer life Resolve walk p q fewer = omega arith

at_fewer : (phase : Phase) (walk : Walk) (p q : Owned) → HasNoMoreAt phase p q → ((m : Member) → (log_in m q.logs).writer.size ≡ (log_in m p.logs).writer.size) → left_at phase walk q ≤ left_at phase walk p
at_fewer Find walk p q fewer size = omega arith
at_fewer (Low life) walk p q fewer size = omega (arith, size life.member, in_fewer life s.One p q fewer, behind_fewer life s.One p q fewer)
at_fewer (At life stage) walk p q fewer size = stage_fewer life stage walk p q fewer

pub steps_fewer : (w : Work) (p q : Owned) → HasNoMoreAt w.phase p q → ((m : Member) → (log_in m q.logs).writer.size ≡ (log_in m p.logs).writer.size) → left_of_peer w q ≤ left_of_peer w p
steps_fewer w p q fewer size = at_fewer w.phase w.walk p q fewer size

-- ---- the most that are left

all_marks : (life : FailedLife) (p : Owned) → left_in_all life p ≤ 2 * marks_of life.member life.incarnation p.structures + 8
all_marks life p = omega (
  arith,
  above-le-all life no_id (structure_in s.One p.structures).entries,
  above-le-all life no_id (structure_in s.Two p.structures).entries,
  above-le-all life no_id (structure_in s.Three p.structures).entries,
  above-le-all life no_id (structure_in s.Four p.structures).entries,
  four_within (λ (l : ListStructure). marks_in life.member life.incarnation l.entries) p.structures refl,
)

part_of_all : (life : FailedLife) (x : StructNo) (p : Owned) → left_in life x p + left_behind life x p ≤ left_in_all life p
part_of_all life s.One p = omega arith
part_of_all life s.Two p = omega arith
part_of_all life s.Three p = omega arith
part_of_all life s.Four p = omega arith

above_part : (life : FailedLife) (id : EntryId) (x : StructNo) (p : Owned) → 2 * marks_above_in life id x p + left_behind life x p + 2 ≤ left_in_all life p
above_part life id x p = omega (arith, above_fewer life no_id id (structure_in x p.structures).entries (omega arith), part_of_all life x p)

most_on : (life : FailedLife) (stage : Stage) (walk : Walk) (p : Owned) → left_on life stage walk p < whole_peer walk.left (marks_of life.member life.incarnation p.structures)
most_on life Read walk p = omega (arith, all_marks life p)
most_on life (Connect x) walk p = omega (arith, all_marks life p, part_of_all life x p)
most_on life (Search connection after) walk p = omega (arith, all_marks life p, above_part life after connection.structure p)
most_on life (Settle connection found) walk p = omega (arith, all_marks life p, above_part life found.id connection.structure p)
most_on life Resolve walk p = omega arith

pub most_left : (life : FailedLife) (stage : Stage) (w : Work) (p : Owned) → w.phase ≡ At life stage → left_of_peer w p < whole_peer w.walk.left (marks_of life.member life.incarnation p.structures)
most_left life stage w p at = subst (λ (phase : Phase). left_at phase w.walk p < whole_peer w.walk.left (marks_of life.member life.incarnation p.structures)) (sym at) (most_on life stage w.walk p)

-- ---- steps

made_left : (next : Next) (turn : PeerTurn) (v : Work) (q : Owned) → record { turn = turn; work = v; parts = q } ≡ next → left_of_peer v q ≡ left_of_peer next.work next.parts
made_left next turn v q is = ap (λ (n : Next). left_of_peer n.work n.parts) is

turn_is : (next : Next) (turn : PeerTurn) (v : Work) (q : Owned) → record { turn = turn; work = v; parts = q } ≡ next → next.turn ≡ turn
turn_is next turn v q is = sym (ap (λ (n : Next). n.turn) is)

connect_left : (life : FailedLife) (x : StructNo) (walk : Walk) (p : Owned) (answer : Result Seen Lost) → left_on life (connected x (length p.structures) answer) walk p < left_on life (Connect x) walk p
connect_left life x walk p (Ok seen) = omega arith
connect_left life x walk p (Err lost) = omega (arith, after_left life (length p.structures) x walk p)

search_left : (life : FailedLife) (connection : Connection) (after : EntryId) (walk : Walk) (p : Owned) → left_on life (searched connection (length p.structures) (search_answer life connection after p)) walk p < left_on life (Search connection after) walk p
search_left life connection after walk p = by (lost_of (structure_in connection.structure p.structures) connection)
  where
    found : (mark : Option MarkedEntry) → marked_above life.member life.incarnation after (structure_in connection.structure p.structures).entries ≡ mark
        → left_on life (searched connection (length p.structures) (Ok mark)) walk p < left_on life (Search connection after) walk p
    found None is = omega (arith, after_left life (length p.structures) connection.structure walk p)
    found (Some mark) is = omega (arith, found_less life after (structure_in connection.structure p.structures).entries mark is)

    by : (lost : Option Lost) → left_on life (searched connection (length p.structures) (unless lost (marked_above life.member life.incarnation after (structure_in connection.structure p.structures).entries))) walk p < left_on life (Search connection after) walk p
    by None = found (marked_above life.member life.incarnation after (structure_in connection.structure p.structures).entries) refl
    by (Some lost) = omega (arith, after_left life (length p.structures) connection.structure walk p)

settle_left : (life : FailedLife) (connection : Connection) (found : MarkedEntry) (walk : Walk) (count : ℕ) (answer : Result Settled Lost) (p q : Owned) → HasNoMoreMarks life p q
    → left_on life (settled_stage connection found.id count answer) walk q < left_on life (Settle connection found) walk p
settle_left life connection found walk count (Ok settled) p q fewer = omega (arith, fewer found.id connection.structure, behind_fewer life connection.structure p q fewer)
settle_left life connection found walk count (Err lost) p q fewer = omega (arith, after_left life count connection.structure walk q, behind_fewer life connection.structure p q fewer)

read_less : (found : Option (List ℕ)) (walk : Walk) → 0 < walk.left → (after_read found walk).left < walk.left
read_less None walk goes = omega (arith, goes)
read_less (Some body) walk goes = omega (arith, goes)

read_left : (life : FailedLife) (w : Work) (p : Owned) (v : Work) (q : Owned) → 0 < w.walk.left → Reads life w p More v q → left_of_peer v q < left_on life Read w.walk p
read_left life w p v q goes (has, inl failed) = absurd (cc failed.turn_is)
read_left life w p v q goes (has, inr found) =
    subst (λ (x : Work). left_of_peer x q < left_on life Read w.walk p) (sym found.work_is)
    (omega (arith, walking_left life (length p.structures) v.walk q, ap (λ (x : Owned). left_in_all life x) has.others, less))
  where
    less : v.walk.left < w.walk.left
    less = subst (λ (x : Walk). x.left < w.walk.left) (sym found.kept.walk_is) (read_less found.kept.found w.walk goes)

act_left : (life : FailedLife) (stage : Stage) (w : Work) (p : Owned) (v : Work) (q : Owned) → MayStepOn life stage p → IsSoundAt life stage w.walk → Acts life stage w p (Ok More) v q → left_of_peer v q < left_on life stage w.walk p
act_left life Read w p v q may sound acts = read_left life w p v q sound acts
act_left life (Connect x) w p v q may sound acts = omega (arith, made_left (after_connect life x w p) More v q acts, connect_left life x w.walk p (connect_answer (structure_in x p.structures)))
act_left life (Search connection after) w p v q may sound acts = omega (arith, made_left (after_search life connection after w p) More v q acts, search_left life connection after w.walk p)
act_left life (Settle connection found) w p v q may sound acts =
    let commits = is_committed found.unit w.walk.reader.commits in
    omega (arith, made_left (after_settle life connection found w p) More v q acts, settle_left life connection found w.walk (length p.structures) (mark_answer connection found p) p (with_mark_off connection found commits p) (off_fewer life connection found commits p may))
act_left life Resolve w p v q may sound acts = absurd (cc (turn_is (after_resolve life w p) More v q acts))

-- a page that is fed leaves what is left
fed_same : (life : FailedLife) (stage : Stage) (old new : Walk) (p : Owned) → new.left ≡ old.left → left_on life stage new p ≡ left_on life stage old p
fed_same life Read old new p left = ap (λ (n : ℕ). n + left_in_all life p + 1) left
fed_same life (Connect x) old new p left = refl
fed_same life (Search connection after) old new p left = refl
fed_same life (Settle connection found) old new p left = refl
fed_same life Resolve old new p left = refl

on_left : (life : FailedLife) (stage : Stage) (w : Work) (p : Owned) (v : Work) (q : Owned) → MayStepOn life stage p → IsSoundAt life stage w.walk → GoesOn life stage w p (Ok More) v q → left_of_peer v q < left_on life stage w.walk p
on_left life stage w p v q may sound (inl given) = absurd (cc given.turn_is)
on_left life stage w p v q may sound (inr (inl lacks)) = absurd (cc lacks.refused)
on_left life stage w p v q may sound (inr (inr acted)) =
    let fed = fed_leaves w.walk.kept w.walk acted.walk acted.records refl acted.fed in
    let same = fed_same life stage w.walk acted.walk p fed.1 in
    let less = act_left life stage (record w { walk = acted.walk }) p v q may (sound_fed life stage w.walk acted.walk fed.0 fed.1 sound) acted.acts in
    omega (arith, less, same)

low_left : (life : FailedLife) (w : Work) (p : Owned) → left_of_peer (after_low life w p).work p < left_at (Low life) w.walk p
low_left life w p = omega (arith, walking_left life (length p.structures) (first_walk life p) p, least (log_in life.member p.logs).writer.size (4290000000 - (low_of life.member p.repo).number))
  where
    least : (a b : ℕ) → min a b ≤ a
    least a b = omega arith

at_left : (skip : List (Member × Incarnation)) (phase : Phase) (w : Work) (p : Owned) (v : Work) (q : Owned) → phase ≢ Find → IsSound phase w.walk → MayStepAt phase p → NextAt skip phase w p (Ok More) v q → left_of_peer v q < left_at phase w.walk p
at_left skip Find w p v q found sound may next = absurd (found refl)
at_left skip (Low life) w p v q found sound may next = omega (arith, made_left (after_low life w p) More v q next, low_left life w p)
at_left skip (At life stage) w p v q found sound may next = on_left life stage w p v q may sound next

pub step_left : (skip : List (Member × Incarnation)) (w : Work) (p : Owned) (v : Work) (q : Owned) → w.phase ≢ Find → IsSound w.phase w.walk → MayStepAt w.phase p → NextPeer skip w p (Ok More) v q → left_of_peer v q < left_of_peer w p
step_left skip w p v q found sound may next = at_left skip w.phase w p v q found sound may next

-- ---- an incarnation that is found

pub step_finds : (skip : List (Member × Incarnation)) (w : Work) (p : Owned) (v : Work) (q : Owned) → w.phase ≡ Find → NextPeer skip w p (Ok More) v q → HasFoundLife skip w p v q
step_finds skip w p v q at next = by (first_open skip p.repo.lives) refl (subst (λ (phase : Phase). NextAt skip phase w p (Ok More) v q) at next)
  where
    by : (name : Option (Member × Incarnation)) → first_open skip p.repo.lives ≡ name → record { turn = More; work = v; parts = q } ≡ after_find (found_phase name) w p → HasFoundLife skip w p v q
    by None first is = absurd (cc (turn_is (after_find (found_phase None) w p) More v q is))
    by (Some name) first is = record {
      name = name;
      first = first;
      work_is = ap (λ (n : Next). n.work) is;
      parts_are = ap (λ (n : Next). n.parts) is;
      left = omega (arith, made_left (after_find (found_phase (Some name)) w p) More v q is, all_marks (life_of name) p);
    }
