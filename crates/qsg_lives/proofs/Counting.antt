-- marks of an incarnation that is over, in actions of units and of peers
use Rattle.std.proofs.Common.{◌≡◌, inl, inr, ℕ, ◌+◌, ◌<◌, ◌^◌, Bool, true, false, cond, List, Option, Some, None, Result, Ok, Err, refl, sym, ap, subst, ◌∙◌, true≢false, arith}
use Rattle.std.specs.Prelude.{◌==◌, ◌||◌, is_some}
use Rattle.std.proofs.lemmas.Bool.{cases_Bool}
use Rattle.qsg_num.specs.declared.ids.Incarnation.{Incarnation}
use Rattle.qsg_num.specs.declared.ids.UnitName.{UnitName}
use Rattle.qsg_num.specs.declared.seats.Member.{Member}
use Rattle.qsg_num.specs.declared.seats.TaskNo.{TaskNo}
use Rattle.qsg_num.specs.declared.words.Delivery.{Delivery}
use Rattle.qsg_msg.specs.declared.message.Message.{Message}
use Rattle.qsg_lists.specs.declared.parts.Connection.{Connection}
use Rattle.qsg_lists.specs.declared.parts.Entry.{Entry}
use Rattle.qsg_lists.specs.declared.parts.Head.{Head}
use Rattle.qsg_lists.specs.declared.parts.Lost.{Lost}
use Rattle.qsg_lists.specs.declared.parts.Place.{Place}
use Rattle.qsg_lists.specs.declared.parts.Selector.{Selector}
use Rattle.qsg_lists.specs.declared.parts.Settled.{Settled}
use Rattle.qsg_lists.specs.declared.parts.Settled.TheVariants.{Done, NotYours}
use Rattle.qsg_repo.specs.Lives.{first_open}
use Rattle.qsg_group.specs.declared.tasks.Claim.{Claim}
use Rattle.qsg_manager.specs.declared.structures.MarkedEntry.{MarkedEntry}
use Rattle.qsg_manager.specs.Facilities.{structure_in}
use Rattle.qsg_manager.specs.Getting.{found_in}
use Rattle.qsg_manager.specs.Groups.{seat_of}
use Rattle.qsg_manager.specs.Settles.{commits}
use Rattle.qsg_manager.specs.Storage.{manager_in, task_at}
use Rattle.qsg_parts.specs.Owned.{Owned}
use Rattle.qsg_steady.specs.Steady.{IsSteady}
use Rattle.qsg_steady.specs.Actions.{put, got, settled}
use Rattle.qsg_peer.specs.declared.phases.FailedLife.{FailedLife}
use Rattle.qsg_peer.specs.declared.phases.NoMemory.{NoMemory}
use Rattle.qsg_peer.specs.declared.phases.PeerTurn.{PeerTurn}
use Rattle.qsg_peer.specs.declared.phases.Phase.{Phase}
use Rattle.qsg_peer.specs.declared.phases.Phase.TheVariants.{Find, Low, At}
use Rattle.qsg_peer.specs.declared.phases.Stage.{Stage}
use Rattle.qsg_peer.specs.declared.phases.Stage.TheVariants.{Read, Connect, Search, Settle, Resolve}
use Rattle.qsg_peer.specs.Works.{Work, IsSoundAt, IsSound}
use Rattle.qsg_peer.specs.Needs.{HasStructure, MayStepOn, MayStepAt, is_read_stage}
use Rattle.qsg_peer.specs.Steps.{Next, found_phase, after_find, after_low, after_connect, after_search, after_settle, after_resolve, Reads, Makes, Acts, GoesOn, NextAt, NextPeer, mark_answer, with_mark_off, counted}
use Rattle.qsg_peer.specs.Machine.{is_of, IsOver}
use Rattle.qsg_peer.specs.Sweeping.{AreOrdered}
use Rattle.qsg_group.proofs.Tables.{same_member}
use Rattle.std.proofs.lemmas.Bool.{and_parts, eqb-true}
use Rattle.qsg_num.specs.Seats.{member_number}
use Rattle.qsg_group.specs.Laws.{HasEnded}
use Rattle.qsg_steady.specs.Steady.{IsLive}
use Rattle.qsg_lives.specs.Marks.{LeavesMarks, marks_left, StaysSwept, came_off_by, came_off_on, came_off}
use Rattle.qsg_lives.proofs.Structures.{none_changed, one_changed, one_counted, put_leaves, got_leaves, settle_leaves, settle_off, settle_counts, off_in}
use Rattle.qsg_num.specs.declared.words.LogWhy.{LogWhy}
use Rattle.qsg_walk.specs.Walks.{Walk, IsBadKept, IsBad, FeedsKept, Feeds}
use Rattle.qsg_walk.specs.declared.walk.KeptPage.{KeptPage}
use Rattle.qsg_logrec.specs.declared.record.LogRecord.{LogRecord}
use Rattle.qsg_logread.specs.Fed.{is_committed}

-- ---- units

pub same_life : (life : FailedLife) (u : UnitName) → is_of life u ≡ true → (u.member ≡ life.member) × (u.incarnation.number ≡ life.incarnation.number)
same_life life u is =
    let parts = and_parts (member_number u.member == member_number life.member) (u.incarnation.number == life.incarnation.number) is in
    (same_member u.member life.member (eqb-true (member_number u.member) (member_number life.member) parts.0), eqb-true u.incarnation.number life.incarnation.number parts.1)

-- a unit is of no incarnation that is over while its member is up in its incarnation
pub live_other : (p : Owned) (u : UnitName) (life : FailedLife) → IsLive (manager_in u.member p.managers) u → IsOver life p → is_of life u ≡ false
live_other p u life live ended = elim (cases_Bool (is_of life u)) [
  | inl is ↦ absurd (alive is)
  | inr is ↦ is
]
  where
    alive : is_of life u ≡ true → ⊥
    alive is =
        let same = same_life life u is in
        let past = subst (λ (k : Member). HasEnded life.incarnation.number (seat_of (manager_in k p.managers))) (sym same.0) ended in
        true≢false (sym live.up ∙ past.down (sym same.1 ∙ ap (λ (i : Incarnation). i.number) live.incarnation))

-- a unit that a task holds is so
pub held_live : (a b : ℕ) (p : Owned) (m : Member) (t : TaskNo) (u : UnitName) → IsSteady a b p → (task_at m t p.managers).unit ≡ Some u → IsLive (manager_in u.member p.managers) u
held_live a b p m t u s holds = subst (λ (k : Member). IsLive (manager_in k p.managers) u) (sym (s.own m t u holds)) (s.live m t u holds)

pub other_life : (a b : ℕ) (p : Owned) (m : Member) (t : TaskNo) (u : UnitName) (life : FailedLife) → IsSteady a b p → (task_at m t p.managers).unit ≡ Some u → IsOver life p → is_of life u ≡ false
other_life a b p m t u life s holds ended = live_other p u life (held_live a b p m t u s holds) ended

pub put_marks : (life : FailedLife) (p : Owned) (t : TaskNo) (u : UnitName) (c : Connection) (head : Head) (place : Place) (message : Message) (logged : Option ℕ) → is_of life u ≡ false → HasStructure c.structure p → LeavesMarks life p (put u t c head place message logged p)
put_marks life p t u c head place message logged other within = put_leaves life c.structure u head place p (put u t c head place message logged p) other within refl

pub got_marks : (life : FailedLife) (p : Owned) (t : TaskNo) (u : UnitName) (c : Connection) (queue : List ℕ) (order : Delivery) (select : Selector) (e : Entry) (logged : Option ℕ) → is_of life u ≡ false → AreOrdered p → HasStructure c.structure p
    → found_in c queue order select p.structures ≡ Some e → LeavesMarks life p (got u t c e logged p)
got_marks life p t u c queue order select e logged other ordered within found = got_leaves life u c queue order select e p (got u t c e logged p) other ordered within found refl

abbrev pub mark_of : UnitName → Claim → MarkedEntry
mark_of u c = record { id = c.id; unit = u }

pub settled_marks : (life : FailedLife) (p : Owned) (t : TaskNo) (u : UnitName) (c : Claim) → is_of life u ≡ false → AreOrdered p → HasStructure c.connection.structure p → LeavesMarks life p (settled u t c p)
settled_marks life p t u c other ordered within = settle_leaves life (commits (task_at u.member t p.managers).stage) c.connection (mark_of u c) p (settled u t c p) other ordered within refl

-- ---- a peer's settle

pub off_counts : (life : FailedLife) (connection : Connection) (found : MarkedEntry) (commits : Bool) (p : Owned) → HasStructure connection.structure p
    → marks_left life p ≡ marks_left life (with_mark_off connection found commits p) + came_off_by life found (mark_answer connection found p)
off_counts life connection found commits p within =
    let s = structure_in connection.structure p.structures in
    omega (arith, one_counted life connection.structure (off_in commits connection found s) p (with_mark_off connection found commits p) within refl, settle_counts life commits connection found s)

pub off_swept : (life : FailedLife) (connection : Connection) (found : MarkedEntry) (commits : Bool) (p : Owned) → AreOrdered p → HasStructure connection.structure p → StaysSwept life p (with_mark_off connection found commits p)
off_swept life connection found commits p ordered within =
    let s = structure_in connection.structure p.structures in
    one_changed life connection.structure (off_in commits connection found s) p (with_mark_off connection found commits p) within refl (settle_off life commits connection found s (ordered.ordered connection.structure))

-- ---- a step of a peer's work

-- so many marks of the incarnation came off, and those that were off are off
record TakesOff (life : FailedLife) (n : ℕ) (p q : Owned) : Type 0 where
  pub marks : marks_left life p ≡ marks_left life q + n
  pub swept : AreOrdered p → StaysSwept life p q

none_off : (life : FailedLife) (p q : Owned) → q.structures ≡ p.structures → TakesOff life 0 p q
none_off life p q is = let left = none_changed life p q is in record { marks = omega (arith, left.marks); swept = λ ordered. left.swept }

pub made : (next : Next) (result : Result PeerTurn NoMemory) (v : Work) (q : Owned) → Makes next result v q → q ≡ next.parts
made next (Ok turn) v q is = ap (λ (n : Next). n.parts) is
made next (Err e) v q is = absurd is

same_off_by : (life : FailedLife) (next : Next) (p : Owned) (result : Result PeerTurn NoMemory) (v : Work) (q : Owned) → next.parts.structures ≡ p.structures → Makes next result v q → TakesOff life 0 p q
same_off_by life next p result v q same is = none_off life p q (ap (λ (x : Owned). x.structures) (made next result v q is) ∙ same)

reads_off : (life of : FailedLife) (w : Work) (p : Owned) (turn : PeerTurn) (v : Work) (q : Owned) → Reads of w p turn v q → TakesOff life 0 p q
reads_off life of w p turn v q reads = none_off life p q (ap (λ (x : Owned). x.structures) reads.0.others)

acts_off : (life of : FailedLife) (stage : Stage) (w : Work) (p : Owned) (result : Result PeerTurn NoMemory) (v : Work) (q : Owned) → MayStepOn of stage p → Acts of stage w p result v q → TakesOff life (came_off_on life stage p) p q
acts_off life of Read w p (Ok turn) v q may acts = reads_off life of w p turn v q acts
acts_off life of Read w p (Err e) v q may acts = absurd acts
acts_off life of (Connect s) w p result v q may acts = same_off_by life (after_connect of s w p) p result v q refl acts
acts_off life of (Search c after) w p result v q may acts = same_off_by life (after_search of c after w p) p result v q refl acts
acts_off life of (Settle c found) w p result v q may acts =
    let by = is_committed found.unit w.walk.reader.commits in
    subst (TakesOff life (came_off_by life found (mark_answer c found p)) p) (sym (made (after_settle of c found w p) result v q acts))
    (record { marks = off_counts life c found by p may; swept = λ ordered. off_swept life c found by p ordered may })
acts_off life of Resolve w p result v q may acts = same_off_by life (after_resolve of w p) p result v q refl acts

-- before a mark comes off no page is kept
settle_only : (life of : FailedLife) (stage : Stage) (w : Work) (p : Owned) → IsSoundAt of stage w.walk → (w.walk.kept ≡ None → ⊥) → came_off_on life stage p ≡ 0
settle_only life of Read w p sound kept = refl
settle_only life of (Connect s) w p sound kept = refl
settle_only life of (Search c after) w p sound kept = refl
settle_only life of (Settle c found) w p sound kept = absurd (kept sound.1)
settle_only life of Resolve w p sound kept = refl

lacks_only : (life of : FailedLife) (stage : Stage) (w : Work) (p : Owned) → IsSoundAt of stage w.walk → (is_read_stage stage || is_some w.walk.kept) ≡ true → came_off_on life stage p ≡ 0
lacks_only life of Read w p sound takes = refl
lacks_only life of (Connect s) w p sound takes = refl
lacks_only life of (Search c after) w p sound takes = refl
lacks_only life of (Settle c found) w p sound takes = absurd (true≢false (sym takes ∙ ap is_some sound.1))
lacks_only life of Resolve w p sound takes = refl

stays_off : (life : FailedLife) (stage : Stage) (p q : Owned) → came_off_on life stage p ≡ 0 → q ≡ p → TakesOff life (came_off_on life stage p) p q
stays_off life stage p q none is = subst (λ (n : ℕ). TakesOff life n p q) (sym none) (none_off life p q (ap (λ (x : Owned). x.structures) is))

bad_kept : (w : Work) (why : LogWhy) → IsBad w.walk why → w.walk.kept ≡ None → ⊥
bad_kept w why bad none = subst (λ k. IsBadKept k w.walk why) none bad

goes_off : (life of : FailedLife) (stage : Stage) (w : Work) (p : Owned) (result : Result PeerTurn NoMemory) (v : Work) (q : Owned) → IsSoundAt of stage w.walk → MayStepOn of stage p → GoesOn of stage w p result v q → TakesOff life (came_off_on life stage p) p q
goes_off life of stage w p result v q sound may (inl given) = stays_off life stage p q (settle_only life of stage w p sound (bad_kept w given.why given.bad)) given.parts_are
goes_off life of stage w p result v q sound may (inr (inl lacks)) = stays_off life stage p q (lacks_only life of stage w p sound lacks.takes) lacks.parts_are
goes_off life of stage w p result v q sound may (inr (inr acted)) = acts_off life of stage (record w { walk = acted.walk }) p result v q may acted.acts

found_same : (name : Option (Member × Incarnation)) (w : Work) (p : Owned) → (after_find (found_phase name) w p).parts ≡ p
found_same None w p = refl
found_same (Some n) w p = refl

at_off : (life : FailedLife) (skip : List (Member × Incarnation)) (phase : Phase) (w : Work) (p : Owned) (result : Result PeerTurn NoMemory) (v : Work) (q : Owned) → IsSound phase w.walk → MayStepAt phase p → NextAt skip phase w p result v q → TakesOff life (came_off life phase p) p q
at_off life skip Find w p result v q sound may next =
    same_off_by life (after_find (found_phase (first_open skip p.repo.lives)) w p) p result v q (ap (λ (x : Owned). x.structures) (found_same (first_open skip p.repo.lives) w p)) next
at_off life skip (Low of) w p result v q sound may next = same_off_by life (after_low of w p) p result v q refl next
at_off life skip (At of stage) w p result v q sound may next = goes_off life of stage w p result v q sound may next

pub step_counts : (life : FailedLife) (skip : List (Member × Incarnation)) (w : Work) (p : Owned) (result : Result PeerTurn NoMemory) (v : Work) (q : Owned) → IsSound w.phase w.walk → MayStepAt w.phase p → NextPeer skip w p result v q
    → marks_left life p ≡ marks_left life q + came_off life w.phase p
step_counts life skip w p result v q sound may next = (at_off life skip w.phase w p result v q sound may next).marks

pub step_swept : (life : FailedLife) (skip : List (Member × Incarnation)) (w : Work) (p : Owned) (result : Result PeerTurn NoMemory) (v : Work) (q : Owned) → IsSound w.phase w.walk → AreOrdered p → MayStepAt w.phase p → NextPeer skip w p result v q
    → StaysSwept life p q
step_swept life skip w p result v q sound ordered may next = (at_off life skip w.phase w p result v q sound may next).swept ordered

-- ---- what the work counts

counted_is : (life : FailedLife) (found : MarkedEntry) (r : Result Settled Lost) (n : ℕ) → is_of life found.unit ≡ true → n + came_off_by life found r < 2 ^ 32 → counted r n ≡ n + came_off_by life found r
counted_is life found (Ok Done) n is less = let one : came_off_by life found (Ok Done) ≡ 1 = ap (λ (b : Bool). cond b 1 0) is in omega (arith, less, one)
counted_is life found (Ok (NotYours mark)) n is less = omega arith
counted_is life found (Err lost) n is less = omega arith

work_same : (w v : Work) → v ≡ w → v.settled ≡ w.settled + 0
work_same w v is = let same : v.settled ≡ w.settled = ap (λ (x : Work). x.settled) is in omega (arith, same)

made_work : (next : Next) (turn : PeerTurn) (v : Work) (q : Owned) → Makes next (Ok turn) v q → v ≡ next.work
made_work next turn v q is = ap (λ (n : Next). n.work) is

acts_settled : (life : FailedLife) (stage : Stage) (w : Work) (p : Owned) (turn : PeerTurn) (v : Work) (q : Owned) → IsSoundAt life stage w.walk → w.settled + came_off_on life stage p < 2 ^ 32 → Acts life stage w p (Ok turn) v q → v.settled ≡ w.settled + came_off_on life stage p
acts_settled life Read w p turn v q sound less (has, inl failed) = work_same w v failed.work_is
acts_settled life Read w p turn v q sound less (has, inr found) = let same : v.settled ≡ w.settled = ap (λ (x : Work). x.settled) found.work_is in omega (arith, same)
acts_settled life (Connect s) w p turn v q sound less acts = let same : v.settled ≡ w.settled = ap (λ (x : Work). x.settled) (made_work (after_connect life s w p) turn v q acts) in omega (arith, same)
acts_settled life (Search c after) w p turn v q sound less acts = let same : v.settled ≡ w.settled = ap (λ (x : Work). x.settled) (made_work (after_search life c after w p) turn v q acts) in omega (arith, same)
acts_settled life (Settle c found) w p turn v q sound less acts = ap (λ (x : Work). x.settled) (made_work (after_settle life c found w p) turn v q acts) ∙ counted_is life found (mark_answer c found p) w.settled sound.2 less
acts_settled life Resolve w p turn v q sound less acts = let same : v.settled ≡ w.settled = ap (λ (x : Work). x.settled) (made_work (after_resolve life w p) turn v q acts) in omega (arith, same)

-- what a step is sound with stays so with the page fed that the walk kept
fed_left : (old new : Walk) (kept : Option KeptPage) (records : List LogRecord) → FeedsKept kept old records new → old.kept ≡ kept → (new.left ≡ old.left) × (new.kept ≡ None)
fed_left old new None records fed is = (ap (λ (x : Walk). x.left) fed.1, ap (λ (x : Walk). x.kept) fed.1 ∙ is)
fed_left old new (Some kept) records fed is = (ap (λ (x : Walk). x.left) fed.rest, ap (λ (x : Walk). x.kept) fed.rest)

pub sound_fed : (life : FailedLife) (stage : Stage) (old new : Walk) (records : List LogRecord) → IsSoundAt life stage old → Feeds old records new → IsSoundAt life stage new
sound_fed life Read old new records sound fed = let f = fed_left old new old.kept records fed refl in omega (arith, f.0, sound)
sound_fed life (Connect s) old new records sound fed = (fed_left old new old.kept records fed refl).0 ∙ sound
sound_fed life (Search c after) old new records sound fed = let f = fed_left old new old.kept records fed refl in (f.0 ∙ sound.0, f.1)
sound_fed life (Settle c found) old new records sound fed = let f = fed_left old new old.kept records fed refl in (f.0 ∙ sound.0, f.1, sound.2)
sound_fed life Resolve old new records sound fed = (fed_left old new old.kept records fed refl).0 ∙ sound

goes_settled : (life : FailedLife) (stage : Stage) (w : Work) (p : Owned) (turn : PeerTurn) (v : Work) (q : Owned) → IsSoundAt life stage w.walk → w.settled + came_off_on life stage p < 2 ^ 32 → GoesOn life stage w p (Ok turn) v q → v.settled ≡ w.settled + came_off_on life stage p
goes_settled life stage w p turn v q sound less (inl given) =
    work_same w v given.work_is ∙ ap (λ (n : ℕ). w.settled + n) (sym (settle_only life life stage w p sound (bad_kept w given.why given.bad)))
goes_settled life stage w p turn v q sound less (inr (inl lacks)) = absurd (cc lacks.refused)
goes_settled life stage w p turn v q sound less (inr (inr acted)) = acts_settled life stage (record w { walk = acted.walk }) p turn v q (sound_fed life stage w.walk acted.walk acted.records sound acted.fed) less acted.acts

pub step_settled : (life : FailedLife) (stage : Stage) (skip : List (Member × Incarnation)) (w : Work) (p : Owned) (turn : PeerTurn) (v : Work) (q : Owned) → w.phase ≡ At life stage → IsSoundAt life stage w.walk → w.settled + came_off life w.phase p < 2 ^ 32 → NextPeer skip w p (Ok turn) v q
    → v.settled ≡ w.settled + came_off life w.phase p
step_settled life stage skip w p turn v q at sound less next =
    subst (λ (x : Phase). NextAt skip x w p (Ok turn) v q → w.settled + came_off life x p < 2 ^ 32 → v.settled ≡ w.settled + came_off life x p) (sym at) (λ n l. goes_settled life stage w p turn v q sound l n) next less
