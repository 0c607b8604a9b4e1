-- what holds of system tasks after each kind of step
use Rattle.std.proofs.Common.{◌≡◌, inl, inr, ℕ, ◌-◌, ◌+◌, ◌≤◌, ◌<◌, List, [], ◌∷◌, length, zero, suc, Bool, true, false, cond, Option, Some, None, Result, Ok, Err, refl, sym, ap, subst, ◌∙◌, true≢false, length-append, arith}
use Rattle.std.specs.Prelude.{IfSome, ◌^◌, ◌==◌, nat_le, is_some, slice_index_or}
use Rattle.std.proofs.lemmas.Bool.{cases_Bool, eqb-true}
use Rattle.std.proofs.lemmas.Bool.Decides.{nat_tests}
use Rattle.std.proofs.lemmas.List.Sums.{sum_by-cons}
use Rattle.qsg_num.specs.declared.seats.Member.{Member}
use Rattle.qsg_num.specs.declared.seats.StructNo.{StructNo}
use Rattle.qsg_num.specs.declared.seats.TaskNo.{TaskNo}
use Rattle.qsg_num.specs.declared.seats.TaskNo.TheVariants as task
use Rattle.qsg_num.specs.declared.ids.Actor.{Actor}
use Rattle.qsg_num.specs.declared.ids.Actor.TheVariants as actor
use Rattle.qsg_num.specs.Seats.{member_number, structure_number}
use Rattle.qsg_group.proofs.Tables.{same_member}
use Rattle.qsg_lists.specs.Entries.{AreInOrder}
use Rattle.qsg_lists.specs.Structures.{ListStructure}
use Rattle.qsg_objects.specs.declared.directives.Directive.{Directive}
use Rattle.qsg_objects.specs.declared.directives.Directive.TheVariants as directive
use Rattle.qsg_requests.specs.declared.replies.Turn.{Turn}
use Rattle.qsg_requests.specs.declared.replies.Turn.TheVariants as turn
use Rattle.qsg_requests.specs.declared.replies.Reply.{Reply}
use Rattle.qsg_requests.specs.declared.transcript.Answer.{Answer}
use Rattle.qsg_agenda.specs.Courses.{Course, next_of, same_actor, with_answer, answered}
use Rattle.qsg_commit.specs.declared.phases.StepError.{StepError}
use Rattle.qsg_commit.specs.declared.phases.StepError.TheVariants.{NoMemory, LogFailed}
use Rattle.qsg_commit.specs.Committing.{IsSameButRoom}
use Rattle.qsg_lives.specs.Deciding.{MayStartAt}
use Rattle.qsg_lives.specs.Marks.{answers_in}
use Rattle.qsg_lives.proofs.Giving.{request_above}
use Rattle.qsg_lives.proofs.Taking.{peer_above}
use Rattle.qsg_manager.specs.Facilities.{no_structure, structure_in}
use Rattle.qsg_parts.specs.Owned.{Owned, HasMember}
use Rattle.qsg_peer.specs.Sweeping.{AreAbove, AreOrdered}
use Rattle.qsg_start.specs.Works.{Work as StartWork}
use Rattle.qsg_steady.specs.Steady.{IsSteady}
use Rattle.qsg_works.specs.declared.work.Work.{Work}
use Rattle.qsg_works.specs.InHand.{work_of}
use Rattle.qsg_works.specs.Steps.{NextWork}
use Rattle.qsg_fit.proofs.Requests.{request_keeps, failed_request_keeps}
use Rattle.qsg_step.specs.declared.step.Step.{Step}
use Rattle.qsg_step.specs.Ends.{broken, broken_if, broken_task, broken_off, IsEnd}
use Rattle.qsg_step.specs.States.{State, is_member_up}
use Rattle.qsg_step.specs.Steps.{answer_to, with_hand, start_or, start_before, start_reply, started_as, peer_work_before, peer_before, IsAfter, IsStartStep, IsPeerStep, IsUnmade}
use Rattle.qsg_step.specs.Waiting.{reading}
use Rattle.qsg_sound.specs.Sound.{answers_given, in_progress, AreStructuresKept, AreTypesKept, IsSound}
use Rattle.qsg_sound.specs.Systems.{is_starting, IsStarting}
use Rattle.qsg_sound.proofs.Answering.{one_more, few_answers}
use Rattle.qsg_sound.proofs.AnswerStep.{told}
use Rattle.qsg_sound.proofs.Hands.{others_in}
use Rattle.qsg_sound.proofs.Leaving.{request_fails}
use Rattle.qsg_sound.proofs.Moving.{others_few}
use Rattle.qsg_sound.proofs.PeerStep.{peer_may}
use Rattle.qsg_sound.proofs.Ready.{IsReady}
use Rattle.qsg_sound.proofs.RequestStep.{SystemsAfter}
use Rattle.qsg_sound.proofs.Standing.{AreSystemsSound}
use Rattle.qsg_sound.proofs.StartStep.{start_member, start_has, may_start}
use Rattle.qsg_sound.proofs.SystemsDeciding.{peer_keeps_steady}
use Rattle.qsg_sound.proofs.SystemsOwn.{peers_after_peer}
use Rattle.qsg_sound.proofs.SystemsPeers.{peers_after_request, peers_after_answer, peers_after_unmade, peers_after_end}
use Rattle.qsg_sound.proofs.SystemsStart.{peers_after_start}
use Rattle.qsg_sound.proofs.TallyingPeer.{tallied_after_peer}
use Rattle.qsg_sound.proofs.TallyingSteps.{tallied_after_request, tallied_after_answer, tallied_after_unmade, tallied_after_end, tallied_after_start}

-- ---- entries in order

past_end : {X : Type 0} (n : ℕ) (d : X) (xs : List X) → length xs ≤ n → slice_index_or xs n d ≡ d
past_end n d [] less = refl
past_end zero d (x ∷ xs) less = absurd (omega (arith, less))
past_end (suc n) d (x ∷ xs) less = past_end n d xs (omega (arith, less))

in_order : (p : Owned) → AreStructuresKept p → (s : StructNo) → AreInOrder (structure_in s p.structures).entries
in_order p kept s = by (nat_le (structure_number s) (length p.structures)) refl
  where
    within : (a b : ℕ) → nat_le a b ≡ true → a ≤ b
    within a b is = grind (arith, nat_tests)

    beyond : (a b : ℕ) → nat_le a b ≡ false → b ≤ a - 1
    beyond a b is = grind (arith, nat_tests)

    by : (x : Bool) → nat_le (structure_number s) (length p.structures) ≡ x → AreInOrder (structure_in s p.structures).entries
    by true is = (kept s (within (structure_number s) (length p.structures) is)).ordered
    by false is = subst (λ (x : ListStructure). AreInOrder x.entries) (sym (past_end (structure_number s - 1) no_structure p.structures (beyond (structure_number s) (length p.structures) is))) tt

-- ---- answers

abbrev one_course : Course → ℕ
one_course c = length c.answers

pub answered_more : (who : Actor) (a : Answer) (cs : List Course) → answers_given cs ≤ answers_given (answered who a cs)
answered_more who a [] = omega arith
answered_more who a (c ∷ cs) = by (same_actor c.actor who) (answered_more who a cs)
  where
    by : (b : Bool) → answers_given cs ≤ answers_given (answered who a cs) → answers_given (c ∷ cs) ≤ answers_given (cond b (with_answer a c ∷ cs) (c ∷ answered who a cs))
    by true rest = omega (arith, sum_by-cons one_course c cs, sum_by-cons one_course (with_answer a c) cs, length-append c.answers (a ∷ []))
    by false rest = omega (arith, rest, sum_by-cons one_course c cs, sum_by-cons one_course c (answered who a cs))

broken_more : (who : Actor) (at : ℕ) (o : Option Directive) (cs : List Course) → answers_given cs ≤ answers_given (broken who at o cs)
broken_more who at None cs = omega arith
broken_more who at (Some d) cs = answered_more who _ cs

broken_if_more : (b : Bool) (who : Actor) (at : ℕ) (cs : List Course) → answers_given cs ≤ answers_given (broken_if b who at cs)
broken_if_more true who at cs = broken_more who at (next_of who cs) cs
broken_if_more false who at cs = omega arith

broken_off_more : (m : Member) (works : List (Option Work)) (at : ℕ) (cs : List Course) → answers_given cs ≤ answers_given (broken_off m works at cs)
broken_off_more m works at cs =
    let one = broken_task m task.One works at cs in
    let two = broken_task m task.Two works at one in
    let three = broken_task m task.Three works at two in
    omega (
      arith,
      broken_if_more (is_some (work_of m task.One works)) (actor.Task m task.One) at cs,
      broken_if_more (is_some (work_of m task.Two works)) (actor.Task m task.Two) at one,
      broken_if_more (is_some (work_of m task.Three works)) (actor.Task m task.Three) at two,
      broken_if_more (is_some (work_of m task.Four works)) (actor.Task m task.Four) at three,
    )

-- ---- a request

pub request_ordered : (m : Member) (t : TaskNo) (d : Directive) (before work : Work) (result : Result Turn StepError) (q : Owned) (s : State) (step : Step) (r : State) → IsSound s → IsReady m t d before s → NextWork before s.parts result work q → IsAfter m t d result work q s step r → AreTypesKept r → AreOrdered q
request_ordered m t d before work result q s step r sound ready made after kept = record {
  ordered = by result made after;
  above = request_above (answers_given s.courses) (others_in m t s.works) before work s.parts q result ready.steady ready.fits made sound.ordered.above;
}
  where
    same : q.structures ≡ s.parts.structures → (x : StructNo) → AreInOrder (structure_in x q.structures).entries
    same is x = subst (λ xs. AreInOrder (structure_in x xs).entries) (sym is) (sound.ordered.ordered x)

    by : (result : Result Turn StepError) → NextWork before s.parts result work q → IsAfter m t d result work q s step r → (x : StructNo) → AreInOrder (structure_in x q.structures).entries
    by (Ok turn.More) made after = in_order q (subst (λ (x : State). AreStructuresKept x.parts) after.1 kept.structures)
    by (Ok (turn.Ended reply)) made after = in_order q (subst (λ (x : State). AreStructuresKept x.parts) after.1 kept.structures)
    by (Ok (turn.Waits cause)) made after =
        same (ap (λ (x : Owned). x.structures) (request_keeps (answers_given s.courses) (others_in m t s.works) s.parts q before work (turn.Waits cause) (others_few m t s sound) ready.steady ready.fits made).1)
    by (Err LogFailed) made after = same (ap (λ (x : Owned). x.structures) (request_fails before work s.parts q ready.fits made).parts)
    by (Err NoMemory) made after = absurd after

-- a state whose parts a step of a request left
after_work : (m : Member) (t : TaskNo) (d : Directive) (before work : Work) (result : Result Turn StepError) (s r : State) → IsSound s → IsReady m t d before s → NextWork before s.parts result work r.parts → length r.parts.managers ≡ length s.parts.managers
    → ((k : Member) → is_member_up k r ≡ is_member_up k s) → r.peers ≡ s.peers → r.starting ≡ s.starting → r.tallies ≡ s.tallies → answers_given s.courses + answers_in result ≤ answers_given r.courses → AreSystemsSound r
after_work m t d before work result s r sound ready made count ups peers starting tallies answers =
    let a = answers_given s.courses in
    let o = others_in m t s.works in
    record {
      peers = peers_after_request a (in_progress s.works) a o before work result s r sound.steady ready.steady ready.fits sound.ordered made count ups peers starting sound.peers;
      tallies = tallied_after_request a o before work result s r ready.steady ready.fits sound.ordered made peers tallies answers sound.tallies;
    }

-- no START of a member that is up is in progress
idle_start : (m : Member) (s : State) → IsSound s → is_member_up m s ≡ true → is_starting m s.starting ≡ false
idle_start m s sound up = by s.starting sound.starting
  where
    by : (o : Option StartWork) → IfSome o (λ w. IsStarting w s) → is_starting m o ≡ false
    by None is = refl
    by (Some w) is = elim (cases_Bool (member_number w.member == member_number m)) [
      | inl same ↦ absurd (true≢false (sym up ∙ sym (ap (λ k. is_member_up k s) (same_member w.member m (eqb-true (member_number w.member) (member_number m) same))) ∙ is.down))
      | inr differ ↦ differ
    ]

-- a member ends
after_end : (a b : ℕ) (m : Member) (s r : State) → IsSteady a b s.parts → HasMember m s.parts → is_member_up m s ≡ true → is_starting m s.starting ≡ false → length s.peers ≡ 8 → answers_given s.courses < 2 ^ 30 → IsEnd m s r → AreSystemsSound s → AreSystemsSound r
after_end a b m s r steady has up idle eight few ends systems =
    let more = subst (λ (x : State). answers_given s.courses ≤ answers_given x.courses) (sym ends.after) (broken_off_more m s.works (length s.parts.history.items) s.courses) in
    record {
      peers = peers_after_end a b m s r steady has up idle eight ends systems.peers;
      tallies = tallied_after_end a b m s r steady has up eight few more ends systems.tallies;
    }

answers_few : (s : State) → IsSound s → answers_given s.courses < 2 ^ 30
answers_few s sound = omega (arith, few_answers s.courses sound.answered, sound.few)

pub request_systems : (m : Member) (t : TaskNo) (d : Directive) (before work : Work) (result : Result Turn StepError) (q : Owned) (s : State) (step : Step) (r : State) → IsSound s → HasMember m s.parts → is_member_up m s ≡ true → IsReady m t d before s → next_of (actor.Task m t) s.courses ≡ Some d
    → NextWork before s.parts result work q → IsAfter m t d result work q s step r → SystemsAfter m t result work q s r
request_systems m t d before work (Ok turn.More) q s step r sound has up ready next made after =
    let x = with_hand m t (Some work) q s in
    let kept = (request_keeps (answers_given s.courses) (others_in m t s.works) s.parts q before work turn.More (others_few m t s sound) ready.steady ready.fits made).undisturbed in
    subst AreSystemsSound (sym after.1) (after_work m t d before work (Ok turn.More) s x sound ready made kept.members kept.ups refl refl refl (omega arith))
request_systems m t d before work (Ok (turn.Ended reply)) q s step r sound has up ready next made after =
    let who = actor.Task m t in
    let x = with_hand m t None q (record s { courses = answered who (answer_to d reply s) s.courses }) in
    let kept = (request_keeps (answers_given s.courses) (others_in m t s.works) s.parts q before work (turn.Ended reply) (others_few m t s sound) ready.steady ready.fits made).undisturbed in
    subst AreSystemsSound (sym after.1) (after_work m t d before work (Ok (turn.Ended reply)) s x sound ready made kept.members kept.ups refl refl refl (omega (arith, one_more who (answer_to d reply s) s.courses d next)))
request_systems m t d before work (Ok (turn.Waits cause)) q s step r sound has up ready next made after = subst AreSystemsSound (sym after.1) (record { peers = sound.peers; tallies = sound.tallies })
request_systems m t d before work (Err LogFailed) q s step r sound has up ready next made after =
    let a = answers_given s.courses in
    let o = others_in m t s.works in
    let x = with_hand m t (Some work) q s in
    let goes = failed_request_keeps a o s.parts q before work ready.steady ready.fits made in
    let kept = goes.undisturbed in
    let systems = after_work m t d before work (Err LogFailed) s x sound ready made kept.members kept.ups refl refl refl (omega arith) in
    let there : HasMember m q = record { manager = subst (λ (n : ℕ). member_number m ≤ n) (sym kept.members) has.manager; log = subst (λ (n : ℕ). member_number m ≤ n) (sym goes.steady.shape.logs) (subst (λ (n : ℕ). member_number m ≤ n) (sym kept.members) has.manager) } in
    (systems, after_end a (o + 1) m x r goes.steady there (kept.ups m ∙ up) (idle_start m s sound up) sound.eight (answers_few s sound) after.1 systems)
request_systems m t d before work (Err NoMemory) q s step r sound has up ready next made after = tt

-- ---- the other steps

pub answer_systems : (s : State) (who : Actor) (d : Directive) (a : Answer) (due : List Bool) → IsSound s → AreSystemsSound (told who a due s)
answer_systems s who d a due sound = record {
  peers = peers_after_answer (answers_given s.courses) (in_progress s.works) s (told who a due s) sound.steady refl refl refl sound.peers;
  tallies = tallied_after_answer s (told who a due s) refl refl refl (answered_more who a s.courses) sound.tallies;
}

pub end_systems : (m : Member) (s r : State) → IsSound s → HasMember m s.parts → is_member_up m s ≡ true → IsEnd m s r → AreSystemsSound r
end_systems m s r sound has up ends =
    after_end (answers_given s.courses) (in_progress s.works) m s r sound.steady has up (idle_start m s sound up) sound.eight (answers_few s sound) ends (record { peers = sound.peers; tallies = sound.tallies })

-- a START in progress is of the member for which the operator asks
own_start : (m : Member) (o : Option StartWork) → (start_or m o).member ≡ m → IfSome o (λ w. w.member ≡ m)
own_start m None is = tt
own_start m (Some w) is = is

started_more : (m : Member) (s r : State) → IsStartStep m (directive.Start m) s r → answers_given s.courses ≤ answers_given r.courses
started_more m s r made = subst (λ (x : State). answers_given s.courses ≤ answers_given x.courses) (sym made.after) (by (start_reply m made.turn))
  where
    by : (o : Option Reply) → answers_given s.courses ≤ answers_given (started_as o (directive.Start m) made.work made.parts s).courses
    by None = omega arith
    by (Some said) = answered_more actor.Operator (answer_to (directive.Start m) said s) s.courses

pub start_systems : (m : Member) (s r : State) → IsSound s → next_of actor.Operator s.courses ≡ Some (directive.Start m) → reading m s ≡ None → IsStartStep m (directive.Start m) s r → AreSystemsSound r
start_systems m s r sound next free made =
    let a = answers_given s.courses in
    let b = in_progress s.works in
    let has = start_has m s sound next in
    let member = start_member m s sound next in
    let own = own_start m s.starting member in
    let may = subst (λ k. MayStartAt (start_before m s).phase k s.parts) member (may_start m s sound) in
    record {
      peers = peers_after_start a b m (directive.Start m) s r sound.steady has own may free sound.kept.peers made sound.peers;
      tallies = tallied_after_start a b m (directive.Start m) s r sound.steady has own may (started_more m s r made) made sound.tallies;
    }

pub peer_ordered : (m : Member) (s r : State) → IsSound s → AreTypesKept r → IsPeerStep m s r → AreOrdered r.parts
peer_ordered m s r sound kept made = record {
  ordered = in_order r.parts kept.structures;
  above = subst (λ (x : State). AreAbove x.parts) (sym made.after)
      (peer_above (peer_before m s).given_up (peer_work_before m s) s.parts (Ok made.steps.turn) made.steps.work made.parts (peer_may m s sound) made.steps.next sound.ordered.above);
}

pub peer_steady : (m : Member) (s r : State) → IsSound s → is_member_up m s ≡ true → IsPeerStep m s r → IsSteady (answers_given s.courses) (in_progress s.works) r.parts
peer_steady m s r sound up made = peer_keeps_steady (answers_given s.courses) (in_progress s.works) m s sound.steady sound.kept.peers up sound.peers sound.tallies r made

pub peer_systems : (m : Member) (s r : State) → IsSound s → is_member_up m s ≡ true → IsPeerStep m s r → AreSystemsSound r
peer_systems m s r sound up made = record {
  peers = peers_after_peer (answers_given s.courses) (in_progress s.works) m s r sound.steady sound.kept.logs sound.ordered sound.kept.peers sound.tallies.members sound.eight up made sound.peers;
  tallies = tallied_after_peer m s r made sound.four sound.kept.peers up sound.eight sound.peers sound.tallies;
}

pub unmade_systems : (s : State) (q : Owned) → IsSound s → IsSameButRoom s.parts q → AreSystemsSound (record s { parts = q })
unmade_systems s q sound more =
    let unmade : IsUnmade s (record s { parts = q }) = record { parts = more; others = refl } in
    record {
      peers = peers_after_unmade (answers_given s.courses) (in_progress s.works) s (record s { parts = q }) sound.steady unmade sound.peers;
      tallies = tallied_after_unmade s (record s { parts = q }) unmade sound.tallies;
    }
