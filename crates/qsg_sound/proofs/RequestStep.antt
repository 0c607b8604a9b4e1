-- a step of a request keeps the group sound, also one whose member's log fails
use Rattle.std.proofs.Common.{◌≡◌, ℕ, ◌-◌, ◌≤◌, List, length, true, false, Some, Result, Ok, Err, sym, ap, subst, ◌∙◌, length-set}
use Rattle.qsg_num.specs.declared.seats.Member.{Member}
use Rattle.qsg_num.specs.declared.seats.StructNo.{StructNo}
use Rattle.qsg_num.specs.declared.seats.TaskNo.{TaskNo}
use Rattle.qsg_num.specs.declared.seats.TaskNo.TheVariants as task
use Rattle.qsg_num.specs.declared.ids.Actor.TheVariants as actor
use Rattle.qsg_num.specs.Seats.{member_number, structure_number, task_number}
use Rattle.qsg_objects.specs.declared.directives.Directive.{Directive}
use Rattle.qsg_lists.specs.Structures.{ListStructure, IsSound as IsStructureSound}
use Rattle.qsg_logpage.specs.Log.{LogState}
use Rattle.qsg_requests.specs.declared.replies.Turn.{Turn}
use Rattle.qsg_requests.specs.declared.replies.Turn.TheVariants as turn
use Rattle.qsg_agenda.specs.Courses.{next_of}
use Rattle.qsg_commit.specs.declared.phases.StepError.{StepError}
use Rattle.qsg_commit.specs.declared.phases.StepError.TheVariants.{NoMemory, LogFailed}
use Rattle.qsg_commit.specs.Committing.{IsFailedPage}
use Rattle.qsg_logs.specs.Kept.{KeptLog, log_in, IsKept}
use Rattle.qsg_manager.specs.Facilities.{structure_in}
use Rattle.qsg_parts.specs.Owned.{Owned}
use Rattle.qsg_peer.specs.Sweeping.{AreOrdered}
use Rattle.qsg_steady.specs.Actions.{IsLogKept}
use Rattle.qsg_steady.proofs.Gives.{member_has}
use Rattle.qsg_steady.proofs.Moving.{by_member}
use Rattle.qsg_steady.proofs.Places.{log_other}
use Rattle.qsg_works.specs.declared.work.Work.{Work}
use Rattle.qsg_works.specs.Steps.{NextWork}
use Rattle.qsg_fit.proofs.Requests.{request_keeps, failed_request_keeps}
use Rattle.qsg_step.specs.declared.step.Step.{Step}
use Rattle.qsg_step.specs.States.{State, is_due, is_member_up}
use Rattle.qsg_step.specs.Steps.{with_hand, IsAfter}
use Rattle.qsg_sound.specs.Sound.{answers_given, in_progress, IsSound, AreLogsKept, AreStructuresKept, AreTypesKept}
use Rattle.qsg_sound.proofs.EndStep.{end_keeps}
use Rattle.qsg_sound.proofs.Fitting.{request_member}
use Rattle.qsg_sound.proofs.Hands.{others_in}
use Rattle.qsg_sound.proofs.Leaving.{request_leaves, request_fails}
use Rattle.qsg_sound.proofs.Moving.{others_few, goes_on, ends}
use Rattle.qsg_sound.proofs.Owning.{own_member}
use Rattle.qsg_sound.proofs.Ready.{IsReady}
use Rattle.qsg_sound.proofs.Standing.{AreSystemsSound}
use Rattle.qsg_sound.proofs.Staying.{next_own, next_asked}

-- ---- what types keep where a log failed

failed_log : (old new : KeptLog) → new.extent ≡ old.extent → new.writer ≡ old.writer → new.fillings ≡ old.fillings → IsKept old.extent old.writer old.fillings → IsKept new.extent new.writer new.fillings
failed_log old new extent writer fillings is =
    subst (λ (n : ℕ). IsKept n new.writer new.fillings) (sym extent) (subst (λ (w : LogState). IsKept old.extent w new.fillings) (sym writer) (subst (λ l. IsKept old.extent old.writer l) (sym fillings) is))

failed_logs : (m : Member) (p q : Owned) → IsFailedPage m p q → AreLogsKept p → AreLogsKept q
failed_logs m p q failed kept k there =
    let within : length q.logs ≡ length p.logs = ap (λ (x : Owned). length x.logs) failed.parts ∙ length-set p.logs (member_number m - 1) (log_in m q.logs) in
    let before : member_number k ≤ length p.logs = subst (λ (n : ℕ). member_number k ≤ n) within there in
    by_member (λ j. IsLogKept j p → IsLogKept j q) m
    (λ is. failed_log (log_in m p.logs) (log_in m q.logs) failed.extent failed.writer failed.fillings is)
    (λ j differ is. subst (λ (x : KeptLog). IsKept x.extent x.writer x.fillings) (sym (ap (λ (x : Owned). log_in j x.logs) failed.parts ∙ log_other m j (log_in m q.logs) p.logs differ)) is) k (kept k before)

failed_structures : (m : Member) (p q : Owned) → IsFailedPage m p q → AreStructuresKept p → AreStructuresKept q
failed_structures m p q failed kept =
    subst (λ (l : List ListStructure). (s : StructNo) → structure_number s ≤ length l → IsStructureSound (structure_in s l)) (sym (ap (λ (x : Owned). x.structures) failed.parts)) kept

-- ---- a step

-- What is left to say of system tasks after a step. A member whose log failed ends after the step.
abbrev pub SystemsAfter : Member → TaskNo → Result Turn StepError → Work → Owned → State → State → Type 0
SystemsAfter m t (Ok turn) work q s r = AreSystemsSound r
SystemsAfter m t (Err LogFailed) work q s r = AreSystemsSound (with_hand m t (Some work) q s) × AreSystemsSound r
SystemsAfter m t (Err NoMemory) work q s r = Unit {0}

pub work_keeps : (m : Member) (t : TaskNo) (d : Directive) (before work : Work) (result : Result Turn StepError) (q : Owned) (s : State) (step : Step) (r : State) → IsSound s → is_member_up m s ≡ true → (task_number task.System ≡ task_number t → ⊥) → is_due m t s.due ≡ false
    → IsReady m t d before s → next_of (actor.Task m t) s.courses ≡ Some d → NextWork before s.parts result work q → IsAfter m t d result work q s step r → AreOrdered q → AreTypesKept r → SystemsAfter m t result work q s r → IsSound r
work_keeps m t d before work (Ok turn.More) q s step r sound up not_system due ready next made after ordered kept systems =
    let a = answers_given s.courses in
    let o = others_in m t s.works in
    let goes = request_keeps a o s.parts q before work turn.More (others_few m t s sound) ready.steady ready.fits made in
    subst IsSound (sym after.1) (goes_on m t d before work q s sound up not_system due ready next (next_own before work s.parts q (Ok turn.More) made) (next_asked before work s.parts q (Ok turn.More) made) goes
    (request_leaves a o before work s.parts q (Ok turn.More) ready.steady ready.fits made) ordered (subst AreTypesKept after.1 kept) (subst AreSystemsSound after.1 systems))
work_keeps m t d before work (Ok (turn.Ended reply)) q s step r sound up not_system due ready next made after ordered kept systems =
    let a = answers_given s.courses in
    let o = others_in m t s.works in
    let done = request_keeps a o s.parts q before work (turn.Ended reply) (others_few m t s sound) ready.steady ready.fits made in
    subst IsSound (sym after.1) (ends m t d reply before q s sound up not_system due ready next done
    (request_leaves a o before work s.parts q (Ok (turn.Ended reply)) ready.steady ready.fits made) ordered (subst AreTypesKept after.1 kept) (subst AreSystemsSound after.1 systems))
work_keeps m t d before work (Ok (turn.Waits cause)) q s step r sound up not_system due ready next made after ordered kept systems = subst IsSound (sym after.1) sound
work_keeps m t d before work (Err LogFailed) q s step r sound up not_system due ready next made after ordered kept systems =
    let a = answers_given s.courses in
    let o = others_in m t s.works in
    let goes = failed_request_keeps a o s.parts q before work ready.steady ready.fits made in
    let own = own_member before m t ready.own in
    let failed = subst (λ k. IsFailedPage k s.parts q) own (request_fails before work s.parts q ready.fits made) in
    let mid = with_hand m t (Some work) q s in
    let types : AreTypesKept mid = record { logs = failed_logs m s.parts q failed sound.kept.logs; structures = failed_structures m s.parts q failed sound.kept.structures; peers = sound.kept.peers; starting = sound.kept.starting } in
    let still = goes_on m t d before work q s sound up not_system due ready next (next_own before work s.parts q (Err LogFailed) made) (next_asked before work s.parts q (Err LogFailed) made) goes
    (request_leaves a o before work s.parts q (Err LogFailed) ready.steady ready.fits made) ordered types systems.0 in
    let there = subst (λ k. member_number k ≤ length s.parts.managers) own (request_member before s.parts ready.fits).manager in
    let has = member_has (answers_given mid.courses) (in_progress mid.works) q m still.steady (subst (λ (n : ℕ). member_number m ≤ n) (sym goes.undisturbed.members) there) in
    end_keeps m mid r still has (goes.undisturbed.ups m ∙ up) after.1 kept systems.1
work_keeps m t d before work (Err NoMemory) q s step r sound up not_system due ready next made after ordered kept systems = absurd after
