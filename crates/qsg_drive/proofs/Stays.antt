-- a step that doesn't move changes nothing
use Rattle.std.proofs.Common.{◌≡◌, ◌≢◌, Bool, true, false, Option, Some, None, Result, Ok, Err, subst}
use Rattle.qsg_num.specs.declared.ids.Actor.{Actor}
use Rattle.qsg_num.specs.declared.seats.Member.{Member}
use Rattle.qsg_num.specs.declared.seats.TaskNo.{TaskNo}
use Rattle.qsg_objects.specs.declared.directives.Directive.{Directive}
use Rattle.qsg_requests.specs.declared.replies.Cause.{Cause}
use Rattle.qsg_requests.specs.declared.replies.Turn.{Turn}
use Rattle.qsg_requests.specs.declared.replies.Turn.TheVariants as turn
use Rattle.qsg_agenda.specs.Courses.{next_of}
use Rattle.qsg_commit.specs.declared.phases.StepError.{StepError}
use Rattle.qsg_commit.specs.declared.phases.StepError.TheVariants.{NoMemory, LogFailed}
use Rattle.qsg_parts.specs.Owned.{Owned}
use Rattle.qsg_works.specs.declared.work.Work.{Work as Request_in_progress}
use Rattle.qsg_step.specs.declared.asked.Asked.{Asked}
use Rattle.qsg_step.specs.declared.asked.Asked.TheVariants.{Work, Until, Crash, Start, Later}
use Rattle.qsg_step.specs.declared.step.Step.{Step}
use Rattle.qsg_step.specs.declared.step.Step.TheVariants.{Moved, Waits, Done}
use Rattle.qsg_step.specs.Asking.{asked}
use Rattle.qsg_step.specs.States.{State, is_due}
use Rattle.qsg_step.specs.Steps.{IsStep, StepAs, SystemSteps, StepAt, StepUnless, StepAsked, RequestSteps, WorkSteps, IsAfter, work_before}
use Rattle.qsg_step.specs.Waiting.{cause_of, has_work, system_of}
use Rattle.qsg_drive.specs.Runs.{IsStill}
use Rattle.qsg_drive.specs.Tries.{moves}

-- a step that is said not to move isn't one that moved
pub no_move : (step : Step) → moves step ≡ false → step ≢ Moved
no_move Moved e m = absurd cc
no_move (Waits cause) e m = absurd cc
no_move Done e m = absurd cc

after : (m : Member) (t : TaskNo) (d : Directive) (result : Result Turn StepError) (work : Request_in_progress) (q : Owned) (s : State) (step : Step) (r : State)
    → step ≢ Moved → IsAfter m t d result work q s step r → r ≡ s
after m t d (Ok turn.More) work q s step r still h = absurd (still h.0)
after m t d (Ok (turn.Ended reply)) work q s step r still h = absurd (still h.0)
after m t d (Ok (turn.Waits cause)) work q s step r still h = h.1
after m t d (Err LogFailed) work q s step r still h = absurd (still h.0)
after m t d (Err NoMemory) work q s step r still h = absurd h

worked : (m : Member) (t : TaskNo) (d : Directive) (before : Option Request_in_progress) (s : State) (step : Step) (r : State)
    → step ≢ Moved → WorkSteps m t d before s step r → r ≡ s
worked m t d None s step r still h = absurd h
worked m t d (Some before) s step r still h = after m t d h.result h.work h.parts s step r still h.after

requested : (due : Bool) (m : Member) (t : TaskNo) (d : Directive) (s : State) (step : Step) (r : State) → step ≢ Moved → RequestSteps due m t d s step r → r ≡ s
requested true m t d s step r still h = absurd (still h.0)
requested false m t d s step r still h = worked m t d (work_before m t d s) s step r still h

asks : (who : Actor) (d : Directive) (a : Asked) (s : State) (step : Step) (r : State) → step ≢ Moved → StepAsked who d a s step r → r ≡ s
asks who d (Work m t) s step r still h = requested (is_due m t s.due) m t d s step r still h
asks who d (Until other answers) s step r still h = absurd (still h.0)
asks who d (Crash m pick) s step r still h = absurd (still h.0)
asks who d (Start m) s step r still h = absurd (still h.0)
asks who d Later s step r still h = absurd (still h.0)

unless : (who : Actor) (d : Directive) (cause : Option Cause) (s : State) (step : Step) (r : State) → step ≢ Moved → StepUnless who d cause s step r → r ≡ s
unless who d (Some cause) s step r still h = h.1
unless who d None s step r still h = asks who d (asked who d) s step r still h

at_next : (who : Actor) (next : Option Directive) (s : State) (step : Step) (r : State) → step ≢ Moved → StepAt who next s step r → r ≡ s
at_next who None s step r still h = h.1
at_next who (Some d) s step r still h = unless who d (cause_of who (asked who d) s) s step r still h

system : (has : Bool) (m : Member) (s : State) (step : Step) (r : State) → step ≢ Moved → SystemSteps has m s step r → r ≡ s
system true m s step r still h = absurd (still h.0)
system false m s step r still h = h.1

stays_as : (of : Option Member) (who : Actor) (s : State) (step : Step) (r : State) → step ≢ Moved → StepAs of who s step r → r ≡ s
stays_as (Some m) who s step r still made = system (has_work m s) m s step r still made
stays_as None who s step r still made = at_next who (next_of who s.courses) s step r still made

pub stays : (who : Actor) (s : State) (step : Step) (r : State) → step ≢ Moved → IsStep who s step r → r ≡ s
stays who s step r still made = stays_as (system_of who) who s step r still made

-- the actor of a step that doesn't move is still
pub is_still : (who : Actor) (s : State) (step : Step) (r : State) → moves step ≡ false → IsStep who s step r → IsStill who s
is_still who s step r quiet made =
    let still = no_move step quiet in
    record { step = step; waits = still; made = subst (λ (x : State). IsStep who s step x) (stays who s step r still made) made }

pub has_moved : (who : Actor) (s : State) (step : Step) (r : State) → moves step ≡ true → IsStep who s step r → IsStep who s Moved r
has_moved who s Moved r quick made = made
has_moved who s (Waits cause) r quick made = absurd cc
has_moved who s Done r quick made = absurd cc
