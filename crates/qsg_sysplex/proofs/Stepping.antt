-- a step keeps what the group keeps, whether it was made or not
use Rattle.std.proofs.Common.{Option, Some, None, Result, Ok, Err}
use Rattle.std.specs.Prelude.{IfOk, OnErr, IfSome}
use Rattle.qsg_num.specs.declared.ids.Actor.{Actor}
use Rattle.qsg_objects.specs.declared.directives.Directive.{Directive}
use Rattle.qsg_objects.specs.declared.directives.Directive.TheVariants as directive
use Rattle.qsg_agenda.specs.Courses.{next_of}
use Rattle.qsg_step.specs.declared.step.Step.{Step}
use Rattle.qsg_step.specs.States.{State}
use Rattle.qsg_step.specs.Steps.{IsStep, IsUnmade}
use Rattle.qsg_sound.specs.Sound.{AreTypesKept, HaveIdsAt, HaveIds}
use Rattle.qsg_working.specs.Kept.{HasIds, AreLogsKept, AreStructuresKept, ArePeersKept, IsStartKept}
use Rattle.qsg_sysplex.specs.Kept.{IsKept}

-- the ids of a put are those of its request
ids_at : (d : Option Directive) → IfSome d HasIds → HaveIdsAt d
ids_at None has = tt
ids_at (Some (directive.Put queue body priority persistent msg_id correl_id)) has = record { msg_id = has.0; correl_id = has.1 }
ids_at (Some (directive.Get queue msg_id correl_id)) has = tt
ids_at (Some directive.Commit) has = tt
ids_at (Some directive.Backout) has = tt
ids_at (Some (directive.Wait other n)) has = tt
ids_at (Some (directive.Backup s)) has = tt
ids_at (Some (directive.Recover s kind)) has = tt
ids_at (Some (directive.ResetSmds k s wanted)) has = tt
ids_at (Some (directive.DisplayCfstatus s)) has = tt
ids_at (Some (directive.DisplayQueue q)) has = tt
ids_at (Some (directive.DisplaySmds s)) has = tt
ids_at (Some (directive.Crash k pick)) has = tt
ids_at (Some (directive.Start k)) has = tt
ids_at (Some (directive.Stop k)) has = tt
ids_at (Some (directive.Lose s)) has = tt

pub have_ids : (who : Actor) (s : State) → IfSome (next_of who s.courses) HasIds → HaveIds who s
have_ids who s has = ids_at (next_of who s.courses) has

pub types_kept : (r : State) → AreLogsKept r.parts.logs → AreStructuresKept r.parts.structures → ArePeersKept r.peers → IsStartKept r.starting → AreTypesKept r
types_kept r logs structures peers starting = record { logs = logs; structures = structures; peers = peers.works; starting = starting }

pub stays_kept : {E : Type 0} (s r : State) (who : Actor) (result : Result Step E)
    → ((step : Step) → IsStep who s step r → IsKept r) → (IsUnmade s r → IsKept r) → IfOk result (λ step. IsStep who s step r) → OnErr result (IsUnmade s r) → IsKept r
stays_kept s r who (Ok step) made not_made is unmade = made step is
stays_kept s r who (Err e) made not_made is unmade = not_made unmade
