-- each step of a page leaves fewer of its run
use Rattle.std.proofs.Common.{◌≡◌, ℕ, ◌+◌, ◌*◌, ◌/◌, ◌<◌, ◌≤◌, Bool, true, false, cond, List, [], ◌∷◌, length, drop, Option, Some, None, refl, ap, arith}
use Rattle.std.specs.Prelude.{IsSome, ◌==◌}
use Rattle.std.proofs.lemmas.Bool.{false≢true}
use Rattle.qsg_logpage.specs.declared.step.Phase.{Phase}
use Rattle.qsg_logpage.specs.declared.step.Phase.TheVariants.{Fresh, GateShut, ShutSafe, BodyWritten, BodySafe, GateWritten}
use Rattle.qsg_logpage.specs.Log.{Hand, LogState, after_page, advanced_by, advanced}
use Rattle.qsg_pace.specs.Pace.{steps_of_page, left_of_page, left_of_run}

-- on any lap the first phase is a later one
fresh_less : (b : Bool) → left_of_page (cond b BodyWritten GateShut) < steps_of_page
fresh_less true = omega arith
fresh_less false = omega arith

after_less : (hand : Hand) (pages : List (List ℕ)) → left_of_run (after_page hand pages) < 1 + steps_of_page * length (drop 1 pages)
after_less hand [] = omega arith
after_less hand (body ∷ []) = omega arith
after_less hand (body ∷ next ∷ pages) = omega arith

phase_less : (log : LogState) (hand : Hand) (phase : Phase) → left_of_run (advanced_by log hand phase).hand < left_of_page phase + steps_of_page * length (drop 1 hand.pages)
phase_less log hand Fresh = omega (arith, fresh_less ((log.next / log.size) == 0))
phase_less log hand GateShut = omega arith
phase_less log hand ShutSafe = omega arith
phase_less log hand BodyWritten = omega arith
phase_less log hand BodySafe = omega arith
phase_less log hand GateWritten = after_less hand hand.pages

-- a page step of a run in hand
pub page_less : (log : LogState) → IsSome log.hand → left_of_run (advanced log).hand < left_of_run log.hand
page_less log some = by log.hand refl some
  where
    by : (hand : Option Hand) → log.hand ≡ hand → IsSome hand → left_of_run (elim hand as (λ x. LogState) [ None ↦ log | Some h ↦ advanced_by log h h.phase ]).hand < left_of_run hand
    by None is some = absurd (false≢true some)
    by (Some hand) is some = phase_less log hand hand.phase

-- the log has as many pages as before
by_size : (log : LogState) (hand : Hand) (phase : Phase) → (advanced_by log hand phase).size ≡ log.size
by_size log hand Fresh = refl
by_size log hand GateShut = refl
by_size log hand ShutSafe = refl
by_size log hand BodyWritten = refl
by_size log hand BodySafe = refl
by_size log hand GateWritten = refl

pub advanced_size : (log : LogState) → (advanced log).size ≡ log.size
advanced_size log = by log.hand
  where
    by : (hand : Option Hand) → (elim hand as (λ x. LogState) [ None ↦ log | Some h ↦ advanced_by log h h.phase ]).size ≡ log.size
    by None = refl
    by (Some hand) = by_size log hand hand.phase

-- a run in hand has a step left
pub run_some : (hand : Option Hand) → IsSome hand → 1 ≤ left_of_run hand
run_some None some = absurd (false≢true some)
run_some (Some hand) some = by hand.phase
  where
    by : (phase : Phase) → 1 ≤ left_of_page phase + steps_of_page * length (drop 1 hand.pages)
    by Fresh = omega arith
    by GateShut = omega arith
    by ShutSafe = omega arith
    by BodyWritten = omega arith
    by BodySafe = omega arith
    by GateWritten = omega arith

-- a run that has just been taken in hand
drop_fewer : (pages : List (List ℕ)) → length (drop 1 pages) ≤ length pages
drop_fewer [] = omega arith
drop_fewer (body ∷ pages) = omega arith

pub run_bound : (hand : Hand) (n : ℕ) → hand.phase ≡ Fresh → length hand.pages ≤ n → left_of_run (Some hand) ≤ steps_of_page + steps_of_page * n
run_bound hand n fresh few = let first = ap left_of_page fresh in omega (arith, first, drop_fewer hand.pages, few)
