-- runs of a group: who steps, by the picks of a chooser
use Rattle.std.specs.Prelude.{ℕ, ◌≡◌, ◌≢◌, List, [], ◌∷◌, ◌++◌, take, drop}
use Rattle.std.specs.List.{AllByRecursion, position_or_len}
use Rattle.qsg_num.specs.declared.ids.Actor.{Actor}
use Rattle.qsg_agenda.specs.Courses.{same_actor}
use Rattle.qsg_schedule.specs.declared.chooser.Pick.{Pick}
use Rattle.qsg_schedule.specs.declared.chooser.Pick.TheVariants.{Exactly, Round, From}
use Rattle.qsg_schedule.specs.Course.{Course, listed, seeded, due, pick, rest}
use Rattle.qsg_step.specs.declared.step.Step.{Step}
use Rattle.qsg_step.specs.declared.step.Step.TheVariants.{Moved}
use Rattle.qsg_step.specs.States.{State}
use Rattle.qsg_step.specs.Steps.{IsStep}

-- a step that was made: by whom, how it ended, and the state that it left
pub record Made : Type 0 where
  pub actor : Actor
  pub step : Step
  pub state : State

-- the next step of an actor doesn't move: it waits, or has no directive left
pub record IsStill (who : Actor) (s : State) : Type 0 where
  pub step : Step
  pub waits : step ≢ Moved
  pub made : IsStep who s step s

abbrev pub AreStill : List Actor → State → Type 0
AreStill actors s = AllByRecursion (λ who. IsStill who s) actors

-- the actor is one of these, and the step of none before it moves
pub record IsFirstOf (actors : List Actor) (s : State) (who : Actor) : Type 0 where
  pub front : List Actor
  pub back : List Actor
  pub parts : actors ≡ front ++ who ∷ back
  pub still : AreStill front s

-- the place of an actor among others, or their number where it isn't one of them
abbrev pub place_of : Actor → List Actor → ℕ
place_of who actors = position_or_len (λ other. same_actor other who) actors

-- actors from that one on, round to the front
abbrev pub round_from : Actor → List Actor → List Actor
round_from who actors = drop (place_of who actors) actors ++ take (place_of who actors) actors

-- A pick names the actor of a step; or the step is one that moves, of the first actor from the picked one on that has
-- such a step.
abbrev pub IsPicked : Pick → List Actor → State → Made → Type 0
IsPicked (Exactly who) actors s m = m.actor ≡ who
IsPicked (Round who) actors s m = m.actor ≡ who
IsPicked (From who) actors s m = (m.step ≡ Moved) × IsFirstOf (round_from who actors) s m.actor

-- Steps lead from a state to another, each by the next pick of a chooser, of whose course this is left in the end.
abbrev pub Follows : List Actor → Course → State → List Made → Course → State → Type 0
Follows actors course s [] later r = (later ≡ course) × (r ≡ s)
Follows actors course s (m ∷ path) later r = IsPicked (pick course) actors s m × IsStep m.actor s m.step m.state × Follows actors (rest course) m.state path later r

-- no line of a schedule has a turn left
abbrev pub IsThrough : Course → Type 0
IsThrough (listed turns actors round) = due turns ≡ []
IsThrough (seeded n actors) = Unit {0}

-- A whole run: its steps lead from a state to one in which no actor's step moves.
pub record IsRun (actors : List Actor) (course : Course) (s : State) (path : List Made) (r : State) : Type 0 where
  pub later : Course
  pub follows : Follows actors course s path later r
  pub through : IsThrough later
  pub still : AreStill actors r

-- a chooser of these actors that has made no round yet
abbrev pub IsNewCourse : List Actor → Course → Type 0
IsNewCourse actors (listed turns all round) = (all ≡ actors) × (round ≡ 0)
IsNewCourse actors (seeded n all) = all ≡ actors
