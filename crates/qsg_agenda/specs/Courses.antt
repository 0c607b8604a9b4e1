-- what actors are to do, and what they answered
use Rattle.std.specs.Prelude.{◌==◌, ◌&&◌, Bool, true, false, if◌then◌else◌, List, [], ◌∷◌, ◌++◌, length, find, slice_get, Option, Some, None, ◌≡◌}
use Rattle.std.specs.Option.{option_and_then}
use Rattle.qsg_num.specs.declared.ids.Actor.{Actor}
use Rattle.qsg_num.specs.declared.ids.Actor.TheVariants as actor
use Rattle.qsg_num.specs.Seats.{member_number, task_number}
use Rattle.qsg_objects.specs.declared.directives.Directive.{Directive}
use Rattle.qsg_objects.specs.declared.directives.Directive.TheVariants as directive
use Rattle.qsg_requests.specs.declared.transcript.Answer.{Answer}
use Rattle.qsg_requests.specs.declared.transcript.Verb.{Verb}
use Rattle.qsg_requests.specs.declared.transcript.Verb.TheVariants as verb

abbrev pub same_actor : Actor → Actor → Bool
same_actor (actor.Task m t) (actor.Task n u) = (member_number m == member_number n) && (task_number t == task_number u)
same_actor (actor.Task m t) actor.Operator = false
same_actor actor.Operator (actor.Task n u) = false
same_actor actor.Operator actor.Operator = true

-- the first word of a directive
abbrev pub verb_of : Directive → Verb
verb_of (directive.Put queue body priority persistent msg_id correl_id) = verb.Put
verb_of (directive.Get queue msg_id correl_id) = verb.Get
verb_of directive.Commit = verb.Commit
verb_of directive.Backout = verb.Backout
verb_of (directive.Wait a n) = verb.Wait
verb_of (directive.Backup s) = verb.Backup
verb_of (directive.Recover s kind) = verb.Recover
verb_of (directive.ResetSmds m s wanted) = verb.Reset
verb_of (directive.DisplayCfstatus s) = verb.Display
verb_of (directive.DisplayQueue q) = verb.Display
verb_of (directive.DisplaySmds s) = verb.Display
verb_of (directive.Crash m pick) = verb.Crash
verb_of (directive.Start m) = verb.Start
verb_of (directive.Stop m) = verb.Stop
verb_of (directive.Lose s) = verb.Lose

-- an actor, its directives, and its answers so far
pub record Course : Type 0 where
  pub actor : Actor
  pub directives : List Directive
  pub answers : List Answer

-- an actor that has answered nothing yet
abbrev pub begun : Actor × List Directive → Course
begun (who, directives) = record { actor = who; directives = directives; answers = [] }

-- the course of an actor, if it has one
abbrev pub course_of : Actor → List Course → Option Course
course_of who courses = find (λ c. same_actor c.actor who) courses

abbrev pub answers_in : Option Course → List Answer
answers_in None = []
answers_in (Some c) = c.answers

-- the answers of an actor; one without a course has none
abbrev pub answers_of : Actor → List Course → List Answer
answers_of who courses = answers_in (course_of who courses)

-- the first directive that isn't answered
abbrev pub next_in : Course → Option Directive
next_in c = slice_get c.directives (length c.answers)

abbrev pub next_of : Actor → List Course → Option Directive
next_of who courses = option_and_then next_in (course_of who courses)

-- every directive is answered
abbrev pub is_through : Course → Bool
is_through c = length c.answers == length c.directives

abbrev pub with_answer : Answer → Course → Course
with_answer answer c = record c { answers = c.answers ++ answer ∷ [] }

-- the courses after an answer of that actor
abbrev pub answered : Actor → Answer → List Course → List Course
answered who answer [] = []
answered who answer (c ∷ courses) = if same_actor c.actor who then with_answer answer c ∷ courses else c ∷ answered who answer courses

-- each answer is of the directive at its place
abbrev pub AreAnswered : List Directive → List Answer → Type 0
AreAnswered directives [] = Unit {0}
AreAnswered [] (answer ∷ answers) = ⊥
AreAnswered (directive ∷ directives) (answer ∷ answers) = (answer.verb ≡ verb_of directive) × AreAnswered directives answers

abbrev pub IsAnswered : Course → Type 0
IsAnswered c = AreAnswered c.directives c.answers
