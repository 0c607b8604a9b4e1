-- what a CRASH and a START do
use Rattle.std.specs.Prelude.{ℕ, ◌+◌, ◌≡◌, ◌==◌, ◌&&◌, ◌||◌, Bool, true, false}
use Rattle.qsg_num.specs.declared.seats.Member.{Member}
use Rattle.qsg_num.specs.declared.ids.Actor.TheVariants as actor
use Rattle.qsg_num.specs.declared.ids.Incarnation.{Incarnation}
use Rattle.qsg_num.specs.Seats.{member_number}
use Rattle.qsg_objects.specs.declared.directives.Directive.TheVariants as directive
use Rattle.qsg_repo.specs.Calls.{is_unresolved}
use Rattle.qsg_requests.specs.declared.replies.Reason.TheVariants as reason
use Rattle.qsg_requests.specs.declared.replies.Reply.TheVariants as reply
use Rattle.qsg_start.specs.declared.phases.StartTurn.{StartTurn}
use Rattle.qsg_start.specs.declared.phases.StartTurn.TheVariants.{Started}
use Rattle.qsg_step.specs.States.{State, is_member_up}
use Rattle.qsg_step.specs.Ends.{incarnation_of}
use Rattle.qsg_step.specs.Steps.{with_answer}

-- the member is down, each other one is as it was, and one incarnation more failed: that in which the member was
pub record EndsOne (m : Member) (s r : State) : Type 0 where
  pub down : is_member_up m r ≡ false
  pub others : (k : Member) → (member_number k ≡ member_number m → ⊥) → is_member_up k r ≡ is_member_up k s
  pub failed : (k : Member) (i : Incarnation) → is_unresolved k i r.parts.repo ≡ (((member_number k == member_number m) && (i.number == (incarnation_of m s.parts).number)) || is_unresolved k i s.parts.repo)

-- a CRASH of a member that is up ends one incarnation; one that is down stays so, and the operator is told
abbrev pub IsCrashTold : Bool → Member → ℕ → State → State → Type 0
IsCrashTold true m pick s r = EndsOne m s r
IsCrashTold false m pick s r = r ≡ with_answer actor.Operator (directive.Crash m pick) (reply.Refused reason.Down) s

-- the member is up, in the incarnation after its last one, and each other one is as it was
pub record ComesUp (m : Member) (i : Incarnation) (s r : State) : Type 0 where
  pub up : is_member_up m r ≡ true
  pub is : incarnation_of m r.parts ≡ i
  pub next : i.number ≡ 1 + (incarnation_of m s.parts).number
  pub others : (k : Member) → (member_number k ≡ member_number m → ⊥) → is_member_up k r ≡ is_member_up k s

-- A START that answers with an incarnation has brought its member up as that one. All other answers, and steps without
-- one, leave all members as they were.
abbrev pub IsStartTold : Member → StartTurn → State → State → Type 0
IsStartTold m (Started i) s r = ComesUp m i s r
IsStartTold m other s r = (k : Member) → is_member_up k r ≡ is_member_up k s
