-- a step of a START, from the steps that the code makes
use Rattle.std.proofs.Common.{◌≡◌, ℕ, length, Option, Some, None, Ok, refl, ap, ◌∙◌, subst}
use Rattle.qsg_num.specs.declared.seats.Member.{Member}
use Rattle.qsg_objects.specs.declared.directives.Directive.{Directive}
use Rattle.qsg_requests.specs.declared.replies.Reply.{Reply}
use Rattle.qsg_parts.specs.Owned.{Owned}
use Rattle.qsg_start.specs.declared.phases.StartTurn.{StartTurn}
use Rattle.qsg_start.specs.Steps.{NextStart}
use Rattle.qsg_start.specs.Works.{Work as StartWork}
use Rattle.qsg_step.specs.States.{State}
use Rattle.qsg_step.specs.Steps.{start_or, start_reply, started_as, IsStartStep}
use Rattle.qsg_working.specs.Starts.{started_at}

-- the START in progress is this one, and the parts are others
abbrev pub start_from : Owned → Option StartWork → State → State
start_from q starting s = record s { parts = q; starting = starting }

started_same : (reply : Option Reply) (d : Directive) (at : ℕ) (work : StartWork) (q : Owned) (s : State) → at ≡ length s.parts.history.items → started_at reply d at work (start_from q None s) ≡ started_as reply d work q s
started_same None d at work q s so_long = refl
started_same (Some reply) d at work q s so_long = ap (λ (n : ℕ). started_at (Some reply) d n work (start_from q None s)) so_long

pub start_made : (m : Member) (d : Directive) (s r : State) (turn : StartTurn) (reply : Option Reply) (before work : StartWork) (left : Option StartWork) (at : ℕ) (q : Owned) → before ≡ start_or m s.starting → left ≡ None → NextStart before s.parts (Ok turn) work q
    → at ≡ length s.parts.history.items → reply ≡ start_reply m turn → r ≡ started_at reply d at work (start_from q left s) → IsStartStep m d s r
start_made m d s r turn reply before work left at q is out next so_long told after = record {
  turn = turn;
  work = work;
  parts = q;
  next = subst (λ (w : StartWork). NextStart w s.parts (Ok turn) work q) is next;
  after = after ∙ ap (λ (o : Option StartWork). started_at reply d at work (start_from q o s)) out ∙ started_same reply d at work q s so_long ∙ ap (λ (o : Option Reply). started_as o d work q s) told;
}
