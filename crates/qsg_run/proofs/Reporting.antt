-- the report of a state, whose history is this one
use Rattle.std.proofs.Common.{◌≡◌, ℕ, List, ap, ◌∙◌}
use Rattle.qsg_num.specs.declared.ids.Actor.{Actor}
use Rattle.qsg_model.specs.declared.history.Item.{Item}
use Rattle.qsg_report.specs.declared.shown.Shown.{Shown}
use Rattle.qsg_report.specs.Report.{report_text}
use Rattle.qsg_step.specs.States.{State}
use Rattle.qsg_sysplex.specs.Kept.{IsKept}
use Rattle.qsg_step.specs.Waiting.{told_to}
use Rattle.qsg_shown.specs.Showing.{IsShown}
use Rattle.qsg_run.specs.declared.status.Status.{Status}
use Rattle.qsg_run.specs.Replays.{IsEnd, IsReported}
use Rattle.qsg_run.specs.Shows.{waits_of}

pub reported : (actors : List Actor) (s : State) (status : Status) (text : List ℕ) (items : List Item) (shown : Shown) → IsKept s → IsEnd s status → IsShown (waits_of actors s) s shown → items ≡ s.parts.history.items
    → text ≡ report_text actors (λ who. told_to who s) items shown → IsReported actors s status text
reported actors s status text items shown kept ended seen same report = record {
  shown = shown;
  kept = kept;
  ended = ended;
  seen = seen;
  report = report ∙ ap (λ (xs : List Item). report_text actors (λ who. told_to who s) xs shown) same;
}
