use Rattle.std.proofs.Common.{◌≡◌, ℕ, List, Option, Some, None, ap, subst, sym, refl, ◌∙◌}
use Rattle.qsg_num.specs.declared.ids.Actor.{Actor}
use Rattle.qsg_devices.specs.Places.{device_bytes}
use Rattle.qsg_schedule.specs.Course.{Course}
use Rattle.qsg_sysplex.specs.Actors.{actors_of}
use Rattle.qsg_drive.specs.Runs.{IsRun, IsNewCourse}
use Rattle.qsg_run.specs.Replays.{IsReported, course_for}
use Rattle.qsg_run.proofs.Back.{told_at}
use Rattle.qsg_run.proofs.replays.replay_plan.Goals as goal

new_course : (seed : Option ℕ) (turns : List (Actor × ℕ)) (actors : List Actor) → IsNewCourse actors (course_for seed turns actors)
new_course (Some n) turns actors = refl
new_course None turns actors = (refl, refl)

pub run_out-due-requires-clause-new : goal.run_out-due-requires-clause-new
run_out-due-requires-clause-new g c =
    let plan = c.args.plan in
    let chosen : c.as_slice.result.now ≡ actors_of plan = c.as_slice.ensures ∙ c.in_ok-actors.ensures in
    let stepped : c.as_slice-2.result.now ≡ actors_of plan = c.as_slice-2.ensures ∙ c.in_ok-actors.ensures in
    let picks : c.in_ok-chooser.chooser ≡ course_for c.args.seed plan.schedule (actors_of plan) = c.in_ok-chooser.ensures ∙ ap (course_for c.args.seed plan.schedule) chosen in
    subst (λ (actors : List Actor). IsNewCourse actors c.in_ok-chooser.chooser) (sym stepped)
    (subst (λ (course : Course). IsNewCourse (actors_of plan) course) (sym picks) (new_course c.args.seed plan.schedule (actors_of plan)))

pub returns-clause-due : goal.returns-clause-due
returns-clause-due g c =
    let plan = c.args.plan in
    let after = c.run_out-due.new.group.sysplex in
    let path = c.in_ok-due.ensures.ran.0 in
    let chosen : c.as_slice.result.now ≡ actors_of plan = c.as_slice.ensures ∙ c.in_ok-actors.ensures in
    let stepped : c.as_slice-2.result.now ≡ actors_of plan = c.as_slice-2.ensures ∙ c.in_ok-actors.ensures in
    let picks : c.in_ok-chooser.chooser ≡ course_for c.args.seed plan.schedule (actors_of plan) = c.in_ok-chooser.ensures ∙ ap (course_for c.args.seed plan.schedule) chosen in
    record {
      before = c.in-Ok.sysplex;
      path = path;
      after = after;
      made = c.in-Ok.ensures.made;
      run = subst (λ (actors : List Actor). IsRun actors (course_for c.args.seed plan.schedule (actors_of plan)) c.in-Ok.sysplex path after) stepped
          (subst (λ (course : Course). IsRun c.as_slice-2.result.now course c.in-Ok.sysplex path after) picks c.in_ok-due.ensures.ran.1);
      devices = λ tells m k. told_at g.R.D.Disk.bytes (device_bytes after.parts.logs after.parts.datasets m k) _ (g.R.Rig.given c.close.new.rig m k) (c.close.ensures.given (c.in-Ok.ensures.told ∙ tells) m k);
      reported = subst (λ (actors : List Actor). IsReported actors after c.in_ok-due.field-0.status c.in_ok-due.field-0.text) stepped c.in_ok-due.ensures.report;
    }
