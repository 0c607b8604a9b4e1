-- which actors wait, and for what
use Rattle.std.specs.Prelude.{List, Option, option_map}
use Rattle.std.specs.List.{filter_map}
use Rattle.qsg_num.specs.declared.ids.Actor.{Actor}
use Rattle.qsg_requests.specs.declared.replies.Cause.{Cause}
use Rattle.qsg_report.specs.declared.shown.ShownWait.{ShownWait}
use Rattle.qsg_step.specs.States.{State}
use Rattle.qsg_working.specs.Ends.{wait_of}

abbrev pub wait_shown : State → Actor → Option ShownWait
wait_shown s who = option_map (λ (cause : Cause). record { actor = who; cause = cause }) (wait_of who s)

abbrev pub waits_of : List Actor → State → List ShownWait
waits_of actors s = filter_map (wait_shown s) actors
