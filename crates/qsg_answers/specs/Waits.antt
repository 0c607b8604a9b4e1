-- the texts of waits
use Rattle.std.specs.Prelude.{ℕ, List, ◌++◌, codes}
use Rattle.std.specs.Fmt.{decimal}
use Rattle.qsg_num.specs.declared.ids.Actor.{Actor}
use Rattle.qsg_num.specs.declared.ids.Actor.TheVariants.{Task, Operator}
use Rattle.qsg_num.specs.Seats.{task_number}
use Rattle.qsg_requests.specs.declared.replies.Cause.{Cause}
use Rattle.qsg_requests.specs.declared.replies.Cause.TheVariants.{Down, LogBusy, Until, Quiescing, Reading}
use Rattle.qsg_answers.specs.Labels.{Labelling, member_text}

-- a task is its member and its number
abbrev pub actor_text : Labelling → Actor → List ℕ
actor_text labels (Task m t) = member_text labels m ++ codes " " ++ decimal (task_number t)
actor_text labels Operator = codes "OPERATOR"

abbrev pub cause_text : Labelling → Cause → List ℕ
cause_text labels Down = codes "down"
cause_text labels (LogBusy t) = codes "logbusy " ++ decimal (task_number t)
cause_text labels (Until a count) = codes "until " ++ actor_text labels a ++ codes " " ++ decimal count
cause_text labels (Quiescing t) = codes "quiescing " ++ decimal (task_number t)
cause_text labels (Reading m t) = codes "reading " ++ actor_text labels (Task m t)
