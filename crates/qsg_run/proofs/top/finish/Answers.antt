use Rattle.qsg_run.proofs.Due.{report_due}
use Rattle.qsg_run.proofs.top.finish.Goals as goal

pub returns-in-Ok : goal.returns-in-Ok
returns-in-Ok g c = record {
  status = c.in-Ok.due.status;
  text = c.in-Ok.due.text;
  due = report_due _ c.in-Ok.due.status c.in-Ok.due.text c.in-Ok.ensures.due;
  sent = rw (← c.as_slice.ensures) c.send.ensures;
}
