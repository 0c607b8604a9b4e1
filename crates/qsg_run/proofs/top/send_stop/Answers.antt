use Rattle.std.proofs.Common.{refl}
use Rattle.qsg_run.specs.declared.status.Status.TheVariants.{Script, RigFault}
use Rattle.qsg_run.specs.Texts.{rig_fault_text}
use Rattle.qsg_run.proofs.top.send_stop.Goals as goal

pub returns-in-Rig : goal.returns-in-Rig
returns-in-Rig g c met h =
    let rig = rw c.in-Rig.is at h in
    record { status = RigFault; text = rig_fault_text; due = (rig, refl); sent = c.send-in-Rig.ensures }

pub returns-in-Ok : goal.returns-in-Ok
returns-in-Ok g c met h =
    let bad = rw c.in-Script.is at h in record {
      status = Script;
      text = c.in-Ok.text;
      due = record { asked = bad.0; fault = c.in-Script.fault; bad = bad.1; line = c.in-Ok.ensures };
      sent = rw (← c.as_slice.ensures) c.send-in-Ok.ensures;
    }
