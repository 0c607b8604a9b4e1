use Rattle.std.proofs.Common.{List, ℕ, subst}
use Rattle.qsg_script.specs.Script.{IsPlan, IsFirstFault}
use Rattle.qsg_run.proofs.top.plan_of.Goals as goal

pub returns-in-Ok-read-clause-plan : goal.returns-in-Ok-read-clause-plan
returns-in-Ok-read-clause-plan g c = record {
  bytes = c.in-Ok.bytes.items;
  read = c.in-Ok.ensures.all;
  script = subst (λ (b : List ℕ). IsPlan b c.in-Ok-read.plan) c.as_slice.ensures.value c.in-Ok-read.ensures.plan;
}

pub returns-clause-stop : goal.returns-clause-stop
returns-clause-stop g c =
    let bad = rw c.in-Err-Fault-read.field-0-is at c.in-Err-Fault-read.ensures.fault in record {
      bytes = c.in-Ok.bytes.items;
      read = c.in-Ok.ensures.all;
      bad = subst (λ (b : List ℕ). IsFirstFault b c.in-Err-Fault-read.fault) c.as_slice.ensures.value bad;
    }
