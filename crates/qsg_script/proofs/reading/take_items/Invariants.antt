use Rattle.std.proofs.Common.{◌≡◌, length}
use Rattle.qsg_draft.specs.Contents.{Contents}
use Rattle.qsg_script.specs.declared.faults.ScriptFault.{ScriptFault}
use Rattle.qsg_script.specs.Script.{TakesAll, IsFaultAmong}
use Rattle.qsg_script.proofs.reading.take_items.Given as goal

-- What comes of the items that are left comes of all.
abbrev pub invariant-loop-item : goal.invariant-loop-item
invariant-loop-item l = record {
  takes : (after : Contents) → TakesAll l.draft l.statements.items after → TakesAll l.fn.draft l.fn.statements.items after;
  fault : (fault : ScriptFault) → IsFaultAmong l.draft l.statements.items fault → IsFaultAmong l.fn.draft l.fn.statements.items fault;
  end : l.statements.end ≡ l.fn.statements.end;
}

abbrev pub decreases-loop-item : goal.decreases-loop-item
decreases-loop-item l = length l.statements.items
