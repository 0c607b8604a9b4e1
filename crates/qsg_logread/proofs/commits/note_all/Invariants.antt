use Rattle.std.proofs.Common.{◌≡◌, ◌≤◌, ◌+◌, length, drop}
use Rattle.indexmap.specs.IndexMap.{spare}
use Rattle.qsg_logread.specs.Fed.{with_records}
use Rattle.qsg_logread.specs.Table.{commits_in}
use Rattle.qsg_logread.proofs.commits.note_all.Given as goal

-- what is noted so far, and the room that is left
abbrev pub invariant-loop-entry : goal.invariant-loop-entry
invariant-loop-entry l = record {
  goes : with_records (commits_in l.units.entries) (drop l.entry-index l.records) ≡ with_records (commits_in l.initial.units.entries) l.records;
  room : length l.records ≤ l.entry-index + spare l.units;
}
