use Rattle.std.proofs.Common.{◌≡◌, take, length}
use Rattle.qsg_sysplex.specs.Starting.{all_members, all_started}
use Rattle.qsg_sysplex.proofs.starting.start_all.Given as goal

abbrev pub invariant-loop-index : goal.invariant-loop-index
invariant-loop-index l = record {
  started : l.repo ≡ all_started (take l.index all_members) l.fn.repo;
  lives : length l.repo.lives ≡ l.index;
  starts : l.repo.starts ≡ l.fn.repo.starts;
}
