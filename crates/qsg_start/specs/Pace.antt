-- how many steps are left to a START at most
use Rattle.std.specs.Prelude.{ℕ, ◌+◌}
use Rattle.qsg_start.specs.declared.phases.Phase.{Phase}
use Rattle.qsg_start.specs.declared.phases.Phase.TheVariants.{Check, Low, Read, Begin}
use Rattle.qsg_walk.specs.Walks.{Walk}
use Rattle.qsg_start.specs.Works.{Work}

-- more steps than any START takes: a log has fewer than 2^20 pages
abbrev pub longest_start : ℕ
longest_start = 1048578

abbrev pub left_at : Phase → Walk → ℕ
left_at Check walk = longest_start
left_at Low walk = 1048577
left_at Read walk = walk.left + 1
left_at (Begin page) walk = 1

-- before its first reads a START counts as one of the longest log
abbrev pub left_of_start : Work → ℕ
left_of_start w = left_at w.phase w.walk
