use Rattle.std.proofs.Common.{◌≡◌, take}
use Rattle.qsg_report.specs.Words.{member_names}
use Rattle.qsg_report.proofs.words.member_names.Given as goal

abbrev pub invariant-loop-member : goal.invariant-loop-member
invariant-loop-member l = l.names.items ≡ member_names (take l.member-index l.members)
