use Rattle.std.proofs.Common.{◌≡◌, map}
use Rattle.std.specs.List.{AllByRecursion}
use Rattle.qsg_agenda.specs.Courses.{begun}
use Rattle.qsg_agenda.specs.Parts.{course_in, IsKept}
use Rattle.qsg_agenda.proofs.agenda.begin_all.Given as goal

abbrev pub invariant-loop-actor : goal.invariant-loop-actor
invariant-loop-actor l = (map course_in l.parts.items ≡ map begun l.yielded) × AllByRecursion IsKept l.parts.items
