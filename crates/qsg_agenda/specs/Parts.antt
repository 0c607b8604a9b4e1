-- how an agenda is kept
use Rattle.std.specs.Prelude.{◌+◌, ◌≤◌, length}
use Rattle.qsg_agenda.specs.declared.courses.Part.{Part}
use Rattle.qsg_agenda.specs.Courses.{Course, AreAnswered}

abbrev pub course_in : Part → Course
course_in part = record { actor = part.actor; directives = part.directives; answers = part.transcript.answers }

-- the answers are of its first directives, and there is room for those to come
pub record IsKept (part : Part) : Type 0 where
  pub answered : AreAnswered part.directives part.transcript.answers
  pub room : length part.directives ≤ length part.transcript.answers + part.transcript.room
