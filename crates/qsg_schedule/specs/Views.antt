-- what a chooser's fields still give
use Rattle.std.specs.Prelude.{◌<◌, ◌≤◌, List, length, drop}
use Rattle.qsg_num.specs.declared.ids.Actor.{Actor}
use Rattle.qsg_schedule.specs.declared.turns.Schedule.{Schedule}
use Rattle.qsg_schedule.specs.declared.chooser.Source.{Source}
use Rattle.qsg_schedule.specs.declared.chooser.Source.TheVariants as s
use Rattle.qsg_schedule.specs.Course.{Course, listed, seeded}

abbrev pub schedule_course : List Actor → Schedule → Course
schedule_course actors s = listed (drop s.line s.turns.items) actors s.round

abbrev pub course_of : List Actor → Source → Course
course_of actors (s.Schedule schedule) = schedule_course actors schedule
course_of actors (s.Seed n) = seeded n actors

pub record IsScheduleInRange (actors : List Actor) (s : Schedule) : Type 0 where
  pub some : 0 < length actors
  pub line : s.line ≤ length s.turns.items
  pub round : s.round < length actors

abbrev pub IsInRange : List Actor → Source → Type 0
IsInRange actors (s.Schedule schedule) = IsScheduleInRange actors schedule
IsInRange actors (s.Seed n) = 0 < length actors
