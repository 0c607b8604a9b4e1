use Rattle.std.proofs.Common.{◌≡◌, take}
use Rattle.std.specs.Prelude.{count_by}
use Rattle.qsg_sound.specs.Sound.{is_start}
use Rattle.qsg_sysplex.proofs.starting.starts_among.Given as goal

abbrev pub invariant-loop-directive : goal.invariant-loop-directive
invariant-loop-directive l = l.starts ≡ count_by is_start (take l.directive-index l.directives)
