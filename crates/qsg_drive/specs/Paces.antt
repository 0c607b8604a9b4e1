-- how many steps that move may still come
use Rattle.std.specs.Prelude.{ℕ, ◌≡◌, ◌<◌}
use Rattle.qsg_step.specs.declared.step.Step.{Step}
use Rattle.qsg_step.specs.declared.step.Step.TheVariants.{Moved, Waits, Done}

-- a step that moves lowers the number, and no other changes it
abbrev pub IsPaced : Step → ℕ → ℕ → Type 0
IsPaced Moved before now = now < before
IsPaced (Waits cause) before now = now ≡ before
IsPaced Done before now = now ≡ before
