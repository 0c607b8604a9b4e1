-- why no blocks are taken
use Rattle.std.specs.Prelude.{ℕ, ◌≡◌, ◌<◌, ◌≤◌}
use Rattle.qsg_space.specs.declared.spaces.TakeError.{TakeError}
use Rattle.qsg_space.specs.declared.spaces.TakeError.TheVariants.{NoRoom, NoMemory}

-- fewer are free than are needed; or enough are, but there is no memory
abbrev pub IsWhyNone : TakeError → ℕ → ℕ → Type 0
IsWhyNone (NoRoom room) need free = (room ≡ record { need = need; free = free }) × (free < need)
IsWhyNone NoMemory need free = need ≤ free
