-- what a power cut makes of a byte in doubt
use Rattle.std.specs.Prelude.{◌+◌, ◌-◌, ◌*◌, ◌/◌, ◌%◌, ◌^◌, ℕ, if◌then◌else◌, ◌==◌, nat_lt}

-- the number that a large pick makes of an offset
abbrev pub spread : ℕ → ℕ → ℕ
spread pick at = ((pick + at * 2654435761) * 6364136223846793005 + 1442695040888963407) % 2 ^ 64

-- the value of a byte in doubt: its old one, its new one, one number for all, or by the offset
abbrev pub chosen : ℕ → ℕ → ℕ → ℕ → ℕ
chosen pick at old new =
    if pick == 0 then old else if pick == 1 then new else if nat_lt pick 258 then pick - 2
    else if (spread pick at / 2 ^ 56) % 3 == 0 then old
    else if (spread pick at / 2 ^ 56) % 3 == 1 then new
    else (spread pick at / 2 ^ 48) % 256
