-- which calls fail
use Rattle.std.specs.Prelude.{ℕ, ◌+◌, ◌-◌, ◌^◌, List, Bool, nat_lt, ◌&&◌, ◌==◌}
use Rattle.std.specs.List.{list_any}

-- the call after so many is listed; the count stands still at its type's end, and then no call fails
abbrev pub is_listed : List ℕ → ℕ → Bool
is_listed failing calls = nat_lt calls (2 ^ 32 - 1) && list_any (λ number. number == calls + 1) failing
