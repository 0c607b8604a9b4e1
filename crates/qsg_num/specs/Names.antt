-- names of queues
use Rattle.std.specs.Prelude.{ℕ, Bool, nat_le, ◌==◌, ◌&&◌, ◌||◌, List, length}
use Rattle.std.specs.List.{list_all}

abbrev pub is_between : ℕ → ℕ → ℕ → Bool
is_between low high b = nat_le low b && nat_le b high

-- a letter of either case, or a digit
abbrev pub is_alphanumeric : ℕ → Bool
is_alphanumeric b = is_between 48 57 b || is_between 65 90 b || is_between 97 122 b

-- a letter, a digit, or one of . / _ %
abbrev pub is_queue_byte : ℕ → Bool
is_queue_byte b = is_alphanumeric b || (b == 46) || (b == 47) || (b == 95) || (b == 37)

-- 1 to 48 of these
abbrev pub is_queue_name : List ℕ → Bool
is_queue_name name = nat_le 1 (length name) && nat_le (length name) 48 && list_all is_queue_byte name
