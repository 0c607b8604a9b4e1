-- bytes in hexadecimal digits
use Rattle.std.specs.Prelude.{ℕ, ◌+◌, ◌-◌, ◌*◌, ◌==◌, if◌then◌else◌, List, [], ◌∷◌, length, Option, Some, None}
use Rattle.qsg_num.specs.Names.{is_between}

-- the value of a digit: A to F, a to f or 0 to 9
abbrev pub digit_of : ℕ → Option ℕ
digit_of b = if is_between 65 70 b then Some (b - 55)
    else if is_between 97 102 b then Some (b - 87)
    else if is_between 48 57 b then Some (b - 48)
    else None

-- the byte of two digits, before other bytes
abbrev pub byte_before : Option ℕ → Option ℕ → Option (List ℕ) → Option (List ℕ)
byte_before (Some high) (Some low) (Some bytes) = Some ((high * 16 + low) ∷ bytes)
byte_before _ _ _ = None

-- the bytes that pairs of digits write
abbrev pub bytes_of : List ℕ → Option (List ℕ)
bytes_of [] = Some []
bytes_of (b ∷ []) = None
bytes_of (b ∷ c ∷ rest) = byte_before (digit_of b) (digit_of c) (bytes_of rest)

-- the 24 bytes that 48 digits write
abbrev pub id_of : List ℕ → Option (List ℕ)
id_of text = if length text == 48 then bytes_of text else None
