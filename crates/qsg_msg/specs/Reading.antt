-- What readers of fields give: a value and the bytes after it, or how many bytes are left where the
-- grammar is left.
use Rattle.std.specs.Prelude.{◌≡◌, ℕ, zero, suc, true, false, ◌+◌, ◌-◌, ◌*◌, Bool, List, [], ◌∷◌, length, take, drop, Option, Some, None, Result, Ok, Err, nat_lt, nat_le, ◌&&◌, if◌then◌else◌}
use Rattle.std.specs.List.{prefix_len}
use Rattle.std.specs.Int.{Width, w64, byte_len, from_be_bytes}
use Rattle.qsg_num.specs.Seats.{structure_at, priority_at}
use Rattle.qsg_num.specs.Names.{is_queue_byte}
use Rattle.qsg_msg.specs.declared.message.Message.{Message}
use Rattle.qsg_msg.specs.declared.fault.Stop.{Stop}
use Rattle.qsg_msg.specs.declared.fault.Stop.TheVariants as stops

infixl 10 ◌>>=◌
abbrev pub ◌>>=◌ : {A B : Type 0} → Result A ℕ → (A → Result B ℕ) → Result B ℕ
(Ok x) >>= f = f x
(Err e) >>= f = Err e

-- what a function returned, seen by view, is what reading gives, unless memory ran out
abbrev pub Fails : {Y : Type 0} → Stop → Result Y ℕ → Type 0
Fails stops.NoMemory read = Unit {0}
Fails (stops.Bad left) read = read ≡ Err left

abbrev pub Gives : {X Y : Type 0} → (X → Y) → Result X Stop → Result Y ℕ → Type 0
Gives view (Ok x) read = read ≡ Ok (view x)
Gives view (Err e) read = Fails e read

-- a byte that stands for a value
abbrev pub choice_at : {A : Type 0} → (ℕ → Option A) → List ℕ → Result (A × List ℕ) ℕ
choice_at of [] = Err 0
choice_at of (byte ∷ rest) = elim (of byte) [ None ↦ Err (length (byte ∷ rest)) | Some a ↦ Ok (a, rest) ]

-- a byte that passes a test
abbrev pub tested : (ℕ → Bool) → ℕ → Option ℕ
tested test byte = if test byte then Some byte else None

-- so many bytes
abbrev pub bytes_at : ℕ → List ℕ → Result (List ℕ × List ℕ) ℕ
bytes_at n bytes = if nat_lt (length bytes) n then Err 0 else Ok (take n bytes, drop n bytes)

-- so many bytes that pass a test
abbrev pub passing_at : (ℕ → Bool) → ℕ → List ℕ → Result (List ℕ × List ℕ) ℕ
passing_at test n bytes =
    if nat_lt (prefix_len test (take n bytes)) n then Err (length bytes - prefix_len test (take n bytes)) else Ok (take n bytes, drop n bytes)

-- a number of all the bytes of its width
abbrev pub number_at : Width → List ℕ → Result (ℕ × List ℕ) ℕ
number_at w bytes = if nat_lt (length bytes) (byte_len w) then Err 0 else Ok (from_be_bytes w (take (byte_len w) bytes), drop (byte_len w) bytes)

-- whether a digit leaves a number within a limit, after the digits before it, where a digit of its place counts unit
abbrev pub is_digit : ℕ → ℕ → ℕ → ℕ → Bool
is_digit limit unit before byte = nat_le ((before * 256 + byte) * unit) limit

-- one digit more of such a number
unfoldable pub digit_at : ℕ → ℕ → ℕ → List ℕ → Result (ℕ × List ℕ) ℕ
digit_at limit unit before bytes = do
  byte ← choice_at (tested (is_digit limit unit before)) bytes
  Ok (before * 256 + byte.0, byte.1)

-- a number of four bytes that is within a limit
unfoldable pub length_at : ℕ → List ℕ → Result (ℕ × List ℕ) ℕ
length_at limit bytes = do
  first ← digit_at limit 16777216 0 bytes
  second ← digit_at limit 65536 first.0 first.1
  third ← digit_at limit 256 second.0 second.1
  digit_at limit 1 third.0 third.1

unfoldable pub body_at : List ℕ → Result (List ℕ × List ℕ) ℕ
body_at bytes = do
  n ← length_at 4194304 bytes
  bytes_at n.0 n.1

abbrev pub is_name_length : ℕ → Bool
is_name_length n = nat_le 1 n && nat_le n 48

unfoldable pub queue_at : List ℕ → Result (List ℕ × List ℕ) ℕ
queue_at bytes = do
  n ← choice_at (tested is_name_length) bytes
  passing_at is_queue_byte n.0 n.1

abbrev pub bit_at : ℕ → Option Bool
bit_at zero = Some false
bit_at (suc zero) = Some true
bit_at (suc (suc n)) = None

unfoldable pub message_at : List ℕ → Result (Message × List ℕ) ℕ
message_at bytes = do
  id ← number_at w64 bytes
  structure ← choice_at structure_at id.1
  queue ← queue_at structure.1
  priority ← choice_at priority_at queue.1
  persistent ← choice_at bit_at priority.1
  msg_id ← bytes_at 24 persistent.1
  correl_id ← bytes_at 24 msg_id.1
  body ← body_at correl_id.1
  Ok (record { id = record { number = id.0 }; structure = structure.0; queue = queue.0; priority = priority.0; persistent = persistent.0; msg_id = msg_id.0; correl_id = correl_id.0; body = body.0 }, body.1)
