-- the lines of bytes, and what kinds of lines there are
use Rattle.std.specs.Prelude.{◌≡◌, ℕ, ◌-◌, ◌<◌, ◌≤◌, Bool, true, false, nat_lt, ◌==◌, ◌&&◌, ◌||◌, if◌then◌else◌, List, [], ◌∷◌, length, slice_index, Option, Some, None}
use Rattle.std.specs.List.{list_all}
use Rattle.qsg_lines.specs.declared.kinds.Sign.{Sign}
use Rattle.qsg_lines.specs.declared.kinds.Sign.TheVariants.{Plus, Minus}

abbrev pub begins_with : ℕ → List ℕ → Bool
begins_with c [] = false
begins_with c (b ∷ bs) = b == c

-- a byte before the first of these lines; where there is none, it is one
abbrev pub onto : ℕ → List (List ℕ) → List (List ℕ)
onto b [] = (b ∷ []) ∷ []
onto b (l ∷ ls) = (b ∷ l) ∷ ls

-- The lines of bytes. Each ends with a line feed, but the last need not. A carriage return before a line feed is dropped.
abbrev pub lines_of : List ℕ → List (List ℕ)
lines_of [] = []
lines_of (b ∷ bs) = if b == 10 then [] ∷ lines_of bs else (if (b == 13) && begins_with 10 bs then lines_of bs else onto b (lines_of bs))

-- a space or a tab
abbrev pub is_blank : ℕ → Bool
is_blank b = (b == 32) || (b == 9)

-- a comment: a line that begins with an asterisk, or has blanks alone
abbrev pub is_comment : List ℕ → Bool
is_comment line = begins_with 42 line || list_all is_blank line

-- more than 4,096 bytes
abbrev pub is_long : List ℕ → Bool
is_long line = nat_lt 4096 (length line)

-- the sign that a byte is
abbrev pub sign_at : ℕ → Option Sign
sign_at b = if b == 43 then Some Plus else (if b == 45 then Some Minus else None)

-- the sign that is a line's last byte but for blanks
abbrev pub sign_of : List ℕ → Option Sign
sign_of [] = None
sign_of (b ∷ bs) = if list_all is_blank bs then sign_at b else sign_of bs

-- what stands before a line's last byte that isn't a blank
abbrev pub before_last_byte : List ℕ → List ℕ
before_last_byte [] = []
before_last_byte (b ∷ bs) = if list_all is_blank bs then [] else b ∷ before_last_byte bs

abbrev pub before_sign : Option Sign → List ℕ → List ℕ
before_sign None line = line
before_sign (Some sign) line = before_last_byte line

-- a line before that sign, where it has one
abbrev pub front_of : List ℕ → List ℕ
front_of line = before_sign (sign_of line) line

-- a line from its first byte on that isn't a blank
abbrev pub without_indent : List ℕ → List ℕ
without_indent [] = []
without_indent (b ∷ bs) = if is_blank b then without_indent bs else b ∷ bs

-- what a statement that goes on by this sign takes of a text
abbrev pub part_of : Sign → List ℕ → List ℕ
part_of Plus text = without_indent text
part_of Minus text = text

-- bytes without the carriage return that is their last
abbrev pub without_return : List ℕ → List ℕ
without_return [] = []
without_return (b ∷ []) = if b == 13 then [] else b ∷ []
without_return (b ∷ c ∷ bs) = b ∷ without_return (c ∷ bs)

-- A line has no bytes but blanks from this place on, and ends with another one there.
pub record EndsAt (line : List ℕ) (end : ℕ) : Type 0 where
  pub within : end ≤ length line
  pub blank : (k : ℕ) → end ≤ k → k < length line → is_blank (slice_index line k) ≡ true
  pub last : 0 < end → is_blank (slice_index line (end - 1)) ≡ false
