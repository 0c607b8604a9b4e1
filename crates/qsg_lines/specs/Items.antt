-- the statements of a script, and the faults of its lines
use Rattle.std.specs.Prelude.{◌≤◌, IfSome, IfOk, ℕ, zero, suc, ◌+◌, Bool, false, ◌||◌, if◌then◌else◌, List, [], ◌∷◌, ◌++◌, length, Option, Some, None, Ok, Err}
use Rattle.std.specs.List.{list_all}
use Rattle.std.specs.Str.{is_utf8}
use Rattle.qsg_lines.specs.declared.kinds.Sign.{Sign}
use Rattle.qsg_lines.specs.declared.items.LineFault.{LineFault}
use Rattle.qsg_lines.specs.declared.items.LineFault.TheVariants.{LongLine, NotUtf8}
use Rattle.qsg_lines.specs.declared.items.Item.{Item}
use Rattle.qsg_lines.specs.Lines.{lines_of, is_blank, is_comment, is_long, sign_of, front_of, part_of}

-- What a statement has of the lines behind its first.
pub record Taken : Type 0 where
  -- how many lines belong to it, the comments that it passes over among them
  pub lines : ℕ
  pub text : List ℕ
  -- whether one of its own lines is too long
  pub long : Bool

abbrev pub nothing : Taken
nothing = record { lines = 0; text = []; long = false }

abbrev pub passing : Taken → Taken
passing t = record { lines = suc t.lines; text = t.text; long = t.long }

abbrev pub joining : Sign → List ℕ → Taken → Taken
joining sign line t = record { lines = suc t.lines; text = part_of sign (front_of line) ++ t.text; long = is_long line || t.long }

-- what a statement whose last line ends with this sign, or with none, takes of the lines behind it
abbrev pub taken : Option Sign → List (List ℕ) → Taken
taken None lines = nothing
taken (Some sign) [] = nothing
taken (Some sign) (line ∷ lines) = if is_comment line then passing (taken (Some sign) lines) else joining sign line (taken (sign_of line) lines)

abbrev pub fault_at : ℕ → LineFault → Option Item
fault_at n why = Some (record { line = n; text = Err why })

-- the item of a comment: its fault
abbrev pub comment_at : ℕ → List ℕ → Option Item
comment_at n line = if is_long line then fault_at n LongLine else (if is_utf8 line then None else fault_at n NotUtf8)

-- the item of a statement; where its text has blanks alone, it counts as a comment
abbrev pub statement_at : ℕ → Bool → List ℕ → Option Item
statement_at n long text = if long then fault_at n LongLine else (if is_utf8 text then (if list_all is_blank text then None else Some (record { line = n; text = Ok text })) else fault_at n NotUtf8)

-- the item of a statement that begins with the first of these lines
abbrev pub statement_of : ℕ → List ℕ → List (List ℕ) → Option Item
statement_of n line lines = let t = taken (sign_of line) lines in statement_at n (is_long line || t.long) (front_of line ++ t.text)

-- The item of a line, before these lines, where it and k - 1 behind it belong to a statement that has begun, or k is 0.
abbrev pub item_at : ℕ → ℕ → List ℕ → List (List ℕ) → Option Item
item_at n zero line lines = if is_comment line then comment_at n line else statement_of n line lines
item_at n (suc k) line lines = if is_comment line then comment_at n line else None

-- how many of the lines behind that line belong to a statement that has begun
abbrev pub within_after : ℕ → List ℕ → List (List ℕ) → ℕ
within_after zero line lines = if is_comment line then 0 else (taken (sign_of line) lines).lines
within_after (suc k) line lines = k

abbrev pub before : Option Item → List Item → List Item
before None items = items
before (Some item) items = item ∷ items

-- its text, if it has one, has at most so many bytes
abbrev pub IsShort : ℕ → Option Item → Type 0
IsShort most item = IfSome item (λ i. IfOk i.text (λ text. length text ≤ most))

-- The items of lines that are counted from n, the first k of which belong to a statement that has begun: each statement
-- stands at its first line, before the comments within it.
abbrev pub items_from : ℕ → ℕ → List (List ℕ) → List Item
items_from n k [] = []
items_from n k (line ∷ lines) = before (item_at n k line lines) (items_from (n + 1) (within_after k line lines) lines)

-- the items of the comments among lines
abbrev pub comments_from : ℕ → List (List ℕ) → List Item
comments_from n [] = []
comments_from n (line ∷ lines) = before (if is_comment line then comment_at n line else None) (comments_from (n + 1) lines)

-- What is left to be read: the items, and the line after the last.
pub record Remaining : Type 0 where
  pub items : List Item
  pub end : ℕ

abbrev pub remaining_from : ℕ → ℕ → List (List ℕ) → Remaining
remaining_from n k lines = record { items = items_from n k lines; end = n + length lines }

-- of a whole script
abbrev pub script_of : List ℕ → Remaining
script_of bytes = remaining_from 1 0 (lines_of bytes)
