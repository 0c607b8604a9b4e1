-- the pages of a log on a device
use Rattle.std.specs.Prelude.{◌≡◌, ◌≢◌, ◌⊎◌, ◌<◌, slice_index, ℕ, zero, suc, ◌+◌, ◌*◌, ◌/◌, ◌%◌, Bool, false, not, ◌==◌, ◌&&◌, if◌then◌else◌, List, [], ◌∷◌, ◌++◌, take, drop, map, Option, Some, None}
use Rattle.std.specs.Int.{w32, from_be_bytes, to_be_bytes}
use Rattle.qsg_disk.specs.Byte.{Byte, safe_byte, values, part}

-- the bytes of page `number` of a log of `size` pages: the gate and the body, at the page's position
abbrev pub page_at : List Byte → ℕ → ℕ → List Byte
page_at bytes size number = part (4096 * (number % size)) 4096 bytes

-- the lap in a body, in its bytes 3 to 6
abbrev pub lap_of : List ℕ → ℕ
lap_of body = from_be_bytes w32 (drop 3 body)

-- a body with another lap
abbrev pub with_lap : ℕ → List ℕ → List ℕ
with_lap lap body = take 3 body ++ to_be_bytes w32 lap ++ drop 7 body

abbrev pub body_of : List Byte → List ℕ
body_of page = values (drop 1 page)

abbrev pub is_open_gate : Option ℕ → Bool
is_open_gate None = false
is_open_gate (Some gate) = not (gate == 0)

-- the gate has a safe value other than 0, and the lap in the body is this one
abbrev pub is_safely_open : ℕ → List Byte → Bool
is_safely_open lap [] = false
is_safely_open lap (gate ∷ body) = is_open_gate gate.safe && (lap_of (values body) == lap)

-- the bodies of so many pages from a first one on, up to the first that isn't safely open
abbrev pub open_pages : List Byte → ℕ → ℕ → ℕ → List (List ℕ)
open_pages bytes size first zero = []
open_pages bytes size first (suc count) =
    if is_safely_open (first / size) (page_at bytes size first) then body_of (page_at bytes size first) ∷ open_pages bytes size (first + 1) count else []

-- the pages of a log from page `keep` on
abbrev pub log_pages : List Byte → ℕ → ℕ → List (List ℕ)
log_pages bytes size keep = open_pages bytes size keep size

-- the page is whole and open, with its lap, and all of it is safe
pub record IsWhole (lap : ℕ) (body : List ℕ) (page : List Byte) : Type 0 where
  pub gate : ℕ
  pub open_gate : gate ≢ 0
  pub has_lap : lap_of body ≡ lap
  pub bytes : page ≡ map safe_byte (gate ∷ body)

pub record IsStanding (lap : ℕ) (page : List Byte) : Type 0 where
  pub body : List ℕ
  pub whole : IsWhole lap body page

-- the gate is 0, and safe
pub record IsShut (page : List Byte) : Type 0 where
  pub rest : List Byte
  pub closed : page ≡ safe_byte 0 ∷ rest

-- behind any gate there is a safe body of another lap
pub record IsOther (lap : ℕ) (page : List Byte) : Type 0 where
  pub gate : Byte
  pub body : List ℕ
  pub other_lap : lap_of body ≢ lap
  pub bytes : page ≡ gate ∷ map safe_byte body

-- The page is absent, and stays so in a cut: its gate is 0, or its lap isn't its number's, which can't be on lap 0.
abbrev pub IsAbsent : ℕ → List Byte → Type 0
IsAbsent lap page = IsShut page ⊎ ((0 < lap) × IsOther lap page)

-- the body of a page of these values: none exactly where its gate is 0 or its lap isn't this one
abbrev pub page_read : ℕ → List ℕ → Option (List ℕ)
page_read lap page = if not (slice_index page 0 == 0) && (lap_of (drop 1 page) == lap) then Some (drop 1 page) else None
