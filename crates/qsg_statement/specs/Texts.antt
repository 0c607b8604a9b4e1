-- the text of a statement, as its words are read
use Rattle.std.specs.Prelude.{ℕ, Bool, false, not, ◌==◌, ◌&&◌, ◌||◌, if◌then◌else◌, List, [], ◌∷◌, length, take, drop, codes, unwrap_or}
use Rattle.std.specs.List.{list_all, position}
use Rattle.std.specs.Str.{str_eq_ignore_ascii_case}
use Rattle.mqsc_lex.specs.Texts.{is_blank, is_plain}

-- how many bytes at the front are such
abbrev pub front_count : (ℕ → Bool) → List ℕ → ℕ
front_count p bytes = unwrap_or (position (λ b. not (p b)) bytes) (length bytes)

abbrev pub behind_blanks : List ℕ → List ℕ
behind_blanks text = drop (front_count is_blank text) text

-- the plain text at the front, and what stands behind it
abbrev pub front_text : List ℕ → List ℕ
front_text text = take (front_count is_plain text) text

abbrev pub behind_text : List ℕ → List ℕ
behind_text text = drop (front_count is_plain text) text

abbrev pub begins_with : ℕ → List ℕ → Bool
begins_with c [] = false
begins_with c (b ∷ bytes) = b == c

-- DEFINE or DEF in any case
abbrev pub is_define_text : List ℕ → Bool
is_define_text text = str_eq_ignore_ascii_case text (codes "DEFINE") || str_eq_ignore_ascii_case text (codes "DEF")

abbrev pub begins_plain_define : List ℕ → Bool
begins_plain_define text = is_define_text (front_text text) && not (begins_with 40 (behind_text text))

-- A text begins as a DEFINE: behind blanks with that plain text, and with no parenthesis behind it.
abbrev pub begins_define : List ℕ → Bool
begins_define text = begins_plain_define (behind_blanks text)

-- a text without one `;` that is its last byte but for blanks
abbrev pub without_semicolon : List ℕ → List ℕ
without_semicolon [] = []
without_semicolon (b ∷ bytes) = if (b == 59) && list_all is_blank bytes then [] else b ∷ without_semicolon bytes

-- A DEFINE may end with one `;`, which is dropped.
abbrev pub read_text : List ℕ → List ℕ
read_text text = if begins_define text then without_semicolon text else text
