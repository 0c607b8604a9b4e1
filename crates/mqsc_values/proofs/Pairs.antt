-- what the crate that decodes answers, in our words
use Rattle.std.proofs.Common.{◌≡◌, ℕ, ◌+◌, ◌*◌, ◌/◌, ◌%◌, Bool, true, false, ◌==◌, List, [], ◌∷◌, length, Option, Some, None, Result, Ok, Err, refl, sym, ◌∙◌, ap, arith}
use Rattle.std.specs.Result.{result_ok}
use Rattle.std.proofs.lemmas.Bool.Decides.{nat_tests}
use Rattle.hex.specs.Hex.{hex_digit_value, digit_or_error, ◌>>=◌, decode_pairs, decode_of, decode_sized}
use Rattle.hex.specs.declared.error.FromHexError.{FromHexError}
use Rattle.mqsc_values.specs.Hexadecimal.{digit_of, byte_before, bytes_of, id_of}

before-steps : (b c i j : ℕ) (high low : Option ℕ) (rest : Result (List ℕ) FromHexError)
    → result_ok ((digit_or_error b i high >>= λ h. (digit_or_error c j low >>= λ l. Ok (h * 16 + l))) >>= λ byte. (rest >>= λ bytes. Ok (byte ∷ bytes)))
    ≡ byte_before high low (result_ok rest)
before-steps b c i j (Some h) (Some l) (Ok bytes) = refl
before-steps b c i j (Some h) (Some l) (Err e) = refl
before-steps b c i j (Some h) None (Ok bytes) = refl
before-steps b c i j (Some h) None (Err e) = refl
before-steps b c i j None (Some l) (Ok bytes) = refl
before-steps b c i j None (Some l) (Err e) = refl
before-steps b c i j None None (Ok bytes) = refl
before-steps b c i j None None (Err e) = refl

bytes_of-decode_pairs : (i : ℕ) (text : List ℕ) → result_ok (decode_pairs i text) ≡ bytes_of text
unfolding decode_pairs
bytes_of-decode_pairs i [] = refl
bytes_of-decode_pairs i (b ∷ []) = refl
bytes_of-decode_pairs i (b ∷ c ∷ rest) =
    before-steps b c i (i + 1) (hex_digit_value b) (hex_digit_value c) (decode_pairs (i + 2) rest)
    ∙ ap (byte_before (digit_of b) (digit_of c)) (bytes_of-decode_pairs (i + 2) rest)

byte_before-none : (high low : Option ℕ) → byte_before high low None ≡ None
byte_before-none (Some h) (Some l) = refl
byte_before-none (Some h) None = refl
byte_before-none None (Some l) = refl
byte_before-none None None = refl

bytes_of-odd : (text : List ℕ) → length text % 2 ≡ 1 → bytes_of text ≡ None
bytes_of-odd [] odd = absurd (omega arith)
bytes_of-odd (b ∷ []) odd = refl
bytes_of-odd (b ∷ c ∷ rest) odd =
    ap (byte_before (digit_of b) (digit_of c)) (bytes_of-odd rest (omega arith)) ∙ byte_before-none (digit_of b) (digit_of c)

pub bytes_of-decode_of : (text : List ℕ) → result_ok (decode_of text) ≡ bytes_of text
bytes_of-decode_of text = by_length (length text % 2 == 1) refl where
  by_length : (odd : Bool) → length text % 2 == 1 ≡ odd → result_ok (decode_of text) ≡ bytes_of text
  by_length true e = rw e (sym (bytes_of-odd text (grind (arith, nat_tests))))
  by_length false e = rw e (bytes_of-decode_pairs 0 text)

pub id_of-decode_sized : (text : List ℕ) → result_ok (decode_sized text 24) ≡ id_of text
id_of-decode_sized text = by_length (length text == 48) refl where
  by_half : (odd half : Bool) → length text % 2 == 1 ≡ odd → length text / 2 == 24 ≡ half → length text == 48 ≡ false → result_ok (decode_sized text 24) ≡ None
  by_half true half e f n = rw e refl
  by_half false true e f n = absurd (grind (arith, nat_tests))
  by_half false false e f n = rw (e, f) refl

  by_length : (right : Bool) → length text == 48 ≡ right → result_ok (decode_sized text 24) ≡ id_of text
  by_length true e = let same : length text ≡ 48 = grind (arith, nat_tests) in rw same (bytes_of-decode_pairs 0 text)
  by_length false e = by_half (length text % 2 == 1) (length text / 2 == 24) refl refl e ∙ sym (rw e refl)
