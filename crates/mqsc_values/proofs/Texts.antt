-- texts of digits and of names are ASCII
use Rattle.std.proofs.Common.{◌≡◌, ℕ, ◌<◌, zero, suc, Bool, true, false, ◌&&◌, List, [], ◌∷◌, arith}
use Rattle.std.specs.Char.{is_ascii_digit}
use Rattle.std.specs.List.{list_all}
use Rattle.std.specs.Str.{IsAscii, IsUtf8}
use Rattle.std.proofs.lemmas.Str.{IsUtf8-from_ascii}
use Rattle.std.proofs.lemmas.Bool.Decides.{nat_tests}
use Rattle.qsg_num.specs.Names.{is_alphanumeric, is_queue_byte, is_queue_name}
use Rattle.mqsc_values.specs.Names.{is_letter, is_name}
use Rattle.mqsc_values.specs.Numbers.{is_number, begins_well}

pub both : (a b : Bool) → a && b ≡ true → (a ≡ true) × (b ≡ true)
both true true e = grind arith
both true false e = absurd cc
both false b e = absurd cc

pub IsAscii-list_all : (p : ℕ → Bool) → ((b : ℕ) → p b ≡ true → b < 128) → (bs : List ℕ) → list_all p bs ≡ true → IsAscii bs
IsAscii-list_all p small [] all i = omega arith
IsAscii-list_all p small (b ∷ bs) all zero = small b (both (p b) (list_all p bs) all).0
IsAscii-list_all p small (b ∷ bs) all (suc i) = IsAscii-list_all p small bs (both (p b) (list_all p bs) all).1 i

digit_is_small : (b : ℕ) → is_ascii_digit b ≡ true → b < 128
digit_is_small b e = grind (arith, nat_tests)

letter_or_digit_is_small : (b : ℕ) → is_alphanumeric b ≡ true → b < 128
letter_or_digit_is_small b e = grind (arith, nat_tests)

queue_byte_is_small : (b : ℕ) → is_queue_byte b ≡ true → b < 128
queue_byte_is_small b e = grind (arith, nat_tests)

letter_is_alphanumeric : (b : ℕ) → is_letter b ≡ true → is_alphanumeric b ≡ true
letter_is_alphanumeric b e = grind (arith, nat_tests)

pub joined : (a b : Bool) → a ≡ true → b ≡ true → a && b ≡ true
joined a b d e = rw (d, e)

name_is_alphanumeric : (bs : List ℕ) → is_name bs ≡ true → list_all is_alphanumeric bs ≡ true
name_is_alphanumeric [] e = absurd cc
name_is_alphanumeric (b ∷ bs) e =
    let parts = both (is_letter b) (list_all is_alphanumeric bs) e in
    joined (is_alphanumeric b) (list_all is_alphanumeric bs) (letter_is_alphanumeric b parts.0) parts.1

pub IsUtf8-number : (text : List ℕ) → is_number text ≡ true → IsUtf8 text
IsUtf8-number text e = IsUtf8-from_ascii text (IsAscii-list_all is_ascii_digit digit_is_small text (both (list_all is_ascii_digit text) (begins_well text) e).0)

pub IsUtf8-name : (text : List ℕ) → is_name text ≡ true → IsUtf8 text
IsUtf8-name text e = IsUtf8-from_ascii text (IsAscii-list_all is_alphanumeric letter_or_digit_is_small text (name_is_alphanumeric text e))

pub IsUtf8-queue_name : (text : List ℕ) → is_queue_name text ≡ true → IsUtf8 text
IsUtf8-queue_name text e = IsUtf8-from_ascii text (IsAscii-list_all is_queue_byte queue_byte_is_small text (both _ (list_all is_queue_byte text) e).1)
