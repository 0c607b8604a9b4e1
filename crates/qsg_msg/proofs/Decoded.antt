-- What decoding a message answers.
use Rattle.std.proofs.Common.{◌≡◌, ℕ, ◌-◌, ◌≤◌, List, ◌++◌, length, take, Ok, Err, refl, sym, ap, ◌∙◌, arith}
use Rattle.std.proofs.lemmas.List.{take_at, length-append}
use Rattle.qsg_msg.specs.declared.message.Message.{Message}
use Rattle.qsg_msg.specs.Prefix.{IsFaultPlace}
use Rattle.qsg_msg.specs.Spelling.{spelling, IsMessage, IsSpelling}
use Rattle.qsg_msg.specs.Reading.{message_at}
use Rattle.qsg_msg.proofs.Forms.{IsBytes, apart, begins_none, fault_place, ok_is}
use Rattle.qsg_msg.proofs.Messages.{Spelled, message_reads}

pub found : (input : List ℕ) (m : Message) (rest : List ℕ) → IsBytes input → message_at input ≡ Ok (m, rest) → IsMessage m × (input ≡ spelling m ++ rest)
found input m rest fits e =
    let t = message_reads.takes input (m, rest) fits e in
    (t.1.0, t.2 ∙ ap (λ l. l ++ rest) t.1.1)

pub length_found : (input text rest : List ℕ) → input ≡ text ++ rest → length input - length rest ≡ length text
length_found input text rest is = omega (arith, ap length is, length-append text rest)

pub is_found : (input : List ℕ) (m : Message) (rest : List ℕ) → IsBytes input → message_at input ≡ Ok (m, rest)
    → IsMessage m × (length input - length rest ≡ length (spelling m)) × (take (length input - length rest) input ≡ spelling m)
is_found input m rest fits e =
    let f = found input m rest fits e in
    let len = length_found input (spelling m) rest f.1 in
    (f.0, len, ap (take (length input - length rest)) f.1 ∙ take_at (spelling m) rest (length input - length rest) (sym len))

pub is_only : (input : List ℕ) (m : Message) (rest : List ℕ) → IsBytes input → message_at input ≡ Ok (m, rest)
    → (n : Message) (after : List ℕ) → IsMessage n → input ≡ spelling n ++ after → (m ≡ n) × (length input - length rest ≡ length (spelling n))
is_only input m rest fits e n after is whole =
    let f = found input m rest fits e in
    let same = ok_is (m, rest) (n, after) (sym e ∙ ap message_at whole ∙ message_reads.again n (spelling n) after (is, refl)) in
    let one : m ≡ n = ap (λ p. p.0) same in
    (one, length_found input (spelling m) rest f.1 ∙ ap (λ x. length (spelling x)) one)

pub is_none : (input : List ℕ) (left : ℕ) → message_at input ≡ Err left → (text rest : List ℕ) → IsSpelling text → input ≡ text ++ rest → ⊥
is_none input left e text rest is whole = begins_none Spelled message_at message_reads input left e is.0 text rest (is.1, is.2) whole

pub left_within : (input : List ℕ) (left : ℕ) → IsBytes input → message_at input ≡ Err left → left ≤ length input
left_within input left fits e =
    let s = message_reads.stops input left fits e in
    omega (arith, s.left_is, ap length s.split, length-append s.good s.bad)

pub is_place : (input : List ℕ) (left at : ℕ) → IsBytes input → message_at input ≡ Err left → at ≡ length input - left → IsFaultPlace IsSpelling input at
is_place input left at fits e is =
    let p = fault_place Spelled input left at (message_reads.stops input left fits e) is in record {
      within = p.within;
      begins = (p.begins.0, (p.begins.1.0, p.begins.1.1.0, p.begins.1.1.1));
      greatest = λ n le b. p.greatest n le (b.0, (b.1.0, (b.1.1, b.1.2)));
    }

pub spellings_apart : (a b : Message) (x y : List ℕ) → IsMessage a → IsMessage b → spelling a ++ x ≡ spelling b ++ y → (a ≡ b) × (x ≡ y)
spellings_apart a b x y is_a is_b e = apart Spelled message_at message_reads a b (spelling a) (spelling b) x y (is_a, refl) (is_b, refl) e
