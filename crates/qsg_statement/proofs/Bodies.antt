-- The body of a PUT without a fault isn't too long.
use Rattle.std.proofs.Common.{◌≡◌, ℕ, ◌+◌, ◌/◌, ◌≤◌, Bool, true, false, not, nat_lt, ◌&&◌, List, [], ◌∷◌, ◌++◌, length, drop, Option, Some, None, refl, sym, subst, arith}
use Rattle.std.specs.Prelude.{codes, if◌then◌else◌, option_map}
use Rattle.std.specs.Option.{ForSome, option_or}
use Rattle.std.specs.Cmp.Lexicographic.{same_text}
use Rattle.std.specs.List.{list_any}
use Rattle.std.proofs.lemmas.Bool.Decides.{nat_tests}
use Rattle.mqsc_lex.specs.declared.words.Word.{Word}
use Rattle.mqsc_lex.specs.declared.words.Text.{Text}
use Rattle.mqsc_values.specs.Hexadecimal.{digit_of, byte_before, bytes_of}
use Rattle.mqsc_define.specs.Values.{is_text}
use Rattle.mqsc_define.specs.Faults.{has_key}
use Rattle.qsg_draft.specs.Contents.{Contents}
use Rattle.qsg_grammar.specs.declared.faults.Fault.{Fault}
use Rattle.qsg_grammar.specs.declared.faults.Fault.TheVariants.{TooLarge}
use Rattle.qsg_grammar.specs.declared.kinds.Row.TheVariants as row
use Rattle.qsg_grammar.specs.declared.keywords.Keyword.{Keyword}
use Rattle.qsg_grammar.specs.declared.keywords.Keyword.TheVariants as keyword
use Rattle.qsg_grammar.specs.Table.{keywords_of}
use Rattle.qsg_grammar.specs.Values.{bad_number_unless, is_right, body_limit, limit_fault}
use Rattle.qsg_grammar.specs.Faults.{repeated_if, takes_place, has_keyword, keyword_of, value_fault, keyword_fault, word_fault, words_fault, missing_fault, behind, row_fault, subject_of}
use Rattle.qsg_statement.specs.Words.{text_behind, IsBodyRight}

-- Two digits a byte.

half-before : (high low : Option ℕ) (rest : Option (List ℕ)) (bytes : List ℕ) (n : ℕ) → byte_before high low rest ≡ Some bytes
    → ((more : List ℕ) → rest ≡ Some more → length more + length more ≡ n) → length bytes + length bytes ≡ n + 2
half-before (Some h) (Some l) (Some more) [] n e rule = absurd cc
half-before (Some h) (Some l) (Some more) (b ∷ bytes) n e rule =
    let same : more ≡ bytes = cc in
    let shorter : length bytes + length bytes ≡ n = subst (λ xs. length xs + length xs ≡ n) same (rule more refl) in
    omega (arith, shorter)
half-before (Some h) (Some l) None bytes n e rule = absurd cc
half-before (Some h) None rest bytes n e rule = absurd cc
half-before None low rest bytes n e rule = absurd cc

pub half : (text bytes : List ℕ) → bytes_of text ≡ Some bytes → length bytes + length bytes ≡ length text
half [] [] e = refl
half [] (b ∷ bytes) e = absurd cc
half (d ∷ []) bytes e = absurd cc
half (d ∷ f ∷ text) bytes e =
    let all = half-before (digit_of d) (digit_of f) (bytes_of text) bytes (length text) e (half text) in
    omega (arith, all)

-- Keywords.

pub neither : {A : Type 0} (a b : Option A) → option_or a b ≡ None → (a ≡ None) × (b ≡ None)
neither None b e = (refl, e)
neither (Some x) b e = absurd cc

both : (a b : Bool) → a && b ≡ true → (a ≡ true) × (b ≡ true)
both true true e = (refl, refl)
both true false e = absurd cc
both false b e = absurd cc

unquoted : (q : Bool) → not q ≡ true → q ≡ false
unquoted true e = absurd cc
unquoted false e = refl

pub key-is : (text : List ℕ) (word : Word) → has_key text word ≡ true → (word.key_quoted ≡ false) × (word.key ≡ text)
key-is text word h =
    let parts = both (not word.key_quoted) (is_text text word.key) h in
    (unquoted word.key_quoted parts.0, same_text word.key text (sym parts.1))

-- each word with this keyword is taken for it
abbrev IsKnown : List Keyword → Keyword → Type 0
IsKnown allowed k = (word : Word) → has_keyword k word ≡ true → keyword_of allowed word ≡ Some k

-- what a value without a fault has
abbrev Makes : Contents → Keyword → (List ℕ → Type 0) → Type 0
Makes c k P = (subject : List ℕ) (before : List Word) (place : ℕ) (text : List ℕ) → value_fault c subject before place k text ≡ None → P text

same_value : (P : List ℕ → Type 0) (a b : List ℕ) → Some a ≡ Some b → P a → P b
same_value P a b e good = let same : a ≡ b = cc in subst P same good

known-good : (c : Contents) (k : Keyword) (P : List ℕ → Type 0) → Makes c k P → (subject : List ℕ) (before : List Word) (place : ℕ)
    (found : Option Keyword) (value : Option Text) → found ≡ Some k → keyword_fault c subject before place found value ≡ None
    → ForSome (option_map (λ (v : Text). v.text) value) P
known-good c k P makes subject before place found None is e =
    let said : keyword_fault c subject before place (Some k) None ≡ None = subst (λ o. keyword_fault c subject before place o None ≡ None) is e in absurd cc
known-good c k P makes subject before place found (Some v) is e =
    let said : keyword_fault c subject before place (Some k) (Some v) ≡ None = subst (λ o. keyword_fault c subject before place o (Some v) ≡ None) is e in
    λ text at. same_value P v.text text at (makes subject before place v.text said)

put-named : (c : Contents) (k : Keyword) (P : List ℕ → Type 0) → IsKnown (keywords_of row.Put) k → Makes c k P
    → (q : Word) (rest words : List Word) → words_fault c row.Put (q ∷ rest) words ≡ None → ForSome (text_behind k words) P
put-named c k P known makes q rest [] e = λ text is. absurd cc
put-named c k P known makes q rest (word ∷ words) e =
    let parts = neither (word_fault c row.Put (q ∷ rest) word) (words_fault c row.Put (q ∷ (rest ++ word ∷ [])) words) e in
    by_key (has_keyword k word) refl parts.0 (put-named c k P known makes q (rest ++ word ∷ []) words parts.1) where
      by_key : (b : Bool) → has_keyword k word ≡ b → word_fault c row.Put (q ∷ rest) word ≡ None → ForSome (text_behind k words) P
          → ForSome (text_behind k (word ∷ words)) P
      by_key true h here later =
          rw h (known-good c k P makes (subject_of (q ∷ rest)) rest (1 + length (q ∷ rest)) (keyword_of (keywords_of row.Put) word) word.value (known word h) here)
      by_key false h here later = rw h later

-- The limits of bodies.

within : (all bytes : ℕ) → body_limit all bytes ≡ None → bytes ≤ 4194304
within all bytes e = by (nat_lt 4194304 bytes) refl e where
  by : (b : Bool) → nat_lt 4194304 bytes ≡ b
      → (if b then Some (TooLarge 4194304) else if nat_lt 268435456 (all + bytes) then Some (TooLarge 268435456) else None) ≡ None → bytes ≤ 4194304
  by true h e = absurd cc
  by false h e = grind (arith, nat_tests)

limit-none : (c : Contents) (subject : List ℕ) (before : List Word) (place : ℕ) (k : Keyword) (text : List ℕ)
    → value_fault c subject before place k text ≡ None → limit_fault c k subject text ≡ None
limit-none c subject before place k text e =
    let parts = neither (bad_number_unless place (is_right k text)) (option_or (repeated_if place (list_any (takes_place k) before)) (limit_fault c k subject text)) e in
    (neither (repeated_if place (list_any (takes_place k) before)) (limit_fault c k subject text) parts.1).1

text-makes : (c : Contents) → Makes c keyword.Body (λ text. length text ≤ 4194304)
text-makes c subject before place text e = within c.bodies (length text) (limit-none c subject before place keyword.Body text e)

digits-make : (c : Contents) → Makes c keyword.Hex (λ text. length text ≤ 8388609)
digits-make c subject before place text e =
    let less : length text / 2 ≤ 4194304 = within c.bodies (length text / 2) (limit-none c subject before place keyword.Hex text e) in
    omega (arith, less)

text-known : IsKnown (keywords_of row.Put) keyword.Body
text-known word h = rw h refl

digits-known : IsKnown (keywords_of row.Put) keyword.Hex
digits-known word h =
    let is = key-is (codes "HEX") word h in
    let other : has_keyword keyword.Body word ≡ false = rw (is.0, is.1) refl in
    rw (other, h) refl

pub put-right : (c : Contents) (words : List Word) → row_fault c row.Put words ≡ None → IsBodyRight (drop 2 words)
put-right c [] e = record { text = λ text is. absurd cc; digits = λ text is. absurd cc }
put-right c (w ∷ []) e = record { text = λ text is. absurd cc; digits = λ text is. absurd cc }
put-right c (w ∷ q ∷ words) e =
    let all = neither (words_fault c row.Put [] (q ∷ words)) (missing_fault row.Put (q ∷ words)) e in
    let behind = (neither (word_fault c row.Put [] q) (words_fault c row.Put (q ∷ []) words) all.0).1 in
    record {
      text = put-named c keyword.Body (λ text. length text ≤ 4194304) text-known (text-makes c) q [] words behind;
      digits = put-named c keyword.Hex (λ text. length text ≤ 8388609) digits-known (digits-make c) q [] words behind;
    }
