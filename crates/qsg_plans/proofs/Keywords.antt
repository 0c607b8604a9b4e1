-- what stands behind a keyword of a statement without a fault is right
use Rattle.std.proofs.Common.{◌≡◌, ℕ, suc, ◌+◌, Bool, true, false, List, [], ◌∷◌, ◌++◌, length, drop, Option, Some, None, refl, subst, arith}
use Rattle.std.specs.Prelude.{slice_get, option_map, codes, not, ◌&&◌, ◌==◌}
use Rattle.std.specs.Option.{ForSome, option_or}
use Rattle.std.specs.List.{list_any}
use Rattle.std.proofs.lemmas.Bool.Decides.{nat_tests}
use Rattle.mqsc_define.specs.Values.{is_text}
use Rattle.mqsc_lex.specs.declared.words.Word.{Word}
use Rattle.mqsc_lex.specs.declared.words.Text.{Text}
use Rattle.qsg_draft.specs.Contents.{Contents}
use Rattle.qsg_grammar.specs.declared.kinds.Row.{Row}
use Rattle.qsg_grammar.specs.declared.kinds.Row.TheVariants as row
use Rattle.qsg_grammar.specs.declared.slots.Slot.{Slot}
use Rattle.qsg_grammar.specs.declared.keywords.Keyword.{Keyword}
use Rattle.qsg_grammar.specs.declared.keywords.Keyword.TheVariants as keyword
use Rattle.qsg_grammar.specs.Table.{slots_of, keywords_of}
use Rattle.qsg_grammar.specs.Values.{bad_number_unless, is_right, limit_fault}
use Rattle.qsg_grammar.specs.Faults.{subject_of, repeated_if, has_keyword, takes_place, keyword_of, value_fault, keyword_fault, placed_fault, word_fault, words_fault, verb_fault, missing_fault, row_fault}
use Rattle.qsg_statement.specs.Words.{text_behind}
use Rattle.qsg_statement.proofs.Bodies.{neither}

-- what stands behind a keyword, if it is there, is right
abbrev pub HasRight : Keyword → List Word → Type 0
HasRight k words = ForSome (text_behind k words) (λ text. is_right k text ≡ true)

-- each word with this keyword is taken for it
abbrev pub IsKnown : Row → Keyword → Type 0
IsKnown r k = (word : Word) → has_keyword k word ≡ true → keyword_of (keywords_of r) word ≡ Some k

-- behind one slot there are keywords
behind-slot : (slots : List Slot) (n : ℕ) → length slots ≡ 1 → slice_get slots (suc n) ≡ None
behind-slot [] n e = absurd cc
behind-slot (s ∷ []) n e = refl
behind-slot (s ∷ t ∷ slots) n e = absurd (omega (arith, e))

good : (place : ℕ) (b : Bool) → bad_number_unless place b ≡ None → b ≡ true
good place true e = refl
good place false e = absurd cc

value-right : (c : Contents) (subject : List ℕ) (before : List Word) (place : ℕ) (k : Keyword) (text : List ℕ) → value_fault c subject before place k text ≡ None → is_right k text ≡ true
value-right c subject before place k text e =
    good place (is_right k text) (neither (bad_number_unless place (is_right k text)) (option_or (repeated_if place (list_any (takes_place k) before)) (limit_fault c k subject text)) e).0

same-right : (k : Keyword) (a b : List ℕ) → Some a ≡ Some b → is_right k a ≡ true → is_right k b ≡ true
same-right k a b e right = let same : a ≡ b = cc in subst (λ text. is_right k text ≡ true) same right

keyword-right : (c : Contents) (subject : List ℕ) (before : List Word) (place : ℕ) (k : Keyword) (found : Option Keyword) (value : Option Text) → found ≡ Some k
    → keyword_fault c subject before place found value ≡ None → ForSome (option_map (λ (v : Text). v.text) value) (λ text. is_right k text ≡ true)
keyword-right c subject before place k found None is e =
    let said : keyword_fault c subject before place (Some k) None ≡ None = subst (λ o. keyword_fault c subject before place o None ≡ None) is e in absurd cc
keyword-right c subject before place k found (Some v) is e =
    let said : keyword_fault c subject before place (Some k) (Some v) ≡ None = subst (λ o. keyword_fault c subject before place o (Some v) ≡ None) is e in
    λ text at. same-right k v.text text at (value-right c subject before place k v.text said)

each-right : (c : Contents) (r : Row) (k : Keyword) → length (slots_of r) ≡ 1 → IsKnown r k → (q : Word) (before words : List Word) → words_fault c r (q ∷ before) words ≡ None → HasRight k words
each-right c r k one known q before [] e = λ text is. absurd cc
each-right c r k one known q before (word ∷ words) e =
    let parts = neither (word_fault c r (q ∷ before) word) (words_fault c r (q ∷ (before ++ word ∷ [])) words) e in
    let here : placed_fault c r (q ∷ before) word None ≡ None =
    subst (λ o. placed_fault c r (q ∷ before) word o ≡ None) (behind-slot (slots_of r) (length before) one) parts.0 in
    by_key (has_keyword k word) refl here (each-right c r k one known q (before ++ word ∷ []) words parts.1) where
      by_key : (b : Bool) → has_keyword k word ≡ b → placed_fault c r (q ∷ before) word None ≡ None → HasRight k words → HasRight k (word ∷ words)
      by_key true h here later =
          rw h (keyword-right c (subject_of (q ∷ before)) (drop (length (slots_of r)) (q ∷ before)) (1 + length (q ∷ before)) k (keyword_of (keywords_of r) word) word.value (known word h) here)
      by_key false h here later = rw h later

row-right : (c : Contents) (r : Row) (k : Keyword) → length (slots_of r) ≡ 1 → IsKnown r k → (words : List Word) → row_fault c r words ≡ None → HasRight k (drop 2 words)
row-right c r k one known [] e = λ text is. absurd cc
row-right c r k one known (w ∷ []) e = λ text is. absurd cc
row-right c r k one known (w ∷ q ∷ words) e =
    let all = neither (verb_fault c r) (option_or (words_fault c r [] (q ∷ words)) (missing_fault r (q ∷ words))) e in
    let each = neither (words_fault c r [] (q ∷ words)) (missing_fault r (q ∷ words)) all.1 in
    let behind = neither (word_fault c r [] q) (words_fault c r (q ∷ []) words) each.0 in
    each-right c r k one known q [] words behind.1

pub log-right : (c : Contents) (words : List Word) → row_fault c row.Member words ≡ None → HasRight keyword.Log (drop 2 words)
log-right c words e = row-right c row.Member keyword.Log refl (λ word h. rw h refl) words e

pub elements-right : (c : Contents) (words : List Word) → row_fault c row.Facility words ≡ None → HasRight keyword.Elements (drop 2 words)
elements-right c words e = row-right c row.Facility keyword.Elements refl (λ word h. rw h refl) words e

-- a word of BLOCKS is none of ELEMENTS: they begin with other letters
texts-apart : (text : List ℕ) → is_text (codes "BLOCKS") text ≡ true → is_text (codes "ELEMENTS") text ≡ false
texts-apart [] is = refl
texts-apart (b ∷ bs) is = by (b == 66) refl is
  where
    by : (first : Bool) → (b == 66) ≡ first → (first && is_text (codes "LOCKS") bs) ≡ true → is_text (codes "ELEMENTS") (b ∷ bs) ≡ false
    by true here rest = let apart : (b == 69) ≡ false = grind (arith, nat_tests, here) in rw apart refl
    by false here rest = absurd cc

blocks-apart : (word : Word) → has_keyword keyword.Blocks word ≡ true → has_keyword keyword.Elements word ≡ false
blocks-apart word is = by word.key_quoted is
  where
    by : (quoted : Bool) → (not quoted && is_text (codes "BLOCKS") word.key) ≡ true → (not quoted && is_text (codes "ELEMENTS") word.key) ≡ false
    by true none = refl
    by false text = texts-apart word.key text

pub blocks-right : (c : Contents) (words : List Word) → row_fault c row.Facility words ≡ None → HasRight keyword.Blocks (drop 2 words)
blocks-right c words e = row-right c row.Facility keyword.Blocks refl (λ word h. rw (blocks-apart word h, h) refl) words e
