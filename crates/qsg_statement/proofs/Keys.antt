-- In words without a fault each keyword counts.
use Rattle.std.proofs.Common.{◌≡◌, ℕ, zero, suc, ◌+◌, Bool, true, false, cond, arith, List, [], ◌∷◌, length, take, drop, Option, Some, None, refl, ap, sym, ◌∙◌, subst}
use Rattle.std.specs.Prelude.{find, slice_get, ◌||◌, if◌then◌else◌}
use Rattle.std.specs.List.{list_any}
use Rattle.std.specs.Option.{option_and_then, option_or}
use Rattle.mqsc_lex.specs.declared.words.Word.{Word}
use Rattle.mqsc_lex.specs.declared.words.Text.{Text}
use Rattle.mqsc_define.specs.Definitions.{value_text}
use Rattle.qsg_draft.specs.Contents.{Contents}
use Rattle.qsg_grammar.specs.declared.kinds.Row.{Row}
use Rattle.qsg_grammar.specs.declared.slots.Slot.{Slot}
use Rattle.qsg_grammar.specs.declared.faults.Fault.{Fault}
use Rattle.qsg_grammar.specs.declared.faults.Fault.TheVariants.{Repeated}
use Rattle.qsg_grammar.specs.declared.keywords.Keyword.{Keyword}
use Rattle.qsg_grammar.specs.declared.keywords.Keyword.TheVariants as keyword
use Rattle.qsg_grammar.specs.Table.{slots_of, keywords_of}
use Rattle.qsg_grammar.specs.Values.{bad_number_unless, is_right, limit_fault}
use Rattle.qsg_grammar.specs.Faults.{subject_of, repeated_if, has_keyword, is_body, takes_place, keyword_of, value_fault, keyword_fault, placed_fault, word_fault, words_fault}
use Rattle.qsg_grammar.proofs.FirstFault.{none_from}
use Rattle.qsg_statement.specs.Words.{text_behind}
use Rattle.qsg_statement.proofs.Bodies.{neither}

-- what is found passes the test
found_passes : {X : Type 0} (p : X → Bool) (xs : List X) (x : X) → find p xs ≡ Some x → p x ≡ true
found_passes p [] x e = absurd cc
found_passes p (y ∷ ys) x e = by (p y) refl (found_passes p ys x) e
  where
    by : (b : Bool) → p y ≡ b → (find p ys ≡ Some x → p x ≡ true) → cond b (Some y) (find p ys) ≡ Some x → p x ≡ true
    by true is rest f = let same : y ≡ x = cc in subst (λ z. p z ≡ true) same is
    by false is rest f = rest f

-- the first that passes stands behind those that don't
found_behind : {X : Type 0} (p : X → Bool) (xs : List X) (place : ℕ) (x : X) → list_any p (take place xs) ≡ false → slice_get xs place ≡ Some x
    → p x ≡ true → find p xs ≡ Some x
found_behind p [] place x none at passes = absurd cc
found_behind p (y ∷ ys) zero x none at passes = let same : y ≡ x = cc in rw (same, passes) refl
found_behind p (y ∷ ys) (suc k) x none at passes = by (p y) none (λ e. found_behind p ys k x e at passes)
  where
    by : (b : Bool) → (b || list_any p (take k ys)) ≡ false → (list_any p (take k ys) ≡ false → find p ys ≡ Some x) → cond b (Some y) (find p ys) ≡ Some x
    by true e rest = absurd cc
    by false e rest = rest e

either : (a b : Bool) → (a || b) ≡ false → (a ≡ false) × (b ≡ false)
either true b e = absurd cc
either false b e = (refl, e)

first_of : (a b d : Bool) → (a || b || d) ≡ false → a ≡ false
first_of true b d e = absurd cc
first_of false b d e = refl

second_of : (a b d : Bool) → (a || b || d) ≡ false → b ≡ false
second_of true b d e = absurd cc
second_of false true d e = absurd cc
second_of false false d e = refl

third_of : (a b d : Bool) → (a || b || d) ≡ false → d ≡ false
third_of true b d e = absurd cc
third_of false true d e = absurd cc
third_of false false d e = e

-- a word with a keyword takes its place
untaken : (k : Keyword) (word : Word) → takes_place k word ≡ false → has_keyword k word ≡ false
untaken keyword.Body word e = first_of (has_keyword keyword.Body word) (has_keyword keyword.Hex word) (has_keyword keyword.Size word) e
untaken keyword.Hex word e = second_of (has_keyword keyword.Body word) (has_keyword keyword.Hex word) (has_keyword keyword.Size word) e
untaken keyword.Size word e = third_of (has_keyword keyword.Body word) (has_keyword keyword.Hex word) (has_keyword keyword.Size word) e
untaken keyword.Log word e = e
untaken keyword.Pick word e = e
untaken keyword.Elements word e = e
untaken keyword.Blocks word e = e
untaken keyword.Pri word e = e
untaken keyword.Pers word e = e
untaken keyword.Msgid word e = e
untaken keyword.Correlid word e = e

untaken_all : (k : Keyword) (words : List Word) → list_any (takes_place k) words ≡ false → list_any (has_keyword k) words ≡ false
untaken_all k [] e = refl
untaken_all k (w ∷ ws) e =
    let parts = either (takes_place k w) (list_any (takes_place k) ws) e in
    rw (untaken k w parts.0) (untaken_all k ws parts.1)

unrepeated : (place : ℕ) (b : Bool) → repeated_if place b ≡ None → b ≡ false
unrepeated place true e = absurd cc
unrepeated place false e = refl

-- a keyword without a fault has a value, and none before it takes its place
not_twice : (c : Contents) (subject : List ℕ) (before : List Word) (place : ℕ) (k : Keyword) (value : Option Text)
    → keyword_fault c subject before place (Some k) value ≡ None → list_any (takes_place k) before ≡ false
not_twice c subject before place k None e = absurd cc
not_twice c subject before place k (Some v) e =
    let rest = (neither (bad_number_unless place (is_right k v.text)) (option_or (repeated_if place (list_any (takes_place k) before)) (limit_fault c k subject v.text)) e).1 in
    unrepeated place (list_any (takes_place k) before) (neither (repeated_if place (list_any (takes_place k) before)) (limit_fault c k subject v.text) rest).0

-- behind one slot there are keywords
behind_slot : (slots : List Slot) (n : ℕ) → length slots ≡ 1 → slice_get slots (suc n) ≡ None
behind_slot [] n e = absurd cc
behind_slot (s ∷ []) n e = refl
behind_slot (s ∷ t ∷ slots) n e = absurd (omega (arith, e))

pub each_counts : (c : Contents) (row : Row) (subject : Word) (words : List Word) (place : ℕ) (word : Word) (k : Keyword) → length (slots_of row) ≡ 1
    → words_fault c row [] (subject ∷ words) ≡ None → slice_get words place ≡ Some word → keyword_of (keywords_of row) word ≡ Some k
    → text_behind k words ≡ value_text word
each_counts c row subject words place word k one none at its =
    let before : List Word = subject ∷ take place words in
    let here : word_fault c row before word ≡ None =
    subst (λ o. option_and_then (word_fault c row before) o ≡ None) at (none_from c row [] (subject ∷ words) none (suc place)) in
    let placed : placed_fault c row before word None ≡ None =
    subst (λ o. placed_fault c row before word o ≡ None) (behind_slot (slots_of row) (length (take place words)) one) here in
    let named : keyword_fault c (subject_of before) (drop (length (slots_of row)) before) (1 + length before) (Some k) word.value ≡ None =
    subst (λ o. keyword_fault c (subject_of before) (drop (length (slots_of row)) before) (1 + length before) o word.value ≡ None) its placed in
    let only : keyword_fault c (subject_of before) (take place words) (1 + length before) (Some k) word.value ≡ None =
    subst (λ n. keyword_fault c (subject_of before) (drop n before) (1 + length before) (Some k) word.value ≡ None) one named in
    let absent = untaken_all k (take place words) (not_twice c (subject_of before) (take place words) (1 + length before) k word.value only) in
    let passes = found_passes (λ j. has_keyword j word) (keywords_of row) k its in
    ap (option_and_then value_text) (found_behind (has_keyword k) words place word absent at passes)
