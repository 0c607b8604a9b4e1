-- keywords of words, quoted and plain
use Rattle.std.proofs.Common.{◌≡◌, ℕ, zero, suc, ◌+◌, Bool, true, false, cond, List, [], ◌∷◌, length, take, Some, None, refl, ap, subst}
use Rattle.std.specs.Prelude.{find, slice_get, ◌||◌}
use Rattle.std.specs.List.{list_any}
use Rattle.std.specs.Option.{option_and_then}
use Rattle.mqsc_lex.specs.declared.words.Word.{Word}
use Rattle.mqsc_define.specs.declared.faults.DefineFault.TheVariants.{Twice}
use Rattle.mqsc_define.specs.declared.keywords.Object.{Object}
use Rattle.mqsc_define.specs.declared.keywords.Keyword.{Keyword}
use Rattle.mqsc_define.specs.Keywords.{text_of_keyword, keywords_of, form_of_keyword}
use Rattle.mqsc_define.specs.Values.{value_fault}
use Rattle.mqsc_define.specs.Faults.{has_key, is_verb, object_of, has_keyword, keyword_of, known_fault, keyword_fault, word_fault, words_fault}
use Rattle.mqsc_define.specs.Definitions.{value_text, text_behind}
use Rattle.mqsc_define.proofs.Options.{second_none}
use Rattle.mqsc_define.proofs.FirstFault.{none_from}

-- what is found passes the test
pub found_passes : {X : Type 0} (p : X → Bool) (xs : List X) (x : X) → find p xs ≡ Some x → p x ≡ true
found_passes p [] x e = absurd (cc)
found_passes p (y ∷ ys) x e = by (p y) refl (found_passes p ys x) e
  where
    by : (b : Bool) → p y ≡ b → (find p ys ≡ Some x → p x ≡ true) → cond b (Some y) (find p ys) ≡ Some x → p x ≡ true
    by true is rest f = let same : y ≡ x = cc in subst (λ z. p z ≡ true) same is
    by false is rest f = rest f

-- the first that passes stands behind those that don't
pub found_behind : {X : Type 0} (p : X → Bool) (xs : List X) (place : ℕ) (x : X) → list_any p (take place xs) ≡ false → slice_get xs place ≡ Some x → p x ≡ true → find p xs ≡ Some x
found_behind p [] place x none at passes = absurd (cc)
found_behind p (y ∷ ys) zero x none at passes = let same : y ≡ x = cc in rw (same, passes) refl
found_behind p (y ∷ ys) (suc k) x none at passes = by (p y) (λ absent. found_behind p ys k x absent at passes) none
  where
    by : (b : Bool) → (list_any p (take k ys) ≡ false → find p ys ≡ Some x) → (b || list_any p (take k ys)) ≡ false → cond b (Some y) (find p ys) ≡ Some x
    by true rest e = absurd (cc)
    by false rest e = rest e

not_twice : (place : ℕ) (before : List Word) (word : Word) (keyword : Keyword) → known_fault place before word keyword ≡ None → list_any (has_keyword keyword) before ≡ false
not_twice place before word keyword none = by (list_any (has_keyword keyword) before) none
  where
    by : (b : Bool) → cond b (Some (Twice place)) (value_fault place (form_of_keyword keyword) word.value) ≡ None → b ≡ false
    by true e = absurd (cc)
    by false e = refl

length-taken : {X : Type 0} (xs : List X) (place : ℕ) (x : X) → slice_get xs place ≡ Some x → length (take place xs) ≡ place
length-taken [] place x at = absurd (cc)
length-taken (y ∷ ys) zero x at = refl
length-taken (y ∷ ys) (suc k) x at = ap suc (length-taken ys k x at)

-- the word of a keyword isn't at fault
its_fault : (object : Object) (words : List Word) (place : ℕ) (word : Word) (keyword : Keyword) → words_fault object [] words ≡ None → slice_get words place ≡ Some word → keyword_of object word ≡ Some keyword → known_fault (2 + length (take place words)) (take place words) word keyword ≡ None
its_fault object words place word keyword none at its =
    let here : word_fault object (take place words) word ≡ None = subst (λ o. option_and_then (word_fault object (take place words)) o ≡ None) at (none_from object [] words none place) in
    subst (λ o. keyword_fault (2 + length (take place words)) (take place words) word o ≡ None) its here

pub each_counts : (object : Object) (words : List Word) (place : ℕ) (word : Word) (keyword : Keyword) → words_fault object [] words ≡ None → slice_get words place ≡ Some word → keyword_of object word ≡ Some keyword → text_behind keyword words ≡ value_text word
each_counts object words place word keyword none at its =
    let known = its_fault object words place word keyword none at its in
    let absent = not_twice (2 + length (take place words)) (take place words) word keyword known in
    let passes = found_passes (λ k. has_keyword k word) (keywords_of object) keyword its in
    ap (option_and_then value_text) (found_behind (has_keyword keyword) words place word absent at passes)

pub each_good : (object : Object) (words : List Word) (place : ℕ) (word : Word) (keyword : Keyword) → words_fault object [] words ≡ None → slice_get words place ≡ Some word → keyword_of object word ≡ Some keyword → value_fault (2 + place) (form_of_keyword keyword) word.value ≡ None
each_good object words place word keyword none at its =
    let known = its_fault object words place word keyword none at its in
    let good = second_none (list_any (has_keyword keyword) (take place words)) (Twice (2 + length (take place words))) (value_fault (2 + length (take place words)) (form_of_keyword keyword) word.value) known in
    subst (λ n. value_fault (2 + n) (form_of_keyword keyword) word.value ≡ None) (length-taken words place word at) good

-- a quoted key is no text
pub quoted : (text : List ℕ) (word : Word) → word.key_quoted ≡ true → has_key text word ≡ false
quoted text word is = rw is refl

pub quoted_verb : (word : Word) → word.key_quoted ≡ true → is_verb word ≡ false
quoted_verb word is = rw is refl

pub quoted_object : (word : Word) → word.key_quoted ≡ true → object_of word ≡ None
quoted_object word is = rw is refl

none_found : (word : Word) (keywords : List Keyword) → word.key_quoted ≡ true → find (λ k. has_keyword k word) keywords ≡ None
none_found word [] is = refl
none_found word (k ∷ ks) is = rw (quoted (text_of_keyword k) word is) (none_found word ks is)

pub quoted_keyword : (object : Object) (word : Word) → word.key_quoted ≡ true → keyword_of object word ≡ None
quoted_keyword object word is = none_found word (keywords_of object) is
