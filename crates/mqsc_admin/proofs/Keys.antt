-- keywords of words, quoted and plain
use Rattle.std.proofs.Common.{◌≡◌, ℕ, zero, suc, ◌+◌, Bool, true, false, cond, List, [], ◌∷◌, length, take, Some, None, refl, ap, subst}
use Rattle.std.specs.Prelude.{find, slice_get, ◌||◌}
use Rattle.std.specs.List.{list_any}
use Rattle.std.specs.Option.{option_and_then}
use Rattle.mqsc_lex.specs.declared.words.Word.{Word}
use Rattle.mqsc_define.specs.declared.faults.DefineFault.TheVariants.{Twice}
use Rattle.mqsc_define.specs.Faults.{has_key}
use Rattle.mqsc_define.specs.Definitions.{value_text}
use Rattle.mqsc_admin.specs.declared.keywords.Keyword.{Keyword}
use Rattle.mqsc_admin.specs.declared.keywords.Keyword.TheVariants as keyword
use Rattle.mqsc_admin.specs.Keywords.{text_of, form_of_value}
use Rattle.mqsc_admin.specs.Values.{value_fault}
use Rattle.mqsc_admin.specs.Faults.{has_keyword, takes_place, verb_of, object_of, keyword_of, keyword_fault, word_fault, words_fault}
use Rattle.mqsc_admin.specs.Admins.{text_behind}
use Rattle.mqsc_admin.proofs.FirstFault.{none_from}

-- what is found passes the test
found_passes : {X : Type 0} (p : X → Bool) (xs : List X) (x : X) → find p xs ≡ Some x → p x ≡ true
found_passes p [] x e = absurd cc
found_passes p (y ∷ ys) x e = by (p y) refl (found_passes p ys x) e
  where
    by : (b : Bool) → p y ≡ b → (find p ys ≡ Some x → p x ≡ true) → cond b (Some y) (find p ys) ≡ Some x → p x ≡ true
    by true is rest f = let same : y ≡ x = cc in subst (λ z. p z ≡ true) same is
    by false is rest f = rest f

-- the first that passes stands behind those that don't
found_behind : {X : Type 0} (p : X → Bool) (xs : List X) (place : ℕ) (x : X) → list_any p (take place xs) ≡ false → slice_get xs place ≡ Some x
    → p x ≡ true → find p xs ≡ Some x
found_behind p [] place x none at passes = absurd cc
found_behind p (y ∷ ys) zero x none at passes = let same : y ≡ x = cc in rw (same, passes) refl
found_behind p (y ∷ ys) (suc k) x none at passes = by (p y) none (λ e. found_behind p ys k x e at passes)
  where
    by : (b : Bool) → (b || list_any p (take k ys)) ≡ false → (list_any p (take k ys) ≡ false → find p ys ≡ Some x) → cond b (Some y) (find p ys) ≡ Some x
    by true e rest = absurd cc
    by false e rest = rest e

either : (a b : Bool) → (a || b) ≡ false → (a ≡ false) × (b ≡ false)
either true b e = absurd cc
either false b e = (refl, e)

-- a word with a keyword takes its place
untaken : (k : Keyword) (word : Word) → takes_place k word ≡ false → has_keyword k word ≡ false
untaken keyword.Cfstruct word e = e
untaken keyword.Exclint word e = e
untaken keyword.Type word e = e
untaken keyword.Smds word e = e
untaken keyword.Access word e = (either (has_keyword keyword.Access word) (has_keyword keyword.Status word) e).0
untaken keyword.Status word e = (either (has_keyword keyword.Access word) (has_keyword keyword.Status word) e).1

untaken_all : (k : Keyword) (words : List Word) → list_any (takes_place k) words ≡ false → list_any (has_keyword k) words ≡ false
untaken_all k [] e = refl
untaken_all k (w ∷ ws) e =
    let parts = either (takes_place k w) (list_any (takes_place k) ws) e in
    rw (untaken k w parts.0) (untaken_all k ws parts.1)

pub not_twice : (place : ℕ) (before : List Word) (word : Word) (k : Keyword) → keyword_fault place before word (Some k) ≡ None
    → list_any (takes_place k) before ≡ false
not_twice place before word k none = by (list_any (takes_place k) before) none
  where
    by : (b : Bool) → cond b (Some (Twice place)) (value_fault place (form_of_value k) word.value) ≡ None → b ≡ false
    by true e = absurd cc
    by false e = refl

pub each_counts : (allowed : List Keyword) (first : ℕ) (words : List Word) (place : ℕ) (word : Word) (k : Keyword) → words_fault allowed first [] words ≡ None
    → slice_get words place ≡ Some word → keyword_of allowed word ≡ Some k → text_behind k words ≡ value_text word
each_counts allowed first words place word k none at its =
    let here : word_fault allowed first (take place words) word ≡ None =
    subst (λ o. option_and_then (word_fault allowed first (take place words)) o ≡ None) at (none_from allowed first [] words none place) in
    let known : keyword_fault (first + length (take place words)) (take place words) word (Some k) ≡ None =
    subst (λ o. keyword_fault (first + length (take place words)) (take place words) word o ≡ None) its here in
    let absent = untaken_all k (take place words) (not_twice (first + length (take place words)) (take place words) word k known) in
    let passes = found_passes (λ j. has_keyword j word) allowed k its in
    ap (option_and_then value_text) (found_behind (has_keyword k) words place word absent at passes)

quoted : (text : List ℕ) (word : Word) → word.key_quoted ≡ true → has_key text word ≡ false
quoted text word is = rw is refl

pub quoted_verb : (word : Word) → word.key_quoted ≡ true → verb_of word ≡ None
quoted_verb word is = rw is refl

pub quoted_object : (word : Word) → word.key_quoted ≡ true → object_of word ≡ None
quoted_object word is = rw is refl

pub quoted_keyword : (allowed : List Keyword) (word : Word) → word.key_quoted ≡ true → keyword_of allowed word ≡ None
quoted_keyword [] word is = refl
quoted_keyword (k ∷ ks) word is = rw (quoted (text_of k) word is) (quoted_keyword ks word is)
