-- A RESET without a fault has one word of ACCESS and STATUS.
use Rattle.std.proofs.Common.{◌≡◌, ◌+◌, Bool, true, false, not, List, [], ◌∷◌, ◌++◌, length, codes, Some, None, refl, ap, ◌∙◌, subst}
use Rattle.std.specs.Prelude.{◌||◌, option_map, if◌then◌else◌}
use Rattle.std.specs.List.{list_any}
use Rattle.std.proofs.lemmas.List.Folds.{list_any-append}
use Rattle.mqsc_lex.specs.declared.words.Word.{Word}
use Rattle.mqsc_define.specs.declared.faults.DefineFault.TheVariants.{Missing}
use Rattle.mqsc_define.specs.declared.faults.Required.TheVariants as required
use Rattle.mqsc_admin.specs.declared.keywords.Verb.TheVariants as verb
use Rattle.mqsc_admin.specs.declared.keywords.Keyword.TheVariants as keyword
use Rattle.mqsc_admin.specs.Faults.{has_keyword, is_wanted, keyword_of, keyword_fault, word_fault, words_fault, is_absent, missing_fault, verb_fault}
use Rattle.mqsc_admin.specs.Laws.{HasOne}
use Rattle.mqsc_admin.proofs.Options.{neither}
use Rattle.mqsc_admin.proofs.Named.{of_reset, needed_by_reset, key-is}
use Rattle.mqsc_admin.proofs.Keys.{not_twice}

access-known : (word : Word) → has_keyword keyword.Access word ≡ true → keyword_of of_reset word ≡ Some keyword.Access
access-known word h = let is = key-is (codes "ACCESS") word h in rw (is.0, is.1) refl

status-known : (word : Word) → has_keyword keyword.Status word ≡ true → keyword_of of_reset word ≡ Some keyword.Status
status-known word h = let is = key-is (codes "STATUS") word h in rw (is.0, is.1) refl

-- a word of the two, right behind others, of which none is one
alone : (before : List Word) (word : Word) → word_fault of_reset 1 before word ≡ None → is_wanted word ≡ true → list_any is_wanted before ≡ false
alone before word none is = by (has_keyword keyword.Access word) refl (has_keyword keyword.Status word) refl is
  where
    by : (a : Bool) → has_keyword keyword.Access word ≡ a → (s : Bool) → has_keyword keyword.Status word ≡ s → (a || s) ≡ true → list_any is_wanted before ≡ false
    by true e s f one =
        not_twice (1 + length before) before word keyword.Access
        (subst (λ o. keyword_fault (1 + length before) before word o ≡ None) (access-known word e) none)
    by false e true f one =
        not_twice (1 + length before) before word keyword.Status
        (subst (λ o. keyword_fault (1 + length before) before word o ≡ None) (status-known word f) none)
    by false e false f one = absurd cc

any-last : (before : List Word) (word : Word) (a b : Bool) → list_any is_wanted before ≡ a → is_wanted word ≡ b → list_any is_wanted (before ++ word ∷ []) ≡ (a || (b || false))
any-last before word a b e f = list_any-append is_wanted before (word ∷ []) ∙ rw (e, f) refl

-- behind one of the two there is none
none-behind : (before words : List Word) → words_fault of_reset 1 before words ≡ None → list_any is_wanted before ≡ true → list_any is_wanted words ≡ false
none-behind before [] none some = refl
none-behind before (w ∷ ws) none some =
    let parts = neither (word_fault of_reset 1 before w) (words_fault of_reset 1 (before ++ w ∷ []) ws) none in
    by (is_wanted w) refl parts.0 (none-behind (before ++ w ∷ []) ws parts.1)
  where
    by : (b : Bool) → is_wanted w ≡ b → word_fault of_reset 1 before w ≡ None
        → (list_any is_wanted (before ++ w ∷ []) ≡ true → list_any is_wanted ws ≡ false) → list_any is_wanted (w ∷ ws) ≡ false
    by true e here later = let never = alone before w here e in absurd cc
    by false e here later = rw e (later (any-last before w true false some e))

one : (before words : List Word) → words_fault of_reset 1 before words ≡ None → list_any is_wanted before ≡ false → list_any is_wanted words ≡ true → HasOne is_wanted words
one before [] none absent some = absurd cc
one before (w ∷ ws) none absent some =
    let parts = neither (word_fault of_reset 1 before w) (words_fault of_reset 1 (before ++ w ∷ []) ws) none in
    by (is_wanted w) refl parts.1 some (one (before ++ w ∷ []) ws parts.1)
  where
    by : (b : Bool) → is_wanted w ≡ b → words_fault of_reset 1 (before ++ w ∷ []) ws ≡ None → (b || list_any is_wanted ws) ≡ true
        → (list_any is_wanted (before ++ w ∷ []) ≡ false → list_any is_wanted ws ≡ true → HasOne is_wanted ws) → HasOne is_wanted (w ∷ ws)
    by true e behind any later = record {
      front = [];
      word = w;
      back = ws;
      parts = refl;
      passes = e;
      none_before = refl;
      none_behind = none-behind (before ++ w ∷ []) ws behind (any-last before w false true absent e);
    }
    by false e behind any later =
        let rest = later (any-last before w false false absent e) any in record {
          front = w ∷ rest.front;
          word = rest.word;
          back = rest.back;
          parts = ap (λ (xs : List Word). w ∷ xs) rest.parts;
          passes = rest.passes;
          none_before = rw e rest.none_before;
          none_behind = rest.none_behind;
        }

-- the last of three that are looked for
third-there : (a b c : Bool) → option_map Missing (if a then Some required.Smds else if b then Some required.Cfstruct else if c then Some required.Access else None) ≡ None → c ≡ false
third-there true b c e = absurd cc
third-there false true c e = absurd cc
third-there false false true e = absurd cc
third-there false false false e = refl

unmissed : (b : Bool) → not b ≡ false → b ≡ true
unmissed true e = refl
unmissed false e = absurd cc

pub reset-one : (words : List Word) → verb_fault (Some verb.Reset) words ≡ None → HasOne is_wanted words
reset-one words e =
    let parts = neither (words_fault of_reset 1 [] words) (missing_fault needed_by_reset words) e in
    one [] words parts.0 refl
    (unmissed (list_any is_wanted words)
    (third-there (is_absent words required.Smds) (is_absent words required.Cfstruct) (is_absent words required.Access) parts.1))
