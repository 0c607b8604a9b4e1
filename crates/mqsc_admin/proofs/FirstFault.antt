-- the first fault of words, by places
use Rattle.std.proofs.Common.{◌≡◌, ℕ, zero, suc, ◌<◌, List, [], ◌∷◌, ◌++◌, take, Option, Some, None, refl, ap, sym, ◌∙◌, arith, append_assoc}
use Rattle.std.specs.Prelude.{slice_get}
use Rattle.std.specs.Option.{option_or, option_and_then}
use Rattle.std.proofs.lemmas.List.{append-nil}
use Rattle.mqsc_lex.specs.declared.words.Word.{Word}
use Rattle.mqsc_define.specs.declared.faults.DefineFault.{DefineFault}
use Rattle.mqsc_admin.specs.declared.keywords.Keyword.{Keyword}
use Rattle.mqsc_admin.specs.Faults.{word_fault, words_fault}
use Rattle.mqsc_admin.specs.Laws.{IsFirstFault}
use Rattle.mqsc_admin.proofs.Options.{neither, or_none, or_first, or_second}

-- what is wrong with the word at a place of some words, behind others
abbrev pub fault_in : List Keyword → ℕ → List Word → List Word → ℕ → Option DefineFault
fault_in allowed first before words place = option_and_then (word_fault allowed first (before ++ take place words)) (slice_get words place)

at_first : (allowed : List Keyword) (first : ℕ) (before : List Word) (w : Word) (ws : List Word)
    → fault_in allowed first before (w ∷ ws) 0 ≡ word_fault allowed first before w
at_first allowed first before w ws = ap (λ b. word_fault allowed first b w) (append-nil before)

at_next : (allowed : List Keyword) (first : ℕ) (before : List Word) (w : Word) (ws : List Word) (k : ℕ)
    → fault_in allowed first (before ++ w ∷ []) ws k ≡ fault_in allowed first before (w ∷ ws) (suc k)
at_next allowed first before w ws k = ap (λ b. option_and_then (word_fault allowed first b) (slice_get ws k)) (append_assoc before (w ∷ []) (take k ws))

record IsFirstIn (allowed : List Keyword) (first : ℕ) (before words : List Word) (fault : DefineFault) : Type 0 where
  place : ℕ
  stands : fault_in allowed first before words place ≡ Some fault
  none_before : (k : ℕ) → k < place → fault_in allowed first before words k ≡ None

pub none_from : (allowed : List Keyword) (first : ℕ) (before words : List Word) → words_fault allowed first before words ≡ None
    → (place : ℕ) → fault_in allowed first before words place ≡ None
none_from allowed first before [] none place = refl
none_from allowed first before (w ∷ ws) none zero =
    at_first allowed first before w ws ∙ (neither (word_fault allowed first before w) (words_fault allowed first (before ++ w ∷ []) ws) none).0
none_from allowed first before (w ∷ ws) none (suc k) =
    sym (at_next allowed first before w ws k)
    ∙ none_from allowed first (before ++ w ∷ []) ws (neither (word_fault allowed first before w) (words_fault allowed first (before ++ w ∷ []) ws) none).1 k

pub right_from : (allowed : List Keyword) (first : ℕ) (before words : List Word) → ((place : ℕ) → fault_in allowed first before words place ≡ None)
    → words_fault allowed first before words ≡ None
right_from allowed first before [] each = refl
right_from allowed first before (w ∷ ws) each =
    or_none (word_fault allowed first before w) (words_fault allowed first (before ++ w ∷ []) ws)
    (sym (at_first allowed first before w ws) ∙ each 0)
    (right_from allowed first (before ++ w ∷ []) ws (λ k. at_next allowed first before w ws k ∙ each (suc k)))

decides_from : (allowed : List Keyword) (first : ℕ) (before words : List Word) (fault : DefineFault) (place : ℕ)
    → fault_in allowed first before words place ≡ Some fault → ((k : ℕ) → k < place → fault_in allowed first before words k ≡ None)
    → words_fault allowed first before words ≡ Some fault
decides_from allowed first before [] fault place stands none = absurd cc
decides_from allowed first before (w ∷ ws) fault zero stands none =
    or_first (word_fault allowed first before w) (words_fault allowed first (before ++ w ∷ []) ws) fault (sym (at_first allowed first before w ws) ∙ stands)
decides_from allowed first before (w ∷ ws) fault (suc place) stands none =
    or_second (word_fault allowed first before w) (words_fault allowed first (before ++ w ∷ []) ws) (Some fault)
    (sym (at_first allowed first before w ws) ∙ none 0 (omega arith))
    (decides_from allowed first (before ++ w ∷ []) ws fault place (at_next allowed first before w ws place ∙ stands)
    (λ k less. at_next allowed first before w ws k ∙ none (suc k) (omega arith)))

stands_from : (allowed : List Keyword) (first : ℕ) (before words : List Word) (fault : DefineFault) → words_fault allowed first before words ≡ Some fault
    → IsFirstIn allowed first before words fault
stands_from allowed first before [] fault e = absurd cc
stands_from allowed first before (w ∷ ws) fault e = by (word_fault allowed first before w) refl e (stands_from allowed first (before ++ w ∷ []) ws fault)
  where
    below_none : (k : ℕ) → k < 0 → fault_in allowed first before (w ∷ ws) k ≡ None
    below_none k less = absurd (omega arith)

    below_next : (rest : IsFirstIn allowed first (before ++ w ∷ []) ws fault) → word_fault allowed first before w ≡ None
        → (k : ℕ) → k < suc rest.place → fault_in allowed first before (w ∷ ws) k ≡ None
    below_next rest none zero less = at_first allowed first before w ws ∙ none
    below_next rest none (suc k) less = sym (at_next allowed first before w ws k) ∙ rest.none_before k (omega arith)

    behind : IsFirstIn allowed first (before ++ w ∷ []) ws fault → word_fault allowed first before w ≡ None → IsFirstIn allowed first before (w ∷ ws) fault
    behind rest none =
        record { place = suc rest.place; stands = sym (at_next allowed first before w ws rest.place) ∙ rest.stands; none_before = below_next rest none }

    by : (o : Option DefineFault) → word_fault allowed first before w ≡ o → option_or o (words_fault allowed first (before ++ w ∷ []) ws) ≡ Some fault
        → (words_fault allowed first (before ++ w ∷ []) ws ≡ Some fault → IsFirstIn allowed first (before ++ w ∷ []) ws fault)
        → IsFirstIn allowed first before (w ∷ ws) fault
    by None is f later = behind (later f) is
    by (Some g) is f later = record { place = 0; stands = at_first allowed first before w ws ∙ is ∙ f; none_before = below_none }

pub decides : (allowed : List Keyword) (first : ℕ) (words : List Word) (fault : DefineFault) → IsFirstFault allowed first words fault
    → words_fault allowed first [] words ≡ Some fault
decides allowed first words fault is = decides_from allowed first [] words fault is.place is.stands is.none_before

pub stands : (allowed : List Keyword) (first : ℕ) (words : List Word) (fault : DefineFault) → words_fault allowed first [] words ≡ Some fault
    → IsFirstFault allowed first words fault
stands allowed first words fault e =
    let s = stands_from allowed first [] words fault e in record { place = s.place; stands = s.stands; none_before = s.none_before }
