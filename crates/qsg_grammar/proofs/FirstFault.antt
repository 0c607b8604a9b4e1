-- the first fault of words, by places
use Rattle.std.proofs.Common.{◌≡◌, ℕ, zero, suc, ◌<◌, List, [], ◌∷◌, ◌++◌, take, Option, Some, None, refl, ap, sym, ◌∙◌, arith, append_assoc}
use Rattle.std.specs.Prelude.{slice_get}
use Rattle.std.specs.Option.{option_or, option_and_then}
use Rattle.std.proofs.lemmas.List.{append-nil}
use Rattle.mqsc_lex.specs.declared.words.Word.{Word}
use Rattle.qsg_grammar.specs.declared.faults.Fault.{Fault}
use Rattle.qsg_draft.specs.Contents.{Contents}
use Rattle.qsg_grammar.specs.declared.kinds.Row.{Row}
use Rattle.qsg_grammar.specs.Faults.{word_fault, words_fault}
use Rattle.qsg_grammar.specs.Laws.{IsFirstFault}
use Rattle.qsg_grammar.proofs.Options.{neither, or_none, or_first, or_second}

-- what is wrong with the word at a place of some words, behind others
abbrev pub fault_in : Contents → Row → List Word → List Word → ℕ → Option Fault
fault_in c row before words place = option_and_then (word_fault c row (before ++ take place words)) (slice_get words place)

at_first : (c : Contents) (row : Row) (before : List Word) (w : Word) (ws : List Word)
    → fault_in c row before (w ∷ ws) 0 ≡ word_fault c row before w
at_first c row before w ws = ap (λ b. word_fault c row b w) (append-nil before)

at_next : (c : Contents) (row : Row) (before : List Word) (w : Word) (ws : List Word) (k : ℕ)
    → fault_in c row (before ++ w ∷ []) ws k ≡ fault_in c row before (w ∷ ws) (suc k)
at_next c row before w ws k = ap (λ b. option_and_then (word_fault c row b) (slice_get ws k)) (append_assoc before (w ∷ []) (take k ws))

record IsFirstIn (c : Contents) (row : Row) (before words : List Word) (fault : Fault) : Type 0 where
  place : ℕ
  stands : fault_in c row before words place ≡ Some fault
  none_before : (k : ℕ) → k < place → fault_in c row before words k ≡ None

pub none_from : (c : Contents) (row : Row) (before words : List Word) → words_fault c row before words ≡ None
    → (place : ℕ) → fault_in c row before words place ≡ None
none_from c row before [] none place = refl
none_from c row before (w ∷ ws) none zero =
    at_first c row before w ws ∙ (neither (word_fault c row before w) (words_fault c row (before ++ w ∷ []) ws) none).0
none_from c row before (w ∷ ws) none (suc k) =
    sym (at_next c row before w ws k)
    ∙ none_from c row (before ++ w ∷ []) ws (neither (word_fault c row before w) (words_fault c row (before ++ w ∷ []) ws) none).1 k

pub right_from : (c : Contents) (row : Row) (before words : List Word) → ((place : ℕ) → fault_in c row before words place ≡ None)
    → words_fault c row before words ≡ None
right_from c row before [] each = refl
right_from c row before (w ∷ ws) each =
    or_none (word_fault c row before w) (words_fault c row (before ++ w ∷ []) ws)
    (sym (at_first c row before w ws) ∙ each 0)
    (right_from c row (before ++ w ∷ []) ws (λ k. at_next c row before w ws k ∙ each (suc k)))

decides_from : (c : Contents) (row : Row) (before words : List Word) (fault : Fault) (place : ℕ)
    → fault_in c row before words place ≡ Some fault → ((k : ℕ) → k < place → fault_in c row before words k ≡ None)
    → words_fault c row before words ≡ Some fault
decides_from c row before [] fault place stands none = absurd cc
decides_from c row before (w ∷ ws) fault zero stands none =
    or_first (word_fault c row before w) (words_fault c row (before ++ w ∷ []) ws) fault (sym (at_first c row before w ws) ∙ stands)
decides_from c row before (w ∷ ws) fault (suc place) stands none =
    or_second (word_fault c row before w) (words_fault c row (before ++ w ∷ []) ws) (Some fault)
    (sym (at_first c row before w ws) ∙ none 0 (omega arith))
    (decides_from c row (before ++ w ∷ []) ws fault place (at_next c row before w ws place ∙ stands)
    (λ k less. at_next c row before w ws k ∙ none (suc k) (omega arith)))

stands_from : (c : Contents) (row : Row) (before words : List Word) (fault : Fault) → words_fault c row before words ≡ Some fault
    → IsFirstIn c row before words fault
stands_from c row before [] fault e = absurd cc
stands_from c row before (w ∷ ws) fault e = by (word_fault c row before w) refl e (stands_from c row (before ++ w ∷ []) ws fault)
  where
    below_none : (k : ℕ) → k < 0 → fault_in c row before (w ∷ ws) k ≡ None
    below_none k less = absurd (omega arith)

    below_next : (rest : IsFirstIn c row (before ++ w ∷ []) ws fault) → word_fault c row before w ≡ None
        → (k : ℕ) → k < suc rest.place → fault_in c row before (w ∷ ws) k ≡ None
    below_next rest none zero less = at_first c row before w ws ∙ none
    below_next rest none (suc k) less = sym (at_next c row before w ws k) ∙ rest.none_before k (omega arith)

    behind : IsFirstIn c row (before ++ w ∷ []) ws fault → word_fault c row before w ≡ None → IsFirstIn c row before (w ∷ ws) fault
    behind rest none =
        record { place = suc rest.place; stands = sym (at_next c row before w ws rest.place) ∙ rest.stands; none_before = below_next rest none }

    by : (o : Option Fault) → word_fault c row before w ≡ o → option_or o (words_fault c row (before ++ w ∷ []) ws) ≡ Some fault
        → (words_fault c row (before ++ w ∷ []) ws ≡ Some fault → IsFirstIn c row (before ++ w ∷ []) ws fault)
        → IsFirstIn c row before (w ∷ ws) fault
    by None is f later = behind (later f) is
    by (Some g) is f later = record { place = 0; stands = at_first c row before w ws ∙ is ∙ f; none_before = below_none }

pub decides : (c : Contents) (row : Row) (words : List Word) (fault : Fault) → IsFirstFault c row words fault
    → words_fault c row [] words ≡ Some fault
decides c row words fault is = decides_from c row [] words fault is.place is.stands is.none_before

pub stands : (c : Contents) (row : Row) (words : List Word) (fault : Fault) → words_fault c row [] words ≡ Some fault
    → IsFirstFault c row words fault
stands c row words fault e =
    let s = stands_from c row [] words fault e in record { place = s.place; stands = s.stands; none_before = s.none_before }
