-- the first fault of words, by places
use Rattle.std.proofs.Common.{◌≡◌, ℕ, zero, suc, ◌<◌, List, [], ◌∷◌, ◌++◌, take, Option, Some, None, refl, ap, sym, ◌∙◌, arith, append_assoc}
use Rattle.std.specs.Prelude.{slice_get}
use Rattle.std.specs.Option.{option_or, option_and_then}
use Rattle.std.proofs.lemmas.List.{append-nil}
use Rattle.mqsc_lex.specs.declared.words.Word.{Word}
use Rattle.mqsc_define.specs.declared.faults.DefineFault.{DefineFault}
use Rattle.mqsc_define.specs.declared.keywords.Object.{Object}
use Rattle.mqsc_define.specs.Faults.{word_fault, words_fault}
use Rattle.mqsc_define.specs.Laws.{IsFirstFault}
use Rattle.mqsc_define.proofs.Options.{either_none}

-- what is wrong with the word at a place of some words, behind others
abbrev pub fault_in : Object → List Word → List Word → ℕ → Option DefineFault
fault_in object before words place = option_and_then (word_fault object (before ++ take place words)) (slice_get words place)

pub at_first : (object : Object) (before : List Word) (w : Word) (ws : List Word) → fault_in object before (w ∷ ws) 0 ≡ word_fault object before w
at_first object before w ws = ap (λ b. word_fault object b w) (append-nil before)

pub at_next : (object : Object) (before : List Word) (w : Word) (ws : List Word) (k : ℕ) → fault_in object (before ++ w ∷ []) ws k ≡ fault_in object before (w ∷ ws) (suc k)
at_next object before w ws k = ap (λ b. option_and_then (word_fault object b) (slice_get ws k)) (append_assoc before (w ∷ []) (take k ws))

pub record IsFirstIn (object : Object) (before words : List Word) (fault : DefineFault) : Type 0 where
  pub place : ℕ
  pub stands : fault_in object before words place ≡ Some fault
  pub first : (k : ℕ) → k < place → fault_in object before words k ≡ None

pub none_from : (object : Object) (before words : List Word) → words_fault object before words ≡ None → (place : ℕ) → fault_in object before words place ≡ None
none_from object before [] none place = refl
none_from object before (w ∷ ws) none zero = at_first object before w ws ∙ (either_none (word_fault object before w) (words_fault object (before ++ w ∷ []) ws) none).0
none_from object before (w ∷ ws) none (suc k) = sym (at_next object before w ws k) ∙ none_from object (before ++ w ∷ []) ws (either_none (word_fault object before w) (words_fault object (before ++ w ∷ []) ws) none).1 k

or_none : (a b : Option DefineFault) → a ≡ None → b ≡ None → option_or a b ≡ None
or_none a b e f = rw (e, f) refl

or_first : (a b : Option DefineFault) (f : DefineFault) → a ≡ Some f → option_or a b ≡ Some f
or_first a b f e = rw e refl

or_second : (a b : Option DefineFault) (o : Option DefineFault) → a ≡ None → b ≡ o → option_or a b ≡ o
or_second a b o e f = rw (e, f) refl

pub right_from : (object : Object) (before words : List Word) → ((place : ℕ) → fault_in object before words place ≡ None) → words_fault object before words ≡ None
right_from object before [] each = refl
right_from object before (w ∷ ws) each =
    or_none (word_fault object before w) (words_fault object (before ++ w ∷ []) ws)
    (sym (at_first object before w ws) ∙ each 0)
    (right_from object (before ++ w ∷ []) ws (λ k. at_next object before w ws k ∙ each (suc k)))

pub decides_from : (object : Object) (before words : List Word) (fault : DefineFault) (place : ℕ) → fault_in object before words place ≡ Some fault → ((k : ℕ) → k < place → fault_in object before words k ≡ None) → words_fault object before words ≡ Some fault
decides_from object before [] fault place stands first = absurd (cc)
decides_from object before (w ∷ ws) fault zero stands first =
    or_first (word_fault object before w) (words_fault object (before ++ w ∷ []) ws) fault (sym (at_first object before w ws) ∙ stands)
decides_from object before (w ∷ ws) fault (suc place) stands first =
    or_second (word_fault object before w) (words_fault object (before ++ w ∷ []) ws) (Some fault)
    (sym (at_first object before w ws) ∙ first 0 (omega arith))
    (decides_from object (before ++ w ∷ []) ws fault place (at_next object before w ws place ∙ stands) (λ k less. at_next object before w ws k ∙ first (suc k) (omega arith)))

pub stands_from : (object : Object) (before words : List Word) (fault : DefineFault) → words_fault object before words ≡ Some fault → IsFirstIn object before words fault
stands_from object before [] fault e = absurd (cc)
stands_from object before (w ∷ ws) fault e = by (word_fault object before w) (stands_from object (before ++ w ∷ []) ws fault) refl e
  where
    below_none : (k : ℕ) → k < 0 → fault_in object before (w ∷ ws) k ≡ None
    below_none k less = absurd (omega arith)

    below_next : (rest : IsFirstIn object (before ++ w ∷ []) ws fault) → word_fault object before w ≡ None → (k : ℕ) → k < suc rest.place → fault_in object before (w ∷ ws) k ≡ None
    below_next rest none zero less = at_first object before w ws ∙ none
    below_next rest none (suc k) less = sym (at_next object before w ws k) ∙ rest.first k (omega arith)

    behind : IsFirstIn object (before ++ w ∷ []) ws fault → word_fault object before w ≡ None → IsFirstIn object before (w ∷ ws) fault
    behind rest none = record { place = suc rest.place; stands = sym (at_next object before w ws rest.place) ∙ rest.stands; first = below_next rest none }

    by : (o : Option DefineFault) → (words_fault object (before ++ w ∷ []) ws ≡ Some fault → IsFirstIn object (before ++ w ∷ []) ws fault) → word_fault object before w ≡ o → option_or o (words_fault object (before ++ w ∷ []) ws) ≡ Some fault → IsFirstIn object before (w ∷ ws) fault
    by None rest is f = behind (rest f) is
    by (Some g) rest is f = record { place = 0; stands = at_first object before w ws ∙ is ∙ f; first = below_none }

pub decides : (object : Object) (words : List Word) (fault : DefineFault) → IsFirstFault object words fault → words_fault object [] words ≡ Some fault
decides object words fault is = decides_from object [] words fault is.place is.stands is.first

pub stands : (object : Object) (words : List Word) (fault : DefineFault) → words_fault object [] words ≡ Some fault → IsFirstFault object words fault
stands object words fault e = let s = stands_from object [] words fault e in record { place = s.place; stands = s.stands; first = s.first }
