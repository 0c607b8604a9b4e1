-- the first fault of words, word by word
use Rattle.std.proofs.Common.{◌≡◌, ℕ, ◌+◌, ◌<◌, ◌≤◌, suc, List, [], ◌∷◌, ◌++◌, length, take, drop, get_or, Option, Some, None, sym, ◌∙◌, ap, add-one}
use Rattle.std.specs.Option.{option_or}
use Rattle.std.proofs.Math.Seq.{drop-cons, take-suc}
use Rattle.std.proofs.lemmas.List.{drop_all}
use Rattle.mqsc_lex.specs.declared.words.Word.{Word}
use Rattle.mqsc_define.specs.declared.faults.DefineFault.{DefineFault}
use Rattle.mqsc_admin.specs.declared.keywords.Keyword.{Keyword}
use Rattle.mqsc_admin.specs.Faults.{word_fault, words_fault}

-- what is left at place i, behind what stands before it
abbrev pub left_fault : List Keyword → ℕ → List Word → ℕ → Option DefineFault
left_fault allowed first words i = words_fault allowed first (take i words) (drop i words)

left-here : (allowed : List Keyword) (first : ℕ) (words : List Word) (i : ℕ) (w : Word) → i < length words → w ≡ get_or words i w
    → left_fault allowed first words i ≡ option_or (word_fault allowed first (take i words) w) (words_fault allowed first (take i words ++ w ∷ []) (drop (suc i) words))
left-here allowed first words i w lt e =
    let split : drop i words ≡ w ∷ drop (suc i) words = drop-cons words i w lt ∙ ap (λ (x : Word). x ∷ drop (suc i) words) (sym e) in
    ap (words_fault allowed first (take i words)) split

pub left-next : (allowed : List Keyword) (first : ℕ) (words : List Word) (i : ℕ) (w : Word) → i < length words → w ≡ get_or words i w
    → word_fault allowed first (take i words) w ≡ None → left_fault allowed first words i ≡ left_fault allowed first words (i + 1)
left-next allowed first words i w lt e good =
    let front : take (suc i) words ≡ take i words ++ w ∷ [] = take-suc words i w lt ∙ ap (λ (x : Word). take i words ++ x ∷ []) (sym e) in
    left-here allowed first words i w lt e
    ∙ ap (λ o. option_or o (words_fault allowed first (take i words ++ w ∷ []) (drop (suc i) words))) good
    ∙ ap (λ before. words_fault allowed first before (drop (suc i) words)) (sym front)
    ∙ ap (left_fault allowed first words) (sym (add-one i))

pub left-found : (allowed : List Keyword) (first : ℕ) (words : List Word) (i : ℕ) (w : Word) (f : DefineFault) → i < length words → w ≡ get_or words i w
    → word_fault allowed first (take i words) w ≡ Some f → left_fault allowed first words i ≡ Some f
left-found allowed first words i w f lt e bad =
    left-here allowed first words i w lt e
    ∙ ap (λ o. option_or o (words_fault allowed first (take i words ++ w ∷ []) (drop (suc i) words))) bad

pub left-end : (allowed : List Keyword) (first : ℕ) (words : List Word) (i : ℕ) → length words ≤ i → left_fault allowed first words i ≡ None
left-end allowed first words i le = ap (words_fault allowed first (take i words)) (drop_all i words le)
