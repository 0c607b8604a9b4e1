-- the first fault of words, word by word
use Rattle.std.proofs.Common.{◌≡◌, ℕ, ◌+◌, ◌<◌, ◌≤◌, suc, List, [], ◌∷◌, ◌++◌, length, take, drop, get_or, Option, Some, None, sym, ◌∙◌, ap, add-one}
use Rattle.std.specs.Option.{option_or}
use Rattle.std.proofs.Math.Seq.{drop-cons, take-suc}
use Rattle.std.proofs.lemmas.List.{drop_all}
use Rattle.mqsc_lex.specs.declared.words.Word.{Word}
use Rattle.qsg_grammar.specs.declared.faults.Fault.{Fault}
use Rattle.qsg_draft.specs.Contents.{Contents}
use Rattle.qsg_grammar.specs.declared.kinds.Row.{Row}
use Rattle.qsg_grammar.specs.Faults.{word_fault, words_fault}

-- what is left at place i, behind what stands before it
abbrev pub left_fault : Contents → Row → List Word → ℕ → Option Fault
left_fault c row words i = words_fault c row (take i words) (drop i words)

left-here : (c : Contents) (row : Row) (words : List Word) (i : ℕ) (w : Word) → i < length words → w ≡ get_or words i w
    → left_fault c row words i ≡ option_or (word_fault c row (take i words) w) (words_fault c row (take i words ++ w ∷ []) (drop (suc i) words))
left-here c row words i w lt e =
    let split : drop i words ≡ w ∷ drop (suc i) words = drop-cons words i w lt ∙ ap (λ (x : Word). x ∷ drop (suc i) words) (sym e) in
    ap (words_fault c row (take i words)) split

pub left-next : (c : Contents) (row : Row) (words : List Word) (i : ℕ) (w : Word) → i < length words → w ≡ get_or words i w
    → word_fault c row (take i words) w ≡ None → left_fault c row words i ≡ left_fault c row words (i + 1)
left-next c row words i w lt e good =
    let front : take (suc i) words ≡ take i words ++ w ∷ [] = take-suc words i w lt ∙ ap (λ (x : Word). take i words ++ x ∷ []) (sym e) in
    left-here c row words i w lt e
    ∙ ap (λ o. option_or o (words_fault c row (take i words ++ w ∷ []) (drop (suc i) words))) good
    ∙ ap (λ before. words_fault c row before (drop (suc i) words)) (sym front)
    ∙ ap (left_fault c row words) (sym (add-one i))

pub left-found : (c : Contents) (row : Row) (words : List Word) (i : ℕ) (w : Word) (f : Fault) → i < length words → w ≡ get_or words i w
    → word_fault c row (take i words) w ≡ Some f → left_fault c row words i ≡ Some f
left-found c row words i w f lt e bad =
    left-here c row words i w lt e
    ∙ ap (λ o. option_or o (words_fault c row (take i words ++ w ∷ []) (drop (suc i) words))) bad

pub left-end : (c : Contents) (row : Row) (words : List Word) (i : ℕ) → length words ≤ i → left_fault c row words i ≡ None
left-end c row words i le = ap (words_fault c row (take i words)) (drop_all i words le)
