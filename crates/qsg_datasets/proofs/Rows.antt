-- the data sets of a member, gone through one after another
use Rattle.std.proofs.Common.{◌≡◌, ◌∙◌, sym, ap, subst, ℕ, ◌+◌, ◌<◌, List, [], ◌∷◌, ◌++◌, length, take, drop, map, get_or, slice_set, arith}
use Rattle.std.proofs.lemmas.List.{take_more, take_more_set, drop_more, drop-set-lt, length-drop, map-append}
use Rattle.qsg_datasets.specs.Kept.{KeptSet, emptied}
use Rattle.qsg_datasets.specs.Calls.{IsCut, AreCut}

-- what is behind a place, where two lists are the same from it on
pub behind : (xs ys : List KeptSet) (i : ℕ) (d : KeptSet) → i < length xs → drop i ys ≡ drop i xs → (i < length ys) × (get_or xs i d ≡ get_or ys i d) × (drop (i + 1) ys ≡ drop (i + 1) xs)
behind xs ys i d h rest =
    let low : i < length ys = omega (arith, ap (λ (l : List KeptSet). length l) rest, length-drop i xs, length-drop i ys) in
    let split = sym (drop_more ys i d low) ∙ rest ∙ drop_more xs i d h in
    (low, ap (λ (l : List KeptSet). get_or l 0 d) (sym split), ap (λ (l : List KeptSet). drop 1 l) split)

pub emptied_next : (xs ys : List KeptSet) (i : ℕ) (d y : KeptSet) → i < length xs → y ≡ emptied (get_or ys i d) → take i ys ≡ map emptied (take i xs) → drop i ys ≡ drop i xs
    → take (i + 1) (slice_set ys i y) ≡ map emptied (take (i + 1) xs)
emptied_next xs ys i d y h new done rest =
    let b = behind xs ys i d h rest in
    let next : emptied (get_or xs i d) ≡ y = ap emptied b.1 ∙ sym new in
    take_more_set ys i y b.0 ∙ ap (λ (l : List KeptSet). l ++ y ∷ []) done ∙ ap (λ (s : KeptSet). map emptied (take i xs) ++ s ∷ []) (sym next)
    ∙ sym (map-append emptied (take i xs) (get_or xs i d ∷ [])) ∙ ap (map emptied) (sym (take_more xs i d h))

pub rest_next : (xs ys : List KeptSet) (i : ℕ) (d y : KeptSet) → i < length xs → drop i ys ≡ drop i xs → drop (i + 1) (slice_set ys i y) ≡ drop (i + 1) xs
rest_next xs ys i d y h rest = drop-set-lt (i + 1) ys i y (omega arith) ∙ (behind xs ys i d h rest).2

cut_push : (xs ys : List KeptSet) (x y : KeptSet) → AreCut xs ys → IsCut x y → AreCut (xs ++ x ∷ []) (ys ++ y ∷ [])
cut_push [] [] x y are is = (is, tt)
cut_push [] (b ∷ ys) x y are is = absurd are
cut_push (a ∷ xs) [] x y are is = absurd are
cut_push (a ∷ xs) (b ∷ ys) x y are is = (are.0, cut_push xs ys x y are.1 is)

pub cut_next : (xs ys : List KeptSet) (i : ℕ) (d y : KeptSet) → i < length xs → IsCut (get_or ys i d) y → AreCut (take i xs) (take i ys) → drop i ys ≡ drop i xs
    → AreCut (take (i + 1) xs) (take (i + 1) (slice_set ys i y))
cut_next xs ys i d y h new done rest =
    let b = behind xs ys i d h rest in
    let more = cut_push (take i xs) (take i ys) (get_or xs i d) y done (subst (λ (s : KeptSet). IsCut s y) (sym b.1) new) in
    subst (λ (l : List KeptSet). AreCut l (take (i + 1) (slice_set ys i y))) (sym (take_more xs i d h))
    (subst (λ (l : List KeptSet). AreCut (take i xs ++ get_or xs i d ∷ []) l) (sym (take_more_set ys i y b.0)) more)
