-- rows changed one after another
use Rattle.std.proofs.Common.{ℕ, zero, suc, ◌+◌, ◌<◌, ◌≡◌, ◌∙◌, ap, refl, List, [], ◌∷◌, ◌++◌, length, get_or, take, drop, map, slice_set}
use Rattle.std.proofs.lemmas.List.Edits.{map_over_more}

own-default : {X : Type 0} (xs : List X) (i : ℕ) (d : X) → get_or xs i d ≡ get_or xs i (get_or xs i d)
own-default [] i d = refl
own-default (x ∷ xs) zero d = refl
own-default (x ∷ xs) (suc i) d = own-default xs i d

-- an element read and written as f gives it
pub one-more : {X : Type 0} (f : X → X) (xs ys : List X) (i : ℕ) (d y : X) → i < length xs → ys ≡ map f (take i xs) ++ drop i xs → y ≡ f (get_or ys i d) → slice_set ys i y ≡ map f (take (i + 1) xs) ++ drop (i + 1) xs
one-more f xs ys i d y h e is = ap (slice_set ys i) is ∙ map_over_more f xs ys i (get_or ys i d) h e (own-default ys i d)
