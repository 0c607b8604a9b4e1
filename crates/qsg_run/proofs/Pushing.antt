-- lists that grow by what each item gives
use Rattle.std.proofs.Common.{◌≡◌, ℕ, ◌+◌, ◌-◌, ◌<◌, ◌≤◌, List, [], ◌∷◌, ◌++◌, length, take, get_or, map, Option, Some, None, suc, zero, refl, sym, ap, ◌∙◌, append_assoc, add-one, arith}
use Rattle.std.specs.Prelude.{option_map, slice_get}
use Rattle.std.specs.List.{cons_option, filter_map, flat_map}
use Rattle.std.proofs.lemmas.Grind.{flat_map-append}
use Rattle.std.proofs.lemmas.List.{take_more, append-nil}
use Rattle.qsg_num.specs.declared.seats.Member.{Member}
use Rattle.qsg_num.specs.Seats.{member_number}
use Rattle.qsg_report.specs.declared.shown.ShownDataSet.{ShownDataSet}
use Rattle.qsg_step.specs.States.{State}
use Rattle.qsg_shown.specs.Showing.{datasets_at}

opened : {X : Type 0} (o : Option X) (xs : List X) → cons_option o xs ≡ cons_option o [] ++ xs
opened None xs = refl
opened (Some x) xs = refl

filter_more : {X Y : Type 0} (f : X → Option Y) (xs : List X) (x : X) → filter_map f (xs ++ x ∷ []) ≡ filter_map f xs ++ cons_option (f x) []
filter_more f [] x = refl
filter_more f (y ∷ ys) x =
    ap (cons_option (f y)) (filter_more f ys x)
    ∙ opened (f y) (filter_map f ys ++ cons_option (f x) [])
    ∙ sym (append_assoc (cons_option (f y) []) (filter_map f ys) (cons_option (f x) []))
    ∙ ap (λ (l : List _). l ++ cons_option (f x) []) (sym (opened (f y) (filter_map f ys)))

-- what one item more gives
pub given_more : {X Y : Type 0} (f : X → Option Y) (xs : List X) (i : ℕ) (d : X) (old now new : List Y) → i < length xs → now ≡ old ++ filter_map f (take i xs)
    → new ≡ now ++ cons_option (f (get_or xs i d)) [] → new ≡ old ++ filter_map f (take (i + 1) xs)
given_more f xs i d old now new lt so_far is =
    is ∙ ap (λ (l : List _). l ++ cons_option (f (get_or xs i d)) []) so_far
    ∙ append_assoc old (filter_map f (take i xs)) (cons_option (f (get_or xs i d)) [])
    ∙ ap (λ (l : List _). old ++ l) (sym (ap (filter_map f) (take_more xs i d lt) ∙ filter_more f (take i xs) (get_or xs i d)))

map_more : {X Y : Type 0} (f : X → Y) (xs : List X) (at : ℕ) → at < length xs → map f (take (suc at) xs) ≡ map f (take at xs) ++ cons_option (option_map f (slice_get xs at)) []
map_more f [] at within = absurd (omega (arith, within))
map_more f (x ∷ xs) zero within = refl
map_more f (x ∷ xs) (suc at) within = ap (λ (l : List _). f x ∷ l) (map_more f xs at (omega (arith, within)))

pub mapped_more : {X Y : Type 0} (f : X → Y) (xs : List X) (at : ℕ) (old now new : List Y) → at < length xs → now ≡ old ++ map f (take at xs)
    → new ≡ now ++ cons_option (option_map f (slice_get xs at)) [] → new ≡ old ++ map f (take (at + 1) xs)
mapped_more f xs at old now new within so_far is =
    rw add-one (is ∙ ap (λ (l : List _). l ++ cons_option (option_map f (slice_get xs at)) []) so_far
    ∙ append_assoc old (map f (take at xs)) (cons_option (option_map f (slice_get xs at)) [])
    ∙ ap (λ (l : List _). old ++ l) (sym (map_more f xs at within)))

none_at : {X : Type 0} (xs : List X) (i : ℕ) → length xs ≤ i → slice_get xs i ≡ None
none_at [] i beyond = refl
none_at (x ∷ xs) zero beyond = absurd (omega (arith, beyond))
none_at (x ∷ xs) (suc i) beyond = none_at xs i (omega (arith, beyond))

-- what is past the end gives nothing
pub nothing_given : {X Y : Type 0} (f : X → Y) (items : List Y) (xs : List X) (i : ℕ) → length xs ≤ i → items ≡ items ++ cons_option (option_map f (slice_get xs i)) []
nothing_given f items xs i beyond = rw (none_at xs i beyond) (sym (append-nil items))

-- what one item more gives, where each gives a list
pub joined_more : {X Y : Type 0} (f : X → List Y) (xs : List X) (i : ℕ) (d : X) (old now new : List Y) → i < length xs → now ≡ old ++ flat_map f (take i xs)
    → new ≡ now ++ f (get_or xs i d) → new ≡ old ++ flat_map f (take (i + 1) xs)
joined_more f xs i d old now new lt so_far is =
    let one : flat_map f (take (i + 1) xs) ≡ flat_map f (take i xs) ++ f (get_or xs i d)
    = ap (flat_map f) (take_more xs i d lt) ∙ (flat_map-append f (take i xs) (get_or xs i d ∷ []) ∙ ap (λ (l : List _). flat_map f (take i xs) ++ l) (append-nil (f (get_or xs i d)))) in
    is ∙ ap (λ (l : List _). l ++ f (get_or xs i d)) so_far
    ∙ append_assoc old (flat_map f (take i xs)) (f (get_or xs i d))
    ∙ ap (λ (l : List _). old ++ l) (sym one)

-- a member that the group doesn't have has no data sets
pub no_row : (items : List ShownDataSet) (s : State) (m : Member) → length s.members ≤ member_number m - 1 → items ≡ items ++ datasets_at s m
no_row items s m beyond = rw (none_at s.members (member_number m - 1) beyond) (sym (append-nil items))
