-- what one change makes of a sum
use Rattle.std.proofs.Common.{◌≡◌, ℕ, zero, suc, ◌+◌, ◌*◌, ◌<◌, ◌≤◌, Bool, true, false, cond, List, [], ◌∷◌, length, get_or, set, Some, refl, arith}
use Rattle.std.specs.Prelude.{slice_get, sum_by}
use Rattle.std.specs.Option.{option_and_then}
use Rattle.std.proofs.lemmas.List.{length-append}
use Rattle.std.proofs.lemmas.List.Sums.{sum_by-cons}
use Rattle.std.proofs.lemmas.Option.{none-some}
use Rattle.qsg_num.specs.declared.ids.Actor.{Actor}
use Rattle.qsg_objects.specs.declared.directives.Directive.{Directive}
use Rattle.qsg_requests.specs.declared.transcript.Answer.{Answer}
use Rattle.qsg_agenda.specs.Courses.{Course, same_actor, course_of, next_in, next_of, with_answer, answered}
use Rattle.qsg_pace.specs.Pace.{left_to_do, unanswered}

sum_same : {X : Type 0} (f g : X → ℕ) (xs : List X) (d : X) → ((j : ℕ) → j < length xs → g (get_or xs j d) ≡ f (get_or xs j d)) → sum_by g xs ≡ sum_by f xs
sum_same f g [] d same = refl
sum_same f g (x ∷ xs) d same =
    let here = same 0 (omega arith) in
    let rest = sum_same f g xs d (λ j less. same (suc j) (omega (arith, less))) in
    omega (arith, sum_by-cons g x xs, sum_by-cons f x xs, here, rest)

-- one element is another, and each other one counts as it did
pub sum_moved : {X : Type 0} (f g : X → ℕ) (xs : List X) (i : ℕ) (y d : X) → i < length xs → ((j : ℕ) → j < length xs → (j ≡ i → ⊥) → g (get_or xs j d) ≡ f (get_or xs j d)) → sum_by g (set xs i y) + f (get_or xs i d) ≡ sum_by f xs + g y
sum_moved f g [] i y d within same = absurd (omega (arith, within))
sum_moved f g (x ∷ xs) zero y d within same =
    let rest = sum_same f g xs d (λ j less. same (suc j) (omega (arith, less)) (λ e. absurd (omega (arith, e)))) in
    omega (arith, sum_by-cons g y xs, sum_by-cons f x xs, rest)
sum_moved f g (x ∷ xs) (suc i) y d within same =
    let here = same 0 (omega arith) (λ e. absurd (omega (arith, e))) in
    let rest = sum_moved f g xs i y d (omega (arith, within)) (λ j less differ. same (suc j) (omega (arith, less)) (λ e. differ (omega (arith, e)))) in
    omega (arith, sum_by-cons g x (set xs i y), sum_by-cons f x xs, here, rest)

-- one element is another, and each other one counts so much more at most
sum_above : {X : Type 0} (f g : X → ℕ) (xs : List X) (d : X) (c : ℕ) → ((j : ℕ) → j < length xs → g (get_or xs j d) ≤ f (get_or xs j d) + c) → sum_by g xs ≤ sum_by f xs + sum_by (λ (x : X). c) xs
sum_above f g [] d c each = omega arith
sum_above {X = X} f g (x ∷ xs) d c each =
    let here = each 0 (omega arith) in
    let rest = sum_above f g xs d c (λ j less. each (suc j) (omega (arith, less))) in
    omega (arith, sum_by-cons g x xs, sum_by-cons f x xs, sum_by-cons (λ (y : X). c) x xs, here, rest)

pub sum_raised : {X : Type 0} (f g : X → ℕ) (xs : List X) (i : ℕ) (y d : X) (c : ℕ) → i < length xs → ((j : ℕ) → j < length xs → (j ≡ i → ⊥) → g (get_or xs j d) ≤ f (get_or xs j d) + c)
    → sum_by g (set xs i y) + f (get_or xs i d) ≤ sum_by f xs + g y + sum_by (λ (x : X). c) xs
sum_raised f g [] i y d c within each = absurd (omega (arith, within))
sum_raised {X = X} f g (x ∷ xs) zero y d c within each =
    let rest = sum_above f g xs d c (λ j less. each (suc j) (omega (arith, less)) (λ e. absurd (omega (arith, e)))) in
    omega (arith, sum_by-cons g y xs, sum_by-cons f x xs, sum_by-cons (λ (z : X). c) x xs, rest)
sum_raised {X = X} f g (x ∷ xs) (suc i) y d c within each =
    let here = each 0 (omega arith) (λ e. absurd (omega (arith, e))) in
    let rest = sum_raised f g xs i y d c (omega (arith, within)) (λ j less differ. each (suc j) (omega (arith, less)) (λ e. differ (omega (arith, e)))) in
    omega (arith, sum_by-cons g x (set xs i y), sum_by-cons f x xs, sum_by-cons (λ (z : X). c) x xs, here, rest)

pub sum_fewer : {X : Type 0} (f g : X → ℕ) (xs : List X) (d : X) → ((j : ℕ) → j < length xs → g (get_or xs j d) ≤ f (get_or xs j d)) → sum_by g xs ≤ sum_by f xs
sum_fewer f g [] d each = omega arith
sum_fewer f g (x ∷ xs) d each =
    let here = each 0 (omega arith) in
    let rest = sum_fewer f g xs d (λ j less. each (suc j) (omega (arith, less))) in
    omega (arith, sum_by-cons g x xs, sum_by-cons f x xs, here, rest)

-- the same of each of eight
pub eight_times : {X : Type 0} (c : ℕ) (xs : List X) → length xs ≡ 8 → sum_by (λ (x : X). c) xs ≡ 8 * c
eight_times c [] eight = absurd (omega (arith, eight))
eight_times c (x1 ∷ []) eight = absurd (omega (arith, eight))
eight_times c (x1 ∷ x2 ∷ []) eight = absurd (omega (arith, eight))
eight_times c (x1 ∷ x2 ∷ x3 ∷ []) eight = absurd (omega (arith, eight))
eight_times c (x1 ∷ x2 ∷ x3 ∷ x4 ∷ []) eight = absurd (omega (arith, eight))
eight_times c (x1 ∷ x2 ∷ x3 ∷ x4 ∷ x5 ∷ []) eight = absurd (omega (arith, eight))
eight_times c (x1 ∷ x2 ∷ x3 ∷ x4 ∷ x5 ∷ x6 ∷ []) eight = absurd (omega (arith, eight))
eight_times c (x1 ∷ x2 ∷ x3 ∷ x4 ∷ x5 ∷ x6 ∷ x7 ∷ []) eight = absurd (omega (arith, eight))
eight_times {X = X} c (x1 ∷ x2 ∷ x3 ∷ x4 ∷ x5 ∷ x6 ∷ x7 ∷ x8 ∷ []) eight = omega (
  arith,
  sum_by-cons (λ (x : X). c) x1 (x2 ∷ x3 ∷ x4 ∷ x5 ∷ x6 ∷ x7 ∷ x8 ∷ []),
  sum_by-cons (λ (x : X). c) x2 (x3 ∷ x4 ∷ x5 ∷ x6 ∷ x7 ∷ x8 ∷ []),
  sum_by-cons (λ (x : X). c) x3 (x4 ∷ x5 ∷ x6 ∷ x7 ∷ x8 ∷ []),
  sum_by-cons (λ (x : X). c) x4 (x5 ∷ x6 ∷ x7 ∷ x8 ∷ []),
  sum_by-cons (λ (x : X). c) x5 (x6 ∷ x7 ∷ x8 ∷ []),
  sum_by-cons (λ (x : X). c) x6 (x7 ∷ x8 ∷ []),
  sum_by-cons (λ (x : X). c) x7 (x8 ∷ []),
  sum_by-cons (λ (x : X). c) x8 ([]),
)
eight_times c (x1 ∷ x2 ∷ x3 ∷ x4 ∷ x5 ∷ x6 ∷ x7 ∷ x8 ∷ x9 ∷ xs) eight = absurd (omega (arith, eight))

-- ---- directives

pub get_short : {X : Type 0} (xs : List X) (i : ℕ) (x : X) → slice_get xs i ≡ Some x → i < length xs
get_short [] i x is = absurd (none-some x is)
get_short (y ∷ xs) zero x is = omega arith
get_short (y ∷ xs) (suc i) x is = omega (arith, get_short xs i x is)

answered_one : (a : Answer) (d : Directive) (c : Course) → next_in c ≡ Some d → left_to_do (with_answer a c) + 1 ≡ left_to_do c
answered_one a d c next =
    let short = get_short c.directives (length c.answers) d next in
    let more = length-append c.answers (a ∷ []) in
    omega (arith, short, more)

-- an answer never leaves more directives
answered_few : (a : Answer) (c : Course) → left_to_do (with_answer a c) ≤ left_to_do c
answered_few a c = omega (arith, length-append c.answers (a ∷ []))

pub answered_fewer : (who : Actor) (a : Answer) (courses : List Course) → unanswered (answered who a courses) ≤ unanswered courses
answered_fewer who a [] = omega arith
answered_fewer who a (c ∷ courses) = by (same_actor c.actor who) (answered_fewer who a courses)
  where
    by : (b : Bool) → unanswered (answered who a courses) ≤ unanswered courses → unanswered (cond b (with_answer a c ∷ courses) (c ∷ answered who a courses)) ≤ unanswered (c ∷ courses)
    by true rest = omega (arith, sum_by-cons left_to_do (with_answer a c) courses, sum_by-cons left_to_do c courses, answered_few a c)
    by false rest = omega (arith, sum_by-cons left_to_do c (answered who a courses), sum_by-cons left_to_do c courses, rest)

-- an answer to the next directive of an actor
pub answered_less : (who : Actor) (a : Answer) (d : Directive) (courses : List Course) → next_of who courses ≡ Some d → unanswered (answered who a courses) + 1 ≡ unanswered courses
answered_less who a d [] next = absurd (none-some d next)
answered_less who a d (c ∷ courses) next = by (same_actor c.actor who) (answered_less who a d courses) next
  where
    by : (b : Bool) → (next_of who courses ≡ Some d → unanswered (answered who a courses) + 1 ≡ unanswered courses) → option_and_then next_in (cond b (Some c) (course_of who courses)) ≡ Some d
        → unanswered (cond b (with_answer a c ∷ courses) (c ∷ answered who a courses)) + 1 ≡ unanswered (c ∷ courses)
    by true rest next = omega (arith, sum_by-cons left_to_do (with_answer a c) courses, sum_by-cons left_to_do c courses, answered_one a d c next)
    by false rest next = omega (arith, sum_by-cons left_to_do c (answered who a courses), sum_by-cons left_to_do c courses, rest next)

pub unanswered_some : (who : Actor) (d : Directive) (courses : List Course) → next_of who courses ≡ Some d → 1 ≤ unanswered courses
unanswered_some who d [] next = absurd (none-some d next)
unanswered_some who d (c ∷ courses) next = by (same_actor c.actor who) (unanswered_some who d courses) next
  where
    by : (b : Bool) → (next_of who courses ≡ Some d → 1 ≤ unanswered courses) → option_and_then next_in (cond b (Some c) (course_of who courses)) ≡ Some d → 1 ≤ unanswered (c ∷ courses)
    by true rest next = omega (arith, sum_by-cons left_to_do c courses, get_short c.directives (length c.answers) d next)
    by false rest next = omega (arith, sum_by-cons left_to_do c courses, rest next)
