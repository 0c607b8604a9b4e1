-- keep is the last page that is before all that may be needed
use Rattle.std.proofs.Common.{ℕ, zero, suc, ◌≤◌, ◌≡◌, ap, refl, arith, min, Bool, true, false, cond, List, [], ◌∷◌, ◌++◌, get_or, map, filter, slice_set, Option, Some, None}
use Rattle.std.specs.List.{flat_map}
use Rattle.std.proofs.lemmas.Bool.{false≢true}
use Rattle.qsg_num.specs.declared.seats.Member.{Member}
use Rattle.qsg_num.specs.declared.seats.StructNo.{StructNo}
use Rattle.qsg_num.specs.declared.seats.StructNo.TheVariants.{One, Two, Three, Four}
use Rattle.qsg_num.specs.declared.ids.PageNo.{PageNo}
use Rattle.qsg_repo.specs.declared.needs.Holds.{Holds}
use Rattle.qsg_repo.specs.Tables.{Repository, low_of, note_at, recovers}
use Rattle.qsg_repo.specs.Keeping.{least, noted_page, noted_pages, structures, held_pages, pages_held, keep, IsFromHold, IsFromTasks, IsFromMembers, IsBeforeAllNeeded}

abbrev AllFrom : ℕ → List ℕ → Type 0
AllFrom q [] = Unit {0}
AllFrom q (x ∷ xs) = (q ≤ x) × AllFrom q xs

least-first : (first : ℕ) (xs : List ℕ) → least first xs ≤ first
least-first first [] = omega arith
least-first first (x ∷ xs) = let rest = least-first (min first x) xs in omega (arith, rest)

least-all : (first : ℕ) (xs : List ℕ) → AllFrom (least first xs) xs
least-all first [] = tt
least-all first (x ∷ xs) = let rest = least-first (min first x) xs in (omega (arith, rest), least-all (min first x) xs)

least-from : (q first : ℕ) (xs : List ℕ) → q ≤ first → AllFrom q xs → q ≤ least first xs
least-from q first [] h all = h
least-from q first (x ∷ xs) h all = least-from q (min first x) xs (omega (arith, h, all.0)) all.1

all-weaker : (p q : ℕ) (xs : List ℕ) → p ≤ q → AllFrom q xs → AllFrom p xs
all-weaker p q [] h all = tt
all-weaker p q (x ∷ xs) h all = (omega (arith, h, all.0), all-weaker p q xs h all.1)

all-append : (q : ℕ) (xs ys : List ℕ) → AllFrom q xs → AllFrom q ys → AllFrom q (xs ++ ys)
all-append q [] ys a b = b
all-append q (x ∷ xs) ys a b = (a.0, all-append q xs ys a.1 b)

all-left : (q : ℕ) (xs ys : List ℕ) → AllFrom q (xs ++ ys) → AllFrom q xs
all-left q [] ys a = tt
all-left q (x ∷ xs) ys a = (a.0, all-left q xs ys a.1)

all-right : (q : ℕ) (xs ys : List ℕ) → AllFrom q (xs ++ ys) → AllFrom q ys
all-right q [] ys a = a
all-right q (x ∷ xs) ys a = all-right q xs ys a.1

-- holds
tasks-to : (m : Member) (q : ℕ) (hs : List (Option (List PageNo))) → IsFromTasks m q hs → AllFrom q (held_pages m hs)
tasks-to m q [] h = tt
tasks-to m q (None ∷ hs) h = tasks-to m q hs h.1
tasks-to m q (Some lows ∷ hs) h = (h.0, tasks-to m q hs h.1)

tasks-of : (m : Member) (q : ℕ) (hs : List (Option (List PageNo))) → AllFrom q (held_pages m hs) → IsFromTasks m q hs
tasks-of m q [] h = tt
tasks-of m q (None ∷ hs) h = (tt, tasks-of m q hs h)
tasks-of m q (Some lows ∷ hs) h = (h.0, tasks-of m q hs h.1)

members-to : (m : Member) (q : ℕ) (rows : List Holds) → IsFromMembers m q rows → AllFrom q (flat_map (pages_held m) rows)
members-to m q [] h = tt
members-to m q (row ∷ rows) h = all-append q (held_pages m row.tasks) (flat_map (pages_held m) rows) (tasks-to m q row.tasks h.0) (members-to m q rows h.1)

members-of : (m : Member) (q : ℕ) (rows : List Holds) → AllFrom q (flat_map (pages_held m) rows) → IsFromMembers m q rows
members-of m q [] h = tt
members-of m q (row ∷ rows) h = (tasks-of m q row.tasks (all-left q (held_pages m row.tasks) (flat_map (pages_held m) rows) h), members-of m q rows (all-right q (held_pages m row.tasks) (flat_map (pages_held m) rows) h))

-- notes
chosen : (q : ℕ) (f : StructNo → ℕ) (b : Bool) (s : StructNo) (rest : List StructNo) → (b ≡ true → q ≤ f s) → AllFrom q (map f rest) → AllFrom q (map f (cond b (s ∷ rest) rest))
chosen q f true s rest h all = (h refl, all)
chosen q f false s rest h all = all

chosen-here : (q : ℕ) (f : StructNo → ℕ) (b : Bool) (s : StructNo) (rest : List StructNo) → AllFrom q (map f (cond b (s ∷ rest) rest)) → b ≡ true → q ≤ f s
chosen-here q f true s rest all e = all.0
chosen-here q f false s rest all e = absurd (false≢true e)

chosen-rest : (q : ℕ) (f : StructNo → ℕ) (b : Bool) (s : StructNo) (rest : List StructNo) → AllFrom q (map f (cond b (s ∷ rest) rest)) → AllFrom q (map f rest)
chosen-rest q f true s rest all = all.1
chosen-rest q f false s rest all = all

notes-to : (q : ℕ) (f : StructNo → ℕ) (t : StructNo → Bool) (ss : List StructNo) → ((s : StructNo) → t s ≡ true → q ≤ f s) → AllFrom q (map f (filter t ss))
notes-to q f t [] h = tt
notes-to q f t (s ∷ ss) h = chosen q f (t s) s (filter t ss) (h s) (notes-to q f t ss h)

notes-of : (q : ℕ) (f : StructNo → ℕ) (t : StructNo → Bool) → AllFrom q (map f (filter t structures)) → (s : StructNo) → t s ≡ true → q ≤ f s
notes-of q f t all One e = chosen-here q f (t One) One (filter t (Two ∷ Three ∷ Four ∷ [])) all e
notes-of q f t all Two e =
    let one = chosen-rest q f (t One) One (filter t (Two ∷ Three ∷ Four ∷ [])) all in
    chosen-here q f (t Two) Two (filter t (Three ∷ Four ∷ [])) one e
notes-of q f t all Three e =
    let one = chosen-rest q f (t One) One (filter t (Two ∷ Three ∷ Four ∷ [])) all in
    let two = chosen-rest q f (t Two) Two (filter t (Three ∷ Four ∷ [])) one in
    chosen-here q f (t Three) Three (filter t (Four ∷ [])) two e
notes-of q f t all Four e =
    let one = chosen-rest q f (t One) One (filter t (Two ∷ Three ∷ Four ∷ [])) all in
    let two = chosen-rest q f (t Two) Two (filter t (Three ∷ Four ∷ [])) one in
    let three = chosen-rest q f (t Three) Three (filter t (Four ∷ [])) two in
    chosen-here q f (t Four) Four [] three e

pub keep-before : (m : Member) (repo : Repository) → IsBeforeAllNeeded m (keep m repo) repo
keep-before m repo =
    let low = (low_of m repo).number in
    let noted = least low (noted_pages m repo) in
    let rows = flat_map (pages_held m) repo.holds in
    let below = least-first noted rows in
    let first = least-first low (noted_pages m repo) in
    record {
      low = omega (arith, below, first);
      notes = notes-of (keep m repo) (λ s. noted_page m (note_at s repo)) (λ s. recovers s repo) (all-weaker (keep m repo) noted (noted_pages m repo) below (least-all low (noted_pages m repo)));
      holds = members-of m (keep m repo) repo.holds (least-all noted rows);
    }

pub keep-last : (m : Member) (q : ℕ) (repo : Repository) → IsBeforeAllNeeded m q repo → q ≤ keep m repo
keep-last m q repo h =
    least-from q (least (low_of m repo).number (noted_pages m repo)) (flat_map (pages_held m) repo.holds)
    (least-from q (low_of m repo).number (noted_pages m repo) h.low (notes-to q (λ s. noted_page m (note_at s repo)) (λ s. recovers s repo) structures h.notes))
    (members-to m q repo.holds h.holds)

-- a table with one place changed
pub set-holds : {X : Type 0} (P : X → Type 0) (xs : List X) (i j : ℕ) (d y : X) → P (get_or xs i d) → (i ≡ j → P y) → P (get_or (slice_set xs j y) i d)
set-holds P [] i j d y h g = h
set-holds P (x ∷ xs) zero zero d y h g = g refl
set-holds P (x ∷ xs) zero (suc j) d y h g = h
set-holds P (x ∷ xs) (suc i) zero d y h g = h
set-holds P (x ∷ xs) (suc i) (suc j) d y h g = set-holds P xs i j d y h (λ e. g (ap suc e))

pub tasks-set : (m : Member) (q : ℕ) (hs : List (Option (List PageNo))) (i : ℕ) (hold : Option (List PageNo)) → IsFromTasks m q hs → IsFromHold m q hold → IsFromTasks m q (slice_set hs i hold)
tasks-set m q [] i hold h g = tt
tasks-set m q (x ∷ hs) zero hold h g = (g, h.1)
tasks-set m q (x ∷ hs) (suc i) hold h g = (h.0, tasks-set m q hs i hold h.1 g)

pub tasks-at : (m : Member) (q : ℕ) (hs : List (Option (List PageNo))) (i : ℕ) → IsFromTasks m q hs → IsFromHold m q (get_or hs i None)
tasks-at m q [] i h = tt
tasks-at m q (x ∷ hs) zero h = h.0
tasks-at m q (x ∷ hs) (suc i) h = tasks-at m q hs i h.1

pub members-set : (m : Member) (q : ℕ) (rows : List Holds) (i : ℕ) (tasks : List (Option (List PageNo))) → IsFromMembers m q rows → IsFromTasks m q tasks → IsFromMembers m q (slice_set rows i (record { tasks = tasks }))
members-set m q [] i tasks h g = tt
members-set m q (x ∷ rows) zero tasks h g = (g, h.1)
members-set m q (x ∷ rows) (suc i) tasks h g = (h.0, members-set m q rows i tasks h.1 g)

pub members-at : (m : Member) (q : ℕ) (rows : List Holds) (i : ℕ) → IsFromMembers m q rows → IsFromTasks m q (get_or rows i (record { tasks = [] })).tasks
members-at m q [] i h = tt
members-at m q (x ∷ rows) zero h = h.0
members-at m q (x ∷ rows) (suc i) h = members-at m q rows i h.1
