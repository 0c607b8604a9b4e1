-- what holds of each section, and how many directives there are, when a section is opened or gets a directive
use Rattle.std.proofs.Common.{◌≡◌, ℕ, ◌+◌, ◌≤◌, Bool, true, false, cond, nat_lt, List, [], ◌∷◌, ◌++◌, length, refl, arith}
use Rattle.std.specs.List.{AllByRecursion, list_any}
use Rattle.std.proofs.lemmas.List.Sums.{sum_by-cons, sum_by_push}
use Rattle.qsg_num.specs.declared.ids.Actor.{Actor}
use Rattle.qsg_num.specs.declared.ids.Actor.TheVariants.{Operator}
use Rattle.qsg_objects.specs.declared.directives.Directive.{Directive}
use Rattle.qsg_objects.proofs.Kept.{all-append}
use Rattle.qsg_draft.specs.Additions.{inserted, extended}
use Rattle.qsg_draft.specs.Lookups.{rank_of, is_section}
use Rattle.qsg_draft.specs.Plans.{works_of}
use Rattle.qsg_sysplex.specs.Plans.{directives_of}

abbrev Section : Type 0
Section = Actor × List Directive

abbrev count : Section → ℕ
count s = length s.1

-- What holds of each.

pub inserted-all : (P : Section → Type 0) (a : Actor) (ss : List Section) → P (a, []) → AllByRecursion P ss → AllByRecursion P (inserted a ss)
inserted-all P a [] new each = (new, tt)
inserted-all P a (s ∷ ss) new each = by (nat_lt (rank_of a) (rank_of s.0)) (inserted-all P a ss new each.1)
  where
    by : (b : Bool) → AllByRecursion P (inserted a ss) → AllByRecursion P (cond b ((a, []) ∷ s ∷ ss) (s ∷ inserted a ss))
    by true rest = (new, each)
    by false rest = (each.0, rest)

pub extended-all : (P : Section → Type 0) (a : Actor) (d : Directive) (ss : List Section) → ((s : Section) → P s → P (s.0, s.1 ++ d ∷ [])) → AllByRecursion P ss → AllByRecursion P (extended a d ss)
extended-all P a d [] more each = tt
extended-all P a d (s ∷ ss) more each = by (is_section a s) (extended-all P a d ss more each.1)
  where
    by : (b : Bool) → AllByRecursion P (extended a d ss) → AllByRecursion P (cond b ((s.0, s.1 ++ d ∷ []) ∷ ss) (s ∷ extended a d ss))
    by true rest = (more s each.0, each.1)
    by false rest = (each.0, rest)

pub works-all : (P : Section → Type 0) (ss : List Section) → P (Operator, []) → AllByRecursion P ss → AllByRecursion P (works_of ss)
works-all P ss last each = by (list_any (is_section Operator) ss)
  where
    by : (b : Bool) → AllByRecursion P (cond b ss (ss ++ (Operator, []) ∷ []))
    by true = each
    by false = all-append P ss (Operator, []) each last

-- How many directives there are.

pub inserted-count : (a : Actor) (ss : List Section) → directives_of (inserted a ss) ≡ directives_of ss
inserted-count a [] = refl
inserted-count a (s ∷ ss) = by (nat_lt (rank_of a) (rank_of s.0)) (inserted-count a ss)
  where
    by : (b : Bool) → directives_of (inserted a ss) ≡ directives_of ss → directives_of (cond b ((a, []) ∷ s ∷ ss) (s ∷ inserted a ss)) ≡ directives_of (s ∷ ss)
    by true rest = let h = sum_by-cons count (a, []) (s ∷ ss) in omega (arith, h)
    by false rest = let h = sum_by-cons count s (inserted a ss) in let k = sum_by-cons count s ss in omega (arith, h, k, rest)

length-push : (ds : List Directive) (d : Directive) → length (ds ++ d ∷ []) ≡ length ds + 1
length-push [] d = refl
length-push (x ∷ ds) d = let h = length-push ds d in omega (arith, h)

pub extended-count : (a : Actor) (d : Directive) (ss : List Section) → directives_of (extended a d ss) ≤ directives_of ss + 1
extended-count a d [] = omega arith
extended-count a d (s ∷ ss) = by (is_section a s) (extended-count a d ss)
  where
    by : (b : Bool) → directives_of (extended a d ss) ≤ directives_of ss + 1 → directives_of (cond b ((s.0, s.1 ++ d ∷ []) ∷ ss) (s ∷ extended a d ss)) ≤ directives_of (s ∷ ss) + 1
    by true rest =
        let h = sum_by-cons count (s.0, s.1 ++ d ∷ []) ss in let k = sum_by-cons count s ss in let one = length-push s.1 d in omega (arith, h, k, one)
    by false rest = let h = sum_by-cons count s (extended a d ss) in let k = sum_by-cons count s ss in omega (arith, h, k, rest)

pub works-count : (ss : List Section) → directives_of (works_of ss) ≡ directives_of ss
works-count ss = by (list_any (is_section Operator) ss)
  where
    by : (b : Bool) → directives_of (cond b ss (ss ++ (Operator, []) ∷ [])) ≡ directives_of ss
    by true = refl
    by false = let h = sum_by_push count ss (Operator, []) in omega (arith, h)
