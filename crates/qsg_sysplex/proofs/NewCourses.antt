-- what the actors of a plan are to do, before they did anything
use Rattle.std.proofs.Common.{◌≡◌, ◌≤◌, ◌+◌, ℕ, Bool, true, false, cond, List, [], ◌∷◌, length, Option, Some, map, refl, subst}
use Rattle.std.specs.Prelude.{IfSome, find, fold}
use Rattle.std.specs.List.{AllByRecursion}
use Rattle.std.proofs.lemmas.List.Sums.{sum_by-le-sum_by, count_by-le-length}
use Rattle.qsg_num.specs.declared.ids.Actor.{Actor}
use Rattle.qsg_objects.specs.declared.directives.Directive.{Directive}
use Rattle.qsg_objects.specs.Registry.{Registry, is_queue}
use Rattle.qsg_agenda.specs.Courses.{Course, begun}
use Rattle.qsg_fit.specs.Outcomes.{IsPlaced}
use Rattle.qsg_step.specs.States.{IsCourseRight}
use Rattle.qsg_sound.specs.Sound.{directives_in, is_start, starts_in as starts_in_course, starts_left, IsCourseWithin}
use Rattle.qsg_sound.specs.Founding.{IsUnanswered}
use Rattle.qsg_sysplex.specs.Plans.{AreRight, AreWithin, directives_of, IsOnOneOf}
use Rattle.qsg_sysplex.specs.Starting.{starts_in, starts_of}

pub all_right : (works : List (Actor × List Directive)) → AllByRecursion AreRight works → AllByRecursion IsCourseRight (map begun works)
all_right [] each = tt
all_right ((who, directives) ∷ works) each = (each.0, all_right works each.1)

pub all_unanswered : (works : List (Actor × List Directive)) → AllByRecursion IsUnanswered (map begun works)
all_unanswered [] = tt
all_unanswered ((who, directives) ∷ works) = (refl, all_unanswered works)

pub all_within : (n : ℕ) (works : List (Actor × List Directive)) → AllByRecursion (AreWithin n) works → AllByRecursion (IsCourseWithin n) (map begun works)
all_within n [] each = tt
all_within n ((who, directives) ∷ works) each = (each.0, all_within n works each.1)

starts_from : (n : ℕ) (works : List (Actor × List Directive)) → fold (λ (a : ℕ) (c : Course). a + starts_in_course c) n (map begun works) ≡ fold (λ (a : ℕ) (w : Actor × List Directive). a + starts_in w) n works
starts_from n [] = refl
starts_from n ((who, directives) ∷ works) = starts_from (n + starts_in (who, directives)) works

-- no START is answered
pub all_starts : (works : List (Actor × List Directive)) → starts_left (map begun works) ≡ starts_of works
all_starts works = starts_from 0 works

as_many_from : (n : ℕ) (works : List (Actor × List Directive)) → fold (λ (a : ℕ) (c : Course). a + length c.directives) n (map begun works) ≡ fold (λ (a : ℕ) (w : Actor × List Directive). a + length w.1) n works
as_many_from n [] = refl
as_many_from n ((who, directives) ∷ works) = as_many_from (n + length directives) works

pub as_many : (works : List (Actor × List Directive)) → directives_in (map begun works) ≡ directives_of works
as_many works = as_many_from 0 works

-- not more directives start a member than there are
pub few_starts : (works : List (Actor × List Directive)) → starts_of works ≤ directives_of works
few_starts works = sum_by-le-sum_by starts_in (λ (w : Actor × List Directive). length w.1) works (λ w. count_by-le-length is_start w.1)

found_if : {X : Type 0} (P : X → Type 0) (b : Bool) (x : X) (o : Option X) → P x → IfSome o P → IfSome (cond b (Some x) o) P
found_if P true x o here rest = here
found_if P false x o here rest = rest

found : {X : Type 0} (P : X → Type 0) (test : X → Bool) (xs : List X) → AllByRecursion P xs → IfSome (find test xs) P
found P test [] each = tt
found P test (x ∷ xs) each = found_if P (test x) x (find test xs) each.0 (found P test xs each.1)

at_some : {X : Type 0} (P : X → Type 0) (o : Option X) (x : X) → o ≡ Some x → IfSome o P → P x
at_some P o x is if_some = subst (λ z. IfSome z P) is if_some

pub all_placed : (objects : Registry) → AllByRecursion (IsOnOneOf (length objects.structures)) objects.queues → (name : List ℕ) → IsPlaced name objects
all_placed objects each name queue is = at_some (IsOnOneOf (length objects.structures)) (find (is_queue name) objects.queues) queue is (found (IsOnOneOf (length objects.structures)) (is_queue name) objects.queues each)
