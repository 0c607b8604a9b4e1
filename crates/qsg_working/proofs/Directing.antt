-- directives of courses: what is right of them, what they ask for, and that there is a next one
use Rattle.std.proofs.Common.{◌≡◌, ℕ, Bool, true, false, cond, List, [], ◌∷◌, length, Option, Some, None, refl, ap, sym, ◌∙◌}
use Rattle.std.specs.Prelude.{find, slice_get, zero, suc, is_some, IsSome, IfSome, option_map}
use Rattle.std.specs.List.{AllByRecursion}
use Rattle.std.specs.Option.{option_and_then}
use Rattle.std.proofs.lemmas.Bool.{false≢true}
use Rattle.qsg_num.specs.declared.ids.Actor.{Actor}
use Rattle.qsg_objects.specs.declared.directives.Directive.{Directive}
use Rattle.qsg_agenda.specs.Courses.{Course, same_actor, course_of, next_in, next_of}
use Rattle.qsg_directives.specs.Asking.{IsRight}
use Rattle.qsg_step.specs.declared.asked.Asked.{Asked}
use Rattle.qsg_step.specs.Asking.{asked}
use Rattle.qsg_step.specs.States.{IsCourseRight}

course_right : (test : Course → Bool) (cs : List Course) → AllByRecursion IsCourseRight cs → IfSome (find test cs) IsCourseRight
course_right test [] each = tt
course_right test (c ∷ cs) each = by (test c) (course_right test cs each.1)
  where
    by : (b : Bool) → IfSome (find test cs) IsCourseRight → IfSome (cond b (Some c) (find test cs)) IsCourseRight
    by true rest = each.0
    by false rest = rest

all_at : {X : Type 0} (P : X → Type 0) (xs : List X) (i : ℕ) → AllByRecursion P xs → IfSome (slice_get xs i) P
all_at P [] i each = tt
all_at P (x ∷ xs) zero each = each.0
all_at P (x ∷ xs) (suc i) each = all_at P xs i each.1

-- the next directive of an actor is right
pub next_right : (who : Actor) (cs : List Course) → AllByRecursion IsCourseRight cs → IfSome (next_of who cs) IsRight
next_right who cs each = by (course_of who cs) (course_right (λ c. same_actor c.actor who) cs each)
  where
    by : (c : Option Course) → IfSome c IsCourseRight → IfSome (option_and_then next_in c) IsRight
    by None right = tt
    by (Some c) right = all_at IsRight c.directives (length c.answers) right

-- there is a next directive
pub with_next : (P : Type 0) (who : Actor) (cs : List Course) → IsSome (next_of who cs) → ((d : Directive) → next_of who cs ≡ Some d → P) → P
with_next P who cs has then = by (next_of who cs) refl has
  where
    by : (next : Option Directive) → next_of who cs ≡ next → IsSome next → P
    by None is has = absurd (false≢true has)
    by (Some d) is has = then d is

pub some_injective : {X : Type 0} (x y : X) → Some x ≡ Some y → x ≡ y
some_injective {X = X} x y e = ap (λ (o : Option X). elim o [ None ↦ x | Some z ↦ z ]) e

-- what the next directive asks for
pub asked_is : (who : Actor) (cs : List Course) (given : Asked) → Some given ≡ option_map (asked who) (next_of who cs) → (d : Directive) → next_of who cs ≡ Some d → given ≡ asked who d
asked_is who cs given is d next = some_injective given (asked who d) (is ∙ ap (option_map (asked who)) next)

pub has_next : (who : Actor) (cs : List Course) (given : Asked) → Some given ≡ option_map (asked who) (next_of who cs) → IsSome (next_of who cs)
has_next who cs given is = by (next_of who cs) is
  where
    by : (next : Option Directive) → Some given ≡ option_map (asked who) next → IsSome next
    by None is = absurd (false≢true (sym (ap (λ (o : Option Asked). is_some o) is)))
    by (Some d) is = refl
