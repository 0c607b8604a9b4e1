-- courses after an answer
use Rattle.std.proofs.Common.{◌≡◌, ℕ, ◌+◌, ◌≤◌, Bool, true, false, cond, List, [], ◌∷◌, ◌++◌, length, Some, refl, arith, true≢false}
use Rattle.std.specs.Prelude.{◌==◌, ◌&&◌}
use Rattle.std.specs.List.{AllByRecursion}
use Rattle.std.specs.Option.{option_and_then}
use Rattle.std.proofs.lemmas.Bool.{false≢true}
use Rattle.std.proofs.lemmas.Bool.Decides.{nat_tests}
use Rattle.std.proofs.lemmas.List.Sums.{sum_by-cons}
use Rattle.std.proofs.lemmas.Option.{none-some}
use Rattle.qsg_num.specs.declared.seats.Member.{Member}
use Rattle.qsg_num.specs.declared.seats.TaskNo.{TaskNo}
use Rattle.qsg_num.specs.declared.ids.Actor.{Actor}
use Rattle.qsg_num.specs.declared.ids.Actor.TheVariants as actor
use Rattle.qsg_num.specs.Seats.{member_number, task_number}
use Rattle.qsg_objects.specs.declared.directives.Directive.{Directive}
use Rattle.qsg_requests.specs.declared.transcript.Answer.{Answer}
use Rattle.qsg_agenda.specs.Courses.{Course, same_actor, verb_of, course_of, next_in, next_of, with_answer, answered, AreAnswered, IsAnswered}
use Rattle.qsg_agenda.proofs.Found.{answered_next}
use Rattle.qsg_steady.specs.Standing.{IsOther}
use Rattle.qsg_step.specs.States.{IsCourseRight}
use Rattle.qsg_sound.specs.Sound.{answers_given, directives_in}

-- ---- how many answers there are

abbrev said : Course → ℕ
said c = length c.answers

abbrev asked : Course → ℕ
asked c = length c.directives

length_push : {X : Type 0} (xs : List X) (x : X) → length (xs ++ x ∷ []) ≡ length xs + 1
length_push [] x = refl
length_push (y ∷ ys) x = let h = length_push ys x in omega (arith, h)

-- an answer to a directive is one more
pub one_more : (who : Actor) (a : Answer) (cs : List Course) (d : Directive) → next_of who cs ≡ Some d → answers_given (answered who a cs) ≡ answers_given cs + 1
one_more who a [] d next = absurd (none-some d next)
one_more who a (c ∷ cs) d next = by (same_actor c.actor who) next (one_more who a cs d)
  where
    by : (b : Bool) → option_and_then next_in (cond b (Some c) (course_of who cs)) ≡ Some d → (next_of who cs ≡ Some d → answers_given (answered who a cs) ≡ answers_given cs + 1)
        → answers_given (cond b (with_answer a c ∷ cs) (c ∷ answered who a cs)) ≡ answers_given (c ∷ cs) + 1
    by true next rest = omega (arith, sum_by-cons said (with_answer a c) cs, sum_by-cons said c cs, length_push c.answers a)
    by false next rest = let h = rest next in omega (arith, sum_by-cons said c (answered who a cs), sum_by-cons said c cs, h)

-- the directives stay
pub same_directives : (who : Actor) (a : Answer) (cs : List Course) → directives_in (answered who a cs) ≡ directives_in cs
same_directives who a [] = refl
same_directives who a (c ∷ cs) = by (same_actor c.actor who) (same_directives who a cs)
  where
    by : (b : Bool) → directives_in (answered who a cs) ≡ directives_in cs → directives_in (cond b (with_answer a c ∷ cs) (c ∷ answered who a cs)) ≡ directives_in (c ∷ cs)
    by true rest = omega (arith, sum_by-cons asked (with_answer a c) cs, sum_by-cons asked c cs)
    by false rest = omega (arith, sum_by-cons asked c (answered who a cs), sum_by-cons asked c cs, rest)

few_said : (ds : List Directive) (given : List Answer) → AreAnswered ds given → length given ≤ length ds
few_said ds [] are = omega arith
few_said [] (a ∷ given) are = absurd are
few_said (d ∷ ds) (a ∷ given) are = let h = few_said ds given are.1 in omega (arith, h)

-- each answer is of a directive
pub few_answers : (cs : List Course) → AllByRecursion IsAnswered cs → answers_given cs ≤ directives_in cs
few_answers [] each = omega arith
few_answers (c ∷ cs) each = omega (arith, sum_by-cons said c cs, sum_by-cons asked c cs, few_said c.directives c.answers each.0, few_answers cs each.1)

-- ---- what holds of each course

pub answered_right : (who : Actor) (a : Answer) (cs : List Course) → AllByRecursion IsCourseRight cs → AllByRecursion IsCourseRight (answered who a cs)
answered_right who a [] each = tt
answered_right who a (c ∷ cs) each = by (same_actor c.actor who) (answered_right who a cs each.1)
  where
    by : (b : Bool) → AllByRecursion IsCourseRight (answered who a cs) → AllByRecursion IsCourseRight (cond b (with_answer a c ∷ cs) (c ∷ answered who a cs))
    by true rest = each
    by false rest = (each.0, rest)

pub answered_answered : (who : Actor) (a : Answer) (cs : List Course) (d : Directive) → next_of who cs ≡ Some d → a.verb ≡ verb_of d → AllByRecursion IsAnswered cs → AllByRecursion IsAnswered (answered who a cs)
answered_answered who a [] d next verb each = tt
answered_answered who a (c ∷ cs) d next verb each = by (same_actor c.actor who) next (λ more. answered_answered who a cs d more verb each.1)
  where
    by : (b : Bool) → option_and_then next_in (cond b (Some c) (course_of who cs)) ≡ Some d → (next_of who cs ≡ Some d → AllByRecursion IsAnswered (answered who a cs)) → AllByRecursion IsAnswered (cond b (with_answer a c ∷ cs) (c ∷ answered who a cs))
    by true next rest = (answered_next c.directives c.answers d a each.0 next verb, each.1)
    by false next rest = (each.0, rest next)

-- ---- the next directives of other actors

-- no actor is both of them
abbrev pub AreApart : Actor → Actor → Type 0
AreApart who other = (c : Actor) → same_actor c who ≡ true → same_actor c other ≡ false

pub next_apart : (who other : Actor) (a : Answer) (cs : List Course) → AreApart who other → next_of other (answered who a cs) ≡ next_of other cs
next_apart who other a [] apart = refl
next_apart who other a (c ∷ cs) apart = by (same_actor c.actor who) refl (next_apart who other a cs apart)
  where
    passed : (b : Bool) → b ≡ false → option_and_then next_in (cond b (Some (with_answer a c)) (course_of other cs)) ≡ option_and_then next_in (cond b (Some c) (course_of other cs))
    passed true is = absurd (true≢false is)
    passed false is = refl

    later : (b : Bool) → next_of other (answered who a cs) ≡ next_of other cs
        → option_and_then next_in (cond b (Some c) (course_of other (answered who a cs))) ≡ option_and_then next_in (cond b (Some c) (course_of other cs))
    later true rest = refl
    later false rest = rest

    by : (b : Bool) → same_actor c.actor who ≡ b → next_of other (answered who a cs) ≡ next_of other cs → next_of other (cond b (with_answer a c ∷ cs) (c ∷ answered who a cs)) ≡ next_of other (c ∷ cs)
    by true is rest = passed (same_actor c.actor other) (apart c.actor is)
    by false is rest = later (same_actor c.actor other) rest

numbers_apart : (n u m t k w : ℕ) → (k ≡ m → w ≡ t → ⊥) → ((n == m) && (u == t)) ≡ true → ((n == k) && (u == w)) ≡ false
numbers_apart n u m t k w differ is = grind (arith, nat_tests)

pub tasks_apart : (m : Member) (t : TaskNo) (k : Member) (w : TaskNo) → IsOther m t k w → AreApart (actor.Task m t) (actor.Task k w)
tasks_apart m t k w differ (actor.Task n u) is = numbers_apart (member_number n) (task_number u) (member_number m) (task_number t) (member_number k) (task_number w) differ is
tasks_apart m t k w differ actor.Operator is = absurd (false≢true is)

pub operator_apart : (k : Member) (w : TaskNo) → AreApart actor.Operator (actor.Task k w)
operator_apart k w (actor.Task n u) is = absurd (false≢true is)
operator_apart k w actor.Operator is = refl
