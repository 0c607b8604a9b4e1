-- the courses of actors, once one of them has answered
use Rattle.std.proofs.Common.{◌≡◌, ℕ, ◌+◌, Bool, true, false, cond, List, [], ◌∷◌, Option, Some, None, refl, sym, ap, subst, ◌∙◌, arith, true≢false}
use Rattle.std.specs.Prelude.{sum_by}
use Rattle.std.specs.List.{AllByRecursion}
use Rattle.std.specs.Option.{option_and_then}
use Rattle.std.proofs.lemmas.Bool.{false≢true}
use Rattle.std.proofs.lemmas.Bool.Decides.{nat_tests}
use Rattle.std.proofs.lemmas.List.Sums.{sum_by-cons}
use Rattle.std.proofs.lemmas.Option.{none-some, same_Some}
use Rattle.qsg_num.specs.declared.ids.Actor.{Actor}
use Rattle.qsg_num.specs.declared.ids.Actor.TheVariants as actor
use Rattle.qsg_objects.specs.declared.directives.Directive.{Directive}
use Rattle.qsg_requests.specs.declared.transcript.Answer.{Answer}
use Rattle.qsg_agenda.specs.Courses.{Course, same_actor, course_of, next_in, next_of, with_answer, answered}
use Rattle.qsg_group.proofs.Tables.{same_member, same_task}
use Rattle.qsg_sound.proofs.Answering.{AreApart}

-- ---- actors

pub actor_is : (a b : Actor) → same_actor a b ≡ true → a ≡ b
actor_is (actor.Task m t) (actor.Task n u) is =
    let member : m ≡ n = same_member m n (grind (arith, nat_tests)) in
    let task : t ≡ u = same_task t u (grind (arith, nat_tests)) in
    λ i. actor.Task (member i) (task i)
actor_is (actor.Task m t) actor.Operator is = absurd (false≢true is)
actor_is actor.Operator (actor.Task n u) is = absurd (false≢true is)
actor_is actor.Operator actor.Operator is = refl

-- ---- the course of an actor

pub course_is : (who : Actor) (cs : List Course) (c : Course) → course_of who cs ≡ Some c → c.actor ≡ who
course_is who [] c is = absurd (none-some c is)
course_is who (x ∷ cs) c is = by (same_actor x.actor who) refl is (course_is who cs c)
  where
    by : (b : Bool) → same_actor x.actor who ≡ b → cond b (Some x) (course_of who cs) ≡ Some c → (course_of who cs ≡ Some c → c.actor ≡ who) → c.actor ≡ who
    by true own is rest = ap (λ (y : Course). y.actor) (sym (same_Some x c is)) ∙ actor_is x.actor who own
    by false own is rest = rest is

-- an actor with a next directive has a course
pub next_course : (who : Actor) (cs : List Course) (d : Directive) → next_of who cs ≡ Some d → (c : Course) × (course_of who cs ≡ Some c) × (next_in c ≡ Some d)
next_course who cs d next = by (course_of who cs) refl next
  where
    by : (o : Option Course) → course_of who cs ≡ o → option_and_then next_in o ≡ Some d → (c : Course) × (course_of who cs ≡ Some c) × (next_in c ≡ Some d)
    by None is next = absurd (none-some d next)
    by (Some c) is next = (c, is, next)

-- ---- after an answer

pub answered_own : (who : Actor) (a : Answer) (cs : List Course) (c : Course) → course_of who cs ≡ Some c → course_of who (answered who a cs) ≡ Some (with_answer a c)
answered_own who a [] c is = absurd (none-some c is)
answered_own who a (x ∷ cs) c is = by (same_actor x.actor who) refl is (answered_own who a cs c)
  where
    later : (b : Bool) → b ≡ false → course_of who (answered who a cs) ≡ Some (with_answer a c) → cond b (Some x) (course_of who (answered who a cs)) ≡ Some (with_answer a c)
    later true is rest = absurd (true≢false is)
    later false is rest = rest

    first : (b : Bool) → b ≡ true → Some x ≡ Some c → cond b (Some (with_answer a x)) (course_of who cs) ≡ Some (with_answer a c)
    first true is same = ap (λ (y : Course). Some (with_answer a y)) (same_Some x c same)
    first false is same = absurd (false≢true is)

    by : (b : Bool) → same_actor x.actor who ≡ b → cond b (Some x) (course_of who cs) ≡ Some c → (course_of who cs ≡ Some c → course_of who (answered who a cs) ≡ Some (with_answer a c))
        → course_of who (cond b (with_answer a x ∷ cs) (x ∷ answered who a cs)) ≡ Some (with_answer a c)
    by true own is rest = first (same_actor x.actor who) own is
    by false own is rest = later (same_actor x.actor who) own (rest is)

pub answered_apart : (who other : Actor) (a : Answer) (cs : List Course) → AreApart who other → course_of other (answered who a cs) ≡ course_of other cs
answered_apart who other a [] apart = refl
answered_apart who other a (c ∷ cs) apart = by (same_actor c.actor who) refl (answered_apart who other a cs apart)
  where
    passed : (b : Bool) → b ≡ false → cond b (Some (with_answer a c)) (course_of other cs) ≡ cond b (Some c) (course_of other cs)
    passed true is = absurd (true≢false is)
    passed false is = refl

    by : (b : Bool) → same_actor c.actor who ≡ b → course_of other (answered who a cs) ≡ course_of other cs → course_of other (cond b (with_answer a c ∷ cs) (c ∷ answered who a cs)) ≡ course_of other (c ∷ cs)
    by true is rest = passed (same_actor c.actor other) (apart c.actor is)
    by false is rest = ap (cond (same_actor c.actor other) (Some c)) rest

-- what holds of each course still does
pub all_answered : (P : Course → Type 0) (who : Actor) (a : Answer) (cs : List Course) → AllByRecursion P cs → ((c : Course) → course_of who cs ≡ Some c → P c → P (with_answer a c)) → AllByRecursion P (answered who a cs)
all_answered P who a [] each own = tt
all_answered P who a (x ∷ cs) each own = by (same_actor x.actor who) own (all_answered P who a cs each.1)
  where
    by : (b : Bool) → ((c : Course) → cond b (Some x) (course_of who cs) ≡ Some c → P c → P (with_answer a c)) → (((c : Course) → course_of who cs ≡ Some c → P c → P (with_answer a c)) → AllByRecursion P (answered who a cs))
        → AllByRecursion P (cond b (with_answer a x ∷ cs) (x ∷ answered who a cs))
    by true own rest = (own x refl each.0, each.1)
    by false own rest = (each.0, rest own)

pub all_more : (P Q : Course → Type 0) (cs : List Course) → ((c : Course) → P c → Q c) → AllByRecursion P cs → AllByRecursion Q cs
all_more P Q [] more each = tt
all_more P Q (c ∷ cs) more each = (more c each.0, all_more P Q cs more each.1)

pub sum_answered : (f : Course → ℕ) (who : Actor) (a : Answer) (cs : List Course) (c : Course) → course_of who cs ≡ Some c → sum_by f (answered who a cs) + f c ≡ sum_by f cs + f (with_answer a c)
sum_answered f who a [] c is = absurd (none-some c is)
sum_answered f who a (x ∷ cs) c is = by (same_actor x.actor who) is (sum_answered f who a cs c)
  where
    by : (b : Bool) → cond b (Some x) (course_of who cs) ≡ Some c → (course_of who cs ≡ Some c → sum_by f (answered who a cs) + f c ≡ sum_by f cs + f (with_answer a c))
        → sum_by f (cond b (with_answer a x ∷ cs) (x ∷ answered who a cs)) + f c ≡ sum_by f (x ∷ cs) + f (with_answer a c)
    by true is rest =
        subst (λ (y : Course). sum_by f (with_answer a x ∷ cs) + f y ≡ sum_by f (x ∷ cs) + f (with_answer a y)) (same_Some x c is)
        (omega (arith, sum_by-cons f (with_answer a x) cs, sum_by-cons f x cs))
    by false is rest = let h = rest is in omega (arith, sum_by-cons f x (answered who a cs), sum_by-cons f x cs, h)
