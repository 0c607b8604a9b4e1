-- how many STARTs are left after an answer, and which members directives name
use Rattle.std.proofs.Common.{◌≡◌, ℕ, ◌+◌, ◌≤◌, zero, suc, Bool, true, false, cond, List, [], ◌∷◌, ◌++◌, length, drop, Some, refl, sym, ap, subst, arith}
use Rattle.std.specs.Prelude.{slice_get, count_by}
use Rattle.std.specs.List.{AllByRecursion}
use Rattle.std.specs.Option.{option_and_then}
use Rattle.std.proofs.lemmas.List.Sums.{sum_by-cons}
use Rattle.std.proofs.lemmas.Option.{none-some, same_Some}
use Rattle.qsg_num.specs.declared.ids.Actor.{Actor}
use Rattle.qsg_objects.specs.declared.directives.Directive.{Directive}
use Rattle.qsg_requests.specs.declared.transcript.Answer.{Answer}
use Rattle.qsg_agenda.specs.Courses.{Course, same_actor, course_of, next_in, next_of, with_answer, answered}
use Rattle.qsg_sound.specs.Sound.{is_start, starts_in, starts_left, IsDirectiveWithin, IsCourseWithin}

abbrev pub one_start : Directive → ℕ
one_start d = cond (is_start d) 1 0

pub length_push : {X : Type 0} (xs : List X) (x : X) → length (xs ++ x ∷ []) ≡ suc (length xs)
length_push [] x = refl
length_push (y ∷ ys) x = ap suc (length_push ys x)

-- one directive fewer is left
drop_one : (ds : List Directive) (n : ℕ) (d : Directive) → slice_get ds n ≡ Some d → count_by is_start (drop n ds) ≡ count_by is_start (drop (suc n) ds) + one_start d
drop_one [] zero d is = absurd (none-some d is)
drop_one [] (suc n) d is = absurd (none-some d is)
drop_one (x ∷ ds) zero d is =
    let same : one_start x ≡ one_start d = ap one_start (same_Some x d is) in
    omega (arith, sum_by-cons one_start x ds, same)
drop_one (x ∷ ds) (suc n) d is = drop_one ds n d is

-- an answer to a START leaves one fewer
pub starts_after : (who : Actor) (a : Answer) (cs : List Course) (d : Directive) → next_of who cs ≡ Some d → starts_left cs ≡ starts_left (answered who a cs) + one_start d
starts_after who a [] d next = absurd (none-some d next)
starts_after who a (c ∷ cs) d next = by (same_actor c.actor who) next (starts_after who a cs d)
  where
    here : slice_get c.directives (length c.answers) ≡ Some d → starts_in c ≡ starts_in (with_answer a c) + one_start d
    here is = subst (λ (n : ℕ). starts_in c ≡ count_by is_start (drop n c.directives) + one_start d) (sym (length_push c.answers a)) (drop_one c.directives (length c.answers) d is)

    by : (b : Bool) → option_and_then next_in (cond b (Some c) (course_of who cs)) ≡ Some d → (next_of who cs ≡ Some d → starts_left cs ≡ starts_left (answered who a cs) + one_start d)
        → starts_left (c ∷ cs) ≡ starts_left (cond b (with_answer a c ∷ cs) (c ∷ answered who a cs)) + one_start d
    by true next rest = let h = here next in omega (arith, sum_by-cons starts_in (with_answer a c) cs, sum_by-cons starts_in c cs, h)
    by false next rest = let h = rest next in omega (arith, sum_by-cons starts_in c (answered who a cs), sum_by-cons starts_in c cs, h)

pub starts_fewer : (who : Actor) (a : Answer) (cs : List Course) (d : Directive) → next_of who cs ≡ Some d → starts_left (answered who a cs) ≤ starts_left cs
starts_fewer who a cs d next = let h = starts_after who a cs d next in omega (arith, h)

-- ---- members

pub answered_within : (n : ℕ) (who : Actor) (a : Answer) (cs : List Course) → AllByRecursion (IsCourseWithin n) cs → AllByRecursion (IsCourseWithin n) (answered who a cs)
answered_within n who a [] each = tt
answered_within n who a (c ∷ cs) each = by (same_actor c.actor who) (answered_within n who a cs each.1)
  where
    by : (b : Bool) → AllByRecursion (IsCourseWithin n) (answered who a cs) → AllByRecursion (IsCourseWithin n) (cond b (with_answer a c ∷ cs) (c ∷ answered who a cs))
    by true rest = each
    by false rest = (each.0, rest)

one_within : (n : ℕ) (ds : List Directive) (i : ℕ) (d : Directive) → AllByRecursion (IsDirectiveWithin n) ds → slice_get ds i ≡ Some d → IsDirectiveWithin n d
one_within n [] zero d each is = absurd (none-some d is)
one_within n [] (suc i) d each is = absurd (none-some d is)
one_within n (x ∷ ds) zero d each is = subst (IsDirectiveWithin n) (same_Some x d is) each.0
one_within n (x ∷ ds) (suc i) d each is = one_within n ds i d each.1 is

-- a member that the next directive names is one of the group's
pub next_within : (n : ℕ) (who : Actor) (cs : List Course) (d : Directive) → AllByRecursion (IsCourseWithin n) cs → next_of who cs ≡ Some d → IsDirectiveWithin n d
next_within n who [] d each next = absurd (none-some d next)
next_within n who (c ∷ cs) d each next = by (same_actor c.actor who) next (λ rest. next_within n who cs d each.1 rest)
  where
    by : (b : Bool) → option_and_then next_in (cond b (Some c) (course_of who cs)) ≡ Some d → (next_of who cs ≡ Some d → IsDirectiveWithin n d) → IsDirectiveWithin n d
    by true is rest = one_within n c.directives (length c.answers) d each.0 is
    by false is rest = rest is

-- where a START comes next, one is left
pub start_left : (who : Actor) (cs : List Course) (d : Directive) → next_of who cs ≡ Some d → is_start d ≡ true → 1 ≤ starts_left cs
start_left who [] d next is = absurd (none-some d next)
start_left who (c ∷ cs) d next is = by (same_actor c.actor who) next (λ rest. start_left who cs d rest is)
  where
    by : (b : Bool) → option_and_then next_in (cond b (Some c) (course_of who cs)) ≡ Some d → (next_of who cs ≡ Some d → 1 ≤ starts_left cs) → 1 ≤ starts_left (c ∷ cs)
    by true next rest = let h = drop_one c.directives (length c.answers) d next in let one : one_start d ≡ 1 = ap (λ b. cond b 1 0) is in omega (arith, sum_by-cons starts_in c cs, h, one)
    by false next rest = let h = rest next in omega (arith, sum_by-cons starts_in c cs, h)
