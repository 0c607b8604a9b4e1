-- courses as they are kept, and as contracts see them
use Rattle.std.proofs.Common.{◌≡◌, ℕ, ◌+◌, ◌≤◌, ◌<◌, Bool, true, false, cond, List, [], ◌∷◌, ◌++◌, length, Option, Some, None, refl, ap, sym, ◌∙◌, arith}
use Rattle.std.specs.Prelude.{◌&&◌, find, map, position, option_map, slice_get, slice_set, zero, suc, IsSome}
use Rattle.std.specs.Prelude.{not, get_or}
use Rattle.std.proofs.lemmas.Bool.{false≢true}
use Rattle.std.proofs.lemmas.List.{map-append}
use Rattle.std.proofs.Common.{ltb}
use Rattle.std.proofs.lemmas.Bool.Decides.{nat_tests}
use Rattle.std.proofs.lemmas.List.Sums.{prefix_len-le-length}
use Rattle.std.specs.List.{AllByRecursion, list_all, position_or_len}
use Rattle.std.specs.Option.{option_and_then, option_copied, unwrap_or}
use Rattle.std.specs.Borrow.{Bor}
use Rattle.qsg_requests.specs.Answered.{Answered}
use Rattle.qsg_num.specs.declared.ids.Actor.{Actor}
use Rattle.qsg_objects.specs.declared.directives.Directive.{Directive}
use Rattle.qsg_requests.specs.declared.transcript.Answer.{Answer}
use Rattle.qsg_agenda.specs.declared.courses.Part.{Part}
use Rattle.qsg_agenda.specs.Courses.{Course, same_actor, verb_of, course_of, next_in, next_of, is_through, with_answer, answered, begun, AreAnswered, IsAnswered}
use Rattle.qsg_agenda.specs.Parts.{course_in, IsKept}

abbrev pub is_of : Actor → Part → Bool
is_of who p = same_actor p.actor who

pub find_mapped : (who : Actor) (ps : List Part) → option_map course_in (find (is_of who) ps) ≡ course_of who (map course_in ps)
find_mapped who [] = refl
find_mapped who (p ∷ ps) = by (same_actor p.actor who) (find_mapped who ps)
  where
    by : (b : Bool) → option_map course_in (find (is_of who) ps) ≡ course_of who (map course_in ps)
        → option_map course_in (cond b (Some p) (find (is_of who) ps)) ≡ cond b (Some (course_in p)) (course_of who (map course_in ps))
    by true rest = refl
    by false rest = rest

pub all_mapped : (ps : List Part) → list_all (λ p. is_through (course_in p)) ps ≡ list_all is_through (map course_in ps)
all_mapped [] = refl
all_mapped (p ∷ ps) = ap (λ b. is_through (course_in p) && b) (all_mapped ps)

pub all_answered : (ps : List Part) → AllByRecursion IsKept ps → AllByRecursion IsAnswered (map course_in ps)
all_answered [] each = tt
all_answered (p ∷ ps) each = (each.0.answered, all_answered ps each.1)

-- ---- one more part

pub begun_more : (ps : List Part) (works : List (Actor × List Directive)) (p : Part) (new : List Part) (who : Actor) (directives : List Directive) → new ≡ ps ++ p ∷ [] → map course_in ps ≡ map begun works
    → p.actor ≡ who → p.directives ≡ directives → p.transcript.answers ≡ [] → map course_in new ≡ map begun (works ++ (who, directives) ∷ [])
begun_more ps works p new who directives items so_far actor same none =
    ap (map course_in) items ∙ map-append course_in ps (p ∷ []) ∙ ap (λ cs. cs ++ course_in p ∷ []) so_far ∙ ap (λ c. map begun works ++ c ∷ []) (course actor same none) ∙ sym (map-append begun works ((who, directives) ∷ []))
  where
    course : p.actor ≡ who → p.directives ≡ directives → p.transcript.answers ≡ [] → course_in p ≡ begun (who, directives)
    course a d n = λ i. record { actor = a i; directives = d i; answers = n i }

pub all_more : {X : Type 0} (P : X → Type 0) (xs : List X) (x : X) (new : List X) → new ≡ xs ++ x ∷ [] → AllByRecursion P xs → P x → AllByRecursion P new
all_more P xs x new items each last = rw items (push xs each)
  where
    push : (ys : List _) → AllByRecursion P ys → AllByRecursion P (ys ++ x ∷ [])
    push [] each = (last, tt)
    push (y ∷ ys) each = (each.0, push ys each.1)

-- ---- an answer to the next directive

none-some : {A : Type 0} (P : Type 0) (b : A) → None ≡ Some b → P
none-some P b e = cc

-- there is a directive at the place of the next answer
get_short : {X : Type 0} (xs : List X) (i : ℕ) → IsSome (slice_get xs i) → i < length xs
get_short [] i some = absurd (false≢true some)
get_short (x ∷ xs) zero some = omega arith
get_short (x ∷ xs) (suc i) some = let h = get_short xs i some in omega (arith, h)

pub answered_next : (ds : List Directive) (said : List Answer) (d : Directive) (a : Answer) → AreAnswered ds said → slice_get ds (length said) ≡ Some d → a.verb ≡ verb_of d → AreAnswered ds (said ++ a ∷ [])
answered_next [] [] d a each next verb = none-some _ d next
answered_next (x ∷ ds) [] d a each next verb = (verb ∙ ap verb_of (same x d next), tt)
  where
    same : (x d : Directive) → Some x ≡ Some d → d ≡ x
    same x d e = cc
answered_next [] (b ∷ said) d a each next verb = absurd each
answered_next (x ∷ ds) (b ∷ said) d a each next verb = (each.0, answered_next ds said d a each.1 next verb)

pub kept_next : (p : Part) (d : Directive) (a : Answer) (after : Answered) → IsKept p → slice_get p.directives (length p.transcript.answers) ≡ Some d → a.verb ≡ verb_of d
    → after.answers ≡ p.transcript.answers ++ a ∷ [] → p.transcript.room ≤ after.room + 1 → IsKept (record { actor = p.actor; directives = p.directives; transcript = after })
kept_next p d a after kept next verb answers room = record {
  answered = rw answers (answered_next p.directives p.transcript.answers d a kept.answered next verb);
  room = rw answers (let h = length_push p.transcript.answers a in let r = kept.room in omega (arith, h, r, room));
}
  where
    length_push : {X : Type 0} (xs : List X) (x : X) → length (xs ++ x ∷ []) ≡ length xs + 1
    length_push [] x = refl
    length_push (y ∷ ys) x = let h = length_push ys x in omega (arith, h)

-- ---- look-ups

-- the course of a part that is lent
pub seen : (who : Actor) (qs ps : List Part) (courses : List Course) (found : Option (Bor Part)) → option_copied found ≡ find (is_of who) qs → qs ≡ ps → map course_in ps ≡ courses → option_map course_in (option_copied found) ≡ course_of who courses
seen who qs ps courses found is same view = ap (option_map course_in) is ∙ find_mapped who qs ∙ ap (λ l. course_of who (map course_in l)) same ∙ ap (course_of who) view

pub or_len : {X : Type 0} (p : X → Bool) (xs : List X) → unwrap_or (position p xs) (length xs) ≡ position_or_len p xs
or_len p xs = by (position_or_len p xs) (prefix_len-le-length (λ x. not (p x)) xs)
  where
    by : (n : ℕ) → n ≤ length xs → unwrap_or (cond (ltb n (length xs)) (Some n) None) (length xs) ≡ n
    by n le = grind (arith, nat_tests)

-- ---- an answer of one of them

at-next : {X : Type 0} (x : X) (xs : List X) (n : ℕ) (d : X) → get_or (x ∷ xs) (1 + n) d ≡ get_or xs n d
at-next x xs n d = let e : 1 + n ≡ suc n = omega arith in rw e refl

set-next : {X : Type 0} (x : X) (xs : List X) (n : ℕ) (y : X) → slice_set (x ∷ xs) (1 + n) y ≡ x ∷ slice_set xs n y
set-next x xs n y = let e : 1 + n ≡ suc n = omega arith in rw e refl

-- the actor's course, where its next directive is this one
pub next_at : (who : Actor) (ps : List Part) (d : Directive) → next_of who (map course_in ps) ≡ Some d → (position_or_len (is_of who) ps < length ps) × ((p : Part) → next_in (course_in (get_or ps (position_or_len (is_of who) ps) p)) ≡ Some d)
next_at who [] d next = none-some _ d next
next_at who (p ∷ ps) d next = by (same_actor p.actor who) (next_at who ps d) next
  where
    by : (b : Bool) → (next_of who (map course_in ps) ≡ Some d → (position_or_len (is_of who) ps < length ps) × ((q : Part) → next_in (course_in (get_or ps (position_or_len (is_of who) ps) q)) ≡ Some d))
        → option_and_then next_in (cond b (Some (course_in p)) (course_of who (map course_in ps))) ≡ Some d
        → (cond (not b) (1 + position_or_len (is_of who) ps) 0 < length (p ∷ ps)) × ((q : Part) → next_in (course_in (get_or (p ∷ ps) (cond (not b) (1 + position_or_len (is_of who) ps) 0) q)) ≡ Some d)
    by true rest e = (omega arith, λ q. e)
    by false rest e = let h = rest e in (let s = h.0 in omega (arith, s), λ q. rw (at-next p ps _ q) (h.1 q))

pub answered_at : (who : Actor) (a : Answer) (ps : List Part) (p new : Part) → course_in new ≡ with_answer a (course_in (get_or ps (position_or_len (is_of who) ps) p)) → position_or_len (is_of who) ps < length ps
    → map course_in (slice_set ps (position_or_len (is_of who) ps) new) ≡ answered who a (map course_in ps)
answered_at who a [] p new is within = absurd (omega (arith, within))
answered_at who a (x ∷ ps) p new is within = by (same_actor x.actor who) (answered_at who a ps p new) is within
  where
    by : (b : Bool) → (course_in new ≡ with_answer a (course_in (get_or ps (position_or_len (is_of who) ps) p)) → position_or_len (is_of who) ps < length ps → map course_in (slice_set ps (position_or_len (is_of who) ps) new) ≡ answered who a (map course_in ps))
        → course_in new ≡ with_answer a (course_in (get_or (x ∷ ps) (cond (not b) (1 + position_or_len (is_of who) ps) 0) p)) → cond (not b) (1 + position_or_len (is_of who) ps) 0 < length (x ∷ ps)
        → map course_in (slice_set (x ∷ ps) (cond (not b) (1 + position_or_len (is_of who) ps) 0) new) ≡ cond b (with_answer a (course_in x) ∷ map course_in ps) (course_in x ∷ answered who a (map course_in ps))
    by true rest is within = ap (λ c. c ∷ map course_in ps) is
    by false rest is within = rw (set-next x ps _ new) (ap (λ cs. course_in x ∷ cs) (rest (rw (at-next x ps _ p) at is) (omega (arith, within))))

pub all_set : {X : Type 0} (P : X → Type 0) (xs : List X) (i : ℕ) (y : X) → AllByRecursion P xs → P y → AllByRecursion P (slice_set xs i y)
all_set P [] i y each here = tt
all_set P (x ∷ xs) zero y each here = (here, each.1)
all_set P (x ∷ xs) (suc i) y each here = (each.0, all_set P xs i y each.1 here)

pub all_at : {X : Type 0} (P : X → Type 0) (xs : List X) (i : ℕ) (d : X) → AllByRecursion P xs → i < length xs → P (get_or xs i d)
all_at P [] i d each within = absurd (omega (arith, within))
all_at P (x ∷ xs) zero d each within = each.0
all_at P (x ∷ xs) (suc i) d each within = all_at P xs i d each.1 (omega (arith, within))

pub some_is : {A : Type 0} (P : Type 0) (o : Option A) → IsSome o → ((x : A) → o ≡ Some x → P) → P
some_is P None some f = absurd (false≢true some)
some_is P (Some x) some f = f x refl

-- the place of an actor that has a next directive
pub next_place : (who : Actor) (qs ps : List Part) (place : ℕ) → place ≡ position_or_len (is_of who) qs → qs ≡ ps → IsSome (next_of who (map course_in ps)) → place < length ps
next_place who qs ps place is same some = rw (is ∙ ap (position_or_len (is_of who)) same) (some_is _ _ some (λ d next. (next_at who ps d next).0))

pub next_here : (who : Actor) (qs ps : List Part) (place : ℕ) (p : Part) → place ≡ position_or_len (is_of who) qs → qs ≡ ps → p ≡ get_or ps place p → IsSome (next_of who (map course_in ps)) → IsSome (next_in (course_in p))
next_here who qs ps place p is same here some =
    let there = rw (is ∙ ap (position_or_len (is_of who)) same) at here in
    some_is _ _ some (λ d next. rw (ap (λ x. next_in (course_in x)) there ∙ (next_at who ps d next).1 p) refl)

pub answered_here : (who : Actor) (answer : Directive → Answer) (qs ps : List Part) (place : ℕ) (p new : Part) → place ≡ position_or_len (is_of who) qs → qs ≡ ps → p ≡ get_or ps place p
    → ((d : Directive) → next_in (course_in p) ≡ Some d → course_in new ≡ with_answer (answer d) (course_in p))
    → (d : Directive) → next_of who (map course_in ps) ≡ Some d → map course_in (slice_set ps place new) ≡ answered who (answer d) (map course_in ps)
answered_here who answer qs ps place p new is same here step d next =
    let place_is = is ∙ ap (position_or_len (is_of who)) same in
    let there = rw place_is at here in
    let n = next_at who ps d next in
    rw place_is (answered_at who (answer d) ps p new (step d (ap (λ x. next_in (course_in x)) there ∙ n.1 p) ∙ ap (λ x. with_answer (answer d) (course_in x)) there) n.0)

pub kept_here : (who : Actor) (qs ps : List Part) (place : ℕ) (p : Part) → place ≡ position_or_len (is_of who) qs → qs ≡ ps → p ≡ get_or ps place p → IsSome (next_of who (map course_in ps)) → AllByRecursion IsKept ps → IsKept p
kept_here who qs ps place p is same here some each = rw here (all_at IsKept ps place p each (next_place who qs ps place is same some))
