-- what holds of all courses, once one has an answer more
use Rattle.std.proofs.Common.{◌≡◌, ℕ, ◌+◌, ◌≤◌, Bool, true, false, List, [], ◌∷◌, ◌++◌, cond, Some, ◌⊎◌, inl, inr, refl, sym, ap, subst, ◌∙◌, arith, append-nil}
use Rattle.std.proofs.lemmas.List.{append_assoc}
use Rattle.std.specs.Prelude.{Contains, count_by, sum_by}
use Rattle.std.specs.List.{AllByRecursion}
use Rattle.std.proofs.lemmas.List.Sums.{sum_by-append, sum_by-cons}
use Rattle.std.proofs.lemmas.Option.{same_Some}
use Rattle.qsg_num.specs.declared.ids.Actor.{Actor}
use Rattle.qsg_num.specs.declared.ids.UnitName.{UnitName}
use Rattle.qsg_num.specs.declared.seats.Member.{Member}
use Rattle.qsg_model.specs.declared.history.Item.{Item}
use Rattle.qsg_model.proofs.Differing.{at_head, in_tail, head_or_tail, none_in_empty}
use Rattle.qsg_objects.specs.declared.directives.Directive.{Directive}
use Rattle.qsg_objects.specs.Registry.{Registry}
use Rattle.qsg_requests.specs.declared.transcript.Answer.{Answer}
use Rattle.qsg_agenda.specs.Courses.{Course, same_actor, course_of, next_in, with_answer, answered}
use Rattle.qsg_parts.specs.Owned.{Owned}
use Rattle.qsg_step.specs.Asking.{asked}
use Rattle.qsg_answered.specs.Telling.{requested, told, pending, commits, commits_told, starts, starts_told, starts_in}
use Rattle.qsg_answered.specs.Timing.{AreTimed}
use Rattle.qsg_answered.specs.Fits.{EndsAsked, FitsCourse, StaysOut, StaysOutTold, LeavesOut, commits_in}
use Rattle.qsg_answered.proofs.Courses.{course_is, all_answered, sum_answered}
use Rattle.qsg_answered.proofs.Told.{told_more, told_grows, fits_more, all_push}

-- an answer to the next directive of the course of an actor
pub record IsNextOf (who : Actor) (d : Directive) (c : Course) (cs : List Course) : Type 0 where
  pub course : course_of who cs ≡ Some c
  pub next : next_in c ≡ Some d

-- what holds of a course after an answer holds of the one that is answered
at_course : (P Q : Course → Type 0) (who : Actor) (c : Course) (cs : List Course) → course_of who cs ≡ Some c → (P c → Q c) → (x : Course) → course_of who cs ≡ Some x → P x → Q x
at_course P Q who c cs is step x same = subst (λ (y : Course). P y → Q y) (same_Some c x (sym is ∙ same)) step

pub fits_answered : (objects : Registry) (h : List Item) (who : Actor) (d : Directive) (a : Answer) (c : Course) (cs : List Course) → IsNextOf who d c cs → AllByRecursion (FitsCourse objects h) cs
    → EndsAsked objects h (pending objects c) (asked who d) a (requested who d) → AllByRecursion (FitsCourse objects h) (answered who a cs)
fits_answered objects h who d a c cs is each ends =
    let own = course_is who cs c is.course in
    all_answered (FitsCourse objects h) who a cs each
    (at_course (FitsCourse objects h) (λ x. FitsCourse objects h (with_answer a x)) who c cs is.course (λ fits. fits_more objects h c d a is.next fits (subst (λ (x : Actor). EndsAsked objects h (pending objects c) (asked x d) a (requested x d)) (sym own) ends)))

pub out_answered : (p : Owned) (who : Actor) (d : Directive) (a : Answer) (c : Course) (cs : List Course) → IsNextOf who d c cs → AllByRecursion (LeavesOut p) cs → StaysOut p (requested who d) a.reply → AllByRecursion (LeavesOut p) (answered who a cs)
out_answered p who d a c cs is each out =
    let own = course_is who cs c is.course in
    all_answered (LeavesOut p) who a cs each
    (at_course (LeavesOut p) (λ x. LeavesOut p (with_answer a x)) who c cs is.course
    (λ old. subst (AllByRecursion (StaysOutTold p c.actor)) (sym (told_more c d a is.next)) (all_push (StaysOutTold p c.actor) (told c) (d, a) old (subst (λ (x : Actor). StaysOut p (requested x d) a.reply) (sym own) out))))

-- how many answers of a course pass a test, once it has one more
counted_more : (test : Actor → Directive × Answer → Bool) (d : Directive) (a : Answer) (c : Course) → next_in c ≡ Some d → count_by (test c.actor) (told (with_answer a c)) ≡ count_by (test c.actor) (told c) + cond (test c.actor (d, a)) 1 0
counted_more test d a c next =
    let f : Directive × Answer → ℕ = λ x. cond (test c.actor x) 1 0 in
    ap (count_by (test c.actor)) (told_more c d a next) ∙ sum_by-append f (told c) ((d, a) ∷ []) ∙ ap (λ n. count_by (test c.actor) (told c) + n) (sum_by-cons f (d, a) [] ∙ plus_none (f (d, a)))
  where
    plus_none : (n : ℕ) → n + 0 ≡ n
    plus_none n = omega arith

counted_answered : (test : Actor → Directive × Answer → Bool) (who : Actor) (d : Directive) (a : Answer) (c : Course) (cs : List Course) → IsNextOf who d c cs
    → sum_by (λ (x : Course). count_by (test x.actor) (told x)) (answered who a cs) ≡ sum_by (λ (x : Course). count_by (test x.actor) (told x)) cs + cond (test who (d, a)) 1 0
counted_answered test who d a c cs is =
    let f : Course → ℕ = λ x. count_by (test x.actor) (told x) in
    let own = course_is who cs c is.course in
    let more = subst (λ (x : Actor). f (with_answer a c) ≡ f c + cond (test x (d, a)) 1 0) own (counted_more test d a c is.next) in
    let total = sum_answered f who a cs c is.course in
    omega (arith, more, total)

pub commits_answered : (u : UnitName) (who : Actor) (d : Directive) (a : Answer) (c : Course) (cs : List Course) → IsNextOf who d c cs → sum_by (commits_in u) (answered who a cs) ≡ sum_by (commits_in u) cs + cond (commits u (requested who d) a.reply) 1 0
commits_answered u who d a c cs is = counted_answered (λ x. commits_told x u) who d a c cs is

pub starts_answered : (m : Member) (who : Actor) (d : Directive) (a : Answer) (c : Course) (cs : List Course) → IsNextOf who d c cs → sum_by (starts_in m) (answered who a cs) ≡ sum_by (starts_in m) cs + cond (starts m (asked who d) a.reply) 1 0
starts_answered m who d a c cs is = counted_answered (λ x. starts_told x m) who d a c cs is

-- ---- when

timed_push : (from to at : ℕ) (answers : List Answer) (a : Answer) → from ≤ to → to ≤ a.at → a.at ≤ at → AreTimed from to answers → AreTimed from at (answers ++ a ∷ [])
timed_push from to at [] a first past now each = (omega (arith, first, past), now, tt)
timed_push from to at (b ∷ answers) a first past now each = (each.0, omega (arith, each.1, past, now), timed_push b.at to at answers a each.1 past now each.2)

pub timed_more : (from to at : ℕ) (answers : List Answer) → to ≤ at → AreTimed from to answers → AreTimed from at answers
timed_more from to at [] grows each = tt
timed_more from to at (a ∷ answers) grows each = (each.0, omega (arith, each.1, grows), timed_more a.at to at answers grows each.2)

pub timed_pushed : (to at : ℕ) (answers : List Answer) (a : Answer) → a.at ≡ to → to ≤ at → AreTimed 0 to answers → AreTimed 0 at (answers ++ a ∷ [])
timed_pushed to at answers a now grows each = timed_push 0 to at answers a (omega arith) (omega (arith, now)) (omega (arith, now, grows)) each

pub all_timed : (to at : ℕ) (cs : List Course) → to ≤ at → AllByRecursion (λ (c : Course). AreTimed 0 to c.answers) cs → AllByRecursion (λ (c : Course). AreTimed 0 at c.answers) cs
all_timed to at [] grows each = tt
all_timed to at (c ∷ cs) grows each = (timed_more 0 to at c.answers grows each.0, all_timed to at cs grows each.1)

pub timed_answered : (to at : ℕ) (who : Actor) (a : Answer) (cs : List Course) → a.at ≡ to → to ≤ at → AllByRecursion (λ (c : Course). AreTimed 0 to c.answers) cs → AllByRecursion (λ (c : Course). AreTimed 0 at c.answers) (answered who a cs)
timed_answered to at who a [] now grows each = tt
timed_answered to at who a (c ∷ cs) now grows each = by (same_actor c.actor who) (timed_answered to at who a cs now grows each.1)
  where
    by : (b : Bool) → AllByRecursion (λ (x : Course). AreTimed 0 at x.answers) (answered who a cs) → AllByRecursion (λ (x : Course). AreTimed 0 at x.answers) (cond b (with_answer a c ∷ cs) (c ∷ answered who a cs))
    by true rest = (timed_pushed to at c.answers a now grows each.0, all_timed to at cs grows each.1)
    by false rest = (timed_more 0 to at c.answers grows each.0, rest)

-- ---- courses only grow

-- the course has the answers that it had, and maybe more
pub record HasGrown (c : Course) (ds : List Course) : Type 0 where
  pub course : Course
  pub there : Contains ds course
  pub actor : course.actor ≡ c.actor
  pub more : List (Directive × Answer)
  pub told_is : told course ≡ told c ++ more

abbrev pub HaveGrown : List Course → List Course → Type 0
HaveGrown cs ds = (c : Course) → Contains cs c → HasGrown c ds

pub grown_self : (cs : List Course) → HaveGrown cs cs
grown_self cs c there = record { course = c; there = there; actor = refl; more = []; told_is = sym (append-nil (told c)) }

pub grown_more : (cs ds es : List Course) → HaveGrown cs ds → HaveGrown ds es → HaveGrown cs es
grown_more cs ds es first then c there =
    let one = first c there in
    let two = then one.course one.there in
    record { course = two.course; there = two.there; actor = two.actor ∙ one.actor; more = one.more ++ two.more; told_is = two.told_is ∙ ap (λ (l : List (Directive × Answer)). l ++ two.more) one.told_is ∙ append_assoc (told c) one.more two.more }

pub grown_answered : (who : Actor) (a : Answer) (cs : List Course) → HaveGrown cs (answered who a cs)
grown_answered who a [] c there = absurd (none_in_empty c there)
grown_answered who a (x ∷ cs) c there = by (same_actor x.actor who) (head_or_tail x c cs there) (grown_answered who a cs c)
  where
    by : (b : Bool) → (x ≡ c) ⊎ Contains cs c → (Contains cs c → HasGrown c (answered who a cs)) → HasGrown c (cond b (with_answer a x ∷ cs) (x ∷ answered who a cs))
    by true (inl same) rest =
        let more = told_grows x a in
        record { course = with_answer a x; there = at_head (with_answer a x) cs; actor = ap (λ (y : Course). y.actor) same; more = more.0; told_is = more.1 ∙ ap (λ (y : Course). told y ++ more.0) same }
    by true (inr later) rest = record { course = c; there = in_tail (with_answer a x) c cs later; actor = refl; more = []; told_is = sym (append-nil (told c)) }
    by false (inl same) rest = record { course = x; there = at_head x (answered who a cs); actor = ap (λ (y : Course). y.actor) same; more = []; told_is = ap told same ∙ sym (append-nil (told c)) }
    by false (inr later) rest = let g = rest later in record { course = g.course; there = in_tail x g.course (answered who a cs) g.there; actor = g.actor; more = g.more; told_is = g.told_is }
