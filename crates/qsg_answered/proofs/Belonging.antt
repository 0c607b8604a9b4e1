-- each unit of the history belongs to a COMMIT, and its operations are those that were pending there
use Rattle.std.proofs.Common.{◌≡◌, ℕ, zero, suc, ◌+◌, ◌/◌, ◌%◌, ◌<◌, List, [], ◌∷◌, ◌++◌, length, get_or, Bool, true, false, cond, Option, Some, None, ◌⊎◌, inl, inr, refl, sym, ap, subst, ◌∙◌, arith, true≢false}
use Rattle.std.specs.Prelude.{Contains, count_by, sum_by, fold, take}
use Rattle.std.specs.List.{AllByRecursion}
use Rattle.std.proofs.Math.Nat.{mod-lt}
use Rattle.std.proofs.lemmas.List.Sums.{sum_by-cons}
use Rattle.std.proofs.lemmas.Nat.{div-add-mod'}
use Rattle.qsg_num.specs.declared.seats.Member.{Member}
use Rattle.qsg_num.specs.declared.seats.Member.TheVariants as members
use Rattle.qsg_num.specs.declared.seats.StructNo.{StructNo}
use Rattle.qsg_num.specs.declared.seats.TaskNo.{TaskNo}
use Rattle.qsg_num.specs.declared.seats.TaskNo.TheVariants as tasks
use Rattle.qsg_num.specs.declared.ids.Actor.{Actor}
use Rattle.qsg_num.specs.declared.ids.UnitName.{UnitName}
use Rattle.qsg_num.specs.Seats.{member_number, task_number}
use Rattle.qsg_model.specs.declared.history.Item.{Item}
use Rattle.qsg_model.specs.declared.history.Item.TheVariants.{Unit as UnitOf, Lost, Purged}
use Rattle.qsg_model.specs.declared.history.Op.{Op}
use Rattle.qsg_model.specs.History.{names, names_by, AllDiffer}
use Rattle.qsg_model.proofs.Differing.{at_head, in_tail, head_or_tail, none_in_empty}
use Rattle.qsg_model.proofs.Listed.{differ_back}
use Rattle.qsg_group.proofs.Pages.{same_name}
use Rattle.qsg_objects.specs.declared.directives.Directive.{Directive}
use Rattle.qsg_objects.specs.Registry.{Registry}
use Rattle.qsg_requests.specs.declared.replies.Reply.{Reply}
use Rattle.qsg_requests.specs.declared.replies.Reply.TheVariants as reply
use Rattle.qsg_requests.specs.declared.transcript.Answer.{Answer}
use Rattle.qsg_requests.specs.declared.words.Request.{Request}
use Rattle.qsg_requests.specs.declared.words.Request.TheVariants as request
use Rattle.qsg_agenda.specs.Courses.{Course}
use Rattle.qsg_works.specs.declared.work.Work.{Work}
use Rattle.qsg_works.specs.InHand.{place, work_of}
use Rattle.qsg_steady.specs.Steady.{IsLawful}
use Rattle.qsg_step.specs.States.{State}
use Rattle.qsg_sound.specs.Sound.{IsSound}
use Rattle.qsg_answered.specs.Belonging.{WasAnswered, WasBroken, IsBeingAnswered, Belongs}
use Rattle.qsg_step.specs.declared.asked.Asked.{Asked}
use Rattle.qsg_step.specs.Asking.{asked}
use Rattle.qsg_answered.specs.Cutting.{WasCutOff}
use Rattle.qsg_answered.specs.Fits.{EndsRequest, EndsUnlessBroken, EndsAsked, AllFit, FitsCourse, commits_in, commits_now, AreFitting}
use Rattle.qsg_answered.proofs.Deciding.{committing}
use Rattle.qsg_answered.specs.Telling.{requested, is_broken, with_answered, told, pending_of, commits, commits_told}
use Rattle.qsg_answered.proofs.Histories.{name_there}
use Rattle.qsg_answered.proofs.Outcomes.{one_if}
use Rattle.qsg_answered.proofs.Showing.{one_commit}

-- ---- one unit has one list of operations

ops_in : Item → List (StructNo × Op)
ops_in (UnitOf u ops) = ops
ops_in (Lost s) = []
ops_in (Purged s) = []

clash : (i : Item) (h : List Item) (u : UnitName) (ops others : List (StructNo × Op)) → AllDiffer (names (i ∷ h)) → i ≡ UnitOf u ops → Contains h (UnitOf u others) → ⊥
clash i h u ops others differ is later =
    let there : AllDiffer (u ∷ names h) = subst (λ (j : Item). AllDiffer (names_by j ++ names h)) is differ in
    there.0 (name_there h u others later)

pub same_ops : (h : List Item) (u : UnitName) (ops others : List (StructNo × Op)) → AllDiffer (names h) → Contains h (UnitOf u ops) → Contains h (UnitOf u others) → ops ≡ others
unfolding ops_in
same_ops [] u ops others differ c d = absurd (none_in_empty (UnitOf u ops) c)
same_ops (i ∷ h) u ops others differ c d = by (head_or_tail i (UnitOf u ops) h c) (head_or_tail i (UnitOf u others) h d) (λ x y. same_ops h u ops others (differ_back (names_by i) (names h) differ) x y)
  where
    by : (i ≡ UnitOf u ops) ⊎ Contains h (UnitOf u ops) → (i ≡ UnitOf u others) ⊎ Contains h (UnitOf u others) → (Contains h (UnitOf u ops) → Contains h (UnitOf u others) → ops ≡ others) → ops ≡ others
    by (inl one) (inl two) rest = ap ops_in (sym one ∙ two)
    by (inl one) (inr two) rest = absurd (clash i h u ops others differ one two)
    by (inr one) (inl two) rest = absurd (clash i h u others ops differ two one)
    by (inr one) (inr two) rest = rest one two

differing : (s : State) → IsLawful s.parts → AllDiffer (names s.parts.history.items)
differing s l = subst (λ h. AllDiffer (names h)) l.mirrored.history l.laws.legal.names_differ

-- ---- an answer that names the unit

-- a list with an element that passes a test, before and behind it
record IsSplit (X : Type 0) (p : X → Bool) (xs : List X) : Type 0 where
  pub before : List X
  pub here : X
  pub behind : List X
  pub is : xs ≡ before ++ here ∷ behind
  pub passes : p here ≡ true

split_at : (X : Type 0) (p : X → Bool) (xs : List X) → 0 < count_by p xs → IsSplit X p xs
split_at X p [] some = absurd (omega (arith, some))
split_at X p (x ∷ xs) some = by (p x) refl (split_at X p xs)
  where
    by : (b : Bool) → p x ≡ b → (0 < count_by p xs → IsSplit X p xs) → IsSplit X p (x ∷ xs)
    by true is rest = record { before = []; here = x; behind = xs; is = refl; passes = is }
    by false is rest =
        let none : one_if (p x) ≡ 0 = ap one_if is in
        let more = rest (omega (arith, some, sum_by-cons (λ (y : X). cond (p y) 1 0) x xs, none)) in
        record { before = x ∷ more.before; here = more.here; behind = more.behind; is = ap (λ l. x ∷ l) more.is; passes = more.passes }

positive_at : (f : Course → ℕ) (cs : List Course) → 0 < sum_by f cs → (c : Course) × Contains cs c × (0 < f c)
positive_at f [] some = absurd (omega (arith, some))
positive_at f (c ∷ cs) some = by (f c) refl (positive_at f cs)
  where
    by : (n : ℕ) → f c ≡ n → (0 < sum_by f cs → (x : Course) × Contains cs x × (0 < f x)) → (x : Course) × Contains (c ∷ cs) x × (0 < f x)
    by zero is rest = let found = rest (omega (arith, some, sum_by-cons f c cs, is)) in (found.0, in_tail c found.0 cs found.1, found.2)
    by (suc n) is rest = (c, at_head c cs, omega (arith, is))

all_there : (P : Course → Type 0) (cs : List Course) (c : Course) → AllByRecursion P cs → Contains cs c → P c
all_there P [] c each there = absurd (none_in_empty c there)
all_there P (x ∷ cs) c each there = elim (head_or_tail x c cs there) [ inl same ↦ subst P same each.0 | inr later ↦ all_there P cs c each.1 later ]

fit_at : (objects : Registry) (h : List Item) (who : Actor) (ops : List (StructNo × Op)) (before : List (Directive × Answer)) (d : Directive) (a : Answer) (behind : List (Directive × Answer)) → AllFit objects h who ops (before ++ (d, a) ∷ behind)
    → EndsAsked objects h (fold (with_answered objects who) ops before) (asked who d) a (requested who d)
fit_at objects h who ops [] d a behind each = each.0
fit_at objects h who ops ((e, b) ∷ before) d a behind each = fit_at objects h who (with_answered objects who ops (e, b)) before d a behind each.1

-- a COMMIT that names the unit had its operations pending
named_ops : (objects : Registry) (h : List Item) (u : UnitName) (ops given : List (StructNo × Op)) (at : ℕ) (asked : Request) (r : Reply) → AllDiffer (names h) → Contains h (UnitOf u ops)
    → commits u (Some asked) r ≡ true → EndsRequest objects h given at asked r → given ≡ ops
named_ops objects h u ops given at request.Commit (reply.Unit (Some v) count) differ there names ends =
    same_ops h u given ops differ (subst (λ (x : UnitName). Contains h (UnitOf x given)) (sym (same_name u v names)) ends.there) there
named_ops objects h u ops given at request.Commit (reply.Unit None count) differ there names ends = absurd (true≢false (sym names))
named_ops objects h u ops given at request.Commit (reply.PutOk id placed) differ there names ends = absurd ends
named_ops objects h u ops given at request.Commit (reply.Got m) differ there names ends = absurd ends
named_ops objects h u ops given at request.Commit reply.Done differ there names ends = absurd ends
named_ops objects h u ops given at request.Commit (reply.Refused reason) differ there names ends = absurd ends
named_ops objects h u ops given at asked r differ there names ends = absurd (true≢false (sym names))

-- an answer that names a unit is no 2009
named_whole : (u : UnitName) (asked : Request) (r : Reply) → commits u (Some asked) r ≡ true → is_broken r ≡ false
named_whole u request.Commit (reply.Unit (Some v) count) names = refl
named_whole u request.Commit (reply.Unit None count) names = absurd (true≢false (sym names))
named_whole u request.Commit (reply.Refused reason) names = absurd (true≢false (sym names))
named_whole u request.Commit r names = absurd (true≢false (sym names))
named_whole u asked r names = absurd (true≢false (sym names))

asked_ops : (objects : Registry) (h : List Item) (u : UnitName) (ops given : List (StructNo × Op)) (other : Asked) (a : Answer) (asked : Option Request) → AllDiffer (names h) → Contains h (UnitOf u ops)
    → commits u asked a.reply ≡ true → EndsAsked objects h given other a asked → given ≡ ops
asked_ops objects h u ops given other a None differ there names ends = absurd (true≢false (sym names))
asked_ops objects h u ops given other a (Some asked) differ there names ends =
    named_ops objects h u ops given a.at asked a.reply differ there names (subst (λ (b : Bool). EndsUnlessBroken b objects h given a.at asked a.reply) (named_whole u asked a.reply names) ends)

was_answered : (s : State) (u : UnitName) (ops : List (StructNo × Op)) → IsSound s → IsLawful s.parts → AreFitting s → Contains s.parts.history.items (UnitOf u ops) → 0 < sum_by (commits_in u) s.courses → WasAnswered u ops s
was_answered s u ops sound l fits there some =
    let objects = s.parts.objects in
    let h = s.parts.history.items in
    let found = positive_at (commits_in u) s.courses some in
    let c = found.0 in
    let split = split_at (Directive × Answer) (commits_told c.actor u) (told c) found.2 in
    let each = subst (AllFit objects h c.actor []) split.is (all_there (FitsCourse objects h) s.courses c fits.answers found.1) in
    let ends = fit_at objects h c.actor [] split.before split.here.0 split.here.1 split.behind each in
    record {
      course = c;
      there = found.1;
      before = split.before;
      directive = split.here.0;
      answer = split.here.1;
      behind = split.behind;
      told_is = split.is;
      names = split.passes;
      pending = asked_ops objects h u ops (fold (with_answered objects c.actor) [] split.before) (asked c.actor split.here.0) split.here.1 (requested c.actor split.here.0) (differing s l) there split.passes ends;
    }

-- ---- a COMMIT in hand

member_with : (n : ℕ) → n < 8 → (m : Member) × (member_number m ≡ n + 1)
member_with zero less = (members.One, refl)
member_with (suc zero) less = (members.Two, refl)
member_with (suc (suc zero)) less = (members.Three, refl)
member_with (suc (suc (suc zero))) less = (members.Four, refl)
member_with (suc (suc (suc (suc zero)))) less = (members.Five, refl)
member_with (suc (suc (suc (suc (suc zero))))) less = (members.Six, refl)
member_with (suc (suc (suc (suc (suc (suc zero)))))) less = (members.Seven, refl)
member_with (suc (suc (suc (suc (suc (suc (suc zero))))))) less = (members.Eight, refl)
member_with (suc (suc (suc (suc (suc (suc (suc (suc n)))))))) less = absurd (omega (arith, less))

task_with : (n : ℕ) → n < 5 → (t : TaskNo) × (task_number t ≡ n)
task_with zero less = (tasks.System, refl)
task_with (suc zero) less = (tasks.One, refl)
task_with (suc (suc zero)) less = (tasks.Two, refl)
task_with (suc (suc (suc zero))) less = (tasks.Three, refl)
task_with (suc (suc (suc (suc zero)))) less = (tasks.Four, refl)
task_with (suc (suc (suc (suc (suc n))))) less = absurd (omega (arith, less))

-- each place is that of a task of a member
task_of_place : (i : ℕ) → i < 40 → (m : Member) × (t : TaskNo) × (place m t ≡ i)
task_of_place i less =
    let whole = div-add-mod' i 5 in
    let some : 0 < 5 = omega arith in
    let few = mod-lt i {m = 5} some in
    let m = member_with (i / 5) (omega (arith, whole, less)) in
    let t = task_with (i % 5) few in
    (m.0, t.0, omega (arith, m.1, t.1, whole))

hand_at : (p : Option Work → Bool) (works : List (Option Work)) → 0 < count_by p works → (i : ℕ) × (i < length works) × (p (get_or works i None) ≡ true)
hand_at p [] some = absurd (omega (arith, some))
hand_at p (w ∷ works) some = by (p w) refl (hand_at p works)
  where
    by : (b : Bool) → p w ≡ b → (0 < count_by p works → (i : ℕ) × (i < length works) × (p (get_or works i None) ≡ true)) → (i : ℕ) × (i < length (w ∷ works)) × (p (get_or (w ∷ works) i None) ≡ true)
    by true is rest = (zero, omega arith, is)
    by false is rest =
        let none : one_if (p w) ≡ 0 = ap one_if is in
        let found = rest (omega (arith, some, sum_by-cons (λ (y : Option Work). one_if (p y)) w works, none)) in
        (suc found.0, omega (arith, found.1), found.2)

is_in_hand : (s : State) (u : UnitName) (ops : List (StructNo × Op)) → IsSound s → IsLawful s.parts → AreFitting s → Contains s.parts.history.items (UnitOf u ops) → 0 < count_by (commits_now u) s.works → IsBeingAnswered u ops s
is_in_hand s u ops sound l fits there some =
    let found = hand_at (commits_now u) s.works some in
    let at = task_of_place found.0 (omega (arith, found.1, sound.forty)) in
    let now : commits_now u (work_of at.0 at.1 s.works) ≡ true = ap (λ (i : ℕ). commits_now u (get_or s.works i None)) at.2 ∙ found.2 in
    let c = committing s at.0 at.1 u sound fits now in
    record {
      member = at.0;
      task = at.1;
      commits = now;
      pending = same_ops s.parts.history.items u (pending_of s.parts.objects at.0 at.1 s.courses) ops (differing s l) c.committed there;
    }

-- ---- a COMMIT that was answered 2009

taken_there : (n : ℕ) (h : List Item) (i : Item) → Contains (take n h) i → Contains h i
taken_there zero h i there = absurd (none_in_empty i there)
taken_there (suc n) [] i there = absurd (none_in_empty i there)
taken_there (suc n) (j ∷ h) i there = elim (head_or_tail j i (take n h) there) [
  | inl same ↦ subst (λ (x : Item). Contains (j ∷ h) x) same (at_head j h)
  | inr later ↦ in_tail j i h (taken_there n h i later)
]

was_broken : (s : State) (u : UnitName) (ops : List (StructNo × Op)) → IsLawful s.parts → Contains s.parts.history.items (UnitOf u ops) → WasCutOff u s → WasBroken u ops s
was_broken s u ops l there cut = record {
  cut = cut;
  pending = same_ops s.parts.history.items u (fold (with_answered s.parts.objects cut.course.actor) [] cut.before) ops (differing s l)
      (taken_there (cut.answer.at + 1) s.parts.history.items (UnitOf u (fold (with_answered s.parts.objects cut.course.actor) [] cut.before)) cut.committed) there;
}

-- ---- the COMMIT of a unit

pub belongs : (s : State) (u : UnitName) (ops : List (StructNo × Op)) → IsSound s → IsLawful s.parts → AreFitting s → Contains s.parts.history.items (UnitOf u ops) → Belongs u ops s
belongs s u ops sound l fits there = by (sum_by (commits_in u) s.courses) refl
  where
    hand : (b : Bool) → fits.cut_off u ≡ b → sum_by (commits_in u) s.courses ≡ 0 → Belongs u ops s
    hand true is none = inr (inl (was_broken s u ops l there (fits.cut u is)))
    hand false is none = inr (inr (is_in_hand s u ops sound l fits there (let one = one_commit s u ops sound l fits there in let zero = ap one_if is in omega (arith, one, none, zero))))

    by : (n : ℕ) → sum_by (commits_in u) s.courses ≡ n → Belongs u ops s
    by zero is = hand (fits.cut_off u) refl is
    by (suc n) is = inl (was_answered s u ops sound l fits there (omega (arith, is)))
