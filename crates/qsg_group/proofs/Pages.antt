-- The laws on pages that are still needed, and on the latch.
use Rattle.std.proofs.Common.{◌≡◌, ℕ, ◌+◌, ◌≤◌, max, Bool, true, false, cond, List, [], ◌∷◌, ◌++◌, Option, Some, None, refl, sym, ap, subst, ◌∙◌, arith, inl, inr, filter, map}
use Rattle.std.specs.Prelude.{◌||◌, nat_le}
use Rattle.std.specs.List.{AllByRecursion}
use Rattle.std.proofs.lemmas.Bool.{cases_Bool, both_ways}
use Rattle.std.proofs.lemmas.Bool.Decides.{nat_tests}
use Rattle.std.proofs.lemmas.Option.{same_Some}
use Rattle.qsg_num.specs.declared.seats.Member.{Member}
use Rattle.qsg_num.specs.declared.seats.StructNo.{StructNo}
use Rattle.qsg_num.specs.declared.seats.TaskNo.{TaskNo}
use Rattle.qsg_num.specs.declared.ids.UnitName.{UnitName}
use Rattle.qsg_num.specs.Ids.{same_unit}
use Rattle.qsg_model.specs.declared.history.Op.{Op}
use Rattle.qsg_group.specs.declared.tasks.Claim.{Claim}
use Rattle.qsg_group.specs.declared.tasks.Stage.{Stage}
use Rattle.qsg_group.specs.declared.tasks.Stage.TheVariants.{Open, Hardening, Committed, BackedOut}
use Rattle.qsg_group.specs.declared.tasks.Task.{Task}
use Rattle.qsg_group.specs.Tables.{at_member}
use Rattle.qsg_group.specs.Group.{Run, Log, Seat, Group, idle}
use Rattle.qsg_model.specs.Past.{is_unit}
use Rattle.qsg_group.specs.Observers.{has_run, is_hardened, logged_ops, told}
use Rattle.qsg_group.specs.Laws.{told_of, Has, RunsFrom, RunsAt, IsPlaced, ArePlaced, Laws}
use Rattle.qsg_group.specs.Changes.{hardening_task, settling, settling_task, with_run, MayDraw, MayHarden, Change, hardened}
use Rattle.qsg_group.specs.Changes.Change.{Draws, Puts, Gets, Ungets, Begins, Hardens, BacksOut, Settles, Finishes, Publishes, GivesUp, Crashes, Stops}
use Rattle.qsg_group.proofs.Tables.{moved, same_member}
use Rattle.qsg_group.proofs.Keys.{tells_of, told_is_unit}
use Rattle.qsg_group.proofs.Holding.{with_task, cases_has, every_after}
use Rattle.qsg_group.proofs.Failing.{every_crashed}

pub same_name : (u v : UnitName) → same_unit u v ≡ true → u ≡ v
same_name u v e =
    let member : u.member ≡ v.member = same_member u.member v.member (grind (arith, nat_tests)) in
    let incarnation : u.incarnation.number ≡ v.incarnation.number = grind (arith, nat_tests) in
    let seq : u.seq ≡ v.seq = grind (arith, nat_tests) in
    λ i. record { member = member i; incarnation = record { number = incarnation i }; seq = seq i }

-- ---- runs from a page on

pub unrun : (page : ℕ) (u : UnitName) (runs : List Run) → has_run u runs ≡ false → RunsFrom page u runs
unrun page u [] none = tt
unrun page u (run ∷ runs) none = ((λ same. absurd (both_ways (same_unit u run.unit) (grind (arith, none)) same)), unrun page u runs (grind (arith, none)))

unplaced : (page : ℕ) (u : UnitName) (runs : List Run) → has_run u runs ≡ false → RunsAt page u runs
unplaced page u [] none = tt
unplaced page u (run ∷ runs) none = ((λ same. absurd (both_ways (same_unit u run.unit) (grind (arith, none)) same)), unplaced page u runs (grind (arith, none)))

pub from_push : (page : ℕ) (u : UnitName) (runs : List Run) (run : Run) → (same_unit u run.unit ≡ true → page ≤ run.first) → RunsFrom page u runs → RunsFrom page u (runs ++ run ∷ [])
from_push page u [] run one from = (one, tt)
from_push page u (r ∷ runs) run one from = (from.0, from_push page u runs run one from.1)

at_push : (page : ℕ) (u : UnitName) (runs : List Run) (run : Run) → (same_unit u run.unit ≡ true → run.first ≡ page) → RunsAt page u runs → RunsAt page u (runs ++ run ∷ [])
at_push page u [] run one at = (one, tt)
at_push page u (r ∷ runs) run one at = (at.0, at_push page u runs run one at.1)

pub kept_filter : (P : Run → Type 0) (p : Run → Bool) (runs : List Run) → AllByRecursion P runs → AllByRecursion P (filter p runs)
kept_filter P p [] all = tt
kept_filter P p (run ∷ runs) all = by (p run) (kept_filter P p runs all.1)
  where
    by : (b : Bool) → AllByRecursion P (filter p runs) → AllByRecursion P (cond b (run ∷ filter p runs) (filter p runs))
    by true rest = (all.0, rest)
    by false rest = rest

pub from_higher : (low page : ℕ) (u : UnitName) (runs : List Run) → RunsFrom low u runs → RunsFrom page u runs → RunsFrom (max low page) u runs
from_higher low page u [] a b = tt
from_higher low page u (run ∷ runs) a b = ((λ same. let x = a.0 same in let y = b.0 same in omega (arith, x, y)), from_higher low page u runs a.1 b.1)

pub from_place : (first page : ℕ) (u : UnitName) (runs : List Run) → page ≤ first → RunsAt first u runs → RunsFrom page u runs
from_place first page u [] le at = tt
from_place first page u (run ∷ runs) le at = ((λ same. let x = at.0 same in omega (arith, x)), from_place first page u runs le at.1)

-- ---- names that weren't drawn

pub undrawn : (g : Group) (u : UnitName) (t : TaskNo) → MayDraw g u t → Laws g → is_unit u g.history ≡ false
undrawn g u t may laws = elim (cases_Bool (is_unit u g.history)) [
  | inl was ↦
      let d = laws.drawn u was in
      let i : u.incarnation.number ≡ (g.seats u.member).incarnation = sym (ap (λ (x : Seat). x.incarnation) may.seat) in
      let n : (g.seats u.member).next ≡ u.seq = ap (λ (x : Seat). x.next) may.seat in
      let lt = d.below i in
      absurd (omega (arith, lt, n))
  | inr not_yet ↦ not_yet
]

tells_append : (u : UnitName) (xs ys : List (UnitName × List (StructNo × Op))) → tells_of u ys ≡ true → tells_of u (xs ++ ys) ≡ true
tells_append u [] ys tells = tells
tells_append u (x ∷ xs) ys tells = let t = tells_append u xs ys tells in grind (arith, t)

tells_runs : (u : UnitName) (runs : List Run) → has_run u runs ≡ tells_of u (map told_of runs)
tells_runs u [] = refl
tells_runs u (run ∷ runs) = ap (λ b. same_unit u run.unit || b) (tells_runs u runs)

-- what isn't in the history has no run
pub unwritten : (g : Group) (u : UnitName) → is_unit u g.history ≡ false → Laws g → has_run u (g.logs u.member).runs ≡ false
unwritten g u none laws = elim (cases_Bool (has_run u (g.logs u.member).runs)) [
  | inl has ↦
      let old = laws.logged u.member in
      let tells : tells_of u (told u.member g.history) ≡ true = ap (tells_of u) old.tells ∙ tells_append u old.front (map told_of (g.logs u.member).runs) (sym (tells_runs u (g.logs u.member).runs) ∙ has) in
      absurd (both_ways (is_unit u g.history) none (told_is_unit u.member u g.history tells))
  | inr lacks ↦ lacks
]

-- ---- units in hand

pub has_unit : (g : Group) (u : UnitName) (t : TaskNo) (task : Task) → g.tasks u.member t ≡ task → task.unit ≡ Some u → Has g.tasks u t
has_unit g u t task has unit = ap (λ (x : Task). x.unit) has ∙ unit

-- a name that isn't in the history has no run
pub undrawn_run : (g : Group) (u : UnitName) (t : TaskNo) → MayDraw g u t → Laws g → has_run u (g.logs u.member).runs ≡ false
undrawn_run g u t may laws = unwritten g u (undrawn g u t may laws) laws

-- ---- placed

placed_tasks : (g : Group) (m : Member) (t : TaskNo) (new : Task) → ((u : UnitName) → u.member ≡ m → new.unit ≡ Some u → IsPlaced u (g.logs u.member).runs new.stage) → Laws g → ArePlaced g.logs (with_task m t new g.tasks)
placed_tasks g m t new own laws = every_after g.tasks m t new (λ u task. IsPlaced u (g.logs u.member).runs task.stage) own laws.placed

placed_next : (u v : UnitName) (runs : List Run) (first : Option ℕ) (n : ℕ) → IsPlaced u runs (settling first n) → Some u ≡ Some v → IsPlaced v runs (settling first (n + 1))
placed_next u v runs None n placed e = tt
placed_next u v runs (Some first) n placed e = subst (λ (x : UnitName). RunsAt first x runs) (same_Some u v e) placed

placed_push : (v : UnitName) (runs : List Run) (run : Run) (stage : Stage) → (same_unit v run.unit ≡ true → ⊥) → IsPlaced v runs stage → IsPlaced v (runs ++ run ∷ []) stage
placed_push v runs run Open other placed = tt
placed_push v runs run (Hardening first) other placed = tt
placed_push v runs run (Committed first settled) other placed = at_push first.number v runs run (λ same. absurd (other same)) placed
placed_push v runs run (BackedOut settled) other placed = tt

placed_filter : (v : UnitName) (p : Run → Bool) (runs : List Run) (stage : Stage) → IsPlaced v runs stage → IsPlaced v (filter p runs) stage
placed_filter v p runs Open placed = tt
placed_filter v p runs (Hardening first) placed = tt
placed_filter v p runs (Committed first settled) placed = kept_filter _ p runs placed
placed_filter v p runs (BackedOut settled) placed = tt

placed_hardens : (g : Group) (u : UnitName) (t : TaskNo) (ops : List (StructNo × Op)) (claims : List Claim) (first next : ℕ) → MayHarden g u t ops claims first next → Laws g → ArePlaced (hardened g u t ops claims next).logs (hardened g u t ops claims next).tasks
placed_hardens g u t ops claims first next may laws v w has =
    let log = g.logs u.member in
    let run : Run = record { unit = u; first = log.next; told = logged_ops ops claims } in
    let new = settling_task u claims (Some log.next) 0 in
    let at = has_unit g u t (hardening_task u ops claims first) may.has refl in
    let none : has_run u log.runs ≡ false = (laws.in_hand u t at).in_log ∙ ap (λ (x : Task). is_hardened x.stage) may.has in
    elim (cases_has g.tasks u.member t new v w has) [
      | inl here ↦ subst (λ (x : Task). IsPlaced v (at_member u.member (with_run run next) g.logs v.member).runs x.stage) (sym here.3)
          (subst (λ (x : UnitName). RunsAt log.next x (at_member u.member (with_run run next) g.logs x.member).runs) (same_Some u v here.2)
          (moved (λ (l : Log). RunsAt log.next u l.runs) u.member (with_run run next) g.logs u.member (λ same at. at_push log.next u log.runs run (λ e. refl) at) (unplaced log.next u log.runs none)))
      | inr other ↦
          let apart : same_unit v u ≡ true → ⊥ = λ same.
          let e = same_name v u same in
          other.0 (ap (λ (x : UnitName). x.member) e) (sym (laws.once u t w at (subst (λ (x : UnitName). Has g.tasks x w) e other.1))) in
          subst (λ (x : Task). IsPlaced v (at_member u.member (with_run run next) g.logs v.member).runs x.stage) (sym other.2)
          (moved (λ (l : Log). IsPlaced v l.runs (g.tasks v.member w).stage) u.member (with_run run next) g.logs v.member (λ same placed. placed_push v log.runs run (g.tasks v.member w).stage apart placed) (laws.placed v w other.1))
    ]

pub placed_stays : (g h : Group) → Change g h → Laws g → ArePlaced h.logs h.tasks
placed_stays g _ (Draws _ u t may) laws = placed_tasks g u.member t _ (λ v m e. tt) laws
placed_stays g _ (Puts _ u t ops claims s m outside may) laws = placed_tasks g u.member t _ (λ v m e. tt) laws
placed_stays g _ (Gets _ u t ops claims s m outside may) laws = placed_tasks g u.member t _ (λ v m e. tt) laws
placed_stays g _ (Ungets _ u t ops claims c may) laws = placed_tasks g u.member t _ (λ v m e. tt) laws
placed_stays g _ (Begins _ u t ops claims may) laws = placed_tasks g u.member t _ (λ v m e. tt) laws
placed_stays g _ (Hardens _ u t ops claims first next may) laws = placed_hardens g u t ops claims first next may laws
placed_stays g _ (BacksOut _ u t ops claims may) laws = placed_tasks g u.member t _ (λ v m e. tt) laws
placed_stays g _ (Settles _ u t claims first n c may) laws = placed_tasks g u.member t _
    (λ v m e. subst (λ x. IsPlaced v (g.logs x).runs (settling first (n + 1))) (sym m)
    (placed_next u v (g.logs u.member).runs first n
    (subst (λ (x : Task). IsPlaced u (g.logs u.member).runs x.stage) may.has (laws.placed u t (has_unit g u t (settling_task u claims first n) may.has refl))) e)) laws
placed_stays g _ (Finishes _ u t claims first n may) laws = placed_tasks g u.member t idle (λ v m e. tt) laws
placed_stays g _ (Publishes _ m page may) laws = λ u t has. moved (λ (l : Log). IsPlaced u l.runs (g.tasks u.member t).stage) m (λ log. record log { low = max log.low page }) g.logs u.member (λ same placed. placed) (laws.placed u t has)
placed_stays g _ (GivesUp _ m page may) laws = λ u t has. moved (λ (l : Log). IsPlaced u l.runs (g.tasks u.member t).stage) m (λ log. record log { runs = filter (λ (run : Run). nat_le page run.first) log.runs; keep = page }) g.logs u.member
    (λ same placed. placed_filter u (λ (run : Run). nat_le page run.first) (g.logs m).runs (g.tasks u.member t).stage placed) (laws.placed u t has)
placed_stays g _ (Crashes _ m may) laws = every_crashed g.tasks m (λ u task. IsPlaced u (g.logs u.member).runs task.stage) laws.placed
placed_stays g _ (Stops _ m may) laws = every_crashed g.tasks m (λ u task. IsPlaced u (g.logs u.member).runs task.stage) laws.placed
placed_stays g _ _ laws = laws.placed
