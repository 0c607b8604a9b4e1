-- The laws on logs, low pages and the latch.
use Rattle.qsg_group.specs.Changes.Change.{Purges}
use Rattle.qsg_model.specs.declared.history.Item.TheVariants.{Purged}
use Rattle.std.proofs.Common.{◌≡◌, ℕ, ◌+◌, ◌<◌, ◌≤◌, max, true, cond, List, [], ◌∷◌, ◌++◌, Some, refl, sym, ap, subst, ◌∙◌, arith, inl, inr, append_assoc, map, filter}
use Rattle.std.specs.Prelude.{nat_le}
use Rattle.std.proofs.lemmas.List.{append-nil}
use Rattle.std.proofs.lemmas.Bool.{cases_Bool, eq-eqb, ne_eqb, le-leb, leb-true, leb-false}
use Rattle.qsg_num.specs.declared.seats.Member.{Member}
use Rattle.qsg_num.specs.declared.seats.StructNo.{StructNo}
use Rattle.qsg_num.specs.declared.seats.TaskNo.{TaskNo}
use Rattle.qsg_num.specs.declared.ids.UnitName.{UnitName}
use Rattle.qsg_num.specs.Seats.{member_number}
use Rattle.qsg_model.specs.declared.history.Op.{Op}
use Rattle.qsg_model.specs.declared.history.Item.TheVariants.{Unit as UnitOf, Lost}
use Rattle.qsg_group.specs.declared.tasks.Claim.{Claim}
use Rattle.qsg_group.specs.declared.tasks.Task.{Task}
use Rattle.qsg_group.specs.Group.{Run, Group}
use Rattle.qsg_group.specs.Observers.{is_lasting, told, is_undecided, logged_ops}
use Rattle.qsg_group.specs.Laws.{told_of, IsLogged, AreLogged, AreRuns, IsLog, AreLogs, IsReady, IsNext, Laws}
use Rattle.qsg_group.specs.Changes.{hardening_task, with_run, MayHarden, MayGiveUp, Change, hardened, given_up}
use Rattle.qsg_group.specs.Changes.Change.{Hardens, Publishes, GivesUp, Loses}
use Rattle.qsg_group.proofs.Tables.{every_member}
use Rattle.qsg_group.proofs.Keys.{told-push, logged_is}

-- ---- what an open or hardening unit is

pub ready_of : (g : Group) (u : UnitName) (t : TaskNo) (task : Task) → g.tasks u.member t ≡ task → task.unit ≡ Some u → is_undecided task.stage ≡ true → Laws g → IsReady g.history task.ops task.claims
ready_of g u t task has unit undecided laws = subst (λ (x : Task). is_undecided x.stage ≡ true → IsReady g.history x.ops x.claims) has (laws.ready u t (ap (λ (x : Task). x.unit) has ∙ unit)) undecided

-- ---- logs tell of the history

map_push : {A B : Type 0} (f : A → B) (xs : List A) (y : A) → map f (xs ++ y ∷ []) ≡ map f xs ++ f y ∷ []
map_push f [] y = refl
map_push f (x ∷ xs) y = ap (λ l. f x ∷ l) (map_push f xs y)

map_append : {A B : Type 0} (f : A → B) (xs ys : List A) → map f (xs ++ ys) ≡ map f xs ++ map f ys
map_append f [] ys = refl
map_append f (x ∷ xs) ys = ap (λ l. f x ∷ l) (map_append f xs ys)

logged_hardens : (g : Group) (u : UnitName) (t : TaskNo) (ops : List (StructNo × Op)) (claims : List Claim) (first next : ℕ) → MayHarden g u t ops claims first next → Laws g → AreLogged (g.history ++ UnitOf u ops ∷ []) (hardened g u t ops claims next).logs
logged_hardens g u t ops claims first next may laws =
    let run : Run = record { unit = u; first = (g.logs u.member).next; told = logged_ops ops claims } in
    let ready = ready_of g u t (hardening_task u ops claims first) may.has refl refl laws in
    every_member (λ m log. IsLogged m (g.history ++ UnitOf u ops ∷ []) log) u.member (with_run run next) g.logs
    (let old = laws.logged u.member in record {
      front = old.front;
      tells =
          told-push u.member g.history (UnitOf u ops)
          ∙ ap (λ b. told u.member g.history ++ cond b ((u, filter (is_lasting g.history) ops) ∷ []) []) (eq-eqb (member_number u.member) (member_number u.member) refl)
          ∙ ap (λ l. l ++ (u, filter (is_lasting g.history) ops) ∷ []) old.tells
          ∙ ap (λ (l : List (StructNo × Op)). (old.front ++ map told_of (g.logs u.member).runs) ++ (u, l) ∷ []) (sym (logged_is g.history ops claims ready.matched))
          ∙ append_assoc old.front (map told_of (g.logs u.member).runs) (told_of run ∷ [])
          ∙ ap (λ l. old.front ++ l) (sym (map_push told_of (g.logs u.member).runs run));
      whole = old.whole;
    })
    (λ m differ. let old = laws.logged m in record {
      front = old.front;
      tells =
          told-push m g.history (UnitOf u ops)
          ∙ ap (λ b. told m g.history ++ cond b ((u, filter (is_lasting g.history) ops) ∷ []) []) (ne_eqb (member_number u.member) (member_number m) (λ e. differ (sym e)))
          ∙ append-nil (told m g.history) ∙ old.tells;
      whole = old.whole;
    })

-- the runs before a page, and those from it on
pub record Split (page : ℕ) (runs : List Run) : Type 0 where
  pub before : List Run
  pub is : runs ≡ before ++ filter (λ (run : Run). nat_le page run.first) runs
  pub none : page ≡ 0 → before ≡ []

later_all : (from next page : ℕ) (runs : List Run) → AreRuns from next runs → page ≤ from → filter (λ (run : Run). nat_le page run.first) runs ≡ runs
later_all from next page [] are le = refl
later_all from next page (run ∷ runs) are le =
    ap (λ b. cond b (run ∷ filter (λ (r : Run). nat_le page r.first) runs) (filter (λ (r : Run). nat_le page r.first) runs)) (le-leb page run.first (omega (arith, are.0)))
    ∙ ap (λ l. run ∷ l) (later_all (run.first + 1) next page runs are.1 (omega (arith, are.0)))

pub split_at : (from next page : ℕ) (runs : List Run) → AreRuns from next runs → Split page runs
split_at from next page [] are = record { before = []; is = refl; none = λ e. refl }
split_at from next page (run ∷ runs) are = elim (cases_Bool (nat_le page run.first)) [
  | inl later ↦
      let all : filter (λ (r : Run). nat_le page r.first) (run ∷ runs) ≡ run ∷ runs =
      ap (λ b. cond b (run ∷ filter (λ (r : Run). nat_le page r.first) runs) (filter (λ (r : Run). nat_le page r.first) runs)) later
      ∙ ap (λ l. run ∷ l) (later_all (run.first + 1) next page runs are.1 (let le = leb-true page run.first later in omega arith)) in
      record { before = []; is = sym all; none = λ e. refl }
  | inr earlier ↦
      let rest = split_at (run.first + 1) next page runs are.1 in
      let some : filter (λ (r : Run). nat_le page r.first) (run ∷ runs) ≡ filter (λ (r : Run). nat_le page r.first) runs =
      ap (λ b. cond b (run ∷ filter (λ (r : Run). nat_le page r.first) runs) (filter (λ (r : Run). nat_le page r.first) runs)) earlier in
      record {
        before = run ∷ rest.before;
        is = ap (λ l. run ∷ l) rest.is ∙ ap (λ l. run ∷ (rest.before ++ l)) (sym some);
        none = λ e. let lt = leb-false page run.first earlier in absurd (omega arith);
      }
]

zero_below : (keep page : ℕ) → keep ≤ page → page ≡ 0 → keep ≡ 0
zero_below keep page le is = omega arith

logged_gives_up : (g : Group) (m : Member) (page : ℕ) → MayGiveUp g m page → Laws g → AreLogged g.history (given_up g m page).logs
logged_gives_up g m page may laws = every_member (λ x log. IsLogged x g.history log) m (λ log. record log { runs = filter (λ (run : Run). nat_le page run.first) log.runs; keep = page }) g.logs
    (let old = laws.logged m in let log = g.logs m in let split = split_at log.keep log.next page log.runs (laws.logs m).runs in record {
      front = old.front ++ map told_of split.before;
      tells =
          old.tells ∙ ap (λ (l : List Run). old.front ++ map told_of l) split.is
          ∙ ap (λ l. old.front ++ l) (map_append told_of split.before (filter (λ (run : Run). nat_le page run.first) log.runs))
          ∙ sym (append_assoc old.front (map told_of split.before) (map told_of (filter (λ (run : Run). nat_le page run.first) log.runs)));
      whole = λ e. ap (λ l. l ++ map told_of split.before) (old.whole (zero_below log.keep page may.rises e)) ∙ ap (λ (l : List Run). map told_of l) (split.none e);
    })
    (λ x differ. laws.logged x)

pub logged_stays : (g h : Group) → Change g h → Laws g → AreLogged h.history h.logs
logged_stays g _ (Hardens _ u t ops claims first next may) laws = logged_hardens g u t ops claims first next may laws
logged_stays g _ (GivesUp _ m page may) laws = logged_gives_up g m page may laws
logged_stays g _ (Publishes _ m page may) laws = every_member (λ x log. IsLogged x g.history log) m (λ log. record log { low = max log.low page }) g.logs
    (let old = laws.logged m in record { front = old.front; tells = old.tells; whole = old.whole }) (λ x differ. laws.logged x)
logged_stays g _ (Loses _ s may) laws = λ m. let old = laws.logged m in record { front = old.front; tells = told-push m g.history (Lost s) ∙ append-nil (told m g.history) ∙ old.tells; whole = old.whole }
logged_stays g _ (Purges _ s may) laws = λ m. let old = laws.logged m in record { front = old.front; tells = told-push m g.history (Purged s) ∙ append-nil (told m g.history) ∙ old.tells; whole = old.whole }
logged_stays g _ _ laws = laws.logged

-- ---- runs follow one another

runs_push : (from next new : ℕ) (runs : List Run) (run : Run) → AreRuns from next runs → run.first ≡ next → next < new → AreRuns from new (runs ++ run ∷ [])
runs_push from next new [] run are first lt = (omega (arith, first, are), omega (arith, first))
runs_push from next new (r ∷ runs) run are first lt = (are.0, runs_push (r.first + 1) next new runs run are.1 first lt)

runs_later : (from next page : ℕ) (runs : List Run) → AreRuns from next runs → page ≤ next → AreRuns page next (filter (λ (run : Run). nat_le page run.first) runs)
runs_later from next page [] are le = le
runs_later from next page (run ∷ runs) are le = elim (cases_Bool (nat_le page run.first)) [
  | inl later ↦ subst (AreRuns page next) (ap (λ b. cond b (run ∷ filter (λ (r : Run). nat_le page r.first) runs) (filter (λ (r : Run). nat_le page r.first) runs)) (sym later))
      (leb-true page run.first later, subst (AreRuns (run.first + 1) next) (sym (later_all (run.first + 1) next page runs are.1 (let l = leb-true page run.first later in omega arith))) are.1)
  | inr earlier ↦ subst (AreRuns page next) (ap (λ b. cond b (run ∷ filter (λ (r : Run). nat_le page r.first) runs) (filter (λ (r : Run). nat_le page r.first) runs)) (sym earlier))
      (runs_later (run.first + 1) next page runs are.1 le)
]

pub logs_stay : (g h : Group) → Change g h → Laws g → AreLogs h.logs
logs_stay g _ (Hardens _ u t ops claims first next may) laws =
    let log = g.logs u.member in
    let at : first ≡ log.next = subst (λ (x : Task). IsNext log.next x.stage) may.has (laws.latched.next u.member t) in
    let lt : log.next < next = omega (arith, at, may.pages) in
    every_member (λ m log. IsLog log) u.member (with_run (record { unit = u; first = log.next; told = logged_ops ops claims }) next) g.logs
    (let old = laws.logs u.member in record { runs = runs_push log.keep log.next next log.runs _ old.runs refl lt; low_kept = old.low_kept; low_written = omega (arith, old.low_written, lt) })
    (λ m differ. laws.logs m)
logs_stay g _ (Publishes _ m page may) laws = every_member (λ x log. IsLog log) m (λ log. record log { low = max log.low page }) g.logs
    (let old = laws.logs m in record { runs = old.runs; low_kept = omega (arith, old.low_kept); low_written = omega (arith, old.low_written, may.written) })
    (λ x differ. laws.logs x)
logs_stay g _ (GivesUp _ m page may) laws = every_member (λ x log. IsLog log) m (λ log. record log { runs = filter (λ (run : Run). nat_le page run.first) log.runs; keep = page }) g.logs
    (let old = laws.logs m in let log = g.logs m in record { runs = runs_later log.keep log.next page log.runs old.runs (omega (arith, may.low, old.low_written)); low_kept = may.low; low_written = old.low_written })
    (λ x differ. laws.logs x)
logs_stay g _ _ laws = laws.logs
