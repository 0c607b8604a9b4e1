-- what records tell of runs
use Rattle.std.proofs.Common.{◌≡◌, Bool, true, false, cond, ◌||◌, List, [], ◌∷◌, ◌++◌, map, Option, None, Some, refl, sym, ap, ◌∙◌, true≢false}
use Rattle.std.specs.List.{list_any, list_all, cons_option}
use Rattle.std.proofs.lemmas.List.{append-nil}
use Rattle.qsg_num.specs.declared.ids.UnitName.{UnitName}
use Rattle.qsg_num.specs.declared.seats.StructNo.{StructNo}
use Rattle.qsg_num.specs.Ids.{same_unit}
use Rattle.qsg_model.specs.declared.history.Op.{Op}
use Rattle.qsg_model.specs.declared.history.Op.TheVariants.{Put, Got}
use Rattle.qsg_logrec.specs.declared.record.LogRecord.{LogRecord}
use Rattle.qsg_logrec.specs.declared.record.LogRecord.TheVariants as r
use Rattle.qsg_logread.specs.Fed.{Commit, commit_of, commits_unit}
use Rattle.qsg_group.specs.Group.{Run}
use Rattle.qsg_group.specs.Observers.{has_run}
use Rattle.qsg_unitlog.specs.Units.{op_record, op_records, run_records, committed_by, commits, is_op_of, told_of, with_told, told_in, told_by_run, is_named, is_beside, AreOf, AreApart}
use Rattle.qsg_unitlog.proofs.Lists.{both, same_is, same_self, not_true, apart_back}
use Rattle.qsg_unitlog.proofs.Beside.{ops_beside}
use Rattle.qsg_unitlog.proofs.Standing.{differs}

abbrev unit_of : Run → UnitName
unit_of run = run.unit

-- ---- commits

cons_append : (o : Option UnitName) (us vs : List UnitName) → cons_option o (us ++ vs) ≡ cons_option o us ++ vs
cons_append None us vs = refl
cons_append (Some u) us vs = refl

commits_append : (rs qs : List LogRecord) → commits (rs ++ qs) ≡ commits rs ++ commits qs
commits_append [] qs = refl
commits_append (entry ∷ rs) qs = ap (cons_option (committed_by entry)) (commits_append rs qs) ∙ cons_append (committed_by entry) (commits rs) (commits qs)

no_commit : (gone : List UnitName) (entry : LogRecord) → is_beside gone entry ≡ true → committed_by entry ≡ None
no_commit gone (r.Put u m) is = refl
no_commit gone (r.Got u id s) is = refl
no_commit gone (r.Commit u) is = absurd (true≢false (sym is))
no_commit gone (r.BackupStart u s top low) is = refl
no_commit gone (r.BackupEntry u mark m) is = refl
no_commit gone (r.BackupEnd u s count) is = refl
no_commit gone (r.CommitIn u structures) is = absurd (true≢false (sym is))

commits_beside : (gone : List UnitName) (rs : List LogRecord) → list_all (is_beside gone) rs ≡ true → commits rs ≡ []
commits_beside gone [] all = refl
commits_beside gone (entry ∷ rs) all =
    let b = both (is_beside gone entry) (list_all (is_beside gone) rs) all in
    ap (λ (o : Option UnitName). cons_option o (commits rs)) (no_commit gone entry b.0) ∙ commits_beside gone rs b.1

commits_run : (u : UnitName) (told : List (StructNo × Op)) (structures : List StructNo) → commits (run_records u told structures) ≡ u ∷ []
commits_run u told structures =
    commits_append (op_records u told) (r.CommitIn u structures ∷ [])
    ∙ ap (λ (l : List UnitName). l ++ u ∷ []) (commits_beside (u ∷ []) (op_records u told) (ops_beside u [] told))

pub commits_are : (gone : List UnitName) (runs : List Run) (records : List LogRecord) → AreOf gone runs records → commits records ≡ map unit_of runs
commits_are gone [] records a = commits_beside gone records a
commits_are gone (run ∷ runs) records a =
    ap commits a.3
    ∙ commits_append a.0 (run_records run.unit run.told a.1 ++ a.2)
    ∙ ap (λ (l : List UnitName). l ++ commits (run_records run.unit run.told a.1 ++ a.2)) (commits_beside gone a.0 a.4)
    ∙ commits_append (run_records run.unit run.told a.1) a.2
    ∙ ap (λ (l : List UnitName). l ++ commits a.2) (commits_run run.unit run.told a.1)
    ∙ ap (λ (l : List UnitName). run.unit ∷ l) (commits_are gone runs a.2 a.5)

-- ---- operations

told_append : (u : UnitName) (rs qs : List LogRecord) → told_of u (rs ++ qs) ≡ told_of u rs ++ told_of u qs
told_append u [] qs = refl
told_append u (entry ∷ rs) qs = by (told_append u rs qs) (is_op_of u entry)
  where
    by : told_of u (rs ++ qs) ≡ told_of u rs ++ told_of u qs → (b : Bool) → cond b (entry ∷ told_of u (rs ++ qs)) (told_of u (rs ++ qs)) ≡ cond b (entry ∷ told_of u rs) (told_of u rs) ++ told_of u qs
    by more true = ap (λ (l : List LogRecord). entry ∷ l) more
    by more false = more

told_skip : (u : UnitName) (entry : LogRecord) (rs : List LogRecord) → is_op_of u entry ≡ false → told_of u (entry ∷ rs) ≡ told_of u rs
told_skip u entry rs e = ap (λ (b : Bool). cond b (entry ∷ told_of u rs) (told_of u rs)) e

told_take : (u : UnitName) (entry : LogRecord) (rs : List LogRecord) → is_op_of u entry ≡ true → told_of u (entry ∷ rs) ≡ entry ∷ told_of u rs
told_take u entry rs e = ap (λ (b : Bool). cond b (entry ∷ told_of u rs) (told_of u rs)) e

other_unit : (gone : List UnitName) (u v : UnitName) → is_named u gone ≡ false → is_named v gone ≡ true → same_unit u v ≡ false
other_unit gone u v new old = by (same_unit u v) refl
  where
    by : (t : Bool) → same_unit u v ≡ t → t ≡ false
    by true s = absurd (true≢false (sym old ∙ ap (λ (w : UnitName). is_named w gone) (sym (same_is u v s)) ∙ new))
    by false s = refl

no_op : (gone : List UnitName) (u : UnitName) (entry : LogRecord) → is_named u gone ≡ false → is_beside gone entry ≡ true → is_op_of u entry ≡ false
no_op gone u (r.Put v m) new is = other_unit gone u v new is
no_op gone u (r.Got v id s) new is = other_unit gone u v new is
no_op gone u (r.Commit v) new is = refl
no_op gone u (r.BackupStart v s top low) new is = refl
no_op gone u (r.BackupEntry v mark m) new is = refl
no_op gone u (r.BackupEnd v s count) new is = refl
no_op gone u (r.CommitIn v structures) new is = refl

told_beside : (gone : List UnitName) (u : UnitName) (rs : List LogRecord) → is_named u gone ≡ false → list_all (is_beside gone) rs ≡ true → told_of u rs ≡ []
told_beside gone u [] new all = refl
told_beside gone u (entry ∷ rs) new all =
    let b = both (is_beside gone entry) (list_all (is_beside gone) rs) all in
    told_skip u entry rs (no_op gone u entry new b.0) ∙ told_beside gone u rs new b.1

op_is : (u v : UnitName) (w : StructNo × Op) (b : Bool) → same_unit u v ≡ b → is_op_of u (op_record v w) ≡ b
op_is u v (s, Put m) b e = e
op_is u v (s, Got id) b e = e

told_ops : (u : UnitName) (told : List (StructNo × Op)) → told_of u (op_records u told) ≡ op_records u told
told_ops u [] = refl
told_ops u (w ∷ told) = told_take u (op_record u w) (op_records u told) (op_is u u w true (same_self u)) ∙ ap (λ (l : List LogRecord). op_record u w ∷ l) (told_ops u told)

told_others : (u v : UnitName) (told : List (StructNo × Op)) → same_unit u v ≡ false → told_of u (op_records v told) ≡ []
told_others u v [] e = refl
told_others u v (w ∷ told) e = told_skip u (op_record v w) (op_records v told) (op_is u v w false e) ∙ told_others u v told e

told_own_run : (u : UnitName) (told : List (StructNo × Op)) (structures : List StructNo) → told_of u (run_records u told structures) ≡ op_records u told
told_own_run u told structures = told_append u (op_records u told) (r.CommitIn u structures ∷ []) ∙ append-nil (told_of u (op_records u told)) ∙ told_ops u told

told_other_run : (u v : UnitName) (told : List (StructNo × Op)) (structures : List StructNo) → same_unit u v ≡ false → told_of u (run_records v told structures) ≡ []
told_other_run u v told structures e = told_append u (op_records v told) (r.CommitIn v structures ∷ []) ∙ append-nil (told_of u (op_records v told)) ∙ told_others u v told e

-- what is told behind other records and a run
told_split : (u : UnitName) (gone : List UnitName) (others run_own more records : List LogRecord) → records ≡ others ++ (run_own ++ more) → is_named u gone ≡ false → list_all (is_beside gone) others ≡ true → told_of u records ≡ told_of u run_own ++ told_of u more
told_split u gone others run_own more records is new beside =
    ap (told_of u) is
    ∙ told_append u others (run_own ++ more)
    ∙ ap (λ (l : List LogRecord). l ++ told_of u (run_own ++ more)) (told_beside gone u others new beside)
    ∙ told_append u run_own more

told_none : (u : UnitName) (gone : List UnitName) (runs : List Run) (records : List LogRecord) → AreOf gone runs records → is_named u gone ≡ false → list_all (differs u) runs ≡ true → told_of u records ≡ []
told_none u gone [] records a new all = told_beside gone u records new a
told_none u gone (run ∷ runs) records a new all =
    let b = both (differs u run) (list_all (differs u) runs) all in
    told_split u gone a.0 (run_records run.unit run.told a.1) a.2 records a.3 new a.4
    ∙ ap (λ (l : List LogRecord). l ++ told_of u a.2) (told_other_run u run.unit run.told a.1 (not_true (same_unit u run.unit) b.0))
    ∙ told_none u gone runs a.2 a.5 new b.1

-- of each run's unit its operations are told
abbrev AreTold : List LogRecord → List Run → Type 0
AreTold records [] = Unit {0}
AreTold records (run ∷ runs) = (told_of run.unit records ≡ op_records run.unit run.told) × AreTold records runs

told_behind : (first : UnitName) (told : List (StructNo × Op)) (structures : List StructNo) (gone : List UnitName) (others more records : List LogRecord) (runs : List Run) → records ≡ others ++ (run_records first told structures ++ more) → list_all (is_beside gone) others ≡ true
    → AreApart gone runs → list_all (differs first) runs ≡ true → AreTold more runs → AreTold records runs
told_behind first told structures gone others more records [] is beside apart all a = tt
told_behind first told structures gone others more records (run ∷ runs) is beside apart all a =
    let b = both (differs first run) (list_all (differs first) runs) all in (
      told_split run.unit gone others (run_records first told structures) more records is apart.0 beside
          ∙ ap (λ (l : List LogRecord). l ++ told_of run.unit more) (told_other_run run.unit first told structures (apart_back first run.unit (not_true (same_unit first run.unit) b.0)))
          ∙ a.0,
      told_behind first told structures gone others more records runs is beside apart.2 b.1 a.1,
    )

are_told : (gone : List UnitName) (runs : List Run) (records : List LogRecord) → AreOf gone runs records → AreApart gone runs → AreTold records runs
are_told gone [] records a apart = tt
are_told gone (run ∷ runs) records a apart = (
  told_split run.unit gone a.0 (run_records run.unit run.told a.1) a.2 records a.3 apart.0 a.4
      ∙ ap (λ (l : List LogRecord). l ++ told_of run.unit a.2) (told_own_run run.unit run.told a.1)
      ∙ ap (λ (l : List LogRecord). op_records run.unit run.told ++ l) (told_none run.unit gone runs a.2 a.5 apart.0 apart.1)
      ∙ append-nil (op_records run.unit run.told),
  told_behind run.unit run.told a.1 gone a.0 a.2 records runs a.3 a.4 apart.2 apart.1 (are_told gone runs a.2 a.5 apart.2),
)

told_map : (records : List LogRecord) (runs : List Run) → AreTold records runs → map (with_told records) (map unit_of runs) ≡ map told_by_run runs
told_map records [] a = refl
told_map records (run ∷ runs) a =
    let more = told_map records runs a.1 in
    (λ i. (run.unit, a.0 i) ∷ more i)

pub told_is : (gone : List UnitName) (runs : List Run) (records : List LogRecord) → AreOf gone runs records → AreApart gone runs → told_in records ≡ map told_by_run runs
told_is gone runs records a apart = ap (map (with_told records)) (commits_are gone runs records a) ∙ told_map records runs (are_told gone runs records a apart)

-- ---- readers

named_by : (u : UnitName) (o : Option Commit) (us : List UnitName) (b : Bool) → b ≡ is_named u us
    → ((elim o [ None ↦ false | Some c ↦ same_unit u c.unit ]) || b) ≡ is_named u (cons_option (elim o [ None ↦ None | Some c ↦ Some c.unit ]) us)
named_by u None us b e = e
named_by u (Some c) us b e = ap (λ (t : Bool). same_unit u c.unit || t) e

named_commits : (u : UnitName) (rs : List LogRecord) → list_any (commits_unit u) rs ≡ is_named u (commits rs)
named_commits u [] = refl
named_commits u (entry ∷ rs) = named_by u (commit_of entry) (commits rs) (list_any (commits_unit u) rs) (named_commits u rs)

named_runs : (u : UnitName) (runs : List Run) → is_named u (map unit_of runs) ≡ has_run u runs
named_runs u [] = refl
named_runs u (run ∷ runs) = ap (λ (t : Bool). same_unit u run.unit || t) (named_runs u runs)

pub commits_found : (u : UnitName) (gone : List UnitName) (runs : List Run) (records : List LogRecord) → AreOf gone runs records → list_any (commits_unit u) records ≡ has_run u runs
commits_found u gone runs records a = named_commits u records ∙ ap (is_named u) (commits_are gone runs records a) ∙ named_runs u runs
