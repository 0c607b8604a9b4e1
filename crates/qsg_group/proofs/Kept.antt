-- The run of a unit that a mark names, or that a task holds, stands at or after the low page.
use Rattle.qsg_group.specs.Changes.Change.{Recovers, Reopens}
use Rattle.qsg_group.specs.Changes.{in_recovery, reopened_shelf}
use Rattle.std.proofs.Common.{◌≡◌, ℕ, ◌+◌, max, Bool, false, List, [], ◌∷◌, ◌++◌, Some, None, refl, sym, ap, subst, inl, inr, filter}
use Rattle.std.specs.Prelude.{nat_le}
use Rattle.std.proofs.lemmas.Bool.{both_ways}
use Rattle.std.proofs.lemmas.Option.{same_Some, none-some}
use Rattle.qsg_num.specs.declared.seats.Member.{Member}
use Rattle.qsg_num.specs.declared.seats.StructNo.{StructNo}
use Rattle.qsg_num.specs.declared.seats.TaskNo.{TaskNo}
use Rattle.qsg_num.specs.declared.ids.UnitName.{UnitName}
use Rattle.qsg_num.specs.Seats.{structure_number}
use Rattle.qsg_msg.specs.declared.message.Message.{Message}
use Rattle.qsg_model.specs.declared.history.Op.{Op}
use Rattle.qsg_lists.specs.declared.parts.Mark.{Mark}
use Rattle.qsg_lists.specs.declared.parts.Mark.TheVariants.{Visible, PutBy, GotBy, Cleanup}
use Rattle.qsg_group.specs.declared.tasks.Claim.{Claim}
use Rattle.qsg_group.specs.declared.tasks.Stage.{Stage}
use Rattle.qsg_group.specs.declared.tasks.Stage.TheVariants.{Open, Hardening, Committed, BackedOut}
use Rattle.qsg_group.specs.declared.tasks.Task.{Task}
use Rattle.qsg_group.specs.Tables.{at_member, at_structure}
use Rattle.qsg_group.specs.Group.{Held, Run, Log, Group, idle}
use Rattle.qsg_group.specs.Observers.{entry_at, top_of, revise, has_run, is_committed, is_hardened, logged_ops}
use Rattle.qsg_group.specs.Laws.{is_pending, Has, Names, PutsBy, GetsBy, MarkNames, RunsFrom, IsKept, AreKept, IsPlaced, Laws}
use Rattle.qsg_group.specs.Changes.{open_task, hardening_task, settling_task, is_commit, with_entry, with_entries, with_run, marked, settle, lost_shelf, claim_of, IsNeededFrom, MayPut, MayGet, MayHarden, MayPublish, Change, hardened, published, given_up}
use Rattle.qsg_group.specs.Changes.Change.{Draws, Puts, Gets, Ungets, Forgets, Begins, Hardens, BacksOut, Settles, Finishes, Publishes, GivesUp, Crashes, Stops, PeerSettles, Loses}
use Rattle.qsg_group.proofs.Tables.{every_structure, moved}
use Rattle.qsg_group.proofs.Entries.{push_cases, revise_cases}
use Rattle.qsg_group.proofs.Holding.{with_task, got_task, every_after}
use Rattle.qsg_group.proofs.Failing.{every_crashed}
use Rattle.qsg_group.proofs.Pages.{has_unit, unrun, from_push, kept_filter, from_higher, from_place, undrawn_run}
use Rattle.qsg_group.proofs.Shelves.{left_of, settler, settler_keeps, marker_keeps, was_there}
use Rattle.qsg_group.proofs.Marks.{none_yet}

-- the run of this unit
abbrev RunKept : (Member → Log) → UnitName → Type 0
RunKept logs u = RunsFrom (logs u.member).low u (logs u.member).runs

abbrev MarksKept : (Member → Log) → List Held → Type 0
MarksKept logs es = (id : ℕ) (e : Held) → entry_at id es ≡ Some e → IsKept logs e.mark

abbrev UnitsKept : (Member → Log) → (Member → TaskNo → Task) → Type 0
UnitsKept logs tasks = (u : UnitName) (t : TaskNo) → Has tasks u t → RunKept logs u

-- what holds of every unit's run holds of that which a mark names
kept_mark : (logs new : Member → Log) → ((u : UnitName) → RunKept logs u → RunKept new u) → (mark : Mark) → IsKept logs mark → IsKept new mark
kept_mark logs new step Visible kept = tt
kept_mark logs new step (PutBy u) kept = step u kept
kept_mark logs new step (GotBy u) kept = step u kept
kept_mark logs new step Cleanup kept = tt

quiet_kept : (logs : Member → Log) (mark : Mark) → is_pending mark ≡ false → IsKept logs mark
quiet_kept logs Visible quiet = tt
quiet_kept logs (PutBy u) quiet = absurd cc
quiet_kept logs (GotBy u) quiet = absurd cc
quiet_kept logs Cleanup quiet = tt

-- ---- tasks

-- the task's unit is kept where it is one that was in hand
held_after : (g : Group) (m : Member) (t : TaskNo) (new : Task) → ((u : UnitName) → u.member ≡ m → new.unit ≡ Some u → RunKept g.logs u) → Laws g → UnitsKept g.logs (with_task m t new g.tasks)
held_after g m t new own laws = every_after g.tasks m t new (λ u task. RunKept g.logs u) own laws.kept.of_held

own_kept : (g : Group) (u : UnitName) (t : TaskNo) (task : Task) → g.tasks u.member t ≡ task → task.unit ≡ Some u → Laws g → (v : UnitName) → v.member ≡ u.member → Some u ≡ Some v → RunKept g.logs v
own_kept g u t task has unit laws v m e = subst (λ (x : UnitName). RunKept g.logs x) (same_Some u v e) (laws.kept.of_held u t (has_unit g u t task has unit))

-- ---- entries

marks_put : (g : Group) (u : UnitName) (t : TaskNo) (ops : List (StructNo × Op)) (claims : List Claim) (s : StructNo) (m : Message) (outside : Bool) → MayPut g u t ops claims s m → Laws g
    → (x : StructNo) → MarksKept g.logs (at_structure s (with_entry (record { message = m; mark = PutBy u; outside = outside })) g.shelves x).entries
marks_put g u t ops claims s m outside may laws =
    let e : Held = record { message = m; mark = PutBy u; outside = outside } in
    every_structure (λ x shelf. MarksKept g.logs shelf.entries) s (with_entry e) g.shelves
    (λ id x there. elim (push_cases id (g.shelves s).entries e x (none_yet g u t ops claims s m may laws) there) [
      | inl here ↦ subst (λ (y : Held). IsKept g.logs y.mark) (sym here.1) (laws.kept.of_held u t (has_unit g u t (open_task u ops claims) may.has refl))
      | inr was ↦ laws.kept.of_marked s id x was
    ])
    (λ x differ. laws.kept.of_marked x)

marks_got : (g : Group) (u : UnitName) (t : TaskNo) (ops : List (StructNo × Op)) (claims : List Claim) (s : StructNo) (m : Message) (outside : Bool) → MayGet g u t ops claims s m outside → Laws g
    → (x : StructNo) → MarksKept g.logs (at_structure s (with_entries (revise m.id.number (marked (GotBy u)))) g.shelves x).entries
marks_got g u t ops claims s m outside may laws = every_structure (λ x shelf. MarksKept g.logs shelf.entries) s (with_entries (revise m.id.number (marked (GotBy u)))) g.shelves
    (λ id x there. elim (revise_cases (top_of (g.shelves s)) m.id.number id (marked (GotBy u)) (g.shelves s).entries x (marker_keeps (GotBy u)) (laws.shelves s).rising there) [
      | inl here ↦ subst (λ (y : Mark). IsKept g.logs y) (ap (λ (y : Held). y.mark) (same_Some (record here.1 { mark = GotBy u }) x here.3)) (laws.kept.of_held u t (has_unit g u t (open_task u ops claims) may.has refl))
      | inr was ↦ laws.kept.of_marked s id x was.1
    ])
    (λ x differ. laws.kept.of_marked x)

marks_settled : (g : Group) (s : StructNo) (n : ℕ) (u : UnitName) (commits : Bool) → Laws g → (x : StructNo) → MarksKept g.logs (at_structure s (with_entries (settle n u commits)) g.shelves x).entries
marks_settled g s n u commits laws = every_structure (λ x shelf. MarksKept g.logs shelf.entries) s (with_entries (settle n u commits)) g.shelves
    (λ id x there. elim (revise_cases (top_of (g.shelves s)) n id (settler u commits) (g.shelves s).entries x (settler_keeps u commits) (laws.shelves s).rising there) [
      | inl here ↦ elim (left_of u commits here.1.mark here.1 x here.3).1 [
        | inl quiet ↦ quiet_kept g.logs x.mark quiet
        | inr same ↦ subst (λ (y : Held). IsKept g.logs y.mark) (sym same.0) (laws.kept.of_marked s n here.1 here.2)
      ]
      | inr other ↦ laws.kept.of_marked s id x other.1
    ])
    (λ x differ. laws.kept.of_marked x)

-- ---- logs

-- what holds of every unit's run after a change of the logs
kept_step : (g : Group) (new : Member → Log) → ((u : UnitName) → RunKept g.logs u → RunKept new u) → Laws g → AreKept new g.shelves g.tasks
kept_step g new step laws = record {
  of_marked = λ s id e there. kept_mark g.logs new step e.mark (laws.kept.of_marked s id e there);
  of_held = λ u t has. step u (laws.kept.of_held u t has);
}

kept_hardens : (g : Group) (u : UnitName) (t : TaskNo) (ops : List (StructNo × Op)) (claims : List Claim) (first next : ℕ) → MayHarden g u t ops claims first next → Laws g → AreKept (hardened g u t ops claims next).logs g.shelves (hardened g u t ops claims next).tasks
kept_hardens g u t ops claims first next may laws =
    let log = g.logs u.member in
    let run : Run = record { unit = u; first = log.next; told = logged_ops ops claims } in
    let logs : Member → Log = at_member u.member (with_run run next) g.logs in
    let step : (v : UnitName) → RunKept g.logs v → RunKept logs v =
    λ v now. moved (λ (l : Log). RunsFrom l.low v l.runs) u.member (with_run run next) g.logs v.member (λ same from. from_push log.low v log.runs run (λ here. (laws.logs u.member).low_written) from) now in
    record {
      of_marked = λ s id e there. kept_mark g.logs logs step e.mark (laws.kept.of_marked s id e there);
      of_held = every_after g.tasks u.member t (settling_task u claims (Some log.next) 0) (λ v task. RunKept logs v)
          (λ v m e. step v (own_kept g u t (hardening_task u ops claims first) may.has refl laws v m e))
          (λ v w has. step v (laws.kept.of_held v w has));
    }

published_held : (page : ℕ) (u : UnitName) (runs : List Run) (stage : Stage) → has_run u runs ≡ is_hardened stage → IsPlaced u runs stage → IsNeededFrom page stage → RunsFrom page u runs
published_held page u runs Open is placed needed = unrun page u runs is
published_held page u runs (Hardening first) is placed needed = unrun page u runs is
published_held page u runs (Committed first settled) is placed needed = from_place first.number page u runs needed placed
published_held page u runs (BackedOut settled) is placed needed = unrun page u runs is

-- a unit in hand
live_publishes : (g : Group) (m : Member) (page : ℕ) → MayPublish g m page → Laws g → (u : UnitName) (t : TaskNo) → Has g.tasks u t → RunKept g.logs u → RunKept (published g m page).logs u
live_publishes g m page may laws u t has now = moved (λ (l : Log). RunsFrom l.low u l.runs) m (λ log. record log { low = max log.low page }) g.logs u.member
    (λ same from. from_higher (g.logs m).low page u (g.logs m).runs from
    (published_held page u (g.logs m).runs (g.tasks u.member t).stage
    (subst (λ x. has_run u (g.logs x).runs ≡ is_hardened (g.tasks u.member t).stage) same (laws.in_hand u t has).in_log)
    (subst (λ x. IsPlaced u (g.logs x).runs (g.tasks u.member t).stage) same (laws.placed u t has))
    (subst (λ x. IsNeededFrom page (g.tasks x t).stage) (sym same) (may.needed t))))
    now

-- a unit that a mark names: it is in hand, or of another member, since no incarnation of this one is unresolved
named_publishes : (g : Group) (m : Member) (page : ℕ) (u : UnitName) (Due : Task → Type 0) → MayPublish g m page → Laws g → Names g.failed g.tasks u Due → RunKept g.logs u → RunKept (published g m page).logs u
named_publishes g m page u Due may laws names now = elim names [
  | inl gone ↦ moved (λ (l : Log). RunsFrom l.low u l.runs) m (λ log. record log { low = max log.low page }) g.logs u.member
      (λ same from. absurd (both_ways (g.failed u.member u.incarnation.number) (subst (λ x. g.failed x u.incarnation.number ≡ false) (sym same) (may.resolved u.incarnation.number)) gone))
      now
  | inr live ↦ live_publishes g m page may laws u live.0 live.1 now
]

mark_publishes : (g : Group) (m : Member) (page : ℕ) (k : ℕ × ℕ) (msg : Message) (mark : Mark) → MayPublish g m page → Laws g → MarkNames g.failed g.tasks k msg mark → IsKept g.logs mark → IsKept (published g m page).logs mark
mark_publishes g m page k msg Visible may laws names kept = tt
mark_publishes g m page k msg (PutBy u) may laws names kept = named_publishes g m page u (λ task. PutsBy task.stage task.ops task.claims k msg) may laws names kept
mark_publishes g m page k msg (GotBy u) may laws names kept = named_publishes g m page u (λ task. GetsBy task.stage task.ops task.claims k) may laws names kept
mark_publishes g m page k msg Cleanup may laws names kept = tt

kept_publishes : (g : Group) (m : Member) (page : ℕ) → MayPublish g m page → Laws g → AreKept (published g m page).logs g.shelves g.tasks
kept_publishes g m page may laws = record {
  of_marked = λ s id e there. mark_publishes g m page (structure_number s, id) e.message e.mark may laws (laws.marked s id e there) (laws.kept.of_marked s id e there);
  of_held = λ u t has. live_publishes g m page may laws u t has (laws.kept.of_held u t has);
}

kept_gives_up : (g : Group) (m : Member) (page : ℕ) → Laws g → AreKept (given_up g m page).logs g.shelves g.tasks
kept_gives_up g m page laws = kept_step g (given_up g m page).logs
    (λ u now. moved (λ (l : Log). RunsFrom l.low u l.runs) m (λ log. record log { runs = filter (λ (run : Run). nat_le page run.first) log.runs; keep = page }) g.logs u.member
    (λ same from. kept_filter _ (λ (run : Run). nat_le page run.first) (g.logs m).runs from) now) laws

pub kept_stays : (g h : Group) → Change g h → Laws g → AreKept h.logs h.shelves h.tasks
kept_stays g _ (Draws _ u t may) laws = record {
  of_marked = laws.kept.of_marked;
  of_held = held_after g u.member t (open_task u [] []) (λ v m e. subst (λ (x : UnitName). RunKept g.logs x) (same_Some u v e) (unrun (g.logs u.member).low u (g.logs u.member).runs (undrawn_run g u t may laws))) laws;
}
kept_stays g _ (Puts _ u t ops claims s m outside may) laws = record {
  of_marked = marks_put g u t ops claims s m outside may laws;
  of_held = held_after g u.member t (open_task u (ops ++ (s, Rattle.qsg_model.specs.declared.history.Op.TheVariants.Put m) ∷ []) (claims ++ claim_of s (g.shelves s) m ∷ [])) (own_kept g u t (open_task u ops claims) may.has refl laws) laws;
}
kept_stays g _ (Gets _ u t ops claims s m outside may) laws = record {
  of_marked = marks_got g u t ops claims s m outside may laws;
  of_held = held_after g u.member t (open_task u (ops ++ (s, Rattle.qsg_model.specs.declared.history.Op.TheVariants.Got m.id) ∷ []) (claims ++ claim_of s (g.shelves s) m ∷ [])) (own_kept g u t (open_task u ops claims) may.has refl laws) laws;
}
kept_stays g _ (Ungets _ u t ops claims c may) laws = record {
  of_marked = marks_settled g c.connection.structure c.id.number u false laws;
  of_held = held_after g u.member t (open_task u ops claims) (own_kept g u t (got_task u ops claims c) may.has refl laws) laws;
}
kept_stays g _ (Forgets _ s n may) laws = record {
  of_marked = λ x id e there. laws.kept.of_marked x id e (was_there g s n laws x id e there);
  of_held = laws.kept.of_held;
}
kept_stays g _ (Begins _ u t ops claims may) laws = record {
  of_marked = laws.kept.of_marked;
  of_held = held_after g u.member t (hardening_task u ops claims (g.logs u.member).next) (own_kept g u t (open_task u ops claims) may.has refl laws) laws;
}
kept_stays g _ (Hardens _ u t ops claims first next may) laws = kept_hardens g u t ops claims first next may laws
kept_stays g _ (BacksOut _ u t ops claims may) laws = record {
  of_marked = laws.kept.of_marked;
  of_held = held_after g u.member t (settling_task u claims None 0) (own_kept g u t (open_task u ops claims) may.has refl laws) laws;
}
kept_stays g _ (Settles _ u t claims first n c may) laws = record {
  of_marked = marks_settled g c.connection.structure c.id.number u (is_commit first) laws;
  of_held = held_after g u.member t (settling_task u claims first (n + 1)) (own_kept g u t (settling_task u claims first n) may.has refl laws) laws;
}
kept_stays g _ (Finishes _ u t claims first n may) laws = record {
  of_marked = laws.kept.of_marked;
  of_held = held_after g u.member t idle (λ v m e. absurd (none-some v e)) laws;
}
kept_stays g _ (Publishes _ m page may) laws = kept_publishes g m page may laws
kept_stays g _ (GivesUp _ m page may) laws = kept_gives_up g m page laws
kept_stays g _ (Crashes _ m may) laws = record {
  of_marked = laws.kept.of_marked;
  of_held = every_crashed g.tasks m (λ u task. RunKept g.logs u) laws.kept.of_held;
}
kept_stays g _ (Stops _ m may) laws = record {
  of_marked = laws.kept.of_marked;
  of_held = every_crashed g.tasks m (λ u task. RunKept g.logs u) laws.kept.of_held;
}
kept_stays g _ (PeerSettles _ s id u may) laws = record {
  of_marked = marks_settled g s id u (is_committed g.logs u) laws;
  of_held = laws.kept.of_held;
}
kept_stays g _ (Loses _ s may) laws = record {
  of_marked = every_structure (λ x shelf. MarksKept g.logs shelf.entries) s lost_shelf g.shelves (λ id e there. absurd cc) (λ x differ. laws.kept.of_marked x);
  of_held = laws.kept.of_held;
}
kept_stays g _ (Recovers _ s m i may) laws = record {
  of_marked = every_structure (λ x shelf. MarksKept g.logs shelf.entries) s (in_recovery m i) g.shelves (λ id e there. absurd cc) (λ x differ. laws.kept.of_marked x);
  of_held = laws.kept.of_held;
}
kept_stays g _ (Reopens _ s may) laws = record {
  of_marked = every_structure (λ x shelf. MarksKept g.logs shelf.entries) s (reopened_shelf (g.tops s)) g.shelves (laws.kept.of_marked s) (λ x differ. laws.kept.of_marked x);
  of_held = laws.kept.of_held;
}
kept_stays g _ _ laws = laws.kept
