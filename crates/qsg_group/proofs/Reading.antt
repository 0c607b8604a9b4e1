-- What follows of marks: what tells whether their units are committed, and when there are none.
use Rattle.std.proofs.Common.{◌≡◌, ℕ, Bool, true, false, cond, List, [], ◌∷◌, Some, None, refl, sym, ap, subst, ◌∙◌, inl, inr}
use Rattle.std.specs.Prelude.{◌⊎◌}
use Rattle.std.specs.List.{AllByRecursion, cons_option}
use Rattle.std.proofs.lemmas.Bool.{both_ways}
use Rattle.std.proofs.lemmas.Option.{none-some}
use Rattle.qsg_num.specs.declared.seats.Member.{Member}
use Rattle.qsg_num.specs.declared.seats.StructNo.{StructNo}
use Rattle.qsg_num.specs.declared.seats.TaskNo.{TaskNo}
use Rattle.qsg_num.specs.declared.ids.UnitName.{UnitName}
use Rattle.qsg_num.specs.Seats.{structure_number}
use Rattle.qsg_msg.specs.declared.message.Message.{Message}
use Rattle.qsg_lists.specs.declared.parts.Mark.{Mark}
use Rattle.qsg_lists.specs.declared.parts.Mark.TheVariants.{Visible, PutBy, GotBy, Cleanup}
use Rattle.qsg_group.specs.declared.tasks.Task.{Task}
use Rattle.qsg_group.specs.Group.{Held, Log, Group}
use Rattle.qsg_lists.specs.Structures.{is_active}
use Rattle.qsg_group.specs.Observers.{has_id, entry_at, has_run, is_committed, runs_from}
use Rattle.qsg_group.specs.Laws.{is_pending, Names, PutsBy, GetsBy, MarkNames, RunsFrom, IsKept, Laws}
use Rattle.qsg_group.specs.Changes.{settled_entry, settle}
use Rattle.qsg_group.proofs.Keys.{has_run-later}

-- ---- the low page

kept_unit : (logs : Member → Log) (u : UnitName) (mark : Mark) → (mark ≡ PutBy u) ⊎ (mark ≡ GotBy u) → IsKept logs mark → RunsFrom (logs u.member).low u (logs u.member).runs
kept_unit logs u mark names kept = elim names [
  | inl put ↦ subst (IsKept logs) put kept
  | inr got ↦ subst (IsKept logs) got kept
]

pub low_page_tells : (g : Group) (s : StructNo) (id : ℕ) (e : Held) (u : UnitName) → Laws g → entry_at id (g.shelves s).entries ≡ Some e → (e.mark ≡ PutBy u) ⊎ (e.mark ≡ GotBy u) → has_run u (runs_from (g.logs u.member).low (g.logs u.member).runs) ≡ is_committed g.logs u
low_page_tells g s id e u laws there names = has_run-later (g.logs u.member).low u (g.logs u.member).runs (kept_unit g.logs u e.mark names (laws.kept.of_marked s id e there))

-- ---- a structure that isn't active

entry_left : (u : UnitName) (commits : Bool) (mark : Mark) (e : Held) → is_pending mark ≡ false → settled_entry u commits mark e ≡ Some e
entry_left u commits Visible e quiet = refl
entry_left u commits (PutBy v) e quiet = absurd cc
entry_left u commits (GotBy v) e quiet = absurd cc
entry_left u commits Cleanup e quiet = refl

entries_left : (id : ℕ) (u : UnitName) (commits : Bool) (es : List Held) → AllByRecursion (λ (e : Held). is_pending e.mark ≡ false) es → settle id u commits es ≡ es
entries_left id u commits [] quiet = refl
entries_left id u commits (e ∷ es) quiet = by (has_id id e) (entries_left id u commits es quiet.1)
  where
    by : (b : Bool) → settle id u commits es ≡ es → cond b (cons_option (settled_entry u commits e.mark e) es) (e ∷ settle id u commits es) ≡ e ∷ es
    by true rest = ap (λ o. cons_option o es) (entry_left u commits e.mark e quiet.0)
    by false rest = ap (λ l. e ∷ l) rest

pub inactive_stays : (g : Group) (s : StructNo) (id : ℕ) (u : UnitName) (commits : Bool) → Laws g → is_active (g.shelves s).state ≡ false → settle id u commits (g.shelves s).entries ≡ (g.shelves s).entries
inactive_stays g s id u commits laws idle = entries_left id u commits (g.shelves s).entries ((laws.shelves s).quiet idle)

-- ---- no marks

none_named : (g : Group) (u : UnitName) (Due : Task → Type 0) → ((m : Member) (i : ℕ) → g.failed m i ≡ false) → ((m : Member) (t : TaskNo) → (g.tasks m t).unit ≡ None) → Names g.failed g.tasks u Due → ⊥
none_named g u Due sound free names = elim names [
  | inl gone ↦ both_ways (g.failed u.member u.incarnation.number) (sound u.member u.incarnation.number) gone
  | inr live ↦ none-some u (sym (free u.member live.0) ∙ live.1)
]

unmarked : (g : Group) (k : ℕ × ℕ) (msg : Message) (mark : Mark) → ((m : Member) (i : ℕ) → g.failed m i ≡ false) → ((m : Member) (t : TaskNo) → (g.tasks m t).unit ≡ None) → MarkNames g.failed g.tasks k msg mark → is_pending mark ≡ false
unmarked g k msg Visible sound free names = refl
unmarked g k msg (PutBy u) sound free names = absurd (none_named g u (λ task. PutsBy task.stage task.ops task.claims k msg) sound free names)
unmarked g k msg (GotBy u) sound free names = absurd (none_named g u (λ task. GetsBy task.stage task.ops task.claims k) sound free names)
unmarked g k msg Cleanup sound free names = refl

pub none_pending : (g : Group) → Laws g → ((m : Member) (i : ℕ) → g.failed m i ≡ false) → ((m : Member) (t : TaskNo) → (g.tasks m t).unit ≡ None) → (s : StructNo) (id : ℕ) (e : Held) → entry_at id (g.shelves s).entries ≡ Some e → is_pending e.mark ≡ false
none_pending g laws sound free s id e there = unmarked g (structure_number s, id) e.message e.mark sound free (laws.marked s id e there)
