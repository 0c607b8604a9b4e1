-- Each pending unit settled by its member's log, the structures hold what the history holds.
use Rattle.qsg_group.specs.Changes.Change.{Recovers, Purges, Reopens}
use Rattle.qsg_group.proofs.Purging.{held_purged, emptied_now, not_both}
use Rattle.qsg_group.specs.Changes.{in_recovery, reopened_shelf}
use Rattle.qsg_group.proofs.Tables.{cases_structure}
use Rattle.qsg_lists.specs.Recovering.{is_recovering}
use Rattle.std.proofs.Common.{◌≡◌, ℕ, ◌≤◌, max, Bool, true, false, cond, List, [], ◌∷◌, ◌++◌, Option, Some, None, refl, sym, ap, subst, ◌∙◌, arith, inl, inr, filter}
use Rattle.std.specs.Prelude.{nat_le, nat_lt}
use Rattle.std.specs.Option.{option_and_then}
use Rattle.std.proofs.lemmas.Bool.{cases_Bool, both_ways, cases_eq}
use Rattle.std.proofs.lemmas.Bool.Decides.{nat_tests}
use Rattle.std.proofs.lemmas.Option.{same_Some, none-some}
use Rattle.qsg_num.specs.declared.seats.Member.{Member}
use Rattle.qsg_num.specs.declared.seats.StructNo.{StructNo}
use Rattle.qsg_num.specs.declared.seats.TaskNo.{TaskNo}
use Rattle.qsg_num.specs.declared.ids.UnitName.{UnitName}
use Rattle.qsg_num.specs.Seats.{member_number, structure_number}
use Rattle.qsg_num.specs.Ids.{same_unit, epoch_of}
use Rattle.qsg_msg.specs.declared.message.Message.{Message}
use Rattle.qsg_model.specs.declared.history.Op.{Op}
use Rattle.qsg_model.specs.declared.history.Item.{Item}
use Rattle.qsg_model.specs.declared.history.Item.TheVariants.{Unit as UnitOf, Lost}
use Rattle.qsg_model.specs.History.{puts}
use Rattle.qsg_model.specs.Past.{message_at, after, is_got, held_at, past_of, Past, is_kept, kept, or_else}
use Rattle.qsg_model.proofs.Growing.{past_of-push}
use Rattle.qsg_model.proofs.Past.{count_is, floor_below}
use Rattle.qsg_model.proofs.Differing.{same_unit-self}
use Rattle.qsg_lists.specs.declared.parts.Mark.{Mark}
use Rattle.qsg_lists.specs.declared.parts.Mark.TheVariants.{Visible, PutBy, GotBy, Cleanup}
use Rattle.qsg_lists.specs.Structures.{is_active}
use Rattle.qsg_group.specs.declared.tasks.Claim.{Claim}
use Rattle.qsg_group.specs.declared.tasks.Task.{Task}
use Rattle.qsg_group.specs.Tables.{at_structure, at_member}
use Rattle.qsg_group.specs.Group.{Held, Shelf, Run, Log, Group}
use Rattle.qsg_group.specs.Observers.{entry_at, top_of, revise, has_run, is_committed, counted_by, counted, settled_at, is_undecided, is_hardened, logged_ops}
use Rattle.std.specs.List.{AllByRecursion}
use Rattle.qsg_group.specs.Laws.{Names, MarkNames, IsOfEpoch, PutsBy, GetsBy, RunsFrom, IsKept, IsDone, IsGood, Laws}
use Rattle.qsg_group.specs.Changes.{open_task, hardening_task, settling, is_commit, settling_task, with_entry, with_entries, with_run, marked, removed, settled_entry, lost_shelf, MayPut, MayHarden, MayGiveUp, Change, hardened, published, given_up}
use Rattle.qsg_group.specs.Changes.Change.{Puts, Gets, Ungets, Forgets, Hardens, Settles, Publishes, GivesUp, PeerSettles, Loses}
use Rattle.qsg_group.proofs.Tables.{every_structure, moved, change-same}
use Rattle.qsg_group.proofs.Entries.{num, KeepsId, entry-head, entry-tail, push_same, push_other, revise_same, revise_other}
use Rattle.qsg_group.proofs.Keys.{has_run-push, has_run-later}
use Rattle.qsg_group.proofs.Pages.{has_unit, same_name}
use Rattle.qsg_group.proofs.Units.{or_false}
use Rattle.qsg_group.proofs.Failing.{unfailed}
use Rattle.qsg_group.proofs.Losing.{held_lost}
use Rattle.qsg_group.proofs.Shelves.{settler, settler_keeps, marker_keeps, forgetter_keeps}
use Rattle.qsg_group.proofs.Holding.{got_task}
use Rattle.qsg_group.proofs.Marks.{none_yet}

-- what an active structure holds, as the history has it
abbrev GoodOf : List Item → (Member → Log) → StructNo → Shelf → Type 0
GoodOf h logs s shelf = is_active shelf.state ≡ true → (id : ℕ) → settled_at id logs shelf.entries ≡ held_at (structure_number s, id) h

-- ---- a put

good_puts : (g : Group) (u : UnitName) (t : TaskNo) (ops : List (StructNo × Op)) (claims : List Claim) (s : StructNo) (m : Message) (outside : Bool) → MayPut g u t ops claims s m → Laws g → IsGood g.history g.logs (at_structure s (with_entry (record { message = m; mark = PutBy u; outside = outside })) g.shelves)
good_puts g u t ops claims s m outside may laws =
    let e : Held = record { message = m; mark = PutBy u; outside = outside } in
    let es = (g.shelves s).entries in
    let none = none_yet g u t ops claims s m may laws in
    let uncommitted : is_committed g.logs u ≡ false = (laws.in_hand u t (has_unit g u t (open_task u ops claims) may.has refl)).in_log ∙ ap (λ (x : Task). is_hardened x.stage) may.has in
    every_structure (GoodOf g.history g.logs) s (with_entry e) g.shelves
    (λ active id. elim (cases_eq m.id.number id) [
      | inl same ↦ subst (λ n. settled_at n g.logs (es ++ e ∷ []) ≡ held_at (structure_number s, n) g.history) same
          (ap (option_and_then (counted g.logs)) (push_same es e none) ∙ ap (λ b. cond b (Some m) None) uncommitted
          ∙ sym (ap (option_and_then (counted g.logs)) none) ∙ laws.good s active m.id.number)
      | inr differ ↦ ap (option_and_then (counted g.logs)) (push_other id es e differ) ∙ laws.good s active id
    ])
    (λ x differ. laws.good x)

-- ---- a change of one entry that leaves what counts

and_then_same : (logs : Member → Log) (f : Held → Option Held) (o : Option Held) → ((e : Held) → o ≡ Some e → option_and_then (counted logs) (f e) ≡ counted logs e) → option_and_then (counted logs) (option_and_then f o) ≡ option_and_then (counted logs) o
and_then_same logs f None same = refl
and_then_same logs f (Some e) same = same e refl

good_revise : (g : Group) (s : StructNo) (id : ℕ) (f : Held → Option Held) → KeepsId f → (is_active (g.shelves s).state ≡ true → (e : Held) → entry_at id (g.shelves s).entries ≡ Some e → option_and_then (counted g.logs) (f e) ≡ counted g.logs e) → Laws g → IsGood g.history g.logs (at_structure s (with_entries (revise id f)) g.shelves)
good_revise g s id f keeps same laws =
    let es = (g.shelves s).entries in
    every_structure (GoodOf g.history g.logs) s (with_entries (revise id f)) g.shelves
    (λ active j. elim (cases_eq id j) [
      | inl here ↦ subst (λ n. settled_at n g.logs (revise id f es) ≡ held_at (structure_number s, n) g.history) here
          (ap (option_and_then (counted g.logs)) (revise_same (top_of (g.shelves s)) id f es keeps (laws.shelves s).rising) ∙ and_then_same g.logs f (entry_at id es) (same active) ∙ laws.good s active id)
      | inr differ ↦ ap (option_and_then (counted g.logs)) (revise_other id j f es keeps differ) ∙ laws.good s active j
    ])
    (λ x differ. laws.good x)

counted_removed : (logs : Member → Log) (e : Held) → option_and_then (counted logs) (removed e) ≡ None
counted_removed logs e = by e.outside
  where
    by : (b : Bool) → option_and_then (counted logs) (cond b (marked Cleanup e) None) ≡ None
    by true = refl
    by false = refl

-- a settle by the log leaves what counts
pub settled_counts : (logs : Member → Log) (u : UnitName) (mark : Mark) (e : Held) → e.mark ≡ mark → option_and_then (counted logs) (settled_entry u (is_committed logs u) mark e) ≡ counted_by logs e.message mark
settled_counts logs u Visible e is = ap (λ m. counted_by logs e.message m) is
settled_counts logs u Cleanup e is = ap (λ m. counted_by logs e.message m) is
settled_counts logs u (PutBy v) e is = elim (cases_Bool (same_unit u v)) [
  | inl same ↦
      ap (λ b. option_and_then (counted logs) (cond b (cond (is_committed logs u) (marked Visible e) (removed e)) (Some e))) same
      ∙ by (is_committed logs u) ∙ ap (λ (x : UnitName). cond (is_committed logs x) (Some e.message) None) (same_name u v same)
  | inr differ ↦ ap (λ b. option_and_then (counted logs) (cond b (cond (is_committed logs u) (marked Visible e) (removed e)) (Some e))) differ ∙ ap (λ m. counted_by logs e.message m) is
]
  where
    by : (b : Bool) → option_and_then (counted logs) (cond b (marked Visible e) (removed e)) ≡ cond b (Some e.message) None
    by true = refl
    by false = counted_removed logs e
settled_counts logs u (GotBy v) e is = elim (cases_Bool (same_unit u v)) [
  | inl same ↦
      ap (λ b. option_and_then (counted logs) (cond b (cond (is_committed logs u) (removed e) (marked Visible e)) (Some e))) same
      ∙ by (is_committed logs u) ∙ ap (λ (x : UnitName). cond (is_committed logs x) None (Some e.message)) (same_name u v same)
  | inr differ ↦ ap (λ b. option_and_then (counted logs) (cond b (cond (is_committed logs u) (removed e) (marked Visible e)) (Some e))) differ ∙ ap (λ m. counted_by logs e.message m) is
]
  where
    by : (b : Bool) → option_and_then (counted logs) (cond b (removed e) (marked Visible e)) ≡ cond b None (Some e.message)
    by true = counted_removed logs e
    by false = refl

settling_is : (first : Option ℕ) (n : ℕ) → is_hardened (settling first n) ≡ is_commit first
settling_is None n = refl
settling_is (Some first) n = refl

-- ---- a commit

-- what is kept of a put of the present epoch
present_kept : (p : Past) (m : Message) (epoch : ℕ) → epoch_of m.id ≡ epoch → p.count ≡ epoch → p.floor ≤ p.count → is_kept p m ≡ true
present_kept p m epoch is count floor =
    let a : p.count ≤ epoch_of m.id = omega (arith, is, count) in
    let b : p.floor ≤ epoch_of m.id = omega (arith, is, count, floor) in
    let c : nat_lt (epoch_of m.id) p.count ≡ false = grind (arith, nat_tests, a) in
    let d : nat_lt (epoch_of m.id) p.floor ≡ false = grind (arith, nat_tests, b) in
    grind (arith, c, d)

counted_now : (u : UnitName) (logs new : Member → Log) (mark : Mark) (m : Message) → ((v : UnitName) → same_unit v u ≡ false → is_committed new v ≡ is_committed logs v) → ((v : UnitName) → same_unit v u ≡ true → mark ≡ PutBy v → ⊥) → ((v : UnitName) → same_unit v u ≡ true → mark ≡ GotBy v → ⊥) → counted_by new m mark ≡ counted_by logs m mark
counted_now u logs new Visible m same no_put no_got = refl
counted_now u logs new Cleanup m same no_put no_got = refl
counted_now u logs new (PutBy v) m same no_put no_got = elim (cases_Bool (same_unit v u)) [
  | inl own ↦ absurd (no_put v own refl)
  | inr other ↦ ap (λ b. cond b (Some m) None) (same v other)
]
counted_now u logs new (GotBy v) m same no_put no_got = elim (cases_Bool (same_unit v u)) [
  | inl own ↦ absurd (no_got v own refl)
  | inr other ↦ ap (λ b. cond b None (Some m)) (same v other)
]

and_then_new : (logs new : Member → Log) (o : Option Held) → ((e : Held) → o ≡ Some e → counted new e ≡ counted logs e) → option_and_then (counted new) o ≡ option_and_then (counted logs) o
and_then_new logs new None same = refl
and_then_new logs new (Some e) same = same e refl

-- a mark of a unit in hand is one of its operations
names_own : (g : Group) (u : UnitName) (t : TaskNo) (task : Task) (Due : Task → Type 0) → g.tasks u.member t ≡ task → task.unit ≡ Some u → Laws g → Names g.failed g.tasks u Due → Due task
names_own g u t task Due is unit laws names = elim names [
  | inl gone ↦ absurd (unfailed g u t (has_unit g u t task is unit) laws gone)
  | inr live ↦ subst Due is (subst (λ w. Due (g.tasks u.member w)) (sym (laws.once u t live.0 (has_unit g u t task is unit) live.1)) live.2)
]

own_mark_put : (g : Group) (u : UnitName) (t : TaskNo) (ops : List (StructNo × Op)) (claims : List Claim) (first next : ℕ) → MayHarden g u t ops claims first next → Laws g → (k : ℕ × ℕ) (m : Message) (mark : Mark) → mark ≡ PutBy u → MarkNames g.failed g.tasks k m mark → message_at k (puts ops) ≡ Some m
own_mark_put g u t ops claims first next may laws k m mark is names = names_own g u t (hardening_task u ops claims first) (λ task. PutsBy task.stage task.ops task.claims k m) may.has refl laws (subst (MarkNames g.failed g.tasks k m) is names)

own_mark_got : (g : Group) (u : UnitName) (t : TaskNo) (ops : List (StructNo × Op)) (claims : List Claim) (first next : ℕ) → MayHarden g u t ops claims first next → Laws g → (k : ℕ × ℕ) (m : Message) (mark : Mark) → mark ≡ GotBy u → MarkNames g.failed g.tasks k m mark → is_got k ops ≡ true
own_mark_got g u t ops claims first next may laws k m mark is names = names_own g u t (hardening_task u ops claims first) (λ task. GetsBy task.stage task.ops task.claims k) may.has refl laws (subst (MarkNames g.failed g.tasks k m) is names)

found_all : (P : Held → Type 0) (id : ℕ) (es : List Held) (e : Held) → AllByRecursion P es → entry_at id es ≡ Some e → P e
found_all P id [] e all there = absurd cc
found_all P id (x ∷ es) e all there = elim (cases_eq (num x) id) [
  | inl same ↦ subst P (same_Some x e (sym (entry-head id x es same) ∙ there)) all.0
  | inr differ ↦ found_all P id es e all.1 (sym (entry-tail id x es differ) ∙ there)
]

committed_now : (g : Group) (u : UnitName) (run : Run) (next : ℕ) → run.unit ≡ u → is_committed (at_member u.member (with_run run next) g.logs) u ≡ true
committed_now g u run next is =
    ap (λ (l : Log). has_run u l.runs) (change-same member_number u.member (with_run run next) g.logs) ∙ has_run-push u (g.logs u.member).runs run
    ∙ (let t : same_unit u run.unit ≡ true = ap (same_unit u) is ∙ same_unit-self u in grind (arith, t))

committed_as_before : (g : Group) (u v : UnitName) (run : Run) (next : ℕ) → run.unit ≡ u → same_unit v u ≡ false → is_committed (at_member u.member (with_run run next) g.logs) v ≡ is_committed g.logs v
committed_as_before g u v run next is differ = moved (λ (l : Log). has_run v l.runs ≡ has_run v (g.logs v.member).runs) u.member (with_run run next) g.logs v.member
    (λ same now. has_run-push v (g.logs u.member).runs run ∙ or_false (has_run v (g.logs u.member).runs) (same_unit v run.unit) (ap (same_unit v) is ∙ differ) ∙ now) refl

-- what the history holds once the unit is committed
after_put : (k : ℕ × ℕ) (p : Past) (u : UnitName) (ops : List (StructNo × Op)) (m : Message) → message_at k (puts ops) ≡ Some m → is_kept p m ≡ true → (after k p (UnitOf u ops)).message ≡ Some m
after_put k p u ops m found keeps = ap (λ o. or_else (kept p o) (cond (is_got k ops) None p.message)) found ∙ ap (λ b. or_else (cond b (Some m) None) (cond (is_got k ops) None p.message)) keeps

after_got : (k : ℕ × ℕ) (p : Past) (u : UnitName) (ops : List (StructNo × Op)) → message_at k (puts ops) ≡ None → is_got k ops ≡ true → (after k p (UnitOf u ops)).message ≡ None
after_got k p u ops none got = ap (λ o. or_else (kept p o) (cond (is_got k ops) None p.message)) none ∙ ap (λ b. cond b None p.message) got

after_other : (k : ℕ × ℕ) (p : Past) (u : UnitName) (ops : List (StructNo × Op)) → message_at k (puts ops) ≡ None → is_got k ops ≡ false → (after k p (UnitOf u ops)).message ≡ p.message
after_other k p u ops none ungot = ap (λ o. or_else (kept p o) (cond (is_got k ops) None p.message)) none ∙ ap (λ b. cond b None p.message) ungot

good_hardens : (g : Group) (u : UnitName) (t : TaskNo) (ops : List (StructNo × Op)) (claims : List Claim) (first next : ℕ) → MayHarden g u t ops claims first next → Laws g → IsGood (hardened g u t ops claims next).history (hardened g u t ops claims next).logs g.shelves
good_hardens g u t ops claims first next may laws s active id =
    let k : ℕ × ℕ = (structure_number s, id) in
    let task = hardening_task u ops claims first in
    let at = has_unit g u t task may.has refl in
    let done : IsDone u ops (structure_number s) (g.shelves s).entries = subst (λ (x : Task). IsDone u x.ops (structure_number s) (g.shelves s).entries) may.has (laws.done u t at (ap (λ (x : Task). is_undecided x.stage) may.has) s active) in
    by (message_at k (puts ops)) refl (is_got k ops) refl done ∙ sym (ap (λ (p : Past). p.message) (past_of-push k g.history (UnitOf u ops)))
  where
    by : (o : Option Message) → message_at (structure_number s, id) (puts ops) ≡ o → (b : Bool) → is_got (structure_number s, id) ops ≡ b → IsDone u ops (structure_number s) (g.shelves s).entries
        → settled_at id (hardened g u t ops claims next).logs (g.shelves s).entries ≡ (after (structure_number s, id) (past_of (structure_number s, id) g.history) (UnitOf u ops)).message
    by (Some m) found b got done =
        let k : ℕ × ℕ = (structure_number s, id) in
        let p = past_of k g.history in
        let d = done.puts_stand id m found in
        let run : Run = record { unit = u; first = (g.logs u.member).next; told = logged_ops ops claims } in
        let epoch = found_all (IsOfEpoch (g.shelves s).epoch) id (g.shelves s).entries (record { message = m; mark = PutBy u; outside = d.0 }) (laws.shelves s).present d.1 u refl in
        let count : p.count ≡ (g.shelves s).epoch = count_is k g.history ∙ sym (laws.epochs s active) in
        ap (option_and_then (counted (hardened g u t ops claims next).logs)) d.1
        ∙ ap (λ b. cond b (Some m) None) (committed_now g u run next refl)
        ∙ sym (after_put k p u ops m found (present_kept p m (g.shelves s).epoch epoch count (floor_below k g.history)))
    by None none true got done =
        let k : ℕ × ℕ = (structure_number s, id) in
        let d = done.gots_stand id got in
        let run : Run = record { unit = u; first = (g.logs u.member).next; told = logged_ops ops claims } in
        ap (option_and_then (counted (hardened g u t ops claims next).logs)) d.2
        ∙ ap (λ b. cond b None (Some d.0)) (committed_now g u run next refl)
        ∙ sym (after_got k (past_of k g.history) u ops none got)
    by None none false ungot done =
        let k : ℕ × ℕ = (structure_number s, id) in
        let run : Run = record { unit = u; first = (g.logs u.member).next; told = logged_ops ops claims } in
        and_then_new g.logs (hardened g u t ops claims next).logs (entry_at id (g.shelves s).entries)
        (λ e there. counted_now u g.logs (hardened g u t ops claims next).logs e.mark e.message (λ v differ. committed_as_before g u v run next refl differ)
        (λ v own is. none-some e.message (sym none ∙ own_mark_put g u t ops claims first next may laws k e.message e.mark (is ∙ ap (λ (x : UnitName). PutBy x) (same_name v u own)) (laws.marked s id e there)))
        (λ v own is. both_ways (is_got k ops) ungot (own_mark_got g u t ops claims first next may laws k e.message e.mark (is ∙ ap (λ (x : UnitName). GotBy x) (same_name v u own)) (laws.marked s id e there))))
        ∙ laws.good s active id ∙ sym (after_other k (past_of k g.history) u ops none ungot)

-- ---- pages that are given up

from_low : (page low : ℕ) (u : UnitName) (runs : List Run) → page ≤ low → RunsFrom low u runs → RunsFrom page u runs
from_low page low u [] le from = tt
from_low page low u (run ∷ runs) le from = ((λ same. let x = from.0 same in omega (arith, x)), from_low page low u runs le from.1)

-- the runs of a unit that a mark names stay
named_stays : (g : Group) (m : Member) (page : ℕ) (u : UnitName) → MayGiveUp g m page → RunsFrom (g.logs u.member).low u (g.logs u.member).runs → is_committed (given_up g m page).logs u ≡ is_committed g.logs u
named_stays g m page u may kept = moved (λ (l : Log). has_run u l.runs ≡ has_run u (g.logs u.member).runs) m (λ log. record log { runs = filter (λ (run : Run). nat_le page run.first) log.runs; keep = page }) g.logs u.member
    (λ same now. has_run-later page u (g.logs m).runs (from_low page (g.logs m).low u (g.logs m).runs may.low (subst (λ x. RunsFrom (g.logs x).low u (g.logs x).runs) same kept)) ∙ now) refl

counted_stays : (g : Group) (m : Member) (page : ℕ) (msg : Message) (mark : Mark) → MayGiveUp g m page → IsKept g.logs mark → counted_by (given_up g m page).logs msg mark ≡ counted_by g.logs msg mark
counted_stays g m page msg Visible may kept = refl
counted_stays g m page msg (PutBy u) may kept = ap (λ b. cond b (Some msg) None) (named_stays g m page u may kept)
counted_stays g m page msg (GotBy u) may kept = ap (λ b. cond b None (Some msg)) (named_stays g m page u may kept)
counted_stays g m page msg Cleanup may kept = refl

counted_low : (g : Group) (m : Member) (page : ℕ) (msg : Message) (mark : Mark) → counted_by (published g m page).logs msg mark ≡ counted_by g.logs msg mark
counted_low g m page msg Visible = refl
counted_low g m page msg (PutBy u) = ap (λ b. cond b (Some msg) None) (moved (λ (l : Log). has_run u l.runs ≡ has_run u (g.logs u.member).runs) m (λ log. record log { low = max log.low page }) g.logs u.member (λ same now. now) refl)
counted_low g m page msg (GotBy u) = ap (λ b. cond b None (Some msg)) (moved (λ (l : Log). has_run u l.runs ≡ has_run u (g.logs u.member).runs) m (λ log. record log { low = max log.low page }) g.logs u.member (λ same now. now) refl)
counted_low g m page msg Cleanup = refl

pub good_stays : (g h : Group) → Change g h → Laws g → IsGood h.history h.logs h.shelves
good_stays g _ (Puts _ u t ops claims s m outside may) laws = good_puts g u t ops claims s m outside may laws
good_stays g _ (Gets _ u t ops claims s m outside may) laws = good_revise g s m.id.number (marked (GotBy u)) (marker_keeps (GotBy u))
    (λ active e there.
    let is : record { message = m; mark = Visible; outside = outside } ≡ e = same_Some (record { message = m; mark = Visible; outside = outside }) e (sym may.there ∙ there) in
    let uncommitted : is_committed g.logs u ≡ false = (laws.in_hand u t (has_unit g u t (open_task u ops claims) may.has refl)).in_log ∙ ap (λ (x : Task). is_hardened x.stage) may.has in
    subst (λ (x : Held). option_and_then (counted g.logs) (marked (GotBy u) x) ≡ counted g.logs x) is (ap (λ b. cond b None (Some m)) uncommitted)) laws
good_stays g _ (Ungets _ u t ops claims c may) laws = good_revise g c.connection.structure c.id.number (settler u false) (settler_keeps u false)
    (λ active e there.
    let uncommitted : is_committed g.logs u ≡ false = (laws.in_hand u t (has_unit g u t (got_task u ops claims c) may.has refl)).in_log ∙ ap (λ (x : Task). is_hardened x.stage) may.has in
    ap (λ b. option_and_then (counted g.logs) (settled_entry u b e.mark e)) (sym uncommitted) ∙ settled_counts g.logs u e.mark e refl) laws
good_stays g _ (Forgets _ s id may) laws = good_revise g s id (λ e. None) forgetter_keeps
    (λ active e there. sym (ap (counted_by g.logs e.message) (ap (λ (x : Held). x.mark) (sym (same_Some may.entry e (sym may.there ∙ there))) ∙ may.mark))) laws
good_stays g _ (Hardens _ u t ops claims first next may) laws = good_hardens g u t ops claims first next may laws
good_stays g _ (Settles _ u t claims first n c may) laws = good_revise g c.connection.structure c.id.number (settler u (is_commit first)) (settler_keeps u (is_commit first))
    (λ active e there.
    let committed : is_committed g.logs u ≡ is_commit first = (laws.in_hand u t (has_unit g u t (settling_task u claims first n) may.has refl)).in_log ∙ ap (λ (x : Task). is_hardened x.stage) may.has ∙ settling_is first n in
    ap (λ b. option_and_then (counted g.logs) (settled_entry u b e.mark e)) (sym committed) ∙ settled_counts g.logs u e.mark e refl) laws
good_stays g _ (Publishes _ m page may) laws = λ s active id. and_then_new g.logs (published g m page).logs (entry_at id (g.shelves s).entries) (λ e there. counted_low g m page e.message e.mark) ∙ laws.good s active id
good_stays g _ (GivesUp _ m page may) laws = λ s active id. and_then_new g.logs (given_up g m page).logs (entry_at id (g.shelves s).entries) (λ e there. counted_stays g m page e.message e.mark may (laws.kept.of_marked s id e there)) ∙ laws.good s active id
good_stays g _ (PeerSettles _ s id u may) laws = good_revise g s id (settler u (is_committed g.logs u)) (settler_keeps u (is_committed g.logs u)) (λ active e there. settled_counts g.logs u e.mark e refl) laws
good_stays g _ (Loses _ s may) laws = every_structure (GoodOf (g.history ++ Lost s ∷ []) g.logs) s lost_shelf g.shelves
    (λ active. absurd cc) (λ x differ active id. laws.good x active id ∙ sym (held_lost (structure_number x, id) g.history s differ))
good_stays g _ (Recovers _ s m i may) laws = every_structure (GoodOf g.history g.logs) s (in_recovery m i) g.shelves (λ active. absurd cc) (λ x differ. laws.good x)
good_stays g _ (Purges _ s may) laws = λ x active id. elim (cases_structure x s) [
  | inl same ↦ absurd (not_both (g.shelves x).state active (subst (λ y. is_recovering (g.shelves y).state ≡ true) (sym same) may.recovering))
  | inr differ ↦ laws.good x active id ∙ sym (held_purged (structure_number x, id) g.history s differ)
]
good_stays g _ (Reopens _ s may) laws = every_structure (GoodOf g.history g.logs) s (reopened_shelf (g.tops s)) g.shelves
    (λ active id. ap (λ es. settled_at id g.logs es) may.empty ∙ sym (emptied_now g.history s (g.shelves s).state may.recovering may.purged (laws.emptied s) id))
    (λ x differ. laws.good x)
good_stays g _ _ laws = laws.good
