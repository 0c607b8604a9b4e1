-- the steps up to where a unit is in the history, as the machine and the log see them
use Rattle.std.proofs.Common.{◌≡◌, ℕ, ◌+◌, ◌-◌, ◌<◌, ◌≤◌, List, [], ◌∷◌, ◌++◌, length, Bool, true, false, Option, Some, None, refl, sym, ap, subst, ◌∙◌, cond, arith, true≢false}
use Rattle.std.specs.Prelude.{◌==◌, ◌&&◌, IsSome}
use Rattle.std.proofs.lemmas.List.{get_or-set_same}
use Rattle.qsg_num.specs.declared.seats.Member.{Member}
use Rattle.qsg_num.specs.declared.seats.StructNo.{StructNo}
use Rattle.qsg_num.specs.declared.seats.TaskNo.{TaskNo}
use Rattle.qsg_num.specs.declared.ids.UnitName.{UnitName}
use Rattle.qsg_num.specs.Seats.{member_number}
use Rattle.qsg_num.proofs.Ranges.{member-bounds}
use Rattle.qsg_disk.specs.Byte.{Byte}
use Rattle.qsg_model.specs.declared.history.Op.{Op}
use Rattle.qsg_model.specs.declared.history.Item.{Item}
use Rattle.qsg_model.specs.declared.history.Item.TheVariants.{Unit as UnitOf}
use Rattle.qsg_logpage.specs.declared.step.Phase.{Phase}
use Rattle.qsg_logpage.specs.declared.step.Phase.TheVariants.{Fresh, GateShut, ShutSafe, BodyWritten, BodySafe, GateWritten}
use Rattle.qsg_logpage.specs.Log.{Hand, LogState, advanced, advanced_by, after_page}
use Rattle.qsg_group.specs.declared.tasks.Claim.{Claim}
use Rattle.qsg_group.specs.declared.tasks.Task.{Task}
use Rattle.qsg_group.specs.Group.{Run}
use Rattle.qsg_group.specs.Observers.{has_run, logged_ops}
use Rattle.qsg_group.specs.Changes.{Change, open_task, hardening_task}
use Rattle.qsg_unitlog.specs.Sets.{structures_of}
use Rattle.qsg_unitlog.specs.Units.{is_named, run_pages, run_records}
use Rattle.qsg_unitlog.specs.Tells.{Tells, ends_run, is_gate_written}
use Rattle.qsg_unitlog.proofs.Steps.{begun_tells, failed_tells, step_tells, many, test_true}
use Rattle.qsg_logread.specs.Records.{AreRecords}
use Rattle.qsg_manager.specs.Storage.{task_at}
use Rattle.qsg_manager.specs.Groups.{Rest, group_of}
use Rattle.qsg_manager.specs.Rests.{with_unit}
use Rattle.qsg_manager.specs.Units.{with_hardened}
use Rattle.qsg_manager.specs.Actions.{MayBeginUnit, MayHardenUnit}
use Rattle.qsg_manager.proofs.Ending.{begin_is_begin, harden_is_harden}
use Rattle.qsg_logs.specs.Kept.{KeptLog, no_log, log_in, with_log, with_begun}
use Rattle.qsg_parts.specs.Owned.{Owned}
use Rattle.qsg_commit.specs.Committing.{run_of, records_of, latched, is_none, IsLatched, IsPageStep, IsFailedPage}
use Rattle.qsg_commit.specs.Machine.{group_in, run_in}

-- the log that is set for a member is its log
pub log_same : (m : Member) (log : KeptLog) (logs : List KeptLog) → member_number m ≤ length logs → log_in m (with_log m log logs) ≡ log
log_same m log logs within = get_or-set_same logs (member_number m - 1) log no_log (omega (arith, within, (member-bounds m).0))

pub latch_is_begin : (rest : Rest) (p q : Owned) (u : UnitName) (t : TaskNo) (ops : List (StructNo × Op)) (claims : List Claim) → IsLatched u.member t u p q
    → MayBeginUnit rest.logs p.managers u t ops claims (record { number = (log_in u.member p.logs).writer.next }) → Change (group_in rest p) (group_in rest q)
latch_is_begin rest p q u t ops claims latch may =
    let structures : q.structures ≡ p.structures = ap (λ (x : Owned). x.structures) latch.parts in
    let managers : q.managers ≡ (latched u.member t u p).managers = ap (λ (x : Owned). x.managers) latch.parts in
    subst (Change (group_in rest p)) (sym (λ i. group_of rest (structures i) (managers i)))
    (begin_is_begin rest p.structures p.managers u t ops claims (record { number = (log_in u.member p.logs).writer.next }) may)

pub latched_told : (keep : ℕ) (gone : List UnitName) (runs : List Run) (p q : Owned) (u : UnitName) (t : TaskNo) (ops : List (StructNo × Op)) (claims : List Claim) → IsLatched u.member t u p q
    → member_number u.member ≤ length p.logs → task_at u.member t p.managers ≡ open_task u ops claims → is_named u gone ≡ false → has_run u runs ≡ false
    → Tells keep (log_in u.member p.logs).writer gone runs None (log_in u.member p.logs).bytes
    → Tells keep (log_in u.member q.logs).writer gone runs (Some (run_in u ops claims (log_in u.member p.logs).writer.next)) (log_in u.member q.logs).bytes
latched_told keep gone runs p q u t ops claims latch within has fresh free tells =
    let task = task_at u.member t p.managers in
    let old = log_in u.member p.logs in
    let log : log_in u.member q.logs ≡ with_begun u (run_of u task) old
    = ap (λ (x : Owned). log_in u.member x.logs) latch.parts ∙ log_same u.member (with_begun u (run_of u task) old) p.logs within in
    let pages : run_of u task ≡ run_pages u (logged_ops ops claims) (structures_of ops) = ap (run_of u) has in
    let each : AreRecords (run_records u (logged_ops ops claims) (structures_of ops)) = subst (λ (x : Task). AreRecords (records_of u x)) has latch.records in
    let bytes : (log_in u.member q.logs).bytes ≡ old.bytes = ap (λ (l : KeptLog). l.bytes) log in
    subst (λ (b : List Byte). Tells keep (log_in u.member q.logs).writer gone runs (Some (run_in u ops claims old.writer.next)) b) (sym bytes)
    (begun_tells keep old.writer (log_in u.member q.logs).writer gone runs old.bytes u (logged_ops ops claims) (structures_of ops) (run_of u task) tells pages latch.some each fresh free
    (ap (λ (l : KeptLog). l.writer) log) (latch.tied keep old.bytes tells.tied))

-- ---- pages

pub page_leaves_group : (rest : Rest) (p q : Owned) (u : UnitName) (t : TaskNo) → IsPageStep u t false p q → group_in rest q ≡ group_in rest p
page_leaves_group rest p q u t step =
    let structures : q.structures ≡ p.structures = ap (λ (x : Owned). x.structures) step.made in
    let managers : q.managers ≡ p.managers = ap (λ (x : Owned). x.managers) step.made in
    λ i. group_of rest (structures i) (managers i)

pub last_page_hardens : (rest : Rest) (p q : Owned) (u : UnitName) (t : TaskNo) (ops : List (StructNo × Op)) (claims : List Claim) (first : ℕ) → IsPageStep u t true p q
    → MayHardenUnit rest.logs p.managers u t ops claims first (log_in u.member q.logs).writer.next
    → Change (group_in rest p) (group_in (with_unit u ops claims first (log_in u.member q.logs).writer.next rest) q)
last_page_hardens rest p q u t ops claims first step may =
    let next = (log_in u.member q.logs).writer.next in
    let structures : q.structures ≡ p.structures = ap (λ (x : Owned). x.structures) step.made.parts in
    let managers : q.managers ≡ with_hardened u.member t p.managers = ap (λ (x : Owned). x.managers) step.made.parts in
    subst (Change (group_in rest p)) (sym (λ i. group_of (with_unit u ops claims first next rest) (structures i) (managers i)))
    (harden_is_harden rest p.structures p.managers u t ops claims first next may)

pub last_page_history : (rest : Rest) (p q : Owned) (u : UnitName) (t : TaskNo) (ops : List (StructNo × Op)) (claims : List Claim) (first next : ℕ) → IsPageStep u t true p q
    → task_at u.member t p.managers ≡ hardening_task u ops claims first → rest.history ≡ p.history.items → (with_unit u ops claims first next rest).history ≡ q.history.items
last_page_history rest p q u t ops claims first next step has same =
    let items : q.history.items ≡ p.history.items ++ UnitOf u (task_at u.member t p.managers).ops ∷ [] = ap (λ (x : Owned). x.history.items) step.made.parts in
    ap (λ (h : List Item). h ++ UnitOf u ops ∷ []) same ∙ sym (items ∙ ap (λ (x : Task). p.history.items ++ UnitOf u x.ops ∷ []) has)

pub with_hand : (writer : LogState) (hand : Option Hand) → writer.hand ≡ hand → writer ≡ record writer { hand = hand }
with_hand writer hand is = λ i. record writer { hand = is i }

-- the step that leaves no run in hand makes a page safe
next_behind : (writer : LogState) → IsSome writer.hand → is_none (advanced writer).hand ≡ true → (advanced writer).next ≡ writer.next + 1
next_behind writer some none = by writer.hand refl some
  where
    by_phase : (hand : Hand) (phase : Phase) → is_none (advanced_by (record writer { hand = Some hand }) hand phase).hand ≡ true → (advanced_by (record writer { hand = Some hand }) hand phase).next ≡ writer.next + 1
    by_phase hand Fresh ends = absurd (true≢false (sym ends))
    by_phase hand GateShut ends = absurd (true≢false (sym ends))
    by_phase hand ShutSafe ends = absurd (true≢false (sym ends))
    by_phase hand BodyWritten ends = absurd (true≢false (sym ends))
    by_phase hand BodySafe ends = absurd (true≢false (sym ends))
    by_phase hand GateWritten ends = refl

    by : (hand : Option Hand) → writer.hand ≡ hand → IsSome hand → (advanced writer).next ≡ writer.next + 1
    by None is there = absurd (true≢false (sym there))
    by (Some hand) is there =
        let same = with_hand writer (Some hand) is in
        ap (λ (w : LogState). (advanced w).next) same ∙ by_phase hand hand.phase (ap (λ (w : LogState). is_none (advanced w).hand) (sym same) ∙ none)

pub last_page_behind : (p q : Owned) (u : UnitName) (t : TaskNo) (first : ℕ) → IsPageStep u t true p q → IsSome (log_in u.member p.logs).writer.hand
    → first ≤ (log_in u.member p.logs).writer.next → first < (log_in u.member q.logs).writer.next
last_page_behind p q u t first step some before =
    let made : (log_in u.member q.logs).writer ≡ advanced (log_in u.member p.logs).writer = step.written.writer in
    let ends : is_none (advanced (log_in u.member p.logs).writer).hand ≡ true = ap (λ (w : LogState). is_none w.hand) (sym made) ∙ sym step.last in
    omega (arith, ap (λ (w : LogState). w.next) made, next_behind (log_in u.member p.logs).writer some ends, before)

-- the step that leaves no run in hand is the one that ends the run
pub ends_is : (writer : LogState) (hand : Hand) → writer.hand ≡ Some hand → 0 < length hand.pages → is_none (advanced writer).hand ≡ ends_run writer
ends_is writer hand is some =
    let same = with_hand writer (Some hand) is in
    ap (λ (w : LogState). is_none (advanced w).hand) same ∙ by_phase hand.phase ∙ sym (ap ends_run same)
  where
    by_pages : (pages : List (List ℕ)) → 0 < length pages → is_none (after_page hand pages) ≡ (length pages == 1)
    by_pages [] there = absurd (omega arith)
    by_pages (body ∷ []) there = sym (test_true (length (body ∷ [])) 1 refl)
    by_pages (body ∷ next ∷ pages) there = sym (many body next pages (body ∷ next ∷ pages) refl)

    by_phase : (phase : Phase) → is_none (advanced_by (record writer { hand = Some hand }) hand phase).hand ≡ (is_gate_written phase && (length hand.pages == 1))
    by_phase Fresh = refl
    by_phase GateShut = refl
    by_phase ShutSafe = refl
    by_phase BodyWritten = refl
    by_phase BodySafe = refl
    by_phase GateWritten = by_pages hand.pages some

pub page_told : (keep : ℕ) (gone : List UnitName) (runs : List Run) (run : Run) (p q : Owned) (u : UnitName) (t : TaskNo) (done : Bool) → IsPageStep u t done p q → (log_in u.member p.logs).tells ≡ true
    → Tells keep (log_in u.member p.logs).writer gone runs (Some run) (log_in u.member p.logs).bytes
    → Tells keep (log_in u.member q.logs).writer gone (cond done (runs ++ run ∷ []) runs) (cond done None (Some run)) (log_in u.member q.logs).bytes
page_told keep gone runs run p q u t done step tells told =
    let old = log_in u.member p.logs in
    let new = log_in u.member q.logs in
    let hand = told.in_hand in
    let ends : ends_run old.writer ≡ done = sym (ends_is old.writer hand.hand hand.hand_is hand.left) ∙ ap (λ (w : LogState). is_none w.hand) (sym step.written.writer) ∙ sym step.last in
    subst (λ (b : Bool). Tells keep new.writer gone (cond b (runs ++ run ∷ []) runs) (cond b None (Some run)) new.bytes) ends
    (step_tells keep old.writer new.writer gone runs run old.bytes new.bytes told step.written.writer (step.written.tied tells keep told.tied) (step.written.pages tells keep told.tied))

pub failed_told : (keep : ℕ) (gone : List UnitName) (runs : List Run) (hand : Option Run) (p q : Owned) (m : Member) → IsFailedPage m p q → (log_in m p.logs).tells ≡ true
    → Tells keep (log_in m p.logs).writer gone runs hand (log_in m p.logs).bytes → Tells keep (log_in m q.logs).writer gone runs hand (log_in m q.logs).bytes
failed_told keep gone runs hand p q m failed tells told =
    failed_tells keep (log_in m p.logs).writer (log_in m q.logs).writer gone runs hand (log_in m p.logs).bytes (log_in m q.logs).bytes told failed.writer (failed.tied tells keep told.tied) (failed.earlier tells keep told.tied)

pub failed_leaves_group : (rest : Rest) (p q : Owned) (m : Member) → IsFailedPage m p q → group_in rest q ≡ group_in rest p
failed_leaves_group rest p q m failed =
    let structures : q.structures ≡ p.structures = ap (λ (x : Owned). x.structures) failed.parts in
    let managers : q.managers ≡ p.managers = ap (λ (x : Owned). x.managers) failed.parts in
    λ i. group_of rest (structures i) (managers i)
