-- which changes of tasks and of a log keep what is reserved
use Rattle.std.proofs.Common.{◌≡◌, inl, inr, ℕ, ◌<◌, ◌≤◌, List, [], ◌∷◌, ◌++◌, length, map, Bool, true, false, not, Option, Some, None, refl, sym, ap, subst, ◌∙◌, cond, arith, true≢false, eqb-true}
use Rattle.std.specs.Prelude.{nat_lt, ◌==◌, ◌&&◌, slice_index_or}
use Rattle.std.specs.List.{AllByRecursion}
use Rattle.std.proofs.lemmas.Bool.Decides.{nat_tests}
use Rattle.std.proofs.lemmas.Option.{same_Some, none-some}
use Rattle.std.proofs.lemmas.List.{append_assoc, map-append, get_or-set_same, get_or-set_other}
use Rattle.qsg_num.specs.declared.ids.UnitName.{UnitName}
use Rattle.qsg_num.specs.declared.seats.StructNo.{StructNo}
use Rattle.qsg_num.specs.declared.seats.TaskNo.{TaskNo}
use Rattle.qsg_num.specs.declared.seats.TaskNo.TheVariants as numbers
use Rattle.qsg_num.specs.Seats.{task_number}
use Rattle.qsg_num.specs.Ids.{same_unit}
use Rattle.qsg_model.specs.declared.history.Op.{Op}
use Rattle.qsg_logpage.specs.declared.table.Reservation.{Reservation}
use Rattle.qsg_logpage.specs.declared.step.Phase.{Phase}
use Rattle.qsg_logpage.specs.declared.step.Phase.TheVariants.{Fresh, GateShut, ShutSafe, BodyWritten, BodySafe, GateWritten}
use Rattle.qsg_logpage.specs.Reserved.{besides, pages_for, lowered}
use Rattle.qsg_logpage.specs.Log.{Hand, LogState, has_run, advanced, advanced_by, after_page}
use Rattle.qsg_logpage.proofs.Totals.{length-besides, pages_for-besides, pages_for-set}
use Rattle.qsg_logrec.specs.Spelling.{record_text}
use Rattle.qsg_logrec.specs.declared.record.LogRecord.{LogRecord}
use Rattle.qsg_logrec.specs.declared.record.LogRecord.TheVariants as r
use Rattle.qsg_logread.specs.Records.{texts_of}
use Rattle.qsg_logneed.specs.declared.counting.Filling.{Filling}
use Rattle.qsg_logneed.specs.Filled.{no_pages, with_record, filled}
use Rattle.qsg_logneed.proofs.Runs.{one_more, pages_never_lower}
use Rattle.qsg_logneed.proofs.Pieces.{pages_of_cut}
use Rattle.qsg_logneed.proofs.RecordBytes.{commit_long}
use Rattle.qsg_group.specs.declared.tasks.Claim.{Claim}
use Rattle.qsg_group.specs.declared.tasks.Task.{Task}
use Rattle.qsg_group.specs.Group.{idle}
use Rattle.qsg_group.specs.Observers.{is_hardening, logged_ops}
use Rattle.qsg_group.specs.Changes.{open_task, hardening_task}
use Rattle.qsg_group.proofs.Tables.{cases_task}
use Rattle.qsg_unitlog.specs.Units.{op_record, op_records, run_pages}
use Rattle.qsg_unitlog.specs.Tells.{ends_run, is_gate_written}
use Rattle.qsg_unitlog.proofs.Lists.{same_is, same_self}
use Rattle.qsg_logs.specs.Writers.{reserved, released, IsWithin, IsRunReserved}
use Rattle.qsg_logs.specs.Kept.{KeptLog, no_fillings, filling_of, with_filling, with_operation, with_commit, need_of, with_reserved, with_record_of, fallen_back, with_begun, with_ended}
use Rattle.qsg_logs.specs.Held.{is_open, lengths_of, lengths_held, HoldsUnit, IsOwned, AreDifferent, IsHardening, IsHandOf, AreHeld, Sets, Adds, SettlesMarks, logged_by}
use Rattle.qsg_logs.proofs.Owners.{all_weaker, all_push, all_besides, all_lowered, are_besides, pages_for-own, pages_for-lowered_other, different_besides, different_push, different_lowered, few_owned}

-- ---- one task changes

by_task : (P : TaskNo → Type 0) (t : TaskNo) → P t → ((w : TaskNo) → (task_number w ≡ task_number t → ⊥) → P w) → (w : TaskNo) → P w
by_task P t here others w = elim (cases_task w t) [ inl same ↦ subst P (sym same) here | inr differ ↦ others w differ ]

-- an open unit and one in hardening aren't one
open_or_hardening : (task : Task) (u : UnitName) (ops : List (StructNo × Op)) (claims : List Claim) → task ≡ open_task u ops claims → is_hardening task.stage ≡ true → ⊥
open_or_hardening task u ops claims is hardens = true≢false (sym hardens ∙ ap (λ (x : Task). is_hardening x.stage) is)

no_unit : (task : Task) (u : UnitName) → task ≡ idle → task.unit ≡ Some u → ⊥
no_unit task u is has = none-some u (sym (ap (λ (x : Task). x.unit) is) ∙ has)

once_same : (old new : TaskNo → Task) → ((w : TaskNo) → (new w).unit ≡ (old w).unit) → ((u : UnitName) (t w : TaskNo) → HoldsUnit old u t → HoldsUnit old u w → t ≡ w) → (u : UnitName) (t w : TaskNo) → HoldsUnit new u t → HoldsUnit new u w → t ≡ w
once_same old new same once u t w a b = once u t w (sym (same t) ∙ a) (sym (same w) ∙ b)

owned_same : (old new : TaskNo → Task) → ((w : TaskNo) → (new w).unit ≡ (old w).unit) → (rs : List Reservation) → AllByRecursion (IsOwned old) rs → AllByRecursion (IsOwned new) rs
owned_same old new same rs owned = all_weaker (IsOwned old) (IsOwned new) rs (λ r o. (o.0, same o.0 ∙ o.1)) owned

hand_moved : (old new : TaskNo → Task) (hand : Option Hand) → ((w : TaskNo) → is_hardening (old w).stage ≡ true → new w ≡ old w) → ((w : TaskNo) → is_hardening (new w).stage ≡ true → new w ≡ old w) → IsHandOf old hand → IsHandOf new hand
hand_moved old new None stay back none = λ t. by t (is_hardening (new t).stage) refl
  where
    by : (t : TaskNo) (b : Bool) → is_hardening (new t).stage ≡ b → is_hardening (new t).stage ≡ false
    by t true is = absurd (true≢false (sym is ∙ ap (λ (x : Task). is_hardening x.stage) (back t is) ∙ none t))
    by t false is = is
hand_moved old new (Some hand) stay back own = record {
  task = own.task;
  holds = ap (λ (x : Task). x.unit) (stay own.task own.hardens) ∙ own.holds;
  hardens = ap (λ (x : Task). is_hardening x.stage) (stay own.task own.hardens) ∙ own.hardens;
  only = λ w hardens. own.only w (sym (ap (λ (x : Task). is_hardening x.stage) (back w hardens)) ∙ hardens);
}

-- a task that is in hardening neither before nor after changes
hand_beside : (old new : TaskNo → Task) (t : TaskNo) (task : Task) (hand : Option Hand) → Sets t task old new → is_hardening (old t).stage ≡ false → is_hardening task.stage ≡ false → IsHandOf old hand → IsHandOf new hand
hand_beside old new t task hand sets before after is =
    hand_moved old new hand
    (by_task (λ w. is_hardening (old w).stage ≡ true → new w ≡ old w) t (λ hardens. absurd (true≢false (sym hardens ∙ before))) (λ w differ hardens. sets.others w differ))
    (by_task (λ w. is_hardening (new w).stage ≡ true → new w ≡ old w) t (λ hardens. absurd (true≢false (sym hardens ∙ ap (λ (x : Task). is_hardening x.stage) sets.here ∙ after))) (λ w differ hardens. sets.others w differ))
    is

units_same : (old new : TaskNo → Task) (t : TaskNo) (task : Task) → Sets t task old new → task.unit ≡ (old t).unit → (w : TaskNo) → (new w).unit ≡ (old w).unit
units_same old new t task sets same = by_task (λ w. (new w).unit ≡ (old w).unit) t (ap (λ (x : Task). x.unit) sets.here ∙ same) (λ w differ. ap (λ (x : Task). x.unit) (sets.others w differ))

-- ---- fillings

filling_set : (t : TaskNo) (f : Filling) (log : KeptLog) → length log.fillings ≡ 5 → filling_of t (with_filling t f log) ≡ f
filling_set t f log five = get_or-set_same log.fillings (task_number t) f no_pages (by t)
  where
    by : (t : TaskNo) → task_number t < length log.fillings
    by numbers.System = omega (arith, five)
    by numbers.One = omega (arith, five)
    by numbers.Two = omega (arith, five)
    by numbers.Three = omega (arith, five)
    by numbers.Four = omega (arith, five)

filling_other : (t w : TaskNo) (f : Filling) (log : KeptLog) → (task_number w ≡ task_number t → ⊥) → filling_of w (with_filling t f log) ≡ filling_of w log
filling_other t w f log differ = get_or-set_other log.fillings (task_number t) (task_number w) f no_pages differ

-- ---- at first

pub at_first : (tasks : TaskNo → Task) (log : KeptLog) → ((t : TaskNo) → tasks t ≡ idle) → log.writer.reserved ≡ [] → log.writer.hand ≡ None → log.fillings ≡ no_fillings → AreHeld tasks log
at_first tasks log all_idle none_reserved no_hand none_filled = record {
  once = λ u t w a b. absurd (no_unit (tasks t) u (all_idle t) a);
  differ = subst AreDifferent (sym none_reserved) tt;
  owned = subst (λ (rs : List Reservation). AllByRecursion (IsOwned tasks) rs) (sym none_reserved) tt;
  fillings = λ t opened. ap (λ (fs : List Filling). slice_index_or fs (task_number t) no_pages) none_filled ∙ five t ∙ ap (λ (x : Task). filled (lengths_held x)) (sym (all_idle t));
  covered = λ t u ops claims is some. absurd (no_unit (tasks t) u (all_idle t) (ap (λ (x : Task). x.unit) is));
  hand = subst (IsHandOf tasks) (sym no_hand) (λ t. ap (λ (x : Task). is_hardening x.stage) (all_idle t));
}
  where
    five : (t : TaskNo) → slice_index_or no_fillings (task_number t) no_pages ≡ no_pages
    five numbers.System = refl
    five numbers.One = refl
    five numbers.Two = refl
    five numbers.Three = refl
    five numbers.Four = refl

-- ---- what it gives

pub are_few : (tasks : TaskNo → Task) (log : KeptLog) (u : UnitName) → AreHeld tasks log → length (besides u log.writer.reserved) < 8
are_few tasks log u held = omega (arith, length-besides u log.writer.reserved, few_owned tasks log.writer.reserved held.differ held.owned)

pub no_run_of : (tasks : TaskNo → Task) (log : KeptLog) (u : UnitName) → AreHeld tasks log → ((w : TaskNo) → HoldsUnit tasks u w → is_hardening (tasks w).stage ≡ false) → has_run u log.writer ≡ false
no_run_of tasks log u held quiet = by log.writer.hand held.hand
  where
    by_name : (hand : Hand) (b : Bool) → same_unit hand.unit u ≡ b → IsHardening tasks hand → b ≡ false
    by_name hand true is own = absurd (true≢false (sym own.hardens ∙ quiet own.task (own.holds ∙ ap (λ (v : UnitName). Some v) (same_is hand.unit u is))))
    by_name hand false is own = refl

    by : (hand : Option Hand) → IsHandOf tasks hand → has_run u (record log.writer { hand = hand }) ≡ false
    by None own = refl
    by (Some hand) own = by_name hand (same_unit hand.unit u) refl own

pub no_run_at_all : (tasks : TaskNo → Task) (log : KeptLog) → AreHeld tasks log → ((w : TaskNo) → is_hardening (tasks w).stage ≡ false) → log.writer.hand ≡ None
no_run_at_all tasks log held quiet = by log.writer.hand held.hand
  where
    by : (hand : Option Hand) → IsHandOf tasks hand → hand ≡ None
    by None own = refl
    by (Some hand) own = absurd (true≢false (sym own.hardens ∙ quiet own.task))

-- ---- a name is drawn

pub drawn_held : (old new : TaskNo → Task) (log : KeptLog) (t : TaskNo) (u : UnitName) → AreHeld old log → old t ≡ idle → ((w : TaskNo) → HoldsUnit old u w → ⊥) → Sets t (open_task u [] []) old new → AreHeld new log
drawn_held old new log t u held free fresh sets = record {
  once = λ v a b. by_task (λ a. HoldsUnit new v a → HoldsUnit new v b → a ≡ b) t
      (λ x. by_task (λ b. HoldsUnit new v b → t ≡ b) t (λ y. refl) (λ w differ y. absurd (fresh w (sym (moved w differ) ∙ y ∙ sym x ∙ own))) b)
      (λ w differ x. by_task (λ b. HoldsUnit new v b → w ≡ b) t (λ y. absurd (fresh w (sym (moved w differ) ∙ x ∙ sym y ∙ own))) (λ z other y. held.once v w z (sym (moved w differ) ∙ x) (sym (moved z other) ∙ y)) b)
      a;
  differ = held.differ;
  owned = all_weaker (IsOwned old) (IsOwned new) log.writer.reserved (λ r o. (o.0, by_task (λ w. HoldsUnit old r.unit w → HoldsUnit new r.unit w) t (λ x. absurd (no_unit (old t) r.unit free x)) (λ w differ x. moved w differ ∙ x) o.0 o.1)) held.owned;
  fillings = by_task (λ w. is_open (new w).stage ≡ true → filling_of w log ≡ filled (lengths_held (new w))) t
      (λ opened. held.fillings t (ap (λ (x : Task). is_open x.stage) free) ∙ ap (λ (x : Task). filled (lengths_held x)) free ∙ sym (ap (λ (x : Task). filled (lengths_held x)) sets.here))
      (λ w differ opened. held.fillings w (sym (ap (λ (x : Task). is_open x.stage) (sets.others w differ)) ∙ opened) ∙ sym (ap (λ (x : Task). filled (lengths_held x)) (sets.others w differ)));
  covered = by_task (λ w. (v : UnitName) (ops : List (StructNo × Op)) (claims : List Claim) → new w ≡ open_task v ops claims → 0 < length ops → with_commit (filling_of w log) ≤ pages_for v log.writer.reserved) t
      (λ v ops claims is some. absurd (omega (arith, some, ap (λ (x : Task). length x.ops) (sym sets.here ∙ is))))
      (λ w differ v ops claims is some. held.covered w v ops claims (sym (sets.others w differ) ∙ is) some);
  hand = hand_beside old new t (open_task u [] []) log.writer.hand sets (ap (λ (x : Task). is_hardening x.stage) free) refl held.hand;
}
  where
    moved : (w : TaskNo) → (task_number w ≡ task_number t → ⊥) → (new w).unit ≡ (old w).unit
    moved w differ = ap (λ (x : Task). x.unit) (sets.others w differ)

    own : (new t).unit ≡ Some u
    own = ap (λ (x : Task). x.unit) sets.here

-- ---- needs

need_is : (tasks : TaskNo → Task) (log : KeptLog) (t : TaskNo) (u : UnitName) (ops : List (StructNo × Op)) (claims : List Claim) → AreHeld tasks log → tasks t ≡ open_task u ops claims → filling_of t log ≡ filled (lengths_of u ops claims)
need_is tasks log t u ops claims held is = held.fillings t (ap (λ (x : Task). is_open x.stage) is) ∙ ap (λ (x : Task). filled (lengths_held x)) is

pub never_less : (tasks : TaskNo → Task) (log : KeptLog) (t : TaskNo) (u : UnitName) (ops : List (StructNo × Op)) (claims : List Claim) (logged : Option ℕ) → AreHeld tasks log → tasks t ≡ open_task u ops claims → need_of t None log ≤ need_of t logged log
never_less tasks log t u ops claims None held is = omega arith
never_less tasks log t u ops claims (Some bytes) held is =
    let f = need_is tasks log t u ops claims held is in
    let ls = lengths_of u ops claims in
    let a : need_of t None log ≡ (filled (ls ++ 11 ∷ [])).pages = ap with_commit f ∙ ap (λ (x : Filling). x.pages) (sym (one_more ls 11)) in
    let two : filled (ls ++ bytes ∷ 11 ∷ []) ≡ with_record (with_record (filled ls) bytes) 11
    = ap filled (sym (append_assoc ls (bytes ∷ []) (11 ∷ []))) ∙ one_more (ls ++ bytes ∷ []) 11 ∙ ap (λ (x : Filling). with_record x 11) (one_more ls bytes) in
    let b : need_of t (Some bytes) log ≡ (filled (ls ++ bytes ∷ 11 ∷ [])).pages = ap (λ (x : Filling). with_commit (with_record x bytes)) f ∙ ap (λ (x : Filling). x.pages) (sym two) in
    omega (arith, a, b, pages_never_lower ls (11 ∷ []) bytes)

-- ---- reservations

pub reserved_held : (tasks : TaskNo → Task) (log : KeptLog) (t : TaskNo) (u : UnitName) (pages : ℕ) → AreHeld tasks log → HoldsUnit tasks u t → is_hardening (tasks t).stage ≡ false → need_of t None log ≤ pages → AreHeld tasks (with_reserved u pages log)
reserved_held tasks log t u pages held holds quiet enough = record {
  once = held.once;
  differ = different_push (besides u log.writer.reserved) (record { unit = u; pages = pages }) (are_besides u log.writer.reserved) (different_besides u log.writer.reserved held.differ);
  owned = all_push (IsOwned tasks) (besides u log.writer.reserved) (record { unit = u; pages = pages }) (all_besides (IsOwned tasks) u log.writer.reserved held.owned) (t, holds);
  fillings = held.fillings;
  covered = λ w v ops claims is some. by w v ops claims is some (same_unit v u) refl;
  hand = held.hand;
}
  where
    by : (w : TaskNo) (v : UnitName) (ops : List (StructNo × Op)) (claims : List Claim) → tasks w ≡ open_task v ops claims → 0 < length ops → (b : Bool) → same_unit v u ≡ b
        → with_commit (filling_of w log) ≤ pages_for v (besides u log.writer.reserved ++ record { unit = u; pages = pages } ∷ [])
    by w v ops claims is some true same =
        let v_is = same_is v u same in
        let w_is : w ≡ t = held.once u w t (ap (λ (x : Task). x.unit) is ∙ ap (λ (x : UnitName). Some x) v_is) holds in
        let found : pages_for v (besides u log.writer.reserved ++ record { unit = u; pages = pages } ∷ []) ≡ pages
        = ap (λ (x : UnitName). pages_for x (besides u log.writer.reserved ++ record { unit = u; pages = pages } ∷ [])) v_is ∙ pages_for-own u pages (besides u log.writer.reserved) (are_besides u log.writer.reserved) in
        omega (arith, found, ap (λ (x : TaskNo). with_commit (filling_of x log)) w_is, enough)
    by w v ops claims is some false apart = omega (arith, pages_for-set v u pages log.writer.reserved apart, held.covered w v ops claims is some)

-- what is released is of a unit that needs nothing
released_held : (tasks : TaskNo → Task) (log : KeptLog) (u : UnitName) → AreHeld tasks log → ((w : TaskNo) (ops : List (StructNo × Op)) (claims : List Claim) → tasks w ≡ open_task u ops claims → 0 < length ops → ⊥)
    → AreHeld tasks (record log { writer = released u log.writer })
released_held tasks log u held needs_none = record {
  once = held.once;
  differ = different_besides u log.writer.reserved held.differ;
  owned = all_besides (IsOwned tasks) u log.writer.reserved held.owned;
  fillings = held.fillings;
  covered = λ w v ops claims is some. by w v ops claims is some (same_unit v u) refl;
  hand = held.hand;
}
  where
    by : (w : TaskNo) (v : UnitName) (ops : List (StructNo × Op)) (claims : List Claim) → tasks w ≡ open_task v ops claims → 0 < length ops → (b : Bool) → same_unit v u ≡ b
        → with_commit (filling_of w log) ≤ pages_for v (besides u log.writer.reserved)
    by w v ops claims is some true same = absurd (needs_none w ops claims (is ∙ ap (λ (x : UnitName). open_task x ops claims) (same_is v u same)) some)
    by w v ops claims is some false apart = omega (arith, pages_for-besides v u log.writer.reserved apart, held.covered w v ops claims is some)

pub fall_back_less : (tasks : TaskNo → Task) (log : KeptLog) (t : TaskNo) (u : UnitName) (ops : List (StructNo × Op)) (claims : List Claim) → AreHeld tasks log → tasks t ≡ open_task u ops claims → 0 < length ops → need_of t None log ≤ pages_for u log.writer.reserved
fall_back_less tasks log t u ops claims held is some = held.covered t u ops claims is some

pub fall_back_held : (tasks : TaskNo → Task) (log : KeptLog) (t : TaskNo) (u : UnitName) (ops : List (StructNo × Op)) (claims : List Claim) → AreHeld tasks log → tasks t ≡ open_task u ops claims → AreHeld tasks (fallen_back t u (nat_lt 0 (length ops)) log)
fall_back_held tasks log t u ops claims held is = by (nat_lt 0 (length ops)) refl
  where
    holds : HoldsUnit tasks u t
    holds = ap (λ (x : Task). x.unit) is

    none_there : (n : ℕ) → nat_lt 0 n ≡ false → 0 < n → ⊥
    none_there n fails some = grind (arith, nat_tests)

    by : (b : Bool) → nat_lt 0 (length ops) ≡ b → AreHeld tasks (fallen_back t u b log)
    by true some = reserved_held tasks log t u (need_of t None log) held holds (ap (λ (x : Task). is_hardening x.stage) is) (omega arith)
    by false none = released_held tasks log u held (λ w more claims' other some.
        let w_is : w ≡ t = held.once u w t (ap (λ (x : Task). x.unit) other) holds in
        let same : length more ≡ length ops = ap (λ (x : Task). length x.ops) (sym other ∙ ap tasks w_is ∙ is) in
        none_there (length ops) none (omega (arith, same, some)))

-- ---- an operation more

logged_more : (u : UnitName) (op : StructNo × Op) (claim : Claim) (ops : List (StructNo × Op)) (claims : List Claim) → length ops ≡ length claims
    → filled (lengths_of u (ops ++ op ∷ []) (claims ++ claim ∷ [])) ≡ with_operation (logged_by u op claim) (filled (lengths_of u ops claims))
logged_more u op claim ops claims matched = by claim.persistent refl
  where
    logged_push : (ops : List (StructNo × Op)) (claims : List Claim) → length ops ≡ length claims → logged_ops (ops ++ op ∷ []) (claims ++ claim ∷ []) ≡ logged_ops ops claims ++ logged_ops (op ∷ []) (claim ∷ [])
    logged_push [] [] same = refl
    logged_push [] (c ∷ claims) same = absurd (omega (arith, same))
    logged_push (w ∷ ops) [] same = absurd (omega (arith, same))
    logged_push (w ∷ ops) (c ∷ claims) same = one c.persistent (logged_push ops claims (omega (arith, same)))
      where
        one : (b : Bool) → logged_ops (ops ++ op ∷ []) (claims ++ claim ∷ []) ≡ logged_ops ops claims ++ logged_ops (op ∷ []) (claim ∷ [])
            → cond b (w ∷ logged_ops (ops ++ op ∷ []) (claims ++ claim ∷ [])) (logged_ops (ops ++ op ∷ []) (claims ++ claim ∷ [])) ≡ cond b (w ∷ logged_ops ops claims) (logged_ops ops claims) ++ logged_ops (op ∷ []) (claim ∷ [])
        one true rest = ap (λ (l : List (StructNo × Op)). w ∷ l) rest
        one false rest = rest

    texts : (xs : List (StructNo × Op)) → List ℕ
    texts xs = map length (texts_of (op_records u xs))

    texts-append : (xs ys : List (StructNo × Op)) → texts (xs ++ ys) ≡ texts xs ++ texts ys
    texts-append xs ys = ap (λ (l : List LogRecord). map length (texts_of l)) (map-append (op_record u) xs ys) ∙ ap (map length) (map-append record_text (op_records u xs) (op_records u ys)) ∙ map-append length (texts_of (op_records u xs)) (texts_of (op_records u ys))

    long : ℕ
    long = length (record_text (op_record u op))

    by : (b : Bool) → claim.persistent ≡ b → filled (lengths_of u (ops ++ op ∷ []) (claims ++ claim ∷ [])) ≡ with_operation (cond claim.persistent (Some long) None) (filled (lengths_of u ops claims))
    by true is =
        ap (λ (l : List (StructNo × Op)). filled (texts l)) (logged_push ops claims matched ∙ ap (λ (b : Bool). logged_ops ops claims ++ cond b (op ∷ []) []) is)
        ∙ ap filled (texts-append (logged_ops ops claims) (op ∷ [])) ∙ one_more (lengths_of u ops claims) long
        ∙ sym (ap (λ (b : Bool). with_operation (cond b (Some long) None) (filled (lengths_of u ops claims))) is)
    by false is =
        ap (λ (l : List (StructNo × Op)). filled (texts l)) (logged_push ops claims matched ∙ ap (λ (b : Bool). logged_ops ops claims ++ cond b (op ∷ []) []) is)
        ∙ ap filled (texts-append (logged_ops ops claims) [] ∙ append_none (lengths_of u ops claims))
        ∙ sym (ap (λ (b : Bool). with_operation (cond b (Some long) None) (filled (lengths_of u ops claims))) is)
      where
        append_none : (xs : List ℕ) → xs ++ [] ≡ xs
        append_none [] = refl
        append_none (x ∷ xs) = ap (λ (l : List ℕ). x ∷ l) (append_none xs)

pub operation_held : (old new : TaskNo → Task) (log : KeptLog) (t : TaskNo) (u : UnitName) (op : StructNo × Op) (claim : Claim) → AreHeld old log → length log.fillings ≡ 5 → Adds u op claim (old t) (new t) → Sets t (new t) old new
    → need_of t (logged_by u op claim) log ≤ pages_for u log.writer.reserved → AreHeld new (with_record_of t (logged_by u op claim) log)
operation_held old new log t u op claim held five adds sets enough = record {
  once = once_same old new same held.once;
  differ = held.differ;
  owned = owned_same old new same log.writer.reserved held.owned;
  fillings = by_task (λ w. is_open (new w).stage ≡ true → filling_of w after ≡ filled (lengths_held (new w))) t
      (λ opened. filling_set t made log five ∙ ap (with_operation (logged_by u op claim)) (need_is old log t u adds.ops adds.claims held adds.old_is)
      ∙ sym (logged_more u op claim adds.ops adds.claims adds.matched) ∙ sym (ap (λ (x : Task). filled (lengths_held x)) adds.new_is))
      (λ w differ opened. filling_other t w made log differ ∙ held.fillings w (sym (ap (λ (x : Task). is_open x.stage) (sets.others w differ)) ∙ opened) ∙ sym (ap (λ (x : Task). filled (lengths_held x)) (sets.others w differ)));
  covered = by_task (λ w. (v : UnitName) (ops : List (StructNo × Op)) (claims : List Claim) → new w ≡ open_task v ops claims → 0 < length ops → with_commit (filling_of w after) ≤ pages_for v log.writer.reserved) t
      (λ v ops claims is some.
      let v_is : u ≡ v = same_Some u v (sym (ap (λ (x : Task). x.unit) adds.new_is) ∙ ap (λ (x : Task). x.unit) is) in
      omega (arith, ap with_commit (filling_set t made log five), ap (λ (x : UnitName). pages_for x log.writer.reserved) v_is, enough))
      (λ w differ v ops claims is some. omega (arith, ap with_commit (filling_other t w made log differ), held.covered w v ops claims (sym (sets.others w differ) ∙ is) some));
  hand = hand_beside old new t (new t) log.writer.hand sets (ap (λ (x : Task). is_hardening x.stage) adds.old_is) (ap (λ (x : Task). is_hardening x.stage) adds.new_is) held.hand;
}
  where
    made : Filling
    made = with_operation (logged_by u op claim) (filling_of t log)

    after : KeptLog
    after = with_record_of t (logged_by u op claim) log

    same : (w : TaskNo) → (new w).unit ≡ (old w).unit
    same = units_same old new t (new t) sets (ap (λ (x : Task). x.unit) adds.new_is ∙ sym (ap (λ (x : Task). x.unit) adds.old_is))

-- ---- a run

pub run_fits : (tasks : TaskNo → Task) (log : KeptLog) (t : TaskNo) (u : UnitName) (ops : List (StructNo × Op)) (claims : List Claim) (structures : List StructNo) → AreHeld tasks log → tasks t ≡ open_task u ops claims → 0 < length ops
    → length (run_pages u (logged_ops ops claims) structures) ≤ pages_for u log.writer.reserved
run_fits tasks log t u ops claims structures held is some =
    let logged = op_records u (logged_ops ops claims) in
    let commit = r.CommitIn u structures in
    let texts : map length (texts_of (logged ++ commit ∷ [])) ≡ lengths_of u ops claims ++ 11 ∷ []
    = ap (map length) (map-append record_text logged (commit ∷ [])) ∙ map-append length (texts_of logged) (record_text commit ∷ []) ∙ ap (λ (n : ℕ). lengths_of u ops claims ++ n ∷ []) (commit_long u structures) in
    let pages : length (run_pages u (logged_ops ops claims) structures) ≡ (filled (lengths_of u ops claims ++ 11 ∷ [])).pages
    = sym (pages_of_cut (texts_of (logged ++ commit ∷ []))) ∙ ap (λ (l : List ℕ). (filled l).pages) texts in
    omega (arith, pages, ap (λ (x : Filling). x.pages) (one_more (lengths_of u ops claims) 11), ap with_commit (need_is tasks log t u ops claims held is), held.covered t u ops claims is some)

pub begun_held : (old new : TaskNo → Task) (log : KeptLog) (t : TaskNo) (u : UnitName) (ops : List (StructNo × Op)) (claims : List Claim) (first : ℕ) (pages : List (List ℕ)) → AreHeld old log → old t ≡ open_task u ops claims
    → ((w : TaskNo) → is_hardening (old w).stage ≡ false) → Sets t (hardening_task u ops claims first) old new → AreHeld new (with_begun u pages log)
begun_held old new log t u ops claims first pages held is quiet sets = record {
  once = once_same old new same held.once;
  differ = held.differ;
  owned = owned_same old new same log.writer.reserved held.owned;
  fillings = by_task (λ w. is_open (new w).stage ≡ true → filling_of w log ≡ filled (lengths_held (new w))) t
      (λ opened. absurd (true≢false (sym opened ∙ ap (λ (x : Task). is_open x.stage) sets.here)))
      (λ w differ opened. held.fillings w (sym (ap (λ (x : Task). is_open x.stage) (sets.others w differ)) ∙ opened) ∙ sym (ap (λ (x : Task). filled (lengths_held x)) (sets.others w differ)));
  covered = by_task (λ w. (v : UnitName) (ops : List (StructNo × Op)) (claims : List Claim) → new w ≡ open_task v ops claims → 0 < length ops → with_commit (filling_of w log) ≤ pages_for v log.writer.reserved) t
      (λ v more other x some. absurd (true≢false (sym (ap (λ (x : Task). is_open x.stage) x) ∙ ap (λ (x : Task). is_open x.stage) sets.here)))
      (λ w differ v more other x some. held.covered w v more other (sym (sets.others w differ) ∙ x) some);
  hand = record {
    task = t;
    holds = ap (λ (x : Task). x.unit) sets.here;
    hardens = ap (λ (x : Task). is_hardening x.stage) sets.here;
    only = by_task (λ w. is_hardening (new w).stage ≡ true → w ≡ t) t (λ hardens. refl)
        (λ w differ hardens. absurd (true≢false (sym hardens ∙ ap (λ (x : Task). is_hardening x.stage) (sets.others w differ) ∙ quiet w)));
  };
}
  where
    same : (w : TaskNo) → (new w).unit ≡ (old w).unit
    same = units_same old new t (hardening_task u ops claims first) sets (sym (ap (λ (x : Task). x.unit) is))

-- ---- steps

same_held : (tasks : TaskNo → Task) (old new : KeptLog) → AreHeld tasks old → new.fillings ≡ old.fillings → new.writer.reserved ≡ old.writer.reserved → IsHandOf tasks new.writer.hand → AreHeld tasks new
same_held tasks old new held fillings reserved hand = record {
  once = held.once;
  differ = subst AreDifferent (sym reserved) held.differ;
  owned = subst (λ (rs : List Reservation). AllByRecursion (IsOwned tasks) rs) (sym reserved) held.owned;
  fillings = λ t opened. ap (λ (fs : List Filling). slice_index_or fs (task_number t) no_pages) fillings ∙ held.fillings t opened;
  covered = λ t u ops claims is some.
      omega (arith, ap (λ (fs : List Filling). with_commit (slice_index_or fs (task_number t) no_pages)) fillings, ap (pages_for u) reserved, held.covered t u ops claims is some);
  hand = hand;
}

-- a page less is reserved for a unit whose run is in hand
lowered_held : (old new : TaskNo → Task) (before after : KeptLog) (hand : Hand) → AreHeld old before → IsHardening old hand → ((w : TaskNo) → (new w).unit ≡ (old w).unit) → ((w : TaskNo) → is_open (new w).stage ≡ true → new w ≡ old w)
    → after.fillings ≡ before.fillings → after.writer.reserved ≡ lowered hand.unit before.writer.reserved → IsHandOf new after.writer.hand → AreHeld new after
lowered_held old new before after hand held own same stay fillings reserved is = record {
  once = once_same old new same held.once;
  differ = subst AreDifferent (sym reserved) (different_lowered hand.unit before.writer.reserved held.differ);
  owned = subst (λ (rs : List Reservation). AllByRecursion (IsOwned new) rs) (sym reserved)
      (all_lowered (λ (v : UnitName). (t : TaskNo) × HoldsUnit new v t) hand.unit before.writer.reserved (owned_same old new same before.writer.reserved held.owned));
  fillings = λ w opened. ap (λ (fs : List Filling). slice_index_or fs (task_number w) no_pages) fillings ∙ held.fillings w (sym (ap (λ (x : Task). is_open x.stage) (stay w opened)) ∙ opened) ∙ sym (ap (λ (x : Task). filled (lengths_held x)) (stay w opened));
  covered = λ w u ops claims x some.
      let was : old w ≡ open_task u ops claims = sym (stay w (ap (λ (x : Task). is_open x.stage) x)) ∙ x in
      omega (arith, ap (λ (fs : List Filling). with_commit (slice_index_or fs (task_number w) no_pages)) fillings, ap (pages_for u) reserved, other w u ops claims was (same_unit u hand.unit) refl, held.covered w u ops claims was some);
  hand = is;
}
  where
    other : (w : TaskNo) (u : UnitName) (ops : List (StructNo × Op)) (claims : List Claim) → old w ≡ open_task u ops claims → (b : Bool) → same_unit u hand.unit ≡ b → pages_for u (lowered hand.unit before.writer.reserved) ≡ pages_for u before.writer.reserved
    other w u ops claims was true same_name =
        let w_is : w ≡ own.task = held.once hand.unit w own.task (ap (λ (x : Task). x.unit) was ∙ ap (λ (x : UnitName). Some x) (same_is u hand.unit same_name)) own.holds in
        absurd (open_or_hardening (old w) u ops claims was (ap (λ (x : TaskNo). is_hardening (old x).stage) w_is ∙ own.hardens))
    other w u ops claims was false apart = pages_for-lowered_other u hand.unit before.writer.reserved apart

with_hand : (writer : LogState) (hand : Option Hand) → writer.hand ≡ hand → writer ≡ record writer { hand = hand }
with_hand writer hand is = λ i. record writer { hand = is i }

still_own : (tasks : TaskNo → Task) (hand : Hand) (pages : List (List ℕ)) (phase : Phase) → IsHardening tasks hand → IsHardening tasks (record { unit = hand.unit; pages = pages; phase = phase })
still_own tasks hand pages phase own = record { task = own.task; holds = own.holds; hardens = own.hardens; only = own.only }

pub step_held : (tasks : TaskNo → Task) (old new : KeptLog) → AreHeld tasks old → IsWithin old.writer → ends_run old.writer ≡ false → new.writer ≡ advanced old.writer → new.fillings ≡ old.fillings → AreHeld tasks new
step_held tasks old new held within not_last is fillings = by old.writer.hand refl held.hand within.run not_last
  where
    by_pages : (hand : Hand) (pages : List (List ℕ)) → 0 < length pages → (length pages == 1) ≡ false → IsHardening tasks hand → IsHandOf tasks (after_page hand pages)
    by_pages hand [] some last own = absurd (omega arith)
    by_pages hand (body ∷ []) some last own = absurd (true≢false last)
    by_pages hand (body ∷ next ∷ pages) some last own = still_own tasks hand (next ∷ pages) Fresh own

    by_phase : (hand : Hand) (phase : Phase) → IsHardening tasks hand → 0 < length hand.pages → (is_gate_written phase && (length hand.pages == 1)) ≡ false → new.writer ≡ advanced_by (record old.writer { hand = Some hand }) hand phase → AreHeld tasks new
    by_phase hand Fresh own some last made = same_held tasks old new held fillings (ap (λ (w : LogState). w.reserved) made) (subst (IsHandOf tasks) (sym (ap (λ (w : LogState). w.hand) made)) (still_own tasks hand hand.pages _ own))
    by_phase hand GateShut own some last made = same_held tasks old new held fillings (ap (λ (w : LogState). w.reserved) made) (subst (IsHandOf tasks) (sym (ap (λ (w : LogState). w.hand) made)) (still_own tasks hand hand.pages _ own))
    by_phase hand ShutSafe own some last made = same_held tasks old new held fillings (ap (λ (w : LogState). w.reserved) made) (subst (IsHandOf tasks) (sym (ap (λ (w : LogState). w.hand) made)) (still_own tasks hand hand.pages _ own))
    by_phase hand BodyWritten own some last made = same_held tasks old new held fillings (ap (λ (w : LogState). w.reserved) made) (subst (IsHandOf tasks) (sym (ap (λ (w : LogState). w.hand) made)) (still_own tasks hand hand.pages _ own))
    by_phase hand BodySafe own some last made = same_held tasks old new held fillings (ap (λ (w : LogState). w.reserved) made) (subst (IsHandOf tasks) (sym (ap (λ (w : LogState). w.hand) made)) (still_own tasks hand hand.pages _ own))
    by_phase hand GateWritten own some last made =
        lowered_held tasks tasks old new hand held own (λ w. refl) (λ w opened. refl) fillings (ap (λ (w : LogState). w.reserved) made)
        (subst (IsHandOf tasks) (sym (ap (λ (w : LogState). w.hand) made)) (by_pages hand hand.pages some last own))

    by : (hand : Option Hand) → old.writer.hand ≡ hand → IsHandOf tasks hand → IsRunReserved old.writer.reserved hand → ends_run (record old.writer { hand = hand }) ≡ false → AreHeld tasks new
    by None none own run last =
        let made : new.writer ≡ record old.writer { hand = None } = is ∙ ap advanced (with_hand old.writer None none) in
        same_held tasks old new held fillings (ap (λ (w : LogState). w.reserved) made) (subst (IsHandOf tasks) (sym (ap (λ (w : LogState). w.hand) made)) own)
    by (Some hand) there own run last = by_phase hand hand.phase own run.0 last (is ∙ ap advanced (with_hand old.writer (Some hand) there))

pub last_step_held : (old new : TaskNo → Task) (before after : KeptLog) (t : TaskNo) (task : Task) → AreHeld old before → ends_run before.writer ≡ true → is_hardening (old t).stage ≡ true → after.writer ≡ advanced before.writer → after.fillings ≡ before.fillings
    → Sets t task old new → SettlesMarks (old t) task → AreHeld new after
last_step_held old new before after t task held last hardens is fillings sets settles = by before.writer.hand refl held.hand last
  where
    same : (w : TaskNo) → (new w).unit ≡ (old w).unit
    same = units_same old new t task sets settles.same_unit

    closed : is_open (new t).stage ≡ false
    closed = ap (λ (x : Task). is_open x.stage) sets.here ∙ settles.closed

    stay : (w : TaskNo) → is_open (new w).stage ≡ true → new w ≡ old w
    stay = by_task (λ w. is_open (new w).stage ≡ true → new w ≡ old w) t (λ opened. absurd (true≢false (sym opened ∙ closed))) (λ w differ opened. sets.others w differ)

    none_left : (hand : Hand) → IsHardening old hand → IsHandOf new None
    none_left hand own = by_task (λ w. is_hardening (new w).stage ≡ false) t (ap (λ (x : Task). is_hardening x.stage) sets.here ∙ settles.settling)
        (λ w differ. ap (λ (x : Task). is_hardening x.stage) (sets.others w differ) ∙ not_there w differ (is_hardening (old w).stage) refl)
      where
        not_there : (w : TaskNo) → (task_number w ≡ task_number t → ⊥) → (b : Bool) → is_hardening (old w).stage ≡ b → is_hardening (old w).stage ≡ false
        not_there w differ true there = absurd (differ (ap task_number (own.only w there ∙ sym (own.only t hardens))))
        not_there w differ false there = there

    no_page : (hand : Hand) (pages : List (List ℕ)) → (length pages == 1) ≡ true → after_page hand pages ≡ None
    no_page hand [] one = refl
    no_page hand (body ∷ []) one = refl
    no_page hand (body ∷ next ∷ pages) one = absurd (omega (arith, eqb-true (length (body ∷ next ∷ pages)) 1 one))

    by_phase : (hand : Hand) (phase : Phase) → IsHardening old hand → (is_gate_written phase && (length hand.pages == 1)) ≡ true → after.writer ≡ advanced_by (record before.writer { hand = Some hand }) hand phase → AreHeld new after
    by_phase hand Fresh own ends made = absurd (true≢false (sym ends))
    by_phase hand GateShut own ends made = absurd (true≢false (sym ends))
    by_phase hand ShutSafe own ends made = absurd (true≢false (sym ends))
    by_phase hand BodyWritten own ends made = absurd (true≢false (sym ends))
    by_phase hand BodySafe own ends made = absurd (true≢false (sym ends))
    by_phase hand GateWritten own ends made =
        lowered_held old new before after hand held own same stay fillings (ap (λ (w : LogState). w.reserved) made)
        (subst (IsHandOf new) (sym (ap (λ (w : LogState). w.hand) made ∙ no_page hand hand.pages ends)) (none_left hand own))

    by : (hand : Option Hand) → before.writer.hand ≡ hand → IsHandOf old hand → ends_run (record before.writer { hand = hand }) ≡ true → AreHeld new after
    by None none own ends = absurd (true≢false (sym ends))
    by (Some hand) there own ends = by_phase hand hand.phase own ends (is ∙ ap advanced (with_hand before.writer (Some hand) there))

-- ---- marks come off, and units end

pub settling_held : (old new : TaskNo → Task) (log : KeptLog) (t : TaskNo) (task : Task) → AreHeld old log → is_hardening (old t).stage ≡ false → Sets t task old new → SettlesMarks (old t) task → AreHeld new log
settling_held old new log t task held quiet sets settles = record {
  once = once_same old new same held.once;
  differ = held.differ;
  owned = owned_same old new same log.writer.reserved held.owned;
  fillings = λ w opened. held.fillings w (sym (ap (λ (x : Task). is_open x.stage) (stay w opened)) ∙ opened) ∙ sym (ap (λ (x : Task). filled (lengths_held x)) (stay w opened));
  covered = λ w u ops claims x some. held.covered w u ops claims (sym (stay w (ap (λ (x : Task). is_open x.stage) x)) ∙ x) some;
  hand = hand_beside old new t task log.writer.hand sets quiet settles.settling held.hand;
}
  where
    same : (w : TaskNo) → (new w).unit ≡ (old w).unit
    same = units_same old new t task sets settles.same_unit

    stay : (w : TaskNo) → is_open (new w).stage ≡ true → new w ≡ old w
    stay = by_task (λ w. is_open (new w).stage ≡ true → new w ≡ old w) t (λ opened. absurd (true≢false (sym opened ∙ ap (λ (x : Task). is_open x.stage) sets.here ∙ settles.closed))) (λ w differ opened. sets.others w differ)

pub ended_held : (old new : TaskNo → Task) (log : KeptLog) (t : TaskNo) (u : UnitName) → AreHeld old log → length log.fillings ≡ 5 → HoldsUnit old u t → is_hardening (old t).stage ≡ false → Sets t idle old new → AreHeld new (with_ended t u log)
ended_held old new log t u held five holds quiet sets = record {
  once = λ v a b. by_task (λ a. HoldsUnit new v a → HoldsUnit new v b → a ≡ b) t
      (λ x. absurd (no_unit (new t) v sets.here x))
      (λ w differ x. by_task (λ b. HoldsUnit new v b → w ≡ b) t (λ y. absurd (no_unit (new t) v sets.here y)) (λ z other y. held.once v w z (sym (moved w differ) ∙ x) (sym (moved z other) ∙ y)) b)
      a;
  differ = different_besides u log.writer.reserved held.differ;
  owned = owned_rest log.writer.reserved held.owned;
  fillings = by_task (λ w. is_open (new w).stage ≡ true → filling_of w (with_ended t u log) ≡ filled (lengths_held (new w))) t
      (λ opened. filling_set t no_pages log five ∙ sym (ap (λ (x : Task). filled (lengths_held x)) sets.here))
      (λ w differ opened. filling_other t w no_pages log differ ∙ held.fillings w (sym (ap (λ (x : Task). is_open x.stage) (sets.others w differ)) ∙ opened) ∙ sym (ap (λ (x : Task). filled (lengths_held x)) (sets.others w differ)));
  covered = by_task (λ w. (v : UnitName) (ops : List (StructNo × Op)) (claims : List Claim) → new w ≡ open_task v ops claims → 0 < length ops → with_commit (filling_of w (with_ended t u log)) ≤ pages_for v (besides u log.writer.reserved)) t
      (λ v ops claims is some. absurd (no_unit (new t) v sets.here (ap (λ (x : Task). x.unit) is)))
      (λ w differ v ops claims is some.
      let was : old w ≡ open_task v ops claims = sym (sets.others w differ) ∙ is in
      omega (arith, ap with_commit (filling_other t w no_pages log differ), pages_for-besides v u log.writer.reserved (apart w differ v (ap (λ (x : Task). x.unit) was)), held.covered w v ops claims was some));
  hand = hand_beside old new t idle log.writer.hand sets quiet refl held.hand;
}
  where
    moved : (w : TaskNo) → (task_number w ≡ task_number t → ⊥) → (new w).unit ≡ (old w).unit
    moved w differ = ap (λ (x : Task). x.unit) (sets.others w differ)

    apart : (w : TaskNo) → (task_number w ≡ task_number t → ⊥) → (v : UnitName) → HoldsUnit old v w → same_unit v u ≡ false
    apart w differ v has = by (same_unit v u) refl
      where
        by : (b : Bool) → same_unit v u ≡ b → same_unit v u ≡ false
        by true same = absurd (differ (ap task_number (held.once u w t (has ∙ ap (λ (x : UnitName). Some x) (same_is v u same)) holds)))
        by false same = same

    owned_rest : (rs : List Reservation) → AllByRecursion (IsOwned old) rs → AllByRecursion (IsOwned new) (besides u rs)
    owned_rest [] all = tt
    owned_rest (r ∷ rs) all = by (owned_rest rs all.1) (same_unit r.unit u) refl
      where
        still : same_unit r.unit u ≡ false → IsOwned new r
        still not_u = (
          all.0.0,
          by_task (λ w. HoldsUnit old r.unit w → HoldsUnit new r.unit w) t
              (λ x. absurd (true≢false (sym (same_self u) ∙ ap (λ (v : UnitName). same_unit v u) (same_Some u r.unit (sym holds ∙ x)) ∙ not_u)))
              (λ w differ x. moved w differ ∙ x) all.0.0 all.0.1,
        )

        by : AllByRecursion (IsOwned new) (besides u rs) → (b : Bool) → same_unit r.unit u ≡ b → AllByRecursion (IsOwned new) (cond (not b) (r ∷ besides u rs) (besides u rs))
        by rest true is = rest
        by rest false is = (still is, rest)
