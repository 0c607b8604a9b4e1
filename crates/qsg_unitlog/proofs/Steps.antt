-- what the calls of a writer, and power cuts, make of what a log tells
use Rattle.std.proofs.Common.{◌≡◌, ◌⊎◌, inl, inr, ℕ, suc, ◌+◌, ◌-◌, ◌*◌, ◌/◌, ◌<◌, ◌≤◌, Bool, true, false, cond, ◌&&◌, ◌==◌, List, [], ◌∷◌, ◌++◌, length, drop, map, replicate, Option, None, Some, refl, sym, ap, subst, ◌∙◌, append_assoc, arith, true≢false}
use Rattle.std.specs.List.{list_any}
use Rattle.std.proofs.lemmas.List.{append-nil, length-append, length-drop}
use Rattle.std.proofs.lemmas.Bool.Decides.{nat_tests}
use Rattle.qsg_num.specs.declared.ids.UnitName.{UnitName}
use Rattle.qsg_num.specs.declared.seats.StructNo.{StructNo}
use Rattle.qsg_model.specs.declared.history.Op.{Op}
use Rattle.qsg_disk.specs.Byte.{Byte, zero_byte}
use Rattle.qsg_logpage.specs.declared.table.Reservation.{Reservation}
use Rattle.qsg_logpage.specs.declared.step.Phase.{Phase}
use Rattle.qsg_logpage.specs.declared.step.Phase.TheVariants.{Fresh, GateShut, ShutSafe, BodyWritten, BodySafe, GateWritten}
use Rattle.qsg_logpage.specs.Page.{page_at, with_lap, is_safely_open, open_pages, log_pages, IsAbsent}
use Rattle.qsg_logpage.specs.Log.{Hand, LogState, AtNext, IsTied, IsCutShort, first_body, hand_body, first_phase, in_phase, after_page, advanced, advanced_by, made_by, made_safe, pages_written}
use Rattle.qsg_logpage.proofs.Cuts.{same_pages, shut_here, pages_split, all_open, whole_open, absent_shut}
use Rattle.qsg_logpage.proofs.Runs.{new_log, keep_rises}
use Rattle.qsg_logrec.specs.declared.record.LogRecord.{LogRecord}
use Rattle.qsg_logread.specs.Records.{AreRecords, PagesJoin}
use Rattle.qsg_logread.specs.Logs.{lapped, IsLogOf}
use Rattle.qsg_logread.specs.Fed.{Fed, is_committed, commits_unit}
use Rattle.qsg_logread.specs.Feeding.{WasFed}
use Rattle.qsg_logread.proofs.Known.{same_pages_join}
use Rattle.qsg_logread.proofs.Noted.{committed_records}
use Rattle.qsg_group.specs.Group.{Run}
use Rattle.qsg_group.specs.Observers.{has_run}
use Rattle.qsg_unitlog.specs.Units.{run_records, run_pages, is_named, told_in, told_by_run, AreApart}
use Rattle.qsg_unitlog.specs.Tells.{Stand, InHand, as_list, Tells, HasRecords, is_gate_written, ends_run, runs_after, hand_after, is_last, after_cut, is_left_whole, is_run_whole, IsCutDown}
use Rattle.qsg_unitlog.proofs.Lists.{drop_front, drop_within}
use Rattle.qsg_unitlog.proofs.Beside.{none_beside, front_beside}
use Rattle.qsg_unitlog.proofs.Standing.{length_lapped, lapped_append, stand_append, stand_more, stand_from, stand_records, apart_from, apart_gone, apart_new}
use Rattle.qsg_unitlog.proofs.Told.{told_is, commits_found}

-- ---- tests

pub and_false : (a b : Bool) → b ≡ false → (a && b) ≡ false
and_false true b e = e
and_false false b e = refl

pub test_false : (a b : ℕ) → a < b → (a == b) ≡ false
test_false a b less = grind (arith, nat_tests)

pub test_true : (a b : ℕ) → a ≡ b → (a == b) ≡ true
test_true a b is = grind (arith, nat_tests)

test_many : (n : ℕ) → (suc (suc n) == 1) ≡ false
test_many n = grind (arith, nat_tests)

pub many : (body next : List ℕ) (rest pages : List (List ℕ)) → pages ≡ body ∷ next ∷ rest → (length pages == 1) ≡ false
many body next rest pages are = ap (λ (l : List (List ℕ)). length l == 1) are ∙ test_many (length rest)

no_both : {A : Type 0} (b : Bool) → b ≡ true → b ≡ false → A
no_both b e f = absurd (true≢false (sym e ∙ f))

-- ---- the pages that are written

pub opens : (keep : ℕ) (log : LogState) (bytes : List Byte) → IsTied keep log bytes → (k : ℕ) → keep ≤ k → k < log.next → is_safely_open (k / log.size) (page_at bytes log.size k) ≡ true
opens keep log bytes tied k above less = let s = tied.stands k above less in whole_open (k / log.size) s.body (page_at bytes log.size k) s.whole

pub written_length : (keep : ℕ) (log : LogState) (bytes : List Byte) → IsTied keep log bytes → length (pages_written keep log bytes) ≡ log.next - keep
written_length keep log bytes tied = all_open log.size bytes keep (log.next - keep) (λ k above less. opens keep log bytes tied k above (omega (arith, tied.from)))

idle_pages : (keep : ℕ) (log : LogState) (bytes : List Byte) → log.hand ≡ None → IsTied keep log bytes → log_pages bytes log.size keep ≡ pages_written keep log bytes
idle_pages keep log bytes idle tied =
    ap (open_pages bytes log.size keep) (omega (arith, tied.room, tied.from))
    ∙ pages_split log.size bytes keep (log.next - keep) (log.size - (log.next - keep)) (λ k above less. opens keep log bytes tied k above (omega (arith, tied.from)))
    ∙ ap (λ (l : List (List ℕ)). open_pages bytes log.size keep (log.next - keep) ++ l)
    (ap (λ (k : ℕ). open_pages bytes log.size k (log.size - (log.next - keep))) (omega (arith, tied.from))
    ∙ shut_here log.size bytes log.next (log.size - (log.next - keep)) (absent_shut (log.next / log.size) (page_at bytes log.size log.next) absent))
    ∙ append-nil (open_pages bytes log.size keep (log.next - keep))
  where
    absent : IsAbsent (log.next / log.size) (page_at bytes log.size log.next)
    absent = subst (λ (h : Option Hand). AtNext (log.next / log.size) h (page_at bytes log.size log.next)) idle tied.at_next

-- the pages from a later one on
written_drop : (keep later : ℕ) (log : LogState) (bytes : List Byte) → keep ≤ later → later ≤ log.next → IsTied keep log bytes → pages_written later log bytes ≡ drop (later - keep) (pages_written keep log bytes)
written_drop keep later log bytes up below tied =
    sym (
    ap (drop (later - keep)) split
    ∙ drop_front (later - keep) (open_pages bytes log.size keep (later - keep)) (open_pages bytes log.size (keep + (later - keep)) (log.next - later)) 0 count
    ∙ ap (λ (k : ℕ). open_pages bytes log.size k (log.next - later)) (omega (arith, up))
    )
  where
    front : (k : ℕ) → keep ≤ k → k < keep + (later - keep) → is_safely_open (k / log.size) (page_at bytes log.size k) ≡ true
    front k above less = opens keep log bytes tied k above (omega (arith, up, below))

    count : later - keep ≡ length (open_pages bytes log.size keep (later - keep)) + 0
    count = omega (arith, all_open log.size bytes keep (later - keep) front)

    split : pages_written keep log bytes ≡ open_pages bytes log.size keep (later - keep) ++ open_pages bytes log.size (keep + (later - keep)) (log.next - later)
    split = ap (open_pages bytes log.size keep) (omega (arith, up, below)) ∙ pages_split log.size bytes keep (later - keep) (log.next - later) front

-- ---- the run in hand

hand_moved : (log new : LogState) (first : ℕ) (hand : Option Run) (safe : List (List ℕ)) → new.hand ≡ log.hand → new.size ≡ log.size → InHand log first hand safe → InHand new first hand safe
hand_moved log new first None safe same size h = (same ∙ h.0, h.1)
hand_moved log new first (Some run) safe same size h = record {
  first_is = h.first_is;
  hand = h.hand;
  hand_is = same ∙ h.hand_is;
  left = h.left;
  structures = h.structures;
  each = h.each;
  front = h.front;
  pages_are = h.pages_are;
  safe_are = h.safe_are ∙ ap (λ (n : ℕ). lapped n first h.front) (sym size);
}

hand_from : (log : LogState) (first later : ℕ) (hand : Option Run) (safe : List (List ℕ)) → first ≡ later → InHand log first hand safe → InHand log later hand safe
hand_from log first later hand safe is h = subst (λ (n : ℕ). InHand log n hand safe) is h

-- ---- a new log, reservations, begin

pub new_tells : (size : ℕ) → 0 < size → Tells 0 (record { size = size; next = 0; reserved = []; hand = None }) [] [] None (replicate (4096 * size) zero_byte)
new_tells size some = record { tied = new_log size some; before = []; safe = []; pages = refl; stand = none_beside []; in_hand = (refl, refl); apart = tt }

pub reserved_tells : (keep : ℕ) (log new : LogState) (reserved : List Reservation) (gone : List UnitName) (runs : List Run) (hand : Option Run) (bytes : List Byte)
    → new ≡ record log { reserved = reserved } → IsTied keep new bytes → Tells keep log gone runs hand bytes → Tells keep new gone runs hand bytes
reserved_tells keep log new reserved gone runs hand bytes is tied t =
    subst (λ (l : LogState). Tells keep l gone runs hand bytes) (sym is) (record {
      tied = subst (λ (l : LogState). IsTied keep l bytes) is tied;
      before = t.before;
      safe = t.safe;
      pages = t.pages;
      stand = t.stand;
      in_hand = hand_moved log (record log { reserved = reserved }) (keep + length t.before) hand t.safe refl refl t.in_hand;
      apart = t.apart;
    })

pub begun_tells : (keep : ℕ) (log new : LogState) (gone : List UnitName) (runs : List Run) (bytes : List Byte) (unit : UnitName) (told : List (StructNo × Op)) (structures : List StructNo) (pages : List (List ℕ))
    → Tells keep log gone runs None bytes
    → pages ≡ run_pages unit told structures → 0 < length pages → AreRecords (run_records unit told structures)
    → is_named unit gone ≡ false → has_run unit runs ≡ false
    → new ≡ record log { hand = Some (record { unit = unit; pages = pages; phase = Fresh }) } → IsTied keep new bytes
    → Tells keep new gone runs (Some (record { unit = unit; first = log.next; told = told })) bytes
begun_tells keep log new gone runs bytes unit told structures pages t pages_are some each fresh free is tied =
    subst (λ (l : LogState). Tells keep l gone runs (Some (record { unit = unit; first = log.next; told = told })) bytes) (sym is) (record {
      tied = subst (λ (l : LogState). IsTied keep l bytes) is tied;
      before = t.before;
      safe = [];
      pages = t.pages ∙ ap (λ (l : List (List ℕ)). t.before ++ l) t.in_hand.1;
      stand = t.stand;
      in_hand = record {
        first_is = omega (arith, t.tied.from, written_length keep log bytes t.tied, ap length t.pages ∙ ap (λ (l : List (List ℕ)). length (t.before ++ l)) t.in_hand.1, length-append t.before []);
        hand = record { unit = unit; pages = pages; phase = Fresh };
        hand_is = refl;
        left = some;
        structures = structures;
        each = each;
        front = [];
        pages_are = sym pages_are;
        safe_are = refl;
      };
      apart = apart_new gone runs (record { unit = unit; first = log.next; told = told }) (subst (AreApart gone) (append-nil runs) t.apart) fresh free;
    })

-- ---- a step that failed

pub failed_tells : (keep : ℕ) (log new : LogState) (gone : List UnitName) (runs : List Run) (hand : Option Run) (old bytes : List Byte)
    → Tells keep log gone runs hand old
    → new ≡ log → IsTied keep new bytes → ((k : ℕ) → keep ≤ k → k < log.next → page_at bytes log.size k ≡ page_at old log.size k)
    → Tells keep new gone runs hand bytes
failed_tells keep log new gone runs hand old bytes t is tied same =
    subst (λ (l : LogState). Tells keep l gone runs hand bytes) (sym is) (record {
      tied = subst (λ (l : LogState). IsTied keep l bytes) is tied;
      before = t.before;
      safe = t.safe;
      pages = same_pages log.size old bytes keep (log.next - keep) (λ k above less. same k above (omega (arith, t.tied.from))) ∙ t.pages;
      stand = t.stand;
      in_hand = t.in_hand;
      apart = t.apart;
    })

-- ---- a step

-- the safe pages of the run in hand, and one more
one_more : (keep : ℕ) (log : LogState) (gone : List UnitName) (runs : List Run) (run : Run) (old : List Byte) (t : Tells keep log gone runs (Some run) old) (body : List ℕ)
    → t.safe ++ with_lap (log.next / log.size) body ∷ [] ≡ lapped log.size (keep + length t.before) (t.in_hand.front ++ body ∷ [])
one_more keep log gone runs run old t body =
    let h = t.in_hand in
    let next : keep + length t.before + length h.front ≡ log.next =
    omega (
      arith,
      t.tied.from,
      written_length keep log old t.tied,
      ap length t.pages,
      length-append t.before t.safe,
      ap length h.safe_are,
      length_lapped log.size (keep + length t.before) h.front,
    ) in
    (λ i. h.safe_are i ++ with_lap (sym next i / log.size) body ∷ [])
    ∙ sym (lapped_append log.size (keep + length t.before) h.front (body ∷ []))

-- the run is whole
run_whole : (keep : ℕ) (log : LogState) (gone : List UnitName) (runs : List Run) (run : Run) (old : List Byte) (t : Tells keep log gone runs (Some run) old) (body : List ℕ) (new : LogState) (bytes : List Byte)
    → t.in_hand.hand.pages ≡ body ∷ [] → new.size ≡ log.size → new.hand ≡ None → IsTied keep new bytes → pages_written keep new bytes ≡ (t.before ++ t.safe) ++ with_lap (log.next / log.size) body ∷ []
    → Tells keep new gone (runs ++ run ∷ []) None bytes
run_whole keep log gone runs run old t body new bytes last size idle tied written = record {
  tied = tied;
  before = t.before ++ lapped log.size run.first (run_pages run.unit run.told t.in_hand.structures);
  safe = [];
  pages = written ∙ append_assoc t.before t.safe (with_lap (log.next / log.size) body ∷ [])
      ∙ ap (λ (l : List (List ℕ)). t.before ++ l)
      (one_more keep log gone runs run old t body ∙ (λ i. lapped log.size (sym t.in_hand.first_is i) (whole i)))
      ∙ sym (append-nil (t.before ++ lapped log.size run.first (run_pages run.unit run.told t.in_hand.structures)));
  stand = subst (λ (n : ℕ). Stand n gone keep (runs ++ run ∷ []) (t.before ++ lapped log.size run.first (run_pages run.unit run.told t.in_hand.structures))) (sym size)
      (stand_append log.size gone keep run.first runs (run ∷ []) t.before (lapped log.size run.first (run_pages run.unit run.told t.in_hand.structures)) t.stand (sym t.in_hand.first_is) (
        [],
        t.in_hand.structures,
        [],
        sym (append-nil (lapped log.size run.first (run_pages run.unit run.told t.in_hand.structures))),
        omega arith,
        none_beside gone,
        t.in_hand.each,
        none_beside gone,
      ));
  in_hand = (idle, refl);
  apart = subst (AreApart gone) (sym (append-nil (runs ++ run ∷ []))) t.apart;
}
  where
    whole : t.in_hand.front ++ body ∷ [] ≡ run_pages run.unit run.told t.in_hand.structures
    whole = ap (λ (l : List (List ℕ)). t.in_hand.front ++ l) (sym last) ∙ sym t.in_hand.pages_are

-- the same page by page
run_goes : (keep : ℕ) (log : LogState) (gone : List UnitName) (runs : List Run) (run : Run) (old : List Byte) (t : Tells keep log gone runs (Some run) old) (body next : List ℕ) (rest : List (List ℕ)) (new : LogState) (hand : Hand) (bytes : List Byte)
    → t.in_hand.hand.pages ≡ body ∷ next ∷ rest → new.size ≡ log.size → new.hand ≡ Some hand → hand.pages ≡ next ∷ rest → IsTied keep new bytes → pages_written keep new bytes ≡ (t.before ++ t.safe) ++ with_lap (log.next / log.size) body ∷ []
    → Tells keep new gone runs (Some run) bytes
run_goes keep log gone runs run old t body next rest new hand bytes are size hand_is left tied written = record {
  tied = tied;
  before = t.before;
  safe = t.safe ++ with_lap (log.next / log.size) body ∷ [];
  pages = written ∙ append_assoc t.before t.safe (with_lap (log.next / log.size) body ∷ []);
  stand = subst (λ (n : ℕ). Stand n gone keep runs t.before) (sym size) t.stand;
  in_hand = record {
    first_is = t.in_hand.first_is;
    hand = hand;
    hand_is = hand_is;
    left = omega (arith, ap length left);
    structures = t.in_hand.structures;
    each = t.in_hand.each;
    front = t.in_hand.front ++ body ∷ [];
    pages_are = t.in_hand.pages_are ∙ ap (λ (l : List (List ℕ)). t.in_hand.front ++ l) (are ∙ ap (λ (l : List (List ℕ)). body ∷ l) (sym left)) ∙ sym (append_assoc t.in_hand.front (body ∷ []) hand.pages);
    safe_are = one_more keep log gone runs run old t body ∙ ap (λ (n : ℕ). lapped n (keep + length t.before) (t.in_hand.front ++ body ∷ [])) (sym size);
  };
  apart = t.apart;
}

-- the page in hand isn't safe yet
run_stays : (keep : ℕ) (log : LogState) (gone : List UnitName) (runs : List Run) (run : Run) (old : List Byte) (t : Tells keep log gone runs (Some run) old) (new : LogState) (hand : Hand) (bytes : List Byte)
    → new.size ≡ log.size → new.hand ≡ Some hand → hand.pages ≡ t.in_hand.hand.pages → IsTied keep new bytes → pages_written keep new bytes ≡ (t.before ++ t.safe) ++ []
    → Tells keep new gone runs (Some run) bytes
run_stays keep log gone runs run old t new hand bytes size hand_is same tied written = record {
  tied = tied;
  before = t.before;
  safe = t.safe;
  pages = written ∙ append-nil (t.before ++ t.safe);
  stand = subst (λ (n : ℕ). Stand n gone keep runs t.before) (sym size) t.stand;
  in_hand = record {
    first_is = t.in_hand.first_is;
    hand = hand;
    hand_is = hand_is;
    left = omega (arith, t.in_hand.left, ap length same);
    structures = t.in_hand.structures;
    each = t.in_hand.each;
    front = t.in_hand.front;
    pages_are = t.in_hand.pages_are ∙ ap (λ (l : List (List ℕ)). t.in_hand.front ++ l) (sym same);
    safe_are = t.in_hand.safe_are ∙ ap (λ (n : ℕ). lapped n (keep + length t.before) t.in_hand.front) (sym size);
  };
  apart = t.apart;
}

-- the writer, by the run in hand and its phase
advanced_is : (log : LogState) (hand : Hand) (phase : Phase) → log.hand ≡ Some hand → hand.phase ≡ phase → advanced log ≡ advanced_by log hand phase
advanced_is log hand phase is at = at_hand log.hand is ∙ ap (advanced_by log hand) at
  where
    at_hand : (h : Option Hand) → h ≡ Some hand → (elim h as (λ _. LogState) [ None ↦ log | Some hand ↦ advanced_by log hand hand.phase ]) ≡ advanced_by log hand hand.phase
    at_hand h is = ap (λ (h : Option Hand). elim h as (λ _. LogState) [ None ↦ log | Some hand ↦ advanced_by log hand hand.phase ]) is

made_is : (log : LogState) (hand : Hand) (phase : Phase) → log.hand ≡ Some hand → hand.phase ≡ phase → made_safe log ≡ made_by log hand phase
made_is log hand phase is at = at_hand log.hand is ∙ ap (made_by log hand) at
  where
    at_hand : (h : Option Hand) → h ≡ Some hand → (elim h [ None ↦ [] | Some hand ↦ made_by log hand hand.phase ]) ≡ made_by log hand hand.phase
    at_hand h is = ap (λ (h : Option Hand). elim h [ None ↦ [] | Some hand ↦ made_by log hand hand.phase ]) is

ends_is : (log : LogState) (hand : Hand) (phase : Phase) → log.hand ≡ Some hand → hand.phase ≡ phase → ends_run log ≡ (is_gate_written phase && (length hand.pages == 1))
ends_is log hand phase is at = at_hand log.hand is ∙ ap (λ (p : Phase). is_gate_written p && (length hand.pages == 1)) at
  where
    at_hand : (h : Option Hand) → h ≡ Some hand → (elim h [ None ↦ false | Some hand ↦ is_gate_written hand.phase && (length hand.pages == 1) ]) ≡ (is_gate_written hand.phase && (length hand.pages == 1))
    at_hand h is = ap (λ (h : Option Hand). elim h [ None ↦ false | Some hand ↦ is_gate_written hand.phase && (length hand.pages == 1) ]) is

pub last_is : (log : LogState) (hand : Hand) → log.hand ≡ Some hand → is_last log ≡ (length hand.pages == 1)
last_is log hand is = at_hand log.hand is
  where
    at_hand : (h : Option Hand) → h ≡ Some hand → (elim h [ None ↦ false | Some hand ↦ length hand.pages == 1 ]) ≡ (length hand.pages == 1)
    at_hand h is = ap (λ (h : Option Hand). elim h [ None ↦ false | Some hand ↦ length hand.pages == 1 ]) is

body_is : (log : LogState) (hand : Hand) → log.hand ≡ Some hand → hand_body (log.next / log.size) log.hand ≡ with_lap (log.next / log.size) (first_body hand.pages) ∷ []
body_is log hand is = ap (hand_body (log.next / log.size)) is

pub step_tells : (keep : ℕ) (log new : LogState) (gone : List UnitName) (runs : List Run) (run : Run) (old bytes : List Byte)
    → Tells keep log gone runs (Some run) old
    → new ≡ advanced log → IsTied keep new bytes → pages_written keep new bytes ≡ pages_written keep log old ++ made_safe log
    → Tells keep new gone (runs_after log runs run) (hand_after log run) bytes
step_tells keep log new gone runs run old bytes t is tied written = by t.in_hand.hand.phase refl
  where
    cast : (b : Bool) → ends_run log ≡ b → Tells keep new gone (cond b (runs ++ run ∷ []) runs) (cond b None (Some run)) bytes → Tells keep new gone (runs_after log runs run) (hand_after log run) bytes
    cast b e x = subst (λ (b : Bool). Tells keep new gone (cond b (runs ++ run ∷ []) runs) (cond b None (Some run)) bytes) (sym e) x

    now : (phase : Phase) → t.in_hand.hand.phase ≡ phase → pages_written keep new bytes ≡ (t.before ++ t.safe) ++ made_by log t.in_hand.hand phase
    now phase at = written ∙ (λ i. t.pages i ++ made_is log t.in_hand.hand phase t.in_hand.hand_is at i)

    state : (phase : Phase) → t.in_hand.hand.phase ≡ phase → new ≡ advanced_by log t.in_hand.hand phase
    state phase at = is ∙ advanced_is log t.in_hand.hand phase t.in_hand.hand_is at

    stays : (phase next : Phase) → t.in_hand.hand.phase ≡ phase → advanced_by log t.in_hand.hand phase ≡ in_phase log t.in_hand.hand next → made_by log t.in_hand.hand phase ≡ [] → is_gate_written phase ≡ false
        → Tells keep new gone (runs_after log runs run) (hand_after log run) bytes
    stays phase next at goes none shut =
        let s = state phase at ∙ goes in
        cast false (ends_is log t.in_hand.hand phase t.in_hand.hand_is at ∙ ap (λ (b : Bool). b && (length t.in_hand.hand.pages == 1)) shut)
        (run_stays keep log gone runs run old t new (record t.in_hand.hand { phase = next }) bytes (ap (λ (l : LogState). l.size) s) (ap (λ (l : LogState). l.hand) s) refl tied
        (now phase at ∙ ap (λ (l : List (List ℕ)). (t.before ++ t.safe) ++ l) none))

    safe : (pages : List (List ℕ)) → t.in_hand.hand.pages ≡ pages → t.in_hand.hand.phase ≡ GateWritten → Tells keep new gone (runs_after log runs run) (hand_after log run) bytes
    safe [] are at = absurd (omega (arith, t.in_hand.left, ap length are))
    safe (body ∷ []) are at =
        let s = state GateWritten at in
        cast true (ends_is log t.in_hand.hand GateWritten t.in_hand.hand_is at ∙ ap (λ (l : List (List ℕ)). length l == 1) are)
        (run_whole keep log gone runs run old t body new bytes are (ap (λ (l : LogState). l.size) s) (ap (λ (l : LogState). l.hand) s ∙ ap (after_page t.in_hand.hand) are) tied
        (now GateWritten at ∙ ap (λ (l : List (List ℕ)). (t.before ++ t.safe) ++ with_lap (log.next / log.size) (first_body l) ∷ []) are))
    safe (body ∷ next ∷ rest) are at =
        let s = state GateWritten at in
        cast false (ends_is log t.in_hand.hand GateWritten t.in_hand.hand_is at ∙ many body next rest t.in_hand.hand.pages are)
        (run_goes keep log gone runs run old t body next rest new (record { unit = t.in_hand.hand.unit; pages = next ∷ rest; phase = Fresh }) bytes are (ap (λ (l : LogState). l.size) s)
        (ap (λ (l : LogState). l.hand) s ∙ ap (after_page t.in_hand.hand) are) refl tied
        (now GateWritten at ∙ ap (λ (l : List (List ℕ)). (t.before ++ t.safe) ++ with_lap (log.next / log.size) (first_body l) ∷ []) are))

    by : (phase : Phase) → t.in_hand.hand.phase ≡ phase → Tells keep new gone (runs_after log runs run) (hand_after log run) bytes
    by Fresh at = stays Fresh (first_phase (log.next / log.size)) at refl refl refl
    by GateShut at = stays GateShut ShutSafe at refl refl refl
    by ShutSafe at = stays ShutSafe BodyWritten at refl refl refl
    by BodyWritten at = stays BodyWritten BodySafe at refl refl refl
    by BodySafe at = stays BodySafe GateWritten at refl refl refl
    by GateWritten at = safe t.in_hand.hand.pages refl at

-- ---- the first page that may not be written over rises

pub kept_from_run : (keep : ℕ) (log : LogState) (gone : List UnitName) (before after : List Run) (run : Run) (hand : Option Run) (bytes : List Byte)
    → Tells keep log gone (before ++ run ∷ after) hand bytes → Tells run.first log gone (run ∷ after) hand bytes
kept_from_run keep log gone before after run hand bytes t =
    let s = stand_from log.size gone keep before after run t.before t.stand in
    let below : run.first ≤ log.next = omega (arith, s.below, t.tied.from, written_length keep log bytes t.tied, ap length t.pages, length-append t.before t.safe) in
    let within : run.first - keep ≤ length t.before = omega (arith, s.below, s.above) in
    let dropped : length (drop (run.first - keep) t.before) ≡ length t.before - (run.first - keep) = length-drop (run.first - keep) t.before in
    record {
      tied = keep_rises keep run.first log bytes s.above below t.tied;
      before = drop (run.first - keep) t.before;
      safe = t.safe;
      pages = written_drop keep run.first log bytes s.above below t.tied ∙ ap (drop (run.first - keep)) t.pages ∙ drop_within (run.first - keep) t.before t.safe within;
      stand = s.stand;
      in_hand = hand_from log (keep + length t.before) (run.first + length (drop (run.first - keep) t.before)) hand t.safe (omega (arith, dropped, within, s.above)) t.in_hand;
      apart = apart_from gone before (run ∷ after ++ as_list hand) (subst (AreApart gone) (append_assoc before (run ∷ after) (as_list hand)) t.apart);
    }

pub hand_within : (keep : ℕ) (log : LogState) (gone : List UnitName) (runs : List Run) (run : Run) (bytes : List Byte) → Tells keep log gone runs (Some run) bytes → (keep ≤ run.first) × (run.first ≤ log.next)
hand_within keep log gone runs run bytes t =
    let h = t.in_hand in
    (omega (arith, h.first_is), omega (arith, h.first_is, t.tied.from, written_length keep log bytes t.tied, ap length t.pages, length-append t.before t.safe))

pub kept_from_hand : (keep : ℕ) (log : LogState) (gone : List UnitName) (runs : List Run) (run : Run) (bytes : List Byte) → Tells keep log gone runs (Some run) bytes → Tells run.first log gone [] (Some run) bytes
kept_from_hand keep log gone runs run bytes t =
    let h = t.in_hand in
    let within = hand_within keep log gone runs run bytes t in
    record {
      tied = keep_rises keep run.first log bytes within.0 within.1 t.tied;
      before = [];
      safe = t.safe;
      pages = written_drop keep run.first log bytes within.0 within.1 t.tied
          ∙ ap (drop (run.first - keep)) t.pages ∙ drop_front (run.first - keep) t.before t.safe 0 (omega (arith, h.first_is));
      stand = none_beside gone;
      in_hand = hand_from log (keep + length t.before) (run.first + 0) (Some run) t.safe (omega (arith, h.first_is)) t.in_hand;
      apart = apart_from gone runs (run ∷ []) t.apart;
    }

pub kept_from_next : (keep : ℕ) (log : LogState) (gone : List UnitName) (runs : List Run) (bytes : List Byte) → Tells keep log gone runs None bytes → Tells log.next log gone [] None bytes
kept_from_next keep log gone runs bytes t = record {
  tied = keep_rises keep log.next log bytes t.tied.from (omega arith) t.tied;
  before = [];
  safe = [];
  pages = ap (open_pages bytes log.size log.next) none;
  stand = none_beside gone;
  in_hand = (t.in_hand.0, refl);
  apart = tt;
}
  where
    none : log.next - log.next ≡ 0
    none = omega arith

-- ---- a power cut

cut_written : (keep : ℕ) (log : LogState) (old new : List Byte) → IsCutShort keep log old new → pages_written keep (after_cut keep log new) new ≡ log_pages new log.size keep
cut_written keep log old new cut = sym (idle_pages keep (after_cut keep log new) new refl cut.tied)

pub idle_cut_tells : (keep : ℕ) (log : LogState) (gone : List UnitName) (runs : List Run) (old new : List Byte)
    → Tells keep log gone runs None old → IsCutShort keep log old new → Tells keep (after_cut keep log new) gone runs None new
idle_cut_tells keep log gone runs old new t cut = record {
  tied = cut.tied;
  before = t.before;
  safe = [];
  pages = cut_written keep log old new cut ∙ same cut.pages ∙ t.pages ∙ ap (λ (l : List (List ℕ)). t.before ++ l) t.in_hand.1;
  stand = t.stand;
  in_hand = (refl, refl);
  apart = t.apart;
}
  where
    same : (log_pages new log.size keep ≡ pages_written keep log old) ⊎ (log_pages new log.size keep ≡ pages_written keep log old ++ hand_body (log.next / log.size) log.hand) → log_pages new log.size keep ≡ pages_written keep log old
    same (inl is) = is
    same (inr is) = is ∙ ap (λ (h : Option Hand). pages_written keep log old ++ hand_body (log.next / log.size) h) t.in_hand.0 ∙ append-nil (pages_written keep log old)

-- the first pages of the run stay, and it has no commit
torn_tells : (keep : ℕ) (log : LogState) (gone : List UnitName) (runs : List Run) (run : Run) (old : List Byte) (t : Tells keep log gone runs (Some run) old) (front back : List (List ℕ)) (new : LogState) (bytes : List Byte)
    → run_pages run.unit run.told t.in_hand.structures ≡ front ++ back → 0 < length back → new.size ≡ log.size → new.hand ≡ None → IsTied keep new bytes
    → pages_written keep new bytes ≡ t.before ++ lapped log.size (keep + length t.before) front
    → Tells keep new (run.unit ∷ gone) runs None bytes
torn_tells keep log gone runs run old t front back new bytes are some size idle tied written = record {
  tied = tied;
  before = t.before ++ lapped log.size (keep + length t.before) front;
  safe = [];
  pages = written ∙ sym (append-nil (t.before ++ lapped log.size (keep + length t.before) front));
  stand = subst (λ (n : ℕ). Stand n (run.unit ∷ gone) keep runs (t.before ++ lapped log.size (keep + length t.before) front)) (sym size)
      (subst (λ (l : List Run). Stand log.size (run.unit ∷ gone) keep l (t.before ++ lapped log.size (keep + length t.before) front)) (append-nil runs)
      (stand_append log.size (run.unit ∷ gone) keep (keep + length t.before) runs [] t.before (lapped log.size (keep + length t.before) front)
      (stand_more run.unit log.size gone keep runs t.before t.stand) refl
      (front_beside log.size (keep + length t.before) run.unit gone run.told t.in_hand.structures front back t.in_hand.each are some)));
  in_hand = (idle, refl);
  apart = subst (AreApart (run.unit ∷ gone)) (sym (append-nil runs)) (apart_gone gone runs run t.apart);
}

pub cut_tells : (keep : ℕ) (log : LogState) (gone : List UnitName) (runs : List Run) (run : Run) (old new : List Byte)
    → Tells keep log gone runs (Some run) old → IsCutShort keep log old new → IsCutDown keep log gone runs run new
cut_tells keep log gone runs run old new t cut = by cut.pages
  where
    length_now : length (pages_written keep log old) ≡ log.next - keep
    length_now = written_length keep log old t.tied

    without : log_pages new log.size keep ≡ pages_written keep log old → IsCutDown keep log gone runs run new
    without is =
        let not_whole : is_run_whole keep log new ≡ false =
        and_false (is_last log) (is_left_whole keep log new) (test_false (keep + length (log_pages new log.size keep)) (log.next + 1) (omega (arith, ap length is, length_now, t.tied.from))) in
        record {
          whole = λ e. no_both (is_run_whole keep log new) e not_whole;
          torn = λ e. torn_tells keep log gone runs run old t t.in_hand.front t.in_hand.hand.pages (after_cut keep log new) new t.in_hand.pages_are t.in_hand.left refl refl cut.tied
              (cut_written keep log old new cut ∙ is ∙ t.pages ∙ ap (λ (l : List (List ℕ)). t.before ++ l) t.in_hand.safe_are);
        }

    joined_by : (pages : List (List ℕ)) → t.in_hand.hand.pages ≡ pages → log_pages new log.size keep ≡ (t.before ++ t.safe) ++ with_lap (log.next / log.size) (first_body pages) ∷ [] → IsCutDown keep log gone runs run new
    joined_by [] are is = absurd (omega (arith, t.in_hand.left, ap length are))
    joined_by (body ∷ []) are is =
        let left : is_left_whole keep log new ≡ true =
        test_true (keep + length (log_pages new log.size keep)) (log.next + 1)
        (omega (arith, ap length is, length-append (t.before ++ t.safe) (with_lap (log.next / log.size) body ∷ []), ap length t.pages, length_now, t.tied.from)) in
        let last : is_last log ≡ true = last_is log t.in_hand.hand t.in_hand.hand_is ∙ ap (λ (l : List (List ℕ)). length l == 1) are in
        let is_whole : is_run_whole keep log new ≡ true = (λ i. last i && left i) in
        record {
          whole = λ e. run_whole keep log gone runs run old t body (after_cut keep log new) new are refl refl cut.tied (cut_written keep log old new cut ∙ is);
          torn = λ e. no_both (is_run_whole keep log new) is_whole e;
        }
    joined_by (body ∷ next ∷ rest) are is =
        let last : is_last log ≡ false = last_is log t.in_hand.hand t.in_hand.hand_is ∙ many body next rest t.in_hand.hand.pages are in
        let not_whole : is_run_whole keep log new ≡ false = ap (λ (b : Bool). b && is_left_whole keep log new) last in
        record {
          whole = λ e. no_both (is_run_whole keep log new) e not_whole;
          torn = λ e. torn_tells keep log gone runs run old t (t.in_hand.front ++ body ∷ []) (next ∷ rest) (after_cut keep log new) new
              (t.in_hand.pages_are ∙ ap (λ (l : List (List ℕ)). t.in_hand.front ++ l) are ∙ sym (append_assoc t.in_hand.front (body ∷ []) (next ∷ rest))) (omega arith) refl refl cut.tied
              (cut_written keep log old new cut ∙ is ∙ append_assoc t.before t.safe (with_lap (log.next / log.size) body ∷ [])
              ∙ ap (λ (l : List (List ℕ)). t.before ++ l) (one_more keep log gone runs run old t body));
        }

    by : (log_pages new log.size keep ≡ pages_written keep log old) ⊎ (log_pages new log.size keep ≡ pages_written keep log old ++ hand_body (log.next / log.size) log.hand) → IsCutDown keep log gone runs run new
    by (inl is) = without is
    by (inr is) = joined_by t.in_hand.hand.pages refl (is ∙ (λ i. t.pages i ++ body_is log t.in_hand.hand t.in_hand.hand_is i))

-- ---- the records of a log, and readers

pub tells_records : (keep : ℕ) (log : LogState) (gone : List UnitName) (runs : List Run) (bytes : List Byte) → Tells keep log gone runs None bytes → HasRecords keep log gone runs bytes
tells_records keep log gone runs bytes t =
    let x = stand_records log.size gone keep runs t.before t.stand None in
    let pages : t.before ≡ log_pages bytes log.size keep =
    sym (idle_pages keep log bytes t.in_hand.0 t.tied ∙ t.pages ∙ ap (λ (l : List (List ℕ)). t.before ++ l) t.in_hand.1 ∙ append-nil t.before) in
    record {
      records = x.records;
      log_of = record { begun = x.after; joins = subst (λ (l : List (List ℕ)). PagesJoin None l x.records x.after) pages x.joins };
      are = x.are;
    }

pub tells_told : (keep : ℕ) (log : LogState) (gone : List UnitName) (runs : List Run) (bytes : List Byte) (records : List LogRecord)
    → Tells keep log gone runs None bytes → IsLogOf records bytes log.size keep → told_in records ≡ map told_by_run runs
tells_told keep log gone runs bytes records t log_of =
    let x = tells_records keep log gone runs bytes t in
    let same : records ≡ x.records = (same_pages_join None log_of.begun x.log_of.begun (log_pages bytes log.size keep) records x.records log_of.joins x.log_of.joins).0 in
    ap told_in same ∙ told_is gone runs x.records x.are (subst (AreApart gone) (append-nil runs) t.apart)

found : (runs : List Run) (unit : UnitName) (size : ℕ) (gone : List UnitName) (first : ℕ) (stands pages : List (List ℕ)) (records : List LogRecord) (reader : Fed)
    → Stand size gone first runs stands → pages ≡ stands → WasFed pages records reader → is_committed unit reader.commits ≡ has_run unit runs
found runs unit size gone first stands pages records reader stand is fed =
    let x = stand_records size gone first runs stands stand None in
    let same : records ≡ x.records = (same_pages_join None reader.begun x.after stands records x.records (subst (λ (l : List (List ℕ)). PagesJoin None l records reader.begun) is fed.joins) x.joins).0 in
    ap (is_committed unit) fed.commits
    ∙ committed_records unit [] records
    ∙ ap (list_any (commits_unit unit)) same
    ∙ commits_found unit gone runs x.records x.are

pub reader_finds : (keep : ℕ) (log : LogState) (gone : List UnitName) (runs : List Run) (hand : Option Run) (bytes : List Byte) (pages : List (List ℕ)) (records : List LogRecord) (reader : Fed) (unit : UnitName)
    → Tells keep log gone runs hand bytes → pages ≡ pages_written keep log bytes → WasFed pages records reader → is_committed unit reader.commits ≡ has_run unit runs
reader_finds keep log gone runs None bytes pages records reader unit t is fed =
    found runs unit log.size gone keep t.before pages records reader t.stand (is ∙ t.pages ∙ ap (λ (l : List (List ℕ)). t.before ++ l) t.in_hand.1 ∙ append-nil t.before) fed
reader_finds keep log gone runs (Some run) bytes pages records reader unit t is fed =
    found (runs ++ []) unit log.size (run.unit ∷ gone) keep (t.before ++ lapped log.size (keep + length t.before) t.in_hand.front) pages records reader
    (stand_append log.size (run.unit ∷ gone) keep (keep + length t.before) runs [] t.before (lapped log.size (keep + length t.before) t.in_hand.front)
    (stand_more run.unit log.size gone keep runs t.before t.stand) refl
    (front_beside log.size (keep + length t.before) run.unit gone run.told t.in_hand.structures t.in_hand.front t.in_hand.hand.pages t.in_hand.each t.in_hand.pages_are t.in_hand.left))
    (is ∙ t.pages ∙ ap (λ (l : List (List ℕ)). t.before ++ l) t.in_hand.safe_are) fed
    ∙ ap (has_run unit) (append-nil runs)
