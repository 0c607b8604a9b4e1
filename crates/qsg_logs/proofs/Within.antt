-- what calls leave of a writer, and of what each log keeps
use Rattle.std.proofs.Common.{◌≡◌, ℕ, zero, suc, ◌+◌, ◌-◌, ◌*◌, ◌<◌, ◌≤◌, List, [], ◌∷◌, length, Bool, true, false, Option, Some, None, Result, Ok, Err, refl, sym, ap, subst, ◌∙◌, cond, arith, inl, inr}
use Rattle.std.specs.Prelude.{OnOk, OnErr, nat_lt, is_ok, slice_set, ◌/◌, ◌==◌}
use Rattle.std.specs.List.{AllByRecursion}
use Rattle.std.proofs.lemmas.Bool.Decides.{nat_tests}
use Rattle.std.proofs.lemmas.Option.{same_Some}
use Rattle.std.proofs.lemmas.Bool.{cases_lt}
use Rattle.std.proofs.lemmas.List.Sums.{sum_by-cons}
use Rattle.qsg_num.specs.declared.ids.UnitName.{UnitName}
use Rattle.qsg_num.specs.Ids.{same_unit}
use Rattle.qsg_disk.specs.Byte.{Byte}
use Rattle.qsg_logpage.specs.declared.table.Reservation.{Reservation}
use Rattle.qsg_logpage.specs.declared.step.Phase.{Phase}
use Rattle.qsg_logpage.specs.declared.step.Phase.TheVariants.{Fresh, GateShut, ShutSafe, BodyWritten, BodySafe, GateWritten}
use Rattle.qsg_logpage.specs.declared.step.LogStep.{LogStep}
use Rattle.qsg_logpage.specs.declared.step.LogStep.TheVariants as s
use Rattle.qsg_logpage.specs.declared.writer.NoLog.{NoLog}
use Rattle.qsg_logpage.specs.Reserved.{is_other, besides, total, pages_of, pages_for, lowered}
use Rattle.qsg_logpage.specs.Log.{Hand, LogState, IsTied, has_run, free, advanced, advanced_by, after_page, step_of, step_at}
use Rattle.qsg_logpage.specs.Page.{page_at}
use Rattle.qsg_logpage.proofs.Fields.{advanced-size}
use Rattle.qsg_logpage.proofs.Totals.{pages_le_total, total-besides-le, total-push, total-lowered, pages_for-lowered, pages_for-set, pages_for-besides}
use Rattle.qsg_logneed.specs.declared.counting.Filling.{Filling}
use Rattle.qsg_logneed.proofs.Places.{fits_is, over_is}
use Rattle.qsg_logs.specs.Writers.{reserved, released, begun, reserve_answer, next_after, IsRunReserved, IsWithin}
use Rattle.qsg_logs.specs.Kept.{KeptLog, with_commit, IsKept}

-- ---- what is reserved

run_kept : (unit : UnitName) (rs after : List Reservation) (hand : Option Hand) → elim hand [ None ↦ false | Some h ↦ same_unit h.unit unit ] ≡ false
    → ((u : UnitName) → same_unit u unit ≡ false → pages_for u after ≡ pages_for u rs) → IsRunReserved rs hand → IsRunReserved after hand
run_kept unit rs after None idle same run = tt
run_kept unit rs after (Some hand) idle same run = (run.0, omega (arith, run.1, same hand.unit idle))

pub within_reserved : (writer : LogState) (unit : UnitName) (need keep : ℕ) → has_run unit writer ≡ false → nat_lt (free unit keep writer) need ≡ false → IsWithin writer → IsWithin (reserved unit need writer)
within_reserved writer unit need keep idle fits within =
    let sum = total-push (besides unit writer.reserved) (record { unit = unit; pages = need }) in
    let fewer = total-besides-le unit writer.reserved in
    let enough : need ≤ free unit keep writer = not_less (free unit keep writer) need fits in
    record {
      some = within.some;
      small = within.small;
      pages = omega (arith, sum, fewer, enough, within.pages);
      numbers = omega (arith, sum, fewer, enough, within.numbers);
      run = run_kept unit writer.reserved _ writer.hand idle (λ u apart. pages_for-set u unit need writer.reserved apart) within.run;
    }
  where
    not_less : (a b : ℕ) → nat_lt a b ≡ false → b ≤ a
    not_less a b fails = grind (arith, nat_tests)

pub within_released : (writer : LogState) (unit : UnitName) → has_run unit writer ≡ false → IsWithin writer → IsWithin (released unit writer)
within_released writer unit idle within =
    let fewer = total-besides-le unit writer.reserved in
    record {
      some = within.some;
      small = within.small;
      pages = omega (arith, fewer, within.pages);
      numbers = omega (arith, fewer, within.numbers);
      run = run_kept unit writer.reserved _ writer.hand idle (λ u apart. pages_for-besides u unit writer.reserved apart) within.run;
    }

pub within_begun : (writer : LogState) (unit : UnitName) (run : List (List ℕ)) → 0 < length run → length run ≤ pages_for unit writer.reserved → IsWithin writer → IsWithin (begun unit run writer)
within_begun writer unit run some fits within = record { some = within.some; small = within.small; pages = within.pages; numbers = within.numbers; run = (some, fits) }

-- ---- a step

rest_kept : (hand : Hand) (pages : List (List ℕ)) (rs : List Reservation) → length pages ≤ pages_for hand.unit rs → IsRunReserved (lowered hand.unit rs) (after_page hand pages)
rest_kept hand [] rs fits = tt
rest_kept hand (body ∷ []) rs fits = tt
rest_kept hand (body ∷ next ∷ pages) rs fits = (omega arith, omega (arith, fits, pages_for-lowered hand.unit rs))

stepped : (writer : LogState) (hand : Hand) (phase : Phase) → IsWithin writer → 0 < length hand.pages → length hand.pages ≤ pages_for hand.unit writer.reserved → IsWithin (advanced_by writer hand phase)
stepped writer hand Fresh within some fits = record { some = within.some; small = within.small; pages = within.pages; numbers = within.numbers; run = (some, fits) }
stepped writer hand GateShut within some fits = record { some = within.some; small = within.small; pages = within.pages; numbers = within.numbers; run = (some, fits) }
stepped writer hand ShutSafe within some fits = record { some = within.some; small = within.small; pages = within.pages; numbers = within.numbers; run = (some, fits) }
stepped writer hand BodyWritten within some fits = record { some = within.some; small = within.small; pages = within.pages; numbers = within.numbers; run = (some, fits) }
stepped writer hand BodySafe within some fits = record { some = within.some; small = within.small; pages = within.pages; numbers = within.numbers; run = (some, fits) }
stepped writer hand GateWritten within some fits =
    let less = total-lowered hand.unit writer.reserved (omega (arith, some, fits)) in
    record {
      some = within.some;
      small = within.small;
      pages = omega (arith, less, within.pages);
      numbers = omega (arith, less, within.numbers);
      run = rest_kept hand hand.pages writer.reserved fits;
    }

pub within_advanced : (writer : LogState) → IsWithin writer → IsWithin (advanced writer)
within_advanced writer within = by writer.hand refl within.run
  where
    by : (hand : Option Hand) → writer.hand ≡ hand → IsRunReserved writer.reserved hand → IsWithin (elim hand [ None ↦ writer | Some h ↦ advanced_by writer h h.phase ])
    by None is run = within
    by (Some hand) is run = stepped writer hand hand.phase within run.0 run.1

-- ---- pages

pub reserved_fits : (log : KeptLog) (u : UnitName) → IsWithin log.writer → pages_for u log.writer.reserved ≤ log.writer.size
reserved_fits log u within = omega (arith, pages_le_total u log.writer.reserved, within.pages)

-- a commit never lowers the pages
pub commit_behind : (f : Filling) → f.pages ≤ with_commit f
commit_behind f = elim (cases_lt (f.left - 3) 11) [
  | inl over ↦ (let a = over_is f 11 over in omega (arith, a.few_left, a.total, over))
  | inr fits ↦ omega (arith, ap (λ (g : Filling). g.pages) (fits_is f 11 (omega arith) fits))
]

-- ---- the device

-- what a log keeps doesn't speak of what is reserved
pub tied_fewer : (keep : ℕ) (writer : LogState) (rs : List Reservation) (bytes : List Byte) → total rs ≤ total writer.reserved → IsTied keep writer bytes → IsTied keep (record writer { reserved = rs }) bytes
tied_fewer keep writer rs bytes fewer tied = record {
  from = tied.from;
  room = omega (arith, fewer, tied.room);
  stands = tied.stands;
  at_next = tied.at_next;
  later = tied.later;
}

-- ---- what each log keeps

pub kept_with : (extent : ℕ) (writer after : LogState) (fillings : List Filling) → after.size ≡ writer.size → IsWithin after → IsKept extent writer fillings → IsKept extent after fillings
kept_with extent writer after fillings same within kept = record {
  extent_is = kept.extent_is ∙ ap (λ n. 4096 * n) (sym same);
  five = kept.five;
  fillings_fit = subst (λ n. AllByRecursion (λ (f : Filling). f.pages ≤ n) fillings) (sym same) kept.fillings_fit;
  within = within;
}

-- ---- answers of calls

on_ok : {T E : Type 0} (r : Result T E) (P : Type 0) → is_ok r ≡ true → OnOk r P → P
on_ok (Ok t) P done holds = holds
on_ok (Err e) P done holds = absurd (cc)

pub kept_answer : (extent next : ℕ) (writer after : LogState) (fillings : List Filling) (unit : UnitName) (need keep : ℕ) (r : Result (Unit {0}) NoLog) → has_run unit writer ≡ false
    → r ≡ reserve_answer unit need keep writer → OnOk r (after ≡ reserved unit need writer) → OnErr r (after ≡ writer)
    → (next ≡ writer.next) × IsKept extent writer fillings → (next ≡ after.next) × IsKept extent after fillings
kept_answer extent next writer after fillings unit need keep r idle is done stays kept = by (nat_lt (free unit keep writer) need) refl is done stays
  where
    Goal : LogState → Type 0
    Goal w = (next ≡ w.next) × IsKept extent w fillings

    by : (b : Bool) → nat_lt (free unit keep writer) need ≡ b → r ≡ cond b (Err (record { need = need; free = free unit keep writer })) (Ok tt)
        → OnOk r (after ≡ reserved unit need writer) → OnErr r (after ≡ writer) → Goal after
    by true less is done stays = subst Goal (sym (subst (λ (x : Result (Unit {0}) NoLog). OnErr x (after ≡ writer)) is stays)) kept
    by false less is done stays =
        subst Goal (sym (subst (λ (x : Result (Unit {0}) NoLog). OnOk x (after ≡ reserved unit need writer)) is done))
        (kept.0, kept_with extent writer (reserved unit need writer) fillings refl (within_reserved writer unit need keep idle less kept.1.within) kept.1)

pub kept_released : (extent next : ℕ) (writer after : LogState) (fillings : List Filling) (unit : UnitName) → has_run unit writer ≡ false → after ≡ released unit writer
    → (next ≡ writer.next) × IsKept extent writer fillings → (next ≡ after.next) × IsKept extent after fillings
kept_released extent next writer after fillings unit idle is kept =
    subst (λ (w : LogState). (next ≡ w.next) × IsKept extent w fillings) (sym is)
    (kept.0, kept_with extent writer (released unit writer) fillings refl (within_released writer unit idle kept.1.within) kept.1)

length-set : {A : Type 0} (xs : List A) (k : ℕ) (x : A) → length (slice_set xs k x) ≡ length xs
length-set [] k x = refl
length-set (y ∷ xs) zero x = refl
length-set (y ∷ xs) (suc k) x = ap suc (length-set xs k x)

all_set : {A : Type 0} (P : A → Type 0) (xs : List A) (k : ℕ) (x : A) → P x → AllByRecursion P xs → AllByRecursion P (slice_set xs k x)
all_set P [] k x holds all = tt
all_set P (y ∷ xs) zero x holds all = (holds, all.1)
all_set P (y ∷ xs) (suc k) x holds all = (all.0, all_set P xs k x holds all.1)

pub kept_filling : (extent : ℕ) (writer : LogState) (fillings : List Filling) (k : ℕ) (filling : Filling) → filling.pages ≤ writer.size → IsKept extent writer fillings → IsKept extent writer (slice_set fillings k filling)
kept_filling extent writer fillings k filling fits kept = record {
  extent_is = kept.extent_is;
  five = length-set fillings k filling ∙ kept.five;
  fillings_fit = all_set (λ (f : Filling). f.pages ≤ writer.size) fillings k filling fits kept.fillings_fit;
  within = kept.within;
}

total-cons : (r : Reservation) (rs : List Reservation) → total (r ∷ rs) ≡ r.pages + total rs
total-cons r rs = sum_by-cons pages_of r rs

others_and_own : (unit : UnitName) (rs : List Reservation) → total (besides unit rs) + pages_for unit rs ≤ total rs
others_and_own unit [] = omega arith
others_and_own unit (r ∷ rs) = by (is_other unit r) (others_and_own unit rs)
  where
    by : (b : Bool) → total (besides unit rs) + pages_for unit rs ≤ total rs → total (cond b (r ∷ besides unit rs) (besides unit rs)) + cond b (pages_for unit rs) r.pages ≤ total (r ∷ rs)
    by true more = omega (arith, more, total-cons r rs, total-cons r (besides unit rs))
    by false more = omega (arith, more, total-cons r rs, total-besides-le unit rs)

-- what a unit has reserved, or less, is free for it
free_for_less : (writer : LogState) (unit : UnitName) (need : ℕ) → IsWithin writer → need ≤ pages_for unit writer.reserved → nat_lt (free unit writer.next writer) need ≡ false
free_for_less writer unit need within less =
    enough (free unit writer.next writer) need
    (omega (arith, others_and_own unit writer.reserved, within.pages, within.numbers, less))
  where
    enough : (a b : ℕ) → b ≤ a → nat_lt a b ≡ false
    enough a b le = grind (arith, nat_tests)

pub no_refusal : (writer : LogState) (unit : UnitName) (need next : ℕ) (r : Result (Unit {0}) NoLog) → IsWithin writer → next ≡ writer.next → need ≤ pages_for unit writer.reserved → r ≡ reserve_answer unit need next writer → is_ok r ≡ true
no_refusal writer unit need next r within is less answer = by next is answer
  where
    by : (n : ℕ) → n ≡ writer.next → r ≡ reserve_answer unit need n writer → is_ok r ≡ true
    by n is answer = ap is_ok (answer ∙ ap (λ (k : ℕ). reserve_answer unit need k writer) is ∙ ap (λ (b : Bool). cond b (Err (record { need = need; free = free unit writer.next writer })) (Ok tt)) (free_for_less writer unit need within less))

pub tied_reserved_less : (writer after : LogState) (unit : UnitName) (need : ℕ) (r : Result (Unit {0}) NoLog) → is_ok r ≡ true → OnOk r (after ≡ reserved unit need writer) → need ≤ pages_for unit writer.reserved
    → (keep : ℕ) (bytes : List Byte) → IsTied keep writer bytes → IsTied keep after bytes
tied_reserved_less writer after unit need r ok done less keep bytes tied =
    subst (λ (w : LogState). IsTied keep w bytes) (sym (on_ok r (after ≡ reserved unit need writer) ok done))
    (tied_fewer keep writer _ bytes (omega (arith, total-push (besides unit writer.reserved) (record { unit = unit; pages = need }), others_and_own unit writer.reserved, less)) tied)

next_advanced : (writer : LogState) (hand : Hand) (phase : Phase) (step : LogStep) (next : ℕ) → next ≡ writer.next → Some (step_at writer phase) ≡ Some step → next_after step next ≡ (advanced_by writer hand phase).next
next_advanced writer hand Fresh step next is step_is = ap (λ (s : LogStep). next_after s next) (sym (same_Some _ _ step_is)) ∙ by (writer.next / writer.size == 0) ∙ is
  where
    by : (b : Bool) → next_after (cond b s.BodyWritten s.GateShut) next ≡ next
    by true = refl
    by false = refl
next_advanced writer hand GateShut step next is step_is = ap (λ (s : LogStep). next_after s next) (sym (same_Some _ _ step_is)) ∙ is
next_advanced writer hand ShutSafe step next is step_is = ap (λ (s : LogStep). next_after s next) (sym (same_Some _ _ step_is)) ∙ is
next_advanced writer hand BodyWritten step next is step_is = ap (λ (s : LogStep). next_after s next) (sym (same_Some _ _ step_is)) ∙ is
next_advanced writer hand BodySafe step next is step_is = ap (λ (s : LogStep). next_after s next) (sym (same_Some _ _ step_is)) ∙ is
next_advanced writer hand GateWritten step next is step_is = ap (λ (s : LogStep). next_after s next) (sym (same_Some _ _ step_is))

next_stepped : (writer : LogState) (step : LogStep) (next : ℕ) → next ≡ writer.next → step_of writer ≡ Some step → next_after step next ≡ (advanced writer).next
next_stepped writer step next is step_is = by writer.hand step_is
  where
    by : (hand : Option Hand) → step_of (record writer { hand = hand }) ≡ Some step → next_after step next ≡ (advanced (record writer { hand = hand })).next
    by None none = absurd (cc)
    by (Some hand) is_step = next_advanced (record writer { hand = Some hand }) hand hand.phase step next is is_step

pub kept_step : (extent extent_after next : ℕ) (writer after : LogState) (fillings : List Filling) (step : LogStep) (number : ℕ) → extent_after ≡ extent → after ≡ advanced writer → step_of writer ≡ Some step → number ≡ next_after step next
    → (next ≡ writer.next) × IsKept extent writer fillings → (number ≡ after.next) × IsKept extent_after after fillings
kept_step extent extent_after next writer after fillings step number same is step_is number_is kept =
    subst (λ (w : LogState). (number ≡ w.next) × IsKept extent_after w fillings) (sym is) (
      number_is ∙ next_stepped writer step next kept.0 step_is,
      subst (λ (e : ℕ). IsKept e (advanced writer) fillings) (sym same) (kept_with extent writer (advanced writer) fillings (advanced-size writer) (within_advanced writer kept.1.within) kept.1),
    )

-- ---- a log seen whole

pub tied_step : (tells : Bool) (writer : LogState) (bytes : List Byte) (log : KeptLog) (after : LogState) (made : List Byte) → tells ≡ log.tells → writer ≡ log.writer → bytes ≡ log.bytes
    → (tells ≡ true → (keep : ℕ) → IsTied keep writer bytes → IsTied keep after made) → log.tells ≡ true → (keep : ℕ) → IsTied keep log.writer log.bytes → IsTied keep after made
tied_step tells writer bytes log after made same_tells same_writer same_bytes leaves told keep tied =
    leaves (same_tells ∙ told) keep (subst (λ (w : LogState). IsTied keep w bytes) (sym same_writer) (subst (λ (b : List Byte). IsTied keep log.writer b) (sym same_bytes) tied))

pub earlier_step : (tells : Bool) (writer : LogState) (bytes : List Byte) (log : KeptLog) (made : List Byte) → tells ≡ log.tells → writer ≡ log.writer → bytes ≡ log.bytes
    → (tells ≡ true → (keep : ℕ) → IsTied keep writer bytes → (k : ℕ) → keep ≤ k → k < writer.next → page_at made writer.size k ≡ page_at bytes writer.size k)
    → log.tells ≡ true → (keep : ℕ) → IsTied keep log.writer log.bytes → (k : ℕ) → keep ≤ k → k < log.writer.next → page_at made log.writer.size k ≡ page_at log.bytes log.writer.size k
earlier_step tells writer bytes log made same_tells same_writer same_bytes stays told keep tied k from before =
    let here = stays (same_tells ∙ told) keep (subst (λ (w : LogState). IsTied keep w bytes) (sym same_writer) (subst (λ (b : List Byte). IsTied keep log.writer b) (sym same_bytes) tied)) k from
    (subst (λ (w : LogState). k < w.next) (sym same_writer) before) in
    subst (λ (w : LogState). page_at made w.size k ≡ page_at log.bytes w.size k) same_writer (here ∙ ap (λ (b : List Byte). page_at b writer.size k) same_bytes)
