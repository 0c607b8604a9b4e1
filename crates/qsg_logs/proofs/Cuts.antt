-- where the writer of a log goes on after a power cut
use Rattle.std.proofs.Common.{◌≡◌, ◌⊎◌, inl, inr, ℕ, ◌+◌, ◌/◌, ◌≤◌, Bool, true, false, List, ◌++◌, length, Option, Some, None, refl, sym, ap, subst, ◌∙◌, arith}
use Rattle.std.proofs.lemmas.List.{length-append}
use Rattle.qsg_disk.specs.Byte.{Byte}
use Rattle.qsg_logpage.specs.Log.{Hand, LogState, hand_body, IsTied, IsCutShort, pages_written}
use Rattle.qsg_logpage.specs.Page.{log_pages}
use Rattle.qsg_logpage.proofs.Totals.{pages_le_total}
use Rattle.qsg_unitlog.specs.Tells.{after_cut, is_left_whole}
use Rattle.qsg_unitlog.proofs.Steps.{written_length, test_true, test_false}
use Rattle.qsg_logs.specs.Writers.{idle_writer, IsRunReserved, IsWithin}
use Rattle.qsg_logs.specs.Kept.{KeptLog}
use Rattle.qsg_logs.specs.Cuts.{IsCut, next_behind, restarted}

-- a page in hand has a number left behind it
pub behind_fits : (left : Bool) (writer : LogState) → (writer.hand ≡ None → left ≡ false) → IsWithin writer → next_behind left writer.next ≤ 4290000000
behind_fits false writer idle within = omega (arith, within.numbers)
behind_fits true writer idle within = by writer.hand refl within.run
  where
    not_left : {A : Type 0} → true ≡ false → A
    not_left e = cc

    by : (hand : Option Hand) → writer.hand ≡ hand → IsRunReserved writer.reserved hand → writer.next + 1 ≤ 4290000000
    by None is run = not_left (idle is)
    by (Some hand) is run = omega (arith, run.0, run.1, pages_le_total hand.unit writer.reserved, within.numbers)

pub cut_of : (left tells : Bool) (v old new : KeptLog) (bytes : List Byte) (faults extent next : ℕ) → v ≡ old → new ≡ restarted next (record v { tells = tells; bytes = bytes; faults = faults; extent = extent })
    → tells ≡ v.tells → extent ≡ v.extent → v.faults ≤ faults → next ≡ next_behind left v.writer.next
    → (v.writer.hand ≡ None → left ≡ false)
    → (v.tells ≡ true → (keep : ℕ) → IsTied keep v.writer v.bytes → IsCutShort keep v.writer v.bytes bytes)
    → (v.tells ≡ true → (keep : ℕ) → IsTied keep v.writer v.bytes → left ≡ is_left_whole keep v.writer bytes)
    → IsCut left old new
cut_of left tells v old new bytes faults extent next same new_is told size later next_is idle cut whole =
    subst (λ (l : KeptLog). IsCut left l new) same
    (subst (λ (l : KeptLog). IsCut left v l) (sym new_is) (record {
      tells = told;
      extent = size;
      faults = later;
      fillings = refl;
      writer = ap (idle_writer v.writer.size) next_is;
      idle = idle;
      cut = cut;
      whole = whole;
    }))

-- ---- the log goes on behind its pages

hand_length : (lap : ℕ) (hand : Option Hand) → (length (hand_body lap hand) ≡ 0) ⊎ (length (hand_body lap hand) ≡ 1)
hand_length lap None = inl refl
hand_length lap (Some hand) = inr refl

pub goes_on : (left : Bool) (old new : KeptLog) (keep : ℕ) → IsCut left old new → old.tells ≡ true → IsTied keep old.writer old.bytes → new.writer ≡ after_cut keep old.writer new.bytes
goes_on left old new keep cut told tied = cut.writer ∙ ap (idle_writer old.writer.size) (by left (cut.whole told keep tied) (ends (cut.cut told keep tied).pages))
  where
    ends : (log_pages new.bytes old.writer.size keep ≡ pages_written keep old.writer old.bytes) ⊎ (log_pages new.bytes old.writer.size keep ≡ pages_written keep old.writer old.bytes ++ hand_body (old.writer.next / old.writer.size) old.writer.hand)
        → (keep + length (log_pages new.bytes old.writer.size keep) ≡ old.writer.next) ⊎ (keep + length (log_pages new.bytes old.writer.size keep) ≡ old.writer.next + 1)
    ends (inl is) = inl (omega (arith, ap length is, written_length keep old.writer old.bytes tied, tied.from))
    ends (inr is) =
        one (hand_length (old.writer.next / old.writer.size) old.writer.hand) (ap length is ∙ length-append (pages_written keep old.writer old.bytes) (hand_body (old.writer.next / old.writer.size) old.writer.hand))
      where
        one : (length (hand_body (old.writer.next / old.writer.size) old.writer.hand) ≡ 0) ⊎ (length (hand_body (old.writer.next / old.writer.size) old.writer.hand) ≡ 1)
            → length (log_pages new.bytes old.writer.size keep) ≡ length (pages_written keep old.writer old.bytes) + length (hand_body (old.writer.next / old.writer.size) old.writer.hand)
            → (keep + length (log_pages new.bytes old.writer.size keep) ≡ old.writer.next) ⊎ (keep + length (log_pages new.bytes old.writer.size keep) ≡ old.writer.next + 1)
        one (inl none) long = inl (omega (arith, none, long, written_length keep old.writer old.bytes tied, tied.from))
        one (inr some) long = inr (omega (arith, some, long, written_length keep old.writer old.bytes tied, tied.from))

    by : (l : Bool) → l ≡ is_left_whole keep old.writer new.bytes
        → (keep + length (log_pages new.bytes old.writer.size keep) ≡ old.writer.next) ⊎ (keep + length (log_pages new.bytes old.writer.size keep) ≡ old.writer.next + 1)
        → next_behind l old.writer.next ≡ keep + length (log_pages new.bytes old.writer.size keep)
    by l whole (inl same) = ap (λ (b : Bool). next_behind b old.writer.next) (whole ∙ test_false (keep + length (log_pages new.bytes old.writer.size keep)) (old.writer.next + 1) (omega (arith, same))) ∙ sym same
    by l whole (inr more) = ap (λ (b : Bool). next_behind b old.writer.next) (whole ∙ test_true (keep + length (log_pages new.bytes old.writer.size keep)) (old.writer.next + 1) more) ∙ sym more

pub stays_tied : (left : Bool) (old new : KeptLog) (keep : ℕ) → IsCut left old new → old.tells ≡ true → IsTied keep old.writer old.bytes → IsTied keep new.writer new.bytes
stays_tied left old new keep cut told tied = subst (λ (w : LogState). IsTied keep w new.bytes) (sym (goes_on left old new keep cut told tied)) (cut.cut told keep tied).tied
