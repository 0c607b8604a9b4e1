-- the page that a step makes safe
use Rattle.std.proofs.Common.{◌≡◌, ℕ, ◌+◌, ◌-◌, ◌/◌, ◌<◌, ◌≤◌, List, [], ◌∷◌, ◌++◌, Option, Some, None, true, sym, ap, subst, ◌∙◌, arith}
use Rattle.std.proofs.lemmas.List.{append-nil}
use Rattle.qsg_disk.specs.Byte.{Byte}
use Rattle.qsg_logpage.specs.declared.step.Phase.{Phase}
use Rattle.qsg_logpage.specs.declared.step.Phase.TheVariants.{Fresh, GateShut, ShutSafe, BodyWritten, BodySafe, GateWritten}
use Rattle.qsg_logpage.specs.Page.{page_at, with_lap, is_safely_open, open_pages, IsWhole}
use Rattle.qsg_logpage.specs.Log.{Hand, LogState, first_body, IsTied, AreWhole, advanced, advanced_by, made_by, made_safe, pages_written}
use Rattle.qsg_logpage.proofs.Cuts.{same_pages, open_here, pages_split, whole_open, whole_body}
use Rattle.qsg_logpage.proofs.Steps.{IsInHand}

pub made_is : (log : LogState) (hand : Hand) (phase : Phase) → IsInHand log hand phase → made_safe log ≡ made_by log hand phase
made_is log hand phase here = at_hand log.hand here.hand_is ∙ ap (made_by log hand) here.phase_is
  where
    at_hand : (h : Option Hand) → h ≡ Some hand → (elim h [ None ↦ [] | Some hand ↦ made_by log hand hand.phase ]) ≡ made_by log hand hand.phase
    at_hand h is = ap (λ (h : Option Hand). elim h [ None ↦ [] | Some hand ↦ made_by log hand hand.phase ]) is

pub whole_as : (log : LogState) (hand : Hand) (phase : Phase) (page : List Byte) → IsInHand log hand phase → AreWhole (log.next / log.size) (made_by log hand phase) page → AreWhole (log.next / log.size) (made_safe log) page
whole_as log hand phase page here are = subst (λ (bodies : List (List ℕ)). AreWhole (log.next / log.size) bodies page) (sym (made_is log hand phase here)) are

module _ (keep : ℕ) (log : LogState) (old new : List Byte) (tied : IsTied keep log old) (same : (k : ℕ) → keep ≤ k → k < log.next → page_at new log.size k ≡ page_at old log.size k) where
  before : pages_written keep log new ≡ pages_written keep log old
  before = same_pages log.size old new keep (log.next - keep) (λ k above less. same k above (omega (arith, tied.from)))

  opens : (k : ℕ) → keep ≤ k → k < keep + (log.next - keep) → is_safely_open (k / log.size) (page_at new log.size k) ≡ true
  opens k above less =
      let s = tied.stands k above (omega (arith, tied.from)) in
      ap (is_safely_open (k / log.size)) (same k above (omega (arith, tied.from))) ∙ whole_open (k / log.size) s.body (page_at old log.size k) s.whole

  none_more : pages_written keep log new ≡ pages_written keep log old ++ []
  none_more = before ∙ sym (append-nil (pages_written keep log old))

  one_more : (body : List ℕ) → IsWhole (log.next / log.size) body (page_at new log.size log.next) → open_pages new log.size keep (log.next + 1 - keep) ≡ pages_written keep log old ++ body ∷ []
  one_more body whole =
      ap (open_pages new log.size keep) count
      ∙ pages_split log.size new keep (log.next - keep) 1 opens
      ∙ (λ i. before i ++ open_pages new log.size (at i) 1)
      ∙ ap (λ (l : List (List ℕ)). pages_written keep log old ++ l) (open_here log.size new log.next 0 (whole_open (log.next / log.size) body _ whole) ∙ ap (λ (b : List ℕ). b ∷ []) (whole_body (log.next / log.size) body (page_at new log.size log.next) whole))
    where
      count : log.next + 1 - keep ≡ log.next - keep + 1
      count = omega (arith, tied.from)

      at : keep + (log.next - keep) ≡ log.next
      at = omega (arith, tied.from)

  by_phase : (hand : Hand) (phase : Phase) → AreWhole (log.next / log.size) (made_by log hand phase) (page_at new log.size log.next) → pages_written keep (advanced_by log hand phase) new ≡ pages_written keep log old ++ made_by log hand phase
  by_phase hand Fresh are = none_more
  by_phase hand GateShut are = none_more
  by_phase hand ShutSafe are = none_more
  by_phase hand BodyWritten are = none_more
  by_phase hand BodySafe are = none_more
  by_phase hand GateWritten are = one_more (with_lap (log.next / log.size) (first_body hand.pages)) are

  pub pages_made : AreWhole (log.next / log.size) (made_safe log) (page_at new log.size log.next) → pages_written keep (advanced log) new ≡ pages_written keep log old ++ made_safe log
  pages_made are = at_hand log.hand are
    where
      at_hand : (h : Option Hand) → AreWhole (log.next / log.size) (elim h [ None ↦ [] | Some hand ↦ made_by log hand hand.phase ]) (page_at new log.size log.next)
          → pages_written keep (elim h as (λ _. LogState) [ None ↦ log | Some hand ↦ advanced_by log hand hand.phase ]) new ≡ pages_written keep log old ++ (elim h [ None ↦ [] | Some hand ↦ made_by log hand hand.phase ])
      at_hand None are = none_more
      at_hand (Some hand) are = by_phase hand hand.phase are
