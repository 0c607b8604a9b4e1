-- a page in hand whose gate is written is read as one that is whole
use Rattle.std.proofs.Common.{◌≡◌, inl, inr, ℕ, zero, suc, ◌+◌, ◌/◌, ◌%◌, ◌<◌, ◌≤◌, List, [], ◌∷◌, ◌++◌, length, map, Option, None, Some, Result, Ok, refl, sym, ap, subst, ◌∙◌, arith}
use Rattle.std.specs.Prelude.{slice_index_or}
use Rattle.std.proofs.lemmas.List.{length-map}
use Rattle.qsg_disk.specs.Byte.{Byte, values, synced, IsKeptOrSynced, EachPair}
use Rattle.qsg_logpage.specs.declared.step.Phase.TheVariants.{GateWritten}
use Rattle.qsg_logpage.specs.Page.{page_at, page_read, IsAbsent}
use Rattle.qsg_logpage.specs.Reserved.{pages_for}
use Rattle.qsg_logpage.specs.Log.{Hand, LogState, IsTied, AtNext, advanced, advanced_by, after_page, made_safe, pages_written}
use Rattle.qsg_logpage.proofs.Steps.{IsInHand, page_synced, advanced_is, gate_whole, gate_synced}
use Rattle.qsg_logpage.proofs.Made.{whole_as, pages_made}
use Rattle.qsg_walk.specs.Walks.{Walk}
use Rattle.qsg_walk.specs.Following.{read_at, Follows, HasReadAll}
use Rattle.qsg_walk.proofs.Reading.{read_same, read_absent}
use Rattle.qsg_walk.proofs.Walking.{ended}

-- ---- a sync leaves values

values_synced : (bs : List Byte) → values (map synced bs) ≡ values bs
values_synced [] = refl
values_synced (b ∷ bs) = ap (λ (l : List ℕ). b.value ∷ l) (values_synced bs)

page_values : (size number : ℕ) (bytes : List Byte) → values (page_at (map synced bytes) size number) ≡ values (page_at bytes size number)
page_values size number bytes = ap values (page_synced bytes (map synced bytes) (number % size) refl) ∙ values_synced (page_at bytes size number)

same_at : (size number : ℕ) (bytes : List Byte) → read_at (map synced bytes) size number ≡ read_at bytes size number
same_at size number bytes = ap (page_read (number / size)) (page_values size number bytes)

synced_at : (bs : List Byte) (k : ℕ) (d : Byte) → k < length bs → slice_index_or (map synced bs) k d ≡ synced (slice_index_or bs k d)
synced_at [] k d less = absurd (omega (arith, less))
synced_at (b ∷ bs) zero d less = refl
synced_at (b ∷ bs) (suc k) d less = synced_at bs k d (omega (arith, less))

all_synced : (bytes : List Byte) → EachPair IsKeptOrSynced bytes (map synced bytes)
all_synced bytes = record { same_length = length-map bytes synced; at = λ k d less. inr (synced_at bytes k d less) }

follows_synced : (first size : ℕ) (bytes : List Byte) (w : Walk) → Follows first size bytes w → Follows first size (map synced bytes) w
follows_synced first size bytes w follows = record {
  pages = follows.pages;
  records = follows.records;
  fed = follows.fed;
  all = follows.all;
  all_are = follows.all_are;
  read = read_same bytes (map synced bytes) size first (length follows.all) (λ k from to. page_values size k bytes) ∙ follows.read;
  next = follows.next;
  few = follows.few;
  left = elim follows.left [ inl e ↦ inl e | inr z ↦ inr (z.0, z.1, same_at size (first + length follows.all) bytes ∙ z.2) ];
}

-- ---- the page in hand

fresh_absent : (hand : Hand) (pages : List (List ℕ)) (lap : ℕ) (page : List Byte) → AtNext lap (after_page hand pages) page → IsAbsent lap page
fresh_absent hand [] lap page is = is
fresh_absent hand (body ∷ []) lap page is = is
fresh_absent hand (body ∷ next ∷ pages) lap page is = is

module _ (first : ℕ) (log : LogState) (hand : Hand) (bytes : List Byte) (hand_is : log.hand ≡ Some hand) (phase : hand.phase ≡ GateWritten) (hold : 1 ≤ pages_for hand.unit log.reserved) (tied : IsTied first log bytes) where
  here : IsInHand log hand GateWritten
  here = record { hand_is = hand_is; phase_is = phase; hold = hold }

  abbrev answer : Result (Unit {0}) (Unit {0})
  answer = Ok tt

  pub ahead_tied : IsTied first (advanced log) (map synced bytes)
  ahead_tied = (gate_synced first log hand bytes (map synced bytes) answer tied here (all_synced bytes) refl).done

  pub ahead_pages : pages_written first (advanced log) (map synced bytes) ≡ pages_written first log bytes ++ made_safe log
  ahead_pages =
      pages_made first log bytes (map synced bytes) tied (gate_synced first log hand bytes (map synced bytes) answer tied here (all_synced bytes) refl).earlier
      (whole_as log hand GateWritten (page_at (map synced bytes) log.size log.next) here (gate_whole first log hand bytes (map synced bytes) answer tied here refl))

  ahead_is : advanced log ≡ advanced_by log hand GateWritten
  ahead_is = advanced_is log hand GateWritten here

  unread : read_at (map synced bytes) (advanced log).size (advanced log).next ≡ None
  unread = read_absent ((advanced log).next / (advanced log).size) (page_at (map synced bytes) (advanced log).size (advanced log).next)
      (fresh_absent hand hand.pages ((advanced log).next / (advanced log).size) (page_at (map synced bytes) (advanced log).size (advanced log).next)
      (subst (λ (h : Option Hand). AtNext ((advanced log).next / (advanced log).size) h (page_at (map synced bytes) (advanced log).size (advanced log).next)) (ap (λ (l : LogState). l.hand) ahead_is) ahead_tied.at_next))

  pub ahead_read : (w : Walk) → Follows first log.size bytes w → w.left ≡ 0 → w.kept ≡ None → log.next < 4290000000 → HasReadAll first (advanced log) (map synced bytes) w.reader
  ahead_read w follows left none small =
      let size : (advanced log).size ≡ log.size = ap (λ (l : LogState). l.size) ahead_is in
      let next : (advanced log).next ≡ log.next + 1 = ap (λ (l : LogState). l.next) ahead_is in
      ended first (advanced log) (map synced bytes) w (subst (λ (n : ℕ). Follows first n (map synced bytes) w) (sym size) (follows_synced first log.size bytes w follows)) left none unread ahead_tied (omega (arith, next, small))

pub ahead_all : (first : ℕ) (log : LogState) (hand : Hand) (bytes : List Byte) (w : Walk) → log.hand ≡ Some hand → hand.phase ≡ GateWritten → 1 ≤ pages_for hand.unit log.reserved → IsTied first log bytes → Follows first log.size bytes w → w.left ≡ 0 → w.kept ≡ None
    → log.next < 4290000000 → HasReadAll first (advanced log) (map synced bytes) w.reader
ahead_all first log hand bytes w is phase hold tied = ahead_read first log hand bytes is phase hold tied w
