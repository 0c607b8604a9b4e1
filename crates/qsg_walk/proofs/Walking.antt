-- a walk follows its log
use Rattle.std.proofs.Common.{◌≡◌, ◌⊎◌, inl, inr, ℕ, suc, ◌+◌, ◌-◌, ◌<◌, ◌≤◌, min, List, [], ◌∷◌, ◌++◌, length, Option, None, Some, refl, sym, ap, subst, ◌∙◌, arith}
use Rattle.std.specs.Prelude.{IsSome}
use Rattle.std.proofs.lemmas.Bool.{cases_lt}
use Rattle.std.proofs.lemmas.Option.{none-some}
use Rattle.std.proofs.lemmas.List.{append-nil, length-append}
use Rattle.qsg_disk.specs.Byte.{Byte, values}
use Rattle.qsg_logpage.specs.Page.{page_at}
use Rattle.qsg_logpage.specs.Log.{LogState, IsTied, pages_written}
use Rattle.qsg_logrec.specs.declared.record.LogRecord.{LogRecord}
use Rattle.qsg_logread.specs.Feeding.{WasFed}
use Rattle.qsg_logread.specs.Logs.{pages_read}
use Rattle.qsg_logread.proofs.Feeds.{fed_on}
use Rattle.qsg_walk.specs.declared.walk.KeptPage.{KeptPage}
use Rattle.qsg_walk.specs.Walks.{Walk, fed_nothing, new_walk, after_read, FeedsKept, Feeds}
use Rattle.qsg_walk.specs.Following.{kept_body, read_at, Follows, HasReadAll}
use Rattle.qsg_walk.proofs.Reading.{read_more, read_all, read_same, none_behind, written_read}

nothing_fed : WasFed [] [] fed_nothing
nothing_fed = record { joins = record { pieces = []; pages_are = tt; joins = record { each = tt; joined = refl } }; commits = refl }

pub begun : (first size : ℕ) (bytes : List Byte) → Follows first size bytes (new_walk first size)
begun first size bytes = record { pages = []; records = []; fed = nothing_fed; all = []; all_are = refl; read = refl; next = omega arith; few = omega arith; left = inl (omega arith) }

fed_kept : (first size : ℕ) (bytes : List Byte) (kept : Option KeptPage) (old new : Walk) (records : List LogRecord) → old.kept ≡ kept → Follows first size bytes old → FeedsKept kept old records new → Follows first size bytes new
fed_kept first size bytes None old new records is follows feeds = subst (Follows first size bytes) (sym feeds.1) follows
fed_kept first size bytes (Some kept) old new records is follows feeds =
    let none : new.kept ≡ None = ap (λ (w : Walk). w.kept) feeds.rest in
    let left : new.left ≡ old.left = ap (λ (w : Walk). w.left) feeds.rest in
    record {
      pages = follows.pages ++ kept.page ∷ [];
      records = follows.records ++ records;
      fed = fed_on follows.pages kept.page follows.records records old.reader new.reader follows.fed feeds.joins feeds.commits;
      all = follows.all;
      all_are = follows.all_are ∙ ap (λ (k : Option KeptPage). follows.pages ++ kept_body k) is ∙ sym (append-nil (follows.pages ++ kept.page ∷ [])) ∙ ap (λ (k : Option KeptPage). (follows.pages ++ kept.page ∷ []) ++ kept_body k) (sym none);
      read = follows.read;
      next = ap (λ (w : Walk). w.next) feeds.rest ∙ follows.next;
      few = follows.few;
      left = elim follows.left [ inl e ↦ inl (ap (λ (n : ℕ). n + length follows.all) left ∙ e) | inr z ↦ absurd (none-some kept (sym z.1 ∙ is)) ];
    }

pub fed : (first size : ℕ) (bytes : List Byte) (old new : Walk) (records : List LogRecord) → Follows first size bytes old → Feeds old records new → Follows first size bytes new
fed first size bytes old new records follows feeds = fed_kept first size bytes old.kept old new records refl follows feeds

one_more : (all : List (List ℕ)) (body : List ℕ) → length (all ++ body ∷ []) ≡ suc (length all)
one_more all body = length-append all (body ∷ []) ∙ omega arith

pub read_one : (first size : ℕ) (bytes : List Byte) (w : Walk) (found : Option (List ℕ)) → Follows first size bytes w → w.kept ≡ None → 0 < w.left → found ≡ read_at bytes size w.next → Follows first size bytes (after_read found w)
read_one first size bytes w None follows none goes is = record {
  pages = follows.pages;
  records = follows.records;
  fed = follows.fed;
  all = follows.all;
  all_are = follows.all_are;
  read = follows.read;
  next = follows.next;
  few = follows.few;
  left = inr (refl, none, sym (is ∙ ap (read_at bytes size) follows.next));
}
read_one first size bytes w (Some body) follows none goes is = record {
  pages = follows.pages;
  records = follows.records;
  fed = follows.fed;
  all = follows.all ++ body ∷ [];
  all_are = ap (λ (l : List (List ℕ)). l ++ body ∷ []) (follows.all_are ∙ ap (λ (k : Option KeptPage). follows.pages ++ kept_body k) none ∙ append-nil follows.pages);
  read = ap (pages_read bytes size first) (one_more follows.all body) ∙ read_more bytes size first follows.all body follows.read (sym (is ∙ ap (read_at bytes size) follows.next));
  next = omega (arith, follows.next, one_more follows.all body);
  few = by_few follows.left;
  left = inl (by_left follows.left);
}
  where
    by_few : (w.left + length follows.all ≡ min size (4290000000 - first)) ⊎ ((w.left ≡ 0) × (w.kept ≡ None) × (read_at bytes size (first + length follows.all) ≡ None)) → length (follows.all ++ body ∷ []) ≤ size
    by_few (inl e) = omega (arith, e, goes, one_more follows.all body)
    by_few (inr z) = absurd (omega (arith, z.0, goes))

    by_left : (w.left + length follows.all ≡ min size (4290000000 - first)) ⊎ ((w.left ≡ 0) × (w.kept ≡ None) × (read_at bytes size (first + length follows.all) ≡ None)) → w.left - 1 + length (follows.all ++ body ∷ []) ≡ min size (4290000000 - first)
    by_left (inl e) = omega (arith, e, goes, one_more follows.all body)
    by_left (inr z) = absurd (omega (arith, z.0, goes))

pub stays : (first size : ℕ) (old new : List Byte) (w : Walk) → Follows first size old w → (0 < w.left) ⊎ IsSome w.kept → ((k : ℕ) → first ≤ k → k < w.next → values (page_at new size k) ≡ values (page_at old size k)) → Follows first size new w
stays first size old new w follows goes same = record {
  pages = follows.pages;
  records = follows.records;
  fed = follows.fed;
  all = follows.all;
  all_are = follows.all_are;
  read = read_same old new size first (length follows.all) (λ k from to. same k from (omega (arith, to, follows.next))) ∙ follows.read;
  next = follows.next;
  few = follows.few;
  left = elim follows.left [ inl e ↦ inl e | inr z ↦ absurd (over goes z.0 z.1) ];
}
  where
    over : (0 < w.left) ⊎ IsSome w.kept → w.left ≡ 0 → w.kept ≡ None → ⊥
    over (inl more) left none = omega (arith, left, more)
    over (inr some) left none = no_kept w.kept none some
      where
        no_kept : (kept : Option KeptPage) → kept ≡ None → IsSome kept → ⊥
        no_kept None none some = cc some
        no_kept (Some kept) none some = none-some kept (sym none)

pub ended : (first : ℕ) (log : LogState) (bytes : List Byte) (w : Walk) → Follows first log.size bytes w → w.left ≡ 0 → w.kept ≡ None → read_at bytes log.size log.next ≡ None → IsTied first log bytes → log.next ≤ 4290000000 → HasReadAll first log bytes w.reader
ended first log bytes w follows left none unread tied small = record { records = follows.records; fed = subst (λ (l : List (List ℕ)). WasFed l follows.records w.reader) pages_are follows.fed }
  where
    behind : (length follows.all ≡ min log.size (4290000000 - first)) → (length follows.all ≡ log.size) ⊎ (read_at bytes log.size (first + length follows.all) ≡ None)
    behind is = elim (cases_lt (4290000000 - first) log.size) [
      | inl fewer ↦ inr (none_behind first log bytes unread tied (first + length follows.all) (omega (arith, is, fewer, small, tied.from)) (omega (arith, is, fewer, small, tied.from)))
      | inr over ↦ inl (omega (arith, is, over))
    ]

    stops : (length follows.all ≡ log.size) ⊎ (read_at bytes log.size (first + length follows.all) ≡ None)
    stops = elim follows.left [ inl e ↦ behind (omega (arith, e, left)) | inr z ↦ inr z.2 ]

    all_read : pages_read bytes log.size first log.size ≡ follows.all
    all_read = read_all bytes log.size first log.size follows.all follows.read follows.few stops

    pages_are : follows.pages ≡ pages_written first log bytes
    pages_are =
        sym (follows.all_are ∙ ap (λ (k : Option KeptPage). follows.pages ++ kept_body k) none ∙ append-nil follows.pages)
        ∙ sym all_read ∙ written_read first log bytes unread tied
