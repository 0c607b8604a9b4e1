-- what a walk's own steps leave
use Rattle.std.proofs.Common.{◌≡◌, ◌⊎◌, inl, inr, ℕ, ◌+◌, ◌-◌, ◌/◌, ◌<◌, ◌≤◌, List, [], ◌∷◌, ◌++◌, length, Option, None, Some, refl, sym, ap, subst, ◌∙◌, append_assoc, arith}
use Rattle.std.proofs.lemmas.List.{append-nil, length-append}
use Rattle.std.proofs.lemmas.Option.{none-some, same_Some}
use Rattle.qsg_num.specs.declared.seats.Member.{Member}
use Rattle.qsg_num.specs.declared.ids.Incarnation.{Incarnation}
use Rattle.qsg_num.specs.declared.ids.UnitName.{UnitName}
use Rattle.qsg_num.specs.declared.words.LogWhy.{LogWhy}
use Rattle.qsg_logpage.specs.Page.{page_at}
use Rattle.qsg_logrec.specs.declared.record.LogRecord.{LogRecord}
use Rattle.qsg_logread.specs.Records.{PagesJoin}
use Rattle.qsg_logread.specs.Fed.{Fed, is_committed, with_records}
use Rattle.qsg_logread.specs.Feeding.{WasFed}
use Rattle.qsg_logread.proofs.Feeds.{fed_on}
use Rattle.qsg_logread.proofs.Known.{same_pages_join}
use Rattle.qsg_group.specs.Group.{Run, Log}
use Rattle.qsg_group.specs.Observers.{runs_from}
use Rattle.qsg_unitlog.specs.Tells.{Tells}
use Rattle.qsg_unitlog.proofs.Steps.{written_length}
use Rattle.qsg_logs.specs.Kept.{KeptLog}
use Rattle.qsg_walk.specs.declared.walk.KeptPage.{KeptPage}
use Rattle.qsg_walk.specs.Walks.{Walk, fed_nothing, new_walk, after_read, Feeds, FeedsKept, IsBad, IsBadKept}
use Rattle.qsg_walk.specs.Following.{kept_body, read_at}
use Rattle.qsg_reading.specs.Knowing.{Knows, IsOfOthers}
use Rattle.qsg_reading.specs.Reading.{page_in_hand, written_from, AreWritten, AreAhead, IsUnderWay, IsReading}
use Rattle.qsg_reading.proofs.Splitting.{join_parts, page_joins, no_fault}
use Rattle.qsg_reading.proofs.Commits.{Commits, known, reader_of, fed_by, written_commits, ahead_commits}
use Rattle.qsg_reading.proofs.Pages.{written_read, hand_read, behind_read}

-- ---- a new walk

nothing_fed : WasFed [] [] fed_nothing
nothing_fed = record { joins = record { pieces = []; pages_are = tt; joins = record { each = tt; joined = refl } }; commits = refl }

-- all pages that are written
all_known : (life : Member × Incarnation) (log : Log) (kept : KeptLog) (gone : List UnitName) (hand : Option Run) (all : List (List ℕ)) (records : List LogRecord) (reader : Fed)
    → Tells log.low kept.writer gone (runs_from log.low log.runs) hand kept.bytes → all ≡ written_from log.low kept → WasFed all records reader → Knows life reader log
all_known life log kept gone hand all records reader tells are fed =
    known life (runs_from log.low log.runs) all records reader
    (subst (Commits life (runs_from log.low log.runs)) (sym are) (written_commits life log.low kept.writer gone (runs_from log.low log.runs) hand kept.bytes tells)) fed

none_written : (pages : List (List ℕ)) → length pages ≡ 0 → [] ≡ pages
none_written [] is = refl
none_written (page ∷ pages) is = absurd (omega (arith, is))

pub new_reading : (life : Member × Incarnation) (log : Log) (kept : KeptLog) (gone : List UnitName) (hand : Option Run)
    → Tells log.low kept.writer gone (runs_from log.low log.runs) hand kept.bytes → 0 < kept.writer.size → kept.writer.next ≤ 4290000000
    → IsReading life log kept (new_walk log.low kept.writer.size)
new_reading life log kept gone hand tells some small = record {
  fed = [];
  given = [];
  was_fed = nothing_fed;
  reader = fed_nothing;
  records = [];
  will_be = nothing_fed;
  goes_on = λ goes. record { next = omega arith; left = omega arith; pages = inl (written_from log.low kept, refl) };
  ended = λ left. all_known life log kept gone hand [] [] fed_nothing tells
      (none_written (written_from log.low kept) (omega (arith, written_length log.low kept.writer kept.bytes tells.tied, tells.tied.from, left, some, small))) nothing_fed;
}

-- ---- the page that is kept is fed

fed_kept : (life : Member × Incarnation) (log : Log) (kept : KeptLog) (page : Option KeptPage) (old new : Walk) (records : List LogRecord) → old.kept ≡ page → IsReading life log kept old → FeedsKept page old records new → IsReading life log kept new
fed_kept life log kept None old new records is r feeds = subst (IsReading life log kept) (sym feeds.1) r
fed_kept life log kept (Some page) old new records is r feeds =
    let none : new.kept ≡ None = ap (λ (w : Walk). w.kept) feeds.rest in
    let left : new.left ≡ old.left = ap (λ (w : Walk). w.left) feeds.rest in
    let next : new.next ≡ old.next = ap (λ (w : Walk). w.next) feeds.rest in
    let all : r.fed ++ kept_body old.kept ≡ (r.fed ++ page.page ∷ []) ++ kept_body new.kept =
    ap (λ (k : Option KeptPage). r.fed ++ kept_body k) is ∙ sym (append-nil (r.fed ++ page.page ∷ [])) ∙ ap (λ (k : Option KeptPage). (r.fed ++ page.page ∷ []) ++ kept_body k) (sym none) in
    record {
      fed = r.fed ++ page.page ∷ [];
      given = r.given ++ records;
      was_fed = fed_on r.fed page.page r.given records old.reader new.reader r.was_fed feeds.joins feeds.commits;
      reader = r.reader;
      records = r.records;
      will_be = subst (λ (l : List (List ℕ)). WasFed l r.records r.reader) all r.will_be;
      goes_on = λ goes.
          let on = r.goes_on (subst (λ (n : ℕ). 0 < n) left goes) in
          subst (λ (l : List (List ℕ)). IsUnderWay life log kept new l r.reader) all (record { next = next ∙ on.next; left = ap (λ (n : ℕ). n + length (r.fed ++ kept_body old.kept)) left ∙ on.left; pages = on.pages });
      ended = λ none_left. r.ended (sym left ∙ none_left);
    }

pub fed_reading : (life : Member × Incarnation) (log : Log) (kept : KeptLog) (old new : Walk) (records : List LogRecord) → IsReading life log kept old → Feeds old records new → IsReading life log kept new
fed_reading life log kept old new records r feeds = fed_kept life log kept old.kept old new records refl r feeds

-- ---- it is never refused

good_kept : (life : Member × Incarnation) (log : Log) (kept : KeptLog) (page : Option KeptPage) (w : Walk) (why : LogWhy) → w.kept ≡ page → IsReading life log kept w → IsBadKept page w why → ⊥
good_kept life log kept None w why is r bad = bad
good_kept life log kept (Some page) w why is r bad =
    let j = join_parts None r.fed (page.page ∷ []) r.records r.reader.begun (subst (λ (k : Option KeptPage). PagesJoin None (r.fed ++ kept_body k) r.records r.reader.begun) is r.will_be.joins) in
    let same : j.middle ≡ w.reader.begun = (same_pages_join None j.middle w.reader.begun r.fed j.first r.given j.front_joins r.was_fed.joins).1 in
    no_fault w.reader.begun page.no page.page j.second r.reader.begun why
    (page_joins w.reader.begun page.page j.second r.reader.begun (subst (λ (b : Option (List ℕ)). PagesJoin b (page.page ∷ []) j.second r.reader.begun) same j.back_joins)) bad

pub good_reading : (life : Member × Incarnation) (log : Log) (kept : KeptLog) (w : Walk) (why : LogWhy) → IsReading life log kept w → IsBad w why → ⊥
good_reading life log kept w why r bad = good_kept life log kept w.kept w why refl r bad

-- ---- a page is read

-- a walk that keeps no page, by the pages that it was fed
record IsFed (life : Member × Incarnation) (log : Log) (kept : KeptLog) (w : Walk) : Type 0 where
  pub fed : List (List ℕ)
  pub given : List LogRecord
  pub was_fed : WasFed fed given w.reader
  pub reader : Fed
  pub records : List LogRecord
  pub will_be : WasFed fed records reader
  pub under_way : IsUnderWay life log kept w fed reader

all_fed : (life : Member × Incarnation) (log : Log) (kept : KeptLog) (w : Walk) → IsReading life log kept w → w.kept ≡ None → 0 < w.left → IsFed life log kept w
all_fed life log kept w r none goes =
    let all : r.fed ++ kept_body w.kept ≡ r.fed = ap (λ (k : Option KeptPage). r.fed ++ kept_body k) none ∙ append-nil r.fed in
    record {
      fed = r.fed;
      given = r.given;
      was_fed = r.was_fed;
      reader = r.reader;
      records = r.records;
      will_be = subst (λ (l : List (List ℕ)). WasFed l r.records r.reader) all r.will_be;
      under_way = subst (λ (l : List (List ℕ)). IsUnderWay life log kept w l r.reader) all (r.goes_on goes);
    }

-- it keeps one page more, which joins
with_page : (life : Member × Incarnation) (log : Log) (kept : KeptLog) (w : Walk) (f : IsFed life log kept w) (page : List ℕ) (records : List LogRecord) (after : Option (List ℕ)) → 0 < w.left
    → PagesJoin None (f.fed ++ page ∷ []) records after
    → (AreWritten log.low kept (f.fed ++ page ∷ []) ⊎ (AreAhead log.low kept (f.fed ++ page ∷ []) × Knows life (reader_of records after) log))
    → (w.left - 1 ≡ 0 → Knows life (reader_of records after) log)
    → IsReading life log kept (after_read (Some page) w)
with_page life log kept w f page records after goes joins pages ended = record {
  fed = f.fed;
  given = f.given;
  was_fed = f.was_fed;
  reader = reader_of records after;
  records = records;
  will_be = fed_by (f.fed ++ page ∷ []) records after joins;
  goes_on = λ more. record {
    next = omega (arith, f.under_way.next, length-append f.fed (page ∷ []));
    left = omega (arith, f.under_way.left, goes, length-append f.fed (page ∷ []));
    pages = pages;
  };
  ended = ended;
}

module _ (life : Member × Incarnation) (log : Log) (kept : KeptLog) (w : Walk) (gone : List UnitName) (hand : Option Run) (f : IsFed life log kept w) (none : w.kept ≡ None) (goes : 0 < w.left)
    (tells : Tells log.low kept.writer gone (runs_from log.low log.runs) hand kept.bytes) (others : IsOfOthers life hand) (small : kept.writer.next ≤ 4290000000) where
  abbrev low : ℕ
  low = log.low

  at_next : read_at kept.bytes kept.writer.size w.next ≡ read_at kept.bytes kept.writer.size (low + length f.fed)
  at_next = ap (read_at kept.bytes kept.writer.size) f.under_way.next

  -- how many pages are written
  long : length (written_from low kept) ≡ kept.writer.next - low
  long = written_length low kept.writer kept.bytes tells.tied

  -- none stands there
  ends : Knows life f.reader log → IsReading life log kept (after_read None w)
  ends knows = record {
    fed = f.fed;
    given = f.given;
    was_fed = f.was_fed;
    reader = f.reader;
    records = f.records;
    will_be = subst (λ (l : List (List ℕ)). WasFed l f.records f.reader) (sym (ap (λ (k : Option KeptPage). f.fed ++ kept_body k) none ∙ append-nil f.fed)) f.will_be;
    goes_on = λ more. absurd (omega (arith, more));
    ended = λ left. knows;
  }

  none_read : (more : List (List ℕ)) → written_from low kept ≡ f.fed ++ more → read_at kept.bytes kept.writer.size w.next ≡ None → Knows life f.reader log
  none_read [] are is = all_known life log kept gone hand f.fed f.records f.reader tells (sym (are ∙ append-nil f.fed)) f.will_be
  none_read (page ∷ more) are is = absurd (none-some page (sym is ∙ at_next ∙ written_read low kept.writer kept.bytes f.fed page more tells.tied are))

  -- a page that is written
  written : (page : List ℕ) (more : List (List ℕ)) → written_from low kept ≡ f.fed ++ page ∷ more → IsReading life log kept (after_read (Some page) w)
  written page more are =
      let all : written_from low kept ≡ (f.fed ++ page ∷ []) ++ more = are ∙ sym (append_assoc f.fed (page ∷ []) more) in
      let c = written_commits life low kept.writer gone (runs_from low log.runs) hand kept.bytes tells in
      let j = join_parts None (f.fed ++ page ∷ []) more c.records c.after (subst (λ (l : List (List ℕ)). PagesJoin None l c.records c.after) all c.joins) in
      with_page life log kept w f page j.first j.middle goes j.front_joins (inl (more, all))
      (λ left. all_known life log kept gone hand (f.fed ++ page ∷ []) j.first (reader_of j.first j.middle) tells
      (sym (all ∙ ap (λ (l : List (List ℕ)). (f.fed ++ page ∷ []) ++ l) (sym (none_left more (omega (arith, left, goes, f.under_way.left, long, tells.tied.from, tells.tied.room, small, ap length all, length-append (f.fed ++ page ∷ []) more, length-append f.fed (page ∷ []))))) ∙ append-nil (f.fed ++ page ∷ [])))
      (fed_by (f.fed ++ page ∷ []) j.first j.middle j.front_joins))
    where
      none_left : (pages : List (List ℕ)) → length pages ≡ 0 → [] ≡ pages
      none_left = none_written

  -- the page in hand
  in_hand : (page : List ℕ) → written_from low kept ≡ f.fed → read_at kept.bytes kept.writer.size w.next ≡ Some page → IsReading life log kept (after_read (Some page) w)
  in_hand page are is =
      let next : w.next ≡ kept.writer.next = omega (arith, f.under_way.next, ap length are, long, tells.tied.from) in
      let h = hand_read (kept.writer.next / kept.writer.size) kept.writer.hand page (page_at kept.bytes kept.writer.size kept.writer.next) tells.tied.at_next (sym (ap (read_at kept.bytes kept.writer.size) next) ∙ is) in
      let all : written_from low kept ++ page_in_hand kept.writer ≡ f.fed ++ page ∷ [] = (λ i. are i ++ h.2 i) in
      let c = subst (Commits life (runs_from low log.runs)) all (ahead_commits life low kept.writer gone (runs_from low log.runs) hand kept.bytes h.0 tells others h.1) in
      let knows : Knows life (reader_of c.records c.after) log = known life (runs_from low log.runs) (f.fed ++ page ∷ []) c.records (reader_of c.records c.after) c (fed_by (f.fed ++ page ∷ []) c.records c.after c.joins) in
      with_page life log kept w f page c.records c.after goes c.joins
      (inr (record { page = page; are = ap (λ (l : List (List ℕ)). l ++ page ∷ []) (sym are); in_hand = inl h.2 }, knows))
      (λ left. knows)

  some_read : (page : List ℕ) (more : List (List ℕ)) → written_from low kept ≡ f.fed ++ more → read_at kept.bytes kept.writer.size w.next ≡ Some page → IsReading life log kept (after_read (Some page) w)
  some_read page [] are is = in_hand page (are ∙ append-nil f.fed) is
  some_read page (next ∷ more) are is =
      subst (λ (l : List ℕ). IsReading life log kept (after_read (Some l) w))
      (same_Some next page (sym (at_next ∙ written_read low kept.writer kept.bytes f.fed next more tells.tied are) ∙ is)) (written next more are)

  -- none stands behind the page in hand
  no_page : (page : List ℕ) → AreAhead low kept f.fed → read_at kept.bytes kept.writer.size w.next ≡ Some page → IsReading life log kept (after_read (Some page) w)
  no_page page a is =
      let next : w.next ≡ kept.writer.next + 1 = omega (arith, f.under_way.next, ap length a.are, length-append (written_from low kept) (a.page ∷ []), long, tells.tied.from) in
      behind_read low w.next kept.writer kept.bytes page tells.tied (omega (arith, next)) (omega (arith, next, goes, f.under_way.left, f.under_way.next, tells.tied.from)) is

  read_fed : (found : Option (List ℕ)) → found ≡ read_at kept.bytes kept.writer.size w.next → IsReading life log kept (after_read found w)
  read_fed None is = elim f.under_way.pages [
    | inl a ↦ ends (none_read a.0 a.1 (sym is))
    | inr a ↦ ends a.1
  ]
  read_fed (Some page) is = elim f.under_way.pages [
    | inl a ↦ some_read page a.0 a.1 (sym is)
    | inr a ↦ no_page page a.0 (sym is)
  ]

pub read_reading : (life : Member × Incarnation) (log : Log) (kept : KeptLog) (w : Walk) (found : Option (List ℕ)) (gone : List UnitName) (hand : Option Run)
    → IsReading life log kept w → w.kept ≡ None → 0 < w.left
    → Tells log.low kept.writer gone (runs_from log.low log.runs) hand kept.bytes → IsOfOthers life hand → kept.writer.next ≤ 4290000000
    → found ≡ read_at kept.bytes kept.writer.size w.next → IsReading life log kept (after_read found w)
read_reading life log kept w found gone hand r none goes tells others small is = read_fed life log kept w gone hand (all_fed life log kept w r none goes) none goes tells others small found is

-- ---- the end

pub ended_knows : (life : Member × Incarnation) (log : Log) (kept : KeptLog) (w : Walk) → IsReading life log kept w → w.left ≡ 0 → w.kept ≡ None → Knows life w.reader log
ended_knows life log kept w r left none = λ u is. ap (is_committed u) (sym same) ∙ r.ended left u is
  where
    all : r.fed ++ kept_body w.kept ≡ r.fed
    all = ap (λ (k : Option KeptPage). r.fed ++ kept_body k) none ∙ append-nil r.fed

    same : r.reader.commits ≡ w.reader.commits
    same =
        r.will_be.commits
        ∙ ap (with_records []) (same_pages_join None r.reader.begun w.reader.begun r.fed r.records r.given (subst (λ (l : List (List ℕ)). PagesJoin None l r.records r.reader.begun) all r.will_be.joins) r.was_fed.joins).0
        ∙ sym r.was_fed.commits
