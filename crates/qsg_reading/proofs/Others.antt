-- what others do to a log leaves what a walk has read
use Rattle.std.proofs.Common.{◌≡◌, ◌⊎◌, inl, inr, ℕ, zero, suc, ◌+◌, ◌-◌, ◌/◌, ◌<◌, ◌≤◌, Bool, true, false, cond, min, List, [], ◌∷◌, ◌++◌, length, Option, None, Some, refl, sym, ap, subst, ◌∙◌, append_assoc, arith}
use Rattle.std.specs.Prelude.{◌==◌, ◌||◌, nat_le, filter}
use Rattle.std.proofs.lemmas.Bool.{cases_lt}
use Rattle.std.proofs.lemmas.Bool.Decides.{nat_tests}
use Rattle.std.proofs.lemmas.List.{append-nil, length-append}
use Rattle.std.proofs.lemmas.Option.{none-some}
use Rattle.qsg_num.specs.declared.seats.Member.{Member}
use Rattle.qsg_num.specs.declared.ids.Incarnation.{Incarnation}
use Rattle.qsg_num.specs.declared.ids.UnitName.{UnitName}
use Rattle.qsg_num.specs.Ids.{same_unit}
use Rattle.qsg_disk.specs.Byte.{Byte}
use Rattle.qsg_logpage.specs.declared.step.Phase.{Phase}
use Rattle.qsg_logpage.specs.declared.step.Phase.TheVariants.{Fresh, GateShut, ShutSafe, BodyWritten, BodySafe, GateWritten}
use Rattle.qsg_logpage.specs.Page.{page_at, with_lap, body_of, is_safely_open, open_pages, log_pages}
use Rattle.qsg_logpage.specs.Log.{Hand, LogState, IsTied, IsCutShort, first_body, hand_body, first_phase, in_phase, advanced, advanced_by, made_by, made_safe, pages_written}
use Rattle.qsg_logpage.proofs.Cuts.{same_pages, open_here}
use Rattle.qsg_group.specs.Group.{Run, Log}
use Rattle.qsg_group.specs.Observers.{has_run, runs_from}
use Rattle.qsg_unitlog.specs.Tells.{after_cut}
use Rattle.qsg_unitlog.proofs.Lists.{no_head}
use Rattle.qsg_unitlog.proofs.Steps.{written_length}
use Rattle.qsg_logs.specs.Kept.{KeptLog}
use Rattle.qsg_logs.specs.Cuts.{next_behind, IsCut}
use Rattle.qsg_logs.specs.Writers.{idle_writer}
use Rattle.qsg_walk.specs.declared.walk.KeptPage.{KeptPage}
use Rattle.qsg_walk.specs.Walks.{Walk, new_walk, after_read, Feeds, FeedsKept}
use Rattle.qsg_walk.specs.Following.{read_at}
use Rattle.qsg_walk.proofs.Reading.{none_at_next}
use Rattle.qsg_logrec.specs.declared.record.LogRecord.{LogRecord}
use Rattle.qsg_logread.specs.Fed.{Fed}
use Rattle.qsg_reading.specs.Knowing.{is_of, Knows, AgreeOn}
use Rattle.qsg_reading.specs.Reading.{page_in_hand, written_from, AreWritten, AreAhead, IsUnderWay, IsReading, HasReadWritten, KeepsLast, Stays, Grows, IsLater}
use Rattle.qsg_reading.proofs.Commits.{other_run}

-- ---- a log that has gone on

first_same : (x y : List ℕ) (pages : List (List ℕ)) → pages ≡ x ∷ [] → pages ≡ y ∷ [] → x ≡ y
first_same x y pages is so = cc (sym is ∙ so)

no_page : {A : Type 0} (x : List ℕ) (pages : List (List ℕ)) → pages ≡ [] → pages ≡ x ∷ [] → A
no_page x pages none is = no_head x [] (sym none ∙ is)

knows_still : (life : Member × Incarnation) (reader : Fed) (log after : Log) → AgreeOn life log after → Knows life reader log → Knows life reader after
knows_still life reader log after agree knows = λ u is. knows u is ∙ sym (agree.runs u is)

written_still : (low : ℕ) (old new : KeptLog) (all : List (List ℕ)) → IsLater low old new → AreWritten low old all → AreWritten low new all
written_still low old new all later a = elim later.pages [
  | inl s ↦ (a.0, s.pages ∙ a.1)
  | inr g ↦ (a.0 ++ g.page ∷ [], g.pages ∙ ap (λ (l : List (List ℕ)). l ++ g.page ∷ []) a.1 ∙ append_assoc all a.0 (g.page ∷ []))
]

ahead_still : (low : ℕ) (old new : KeptLog) (all : List (List ℕ)) → IsLater low old new → AreAhead low old all → AreWritten low new all ⊎ AreAhead low new all
ahead_still low old new all later a = elim later.pages [
  | inl s ↦ inr (record { page = a.page; are = a.are ∙ ap (λ (l : List (List ℕ)). l ++ a.page ∷ []) (sym s.pages); in_hand = in_hand s })
  | inr g ↦ inl (grown g)
]
  where
    in_hand : Stays low old new → (page_in_hand new.writer ≡ a.page ∷ []) ⊎ (page_in_hand new.writer ≡ [])
    in_hand s = elim s.in_hand [
      | inl same ↦ elim a.in_hand [ inl is ↦ inl (same ∙ is) | inr none ↦ inr (same ∙ none) ]
      | inr none ↦ inr none
    ]

    grown : Grows low old new → AreWritten low new all
    grown g = elim a.in_hand [
      | inl is ↦ ([], g.pages ∙ ap (λ (x : List ℕ). written_from low old ++ x ∷ []) (first_same g.page a.page (page_in_hand old.writer) g.in_hand is) ∙ sym a.are ∙ sym (append-nil all))
      | inr none ↦ no_page g.page (page_in_hand old.writer) none g.in_hand
    ]

pages_still : (life : Member × Incarnation) (log : Log) (old new : KeptLog) (all : List (List ℕ)) (reader : Fed) → IsLater log.low old new
    → AreWritten log.low old all ⊎ (AreAhead log.low old all × Knows life reader log) → AreWritten log.low new all ⊎ (AreAhead log.low new all × Knows life reader log)
pages_still life log old new all reader later (inl a) = inl (written_still log.low old new all later a)
pages_still life log old new all reader later (inr (a, knows)) = elim (ahead_still log.low old new all later a) [ inl b ↦ inl b | inr b ↦ inr (b, knows) ]

under_way : (life : Member × Incarnation) (log after : Log) (old new : KeptLog) (w : Walk) (all : List (List ℕ)) (reader : Fed) → AgreeOn life log after → new.writer.size ≡ old.writer.size
    → (AreWritten log.low old all ⊎ (AreAhead log.low old all × Knows life reader log) → AreWritten log.low new all ⊎ (AreAhead log.low new all × Knows life reader log))
    → IsUnderWay life log old w all reader → IsUnderWay life after new w all reader
under_way life log after old new w all reader agree size still on = record {
  next = on.next ∙ ap (λ (n : ℕ). n + length all) (sym agree.low);
  left = on.left ∙ (λ i. min (sym size i) (4290000000 - sym agree.low i));
  pages = subst (λ (n : ℕ). AreWritten n new all ⊎ (AreAhead n new all × Knows life reader after)) (sym agree.low) (by (still on.pages));
}
  where
    by : AreWritten log.low new all ⊎ (AreAhead log.low new all × Knows life reader log) → AreWritten log.low new all ⊎ (AreAhead log.low new all × Knows life reader after)
    by (inl a) = inl a
    by (inr (a, knows)) = inr (a, knows_still life reader log after agree knows)

reading_still : (life : Member × Incarnation) (log after : Log) (old new : KeptLog) (w : Walk) (r : IsReading life log old w) → AgreeOn life log after
    → (0 < w.left → (all : List (List ℕ)) → IsUnderWay life log old w all r.reader → IsUnderWay life after new w all r.reader) → IsReading life after new w
reading_still life log after old new w r agree still = record {
  fed = r.fed;
  given = r.given;
  was_fed = r.was_fed;
  reader = r.reader;
  records = r.records;
  will_be = r.will_be;
  goes_on = λ goes. still goes _ (r.goes_on goes);
  ended = λ left. knows_still life r.reader log after agree (r.ended left);
}

pub later_reading : (life : Member × Incarnation) (log after : Log) (old new : KeptLog) (w : Walk) → IsReading life log old w → AgreeOn life log after → (0 < w.left → IsLater log.low old new) → IsReading life after new w
later_reading life log after old new w r agree later = reading_still life log after old new w r agree
    (λ goes all on. under_way life log after old new w all r.reader agree (later goes).size (pages_still life log old new all r.reader (later goes)) on)

-- ---- a run is taken in hand

pub agree_self : (life : Member × Incarnation) (log : Log) → AgreeOn life log log
agree_self life log = record { low = refl; runs = λ u is. refl }

-- the same pages are written
pub same_written : (low : ℕ) (old new : KeptLog) → new.writer.size ≡ old.writer.size → new.writer.next ≡ old.writer.next → new.bytes ≡ old.bytes → written_from low new ≡ written_from low old
same_written low old new size next bytes = λ i. open_pages (bytes i) (size i) low (next i - low)

begun_pages : (life : Member × Incarnation) (log : Log) (old new : KeptLog) (w : Walk) (all : List (List ℕ)) (reader : Fed) → IsTied log.low old.writer old.bytes → w.next ≤ old.writer.next → w.next ≡ log.low + length all
    → written_from log.low new ≡ written_from log.low old
    → AreWritten log.low old all ⊎ (AreAhead log.low old all × Knows life reader log) → AreWritten log.low new all ⊎ (AreAhead log.low new all × Knows life reader log)
begun_pages life log old new w all reader tied within next same (inl a) = inl (a.0, same ∙ a.1)
begun_pages life log old new w all reader tied within next same (inr (a, knows)) =
    absurd (omega (arith, within, next, ap length a.are, length-append (written_from log.low old) (a.page ∷ []), written_length log.low old.writer old.bytes tied, tied.from))

pub begun_reading : (life : Member × Incarnation) (log : Log) (old new : KeptLog) (hand : Option Hand) (w : Walk) → IsReading life log old w → IsTied log.low old.writer old.bytes → old.writer.hand ≡ None → HasReadWritten w old
    → new.writer ≡ record old.writer { hand = hand } → new.bytes ≡ old.bytes → IsReading life log new w
begun_reading life log old new hand w r tied none read writer bytes = reading_still life log log old new w r (agree_self life log)
    (λ goes all on. under_way life log log old new w all r.reader (agree_self life log) size
    (begun_pages life log old new w all r.reader tied (read goes none) on.next (same_written log.low old new size next bytes)) on)
  where
    size : new.writer.size ≡ old.writer.size
    size = ap (λ (l : LogState). l.size) writer

    next : new.writer.next ≡ old.writer.next
    next = ap (λ (l : LogState). l.next) writer

-- ---- what others do

hand_same : (a b : LogState) → b.size ≡ a.size → b.next ≡ a.next → b.hand ≡ a.hand → page_in_hand b ≡ page_in_hand a
hand_same a b size next hand = λ i. hand_body (next i / size i) (hand i)

pub same_later : (low : ℕ) (old new : KeptLog) → new.writer.size ≡ old.writer.size → new.writer.next ≡ old.writer.next → new.writer.hand ≡ old.writer.hand → new.bytes ≡ old.bytes → IsLater low old new
same_later low old new size next hand bytes = record {
  size = size;
  pages = inl (record { pages = same_written low old new size next bytes; in_hand = inl (hand_same old.writer new.writer size next hand) });
}

-- a step, by the run in hand and its phase
module _ (low : ℕ) (old new : KeptLog) where
  phase_goes : (hand : Hand) (next : Phase) → old.writer.hand ≡ Some hand → new.writer ≡ in_phase old.writer hand next → written_from low new ≡ written_from low old ++ [] → IsLater low old new
  phase_goes hand next is writer written = record {
    size = ap (λ (l : LogState). l.size) writer;
    pages = inl (record {
      pages = written ∙ append-nil (written_from low old);
      in_hand = inl (ap page_in_hand writer ∙ sym (ap (hand_body (old.writer.next / old.writer.size)) is));
    });
  }

  by_phase : (hand : Hand) (phase : Phase) → old.writer.hand ≡ Some hand → new.writer ≡ advanced_by old.writer hand phase → written_from low new ≡ written_from low old ++ made_by old.writer hand phase → IsLater low old new
  by_phase hand Fresh is writer written = phase_goes hand (first_phase (old.writer.next / old.writer.size)) is writer written
  by_phase hand GateShut is writer written = phase_goes hand ShutSafe is writer written
  by_phase hand ShutSafe is writer written = phase_goes hand BodyWritten is writer written
  by_phase hand BodyWritten is writer written = phase_goes hand BodySafe is writer written
  by_phase hand BodySafe is writer written = phase_goes hand GateWritten is writer written
  by_phase hand GateWritten is writer written = record {
    size = ap (λ (l : LogState). l.size) writer;
    pages = inr (record {
      page = with_lap (old.writer.next / old.writer.size) (first_body hand.pages);
      in_hand = ap (hand_body (old.writer.next / old.writer.size)) is;
      pages = written;
    });
  }

  by_hand : (hand : Option Hand) → old.writer.hand ≡ hand → new.writer ≡ (elim hand as (λ _. LogState) [ None ↦ old.writer | Some h ↦ advanced_by old.writer h h.phase ])
      → written_from low new ≡ written_from low old ++ (elim hand [ None ↦ [] | Some h ↦ made_by old.writer h h.phase ]) → IsLater low old new
  by_hand None is writer written = record {
    size = ap (λ (l : LogState). l.size) writer;
    pages = inl (record { pages = written ∙ append-nil (written_from low old); in_hand = inl (ap page_in_hand writer) });
  }
  by_hand (Some hand) is writer written = by_phase hand hand.phase is writer written

  pub step_later : new.writer ≡ advanced old.writer → written_from low new ≡ written_from low old ++ made_safe old.writer → IsLater low old new
  step_later writer written = by_hand old.writer.hand refl writer written

  pub failed_later : low ≤ old.writer.next → new.writer ≡ old.writer → ((k : ℕ) → low ≤ k → k < old.writer.next → page_at new.bytes old.writer.size k ≡ page_at old.bytes old.writer.size k) → IsLater low old new
  failed_later from writer same = record {
    size = ap (λ (l : LogState). l.size) writer;
    pages = inl (record {
      pages = ap (λ (l : LogState). pages_written low l new.bytes) writer
          ∙ same_pages old.writer.size old.bytes new.bytes low (old.writer.next - low) (λ k above less. same k above (omega (arith, less, from)));
      in_hand = inl (ap page_in_hand writer);
    });
  }

-- ---- a power cut

next_after : (left : Bool) (next now : ℕ) → left ≡ (now == next + 1) → (now ≡ next) ⊎ (now ≡ next + 1) → next_behind left next ≡ now
next_after true next now is at = yes is
  where
    yes : true ≡ (now == next + 1) → next + 1 ≡ now
    yes e = grind (arith, nat_tests)
next_after false next now is at = no is at
  where
    no : false ≡ (now == next + 1) → (now ≡ next) ⊎ (now ≡ next + 1) → next ≡ now
    no e (inl same) = sym same
    no e (inr more) = grind (arith, nat_tests)

-- the pages that are open are as many as they are
reopened : (bytes : List Byte) (size first count : ℕ) → open_pages bytes size first (length (open_pages bytes size first count)) ≡ open_pages bytes size first count
reopened bytes size first zero = refl
reopened bytes size first (suc count) = by (is_safely_open (first / size) (page_at bytes size first)) refl (reopened bytes size (first + 1) count)
  where
    by : (b : Bool) → is_safely_open (first / size) (page_at bytes size first) ≡ b
        → open_pages bytes size (first + 1) (length (open_pages bytes size (first + 1) count)) ≡ open_pages bytes size (first + 1) count
        → open_pages bytes size first (length (cond b (body_of (page_at bytes size first) ∷ open_pages bytes size (first + 1) count) [])) ≡ cond b (body_of (page_at bytes size first) ∷ open_pages bytes size (first + 1) count) []
    by true is more = open_here size bytes first (length (open_pages bytes size (first + 1) count)) is ∙ ap (λ (l : List (List ℕ)). body_of (page_at bytes size first) ∷ l) more
    by false is more = refl

module _ (low : ℕ) (left : Bool) (old new : KeptLog) (c : IsCut left old new) (tells : old.tells ≡ true) (tied : IsTied low old.writer old.bytes) where
  short : IsCutShort low old.writer old.bytes new.bytes
  short = c.cut tells low tied

  abbrev whole : List (List ℕ)
  whole = log_pages new.bytes old.writer.size low

  few : (hand : Option Hand) (lap : ℕ) → (length (hand_body lap hand) ≡ 0) ⊎ (length (hand_body lap hand) ≡ 1)
  few None lap = inl refl
  few (Some hand) lap = inr refl

  long : length (written_from low old) ≡ old.writer.next - low
  long = written_length low old.writer old.bytes tied

  counted : (low + length whole ≡ old.writer.next) ⊎ (low + length whole ≡ old.writer.next + 1)
  counted = elim short.pages [
    | inl is ↦ inl (omega (arith, ap length is, long, tied.from))
    | inr is ↦ elim (few old.writer.hand (old.writer.next / old.writer.size)) [
      | inl none ↦ inl (omega (arith, ap length is, length-append (written_from low old) (page_in_hand old.writer), none, long, tied.from))
      | inr one ↦ inr (omega (arith, ap length is, length-append (written_from low old) (page_in_hand old.writer), one, long, tied.from))
    ]
  ]

  writer : new.writer ≡ after_cut low old.writer new.bytes
  writer = c.writer ∙ ap (idle_writer old.writer.size) (next_after left old.writer.next (low + length whole) (c.whole tells low tied) counted)

  written : written_from low new ≡ whole
  written = ap (λ (l : LogState). pages_written low l new.bytes) writer ∙ ap (open_pages new.bytes old.writer.size low) (omega arith) ∙ reopened new.bytes old.writer.size low old.writer.size

  none : page_in_hand new.writer ≡ []
  none = ap page_in_hand writer

  same : whole ≡ written_from low old → Stays low old new
  same is = record { pages = written ∙ is; in_hand = inr none }

  one_more : (hand : Option Hand) → page_in_hand old.writer ≡ hand_body (old.writer.next / old.writer.size) hand → whole ≡ written_from low old ++ hand_body (old.writer.next / old.writer.size) hand → Stays low old new ⊎ Grows low old new
  one_more None in_hand is = inl (same (is ∙ append-nil (written_from low old)))
  one_more (Some hand) in_hand is = inr (record { page = with_lap (old.writer.next / old.writer.size) (first_body hand.pages); in_hand = in_hand; pages = written ∙ is })

  pub cut_later : IsLater low old new
  cut_later = record {
    size = ap (λ (l : LogState). l.size) writer;
    pages = elim short.pages [ inl is ↦ inl (same is) | inr is ↦ one_more old.writer.hand refl is ];
  }

-- ---- runs of others

pub whole_agrees : (life : Member × Incarnation) (log : Log) (run : Run) (next : ℕ) → is_of life run.unit ≡ false → AgreeOn life log (record log { runs = log.runs ++ run ∷ []; next = next })
whole_agrees life log run next other = record { low = refl; runs = λ u is. by u is log.runs }
  where
    one : (u : UnitName) → is_of life u ≡ true → (b : Bool) → has_run u (cond b (run ∷ []) []) ≡ false
    one u is true = other_run life [] run u other is
    one u is false = refl

    by : (u : UnitName) → is_of life u ≡ true → (runs : List Run) → has_run u (runs_from log.low (runs ++ run ∷ [])) ≡ has_run u (runs_from log.low runs)
    by u is [] = one u is (nat_le log.low run.first)
    by u is (r ∷ runs) = more (nat_le log.low r.first) (by u is runs)
      where
        more : (b : Bool) → has_run u (runs_from log.low (runs ++ run ∷ [])) ≡ has_run u (runs_from log.low runs)
            → has_run u (cond b (r ∷ runs_from log.low (runs ++ run ∷ [])) (runs_from log.low (runs ++ run ∷ []))) ≡ has_run u (cond b (r ∷ runs_from log.low runs) (runs_from log.low runs))
        more true e = ap (λ (b : Bool). same_unit u r.unit || b) e
        more false e = e

pub dropped_agrees : (life : Member × Incarnation) (log : Log) (page : ℕ) → page ≤ log.low → AgreeOn life log (record log { runs = filter (λ run. nat_le page run.first) log.runs; keep = page })
dropped_agrees life log page below = record { low = refl; runs = λ u is. ap (has_run u) (by log.runs) }
  where
    over : (first : ℕ) → nat_le page first ≡ false → nat_le log.low first ≡ false
    over first is = grind (arith, nat_tests, below)

    by : (runs : List Run) → runs_from log.low (filter (λ run. nat_le page run.first) runs) ≡ runs_from log.low runs
    by [] = refl
    by (r ∷ runs) = at (nat_le page r.first) refl (by runs)
      where
        at : (b : Bool) → nat_le page r.first ≡ b → runs_from log.low (filter (λ run. nat_le page run.first) runs) ≡ runs_from log.low runs
            → runs_from log.low (cond b (r ∷ filter (λ run. nat_le page run.first) runs) (filter (λ run. nat_le page run.first) runs)) ≡ runs_from log.low (r ∷ runs)
        at true e more = ap (λ (l : List Run). cond (nat_le log.low r.first) (r ∷ l) l) more
        at false e more = more ∙ sym (ap (λ (b : Bool). cond b (r ∷ runs_from log.low runs) (runs_from log.low runs)) (over r.first e))

-- ---- written pages only

pub begun_written : (low : ℕ) (kept : KeptLog) → low ≤ kept.writer.next → HasReadWritten (new_walk low kept.writer.size) kept
begun_written low kept within = λ goes none. within

fed_kept : (kept : KeptLog) (page : Option KeptPage) (old new : Walk) (records : List LogRecord) → HasReadWritten old kept → FeedsKept page old records new → HasReadWritten new kept
fed_kept kept None old new records read feeds = subst (λ (w : Walk). HasReadWritten w kept) (sym feeds.1) read
fed_kept kept (Some page) old new records read feeds = λ goes none.
    subst (λ (n : ℕ). n ≤ kept.writer.next) (sym (ap (λ (w : Walk). w.next) feeds.rest)) (read (subst (λ (n : ℕ). 0 < n) (ap (λ (w : Walk). w.left) feeds.rest) goes) none)

pub fed_written : (kept : KeptLog) (old new : Walk) (records : List LogRecord) → HasReadWritten old kept → Feeds old records new → HasReadWritten new kept
fed_written kept old new records read feeds = fed_kept kept old.kept old new records read feeds

pub read_written : (low : ℕ) (kept : KeptLog) (w : Walk) (found : Option (List ℕ)) → HasReadWritten w kept → 0 < w.left → IsTied low kept.writer kept.bytes → found ≡ read_at kept.bytes kept.writer.size w.next → HasReadWritten (after_read found w) kept
read_written low kept w None read goes tied is = λ more none. absurd (omega (arith, more))
read_written low kept w (Some page) read goes tied is = λ more none. by none (cases_lt w.next kept.writer.next)
  where
    by : kept.writer.hand ≡ None → (w.next < kept.writer.next) ⊎ (kept.writer.next ≤ w.next) → w.next + 1 ≤ kept.writer.next
    by none (inl less) = omega (arith, less)
    by none (inr over) =
        let at : w.next ≡ kept.writer.next = omega (arith, over, read goes none) in
        absurd (none-some page (sym (none_at_next low kept.writer kept.bytes none tied) ∙ sym (ap (read_at kept.bytes kept.writer.size) at) ∙ sym is))

-- a walk has read one page at most that isn't written
one_ahead : (life : Member × Incarnation) (log : Log) (kept : KeptLog) (w : Walk) → IsReading life log kept w → IsTied log.low kept.writer kept.bytes → 0 < w.left → w.next ≤ kept.writer.next + 1
one_ahead life log kept w r tied goes = by _ (r.goes_on goes)
  where
    long : length (written_from log.low kept) ≡ kept.writer.next - log.low
    long = written_length log.low kept.writer kept.bytes tied

    by : (all : List (List ℕ)) → IsUnderWay life log kept w all r.reader → w.next ≤ kept.writer.next + 1
    by all on = elim on.pages [
      | inl a ↦ omega (arith, on.next, ap length a.1, length-append all a.0, long, tied.from)
      | inr a ↦ omega (arith, on.next, ap length a.0.are, length-append (written_from log.low kept) (a.0.page ∷ []), long, tied.from)
    ]

-- a step that leaves no run in hand has made a page safe, or there was none
step_next : (log new : LogState) → new ≡ advanced log → new.hand ≡ None → (log.hand ≡ None) × (new.next ≡ log.next) ⊎ (new.next ≡ log.next + 1)
step_next log new is none = by log.hand refl is
  where
    phases : (hand : Hand) (phase : Phase) → new ≡ advanced_by log hand phase → (log.hand ≡ None) × (new.next ≡ log.next) ⊎ (new.next ≡ log.next + 1)
    phases hand Fresh is = absurd (none-some _ (sym none ∙ ap (λ (l : LogState). l.hand) is))
    phases hand GateShut is = absurd (none-some _ (sym none ∙ ap (λ (l : LogState). l.hand) is))
    phases hand ShutSafe is = absurd (none-some _ (sym none ∙ ap (λ (l : LogState). l.hand) is))
    phases hand BodyWritten is = absurd (none-some _ (sym none ∙ ap (λ (l : LogState). l.hand) is))
    phases hand BodySafe is = absurd (none-some _ (sym none ∙ ap (λ (l : LogState). l.hand) is))
    phases hand GateWritten is = inr (ap (λ (l : LogState). l.next) is)

    by : (hand : Option Hand) → log.hand ≡ hand → new ≡ (elim hand as (λ _. LogState) [ None ↦ log | Some h ↦ advanced_by log h h.phase ]) → (log.hand ≡ None) × (new.next ≡ log.next) ⊎ (new.next ≡ log.next + 1)
    by None idle is = inl (idle, ap (λ (l : LogState). l.next) is)
    by (Some hand) idle is = phases hand hand.phase is

pub step_written : (life : Member × Incarnation) (log : Log) (old new : KeptLog) (w : Walk) → IsReading life log old w → IsTied log.low old.writer old.bytes → HasReadWritten w old → new.writer ≡ advanced old.writer → HasReadWritten w new
step_written life log old new w r tied read is = λ goes none. elim (step_next old.writer new.writer is none) [
  | inl at ↦ omega (arith, read goes at.0, at.1)
  | inr next ↦ omega (arith, one_ahead life log old w r tied goes, next)
]

pub same_read : (old new : KeptLog) (w : Walk) → new.writer.next ≡ old.writer.next → (new.writer.hand ≡ None → old.writer.hand ≡ None) → HasReadWritten w old → HasReadWritten w new
same_read old new w next idle read = λ goes none. omega (arith, read goes (idle none), next)

pub unread_written : (low : ℕ) (kept : KeptLog) (w : Walk) → low ≤ kept.writer.next → KeepsLast low w → (0 < w.left → w.kept ≡ None) → HasReadWritten w kept
unread_written low kept w within keeps none = λ goes idle. omega (arith, within, keeps goes (none goes))

-- ---- the page that was read last is kept

pub begun_keeps : (low size : ℕ) → KeepsLast low (new_walk low size)
begun_keeps low size = λ goes none. refl

pub read_keeps : (low : ℕ) (w : Walk) (found : Option (List ℕ)) → w.kept ≡ None → KeepsLast low (after_read found w)
read_keeps low w None none = λ goes same. absurd (omega (arith, goes))
read_keeps low w (Some page) none = λ goes same. absurd (none-some _ (sym same))
