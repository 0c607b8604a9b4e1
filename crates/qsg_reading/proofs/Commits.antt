-- what the pages of a log commit, with the page in hand or without
use Rattle.std.proofs.Common.{◌≡◌, inl, inr, ℕ, ◌+◌, ◌/◌, ◌<◌, Bool, true, false, ◌||◌, List, [], ◌∷◌, ◌++◌, length, Option, None, Some, refl, sym, ap, subst, ◌∙◌, append_assoc, arith, true≢false}
use Rattle.std.specs.List.{list_any}
use Rattle.std.proofs.lemmas.Bool.{cases_Bool}
use Rattle.std.proofs.lemmas.List.{append-nil, length-append}
use Rattle.std.proofs.lemmas.List.Folds.{list_any-append}
use Rattle.qsg_num.specs.declared.seats.Member.{Member}
use Rattle.qsg_num.specs.declared.ids.Incarnation.{Incarnation}
use Rattle.qsg_num.specs.declared.ids.UnitName.{UnitName}
use Rattle.qsg_num.specs.Ids.{same_unit}
use Rattle.qsg_disk.specs.Byte.{Byte}
use Rattle.qsg_logpage.specs.Page.{with_lap}
use Rattle.qsg_logpage.specs.Log.{Hand, LogState, hand_body, first_body, pages_written}
use Rattle.qsg_logrec.specs.declared.record.LogRecord.{LogRecord}
use Rattle.qsg_logread.specs.Records.{PagesJoin}
use Rattle.qsg_logread.specs.Logs.{lapped}
use Rattle.qsg_logread.specs.Fed.{Fed, is_committed, commits_unit, with_records}
use Rattle.qsg_logread.specs.Feeding.{WasFed}
use Rattle.qsg_logread.proofs.Known.{same_pages_join}
use Rattle.qsg_logread.proofs.Noted.{committed_records}
use Rattle.qsg_group.specs.Group.{Run}
use Rattle.qsg_group.specs.Observers.{has_run}
use Rattle.qsg_unitlog.specs.Units.{run_pages}
use Rattle.qsg_unitlog.specs.Tells.{Stand, Tells}
use Rattle.qsg_unitlog.proofs.Beside.{none_beside, front_beside}
use Rattle.qsg_unitlog.proofs.Lists.{same_is}
use Rattle.qsg_unitlog.proofs.Standing.{length_lapped, lapped_append, stand_append, stand_more, stand_records}
use Rattle.qsg_unitlog.proofs.Steps.{written_length}
use Rattle.qsg_unitlog.proofs.Told.{commits_found}
use Rattle.qsg_reading.specs.Knowing.{is_of, IsOfOthers}
use Rattle.qsg_reading.specs.Reading.{page_in_hand}

-- the pages have records, which commit just those of the incarnation's units that have one of these runs
pub record Commits (life : Member × Incarnation) (runs : List Run) (pages : List (List ℕ)) : Type 0 where
  pub records : List LogRecord
  pub after : Option (List ℕ)
  pub joins : PagesJoin None pages records after
  pub found : (u : UnitName) → is_of life u ≡ true → list_any (commits_unit u) records ≡ has_run u runs

-- what a reader knows that was fed such pages
pub known : (life : Member × Incarnation) (runs : List Run) (pages : List (List ℕ)) (records : List LogRecord) (reader : Fed) → Commits life runs pages → WasFed pages records reader
    → (u : UnitName) → is_of life u ≡ true → is_committed u reader.commits ≡ has_run u runs
known life runs pages records reader c fed u is =
    ap (is_committed u) fed.commits
    ∙ committed_records u [] records
    ∙ ap (list_any (commits_unit u)) (same_pages_join None reader.begun c.after pages records c.records fed.joins c.joins).0
    ∙ c.found u is

-- a reader that was fed pages
abbrev pub reader_of : List LogRecord → Option (List ℕ) → Fed
reader_of records after = record { begun = after; commits = with_records [] records }

pub fed_by : (pages : List (List ℕ)) (records : List LogRecord) (after : Option (List ℕ)) → PagesJoin None pages records after → WasFed pages records (reader_of records after)
fed_by pages records after joins = record { joins = joins; commits = refl }

-- ---- runs that stand

stands : (life : Member × Incarnation) (size : ℕ) (gone : List UnitName) (first : ℕ) (runs all : List Run) (pages : List (List ℕ)) → Stand size gone first all pages
    → ((u : UnitName) → is_of life u ≡ true → has_run u all ≡ has_run u runs) → Commits life runs pages
stands life size gone first runs all pages stand same =
    let x = stand_records size gone first all pages stand None in
    record { records = x.records; after = x.after; joins = x.joins; found = λ u is. commits_found u gone all x.records x.are ∙ same u is }

-- the first pages of the run in hand stand behind the others
fronts : (keep : ℕ) (log : LogState) (gone : List UnitName) (runs : List Run) (run : Run) (bytes : List Byte) (t : Tells keep log gone runs (Some run) bytes) (front back : List (List ℕ))
    → run_pages run.unit run.told t.in_hand.structures ≡ front ++ back → 0 < length back
    → Stand log.size (run.unit ∷ gone) keep (runs ++ []) (t.before ++ lapped log.size (keep + length t.before) front)
fronts keep log gone runs run bytes t front back are some =
    stand_append log.size (run.unit ∷ gone) keep (keep + length t.before) runs [] t.before (lapped log.size (keep + length t.before) front)
    (stand_more run.unit log.size gone keep runs t.before t.stand) refl
    (front_beside log.size (keep + length t.before) run.unit gone run.told t.in_hand.structures front back t.in_hand.each are some)

no_more : (runs : List Run) (u : UnitName) → has_run u (runs ++ []) ≡ has_run u runs
no_more runs u = ap (has_run u) (append-nil runs)

-- the pages that are written
pub written_commits : (life : Member × Incarnation) (keep : ℕ) (log : LogState) (gone : List UnitName) (runs : List Run) (hand : Option Run) (bytes : List Byte) → Tells keep log gone runs hand bytes → Commits life runs (pages_written keep log bytes)
written_commits life keep log gone runs None bytes t =
    subst (Commits life runs) (sym (t.pages ∙ ap (λ (l : List (List ℕ)). t.before ++ l) t.in_hand.1 ∙ append-nil t.before))
    (stands life log.size gone keep runs runs t.before t.stand (λ u is. refl))
written_commits life keep log gone runs (Some run) bytes t =
    subst (Commits life runs) (sym (t.pages ∙ ap (λ (l : List (List ℕ)). t.before ++ l) t.in_hand.safe_are))
    (stands life log.size (run.unit ∷ gone) keep runs (runs ++ []) (t.before ++ lapped log.size (keep + length t.before) t.in_hand.front)
    (fronts keep log gone runs run bytes t t.in_hand.front t.in_hand.hand.pages t.in_hand.pages_are t.in_hand.left) (λ u is. no_more runs u))

-- ---- and the page in hand

-- the safe pages of the run in hand, and one more
one_more : (keep : ℕ) (log : LogState) (gone : List UnitName) (runs : List Run) (run : Run) (bytes : List Byte) (t : Tells keep log gone runs (Some run) bytes) (body : List ℕ)
    → pages_written keep log bytes ++ with_lap (log.next / log.size) body ∷ [] ≡ t.before ++ lapped log.size (keep + length t.before) (t.in_hand.front ++ body ∷ [])
one_more keep log gone runs run bytes t body =
    let h = t.in_hand in
    let next : keep + length t.before + length h.front ≡ log.next =
    omega (
      arith,
      t.tied.from,
      written_length keep log bytes t.tied,
      ap length t.pages,
      length-append t.before t.safe,
      ap length h.safe_are,
      length_lapped log.size (keep + length t.before) h.front,
    ) in
    ap (λ (l : List (List ℕ)). l ++ with_lap (log.next / log.size) body ∷ []) t.pages
    ∙ append_assoc t.before t.safe (with_lap (log.next / log.size) body ∷ [])
    ∙ ap (λ (l : List (List ℕ)). t.before ++ l)
    ((λ i. h.safe_are i ++ with_lap (sym next i / log.size) body ∷ []) ∙ sym (lapped_append log.size (keep + length t.before) h.front (body ∷ [])))

or_false : (b c : Bool) → c ≡ false → (b || (c || false)) ≡ b
or_false true c is = refl
or_false false c is = ap (λ (x : Bool). x || false) is

apart : (life : Member × Incarnation) (u v : UnitName) → is_of life u ≡ true → is_of life v ≡ false → same_unit u v ≡ false
apart life u v one other = elim (cases_Bool (same_unit u v)) [ inl same ↦ absurd (true≢false (sym one ∙ ap (is_of life) (same_is u v same) ∙ other)) | inr no_same ↦ no_same ]

-- one run more, of no unit of the incarnation
pub other_run : (life : Member × Incarnation) (runs : List Run) (run : Run) (u : UnitName) → is_of life run.unit ≡ false → is_of life u ≡ true → has_run u (runs ++ run ∷ []) ≡ has_run u runs
other_run life runs run u other is =
    list_any-append (λ (x : Run). same_unit u x.unit) runs (run ∷ []) ∙ or_false (has_run u runs) (same_unit u run.unit) (apart life u run.unit is other)

with_page : (life : Member × Incarnation) (keep : ℕ) (log : LogState) (gone : List UnitName) (runs : List Run) (run : Run) (bytes : List Byte) (t : Tells keep log gone runs (Some run) bytes) → is_of life run.unit ≡ false
    → (pages : List (List ℕ)) → t.in_hand.hand.pages ≡ pages → Commits life runs (pages_written keep log bytes ++ with_lap (log.next / log.size) (first_body pages) ∷ [])
with_page life keep log gone runs run bytes t other [] are = absurd (omega (arith, t.in_hand.left, ap length are))
with_page life keep log gone runs run bytes t other (body ∷ []) are =
    let whole : t.in_hand.front ++ body ∷ [] ≡ run_pages run.unit run.told t.in_hand.structures = ap (λ (l : List (List ℕ)). t.in_hand.front ++ l) (sym are) ∙ sym t.in_hand.pages_are in
    subst (Commits life runs) (sym (one_more keep log gone runs run bytes t body ∙ ap (λ (l : List (List ℕ)). t.before ++ l) (λ i. lapped log.size (sym t.in_hand.first_is i) (whole i))))
    (stands life log.size gone keep runs (runs ++ run ∷ []) (t.before ++ lapped log.size run.first (run_pages run.unit run.told t.in_hand.structures))
    (stand_append log.size gone keep run.first runs (run ∷ []) t.before (lapped log.size run.first (run_pages run.unit run.told t.in_hand.structures)) t.stand (sym t.in_hand.first_is) (
      [],
      t.in_hand.structures,
      [],
      sym (append-nil (lapped log.size run.first (run_pages run.unit run.told t.in_hand.structures))),
      omega arith,
      none_beside gone,
      t.in_hand.each,
      none_beside gone,
    ))
    (λ u is. other_run life runs run u other is))
with_page life keep log gone runs run bytes t other (body ∷ next ∷ rest) are =
    subst (Commits life runs) (sym (one_more keep log gone runs run bytes t body))
    (stands life log.size (run.unit ∷ gone) keep runs (runs ++ []) (t.before ++ lapped log.size (keep + length t.before) (t.in_hand.front ++ body ∷ []))
    (fronts keep log gone runs run bytes t (t.in_hand.front ++ body ∷ []) (next ∷ rest)
    (t.in_hand.pages_are ∙ ap (λ (l : List (List ℕ)). t.in_hand.front ++ l) are ∙ sym (append_assoc t.in_hand.front (body ∷ []) (next ∷ rest))) (omega arith))
    (λ u is. no_more runs u))

-- the pages that are written and the one in hand, which is of no unit of the incarnation
pub ahead_commits : (life : Member × Incarnation) (keep : ℕ) (log : LogState) (gone : List UnitName) (runs : List Run) (hand : Option Run) (bytes : List Byte) (held : Hand)
    → Tells keep log gone runs hand bytes → IsOfOthers life hand → log.hand ≡ Some held → Commits life runs (pages_written keep log bytes ++ page_in_hand log)
ahead_commits life keep log gone runs None bytes held t other is = absurd (cc (sym t.in_hand.0 ∙ is))
ahead_commits life keep log gone runs (Some run) bytes held t other is =
    subst (λ (l : List (List ℕ)). Commits life runs (pages_written keep log bytes ++ l)) (sym (ap (hand_body (log.next / log.size)) t.in_hand.hand_is))
    (with_page life keep log gone runs run bytes t other t.in_hand.hand.pages refl)
