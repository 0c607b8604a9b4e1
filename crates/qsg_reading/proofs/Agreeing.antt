-- what the bytes of a log tell of the runs of an incarnation
use Rattle.std.proofs.Common.{◌≡◌, inl, inr, ℕ, true, ◌==◌, List, [], ◌∷◌, ◌++◌, Option, None, Some, refl, sym, ap, subst, ◌∙◌, eqb-true}
use Rattle.std.specs.List.{list_any}
use Rattle.qsg_num.specs.declared.seats.Member.{Member}
use Rattle.qsg_num.specs.declared.ids.Incarnation.{Incarnation}
use Rattle.qsg_num.specs.declared.ids.UnitName.{UnitName}
use Rattle.qsg_num.specs.Seats.{member_number}
use Rattle.qsg_num.proofs.Ranges.{member-same}
use Rattle.qsg_logpage.specs.Log.{Hand, LogState, hand_body}
use Rattle.qsg_logread.specs.Fed.{is_committed, commits_unit}
use Rattle.qsg_logread.proofs.Known.{same_pages_join}
use Rattle.qsg_group.specs.Group.{Run, Log}
use Rattle.qsg_group.specs.Observers.{has_run, runs_from}
use Rattle.qsg_unitlog.specs.Tells.{Tells}
use Rattle.qsg_unitlog.proofs.Lists.{both, no_head}
use Rattle.qsg_logs.specs.Kept.{KeptLog}
use Rattle.qsg_walk.specs.Walks.{Walk}
use Rattle.qsg_reading.specs.Knowing.{is_of, IsOfOthers, AgreeOn}
use Rattle.qsg_reading.specs.Reading.{page_in_hand, written_from, IsReading, IsLater}
use Rattle.qsg_reading.proofs.Commits.{Commits, written_commits, ahead_commits}
use Rattle.qsg_reading.proofs.Others.{same_written}
use Rattle.qsg_reading.proofs.Own.{ended_knows}

-- pages have one list of records, so they commit the same units
same_runs : (life : Member × Incarnation) (runs others : List Run) (pages more : List (List ℕ)) → Commits life runs pages → more ≡ pages → Commits life others more → (u : UnitName) → is_of life u ≡ true → has_run u others ≡ has_run u runs
same_runs life runs others pages more c same d u is =
    let e = subst (Commits life others) same d in
    sym (e.found u is) ∙ ap (list_any (commits_unit u)) (same_pages_join None e.after c.after pages e.records c.records e.joins c.joins).0 ∙ c.found u is

module _ (life : Member × Incarnation) (log after : Log) (old new : KeptLog) (gone later : List UnitName) (hand next : Option Run) (low : after.low ≡ log.low)
    (was : Tells log.low old.writer gone (runs_from log.low log.runs) hand old.bytes) (is : Tells after.low new.writer later (runs_from after.low after.runs) next new.bytes) where
  now : Commits life (runs_from after.low after.runs) (written_from log.low new)
  now = subst (λ (n : ℕ). Commits life (runs_from after.low after.runs) (written_from n new)) low
      (written_commits life after.low new.writer later (runs_from after.low after.runs) next new.bytes is)

  with_page : IsOfOthers life hand → (held : Option Hand) (page : List ℕ) → old.writer.hand ≡ held → page_in_hand old.writer ≡ page ∷ [] → Commits life (runs_from log.low log.runs) (written_from log.low old ++ page ∷ [])
  with_page others None page held in_hand = no_head page [] (sym (ap (hand_body _) held) ∙ in_hand)
  with_page others (Some h) page held in_hand =
      subst (λ (l : List (List ℕ)). Commits life (runs_from log.low log.runs) (written_from log.low old ++ l)) in_hand
      (ahead_commits life log.low old.writer gone (runs_from log.low log.runs) hand old.bytes h was others held)

  stays_agrees : written_from log.low new ≡ written_from log.low old → AgreeOn life log after
  stays_agrees same = record {
    low = low;
    runs = same_runs life (runs_from log.low log.runs) (runs_from after.low after.runs) (written_from log.low old) (written_from log.low new)
        (written_commits life log.low old.writer gone (runs_from log.low log.runs) hand old.bytes was) same now;
  }

  pub told_agrees : IsOfOthers life hand → IsLater log.low old new → AgreeOn life log after
  told_agrees others goes = elim goes.pages [
    | inl s ↦ stays_agrees s.pages
    | inr g ↦ record {
      low = low;
      runs = same_runs life (runs_from log.low log.runs) (runs_from after.low after.runs) (written_from log.low old ++ g.page ∷ []) (written_from log.low new)
          (with_page others old.writer.hand g.page refl g.in_hand) g.pages now;
    }
  ]

  pub begun_agrees : (held : Option Hand) → new.writer ≡ record old.writer { hand = held } → new.bytes ≡ old.bytes → AgreeOn life log after
  begun_agrees held writer bytes = stays_agrees (same_written log.low old new (ap (λ (l : LogState). l.size) writer) (ap (λ (l : LogState). l.next) writer) bytes)

-- ---- the end, by all logs

pub ended_knows_by_all : (life : Member × Incarnation) (logs : Member → Log) (kept : KeptLog) (w : Walk) → IsReading life (logs life.0) kept w → w.left ≡ 0 → w.kept ≡ None
    → (u : UnitName) → is_of life u ≡ true → is_committed u w.reader.commits ≡ has_run u (runs_from (logs u.member).low (logs u.member).runs)
ended_knows_by_all life logs kept w r left none u is =
    subst (λ (m : Member). is_committed u w.reader.commits ≡ has_run u (runs_from (logs m).low (logs m).runs))
    (sym (member-same u.member life.0 (eqb-true _ _ (both (member_number u.member == member_number life.0) (u.incarnation.number == life.1.number) is).0)))
    (ended_knows life (logs life.0) kept w r left none u is)
