-- what a walk over the log of a failed member has read stays so while others go on
use Rattle.std.proofs.Common.{◌≡◌, inl, inr, ℕ, ◌≤◌, Bool, true, false, List, [], ◌∷◌, length, Option, Some, None, refl, sym, ap, subst, ◌∙◌, true≢false}
use Rattle.std.specs.Prelude.{◌&&◌, ◌||◌, ◌⊎◌, map}
use Rattle.std.specs.List.{list_any}
use Rattle.std.proofs.lemmas.Bool.{and_parts, cases_Bool}
use Rattle.std.proofs.lemmas.Option.{none-some}
use Rattle.qsg_num.specs.declared.seats.Member.{Member}
use Rattle.qsg_num.specs.declared.ids.Incarnation.{Incarnation}
use Rattle.qsg_num.specs.Seats.{member_number}
use Rattle.qsg_logpage.specs.Log.{LogState}
use Rattle.qsg_repo.specs.Lives.{is_member, is_life, is_failed, is_failed_of, is_failed_life, failed_life}
use Rattle.qsg_repo.specs.Calls.{has_failed, is_unresolved}
use Rattle.qsg_repo.specs.Tables.{Repository, low_of}
use Rattle.qsg_group.specs.Group.{Run}
use Rattle.qsg_group.specs.Laws.{HasEnded}
use Rattle.qsg_group.specs.Observers.{runs_from}
use Rattle.qsg_group.specs.declared.tasks.Task.{Task}
use Rattle.qsg_group.proofs.Tables.{cases_member}
use Rattle.qsg_unitlog.specs.Tells.{Tells}
use Rattle.qsg_manager.specs.Groups.{seat_of}
use Rattle.qsg_manager.specs.Storage.{manager_in}
use Rattle.qsg_logs.specs.Kept.{KeptLog, log_in}
use Rattle.qsg_logs.specs.Cuts.{IsCut}
use Rattle.qsg_parts.specs.Owned.{Owned}
use Rattle.qsg_walk.specs.Walks.{Walk}
use Rattle.qsg_steady.specs.Steady.{IsRunOf, tasks_of, AreTelling, IsLawful, IsSteady}
use Rattle.qsg_steady.proofs.Moving.{by_member}
use Rattle.qsg_steady.proofs.Places.{log_other}
use Rattle.qsg_crash.specs.Crashes.{IsCrash}
use Rattle.qsg_reading.specs.Knowing.{IsOfOthers}
use Rattle.qsg_reading.specs.Reading.{IsReading, HasReadWritten, KeepsLast, IsLater}
use Rattle.qsg_reading.proofs.Agreeing.{told_agrees, begun_agrees}
use Rattle.qsg_reading.proofs.Others.{later_reading, begun_reading, same_later, step_later, failed_later, cut_later, step_written, same_read}
use Rattle.qsg_peer.specs.declared.phases.FailedLife.{FailedLife}
use Rattle.qsg_peer.specs.Machine.{IsOver}
use Rattle.qsg_lives.proofs.Counting.{other_life}
use Rattle.qsg_lives.proofs.Incarnations.{same_life, life_is, fails_unresolved}
use Rattle.qsg_step.specs.States.{State, is_member_up}
use Rattle.qsg_sound.specs.Systems.{is_starting, goes_on, HasRead, Reads}
use Rattle.qsg_sound.proofs.SystemsLogs.{IsTakenInHand, GoesOn, quiet, begins, writes, fails, Moves}

abbrev pub pair : FailedLife → Member × Incarnation
pair life = (life.member, life.incarnation)

-- ---- logs and lists

-- what a lawful group's log tells from its low page on
pub tells_low : (p : Owned) (l : IsLawful p) (m : Member) (there : member_number m ≤ length p.managers)
    → Tells (l.rest.logs m).low (log_in m p.logs).writer (l.logs m there).told.gone (runs_from (l.rest.logs m).low (l.rest.logs m).runs) (l.logs m there).told.hand (log_in m p.logs).bytes
tells_low p l m there =
    let seen = l.logs m there in
    subst (λ (n : ℕ). Tells n (log_in m p.logs).writer seen.told.gone (runs_from n (l.rest.logs m).runs) seen.told.hand (log_in m p.logs).bytes) (sym seen.low) seen.told.later.0

pub hand_of_others : (a b : ℕ) (p : Owned) (m : Member) (life : FailedLife) (hand : Option Run) → IsSteady a b p → IsOver life p → IsRunOf (tasks_of (manager_in m p.managers)) hand → IsOfOthers (pair life) hand
hand_of_others a b p m life None s over is = tt
hand_of_others a b p m life (Some run) s over (t, ops, claims, is, told) = other_life a b p m t run.unit life s (ap (λ (x : Task). x.unit) is) over

any_weaker : {X : Type 0} (f g : X → Bool) (xs : List X) → ((x : X) → f x ≡ true → g x ≡ true) → list_any f xs ≡ true → list_any g xs ≡ true
any_weaker f g [] weaker is = is
any_weaker f g (x ∷ xs) weaker is = by (f x) (g x) (list_any f xs) (list_any g xs) (weaker x) (any_weaker f g xs weaker) is
  where
    by : (a b c d : Bool) → (a ≡ true → b ≡ true) → (c ≡ true → d ≡ true) → (a || c) ≡ true → (b || d) ≡ true
    by true b c d first rest is = ap (λ (x : Bool). x || d) (first refl)
    by false true c d first rest is = refl
    by false false c d first rest is = rest is

-- a member with an unresolved incarnation has one that failed
pub failed_of : (m : Member) (i : Incarnation) (repo : Repository) → is_unresolved m i repo ≡ true → has_failed m repo ≡ true
failed_of m i repo is = any_weaker (is_failed_life m i) (is_failed_of m) repo.lives (λ l one.
    let parts = and_parts (is_life m i l) (is_failed l.fate) one in
    let name = and_parts (is_member m l) _ parts.0 in
    (λ j. name.0 j && parts.1 j)) is

-- ---- a walk over a log that another goes on with

module _ (a b : ℕ) (life : FailedLife) (p q : Owned) (s : IsSteady a b p) (over : IsOver life p) (there : member_number life.member ≤ length p.managers) (still : member_number life.member ≤ length q.managers)
    (low : low_of life.member q.repo ≡ low_of life.member p.repo) (l : IsLawful p) where
  was_low : (k : IsLawful q) → (k.rest.logs life.member).low ≡ (l.rest.logs life.member).low
  was_low k = (k.logs life.member still).low ∙ ap (λ n. n.number) low ∙ sym (l.logs life.member there).low

  pub later_reads : (k : IsLawful q) (w : Walk) → IsLater (l.rest.logs life.member).low (log_in life.member p.logs) (log_in life.member q.logs)
      → IsReading (pair life) (l.rest.logs life.member) (log_in life.member p.logs) w → IsReading (pair life) (k.rest.logs life.member) (log_in life.member q.logs) w
  later_reads k w later reading =
      let m = life.member in
      let told = (l.logs m there).told in
      let now = (k.logs m still).told in
      later_reading (pair life) (l.rest.logs m) (k.rest.logs m) (log_in m p.logs) (log_in m q.logs) w reading
      (told_agrees (pair life) (l.rest.logs m) (k.rest.logs m) (log_in m p.logs) (log_in m q.logs) told.gone now.gone told.hand now.hand (was_low k)
      (tells_low p l m there) (tells_low q k m still) (hand_of_others a b p m life told.hand s over told.run) later) (λ goes. later)

  pub begun_reads : (k : IsLawful q) (w : Walk) → IsTakenInHand (log_in life.member p.logs) (log_in life.member q.logs) → HasReadWritten w (log_in life.member p.logs)
      → IsReading (pair life) (l.rest.logs life.member) (log_in life.member p.logs) w → IsReading (pair life) (k.rest.logs life.member) (log_in life.member q.logs) w
  begun_reads k w taken written reading =
      let m = life.member in
      let old = log_in m p.logs in
      let new = log_in m q.logs in
      let told = (l.logs m there).told in
      let now = (k.logs m still).told in
      later_reading (pair life) (l.rest.logs m) (k.rest.logs m) new new w
      (begun_reading (pair life) (l.rest.logs m) old new (Some taken.hand) w reading (tells_low p l m there).tied taken.idle written taken.writer taken.bytes)
      (begun_agrees (pair life) (l.rest.logs m) (k.rest.logs m) old new told.gone now.gone told.hand now.hand (was_low k) (tells_low p l m there) (tells_low q k m still) (Some taken.hand) taken.writer taken.bytes)
      (λ goes. same_later (l.rest.logs m).low new new refl refl refl refl)

-- the low page isn't behind the writer's next one
pub low_behind : (a b : ℕ) (p : Owned) (m : Member) (s : IsSteady a b p) (l : IsLawful p) → member_number m ≤ length p.managers → (l.rest.logs m).low ≤ (log_in m p.logs).writer.next
low_behind a b p m s l there = subst (λ (n : ℕ). n ≤ (log_in m p.logs).writer.next) (sym (l.logs m there).low) (s.behind m there).low

-- ---- a step

-- what a step does to the repository and to logs, where those tell their bytes
pub record Goes (p q : Owned) : Type 0 where
  pub unresolved : (k : Member) (i : Incarnation) → is_unresolved k i q.repo ≡ true → is_unresolved k i p.repo ≡ true
  pub lows : (k : Member) → has_failed k p.repo ≡ true → low_of k q.repo ≡ low_of k p.repo
  pub logs : length q.logs ≡ length p.logs
  pub tells : (k : Member) → (log_in k q.logs).tells ≡ (log_in k p.logs).tells
  pub goes : AreTelling p → (k : Member) → GoesOn (manager_in k p.managers).up k p q

goes_tell : (up : Bool) (k : Member) (p q : Owned) → GoesOn up k p q → (log_in k q.logs).tells ≡ (log_in k p.logs).tells
goes_tell up k p q (quiet is) = is.tells
goes_tell up k p q (begins alive taken) = taken.tells
goes_tell up k p q (writes written) = written.tells
goes_tell up k p q (fails failed) = failed.tells

pub goes_of : (p q : Owned) → Moves p q → Goes p q
goes_of p q moves = record {
  unresolved = λ k i is. subst (λ ls. list_any (is_failed_life k i) ls ≡ true) moves.lives is;
  lows = moves.lows;
  logs = moves.logs;
  tells = λ k. goes_tell (manager_in k p.managers).up k p q (moves.goes k);
  goes = λ telling. moves.goes;
}

pub tell_before : (p q : Owned) → length q.logs ≡ length p.logs → ((k : Member) → (log_in k q.logs).tells ≡ (log_in k p.logs).tells) → AreTelling q → AreTelling p
tell_before p q count tells telling k is = sym (tells k) ∙ telling k (subst (λ (n : ℕ). member_number k ≤ n) (sym count) is)

up_goes : (m : Member) (s : State) → is_member_up m s ≡ true → goes_on m s ≡ true
up_goes m s is = ap (λ (x : Bool). x || is_starting m s.starting) is

pub reads_still : (a b : ℕ) (life : FailedLife) (w : Walk) (s r : State) → IsSteady a b s.parts → IsOver life s.parts → member_number life.member ≤ length s.parts.managers → length r.parts.managers ≡ length s.parts.managers
    → Goes s.parts r.parts → (HasRead life w s → goes_on life.member r ≡ true → HasReadWritten w (log_in life.member s.parts.logs)) → Reads life w s → Reads life w r
reads_still a b life w s r steady over there count goes read reads telling unresolved =
    let p = s.parts in
    let q = r.parts in
    let m = life.member in
    let old = log_in m p.logs in
    let new = log_in m q.logs in
    let before : AreTelling p = tell_before p q goes.logs goes.tells telling in
    let was : is_unresolved m life.incarnation p.repo ≡ true = goes.unresolved m life.incarnation unresolved in
    let low = goes.lows m (failed_of m life.incarnation p.repo was) in
    by before low (steady.lawful before) (reads before was) (goes.goes before m)
  where
    p : Owned
    p = s.parts

    q : Owned
    q = r.parts

    m : Member
    m = life.member

    old : KeptLog
    old = log_in m p.logs

    new : KeptLog
    new = log_in m q.logs

    still : member_number m ≤ length q.managers
    still = subst (λ (n : ℕ). member_number m ≤ n) (sym count) there

    by : AreTelling p → low_of m q.repo ≡ low_of m p.repo → (l : IsLawful p) → HasRead life w s → GoesOn (manager_in m p.managers).up m p q → HasRead life w r
    by before low l has (quiet is) =
        let tells = before m (subst (λ (n : ℕ). member_number m ≤ n) (sym steady.shape.logs) there) in
        record {
          reads = λ k. later_reads a b life p q steady over there still low l k w (same_later (l.rest.logs m).low old new is.size is.next is.hand (is.bytes tells)) (has.reads l);
          last = subst (λ n. KeepsLast n.number w) (sym low) has.last;
          written = λ on. same_read old new w is.next (λ none. sym is.hand ∙ none) (read has on);
        }
    by before low l has (begins alive taken) = record {
      reads = λ k. begun_reads a b life p q steady over there still low l k w taken (has.written (up_goes m s alive)) (has.reads l);
      last = subst (λ n. KeepsLast n.number w) (sym low) has.last;
      written = λ on left none. absurd (none-some taken.hand (sym none ∙ ap (λ (x : LogState). x.hand) taken.writer));
    }
    by before low l has (writes written) =
        let tells = before m (subst (λ (n : ℕ). member_number m ≤ n) (sym steady.shape.logs) there) in
        let tied = (tells_low p l m there).tied in
        record {
          reads = λ k. later_reads a b life p q steady over there still low l k w (step_later (l.rest.logs m).low old new written.writer (written.pages tells (l.rest.logs m).low tied)) (has.reads l);
          last = subst (λ n. KeepsLast n.number w) (sym low) has.last;
          written = λ on. step_written (pair life) (l.rest.logs m) old new w (has.reads l) tied (read has on) written.writer;
        }
    by before low l has (fails failed) =
        let tells = before m (subst (λ (n : ℕ). member_number m ≤ n) (sym steady.shape.logs) there) in
        let tied = (tells_low p l m there).tied in
        record {
          reads = λ k. later_reads a b life p q steady over there still low l k w (failed_later (l.rest.logs m).low old new (low_behind a b p m steady l there) failed.writer (failed.earlier tells (l.rest.logs m).low tied)) (has.reads l);
          last = subst (λ n. KeepsLast n.number w) (sym low) has.last;
          written = λ on. same_read old new w (ap (λ (x : LogState). x.next) failed.writer) (λ none. sym (ap (λ (x : LogState). x.hand) failed.writer) ∙ none) (read has on);
        }

-- ---- the end of a member

-- an incarnation that is over isn't the one that is up
pub other_than_up : (life : FailedLife) (m : Member) (p : Owned) → IsOver life p → (manager_in m p.managers).up ≡ true → same_life life.member life.incarnation m (manager_in m p.managers).incarnation ≡ false
other_than_up life m p over alive = elim (cases_Bool (same_life life.member life.incarnation m (manager_in m p.managers).incarnation)) [
  | inl same ↦
      let is = life_is life.member m life.incarnation (manager_in m p.managers).incarnation same in
      let ended = subst (λ j. HasEnded life.incarnation.number (seat_of (manager_in j p.managers))) is.0 over in
      absurd (true≢false (sym alive ∙ ended.down (ap (λ (x : Incarnation). x.number) is.1)))
  | inr differ ↦ differ
]

pub other_log : (m : Member) (p q : Owned) → IsCrash m p q → (k : Member) → (member_number k ≡ member_number m → ⊥) → log_in k q.logs ≡ log_in k p.logs
other_log m p q crash k differ = ap (λ (x : Owned). log_in k x.logs) crash.parts ∙ log_other m k (log_in m q.logs) p.logs differ

-- which members' logs tell their bytes is as it was
pub crash_tells : (m : Member) (p q : Owned) → IsCrash m p q → (k : Member) → (log_in k q.logs).tells ≡ (log_in k p.logs).tells
crash_tells m p q crash = by_member (λ k. (log_in k q.logs).tells ≡ (log_in k p.logs).tells) m crash.log.tells (λ k differ. ap (λ (x : KeptLog). x.tells) (other_log m p q crash k differ))

pub reads_ended : (a b : ℕ) (life : FailedLife) (w : Walk) (m : Member) (s r : State) → IsSteady a b s.parts → IsOver life s.parts → member_number life.member ≤ length s.parts.managers → length r.parts.managers ≡ length s.parts.managers
    → length r.parts.logs ≡ length s.parts.logs → (manager_in m s.parts.managers).up ≡ true → IsCrash m s.parts r.parts → goes_on m r ≡ false → (goes_on life.member r ≡ true → goes_on life.member s ≡ true) → Reads life w s → Reads life w r
reads_ended a b life w m s r steady over there count logs alive crash off back reads telling unresolved =
    by_case (cases_member life.member m)
  where
    p : Owned
    p = s.parts

    q : Owned
    q = r.parts

    j : Member
    j = life.member

    i : Incarnation
    i = (manager_in m p.managers).incarnation

    still : member_number j ≤ length q.managers
    still = subst (λ (n : ℕ). member_number j ≤ n) (sym count) there

    before : AreTelling p
    before = tell_before p q logs (crash_tells m p q crash) telling

    tells : (log_in j p.logs).tells ≡ true
    tells = before j (subst (λ (n : ℕ). member_number j ≤ n) (sym steady.shape.logs) there)

    lives : q.repo.lives ≡ map (failed_life m i) p.repo.lives
    lives = ap (λ (x : Owned). x.repo.lives) crash.parts

    was_open : is_unresolved j life.incarnation p.repo ≡ true
    was_open = sym (fails_unresolved j m life.incarnation i p.repo.lives (other_than_up life m p over alive)) ∙ subst (λ ls. list_any (is_failed_life j life.incarnation) ls ≡ true) lives unresolved

    low : low_of j q.repo ≡ low_of j p.repo
    low = ap (λ (x : Owned). low_of j x.repo) crash.parts

    l : IsLawful p
    l = steady.lawful before

    has : HasRead life w s
    has = reads before was_open

    later : (k : IsLawful q) → IsLater (l.rest.logs j).low (log_in j p.logs) (log_in j q.logs) → IsReading (pair life) (k.rest.logs j) (log_in j q.logs) w
    later k goes = later_reads a b life p q steady over there still low l k w goes (has.reads l)

    by_case : (j ≡ m) ⊎ (member_number j ≡ member_number m → ⊥) → HasRead life w r
    by_case (inl same) = record {
      reads = λ k. later k (cut_later (l.rest.logs j).low crash.left (log_in j p.logs) (log_in j q.logs) (subst (λ x. IsCut crash.left (log_in x p.logs) (log_in x q.logs)) (sym same) crash.log) tells (tells_low p l j there).tied);
      last = subst (λ n. KeepsLast n.number w) (sym low) has.last;
      written = λ on. absurd (true≢false (sym on ∙ ap (λ x. goes_on x r) same ∙ off));
    }
    by_case (inr differ) =
        let is = other_log m p q crash j differ in
        record {
          reads = λ k. later k (subst (IsLater (l.rest.logs j).low (log_in j p.logs)) (sym is) (same_later (l.rest.logs j).low (log_in j p.logs) (log_in j p.logs) refl refl refl refl));
          last = subst (λ n. KeepsLast n.number w) (sym low) has.last;
          written = λ on. subst (HasReadWritten w) (sym is) (has.written (back on));
        }
