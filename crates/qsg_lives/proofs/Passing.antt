-- the next page of a log, while no unit of its member is being written, may be a later one; and pages may be given up of all logs
use Rattle.std.proofs.Common.{◌≡◌, ℕ, ◌+◌, ◌≤◌, List, [], ◌∷◌, ◌++◌, true, cond, Option, Some, None, map, refl, sym, ap, subst, ◌∙◌, arith}
use Rattle.std.specs.Prelude.{filter, nat_le}
use Rattle.std.specs.Option.{option_and_then}
use Rattle.qsg_num.specs.declared.seats.Member.{Member}
use Rattle.qsg_num.specs.declared.seats.Member.TheVariants as member
use Rattle.qsg_num.specs.declared.ids.UnitName.{UnitName}
use Rattle.qsg_msg.specs.declared.message.Message.{Message}
use Rattle.qsg_lists.specs.declared.parts.Mark.{Mark}
use Rattle.qsg_lists.specs.declared.parts.Mark.TheVariants.{Visible, PutBy, GotBy, Cleanup}
use Rattle.qsg_group.specs.declared.tasks.Stage.{Stage}
use Rattle.qsg_group.specs.declared.tasks.Stage.TheVariants.{Open, Hardening, Committed, BackedOut}
use Rattle.qsg_group.specs.Group.{Held, Run, Log, Group}
use Rattle.qsg_group.specs.Observers.{entry_at, has_run, counted, counted_by, is_hardening}
use Rattle.qsg_group.specs.Laws.{told_of, AreRuns, RunsFrom, IsKept, IsNext, IsPlaced, Laws}
use Rattle.qsg_group.specs.Changes.{given_up}
use Rattle.qsg_group.specs.Changes.Change.{GivesUp}
use Rattle.qsg_group.proofs.Keeping.{laws_stay}
use Rattle.qsg_num.specs.declared.seats.TaskNo.{TaskNo}

-- ---- later next pages

-- a log with a later next page
pub record IsPassed (old new : Log) : Type 0 where
  pub runs : new.runs ≡ old.runs
  pub low : new.low ≡ old.low
  pub keep : new.keep ≡ old.keep
  pub next : old.next ≤ new.next

runs_later : (from next later : ℕ) (runs : List Run) → next ≤ later → AreRuns from next runs → AreRuns from later runs
runs_later from next later [] more are = omega (arith, are, more)
runs_later from next later (run ∷ runs) more are = (are.0, runs_later (run.first + 1) next later runs more are.1)

counts_same : (old new : Member → Log) → ((m : Member) → (new m).runs ≡ (old m).runs) → (msg : Message) (mark : Mark) → counted_by new msg mark ≡ counted_by old msg mark
counts_same old new same msg Visible = refl
counts_same old new same msg (PutBy u) = ap (λ rs. cond (has_run u rs) (Some msg) None) (same u.member)
counts_same old new same msg (GotBy u) = ap (λ rs. cond (has_run u rs) None (Some msg)) (same u.member)
counts_same old new same msg Cleanup = refl

settled_same : (old new : Member → Log) → ((m : Member) → (new m).runs ≡ (old m).runs) → (e : Option Held) → option_and_then (counted new) e ≡ option_and_then (counted old) e
settled_same old new same None = refl
settled_same old new same (Some e) = counts_same old new same e.message e.mark

from_same : (old new : Log) (u : UnitName) → IsPassed old new → RunsFrom old.low u old.runs → RunsFrom new.low u new.runs
from_same old new u is from = subst (λ (n : ℕ). RunsFrom n u new.runs) (sym is.low) (subst (RunsFrom old.low u) (sym is.runs) from)

kept_same : (old new : Member → Log) → ((m : Member) → IsPassed (old m) (new m)) → (mark : Mark) → IsKept old mark → IsKept new mark
kept_same old new is Visible kept = tt
kept_same old new is (PutBy u) kept = from_same (old u.member) (new u.member) u (is u.member) kept
kept_same old new is (GotBy u) kept = from_same (old u.member) (new u.member) u (is u.member) kept
kept_same old new is Cleanup kept = tt

next_same : (old new : ℕ) (stage : Stage) → (is_hardening stage ≡ true → new ≡ old) → IsNext old stage → IsNext new stage
next_same old new Open same next = tt
next_same old new (Hardening first) same next = next ∙ sym (same refl)
next_same old new (Committed first settled) same next = tt
next_same old new (BackedOut settled) same next = tt

pub laws_pass : (g : Group) (logs : Member → Log) → Laws g → ((m : Member) → IsPassed (g.logs m) (logs m)) → ((m : Member) (t : TaskNo) → is_hardening (g.tasks m t).stage ≡ true → (logs m).next ≡ (g.logs m).next)
    → Laws (record g { logs = logs })
laws_pass g logs laws is same = record {
  legal = laws.legal;
  logged = λ m. let l = laws.logged m in record {
    front = l.front;
    tells = l.tells ∙ ap (λ rs. l.front ++ map told_of rs) (sym (is m).runs);
    whole = λ none. l.whole (sym (is m).keep ∙ none);
  };
  logs = λ m. let l = laws.logs m in record {
    runs = subst (λ (n : ℕ). AreRuns n (logs m).next (logs m).runs) (sym (is m).keep) (subst (AreRuns (g.logs m).keep (logs m).next) (sym (is m).runs) (runs_later (g.logs m).keep (g.logs m).next (logs m).next (g.logs m).runs (is m).next l.runs));
    low_kept = omega (arith, l.low_kept, (is m).low, (is m).keep);
    low_written = omega (arith, l.low_written, (is m).low, (is m).next);
  };
  shelves = laws.shelves;
  epochs = laws.epochs;
  fresh = laws.fresh;
  good = λ s active id. settled_same g.logs logs (λ m. (is m).runs) (entry_at id (g.shelves s).entries) ∙ laws.good s active id;
  marked = laws.marked;
  done = laws.done;
  ready = laws.ready;
  apart = laws.apart;
  given = laws.given;
  connected = laws.connected;
  noted = laws.noted;
  emptied = laws.emptied;
  resting = laws.resting;
  in_hand = λ u t has. let l = laws.in_hand u t has in record {
    live = l.live;
    drawn = l.drawn;
    in_history = l.in_history;
    in_log = ap (has_run u) (is u.member).runs ∙ l.in_log;
  };
  once = laws.once;
  drawn = laws.drawn;
  ended = laws.ended;
  kept = record {
    of_marked = λ s id e there. kept_same g.logs logs is e.mark (laws.kept.of_marked s id e there);
    of_held = λ u t has. from_same (g.logs u.member) (logs u.member) u (is u.member) (laws.kept.of_held u t has);
  };
  placed = λ u t has. subst (λ rs. IsPlaced u rs (g.tasks u.member t).stage) (sym (is u.member).runs) (laws.placed u t has);
  latched = record { next = λ m t. next_same (g.logs m).next (logs m).next (g.tasks m t).stage (same m t) (laws.latched.next m t); one = laws.latched.one };
}

-- ---- pages that are given up

abbrev pub from_page : ℕ → Log → Log
from_page page log = record log { runs = filter (λ (run : Run). nat_le page run.first) log.runs; keep = page }

gives : (g : Group) (m : Member) (page : ℕ) → (g.logs m).keep ≤ page → page ≤ (g.logs m).low → Laws g → Laws (given_up g m page)
gives g m page rises low laws = laws_stay g (given_up g m page) (GivesUp g m page (record { rises = rises; low = low })) laws

-- of each member's log the pages before one may be given up
pub laws_given_up : (g : Group) (page : Member → ℕ) → ((m : Member) → (g.logs m).keep ≤ page m) → ((m : Member) → page m ≤ (g.logs m).low) → Laws g → Laws (record g { logs = λ m. from_page (page m) (g.logs m) })
laws_given_up g page rises low laws =
    let p : (m : Member) → ℕ = page in
    let g1 = given_up g member.One (p member.One) in
    let g2 = given_up g1 member.Two (p member.Two) in
    let g3 = given_up g2 member.Three (p member.Three) in
    let g4 = given_up g3 member.Four (p member.Four) in
    let g5 = given_up g4 member.Five (p member.Five) in
    let g6 = given_up g5 member.Six (p member.Six) in
    let g7 = given_up g6 member.Seven (p member.Seven) in
    let g8 = given_up g7 member.Eight (p member.Eight) in
    let l1 = gives g member.One (p member.One) (rises member.One) (low member.One) laws in
    let l2 = gives g1 member.Two (p member.Two) (rises member.Two) (low member.Two) l1 in
    let l3 = gives g2 member.Three (p member.Three) (rises member.Three) (low member.Three) l2 in
    let l4 = gives g3 member.Four (p member.Four) (rises member.Four) (low member.Four) l3 in
    let l5 = gives g4 member.Five (p member.Five) (rises member.Five) (low member.Five) l4 in
    let l6 = gives g5 member.Six (p member.Six) (rises member.Six) (low member.Six) l5 in
    let l7 = gives g6 member.Seven (p member.Seven) (rises member.Seven) (low member.Seven) l6 in
    let l8 = gives g7 member.Eight (p member.Eight) (rises member.Eight) (low member.Eight) l7 in
    let each : (m : Member) → (g8.logs m) ≡ from_page (page m) (g.logs m) = λ m. elim m as (λ k. g8.logs k ≡ from_page (page k) (g.logs k)) [
      | member.One ↦ refl
      | member.Two ↦ refl
      | member.Three ↦ refl
      | member.Four ↦ refl
      | member.Five ↦ refl
      | member.Six ↦ refl
      | member.Seven ↦ refl
      | member.Eight ↦ refl
    ] in
    subst Laws ((λ i. record g { logs = λ m. each m i })) l8
