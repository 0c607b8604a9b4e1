-- what steps need, and what all but the last one leave of it
use Rattle.std.proofs.Common.{◌≡◌, inl, inr, ℕ, zero, suc, ◌-◌, true, false, List, [], ◌∷◌, length, Result, Ok, Err, refl, sym, ap, subst, ◌∙◌, get_or, arith}
use Rattle.std.specs.Prelude.{slice_set, IfOk, OnErr}
use Rattle.std.proofs.lemmas.List.{length-set}
use Rattle.qsg_num.specs.declared.seats.Member.{Member}
use Rattle.qsg_num.specs.Seats.{member_number}
use Rattle.qsg_repo.specs.Tables.{low_of}
use Rattle.qsg_manager.specs.Storage.{manager_in}
use Rattle.qsg_logs.specs.Kept.{KeptLog, no_log, log_in}
use Rattle.qsg_logs.specs.Reading.{IsRead}
use Rattle.qsg_parts.specs.Owned.{Owned, HasMember}
use Rattle.qsg_start.specs.declared.phases.NoMemory.{NoMemory}
use Rattle.qsg_start.specs.declared.phases.StartTurn.{StartTurn}
use Rattle.qsg_start.specs.declared.phases.StartTurn.TheVariants.{More}
use Rattle.qsg_start.specs.declared.phases.Phase.{Phase}
use Rattle.qsg_start.specs.declared.phases.Phase.TheVariants.{Check, Low, Read, Begin}
use Rattle.qsg_start.specs.Works.{Work}
use Rattle.qsg_start.specs.Needs.{MayStart, MayStepAt, MayStep, takes_memory}
use Rattle.qsg_start.specs.Steps.{Next, after_check, after_low, after_begin, HasRead, Acts, LacksMemory, GoesOn, NextAt, NextStart, is_start, starts}
use Rattle.qsg_start.proofs.Leaving.{parts_are, checked_parts}

-- ---- what a step needs

may_at : (phase : Phase) (m : Member) (p : Owned) → MayStart m p → MayStepAt phase m p
may_at Check m p may = may.low.member
may_at Low m p may = may.low
may_at Read m p may = may.low.member
may_at (Begin page) m p may = may.begin

pub may_step : (w : Work) (p : Owned) → MayStart w.member p → MayStep w p
may_step w p may = may_at w.phase w.member p may

pub still_may : (m : Member) (p q : Owned) → HasRead m p q → MayStart m p → MayStart m q
still_may m p q has may =
    let logs : length q.logs ≡ length p.logs = ap (λ (x : Owned). length x.logs) has.others ∙ length-set p.logs (member_number m - 1) (log_in m q.logs) in
    let managers : length q.managers ≡ length p.managers = ap (λ (x : Owned). length x.managers) has.others in
    let next : (log_in m q.logs).writer.next ≡ (log_in m p.logs).writer.next = ap (λ (l : KeptLog). l.writer.next) has.log.rest in
    let low : (low_of m q.repo).number ≡ (low_of m p.repo).number = ap (λ (x : Owned). (low_of m x.repo).number) has.others in
    let lives : length q.repo.lives ≡ length p.repo.lives = ap (λ (x : Owned). length x.repo.lives) has.others in
    let given : q.repo.starts ≡ p.repo.starts = ap (λ (x : Owned). x.repo.starts) has.others in
    let member : HasMember m q = record { manager = omega (arith, managers, may.low.member.manager); log = omega (arith, logs, may.low.member.log) } in
    record {
      low = record { member = member; low = omega (arith, next, low, may.low.low) };
      begin = record { member = member; left = omega (arith, lives, given, may.begin.left) };
    }

-- ---- what a step leaves

set_same : (xs : List KeptLog) (k : ℕ) (d : KeptLog) → slice_set xs k (get_or xs k d) ≡ xs
set_same [] k d = refl
set_same (y ∷ xs) zero d = refl
set_same (y ∷ xs) (suc k) d = ap (λ (l : List KeptLog). y ∷ l) (set_same xs k d)

same_read : (log : KeptLog) → IsRead log log
same_read log = record { rest = refl; bytes = λ tells. refl; later = omega arith }

nothing_read : (m : Member) (p : Owned) → HasRead m p p
nothing_read m p = record { others = ap (λ (l : List KeptLog). record p { logs = l }) (sym (set_same p.logs (member_number m - 1) no_log)); log = same_read (log_in m p.logs) }

all_same : (m : Member) (p q : Owned) → q ≡ p → HasRead m p q
all_same m p q is = subst (HasRead m p) (sym is) (nothing_read m p)

begun_starts : (next : Next) (turn : StartTurn) (v : Work) (q : Owned) → record { turn = turn; work = v; parts = q } ≡ next → is_start next.turn ≡ true → is_start turn ≡ true
begun_starts next turn v q is starts = ap (λ (n : Next). is_start n.turn) is ∙ starts

act_reads : (phase : Phase) (w : Work) (p : Owned) (result : Result StartTurn NoMemory) (v : Work) (q : Owned) → Acts phase w p result v q → starts result ≡ false → HasRead w.member p q
act_reads Check w p (Ok turn) v q acts other = all_same w.member p q (parts_are (after_check w p) turn v q acts ∙ checked_parts (manager_in w.member p.managers).up w p)
act_reads Check w p (Err e) v q acts other = absurd acts
act_reads Low w p (Ok turn) v q acts other = all_same w.member p q (parts_are (after_low w p) turn v q acts)
act_reads Low w p (Err e) v q acts other = absurd acts
act_reads Read w p (Ok turn) v q acts other = acts.0
act_reads Read w p (Err e) v q acts other = absurd acts
act_reads (Begin page) w p (Ok turn) v q acts other = let yes = begun_starts (after_begin page w p) turn v q acts refl in absurd (cc (other, yes))
act_reads (Begin page) w p (Err e) v q acts other = absurd acts

on_reads : (w : Work) (p : Owned) (result : Result StartTurn NoMemory) (v : Work) (q : Owned) → GoesOn w p result v q → starts result ≡ false → HasRead w.member p q
on_reads w p result v q (inl given) other = all_same w.member p q given.parts_are
on_reads w p result v q (inr (inl lacks)) other = all_same w.member p q lacks.parts_are
on_reads w p result v q (inr (inr acted)) other = act_reads w.phase (record w { walk = acted.walk }) p result v q acted.acts other

reads_at : (phase : Phase) (w : Work) (p : Owned) (result : Result StartTurn NoMemory) (v : Work) (q : Owned) → NextAt phase w p result v q → starts result ≡ false → HasRead w.member p q
reads_at Check w p result v q next other = act_reads Check w p result v q next other
reads_at Low w p result v q next other = act_reads Low w p result v q next other
reads_at Read w p result v q next other = on_reads w p result v q next other
reads_at (Begin page) w p result v q next other = on_reads w p result v q next other

pub only_reads : (w : Work) (p : Owned) (result : Result StartTurn NoMemory) (v : Work) (q : Owned) → NextStart w p result v q → starts result ≡ false → HasRead w.member p q
only_reads w p result v q next other = reads_at w.phase w p result v q next other

pub ready_after : (w : Work) (p : Owned) (result : Result StartTurn NoMemory) (v : Work) (q : Owned) → v.member ≡ w.member → NextStart w p result v q → MayStart w.member p → IfOk result (λ turn. turn ≡ More → MayStart v.member q)
ready_after w p (Ok turn) v q same next may = λ more.
    subst (λ (m : Member). MayStart m q) (sym same) (still_may w.member p q (only_reads w p (Ok turn) v q next (ap is_start more)) may)
ready_after w p (Err e) v q same next may = tt

-- ---- memory

act_unmade : (phase : Phase) (w : Work) (p : Owned) (e : NoMemory) (v : Work) (q : Owned) → Acts phase w p (Err e) v q → ⊥
act_unmade Check w p e v q acts = acts
act_unmade Low w p e v q acts = acts
act_unmade Read w p e v q acts = acts
act_unmade (Begin page) w p e v q acts = acts

on_unmade : (w : Work) (p : Owned) (e : NoMemory) (v : Work) (q : Owned) → GoesOn w p (Err e) v q → LacksMemory w p (Err e) v q
on_unmade w p e v q (inl given) = absurd (cc given.turn_is)
on_unmade w p e v q (inr (inl lacks)) = lacks
on_unmade w p e v q (inr (inr acted)) = absurd (act_unmade w.phase (record w { walk = acted.walk }) p e v q acted.acts)

unmade_at : (phase : Phase) (w : Work) (p : Owned) (e : NoMemory) (v : Work) (q : Owned) → NextAt phase w p (Err e) v q → LacksMemory w p (Err e) v q
unmade_at Check w p e v q next = absurd next
unmade_at Low w p e v q next = absurd next
unmade_at Read w p e v q next = on_unmade w p e v q next
unmade_at (Begin page) w p e v q next = on_unmade w p e v q next

pub memory_taken : (w : Work) (p : Owned) (result : Result StartTurn NoMemory) (v : Work) (q : Owned) → NextStart w p result v q → OnErr result (takes_memory w ≡ true)
memory_taken w p (Ok turn) v q next = tt
memory_taken w p (Err e) v q next = (unmade_at w.phase w p e v q next).takes

-- a step that lacks memory changes nothing
pub unmade : (w : Work) (p : Owned) (result : Result StartTurn NoMemory) (v : Work) (q : Owned) → NextStart w p result v q → OnErr result ((v ≡ w) × (q ≡ p))
unmade w p (Ok turn) v q next = tt
unmade w p (Err e) v q next = let lacks = unmade_at w.phase w p e v q next in (lacks.work_is, lacks.parts_are)
