-- a step that waits changed nothing
use Rattle.std.proofs.Common.{◌≡◌, ℕ, Bool, true, false, cond, Option, Some, None, Result, Ok, Err, refl, ap, sym, ◌∙◌}
use Rattle.std.proofs.lemmas.Bool.{false≢true}
use Rattle.qsg_num.specs.declared.seats.Member.{Member}
use Rattle.qsg_num.specs.declared.seats.TaskNo.{TaskNo}
use Rattle.qsg_num.specs.declared.ids.UnitName.{UnitName}
use Rattle.qsg_lists.specs.declared.parts.Entry.{Entry}
use Rattle.qsg_lists.specs.declared.parts.Lost.{Lost}
use Rattle.qsg_lists.specs.declared.parts.Seen.{Seen}
use Rattle.qsg_lists.specs.declared.parts.WriteWhy.{WriteWhy}
use Rattle.qsg_logpage.specs.declared.writer.NoLog.{NoLog as NoPages}
use Rattle.qsg_requests.specs.declared.replies.Cause.{Cause}
use Rattle.qsg_requests.specs.declared.replies.Reason.{Reason}
use Rattle.qsg_requests.specs.declared.replies.Turn.{Turn}
use Rattle.qsg_requests.specs.declared.replies.Turn.TheVariants.{More, Ended, Waits}
use Rattle.qsg_requests.specs.declared.words.PutWords.{PutWords}
use Rattle.qsg_parts.specs.Owned.{Owned}
use Rattle.qsg_put.specs.declared.checking.Terms.{Terms as PutTerms}
use Rattle.qsg_put.specs.declared.phases.Phase.TheVariants as putting
use Rattle.qsg_put.specs.Works.{Work as PutWork}
use Rattle.qsg_put.specs.Steps as puts
use Rattle.qsg_get.specs.declared.checking.Terms.{Terms as GetTerms}
use Rattle.qsg_get.specs.declared.phases.Phase.TheVariants as getting
use Rattle.qsg_get.specs.Works.{Work as GetWork}
use Rattle.qsg_get.specs.Steps as gets
use Rattle.qsg_manager.specs.Storage.{task_at}
use Rattle.qsg_commit.specs.declared.phases.Phase.{Phase as Ending}
use Rattle.qsg_commit.specs.declared.phases.Phase.TheVariants as ending
use Rattle.qsg_commit.specs.declared.phases.Taken.{Taken}
use Rattle.qsg_commit.specs.declared.phases.Taken.TheVariants.{Nothing, Busy, Begun}
use Rattle.qsg_commit.specs.Pending.{pending}
use Rattle.qsg_commit.specs.Committing.{take_answer}
use Rattle.qsg_commit.specs.Next.{Next, LatchStep, NextAt, nothing_ended, unit_ended, after_give_up}
use Rattle.qsg_works.specs.declared.work.Work.{Work}
use Rattle.qsg_works.specs.declared.work.Work.TheVariants as work
use Rattle.qsg_works.specs.Steps.{NextWork}

abbrev waits : Turn → Bool
waits More = false
waits (Ended reply) = false
waits (Waits cause) = true

put_reserves : (m : Member) (t : TaskNo) (words : PutWords) (terms : PutTerms) (p : Owned) (r : Result (Unit {0}) NoPages) → waits (puts.after_reserve m t words terms p r).turn ≡ false
put_reserves m t words terms p (Ok done) = refl
put_reserves m t words terms p (Err why) = refl

put_checks : (m : Member) (t : TaskNo) (words : PutWords) (p : Owned) (r : Result PutTerms Reason) → waits (puts.after_check m t words p r).turn ≡ false
put_checks m t words p (Ok terms) = put_reserves m t words terms p _
put_checks m t words p (Err reason) = refl

put_connects : (m : Member) (t : TaskNo) (u : UnitName) (terms : PutTerms) (p : Owned) (r : Result Seen Lost) → waits (puts.after_connect m t u terms p r).turn ≡ false
put_connects m t u terms p (Ok seen) = refl
put_connects m t u terms p (Err lost) = refl

put_refuses : (m : Member) (t : TaskNo) (u : UnitName) (terms : PutTerms) (epoch : ℕ) (p : Owned) (r : Option Reason) → waits (puts.after_refusal m t u terms epoch p r).turn ≡ false
put_refuses m t u terms epoch p None = refl
put_refuses m t u terms epoch p (Some reason) = refl

put_writes : (m : Member) (t : TaskNo) (words : PutWords) (u : UnitName) (terms : PutTerms) (epoch : ℕ) (p : Owned) (r : Option WriteWhy) → waits (puts.after_write m t words u terms epoch p r).turn ≡ false
put_writes m t words u terms epoch p None = refl
put_writes m t words u terms epoch p (Some why) = put_refuses m t u terms epoch p _

-- a PUT never waits
pub put_goes_on : (work : PutWork) (p : Owned) → waits (puts.next_put work p).turn ≡ false
put_goes_on work p = by work.phase
  where
    by : (phase : _) → waits (puts.next_at work.member work.task work.words p phase).turn ≡ false
    by putting.Check = put_checks work.member work.task work.words p _
    by (putting.Connect u terms) = put_connects work.member work.task u terms p _
    by (putting.Write u terms epoch) = put_writes work.member work.task work.words u terms epoch p _

get_reserves : (m : Member) (t : TaskNo) (terms : GetTerms) (p : Owned) (r : Result (Unit {0}) NoPages) → waits (gets.after_reserve m t terms p r).turn ≡ false
get_reserves m t terms p (Ok done) = refl
get_reserves m t terms p (Err why) = refl

get_checks : (m : Member) (t : TaskNo) (p : Owned) (r : Result GetTerms Reason) → waits (gets.after_check m t p r).turn ≡ false
get_checks m t p (Ok terms) = get_reserves m t terms p _
get_checks m t p (Err reason) = refl

get_connects : (m : Member) (t : TaskNo) (u : UnitName) (terms : GetTerms) (p : Owned) (r : Result Seen Lost) → waits (gets.after_connect m t u terms p r).turn ≡ false
get_connects m t u terms p (Ok seen) = refl
get_connects m t u terms p (Err lost) = refl

get_takes : (m : Member) (t : TaskNo) (u : UnitName) (terms : GetTerms) (epoch : ℕ) (p : Owned) (lost : Option Lost) (found : Option Entry) → waits (gets.after_take m t u terms epoch p lost found).turn ≡ false
get_takes m t u terms epoch p (Some lost) found = refl
get_takes m t u terms epoch p None None = refl
get_takes m t u terms epoch p None (Some e) = refl

-- a GET never waits
pub get_goes_on : (work : GetWork) (p : Owned) → waits (gets.next_get work p).turn ≡ false
get_goes_on work p = by work.phase
  where
    by : (phase : _) → waits (gets.next_at work.member work.task work.queue work.select p phase).turn ≡ false
    by getting.Check = get_checks work.member work.task p _
    by (getting.Connect u terms) = get_connects work.member work.task u terms p _
    by (getting.Take u terms epoch) = get_takes work.member work.task u terms epoch p _ _

true_false : {P : Type 0} → true ≡ false → P
true_false e = absurd (false≢true (sym e))

put_waits : {P : Type 0} (work : PutWork) (p q : Owned) (cause : Cause) (phase : _) → record { turn = Waits cause; phase = phase; parts = q } ≡ puts.next_put work p → P
put_waits work p q cause phase e = true_false (ap (λ (n : puts.Next). waits n.turn) e ∙ put_goes_on work p)

get_waits : {P : Type 0} (work : GetWork) (p q : Owned) (cause : Cause) (phase : _) → record { turn = Waits cause; phase = phase; parts = q } ≡ gets.next_get work p → P
get_waits work p q cause phase e = true_false (ap (λ (n : gets.Next). waits n.turn) e ∙ get_goes_on work p)

turned : {P : Type 0} (cause : Cause) (turn : Turn) → waits turn ≡ false → Waits cause ≡ turn → P
turned cause turn goes_on e = true_false (ap waits e ∙ goes_on)

-- a COMMIT waits for the latch alone
latch_waits : (m : Member) (t : TaskNo) (taken : Taken) (p q : Owned) (cause : Cause) (phase : Ending) → LatchStep m t taken p (Waits cause) phase q → (phase ≡ ending.Latch) × (q ≡ p)
latch_waits m t Nothing p q cause phase step = turned cause nothing_ended refl step.0
latch_waits m t (Busy busy) p q cause phase step = (step.1, step.2)
latch_waits m t (Begun u count) p q cause phase step = turned cause More refl step.0

goes_on_if : (b : Bool) (u : UnitName) (count : ℕ) → waits (cond b (unit_ended u count) More) ≡ false
goes_on_if true u count = refl
goes_on_if false u count = refl

gives_up : (t : TaskNo) (unit : Option (UnitName × ℕ)) (p : Owned) → waits (after_give_up t unit p).turn ≡ false
gives_up t None p = refl
gives_up t (Some (u, count)) p = goes_on_if _ u count

commit_waits_at : (m : Member) (t : TaskNo) (at : Ending) (p q : Owned) (cause : Cause) (phase : Ending) → NextAt m t at p (Ok (Waits cause)) phase q → (phase ≡ at) × (q ≡ p)
commit_waits_at m t ending.Latch p q cause phase next = latch_waits m t (take_answer m t p) p q cause phase next
commit_waits_at m t (ending.Pages u count) p q cause phase next = turned cause More refl next.1
commit_waits_at m t (ending.Settle u count) p q cause phase next = turned cause More refl (ap (λ (n : Next). n.turn) next)
commit_waits_at m t (ending.Publish u count) p q cause phase next = turned cause (unit_ended u count) refl (ap (λ (n : Next). n.turn) next)
commit_waits_at m t ending.GiveUp p q cause phase next = turned cause _ (gives_up t (pending (task_at m t p.managers)) p) (ap (λ (n : Next). n.turn) next)
commit_waits_at m t (ending.Undo u count) p q cause phase next = turned cause _ (goes_on_if _ u count) (ap (λ (n : Next). n.turn) next)

-- a step that waits changed neither the work nor the group
pub waits_unmade : (before v : Work) (p q : Owned) (cause : Cause) → NextWork before p (Ok (Waits cause)) v q → (v ≡ before) × (q ≡ p)
waits_unmade (work.Put w) (work.Put v) p q cause next = put_waits w p q cause v.phase next.1
waits_unmade (work.Put w) (work.Get v) p q cause next = absurd next
waits_unmade (work.Put w) (work.Commit v) p q cause next = absurd next
waits_unmade (work.Get w) (work.Put v) p q cause next = absurd next
waits_unmade (work.Get w) (work.Get v) p q cause next = get_waits w p q cause v.phase next.1
waits_unmade (work.Get w) (work.Commit v) p q cause next = absurd next
waits_unmade (work.Commit w) (work.Put v) p q cause next = absurd next
waits_unmade (work.Commit w) (work.Get v) p q cause next = absurd next
waits_unmade (work.Commit w) (work.Commit v) p q cause next = (ap work.Commit same, unmade.1)
  where
    unmade : (v.phase ≡ w.phase) × (q ≡ p)
    unmade = commit_waits_at w.member w.task w.phase p q cause v.phase next.next

    same : v ≡ w
    same = λ i. record { member = next.member i; task = next.task i; phase = unmade.0 i }
